-- Where no job holds the backing nodes below a node for itself, no filter stands between them.
use Rattle.std.proofs.Common.{◌≡◌, ◌⊎◌, ℕ, zero, suc, List, [], ◌∷◌, ◌++◌, refl, sym, ◌∙◌, ap, subst, inl, inr, Bool, true, false, cond, Option, Some, None, option_map}
use Rattle.std.specs.Prelude.{◌==◌, drop, IsSome}
use Rattle.std.specs.Option.{option_and_then}
use Rattle.std.specs.List.{Contains}
use Rattle.std.proofs.lemmas.Bool.{false≢true, eqb-true, eq-eqb}
use Rattle.blk_graph.specs.declared.edge.Parent.TheVariants.{Node}
use Rattle.blk_graph.specs.declared.edge.Role.{Role}
use Rattle.blk_graph.specs.declared.edge.Role.TheVariants.{File, Backing, Filtered}
use Rattle.blk_graph.specs.declared.kind.Kind.{Kind}
use Rattle.blk_graph.specs.declared.kind.Kind.TheVariants as driver
use Rattle.blk_graph.specs.Paths.{Reaches}
use Rattle.blk_graph.proofs.Members.{Contains-nil, Contains-here, Contains-there, Contains-cases, find-Some}
use Rattle.blk_graph.proofs.PathLemmas.{Reaches-edge, Reaches-joined}
use Rattle.qmp_rules.specs.declared.rows.NodeRecord.{NodeRecord}
use Rattle.qmp_rules.specs.declared.rows.JobRecord.{JobRecord}
use Rattle.qmp_rules.specs.Chains.{filter_role, filtered, disk_node, backing, chain_from, chain, chain_below, down_to}
use Rattle.qmp_rules.specs.Table.{RunTable, node_by_id, child}
use Rattle.flat_machine.specs.Suiting.{IsPlainNode}
use Rattle.flat_machine.specs.Wiring.{IsDiskOf, TableStands}
use Rattle.flat_machine.proofs.Kept.{own_disk}
use Rattle.flat_machine.proofs.Rows.{from-child, disk_node-there}
use Rattle.flat_machine.proofs.Wired.{at_with}
use Rattle.flat_machine.proofs.WritingKept.{RoleEdge, role_edge}
use Rattle.job_edges.specs.Held.{is_job_filter}
use Rattle.job_tables.specs.Rows.{AreLinked}
use Rattle.job_tables.specs.Jobs.{JobsStand}
use Rattle.job_tables.proofs.Changes.{filter_of}
use Rattle.job_tables.proofs.Nobodys.{job_filtered}
use Rattle.job_tables.proofs.RowEdges.{in_left, holds_source}

-- no job holds it for itself
abbrev pub IsUnkept : RunTable → ℕ → Type 0
IsUnkept t node = (job : JobRecord) → Contains t.jobs job → Contains job.held node → ⊥

-- what a filter is over reads for it
through-filter : (t : RunTable) (id below : ℕ) → filtered t id ≡ Some below → filtered t below ≡ None → disk_node t id ≡ below
unfolding disk_node
through-filter t id below over own = from-child 63 t id (Some below) over ∙ from-child 62 t below None own

module _ (t : RunTable) (h : TableStands t) where
  filter_edge_to : (n below : ℕ) → filtered t n ≡ Some below → Reaches t.edges n below
  filter_edge_to n below is = by_role (option_and_then (λ row. filter_role row.kind) (node_by_id t n)) is
    where
      by_role : (role : Option Role) → option_and_then (child t n) role ≡ Some below → Reaches t.edges n below
      by_role None e = absurd (let bad : None ≡ Some below = e in cc bad)
      by_role (Some role) e =
          let x = role_edge (Node n) role t.edges below e in
          subst (Reaches t.edges n) x.to (Reaches-edge t.edges n x.edge x.there x.from)

  disk_reaches : (node : ℕ) → (disk_node t node ≡ node) ⊎ Reaches t.edges node (disk_node t node)
  disk_reaches node =
      disk_node-there t t (λ n. (n ≡ node) ⊎ Reaches t.edges node n) (λ n here. refl)
      (λ n below here is. inr (elim here [
        | inl same ↦ subst (λ k. Reaches t.edges k below) same (filter_edge_to n below is)
        | inr way ↦ Reaches-joined t.edges node n below way (filter_edge_to n below is)
      ])) node (inl refl)

  backing_reaches : (n below : ℕ) → backing t n ≡ Some below → Reaches t.edges n below
  backing_reaches n below is = by_child (child t n Backing) refl is
    where
      by_child : (c : Option ℕ) → child t n Backing ≡ c → option_map (disk_node t) c ≡ Some below → Reaches t.edges n below
      by_child None e k = absurd (let bad : None ≡ Some below = k in cc bad)
      by_child (Some c) e k =
          let same : disk_node t c ≡ below = cc k in
          let x = role_edge (Node n) Backing t.edges c e in
          let first : Reaches t.edges n c = subst (Reaches t.edges n) x.to (Reaches-edge t.edges n x.edge x.there x.from) in
          elim (disk_reaches c) [
            | inl own ↦ subst (Reaches t.edges n) (sym own ∙ same) first
            | inr way ↦ Reaches-joined t.edges n c below first (subst (Reaches t.edges c) same way)
          ]

  -- all of the chain below a node is reached from it
  chain_reaches : (more id n : ℕ) → Contains (drop 1 (chain_from more t id)) n → Reaches t.edges id n
  chain_reaches zero id n there = absurd (Contains-nil n there)
  chain_reaches (suc more) id n there = by_below (backing t id) refl there (chain_reaches more)
    where
      by_below : (below : Option ℕ) → backing t id ≡ below → Contains (elim below as (λ _. List ℕ) [ None ↦ [] | Some b ↦ chain_from more t b ]) n
          → ((b m : ℕ) → Contains (drop 1 (chain_from more t b)) m → Reaches t.edges b m) → Reaches t.edges id n
      by_below None e at ih = absurd (Contains-nil n at)
      by_below (Some b) e at ih = elim (Contains-cases b (drop 1 (chain_from more t b)) n (subst (λ ids. Contains ids n) (head more b) at)) [
        | inl same ↦ subst (Reaches t.edges id) (sym same) (backing_reaches id b e)
        | inr more_at ↦ Reaches-joined t.edges id b n (backing_reaches id b e) (ih b n more_at)
      ]
        where
          head : (more b : ℕ) → chain_from more t b ≡ b ∷ drop 1 (chain_from more t b)
          head zero b = refl
          head (suc more) b = refl

  pub below_reaches : (id n : ℕ) → Contains (chain_below t id) n → Reaches t.edges id n
  unfolding chain
  below_reaches id n there = chain_reaches 64 id n there

  module _ (j : JobsStand t) where
    -- the child of a backing edge is no filter where what it reads as is unkept
    pub child_is : (n c below : ℕ) → child t n Backing ≡ Some c → disk_node t c ≡ below → IsUnkept t below → c ≡ below
    child_is n c below is reads free = by_row (node_by_id t c) refl (subst (λ k. IsSome (node_by_id t k)) x.to (h.edges x.edge x.there).child)
      where
        x : RoleEdge t.edges (Node n) Backing c
        x = role_edge (Node n) Backing t.edges c is

        by_filter : (row : NodeRecord) → node_by_id t c ≡ Some row → is_job_filter row.kind ≡ true → ⊥
        by_filter row found filter =
            let at = find-Some (λ (r : NodeRecord). r.id == c) t.nodes row found in
            let id : row.id ≡ c = eqb-true row.id c at.1 in
            let r = j.filters row at.0 filter in
            let f = filter_of t r.row r.row.kind (j.each r.row r.there).shape row.id r.filter in
            let source = (j.each r.row r.there).plain r.row.source (in_left r.row.held r.row.read r.row.source (holds_source t r.row (j.each r.row r.there))) in
            let over : filtered t c ≡ Some r.row.source =
            ap (λ o. option_and_then (child t c) (option_and_then (λ (y : NodeRecord). filter_role y.kind) o)) found
            ∙ ap (option_and_then (child t c)) (job_filtered row.kind filter) ∙ ap (λ k. child t k Filtered) (sym (f.3 ∙ id)) ∙ f.2.over in
            let own : filtered t r.row.source ≡ None =
            ap (λ o. option_and_then (child t r.row.source) (option_and_then (λ (y : NodeRecord). filter_role y.kind) o)) source.there
            ∙ ap (option_and_then (child t r.row.source)) source.own in
            let same : r.row.source ≡ below = sym (through-filter t c r.row.source over own) ∙ reads in
            free r.row r.there (subst (Contains r.row.held) same (holds_source t r.row (j.each r.row r.there)))

        by_kind : (row : NodeRecord) → node_by_id t c ≡ Some row → (k : Kind) → row.kind ≡ k → c ≡ below
        by_kind row found driver.Protocol e = sym (own_disk t c row found (ap filter_role e)) ∙ reads
        by_kind row found driver.Raw e = sym (own_disk t c row found (ap filter_role e)) ∙ reads
        by_kind row found driver.Qcow2 e = sym (own_disk t c row found (ap filter_role e)) ∙ reads
        by_kind row found driver.CopyOnRead e =
            let at = find-Some (λ (r : NodeRecord). r.id == c) t.nodes row found in
            absurd (h.on_top x.edge row n x.there at.0 x.from (x.to ∙ sym (eqb-true row.id c at.1)) e)
        by_kind row found driver.BeforeWrite e = absurd (by_filter row found (ap is_job_filter e))
        by_kind row found driver.Mirror e = absurd (by_filter row found (ap is_job_filter e))
        by_kind row found driver.Commit e = absurd (by_filter row found (ap is_job_filter e))

        by_row : (found : Option NodeRecord) → node_by_id t c ≡ found → IsSome found → c ≡ below
        by_row None e some = absurd (let bad = some in cc)
        by_row (Some row) e some = by_kind row e row.kind refl

    pub link : (n below : ℕ) → backing t n ≡ Some below → IsUnkept t below → child t n Backing ≡ Some below
    link n below is free = by_child (child t n Backing) refl is
      where
        by_child : (c : Option ℕ) → child t n Backing ≡ c → option_map (disk_node t) c ≡ Some below → c ≡ Some below
        by_child None e k = absurd (let bad : None ≡ Some below = k in cc bad)
        by_child (Some c) e k = let same : disk_node t c ≡ below = cc k in ap Some (child_is n c below e same free)

    -- such a node is plain
    pub linked_plain : (n below : ℕ) → child t n Backing ≡ Some below → disk_node t below ≡ below → IsPlainNode t below
    linked_plain n below is own = by_row (node_by_id t below) refl (subst (λ k. IsSome (node_by_id t k)) x.to (h.edges x.edge x.there).child)
      where
        x : RoleEdge t.edges (Node n) Backing below
        x = role_edge (Node n) Backing t.edges below is

        by_row : (found : Option NodeRecord) → node_by_id t below ≡ found → IsSome found → IsPlainNode t below
        by_row None e some = absurd (let bad = some in cc)
        by_row (Some row) e some =
            let at = find-Some (λ (r : NodeRecord). r.id == below) t.nodes row e in
            record {
              row = row;
              there = e;
              own = (at_with (IsDiskOf t row) (node_by_id t (disk_node t below)) row (ap (node_by_id t) own ∙ e) (h.reads below row e)).own;
              free = λ file over found some leads format.
                  let both : Some row ≡ Some file = sym e ∙ found in
                  let same : row ≡ file = cc both in
                  let sole = (h.taken over file leads some format).sole x.edge x.there (x.to ∙ sym (eqb-true row.id below at.1) ∙ ap (λ (r : NodeRecord). r.id) same) in
                  let bad : Backing ≡ File = sym x.role_is ∙ sole.1 in
                  cc bad;
            }

    -- ---- the chain down to a base

    pub record LinkedTo (id base : ℕ) (rest : List ℕ) : Type 0 where
      pub between : List ℕ
      pub is : down_to (Some base) rest ≡ between ++ base ∷ []
      pub linked : AreLinked t id (between ++ base ∷ [])

    abbrev below_by : ℕ → Option ℕ → List ℕ
    below_by more below = elim below as (λ _. List ℕ) [ None ↦ [] | Some b ↦ chain_from more t b ]

    head_of : (more b : ℕ) → chain_from more t b ≡ b ∷ drop 1 (chain_from more t b)
    head_of zero b = refl
    head_of (suc more) b = refl

    linked_to : (more id base : ℕ) → Contains (drop 1 (chain_from more t id)) base
        → ((n : ℕ) → Contains (down_to (Some base) (drop 1 (chain_from more t id))) n → IsUnkept t n) → LinkedTo id base (drop 1 (chain_from more t id))
    linked_to zero id base there free = absurd (Contains-nil base there)
    linked_to (suc more) id base there free = by_below (backing t id) refl there free (linked_to more)
      where
        by_below : (below : Option ℕ) → backing t id ≡ below → Contains (below_by more below) base
            → ((n : ℕ) → Contains (down_to (Some base) (below_by more below)) n → IsUnkept t n)
            → ((b base : ℕ) → Contains (drop 1 (chain_from more t b)) base
            → ((n : ℕ) → Contains (down_to (Some base) (drop 1 (chain_from more t b))) n → IsUnkept t n) → LinkedTo b base (drop 1 (chain_from more t b)))
            → LinkedTo id base (below_by more below)
        by_below None e at unkept ih = absurd (Contains-nil base at)
        by_below (Some b) e at unkept ih =
            subst (LinkedTo id base) (sym (head_of more b))
            (by_test (drop 1 (chain_from more t b)) (b == base) refl (subst (λ ids. Contains ids base) (head_of more b) at)
            (subst (λ ids. (n : ℕ) → Contains (down_to (Some base) ids) n → IsUnkept t n) (head_of more b) unkept) (ih b base))
          where
            by_test : (rest : List ℕ) (c : Bool) → (b == base) ≡ c → Contains (b ∷ rest) base
                → ((n : ℕ) → Contains (cond c (b ∷ []) (b ∷ down_to (Some base) rest)) n → IsUnkept t n)
                → (Contains rest base → ((n : ℕ) → Contains (down_to (Some base) rest) n → IsUnkept t n) → LinkedTo b base rest) → LinkedTo id base (b ∷ rest)
            by_test rest true test there unkept ih =
                let same : b ≡ base = eqb-true b base test in
                record {
                  between = [];
                  is = ap (λ c. cond c (b ∷ []) (b ∷ down_to (Some base) rest)) test ∙ ap (λ n. n ∷ []) same;
                  linked = (subst (λ n. child t id Backing ≡ Some n) same (link id b e (unkept b (Contains-here b []))), tt);
                }
            by_test rest false test there unkept ih =
                let more_at : Contains rest base = elim (Contains-cases b rest base there) [
                  | inl same ↦ absurd (false≢true (sym test ∙ eq-eqb b base (sym same)))
                  | inr at ↦ at
                ] in
                let r = ih more_at (λ n in_rest. unkept n (Contains-there b (down_to (Some base) rest) n in_rest)) in
                record {
                  between = b ∷ r.between;
                  is = ap (λ c. cond c (b ∷ []) (b ∷ down_to (Some base) rest)) test ∙ ap (λ ids. b ∷ ids) r.is;
                  linked = (link id b e (unkept b (Contains-here b (down_to (Some base) rest))), r.linked);
                }

    pub chain_linked : (id base : ℕ) → Contains (chain_below t id) base → ((n : ℕ) → Contains (down_to (Some base) (chain_below t id)) n → IsUnkept t n)
        → LinkedTo id base (chain_below t id)
    unfolding chain
    chain_linked id base there free = linked_to 64 id base there free

    -- ---- nodes of the chain are plain

    disk_twice : (n below : ℕ) → backing t n ≡ Some below → child t n Backing ≡ Some below → disk_node t below ≡ below
    disk_twice n below is linked =
        let both : Some (disk_node t below) ≡ Some below = sym (ap (option_map (disk_node t)) linked) ∙ is in cc both

    plain_chain : (more id : ℕ) (base : Option ℕ) → ((n : ℕ) → Contains (down_to base (drop 1 (chain_from more t id))) n → IsUnkept t n) → (n : ℕ)
        → Contains (down_to base (drop 1 (chain_from more t id))) n → IsPlainNode t n
    plain_chain zero id base free n there = absurd (none base there)
      where
        none : (base : Option ℕ) → Contains (down_to base []) n → ⊥
        none None at = Contains-nil n at
        none (Some base) at = Contains-nil n at
    plain_chain (suc more) id base free n there = by_below (backing t id) refl free there (plain_chain more)
      where
        Plain : Option ℕ → List ℕ → Type 0
        Plain base rest = ((m : ℕ) → Contains (down_to base rest) m → IsUnkept t m) → (m : ℕ) → Contains (down_to base rest) m → IsPlainNode t m

        by_below : (below : Option ℕ) → backing t id ≡ below → ((m : ℕ) → Contains (down_to base (below_by more below)) m → IsUnkept t m)
            → Contains (down_to base (below_by more below)) n
            → ((b : ℕ) (base : Option ℕ) → Plain base (drop 1 (chain_from more t b))) → IsPlainNode t n
        by_below None e unkept at ih = absurd (none base at)
          where
            none : (base : Option ℕ) → Contains (down_to base []) n → ⊥
            none None at = Contains-nil n at
            none (Some base) at = Contains-nil n at
        by_below (Some b) e unkept at ih =
            by_base base (drop 1 (chain_from more t b))
            (subst (λ ids. (m : ℕ) → Contains (down_to base ids) m → IsUnkept t m) (head_of more b) unkept)
            (subst (λ ids. Contains (down_to base ids) n) (head_of more b) at) (ih b base)
          where
            first : IsUnkept t b → n ≡ b → IsPlainNode t n
            first free same =
                let linked : child t id Backing ≡ Some b = link id b e free in
                subst (IsPlainNode t) (sym same) (linked_plain id b linked (disk_twice id b e linked))

            by_test : (base : ℕ) (rest : List ℕ) (c : Bool) → ((m : ℕ) → Contains (cond c (b ∷ []) (b ∷ down_to (Some base) rest)) m → IsUnkept t m)
                → Contains (cond c (b ∷ []) (b ∷ down_to (Some base) rest)) n → Plain (Some base) rest → IsPlainNode t n
            by_test base rest true unkept at ih = elim (Contains-cases b [] n at) [
              | inl same ↦ first (unkept b (Contains-here b [])) same
              | inr none ↦ absurd (Contains-nil n none)
            ]
            by_test base rest false unkept at ih = elim (Contains-cases b (down_to (Some base) rest) n at) [
              | inl same ↦ first (unkept b (Contains-here b (down_to (Some base) rest))) same
              | inr more_at ↦ ih (λ m in_rest. unkept m (Contains-there b (down_to (Some base) rest) m in_rest)) n more_at
            ]

            by_base : (base : Option ℕ) (rest : List ℕ) → ((m : ℕ) → Contains (down_to base (b ∷ rest)) m → IsUnkept t m) → Contains (down_to base (b ∷ rest)) n
                → Plain base rest → IsPlainNode t n
            by_base None rest unkept at ih = elim (Contains-cases b (down_to None rest) n at) [
              | inl same ↦ first (unkept b (Contains-here b (down_to None rest))) same
              | inr more_at ↦ ih (λ m in_rest. unkept m (Contains-there b (down_to None rest) m in_rest)) n more_at
            ]
            by_base (Some base) rest unkept at ih = by_test base rest (b == base) unkept at ih

    pub chain_plain : (id : ℕ) (base : Option ℕ) → ((n : ℕ) → Contains (down_to base (chain_below t id)) n → IsUnkept t n) → (n : ℕ)
        → Contains (down_to base (chain_below t id)) n → IsPlainNode t n
    unfolding chain
    chain_plain id base free n there = plain_chain 64 id base free n there
