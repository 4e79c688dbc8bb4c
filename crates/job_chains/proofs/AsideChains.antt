-- What reads aside of a commit has its base, or a node over that, in its chain before the top; and nothing with a flat disk does.
use Rattle.std.proofs.Common.{◌≡◌, ◌≢◌, ℕ, zero, suc, ◌≤◌, List, [], ◌∷◌, length, refl, sym, ◌∙◌, ap, subst, inl, inr, arith, Bool, true, false, cond, Option, Some, None}
use Rattle.std.specs.Prelude.{◌==◌, ◌||◌, IsSome, unwrap_or}
use Rattle.std.specs.Option.{option_map, option_and_then}
use Rattle.std.specs.List.{Contains, list_any}
use Rattle.std.proofs.lemmas.Bool.{false≢true, eqb-true, eqb-false, ne_eqb}
use Rattle.blk_graph.specs.declared.edge.Edge.{Edge}
use Rattle.blk_graph.specs.declared.edge.Parent.TheVariants.{Node}
use Rattle.blk_graph.specs.declared.edge.Role.{Role}
use Rattle.blk_graph.specs.declared.edge.Role.TheVariants.{Backing, Filtered}
use Rattle.blk_graph.specs.declared.kind.Kind.{Kind}
use Rattle.blk_graph.specs.declared.kind.Kind.TheVariants as driver
use Rattle.blk_graph.specs.Edges.{IsListed}
use Rattle.blk_graph.specs.Paths.{IsPath}
use Rattle.blk_graph.specs.Permissions.{has_role}
use Rattle.blk_graph.proofs.Members.{find-Some}
use Rattle.blk_graph.proofs.RefreshLemmas.{no_long_path}
use Rattle.blk_history.specs.Fold.{With}
use Rattle.qmp_rules.specs.declared.rows.NodeRecord.{NodeRecord}
use Rattle.qmp_rules.specs.declared.rows.JobRecord.{JobRecord}
use Rattle.qmp_rules.specs.Chains.{filter_role, filtered, disk_from, disk_node, is_settled, backing, chain_from, chain, is_listed}
use Rattle.qmp_rules.specs.Edits.{under_top, up_to, reads_one_of}
use Rattle.qmp_rules.specs.Table.{RunTable, node_by_id, child}
use Rattle.flat_machine.specs.Suiting.{IsPlainNode}
use Rattle.flat_machine.specs.Wiring.{IsDiskOf, TableStands}
use Rattle.flat_machine.proofs.FilterPut.{two_filters}
use Rattle.flat_machine.proofs.Kept.{own_disk}
use Rattle.flat_machine.proofs.WritingKept.{RoleEdge, role_edge}
use Rattle.job_tables.proofs.RowEdges.{Contains-listed, listed-Contains}
use Rattle.job_chains.specs.Aside.{ReadsAsideBy, ReadsAside, StandsAside}
use Rattle.job_chains.proofs.AsideKept.{aside_on, aside_now, reader_there, aside_there}

-- a filter of one role has no other
no_backing : (kind : Kind) (role : Role) → filter_role kind ≡ Some role → has_role kind Backing ≡ true → ⊥
no_backing driver.Qcow2 role is has = (let bad : None ≡ Some role = is in cc bad)
no_backing driver.Raw role is has = (let bad : None ≡ Some role = is in cc bad)
no_backing driver.Protocol role is has = (let bad : None ≡ Some role = is in cc bad)
no_backing driver.CopyOnRead role is has = false≢true has
no_backing driver.BeforeWrite role is has = false≢true has
no_backing driver.Mirror role is has = false≢true has
no_backing driver.Commit role is has = false≢true has

own_not_filtered : (kind : Kind) → filter_role kind ≡ None → has_role kind Filtered ≡ true → ⊥
own_not_filtered driver.Qcow2 is has = false≢true has
own_not_filtered driver.Raw is has = false≢true has
own_not_filtered driver.Protocol is has = false≢true has
own_not_filtered driver.CopyOnRead is has = false≢true has
own_not_filtered driver.BeforeWrite is has = (let bad : Some Filtered ≡ None = is in cc bad)
own_not_filtered driver.Mirror is has = (let bad : Some Filtered ≡ None = is in cc bad)
own_not_filtered driver.Commit is has = (let bad : Some Filtered ≡ None = is in cc bad)

module _ (t : RunTable) (h : TableStands t) where
  -- the row of a node that has a child
  record HasRoleAt (n : ℕ) (role : Role) : Type 0 where
    row : NodeRecord
    there : Contains t.nodes row
    found : node_by_id t n ≡ Some row
    id : row.id ≡ n
    has : has_role row.kind role ≡ true

  role_at : (n m : ℕ) (role : Role) → child t n role ≡ Some m → HasRoleAt n role
  role_at n m role is =
      let e = role_edge (Node n) role t.edges m is in
      by_found e (node_by_id t n) refl ((h.edges e.edge e.there).parent n e.from)
    where
      by_found : (e : RoleEdge t.edges (Node n) role m) (o : Option NodeRecord) → node_by_id t n ≡ o → IsSome o → HasRoleAt n role
      by_found e None is some = absurd cc
      by_found e (Some row) is some =
          let at = find-Some (λ (r : NodeRecord). r.id == n) t.nodes row is in
          let id : row.id ≡ n = eqb-true row.id n at.1 in
          record {
            row = row;
            there = at.0;
            found = is;
            id = id;
            has = subst (λ (r : Role). has_role row.kind r ≡ true) e.role_is (h.roles e.edge row e.there at.0 (e.from ∙ ap Node (sym id)));
          }

  -- what a filter is over
  record IsFilterOver (n below : ℕ) : Type 0 where
    row : NodeRecord
    found : node_by_id t n ≡ Some row
    role : Role
    filters : filter_role row.kind ≡ Some role
    over : child t n role ≡ Some below

  filter_over : (n below : ℕ) → filtered t n ≡ Some below → IsFilterOver n below
  filter_over n below is = by_row (node_by_id t n) refl is
    where
      by_role : (row : NodeRecord) → node_by_id t n ≡ Some row → (o : Option Role) → filter_role row.kind ≡ o → option_and_then (child t n) o ≡ Some below → IsFilterOver n below
      by_role row found None own at = absurd (let bad : None ≡ Some below = at in cc bad)
      by_role row found (Some role) own at = record { row = row; found = found; role = role; filters = own; over = at }

      by_row : (o : Option NodeRecord) → node_by_id t n ≡ o → option_and_then (child t n) (option_and_then (λ (r : NodeRecord). filter_role r.kind) o) ≡ Some below → IsFilterOver n below
      by_row None found at = absurd (let bad : None ≡ Some below = at in cc bad)
      by_row (Some row) found at = by_role row found (filter_role row.kind) refl at

  plain_bare : (n : ℕ) → IsPlainNode t n → filtered t n ≡ None
  plain_bare n p = rw p.there (ap (option_and_then (child t n)) p.own)

  not_filter : (n below : ℕ) → IsPlainNode t n → filtered t n ≡ Some below → ⊥
  not_filter n below p is = (let bad : None ≡ Some below = sym (plain_bare n p) ∙ is in cc bad)

  -- a node that reads as another one is no filter
  disk_own : (n : ℕ) → IsSome (node_by_id t n) → (disk : NodeRecord) × (node_by_id t (disk_node t n) ≡ Some disk) × (filter_role disk.kind ≡ None)
  disk_own n some = by_row (node_by_id t n) refl some
    where
      by_disk : (row : NodeRecord) (o : Option NodeRecord) → node_by_id t (disk_node t n) ≡ o → With o (IsDiskOf t row)
          → (disk : NodeRecord) × (node_by_id t (disk_node t n) ≡ Some disk) × (filter_role disk.kind ≡ None)
      by_disk row None found never = absurd never
      by_disk row (Some disk) found is = (disk, found, is.own)

      by_row : (o : Option NodeRecord) → node_by_id t n ≡ o → IsSome o → (disk : NodeRecord) × (node_by_id t (disk_node t n) ≡ Some disk) × (filter_role disk.kind ≡ None)
      by_row None found none = absurd cc
      by_row (Some row) found is = by_disk row (node_by_id t (disk_node t n)) refl (h.reads n row found)

  module _ (row : JobRecord) (top_plain : IsPlainNode t row.source) (under_plain : (n : ℕ) → Contains (under_top row) n → IsPlainNode t n) where
    abbrev top : ℕ
    top = row.source

    abbrev is_under : ℕ → Bool
    is_under id = is_listed id (under_top row)

    pub under_there : (n : ℕ) → Contains (under_top row) n → IsSome (node_by_id t n)
    under_there n at = subst IsSome (sym (under_plain n at).there) refl

    -- ---- through filters

    record ReadsShort (n k : ℕ) : Type 0 where
      path : List ℕ
      short : length path ≤ k
      by : ReadsAsideBy t row n path

    through_one : (n below : ℕ) (path : List ℕ) → ReadsAsideBy t row n path → filtered t n ≡ Some below → ReadsShort below (length path)
    through_one n below [] is over = absurd (not_filter n below (under_plain n is.1) over)
    through_one n below (m ∷ path) is over = elim is.1 [
      | inl back ↦
          let r = role_at n m Backing back in
          absurd (no_backing r.row.kind f.role (filters r.row r.found) r.has)
      | inr down ↦
          let r = role_at n m Filtered down in
          elim (two_filters f.row.kind f.role f.filters) [
            | inl copies ↦ absurd (false≢true (ap (λ k. has_role k Filtered) (sym copies) ∙ ap (λ (x : NodeRecord). has_role x.kind Filtered) (one f.row r.row f.found r.found) ∙ r.has))
            | inr role ↦
                let both : Some m ≡ Some below = sym down ∙ subst (λ (x : Role). child t n x ≡ Some below) role f.over in
                let same : m ≡ below = cc both in
                record { path = path; short = more (length path); by = subst (λ k. ReadsAsideBy t row k path) same is.2 }
          ]
    ]
      where
        f : IsFilterOver n below
        f = filter_over n below over

        one : (a b : NodeRecord) → node_by_id t n ≡ Some a → node_by_id t n ≡ Some b → a ≡ b
        one a b x y = (let both : Some a ≡ Some b = sym x ∙ y in cc both)

        filters : (r : NodeRecord) → node_by_id t n ≡ Some r → filter_role r.kind ≡ Some f.role
        filters r found = ap (λ (x : NodeRecord). filter_role x.kind) (one r f.row found f.found) ∙ f.filters

        more : (k : ℕ) → k ≤ suc k
        more k = omega arith

    at_most : (a b c : ℕ) → a ≤ b → b ≤ c → a ≤ c
    at_most a b c h k = omega (arith, h, k)

    itself : (k : ℕ) → k ≤ k
    itself k = omega arith

    through_all : (k n : ℕ) (path : List ℕ) → ReadsAsideBy t row n path → ReadsShort (disk_from k t n) (length path)
    through_all zero n path is = record { path = path; short = itself (length path); by = is }
    through_all (suc k) n path is = by_filtered (filtered t n) refl (through_all k)
      where
        by_filtered : (o : Option ℕ) → filtered t n ≡ o → ((m : ℕ) (p : List ℕ) → ReadsAsideBy t row m p → ReadsShort (disk_from k t m) (length p))
            → ReadsShort (elim o as (λ _. ℕ) [ None ↦ n | Some below ↦ disk_from k t below ]) (length path)
        by_filtered None none more = record { path = path; short = itself (length path); by = is }
        by_filtered (Some below) over more =
            let one = through_one n below path is over in
            let rest = more below one.path one.by in
            record { path = rest.path; short = at_most (length rest.path) (length one.path) (length path) rest.short one.short; by = rest.by }

    to_disk : (n : ℕ) (path : List ℕ) → ReadsAsideBy t row n path → ReadsShort (disk_node t n) (length path)
    unfolding disk_node
    to_disk n path is = through_all 64 n path is

    -- ---- what has a flat disk reads nothing aside

    pub settled_clear : StandsAside t row → (node : ℕ) → is_settled t node ≡ true → ReadsAside t row node → ⊥
    settled_clear stands node settled aside =
        let disk = disk_own node (aside_there t h.edges row under_there node aside) in
        let at = find-Some (λ (r : NodeRecord). r.id == disk_node t node) t.nodes disk.0 disk.1 in
        let down = to_disk node aside.0 aside.1 in
        let flat : disk.0.is_settled ≡ true =
        ap (λ (o : Option NodeRecord). unwrap_or (option_map (λ (x : NodeRecord). x.is_settled) o) false) (sym disk.1) ∙ settled in
        let id : disk.0.id ≡ disk_node t node = eqb-true disk.0.id (disk_node t node) at.1 in
        false≢true (sym (stands disk.0 at.0 disk.2 (subst (ReadsAside t row) (sym id) (down.path, down.by))) ∙ flat)

    -- ---- by chains

    -- the first of a chain
    head_there : (k n : ℕ) → n ≢ top → Contains (under_top row) n → list_any is_under (up_to top (chain_from k t n)) ≡ true
    head_there k n other under = by_fuel k
      where
        in_front : (rest : List ℕ) → list_any is_under (up_to top (n ∷ rest)) ≡ true
        in_front rest = rw (ne_eqb n top other, Contains-listed n (under_top row) under) refl

        by_fuel : (k : ℕ) → list_any is_under (up_to top (chain_from k t n)) ≡ true
        by_fuel zero = in_front []
        by_fuel (suc k) = in_front (elim (backing t n) as (λ _. List ℕ) [ None ↦ [] | Some below ↦ chain_from k t below ])

    or_there : (a b : Bool) → b ≡ true → (a || b) ≡ true
    or_there true b h = refl
    or_there false b h = h

    less : (a k : ℕ) → suc a ≤ suc k → a ≤ k
    less a k h = omega (arith, h)

    no_less : (a : ℕ) → suc a ≤ 0 → ⊥
    no_less a h = omega (arith, h)

    in_chain : (k n : ℕ) (r : NodeRecord) → node_by_id t n ≡ Some r → filter_role r.kind ≡ None → (path : List ℕ) → length path ≤ k → ReadsAsideBy t row n path
        → list_any is_under (up_to top (chain_from k t n)) ≡ true
    in_chain k n r found own [] short is = head_there k n is.0 is.1
    in_chain zero n r found own (m ∷ path) short is = absurd (no_less (length path) short)
    in_chain (suc k) n r found own (m ∷ path) short is = elim is.1 [
      | inr down ↦
          let x = role_at n m Filtered down in
          let both : Some r ≡ Some x.row = sym found ∙ x.found in
          let same : r ≡ x.row = cc both in
          absurd (own_not_filtered x.row.kind (ap (λ (y : NodeRecord). filter_role y.kind) (sym same) ∙ own) x.has)
      | inl back ↦
          let down = to_disk m path is.2 in
          let disk = disk_own m (reader_there t h.edges n m is.1).1 in
          by_child back (in_chain k (disk_node t m) disk.0 disk.1 disk.2 down.path (at_most (length down.path) (length path) k down.short (less (length path) k short)) down.by)
    ]
      where
        by_child : child t n Backing ≡ Some m → list_any is_under (up_to top (chain_from k t (disk_node t m))) ≡ true
            → list_any is_under (up_to top (n ∷ (elim (backing t n) as (λ _. List ℕ) [ None ↦ [] | Some below ↦ chain_from k t below ]))) ≡ true
        by_child back more =
            ap (λ b. list_any is_under (cond b [] (n ∷ up_to top (elim (backing t n) as (λ _. List ℕ) [ None ↦ [] | Some below ↦ chain_from k t below ])))) (ne_eqb n top is.0)
            ∙ or_there (is_under n) (list_any is_under (up_to top (elim (backing t n) as (λ _. List ℕ) [ None ↦ [] | Some below ↦ chain_from k t below ])))
            (ap (λ (o : Option ℕ). list_any is_under (up_to top (elim (option_map (disk_node t) o) as (λ _. List ℕ) [ None ↦ [] | Some below ↦ chain_from k t below ]))) back ∙ more)

    -- no way is longer
    record HasWay (n k : ℕ) : Type 0 where
      to : ℕ
      edges : List Edge
      way : IsPath t.edges n edges to
      as_long : length edges ≡ k

    way_of : (n : ℕ) (path : List ℕ) → ReadsAsideBy t row n path → HasWay n (length path)
    way_of n [] is = record { to = n; edges = []; way = refl; as_long = refl }
    way_of n (m ∷ path) is = elim is.1 [ inl back ↦ by_role Backing back (way_of m path is.2) | inr down ↦ by_role Filtered down (way_of m path is.2) ]
      where
        one_more : (a b : ℕ) → a ≡ b → suc a ≡ suc b
        one_more a b h = ap (λ k. suc k) h

        by_role : (role : Role) → child t n role ≡ Some m → HasWay m (length path) → HasWay n (length (m ∷ path))
        by_role role at more =
            let e = role_edge (Node n) role t.edges m at in
            record {
              to = more.to;
              edges = e.edge ∷ more.edges;
              way = (e.there, e.from, subst (λ k. IsPath t.edges k more.edges more.to) (sym e.to) more.way);
              as_long = one_more (length more.edges) (length path) more.as_long;
            }

    short_way : IsListed t.edges → (n : ℕ) (path : List ℕ) → ReadsAsideBy t row n path → length path ≤ 64
    short_way listed n path is =
        let w = way_of n path is in
        few (length w.edges) (length path) w.as_long (no_long_path t.edges n w.to w.edges listed h.acyclic w.way)
      where
        few : (a b : ℕ) → a ≡ b → a ≤ 63 → b ≤ 64
        few a b same h = omega (arith, same, h)

    pub aside_chains : IsListed t.edges → (node : NodeRecord) → Contains t.nodes node → filter_role node.kind ≡ None → ReadsAside t row node.id
        → reads_one_of t top (under_top row) node ≡ true
    unfolding chain
    aside_chains listed node there own aside =
        ap (λ n. list_any is_under (up_to top (chain t n))) (own_disk t node.id node (h.apart node there) own)
        ∙ in_chain 64 node.id node (h.apart node there) own aside.0 (short_way listed node.id aside.0 aside.1) aside.1

    -- ---- and back

    abbrev IsUnder : ℕ → Type 0
    IsUnder m = (over : ℕ) × (role : Role) × RoleEdge t.edges (Node over) role m

    up_filters : (k m : ℕ) → IsUnder m → ReadsAside t row (disk_from k t m) → ReadsAside t row m
    up_filters zero m under aside = aside
    up_filters (suc k) m under aside = by_filtered (filtered t m) refl (up_filters k) aside
      where
        over_next : (below : ℕ) → filtered t m ≡ Some below → (m ≢ top) × (child t m Filtered ≡ Some below)
        over_next below is =
            let f = filter_over m below is in (
              λ same. not_filter top below top_plain (subst (λ n. filtered t n ≡ Some below) same is),
              elim (two_filters f.row.kind f.role f.filters) [
                | inl copies ↦
                    let at = find-Some (λ (x : NodeRecord). x.id == m) t.nodes f.row f.found in
                    absurd (h.on_top under.2.edge f.row under.0 under.2.there at.0 under.2.from (under.2.to ∙ sym (eqb-true f.row.id m at.1)) copies)
                | inr role ↦ subst (λ (x : Role). child t m x ≡ Some below) role f.over
              ],
            )

        by_filtered : (o : Option ℕ) → filtered t m ≡ o → ((below : ℕ) → IsUnder below → ReadsAside t row (disk_from k t below) → ReadsAside t row below)
            → ReadsAside t row (elim o as (λ _. ℕ) [ None ↦ m | Some below ↦ disk_from k t below ]) → ReadsAside t row m
        by_filtered None none more reads = reads
        by_filtered (Some below) is more reads =
            let next = over_next below is in
            aside_on t row m below next.0 (inr next.1) (more below (m, Filtered, role_edge (Node m) Filtered t.edges below next.1) reads)

    up_disk : (n m : ℕ) → child t n Backing ≡ Some m → ReadsAside t row (disk_node t m) → ReadsAside t row m
    unfolding disk_node
    up_disk n m is reads = up_filters 64 m (n, Backing, role_edge (Node n) Backing t.edges m is) reads

    head_reads : (n : ℕ) (rest : List ℕ) → list_any is_under (up_to top (n ∷ rest)) ≡ true → (n ≢ top → list_any is_under (up_to top rest) ≡ true → ReadsAside t row n) → ReadsAside t row n
    head_reads n rest any more = by_test (n == top) refl any
      where
        by_under : (c : Bool) → is_under n ≡ c → n ≢ top → (c || list_any is_under (up_to top rest)) ≡ true → ReadsAside t row n
        by_under true is other any = aside_now t row n other (listed-Contains n (under_top row) is)
        by_under false is other any = more other any

        by_test : (c : Bool) → (n == top) ≡ c → list_any is_under (cond c [] (n ∷ up_to top rest)) ≡ true → ReadsAside t row n
        by_test true same any = absurd (false≢true any)
        by_test false other any = by_under (is_under n) refl (eqb-false n top other) any

    from_chain : (k n : ℕ) → list_any is_under (up_to top (chain_from k t n)) ≡ true → ReadsAside t row n
    from_chain zero n any = head_reads n [] any (λ other none. absurd (false≢true none))
    from_chain (suc k) n any =
        head_reads n (elim (backing t n) as (λ _. List ℕ) [ None ↦ [] | Some below ↦ chain_from k t below ]) any
        (λ other rest. by_child other (child t n Backing) refl (from_chain k) rest)
      where
        by_child : n ≢ top → (o : Option ℕ) → child t n Backing ≡ o → ((m : ℕ) → list_any is_under (up_to top (chain_from k t m)) ≡ true → ReadsAside t row m)
            → list_any is_under (up_to top (elim (option_map (disk_node t) o) as (λ _. List ℕ) [ None ↦ [] | Some below ↦ chain_from k t below ])) ≡ true → ReadsAside t row n
        by_child other None none more rest = absurd (false≢true rest)
        by_child other (Some m) is more rest = aside_on t row n m other (inl is) (up_disk n m is (more (disk_node t m) rest))

    pub chains_aside : (node : NodeRecord) → Contains t.nodes node → filter_role node.kind ≡ None → reads_one_of t top (under_top row) node ≡ true → ReadsAside t row node.id
    unfolding chain
    chains_aside node there own reads =
        from_chain 64 node.id (ap (λ n. list_any is_under (up_to top (chain t n))) (sym (own_disk t node.id node (h.apart node there) own)) ∙ reads)
