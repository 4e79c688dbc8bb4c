-- Where paths of edges lead: a node to which one leads is read through filters, or as a backing node.
use Rattle.std.proofs.Common.{◌≡◌, ◌⊎◌, ℕ, zero, suc, ◌≤◌, ◌==◌, ◌||◌, Bool, true, false, cond, eq-eqb, List, [], ◌∷◌, length, drop, Option, Some, None, refl, sym, ◌∙◌, ap, subst, inl, inr, arith}
use Rattle.std.specs.Prelude.{IsSome, AllPairs, Contains, find, option_map, option_and_then}
use Rattle.std.proofs.lemmas.Bool.{false≢true, eqb-true}
use Rattle.blk_graph.specs.Edges.{DifferInPlace, same_parent, same_role}
use Rattle.blk_graph.specs.Edits.{is_edge, child_of}
use Rattle.blk_graph.specs.Graph.{PathsAreShort}
use Rattle.blk_graph.specs.Paths.{IsPath, IsAcyclic}
use Rattle.blk_graph.specs.Permissions.{has_role}
use Rattle.blk_graph.specs.declared.edge.Edge.{Edge}
use Rattle.blk_graph.specs.declared.edge.Parent.TheVariants.{Node}
use Rattle.blk_graph.specs.declared.edge.Role.{Role}
use Rattle.blk_graph.specs.declared.edge.Role.TheVariants.{Drive, File, Backing, Filtered, Source, Target, Between, Base}
use Rattle.blk_graph.specs.declared.kind.Kind.{Kind}
use Rattle.blk_graph.specs.declared.kind.Kind.TheVariants.{Protocol, Raw, Qcow2, CopyOnRead, BeforeWrite, Mirror, Commit}
use Rattle.blk_graph.proofs.ChildLemmas.{child-edge, HasEdge}
use Rattle.blk_graph.proofs.CycleLemmas.{same_parent-true, and-left, and-right}
use Rattle.blk_graph.proofs.GraphLemmas.{PathsAreShort-from_IsSound}
use Rattle.blk_graph.proofs.InverseLemmas.{same_parent-refl}
use Rattle.blk_graph.proofs.Members.{Contains-nil, Contains-cases, find-Some}
use Rattle.blk_graph.proofs.RoleLemmas.{same_role-true, same_role-refl, head_pairs, tail_pairs}
use Rattle.qmp_rules.specs.Chains.{filter_role, filtered, disk_from, disk_node, chain_from, chain, is_listed, is_over}
use Rattle.qmp_rules.specs.Table.{RunTable, node_by_id, child}
use Rattle.qmp_rules.specs.declared.rows.NodeRecord.{NodeRecord}
use Rattle.flat_machine.specs.Wiring.{LeadsToFile, TableStands}
use Rattle.flat_machine.proofs.Kept.{own_disk}
use Rattle.blk_nodes.specs.Joined.{IsJoined}
use Rattle.blk_nodes.specs.Nodes.{Nodes}
use Rattle.blk_nodes.specs.Reading.{LeadsTo}
use Rattle.world_parts.specs.Coherent.{AreNodesOf}

-- ---- a parent has one child of a role

pub child_is : (edges : List Edge) (e : Edge) → AllPairs DifferInPlace edges → Contains edges e → (e.role ≡ Between → ⊥)
    → child_of e.parent e.role edges ≡ Some e.child
child_is [] e apart there single = absurd (Contains-nil e there)
child_is (x ∷ xs) e apart there single =
    by_test (is_edge e.parent e.role x) refl (Contains-cases x xs e there)
    (λ later. child_is xs e (tail_pairs DifferInPlace x xs apart) later single)
  where
    by_test : (b : Bool) → is_edge e.parent e.role x ≡ b → ((e ≡ x) ⊎ Contains xs e)
        → (Contains xs e → option_map (λ (y : Edge). y.child) (find (is_edge e.parent e.role) xs) ≡ Some e.child)
        → option_map (λ (y : Edge). y.child) (cond b (Some x) (find (is_edge e.parent e.role) xs)) ≡ Some e.child
    by_test true is (inl here) rest = ap (λ (y : Edge). Some y.child) (sym here)
    by_test true is (inr later) rest =
        let parents : x.parent ≡ e.parent = same_parent-true x.parent e.parent (and-left (same_parent x.parent e.parent) (same_role x.role e.role) is) in
        let roles : x.role ≡ e.role = same_role-true x.role e.role (and-right (same_parent x.parent e.parent) (same_role x.role e.role) is) in
        absurd (single (sym roles ∙ (head_pairs DifferInPlace x xs apart e later parents roles).0))
    by_test false is (inl here) rest =
        let itself : is_edge e.parent e.role e ≡ true = rw (same_parent-refl e.parent, same_role-refl e.role) refl in
        absurd (false≢true (sym is ∙ ap (is_edge e.parent e.role) (sym here) ∙ itself))
    by_test false is (inr later) rest = rest later

-- ---- the roles of a node's edges

record IsRoleOf (k : Kind) (r : Role) : Type 0 where
  single : r ≡ Between → ⊥
  step : (filter_role k ≡ Some r) ⊎ ((filter_role k ≡ None) × ((r ≡ Backing) ⊎ (r ≡ File)))

role_of : (k : Kind) (r : Role) → has_role k r ≡ true → IsRoleOf k r
role_of Protocol Drive h = absurd (false≢true h)
role_of Protocol File h = absurd (false≢true h)
role_of Protocol Backing h = absurd (false≢true h)
role_of Protocol Filtered h = absurd (false≢true h)
role_of Protocol Source h = absurd (false≢true h)
role_of Protocol Target h = absurd (false≢true h)
role_of Protocol Between h = absurd (false≢true h)
role_of Protocol Base h = absurd (false≢true h)
role_of Raw Drive h = absurd (false≢true h)
role_of Raw File h = record { single = λ b. cc b; step = inr (refl, inr refl) }
role_of Raw Backing h = absurd (false≢true h)
role_of Raw Filtered h = absurd (false≢true h)
role_of Raw Source h = absurd (false≢true h)
role_of Raw Target h = absurd (false≢true h)
role_of Raw Between h = absurd (false≢true h)
role_of Raw Base h = absurd (false≢true h)
role_of Qcow2 Drive h = absurd (false≢true h)
role_of Qcow2 File h = record { single = λ b. cc b; step = inr (refl, inr refl) }
role_of Qcow2 Backing h = record { single = λ b. cc b; step = inr (refl, inl refl) }
role_of Qcow2 Filtered h = absurd (false≢true h)
role_of Qcow2 Source h = absurd (false≢true h)
role_of Qcow2 Target h = absurd (false≢true h)
role_of Qcow2 Between h = absurd (false≢true h)
role_of Qcow2 Base h = absurd (false≢true h)
role_of CopyOnRead Drive h = absurd (false≢true h)
role_of CopyOnRead File h = record { single = λ b. cc b; step = inl refl }
role_of CopyOnRead Backing h = absurd (false≢true h)
role_of CopyOnRead Filtered h = absurd (false≢true h)
role_of CopyOnRead Source h = absurd (false≢true h)
role_of CopyOnRead Target h = absurd (false≢true h)
role_of CopyOnRead Between h = absurd (false≢true h)
role_of CopyOnRead Base h = absurd (false≢true h)
role_of BeforeWrite Drive h = absurd (false≢true h)
role_of BeforeWrite File h = absurd (false≢true h)
role_of BeforeWrite Backing h = absurd (false≢true h)
role_of BeforeWrite Filtered h = record { single = λ b. cc b; step = inl refl }
role_of BeforeWrite Source h = absurd (false≢true h)
role_of BeforeWrite Target h = absurd (false≢true h)
role_of BeforeWrite Between h = absurd (false≢true h)
role_of BeforeWrite Base h = absurd (false≢true h)
role_of Mirror Drive h = absurd (false≢true h)
role_of Mirror File h = absurd (false≢true h)
role_of Mirror Backing h = absurd (false≢true h)
role_of Mirror Filtered h = record { single = λ b. cc b; step = inl refl }
role_of Mirror Source h = absurd (false≢true h)
role_of Mirror Target h = absurd (false≢true h)
role_of Mirror Between h = absurd (false≢true h)
role_of Mirror Base h = absurd (false≢true h)
role_of Commit Drive h = absurd (false≢true h)
role_of Commit File h = absurd (false≢true h)
role_of Commit Backing h = absurd (false≢true h)
role_of Commit Filtered h = record { single = λ b. cc b; step = inl refl }
role_of Commit Source h = absurd (false≢true h)
role_of Commit Target h = absurd (false≢true h)
role_of Commit Between h = absurd (false≢true h)
role_of Commit Base h = absurd (false≢true h)

no_role : (r : Role) → has_role Protocol r ≡ true → ⊥
no_role r h = false≢true h

-- ---- one edge of a path

-- by an edge a filter reads, or it is a node's edge to its backing node or to its file
pub record IsStepFrom (t : RunTable) (a : ℕ) (e : Edge) : Type 0 where
  pub row : NodeRecord
  pub there : node_by_id t a ≡ Some row
  pub held : Contains t.nodes row
  pub id : row.id ≡ a
  pub child_at : child t a e.role ≡ Some e.child
  pub step : (filtered t a ≡ Some e.child) ⊎ ((filter_role row.kind ≡ None) × ((e.role ≡ Backing) ⊎ (e.role ≡ File)))

-- a row that is there
pub record IsRowAt (t : RunTable) (id : ℕ) : Type 0 where
  pub row : NodeRecord
  pub there : node_by_id t id ≡ Some row
  pub held : Contains t.nodes row
  pub id_is : row.id ≡ id

pub row_there : (t : RunTable) (id : ℕ) → IsSome (node_by_id t id) → IsRowAt t id
row_there t id some = by_row (node_by_id t id) refl some
  where
    by_row : (found : Option NodeRecord) → node_by_id t id ≡ found → IsSome found → IsRowAt t id
    by_row None is none = absurd (false≢true none)
    by_row (Some row) is found =
        let at = find-Some (λ (r : NodeRecord). r.id == id) t.nodes row is in
        record { row = row; there = is; held = at.0; id_is = eqb-true row.id id at.1 }

chain_begins : (n : ℕ) (t : RunTable) (id : ℕ) → chain_from n t id ≡ id ∷ drop 1 (chain_from n t id)
chain_begins zero t id = refl
chain_begins (suc n) t id = refl

pub or-right : (a b : Bool) → b ≡ true → (a || b) ≡ true
or-right true b is = refl
or-right false b is = is

pub or-left : (a b : Bool) → a ≡ true → (a || b) ≡ true
or-left true b is = refl
or-left false b is = absurd (false≢true is)

module _ (t : RunTable) (nodes : Nodes) (joined : IsJoined nodes) (are : AreNodesOf t nodes) (stands : TableStands t) where
  pub acyclic : IsAcyclic t.edges
  acyclic = subst IsAcyclic are.edges joined.sound.just.acyclic

  pub short : (from to : ℕ) (path : List Edge) → IsPath t.edges from path to → length path ≤ 63
  short from to path is =
      let all : PathsAreShort nodes.graph = PathsAreShort-from_IsSound nodes.graph joined.sound in
      let less = all from to path (subst (λ (es : List Edge). IsPath es from path to) (sym are.edges) is) in
      omega (arith, less, joined.sound.few_nodes)

  pub step_of : (a : ℕ) (e : Edge) → Contains t.edges e → e.parent ≡ Node a → IsStepFrom t a e
  step_of a e there from =
      let row = row_there t a ((stands.edges e there).parent a from) in
      let role = role_of row.row.kind e.role (stands.roles e row.row there row.held (from ∙ ap Node (sym row.id_is))) in
      let places : AllPairs DifferInPlace t.edges = subst (λ (es : List Edge). AllPairs DifferInPlace es) are.edges joined.sound.fit.places in
      let at : child t a e.role ≡ Some e.child = subst (λ parent. child_of parent e.role t.edges ≡ Some e.child) from (child_is t.edges e places there role.single) in
      record {
        row = row.row;
        there = row.there;
        held = row.held;
        id = row.id_is;
        child_at = at;
        step = by_role row.row row.there at role.step;
      }
    where
      by_role : (row : NodeRecord) → node_by_id t a ≡ Some row → child t a e.role ≡ Some e.child
          → ((filter_role row.kind ≡ Some e.role) ⊎ ((filter_role row.kind ≡ None) × ((e.role ≡ Backing) ⊎ (e.role ≡ File))))
          → ((filtered t a ≡ Some e.child) ⊎ ((filter_role row.kind ≡ None) × ((e.role ≡ Backing) ⊎ (e.role ≡ File))))
      by_role row is at (inl filter) =
          inl (ap (λ (found : Option NodeRecord). option_and_then (child t a) (option_and_then (λ (r : NodeRecord). filter_role r.kind) found)) is
          ∙ ap (option_and_then (child t a)) filter ∙ at)
      by_role row is at (inr other) = inr other

  -- ---- filters

  filtered-edge : (a c : ℕ) → filtered t a ≡ Some c → HasEdge t.edges (Node a) c
  filtered-edge a c is = by_role (option_and_then (λ (row : NodeRecord). filter_role row.kind) (node_by_id t a)) is
    where
      by_role : (role : Option Role) → option_and_then (child t a) role ≡ Some c → HasEdge t.edges (Node a) c
      by_role None bad = absurd (let e : ⊥ = cc bad in e)
      by_role (Some role) at = child-edge (Node a) role t.edges c at

  abbrev ShorterThan : ℕ → ℕ → Type 0
  ShorterThan a more = (path : List Edge) (to : ℕ) → IsPath t.edges a path to → length path ≤ more

  shorter-below : (a c more : ℕ) → filtered t a ≡ Some c → ShorterThan a (suc more) → ShorterThan c more
  shorter-below a c more is shorter path to on =
      let e = filtered-edge a c is in
      let whole : IsPath t.edges a (e.edge ∷ path) to = (e.there, e.from, subst (λ (n : ℕ). IsPath t.edges n path to) (sym e.to) on) in
      let less = shorter (e.edge ∷ path) to whole in
      omega (arith, less)

  -- where no path is as long as the turns, one more turn gives the same
  stays : (more a : ℕ) → ShorterThan a more → disk_from (suc more) t a ≡ disk_from more t a
  stays zero a shorter = by_child (filtered t a) refl
    where
      by_child : (found : Option ℕ) → filtered t a ≡ found → (elim found as (λ _. ℕ) [ None ↦ a | Some c ↦ c ]) ≡ a
      by_child None is = refl
      by_child (Some c) is =
          let e = filtered-edge a c is in
          let one : IsPath t.edges a (e.edge ∷ []) c = (e.there, e.from, e.to) in
          let less = shorter (e.edge ∷ []) c one in
          absurd (omega (arith, less))
  stays (suc more) a shorter = by_child (filtered t a) refl (λ c is. stays more c (shorter-below a c more is shorter))
    where
      by_child : (found : Option ℕ) → filtered t a ≡ found
          → ((c : ℕ) → filtered t a ≡ Some c → disk_from (suc more) t c ≡ disk_from more t c)
          → (elim found as (λ _. ℕ) [ None ↦ a | Some c ↦ disk_from (suc more) t c ]) ≡ (elim found as (λ _. ℕ) [ None ↦ a | Some c ↦ disk_from more t c ])
      by_child None is below = refl
      by_child (Some c) is below = below c is

  -- a filter reads as its child does
  pub through_filter : (a c : ℕ) → filtered t a ≡ Some c → disk_node t a ≡ disk_node t c
  unfolding disk_node
  through_filter a c is =
      ap (λ (found : Option ℕ). elim found as (λ _. ℕ) [ None ↦ a | Some under ↦ disk_from 63 t under ]) is
      ∙ sym (stays 63 c (λ path to on. short c to path on))

  -- ---- paths

  -- an edge to a file that no filter reads by leads to a node over a device
  pub to_protocol : (a : ℕ) (e : Edge) (s : IsStepFrom t a e) → Contains t.edges e → e.parent ≡ Node a → e.role ≡ File
      → filter_role s.row.kind ≡ None → (under : NodeRecord) → Contains t.nodes under → e.child ≡ under.id → under.kind ≡ Protocol
  to_protocol a e s there from role none under held to = by_name under.filename refl
    where
      file : LeadsToFile t s.row under
      file = record {
        over_there = s.held;
        under_there = held;
        edge = e;
        there = there;
        parent = from ∙ ap Node (sym s.id);
        role = role;
        child = to;
      }

      by_name : (name : Option (List ℕ)) → under.filename ≡ name → under.kind ≡ Protocol
      by_name None is =
          let some : IsSome (filter_role s.row.kind) = stands.filtered s.row under file is in
          absurd (false≢true (subst IsSome none some))
      by_name (Some name) is = stands.drivers name under (record { there = held; filename = is })

  -- from which no edge goes on
  pub no_further : (under : NodeRecord) (f : Edge) → under.kind ≡ Protocol → Contains t.nodes under → Contains t.edges f → f.parent ≡ Node under.id → ⊥
  no_further under f kind held there from =
      no_role f.role (subst (λ (k : Kind). has_role k f.role ≡ true) kind (stands.roles f under there held from))

  -- what is over a node by an edge to its file is a filter
  abbrev pub OnlyFilters : NodeRecord → Type 0
  OnlyFilters row = (over : NodeRecord) → LeadsToFile t over row → IsSome (filter_role over.kind)

  module _ (b : ℕ) (row : NodeRecord) (at : node_by_id t b ≡ Some row) (own : filter_role row.kind ≡ None) (filters : OnlyFilters row) where
    abbrev pub IsReadBy : ℕ → ℕ → Type 0
    IsReadBy n a = (disk_node t a ≡ b) ⊎ (is_listed b (drop 1 (chain_from n t (disk_node t a))) ≡ true)

    -- one more backing node at the top
    over_backing : (m a c : ℕ) → disk_node t a ≡ a → child t a Backing ≡ Some c → IsReadBy m c → is_listed b (drop 1 (chain_from (suc m) t (disk_node t a))) ≡ true
    over_backing m a c itself under is =
        ap (λ (id : ℕ). is_listed b (drop 1 (chain_from (suc m) t id))) itself
        ∙ ap (λ (found : Option ℕ). is_listed b (elim (option_map (disk_node t) found) as (λ _. List ℕ) [ None ↦ [] | Some low ↦ chain_from m t low ])) under
        ∙ ap (is_listed b) (chain_begins m t (disk_node t c)) ∙ here is
      where
        here : IsReadBy m c → is_listed b (disk_node t c ∷ drop 1 (chain_from m t (disk_node t c))) ≡ true
        here (inl same) = or-left (disk_node t c == b) (is_listed b (drop 1 (chain_from m t (disk_node t c)))) (eq-eqb (disk_node t c) b same)
        here (inr later) = or-right (disk_node t c == b) (is_listed b (drop 1 (chain_from m t (disk_node t c)))) later

    -- an edge of a format node to its file is on no path to this node
    dead_end : (a : ℕ) (e : Edge) (s : IsStepFrom t a e) (p : List Edge) → Contains t.edges e → e.parent ≡ Node a → e.role ≡ File
        → filter_role s.row.kind ≡ None → IsPath t.edges e.child p b → ⊥
    dead_end a e s [] there from role none ends =
        let held = find-Some (λ (r : NodeRecord). r.id == b) t.nodes row at in
        let file : LeadsToFile t s.row row = record {
          over_there = s.held;
          under_there = held.0;
          edge = e;
          there = there;
          parent = from ∙ ap Node (sym s.id);
          role = role;
          child = ends ∙ sym (eqb-true row.id b held.1);
        } in
        false≢true (subst IsSome none (filters s.row file))
    dead_end a e s (f ∷ p) there from role none goes =
        let under = row_there t e.child (stands.edges e there).child in
        let kind = to_protocol a e s there from role none under.row under.held (sym under.id_is) in
        no_further under.row f kind under.held goes.0 (goes.1 ∙ ap Node (sym under.id_is))

    reads_by : (p : List Edge) (n a : ℕ) → IsPath t.edges a p b → length p ≤ n → IsReadBy n a
    reads_by [] n a ends less = inl (subst (λ (id : ℕ). disk_node t id ≡ b) (sym ends) (own_disk t b row at own))
    reads_by (e ∷ p) zero a goes less = absurd (omega (arith, less))
    reads_by (e ∷ p) (suc m) a goes less =
        let s = step_of a e goes.0 goes.1 in
        by_step s s.step (reads_by p (suc m) e.child goes.2 (omega (arith, less))) (reads_by p m e.child goes.2 (omega (arith, less)))
      where
        by_step : (s : IsStepFrom t a e) → ((filtered t a ≡ Some e.child) ⊎ ((filter_role s.row.kind ≡ None) × ((e.role ≡ Backing) ⊎ (e.role ≡ File))))
            → IsReadBy (suc m) e.child → IsReadBy m e.child → IsReadBy (suc m) a
        by_step s (inl filter) same fewer = subst (λ (id : ℕ). (id ≡ b) ⊎ (is_listed b (drop 1 (chain_from (suc m) t id)) ≡ true)) (sym (through_filter a e.child filter)) same
        by_step s (inr (none, inl role)) same fewer =
            inr (over_backing m a e.child (own_disk t a s.row s.there none) (subst (λ (r : Role). child t a r ≡ Some e.child) role s.child_at) fewer)
        by_step s (inr (none, inr role)) same fewer = absurd (dead_end a e s p goes.0 goes.1 role none goes.2)

    -- what leads to the node reads as it, or reads it as a backing node
    pub leads_reads : (a : ℕ) → LeadsTo t.edges a b → (disk_node t a ≡ b) ⊎ (is_over t b a ≡ true)
    unfolding chain
    leads_reads a (inl same) = inl (subst (λ (id : ℕ). disk_node t id ≡ b) (sym same) (own_disk t b row at own))
    leads_reads a (inr path) =
        let less = short a b (path.first ∷ path.rest) path.path in
        reads_by (path.first ∷ path.rest) 64 a path.path (omega (arith, less))
