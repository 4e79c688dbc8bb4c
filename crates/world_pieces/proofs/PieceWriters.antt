-- A guest that may write a node is not on top of one that is read by another guest: then the two would break the rule on permissions.
use Rattle.std.proofs.Common.{◌≡◌, ◌⊎◌, ℕ, zero, suc, ◌<◌, ◌==◌, ◌||◌, Bool, true, false, cond, not, eq-eqb, List, [], ◌∷◌, length, get_or, drop, Option, Some, None, refl, sym, ◌∙◌, ap, subst, inl, inr, arith}
use Rattle.std.specs.Prelude.{Contains, slice_get, option_map, option_and_then, ◌&&◌}
use Rattle.std.proofs.lemmas.Bool.{false≢true, eqb-true, cases_eq}
use Rattle.blk_graph.specs.Permissions.{has_role, derived_uses, uses_by, IsDrive}
use Rattle.blk_graph.specs.Refreshed.{joined, uses_into, with_uses, ruled_from, IsRefreshed, IsOf}
use Rattle.blk_graph.specs.Rule.{KeepsPermissions}
use Rattle.blk_graph.specs.declared.edge.Edge.{Edge}
use Rattle.blk_graph.specs.declared.edge.Parent.{Parent}
use Rattle.blk_graph.specs.declared.edge.Parent.TheVariants.{Node, Guest as GuestOf}
use Rattle.blk_graph.specs.declared.edge.Perm.TheVariants.{Write}
use Rattle.blk_graph.specs.declared.edge.Role.{Role}
use Rattle.blk_graph.specs.declared.edge.Role.TheVariants.{Drive, File, Backing, Filtered}
use Rattle.blk_graph.specs.declared.edge.Uses.{Uses}
use Rattle.blk_graph.specs.declared.kind.Kind.{Kind}
use Rattle.blk_graph.specs.declared.kind.Kind.TheVariants.{Qcow2}
use Rattle.blk_graph.specs.declared.kind.NodeKind.{NodeKind}
use Rattle.blk_graph.proofs.ChildLemmas.{child-edge}
use Rattle.blk_graph.proofs.Members.{Contains-nil, Contains-cases}
use Rattle.qmp_rules.specs.Chains.{filter_role, filtered, disk_from, disk_node, chain_from, chain, is_listed, is_over}
use Rattle.qmp_rules.specs.Table.{RunTable, node_by_id, device_by_number, child}
use Rattle.qmp_rules.specs.declared.rows.DeviceRow.{DeviceRow}
use Rattle.qmp_rules.specs.declared.rows.NodeRecord.{NodeRecord}
use Rattle.flat_machine.specs.State.{drive_of}
use Rattle.flat_machine.specs.Wiring.{TableStands}
use Rattle.blk_nodes.specs.Joined.{IsJoined}
use Rattle.blk_nodes.specs.Nodes.{Nodes, row_at, driver_kind}
use Rattle.blk_nodes.specs.declared.row.Driver.{Driver}
use Rattle.blk_nodes.specs.declared.row.Driver.TheVariants as drivers
use Rattle.blk_nodes.specs.declared.row.FilterKind.TheVariants as filters
use Rattle.blk_nodes.specs.declared.row.Row.{Row}
use Rattle.world_parts.specs.Coherent.{AreNodesOf, AreAlike, IsRowOf, AskToWrite}
use Rattle.flat_machine.proofs.WritingKept.{role_edge}
use Rattle.world_pieces.proofs.PiecePaths.{row_there}
use Rattle.world_parts.proofs.JobFilters.{filtered_role}

-- ---- what the edges into a node ask and share together

or-true : (a b : Bool) → b ≡ true → (a || b) ≡ true
or-true true b is = refl
or-true false b is = is

or-here : (a b : Bool) → a ≡ true → (a || b) ≡ true
or-here true b is = refl
or-here false b is = absurd (false≢true is)

and-false : (a b : Bool) → b ≡ false → (a && b) ≡ false
and-false true b is = is
and-false false b is = refl

and-here : (a b : Bool) → a ≡ false → (a && b) ≡ false
and-here true b is = absurd (false≢true (sym is))
and-here false b is = refl

module _ (g : Uses → Bool) (h : Edge → Bool) (v : Bool) (here : (e : Edge) (u : Uses) → h e ≡ v → g (joined e u) ≡ v)
    (later : (e : Edge) (u : Uses) → g u ≡ v → g (joined e u) ≡ v) where
  into_so : (edges : List Edge) (f : Edge) (n : ℕ) → Contains edges f → f.child ≡ n → h f ≡ v → g (uses_into edges n) ≡ v
  into_so [] f n there to is = absurd (Contains-nil f there)
  into_so (e ∷ edges) f n there to is = by_test (e.child == n) refl (Contains-cases e edges f there) (λ more. into_so edges f n more to is)
    where
      by_test : (b : Bool) → (e.child == n) ≡ b → ((f ≡ e) ⊎ Contains edges f) → (Contains edges f → g (uses_into edges n) ≡ v)
          → g (cond b (joined e (uses_into edges n)) (uses_into edges n)) ≡ v
      by_test true test (inl same) rest = here e (uses_into edges n) (ap h (sym same) ∙ is)
      by_test true test (inr more) rest = later e (uses_into edges n) (rest more)
      by_test false test (inl same) rest =
          let yes : (e.child == n) ≡ true = eq-eqb e.child n (ap (λ (x : Edge). x.child) (sym same) ∙ to) in
          absurd (false≢true (sym test ∙ yes))
      by_test false test (inr more) rest = rest more

into_read : (edges : List Edge) (f : Edge) (n : ℕ) → Contains edges f → f.child ≡ n → f.perm.read ≡ true → (uses_into edges n).perm.read ≡ true
into_read = into_so (λ u. u.perm.read) (λ e. e.perm.read) true (λ e u is. or-here e.perm.read u.perm.read is) (λ e u is. or-true e.perm.read u.perm.read is)

pub into_write : (edges : List Edge) (f : Edge) (n : ℕ) → Contains edges f → f.child ≡ n → f.perm.write ≡ true → (uses_into edges n).perm.write ≡ true
into_write = into_so (λ u. u.perm.write) (λ e. e.perm.write) true (λ e u is. or-here e.perm.write u.perm.write is) (λ e u is. or-true e.perm.write u.perm.write is)

into_shut : (edges : List Edge) (f : Edge) (n : ℕ) → Contains edges f → f.child ≡ n → f.shared.write ≡ false → (uses_into edges n).shared.write ≡ false
into_shut = into_so (λ u. u.shared.write) (λ e. e.shared.write) false (λ e u is. and-here e.shared.write u.shared.write is) (λ e u is. and-false e.shared.write u.shared.write is)

-- ---- two edges into one node

at_slice : (xs : List Edge) (i : ℕ) (x : Edge) → i < length xs → get_or xs i x ≡ x → slice_get xs i ≡ Some x
at_slice [] i x less is = absurd (omega (arith, less))
at_slice (y ∷ xs) zero x less is = ap (λ (e : Edge). Some e) is
at_slice (y ∷ xs) (suc i) x less is = at_slice xs i x (omega (arith, less)) is

-- one that asks to write is the only one that doesn't share that
pub rule_for : (edges : List Edge) (w e : Edge) → KeepsPermissions edges → Contains edges w → Contains edges e → w.child ≡ e.child
    → w.perm.write ≡ true → e.shared.write ≡ false → e ≡ w
rule_for edges w e rule held_w held_e same asks shut = elim (cases_eq held_w.0 held_e.0) [
  | inl equal ↦
      let at_w = at_slice edges held_w.0 w held_w.1 held_w.2 in
      let at_e = at_slice edges held_e.0 e held_e.1 held_e.2 in
      let both : Some e ≡ Some w = sym at_e ∙ ap (slice_get edges) (sym equal) ∙ at_w in
      cc both
  | inr apart ↦
      let shares = rule held_w.0 held_e.0 w e (at_slice edges held_w.0 w held_w.1 held_w.2) (at_slice edges held_e.0 e held_e.1 held_e.2) apart same Write asks in
      absurd (false≢true (sym shut ∙ shares))
]

-- ---- what an edge of a node asks and shares, by what the node is

only_qcow2 : (d : Driver) → has_role (driver_kind d) Backing ≡ true → driver_kind d ≡ Qcow2
only_qcow2 drivers.File h = absurd (false≢true h)
only_qcow2 (drivers.Raw part) h = absurd (false≢true h)
only_qcow2 (drivers.Qcow2 image) h = refl
only_qcow2 drivers.CopyOnRead h = absurd (false≢true h)
only_qcow2 (drivers.Filter kind) h = absurd (let role : Backing ≡ Filtered = filtered_role kind Backing h in let bad : ⊥ = cc role in bad)

-- no commit has put its filter
abbrev pub HasNoCommit : Nodes → Type 0
HasNoCommit nodes = (a : ℕ) (own : Row) → row_at nodes a ≡ Some own → own.driver ≡ drivers.Filter filters.Commit → ⊥

-- what the edge of a filter asks and shares, by what the edges into the filter do
pub record IsPassedOn (d : Driver) (edge : Edge) (above : Uses) : Type 0 where
  pub read : (d ≡ drivers.Filter filters.Commit → ⊥) → above.perm.read ≡ true → edge.perm.read ≡ true
  pub write : edge.perm.write ≡ above.perm.write
  pub shut : above.shared.write ≡ false → edge.shared.write ≡ false
  pub role : edge.role ≡ Backing → ⊥

passed_on : (d : Driver) (role : Role) (writes : Bool) (edge : Edge) (above : Uses) → filter_role (driver_kind d) ≡ Some role → edge.role ≡ role
    → with_uses edge (derived_uses (driver_kind d) role writes above) ≡ edge → IsPassedOn d edge above
passed_on drivers.File role writes edge above filter own is = absurd (let bad : ⊥ = cc filter in bad)
passed_on (drivers.Raw part) role writes edge above filter own is = absurd (let bad : ⊥ = cc filter in bad)
passed_on (drivers.Qcow2 image) role writes edge above filter own is = absurd (let bad : ⊥ = cc filter in bad)
passed_on drivers.CopyOnRead File writes edge above filter own is = record {
  read = λ other asks. ap (λ (x : Edge). x.perm.read) (sym is) ∙ asks;
  write = ap (λ (x : Edge). x.perm.write) (sym is);
  shut = λ shut. ap (λ (x : Edge). x.shared.write) (sym is) ∙ shut;
  role = λ role. let bad : File ≡ Backing = sym own ∙ role in cc bad;
}
passed_on (drivers.Filter filters.BeforeWrite) Filtered writes edge above filter own is = record {
  read = λ other asks. ap (λ (x : Edge). x.perm.read) (sym is);
  write = ap (λ (x : Edge). x.perm.write) (sym is);
  shut = λ shut. ap (λ (x : Edge). x.shared.write) (sym is);
  role = λ role. let bad : Filtered ≡ Backing = sym own ∙ role in cc bad;
}
passed_on (drivers.Filter filters.Mirror) Filtered writes edge above filter own is = record {
  read = λ other asks. ap (λ (x : Edge). x.perm.read) (sym is);
  write = ap (λ (x : Edge). x.perm.write) (sym is);
  shut = λ shut. ap (λ (x : Edge). x.shared.write) (sym is);
  role = λ role. let bad : Filtered ≡ Backing = sym own ∙ role in cc bad;
}
passed_on (drivers.Filter filters.Commit) Filtered writes edge above filter own is = record {
  read = λ other asks. absurd (other refl);
  write = ap (λ (x : Edge). x.perm.write) (sym is);
  shut = λ shut. ap (λ (x : Edge). x.shared.write) (sym is) ∙ shut;
  role = λ role. let bad : Filtered ≡ Backing = sym own ∙ role in cc bad;
}
passed_on d role writes edge above filter own is = absurd (let bad : ⊥ = cc filter in bad)

module _ (t : RunTable) (nodes : Nodes) (joined : IsJoined nodes) (are : AreNodesOf t nodes) (stands : TableStands t) where
  pub own_row : (a : ℕ) (row : NodeRecord) → node_by_id t a ≡ Some row → (own : Row) × (row_at nodes a ≡ Some own) × IsRowOf row own
  own_row a row is = by_own (row_at nodes a) refl (subst (λ (found : Option NodeRecord). AreAlike found (row_at nodes a)) is (are.rows a))
    where
      by_own : (found : Option Row) → row_at nodes a ≡ found → AreAlike (Some row) found → (own : Row) × (row_at nodes a ≡ Some own) × IsRowOf row own
      by_own None at alike = absurd alike
      by_own (Some own) at alike = (own, at, alike)

  -- it is as the table of permissions says
  pub ruled_here : (a : ℕ) (e : Edge) (own : Row) → Contains t.edges e → e.parent ≡ Node a → row_at nodes a ≡ Some own
      → with_uses e (derived_uses (driver_kind own.driver) e.role (not own.is_read_only) (uses_into t.edges a)) ≡ e
  ruled_here a e own there from is =
      let kinds : List NodeKind = nodes.graph.kinds in
      let all : IsRefreshed kinds t.edges = subst (IsRefreshed kinds) are.edges joined.sound.just.refreshed in
      let at : ruled_from kinds (uses_into t.edges) e (Node a) ≡ e = subst (λ (p : Parent). ruled_from kinds (uses_into t.edges) e p ≡ e) from (all e there) in
      subst (λ (k : NodeKind). with_uses e (uses_by k e.role (uses_into t.edges a)) ≡ e) (joined.kinds a own is) at

  pub record IsFilterEdge (a c : ℕ) : Type 0 where
    pub edge : Edge
    pub there : Contains t.edges edge
    pub from : edge.parent ≡ Node a
    pub to : edge.child ≡ c
    pub role : Role
    pub under : child t a role ≡ Some c
    pub over : Row
    pub over_at : row_at nodes a ≡ Some over
    pub filter : filter_role (driver_kind over.driver) ≡ Some role
    pub passes : IsPassedOn over.driver edge (uses_into t.edges a)

  pub filter_edge : (a c : ℕ) → filtered t a ≡ Some c → IsFilterEdge a c
  filter_edge a c is = by_row (node_by_id t a) refl is
    where
      by_kind : (row : NodeRecord) (own : Row) (role : Role) → row_at nodes a ≡ Some own → IsRowOf row own → filter_role row.kind ≡ Some role
          → child t a role ≡ Some c → IsFilterEdge a c
      by_kind row own role at alike is_filter under =
          let filter : filter_role (driver_kind own.driver) ≡ Some role = ap filter_role (sym alike.kind) ∙ is_filter in
          let e = role_edge (Node a) role t.edges c under in
          let rule = ruled_here a e.edge own e.there e.from at in
          let as_role : with_uses e.edge (derived_uses (driver_kind own.driver) role (not own.is_read_only) (uses_into t.edges a)) ≡ e.edge =
          subst (λ (r : Role). with_uses e.edge (derived_uses (driver_kind own.driver) r (not own.is_read_only) (uses_into t.edges a)) ≡ e.edge) e.role_is rule in
          record {
            edge = e.edge;
            there = e.there;
            from = e.from;
            to = e.to;
            role = role;
            under = under;
            over = own;
            over_at = at;
            filter = filter;
            passes = passed_on own.driver role (not own.is_read_only) e.edge (uses_into t.edges a) filter e.role_is as_role;
          }

      by_role : (row : NodeRecord) (role : Option Role) → node_by_id t a ≡ Some row → filter_role row.kind ≡ role → option_and_then (child t a) role ≡ Some c → IsFilterEdge a c
      by_role row None found is_filter under = absurd (let bad : ⊥ = cc under in bad)
      by_role row (Some role) found is_filter under = let own = own_row a row found in by_kind row own.0 role own.1 own.2 is_filter under

      by_row : (found : Option NodeRecord) → node_by_id t a ≡ found → option_and_then (child t a) (option_and_then (λ (row : NodeRecord). filter_role row.kind) found) ≡ Some c → IsFilterEdge a c
      by_row None at under = absurd (let bad : ⊥ = cc under in bad)
      by_row (Some row) at under = by_role row (filter_role row.kind) at refl under

  pub record IsBackingEdge (a c : ℕ) : Type 0 where
    pub edge : Edge
    pub there : Contains t.edges edge
    pub from : edge.parent ≡ Node a
    pub to : edge.child ≡ c
    pub role : edge.role ≡ Backing
    pub read : edge.perm.read ≡ (uses_into t.edges a).perm.read
    pub shared : edge.shared.write ≡ not (uses_into t.edges a).perm.read

  backing_edge : (a c : ℕ) → child t a Backing ≡ Some c → IsBackingEdge a c
  backing_edge a c under =
      let e = role_edge (Node a) Backing t.edges c under in
      let row = row_there t a ((stands.edges e.edge e.there).parent a e.from) in
      let own = own_row a row.row row.there in
      let may : has_role row.row.kind Backing ≡ true =
      subst (λ (r : Role). has_role row.row.kind r ≡ true) e.role_is (stands.roles e.edge row.row e.there row.held (e.from ∙ ap Node (sym row.id_is))) in
      let kind : driver_kind own.0.driver ≡ Qcow2 = only_qcow2 own.0.driver (subst (λ (k : Kind). has_role k Backing ≡ true) own.2.kind may) in
      let rule = ruled_here a e.edge own.0 e.there e.from own.1 in
      let as_image : with_uses e.edge (derived_uses Qcow2 Backing (not own.0.is_read_only) (uses_into t.edges a)) ≡ e.edge =
      subst (λ (r : Role). with_uses e.edge (derived_uses Qcow2 r (not own.0.is_read_only) (uses_into t.edges a)) ≡ e.edge) e.role_is
      (subst (λ (k : Kind). with_uses e.edge (derived_uses k e.edge.role (not own.0.is_read_only) (uses_into t.edges a)) ≡ e.edge) kind rule) in
      record {
        edge = e.edge;
        there = e.there;
        from = e.from;
        to = e.to;
        role = e.role_is;
        read = ap (λ (x : Edge). x.perm.read) (sym as_image);
        shared = ap (λ (x : Edge). x.shared.write) (sym as_image);
      }

  -- ---- readers

  -- an edge into the node asks to read it
  pub record IsReadByEdge (d : ℕ) : Type 0 where
    pub edge : Edge
    pub there : Contains t.edges edge
    pub to : edge.child ≡ d
    pub asks : edge.perm.read ≡ true

  -- Into the node leads an edge that doesn't share writes: one of a node that reads it as its backing node, or one of a filter into
  -- which there is such an edge, so many filters up.
  pub record IsShutBy (edge : Edge) (from d : ℕ) : Type 0 where
    pub there : Contains t.edges edge
    pub from_is : edge.parent ≡ Node from
    pub to : edge.child ≡ d
    pub shut : edge.shared.write ≡ false

  abbrev pub IsShut : ℕ → ℕ → Type 0
  IsShut zero d = ⊥
  IsShut (suc k) d = (edge : Edge) × (from : ℕ) × IsShutBy edge from d × ((edge.role ≡ Backing) ⊎ IsShut k from)

  abbrev pub IsClosed : ℕ → Type 0
  IsClosed d = (k : ℕ) × IsShut k d

  read_filter : HasNoCommit nodes → (a c : ℕ) → filtered t a ≡ Some c → IsReadByEdge a → IsReadByEdge c
  read_filter none a c is read =
      let e = filter_edge a c is in
      record { edge = e.edge; there = e.there; to = e.to; asks = e.passes.read (none a e.over e.over_at) (into_read t.edges read.edge a read.there read.to read.asks) }

  closed_filter : (a c : ℕ) → filtered t a ≡ Some c → IsClosed a → IsClosed c
  closed_filter a c is (zero, never) = absurd never
  closed_filter a c is (suc k, shut) =
      let e = filter_edge a c is in
      let by = shut.2 in
      let here : IsShutBy e.edge a c = record {
        there = e.there;
        from_is = e.from;
        to = e.to;
        shut = e.passes.shut (into_shut t.edges shut.0 a by.there by.to by.shut);
      } in
      (suc (suc k), (e.edge, a, here, inr shut))

  read_backing : (a c : ℕ) → child t a Backing ≡ Some c → IsReadByEdge a → IsReadByEdge c × IsClosed c
  read_backing a c is read =
      let e = backing_edge a c is in
      let above = into_read t.edges read.edge a read.there read.to read.asks in
      let by : IsShutBy e.edge a c = record { there = e.there; from_is = e.from; to = e.to; shut = e.shared ∙ ap not above } in (
        record { edge = e.edge; there = e.there; to = e.to; asks = e.read ∙ above },
        (1, (e.edge, a, by, inl e.role)),
      )

  module _ (Q : ℕ → Type 0) (goes : (a c : ℕ) → filtered t a ≡ Some c → Q a → Q c) where
    down_from : (more a : ℕ) → Q a → Q (disk_from more t a)
    down_from zero a is = is
    down_from (suc more) a is = by_child (filtered t a) refl (down_from more)
      where
        by_child : (found : Option ℕ) → filtered t a ≡ found → ((n : ℕ) → Q n → Q (disk_from more t n))
            → Q (elim found as (λ _. ℕ) [ None ↦ a | Some c ↦ disk_from more t c ])
        by_child None at rest = is
        by_child (Some c) at rest = rest c (goes a c at is)

    pub down_disk : (a : ℕ) → Q a → Q (disk_node t a)
    unfolding disk_node
    down_disk a is = down_from 64 a is

  -- all below a node that is read is closed
  closed_below : HasNoCommit nodes → (n a b : ℕ) → IsReadByEdge a → is_listed b (drop 1 (chain_from n t a)) ≡ true → IsClosed b
  closed_below none zero a b read is = absurd (false≢true is)
  closed_below none (suc m) a b read is = by_child (child t a Backing) refl is (closed_below none m)
    where
      begins : (n u : ℕ) → chain_from n t u ≡ u ∷ drop 1 (chain_from n t u)
      begins zero u = refl
      begins (suc n) u = refl

      by_head : (u : ℕ) (test : Bool) → (u == b) ≡ test → IsClosed u → (is_listed b (drop 1 (chain_from m t u)) ≡ true → IsClosed b)
          → (test || is_listed b (drop 1 (chain_from m t u))) ≡ true → IsClosed b
      by_head u true same closed rest is_in = subst IsClosed (eqb-true u b same) closed
      by_head u false same closed rest is_in = rest is_in

      by_child : (found : Option ℕ) → child t a Backing ≡ found
          → is_listed b (elim (option_map (disk_node t) found) as (λ _. List ℕ) [ None ↦ [] | Some u ↦ chain_from m t u ]) ≡ true
          → ((u v : ℕ) → IsReadByEdge u → is_listed v (drop 1 (chain_from m t u)) ≡ true → IsClosed v) → IsClosed b
      by_child None at is_in rest = absurd (false≢true is_in)
      by_child (Some c) at is_in rest =
          let both = read_backing a c at read in
          let u : ℕ = disk_node t c in
          by_head u (u == b) refl (down_disk IsClosed closed_filter c both.1)
          (rest u b (down_disk IsReadByEdge (read_filter none) c both.0)) (ap (is_listed b) (sym (begins m u)) ∙ is_in)

  -- ---- writers

  -- The edge by which a guest writes the node asks to write, and is that of its drive or of a filter that isn't closed.
  pub record IsWritten (d : ℕ) : Type 0 where
    pub edge : Edge
    pub there : Contains t.edges edge
    pub to : edge.child ≡ d
    pub asks : edge.perm.write ≡ true
    pub drive : edge.role ≡ Backing → ⊥
    pub above : (p k : ℕ) → edge.parent ≡ Node p → IsShut k p → ⊥

  not_closed : (d k : ℕ) → IsWritten d → IsShut k d → ⊥
  not_closed d zero written never = never
  not_closed d (suc k) written (e, from, by, how) =
      let rule : KeepsPermissions t.edges = subst KeepsPermissions are.edges joined.sound.just.rule in
      let same : e ≡ written.edge = rule_for t.edges written.edge e rule written.there by.there (written.to ∙ sym by.to) written.asks by.shut in
      by_how same how
    where
      by_how : e ≡ written.edge → ((e.role ≡ Backing) ⊎ IsShut k from) → ⊥
      by_how same (inl role) = written.drive (ap (λ (x : Edge). x.role) (sym same) ∙ role)
      by_how same (inr over) = written.above from k (ap (λ (x : Edge). x.parent) (sym same) ∙ by.from_is) over

  written_filter : (a c : ℕ) → filtered t a ≡ Some c → IsWritten a → IsWritten c
  written_filter a c is written =
      let e = filter_edge a c is in
      record {
        edge = e.edge;
        there = e.there;
        to = e.to;
        asks = e.passes.write ∙ into_write t.edges written.edge a written.there written.to written.asks;
        drive = e.passes.role;
        above = λ p k from shut.
            let same : a ≡ p = cc (sym e.from ∙ from) in
            not_closed a k written (subst (IsShut k) (sym same) shut);
      }

  -- ---- guests

  guest_edge : (g drive : ℕ) → drive_of t g ≡ Some drive → (e : Edge) × Contains t.edges e × (e.parent ≡ GuestOf g) × (e.child ≡ drive) × IsDrive e
  guest_edge g drive is =
      let e = child-edge (GuestOf g) Drive t.edges drive is in
      let table = (joined.sound.fit.each e.edge (subst (λ (es : List Edge). Contains es e.edge) (sym are.edges) e.there)).table in
      (e.edge, e.there, e.from, e.to, subst (IsOf nodes.graph.kinds e.edge) e.from table)

  pub guest_reads : (g drive : ℕ) → drive_of t g ≡ Some drive → IsReadByEdge drive
  guest_reads g drive is =
      let e = guest_edge g drive is in
      record { edge = e.0; there = e.1; to = e.3; asks = ap (λ (x : Edge). x.perm.read) e.4.is }

  pub guest_writes : (g drive : ℕ) (device : DeviceRow) → AskToWrite t → device_by_number t g ≡ Some device → device.read_only ≡ false → drive_of t g ≡ Some drive → IsWritten drive
  guest_writes g drive device ask there writes is =
      let e = guest_edge g drive is in
      record {
        edge = e.0;
        there = e.1;
        to = e.3;
        asks = ask g device e.0 there writes e.1 e.2;
        drive = λ role. let bad : Drive ≡ Backing = sym (ap (λ (x : Edge). x.role) e.4.is) ∙ role in cc bad;
        above = λ p k from shut. let bad : GuestOf g ≡ Node p = sym e.2 ∙ from in cc bad;
      }

  -- no guest's disk is over one that another guest may write
  pub none_over : HasNoCommit nodes → (writer reader drive other : ℕ) (device : DeviceRow) → AskToWrite t → device_by_number t writer ≡ Some device → device.read_only ≡ false → drive_of t writer ≡ Some drive
      → drive_of t reader ≡ Some other → is_over t (disk_node t drive) (disk_node t other) ≡ false
  unfolding chain
  none_over none writer reader drive other device ask there writes on on_other =
      by_test (is_over t (disk_node t drive) (disk_node t other)) refl
    where
      written : IsWritten (disk_node t drive)
      written = down_disk IsWritten written_filter drive (guest_writes writer drive device ask there writes on)

      read : IsReadByEdge (disk_node t (disk_node t other))
      read = down_disk IsReadByEdge (read_filter none) (disk_node t other) (down_disk IsReadByEdge (read_filter none) other (guest_reads reader other on_other))

      by_test : (b : Bool) → is_listed (disk_node t drive) (drop 1 (chain_from 64 t (disk_node t (disk_node t other)))) ≡ b → b ≡ false
      by_test false is = refl
      by_test true is =
          let closed = closed_below none 64 (disk_node t (disk_node t other)) (disk_node t drive) read is in
          absurd (not_closed (disk_node t drive) closed.0 written closed.1)
