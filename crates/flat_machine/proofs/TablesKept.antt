-- Each kind of change keeps what holds of tables.
use Rattle.std.proofs.Common.{◌≡◌, ◌≢◌, ◌⊎◌, ℕ, suc, Bool, true, false, cond, List, [], ◌∷◌, ◌++◌, refl, sym, ap, subst, ◌∙◌, inl, inr, Option, Some, None, option_map}
use Rattle.std.specs.Prelude.{◌==◌, ◌||◌, not, IsSome}
use Rattle.std.specs.List.{find, list_any, Contains}
use Rattle.std.proofs.lemmas.Bool.{eqb-true, eqb-false, eq-eqb, ne_eqb, and_right}
use Rattle.blk_graph.specs.declared.edge.Edge.{Edge}
use Rattle.blk_graph.specs.declared.edge.Parent.{Parent}
use Rattle.blk_graph.specs.declared.edge.Parent.TheVariants.{Node}
use Rattle.blk_graph.specs.declared.edge.Role.{Role}
use Rattle.blk_graph.specs.declared.edge.Role.TheVariants.{File, Backing}
use Rattle.blk_graph.specs.declared.kind.Kind.{Kind}
use Rattle.blk_graph.specs.declared.kind.Kind.TheVariants.{Protocol, Raw, Qcow2, CopyOnRead, BeforeWrite, Mirror, Commit}
use Rattle.blk_graph.specs.declared.kind.NodeKind.{NodeKind}
use Rattle.blk_graph.specs.Edges.{same_parent, same_role}
use Rattle.blk_graph.specs.Edits.{is_edge, child_of, with_edge, without_parent, takes_place}
use Rattle.blk_graph.specs.Paths.{IsAcyclic, LeadsBack}
use Rattle.blk_graph.specs.Refreshed.{refreshed}
use Rattle.blk_graph.specs.Permissions.{node_edge, has_role}
use Rattle.blk_graph.proofs.Members.{find-Some, Contains-filter, Contains-map}
use Rattle.blk_graph.proofs.EditLemmas.{IsSameEdge, Contains-with_edge}
use Rattle.blk_graph.proofs.RoleLemmas.{takes_place-role}
use Rattle.blk_graph.proofs.ChildLemmas.{child-edge, child-new, child-kept, child-without, reached-entered}
use Rattle.blk_graph.proofs.DraftLemmas.{acyclic_fewer, acyclic_put}
use Rattle.blk_graph.proofs.RefreshLemmas.{child_of-refreshed, IsAcyclic-refreshed}
use Rattle.qmp_rules.specs.declared.rows.NodeRecord.{NodeRecord}
use Rattle.qmp_rules.specs.declared.rows.DeviceRow.{DeviceRow}
use Rattle.qmp_rules.specs.Table.{RunTable, node_by_id, child}
use Rattle.qmp_rules.specs.Chains.{filter_role, filtered, disk_from, disk_node}
use Rattle.qmp_rules.specs.Changes.{node_changed, unsettled, with_unsettled, without_record, with_backing_edge, with_format_edges, device_edge}
use Rattle.blk_history.specs.Fold.{With}
use Rattle.flat_machine.specs.Machine.{copies_at, copies_through, is_copying, path, path_from}
use Rattle.flat_machine.specs.Wiring.{HaveDistinctIds, EdgesHaveEnds, StandsFor, IsFileOf, LeadsToFile, HasOwnName, IsUnderOne, IsDiskOf, AreNumbered, HasDeviceNumber, TableStands, writes_through}
use Rattle.flat_machine.specs.Suiting.{IsThere, IsAlone, SuitsFile, SuitsFormat, SuitsFilter, SuitsDevice}
use Rattle.flat_machine.proofs.Finds.{find-filter}
use Rattle.flat_machine.proofs.Fresh.{found-longer, found-new}
use Rattle.flat_machine.proofs.Kept.{own_disk}
use Rattle.flat_machine.proofs.Tables.{same-edge, like-then, pushed-cases, filter-keeps, refreshed-old, refreshed-new, with_edge-keeps, apart-parents}
use Rattle.flat_machine.proofs.Rows.{like-itself, SameRows, rows-same, rows-mapped, BothAt, stays-at, copies-at, like_unsettled}
use Rattle.flat_machine.proofs.Wired.{OldEdge, Grows, NewRows, NewEdges, NoRow, NoEdge, no_rows, no_edges, with_at, grown_stands}

-- ---- edges and rows

-- the child of a node is there
pub goes_there : (t : RunTable) → EdgesHaveEnds t → (node below : ℕ) (role : Role) → child t node role ≡ Some below → IsThere t below
goes_there t ends node below role is =
    let e = child-edge (Node node) role t.edges below is in
    subst (IsThere t) e.to (ends e.edge e.there).child

there-row : (t : RunTable) → HaveDistinctIds t → (row : NodeRecord) → Contains t.nodes row → IsThere t row.id
there-row t apart row there = subst IsSome (sym (apart row there)) refl

pub not-there : (t : RunTable) (node : ℕ) → node_by_id t node ≡ None → IsThere t node → ⊥
not-there t node none there = let some = subst IsSome none there in cc

pub old_edge : (t : RunTable) → EdgesHaveEnds t → (edge e : Edge) → Contains t.edges edge → IsSameEdge edge e → OldEdge t (IsThere t) e
old_edge t ends edge e there same = record {
  edge = edge;
  there = there;
  same = same;
  parent = (ends edge there).parent;
  child = (ends edge there).child;
}

-- ---- rows that stay, and edges that stay

pub rows_grow : (t now : RunTable) → SameRows t now → now.edges ≡ t.edges → TableStands t → Grows t now (IsThere t) NoRow NoEdge
rows_grow t now rows edges h = record {
  rows = λ later there.
      let old = rows.back later there in
      inl (record { row = old.0; there = old.1.0; kept = there-row t h.apart old.0 old.1.0; like = old.1.1 });
  stays = stays-at t now rows;
  apart = rows.apart;
  others = λ row never here. never;
  one = λ a b never other. absurd never;
  edges = λ e there. inl (old_edge t h.edges e e (subst (λ es. Contains es e) edges there) (same-edge e));
  keeps = λ e node there is here. record { edge = e; there = subst (λ es. Contains es e) (sym edges) there; same = same-edge e };
  children = λ node role here. ap (child_of (Node node) role) edges;
  goes = λ node below role here is. goes_there t h.edges node below role is;
}

pub same_numbers : (t now : RunTable) → now.guests ≡ t.guests → now.devices ≡ t.devices → AreNumbered t → AreNumbered now
same_numbers t now guests devices h device there =
    subst (λ gs. HasDeviceNumber gs device) (sym guests) (h device (subst (λ ds. Contains ds device) devices there))

pub rows_table : (t now : RunTable) → SameRows t now → now.edges ≡ t.edges → now.guests ≡ t.guests → now.devices ≡ t.devices
    → TableStands t → TableStands now
rows_table t now rows edges guests devices h =
    grown_stands t now (IsThere t) NoRow NoEdge (rows_grow t now rows edges h) (no_rows t now) (no_edges t now) h
    (same_numbers t now guests devices h.numbers) (subst IsAcyclic (sym edges) h.acyclic)

-- ---- cycles

-- edges that are derived close none that wasn't there
pub derived_acyclic : (now : RunTable) (kinds : List NodeKind) (before : List Edge) → now.edges ≡ refreshed kinds before → IsAcyclic before
    → IsAcyclic now.edges
derived_acyclic now kinds before derived acyclic = subst IsAcyclic (sym derived) (IsAcyclic-refreshed kinds before acyclic)

-- no edge leads to a node that isn't there
unreached : (t : RunTable) (node : ℕ) → EdgesHaveEnds t → node_by_id t node ≡ None → (e : Edge) → Contains t.edges e → e.child ≢ node
unreached t node ends fresh e there same = not-there t node fresh (subst (IsThere t) same (ends e there).child)

-- and then none leads back to it
no_way_to : (node : ℕ) (edges : List Edge) (child : ℕ) → ((e : Edge) → Contains edges e → e.child ≢ node) → child ≢ node
    → LeadsBack edges child (Node node) → ⊥
no_way_to node edges child none other (inl same) = other same
no_way_to node edges child none other (inr way) = reached-entered edges child node way.first way.rest way.path none

-- ---- nodes that are no filters

pub no_copies : (kind : Kind) → filter_role kind ≡ None → is_copying kind ≡ false
no_copies Protocol h = refl
no_copies Raw h = refl
no_copies Qcow2 h = refl
no_copies CopyOnRead h = absurd cc
no_copies BeforeWrite h = absurd cc
no_copies Mirror h = absurd cc
no_copies Commit h = absurd cc

pub not_copying : (kind : Kind) → filter_role kind ≡ None → kind ≢ CopyOnRead
not_copying kind own is = let filter : filter_role CopyOnRead ≡ None = subst (λ k. filter_role k ≡ None) is own in cc

path-alone : (t : RunTable) (node : ℕ) (p : ℕ → Bool) → filtered t node ≡ None → list_any p (path t node) ≡ (p node || false)
unfolding path
path-alone t node p none = rw (none, path_from) refl

-- a read of one copies nothing
pub own_copies : (t : RunTable) (node : ℕ) (row : NodeRecord) → node_by_id t node ≡ Some row → filter_role row.kind ≡ None
    → copies_through t node ≡ false
own_copies t node row found own =
    let none : filtered t node ≡ None = rw (found, own) refl in
    let still : copies_at t node ≡ false = copies-at t node row found ∙ no_copies row.kind own in
    path-alone t node (copies_at t) none ∙ ap (λ b. b || false) still

-- it reads as itself
pub own_reads : (t : RunTable) (row : NodeRecord) → node_by_id t row.id ≡ Some row → filter_role row.kind ≡ None
    → With (node_by_id t (disk_node t row.id)) (IsDiskOf t row)
own_reads t row found own =
    subst (λ n. With (node_by_id t n) (IsDiskOf t row)) (sym (own_disk t row.id row found own))
    (with_at (IsDiskOf t row) (node_by_id t row.id) row found (record { own = own; itself = λ some. inl refl; writable = λ w. writes row.read_only (w_only w) }))
  where
    w_only : writes_through t row.read_only row.id ≡ true → (not row.read_only || false) ≡ true
    w_only w = subst (λ b. (not row.read_only || b) ≡ true) (own_copies t row.id row found own) w

    writes : (b : Bool) → (not b || false) ≡ true → b ≡ false
    writes true h = absurd cc
    writes false h = refl

-- ---- one node more

-- the nodes between, and the edges before they are derived
pub record Adds (t between now : RunTable) (new : NodeRecord) (IsNew : Edge → Type 0) : Type 0 where
  pub rows : SameRows t between
  pub nodes : now.nodes ≡ between.nodes ++ new ∷ []
  pub fresh : node_by_id t new.id ≡ None
  pub kinds : List NodeKind
  pub before : List Edge
  pub derived : now.edges ≡ refreshed kinds before
  pub cases : (e : Edge) → Contains before e → IsNew e ⊎ Contains t.edges e
  pub like : (a b : Edge) → IsSameEdge a b → IsNew a → IsNew b
  pub keeps : (e : Edge) → Contains t.edges e → Node new.id ≢ e.parent → Contains before e
  pub children : (node : ℕ) (role : Role) → Node new.id ≢ Node node → child_of (Node node) role before ≡ child t node role

module _ (t between now : RunTable) (new : NodeRecord) (IsNew : Edge → Type 0) (a : Adds t between now new IsNew) (h : TableStands t) where
  -- a node that is there is another one
  other_node : (node : ℕ) → IsThere t node → Node new.id ≢ Node node
  other_node node there same =
      let is : new.id ≡ node = cc in
      not-there t new.id a.fresh (subst (IsThere t) (sym is) there)

  fresh_between : node_by_id between new.id ≡ None
  fresh_between = by_row (node_by_id between new.id) refl
    where
      by_row : (found : Option NodeRecord) → node_by_id between new.id ≡ found → found ≡ None
      by_row None e = refl
      by_row (Some later) e =
          let here = find-Some (λ r. r.id == new.id) between.nodes later e in
          let old = a.rows.back later here.0 in
          let same : old.0.id ≡ new.id = sym old.1.1.id ∙ eqb-true later.id new.id here.1 in
          absurd (not-there t new.id a.fresh (subst (IsThere t) same (there-row t h.apart old.0 old.1.0)))

  pub new_found : node_by_id now new.id ≡ Some new
  new_found = subst (λ ns. find (λ r. r.id == new.id) ns ≡ Some new) (sym a.nodes)
      (found-new (λ r. r.id == new.id) between.nodes new fresh_between (eq-eqb new.id new.id refl))

  pub later_found : (node : ℕ) (later : NodeRecord) → node_by_id between node ≡ Some later → node_by_id now node ≡ Some later
  later_found node later e = subst (λ ns. find (λ r. r.id == node) ns ≡ Some later) (sym a.nodes)
      (found-longer (λ r. r.id == node) between.nodes new later e)

  apart_now : (row : NodeRecord) → (Contains between.nodes row ⊎ (row ≡ new)) → node_by_id now row.id ≡ Some row
  apart_now row (inl old) = later_found row.id row (a.rows.apart row old)
  apart_now row (inr same) = subst (λ r. node_by_id now r.id ≡ Some r) (sym same) new_found

  pub row_cases : (row : NodeRecord) → Contains now.nodes row → Contains between.nodes row ⊎ (row ≡ new)
  row_cases row there = pushed-cases between.nodes new row (subst (λ ns. Contains ns row) a.nodes there)

  pub adds_grow : Grows t now (IsThere t) (λ row. row ≡ new) IsNew
  adds_grow = record {
    rows = λ later there. elim (row_cases later there) [
      | inl old ↦
          let was = a.rows.back later old in
          inl (record { row = was.0; there = was.1.0; kept = there-row t h.apart was.0 was.1.0; like = was.1.1 })
      | inr is_new ↦ inr is_new
    ];
    stays = λ node there.
        let both = stays-at t between a.rows node there in
        record {
          row = both.row;
          later = both.later;
          found = both.found;
          found_later = later_found node both.later both.found_later;
          like = both.like;
        };
    apart = λ row there. apart_now row (row_cases row there);
    others = λ row is_new there. not-there t new.id a.fresh (subst (λ r. IsThere t r.id) is_new there);
    one = λ x y is_x is_y. ap (λ r. r.id) (is_x ∙ sym is_y);
    edges = λ e there.
        let from = refreshed-old a.kinds a.before e (subst (λ es. Contains es e) a.derived there) in
        elim (a.cases from.edge from.there) [
          | inl is_new ↦ inr (a.like from.edge e from.same is_new)
          | inr old ↦ inl (old_edge t h.edges from.edge e old from.same)
        ];
    keeps = λ e node there is here.
        let apart : Node new.id ≢ e.parent = λ same. other_node node here (same ∙ is) in
        let to = refreshed-new a.kinds a.before e (a.keeps e there apart) in
        record { edge = to.edge; there = subst (λ es. Contains es to.edge) (sym a.derived) to.there; same = to.same };
    children = λ node role here.
        ap (child_of (Node node) role) a.derived ∙ child_of-refreshed a.kinds (Node node) role a.before
        ∙ a.children node role (other_node node here);
    goes = λ node below role here is. goes_there t h.edges node below role is;
  }

  -- of one id there is one row
  pub row_now : (a b : NodeRecord) → Contains now.nodes a → Contains now.nodes b → a.id ≡ b.id → a ≡ b
  row_now x y there_x there_y same =
      let at_x = apart_now x (row_cases x there_x) in
      let at_y = subst (λ n. node_by_id now n ≡ Some y) (sym same) (apart_now y (row_cases y there_y)) in
      cc

  -- the new edge of a node is its only one for a file
  pub one_file : (edges : List Edge) → (e : Edge) → child_of (Node new.id) File a.before ≡ Some e.child → e.parent ≡ Node new.id
      → IsFileOf now e new.id
  one_file edges e is parent =
      (parent, ap (child_of (Node new.id) File) a.derived ∙ child_of-refreshed a.kinds (Node new.id) File a.before ∙ is)

-- ---- a `file` node

module _ (t now : RunTable) (row : NodeRecord) (suits : SuitsFile t row) (nodes : now.nodes ≡ t.nodes ++ row ∷ []) (kinds : List NodeKind)
    (derived : now.edges ≡ refreshed kinds t.edges) (h : TableStands t) where
  abbrev file_adds : Adds t t now row NoEdge
  file_adds = record {
    rows = rows-same t t refl h.apart;
    nodes = nodes;
    fresh = suits.fresh;
    kinds = kinds;
    before = t.edges;
    derived = derived;
    cases = λ e there. inr there;
    like = λ a b same never. never;
    keeps = λ e there apart. there;
    children = λ node role apart. refl;
  }

  pub file_grow : Grows t now (IsThere t) (λ r. r ≡ row) NoEdge
  file_grow = adds_grow t t now row NoEdge file_adds h

  file_found : node_by_id now row.id ≡ Some row
  file_found = new_found t t now row NoEdge file_adds h

  file_rows : NewRows t now (λ r. r ≡ row)
  file_rows = record {
    drivers = λ name r is file. ap (λ x. x.kind) is ∙ suits.driver;
    names = λ r is driver. subst IsSome (sym (ap (λ x. x.filename) is ∙ suits.filename)) refl;
    own_names = λ r is. subst HasOwnName (sym is) suits.own_name;
    hidden = λ r is filter. let none = ap (λ x. filter_role x.kind) is ∙ ap filter_role suits.driver in absurd cc;
    closed = λ name r old is file over.
        let mine = sym (ap (λ x. x.filename) is) ∙ file in
        let name_is = suits.filename in
        let same : suits.name ≡ name = cc in
        subst (λ n. StandsFor t n old → ⊥) same (suits.closed old) over;
    reads = λ r is. subst (λ x. With (node_by_id now (disk_node now x.id)) (IsDiskOf now x)) (sym is)
        (own_reads now row file_found (ap filter_role suits.driver));
  }

  pub file_table : now.guests ≡ t.guests → now.devices ≡ t.devices → TableStands now
  file_table guests devices =
      grown_stands t now (IsThere t) (λ r. r ≡ row) NoEdge file_grow file_rows (no_edges t now) h
      (same_numbers t now guests devices h.numbers) (derived_acyclic now kinds t.edges derived h.acyclic)

-- ---- a format node

-- an edge of another role leaves a parent's child
pub child-role : (parent : Parent) (role : Role) (new : Edge) (edges : List Edge) → same_role new.role role ≡ false
    → child_of parent role (with_edge new edges) ≡ child_of parent role edges
child-role parent role new edges differ = ap (option_map (λ (e : Edge). e.child)) (kept edges)
  where
    fails : (e : Edge) → e.role ≡ new.role → is_edge parent role e ≡ false
    fails e same = let no_role : same_role e.role role ≡ false = rw same differ in rw no_role (and_right (same_parent e.parent parent) false refl)

    kept : (es : List Edge) → find (is_edge parent role) (with_edge new es) ≡ find (is_edge parent role) es
    kept [] = rw (fails new refl) refl
    kept (old ∷ es) = by_place (takes_place new old) refl (kept es)
      where
        by_place : (b : Bool) → takes_place new old ≡ b → find (is_edge parent role) (with_edge new es) ≡ find (is_edge parent role) es
            → find (is_edge parent role) (cond b (new ∷ es) (old ∷ with_edge new es))
            ≡ cond (is_edge parent role old) (Some old) (find (is_edge parent role) es)
        by_place true is rest = rw (fails new refl, fails old (sym (takes_place-role new old is))) refl
        by_place false is rest = ap (λ (found : Option Edge). cond (is_edge parent role old) (Some old) found) rest

backed-keeps : (id : ℕ) (backing : Option ℕ) (edges : List Edge) (e : Edge) → Node id ≢ e.parent → Contains edges e
    → Contains (with_backing_edge id backing edges) e
backed-keeps id None edges e apart there = there
backed-keeps id (Some node) edges e apart there =
    with_edge-keeps (node_edge id Backing node) edges e (apart-parents (node_edge id Backing node) e apart) there

backed-cases : (id : ℕ) (backing : Option ℕ) (edges : List Edge) (e : Edge) → Contains (with_backing_edge id backing edges) e
    → ((node : ℕ) × ((backing ≡ Some node) × (e ≡ node_edge id Backing node))) ⊎ Contains edges e
backed-cases id None edges e h = inr h
backed-cases id (Some node) edges e h = elim (Contains-with_edge (node_edge id Backing node) edges e h) [
  | inl is ↦ inl (node, (refl, is))
  | inr old ↦ inr old
]

backed-children : (id : ℕ) (backing : Option ℕ) (edges : List Edge) (node : ℕ) (role : Role) → Node id ≢ Node node
    → child_of (Node node) role (with_backing_edge id backing edges) ≡ child_of (Node node) role edges
backed-children id None edges node role apart = refl
backed-children id (Some below) edges node role apart = child-kept (Node node) role (node_edge id Backing below) edges apart

backed-file : (id : ℕ) (backing : Option ℕ) (edges : List Edge) → child_of (Node id) File (with_backing_edge id backing edges) ≡ child_of (Node id) File edges
backed-file id None edges = refl
backed-file id (Some below) edges = child-role (Node id) File (node_edge id Backing below) edges refl

-- edges of a new node are no old ones
pub new_parent : (t : RunTable) (id : ℕ) → EdgesHaveEnds t → node_by_id t id ≡ None → (e : Edge) → Contains t.edges e → Node id ≢ e.parent
new_parent t id ends fresh e there same = not-there t id fresh ((ends e there).parent id (sym same))

-- the row of a `file` node that a format node was put over
pub taken-row : (t : RunTable) (file : ℕ) (under : NodeRecord) → HaveDistinctIds t → node_by_id t file ≡ Some under → (later : NodeRecord)
    → Contains (with_unsettled file t.nodes) later → later.id ≡ file → later ≡ unsettled under
taken-row t file under apart found later there is =
    let from = Contains-map (node_changed file unsettled) t.nodes later there in
    let id_is : from.0.id ≡ file = sym (ap (λ r. r.id) from.2 ∙ (like_unsettled file from.0).id) ∙ is in
    let row_is : from.0 ≡ under = row_at_id from.0 from.1 id_is in
    let changes : node_changed file unsettled from.0 ≡ unsettled from.0 = rw (eq-eqb from.0.id file id_is) refl in
    from.2 ∙ changes ∙ ap unsettled row_is
  where
    row_at_id : (row : NodeRecord) → Contains t.nodes row → row.id ≡ file → row ≡ under
    row_at_id row row_there is =
        let at_row = subst (λ n. node_by_id t n ≡ Some row) is (apart row row_there) in
        cc

module _ (t now : RunTable) (row : NodeRecord) (file : ℕ) (backing : Option ℕ) (suits : SuitsFormat t row file backing)
    (nodes : now.nodes ≡ with_unsettled file t.nodes ++ row ∷ []) (kinds : List NodeKind)
    (derived : now.edges ≡ refreshed kinds (with_format_edges row.id file backing t.edges)) (h : TableStands t) where
  abbrev pub own_edge : Edge
  own_edge = node_edge row.id File file

  -- the edge to the file, or to the backing node
  abbrev pub IsBacked : Edge → Type 0
  IsBacked e = (node : ℕ) × ((backing ≡ Some node) × IsSameEdge (node_edge row.id Backing node) e)

  abbrev pub IsNewEdge : Edge → Type 0
  IsNewEdge e = IsSameEdge own_edge e ⊎ IsBacked e

  abbrev between : RunTable
  between = record t { nodes = with_unsettled file t.nodes }

  apart_parents : (e : Edge) → Contains t.edges e → e.parent ≢ own_edge.parent
  apart_parents e there same = new_parent t row.id h.edges suits.fresh e there (sym same)

  abbrev format_adds : Adds t between now row IsNewEdge
  format_adds = record {
    rows = rows-mapped t between (node_changed file unsettled) (like_unsettled file) refl h.apart;
    nodes = nodes;
    fresh = suits.fresh;
    kinds = kinds;
    before = with_format_edges row.id file backing t.edges;
    derived = derived;
    cases = λ e there. elim (backed-cases row.id backing (with_edge own_edge t.edges) e there) [
      | inl added ↦ inl (inr (added.0, (added.1.0, subst (IsSameEdge (node_edge row.id Backing added.0)) (sym added.1.1) (same-edge (node_edge row.id Backing added.0)))))
      | inr kept ↦ elim (Contains-with_edge own_edge t.edges e kept) [
        | inl is ↦ inl (inl (subst (IsSameEdge own_edge) (sym is) (same-edge own_edge)))
        | inr old ↦ inr old
      ]
    ];
    like = λ a b same is_new. elim is_new [
      | inl file_edge ↦ inl (like-then own_edge a b file_edge same)
      | inr backed ↦ inr (backed.0, (backed.1.0, like-then (node_edge row.id Backing backed.0) a b backed.1.1 same))
    ];
    keeps = λ e there apart. backed-keeps row.id backing (with_edge own_edge t.edges) e apart
        (with_edge-keeps own_edge t.edges e (apart-parents own_edge e apart) there);
    children = λ node role apart. backed-children row.id backing (with_edge own_edge t.edges) node role apart
        ∙ child-kept (Node node) role own_edge t.edges apart;
  }

  pub format_grow : Grows t now (IsThere t) (λ r. r ≡ row) IsNewEdge
  format_grow = adds_grow t between now row IsNewEdge format_adds h

  pub found_row : node_by_id now row.id ≡ Some row
  found_row = new_found t between now row IsNewEdge format_adds h

  -- the new node is over the file
  pub format_child : child now row.id File ≡ Some file
  format_child = (one_file t between now row IsNewEdge format_adds h [] own_edge
      (backed-file row.id backing (with_edge own_edge t.edges) ∙ child-new own_edge t.edges apart_parents) refl).1

  there_row : Contains now.nodes row
  there_row = (find-Some (λ r. r.id == row.id) now.nodes row found_row).0

  -- a row of the new node is the new one
  pub is_row : (over : NodeRecord) → Contains now.nodes over → row.id ≡ over.id → over ≡ row
  is_row over there same = row_now t between now row IsNewEdge format_adds h over row there there_row (sym same)

  -- that of the file is there without its disk
  pub is_under : (under : NodeRecord) → Contains now.nodes under → file ≡ under.id → under ≡ unsettled suits.under
  is_under under there same = elim (row_cases t between now row IsNewEdge format_adds h under there) [
    | inl old ↦ taken-row t file suits.under h.apart suits.found under old (sym same)
    | inr is_new ↦
        let id_is : row.id ≡ file = sym (ap (λ r. r.id) is_new) ∙ sym same in
        let found : node_by_id t row.id ≡ Some suits.under = subst (λ n. node_by_id t n ≡ Some suits.under) (sym id_is) suits.found in
        let fresh = suits.fresh in
        absurd cc
  ]

  parent_of : (e : Edge) → IsNewEdge e → e.parent ≡ Node row.id
  parent_of e (inl file_edge) = sym file_edge.parent
  parent_of e (inr backed) = sym backed.1.1.parent

  id_of : (e : Edge) (node : ℕ) → IsNewEdge e → e.parent ≡ Node node → row.id ≡ node
  id_of e node is_new from = let own = parent_of e is_new in cc

  still_here : (node : ℕ) → IsThere t node → IsThere now node
  still_here node there = subst IsSome (sym (format_grow.stays node there).found_later) refl

  child_here : (e : Edge) → IsNewEdge e → IsThere now e.child
  child_here e (inl file_edge) = subst (IsThere now) file_edge.child (still_here file (subst IsSome (sym suits.found) refl))
  child_here e (inr backed) = subst (IsThere now) backed.1.1.child (still_here backed.0 (suits.backed backed.0 backed.1.0).there)

  role_of : (e : Edge) → IsNewEdge e → has_role row.kind e.role ≡ true
  role_of e (inl file_edge) = subst (λ r. has_role row.kind r ≡ true) file_edge.role suits.role
  role_of e (inr backed) = subst (λ r. has_role row.kind r ≡ true) backed.1.1.role (suits.backed backed.0 backed.1.0).role

  -- of the new edges that to the file has the role
  pub of_file : (e : Edge) → IsNewEdge e → e.role ≡ File → IsSameEdge own_edge e
  of_file e (inl file_edge) is = file_edge
  of_file e (inr backed) is = let role = backed.1.1.role in absurd cc

  sole_now : (e : Edge) → Contains now.edges e → e.child ≡ file → (e.parent ≡ Node row.id) × (e.role ≡ File)
  sole_now e there is = elim (format_grow.edges e there) [
    | inl old ↦ absurd (suits.alone old.edge old.there (old.same.child ∙ is))
    | inr is_new ↦ by_new is_new
  ]
    where
      by_new : IsNewEdge e → (e.parent ≡ Node row.id) × (e.role ≡ File)
      by_new (inl file_edge) = (sym file_edge.parent, sym file_edge.role)
      by_new (inr backed) = absurd ((suits.backed backed.0 backed.1.0).other (backed.1.1.child ∙ is))

  format_rows : NewRows t now (λ r. r ≡ row)
  format_rows = record {
    drivers = λ name r is named. let none = ap (λ x. x.filename) is ∙ suits.filename in absurd cc;
    names = λ r is driver.
        let kind = sym (ap (λ x. x.kind) is) ∙ driver in
        let role : has_role row.kind File ≡ true = suits.role in
        let never : has_role Protocol File ≡ true = subst (λ k. has_role k File ≡ true) kind role in
        absurd cc;
    own_names = λ r is. subst HasOwnName (sym is) suits.own_name;
    hidden = λ r is filter. let none = ap (λ x. filter_role x.kind) is ∙ suits.format in absurd cc;
    closed = λ name r old is named over. let none = ap (λ x. x.filename) is ∙ suits.filename in cc;
    reads = λ r is. subst (λ x. With (node_by_id now (disk_node now x.id)) (IsDiskOf now x)) (sym is) (own_reads now row found_row suits.format);
  }

  format_taken : (over under : NodeRecord) (f : LeadsToFile now over under) → IsNewEdge f.edge → IsUnderOne now over under
  format_taken over under f is_new =
      let own = of_file f.edge is_new f.role in
      let over_is = is_row over f.over_there (id_of f.edge over.id is_new f.parent) in
      let under_is = is_under under f.under_there (own.child ∙ f.child) in
      record {
        gone = ap (λ r. r.is_settled) under_is;
        sole = λ e there is.
            let only = sole_now e there (is ∙ sym (own.child ∙ f.child)) in
            (only.0 ∙ ap (λ r. Node r.id) (sym over_is), only.1);
        writable = λ w. ap (λ r. r.read_only) under_is ∙ suits.writable (ap (λ r. r.read_only) (sym over_is) ∙ w);
      }

  format_free : (e : Edge) (over under : NodeRecord) → IsNewEdge e → LeadsToFile t over under → IsSome under.filename → filter_role over.kind ≡ None
      → e.child ≢ under.id
  format_free e over under (inl file_edge) f some own is = suits.alone f.edge f.there (f.child ∙ sym is ∙ sym file_edge.child)
  format_free e over under (inr backed) f some own is =
      let same : backed.0 ≡ under.id = backed.1.1.child ∙ is in
      (suits.backed backed.0 backed.1.0).free under over (subst (λ n. node_by_id t n ≡ Some under) (sym same) (h.apart under f.under_there)) some f own

  -- neither the file nor the backing node copies what is read
  format_on_top : (e : Edge) (r : NodeRecord) → IsNewEdge e → Contains now.nodes r → e.child ≡ r.id → r.kind ≢ CopyOnRead
  format_on_top e r (inl file_edge) there to =
      let here = find-Some (λ x. x.id == file) t.nodes suits.under suits.found in
      let driver = h.drivers suits.name suits.under (record { there = here.0; filename = suits.of_file }) in
      let kind : r.kind ≡ Protocol = ap (λ x. x.kind) (is_under r there (file_edge.child ∙ to)) ∙ driver in
      not_copying r.kind (ap filter_role kind)
  format_on_top e r (inr backed) there to = elim (format_grow.rows r there) [
    | inl old ↦
        let at_row = subst (λ n. node_by_id t n ≡ Some old.row) (sym (backed.1.1.child ∙ to ∙ old.like.id)) (h.apart old.row old.there) in
        subst (λ k. k ≢ CopyOnRead) (sym old.like.kind) ((suits.backed backed.0 backed.1.0).plain old.row at_row)
    | inr is_new ↦ not_copying r.kind (ap (λ x. filter_role x.kind) is_new ∙ suits.format)
  ]

  format_new_edges : NewEdges t now IsNewEdge
  format_new_edges = record {
    ends = λ e is_new. record {
      parent = λ node is. subst (IsThere now) (id_of e node is_new is) (subst IsSome (sym found_row) refl);
      child = child_here e is_new;
    };
    roles = λ e r is_new there is. subst (λ x. has_role x.kind e.role ≡ true) (sym (is_row r there (id_of e r.id is_new is))) (role_of e is_new);
    single = λ e is_new role.
        let own = of_file e is_new role in (
          row.id,
          one_file t between now row IsNewEdge format_adds h [] e
              (backed-file row.id backing (with_edge own_edge t.edges) ∙ child-new own_edge t.edges apart_parents ∙ ap Some own.child)
              (parent_of e is_new),
        );
    taken = λ over under f is_new some own. format_taken over under f is_new;
    first = λ over under f is_new some own e there to.
        suits.alone e there (to ∙ sym f.child ∙ sym (of_file f.edge is_new f.role).child);
    filtered = λ over under f is_new none.
        let own = of_file f.edge is_new f.role in
        let under_is = is_under under f.under_there (own.child ∙ f.child) in
        let named = ap (λ r. r.filename) under_is ∙ suits.of_file in
        absurd cc;
    on_top = λ e r over is_new there from to. format_on_top e r is_new there to;
    free = format_free;
  }

  pub format_table : now.guests ≡ t.guests → now.devices ≡ t.devices → TableStands now
  format_table guests devices =
      grown_stands t now (IsThere t) (λ r. r ≡ row) IsNewEdge format_grow format_rows format_new_edges h
      (same_numbers t now guests devices h.numbers)
      (derived_acyclic now kinds (with_format_edges row.id file backing t.edges) derived (format_acyclic backing refl))
    where
      one_more : IsAcyclic (with_edge own_edge t.edges)
      one_more = acyclic_put own_edge t.edges (no_way_to row.id t.edges file (unreached t row.id h.edges suits.fresh)
          (λ same. not-there t row.id suits.fresh (subst (IsThere t) same (subst IsSome (sym suits.found) refl)))) h.acyclic

      -- nothing leads to the new node
      none_to : (e : Edge) → Contains (with_edge own_edge t.edges) e → e.child ≢ row.id
      none_to e there same = elim (Contains-with_edge own_edge t.edges e there) [
        | inl is ↦
            not-there t row.id suits.fresh
            (subst (IsThere t) (ap (λ x. x.child) (sym is) ∙ same) (subst IsSome (sym suits.found) refl))
        | inr old ↦ unreached t row.id h.edges suits.fresh e old same
      ]

      format_acyclic : (below : Option ℕ) → backing ≡ below → IsAcyclic (with_backing_edge row.id below (with_edge own_edge t.edges))
      format_acyclic None is = one_more
      format_acyclic (Some node) is =
          acyclic_put (node_edge row.id Backing node) (with_edge own_edge t.edges)
          (no_way_to row.id (with_edge own_edge t.edges) node none_to
          (λ same. not-there t row.id suits.fresh (subst (IsThere t) same (suits.backed node is).there))) one_more

-- ---- a filter that copies what is read

file_role : (kind : Kind) → filter_role kind ≡ Some File → has_role kind File ≡ true
file_role Protocol h = absurd cc
file_role Raw h = absurd cc
file_role Qcow2 h = absurd cc
file_role CopyOnRead h = refl
file_role BeforeWrite h = absurd cc
file_role Mirror h = absurd cc
file_role Commit h = absurd cc

-- a node over one that reads by itself reads as that
pub over_own : (t : RunTable) (node below : ℕ) → filtered t node ≡ Some below → filtered t below ≡ None → disk_node t node ≡ below
unfolding disk_node
over_own t node below over own = from_two 62 over own
  where
    from_two : (more : ℕ) → filtered t node ≡ Some below → filtered t below ≡ None → disk_from (suc (suc more)) t node ≡ below
    from_two more over own = rw (over, own, disk_from) refl

module _ (t now : RunTable) (row : NodeRecord) (child : ℕ) (suits : SuitsFilter t row child)
    (nodes : now.nodes ≡ t.nodes ++ row ∷ []) (kinds : List NodeKind)
    (derived : now.edges ≡ refreshed kinds (with_edge (node_edge row.id File child) t.edges)) (h : TableStands t) where
  abbrev pub new_filter_edge : Edge
  new_filter_edge = node_edge row.id File child

  abbrev pub IsNewFilterEdge : Edge → Type 0
  IsNewFilterEdge e = IsSameEdge new_filter_edge e

  apart_from : (e : Edge) → Contains t.edges e → e.parent ≢ new_filter_edge.parent
  apart_from e there same = new_parent t row.id h.edges suits.fresh e there (sym same)

  abbrev filter_adds : Adds t t now row IsNewFilterEdge
  filter_adds = record {
    rows = rows-same t t refl h.apart;
    nodes = nodes;
    fresh = suits.fresh;
    kinds = kinds;
    before = with_edge new_filter_edge t.edges;
    derived = derived;
    cases = λ e there. elim (Contains-with_edge new_filter_edge t.edges e there) [
      | inl is ↦ inl (subst (IsSameEdge new_filter_edge) (sym is) (same-edge new_filter_edge))
      | inr old ↦ inr old
    ];
    like = λ a b same is_new. like-then new_filter_edge a b is_new same;
    keeps = λ e there apart. with_edge-keeps new_filter_edge t.edges e (apart-parents new_filter_edge e apart) there;
    children = λ node role apart. child-kept (Node node) role new_filter_edge t.edges apart;
  }

  pub filter_grow : Grows t now (IsThere t) (λ r. r ≡ row) IsNewFilterEdge
  filter_grow = adds_grow t t now row IsNewFilterEdge filter_adds h

  filter_found : node_by_id now row.id ≡ Some row
  filter_found = new_found t t now row IsNewFilterEdge filter_adds h

  is_filter : (over : NodeRecord) → Contains now.nodes over → row.id ≡ over.id → over ≡ row
  is_filter over there same =
      row_now t t now row IsNewFilterEdge filter_adds h over row there (find-Some (λ r. r.id == row.id) now.nodes row filter_found).0 (sym same)

  child_found : node_by_id now child ≡ Some suits.under
  child_found = later_found t t now row IsNewFilterEdge filter_adds h child suits.under suits.found

  pub is_child : (under : NodeRecord) → Contains now.nodes under → child ≡ under.id → under ≡ suits.under
  is_child under there same =
      let here = find-Some (λ r. r.id == child) now.nodes suits.under child_found in
      row_now t t now row IsNewFilterEdge filter_adds h under suits.under there here.0 (sym same ∙ sym (eqb-true suits.under.id child here.1))

  own_file : IsFileOf now new_filter_edge row.id
  own_file = one_file t t now row IsNewFilterEdge filter_adds h [] new_filter_edge (child-new new_filter_edge t.edges apart_from) refl

  pub filter_disk : node_by_id now (disk_node now row.id) ≡ Some suits.under
  filter_disk =
      let over : filtered now row.id ≡ Some child = rw (filter_found, suits.filter) own_file.1 in
      let own : filtered now child ≡ None = rw (child_found, suits.own) refl in
      ap (node_by_id now) (over_own now row.id child over own) ∙ child_found

  filter_reads : With (node_by_id now (disk_node now row.id)) (IsDiskOf now row)
  filter_reads =
      with_at (IsDiskOf now row) (node_by_id now (disk_node now row.id)) suits.under filter_disk (record {
        own = suits.own;
        itself = λ some. absurd (let none = subst IsSome suits.no_file some in cc);
        writable = λ w. suits.writable;
      })

  filter_rows : NewRows t now (λ r. r ≡ row)
  filter_rows = record {
    drivers = λ name r is named. let none = ap (λ x. x.filename) is ∙ suits.filename in absurd cc;
    names = λ r is driver.
        let kind = sym (ap (λ x. x.kind) is) ∙ driver in
        let filter = suits.filter in
        absurd (let none = rw kind at filter in cc);
    own_names = λ r is. subst HasOwnName (sym is) suits.own_name;
    hidden = λ r is filter. let other = ap (λ x. filter_role x.kind) is ∙ suits.filter in absurd cc;
    closed = λ name r old is named over. let none = ap (λ x. x.filename) is ∙ suits.filename in cc;
    reads = λ r is. subst (λ x. With (node_by_id now (disk_node now x.id)) (IsDiskOf now x)) (sym is) filter_reads;
  }

  over_is : (e : Edge) (node : ℕ) → IsNewFilterEdge e → e.parent ≡ Node node → row.id ≡ node
  over_is e node is_new from = let own = is_new.parent in cc

  no_name : {over : NodeRecord} (under : NodeRecord) (f : LeadsToFile now over under) → IsNewFilterEdge f.edge → IsSome under.filename → ⊥
  no_name under f is_new some =
      let none = ap (λ r. r.filename) (is_child under f.under_there (is_new.child ∙ f.child)) ∙ suits.no_file in
      let some_none = subst IsSome none some in
      cc

  filter_new_edges : NewEdges t now IsNewFilterEdge
  filter_new_edges = record {
    ends = λ e is_new. record {
      parent = λ node is. subst (IsThere now) (over_is e node is_new is) (subst IsSome (sym filter_found) refl);
      child = subst (IsThere now) is_new.child (subst IsSome (sym child_found) refl);
    };
    roles = λ e r is_new there is. subst (λ x. has_role x.kind e.role ≡ true) (sym (is_filter r there (over_is e r.id is_new is)))
        (subst (λ x. has_role row.kind x ≡ true) is_new.role (file_role row.kind suits.filter));
    single = λ e is_new role. (row.id, (sym is_new.parent, own_file.1 ∙ ap Some is_new.child));
    taken = λ over under f is_new some own. absurd (no_name under f is_new some);
    first = λ over under f is_new some own. absurd (no_name under f is_new some);
    filtered = λ over under f is_new none.
        let same = is_filter over f.over_there (over_is f.edge over.id is_new f.parent) in
        subst IsSome (sym (ap (λ r. filter_role r.kind) same ∙ suits.filter)) refl;
    on_top = λ e r over is_new there from to.
        not_copying r.kind (ap (λ x. filter_role x.kind) (is_child r there (is_new.child ∙ to)) ∙ suits.own);
    free = λ e over under is_new f some own is.
        let same : child ≡ under.id = is_new.child ∙ is in
        let at_child = subst (λ n. node_by_id t n ≡ Some under) (sym same) (h.apart under f.under_there) in
        let found = suits.found in
        let row_is : under ≡ suits.under = cc in
        let none = ap (λ r. r.filename) row_is ∙ suits.no_file in
        let some_none = subst IsSome none some in
        cc;
  }

  pub filter_table : now.guests ≡ t.guests → now.devices ≡ t.devices → TableStands now
  filter_table guests devices =
      grown_stands t now (IsThere t) (λ r. r ≡ row) IsNewFilterEdge filter_grow filter_rows filter_new_edges h
      (same_numbers t now guests devices h.numbers)
      (derived_acyclic now kinds (with_edge new_filter_edge t.edges) derived
      (acyclic_put new_filter_edge t.edges (no_way_to row.id t.edges child (unreached t row.id h.edges suits.fresh)
      (λ same. not-there t row.id suits.fresh (subst (IsThere t) same (subst IsSome (sym suits.found) refl)))) h.acyclic))

-- ---- a node that goes

abbrev pub IsOther : RunTable → ℕ → ℕ → Type 0
IsOther t gone node = IsThere t node × (node ≢ gone)

passes : (b : Bool) → not b ≡ true → b ≡ false
passes true e = absurd cc
passes false e = refl

module _ (t now : RunTable) (node : ℕ) (alone : IsAlone t node) (nodes : now.nodes ≡ without_record node t.nodes) (kinds : List NodeKind)
    (derived : now.edges ≡ refreshed kinds (without_parent (Node node) t.edges)) (h : TableStands t) where
  pub kept_row : (row : NodeRecord) → Contains now.nodes row → Contains t.nodes row × (row.id ≢ node)
  kept_row row there =
      let old = Contains-filter (λ r. not (r.id == node)) t.nodes row (subst (λ ns. Contains ns row) nodes there) in
      (old.0, eqb-false row.id node (passes (row.id == node) old.1))

  found_still : (other : ℕ) → other ≢ node → node_by_id now other ≡ node_by_id t other
  found_still other differ = ap (find (λ r. r.id == other)) nodes
      ∙ find-filter (λ r. r.id == other) (λ r. not (r.id == node))
      (λ r e. ap not (ne_eqb r.id node (λ same. differ (sym (eqb-true r.id other e) ∙ same)))) t.nodes

  kept_parent : (e : Edge) → Contains (without_parent (Node node) t.edges) e → Contains t.edges e × (e.parent ≢ Node node)
  kept_parent e there =
      let old = Contains-filter (λ x. not (same_parent x.parent (Node node))) t.edges e there in (
        old.0,
        λ is. (
            let same : same_parent e.parent (Node node) ≡ true = rw is (eq-eqb node node refl) in
            let differ = passes (same_parent e.parent (Node node)) old.1 in
            cc),
      )

  goes_on : (other below : ℕ) (role : Role) → IsOther t node other → child t other role ≡ Some below → IsOther t node below
  goes_on other below role here is =
      let e = child-edge (Node other) role t.edges below is in
      (goes_there t h.edges other below role is, λ same. alone e.edge e.there (e.to ∙ same))

  pub removed_grow : Grows t now (IsOther t node) NoRow NoEdge
  removed_grow = record {
    rows = λ later there.
        let old = kept_row later there in
        inl (record { row = later; there = old.0; kept = (there-row t h.apart later old.0, old.1); like = like-itself later });
    stays = λ other here. at_other other here (node_by_id t other) refl here.0;
    apart = λ row there. let old = kept_row row there in found_still row.id old.1 ∙ h.apart row old.0;
    others = λ row never here. never;
    one = λ a b never other. absurd never;
    edges = λ e there.
        let from = refreshed-old kinds (without_parent (Node node) t.edges) e (subst (λ es. Contains es e) derived there) in
        let old = kept_parent from.edge from.there in
        let ends = h.edges from.edge old.0 in
        inl (record {
          edge = from.edge;
          there = old.0;
          same = from.same;
          parent = λ other is. (ends.parent other is, λ same. old.1 (is ∙ ap Node same));
          child = (ends.child, alone from.edge old.0);
        });
    keeps = λ e other there is here.
        let differ : same_parent e.parent (Node node) ≡ false = by_parent e.parent is here.1 in
        let kept = filter-keeps (λ x. not (same_parent x.parent (Node node))) t.edges e (ap not differ) there in
        let to = refreshed-new kinds (without_parent (Node node) t.edges) e kept in
        record { edge = to.edge; there = subst (λ es. Contains es to.edge) (sym derived) to.there; same = to.same };
    children = λ other role here.
        ap (child_of (Node other) role) derived ∙ child_of-refreshed kinds (Node other) role (without_parent (Node node) t.edges)
        ∙ child-without (Node node) (Node other) role t.edges (λ same. here.1 (let is : node ≡ other = cc in sym is));
    goes = goes_on;
  }
    where
      at_other : (other : ℕ) → IsOther t node other → (found : Option NodeRecord) → node_by_id t other ≡ found → IsSome found
          → BothAt t now other
      at_other other here None e some = absurd cc
      at_other other here (Some row) e some = record {
        row = row;
        later = row;
        found = e;
        found_later = found_still other here.1 ∙ e;
        like = like-itself row;
      }

      by_parent : {other : ℕ} (parent : Parent) → parent ≡ Node other → other ≢ node → same_parent parent (Node node) ≡ false
      by_parent {other} parent is differ = rw is (ne_eqb other node differ)

  pub removed_table : now.guests ≡ t.guests → now.devices ≡ t.devices → TableStands now
  removed_table guests devices =
      grown_stands t now (IsOther t node) NoRow NoEdge removed_grow (no_rows t now) (no_edges t now) h
      (same_numbers t now guests devices h.numbers)
      (derived_acyclic now kinds (without_parent (Node node) t.edges) derived
      (acyclic_fewer (λ x. not (same_parent x.parent (Node node))) t.edges h.acyclic))

-- ---- a device

module _ (t now : RunTable) (device : DeviceRow) (node : ℕ) (suits : SuitsDevice t device node) (nodes : now.nodes ≡ t.nodes)
    (kinds : List NodeKind) (derived : now.edges ≡ refreshed kinds (with_edge (device_edge device node) t.edges)) (h : TableStands t) where
  abbrev pub drive : Edge
  drive = device_edge device node

  abbrev pub IsDriveEdge : Edge → Type 0
  IsDriveEdge e = IsSameEdge drive e

  no_node : (e : Edge) (other : ℕ) → IsDriveEdge e → e.parent ≡ Node other → ⊥
  no_node e other is_new is = let from = is_new.parent in cc

  pub device_grow : Grows t now (IsThere t) NoRow IsDriveEdge
  device_grow = record {
    rows = (rows_grow t same_rows (rows-same t same_rows nodes h.apart) refl h).rows;
    stays = stays-at t now (rows-same t now nodes h.apart);
    apart = (rows-same t now nodes h.apart).apart;
    others = λ row never here. never;
    one = λ a b never other. absurd never;
    edges = λ e there.
        let from = refreshed-old kinds (with_edge drive t.edges) e (subst (λ es. Contains es e) derived there) in
        elim (Contains-with_edge drive t.edges from.edge from.there) [
          | inl is ↦ inr (subst (λ x. IsSameEdge x e) is from.same)
          | inr old ↦ inl (old_edge t h.edges from.edge e old from.same)
        ];
    keeps = λ e other there is here.
        let apart : drive.parent ≢ e.parent = λ same. (let from = same ∙ is in cc) in
        let to = refreshed-new kinds (with_edge drive t.edges) e (with_edge-keeps drive t.edges e (apart-parents drive e apart) there) in
        record { edge = to.edge; there = subst (λ es. Contains es to.edge) (sym derived) to.there; same = to.same };
    children = λ other role here.
        ap (child_of (Node other) role) derived ∙ child_of-refreshed kinds (Node other) role (with_edge drive t.edges)
        ∙ child-kept (Node other) role drive t.edges (λ same. cc);
    goes = λ other below role here is. goes_there t h.edges other below role is;
  }
    where
      same_rows : RunTable
      same_rows = record now { edges = t.edges }

  device_new_edges : NewEdges t now IsDriveEdge
  device_new_edges = record {
    ends = λ e is_new. record {
      parent = λ other is. absurd (no_node e other is_new is);
      child = subst (IsThere now) is_new.child (subst (λ ns. IsSome (find (λ r. r.id == node) ns)) (sym nodes) suits.there);
    };
    roles = λ e r is_new there is. absurd (no_node e r.id is_new is);
    single = λ e is_new role. absurd (let is = is_new.role in cc);
    taken = λ over under f is_new some own. absurd (no_node f.edge over.id is_new f.parent);
    first = λ over under f is_new some own. absurd (no_node f.edge over.id is_new f.parent);
    filtered = λ over under f is_new none. absurd (no_node f.edge over.id is_new f.parent);
    on_top = λ e r over is_new there from. absurd (no_node e over is_new from);
    free = λ e over under is_new f some own is.
        let same : node ≡ under.id = is_new.child ∙ is in
        suits.free under over (subst (λ n. node_by_id t n ≡ Some under) (sym same) (h.apart under f.under_there)) some f own;
  }

  pub device_table : now.guests ≡ t.guests → now.devices ≡ t.devices ++ device ∷ [] → TableStands now
  device_table guests devices =
      grown_stands t now (IsThere t) NoRow IsDriveEdge device_grow (no_rows t now) device_new_edges h numbers
      (derived_acyclic now kinds (with_edge drive t.edges) derived (acyclic_put drive t.edges (λ back. back) h.acyclic))
    where
      numbers : AreNumbered now
      numbers other there = elim (pushed-cases t.devices device other (subst (λ ds. Contains ds other) devices there)) [
        | inl old ↦ subst (λ gs. HasDeviceNumber gs other) (sym guests) (h.numbers other old)
        | inr is ↦ subst (λ gs. HasDeviceNumber gs other) (sym guests) (subst (HasDeviceNumber t.guests) (sym is) suits.number)
      ]
