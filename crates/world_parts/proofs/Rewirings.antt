-- Kinds and edges of the table to which a list of changes leads that leave which nodes there are: where these edges keep the permission rule, the
-- nodes may take them.
use Rattle.std.proofs.Common.{◌≡◌, ◌≢◌, ℕ, true, List, Option, Some, None, refl, sym, ◌∙◌, ap, subst, inl, inr, arith}
use Rattle.std.specs.Prelude.{◌==◌, Contains, IsSome, find, option_map}
use Rattle.std.proofs.lemmas.Bool.{eqb-true}
use Rattle.blk_graph.specs.declared.edge.Conflict.{Conflict}
use Rattle.blk_graph.specs.declared.edge.Edge.{Edge}
use Rattle.blk_graph.specs.declared.edge.Parent.{Parent}
use Rattle.blk_graph.specs.declared.edge.Parent.TheVariants.{Node}
use Rattle.blk_graph.specs.declared.edge.Role.{Role}
use Rattle.blk_graph.specs.declared.edge.Role.TheVariants.{File as FileRole, Backing, Filtered, Between}
use Rattle.blk_graph.specs.declared.kind.Kind.{Kind}
use Rattle.blk_graph.specs.declared.kind.Kind.TheVariants as kinds
use Rattle.blk_graph.specs.declared.kind.NodeKind.{NodeKind}
use Rattle.blk_graph.specs.Edges.{DifferInPlace, same_parent, same_role}
use Rattle.blk_graph.specs.Edits.{child_of, is_edge}
use Rattle.blk_graph.specs.Graph.{Graph, HasNode, IsFit, IsSoundGraph}
use Rattle.blk_graph.specs.Permissions.{has_role}
use Rattle.blk_graph.specs.Refreshed.{kind_at, no_kind, IsRefreshed}
use Rattle.blk_graph.specs.Rule.{first_conflict}
use Rattle.blk_graph.proofs.CycleLemmas.{and-left, and-right, same_parent-true}
use Rattle.blk_graph.proofs.Members.{find-Some, map-Contains}
use Rattle.blk_graph.proofs.RoleLemmas.{same_role-refl, same_role-true}
use Rattle.blk_graph.proofs.RuleLemmas.{find-None, KeepsPermissions-from_None}
use Rattle.blk_graph.proofs.InverseLemmas.{same_parent-refl}
use Rattle.qmp_rules.specs.Answers.{conflict_in, conflict_refusal}
use Rattle.qmp_rules.specs.Changes.{all_changed}
use Rattle.qmp_rules.specs.Chains.{filter_role, filtered, disk_node}
use Rattle.qmp_rules.specs.Edits.{node_ids}
use Rattle.qmp_rules.specs.Fitting.{AllChangesFit}
use Rattle.qmp_rules.specs.Table.{RunTable, child, kinds_of, node_by_id}
use Rattle.qmp_rules.specs.declared.change.Change.{Change}
use Rattle.qmp_rules.specs.declared.rows.NodeRecord.{NodeRecord}
use Rattle.blk_history.specs.Fold.{With}
use Rattle.flat_machine.specs.Rewiring.{AllKeepNodes}
use Rattle.flat_machine.specs.Suiting.{IsThere, AllTableSuit}
use Rattle.flat_machine.specs.Wiring.{IsDiskOf, TableStands}
use Rattle.flat_machine.proofs.Redirected.{disk_of_none}
use Rattle.flat_machine.proofs.Redrawn.{AreSized, IsDrawn, IsSameNode, AreSameNode, Keeps, keeps_size, changes_keep_nodes, was_node, was_there}
use Rattle.flat_machine.proofs.RowKinds.{kind_or, kind_by, kind_of_none, length-kinds_of}
use Rattle.flat_machine.proofs.TableRests.{all_keep}
use Rattle.flat_machine.proofs.WritingKept.{role_edge}
use Rattle.blk_nodes.specs.Joined.{HasBelow, HasSize, IsJoined, IsSized}
use Rattle.blk_nodes.specs.Nodes.{Nodes, row_at, driver_kind}
use Rattle.blk_nodes.specs.Rewiring.{rewired, IsWiring}
use Rattle.blk_nodes.specs.declared.row.Driver.{Driver}
use Rattle.blk_nodes.specs.declared.row.Driver.TheVariants.{File, Raw, Qcow2, CopyOnRead, Filter}
use Rattle.blk_nodes.specs.declared.row.Row.{Row}
use Rattle.blk_nodes.proofs.Rewired.{file_then, size_then, sizes_same}
use Rattle.world_parts.specs.Coherent.{AreAlike, AreNodesOf, IsRowOf}
use Rattle.world_parts.proofs.DeletedLists.{pairs}
use Rattle.world_parts.proofs.TableKinds.{kinds_alike}
use Rattle.world_parts.proofs.JobFilters.{filtered_role, filter_keeps}

-- ---- table and nodes

-- the row of a table's node
pub record HasRowOf (nodes : Nodes) (n : ℕ) (listed : NodeRecord) : Type 0 where
  pub row : Row
  pub there : row_at nodes n ≡ Some row
  pub is : IsRowOf listed row

row_of : (t : RunTable) (nodes : Nodes) → AreNodesOf t nodes → (n : ℕ) (listed : NodeRecord) → node_by_id t n ≡ Some listed → HasRowOf nodes n listed
row_of t nodes alike n listed found =
    by_row (row_at nodes n) refl (subst (λ (x : Option NodeRecord). AreAlike x (row_at nodes n)) found (alike.rows n))
  where
    by_row : (row : Option Row) → row_at nodes n ≡ row → AreAlike (Some listed) row → HasRowOf nodes n listed
    by_row None there bad = absurd bad
    by_row (Some row) there is = record { row = row; there = there; is = is }

-- and what a table says of a row
pub record IsListedAs (t : RunTable) (n : ℕ) (row : Row) : Type 0 where
  pub listed : NodeRecord
  pub found : node_by_id t n ≡ Some listed
  pub is : IsRowOf listed row

listed_as : (t : RunTable) (nodes : Nodes) → AreNodesOf t nodes → (n : ℕ) (row : Row) → row_at nodes n ≡ Some row → IsListedAs t n row
listed_as t nodes alike n row there = by_row (node_by_id t n) refl (subst (AreAlike (node_by_id t n)) there (alike.rows n))
  where
    by_row : (listed : Option NodeRecord) → node_by_id t n ≡ listed → AreAlike listed (Some row) → IsListedAs t n row
    by_row None found bad = absurd bad
    by_row (Some listed) found is = record { listed = listed; found = found; is = is }

some_of : {A : Type 0} (found : Option A) → IsSome found → (a : A) × (found ≡ Some a)
some_of None some = absurd cc
some_of (Some a) some = (a, refl)

own_id : (t : RunTable) (n : ℕ) (listed : NodeRecord) → node_by_id t n ≡ Some listed → listed.id ≡ n
own_id t n listed found = eqb-true listed.id n (find-Some (λ (r : NodeRecord). r.id == n) t.nodes listed found).1

-- ---- edges

-- of a parent one edge leads to its child of a role
only_child : (g : Graph) → IsSoundGraph g → (e : Edge) → Contains g.edges e → e.role ≢ Between → child_of e.parent e.role g.edges ≡ Some e.child
only_child g sound e there single = ap (option_map (λ (x : Edge). x.child)) (by_found (find (is_edge e.parent e.role) g.edges) refl)
  where
    own : is_edge e.parent e.role e ≡ true
    own = rw (same_parent-refl e.parent, same_role-refl e.role) refl

    by_found : (found : Option Edge) → find (is_edge e.parent e.role) g.edges ≡ found → found ≡ Some e
    by_found None is = let yes = own in let no = find-None (is_edge e.parent e.role) g.edges is e there in absurd cc
    by_found (Some x) is =
        let passed = find-Some (is_edge e.parent e.role) g.edges x is in
        let parents : x.parent ≡ e.parent =
        same_parent-true x.parent e.parent (and-left (same_parent x.parent e.parent) (same_role x.role e.role) passed.1) in
        let roles : x.role ≡ e.role = same_role-true x.role e.role (and-right (same_parent x.parent e.parent) (same_role x.role e.role) passed.1) in
        elim (pairs DifferInPlace g.edges x e sound.fit.places passed.0 there) [
          | inl same ↦ ap (λ (y : Edge). Some y) same
          | inr differ ↦ elim differ [
            | inl first ↦ absurd (single (sym roles ∙ (first parents roles).0))
            | inr second ↦ absurd (single (second (sym parents) (sym roles)).0)
          ]
        ]

-- ---- before the changes

module _ (t : RunTable) (nodes : Nodes) (stands : TableStands t) (alike : AreNodesOf t nodes) (joined : IsJoined nodes) where
  is_node : (n : ℕ) → IsThere t n → HasNode nodes.graph n
  is_node n there =
      let found = some_of (node_by_id t n) there in
      joined.only n (subst IsSome (sym (row_of t nodes alike n found.0 found.1).there) refl)

  is_listed : (n : ℕ) → HasNode nodes.graph n → IsThere t n
  is_listed n has =
      let found = some_of (row_at nodes n) (joined.there n has) in
      subst IsSome (sym (listed_as t nodes alike n found.0 found.1).found) refl

  -- the table's edges are the graph's
  were_drawn : IsDrawn nodes.graph t
  were_drawn =
      let same : nodes.graph.kinds ≡ kinds_of t.nodes = sym (kinds_alike t nodes joined stands.apart alike.rows) in
      record {
        fit = subst (λ (ks : List NodeKind). IsFit (record nodes.graph { kinds = ks }) t.edges) same
            (subst (IsFit nodes.graph) alike.edges joined.sound.fit);
        derived = subst (λ (ks : List NodeKind). IsRefreshed ks t.edges) same
            (subst (IsRefreshed nodes.graph.kinds) alike.edges joined.sound.just.refreshed);
      }

  -- and below each node is what it needs
  were_sized : AreSized t
  were_sized e there over under over_at under_at from to keeps =
      by_driver a.row.driver (joined.below over.id a.row a.there) (joined.sized over.id a.row a.there) e.role refl
      (subst (λ (k : Kind). has_role k e.role ≡ true) a.is.kind has) (subst (λ (k : Kind). keeps_size k e.role ≡ true) a.is.kind keeps)
    where
      a : HasRowOf nodes over.id over
      a = row_of t nodes alike over.id over over_at

      b : HasRowOf nodes under.id under
      b = row_of t nodes alike under.id under under_at

      has : has_role over.kind e.role ≡ true
      has = stands.roles e over there (find-Some (λ (r : NodeRecord). r.id == over.id) t.nodes over over_at).0 from

      leads : (role : Role) → e.role ≡ role → role ≢ Between → child_of (Node over.id) role nodes.graph.edges ≡ Some under.id
      leads role is single =
          ap (λ (p : Parent). child_of p role nodes.graph.edges) (sym from)
          ∙ ap (λ (r : Role). child_of e.parent r nodes.graph.edges) (sym is)
          ∙ only_child nodes.graph joined.sound e (subst (λ (es : List Edge). Contains es e) (sym alike.edges) there) (λ same. single (sym is ∙ same))
          ∙ ap (λ (n : ℕ). Some n) to

      sized : (n size : ℕ) → n ≡ under.id → HasSize nodes n size → size ≡ a.row.size → under.size ≡ over.size
      sized n size at below own =
          let found : row_at nodes under.id ≡ Some below.row = subst (λ (m : ℕ). row_at nodes m ≡ Some below.row) at below.there in
          let here = b.there in
          let same : b.row ≡ below.row = cc in
          b.is.size ∙ ap (λ (r : Row). r.size) same ∙ below.is ∙ own ∙ sym a.is.size

      by_driver : (d : Driver) → HasBelow nodes over.id a.row.size d → IsSized a.row.size d → (role : Role) → e.role ≡ role
          → has_role (driver_kind d) role ≡ true → keeps_size (driver_kind d) role ≡ true → under.size ≡ over.size
      by_driver File below own role is may must = absurd cc
      by_driver (Raw part) below own FileRole is may must = absurd cc
      by_driver (Raw part) below own role is may must = absurd cc
      by_driver (Qcow2 image) below own Backing is may must =
          sized under.id image.header.size refl (below.backing under.id (leads Backing is (λ same. cc))) own
      by_driver (Qcow2 image) below own FileRole is may must = absurd cc
      by_driver (Qcow2 image) below own role is may must = absurd cc
      by_driver CopyOnRead below own FileRole is may must =
          let edge = below.edge in
          let child = leads FileRole is (λ same. cc) in
          let at : below.child ≡ under.id = cc in
          sized below.child a.row.size at below.same refl
      by_driver CopyOnRead below own role is may must = absurd cc
      by_driver (Filter kind) below own role is may must =
          sized under.id a.row.size refl (below under.id (leads Filtered (is ∙ filtered_role kind role may) (λ same. cc))) refl

  -- ---- behind them

  module _ (changes : List Change) (keep : AllKeepNodes changes) (suits : AllTableSuit t changes) (fits : AllChangesFit t changes)
      (none : conflict_in (all_changed t changes) ≡ None) where
    abbrev u : RunTable
    u = all_changed t changes

    kept : Keeps nodes.graph t u
    kept = changes_keep_nodes nodes.graph joined.sound.small changes t is_node stands keep suits fits

    still : TableStands u
    still = all_keep changes t suits stands

    drawn : IsDrawn nodes.graph u
    drawn = kept.drawn were_drawn

    no_conflict : first_conflict (node_ids u) u.edges ≡ None
    unfolding conflict_in
    no_conflict = by_pair (first_conflict (node_ids u) u.edges) none
      where
        by_pair : (found : Option Conflict) → option_map (conflict_refusal u) found ≡ None → found ≡ None
        by_pair None is = refl
        by_pair (Some pair) is = absurd cc

    child_listed : (e : Edge) → Contains u.edges e → Contains (node_ids u) e.child
    child_listed e there =
        let found = some_of (node_by_id u e.child) (still.edges e there).child in
        let here = find-Some (λ (r : NodeRecord). r.id == e.child) u.nodes found.0 found.1 in
        subst (Contains (node_ids u)) (eqb-true found.0.id e.child here.1) (map-Contains (λ (r : NodeRecord). r.id) u.nodes found.0 here.0)

    sound : IsSoundGraph (record nodes.graph { kinds = kinds_of u.nodes; edges = u.edges })
    sound = record {
      different_nodes = joined.sound.different_nodes;
      different_names = joined.sound.different_names;
      few_nodes = joined.sound.few_nodes;
      small = joined.sound.small;
      kinds = length-kinds_of u.nodes;
      vacant = λ n absent. by_row n absent (node_by_id u n) refl;
      fit = record {
        each = λ e there. let fits = drawn.fit.each e there in record { parent = fits.parent; child = fits.child; table = fits.table };
        places = drawn.fit.places;
      };
      just = record {
        acyclic = still.acyclic;
        refreshed = drawn.derived;
        rule = KeepsPermissions-from_None (node_ids u) u.edges child_listed no_conflict;
      };
    }
      where
        by_row : (n : ℕ) → (HasNode nodes.graph n → ⊥) → (found : Option NodeRecord) → node_by_id u n ≡ found → kind_at (kinds_of u.nodes) n ≡ no_kind
        by_row n absent None is = kind_of_none u n is
        by_row n absent (Some row) is = absurd (absent (is_node n (was_there t u kept.nodes n (subst IsSome (sym is) refl))))

    -- ---- a node of them

    module _ (n : ℕ) (row : Row) (there : row_at nodes n ≡ Some row) where
      own : IsListedAs t n row
      own = listed_as t nodes alike n row there

      -- what the table says of it then
      record IsLater : Type 0 where
        later : NodeRecord
        found : node_by_id u n ≡ Some later
        same : IsSameNode own.listed later

      is_later : IsLater
      is_later =
          by_row (node_by_id u n) refl (subst (λ (x : Option NodeRecord). AreSameNode x (node_by_id u n)) own.found (kept.nodes n))
        where
          by_row : (found : Option NodeRecord) → node_by_id u n ≡ found → AreSameNode (Some own.listed) found → IsLater
          by_row None found bad = absurd bad
          by_row (Some later) found same = record { later = later; found = found; same = same }

      kind_later : is_later.later.kind ≡ driver_kind row.driver
      kind_later = is_later.same.kind ∙ own.is.kind

      kind_is : (kind_at (kinds_of u.nodes) n).kind ≡ driver_kind row.driver
      kind_is =
          ap (λ (k : NodeKind). k.kind)
          (kind_by u n still.apart (joined.sound.small n (joined.only n (subst IsSome (sym there) refl))) ∙ ap (kind_or no_kind) is_later.found)
          ∙ kind_later

      later_there : Contains u.nodes is_later.later
      later_there = (find-Some (λ (r : NodeRecord). r.id == n) u.nodes is_later.later is_later.found).0

      -- a format node has its file
      file_same : filter_role (driver_kind row.driver) ≡ None → child_of (Node n) FileRole u.edges ≡ child_of (Node n) FileRole nodes.graph.edges
      file_same format =
          let id_is = own_id t n own.listed own.found in
          let found : node_by_id t own.listed.id ≡ Some own.listed = subst (λ (m : ℕ). node_by_id t m ≡ Some own.listed) (sym id_is) own.found in
          ap (λ (m : ℕ). child u m FileRole) (sym id_is) ∙ kept.files own.listed found (ap filter_role own.is.kind ∙ format)
          ∙ ap (λ (m : ℕ). child t m FileRole) id_is ∙ ap (child_of (Node n) FileRole) (sym alike.edges)

      -- what an edge leads to that keeps sizes has the node's size
      below_sized : (role : Role) (below : ℕ) → child_of (Node n) role u.edges ≡ Some below → keeps_size (driver_kind row.driver) role ≡ true
          → HasSize (rewired (kinds_of u.nodes) u.edges nodes) below row.size
      below_sized role below is keeps =
          let e = role_edge (Node n) role u.edges below is in
          let ends = still.edges e.edge e.there in
          let found = some_of (node_by_id u below) (subst (IsThere u) e.to ends.child) in
          let was = was_node t u kept.nodes below found.0 found.1 in
          let under = row_of t nodes alike below was.row was.found in
          let own_is = own_id u n is_later.later is_later.found in
          let under_is = own_id u below found.0 found.1 in
          let size : found.0.size ≡ is_later.later.size = kept.sized were_sized e.edge e.there is_later.later found.0
          (subst (λ (m : ℕ). node_by_id u m ≡ Some is_later.later) (sym own_is) is_later.found)
          (subst (λ (m : ℕ). node_by_id u m ≡ Some found.0) (sym under_is) found.1)
          (e.from ∙ ap Node (sym own_is)) (e.to ∙ sym under_is)
          (subst (λ (k : Kind). keeps_size k e.edge.role ≡ true) (sym kind_later)
          (subst (λ (r : Role). keeps_size (driver_kind row.driver) r ≡ true) (sym e.role_is) keeps)) in
          size_then nodes (kinds_of u.nodes) u.edges joined below row.size (record {
            row = under.row;
            there = under.there;
            is = sym under.is.size ∙ sym was.same.size ∙ size ∙ is_later.same.size ∙ own.is.size;
          })

      -- a filter has a child
      filter_child : row.driver ≡ CopyOnRead → (below : ℕ) × (child_of (Node n) FileRole u.edges ≡ Some below)
      filter_child is = by_child (child u n FileRole) refl
        where
          copies : is_later.later.kind ≡ kinds.CopyOnRead
          copies = kind_later ∙ ap driver_kind is

          by_child : (found : Option ℕ) → child u n FileRole ≡ found → (below : ℕ) × (child u n FileRole ≡ Some below)
          by_child (Some below) at = (below, at)
          by_child None at =
              let none : filtered u n ≡ None = rw (is_later.found, copies) at in
              let itself : disk_node u n ≡ n = disk_of_none u n none in
              let reads : With (node_by_id u n) (IsDiskOf u is_later.later) =
              subst (λ (m : ℕ). With (node_by_id u m) (IsDiskOf u is_later.later)) itself (still.reads n is_later.later is_later.found) in
              let disk = subst (λ (x : Option NodeRecord). With x (IsDiskOf u is_later.later)) is_later.found reads in
              let own = disk.own in
              let filter : filter_role kinds.CopyOnRead ≡ None = subst (λ (k : Kind). filter_role k ≡ None) copies own in
              absurd cc

      has_below : HasBelow (rewired (kinds_of u.nodes) u.edges nodes) n row.size row.driver
      has_below = by_driver row.driver refl (joined.below n row there) (joined.sized n row there)
        where
          by_driver : (d : Driver) → row.driver ≡ d → HasBelow nodes n row.size d → IsSized row.size d
              → HasBelow (rewired (kinds_of u.nodes) u.edges nodes) n row.size d
          by_driver File is has own = has
          by_driver (Raw part) is has own =
              let sizes = sizes_same nodes (kinds_of u.nodes) u.edges joined has.file in
              let within = has.within in
              record {
                file = has.file;
                edge = file_same (ap (λ (d : Driver). filter_role (driver_kind d)) is) ∙ has.edge;
                is_file = file_then nodes (kinds_of u.nodes) u.edges joined has.file has.is_file;
                within = omega (arith, sizes, within);
              }
          by_driver (Qcow2 image) is has own = record {
            file = has.file;
            edge = file_same (ap (λ (d : Driver). filter_role (driver_kind d)) is) ∙ has.edge;
            is_file = file_then nodes (kinds_of u.nodes) u.edges joined has.file has.is_file;
            opened = has.opened;
            known = has.known;
            backing = λ over edge.
                subst (HasSize (rewired (kinds_of u.nodes) u.edges nodes) over) (sym own)
                (below_sized Backing over edge (ap (λ (d : Driver). keeps_size (driver_kind d) Backing) is));
          }
          by_driver CopyOnRead is has own =
              let below = filter_child is in
              record {
                child = below.0;
                edge = below.1;
                same = below_sized FileRole below.0 below.1 (ap (λ (d : Driver). keeps_size (driver_kind d) FileRole) is);
              }
          by_driver (Filter kind) is has own = λ child edge.
              below_sized Filtered child edge (ap (λ (d : Driver). keeps_size (driver_kind d) Filtered) is ∙ filter_keeps kind)

    pub changes_wiring : IsWiring nodes (kinds_of u.nodes) u.edges
    changes_wiring = record { sound = sound; alike = kind_is; below = has_below }
