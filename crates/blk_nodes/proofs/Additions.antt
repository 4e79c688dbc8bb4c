-- What an addition leaves of the nodes that were there.
use Rattle.std.proofs.Common.{◌≡◌, ◌≢◌, ◌⊎◌, ℕ, zero, suc, ◌+◌, ◌<◌, ◌≤◌, ◌==◌, Bool, true, false, cond, List, [], ◌∷◌, ◌++◌, length, map, get_or, set, Option, Some, None, refl, sym, ◌∙◌, ap, subst, arith, inl, inr}
use Rattle.std.specs.Prelude.{IsSome, Contains, AllPairs}
use Rattle.std.proofs.lemmas.Bool.{eqb-true, eq-eqb}
use Rattle.std.proofs.lemmas.List.{length-set, get_or-set_same, get_or-set_other, map-append}
use Rattle.std.proofs.lemmas.Bool.{cases_eq}
use Rattle.std.proofs.lemmas.List.Elements.{Contains-push, Contains-push_cases, Contains-append_left, Contains-get_or}
use Rattle.std.proofs.lemmas.List.Quantifiers.{all_pairs_push}
use Rattle.blk_graph.specs.Edits.{IsLone, child_of}
use Rattle.blk_graph.specs.declared.edge.Edge.{Edge}
use Rattle.blk_graph.specs.declared.edge.Role.{Role}
use Rattle.blk_graph.specs.Edits.{with_edge, without_parent}
use Rattle.blk_graph.specs.Graph.{Graph, NodeRow, HasNode, ids, IsSoundGraph, with_node}
use Rattle.blk_graph.specs.Judged.{other_nodes, without_node}
use Rattle.blk_graph.specs.Refreshed.{kind_at, no_kind, refreshed, IsRefreshed}
use Rattle.blk_graph.specs.declared.kind.NodeKind.{NodeKind}
use Rattle.blk_graph.specs.declared.edge.Parent.TheVariants.{Node}
use Rattle.blk_graph.specs.declared.edge.Role.TheVariants.{File as FileRole, Backing, Filtered}
use Rattle.blk_graph.proofs.ChildLemmas.{child-new, child-other, lone-removed}
use Rattle.blk_graph.proofs.RefreshLemmas.{child_of-refreshed}
use Rattle.blk_graph.proofs.StillLemmas.{refreshed-fixed}
use Rattle.blk_graph.proofs.Members.{Contains-here, Contains-there, Contains-cases}
use Rattle.blk_graph.specs.Ids.{IsLowestFree}
use Rattle.blk_graph.specs.Rule.{first_conflict}
use Rattle.blk_graph.specs.declared.edge.Conflict.{Conflict as Pair}
use Rattle.blk_nodes.specs.Adding.{with_node_row, with_node_device, with_below, file_edge, Breaks}
use Rattle.blk_nodes.specs.Nodes.{Nodes, DeviceSeen, is_device_of, row_at, device_in, size_by, node_size, file_of, backing_of, filtered_of, node_kind}
use Rattle.blk_nodes.specs.Joined.{IsFile, HasSize, IsPartOfFile, HasBelow, IsSized, IsJoined, DifferInNode}
use Rattle.blk_nodes.specs.declared.row.Driver.{Driver}
use Rattle.blk_nodes.specs.declared.row.Driver.TheVariants.{File, Raw, Qcow2, CopyOnRead, Filter}
use Rattle.blk_nodes.specs.declared.row.Row.{Row}

-- all that was there is there, with what it had below it
pub record Extends (old new : Nodes) : Type 0 where
  pub rows : (node : ℕ) (row : Row) → row_at old node ≡ Some row → row_at new node ≡ Some row
  pub devices : (node : ℕ) → IsSome (device_in old.devices node) → device_in new.devices node ≡ device_in old.devices node
  pub files : (node : ℕ) (row : Row) → row_at old node ≡ Some row → file_of new node ≡ file_of old node
  pub backings : (node : ℕ) (row : Row) → row_at old node ≡ Some row → backing_of new node ≡ backing_of old node
  pub filters : (node : ℕ) (row : Row) → row_at old node ≡ Some row → filtered_of new node ≡ filtered_of old node

module _ (old new : Nodes) (e : Extends old new) where
  pub file_kept : (file : ℕ) → IsFile old file → IsFile new file
  file_kept file is = record { row = is.row; there = e.rows file is.row is.there; driver = is.driver }

  size_kept : (node size : ℕ) → HasSize old node size → HasSize new node size
  size_kept node size has = record { row = has.row; there = e.rows node has.row has.there; is = has.is }

  size_same : (file : ℕ) → IsFile old file → node_size new file ≡ node_size old file
  size_same file is = ap size_by (e.rows file is.row is.there ∙ sym is.there)

  pub below_kept : (node size : ℕ) (row : Row) (driver : Driver) → IsJoined old → row_at old node ≡ Some row → HasBelow old node size driver → HasBelow new node size driver
  below_kept node size row File joined there is = rw (e.devices node is) is
  below_kept node size row (Raw part) joined there is =
      let same = size_same is.file is.is_file in
      let within = is.within in
      record { file = is.file; edge = e.files node row there ∙ is.edge; is_file = file_kept is.file is.is_file; within = omega (arith, same, within) }
  below_kept node size row (Qcow2 image) joined there is = record {
    file = is.file;
    edge = e.files node row there ∙ is.edge;
    is_file = file_kept is.file is.is_file;
    opened = is.opened;
    known = λ device bytes held told. is.known device bytes (sym (e.devices is.file (held_of is.file is.is_file)) ∙ held) told;
    backing = λ over edge. size_kept over image.header.size (is.backing over (sym (e.backings node row there) ∙ edge));
  }
    where
      held_of : (file : ℕ) → IsFile old file → IsSome (device_in old.devices file)
      held_of file is = let has = joined.below file is.row is.there in rw is.driver at has
  below_kept node size row CopyOnRead joined there is = record { child = is.child; edge = e.files node row there ∙ is.edge; same = size_kept is.child size is.same }
  below_kept node size row (Filter kind) joined there is = λ child edge. size_kept child size (is child (sym (e.filters node row there) ∙ edge))

-- a device more at the end
find_or : (node : ℕ) (a b : DeviceSeen) (devices : List DeviceSeen) (here : Bool)
    → (IsSome (device_in devices node) → device_in (devices ++ b ∷ []) node ≡ device_in devices node)
    → IsSome (cond here (Some a) (device_in devices node)) → ◌≡◌ {A = Option DeviceSeen} (cond here (Some a) (device_in (devices ++ b ∷ []) node)) (cond here (Some a) (device_in devices node))
find_or node a b devices true rest is = refl
find_or node a b devices false rest is = rest is

device_kept : (devices : List DeviceSeen) (b : DeviceSeen) (node : ℕ) → IsSome (device_in devices node) → device_in (devices ++ b ∷ []) node ≡ device_in devices node
device_kept [] b node is = absurd (cc is)
device_kept (a ∷ devices) b node is = find_or node a b devices (is_device_of node a) (device_kept devices b node) is

new_or : (node : ℕ) (a b : DeviceSeen) (devices : List DeviceSeen) (here : Bool) → (device_in devices node ≡ None → device_in (devices ++ b ∷ []) node ≡ cond (is_device_of node b) (Some b) None)
    → cond here (Some a) (device_in devices node) ≡ None → cond here (Some a) (device_in (devices ++ b ∷ []) node) ≡ cond (is_device_of node b) (Some b) None
new_or node a b devices true rest is = absurd (cc is)
new_or node a b devices false rest is = rest is

pub device_new : (devices : List DeviceSeen) (b : DeviceSeen) (node : ℕ) → device_in devices node ≡ None → device_in (devices ++ b ∷ []) node ≡ cond (is_device_of node b) (Some b) None
device_new [] b node is = refl
device_new (a ∷ devices) b node is = new_or node a b devices (is_device_of node a) (device_new devices b node) is

-- a device of the list is found by its node
pub device_held : (devices : List DeviceSeen) (device : DeviceSeen) → Contains devices device → IsSome (device_in devices device.node)
device_held [] device there = absurd (omega (arith, there.1))
device_held (a ∷ devices) device there =
    by_node (is_device_of device.node a) refl (device_held devices device) (Contains-cases a devices device there)
  where
    by_node : (b : Bool) → is_device_of device.node a ≡ b → (Contains devices device → IsSome (device_in devices device.node))
        → (device ≡ a) ⊎ Contains devices device
        → IsSome (cond b (Some a) (device_in devices device.node))
    by_node true is later cases = refl
    by_node false is later (inl here) =
        let own : is_device_of device.node a ≡ true = ap (λ (d : DeviceSeen). is_device_of device.node d) (sym here) ∙ eq-eqb device.node device.node refl in
        let bad = sym is ∙ own in absurd (cc bad)
    by_node false is later (inr rest) = later rest

-- a node that isn't in the graph has no row and no device
pub not_some : {A : Type 0} (found : Option A) → (IsSome found → ⊥) → found ≡ None
not_some None none = refl
not_some (Some x) none = absurd (none refl)

pub some_row : (found : Option Row) → IsSome found → (row : Row) × (found ≡ Some row)
some_row None is = absurd (cc is)
some_row (Some row) is = (row, refl)

pub no_row : (nodes : Nodes) (id : ℕ) → IsJoined nodes → (HasNode nodes.graph id → ⊥) → row_at nodes id ≡ None
no_row nodes id joined absent = not_some (row_at nodes id) (λ some. absent (joined.only id some))

pub no_device : (nodes : Nodes) (id : ℕ) → IsJoined nodes → (HasNode nodes.graph id → ⊥) → device_in nodes.devices id ≡ None
no_device nodes id joined absent =
    not_some (device_in nodes.devices id)
    (λ some. let file = joined.devices id some in absent (joined.only id (rw file.there refl)))

-- One more node with its row, where all else is there as before.
module _ (old new : Nodes) (id : ℕ) (name : List ℕ) (row : Row) (joined : IsJoined old) (absent : HasNode old.graph id → ⊥) (small : id < 64)
    (nodes : new.graph.nodes ≡ old.graph.nodes ++ record { id = id; name = name } ∷ []) (rows : new.rows ≡ set old.rows id (Some row))
    (kinds : new.graph.kinds ≡ set old.graph.kinds id (node_kind row)) where
  pub row_new : row_at new id ≡ Some row
  row_new = let count = joined.rows in ap (λ (rs : List (Option Row)). get_or rs id None) rows ∙ get_or-set_same old.rows id (Some row) None (omega arith)

  row_other : (node : ℕ) → node ≢ id → row_at new node ≡ row_at old node
  row_other node other = ap (λ (rs : List (Option Row)). get_or rs node None) rows ∙ get_or-set_other old.rows id node (Some row) None other

  differs : (node : ℕ) (other : Row) → row_at old node ≡ Some other → node ≢ id
  differs node other there = λ same. let bad : Some other ≡ None = sym there ∙ ap (row_at old) same ∙ no_row old id joined absent in absurd (cc bad)

  pub row_stays : (node : ℕ) (other : Row) → row_at old node ≡ Some other → row_at new node ≡ Some other
  row_stays node other there = row_other node (differs node other there) ∙ there

  names_new : ids new.graph ≡ ids old.graph ++ id ∷ []
  names_new = ap (map (λ (r : NodeRow). r.id)) nodes ∙ map-append (λ (r : NodeRow). r.id) old.graph.nodes (record { id = id; name = name } ∷ [])

  has_old : (node : ℕ) → HasNode old.graph node → HasNode new.graph node
  has_old node has = rw names_new (Contains-append_left (ids old.graph) (id ∷ []) node has)

  has_new : HasNode new.graph id
  has_new = rw names_new (Contains-push (ids old.graph) id)

  there_new : (node : ℕ) → HasNode new.graph node → IsSome (row_at new node)
  there_new node has =
      let cases = Contains-push_cases (ids old.graph) id node (rw names_new at has) in
      elim cases [
        | inl before ↦ let found = some_row (row_at old node) (joined.there node before) in rw (row_stays node found.0 found.1) refl
        | inr same ↦ rw (ap (row_at new) (sym same) ∙ row_new) refl
      ]

  only_new : (node : ℕ) → IsSome (row_at new node) → HasNode new.graph node
  only_new node some = elim (cases_eq node id) [
    | inl same ↦ rw same has_new
    | inr other ↦ let before : IsSome (row_at old node) = rw (row_other node other) at some in has_old node (joined.only node before)
  ]

  sized_new : IsSized row.size row.driver → (node : ℕ) (r : Row) → row_at new node ≡ Some r → IsSized r.size r.driver
  sized_new sized node r there = elim (cases_eq node id) [
    | inl same ↦ let is : r ≡ row = cc (sym there ∙ ap (row_at new) same ∙ row_new) in rw is sized
    | inr other ↦ joined.sized node r (sym (row_other node other) ∙ there)
  ]

  below_new : Extends old new → HasBelow new id row.size row.driver → (node : ℕ) (r : Row) → row_at new node ≡ Some r → HasBelow new node r.size r.driver
  below_new e below node r there = elim (cases_eq node id) [
    | inl same ↦ let is : r ≡ row = cc (sym there ∙ ap (row_at new) same ∙ row_new) in rw (is, same) below
    | inr other ↦ let before = sym (row_other node other) ∙ there in below_kept old new e node r.size r r.driver joined before (joined.below node r before)
  ]

  kinds_new : (node : ℕ) (r : Row) → row_at new node ≡ Some r → kind_at new.graph.kinds node ≡ node_kind r
  kinds_new node r there = elim (cases_eq node id) [
    | inl same ↦
        let is : r ≡ row = cc (sym there ∙ ap (row_at new) same ∙ row_new) in
        let count = joined.sound.kinds in
        ap (λ (ks : List NodeKind). kind_at ks node) kinds ∙ ap (kind_at (set old.graph.kinds id (node_kind row))) same
        ∙ get_or-set_same old.graph.kinds id (node_kind row) no_kind (omega (arith, small, count)) ∙ ap node_kind (sym is)
    | inr other ↦
        ap (λ (ks : List NodeKind). kind_at ks node) kinds
        ∙ get_or-set_other old.graph.kinds id node (node_kind row) no_kind other
        ∙ joined.kinds node r (sym (row_other node other) ∙ there)
  ]

  own_file : row.driver ≡ File → IsFile new id
  own_file driver = record { row = row; there = row_new; driver = driver }

  pub joined_added : Extends old new → IsSoundGraph new.graph → IsSized row.size row.driver → HasBelow new id row.size row.driver
      → ((node : ℕ) → IsSome (device_in new.devices node) → ((node ≡ id) × (row.driver ≡ File)) ⊎ IsSome (device_in old.devices node))
      → AllPairs DifferInNode new.devices → IsJoined new
  joined_added e sound sized below held once = record {
    rows = ap length rows ∙ length-set old.rows id (Some row) ∙ joined.rows;
    sound = sound;
    kinds = kinds_new;
    there = there_new;
    only = only_new;
    sized = sized_new sized;
    below = below_new e below;
    devices = λ node some. elim (held node some) [
      | inl same ↦ rw same.0 (own_file same.1)
      | inr before ↦ file_kept old new e node (joined.devices node before)
    ];
    once = once;
  }

-- a `file` node with its device
module _ (nodes : Nodes) (id size : ℕ) (name : List ℕ) (is_read_only : Bool) (device : DeviceSeen) (joined : IsJoined nodes) (absent : HasNode nodes.graph id → ⊥)
    (small : id < 64) (node : device.node ≡ id) where
  abbrev file_row : Row
  file_row = record { driver = File; size = size; is_read_only = is_read_only }

  abbrev added : Nodes
  added = with_node_device (with_node_row nodes id name file_row) device

  held_or : (n : ℕ) (found : Option DeviceSeen) → device_in nodes.devices n ≡ found → IsSome (device_in (nodes.devices ++ device ∷ []) n)
      → ((n ≡ id) × (File ≡ File)) ⊎ IsSome (device_in nodes.devices n)
  held_or n (Some d) is some = inr (rw is refl)
  held_or n None is some = elim (cases_eq n id) [
    | inl same ↦ inl (same, refl)
    | inr other ↦ absurd (other (sym (here (device.node == n) refl (rw (device_new nodes.devices device n is) at some))))
  ]
    where
      here : (b : Bool) → (device.node == n) ≡ b → IsSome (cond b (Some device) None) → id ≡ n
      here true same some = sym node ∙ eqb-true device.node n same
      here false same some = absurd (cc some)

  pub extends_file : Extends nodes added
  extends_file = record {
    rows = row_stays nodes added id name file_row joined absent small refl refl refl;
    devices = λ n some. device_kept nodes.devices device n some;
    files = λ n row there. refl;
    backings = λ n row there. refl;
    filters = λ n row there. refl;
  }

  others : (k : ℕ) (d : DeviceSeen) → k < length nodes.devices → DifferInNode (get_or nodes.devices k d) device
  others k d within = λ same.
      let there : Contains nodes.devices (get_or nodes.devices k d) = Contains-get_or nodes.devices k d within in
      let held = device_held nodes.devices (get_or nodes.devices k d) there in
      let none = no_device nodes id joined absent in
      let at_id : (get_or nodes.devices k d).node ≡ id = same ∙ node in
      let bad : IsSome (device_in nodes.devices id) = subst (λ (n : ℕ). IsSome (device_in nodes.devices n)) at_id held in
      let no = rw none at bad in absurd (cc no)

  pub joined_file : IsSoundGraph added.graph → IsJoined added
  joined_file sound = joined_added nodes added id name file_row joined absent small refl refl refl extends_file sound tt
      (rw (device_new nodes.devices device id (no_device nodes id joined absent), node, eq-eqb id id refl) refl)
      (λ n some. held_or n (device_in nodes.devices n) refl some)
      (all_pairs_push DifferInNode nodes.devices device joined.once others)

-- a node that was added last is taken away again
pub added_away : (nodes : List NodeRow) (id : ℕ) (name : List ℕ) → (Contains (map (λ (r : NodeRow). r.id) nodes) id → ⊥) → other_nodes id (nodes ++ record { id = id; name = name } ∷ []) ≡ nodes
added_away [] id name absent = rw (eq-eqb id id refl) refl
added_away (r ∷ nodes) id name absent =
    rw (not_here (r.id == id) refl)
    (ap (λ (rs : List NodeRow). r ∷ rs) (added_away nodes id name (λ there. absent (Contains-there r.id (map (λ (r : NodeRow). r.id) nodes) id there))))
  where
    not_here : (b : Bool) → (r.id == id) ≡ b → (r.id == id) ≡ false
    not_here true same = absurd (absent (subst (Contains (r.id ∷ map (λ (r : NodeRow). r.id) nodes)) (eqb-true r.id id same) (Contains-here r.id (map (λ (r : NodeRow). r.id) nodes))))
    not_here false same = same

-- so the graph is as it was
set-back : {X : Type 0} (xs : List X) (i : ℕ) (v d : X) → get_or xs i d ≡ d → set (set xs i v) i d ≡ xs
set-back [] i v d is = refl
set-back (x ∷ xs) zero v d is = ap (λ y. y ∷ xs) (sym is)
set-back (x ∷ xs) (suc i) v d is = ap (λ ys. x ∷ ys) (set-back xs i v d is)

pub taken_back : (graph : Graph) (id : ℕ) (name : List ℕ) (kind : NodeKind) → IsSoundGraph graph → (HasNode graph id → ⊥)
    → IsLone graph.edges id → IsRefreshed (set graph.kinds id kind) graph.edges
    → without_node id (with_node graph id name kind) ≡ graph
taken_back graph id name kind sound absent lone stays =
    let make : List NodeRow → List NodeKind → List Edge → Graph = λ nodes kinds edges. record { nodes = nodes; kinds = kinds; edges = edges } in
    let kinds' : List NodeKind = set graph.kinds id kind in
    let edges' : List Edge = refreshed kinds' (without_parent (Node id) graph.edges) in
    let nodes_are = added_away graph.nodes id name absent in
    let kinds_are : set kinds' id no_kind ≡ graph.kinds = set-back graph.kinds id kind no_kind (sound.vacant id absent) in
    let edges_are : edges' ≡ graph.edges = ap (refreshed kinds') (lone-removed id graph.edges lone) ∙ refreshed-fixed kinds' graph.edges stays in
    ap (λ (ns : List NodeRow). make ns (set kinds' id no_kind) edges') nodes_are
    ∙ ap (λ (ks : List NodeKind). make graph.nodes ks edges') kinds_are
    ∙ ap (make graph.nodes graph.kinds) edges_are

pub graph_back : (old mid new : Graph) (id : ℕ) (name : List ℕ) (kind : NodeKind) → IsSoundGraph old → (HasNode old id → ⊥) → mid ≡ with_node old id name kind
    → IsLone mid.edges id → IsSoundGraph mid → new ≡ without_node id mid → new ≡ old
graph_back old mid new id name kind sound absent more lone sound' gone =
    let lone' : IsLone old.edges id = rw more at lone in
    let made : IsSoundGraph (with_node old id name kind) = rw more at sound' in
    gone ∙ ap (without_node id) more ∙ taken_back old id name kind sound absent lone' made.just.refreshed

pub has_after : (graph : Graph) (id : ℕ) (name : List ℕ) (kind : NodeKind) (node : ℕ) → HasNode graph node
    → HasNode (with_node graph id name kind) node
has_after graph id name kind node has =
    rw (map-append (λ (r : NodeRow). r.id) graph.nodes (record { id = id; name = name } ∷ [])) (Contains-append_left (ids graph) (id ∷ []) node has)

pub ids_after : (graph : Graph) (id : ℕ) (name : List ℕ) (kind : NodeKind)
    → ids (with_node graph id name kind) ≡ ids graph ++ id ∷ []
ids_after graph id name kind = map-append (λ (r : NodeRow). r.id) graph.nodes (record { id = id; name = name } ∷ [])

-- what the edges of a new node break
pub breaks : (nodes : Nodes) (id : ℕ) (name : List ℕ) (kind : NodeKind) (edges : ℕ → List Edge → List Edge) (found : Option Pair) → IsLowestFree (ids nodes.graph) id
    → first_conflict (ids (with_node nodes.graph id name kind)) (refreshed (set nodes.graph.kinds id kind) (edges id nodes.graph.edges)) ≡ found
    → Breaks nodes kind edges found
breaks nodes id name kind edges found lowest first = record { id = id; lowest = lowest; first = rw (ids_after nodes.graph id name kind) at first }

pub file_is_node : (nodes : Nodes) (file : ℕ) → IsJoined nodes → IsFile nodes file → HasNode nodes.graph file
file_is_node nodes file joined is = joined.only file (rw is.there refl)

-- a node over a file, with its edge
module _ (nodes : Nodes) (id file : ℕ) (name : List ℕ) (row : Row) (joined : IsJoined nodes) (absent : HasNode nodes.graph id → ⊥)
    (small : id < 64) (lone : IsLone nodes.graph.edges id) (is_file : IsFile nodes file) where
  abbrev over_file : Nodes
  over_file = with_below (with_node_row nodes id name row) (file_edge id file)

  abbrev kinds_after : List NodeKind
  kinds_after = set nodes.graph.kinds id (node_kind row)

  abbrev edges_after : List Edge
  edges_after = with_edge (file_edge id file) nodes.graph.edges

  other_parent : (node : ℕ) (r : Row) → row_at nodes node ≡ Some r → Node id ≢ Node node
  other_parent node r there = λ same.
      let is : id ≡ node = cc in
      let bad : Some r ≡ None = sym there ∙ ap (row_at nodes) (sym is) ∙ no_row nodes id joined absent in
      absurd (cc bad)

  pub extends_over : Extends nodes over_file
  extends_over = record {
    rows = row_stays nodes over_file id name row joined absent small refl refl refl;
    devices = λ n some. refl;
    files = λ n r there. child_of-refreshed kinds_after (Node n) FileRole edges_after
        ∙ child-other (Node n) FileRole (file_edge id file) nodes.graph.edges lone.leaves (other_parent n r there);
    backings = λ n r there. child_of-refreshed kinds_after (Node n) Backing edges_after
        ∙ child-other (Node n) Backing (file_edge id file) nodes.graph.edges lone.leaves (other_parent n r there);
    filters = λ n r there. child_of-refreshed kinds_after (Node n) Filtered edges_after
        ∙ child-other (Node n) Filtered (file_edge id file) nodes.graph.edges lone.leaves (other_parent n r there);
  }

  pub file_below : file_of over_file id ≡ Some file
  file_below = child_of-refreshed kinds_after (Node id) FileRole edges_after ∙ child-new (file_edge id file) nodes.graph.edges lone.leaves

  pub joined_raw : (offset size : ℕ) → IsSoundGraph over_file.graph → row.driver ≡ Raw (record { offset = offset; size = size }) → row.size ≡ size
      → offset + size ≤ node_size nodes file → offset + size ≤ 9223372036854775808 → IsJoined over_file
  joined_raw offset size sound driver whole within fits =
      let same = size_same nodes over_file extends_over file is_file in
      let sized : (size ≡ row.size) × (offset + row.size ≤ 9223372036854775808) = (sym whole, omega (arith, whole, fits)) in
      let part : IsPartOfFile over_file id offset size = record { file = file; edge = file_below; is_file = file_kept nodes over_file extends_over file is_file; within = omega (arith, same, within) } in
      joined_added nodes over_file id name row joined absent small refl refl refl extends_over sound
      (subst (IsSized row.size) (sym driver) sized) (subst (HasBelow over_file id row.size) (sym driver) part) (λ n some. inr some) joined.once

-- edges of guests, which are no node's
pub joined_edges : (nodes : Nodes) (edges : List Edge) → IsJoined nodes → IsSoundGraph (record nodes.graph { edges = edges }) → ((parent : ℕ) (role : Role) → child_of (Node parent) role edges ≡ child_of (Node parent) role nodes.graph.edges)
    → IsJoined (record nodes { graph = record nodes.graph { edges = edges } })
joined_edges nodes edges joined sound same =
    let new : Nodes = record nodes { graph = record nodes.graph { edges = edges } } in
    let e : Extends nodes new = record {
      rows = λ node row there. there;
      devices = λ node some. refl;
      files = λ node row there. same node FileRole;
      backings = λ node row there. same node Backing;
      filters = λ node row there. same node Filtered;
    } in
    record {
      rows = joined.rows;
      sound = sound;
      kinds = joined.kinds;
      there = joined.there;
      only = joined.only;
      sized = joined.sized;
      below = λ node row there. below_kept nodes new e node row.size row row.driver joined there (joined.below node row there);
      devices = λ node some. file_kept nodes new e node (joined.devices node some);
      once = joined.once;
    }
