-- Nodes that go one after another: the parts of a world belong together after each of them.
use Rattle.std.proofs.Common.{◌≡◌, ◌≢◌, ℕ, ◌<◌, ◌==◌, true, false, not, List, [], Option, Some, None, refl, sym, ◌∙◌, ap, subst}
use Rattle.std.specs.Prelude.{IsSome, IsTrue, Contains, find, option_map, unwrap_or, bytes_eq}
use Rattle.std.proofs.lemmas.Bool.{eqb-true, eq-eqb, ne_eqb}
use Rattle.blk_base.specs.Files.{is_out, is_out_as}
use Rattle.blk_graph.specs.Edges.{same_parent}
use Rattle.blk_graph.specs.Edits.{without_parent}
use Rattle.blk_graph.specs.Graph.{HasNode, NodeRow, ids}
use Rattle.blk_graph.specs.Judged.{other_nodes}
use Rattle.blk_graph.specs.declared.edge.Edge.{Edge}
use Rattle.blk_graph.specs.declared.edge.Parent.TheVariants.{Node, Guest as GuestOf}
use Rattle.blk_graph.specs.declared.edge.Role.TheVariants.{Drive}
use Rattle.blk_graph.proofs.ChildLemmas.{child-without}
use Rattle.blk_graph.proofs.Members.{Contains-filter, Contains-map, map-Contains, find-Some}
use Rattle.blk_graph.proofs.NodeLemmas.{no_child_from_None}
use Rattle.blk_graph.proofs.RefreshLemmas.{child_of-refreshed}
use Rattle.qmp_rules.specs.Changes.{changed, without_record}
use Rattle.qmp_rules.specs.Edits.{goes_with_node}
use Rattle.qmp_rules.specs.Table.{RunTable, node_by_id, kinds_of, first_into, id_named}
use Rattle.qmp_rules.specs.declared.rows.NodeRecord.{NodeRecord}
use Rattle.qmp_rules.specs.declared.change.Change.TheVariants.{RemoveNode}
use Rattle.flat_machine.specs.Wiring.{HaveDistinctIds}
use Rattle.flat_machine.specs.State.{filename_of}
use Rattle.flat_machine.proofs.Finds.{bytes_eq-same}
use Rattle.flat_machine.proofs.Tables.{refreshed-old}
use Rattle.blk_nodes.specs.Dropping.{nodes_without}
use Rattle.blk_nodes.specs.Joined.{IsJoined}
use Rattle.blk_nodes.specs.Nodes.{DeviceSeen, is_device_of, device_in, row_at}
use Rattle.blk_nodes.specs.declared.row.Row.{Row}
use Rattle.world_parts.specs.Coherent.{AreAlike, AreNodesOf, AreOut}
use Rattle.world_parts.specs.Deleting.{name_under, with_back, Ground, left, HasLeft, made_with}
use Rattle.world_files.specs.Deletions.{CanLeave, Belong, IsLoneNode, Deletes}
use Rattle.world_parts.proofs.DeletedLists.{find_none, kept-in, out_there}
use Rattle.world_files.proofs.DeletedParts.{row_stays, filename_stays, apart_left, nodes_of_left, out_left, out_same}
use Rattle.world_files.proofs.KeptDrives.{IsLedTo, KeepsEntered}

-- ---- table, nodes and openings

pub record Parts (t : RunTable) (x : Ground) : Type 0 where
  pub joined : IsJoined x.nodes
  pub alike : AreNodesOf t x.nodes
  pub apart : HaveDistinctIds t
  pub out : AreOut t x.nodes x.store.opened

pub parts_of : (t : RunTable) (x : Ground) → IsJoined x.nodes → Belong t x → Parts t x
parts_of t x joined belong =
    record { joined = joined; alike = belong.alike; apart = belong.apart; out = belong.out }

-- a device is out under the name of its node's file
pub device_out : (t : RunTable) (x : Ground) → Parts t x → (node : ℕ) (d : DeviceSeen) → device_in x.nodes.devices node ≡ Some d
    → IsTrue (is_out (name_under t node) x.store.opened)
device_out t x parts node d is =
    let found = find-Some (is_device_of node) x.nodes.devices d is in
    let o = parts.out.each d found.0 in
    let named : filename_of t node ≡ Some o.opening.name = ap (filename_of t) (sym (eqb-true d.node node found.1)) ∙ o.named in
    let called : name_under t node ≡ o.opening.name = ap (λ (n : Option (List ℕ)). unwrap_or n []) named in
    let out : is_out_as (name_under t node) o.opening ≡ true = rw (called, o.out, bytes_eq-same o.opening.name) refl in
    out_there (name_under t node) x.store.opened d.number.0 o.opening o.there out

module _ (t : RunTable) (x : Ground) (node : ℕ) (parts : Parts t x) (can : CanLeave t x node) (has : HasLeft x node) where
  abbrev now : RunTable
  now = changed t (RemoveNode node)

  small : node < 64
  small = parts.joined.sound.small node can.there

  -- the openings that are left
  openings_left : (found : Option DeviceSeen) → device_in x.nodes.devices node ≡ found
      → AreOut now (nodes_without node x.nodes) (with_back (name_under t node) found x.store).opened
  openings_left None is = out_same t x.nodes x.store.opened node parts.joined parts.out is
  openings_left (Some d) is = out_left t x.nodes x.store.opened node parts.joined parts.out d is

  pub parts_left : Parts now (left t node x)
  parts_left =
      record {
        joined = has.joined;
        alike = nodes_of_left t x.nodes node parts.joined has.joined small parts.apart parts.alike;
        apart = apart_left t node parts.apart;
        out = openings_left (device_in x.nodes.devices node) refl;
      }

  -- no edge leads to the node
  unentered : (e : Edge) → Contains t.edges e → e.child ≢ node
  unentered e there = no_child_from_None node x.nodes.graph.edges can.lone e (subst (λ (es : List Edge). Contains es e) (sym parts.alike.edges) there)

  -- what edges lead to is as it was
  pub entered_left : KeepsEntered t now
  unfolding changed
  entered_left = record {
    devices = λ g. refl;
    drives = λ g.
        child_of-refreshed (kinds_of (without_record node t.nodes)) (GuestOf g) Drive (without_parent (Node node) t.edges)
        ∙ child-without (Node node) (GuestOf g) Drive t.edges (λ bad. let e : ⊥ = cc bad in e);
    rows = λ other here. row_stays t node other (differs other here);
    children = λ other role here.
        child_of-refreshed (kinds_of (without_record node t.nodes)) (Node other) role (without_parent (Node node) t.edges)
        ∙ child-without (Node node) (Node other) role t.edges (λ bad. differs other here (let e : other ≡ node = cc bad in e));
  }
    where
      differs : (other : ℕ) → IsLedTo t other → other ≢ node
      differs other here same = unentered here.edge here.there (here.leads ∙ same)

  -- a node that nothing but it led to can go next
  module _ (next : ℕ) (differs : next ≢ node) (there : HasNode (nodes_without node x.nodes).graph next)
      (sole : (e : Edge) → Contains t.edges e → e.child ≡ next → e.parent ≡ Node node) where
    none_left : (e : Edge) → Contains (nodes_without node x.nodes).graph.edges e → e.child ≡ next → ⊥
    none_left e at leads =
        let old = refreshed-old x.nodes.graph.kinds (without_parent (Node node) x.nodes.graph.edges) e at in
        let kept = Contains-filter (λ (y : Edge). not (same_parent y.parent (Node node))) x.nodes.graph.edges old.edge old.there in
        let from : old.edge.parent ≡ Node node
        = sole old.edge (subst (λ (es : List Edge). Contains es old.edge) parts.alike.edges kept.0) (old.same.child ∙ leads) in
        let own : same_parent old.edge.parent (Node node) ≡ true = rw from (eq-eqb node node refl) in
        let bad : not true ≡ true = ap not (sym own) ∙ kept.1 in
        cc bad

    pub next_can : CanLeave t (left t node x) next
    next_can = record {
      there = there;
      lone =
          ap (option_map (λ (e : Edge). e.parent))
          (find_none (λ (e : Edge). e.child == next) (nodes_without node x.nodes).graph.edges
          (λ e at. ne_eqb e.child next (λ same. none_left e at same)));
      out = λ d is.
          let out : IsTrue (is_out (name_under now next) (left t node x).store.opened) = device_out now (left t node x) parts_left next d is in
          subst (λ (name : Option (List ℕ)). IsTrue (is_out (unwrap_or name []) (left t node x).store.opened)) (filename_stays t node next differs) out;
    }

-- ---- the nodes of a deletion

module _ (t : RunTable) (x : Ground) (joined : IsJoined x.nodes) (belong : Belong t x) where
  -- a node of the table is one of the nodes
  there_by : (id : ℕ) (row : NodeRecord) → node_by_id t id ≡ Some row → HasNode x.nodes.graph id
  there_by id row is = joined.only id (by_rows (row_at x.nodes id) (subst (λ (r : Option NodeRecord). AreAlike r (row_at x.nodes id)) is (belong.alike.rows id)))
    where
      by_rows : (own : Option Row) → AreAlike (Some row) own → IsSome own
      by_rows None bad = absurd bad
      by_rows (Some own) same = refl

  -- one that no edge leads to can go
  pub first_can : (node : ℕ) → IsLoneNode t node → CanLeave t x node
  first_can node free = record {
    there = there_by node free.row free.there;
    lone = ap (option_map (λ (e : Edge). e.parent)) (ap (find (λ (e : Edge). e.child == node)) belong.alike.edges ∙ free.lone);
    out = λ d is. device_out t x (parts_of t x joined belong) node d is;
  }

  -- and then the file node that was made with it
  module _ (node : ℕ) (can : CanLeave t x node) (has : HasLeft x node) (file : ℕ) (is : made_with t node ≡ Some file) where
    made : (row : NodeRecord) × Contains t.nodes row × (row.made_with ≡ Some node) × (row.id ≡ file)
    made = by_row (find (goes_with_node node) t.nodes) refl is
      where
        goes-made : (row : NodeRecord) (node : ℕ) → goes_with_node node row ≡ true → row.made_with ≡ Some node
        goes-made row node passes = by_with row.made_with refl passes
          where
            by_with : (found : Option ℕ) → row.made_with ≡ found → unwrap_or (option_map (λ (other : ℕ). other == node) found) false ≡ true → row.made_with ≡ Some node
            by_with None at bad = absurd (let e : ⊥ = cc bad in e)
            by_with (Some other) at same = at ∙ ap (λ (n : ℕ). Some n) (eqb-true other node same)

        by_row : (found : Option NodeRecord) → find (goes_with_node node) t.nodes ≡ found → option_map (λ (r : NodeRecord). r.id) found ≡ Some file
            → (row : NodeRecord) × Contains t.nodes row × (row.made_with ≡ Some node) × (row.id ≡ file)
        by_row None at bad = absurd (let e : ⊥ = cc bad in e)
        by_row (Some row) at found =
            let r = find-Some (goes_with_node node) t.nodes row at in
            (row, r.0, goes-made row node r.1, (let e : row.id ≡ file = cc found in e))

    -- it is another one
    pub file_differs : file ≢ node
    file_differs same =
        let under = belong.inline made.0 node made.1 made.2 in
        unentered t x node (parts_of t x joined belong) can has under.edge under.there (under.child ∙ made.3 ∙ same)

    pub file_can : CanLeave t (left t node x) file
    file_can =
        let under = belong.inline made.0 node made.1 made.2 in
        let row_is : node_by_id t file ≡ Some made.0 = ap (node_by_id t) (sym made.3) ∙ belong.apart made.0 made.1 in
        next_can t x node (parts_of t x joined belong) can has file file_differs (has_left (there_by file made.0 row_is) file_differs)
        (λ e there leads. under.sole e there (leads ∙ sym made.3))
      where
        -- a node is still there
        has_left : HasNode x.nodes.graph file → file ≢ node → HasNode (nodes_without node x.nodes).graph file
        has_left there differs =
            let r = Contains-map (λ (n : NodeRow). n.id) x.nodes.graph.nodes file there in
            let other : not (r.0.id == node) ≡ true = ap not (ne_eqb r.0.id node (λ same. differs (r.2 ∙ same))) in
            subst (Contains (ids (nodes_without node x.nodes).graph)) (sym r.2)
            (map-Contains (λ (n : NodeRow). n.id) (other_nodes node x.nodes.graph.nodes) r.0
            (kept-in (λ (n : NodeRow). not (n.id == node)) x.nodes.graph.nodes r.0 r.1 other))

-- the node of a name that a deletion names
pub free_by : (t : RunTable) (x : Ground) → Belong t x → (name : List ℕ) → Deletes t name → (node : ℕ) → id_named t name ≡ Some node → IsLoneNode t node
free_by t x belong name deletes node is =
    let row : NodeRecord = deletes.row in
    let there = (find-Some (λ (r : NodeRecord). bytes_eq r.name name) t.nodes row deletes.found).0 in
    let same : Some row.id ≡ Some node = sym (ap (option_map (λ (r : NodeRecord). r.id)) deletes.found) ∙ is in
    let id : row.id ≡ node = cc same in
    record {
      row = row;
      there = ap (node_by_id t) (sym id) ∙ belong.apart row there;
      lone = ap (λ (n : ℕ). first_into n t.edges) (sym id) ∙ deletes.lone;
    }
