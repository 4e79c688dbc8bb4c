-- The parts of a world belong together where a node has gone that no edge led to.
use Rattle.std.proofs.Common.{◌≡◌, ◌≢◌, ℕ, ◌<◌, ◌==◌, Bool, true, false, cond, not, List, [], ◌∷◌, map, Option, Some, None, refl, sym, ◌∙◌, ap, subst, arith, inl, inr}
use Rattle.std.specs.Prelude.{IsSome, Contains, find, slice_get, option_and_then, unwrap_or, bytes_eq, is_none, ◌&&◌}
use Rattle.std.proofs.lemmas.Bool.{eqb-true, eqb-false, eq-eqb, ne_eqb, cases_eq}
use Rattle.std.proofs.lemmas.List.{get_or-set_same, get_or-set_other}
use Rattle.std.proofs.lemmas.List.Kept.{AllPairs-filter}
use Rattle.blk_base.specs.Files.{is_out_as, closed_with, given_back}
use Rattle.blk_base.specs.declared.fault.DevNo.{DevNo}
use Rattle.blk_base.specs.declared.file.Opened.{Opened}
use Rattle.blk_graph.specs.Edges.{same_parent}
use Rattle.blk_graph.specs.Edits.{without_parent}
use Rattle.blk_graph.specs.Judged.{other_nodes}
use Rattle.blk_graph.specs.Graph.{NodeRow}
use Rattle.blk_graph.specs.Refreshed.{no_kind, refreshed}
use Rattle.blk_graph.specs.declared.edge.Edge.{Edge}
use Rattle.blk_graph.specs.declared.edge.Parent.TheVariants.{Node}
use Rattle.blk_graph.specs.declared.kind.NodeKind.{NodeKind}
use Rattle.blk_graph.proofs.Members.{Contains-filter, find-Some}
use Rattle.qmp_rules.specs.Changes.{changed, without_record}
use Rattle.qmp_rules.specs.Table.{RunTable, node_by_id, kinds_of}
use Rattle.qmp_rules.specs.declared.change.Change.TheVariants.{RemoveNode}
use Rattle.qmp_rules.specs.declared.rows.NodeRecord.{NodeRecord}
use Rattle.flat_machine.specs.Wiring.{HaveDistinctIds}
use Rattle.flat_machine.specs.State.{filename_of}
use Rattle.flat_machine.proofs.Finds.{find-filter, bytes_eq-same, same-bytes_eq}
use Rattle.blk_nodes.specs.Dropping.{nodes_without, other_devices}
use Rattle.blk_nodes.specs.Joined.{IsJoined, DifferInNode}
use Rattle.blk_nodes.specs.Nodes.{Nodes, DeviceSeen, is_device_of, row_at, device_in}
use Rattle.blk_nodes.proofs.Dropped.{none_gone}
use Rattle.world_parts.specs.Coherent.{AreAlike, AreNodesOf, IsOut, AreOut, NamesAreOutOnce, node_row}
use Rattle.world_parts.specs.Deleting.{name_under}
use Rattle.world_parts.specs.Face.{device_numbered}
use Rattle.world_parts.proofs.DeletedLists.{find_there, find_none, kept-in, pairs, IsOnlyOut, given-there, given-other}
use Rattle.world_parts.proofs.TableKinds.{kinds_alike, refreshed-agree}

not-true : (b : Bool) → not b ≡ true → b ≡ false
not-true true is = absurd (cc is)
not-true false is = refl

-- ---- rows of the table

module _ (t : RunTable) (node : ℕ) where
  abbrev t' : RunTable
  t' = changed t (RemoveNode node)

  pub nodes_left : t'.nodes ≡ without_record node t.nodes
  unfolding changed
  nodes_left = refl

  pub row_stays : (other : ℕ) → other ≢ node → node_by_id t' other ≡ node_by_id t other
  row_stays other apart =
      ap (find (λ (row : NodeRecord). row.id == other)) nodes_left
      ∙ find-filter (λ (row : NodeRecord). row.id == other) (λ row. not (row.id == node))
      (λ row is. ap not (ne_eqb row.id node (λ same. apart (sym (eqb-true row.id other is) ∙ same)))) t.nodes

  pub row_gone : node_by_id t' node ≡ None
  row_gone =
      ap (find (λ (row : NodeRecord). row.id == node)) nodes_left
      ∙ find_none (λ (row : NodeRecord). row.id == node) (without_record node t.nodes)
      (λ row there. not-true (row.id == node) (Contains-filter (λ (r : NodeRecord). not (r.id == node)) t.nodes row there).1)

  pub filename_stays : (other : ℕ) → other ≢ node → filename_of t' other ≡ filename_of t other
  filename_stays other apart = ap (λ (row : Option NodeRecord). option_and_then (λ (r : NodeRecord). r.filename) row) (row_stays other apart)

  pub apart_left : HaveDistinctIds t → HaveDistinctIds t'
  apart_left apart row there =
      let old = Contains-filter (λ (r : NodeRecord). not (r.id == node)) t.nodes row (subst (λ (rows : List NodeRecord). Contains rows row) nodes_left there) in
      row_stays row.id (eqb-false row.id node (not-true (row.id == node) old.1)) ∙ apart row old.0

-- ---- table and nodes

module _ (t : RunTable) (nodes : Nodes) (node : ℕ) (joined : IsJoined nodes) (left : IsJoined (nodes_without node nodes)) (small : node < 64) (apart : HaveDistinctIds t)
    (alike : AreNodesOf t nodes) where
  own_gone : row_at (nodes_without node nodes) node ≡ None
  own_gone = get_or-set_same nodes.rows node None None (omega (arith, small, joined.rows))

  own_stays : (other : ℕ) → other ≢ node → row_at (nodes_without node nodes) other ≡ row_at nodes other
  own_stays other differ = get_or-set_other nodes.rows node other None None differ

  rows_left : (id : ℕ) → AreAlike (node_by_id (changed t (RemoveNode node)) id) (row_at (nodes_without node nodes) id)
  rows_left id = elim (cases_eq id node) [
    | inl same ↦ rw (same, row_gone t node, own_gone) tt
    | inr differ ↦ rw (row_stays t node id differ, own_stays id differ) (alike.rows id)
  ]

  kinds_left : kinds_of (changed t (RemoveNode node)).nodes ≡ (nodes_without node nodes).graph.kinds
  kinds_left = kinds_alike (changed t (RemoveNode node)) (nodes_without node nodes) left (apart_left t node apart) rows_left

  -- no edge that is left is one of the node
  not_of_node : (e : Edge) → Contains (without_parent (Node node) nodes.graph.edges) e → (n : ℕ) → e.parent ≡ Node n → n ≢ node
  not_of_node e there n is same =
      let kept = Contains-filter (λ (x : Edge). not (same_parent x.parent (Node node))) nodes.graph.edges e there in
      let own : same_parent e.parent (Node node) ≡ true = rw (is, same) (eq-eqb node node refl) in
      let bad : true ≡ false = sym own ∙ not-true (same_parent e.parent (Node node)) kept.1 in
      cc bad

  edges_left : (nodes_without node nodes).graph.edges ≡ (changed t (RemoveNode node)).edges
  unfolding changed
  edges_left =
      refreshed-agree nodes.graph.kinds (nodes_without node nodes).graph.kinds (without_parent (Node node) nodes.graph.edges)
      (λ e n there is. sym (get_or-set_other nodes.graph.kinds node n no_kind no_kind (not_of_node e there n is)))
      ∙ ap (λ (kinds : List NodeKind). refreshed kinds (without_parent (Node node) nodes.graph.edges)) (sym kinds_left)
      ∙ ap (λ (edges : List Edge). refreshed (kinds_of (without_record node t.nodes)) (without_parent (Node node) edges)) alike.edges

  -- the nodes that are left, in their order
  rows_of : (rows : List NodeRecord) → other_nodes node (map node_row rows) ≡ map node_row (without_record node rows)
  rows_of [] = refl
  rows_of (row ∷ rows) = by_test (row.id == node) (rows_of rows)
    where
      by_test : (b : Bool) → other_nodes node (map node_row rows) ≡ map node_row (without_record node rows)
          → cond (not b) (node_row row ∷ other_nodes node (map node_row rows)) (other_nodes node (map node_row rows))
          ≡ map node_row (cond (not b) (row ∷ without_record node rows) (without_record node rows))
      by_test true rest = rest
      by_test false rest = ap (λ (rs : List NodeRow). node_row row ∷ rs) rest

  listed_left : (nodes_without node nodes).graph.nodes ≡ map node_row (changed t (RemoveNode node)).nodes
  listed_left =
      ap (other_nodes node) alike.listed ∙ rows_of t.nodes ∙ ap (map node_row) (sym (nodes_left t node))

  pub nodes_of_left : AreNodesOf (changed t (RemoveNode node)) (nodes_without node nodes)
  nodes_of_left = record { listed = listed_left; edges = edges_left; rows = rows_left }

-- ---- openings

module _ (t : RunTable) (nodes : Nodes) (opened : List Opened) (node : ℕ) (joined : IsJoined nodes) (out : AreOut t nodes opened) where
  abbrev devices : List DeviceSeen
  devices = nodes.devices

  of_node : (n : ℕ) (d : DeviceSeen) → device_in devices n ≡ Some d → Contains devices d × (d.node ≡ n)
  of_node n d is = let found = find-Some (is_device_of n) devices d is in (found.0, eqb-true d.node n found.1)

  -- a device of that node is the one that is found
  pub one_of : (n : ℕ) (a b : DeviceSeen) → Contains devices a → Contains devices b → a.node ≡ n → b.node ≡ n → a ≡ b
  one_of n a b there other of of' = elim (pairs DifferInNode devices a b joined.once there other) [
    | inl same ↦ same
    | inr apart ↦ elim apart [ inl differ ↦ absurd (differ (of ∙ sym of')) | inr differ ↦ absurd (differ (of' ∙ sym of)) ]
  ]

  kept : (d : DeviceSeen) → Contains (other_devices node devices) d → Contains devices d × (d.node ≢ node)
  kept d there =
      let old = Contains-filter (λ (x : DeviceSeen). not (is_device_of node x)) devices d there in
      (old.0, eqb-false d.node node (not-true (is_device_of node d) old.1))

  module _ (gone : DeviceSeen) (is : device_in devices node ≡ Some gone) where
    pub was : IsOut t opened gone
    was = out.each gone (of_node node gone is).0

    abbrev number : ℕ
    number = gone.number.0

    pub named : name_under t node ≡ was.opening.name
    named = ap (λ (n : ℕ). name_under t n) (sym (of_node node gone is).1) ∙ ap (λ (found : Option (List ℕ)). unwrap_or found []) was.named

    is_out_as_by : (name : List ℕ) (o : Opened) → name ≡ o.name → o.returned ≡ None → is_out_as name o ≡ true
    is_out_as_by name o same back = rw (same, back, bytes_eq-same o.name) refl

    out_as_parts : (name : List ℕ) (o : Opened) → is_out_as name o ≡ true → (name ≡ o.name) × (o.returned ≡ None)
    out_as_parts name o is = by_tests (bytes_eq name o.name) refl o.returned refl is
      where
        by_tests : (b : Bool) → bytes_eq name o.name ≡ b → (r : Option ℕ) → o.returned ≡ r → (b && is_none r) ≡ true → (name ≡ o.name) × (o.returned ≡ None)
        by_tests true same None back passes = (same-bytes_eq name o.name same, back)
        by_tests true same (Some count) back passes = absurd (cc passes)
        by_tests false same r back passes = absurd (cc passes)

    pub only_out : IsOnlyOut (name_under t node) opened number was.opening
    only_out = record {
      at = was.there;
      out = is_out_as_by (name_under t node) was.opening named was.out;
      only = λ j p at passes.
          let p' = out_as_parts (name_under t node) p passes in
          out.names j number p was.opening at was.there p'.1 was.out (sym p'.0 ∙ named);
    }

    abbrev opened' : List Opened
    opened' = given_back (name_under t node) gone.faults gone.failed_call opened

    abbrev devices' : List DeviceSeen
    devices' = other_devices node devices

    number_differs : (d : DeviceSeen) → Contains devices d → d.node ≢ node → d.number.0 ≢ number
    number_differs d there apart = elim (pairs (λ (a b : DeviceSeen). a.number ≢ b.number) devices d gone out.once there (of_node node gone is).0) [
      | inl same ↦ absurd (apart (ap (λ (x : DeviceSeen). x.node) same ∙ (of_node node gone is).1))
      | inr ways ↦ elim ways [
        | inl differ ↦ λ same. differ (dev_same d.number gone.number same)
        | inr differ ↦ λ same. differ (dev_same gone.number d.number (sym same))
      ]
    ]
      where
        dev_same : (a b : DevNo) → a.0 ≡ b.0 → a ≡ b
        dev_same a b same = ap (λ (n : ℕ). let made : DevNo = record { 0 = n } in made) same

    each_left : (d : DeviceSeen) → Contains devices' d → IsOut (changed t (RemoveNode node)) opened' d
    each_left d there =
        let old = kept d there in
        let is_out = out.each d old.0 in
        record {
          opening = is_out.opening;
          there = given-other (name_under t node) gone.faults gone.failed_call opened number was.opening only_out d.number.0 (number_differs d old.0 old.1) ∙ is_out.there;
          out = is_out.out;
          named = filename_stays t node d.node old.1 ∙ is_out.named;
          capacity = is_out.capacity;
          faults = is_out.faults;
        }

    -- an opening that is out still has its device
    all_left : (n : ℕ) (o : Opened) → slice_get opened' n ≡ Some o → o.returned ≡ None → IsSome (device_numbered devices' n)
    all_left n o at back = elim (cases_eq n number) [
      | inl same ↦
          let here : slice_get opened' n ≡ Some (closed_with gone.faults gone.failed_call was.opening)
          = ap (slice_get opened') same ∙ given-there (name_under t node) gone.faults gone.failed_call opened number was.opening only_out in
          let e : closed_with gone.faults gone.failed_call was.opening ≡ o = cc (sym here ∙ at) in
          let bad : Some gone.faults ≡ None = ap (λ (x : Opened). x.returned) e ∙ back in
          absurd (cc bad)
      | inr apart ↦
          let old : slice_get opened n ≡ Some o
          = sym (given-other (name_under t node) gone.faults gone.failed_call opened number was.opening only_out n apart) ∙ at in
          by_device (device_numbered devices n) refl (out.all n o old back) apart
    ]
      where
        by_device : (found : Option DeviceSeen) → device_numbered devices n ≡ found → IsSome found → n ≢ number → IsSome (device_numbered devices' n)
        by_device None is' some apart = absurd (let bad : ⊥ = cc some in bad)
        by_device (Some d) is' some apart =
            let found = find-Some (λ (x : DeviceSeen). x.number.0 == n) devices d is' in
            let numbered : d.number.0 ≡ n = eqb-true d.number.0 n found.1 in
            let other : d.node ≢ node = λ same.
            apart (sym numbered ∙ ap (λ (x : DeviceSeen). x.number.0) (one_of node d gone found.0 (of_node node gone is).0 same (of_node node gone is).1)) in
            find_there (λ (x : DeviceSeen). x.number.0 == n) devices' d
            (kept-in (λ (x : DeviceSeen). not (is_device_of node x)) devices d found.0 (ap not (ne_eqb d.node node other))) found.1

    -- one that is out now was so before
    was_out : (k : ℕ) (o : Opened) → slice_get opened' k ≡ Some o → o.returned ≡ None → slice_get opened k ≡ Some o
    was_out k o at back = elim (cases_eq k number) [
      | inl same ↦
          let here : Some (closed_with gone.faults gone.failed_call was.opening) ≡ Some o
          = sym (given-there (name_under t node) gone.faults gone.failed_call opened number was.opening only_out) ∙ ap (slice_get opened') (sym same) ∙ at in
          let e : closed_with gone.faults gone.failed_call was.opening ≡ o = cc here in
          let bad : Some gone.faults ≡ None = ap (λ (x : Opened). x.returned) e ∙ back in
          absurd (cc bad)
      | inr apart ↦ sym (given-other (name_under t node) gone.faults gone.failed_call opened number was.opening only_out k apart) ∙ at
    ]

    names_left : NamesAreOutOnce opened'
    names_left a b o p at_a at_b out_a out_b same = out.names a b o p (was_out a o at_a out_a) (was_out b p at_b out_b) out_a out_b same

    pub out_left : AreOut (changed t (RemoveNode node)) (nodes_without node nodes) opened'
    out_left = record {
      names = names_left;
      each = each_left;
      once = AllPairs-filter (λ (a b : DeviceSeen). a.number ≢ b.number) (λ x. not (is_device_of node x)) devices out.once;
      order = AllPairs-filter (λ (a b : DeviceSeen). a.number.0 < b.number.0) (λ x. not (is_device_of node x)) devices out.order;
      all = all_left;
    }

  -- a node without a device
  module _ (is : device_in devices node ≡ None) where
    same_devices : other_devices node devices ≡ devices
    same_devices = none_gone node devices is

    not_of : (d : DeviceSeen) → Contains devices d → d.node ≢ node
    not_of d there same =
        let bad : IsSome {T = DeviceSeen} None = subst IsSome is (find_there (is_device_of node) devices d there (eq-eqb d.node node same)) in
        cc bad

    pub out_same : AreOut (changed t (RemoveNode node)) (nodes_without node nodes) opened
    out_same = record {
      each = λ d there.
          let there' : Contains devices d = subst (λ (ds : List DeviceSeen). Contains ds d) same_devices there in
          let is_out = out.each d there' in
          record {
            opening = is_out.opening;
            there = is_out.there;
            out = is_out.out;
            named = filename_stays t node d.node (not_of d there') ∙ is_out.named;
            capacity = is_out.capacity;
            faults = is_out.faults;
          };
      once = AllPairs-filter (λ (a b : DeviceSeen). a.number ≢ b.number) (λ x. not (is_device_of node x)) devices out.once;
      order = AllPairs-filter (λ (a b : DeviceSeen). a.number.0 < b.number.0) (λ x. not (is_device_of node x)) devices out.order;
      names = out.names;
      all = λ n o at back. subst (λ (ds : List DeviceSeen). IsSome (device_numbered ds n)) (sym same_devices) (out.all n o at back);
    }
