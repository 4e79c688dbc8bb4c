use Rattle.std.proofs.Common.{◌≡◌, ◌≢◌, ap, sym, ◌∙◌, length, List, refl, set, ◌<◌, ◌≤◌, arith}
use Rattle.std.specs.List.{Contains}
use Rattle.blk_graph.specs.Graph.{Graph, HasName, NodeRow}
use Rattle.blk_graph.specs.Layout.{row_of, graph_of}
use Rattle.std.proofs.lemmas.List.{length-map, get_or-set_same}
use Rattle.blk_graph.specs.Refreshed.{no_kind}
use Rattle.std.proofs.lemmas.List.Elements.{Contains-push}
use Rattle.blk_graph.proofs.ChildLemmas.{lone-absent}
use Rattle.blk_graph.proofs.GraphLemmas.{ids-graph_of}
use Rattle.blk_graph.proofs.NodeLemmas.{taken_name, free_name, rows_added, IsKept-added, Contains-order}
use Rattle.blk_graph.proofs.graph.Graph.add_node.Goals as goal

taken : (c : goal.After-drop-name-inside) → HasName c.args.self.now c.args.name.bytes
taken c =
    rw (sym c.self.view_is)
    (rw c.as_str.ensures at (taken_name c.self.inside.names c.self.inside.keys c.self.inside.order.items c.self.inside.kinds c.self.inside.edges c.as_slice.result.now
    c.as_str.result.now c.node_named-named.result (sym c.is_some.ensures ∙ c.if-is_some.true) c.as_slice.ensures.value
    c.node_named-named.ensures.found c.node_named-named.ensures.named))

pub returns-then-is_some-clause-taken : goal.returns-then-is_some-clause-taken
returns-then-is_some-clause-taken c = (λ _. taken c, λ _. refl)

pub returns-then-is_some-clause-full : goal.returns-then-is_some-clause-full
returns-then-is_some-clause-full c = (λ e. absurd cc, λ h. absurd (h.1 (taken c)))

free : (c : goal.After-drop-name-inside-then-len-eq-MOST_NODES) → HasName c.args.self.now c.args.name.bytes → ⊥
free c =
    rw (sym c.self.view_is)
    (rw c.as_str.ensures at (free_name c.self.inside.names c.self.inside.keys c.self.inside.order.items c.self.inside.kinds c.self.inside.edges c.as_slice.result.now
    c.as_str.result.now c.node_named-named.result (sym c.is_some.ensures ∙ c.if-is_some.false) c.as_slice.ensures.value
    c.node_named-named.ensures.none))

pub returns-then-len-eq-MOST_NODES-clause-taken : goal.returns-then-len-eq-MOST_NODES-clause-taken
returns-then-len-eq-MOST_NODES-clause-taken c = (λ e. absurd cc, λ h. absurd (free c h))

pub returns-then-len-eq-MOST_NODES-clause-full : goal.returns-then-len-eq-MOST_NODES-clause-full
returns-then-len-eq-MOST_NODES-clause-full c =
    let full : length c.args.self.now.nodes ≡ 64
    = rw (sym c.self.view_is) (length-map c.self.inside.order.items (row_of c.self.inside.names c.self.inside.keys)
    ∙ ap length (sym c.as_slice.ensures.value) ∙ c.as_slice.ensures.len ∙ sym c.len.ensures ∙ c.if-len-eq-MOST_NODES.true) in
    (λ _. (full, free c), λ _. refl)

pub next_id-node-requires : goal.next_id-node-requires
next_id-node-requires c =
    let few : length c.self.inside.order.items ≢ 64 = λ e. c.if-len-eq-MOST_NODES.false (c.len.ensures ∙ sym c.as_slice.ensures.len ∙ ap length c.as_slice.ensures.value ∙ e) in
    let at_most : length c.self.inside.order.items ≤ 64
    = omega (arith, c.self.invariant.sound.few_nodes, length-map c.self.inside.order.items (row_of c.self.inside.names c.self.inside.keys)) in
    omega (arith, ap length c.as_slice-2.ensures.value, few, at_most)

pub invariant_of-self : goal.invariant_of-self
invariant_of-self c =
    let few : length c.self.inside.order.items ≢ 64 = λ e. c.if-len-eq-MOST_NODES.false (c.len.ensures ∙ sym c.as_slice.ensures.len ∙ ap length c.as_slice.ensures.value ∙ e) in
    let free : HasName (graph_of c.self.inside.names c.self.inside.keys c.self.inside.order.items c.self.inside.kinds c.self.inside.edges) c.args.name.bytes → ⊥
    = rw c.as_str.ensures at (free_name c.self.inside.names c.self.inside.keys c.self.inside.order.items c.self.inside.kinds c.self.inside.edges c.as_slice.result.now
    c.as_str.result.now c.node_named-named.result (sym c.is_some.ensures ∙ c.if-is_some.false) c.as_slice.ensures.value
    c.node_named-named.ensures.none) in
    let absent : Contains c.self.inside.order.items c.next_id-node.result → ⊥
    = λ h. c.next_id-node.ensures.free (rw c.as_slice-2.ensures.value h) in
    rw (c.push_reserved.ensures.items, c.push_reserved.ensures.capacity, c.index.ensures.value, c.index-2.ensures.value)
    (IsKept-added c.self.inside.names c.insert_reserved-key.new.self c.self.inside.keys c.self.inside.order.items c.self.inside.kinds
    c.self.inside.edges c.next_id-node.result c.insert_reserved-key.result _ c.args.kind _ c.self.invariant few free absent
    (rw c.index.ensures.value at c.index.ensures.small)
    c.insert_reserved-key.ensures.was_vacant c.insert_reserved-key.ensures.updates
    c.insert_reserved-key.ensures.len c.insert_reserved-key.ensures.capacity)

pub returns-clause-taken : goal.returns-clause-taken
returns-clause-taken c =
    let free : HasName c.args.self.now c.args.name.bytes → ⊥ =
    rw (sym c.self.view_is)
    (rw c.as_str.ensures at (free_name c.self.inside.names c.self.inside.keys c.self.inside.order.items c.self.inside.kinds c.self.inside.edges c.as_slice.result.now
    c.as_str.result.now c.node_named-named.result (sym c.is_some.ensures ∙ c.if-is_some.false) c.as_slice.ensures.value
    c.node_named-named.ensures.none)) in
    (λ e. absurd cc, λ h. absurd (free h))

pub returns-clause-ok : goal.returns-clause-ok
returns-clause-ok c =
    let absent : Contains c.self.inside.order.items c.next_id-node.result → ⊥
    = λ h. c.next_id-node.ensures.free (rw c.as_slice-2.ensures.value h) in
    let within : c.next_id-node.result < length c.self.inside.keys
    = omega (arith, c.index.ensures.value, c.index.ensures.small, c.self.invariant.keys_room) in
    let rows = rows_added c.self.inside.names c.insert_reserved-key.new.self c.self.inside.keys c.self.inside.order.items
    c.next_id-node.result c.insert_reserved-key.result c.args.name c.self.invariant.named absent within
    c.insert_reserved-key.ensures.was_vacant c.insert_reserved-key.ensures.updates in
    rw (sym c.self.view_is, c.push_reserved.ensures.items, c.index.ensures.value, c.index-2.ensures.value)
    (ap (λ (nodes : List NodeRow). let g : Graph = record {
      nodes = nodes;
      kinds = set c.self.inside.kinds c.next_id-node.result c.args.kind;
      edges = c.self.inside.edges;
    } in g) rows)

pub returns-clause-lowest : goal.returns-clause-lowest
returns-clause-lowest c =
    rw (sym c.self.view_is)
    (rw (ids-graph_of c.self.inside.names c.self.inside.keys c.self.inside.order.items c.self.inside.kinds c.self.inside.edges) (rw c.as_slice-2.ensures.value at c.next_id-node.ensures))

pub returns-clause-there : goal.returns-clause-there
returns-clause-there c =
    rw (
      ids-graph_of c.insert_reserved-key.new.self (set c.self.inside.keys c.index.result c.insert_reserved-key.result) c.push_reserved.new.self.items
          (set c.self.inside.kinds c.index-2.result c.args.kind) c.self.inside.edges,
      c.push_reserved.ensures.items,
    )
    (Contains-push c.self.inside.order.items c.next_id-node.result)

pub returns-clause-kind : goal.returns-clause-kind
returns-clause-kind c =
    let within : c.next_id-node.result < length c.self.inside.kinds
    = omega (arith, c.index-2.ensures.value, c.index-2.ensures.small, c.self.invariant.sound.kinds) in
    rw c.index-2.ensures.value (get_or-set_same c.self.inside.kinds c.next_id-node.result c.args.kind no_kind within)

pub returns-clause-lone : goal.returns-clause-lone
returns-clause-lone c =
    let absent : Contains c.self.inside.order.items c.next_id-node.result → ⊥
    = λ h. c.next_id-node.ensures.free (rw c.as_slice-2.ensures.value h) in
    lone-absent (graph_of c.self.inside.names c.self.inside.keys c.self.inside.order.items c.self.inside.kinds c.self.inside.edges) c.next_id-node.result c.self.invariant.sound
    (λ h. absent (Contains-order c.self.inside.names c.self.inside.keys c.self.inside.order.items c.self.inside.kinds c.self.inside.edges c.next_id-node.result h))

pub returns-clause-sound : goal.returns-clause-sound
returns-clause-sound c = (invariant_of-self c).sound
