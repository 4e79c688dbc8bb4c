use Rattle.std.proofs.Common.{◌≡◌, ◌≢◌, ap, sym, ◌∙◌, List, ℕ, set, None}
use Rattle.std.specs.Prelude.{not}
use Rattle.std.specs.List.{Contains}
use Rattle.slab.specs.Slab.{get}
use Rattle.blk_graph.specs.declared.edge.Parent.TheVariants.{Node}
use Rattle.blk_graph.specs.Edges.{same_parent}
use Rattle.blk_graph.specs.Edits.{without_parent}
use Rattle.blk_graph.specs.Graph.{Graph, NodeRow}
use Rattle.blk_graph.specs.Judged.{first_parent}
use Rattle.blk_graph.specs.Layout.{key_of}
use Rattle.blk_graph.specs.Refreshed.{refreshed, no_kind}
use Rattle.blk_graph.proofs.GraphLemmas.{IsKept-fewer}
use Rattle.blk_graph.proofs.NodeLemmas.{Contains-order, IsKept-removed, rows_removed, no_child_from_None, removed-apart}
use Rattle.blk_graph.proofs.graph.Graph.remove_node.Goals as goal

pub remove-requires : goal.remove-requires
remove-requires c =
    rw c.index.ensures.value (c.self.invariant.named c.args.node
    (Contains-order c.self.inside.names c.self.inside.keys c.self.inside.order.items c.self.inside.kinds c.self.inside.edges c.args.node
    (rw (← c.self.view_is) at c.requires)))

pub invariant_of-self : goal.invariant_of-self
invariant_of-self c =
    let left : c.swap.new.x ≡ refreshed c.self.inside.kinds (without_parent (Node c.args.node) c.self.inside.edges)
    = c.swap.ensures.x_after ∙ c.refresh.ensures.edges
    ∙ ap (refreshed c.self.inside.kinds) (c.drop_parent.ensures.edges ∙ ap (without_parent (Node c.args.node)) c.copy_from.ensures) in
    let there : Contains c.self.inside.order.items c.args.node
    = Contains-order c.self.inside.names c.self.inside.keys c.self.inside.order.items c.self.inside.kinds c.self.inside.edges c.args.node
    (rw (← c.self.view_is) at c.requires) in
    let none : first_parent c.args.node c.self.inside.edges ≡ None
    = ap (first_parent c.args.node) (sym c.as_slice.ensures.edges) ∙ sym c.first_parent.ensures ∙ c.in_default.is in
    let apart = removed-apart c.self.inside.kinds c.args.node c.self.inside.edges
    (no_child_from_None c.args.node c.self.inside.edges none) in
    rw (c.drop_node.ensures.items, c.drop_node.ensures.capacity, left, c.index-2.ensures.value)
    (IsKept-removed c.self.inside.names c.remove.new.self c.self.inside.keys c.self.inside.order.items c.self.inside.kinds
    (refreshed c.self.inside.kinds (without_parent (Node c.args.node) c.self.inside.edges)) c.args.node _
    (IsKept-fewer c.self.inside.names c.self.inside.keys c.self.inside.order.items c.self.inside.kinds c.self.inside.edges _ c.self.invariant
    (λ edge. not (same_parent edge.parent (Node c.args.node))))
    there
    (λ e h. (apart e h).0)
    (λ e h. (apart e h).1)
    (rw c.index.ensures.value at c.remove.ensures.updates) c.remove.ensures.len c.remove.ensures.capacity)

pub returns-clause-ok : goal.returns-clause-ok
returns-clause-ok c =
    let left : c.swap.new.x ≡ refreshed c.self.inside.kinds (without_parent (Node c.args.node) c.self.inside.edges)
    = c.swap.ensures.x_after ∙ c.refresh.ensures.edges
    ∙ ap (refreshed c.self.inside.kinds) (c.drop_parent.ensures.edges ∙ ap (without_parent (Node c.args.node)) c.copy_from.ensures) in
    let there : Contains c.self.inside.order.items c.args.node
    = Contains-order c.self.inside.names c.self.inside.keys c.self.inside.order.items c.self.inside.kinds c.self.inside.edges c.args.node
    (rw (← c.self.view_is) at c.requires) in
    let others = (rw c.index.ensures.value at c.remove.ensures.updates).others in
    let same : (id : ℕ) → Contains c.self.inside.order.items id → id ≢ c.args.node
    → get c.remove.new.self (key_of c.self.inside.keys id) ≡ get c.self.inside.names (key_of c.self.inside.keys id)
    = λ id h differs. others (key_of c.self.inside.keys id)
    (λ is. differs (c.self.invariant.apart id c.args.node h there is)) in
    rw (sym c.self.view_is, c.drop_node.ensures.items, left, c.index-2.ensures.value)
    (ap (λ (nodes : List NodeRow). let g : Graph = record {
      nodes = nodes;
      kinds = set c.self.inside.kinds c.args.node no_kind;
      edges = refreshed c.self.inside.kinds (without_parent (Node c.args.node) c.self.inside.edges);
    } in g) (rows_removed c.self.inside.names c.remove.new.self c.self.inside.keys c.args.node c.self.inside.order.items same))

pub returns-clause-sound : goal.returns-clause-sound
returns-clause-sound c = (invariant_of-self c).sound
