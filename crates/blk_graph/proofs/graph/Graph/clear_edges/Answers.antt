use Rattle.std.proofs.Common.{◌≡◌, ◌∙◌, ap}
use Rattle.std.specs.Prelude.{not}
use Rattle.blk_graph.specs.Edges.{same_parent}
use Rattle.blk_graph.specs.Edits.{without_parent}
use Rattle.blk_graph.specs.Refreshed.{refreshed}
use Rattle.blk_graph.proofs.GraphLemmas.{IsKept-fewer}
use Rattle.blk_graph.proofs.graph.Graph.clear_edges.Goals as goal

pub invariant_of-self : goal.invariant_of-self
invariant_of-self c =
    let is : c.swap.new.x ≡ refreshed c.self.inside.kinds (without_parent c.args.parent c.self.inside.edges)
    = c.swap.ensures.x_after ∙ c.refresh.ensures.edges
    ∙ ap (refreshed c.self.inside.kinds) (c.drop_parent.ensures.edges ∙ ap (without_parent c.args.parent) c.copy_from.ensures) in
    rw is (IsKept-fewer c.self.inside.names c.self.inside.keys c.self.inside.order.items c.self.inside.kinds c.self.inside.edges _ c.self.invariant
    (λ edge. not (same_parent edge.parent c.args.parent)))

pub returns-clause-sound : goal.returns-clause-sound
returns-clause-sound c = (invariant_of-self c).sound
