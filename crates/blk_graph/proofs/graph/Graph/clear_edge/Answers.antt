use Rattle.std.proofs.Common.{◌≡◌, ◌∙◌, ap}
use Rattle.std.specs.Prelude.{not}
use Rattle.blk_graph.specs.Edits.{is_edge, without_edge}
use Rattle.blk_graph.specs.Refreshed.{refreshed}
use Rattle.blk_graph.proofs.GraphLemmas.{IsKept-fewer}
use Rattle.blk_graph.proofs.graph.Graph.clear_edge.Goals as goal

pub invariant_of-self : goal.invariant_of-self
invariant_of-self c =
    let is : c.swap.new.x ≡ refreshed c.self.inside.kinds (without_edge c.args.parent c.args.role c.self.inside.edges)
    = c.swap.ensures.x_after ∙ c.refresh.ensures.edges
    ∙ ap (refreshed c.self.inside.kinds) (c.remove.ensures.edges ∙ ap (without_edge c.args.parent c.args.role) c.copy_from.ensures) in
    rw is (IsKept-fewer c.self.inside.names c.self.inside.keys c.self.inside.order.items c.self.inside.kinds c.self.inside.edges _ c.self.invariant
    (λ edge. not (is_edge c.args.parent c.args.role edge)))

pub returns-clause-sound : goal.returns-clause-sound
returns-clause-sound c = (invariant_of-self c).sound
