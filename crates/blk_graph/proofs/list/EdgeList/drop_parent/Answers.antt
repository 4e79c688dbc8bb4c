use Rattle.std.proofs.Common.{arith, sym}
use Rattle.std.specs.Prelude.{not}
use Rattle.blk_graph.specs.Edges.{same_parent}
use Rattle.blk_graph.proofs.DraftLemmas.{acyclic_fewer, children_dropped}
use Rattle.blk_graph.proofs.EaseLemmas.{KeepsRule-filter}
use Rattle.blk_graph.proofs.FitLemmas.{IsFit-filter}
use Rattle.blk_graph.proofs.ListedLemmas.{IsListed-filter}
use Rattle.blk_graph.proofs.list.EdgeList.drop_parent.Goals as goal

pub invariant_of-self : goal.invariant_of-self
invariant_of-self c = (
  omega (arith, c.drop_parent.ensures.capacity, c.self.invariant.0),
  rw c.drop_parent.ensures.items (IsListed-filter (λ edge. not (same_parent edge.parent c.args.parent)) c.self.inside.edges.items c.self.invariant.1),
)

pub returns-clause-fit : goal.returns-clause-fit
returns-clause-fit c =
    rw (c.drop_parent.ensures.items, sym c.self.view_is)
    (λ graph fit. IsFit-filter graph (λ edge. not (same_parent edge.parent c.args.parent)) c.self.inside.edges.items fit)

pub returns-clause-acyclic : goal.returns-clause-acyclic
returns-clause-acyclic c =
    rw (c.drop_parent.ensures.items, sym c.self.view_is) (acyclic_fewer (λ edge. not (same_parent edge.parent c.args.parent)) c.self.inside.edges.items)

pub returns-clause-children : goal.returns-clause-children
returns-clause-children c = rw (c.drop_parent.ensures.items, sym c.self.view_is) (children_dropped c.args.parent c.self.inside.edges.items)

pub returns-clause-rule : goal.returns-clause-rule
returns-clause-rule c =
    rw (c.drop_parent.ensures.items, sym c.self.view_is) (KeepsRule-filter (λ edge. not (same_parent edge.parent c.args.parent)) c.self.inside.edges.items)
