use Rattle.std.proofs.Common.{arith, sym}
use Rattle.blk_graph.proofs.CycleLemmas.{IsAcyclic-with_moved}
use Rattle.blk_graph.proofs.DraftLemmas.{children_moved}
use Rattle.blk_graph.proofs.FitLemmas.{IsFit-moved}
use Rattle.blk_graph.proofs.ListedLemmas.{IsListed-moved}
use Rattle.blk_graph.proofs.list.EdgeList.move_all.Goals as goal

pub invariant_of-self : goal.invariant_of-self
invariant_of-self c = (
  omega (arith, c.move_all.ensures.capacity, c.self.invariant.0),
  rw c.move_all.ensures.items (IsListed-moved c.args.from c.args.to c.self.inside.edges.items
      (rw c.index.ensures.value at c.index.ensures.small) c.self.invariant.1),
)

pub returns-clause-fit : goal.returns-clause-fit
returns-clause-fit c =
    rw (c.move_all.ensures.items, sym c.self.view_is)
    (λ graph there fit. IsFit-moved graph c.args.from c.args.to c.self.inside.edges.items there fit)

pub returns-clause-acyclic : goal.returns-clause-acyclic
returns-clause-acyclic c =
    rw (c.move_all.ensures.items, sym c.self.view_is)
    (λ none acyclic. IsAcyclic-with_moved c.args.from c.args.to c.self.inside.edges.items acyclic none)

pub returns-clause-children : goal.returns-clause-children
returns-clause-children c =
    rw (c.move_all.ensures.items, sym c.self.view_is) (children_moved c.args.from c.args.to c.self.inside.edges.items)
