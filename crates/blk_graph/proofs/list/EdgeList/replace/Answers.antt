use Rattle.std.proofs.Common.{arith, sym}
use Rattle.blk_graph.proofs.CycleLemmas.{IsAcyclic-with_replaced}
use Rattle.blk_graph.proofs.DraftLemmas.{children_replaced}
use Rattle.blk_graph.proofs.FitLemmas.{IsFit-replaced}
use Rattle.blk_graph.proofs.ListedLemmas.{IsListed-replaced}
use Rattle.blk_graph.proofs.list.EdgeList.replace.Goals as goal

pub invariant_of-self : goal.invariant_of-self
invariant_of-self c = (
  omega (arith, c.replace.ensures.capacity, c.self.invariant.0),
  rw c.replace.ensures.items (IsListed-replaced c.args.from c.args.to c.args.but c.self.inside.edges.items
      (rw c.index.ensures.value at c.index.ensures.small) c.self.invariant.1),
)

pub returns-clause-fit : goal.returns-clause-fit
returns-clause-fit c =
    rw (c.replace.ensures.items, sym c.self.view_is)
    (λ graph there fit. IsFit-replaced graph c.args.from c.args.to c.args.but c.self.inside.edges.items there fit)

pub returns-clause-acyclic : goal.returns-clause-acyclic
returns-clause-acyclic c =
    rw (c.replace.ensures.items, sym c.self.view_is)
    (λ none acyclic. IsAcyclic-with_replaced c.args.from c.args.to c.args.but c.self.inside.edges.items acyclic none)

pub returns-clause-children : goal.returns-clause-children
returns-clause-children c =
    rw (c.replace.ensures.items, sym c.self.view_is) (children_replaced c.args.from c.args.to c.args.but c.self.inside.edges.items)
