use Rattle.std.proofs.Common.{arith, sym}
use Rattle.blk_graph.proofs.PivotLemmas.{IsListed-pivot, IsFit-pivot, acyclic_pivot, KeepsPermissions-pivot}
use Rattle.blk_graph.proofs.list.EdgeList.pivot.Goals as goal

pub invariant_of-self : goal.invariant_of-self
invariant_of-self c = (
  omega (arith, c.pivot.ensures.capacity, c.self.invariant.0),
  rw c.pivot.ensures.items (IsListed-pivot c.args.filter c.args.to c.args.job c.self.inside.edges.items
      (rw c.index.ensures.value at c.index.ensures.small) c.self.invariant.1),
)

pub returns-clause-fit : goal.returns-clause-fit
returns-clause-fit c =
    rw (c.pivot.ensures.items, sym c.self.view_is)
    (λ graph there fit. IsFit-pivot graph c.args.filter c.args.to c.args.job c.self.inside.edges.items there fit)

pub returns-clause-acyclic : goal.returns-clause-acyclic
returns-clause-acyclic c =
    rw (c.pivot.ensures.items, sym c.self.view_is) (acyclic_pivot c.args.filter c.args.to c.args.job c.self.inside.edges.items)

pub returns-clause-rule : goal.returns-clause-rule
returns-clause-rule c =
    rw (c.pivot.ensures.items, sym c.self.view_is)
    (λ graph fit just room.
    KeepsPermissions-pivot graph c.self.inside.edges.items c.args.filter c.args.to c.args.job room c.self.invariant.1 fit just.refreshed just.rule)
