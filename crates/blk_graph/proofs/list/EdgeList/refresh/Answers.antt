use Rattle.std.proofs.Common.{arith, sym}
use Rattle.blk_graph.proofs.EaseLemmas.{KeepsPermissions-less}
use Rattle.blk_graph.proofs.FitLemmas.{IsFit-refreshed}
use Rattle.blk_graph.proofs.ListedLemmas.{IsListed-refreshed}
use Rattle.blk_graph.proofs.RefreshLemmas.{IsAcyclic-refreshed, IsRefreshed-refreshed, child_of-refreshed}
use Rattle.blk_graph.proofs.list.EdgeList.refresh.Goals as goal

pub invariant_of-self : goal.invariant_of-self
invariant_of-self c = (
  omega (arith, c.refresh.ensures.capacity, c.self.invariant.0),
  rw c.refresh.ensures.edges (IsListed-refreshed c.args.kinds.now c.self.inside.edges.items c.self.invariant.1),
)

pub returns-clause-refreshed : goal.returns-clause-refreshed
returns-clause-refreshed c =
    rw (c.refresh.ensures.edges, sym c.self.view_is) (IsRefreshed-refreshed c.args.kinds.now c.self.inside.edges.items c.self.invariant.1)

pub returns-clause-fit : goal.returns-clause-fit
returns-clause-fit c =
    rw (c.refresh.ensures.edges, sym c.self.view_is)
    (λ graph fit. IsFit-refreshed graph c.args.kinds.now c.self.inside.edges.items fit)

pub returns-clause-acyclic : goal.returns-clause-acyclic
returns-clause-acyclic c =
    rw (c.refresh.ensures.edges, sym c.self.view_is) (IsAcyclic-refreshed c.args.kinds.now c.self.inside.edges.items)

pub returns-clause-children : goal.returns-clause-children
returns-clause-children c =
    rw (c.refresh.ensures.edges, sym c.self.view_is)
    (λ parent role same. child_of-refreshed c.args.kinds.now parent role c.self.inside.edges.items)

pub returns-clause-rule : goal.returns-clause-rule
returns-clause-rule c =
    rw (c.refresh.ensures.edges, sym c.self.view_is)
    (λ old less. KeepsPermissions-less old c.args.kinds.now c.self.inside.edges.items less)
