use Rattle.std.proofs.Common.{arith, sym}
use Rattle.blk_graph.proofs.DraftLemmas.{child_without, children_without, without_none}
use Rattle.blk_graph.proofs.FilterLemmas.{IsAcyclic-without_filter}
use Rattle.blk_graph.proofs.FitLemmas.{IsFit-without_filter}
use Rattle.blk_graph.proofs.ListedLemmas.{IsListed-without_filter}
use Rattle.blk_graph.proofs.TakeOutLemmas.{KeepsPermissions-without_filter}
use Rattle.blk_graph.proofs.list.EdgeList.drop_filter.Goals as goal

pub invariant_of-self : goal.invariant_of-self
invariant_of-self c = (
  omega (arith, c.drop_filter.ensures.capacity, c.self.invariant.0),
  rw c.drop_filter.ensures.items (IsListed-without_filter c.args.filter c.self.inside.edges.items c.self.invariant.1),
)

pub returns-clause-fit : goal.returns-clause-fit
returns-clause-fit c =
    rw (c.drop_filter.ensures.items, sym c.self.view_is)
    (λ graph fit. IsFit-without_filter graph c.args.filter c.self.inside.edges.items fit)

pub returns-clause-acyclic : goal.returns-clause-acyclic
returns-clause-acyclic c =
    rw (c.drop_filter.ensures.items, sym c.self.view_is) (IsAcyclic-without_filter c.self.inside.edges.items c.args.filter)

pub returns-clause-child : goal.returns-clause-child
returns-clause-child c = rw c.drop_filter.ensures.items (child_without c.args.filter c.self.inside.edges.items)

pub returns-clause-children : goal.returns-clause-children
returns-clause-children c =
    rw (c.drop_filter.ensures.items, sym c.self.view_is) (children_without c.args.filter c.self.inside.edges.items)

pub returns-clause-none : goal.returns-clause-none
returns-clause-none c = rw (c.drop_filter.ensures.items, sym c.self.view_is) (without_none c.args.filter c.self.inside.edges.items)

pub returns-clause-rule : goal.returns-clause-rule
returns-clause-rule c =
    rw (c.drop_filter.ensures.items, sym c.self.view_is)
    (λ kinds just clear. KeepsPermissions-without_filter kinds c.self.inside.edges.items c.args.filter clear just.refreshed just.rule)
