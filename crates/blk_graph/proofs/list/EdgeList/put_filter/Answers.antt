use Rattle.std.proofs.Common.{arith, sym}
use Rattle.blk_graph.specs.Edits.{IsLone}
use Rattle.blk_graph.proofs.DraftLemmas.{child_filter, children_filter}
use Rattle.blk_graph.proofs.FilterLemmas.{IsAcyclic-with_filter}
use Rattle.blk_graph.proofs.FitLemmas.{IsFit-with_filter}
use Rattle.blk_graph.proofs.ListedLemmas.{length-listed, IsListed-with_filter}
use Rattle.blk_graph.proofs.list.EdgeList.put_filter.Goals as goal

pub put_filter-requires-clause-room : goal.put_filter-requires-clause-room
put_filter-requires-clause-room c = omega (arith, length-listed c.self.inside.edges.items c.self.invariant.1, c.self.invariant.0)

lone : (c : goal.After-put_filter) → IsLone c.self.inside.edges.items c.args.filter
lone c = rw (← c.self.view_is) at c.requires

pub invariant_of-self : goal.invariant_of-self
invariant_of-self c = (
  omega (arith, c.put_filter.ensures.capacity, c.self.invariant.0),
  rw c.put_filter.ensures.items (IsListed-with_filter c.args.node c.args.filter c.args.perm c.args.shared c.self.inside.edges.items
      (rw c.index.ensures.value at c.index.ensures.small) (rw c.index-2.ensures.value at c.index-2.ensures.small) (lone c) c.self.invariant.1),
)

pub returns-clause-fit : goal.returns-clause-fit
returns-clause-fit c =
    rw (c.put_filter.ensures.items, sym c.self.view_is)
    (λ graph there fits fit. IsFit-with_filter graph c.args.node c.args.filter c.args.perm c.args.shared c.self.inside.edges.items fits (lone c) fit)

pub returns-clause-acyclic : goal.returns-clause-acyclic
returns-clause-acyclic c =
    rw (c.put_filter.ensures.items, sym c.self.view_is)
    (λ differ. IsAcyclic-with_filter c.self.inside.edges.items c.args.node c.args.filter c.args.perm c.args.shared differ (lone c))

pub returns-clause-child : goal.returns-clause-child
returns-clause-child c =
    rw c.put_filter.ensures.items (child_filter c.args.node c.args.filter c.args.perm c.args.shared c.self.inside.edges.items (lone c))

pub returns-clause-children : goal.returns-clause-children
returns-clause-children c =
    rw (c.put_filter.ensures.items, sym c.self.view_is)
    (children_filter c.args.node c.args.filter c.args.perm c.args.shared c.self.inside.edges.items)
