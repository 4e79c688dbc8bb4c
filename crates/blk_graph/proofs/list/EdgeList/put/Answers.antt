use Rattle.std.proofs.Common.{arith, sym}
use Rattle.blk_graph.specs.Edges.{MayStand}
use Rattle.blk_graph.proofs.DraftLemmas.{acyclic_put, children_put, child_put}
use Rattle.blk_graph.proofs.FitLemmas.{IsFit-with_edge}
use Rattle.blk_graph.proofs.ListedLemmas.{length-listed, IsListed-with_edge}
use Rattle.blk_graph.proofs.list.EdgeList.put.Goals as goal

pub put_edge-requires : goal.put_edge-requires
put_edge-requires c = omega (arith, length-listed c.self.inside.edges.items c.self.invariant.1, c.self.invariant.0)

pub invariant_of-self : goal.invariant_of-self
invariant_of-self c =
    let stands : MayStand c.args.edge =
    record { role = c.requires.role; number = c.requires.number; child = rw c.index.ensures.value at c.index.ensures.small } in (
      omega (arith, c.put_edge.ensures.capacity, c.self.invariant.0),
      rw c.put_edge.ensures.items (IsListed-with_edge c.args.edge c.self.inside.edges.items stands c.self.invariant.1),
    )

pub returns-clause-fit : goal.returns-clause-fit
returns-clause-fit c =
    rw (c.put_edge.ensures.items, sym c.self.view_is)
    (λ graph fits fit. IsFit-with_edge graph c.args.edge c.self.inside.edges.items fits fit)

pub returns-clause-acyclic : goal.returns-clause-acyclic
returns-clause-acyclic c = rw (c.put_edge.ensures.items, sym c.self.view_is) (acyclic_put c.args.edge c.self.inside.edges.items)

pub returns-clause-children : goal.returns-clause-children
returns-clause-children c = rw (c.put_edge.ensures.items, sym c.self.view_is) (children_put c.args.edge c.self.inside.edges.items)

pub returns-clause-child : goal.returns-clause-child
returns-clause-child c = rw c.put_edge.ensures.items (child_put c.args.edge c.self.inside.edges.items)
