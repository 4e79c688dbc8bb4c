use Rattle.std.proofs.Common.{◌≡◌, true, arith, sym}
use Rattle.blk_graph.specs.Paths.{HasCycle, IsAcyclic}
use Rattle.blk_graph.proofs.ChildLemmas.{acyclic-unless}
use Rattle.blk_graph.proofs.JudgeLemmas.{IsJudged-cycle, IsJudged-ruled, IsSettled-cycle, IsSettled-ruled, just_ruled}
use Rattle.blk_graph.proofs.FitLemmas.{IsFit-refreshed}
use Rattle.blk_graph.proofs.ListedLemmas.{IsListed-refreshed}
use Rattle.blk_graph.proofs.RefreshLemmas.{IsAcyclic-refreshed, child_of-refreshed}
use Rattle.blk_graph.proofs.list.EdgeList.settle.Goals as goal

pub has_cycle-is_cyclic-requires : goal.has_cycle-is_cyclic-requires
has_cycle-is_cyclic-requires c = rw c.as_slice.ensures.value c.self.invariant.1

pub invariant_of-self : goal.invariant_of-self
invariant_of-self c = (
  omega (arith, c.refresh.ensures.capacity, c.self.invariant.0),
  rw c.refresh.ensures.edges (IsListed-refreshed c.args.kinds.now c.self.inside.edges.items c.self.invariant.1),
)

pub invariant_of-self-2 : goal.invariant_of-self-2
invariant_of-self-2 c = (
  omega (arith, c.refresh.ensures.capacity, c.self.invariant.0),
  rw c.refresh.ensures.edges (IsListed-refreshed c.args.kinds.now c.self.inside.edges.items c.self.invariant.1),
)

pub returns-then-is_cyclic-clause-judged : goal.returns-then-is_cyclic-clause-judged
returns-then-is_cyclic-clause-judged c =
    let has : HasCycle c.self.inside.edges.items = rw c.as_slice.ensures.value at (c.has_cycle-is_cyclic.ensures.0 c.if-is_cyclic.true) in
    rw (sym c.self.view_is) (λ lead. IsJudged-cycle c.args.nodes.now c.args.kinds.now c.self.inside.edges.items has)

pub returns-then-is_cyclic-clause-settled : goal.returns-then-is_cyclic-clause-settled
returns-then-is_cyclic-clause-settled c =
    let has : HasCycle c.self.inside.edges.items = rw c.as_slice.ensures.value at (c.has_cycle-is_cyclic.ensures.0 c.if-is_cyclic.true) in
    rw (sym c.self.view_is) (IsSettled-cycle c.args.nodes.now c.args.kinds.now c.self.inside.edges.items has)

pub returns-then-is_cyclic-clause-fit : goal.returns-then-is_cyclic-clause-fit
returns-then-is_cyclic-clause-fit c =
    rw (c.refresh.ensures.edges, sym c.self.view_is) (λ graph fit. IsFit-refreshed graph c.args.kinds.now c.self.inside.edges.items fit)

pub returns-then-is_cyclic-clause-acyclic : goal.returns-then-is_cyclic-clause-acyclic
returns-then-is_cyclic-clause-acyclic c =
    rw (c.refresh.ensures.edges, sym c.self.view_is) (IsAcyclic-refreshed c.args.kinds.now c.self.inside.edges.items)

pub returns-then-is_cyclic-clause-children : goal.returns-then-is_cyclic-clause-children
returns-then-is_cyclic-clause-children c =
    rw (c.refresh.ensures.edges, sym c.self.view_is)
    (λ parent role same. child_of-refreshed c.args.kinds.now parent role c.self.inside.edges.items)

acyclic : (c : goal.After-judge) → IsAcyclic c.self.inside.edges.items
acyclic c = acyclic-unless c.self.inside.edges.items
    (λ has. let is : c.has_cycle-is_cyclic.result ≡ true = c.has_cycle-is_cyclic.ensures.1 (rw c.as_slice.ensures.value has) in
    let no = c.if-is_cyclic.false in absurd cc)

pub returns-clause-judged : goal.returns-clause-judged
returns-clause-judged c =
    rw (sym c.self.view_is) (λ lead.
    IsJudged-ruled c.args.nodes.now c.args.kinds.now c.self.inside.edges.items lead (acyclic c) c.judge.result
    (rw c.refresh.ensures.edges at c.judge.ensures))

pub returns-clause-settled : goal.returns-clause-settled
returns-clause-settled c =
    rw (sym c.self.view_is) (IsSettled-ruled c.args.nodes.now c.args.kinds.now c.self.inside.edges.items (acyclic c) c.judge.result
    (rw c.refresh.ensures.edges at c.judge.ensures))

pub returns-clause-just : goal.returns-clause-just
returns-clause-just c =
    rw (c.refresh.ensures.edges, sym c.self.view_is) (λ lead.
    just_ruled c.args.nodes.now c.args.kinds.now c.self.inside.edges.items lead c.self.invariant.1 (acyclic c) c.judge.result
    (rw c.refresh.ensures.edges at c.judge.ensures))

pub returns-clause-fit : goal.returns-clause-fit
returns-clause-fit c =
    rw (c.refresh.ensures.edges, sym c.self.view_is) (λ graph fit. IsFit-refreshed graph c.args.kinds.now c.self.inside.edges.items fit)

pub returns-clause-acyclic : goal.returns-clause-acyclic
returns-clause-acyclic c =
    rw (c.refresh.ensures.edges, sym c.self.view_is) (IsAcyclic-refreshed c.args.kinds.now c.self.inside.edges.items)

pub returns-clause-children : goal.returns-clause-children
returns-clause-children c =
    rw (c.refresh.ensures.edges, sym c.self.view_is)
    (λ parent role same. child_of-refreshed c.args.kinds.now parent role c.self.inside.edges.items)
