use Rattle.std.proofs.Common.{sym, ap, ◌∙◌, arith, ◌<◌, ◌+◌, ◌-◌, ◌++◌, drop}
use Rattle.qmp_rules.specs.Chains.{chain_from, chain_below}
use Rattle.qmp_rules.proofs.ChainLemmas.{below_start, below_some}
use Rattle.qmp_rules.proofs.table.Names.put_below.Goals as goal

pub loop-init : goal.loop-init
loop-init c = ap (λ rest. c.args.ids.now.items ++ rest) (below_start c.args.self.now.table c.args.id)

pub loop-preserved : goal.loop-preserved
loop-preserved c =
    let less : c.loop.counter < 64 = omega arith in
    ap (λ ids. ids ++ drop 1 (chain_from (64 - (c.loop.counter + 1)) c.args.self.now.table c.in-Some.below))
    c.in_ok-push-in-Some.ensures.items
    ∙ below_some c.loop.counter c.args.self.now.table c.loop.node c.in-Some.below c.loop.ids.items
    (c.args.ids.now.items ++ chain_below c.args.self.now.table c.args.id) less (sym c.in-Some.ensures) c.loop.invariant
