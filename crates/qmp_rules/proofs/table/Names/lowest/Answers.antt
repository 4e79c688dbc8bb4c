use Rattle.std.proofs.Common.{sym, arith, ◌<◌}
use Rattle.qmp_rules.specs.Chains.{lowest_in_chain}
use Rattle.qmp_rules.proofs.ChainLemmas.{lowest_start, lowest_some}
use Rattle.qmp_rules.proofs.table.Names.lowest.Goals as goal

pub loop-init : goal.loop-init
loop-init c = lowest_start c.args.self.now.table c.args.id

pub loop-preserved : goal.loop-preserved
loop-preserved c =
    let less : c.loop.counter < 64 = omega arith in
    lowest_some c.loop.counter c.args.self.now.table c.loop.node c.in-Some.below (lowest_in_chain c.args.self.now.table c.args.id)
    less (sym c.in-Some.ensures) c.loop.invariant
