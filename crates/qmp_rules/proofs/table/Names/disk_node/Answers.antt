use Rattle.std.proofs.Common.{sym, ◌∙◌, arith, ◌<◌}
use Rattle.qmp_rules.proofs.ChainLemmas.{disk_start, disk_some}
use Rattle.qmp_rules.proofs.table.Names.disk_node.Goals as goal

pub loop-init : goal.loop-init
loop-init c = disk_start c.args.self.now.table c.args.id

pub loop-preserved : goal.loop-preserved
loop-preserved c =
    let less : c.loop.counter < 64 = omega arith in
    sym (disk_some c.loop.counter c.args.self.now.table c.loop.node c.in-Some.below less (sym c.in-Some.ensures))
    ∙ c.loop.invariant
