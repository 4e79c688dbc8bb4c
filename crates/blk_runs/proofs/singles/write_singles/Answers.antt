use Rattle.std.proofs.Common.{arith}
use Rattle.blk_runs.proofs.SingleRuns.{no-singles, single-more}
use Rattle.blk_runs.proofs.singles.write_singles.Goals as goal

pub loop-count-init : goal.loop-count-init
loop-count-init c = no-singles _ _

pub loop-count-preserved : goal.loop-count-preserved
loop-count-preserved c =
    single-more c.loop-count.count c.args.bytes.now _ _ c.loop-count.invariant (omega arith) (omega arith) c.if-bytes-count.true c.write_single.ensures
