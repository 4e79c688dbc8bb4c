use Rattle.std.proofs.Common.{arith}
use Rattle.blk_runs.proofs.push_run.Goals as goal

pub returns-clause-room : goal.returns-clause-room
returns-clause-room c =
    omega (arith, c.push_ascii.ensures.room, c.push_ascii-2.ensures.room, c.push_ascii-3.ensures.room, c.push_number.ensures.room)
