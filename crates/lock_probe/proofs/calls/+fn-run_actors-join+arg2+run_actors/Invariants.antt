use Rattle.std.proofs.Common.{◌*◌, ◌-◌}
use Rattle.lock_probe.proofs.calls.+fn-run_actors-join+arg2+run_actors.Given as goal

-- a call and the closure that makes the next one go down in turn
abbrev pub decreases-join+arg2 : goal.decreases-join+arg2
decreases-join+arg2 g l = 2 * l.count - 1

abbrev pub decreases-run_actors : goal.decreases-run_actors
decreases-run_actors g l = 2 * l.count
