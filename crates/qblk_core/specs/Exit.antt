-- The number that the process ends with.
use Rattle.std.specs.Prelude.{ℕ}
use Rattle.qblk_core.specs.declared.status.Status.{Status}
use Rattle.qblk_core.specs.declared.status.Status.TheVariants.{Done, Usage, Input, Fault, Stuck, NoMemory}

abbrev pub exit_of : Status → ℕ
exit_of Done = 0
exit_of Usage = 1
exit_of (Input name line why) = 2
exit_of (Fault from count) = 3
exit_of (Stuck actor waits) = 4
exit_of NoMemory = 5
