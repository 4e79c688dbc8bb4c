use Rattle.std.proofs.Common.{◌≡◌, ℕ, ◌<◌, length, true, Some}
use Rattle.std.specs.Prelude.{slice_get}
use Rattle.world_parts.specs.Face.{WorldSeen}
use Rattle.qblk_run.specs.Tasks.{Task}
use Rattle.qblk_run.specs.Rounds.{GuestsRest}
use Rattle.qblk_run.proofs.stuck.first_guest.Given as goal

-- the first of them are done
abbrev pub invariant-loop-guest : goal.invariant-loop-guest
invariant-loop-guest l = (w : WorldSeen) → GuestsRest w (length l.tasks) l.tasks
    → (other : ℕ) (task : Task) → other < l.guest → slice_get l.tasks other ≡ Some task → task.is_done ≡ true
