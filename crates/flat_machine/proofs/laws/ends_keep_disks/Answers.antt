use Rattle.std.proofs.Common.{ℕ, List, Option}
use Rattle.qmp_rules.specs.declared.rows.JobRecord.{JobRecord}
use Rattle.blk_history.specs.declared.entry.JobEnd.{JobEnd}
use Rattle.flat_machine.specs.State.{State}
use Rattle.flat_machine.specs.Agreement.{Contents, Agrees}
use Rattle.flat_machine.specs.Performing.{AllCan, AllPerformed}
use Rattle.flat_machine.specs.Jobs.{changes_at_end, noted_end}
use Rattle.flat_machine.proofs.Kept.{changes_keep}
use Rattle.flat_machine.proofs.laws.ends_keep_disks.Goals as goal

ends_keep : (opening : List ℕ → Option (List ℕ)) (s : State) (row : JobRecord) (why : JobEnd) (old new : Contents)
    → AllCan s (changes_at_end s row why) → AllPerformed s (changes_at_end s row why) old new
    → Agrees opening s old → Agrees opening (noted_end s row why) new
ends_keep opening s row why old new can did h =
    let kept = changes_keep opening (changes_at_end s row why) s old new can did h in
    record { disks = kept.disks; known = kept.known; absent = kept.absent; left = kept.left; unchanged = kept.unchanged }

pub returns : goal.returns
returns c = ends_keep
