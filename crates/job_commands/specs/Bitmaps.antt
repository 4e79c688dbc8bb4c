-- The use of bitmaps by jobs.
use Rattle.std.specs.Prelude.{◌≡◌, ℕ, Some, IsSome}
use Rattle.blk_history.specs.declared.event.Event.{Event}
use Rattle.blk_history.specs.declared.event.Event.TheVariants.{Reply}
use Rattle.qmp_rules.specs.declared.rows.JobRecord.{JobRecord}
use Rattle.qmp_rules.specs.declared.rows.UsedBitmap.{UsedBitmap}
use Rattle.qmp_rules.specs.Table.{RunTable, bitmap_at, job_at}
use Rattle.flat_machine.specs.InUse.{AreInUse}

-- a bitmap is busy exactly with the job that copies by it, and what a job copies by is there
pub record UsesStand (t : RunTable) : Type 0 where
  pub busy : AreInUse t
  pub there : (number : ℕ) (job : JobRecord) (used : UsedBitmap) → job_at t number ≡ Some job
      → job.bitmap ≡ Some used → IsSome (bitmap_at t job.source used.name)

-- an entry that answers no line
abbrev pub IsNoReply : Event → Type 0
IsNoReply (Reply line given command text) = ⊥
IsNoReply e = Unit {0}
