-- What a job's turn is to do.
use Rattle.std.specs.Prelude.{◌==◌, Bool, false, not, if◌then◌else◌, length, Option, Some, None, is_some}
use Rattle.std.specs.List.{list_any}
use Rattle.blk_history.specs.declared.entry.Cause.TheVariants.{Command, RunEnd}
use Rattle.blk_history.specs.declared.entry.JobEnd.{JobEnd}
use Rattle.blk_history.specs.declared.entry.JobEnd.TheVariants.{Completed, Pivoted, Copied, Failed, Cancelled}
use Rattle.block_jobs.specs.Work.{JobWork, next_block}
use Rattle.flat_machine.specs.Jobs.{can_be_ready}
use Rattle.job_progress.specs.Going.{copies_blocks}
use Rattle.qmp_rules.specs.declared.rows.AskedEnd.{AskedEnd}
use Rattle.qmp_rules.specs.declared.rows.AskedEnd.TheVariants as asked
use Rattle.qmp_rules.specs.declared.rows.JobRecord.{JobRecord}
use Rattle.job_turns.specs.declared.step.Step.{Step}
use Rattle.job_turns.specs.declared.step.Step.TheVariants as step

-- ---- ends that come before all is copied: of a job for which a call failed, and of one that was cancelled for good

abbrev pub stop_asked : AskedEnd → Option JobEnd
stop_asked asked.Stop = Some (Cancelled Command)
stop_asked other = None

abbrev pub stop_of : JobRecord → JobWork → Option JobEnd
stop_of row work = elim work.met as (λ _. Option JobEnd) [
  | None ↦ stop_asked row.asked
  | Some fault ↦ Some (Failed fault)
]

-- ---- once nothing is left

-- a ready job goes on until it is asked to end, or until script and guests are done
abbrev pub ready_end : Bool → AskedEnd → Step
ready_end all_done asked.Complete = step.Finish Pivoted
ready_end all_done asked.Leave = step.Finish Copied
ready_end all_done asked.Stop = step.End (Cancelled Command)
ready_end all_done asked.Nothing = if all_done then step.End (Cancelled RunEnd) else step.Wait

-- what can be ready gets ready first
abbrev pub copied_step : Bool → JobRecord → Step
copied_step all_done row =
    if not (can_be_ready row row.kind) then step.Finish Completed
    else if row.is_ready then ready_end all_done row.asked
    else step.GetReady

-- ---- before

abbrev pub has_rows : JobWork → Bool
has_rows work = not (length work.rows == 0)

-- a copy in flight is waited for, and what is left of a stream or commit is copied in its turn
abbrev pub going_step : Bool → JobRecord → JobWork → Step
going_step all_done row work =
    if has_rows work then step.Wait
    else if list_any (λ part. part) work.left then step.Go
    else copied_step all_done row

-- a block that is to be read for a backup or mirror
abbrev pub has_next : JobRecord → JobWork → Bool
has_next row work = if copies_blocks row.kind then is_some (next_block work) else false

abbrev pub step_before : Bool → JobRecord → JobWork → Option JobEnd → Step
step_before all_done row work (Some outcome) = step.End outcome
step_before all_done row work None =
    if has_next row work then step.Copy else going_step all_done row work

-- by whether script and guests are done
unfoldable pub step_of : Bool → JobRecord → JobWork → Step
step_of all_done row work = step_before all_done row work (stop_of row work)
