-- What a command that starts a backup or a mirror leaves of a world.
use Rattle.std.specs.Prelude.{◌≡◌, ◌++◌, ℕ, IsSome, List, [], ◌∷◌, Some, None, string_bytes}
use Rattle.blk_history.specs.declared.event.Event.{Event}
use Rattle.blk_history.specs.declared.event.Event.TheVariants.{Reply}
use Rattle.blk_nodes.specs.Nodes.{Nodes}
use Rattle.flat_machine.specs.Comes.{job_line_of}
use Rattle.flat_machine.specs.Marks.{Drained}
use Rattle.job_commands.specs.Begun.{CopyCmd, cmd_of, copy_job}
use Rattle.job_progress.specs.Beginning.{work_begun}
use Rattle.qmp_rules.specs.Table.{RunTable}
use Rattle.qmp_rules.specs.declared.rows.JobRecord.{JobRecord}
use Rattle.world_jobs.specs.Beginning.{BegunJob, IsNewJob}
use Rattle.world_jobs.specs.declared.start.Started.{Started}
use Rattle.world_jobs.specs.declared.start.Started.TheVariants.{Refused, Later, Begun}
use Rattle.world_parts.specs.Carrying.{IsCarriedAs, IsLate, held_for}
use Rattle.world_parts.specs.Face.{WorldSeen, seen_state}
use Rattle.world_parts.specs.Jobs.{bitmaps_begun}
use Rattle.world_parts.specs.Progress.{with_bare_entry, with_start}
use Rattle.world_parts.specs.Saying.{Given}
use Rattle.world_parts.specs.Steps.{lifted, with_history}

abbrev pub IsStartIn : WorldSeen → RunTable → Nodes → Drained → List ℕ → CopyCmd → Started → Type 0
IsStartIn w u now drains given c (Refused text) =
    (record w { table = u; nodes = now; drains = drains } ≡ w)
    × (is : IsCarriedAs w w given (cmd_of c) (string_bytes text)) × IsSome is.refusal
IsStartIn w u now drains given c (Later g r) =
    (record w { table = u; nodes = now; drains = drains } ≡ held_for (cmd_of c) w)
    × IsLate w (held_for (cmd_of c) w) (cmd_of c) g r
IsStartIn w u now drains given c (Begun text new) =
    (drains ≡ w.drains)
    × IsCarriedAs w (record w { table = u; nodes = now }) given (cmd_of c) (string_bytes text)
    × IsNewJob u w.bitmaps (copy_job w.table c) new

abbrev pub start_reply : Given → CopyCmd → List ℕ → Event
start_reply line c text = Reply line.number line.text (Some (cmd_of c)) text

-- The world behind the reply to an accepted command and the start of its job.
abbrev pub replied_world : WorldSeen → RunTable → Nodes → Event → WorldSeen
replied_world w u now reply =
    lifted (with_history (record w { table = u; nodes = now }) (with_bare_entry reply))

abbrev pub begun_in : WorldSeen → JobRecord → WorldSeen
begun_in w row = record w {
  bitmaps = bitmaps_begun row w.bitmaps;
  works = w.works ++ work_begun (seen_state w) row ∷ [];
  progress = with_start row.number (job_line_of (seen_state w) (Some row)) w.progress;
}

abbrev pub begun_world : WorldSeen → RunTable → Nodes → CopyCmd → Event → WorldSeen
begun_world w u now c reply = begun_in (replied_world w u now reply) (copy_job w.table c)
