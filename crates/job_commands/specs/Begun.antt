-- Commands that begin a job.
use Rattle.std.specs.Prelude.{ℕ, List, Option, Some, None}
use Rattle.qmp_codec.specs.Commands.{Cmd}
use Rattle.qmp_codec.specs.declared.command.Command.TheVariants as command
use Rattle.qmp_codec.specs.declared.jobs.Backup.{Backup}
use Rattle.qmp_codec.specs.declared.jobs.Mirror.{Mirror}
use Rattle.qmp_rules.specs.declared.rows.JobRecord.{JobRecord}
use Rattle.qmp_rules.specs.Edits.{stream_job, commit_job, mirror_job, backup_job}
use Rattle.qmp_rules.specs.Table.{RunTable}

-- no transaction, whose actions are judged and done one after another
abbrev pub IsOneCommand : Cmd → Type 0
IsOneCommand (command.Transaction c) = ⊥
IsOneCommand c = Unit {0}

-- the job that one command begins
abbrev pub job_begun : RunTable → Cmd → Option JobRecord
job_begun t (command.BlockStream c) = Some (stream_job t c)
job_begun t (command.BlockCommit c) = Some (commit_job t c)
job_begun t (command.BlockdevMirror c) = Some (mirror_job t c)
job_begun t (command.BlockdevBackup c) = Some (backup_job t None c)
job_begun t c = None

-- ---- those that begin a backup or a mirror

pub data CopyCmd : Type 0 where
  OfBackup : Backup (List ℕ) → CopyCmd
  OfMirror : Mirror (List ℕ) → CopyCmd

abbrev pub cmd_of : CopyCmd → Cmd
cmd_of (OfBackup c) = command.BlockdevBackup c
cmd_of (OfMirror c) = command.BlockdevMirror c

-- the job that it begins
abbrev pub copy_job : RunTable → CopyCmd → JobRecord
copy_job t (OfBackup c) = backup_job t None c
copy_job t (OfMirror c) = mirror_job t c
