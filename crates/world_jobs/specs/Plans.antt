-- Commands that start backups and mirrors, and what they copy.
use Rattle.std.specs.Prelude.{◌≡◌, ℕ, Bool, true, false, List, Option, Some, None, is_some}
use Rattle.job_commands.specs.Begun.{CopyCmd, OfBackup, OfMirror}
use Rattle.qmp_asks.specs.Seen.{seen_text}
use Rattle.qmp_codec.specs.Commands.{Cmd}
use Rattle.qmp_codec.specs.declared.command.Command.TheVariants.{BlockdevBackup, BlockdevMirror}
use Rattle.qmp_codec.specs.declared.event.JobKind.{JobKind}
use Rattle.qmp_codec.specs.declared.event.JobKind.TheVariants.{Backup, Mirror}
use Rattle.qmp_rules.specs.Table.{RunTable, id_named}
use Rattle.world_jobs.specs.declared.plan.CopyPlan.{CopyPlan}

-- ---- which commands these are

abbrev pub copy_of : Cmd → Option CopyCmd
copy_of (BlockdevBackup c) = Some (OfBackup c)
copy_of (BlockdevMirror c) = Some (OfMirror c)
copy_of c = None

abbrev pub is_start : Cmd → Bool
is_start c = is_some (copy_of c)

-- ---- what they copy

pub record Plan : Type 0 where
  pub kind : JobKind
  pub job_id : List ℕ
  pub device : List ℕ
  pub target : List ℕ
  pub bitmap : Option (List ℕ)

abbrev pub seen_plan : CopyPlan → Plan
seen_plan plan = record {
  kind = plan.kind;
  job_id = plan.job_id.now;
  device = plan.device.now;
  target = plan.target.now;
  bitmap = seen_text plan.bitmap;
}

-- a mirror copies by no bitmap
abbrev pub plan_of : CopyCmd → Plan
plan_of (OfBackup c) = record {
  kind = Backup;
  job_id = c.job_id;
  device = c.device;
  target = c.target;
  bitmap = c.bitmap;
}
plan_of (OfMirror c) = record {
  kind = Mirror;
  job_id = c.job_id;
  device = c.device;
  target = c.target;
  bitmap = None;
}

abbrev pub IsPlanOf : Option CopyCmd → Option CopyPlan → Type 0
IsPlanOf None None = Unit {0}
IsPlanOf (Some c) (Some plan) = seen_plan plan ≡ plan_of c
IsPlanOf _ _ = ⊥

-- ---- what it drains

-- the start of a backup marks its source, and that of a mirror nothing
abbrev pub drained_by_kind : RunTable → Plan → JobKind → Option ℕ
drained_by_kind t plan Backup = id_named t plan.device
drained_by_kind t plan kind = None

abbrev pub drained_node : RunTable → Plan → Option ℕ
drained_node t plan = drained_by_kind t plan plan.kind
