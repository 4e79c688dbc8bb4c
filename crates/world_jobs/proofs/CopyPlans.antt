-- The plan of a command that starts a backup or a mirror, beside the row of its job.
use Rattle.std.proofs.Common.{◌≡◌, ℕ, List, Option, Some, None, refl, ap, true}
use Rattle.std.specs.Prelude.{option_map}
use Rattle.blk_nodes.specs.Nodes.{filter_kind}
use Rattle.flat_machine.specs.Jobs.{target_written}
use Rattle.flat_machine.specs.Marks.{drained_by, ids_of}
use Rattle.job_commands.specs.Begun.{CopyCmd, OfBackup, OfMirror, cmd_of, copy_job}
use Rattle.job_progress.specs.Going.{copies_blocks}
use Rattle.job_tables.specs.Accepted.{IsMet}
use Rattle.job_tables.proofs.CopyBegins.{CopyAsked}
use Rattle.qmp_rules.specs.Asks.{id_or}
use Rattle.qmp_rules.specs.Edits.{copy_edits, free_id, start_edits, used_bitmap}
use Rattle.qmp_rules.specs.Table.{RunTable, id_named}
use Rattle.qmp_rules.specs.declared.rows.JobRecord.{JobRecord}
use Rattle.qmp_rules.specs.declared.rows.UsedBitmap.{UsedBitmap}
use Rattle.qmp_rules.specs.declared.told.Told.{Told}
use Rattle.world_goings.proofs.CopyStarts.{copy_asked, start_copies}
use Rattle.world_jobs.specs.Filtering.{filter_of}
use Rattle.world_jobs.specs.Plans.{Plan, drained_node, plan_of}

-- ---- its row

pub record IsRowOfPlan (t : RunTable) (plan : Plan) (row : JobRecord) : Type 0 where
  pub id : row.id ≡ plan.job_id
  pub number : row.number ≡ t.started
  pub kind : row.kind ≡ plan.kind
  pub copies : copies_blocks plan.kind ≡ true
  pub source : row.source ≡ id_or 0 t (Some plan.device)
  pub target : row.target ≡ id_named t plan.target
  pub writes : target_written row ≡ row.target
  pub filter : row.filter ≡ Some (free_id t)
  pub bitmap : option_map (λ (used : UsedBitmap). used.name) row.bitmap ≡ plan.bitmap

pub planned_row : (t : RunTable) (c : CopyCmd) → IsRowOfPlan t (plan_of c) (copy_job t c)
planned_row t (OfBackup c) = record {
  id = refl;
  number = refl;
  kind = refl;
  copies = refl;
  source = refl;
  target = refl;
  writes = refl;
  filter = refl;
  bitmap = named c.bitmap;
}
  where
    named : (name : Option (List ℕ)) → option_map (λ (used : UsedBitmap). used.name) (option_map (used_bitmap t c) name) ≡ name
    named None = refl
    named (Some name) = refl
planned_row t (OfMirror c) = record {
  id = refl;
  number = refl;
  kind = refl;
  copies = refl;
  source = refl;
  target = refl;
  writes = refl;
  filter = refl;
  bitmap = refl;
}

-- ---- its changes, and what it was accepted with

pub planned_edits : (t : RunTable) (c : CopyCmd) → start_edits t (copy_job t c) ≡ copy_edits t (filter_kind (filter_of (plan_of c).kind)) (copy_job t c)
planned_edits t (OfBackup c) = start_copies t (OfBackup c)
planned_edits t (OfMirror c) = start_copies t (OfMirror c)

pub planned_asks : (t : RunTable) (told : Told) (c : CopyCmd) → IsMet t told (cmd_of c) → CopyAsked t told (plan_of c).device (plan_of c).target
planned_asks t told (OfBackup c) met = copy_asked t told (OfBackup c) met
planned_asks t told (OfMirror c) met = copy_asked t told (OfMirror c) met

-- what its command drains
pub planned_drains : (t : RunTable) (c : CopyCmd) → drained_by t (cmd_of c) ≡ ids_of (drained_node t (plan_of c))
planned_drains t (OfBackup c) = refl
planned_drains t (OfMirror c) = refl

-- ---- a command has one

pub same_command : (a b : CopyCmd) → cmd_of a ≡ cmd_of b → a ≡ b
same_command (OfBackup a) (OfBackup b) is = let one : a ≡ b = cc is in ap OfBackup one
same_command (OfMirror a) (OfMirror b) is = let one : a ≡ b = cc is in ap OfMirror one
same_command (OfBackup a) (OfMirror b) is = absurd (let no : ⊥ = cc is in no)
same_command (OfMirror a) (OfBackup b) is = absurd (let no : ⊥ = cc is in no)
