-- An accepted command that begins a backup or a mirror: what both have alike, and what is known of each.
use Rattle.std.proofs.Common.{◌≡◌, ℕ, List, [], ◌++◌, true, false, refl, sym, ◌∙◌, ap, subst, Ok, Option, Some, None}
use Rattle.std.specs.Prelude.{codes, option_map, unwrap_or}
use Rattle.blk_graph.specs.declared.kind.Kind.{Kind}
use Rattle.blk_graph.specs.declared.kind.Kind.TheVariants.{BeforeWrite, Mirror}
use Rattle.blk_history.specs.declared.event.Event.TheVariants.{Start}
use Rattle.qmp_asks.specs.CommandAsks.{asks_of}
use Rattle.qmp_asks.specs.JobAsks.{backup_names, backup_rest, backup_values, is_other, mirror_names, mirror_rest, mirror_values}
use Rattle.qmp_codec.specs.declared.command.Command.TheVariants.{BlockdevBackup, BlockdevMirror}
use Rattle.qmp_codec.specs.declared.jobs.Backup.{Backup as BackupCommand}
use Rattle.qmp_codec.specs.declared.jobs.Mirror.{Mirror as MirrorCommand}
use Rattle.qmp_rules.specs.Answers.{command_edits}
use Rattle.qmp_rules.specs.Asks.{id_or}
use Rattle.qmp_rules.specs.Changes.{all_changed}
use Rattle.qmp_rules.specs.Edits.{copy_edits, edits_of, start_edits}
use Rattle.qmp_rules.specs.Table.{RunTable, id_named}
use Rattle.qmp_rules.specs.declared.rows.JobRecord.{JobRecord}
use Rattle.qmp_rules.specs.declared.rows.NodeRecord.{NodeRecord}
use Rattle.qmp_rules.specs.declared.told.Told.{Told}
use Rattle.flat_machine.specs.Agreement.{Contents}
use Rattle.flat_machine.specs.Changed.{all_stepped}
use Rattle.flat_machine.specs.Jobs.{copied_to}
use Rattle.flat_machine.specs.Legal.{IsAtRest}
use Rattle.flat_machine.specs.Machine.{after}
use Rattle.flat_machine.specs.Marks.{AreCalm, drained_by, ids_of, snapshot_marks, start_marks}
use Rattle.flat_machine.specs.State.{Guest, State}
use Rattle.flat_machine.specs.Wiring.{TableAtRest, TableStands}
use Rattle.flat_machine.proofs.Asked.{NoneHolds, found-named, good-value, none-behind, none-holds}
use Rattle.job_commands.specs.Begun.{CopyCmd, IsOneCommand, OfBackup, OfMirror, cmd_of, copy_job, job_begun}
use Rattle.job_commands.specs.Copies.{DisksStand}
use Rattle.job_commands.specs.Whole.{DisksAreWhole}
use Rattle.job_commands.proofs.BegunKept.{backup_begun, mirror_begun}
use Rattle.job_commands.proofs.Copied.{backup_can, mirror_can}
use Rattle.job_entries.specs.Found.{HaveBegun}
use Rattle.job_entries.specs.Starts.{LendsAsRead, ShowsFilter}
use Rattle.job_progress.specs.Beginning.{CanBeCopied}
use Rattle.job_progress.specs.Going.{copies_blocks}
use Rattle.job_tables.specs.Accepted.{Begins, IsMet, JobsAreDrawn}
use Rattle.job_tables.specs.Copiers.{CopierBegins, CopiesGo}
use Rattle.job_tables.specs.Jobs.{EdgesAreDrawn, JobsStand}
use Rattle.job_tables.specs.Running.{JobsRun}
use Rattle.job_tables.specs.Starts.{CopyBegins, JobBegins}
use Rattle.job_tables.proofs.CopyBegins.{CopyAsked, backup_asked, backup_copies, mirror_asked, mirror_copies}
use Rattle.job_tables.proofs.StartCommands.{backup_goes, kept_backup, kept_mirror, met_backup, met_mirror, mirror_goes}

-- ---- the command

abbrev pub driver_of : CopyCmd → Kind
driver_of (OfBackup c) = BeforeWrite
driver_of (OfMirror c) = Mirror

abbrev pub device_of : CopyCmd → List ℕ
device_of (OfBackup c) = c.device
device_of (OfMirror c) = c.device

abbrev pub target_of : CopyCmd → List ℕ
target_of (OfBackup c) = c.target
target_of (OfMirror c) = c.target

pub one_command : (c : CopyCmd) → IsOneCommand (cmd_of c)
one_command (OfBackup c) = tt
one_command (OfMirror c) = tt

module _ (t : RunTable) where
  pub begins_row : (c : CopyCmd) → job_begun t (cmd_of c) ≡ Some (copy_job t c)
  begins_row (OfBackup c) = refl
  begins_row (OfMirror c) = refl

  pub no_snapshot : (c : CopyCmd) → snapshot_marks t (Ok (cmd_of c)) ≡ []
  no_snapshot (OfBackup c) = refl
  no_snapshot (OfMirror c) = refl

  -- ---- its changes

  pub edits_start : (exp : Told) (c : CopyCmd) → edits_of t exp (cmd_of c) ≡ start_edits t (copy_job t c)
  unfolding edits_of
  edits_start exp (OfBackup c) = refl
  edits_start exp (OfMirror c) = refl

  pub command_starts : (exp : Told) (c : CopyCmd) → command_edits t exp (cmd_of c) ≡ start_edits t (copy_job t c)
  unfolding edits_of
  command_starts exp (OfBackup c) = refl
  command_starts exp (OfMirror c) = refl

  pub start_copies : (c : CopyCmd) → start_edits t (copy_job t c) ≡ copy_edits t (driver_of c) (copy_job t c)
  unfolding start_edits
  start_copies (OfBackup c) = refl
  start_copies (OfMirror c) = refl

  -- ---- its row

  pub record IsNewCopy (row : JobRecord) : Type 0 where
    pub number : row.number ≡ t.started
    pub kind : copies_blocks row.kind ≡ true
    pub group : row.group ≡ None
    pub yet : row.is_ready ≡ false
    pub copied : copied_to row row.kind ≡ row.target
    pub lends : LendsAsRead t row row.kind

  pub new_copy : (c : CopyCmd) → IsNewCopy (copy_job t c)
  new_copy (OfBackup c) = record { number = refl; kind = refl; group = refl; yet = refl; copied = refl; lends = tt }
  new_copy (OfMirror c) = record { number = refl; kind = refl; group = refl; yet = refl; copied = refl; lends = tt }

  pub row_source : (c : CopyCmd) → (copy_job t c).source ≡ id_or 0 t (Some (device_of c))
  row_source (OfBackup c) = refl
  row_source (OfMirror c) = refl

  pub copy_shape : (c : CopyCmd) → JobBegins t (copy_job t c) → CopyBegins t (copy_job t c)
  copy_shape (OfBackup c) begins = begins.shape
  copy_shape (OfMirror c) begins = begins.shape.copies

-- ---- what it was accepted with

module _ (t : RunTable) (told : Told) where
  pub backup_met : (c : BackupCommand (List ℕ)) → IsMet t told (BlockdevBackup c) → (is_other c.target c.device ≡ true) × NoneHolds t told (backup_rest c)
  unfolding asks_of
  backup_met c met =
      let asks : NoneHolds t told (backup_values c ++ backup_names c ++ backup_rest c) = none-holds t told (asks_of (BlockdevBackup c)) met.asks in
      (good-value t told (codes "target") (is_other c.target c.device) asks.0, none-behind t told (backup_values c ++ backup_names c) (backup_rest c) asks)

  mirror_met : (c : MirrorCommand (List ℕ)) → IsMet t told (BlockdevMirror c) → (is_other c.target c.device ≡ true) × NoneHolds t told (mirror_rest c)
  unfolding asks_of
  mirror_met c met =
      let asks : NoneHolds t told (mirror_values c ++ mirror_names c ++ mirror_rest c) = none-holds t told (asks_of (BlockdevMirror c)) met.asks in
      (good-value t told (codes "target") (is_other c.target c.device) asks.0, none-behind t told (mirror_values c ++ mirror_names c) (mirror_rest c) asks)

  pub copy_asked : (c : CopyCmd) → IsMet t told (cmd_of c) → CopyAsked t told (device_of c) (target_of c)
  copy_asked (OfBackup c) met = let x = backup_met c met in backup_asked t told c x.0 x.1
  copy_asked (OfMirror c) met = let x = mirror_met c met in mirror_asked t told c x.0 x.1

  -- its source is the node that it names
  pub source_named : (c : CopyCmd) → IsMet t told (cmd_of c) → id_named t (device_of c) ≡ Some (copy_job t c).source
  source_named c met =
      let found = found-named t told (device_of c) (copy_asked c met).device_found in
      let named : id_named t (device_of c) ≡ Some found.0.id = ap (option_map (λ (r : NodeRecord). r.id)) found.1 in
      named ∙ ap Some (sym (row_source t c ∙ ap (λ (id : Option ℕ). unwrap_or id 0) named))

  -- what a backup marks was drained, and a mirror marks nothing
  pub marks_calm : (guests : List Guest) (c : CopyCmd) → IsMet t told (cmd_of c) → AreCalm t guests (drained_by t (cmd_of c))
      → AreCalm t guests (start_marks (copy_job t c) (copy_job t c).kind)
  marks_calm guests (OfBackup c) met calm = subst (λ (id : Option ℕ). AreCalm t guests (ids_of id)) (source_named (OfBackup c) met) calm
  marks_calm guests (OfMirror c) met calm = calm

  module _ (h : TableStands t) (j : JobsStand t) (r : JobsRun t) where
    pub copier_begins : (c : CopyCmd) → IsMet t told (cmd_of c) → CopierBegins t (copy_job t c)
    copier_begins (OfBackup c) met = let x = backup_met c met in backup_copies t told None c h j r x.0 x.1
    copier_begins (OfMirror c) met = let x = mirror_met c met in mirror_copies t told c h j r x.0 x.1

    module _ (d : EdgesAreDrawn t) where
      pub copy_begins : (c : CopyCmd) → IsMet t told (cmd_of c) → Begins t (copy_job t c)
      copy_begins (OfBackup c) met = met_backup t told c h j r met
      copy_begins (OfMirror c) met = met_mirror t told c h j r d met

      pub copy_goes : (c : CopyCmd) → IsMet t told (cmd_of c) → CopiesGo t → CopiesGo (all_changed t (edits_of t told (cmd_of c)))
      copy_goes (OfBackup c) met g = backup_goes t told c h j r met g
      copy_goes (OfMirror c) met g = mirror_goes t told c h j r d met g

  pub copy_drawn : TableStands t → JobsAreDrawn t → (c : CopyCmd) → IsMet t told (cmd_of c) → JobsAreDrawn (all_changed t (edits_of t told (cmd_of c)))
  copy_drawn h g (OfBackup c) met = kept_backup t told c h g met
  copy_drawn h g (OfMirror c) met = kept_mirror t told c h g met

-- ---- where its changes are made

module _ (s : State) (told exp : Told) where
  abbrev behind : CopyCmd → State
  behind c = all_stepped s (edits_of s.table exp (cmd_of c))

  pub copy_can : (c : CopyCmd) (target : ℕ) (old new : Contents) → TableStands s.table → JobsStand s.table → IsMet s.table told (cmd_of c)
      → (copy_job s.table c).target ≡ Some target → DisksStand s old → ShowsFilter (copy_job s.table c) old new
      → CanBeCopied (behind c) new.reads (copy_job s.table c) target
  copy_can (OfBackup c) target old new h j met at disks shows = backup_can s told exp c target old new h j met at disks shows
  copy_can (OfMirror c) target old new h j met at disks shows = mirror_can s told exp c target old new h j met at disks shows

  pub copy_begun : (c : CopyCmd) → TableAtRest s.table → JobsAreDrawn s.table → IsMet s.table told (cmd_of c) → IsAtRest s → DisksAreWhole s
      → HaveBegun s → HaveBegun (after (behind c) (Start s.table.started))
  copy_begun (OfBackup c) h g met rest whole have = backup_begun s told exp c h g.jobs.stand g.jobs.run met rest whole have
  copy_begun (OfMirror c) h g met rest whole have = mirror_begun s told exp c h g.jobs.stand g.jobs.run g.edges met rest whole have
