-- A backup, a mirror or a commit goes on behind the reply to its command and its start.
use Rattle.std.proofs.Common.{◌≡◌, ℕ, ◌≤◌, ◌^◌, List, [], ◌∷◌, ◌++◌, refl, sym, ap, ◌∙◌, subst, le_refl, Some, None}
use Rattle.blk_history.specs.declared.event.Event.{Event}
use Rattle.blk_history.specs.declared.event.Event.TheVariants.{Start}
use Rattle.block_jobs.specs.Work.{JobWork}
use Rattle.qmp_codec.specs.Commands.{Cmd}
use Rattle.qmp_codec.specs.declared.command.Command.TheVariants as command
use Rattle.qmp_codec.specs.declared.jobs.Backup.{Backup}
use Rattle.qmp_codec.specs.declared.jobs.Commit.{Commit}
use Rattle.qmp_codec.specs.declared.jobs.Mirror.{Mirror}
use Rattle.qmp_rules.specs.declared.rows.JobRecord.{JobRecord}
use Rattle.qmp_rules.specs.declared.told.Told.{Told}
use Rattle.qmp_rules.specs.Changes.{all_changed}
use Rattle.qmp_rules.specs.Edits.{backup_job, commit_job, mirror_job, start_edits, edits_of}
use Rattle.qmp_rules.specs.Queries.{bytes_of_node}
use Rattle.qmp_rules.specs.Table.{RunTable, job_at}
use Rattle.flat_machine.specs.Agreement.{Contents}
use Rattle.flat_machine.specs.Begun.{begun_of}
use Rattle.flat_machine.specs.Changed.{all_stepped}
use Rattle.flat_machine.specs.Legal.{IsAtRest}
use Rattle.flat_machine.specs.Machine.{after}
use Rattle.flat_machine.specs.Performing.{AllPerformed}
use Rattle.flat_machine.specs.State.{State}
use Rattle.flat_machine.specs.Wiring.{TableAtRest}
use Rattle.flat_machine.proofs.Resting.{stepped_table}
use Rattle.job_entries.specs.Found.{HaveBegun}
use Rattle.job_entries.specs.Starts.{ShowsFilter}
use Rattle.job_entries.proofs.Found.{steps_note}
use Rattle.job_entries.proofs.Noted.{started_table}
use Rattle.job_entries.proofs.Starting.{start_performed}
use Rattle.job_tables.specs.Accepted.{IsMet}
use Rattle.job_tables.specs.Jobs.{JobsStand, EdgesAreDrawn}
use Rattle.job_tables.specs.Running.{JobsRun}
use Rattle.job_tables.specs.Starts.{JobBegins}
use Rattle.job_tables.proofs.StartCommands.{met_backup, met_commit, met_mirror}
use Rattle.job_tables.proofs.Started.{starts_stand}
use Rattle.job_works.specs.Works.{work_of}
use Rattle.job_progress.specs.Beginning.{CanBeCopied, work_begun}
use Rattle.job_progress.specs.Belonging.{AreWorksOf, without_row}
use Rattle.job_progress.specs.Going.{AreJobsAhead}
use Rattle.job_progress.proofs.Begin.{start_begins}
use Rattle.job_progress.proofs.Belong.{begins_belong}
use Rattle.job_progress.proofs.Entries.{entries_leave}
use Rattle.job_commands.specs.Begun.{IsOneCommand, job_begun}
use Rattle.job_commands.specs.Copies.{DisksStand, CopiesGoOn}
use Rattle.job_commands.proofs.Copied.{backup_can, commit_can, mirror_can}
use Rattle.job_commands.proofs.Copies.{begun_number, command_goes, command_begins, command_found, no_work_yet}

module _ (first s : State) (h : List Event) (e : Event) (told exp : Told) (c : Cmd) (row : JobRecord) (target : ℕ) (old new : Contents) (works : List JobWork)
    (rests : TableAtRest s.table) (j : JobsStand s.table) (r : JobsRun s.table) (one : IsOneCommand c) (met : IsMet s.table told c)
    (is : job_begun s.table c ≡ Some row) (edits : edits_of s.table exp c ≡ start_edits s.table row) (b : JobBegins s.table row) (at_rest : IsAtRest s) (have : HaveBegun s)
    (belong : AreWorksOf s.table works) (shows : ShowsFilter row old new) (go : AreJobsAhead first h s old.reads works) where
  abbrev answered : State
  answered = all_stepped s (edits_of s.table exp c)

  number : row.number ≡ s.table.started
  number = begun_number s.table c row is

  performed : AllPerformed s (edits_of s.table exp c) old new
  performed = subst (λ changes. AllPerformed s changes old new) (sym edits) (start_performed s row b old new shows)

  table_is : answered.table ≡ all_changed s.table (edits_of s.table exp c)
  table_is = stepped_table (edits_of s.table exp c) s

  stand : JobsStand answered.table
  stand = subst JobsStand (sym (table_is ∙ ap (all_changed s.table) edits)) (starts_stand s.table row rests.stands j b)

  found : job_at answered.table row.number ≡ Some row
  found = ap (λ (t : RunTable). job_at t row.number) table_is ∙ command_found s.table told exp c row j r met is

  none_begun : begun_of answered.begun row.number ≡ None
  none_begun =
      ap (λ bs. begun_of bs row.number) (steps_note (edits_of s.table exp c) s).begun
      ∙ have.later row.number (subst (λ n. s.starts ≤ n) (at_rest.started ∙ sym number) (le_refl s.starts))

  others : AreWorksOf (without_row row.number answered.table) works
  others = subst (λ (t : RunTable). AreWorksOf (without_row row.number t) works) (sym table_is) (command_begins s.table told exp c row works j r belong met is)

  pub copy_goes : CanBeCopied answered new.reads row target → bytes_of_node answered.table row.source ≤ 2 ^ 47
      → CopiesGoOn first ((h ++ e ∷ []) ++ Start row.number ∷ []) (after answered (Start row.number)) new.reads (works ++ work_begun answered row ∷ [])
  copy_goes can small = record {
    ahead =
        start_begins first answered (h ++ e ∷ []) new.reads row target works stand found (ap (work_of works) number ∙ no_work_yet s.table works r belong) none_begun can
        (entries_leave first answered answered h e new.reads works refl refl refl
        (command_goes first s h told exp c old new works rests j r belong one met performed go));
    works_of =
        subst (λ (t : RunTable). AreWorksOf t (works ++ work_begun answered row ∷ [])) (sym (started_table answered (job_at answered.table row.number)))
        (begins_belong answered row works stand found others small (λ d is_d. (can.granules d is_d).some));
  }

backup_edits : (t : RunTable) (exp : Told) (c : Backup (List ℕ)) → edits_of t exp (command.BlockdevBackup c) ≡ start_edits t (backup_job t None c)
unfolding edits_of
backup_edits t exp c = refl

commit_edits : (t : RunTable) (exp : Told) (c : Commit (List ℕ)) → edits_of t exp (command.BlockCommit c) ≡ start_edits t (commit_job t c)
unfolding edits_of
commit_edits t exp c = refl

mirror_edits : (t : RunTable) (exp : Told) (c : Mirror (List ℕ)) → edits_of t exp (command.BlockdevMirror c) ≡ start_edits t (mirror_job t c)
unfolding edits_of
mirror_edits t exp c = refl

module _ (first s : State) (h : List Event) (e : Event) (told exp : Told) (target : ℕ) (old new : Contents) (works : List JobWork)
    (rests : TableAtRest s.table) (j : JobsStand s.table) (r : JobsRun s.table) (at_rest : IsAtRest s) (have : HaveBegun s) (belong : AreWorksOf s.table works)
    (disks : DisksStand s old)
    (go : AreJobsAhead first h s old.reads works) where
  pub backup_goes : (c : Backup (List ℕ)) → IsMet s.table told (command.BlockdevBackup c) → (backup_job s.table None c).target ≡ Some target
      → ShowsFilter (backup_job s.table None c) old new
      → bytes_of_node (all_stepped s (edits_of s.table exp (command.BlockdevBackup c))).table (backup_job s.table None c).source ≤ 2 ^ 47
      → CopiesGoOn first ((h ++ e ∷ []) ++ Start s.table.started ∷ [])
      (after (all_stepped s (edits_of s.table exp (command.BlockdevBackup c))) (Start s.table.started)) new.reads
      (works ++ work_begun (all_stepped s (edits_of s.table exp (command.BlockdevBackup c))) (backup_job s.table None c) ∷ [])
  backup_goes c met at shows small =
      copy_goes first s h e told exp (command.BlockdevBackup c) (backup_job s.table None c) target old new works rests j r tt met refl (backup_edits s.table exp c)
      (met_backup s.table told c rests.stands j r met).job at_rest have belong shows go
      (backup_can s told exp c target old new rests.stands j met at disks shows) small

  pub mirror_goes : EdgesAreDrawn s.table → (c : Mirror (List ℕ)) → IsMet s.table told (command.BlockdevMirror c) → (mirror_job s.table c).target ≡ Some target
      → ShowsFilter (mirror_job s.table c) old new
      → bytes_of_node (all_stepped s (edits_of s.table exp (command.BlockdevMirror c))).table (mirror_job s.table c).source ≤ 2 ^ 47
      → CopiesGoOn first ((h ++ e ∷ []) ++ Start s.table.started ∷ [])
      (after (all_stepped s (edits_of s.table exp (command.BlockdevMirror c))) (Start s.table.started)) new.reads
      (works ++ work_begun (all_stepped s (edits_of s.table exp (command.BlockdevMirror c))) (mirror_job s.table c) ∷ [])
  mirror_goes d c met at shows small =
      copy_goes first s h e told exp (command.BlockdevMirror c) (mirror_job s.table c) target old new works rests j r tt met refl (mirror_edits s.table exp c)
      (met_mirror s.table told c rests.stands j r d met).job at_rest have belong shows go
      (mirror_can s told exp c target old new rests.stands j met at disks shows) small

  pub commit_goes : EdgesAreDrawn s.table → (c : Commit (List ℕ)) → IsMet s.table told (command.BlockCommit c) → (commit_job s.table c).target ≡ Some target
      → ShowsFilter (commit_job s.table c) old new
      → bytes_of_node (all_stepped s (edits_of s.table exp (command.BlockCommit c))).table (commit_job s.table c).source ≤ 2 ^ 47
      → CopiesGoOn first ((h ++ e ∷ []) ++ Start s.table.started ∷ [])
      (after (all_stepped s (edits_of s.table exp (command.BlockCommit c))) (Start s.table.started)) new.reads
      (works ++ work_begun (all_stepped s (edits_of s.table exp (command.BlockCommit c))) (commit_job s.table c) ∷ [])
  commit_goes d c met at shows small =
      copy_goes first s h e told exp (command.BlockCommit c) (commit_job s.table c) target old new works rests j r tt met refl (commit_edits s.table exp c)
      (met_commit s.table told c rests.stands j r d met) at_rest have belong shows go
      (commit_can s told exp c target old new rests.stands j r d met at disks shows) small
