-- What starts found stands behind accepted commands and failed creations, and behind the starts of backups and mirrors.
use Rattle.std.proofs.Common.{◌≡◌, ℕ, ◌≤◌, List, [], ◌∷◌, refl, sym, ap, ◌∙◌, subst, inl, inr, le_refl, Option, Some, None}
use Rattle.std.specs.Prelude.{◌==◌}
use Rattle.std.specs.List.{Contains}
use Rattle.blk_graph.proofs.Members.{find-Some}
use Rattle.blk_history.specs.declared.event.Event.TheVariants.{Start}
use Rattle.qmp_codec.specs.Commands.{Cmd}
use Rattle.qmp_codec.specs.declared.command.Command.TheVariants as command
use Rattle.qmp_codec.specs.declared.jobs.Backup.{Backup}
use Rattle.qmp_codec.specs.declared.jobs.Commit.{Commit}
use Rattle.qmp_codec.specs.declared.jobs.Mirror.{Mirror}
use Rattle.qmp_codec.specs.declared.nodes.Created.{Created}
use Rattle.qmp_codec.specs.declared.nodes.Created.TheVariants as created
use Rattle.qmp_asks.specs.CommandAsks.{asks_of}
use Rattle.qmp_rules.specs.declared.change.Change.{Change}
use Rattle.qmp_rules.specs.declared.change.Change.TheVariants as change
use Rattle.qmp_rules.specs.declared.rows.JobRecord.{JobRecord}
use Rattle.qmp_rules.specs.declared.told.Told.{Told}
use Rattle.qmp_rules.specs.Changes.{changed, all_changed}
use Rattle.qmp_rules.specs.Edits.{backup_job, commit_job, mirror_job, edits_of, spoiled}
use Rattle.qmp_rules.specs.Table.{RunTable, job_at}
use Rattle.flat_machine.specs.Changed.{all_stepped}
use Rattle.flat_machine.specs.Jobs.{started}
use Rattle.flat_machine.specs.Legal.{IsAtRest}
use Rattle.flat_machine.specs.Machine.{after}
use Rattle.flat_machine.specs.State.{State}
use Rattle.flat_machine.specs.Wiring.{TableAtRest}
use Rattle.flat_machine.proofs.Asked.{NoneHolds, none-holds}
use Rattle.flat_machine.proofs.Resting.{stepped_table}
use Rattle.job_entries.specs.Found.{HaveBegun, FindsWhole}
use Rattle.job_entries.proofs.Found.{steps_note, changes_begun, started_begun}
use Rattle.job_entries.proofs.Sources.{HaveOtherSources, SparesSources, AllSpare, spare-append}
use Rattle.job_tables.specs.Accepted.{IsMet}
use Rattle.job_tables.specs.Changes.{IsNoJobs}
use Rattle.job_tables.specs.Jobs.{JobsStand, EdgesAreDrawn}
use Rattle.job_tables.specs.Rows.{nodes_of_job}
use Rattle.job_tables.specs.Running.{JobsRun}
use Rattle.job_tables.proofs.RowEdges.{in_left, holds_source}
use Rattle.job_tables.proofs.StartCommands.{met_backup, met_commit, met_mirror}
use Rattle.job_tables.proofs.Started.{starts_stand}
use Rattle.job_commands.specs.Begun.{IsOneCommand, job_begun}
use Rattle.job_commands.specs.Whole.{DisksAreWhole}
use Rattle.job_commands.proofs.Copied.{backup_finds, mirror_finds, commit_finds}
use Rattle.job_commands.proofs.Copies.{begun_number, begun_among, command_found}
use Rattle.job_commands.proofs.Shapes.{ChangesBitmap, MayChange, command_spares, BeginsAmong}
use Rattle.job_commands.proofs.Spared.{SparesJobs, AllSpareJobs, sparing_keeps_jobs, all_prepare_spare, IsUse, AreUses}

-- ---- sources stay

module _ (from : ℕ) (t : RunTable) (j : JobsStand t) where
  no_source : (now : RunTable) → now.jobs ≡ t.jobs → (node : ℕ) → IsNoJobs t node → HaveOtherSources from now node
  no_source now same node free row here small is =
      let was = subst (λ rows. Contains rows row) same here in
      free.held row was (subst (Contains (nodes_of_job row)) is (in_left row.held row.read row.source (holds_source t row (j.each row was))))

  spared_sources : (now : RunTable) (c : Change) → now.jobs ≡ t.jobs → SparesJobs t c → SparesSources from now c
  spared_sources now (change.AddFile row) same s = no_source now same row.id s
  spared_sources now (change.AddFormat row file backing) same s = no_source now same row.id s
  spared_sources now (change.AddFilter row child) same s = no_source now same row.id s
  spared_sources now (change.PutFilter row node) same s = no_source now same row.id s
  spared_sources now (change.RemoveNode node) same s = no_source now same node s
  spared_sources now (change.PullFilter filter) same s = absurd s
  spared_sources now (change.StartJob row) same s = absurd s
  spared_sources now c same s = tt

  all_spared_sources : (changes : List Change) (now : RunTable) → now.jobs ≡ t.jobs → AllSpareJobs t changes → AllSpare from now changes
  all_spared_sources [] now same s = tt
  all_spared_sources (c ∷ changes) now same s =
      (spared_sources now c same s.0, all_spared_sources changes (changed now c) (sparing_keeps_jobs t now c s.0 ∙ same) s.1)

  one_spares : (c : Change) → ChangesBitmap t c → SparesSources from t c
  one_spares (change.AddBitmap row) leaves = tt
  one_spares (change.RemoveBitmap node name) leaves = tt
  one_spares c leaves = absurd leaves

  may_spare : (changes : List Change) → MayChange t changes → AllSpare from t changes
  may_spare changes (inl spares) = all_spared_sources changes t refl spares
  may_spare changes (inr (inl asks)) = subst (AllSpare from t) (sym asks.is) (tt, tt)
  may_spare changes (inr (inr of)) = subst (AllSpare from t) (sym of.is) (one_spares of.one of.leaves, tt)

  uses_spare : (changes : List Change) (now : RunTable) → AreUses changes → AllSpare from now changes
  uses_spare [] now u = tt
  uses_spare (c ∷ changes) now u = (one c u.0, uses_spare changes (changed now c) u.1)
    where
      one : (x : Change) → IsUse x → SparesSources from now x
      one (change.UseNode slot what node) k = tt
      one x k = absurd k

  begins_spare : (row : JobRecord) (changes : List Change) → from ≤ row.number → BeginsAmong t row changes → AllSpare from t changes
  begins_spare row changes late b =
      subst (AllSpare from t) (sym b.is)
      (spare-append from b.before (change.StartJob row ∷ b.behind) t (all_spared_sources b.before t refl (all_prepare_spare t b.before b.prepare))
      (late, uses_spare b.behind (changed (all_changed t b.before) (change.StartJob row)) b.uses))

-- ---- commands

pub command_begun : (s : State) (told exp : Told) (c : Cmd) → TableAtRest s.table → JobsStand s.table → JobsRun s.table → IsOneCommand c → IsMet s.table told c
    → IsAtRest s → HaveBegun s → HaveBegun (all_stepped s (edits_of s.table exp c))
command_begun s told exp c h j r one met rest have = by_job (job_begun s.table c) refl
  where
    asks : NoneHolds s.table told (asks_of c)
    asks = none-holds s.table told (asks_of c) met.asks

    by_job : (found : Option JobRecord) → job_begun s.table c ≡ found → HaveBegun (all_stepped s (edits_of s.table exp c))
    by_job None none =
        changes_begun (edits_of s.table exp c) s
        (may_spare s.starts s.table j (edits_of s.table exp c) (command_spares s.table told exp c h j one none asks)) have
    by_job (Some row) is =
        let late : s.starts ≤ row.number = subst (λ n. s.starts ≤ n) (rest.started ∙ sym (begun_number s.table c row is)) (le_refl s.starts) in
        changes_begun (edits_of s.table exp c) s
        (begins_spare s.starts s.table j row (edits_of s.table exp c) late (begun_among s.table told exp c row j is asks)) have

pub failure_begun : (s : State) (options : Created (List ℕ)) → HaveBegun s → HaveBegun (all_stepped s (spoiled s.table options))
failure_begun s options have = changes_begun (spoiled s.table options) s (spares options) have
  where
    spares : (o : Created (List ℕ)) → AllSpare s.starts s.table (spoiled s.table o)
    spares created.Unknown = tt
    spares (created.File c) = (tt, tt)
    spares (created.Qcow2 c) = (tt, tt)

-- ---- and starts behind them

module _ (s : State) (told exp : Told) (c : Cmd) (row : JobRecord) (h : TableAtRest s.table) (j : JobsStand s.table) (r : JobsRun s.table) (one : IsOneCommand c)
    (met : IsMet s.table told c) (rest : IsAtRest s) (have : HaveBegun s) (is : job_begun s.table c ≡ Some row) where
  abbrev replied_to : State
  replied_to = all_stepped s (edits_of s.table exp c)

  found_now : job_at replied_to.table row.number ≡ Some row
  found_now =
      ap (λ (t : RunTable). job_at t row.number) (stepped_table (edits_of s.table exp c) s)
      ∙ command_found s.table told exp c row j r met is

  number_now : row.number ≡ replied_to.starts
  number_now = begun_number s.table c row is ∙ sym rest.started ∙ sym (steps_note (edits_of s.table exp c) s).starts

  pub start_begun : JobsStand replied_to.table → FindsWhole replied_to row → HaveBegun (after replied_to (Start row.number))
  start_begun stand whole =
      subst (λ (found : Option JobRecord). HaveBegun (started replied_to found)) (sym found_now)
      (started_begun replied_to row stand (find-Some (λ (x : JobRecord). x.number == row.number) replied_to.table.jobs row found_now).0 number_now whole
      (command_begun s told exp c h j r one met rest have))

pub backup_begun : (s : State) (told exp : Told) (c : Backup (List ℕ)) → TableAtRest s.table → JobsStand s.table → JobsRun s.table
    → IsMet s.table told (command.BlockdevBackup c) → IsAtRest s → DisksAreWhole s → HaveBegun s
    → HaveBegun (after (all_stepped s (edits_of s.table exp (command.BlockdevBackup c))) (Start s.table.started))
unfolding edits_of
backup_begun s told exp c h j r met rest whole have =
    start_begun s told exp (command.BlockdevBackup c) (backup_job s.table None c) h j r tt met rest have refl
    (subst JobsStand (sym (stepped_table (edits_of s.table exp (command.BlockdevBackup c)) s))
    (starts_stand s.table (backup_job s.table None c) h.stands j (met_backup s.table told c h.stands j r met).job))
    (backup_finds s told exp c h.stands j met whole)

pub mirror_begun : (s : State) (told exp : Told) (c : Mirror (List ℕ)) → TableAtRest s.table → JobsStand s.table → JobsRun s.table → EdgesAreDrawn s.table
    → IsMet s.table told (command.BlockdevMirror c) → IsAtRest s → DisksAreWhole s → HaveBegun s
    → HaveBegun (after (all_stepped s (edits_of s.table exp (command.BlockdevMirror c))) (Start s.table.started))
unfolding edits_of
mirror_begun s told exp c h j r d met rest whole have =
    start_begun s told exp (command.BlockdevMirror c) (mirror_job s.table c) h j r tt met rest have refl
    (subst JobsStand (sym (stepped_table (edits_of s.table exp (command.BlockdevMirror c)) s))
    (starts_stand s.table (mirror_job s.table c) h.stands j (met_mirror s.table told c h.stands j r d met).job))
    (mirror_finds s told exp c h.stands j met whole)

pub commit_begun : (s : State) (told exp : Told) (c : Commit (List ℕ)) → TableAtRest s.table → JobsStand s.table → JobsRun s.table → EdgesAreDrawn s.table
    → IsMet s.table told (command.BlockCommit c) → IsAtRest s → DisksAreWhole s → HaveBegun s
    → HaveBegun (after (all_stepped s (edits_of s.table exp (command.BlockCommit c))) (Start s.table.started))
unfolding edits_of
commit_begun s told exp c h j r d met rest whole have =
    start_begun s told exp (command.BlockCommit c) (commit_job s.table c) h j r tt met rest have refl
    (subst JobsStand (sym (stepped_table (edits_of s.table exp (command.BlockCommit c)) s))
    (starts_stand s.table (commit_job s.table c) h.stands j (met_commit s.table told c h.stands j r d met)))
    (commit_finds s told exp c h.stands j r d met whole)
