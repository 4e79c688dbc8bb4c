-- What commands that start jobs are accepted with makes them begin.
use Rattle.std.proofs.Common.{◌≡◌, List, ◌∷◌, ◌++◌, ℕ, ◌+◌, ◌<◌, ◌≤◌, length, arith, true, Some, None, refl}
use Rattle.std.specs.Prelude.{codes}
use Rattle.std.proofs.lemmas.List.{length-map}
use Rattle.qmp_codec.specs.Commands.{Cmd}
use Rattle.qmp_codec.specs.declared.command.Command.TheVariants as command
use Rattle.qmp_codec.specs.declared.jobs.Backup.{Backup}
use Rattle.qmp_codec.specs.declared.jobs.Mirror.{Mirror}
use Rattle.qmp_codec.specs.declared.jobs.Stream.{Stream as StreamCommand}
use Rattle.qmp_codec.specs.declared.jobs.Commit.{Commit as CommitCommand}
use Rattle.qmp_asks.specs.CommandAsks.{asks_of, negotiates}
use Rattle.qmp_asks.specs.JobAsks.{on_error_value, job_values, stream_names, stream_rest, commit_names, commit_rest, is_other, backup_values, backup_names, backup_rest, mirror_values, mirror_names, mirror_rest}
use Rattle.qmp_rules.specs.declared.told.Told.{Told}
use Rattle.qmp_rules.specs.declared.change.Change.{Change}
use Rattle.qmp_rules.specs.declared.rows.JobRecord.{JobRecord}
use Rattle.qmp_rules.specs.Answers.{conflict_in, unbuilt, out_of_turn, refusal_to, refusal_behind, command_edits}
use Rattle.qmp_rules.specs.Asks.{first_unmet_ask}
use Rattle.qmp_rules.specs.Changes.{all_changed}
use Rattle.qmp_rules.specs.Edits.{node_ids, free_id, stream_job, commit_job, backup_job, mirror_job, start_edits, edits_of}
use Rattle.qmp_rules.specs.Table.{RunTable}
use Rattle.flat_machine.specs.Replies.{begins_job}
use Rattle.flat_machine.specs.Wiring.{TableStands}
use Rattle.flat_machine.proofs.Asked.{none-both, NoneHolds, none-holds, none-behind, good-value, room-left}
use Rattle.job_tables.specs.Accepted.{IsMet, Begins, JobsGoOn, JobsAreDrawn}
use Rattle.job_tables.specs.Copiers.{CopiesGo}
use Rattle.job_tables.specs.Jobs.{JobsStand, EdgesAreDrawn}
use Rattle.job_tables.specs.Running.{JobsRun, RunBegins}
use Rattle.job_tables.specs.Starts.{JobBegins}
use Rattle.job_tables.proofs.ChainBegins.{stream_begins, commit_job_begins, commit_job_runs}
use Rattle.job_tables.proofs.CommitOthers.{no_source_unsettled}
use Rattle.job_tables.proofs.CopierStarts.{starts_keep_copies}
use Rattle.job_tables.proofs.CopyBegins.{backup_asked, mirror_asked, backup_begins, mirror_command_begins, backup_copies, mirror_copies}
use Rattle.job_tables.proofs.Drawn.{drawn_by}
use Rattle.job_tables.proofs.DrawnStarts.{starts_drawn, streams_drawn}
use Rattle.job_tables.proofs.RunStarts.{starts_run}
use Rattle.job_tables.proofs.Slots.{lowest_below}
use Rattle.job_tables.proofs.Started.{starts_stand}

pub met_backup : (t : RunTable) (told : Told) (c : Backup (List ℕ)) → TableStands t → JobsStand t → JobsRun t → IsMet t told (command.BlockdevBackup c)
    → Begins t (backup_job t None c)
unfolding asks_of
met_backup t told c h j r met =
    let asks : NoneHolds t told (backup_values c ++ backup_names c ++ backup_rest c) = none-holds t told (asks_of (command.BlockdevBackup c)) met.asks in
    backup_begins t told None c h j r (good-value t told (codes "target") (is_other c.target c.device) asks.0)
    (none-behind t told (backup_values c ++ backup_names c) (backup_rest c) asks)

pub met_mirror : (t : RunTable) (told : Told) (c : Mirror (List ℕ)) → TableStands t → JobsStand t → JobsRun t → EdgesAreDrawn t
    → IsMet t told (command.BlockdevMirror c) → Begins t (mirror_job t c)
unfolding asks_of
met_mirror t told c h j r d met =
    let asks : NoneHolds t told (mirror_values c ++ mirror_names c ++ mirror_rest c) = none-holds t told (asks_of (command.BlockdevMirror c)) met.asks in
    mirror_command_begins t told c h j r d.listed (good-value t told (codes "target") (is_other c.target c.device) asks.0)
    (none-behind t told (mirror_values c ++ mirror_names c) (mirror_rest c) asks)

pub met_stream : (t : RunTable) (told : Told) (c : StreamCommand (List ℕ)) → TableStands t → JobsStand t → JobsRun t → IsMet t told (command.BlockStream c)
    → Begins t (stream_job t c)
unfolding asks_of
met_stream t told c h j r met =
    let ahead = on_error_value (codes "on-error") c.on_error ∷ job_values c.options ++ stream_names c in
    let asks : NoneHolds t told (ahead ++ stream_rest c) = none-holds t told (asks_of (command.BlockStream c)) met.asks in
    stream_begins t told c h j r (none-behind t told ahead (stream_rest c) asks)

pub met_commit : (t : RunTable) (told : Told) (c : CommitCommand (List ℕ)) → TableStands t → JobsStand t → JobsRun t → EdgesAreDrawn t
    → IsMet t told (command.BlockCommit c) → JobBegins t (commit_job t c)
unfolding asks_of
met_commit t told c h j r d met =
    let ahead = on_error_value (codes "on-error") c.on_error ∷ job_values c.options ++ commit_names c in
    let asks : NoneHolds t told (ahead ++ commit_rest c) = none-holds t told (asks_of (command.BlockCommit c)) met.asks in
    commit_job_begins t told c h j r d (none-behind t told ahead (commit_rest c) asks)

-- ---- and what it leaves

free_small : (t : RunTable) → length t.nodes + 1 ≤ 64 → free_id t < 64
free_small t room =
    let same : length (node_ids t) ≡ length t.nodes = simp length-map in
    lowest_below 64 (node_ids t) (omega arith)

start_keeps : (t : RunTable) (row : JobRecord) → TableStands t → JobsAreDrawn t → Begins t row → free_id t < 64
    → conflict_in (all_changed t (start_edits t row)) ≡ None → JobsAreDrawn (all_changed t (start_edits t row))
start_keeps t row h g b few quiet =
    let x = starts_drawn t h g.jobs.stand g.edges g.small row b.job few in
    record {
      jobs = record {
        stand = starts_stand t row h g.jobs.stand b.job;
        run = starts_run t row h g.jobs.stand g.jobs.run b.job b.run;
      };
      edges = drawn_by (all_changed t (start_edits t row)) x quiet;
      small = x.draft.small;
    }

pub kept_backup : (t : RunTable) (told : Told) (c : Backup (List ℕ)) → TableStands t → JobsAreDrawn t → IsMet t told (command.BlockdevBackup c)
    → JobsAreDrawn (all_changed t (edits_of t told (command.BlockdevBackup c)))
unfolding asks_of edits_of
kept_backup t told c h g met =
    let asks : NoneHolds t told (backup_values c ++ backup_names c ++ backup_rest c) = none-holds t told (asks_of (command.BlockdevBackup c)) met.asks in
    let rest = none-behind t told (backup_values c ++ backup_names c) (backup_rest c) asks in
    let a = backup_asked t told c (good-value t told (codes "target") (is_other c.target c.device) asks.0) rest in
    start_keeps t (backup_job t None c) h g (met_backup t told c h g.jobs.stand g.jobs.run met) (free_small t (room-left t told 1 a.nodes)) met.behind

pub kept_mirror : (t : RunTable) (told : Told) (c : Mirror (List ℕ)) → TableStands t → JobsAreDrawn t → IsMet t told (command.BlockdevMirror c)
    → JobsAreDrawn (all_changed t (edits_of t told (command.BlockdevMirror c)))
unfolding asks_of edits_of
kept_mirror t told c h g met =
    let asks : NoneHolds t told (mirror_values c ++ mirror_names c ++ mirror_rest c) = none-holds t told (asks_of (command.BlockdevMirror c)) met.asks in
    let rest = none-behind t told (mirror_values c ++ mirror_names c) (mirror_rest c) asks in
    let a = mirror_asked t told c (good-value t told (codes "target") (is_other c.target c.device) asks.0) rest in
    start_keeps t (mirror_job t c) h g (met_mirror t told c h g.jobs.stand g.jobs.run g.edges met) (free_small t (room-left t told 1 a.nodes)) met.behind

pub kept_stream : (t : RunTable) (told : Told) (c : StreamCommand (List ℕ)) → TableStands t → JobsAreDrawn t → IsMet t told (command.BlockStream c)
    → JobsAreDrawn (all_changed t (edits_of t told (command.BlockStream c)))
unfolding edits_of
kept_stream t told c h g met =
    let b = met_stream t told c h g.jobs.stand g.jobs.run met in
    let row : JobRecord = stream_job t c in
    let x = streams_drawn t h g.jobs.stand g.edges g.small row b.job refl in
    record {
      jobs = record {
        stand = starts_stand t row h g.jobs.stand b.job;
        run = starts_run t row h g.jobs.stand g.jobs.run b.job b.run;
      };
      edges = drawn_by (all_changed t (start_edits t row)) x met.behind;
      small = x.draft.small;
    }

-- ---- commits, which nobody reads below their tops

met_commit_runs : (t : RunTable) (told : Told) (c : CommitCommand (List ℕ)) → TableStands t → JobsAreDrawn t → IsMet t told (command.BlockCommit c)
    → RunBegins t (commit_job t c)
unfolding asks_of edits_of start_edits
met_commit_runs t told c h g met =
    let ahead = on_error_value (codes "on-error") c.on_error ∷ job_values c.options ++ commit_names c in
    let asks : NoneHolds t told (ahead ++ commit_rest c) = none-holds t told (asks_of (command.BlockCommit c)) met.asks in
    let rest = none-behind t told ahead (commit_rest c) asks in
    let row : JobRecord = commit_job t c in
    let b = met_commit t told c h g.jobs.stand g.jobs.run g.edges met in
    let x = starts_drawn t h g.jobs.stand g.edges g.small row b (free_small t (room-left t told 1 rest.1.1.1.1.0)) in
    commit_job_runs t told c h g.jobs.stand g.jobs.run g.edges rest
    (no_source_unsettled t h g.jobs.stand row b refl (starts_stand t row h g.jobs.stand b) (drawn_by (all_changed t (start_edits t row)) x met.behind) x)

pub met_commit_begins : (t : RunTable) (told : Told) (c : CommitCommand (List ℕ)) → TableStands t → JobsAreDrawn t → IsMet t told (command.BlockCommit c)
    → Begins t (commit_job t c)
met_commit_begins t told c h g met =
    record { job = met_commit t told c h g.jobs.stand g.jobs.run g.edges met; run = met_commit_runs t told c h g met }

pub kept_commit : (t : RunTable) (told : Told) (c : CommitCommand (List ℕ)) → TableStands t → JobsAreDrawn t → IsMet t told (command.BlockCommit c)
    → JobsAreDrawn (all_changed t (edits_of t told (command.BlockCommit c)))
unfolding asks_of edits_of
kept_commit t told c h g met =
    let ahead = on_error_value (codes "on-error") c.on_error ∷ job_values c.options ++ commit_names c in
    let asks : NoneHolds t told (ahead ++ commit_rest c) = none-holds t told (asks_of (command.BlockCommit c)) met.asks in
    let rest = none-behind t told ahead (commit_rest c) asks in
    start_keeps t (commit_job t c) h g (met_commit_begins t told c h g met)
    (free_small t (room-left t told 1 rest.1.1.1.1.0)) met.behind

-- ---- the targets of backups and mirrors

pub backup_goes : (t : RunTable) (told : Told) (c : Backup (List ℕ)) → TableStands t → JobsStand t → JobsRun t → IsMet t told (command.BlockdevBackup c)
    → CopiesGo t → CopiesGo (all_changed t (edits_of t told (command.BlockdevBackup c)))
unfolding asks_of edits_of
backup_goes t told c h j r met g =
    let asks : NoneHolds t told (backup_values c ++ backup_names c ++ backup_rest c) = none-holds t told (asks_of (command.BlockdevBackup c)) met.asks in
    starts_keep_copies t (backup_job t None c) h j (met_backup t told c h j r met).job
    (backup_copies t told None c h j r (good-value t told (codes "target") (is_other c.target c.device) asks.0)
    (none-behind t told (backup_values c ++ backup_names c) (backup_rest c) asks)) g

pub mirror_goes : (t : RunTable) (told : Told) (c : Mirror (List ℕ)) → TableStands t → JobsStand t → JobsRun t → EdgesAreDrawn t
    → IsMet t told (command.BlockdevMirror c) → CopiesGo t → CopiesGo (all_changed t (edits_of t told (command.BlockdevMirror c)))
unfolding asks_of edits_of
mirror_goes t told c h j r d met g =
    let asks : NoneHolds t told (mirror_values c ++ mirror_names c ++ mirror_rest c) = none-holds t told (asks_of (command.BlockdevMirror c)) met.asks in
    starts_keep_copies t (mirror_job t c) h j (met_mirror t told c h j r d met).job
    (mirror_copies t told c h j r (good-value t told (codes "target") (is_other c.target c.device) asks.0)
    (none-behind t told (mirror_values c ++ mirror_names c) (mirror_rest c) asks)) g

pub stream_goes : (t : RunTable) (told : Told) (c : StreamCommand (List ℕ)) → TableStands t → JobsStand t → JobsRun t → IsMet t told (command.BlockStream c)
    → CopiesGo t → CopiesGo (all_changed t (edits_of t told (command.BlockStream c)))
unfolding edits_of
stream_goes t told c h j r met g =
    starts_keep_copies t (stream_job t c) h j (met_stream t told c h j r met).job (λ target is. absurd (let bad : None ≡ Some target = is in cc bad)) g

pub commit_goes : (t : RunTable) (told : Told) (c : CommitCommand (List ℕ)) → TableStands t → JobsStand t → JobsRun t → EdgesAreDrawn t
    → IsMet t told (command.BlockCommit c) → CopiesGo t → CopiesGo (all_changed t (edits_of t told (command.BlockCommit c)))
unfolding edits_of
commit_goes t told c h j r d met g =
    starts_keep_copies t (commit_job t c) h j (met_commit t told c h j r d met) (λ target is. absurd (let bad : None ≡ Some target = is in cc bad)) g

-- ---- an accepted command that begins a job

pub accepted_met : (t : RunTable) (told : Told) (c : Cmd) → refusal_to t told c ≡ None → (unbuilt c ≡ None) × IsMet t told c
unfolding refusal_to
accepted_met t told c quiet =
    let known = none-both (unbuilt c) _ quiet in
    let turn = none-both (out_of_turn (negotiates c) t.negotiated) _ known.1 in
    let asks = none-both (first_unmet_ask t told (asks_of c)) (refusal_behind t told c) turn.1 in
    (known.0, record { asks = asks.0; behind = asks.1 })

-- the changes are those of the start of a job that begins so
pub record IsStart (t : RunTable) (changes : List Change) : Type 0 where
  pub row : JobRecord
  pub is : changes ≡ start_edits t row
  pub begins : Begins t row

pub accepted_start : (t : RunTable) (told exp : Told) (c : Cmd) → TableStands t → JobsGoOn t → EdgesAreDrawn t → begins_job c ≡ true
    → refusal_to t told c ≡ None → IsStart t (command_edits t exp c)
unfolding edits_of
accepted_start t told exp c h g d begins quiet = let met = accepted_met t told c quiet in by_command c begins met.0 met.1
  where
    by_command : (c : Cmd) → begins_job c ≡ true → unbuilt c ≡ None → IsMet t told c → IsStart t (command_edits t exp c)
    by_command (command.BlockdevBackup c) begins is met =
        record { row = backup_job t None c; is = refl; begins = met_backup t told c h g.stand g.run met }
    by_command (command.BlockdevMirror c) begins is met =
        record { row = mirror_job t c; is = refl; begins = met_mirror t told c h g.stand g.run d met }
    by_command _ begins is met = absurd cc

pub accepted_start_drawn : (t : RunTable) (told exp : Told) (c : Cmd) → TableStands t → JobsAreDrawn t → begins_job c ≡ true → refusal_to t told c ≡ None
    → JobsAreDrawn (all_changed t (command_edits t exp c))
unfolding edits_of
accepted_start_drawn t told exp c h g begins quiet = let met = accepted_met t told c quiet in by_command c begins met.0 met.1
  where
    by_command : (c : Cmd) → begins_job c ≡ true → unbuilt c ≡ None → IsMet t told c → JobsAreDrawn (all_changed t (command_edits t exp c))
    by_command (command.BlockdevBackup c) begins is met = kept_backup t told c h g met
    by_command (command.BlockdevMirror c) begins is met = kept_mirror t told c h g met
    by_command _ begins is met = absurd cc
