-- The job that a line begins has a name.
use Rattle.std.proofs.Common.{◌≡◌, ℕ, true, List, [], refl, sym, ◌∙◌, ap, subst, inl, inr, Option, Some, None, Ok, Err, ◌++◌}
use Rattle.std.specs.Prelude.{◌⊎◌, IfOk, OnErr, Result}
use Rattle.std.proofs.lemmas.Bool.{not-false}
use Rattle.qmp_asks.specs.CommandAsks.{asks_of}
use Rattle.qmp_asks.specs.JobAsks.{backup_names, backup_rest, backup_values, mirror_names, mirror_rest, mirror_values}
use Rattle.qmp_asks.specs.Naming.{is_name}
use Rattle.qmp_asks.specs.declared.ask.Ask.TheVariants as ask
use Rattle.qmp_codec.specs.Commands.{Cmd}
use Rattle.qmp_codec.specs.Lines.{Stop, command_at}
use Rattle.qmp_codec.specs.declared.command.Command.TheVariants as command
use Rattle.qmp_rules.specs.Answers.{Answer, accepted, answer, answer_by, answer_for, command_edits, line_answer, line_refusal, refusal_to, refused_so}
use Rattle.qmp_rules.specs.Asks.{holds}
use Rattle.qmp_rules.specs.Changes.{all_changed}
use Rattle.qmp_rules.specs.Edits.{edits_of}
use Rattle.qmp_rules.specs.Table.{RunTable, job_at}
use Rattle.qmp_rules.specs.declared.refusal.Refusal.{Refusal}
use Rattle.qmp_rules.specs.declared.rows.JobRecord.{JobRecord}
use Rattle.qmp_rules.specs.declared.told.Told.{Told}
use Rattle.serde_json.specs.Data.{object, no_members}
use Rattle.blk_nodes.specs.Joined.{IsJoined}
use Rattle.flat_machine.proofs.Asked.{NoneHolds, none-behind, not-refused}
use Rattle.job_commands.specs.Begun.{CopyCmd, OfBackup, OfMirror, cmd_of, copy_job, job_begun}
use Rattle.job_commands.proofs.Copies.{command_found, number_is_new}
use Rattle.job_ends.proofs.Others.{at_number}
use Rattle.job_progress.specs.Belonging.{HasWork, IsOfJob}
use Rattle.job_progress.proofs.Belong.{found_there}
use Rattle.job_tables.proofs.StartCommands.{accepted_met}
use Rattle.job_works.proofs.Changed.{job_found}
use Rattle.world_goings.proofs.Ahead.{job_there}
use Rattle.world_parts.specs.Carrying.{AnswersLine, IsExecuted, IsPutBack}
use Rattle.world_parts.specs.Coherent.{AreJobsKept, IsWholeWorld}
use Rattle.world_parts.specs.Face.{WorldSeen}
use Rattle.world_parts.specs.Jobs.{BeginsNone, BeginsOne}
use Rattle.world_parts.specs.Saying.{Given}
use Rattle.world_parts.specs.declared.executed.Executed.{Executed}
use Rattle.world_parts.specs.declared.executed.Executed.TheVariants.{Replied, Later}
use Rattle.world_parts.proofs.Accepted.{asked}
use Rattle.world_parts.proofs.JobsAnswered.{jobs_kept}
use Rattle.blk_world.proofs.KeptJobs.{starts_no_job}

-- ---- a backup or a mirror that nothing refuses

name_said : (t : RunTable) (told : Told) (member name : List ℕ) → holds t told (ask.Named member (Some name)) ≡ None → is_name name ≡ true
unfolding holds
name_said t told member name none = not-false _ (not-refused _ _ none)

copy_named : (t : RunTable) (told : Told) (c : CopyCmd) → refusal_to t told (cmd_of c) ≡ None → is_name (copy_job t c).id ≡ true
unfolding asks_of
copy_named t told (OfBackup c) none =
    let all : NoneHolds t told (backup_values c ++ backup_names c ++ backup_rest c) = asked t told (command.BlockdevBackup c) none in
    name_said t told _ c.job_id (none-behind t told (backup_values c) (backup_names c ++ backup_rest c) all).0
copy_named t told (OfMirror c) none =
    let all : NoneHolds t told (mirror_values c ++ mirror_names c ++ mirror_rest c) = asked t told (command.BlockdevMirror c) none in
    name_said t told _ c.job_id (none-behind t told (mirror_values c) (mirror_names c ++ mirror_rest c) all).0

begins_copy : (t : RunTable) (c : CopyCmd) → job_begun t (cmd_of c) ≡ Some (copy_job t c)
begins_copy t (OfBackup c) = refl
begins_copy t (OfMirror c) = refl

copy_edits : (t : RunTable) (told : Told) (c : CopyCmd) → command_edits t told (cmd_of c) ≡ edits_of t told (cmd_of c)
copy_edits t told (OfBackup c) = refl
copy_edits t told (OfMirror c) = refl

copy_number : (t : RunTable) (c : CopyCmd) → (copy_job t c).number ≡ t.started
copy_number t (OfBackup c) = refl
copy_number t (OfMirror c) = refl

-- ---- a line that is no command

nothing_changed : (t : RunTable) (first : Option Refusal)
    → all_changed t (elim first as (λ _. Answer) [ None ↦ accepted [] (object no_members) | Some cause ↦ refused_so [] cause ]).changes ≡ t
nothing_changed t None = refl
nothing_changed t (Some cause) = refl

-- ---- the job that begins behind a reply

module _ (w : WorldSeen) (whole : IsWholeWorld w) (joined : IsJoined w.nodes) (u : RunTable) (row : JobRecord) (number : row.number ≡ w.table.started)
    (there : job_at u row.number ≡ Some row) where
  -- each job that is kept was there, as its work was
  was_there : {A : Type 0} → AreJobsKept u w.works w.progress.aside → A
  was_there kept =
      let has : HasWork u w.works row = kept.belong.each row (job_there u row there) in
      let own : IsOfJob w.table has.work = whole.jobs.belong.owned has.work (found_there w.works row.number has.work has.there) in
      let same : own.row.number ≡ w.table.started = own.number ∙ job_found w.works row.number has.work has.there ∙ number in
      let none : Some own.row ≡ None
      = sym (at_number w.table whole.jobs.stand own.row own.there) ∙ number_is_new w.table whole.jobs.run own.row.number same in
      absurd (let bad : Some own.row ≡ None = none in cc bad)

  copy_begun : (told : Told) (c : CopyCmd) (first : Option Refusal) → refusal_to w.table told (cmd_of c) ≡ first
      → u ≡ all_changed w.table (answer w.table told (cmd_of c)).changes → is_name row.id ≡ true
  unfolding answer
  copy_begun told c None none table =
      let job = copy_job w.table c in
      let met = (accepted_met w.table told (cmd_of c) none).1 in
      let changed : u ≡ all_changed w.table (edits_of w.table told (cmd_of c))
      = table ∙ ap (λ (first : Option Refusal). all_changed w.table (answer_by w.table told (cmd_of c) first).changes) none
      ∙ ap (all_changed w.table) (copy_edits w.table told c) in
      let found : job_at u job.number ≡ Some job
      = subst (λ (x : RunTable). job_at x job.number ≡ Some job) (sym changed)
      (command_found w.table told told (cmd_of c) job whole.jobs.stand whole.jobs.run met (begins_copy w.table c)) in
      let both : Some row ≡ Some job = sym there ∙ ap (job_at u) (number ∙ sym (copy_number w.table c)) ∙ found in
      let same : row ≡ job = cc both in
      ap (λ (r : JobRecord). is_name r.id) same ∙ copy_named w.table told c none
  copy_begun told c (Some cause) some table =
      was_there (jobs_kept w whole joined (cmd_of c) told u (λ none. absurd (let bad : None ≡ Some cause = sym none ∙ some in cc bad)) table)

  begun_by : (told : Told) (c : Cmd) → u ≡ all_changed w.table (answer w.table told c).changes → is_name row.id ≡ true
  begun_by told (command.BlockdevBackup c) table = copy_begun told (OfBackup c) (refusal_to w.table told (command.BlockdevBackup c)) refl table
  begun_by told (command.BlockdevMirror c) table = copy_begun told (OfMirror c) (refusal_to w.table told (command.BlockdevMirror c)) refl table
  begun_by told c table = was_there (jobs_kept w whole joined c told u (λ none. starts_no_job w.table told c (refusal_to w.table told c) refl refl none) table)

  begun_behind : (told : Told) (line : List ℕ) (read : Result Cmd Stop) → u ≡ all_changed w.table (answer_for w.table told line read).changes
      → is_name row.id ≡ true
  begun_behind told line (Ok c) table = begun_by told c table
  begun_behind told line (Err why) table =
      was_there
      (subst (λ (x : RunTable). AreJobsKept x w.works w.progress.aside) (sym (table ∙ nothing_changed w.table (line_refusal w.table line why)))
      whole.jobs)

-- ---- the line

module _ (w v : WorldSeen) (whole : IsWholeWorld w) (joined : IsJoined w.nodes) (after : IsWholeWorld v) (row : JobRecord)
    (there : job_at v.table w.table.started ≡ Some row) where
  none_new : v.table.started ≡ w.table.started → is_name row.id ≡ true
  none_new same =
      absurd (let bad : Some row ≡ None = sym there ∙ number_is_new v.table after.jobs.run w.table.started (sym same) in cc bad)

  answered_named : (line : Given) → AnswersLine w v line → is_name row.id ≡ true
  unfolding line_answer
  answered_named line answers = by_begins answers.begins
    where
      by_begins : BeginsNone w.table answers.between v ⊎ BeginsOne w.table answers.between v → is_name row.id ≡ true
      by_begins (inl none) = none_new (ap (λ (x : WorldSeen). x.table.started) none.kept ∙ none.started)
      by_begins (inr one) =
          let tables : v.table ≡ answers.between.table = ap (λ (x : WorldSeen). x.table) one.begins.kept in
          let both : Some row ≡ Some one.row
          = sym there ∙ ap (λ (x : RunTable). job_at x w.table.started) tables ∙ ap (job_at answers.between.table) (sym one.number) ∙ one.begins.there in
          let same : row ≡ one.row = cc both in
          ap (λ (r : JobRecord). is_name r.id) same
          ∙ begun_behind w whole joined answers.between.table one.row one.number one.begins.there answers.replied.told line.text (command_at line.text)
          answers.replied.table

  pub executed_named : {E : Type 0} (line : Given) (r : Result Executed E) → IfOk r (λ answer. IsExecuted w v line answer) → OnErr r (IsPutBack w v)
      → is_name row.id ≡ true
  executed_named line (Ok Replied) done back = answered_named line done
  executed_named line (Ok (Later g r)) done back = none_new (ap (λ (x : WorldSeen). x.table.started) done.left)
  executed_named line (Err stop) done back = none_new (ap (λ (t : RunTable). t.started) back.table)
