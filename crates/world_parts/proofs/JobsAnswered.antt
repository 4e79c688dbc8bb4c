-- What is kept of jobs, and what is known of them, stays behind the answer to a command that begins none.
use Rattle.std.proofs.Common.{◌≡◌, ◌≢◌, ℕ, ◌+◌, ◌==◌, Bool, true, false, cond, List, [], ◌∷◌, map, refl, sym, ◌∙◌, ap, subst, inl, inr, Option, Some, None}
use Rattle.std.specs.Prelude.{AllPairs, Contains}
use Rattle.blk_graph.proofs.Members.{Contains-map}
use Rattle.blk_graph.proofs.RoleLemmas.{map_pairs}
use Rattle.blk_history.specs.declared.event.Event.{Event}
use Rattle.blk_nodes.specs.Joined.{IsJoined}
use Rattle.block_jobs.specs.Work.{JobWork}
use Rattle.qmp_codec.specs.Commands.{Cmd}
use Rattle.qmp_codec.specs.declared.command.Command.TheVariants as command
use Rattle.qmp_codec.specs.declared.nodes.BlockdevCreate.{BlockdevCreate}
use Rattle.qmp_codec.specs.declared.nodes.Created.{Created}
use Rattle.qmp_codec.specs.declared.nodes.Created.TheVariants as created
use Rattle.qmp_asks.specs.CommandAsks.{asks_of, negotiates}
use Rattle.qmp_rules.specs.declared.change.Change.{Change}
use Rattle.qmp_rules.specs.declared.change.Change.TheVariants as change
use Rattle.qmp_rules.specs.declared.refusal.Refusal.{Refusal}
use Rattle.qmp_rules.specs.declared.refusal.Refusal.TheVariants as refusal
use Rattle.qmp_rules.specs.declared.rows.AskedEnd.{AskedEnd}
use Rattle.qmp_rules.specs.declared.rows.AskedEnd.TheVariants as asked
use Rattle.qmp_rules.specs.declared.rows.JobRecord.{JobRecord}
use Rattle.qmp_rules.specs.declared.told.Told.{Told}
use Rattle.qmp_rules.specs.Answers.{answer, answer_by, command_edits, left_by, out_of_turn, refusal_behind, refusal_to, unbuilt}
use Rattle.qmp_rules.specs.Asks.{first_unmet_ask}
use Rattle.qmp_rules.specs.Changes.{all_changed, asked_for, changed, followed}
use Rattle.qmp_rules.specs.Edits.{backup_job, commit_job, edits_of, mirror_job, spoiled, stream_job}
use Rattle.qmp_rules.specs.Refusals.{place_of}
use Rattle.qmp_rules.specs.Table.{RunTable}
use Rattle.flat_machine.specs.Agreement.{Contents}
use Rattle.flat_machine.specs.Changed.{all_stepped}
use Rattle.flat_machine.specs.Performing.{AllPerformed}
use Rattle.flat_machine.specs.State.{State}
use Rattle.flat_machine.specs.Replies.{begins_job}
use Rattle.flat_machine.specs.Suiting.{AllTableSuit}
use Rattle.flat_machine.specs.Wiring.{TableAtRest, TableStands}
use Rattle.flat_machine.proofs.Asked.{none-both, none-holds}
use Rattle.job_tables.specs.Accepted.{IsMet, JobsGoOn}
use Rattle.job_tables.specs.Copiers.{CopiesGo}
use Rattle.job_tables.specs.Jobs.{EdgesAreDrawn, JobsStand}
use Rattle.job_tables.specs.Changes.{AllLeaveJobs}
use Rattle.job_tables.specs.Running.{AllLeaveDisks}
use Rattle.job_tables.specs.TargetFiles.{TargetFilesStand}
use Rattle.job_tables.proofs.Changes.{changes_leave_jobs}
use Rattle.job_tables.proofs.Commands.{accepted_leave, others_keep_jobs}
use Rattle.job_tables.proofs.Copiers.{spoiled_copies}
use Rattle.job_tables.proofs.CopierCommands as copiers
use Rattle.job_tables.proofs.Failed.{failed_files, spoils_free, unmet}
use Rattle.job_tables.proofs.Runs.{changes_leave_run}
use Rattle.job_tables.proofs.TargetFiles.{all_spared_files, changes_leave_files}
use Rattle.job_entries.specs.Found.{HaveBegun}
use Rattle.job_entries.proofs.Found.{leaving_begun, snapshot_begun}
use Rattle.job_ends.specs.Images.{HeldAreUnsure}
use Rattle.job_ends.specs.Rows.{AreCopyRows}
use Rattle.job_ends.proofs.Commands.{command_rows}
use Rattle.job_ends.proofs.Held.{all_leaving_held, snapshot_held}
use Rattle.job_progress.specs.Going.{AreJobsAhead}
use Rattle.job_progress.proofs.Changed.{rests_by, all_go}
use Rattle.job_commands.specs.Begun.{IsOneCommand, job_begun}
use Rattle.job_commands.proofs.BitmapCommands.{command_uses, failure_uses}
use Rattle.job_commands.proofs.Copies.{command_belongs, command_goes}
use Rattle.job_commands.proofs.Failed.{failure_belongs, failure_goes}
use Rattle.job_commands.proofs.Shapes.{ChangesBitmap, MayChange, command_spares}
use Rattle.job_commands.proofs.Spared.{all_sparing_keep_jobs}
use Rattle.world_parts.specs.Coherent.{AreDrainsKept, AreJobsKept, IsLoneCopy, IsWholeWorld, entries_owed, entries_owed_by}
use Rattle.world_parts.specs.Face.{WorldSeen}
use Rattle.world_parts.proofs.DrainsKept.{AskedStay, asked_further, asked_same, drains_stay}
use Rattle.world_parts.proofs.DrawnEdges.{drawn_by_nodes}

-- it is no transaction, and begins no job
pub record StartsNoJob (t : RunTable) (c : Cmd) : Type 0 where
  pub one : IsOneCommand c
  pub none : job_begun t c ≡ None

pub begins_not : (t : RunTable) (c : Cmd) → StartsNoJob t c → begins_job c ≡ false
begins_not t (command.BlockStream c) starts = absurd (let bad : Some (stream_job t c) ≡ None = starts.none in cc bad)
begins_not t (command.BlockCommit c) starts = absurd (let bad : Some (commit_job t c) ≡ None = starts.none in cc bad)
begins_not t (command.BlockdevMirror c) starts = absurd (let bad : Some (mirror_job t c) ≡ None = starts.none in cc bad)
begins_not t (command.BlockdevBackup c) starts = absurd (let bad : Some (backup_job t None c) ≡ None = starts.none in cc bad)
begins_not t (command.Transaction c) starts = absurd starts.one
begins_not t _ starts = refl

-- ---- rows of jobs

module _ (number : ℕ) (new : AskedEnd) where
  owes_asked : (row : JobRecord) → entries_owed (asked_for number new row) ≡ entries_owed row
  owes_asked row = by_test (row.number == number)
    where
      by_test : (b : Bool) → entries_owed (cond b (record row { asked = followed row.asked new }) row) ≡ entries_owed row
      by_test true = refl
      by_test false = refl

  owe_asked : (rows : List JobRecord) → entries_owed_by (map (asked_for number new) rows) ≡ entries_owed_by rows
  owe_asked [] = refl
  owe_asked (row ∷ rows) =
      ap (λ n. n + entries_owed_by (map (asked_for number new) rows)) (owes_asked row) ∙ ap (λ n. entries_owed row + n) (owe_asked rows)

  lone_asked : (row : JobRecord) → IsLoneCopy row → IsLoneCopy (asked_for number new row)
  lone_asked row is = by_test (row.number == number)
    where
      by_test : (b : Bool) → IsLoneCopy (cond b (record row { asked = followed row.asked new }) row)
      by_test true = record { kind = is.kind; group = is.group }
      by_test false = is

number_asked : (number : ℕ) (new : AskedEnd) (row : JobRecord) → (asked_for number new row).number ≡ row.number
number_asked number new row = by_test (row.number == number)
  where
    by_test : (b : Bool) → (cond b (record row { asked = followed row.asked new }) row).number ≡ row.number
    by_test true = refl
    by_test false = refl

abbrev AllLone : List JobRecord → Type 0
AllLone rows = (row : JobRecord) → Contains rows row → IsLoneCopy row

abbrev DifferInNumber : JobRecord → JobRecord → Type 0
DifferInNumber a b = a.number ≢ b.number

-- rows like these are as many entries owed by, lone copies still, and of other numbers each, and what they were asked for is so
record OwesAsMuch (t now : RunTable) : Type 0 where
  owed : entries_owed_by now.jobs ≡ entries_owed_by t.jobs
  lone : AllLone t.jobs → AllLone now.jobs
  once : AllPairs DifferInNumber t.jobs → AllPairs DifferInNumber now.jobs
  asked : AskedStay t now

owed_same : (t now : RunTable) → now.jobs ≡ t.jobs → OwesAsMuch t now
owed_same t now same = record { owed = ap entries_owed_by same; lone = subst AllLone (sym same); once = subst (AllPairs DifferInNumber) (sym same); asked = asked_same t now same }

owed_asked : (t : RunTable) (number : ℕ) (new : AskedEnd) → new ≢ asked.Nothing → OwesAsMuch t (changed t (change.AskJob number new))
unfolding changed
owed_asked t number new ends = record {
  owed = owe_asked number new t.jobs;
  lone = λ was row there.
      let of = Contains-map (asked_for number new) t.jobs row there in
      subst IsLoneCopy (sym of.2) (lone_asked number new of.0 (was of.0 of.1));
  once = map_pairs DifferInNumber (asked_for number new) t.jobs
      (λ a b at_a at_b apart same. apart (sym (number_asked number new a) ∙ same ∙ number_asked number new b));
  asked = asked_further t (changed t (change.AskJob number new)) number new ends refl;
}

bitmap_jobs : (t : RunTable) (c : Change) → ChangesBitmap t c → (changed t c).jobs ≡ t.jobs
unfolding changed
bitmap_jobs t (change.AddBitmap row) is = refl
bitmap_jobs t (change.RemoveBitmap node name) is = refl
bitmap_jobs t _ never = absurd never

owed_by_changes : (t : RunTable) (changes : List Change) → MayChange t changes → OwesAsMuch t (all_changed t changes)
owed_by_changes t changes (inl spares) = owed_same t (all_changed t changes) (all_sparing_keep_jobs t changes t spares)
owed_by_changes t changes (inr (inl asks)) =
    subst (λ (cs : List Change). OwesAsMuch t (all_changed t cs)) (sym asks.is) (owed_asked t asks.number asks.new asks.ends)
owed_by_changes t changes (inr (inr bitmap)) =
    subst (λ (cs : List Change). OwesAsMuch t (all_changed t cs)) (sym bitmap.is)
    (owed_same t (changed t bitmap.one) (bitmap_jobs t bitmap.one bitmap.leaves))

-- ---- accepted

pub met_of : (t : RunTable) (told : Told) (c : Cmd) → refusal_to t told c ≡ None → IsMet t told c
unfolding refusal_to
met_of t told c none =
    let built = none-both (unbuilt c) _ none in
    let turn = none-both (out_of_turn (negotiates c) t.negotiated) _ built.1 in
    let both = none-both (first_unmet_ask t told (asks_of c)) (refusal_behind t told c) turn.1 in
    record { asks = both.0; behind = both.1 }

pub own_edits : (t : RunTable) (told : Told) (c : Cmd) → IsOneCommand c → command_edits t told c ≡ edits_of t told c
own_edits t told (command.Transaction c) one = absurd one
own_edits t told c one = refl

module _ (t : RunTable) (told : Told) (c : Cmd) (works : List JobWork) (aside : ℕ) (rest : TableAtRest t) (was : AreJobsKept t works aside)
    (none : refusal_to t told c ≡ None) (starts : StartsNoJob t c) where
  met : IsMet t told c
  met = met_of t told c none

  go_on : JobsGoOn (all_changed t (edits_of t told c))
  go_on =
      subst (λ (cs : List Change). JobsGoOn (all_changed t cs)) (own_edits t told c starts.one)
      (others_keep_jobs t told told c rest (record { stand = was.stand; run = was.run }) none (begins_not t c starts))

  rows : OwesAsMuch t (all_changed t (edits_of t told c))
  rows =
      owed_by_changes t (edits_of t told c)
      (command_spares t told told c rest was.stand starts.one starts.none (none-holds t told (asks_of c) met.asks))

  accepted_kept : EdgesAreDrawn t → AreJobsKept (all_changed t (command_edits t told c)) works aside
  accepted_kept drawn =
      let own = own_edits t told c starts.one in
      subst (λ (cs : List Change). AreJobsKept (all_changed t cs) works aside) (sym own)
      (record {
        stand = go_on.stand;
        run = go_on.run;
        copies =
            subst (λ (cs : List Change). CopiesGo (all_changed t cs)) own
            (copiers.accepted_goes t told told rest was.stand was.run drawn was.copies c none);
        rows = subst (λ (cs : List Change). AreCopyRows (all_changed t cs).jobs) own (command_rows t told c was.rows);
        once = rows.once was.once;
        uses = command_uses t told told c rest was.stand was.run starts.one met was.uses;
        belong = command_belongs t told told c works rest was.stand was.run was.belong starts.one met starts.none;
        room = was.room ∙ sym rows.owed;
        lone = rows.lone was.lone;
      })

  accepted_asked : AskedStay t (all_changed t (command_edits t told c))
  accepted_asked = subst (λ (cs : List Change). AskedStay t (all_changed t cs)) (sym (own_edits t told c starts.one)) rows.asked

-- ---- a creation of which a call failed

spoiled_suits : (t : RunTable) (options : Created (List ℕ)) → AllTableSuit t (spoiled t options)
spoiled_suits t (created.File c) = (tt, tt)
spoiled_suits t (created.Qcow2 c) = (tt, tt)
spoiled_suits t created.Unknown = tt

spoiled_jobs : (t : RunTable) (options : Created (List ℕ)) → (all_changed t (spoiled t options)).jobs ≡ t.jobs
unfolding changed
spoiled_jobs t (created.File c) = refl
spoiled_jobs t (created.Qcow2 c) = refl
spoiled_jobs t created.Unknown = refl

module _ (t : RunTable) (told : Told) (c : BlockdevCreate (List ℕ)) (cause : Refusal) (stands : TableStands t) (j : JobsStand t)
    (some : refusal_to t told (command.BlockdevCreate c) ≡ Some cause) (placeless : place_of cause ≡ None) where
  leaves : (AllLeaveJobs t (spoiled t c.options)) × (AllLeaveDisks t (spoiled t c.options))
  leaves = spoils_free t told stands c cause placeless (unmet t told c cause placeless some) c.options refl

  failed_kept : (works : List JobWork) (aside : ℕ) → AreJobsKept t works aside → AreJobsKept (all_changed t (spoiled t c.options)) works aside
  failed_kept works aside was =
      let suits = spoiled_suits t c.options in
      let rows = owed_same t (all_changed t (spoiled t c.options)) (spoiled_jobs t c.options) in
      record {
        stand = changes_leave_jobs (spoiled t c.options) t stands j suits leaves.0;
        run = changes_leave_run (spoiled t c.options) t stands j suits leaves.0 leaves.1 was.run;
        copies = spoiled_copies t c.options was.copies;
        rows = subst AreCopyRows (sym (spoiled_jobs t c.options)) was.rows;
        once = rows.once was.once;
        uses = failure_uses t c.options was.uses;
        belong = failure_belongs t stands j told c cause some placeless works was.belong;
        room = was.room ∙ sym rows.owed;
        lone = rows.lone was.lone;
      }

-- ---- every answer

-- so it is behind a creation of which a call failed
abbrev pub AfterFailures : RunTable → Told → (List Change → Type 0) → Type 0
AfterFailures t told P =
    (c : BlockdevCreate (List ℕ)) (cause : Refusal) → refusal_to t told (command.BlockdevCreate c) ≡ Some cause → place_of cause ≡ None → P (spoiled t c.options)

-- every other refusal leaves nothing behind
left_as : (t : RunTable) (told : Told) (P : List Change → Type 0) (c : Cmd) → P [] → AfterFailures t told P → (cause : Refusal) → refusal_to t told c ≡ Some cause
    → P (left_by t c cause)
left_as t told P (command.BlockdevCreate c) nothing spoils (refusal.Io source count) some = spoils c (refusal.Io source count) some refl
left_as t told P (command.BlockdevCreate c) nothing spoils (refusal.NoSpace dev) some = spoils c (refusal.NoSpace dev) some refl
left_as t told P (command.BlockdevCreate c) nothing spoils cause some = nothing
left_as t told P c nothing spoils cause some = nothing

-- What is so behind accepted changes, and behind what a refusal leaves, is so behind the answer.
pub answered_as : (t : RunTable) (told : Told) (c : Cmd) (P : List Change → Type 0) → (refusal_to t told c ≡ None → P (command_edits t told c)) → P []
    → AfterFailures t told P → P (answer t told c).changes
unfolding answer
answered_as t told c P accepted nothing spoils = by_refusal (refusal_to t told c) refl
  where
    by_refusal : (first : Option Refusal) → refusal_to t told c ≡ first → P (answer_by t told c first).changes
    by_refusal None none = accepted none
    by_refusal (Some cause) some = left_as t told P c nothing spoils cause some

pub jobs_answered : (t : RunTable) (told : Told) (c : Cmd) (works : List JobWork) (aside : ℕ) → TableAtRest t → EdgesAreDrawn t
    → (refusal_to t told c ≡ None → StartsNoJob t c) → AreJobsKept t works aside → AreJobsKept (all_changed t (answer t told c).changes) works aside
jobs_answered t told c works aside rest drawn starts was = answered_as t told c (λ changes. AreJobsKept (all_changed t changes) works aside)
    (λ none. accepted_kept t told c works aside rest was none (starts none) drawn) was
    (λ create cause some placeless. failed_kept t told create cause rest.stands was.stand some placeless works aside was)

pub jobs_kept : (w : WorldSeen) → IsWholeWorld w → IsJoined w.nodes → (c : Cmd) (told : Told) (u : RunTable) → (refusal_to w.table told c ≡ None → StartsNoJob w.table c)
    → u ≡ all_changed w.table (answer w.table told c).changes → AreJobsKept u w.works w.progress.aside
jobs_kept w whole joined c told u starts is =
    let rest = whole.coherent.table in
    let drawn = (drawn_by_nodes w.table w.nodes rest.stands.apart whole.coherent.alike joined).0 in
    subst (λ (t : RunTable). AreJobsKept t w.works w.progress.aside) (sym is)
    (jobs_answered w.table told c w.works w.progress.aside rest drawn starts whole.jobs)

-- those that hold a disk are asked to end still
pub drains_kept : (w : WorldSeen) → IsWholeWorld w → IsJoined w.nodes → (c : Cmd) (told : Told) (u : RunTable) → (refusal_to w.table told c ≡ None → StartsNoJob w.table c)
    → u ≡ all_changed w.table (answer w.table told c).changes → AreDrainsKept u w.drains
drains_kept w whole joined c told u starts is =
    let t : RunTable = w.table in
    drains_stay t u w.drains
    (subst (AskedStay t) (sym is)
    (answered_as t told c (λ changes. AskedStay t (all_changed t changes))
    (λ none. accepted_asked t told c w.works w.progress.aside whole.coherent.table whole.jobs none (starts none)) (λ job was. was)
    (λ create cause some placeless. asked_same t (all_changed t (spoiled t create.options)) (spoiled_jobs t create.options))))
    whole.drains

-- ---- where the store tells its files

module _ (s : State) (told : Told) (c : Cmd) (works : List JobWork) (aside : ℕ) (rest : TableAtRest s.table) (was : AreJobsKept s.table works aside)
    (starts : refusal_to s.table told c ≡ None → StartsNoJob s.table c) where
  abbrev behind : List Change → State
  behind changes = all_stepped s changes

  accepted_begun : refusal_to s.table told c ≡ None → HaveBegun s → HaveBegun (behind (command_edits s.table told c))
  accepted_begun none begun = elim (accepted_leave s.table told told c (begins_not s.table c (starts none)) rest was.stand none) [
    | inl l ↦ leaving_begun (command_edits s.table told c) s rest.stands was.stand l.0 l.1.0 begun
    | inr of ↦ subst (λ (cs : List Change). HaveBegun (behind cs)) (sym of.is) (snapshot_begun s of.node of.overlay begun)
  ]

  -- what their starts found
  pub answer_begun : HaveBegun s → HaveBegun (behind (answer s.table told c).changes)
  answer_begun begun = answered_as s.table told c (λ changes. HaveBegun (behind changes)) (λ none. accepted_begun none begun) begun
      (λ create cause some placeless.
      leaving_begun (spoiled s.table create.options) s rest.stands was.stand (spoiled_suits s.table create.options)
      (leaves s.table told create cause rest.stands was.stand some placeless).0 begun)

  accepted_unsure : refusal_to s.table told c ≡ None → HeldAreUnsure s → HeldAreUnsure (behind (command_edits s.table told c))
  accepted_unsure none unsure = elim (accepted_leave s.table told told c (begins_not s.table c (starts none)) rest was.stand none) [
    | inl l ↦ all_leaving_held (command_edits s.table told c) s rest.stands was.stand l.0 l.1.0 unsure
    | inr of ↦ subst (λ (cs : List Change). HeldAreUnsure (behind cs)) (sym of.is) (snapshot_held s of.node of.overlay unsure)
  ]

  -- what isn't said of their images
  pub answer_unsure : HeldAreUnsure s → HeldAreUnsure (behind (answer s.table told c).changes)
  answer_unsure unsure = answered_as s.table told c (λ changes. HeldAreUnsure (behind changes)) (λ none. accepted_unsure none unsure) unsure
      (λ create cause some placeless.
      all_leaving_held (spoiled s.table create.options) s rest.stands was.stand (spoiled_suits s.table create.options)
      (leaves s.table told create cause rest.stands was.stand some placeless).0 unsure)

  accepted_files : refusal_to s.table told c ≡ None → TargetFilesStand s → TargetFilesStand (behind (command_edits s.table told c))
  accepted_files none files = elim (accepted_leave s.table told told c (begins_not s.table c (starts none)) rest was.stand none) [
    | inl l ↦ changes_leave_files (command_edits s.table told c) s rest.stands was.stand l.0 l.1.0 l.1.1 files
    | inr of ↦
        subst (λ (cs : List Change). TargetFilesStand (behind cs)) (sym of.is)
        (all_spared_files (change.Attach of.overlay of.node ∷ change.Move of.node of.overlay of.overlay ∷ []) s (tt, (tt, tt)) files)
  ]

  -- the files that they write
  pub answer_files : TargetFilesStand s → TargetFilesStand (behind (answer s.table told c).changes)
  answer_files files = answered_as s.table told c (λ changes. TargetFilesStand (behind changes)) (λ none. accepted_files none files) files
      (λ create cause some placeless. failed_files s told create cause rest.stands was.stand some placeless files)

  -- how far they have come
  module _ (first : State) (h : List Event) (old new : Contents) where
    abbrev Goes : List Change → Type 0
    Goes changes = AllPerformed s changes old new → AreJobsAhead first h s old.reads works → AreJobsAhead first h (behind changes) new.reads works

    accepted_goes : refusal_to s.table told c ≡ None → Goes (command_edits s.table told c)
    accepted_goes none =
        subst Goes (sym (own_edits s.table told c (starts none).one))
        (command_goes first s h told told c old new works rest was.stand was.run was.belong (starts none).one (met_of s.table told c none))

    quiet_goes : Goes []
    quiet_goes did ahead = all_go works first h [] s old new (rests_by works s.table was.stand) tt did ahead

    pub answer_goes : Goes (answer s.table told c).changes
    answer_goes = answered_as s.table told c Goes accepted_goes quiet_goes
        (λ create cause some placeless. failure_goes first s h told create cause old new works rest.stands was.stand some placeless)
