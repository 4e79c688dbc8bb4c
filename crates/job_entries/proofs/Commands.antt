-- What holds between events holds behind accepted commands, also behind those that begin jobs.
use Rattle.std.proofs.Common.{◌≡◌, ℕ, Bool, true, false, List, [], ◌∷◌, refl, sym, subst, Option, Some, None, Ok}
use Rattle.serde_json.specs.Data.{Data}
use Rattle.serde_json.specs.Read.{read}
use Rattle.qmp_codec.specs.Commands.{Cmd}
use Rattle.qmp_codec.specs.Lines.{command_at}
use Rattle.qmp_codec.specs.Replies.{returned_data}
use Rattle.qmp_codec.specs.declared.command.Command.TheVariants as command
use Rattle.qmp_rules.specs.declared.change.Change.{Change}
use Rattle.qmp_rules.specs.declared.change.Change.TheVariants as change
use Rattle.qmp_rules.specs.declared.rows.JobRecord.{JobRecord}
use Rattle.qmp_rules.specs.declared.told.Told.{Told}
use Rattle.qmp_rules.specs.Answers.{unbuilt, refusal_to, command_edits}
use Rattle.qmp_rules.specs.Changes.{all_changed}
use Rattle.qmp_rules.specs.Edits.{backup_job, mirror_job, start_edits, edits_of}
use Rattle.qmp_rules.specs.Table.{RunTable}
use Rattle.flat_machine.specs.State.{State}
use Rattle.flat_machine.specs.Changed.{stepped, all_stepped}
use Rattle.flat_machine.specs.Replies.{begins_job, replied, IsAnswer}
use Rattle.flat_machine.specs.Sights.{told_for, expected, IsTold, MayStop}
use Rattle.flat_machine.specs.Standing.{StandsAtRest}
use Rattle.flat_machine.specs.Suiting.{TableSuits, AllTableSuit, Suits, AllSuit}
use Rattle.flat_machine.specs.Wiring.{InlineAreUnder, TableStands, TableAtRest}
use Rattle.flat_machine.proofs.Resting.{stepped_table, accepted_rests, read_rests_by, answer_rests}
use Rattle.flat_machine.proofs.Suited.{accepted_suits}
use Rattle.flat_machine.proofs.TableRests.{all_keep, command_rests}
use Rattle.job_tables.specs.Accepted.{IsMet, JobsAreDrawn}
use Rattle.job_tables.specs.Jobs.{JobsStand, EdgesAreDrawn}
use Rattle.job_tables.specs.Starts.{JobBegins}
use Rattle.job_tables.proofs.StartCommands.{accepted_met, met_backup, met_mirror}
use Rattle.job_entries.specs.Starts.{LendsAsRead}
use Rattle.job_entries.proofs.Inline.{inline_carried, steps_carry, steps_rest}
use Rattle.job_entries.proofs.StartSuits.{start_suits}
use Rattle.job_entries.proofs.Starting.{start_steps}

-- ---- what suits a state suits its table

pub suits_table : (s : State) (c : Change) → Suits s c → TableSuits s.table c
suits_table s change.Negotiate h = tt
suits_table s (change.KeepId id) h = tt
suits_table s (change.DropId id) h = tt
suits_table s (change.MakeFile name size) h = tt
suits_table s (change.FormatFile node name size backing_file backing_fmt) h = tt
suits_table s (change.SpoilFile name) h = tt
suits_table s (change.UseFile name) h = tt
suits_table s (change.AddFile row) h = h.suits
suits_table s (change.AddFormat row file backing) h = h.suits
suits_table s (change.AddFilter row node) h = h
suits_table s (change.RemoveNode node) h = h.alone
suits_table s (change.Unsettle node) h = tt
suits_table s (change.Settle node disk) h = h.plain
suits_table s (change.MakeWritable node) h = h
suits_table s (change.MakeReadOnly node) h = h
suits_table s (change.PutFilter row node) h = h
suits_table s (change.PullFilter filter) h = h.suits
suits_table s (change.UseNode slot what node) h = h
suits_table s (change.StartJob row) h = tt
suits_table s (change.AskJob number asked) h = tt
suits_table s (change.ReadyJob number) h = tt
suits_table s (change.EndJob number slot drops) h = tt
suits_table s (change.AddDevice device node) h = h.suits
suits_table s (change.RemoveDevice number) h = tt
suits_table s (change.Attach overlay node) h = h
suits_table s (change.Move from to but) h = h.suits
suits_table s (change.Rebase node backing) h = h
suits_table s (change.AddBitmap row) h = tt
suits_table s (change.RemoveBitmap node name) h = tt
suits_table s (change.TurnBitmap node name on) h = tt
suits_table s (change.ClearBitmap node name) h = tt
suits_table s (change.MergeBitmap node name source_node source) h = tt

pub suit_tables : (changes : List Change) (s : State) → AllSuit s changes → AllTableSuit s.table changes
suit_tables [] s h = tt
suit_tables (c ∷ changes) s h = (suits_table s c h.0, suit_tables changes (stepped s c) h.1)

-- ---- starts, of the table alone

-- a state of which nothing but its table is looked at
abbrev bare : RunTable → State
bare t = record {
  room = 0;
  table = t;
  guests = [];
  disks = [];
  left = [];
  files = [];
  named = [];
  images = [];
  dirty = [];
  begun = [];
  starts = 0;
  ending = None;
  ended = [];
}

start_at_rest : (t : RunTable) (row : JobRecord) → TableAtRest t → JobsStand t → EdgesAreDrawn t → JobBegins t row → LendsAsRead t row row.kind
    → TableAtRest (all_changed t (start_edits t row))
start_at_rest t row h j d b lends = record {
  stands = all_keep (start_edits t row) t (suit_tables (start_edits t row) (bare t) (start_suits (bare t) h.stands j d row b lends)) h.stands;
  inline = subst InlineAreUnder (stepped_table (start_edits t row) (bare t))
      (inline_carried t (all_stepped (bare t) (start_edits t row)).table h.stands
      (steps_carry (start_edits t row) (bare t) (start_steps (bare t) row b h.stands)) h.inline);
}

-- ---- what a command begins

record BeginsSo (t : RunTable) (changes : List Change) : Type 0 where
  row : JobRecord
  is : changes ≡ start_edits t row
  begins : JobBegins t row
  lends : LendsAsRead t row row.kind

begins_by_command : (t : RunTable) (told exp : Told) (c : Cmd) → TableStands t → JobsAreDrawn t → begins_job c ≡ true → refusal_to t told c ≡ None
    → BeginsSo t (command_edits t exp c)
unfolding edits_of
begins_by_command t told exp c h d begins quiet = let met = accepted_met t told c quiet in by_command c begins met.0 met.1
  where
    by_command : (c : Cmd) → begins_job c ≡ true → unbuilt c ≡ None → IsMet t told c → BeginsSo t (command_edits t exp c)
    by_command (command.BlockdevBackup c) begins is met =
        record { row = backup_job t None c; is = refl; begins = (met_backup t told c h d.jobs.stand d.jobs.run met).job; lends = tt }
    by_command (command.BlockdevMirror c) begins is met =
        record { row = mirror_job t c; is = refl; begins = (met_mirror t told c h d.jobs.stand d.jobs.run d.edges met).job; lends = tt }
    by_command _ begins is met = absurd cc

-- ---- every command

pub accepted_at_rest : (t : RunTable) (told exp : Told) (c : Cmd) → TableAtRest t → JobsAreDrawn t → refusal_to t told c ≡ None
    → TableAtRest (all_changed t (command_edits t exp c))
accepted_at_rest t told exp c h d quiet = by_start (begins_job c) refl
  where
    by_start : (b : Bool) → begins_job c ≡ b → TableAtRest (all_changed t (command_edits t exp c))
    by_start true begins =
        let x = begins_by_command t told exp c h.stands d begins quiet in
        subst (λ (changes : List Change). TableAtRest (all_changed t changes)) (sym x.is) (start_at_rest t x.row h d.jobs.stand d.edges x.begins x.lends)
    by_start false begins = (command_rests t told exp c begins h quiet).1

module _ (s : State) (told exp : Told) (c : Cmd) (rests : StandsAtRest s) (d : JobsAreDrawn s.table) (quiet : refusal_to s.table told c ≡ None) where
  begun : begins_job c ≡ true → BeginsSo s.table (command_edits s.table exp c)
  begun begins = begins_by_command s.table told exp c rests.stands.table d begins quiet

  start_suit : (x : BeginsSo s.table (command_edits s.table exp c)) → AllSuit s (start_edits s.table x.row)
  start_suit x = start_suits s rests.stands.table d.jobs.stand d.edges x.row x.begins x.lends

  start_leaves : begins_job c ≡ true → StandsAtRest (all_stepped s (command_edits s.table exp c))
  start_leaves begins =
      let x = begun begins in
      subst (λ (changes : List Change). StandsAtRest (all_stepped s changes)) (sym x.is)
      (steps_rest (start_edits s.table x.row) s (start_steps s x.row x.begins rests.stands.table) (start_suit x) rests)

  module _ (may : MayStop s c (told_for s c).stopped told.stopped) where
    pub accepted_suit : AllSuit s (command_edits s.table exp c)
    accepted_suit = by_start (begins_job c) refl
      where
        by_start : (b : Bool) → begins_job c ≡ b → AllSuit s (command_edits s.table exp c)
        by_start true begins = let x = begun begins in subst (AllSuit s) (sym x.is) (start_suit x)
        by_start false begins = accepted_suits s told exp c begins rests may quiet

    pub accepted_leaves : StandsAtRest (all_stepped s (command_edits s.table exp c))
    accepted_leaves = by_start (begins_job c) refl
      where
        by_start : (b : Bool) → begins_job c ≡ b → StandsAtRest (all_stepped s (command_edits s.table exp c))
        by_start true begins = start_leaves begins
        by_start false begins = accepted_rests s told exp c begins rests may quiet

-- ---- replies

pub accepted_reply : (s : State) (told : Told) (c : Cmd) (given text : List ℕ) (id : Option Data) (d : Data) → command_at given ≡ Ok c
    → StandsAtRest s → JobsAreDrawn s.table → IsTold s c told → refusal_to s.table told c ≡ None → read text ≡ Some (returned_data id d)
    → StandsAtRest (replied s given text)
accepted_reply s told c given text id d line rests drawn is_told quiet reads =
    read_rests_by s told c given text id d line is_told reads (accepted_leaves s told told c rests drawn quiet is_told.refusal)

pub answered : (s : State) (given : List ℕ) (command : Option Cmd) (text : List ℕ) → StandsAtRest s → JobsAreDrawn s.table
    → IsAnswer s given command text → StandsAtRest (replied s given text)
answered s given command text rests drawn a =
    answer_rests s given command text rests a (λ c line begins quiet. start_leaves s a.told (expected s c) c rests drawn quiet begins)
