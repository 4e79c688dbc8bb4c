-- The query that prints what is dirty: its answer, and what it leaves of the world.
use Rattle.std.proofs.Common.{◌≡◌, true, ℕ, List, [], Some, None, Ok, Err, refl, sym, ◌∙◌, ap, subst}
use Rattle.std.specs.Prelude.{Result, IfOk, OnOk, OnErr}
use Rattle.qmp_codec.specs.Commands.{Cmd}
use Rattle.qmp_codec.specs.declared.command.Command.TheVariants as command
use Rattle.qmp_rules.specs.declared.refusal.Refusal.{Refusal}
use Rattle.qmp_rules.specs.declared.judge.PrepareStop.{PrepareStop}
use Rattle.qmp_rules.specs.declared.judge.PrepareStop.TheVariants.{Refused, NoMemory}
use Rattle.qmp_rules.specs.Prepared.{IsStoppedFor}
use Rattle.qmp_rules.specs.Table.{RunTable}
use Rattle.qmp_rules.specs.Changes.{all_changed}
use Rattle.qmp_rules.specs.Answers.{Answer, answer, answer_by, accepted, refused_so, command_edits, returned, refusal_to, told_none}
use Rattle.flat_machine.specs.Bitmaps.{AreBitmapsOf}
use Rattle.world_parts.specs.Coherent.{IsCoherent}
use Rattle.world_parts.specs.Face.{WorldSeen}
use Rattle.world_parts.specs.Saying.{IsSaid}
use Rattle.world_parts.specs.Carrying.{IsCarriedAs, IsPutBackBy, with_counts, counts_of, prints_counts}
use Rattle.world_parts.specs.Handling.{SaysRefusal}
use Rattle.world_parts.proofs.BitmapsLeft.{keeps_bitmaps, kept-bitmaps, left-dirty, left-listed}
use Rattle.world_parts.proofs.Counted.{refusal-counted}
use Rattle.world_changes.proofs.CarryTables.{stays-left, stays_in_table, table_carried_as, table_coherent, table_put_back}
use Rattle.world_parts.proofs.Placed.{put_back_by}

-- ---- kinds of commands

pub prints-stays : (c : Cmd) → prints_counts c ≡ true → stays_in_table c ≡ true
prints-stays (command.QueryNamedBlockNodes flat) prints = refl
prints-stays _ prints = absurd cc

prints-keeps : (c : Cmd) → prints_counts c ≡ true → keeps_bitmaps c ≡ true
prints-keeps (command.QueryNamedBlockNodes flat) prints = refl
prints-keeps _ prints = absurd cc

-- ---- the answer

module _ (t : RunTable) (c : Cmd) where
  answer_accepted : refusal_to t told_none c ≡ None → answer t told_none c ≡ accepted (command_edits t told_none c)
      (returned t told_none c)
  unfolding answer
  answer_accepted none = ap (answer_by t told_none c) none

  answer_refused : (cause : Refusal) → stays_in_table c ≡ true → refusal_to t told_none c ≡ Some cause
      → answer t told_none c ≡ refused_so [] cause
  unfolding answer
  answer_refused cause alone some = ap (answer_by t told_none c) some ∙ rw (stays-left t c cause alone) refl

  pub accepted_changes : refusal_to t told_none c ≡ None → (answer t told_none c).changes ≡ command_edits t told_none c
  accepted_changes none = ap (λ (a : Answer). a.changes) (answer_accepted none)

  pub refused_unchanged : {A E : Type 0} (bytes : A → List ℕ) (given : List ℕ) (r : Result A E)
      (stop : PrepareStop) → stays_in_table c ≡ true
      → IsStoppedFor (refusal_to t told_none c) stop → IfOk r (λ text. SaysRefusal given stop (bytes text)) → OnOk r
      (t ≡ all_changed t (answer t told_none c).changes)
  refused_unchanged bytes given (Ok text) (Refused cause) alone some said = ap
      (λ (a : Answer). all_changed t a.changes) (sym (answer_refused cause alone some))
  refused_unchanged bytes given (Ok text) NoMemory alone some said = absurd said
  refused_unchanged bytes given (Err e) stop alone some said = said

  -- ---- with counts that are told

  module _ (ds : List ℕ) where
    counted_accepted : refusal_to t told_none c ≡ None
        → answer t (with_counts told_none ds) c ≡ accepted (command_edits t (with_counts told_none ds) c) (returned t (with_counts told_none ds) c)
    unfolding answer
    counted_accepted none = ap (answer_by t (with_counts told_none ds) c) (refusal-counted told_none ds t c ∙ none)

    counted_refused : (cause : Refusal) → stays_in_table c ≡ true → refusal_to t told_none c ≡ Some cause
        → answer t (with_counts told_none ds) c ≡ refused_so [] cause
    unfolding answer
    counted_refused cause alone some =
        ap (answer_by t (with_counts told_none ds) c) (refusal-counted told_none ds t c ∙ some) ∙ rw (stays-left t c cause alone) refl

    module _ {A E : Type 0} (bytes : A → List ℕ) (given : List ℕ) (r : Result A E) where
      pub counted_said : refusal_to t told_none c ≡ None → IfOk r
          (λ text. IsSaid given (Ok (returned t (with_counts told_none ds) c)) (bytes text))
          → IfOk r (λ text. IsSaid given (answer t (with_counts told_none ds) c).reply (bytes text))
      counted_said none said = rw (counted_accepted none) said

      pub counted_refused_said : (stop : PrepareStop) → stays_in_table c ≡ true → IsStoppedFor
          (refusal_to t told_none c) stop → IfOk r (λ text. SaysRefusal given stop (bytes text))
          → IfOk r (λ text. IsSaid given (answer t (with_counts told_none ds) c).reply (bytes text))
      counted_refused_said (Refused cause) alone some said = rw (counted_refused cause alone some) said
      counted_refused_said NoMemory alone some said = said-nothing r said
        where
          said-nothing : (r : Result A E) → IfOk r (λ text. ⊥) → IfOk r
              (λ text. IsSaid given (answer t (with_counts told_none ds) c).reply (bytes text))
          said-nothing (Ok text) said = absurd said
          said-nothing (Err e) said = said

-- ---- the world

-- want of memory, where the table stays
table_back : (w : WorldSeen) (u : RunTable) (c : Cmd) → u ≡ w.table → IsPutBackBy w (record w { table = u }) c
table_back w u c same = subst (λ (t : RunTable). IsPutBackBy w (record w { table = t }) c) (sym same) (put_back_by w c)

module _ (w : WorldSeen) (u : RunTable) (c : Cmd) (prints : prints_counts c ≡ true) where
  pub counts_carried : {A E : Type 0} (bytes : A → List ℕ) (given : List ℕ) (r : Result A E) → AreBitmapsOf w.table.bitmaps w.bitmaps → IfOk r
      (λ text. IsSaid given (answer w.table (with_counts told_none (counts_of w)) c).reply (bytes text))
      → OnOk r (u ≡ all_changed w.table (answer w.table told_none c).changes) → IfOk r
      (λ text. IsCarriedAs w (record w { table = u }) given c (bytes text))
  counts_carried bytes given (Ok text) was said table =
      table_carried_as w u w.bitmaps c (prints-stays c prints) (counts_of w) (λ is. refl) given (bytes text) table said
      (left-dirty w w told_none c (prints-keeps c prints) refl was)
      (kept-bitmaps w.table c (refusal_to w.table told_none c) w.bitmaps w.bitmaps (prints-keeps c prints) refl)
  counts_carried bytes given (Err e) was said table = said

  pub counts_coherent : {A E : Type 0} (r : Result A E) → OnOk r
      (u ≡ all_changed w.table (answer w.table told_none c).changes) → OnErr r (u ≡ w.table)
      → IsCoherent w.table w.nodes w.opened w.progress → IsCoherent u w.nodes w.opened w.progress
  counts_coherent (Ok a) table kept was = table_coherent w u w.bitmaps c (prints-stays c prints) table was
  counts_coherent (Err e) table kept was = (table_put_back w u kept).coherent was

  pub counts_bitmaps : {A E : Type 0} (r : Result A E) → OnOk r
      (u ≡ all_changed w.table (answer w.table told_none c).changes) → OnErr r (u ≡ w.table)
      → AreBitmapsOf w.table.bitmaps w.bitmaps → AreBitmapsOf u.bitmaps w.bitmaps
  counts_bitmaps (Ok a) table kept was = left-listed w.table told_none c w.bitmaps u (prints-keeps c prints) table was
  counts_bitmaps (Err e) table kept was = subst (λ (t : RunTable). AreBitmapsOf t.bitmaps w.bitmaps) (sym kept) was

  pub counts_back : {A E : Type 0} (r : Result A E) → OnErr r (u ≡ w.table) → OnErr r
      (IsPutBackBy w (record w { table = u }) c)
  counts_back (Ok a) kept = kept
  counts_back (Err e) kept = table_back w u c kept
