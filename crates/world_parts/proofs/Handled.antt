-- How a command is answered that opens and makes no file.
use Rattle.std.proofs.Common.{◌≡◌, ℕ, true, false, List, [], Option, Some, None, Ok, Err, sym, ◌∙◌, ap, subst}
use Rattle.std.specs.Prelude.{Result, IfOk, OnErr}
use Rattle.qmp_codec.specs.Commands.{Cmd}
use Rattle.qmp_rules.specs.Answers.{Answer, answer, command_edits, left_by, refusal_to, returned, told_none}
use Rattle.qmp_rules.specs.Changes.{all_changed}
use Rattle.qmp_rules.specs.Table.{RunTable}
use Rattle.qmp_rules.specs.Prepared.{IsStoppedFor}
use Rattle.qmp_rules.specs.declared.judge.PrepareStop.{PrepareStop}
use Rattle.qmp_rules.specs.declared.judge.PrepareStop.TheVariants.{Refused, NoMemory}
use Rattle.qmp_rules.specs.declared.refusal.Refusal.{Refusal}
use Rattle.qmp_rules.specs.declared.told.Told.{Told}
use Rattle.flat_machine.specs.Recording.{dirty_after}
use Rattle.world_parts.specs.Carrying.{IsCarriedAs, IsPutBackBy, prints_counts}
use Rattle.world_parts.specs.Coherent.{IsWholeWorld}
use Rattle.world_parts.specs.Deleting.{Ground, ground_of}
use Rattle.world_parts.specs.Face.{WorldSeen, dirty_of}
use Rattle.world_parts.specs.Handling.{IsHandled, IsUntouched, SaysRefusal}
use Rattle.world_parts.specs.Leaving.{LeavesBitmaps}
use Rattle.world_parts.specs.Saying.{IsSaid}
use Rattle.world_parts.proofs.CarryPlain.{opens_nothing}
use Rattle.world_parts.proofs.Placed.{answer-is, CarriedUntold, placed, placed_same, put_back_by, refused_by}

-- ---- its answer

module _ (given : List ℕ) (t : RunTable) (c : Cmd) (u : RunTable) (done undone : Type 0) (text : List ℕ) where
  pub handled_accepted : refusal_to t told_none c ≡ None → u ≡ all_changed t (command_edits t told_none c) → done → IsSaid given (Ok (returned t told_none c)) text
      → IsHandled given t c u done undone text
  handled_accepted none table did said =
      let is = answer-is t told_none c None none in
      record {
        refusal = None;
        judged = none;
        done_is = did;
        table = table ∙ sym (ap (λ (a : Answer). all_changed t a.changes) is);
        said = subst (λ (a : Answer). IsSaid given a.reply text) (sym is) said;
      }

  pub handled_refused : (cause : Refusal) → refusal_to t told_none c ≡ Some cause → left_by t c cause ≡ [] → u ≡ t → undone → IsSaid given (Err cause) text
      → IsHandled given t c u done undone text
  handled_refused cause some nothing table kept said =
      let is = answer-is t told_none c (Some cause) some in
      record {
        refusal = Some cause;
        judged = some;
        done_is = kept;
        table = table ∙ sym (ap (λ (a : Answer). all_changed t a.changes) is ∙ ap (all_changed t) nothing);
        said = subst (λ (a : Answer). IsSaid given a.reply text) (sym is) said;
      }

-- ---- what it leaves of the world

-- a refusal leaves all as it was
pub refused_placed : (w : WorldSeen) (c : Cmd) (cause : Refusal) → opens_nothing c ≡ true → prints_counts c ≡ false → refusal_to w.table told_none c ≡ Some cause → left_by w.table c cause ≡ []
    → (x : Ground) (u : RunTable) → x ≡ ground_of w → u ≡ all_changed w.table (answer w.table told_none c).changes → IsWholeWorld w
    → CarriedUntold w (placed w x u) c (Some cause) × IsWholeWorld (placed w x u)
refused_placed w c cause opens silent some nothing x u ground table whole =
    let kept : u ≡ w.table =
    table ∙ ap (λ (a : Answer). all_changed w.table a.changes) (answer-is w.table told_none c (Some cause) some) ∙ ap (all_changed w.table) nothing in
    let same = placed_same w x u ground kept in (
      subst (λ (v : WorldSeen). CarriedUntold w v c (Some cause)) same (refused_by w c cause opens silent some nothing),
      subst IsWholeWorld same whole,
    )

-- its text is the answer's
pub said_as : (w : WorldSeen) (given : List ℕ) (v : WorldSeen) (text : List ℕ) (c : Cmd) (refusal : Option Refusal) → CarriedUntold w v c refusal
    → IsSaid given (answer w.table told_none c).reply text → dirty_of v ≡ dirty_after w.table (dirty_of w) (answer w.table told_none c).changes
    → LeavesBitmaps w.table c refusal w.bitmaps v.bitmaps → IsCarriedAs w v given c text
said_as w given v text c refusal carried said dirty bitmaps = record {
  refusal = refusal;
  carried = carried.0;
  said = subst (λ (told : Told). IsSaid given (answer w.table told c).reply text) (sym carried.1) said;
  dirty = subst (λ (told : Told). dirty_of v ≡ dirty_after w.table (dirty_of w) (answer w.table told c).changes) (sym carried.1) dirty;
  bitmaps = bitmaps;
}

-- ---- answers of a call

-- for want of memory all is as it was
pub untouched_whole : (w : WorldSeen) (x : Ground) (u : RunTable) → IsWholeWorld w → IsUntouched w.table u (x ≡ ground_of w)
    → IsWholeWorld (placed w x u)
untouched_whole w x u whole kept =
    subst IsWholeWorld (placed_same w x u kept.kept kept.table) whole

module _ {A E : Type 0} (r : Result A E) (text : A → List ℕ) where
  -- refused as it was not prepared
  pub handled_stop : (given : List ℕ) (t : RunTable) (c : Cmd) (u : RunTable) (done undone : Type 0) (stop : PrepareStop) → IsStoppedFor (refusal_to t told_none c) stop
      → IfOk r (λ a. SaysRefusal given stop (text a)) → u ≡ t → undone → ((cause : Refusal) → left_by t c cause ≡ [])
      → IfOk r (λ a. IsHandled given t c u done undone (text a))
  handled_stop given t c u done undone stop for_this said table kept nothing = by_result r said
    where
      by_stop : (a : A) (stop : PrepareStop) → IsStoppedFor (refusal_to t told_none c) stop → SaysRefusal given stop (text a) → IsHandled given t c u done undone (text a)
      by_stop a (Refused cause) some said = handled_refused given t c u done undone (text a) cause some (nothing cause) table kept said
      by_stop a NoMemory some said = absurd said

      by_result : (r : Result A E) → IfOk r (λ a. SaysRefusal given stop (text a)) → IfOk r (λ a. IsHandled given t c u done undone (text a))
      by_result (Ok a) said = by_stop a stop for_this said
      by_result (Err e) said = said

  pub untouched_back : (w : WorldSeen) (c : Cmd) (x : Ground) (u : RunTable) → OnErr r (IsUntouched w.table u (x ≡ ground_of w)) → OnErr r (IsPutBackBy w (placed w x u) c)
  untouched_back w c x u kept = by_result r kept
    where
      by_result : (r : Result A E) → OnErr r (IsUntouched w.table u (x ≡ ground_of w)) → OnErr r (IsPutBackBy w (placed w x u) c)
      by_result (Ok a) kept = kept
      by_result (Err e) kept = subst (λ (f : WorldSeen). IsPutBackBy w f c) (placed_same w x u kept.kept kept.table) (put_back_by w c)
