-- How a creation is answered in the world.
use Rattle.std.proofs.Common.{◌≡◌, ℕ, ◌≤◌, true, List, [], inl, inr, refl, sym, ◌∙◌, ap, subst, Option, Some, None, Ok, Err}
use Rattle.std.specs.Prelude.{Result, IfOk, OnErr, nat_lt, Bool, false}
use Rattle.std.proofs.lemmas.List.Elements.{All-nil}
use Rattle.flat_machine.specs.Marks.{IsCalm}
use Rattle.qmp_codec.specs.Commands.{Cmd}
use Rattle.qmp_codec.specs.declared.command.Command.TheVariants as command
use Rattle.qmp_codec.specs.declared.nodes.BlockdevCreate.{BlockdevCreate}
use Rattle.qmp_codec.specs.declared.nodes.Created.{Created}
use Rattle.qmp_codec.specs.declared.nodes.Created.TheVariants as created
use Rattle.qmp_rules.specs.Answers.{Answer, answer, refusal_to}
use Rattle.qmp_rules.specs.Changes.{all_changed}
use Rattle.qmp_rules.specs.Edits.{create_edits, spoiled}
use Rattle.qmp_rules.specs.Looks.{create_told, stop_at, too_long}
use Rattle.qmp_rules.specs.Table.{RunTable}
use Rattle.qmp_asks.specs.Values.{amount_or}
use Rattle.qmp_rules.specs.declared.change.Change.{Change}
use Rattle.qmp_rules.specs.declared.refusal.Refusal.{Refusal}
use Rattle.qmp_rules.specs.declared.refusal.Refusal.TheVariants as refusal
use Rattle.qmp_asks.specs.declared.look.Look.TheVariants as look
use Rattle.qmp_rules.specs.declared.told.Told.{Told}
use Rattle.flat_machine.specs.Performing.{AllPerformed}
use Rattle.blk_nodes.specs.Joined.{IsJoined}
use Rattle.world_parts.specs.Carrying.{IsCarried, IsCarriedAs, IsCaused, StopsByFiles, is_io_refusal}
use Rattle.world_parts.specs.Coherent.{IsWholeWorld}
use Rattle.world_parts.specs.Counting.{HidesNoFault}
use Rattle.world_parts.specs.Deleting.{Ground, ground_of}
use Rattle.world_parts.specs.Face.{WorldSeen, contents_of}
use Rattle.world_parts.specs.Handling.{IsUntouched}
use Rattle.world_files.specs.Creations.{IsAnswerMade, is_creation}
use Rattle.world_parts.specs.Making.{MadeSo}
use Rattle.world_parts.specs.Saying.{IsSaid}
use Rattle.world_parts.proofs.CarryPlain.{quiet_named, quiet-self}
use Rattle.world_parts.proofs.CountLemmas.{runs-devices, same-devices}
use Rattle.world_parts.proofs.CountsKept.{hides-same}
use Rattle.world_parts.proofs.Handled.{untouched_whole}
use Rattle.world_files.proofs.MadeHandled.{creation-quiet, first-quiet, left-none, left-some}
use Rattle.world_files.proofs.MadeTold.{told_by_room}
use Rattle.world_files.proofs.MadeWorld.{CarriedTold, changes-created, clean_first, made_world, spoiled_world}
use Rattle.world_parts.proofs.BitmapsLeft.{keeps_bitmaps, kept-bitmaps, left-dirty}
use Rattle.world_parts.proofs.Placed.{answer-is, placed, placed_same}

first-files : (options : Created (List ℕ)) (room : ℕ) → StopsByFiles (create_told options room).stopped
unfolding create_told
first-files (created.File c) room = by_test (nat_lt room (amount_or 0 (Some c.size)))
  where
    by_test : (b : Bool) → StopsByFiles (stop_at look.File (too_long c.filename b) None)
    by_test true = tt
    by_test false = tt
first-files (created.Qcow2 c) room = tt
first-files created.Unknown room = tt

pub refused_first : (w : WorldSeen) (c : BlockdevCreate (List ℕ)) (cause : Refusal) → refusal_to w.table (create_told c.options w.room) (command.BlockdevCreate c) ≡ Some cause
    → CarriedTold w w (command.BlockdevCreate c) (Some cause) (create_told c.options w.room)
refused_first w c cause some =
    let told : Told = create_told c.options w.room in
    let quiet = creation-quiet w.table told (λ s stopped. first-quiet c.options w.room s stopped) c cause some in
    let changes : (answer w.table told (command.BlockdevCreate c)).changes ≡ [] =
    ap (λ (a : Answer). a.changes) (answer-is w.table told (command.BlockdevCreate c) (Some cause) some) ∙ left-none w.table c cause quiet in
    let carried : IsCarried w w (command.BlockdevCreate c) (Some cause) = record {
      told = told;
      counts = λ prints. absurd (let bad : ⊥ = cc prints in bad);
      by_files = first-files c.options w.room;
      maps = tt;
      answered = some;
      table = sym (ap (all_changed w.table) changes);
      progress = refl;
      drains = refl;
      works = refl;
      calm = λ is. All-nil (IsCalm w.table w.progress.guests);
      runs = runs-devices w w refl refl refl refl refl refl (same-devices w.nodes.devices);
      hides = subst (HidesNoFault w w) (sym (quiet_named cause quiet)) (hides-same w w refl refl refl);
      opens = refl;
      site = inl (clean_first c.options w.room, refl);
      cause = quiet_one w c cause quiet;
      coherent = λ was. was;
      shows = λ told_files o s shows. told_by_room o s w w c shows
          (subst (λ (cs : List Change). AllPerformed s cs (contents_of w) (contents_of w)) (sym changes) (quiet-self (contents_of w)));
    } in
    (carried, refl)
  where
    quiet_one : (w : WorldSeen) (c : BlockdevCreate (List ℕ)) (cause : Refusal) → is_io_refusal cause ≡ false → IsCaused w w (command.BlockdevCreate c) cause
    quiet_one w c (refusal.Io source count) bad = absurd (let e : ⊥ = cc bad in e)
    quiet_one w c (refusal.NoSpace dev) bad = absurd (let e : ⊥ = cc bad in e)
    quiet_one w c _ is = tt

said_so : (w : WorldSeen) (given : List ℕ) (v : WorldSeen) (text : List ℕ) (c : Cmd) (refusal : Option Refusal) (told : Told) → IsWholeWorld w → keeps_bitmaps c ≡ true → v.bitmaps ≡ w.bitmaps
    → CarriedTold w v c refusal told → IsSaid given (answer w.table told c).reply text → IsCarriedAs w v given c text
said_so w given v text c refusal told whole keeps bitmaps carried said = record {
  refusal = refusal;
  carried = carried.0;
  said = subst (λ (t : Told). IsSaid given (answer w.table t c).reply text) (sym carried.1) said;
  dirty = left-dirty w v carried.0.told c keeps bitmaps whole.bitmaps;
  bitmaps = kept-bitmaps w.table c refusal w.bitmaps v.bitmaps keeps bitmaps;
}

module _ (w : WorldSeen) (whole : IsWholeWorld w) (joined : IsJoined w.nodes) (given : List ℕ) (x : Ground) (after : IsJoined x.nodes) (least : w.faults ≤ x.store.faults) (u : RunTable) where
  creation_said : (text : List ℕ) (c : Cmd) → is_creation c ≡ true → IsAnswerMade given w.table c (ground_of w) x u text
      → IsCarriedAs w (placed w x u) given c text × IsWholeWorld (placed w x u)
  creation_said text (command.BlockdevCreate c) is made = by_refusal made.refusal made.judged made.done_is
    where
      by_refusal : (refusal : Option Refusal) → refusal_to w.table made.told (command.BlockdevCreate c) ≡ refusal
          → MadeSo w.table (command.BlockdevCreate c) (ground_of w) x made.told refusal
          → IsCarriedAs w (placed w x u) given (command.BlockdevCreate c) text × IsWholeWorld (placed w x u)
      by_refusal None none done =
          let cmd : Cmd = command.BlockdevCreate c in
          let first : refusal_to w.table (create_told c.options w.room) cmd ≡ None = subst (λ (t : Told). refusal_to w.table t cmd ≡ None) done.0 none in
          let all = made_world w whole joined c.job_id x after c.options first done.1 in
          let same : placed w x (all_changed w.table (create_edits w.table c)) ≡ placed w x u =
          ap (placed w x) (sym (made.table ∙ ap (all_changed w.table) (changes-created w.table made.told c none))) in (
            said_so w given (placed w x u) text cmd None made.told whole refl refl
                (subst (λ (v : WorldSeen). CarriedTold w v cmd None made.told) same
                (subst (λ (t : Told). CarriedTold w (placed w x (all_changed w.table (create_edits w.table c))) cmd None t) (sym done.0) all.0)) made.said,
            subst IsWholeWorld same all.1,
          )
      by_refusal (Some cause) some (inl done) =
          let cmd : Cmd = command.BlockdevCreate c in
          let first : refusal_to w.table (create_told c.options w.room) cmd ≡ Some cause = subst (λ (t : Told). refusal_to w.table t cmd ≡ Some cause) done.0 some in
          let quiet = creation-quiet w.table (create_told c.options w.room) (λ s stopped. first-quiet c.options w.room s stopped) c cause first in
          let kept : u ≡ w.table =
          made.table ∙ ap (λ (a : Answer). all_changed w.table a.changes) (answer-is w.table made.told cmd (Some cause) some)
          ∙ ap (all_changed w.table) (left-none w.table c cause quiet) in
          let same = placed_same w x u done.1 kept in (
            said_so w given (placed w x u) text cmd (Some cause) made.told whole refl refl
                (subst (λ (v : WorldSeen). CarriedTold w v cmd (Some cause) made.told) same
                (subst (λ (t : Told). CarriedTold w w cmd (Some cause) t) (sym done.0) (refused_first w c cause first))) made.said,
            subst IsWholeWorld same whole,
          )
      by_refusal (Some cause) some (inr fails) =
          let cmd : Cmd = command.BlockdevCreate c in
          let all = spoiled_world w whole joined c.job_id x after c.options cause fails.accepted fails.ended least in
          let same : placed w x (all_changed w.table (spoiled w.table c.options)) ≡ placed w x u =
          ap (placed w x) (sym (made.table ∙ ap (λ (a : Answer). all_changed w.table a.changes) (answer-is w.table made.told cmd (Some cause) some)
          ∙ ap (all_changed w.table) (left-some w.table c cause fails.ended.fits))) in (
            said_so w given (placed w x u) text cmd (Some cause) made.told whole refl refl
                (subst (λ (v : WorldSeen). CarriedTold w v cmd (Some cause) made.told) same
                (subst (λ (t : Told). CarriedTold w (placed w x (all_changed w.table (spoiled w.table c.options))) cmd (Some cause) t) (sym fails.told_is) all.0)) made.said,
            subst IsWholeWorld same all.1,
          )
  creation_said text c is made = absurd (let bad : ⊥ = cc is in bad)

  -- answers of a call
  module _ {A E : Type 0} (r : Result A E) (text : A → List ℕ) (c : Cmd) (is : is_creation c ≡ true) (made : IfOk r (λ a. IsAnswerMade given w.table c (ground_of w) x u (text a))) where
    pub creation_texts : IfOk r (λ a. IsCarriedAs w (placed w x u) given c (text a))
    creation_texts = by_result r made
      where
        by_result : (r : Result A E) → IfOk r (λ a. IsAnswerMade given w.table c (ground_of w) x u (text a)) → IfOk r (λ a. IsCarriedAs w (placed w x u) given c (text a))
        by_result (Ok a) made = (creation_said (text a) c is made).0
        by_result (Err e) made = made

    pub creation_whole : OnErr r (IsUntouched w.table u (x ≡ ground_of w)) → IsWholeWorld (placed w x u)
    creation_whole kept = by_result r made kept
      where
        by_result : (r : Result A E) → IfOk r (λ a. IsAnswerMade given w.table c (ground_of w) x u (text a)) → OnErr r (IsUntouched w.table u (x ≡ ground_of w)) → IsWholeWorld (placed w x u)
        by_result (Ok a) made kept = (creation_said (text a) c is made).1
        by_result (Err e) made kept = untouched_whole w x u whole kept
