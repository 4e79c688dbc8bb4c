-- How a deletion is answered, and what that leaves of the world.
use Rattle.std.proofs.Common.{◌≡◌, ℕ, true, List, [], Option, Some, None, Ok, Err, refl, sym, ◌∙◌, ap, subst}
use Rattle.std.specs.Prelude.{Result, IfOk, OnOk, OnErr}
use Rattle.blk_bitmaps.specs.declared.row.Bitmap.{Bitmap}
use Rattle.qmp_codec.specs.Commands.{Cmd}
use Rattle.qmp_codec.specs.declared.command.Command.TheVariants as command
use Rattle.qmp_rules.specs.Answers.{Answer, answer, left_by, refusal_to, told_none}
use Rattle.qmp_rules.specs.Table.{RunTable}
use Rattle.qmp_rules.specs.declared.refusal.Refusal.{Refusal}
use Rattle.blk_nodes.specs.Contents.{Unfolds}
use Rattle.blk_nodes.specs.Joined.{IsJoined}
use Rattle.flat_machine.specs.Recording.{dirty_after}
use Rattle.world_parts.specs.Carrying.{IsCarriedAs, IsPutBackBy}
use Rattle.world_parts.specs.Coherent.{IsWholeWorld}
use Rattle.world_parts.specs.Deleting.{Ground, ground_of}
use Rattle.world_parts.specs.Face.{WorldSeen, dirty_of}
use Rattle.world_parts.specs.Handling.{DoneIf, IsHandled, IsUntouched}
use Rattle.world_files.specs.Deletions.{bitmaps_left, is_deletion, IsDeletedBy}
use Rattle.world_files.proofs.DeletedCarried.{deleted_carried}
use Rattle.world_parts.proofs.Placed.{answer-is, placed, placed_same, put_back_by}
use Rattle.world_parts.proofs.Handled.{refused_placed, said_as, untouched_whole}

-- ---- what it leaves of the world

-- the world on other ground, with another table and other bitmaps
abbrev pub world_replaced : WorldSeen → Ground → RunTable → List Bitmap → WorldSeen
world_replaced w x u b = record (placed w x u) { bitmaps = b }

module _ (w : WorldSeen) (whole : IsWholeWorld w) (joined : IsJoined w.nodes) (unfolds : Unfolds w.nodes)
    (given : List ℕ) (x : Ground) (u : RunTable) (b : List Bitmap) (text : List ℕ) where
  pub deletion_carried : (c : Cmd) → is_deletion c ≡ true → IsHandled given w.table c u (IsDeletedBy w.table c (ground_of w) x) (x ≡ ground_of w) text
      → b ≡ bitmaps_left (refusal_to w.table told_none c) w.table c w.bitmaps
      → IsCarriedAs w (world_replaced w x u b) given c text × IsWholeWorld (world_replaced w x u b)
  deletion_carried (command.BlockdevDel name) is handled left =
      by_refusal handled.refusal handled.judged handled.done_is
      (left ∙ ap (λ (found : Option Refusal). bitmaps_left found w.table (command.BlockdevDel name) w.bitmaps) handled.judged)
    where
      by_refusal : (refusal : Option Refusal) → refusal_to w.table told_none (command.BlockdevDel name) ≡ refusal
          → DoneIf refusal (IsDeletedBy w.table (command.BlockdevDel name) (ground_of w) x) (x ≡ ground_of w)
          → b ≡ bitmaps_left refusal w.table (command.BlockdevDel name) w.bitmaps
          → IsCarriedAs w (world_replaced w x u b) given (command.BlockdevDel name) text × IsWholeWorld (world_replaced w x u b)
      by_refusal None none done left =
          let all = deleted_carried w whole joined unfolds name none x done u handled.table b left in
          (said_as w given (world_replaced w x u b) text (command.BlockdevDel name) None all.0 handled.said all.2.dirty (record { new = None; is_new = tt; are = left }), all.1)
      by_refusal (Some cause) some ground left =
          let all = refused_placed w (command.BlockdevDel name) cause refl refl some refl x u ground handled.table whole in
          let nothing : (answer w.table told_none (command.BlockdevDel name)).changes ≡ [] =
          ap (λ (a : Answer). a.changes) (answer-is w.table told_none (command.BlockdevDel name) (Some cause) some) in
          let carried : IsCarriedAs w (placed w x u) given (command.BlockdevDel name) text =
          said_as w given (placed w x u) text (command.BlockdevDel name) (Some cause) all.0 handled.said (sym (ap (dirty_after w.table (dirty_of w)) nothing)) refl in (
            subst (λ (rows : List Bitmap). IsCarriedAs w (world_replaced w x u rows) given (command.BlockdevDel name) text) (sym left) carried,
            subst (λ (rows : List Bitmap). IsWholeWorld (world_replaced w x u rows)) (sym left) all.1,
          )
  deletion_carried c is handled left = absurd (let bad : ⊥ = cc is in bad)

-- ---- deletions

pub deletion_leaves : (t : RunTable) (c : Cmd) (cause : Refusal) → is_deletion c ≡ true → left_by t c cause ≡ []
deletion_leaves t (command.BlockdevCreate c) cause is = absurd (let bad : ⊥ = cc is in bad)
deletion_leaves t c cause is = refl

module _ (w : WorldSeen) (whole : IsWholeWorld w) (joined : IsJoined w.nodes) (unfolds : Unfolds w.nodes)
    (given : List ℕ) (x : Ground) (u : RunTable) (b : List Bitmap) (c : Cmd) (is : is_deletion c ≡ true) {A E : Type 0} (r : Result A E) (text : A → List ℕ)
    (handled : IfOk r (λ a. IsHandled given w.table c u (IsDeletedBy w.table c (ground_of w) x) (x ≡ ground_of w) (text a)))
    (left : OnOk r (b ≡ bitmaps_left (refusal_to w.table told_none c) w.table c w.bitmaps)) where
  pub deletion_texts : IfOk r (λ a. IsCarriedAs w (world_replaced w x u b) given c (text a))
  deletion_texts = by_result r handled left
    where
      by_result : (r : Result A E) → IfOk r (λ a. IsHandled given w.table c u (IsDeletedBy w.table c (ground_of w) x) (x ≡ ground_of w) (text a))
          → OnOk r (b ≡ bitmaps_left (refusal_to w.table told_none c) w.table c w.bitmaps)
          → IfOk r (λ a. IsCarriedAs w (world_replaced w x u b) given c (text a))
      by_result (Ok a) handled left = (deletion_carried w whole joined unfolds given x u b (text a) c is handled left).0
      by_result (Err e) handled left = handled

  pub deletion_whole : OnErr r (IsUntouched w.table u (x ≡ ground_of w)) → OnErr r (b ≡ w.bitmaps) → IsWholeWorld (world_replaced w x u b)
  deletion_whole kept same = by_result r handled left kept same
    where
      by_result : (r : Result A E) → IfOk r (λ a. IsHandled given w.table c u (IsDeletedBy w.table c (ground_of w) x) (x ≡ ground_of w) (text a))
          → OnOk r (b ≡ bitmaps_left (refusal_to w.table told_none c) w.table c w.bitmaps)
          → OnErr r (IsUntouched w.table u (x ≡ ground_of w)) → OnErr r (b ≡ w.bitmaps) → IsWholeWorld (world_replaced w x u b)
      by_result (Ok a) handled left kept same = (deletion_carried w whole joined unfolds given x u b (text a) c is handled left).1
      by_result (Err e) handled left kept same =
          subst (λ (rows : List Bitmap). IsWholeWorld (world_replaced w x u rows)) (sym same) (untouched_whole w x u whole kept)

pub deletion_back : {A E : Type 0} (r : Result A E) (text : A → List ℕ) (w : WorldSeen) (c : Cmd) (x : Ground) (u : RunTable) (b : List Bitmap)
    → OnErr r (IsUntouched w.table u (x ≡ ground_of w)) → OnErr r (b ≡ w.bitmaps) → OnErr r (IsPutBackBy w (world_replaced w x u b) c)
deletion_back (Ok a) text w c x u b kept same = kept
deletion_back (Err e) text w c x u b kept same =
    subst (λ (rows : List Bitmap). IsPutBackBy w (world_replaced w x u rows) c) (sym same)
    (subst (λ (f : WorldSeen). IsPutBackBy w f c) (placed_same w x u kept.kept kept.table) (put_back_by w c))
