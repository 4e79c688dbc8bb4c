-- The refusal of an addition, and its answer, by what the files tell.
use Rattle.std.proofs.Common.{◌≡◌, ◌≢◌, ℕ, Bool, true, false, List, refl, sym, ◌∙◌, ap, subst, arith, Option, Some, None}
use Rattle.qmp_codec.specs.declared.command.Command.TheVariants as command
use Rattle.qmp_codec.specs.declared.fields.Amount.{Amount}
use Rattle.qmp_codec.specs.declared.nodes.Added.{Added}
use Rattle.qmp_codec.specs.declared.nodes.Added.TheVariants as added
use Rattle.qmp_codec.specs.declared.nodes.AddRaw.{AddRaw}
use Rattle.qmp_codec.specs.declared.nodes.AddQcow2.{AddQcow2}
use Rattle.qmp_codec.specs.declared.nodes.FileRef.{FileRef}
use Rattle.qmp_codec.specs.declared.nodes.FileRef.TheVariants as file_ref
use Rattle.qmp_codec.specs.declared.nodes.InlineFile.{InlineFile}
use Rattle.qmp_rules.specs.declared.refusal.Refusal.{Refusal}
use Rattle.qmp_rules.specs.declared.refusal.Refusal.TheVariants.{Aborted}
use Rattle.qmp_rules.specs.declared.refusal.Refusal.TheVariants as refusal
use Rattle.qmp_asks.specs.declared.look.Look.{Look}
use Rattle.qmp_asks.specs.declared.look.Look.TheVariants as look
use Rattle.qmp_rules.specs.declared.told.Told.{Told}
use Rattle.qmp_rules.specs.Table.{RunTable}
use Rattle.qmp_rules.specs.Refusals.{or_else}
use Rattle.qmp_rules.specs.Asks.{first_unmet_ask, holds, told_at}
use Rattle.qmp_rules.specs.Looks.{is_unopened, look_for, part_look}
use Rattle.qmp_asks.specs.CommandAsks.{asks_of}
use Rattle.qmp_asks.specs.NodeAsks.{add_asks, backing_name, is_read_only}
use Rattle.qmp_rules.specs.Edits.{added_edits, edits_of, qcow2_edits, raw_edits}
use Rattle.qmp_rules.specs.Answers.{answer, answer_by, conflict_after, is_joined, out_of_turn, refusal_to, told_none}
use Rattle.world_parts.specs.Adding.{Adding, IsLookReached, probe}
use Rattle.flat_machine.specs.Sights.{order_of}
use Rattle.flat_machine.proofs.Accepted.{opened_parts}
use Rattle.world_additions.proofs.AddTold.{IsFrom, behind_look, first-reached, first-told, looks_at, look-itself, has_look, is_silent, silent-from, unreached, stop-refuses}

-- behind the asks: what the edges break
abbrev pub broken : RunTable → Adding → Option Refusal
broken t c = conflict_after (is_joined c.driver) t (edits_of t told_none (command.BlockdevAdd c))

pub refusal-is : (t : RunTable) (told : Told) (c : Adding)
    → refusal_to t told (command.BlockdevAdd c) ≡ or_else (out_of_turn false t.negotiated) (or_else (first_unmet_ask t told (add_asks c)) (broken t c))
unfolding refusal_to asks_of
refusal-is t told c = refl

-- ---- what refuses

-- files that tell the same at the looks
pub refusal-same : (t : RunTable) (a b : Told) (c : Adding) → first_unmet_ask t a (add_asks c) ≡ first_unmet_ask t b (add_asks c)
    → refusal_to t a (command.BlockdevAdd c) ≡ refusal_to t b (command.BlockdevAdd c)
refusal-same t a b c same =
    refusal-is t a c ∙ ap (λ (found : Option Refusal). or_else (out_of_turn false t.negotiated) (or_else found (broken t c))) same ∙ sym (refusal-is t b c)

pub refusal-told : (t : RunTable) (told : Told) (length size : Option ℕ) (dirty : List ℕ) (c : Adding)
    → refusal_to t (record told { length = length; size = size; dirty = dirty }) (command.BlockdevAdd c) ≡ refusal_to t told (command.BlockdevAdd c)
refusal-told t told length size dirty c =
    refusal-same t (record told { length = length; size = size; dirty = dirty }) told c (first-told t told length size dirty (add_asks c))

-- a stop at a look that is asked for
pub stop-refused : (t : RunTable) (told : Told) (what : Look) (cause : Refusal) (c : Adding)
    → told.stopped ≡ Some (record { look = what; refusal = cause }) → has_look what (add_asks c) ≡ true
    → refusal_to t told (command.BlockdevAdd c) ≢ None
stop-refused t told what cause c stops has = λ none. by_turn (out_of_turn false t.negotiated) (sym (refusal-is t told c) ∙ none)
  where
    by_first : (found : Option Refusal) → first_unmet_ask t told (add_asks c) ≡ found → or_else found (broken t c) ≡ None → ⊥
    by_first None e none = stop-refuses t told what cause (add_asks c) stops has e
    by_first (Some other) e none = absurd (cc none)

    by_turn : (turn : Option Refusal) → or_else turn (or_else (first_unmet_ask t told (add_asks c)) (broken t c)) ≡ None → ⊥
    by_turn None none = by_first (first_unmet_ask t told (add_asks c)) refl none
    by_turn (Some other) none = absurd (cc none)

-- where a look isn't reached, a refusal stands before it, whatever the files tell there or behind
pub unreached-refused : (t : RunTable) (what : Look) (c : Adding) → looks_at what (add_asks c) ≡ true
    → refusal_to t (probe what) (command.BlockdevAdd c) ≢ Some Aborted
    → (told : Told) → is_silent what told (add_asks c) ≡ true → refusal_to t told (command.BlockdevAdd c) ≡ refusal_to t (probe what) (command.BlockdevAdd c)
unreached-refused t what c at not = λ told silent. by_turn (out_of_turn false t.negotiated) refl told silent
  where
    by_turn : (turn : Option Refusal) → out_of_turn false t.negotiated ≡ turn → (told : Told) → is_silent what told (add_asks c) ≡ true
        → refusal_to t told (command.BlockdevAdd c) ≡ refusal_to t (probe what) (command.BlockdevAdd c)
    by_turn (Some other) e told silent =
        let here : refusal_to t told (command.BlockdevAdd c) ≡ Some other = refusal-is t told c ∙ rw e refl in
        let there : refusal_to t (probe what) (command.BlockdevAdd c) ≡ Some other = refusal-is t (probe what) c ∙ rw e refl in
        here ∙ sym there
    by_turn None e told silent =
        refusal-same t told (probe what) c (unreached t what (add_asks c) at (λ is. not (refusal-is t (probe what) c ∙ rw (e, is) refl)) told silent)

-- where a look is reached, what the files tell there refuses, or else what stands behind it
pub reached-refused : (t : RunTable) (what : Look) (c : Adding) → looks_at what (add_asks c) ≡ true → has_look what (add_asks c) ≡ true
    → IsLookReached t (command.BlockdevAdd c) what → (told : Told) → is_silent what told (add_asks c) ≡ true
    → refusal_to t told (command.BlockdevAdd c)
    ≡ or_else (or_else (told_at what told.stopped) (first_unmet_ask t told (behind_look what (add_asks c)))) (broken t c)
reached-refused t what c at has is told silent = by_turn t.negotiated refl
  where
    by_first : (found : Option Refusal) → first_unmet_ask t (probe what) (add_asks c) ≡ found → or_else found (broken t c) ≡ Some Aborted
        → first_unmet_ask t (probe what) (add_asks c) ≡ Some Aborted
    by_first None e found = absurd (stop-refuses t (probe what) what Aborted (add_asks c) refl has e)
    by_first (Some other) e found = e ∙ found

    by_turn : (b : Bool) → t.negotiated ≡ b
        → refusal_to t told (command.BlockdevAdd c)
        ≡ or_else (or_else (told_at what told.stopped) (first_unmet_ask t told (behind_look what (add_asks c)))) (broken t c)
    by_turn false e =
        let stops : refusal_to t (probe what) (command.BlockdevAdd c) ≡ Some (refusal.Negotiation false) = refusal-is t (probe what) c ∙ rw e refl in
        let bad : Some (refusal.Negotiation false) ≡ Some Aborted = sym stops ∙ is in
        absurd (cc bad)
    by_turn true e =
        let probed : refusal_to t (probe what) (command.BlockdevAdd c) ≡ or_else (first_unmet_ask t (probe what) (add_asks c)) (broken t c) =
        refusal-is t (probe what) c ∙ rw e refl in
        let found = by_first (first_unmet_ask t (probe what) (add_asks c)) refl (sym probed ∙ is) in
        let mine : refusal_to t told (command.BlockdevAdd c) ≡ or_else (first_unmet_ask t told (add_asks c)) (broken t c) = refusal-is t told c ∙ rw e refl in
        mine ∙ ap (λ (r : Option Refusal). or_else r (broken t c)) (first-reached t what told (add_asks c) at found silent)

-- so a stop there is the refusal
pub stop-told : (t : RunTable) (what : Look) (c : Adding) → looks_at what (add_asks c) ≡ true → has_look what (add_asks c) ≡ true
    → IsLookReached t (command.BlockdevAdd c) what → (told : Told) (cause : Refusal)
    → told.stopped ≡ Some (record { look = what; refusal = cause }) → refusal_to t told (command.BlockdevAdd c) ≡ Some cause
stop-told t what c at has is told cause stops =
    let here : told_at what told.stopped ≡ Some cause = rw (stops, look-itself what) refl in
    let from : IsFrom (order_of what) told.stopped = subst (IsFrom (order_of what)) (sym stops) (omega arith) in
    reached-refused t what c at has is told (silent-from what told from (add_asks c)) ∙ rw here refl

-- ---- the answer

-- what is edited depends on lengths and sizes alone
module _ (t : RunTable) (told : Told) (dirty : List ℕ) where
  part-dirty : (name : List ℕ) (read_only : Bool) (raw : AddRaw (List ℕ)) (file : FileRef (List ℕ))
      → raw_edits t (record told { dirty = dirty }) name read_only raw file ≡ raw_edits t told name read_only raw file
  part-dirty name read_only raw (file_ref.Name other) = refl
  part-dirty name read_only raw (file_ref.Inline file) = refl

  image-dirty : (name : List ℕ) (read_only : Bool) (back : Option (List ℕ)) (file : FileRef (List ℕ))
      → qcow2_edits t (record told { dirty = dirty }) name read_only back file ≡ qcow2_edits t told name read_only back file
  image-dirty name read_only back (file_ref.Name other) = refl
  image-dirty name read_only back (file_ref.Inline file) = refl

  driver-dirty : (name : List ℕ) (read_only : Bool) (driver : Added (List ℕ))
      → added_edits t (record told { dirty = dirty }) name read_only driver ≡ added_edits t told name read_only driver
  driver-dirty name read_only (added.File filename) = refl
  driver-dirty name read_only (added.Raw raw) = part-dirty name read_only raw raw.file
  driver-dirty name read_only (added.Qcow2 image) = image-dirty name read_only (backing_name image.backing) image.file
  driver-dirty name read_only (added.CopyOnRead file) = refl
  driver-dirty name read_only added.Unknown = refl

  edits-dirty : (c : Adding) → edits_of t (record told { dirty = dirty }) (command.BlockdevAdd c) ≡ edits_of t told (command.BlockdevAdd c)
  unfolding edits_of
  edits-dirty c = driver-dirty c.node_name (is_read_only c.options) c.driver

-- a refusal leaves nothing
refused-same : (t : RunTable) (a b : Told) (c : Adding) (found : Option Refusal) → found ≢ None
    → answer_by t a (command.BlockdevAdd c) found ≡ answer_by t b (command.BlockdevAdd c) found
refused-same t a b c None some = absurd (some refl)
refused-same t a b c (Some cause) some = refl

pub answer-refused : (t : RunTable) (a b : Told) (c : Adding) → refusal_to t a (command.BlockdevAdd c) ≡ refusal_to t b (command.BlockdevAdd c)
    → refusal_to t b (command.BlockdevAdd c) ≢ None → answer t a (command.BlockdevAdd c) ≡ answer t b (command.BlockdevAdd c)
unfolding answer
answer-refused t a b c same some = rw same (refused-same t a b c (refusal_to t b (command.BlockdevAdd c)) some)

pub answer-dirty : (t : RunTable) (told : Told) (dirty : List ℕ) (c : Adding)
    → answer t (record told { dirty = dirty }) (command.BlockdevAdd c) ≡ answer t told (command.BlockdevAdd c)
unfolding answer
answer-dirty t told dirty c =
    rw (refusal-told t told told.length told.size dirty c) (by_found (refusal_to t told (command.BlockdevAdd c)))
  where
    by_found : (found : Option Refusal)
        → answer_by t (record told { dirty = dirty }) (command.BlockdevAdd c) found ≡ answer_by t told (command.BlockdevAdd c) found
    by_found None = rw (edits-dirty t told dirty c) refl
    by_found (Some cause) = refl

-- ---- the looks of each kind

-- a part has three
abbrev pub IsPartLook : Look → Type 0
IsPartLook look.Begin = Unit {0}
IsPartLook look.End = Unit {0}
IsPartLook look.File = Unit {0}
IsPartLook _ = ⊥

pub part-looks : (raw : AddRaw (List ℕ)) → IsPartLook (part_look raw)
part-looks raw = by_said raw.offset raw.size
  where
    by_said : (offset size : Option Amount) → IsPartLook (look_for offset size)
    by_said (Some offset) size = tt
    by_said None (Some size) = tt
    by_said None None = tt

module _ (c : Adding) where
  pub looks-file : (filename : List ℕ) → c.driver ≡ added.File filename → looks_at look.File (add_asks c) ≡ true
  looks-file filename e = rw e refl

  pub looks-part : (raw : AddRaw (List ℕ)) (file : InlineFile (List ℕ)) → c.driver ≡ added.Raw raw → raw.file ≡ file_ref.Inline file
      → looks_at (part_look raw) (add_asks c) ≡ true
  looks-part raw file e f = by_look (part_look raw) (part-looks raw)
    where
      by_look : (what : Look) → IsPartLook what → looks_at what (add_asks c) ≡ true
      by_look look.Begin is = rw (e, f) refl
      by_look look.End is = rw (e, f) refl
      by_look look.File is = rw (e, f) refl
      by_look _ is = absurd is

  pub looks-image : (image : AddQcow2 (List ℕ)) (file : InlineFile (List ℕ)) → c.driver ≡ added.Qcow2 image → image.file ≡ file_ref.Inline file
      → looks_at look.File (add_asks c) ≡ true
  looks-image image file e f = rw (e, f) refl

  pub silent-image : (image : AddQcow2 (List ℕ)) (file : InlineFile (List ℕ)) → c.driver ≡ added.Qcow2 image → image.file ≡ file_ref.Inline file
      → (told : Told) → is_silent look.File told (add_asks c) ≡ true
  silent-image image file e f told = rw (e, f) refl

  pub silent-named : (image : AddQcow2 (List ℕ)) (name : List ℕ) → c.driver ≡ added.Qcow2 image → image.file ≡ file_ref.Name name
      → (told : Told) → is_silent look.Image told (add_asks c) ≡ true
  silent-named image name e f told = rw (e, f) refl

  pub looks-named : (image : AddQcow2 (List ℕ)) (name : List ℕ) → c.driver ≡ added.Qcow2 image → image.file ≡ file_ref.Name name
      → looks_at look.Image (add_asks c) ≡ true
  looks-named image name e f = rw (e, f) refl

  pub has-file : (filename : List ℕ) → c.driver ≡ added.File filename → has_look look.File (add_asks c) ≡ true
  has-file filename e = rw e refl

  pub has-part : (raw : AddRaw (List ℕ)) (file : InlineFile (List ℕ)) → c.driver ≡ added.Raw raw → raw.file ≡ file_ref.Inline file
      → has_look look.File (add_asks c) ≡ true
  has-part raw file e f = rw (e, f) refl

  pub has-part-look : (raw : AddRaw (List ℕ)) (file : InlineFile (List ℕ)) → c.driver ≡ added.Raw raw → raw.file ≡ file_ref.Inline file
      → has_look (part_look raw) (add_asks c) ≡ true
  has-part-look raw file e f = by_look (part_look raw) (part-looks raw)
    where
      by_look : (what : Look) → IsPartLook what → has_look what (add_asks c) ≡ true
      by_look look.Begin is = rw (e, f) refl
      by_look look.End is = rw (e, f) refl
      by_look look.File is = rw (e, f) refl
      by_look _ is = absurd is

  pub has-opened : (image : AddQcow2 (List ℕ)) (file : InlineFile (List ℕ)) → c.driver ≡ added.Qcow2 image → image.file ≡ file_ref.Inline file
      → (has_look look.File (add_asks c) ≡ true) × (has_look look.Image (add_asks c) ≡ true)
  has-opened image file e f = (rw (e, f) refl, rw (e, f) refl)

  -- and a stop at the image is the refusal where the file is opened for it
  pub image-told : (t : RunTable) (image : AddQcow2 (List ℕ)) (file : InlineFile (List ℕ)) → c.driver ≡ added.Qcow2 image
      → image.file ≡ file_ref.Inline file → IsLookReached t (command.BlockdevAdd c) look.File → is_unopened t file.filename ≡ false
      → (told : Told) (cause : Refusal) → told.stopped ≡ Some (record { look = look.Image; refusal = cause })
      → refusal_to t told (command.BlockdevAdd c) ≡ Some cause
  unfolding holds
  image-told t image file e f is free told cause stops =
      let kept = (opened_parts t file.filename free).2 in
      reached-refused t look.File c (looks-image image file e f) (has-opened image file e f).0 is told (silent-image image file e f told)
      ∙ rw (stops, e, f, kept) refl

  pub has-named : (image : AddQcow2 (List ℕ)) (name : List ℕ) → c.driver ≡ added.Qcow2 image → image.file ≡ file_ref.Name name
      → has_look look.Image (add_asks c) ≡ true
  has-named image name e f = rw (e, f) refl
