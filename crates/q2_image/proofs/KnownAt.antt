-- What is known where the writes of another backing name stop, by those that were made.
use Rattle.std.proofs.Common.{◌≡◌, ℕ, suc, ◌+◌, ◌-◌, ◌<◌, ◌≤◌, inl, inr, Bool, true, false, cond, ltb, List, [], ◌∷◌, ◌++◌, length, drop, Option, Some, None, refl, sym, ap, subst, ◌∙◌, arith, length-append}
use Rattle.std.proofs.lemmas.Bool.{lt-ltb, le-ltb}
use Rattle.std.proofs.lemmas.List.{drop_all}
use Rattle.std.specs.Option.{ForSome, option_map_or}
use Rattle.blk_base.specs.Content.{Write}
use Rattle.blk_base.specs.Device.{IsMade, Writes, Wrote}
use Rattle.blk_base.specs.Writes.{write_of, IsCutBy, IsPart}
use Rattle.blk_base.specs.declared.device.Device.{Ghosts}
use Rattle.blk_base.specs.declared.fault.DevStop.{DevStop}
use Rattle.blk_base.proofs.DeviceLemmas.{cause-later, cause-sooner, wrote-then}
use Rattle.blk_base.proofs.WriteLists.{part-later, part-sooner}
use Rattle.q2_format.specs.Created.{IsNewFormat}
use Rattle.q2_format.specs.Renamed.{format_bytes, format_room}
use Rattle.q2_format.specs.declared.header.Place.{Place}
use Rattle.blk_base.proofs.Calls.{call_later, call_sooner}
use Rattle.q2_image.specs.BackingName.{format_writes, known_at, known_with, text_writes, with_format}
use Rattle.q2_image.specs.Image.{Known}
use Rattle.q2_image.specs.Made.{clear_writes}
use Rattle.q2_image.specs.Writing.{autocleared}
use Rattle.q2_image.proofs.NameSteps.{length-format_bytes}

positive : (a : ℕ) → 0 < suc a
positive a = omega arith

none_positive : 0 < 0 → ⊥
none_positive h = omega (arith, h)

one_more : (a b : ℕ) → a ≤ b → suc a ≤ suc b
one_more a b h = omega (arith, h)

-- a part has a write, and not more than there are
pub part_length : (C : Write → Write → Type 0) (ws made : List Write) → IsPart C ws made → (0 < length made) × (length made ≤ length ws)
part_length C [] made part = absurd part
part_length C (w ∷ ws) [] part = absurd part
part_length C (w ∷ ws) (m ∷ made) (inl (same, part)) = (positive (length made), one_more (length made) (length ws) (part_length C ws made part).1)
part_length C (w ∷ ws) (m ∷ made) (inr (cut, none)) =
    let end : length made ≡ 0 = ap (λ (ms : List Write). length ms) none in
    (positive (length made), one_more (length made) (length ws) (omega (arith, end)))

drop_behind : (xs ys : List Write) (n : ℕ) → drop (length xs + n) (xs ++ ys) ≡ drop n ys
drop_behind [] ys n = let e : 0 + n ≡ n = omega arith in ap (λ (k : ℕ). drop k ys) e
drop_behind (x ∷ xs) ys n =
    let e : suc (length xs) + n ≡ suc (length xs + n) = omega arith in
    ap (λ (k : ℕ). drop k (x ∷ (xs ++ ys))) e ∙ drop_behind xs ys n

module _ (image : Known) (name format : Option (List ℕ)) where
  abbrev C : List Write
  C = clear_writes image

  abbrev T : List Write
  T = text_writes image.header name

  -- within the autoclear field's write
  pub at_clear : (made : List Write) → length made ≤ length C → known_at image name format made ≡ image
  at_clear made few =
      let B : Bool → Type 0 = λ t. cond t (known_with (autocleared image) format (drop (length (C ++ T)) made)) image ≡ image in
      subst B (sym (le-ltb (length C) (length made) few)) refl

  behind_clear : (rest : List Write) → 0 < length rest → known_at image name format (C ++ rest) ≡ known_with (autocleared image) format (drop (length T) rest)
  behind_clear rest some =
      let test = lt-ltb (length C) (length (C ++ rest)) (omega (arith, length-append C rest, some)) in
      let K : List Write → Known = λ ws. known_with (autocleared image) format ws in
      let B : Bool → Type 0 = λ t. cond t (K (drop (length (C ++ T)) (C ++ rest))) image ≡ K (drop (length T) rest) in
      subst B (sym test) (ap K (ap (λ (k : ℕ). drop k (C ++ rest)) (length-append C T) ∙ drop_behind C rest (length T)))

  -- within the text's
  pub at_text : (made : List Write) → 0 < length made → length made ≤ length T → known_at image name format (C ++ made) ≡ autocleared image
  at_text made some few = behind_clear made some ∙ ap (known_with (autocleared image) format) (drop_all (length T) made few)

  -- behind it
  pub at_format : (made : List Write) → 0 < length made → known_at image name format (C ++ (T ++ made)) ≡ known_with (autocleared image) format made
  at_format made some =
      let e : length T ≡ length T + 0 = omega arith in
      behind_clear (T ++ made) (omega (arith, length-append T made, some))
      ∙ ap (known_with (autocleared image) format) (ap (λ (k : ℕ). drop k (T ++ made)) e ∙ drop_behind T made 0)

same_either : (b : Bool) (k : Known) → cond b k k ≡ k
same_either true k = refl
same_either false k = refl

abbrev writes_in : List ℕ → Option Place → List Write
writes_in format room = option_map_or (λ (place : Place). write_of (place.at - 4) (format_bytes format) ∷ []) room []

abbrev named_in : Known → List ℕ → Option Place → Known
named_in k format room =
    record k { header = record k.header { format = option_map_or (λ (place : Place). Some (record { at = place.at; len = length format })) room k.header.format } }

abbrev IsNamedBehind : Known → List ℕ → List Write → Option Place → Type 0
IsNamedBehind k format rest room = known_with k (Some format) (writes_in format room ++ rest) ≡ with_format k (Some format)

named_behind : (k : Known) (format : List ℕ) (r : Write) (rest : List Write) (room : Option Place) → IsNewFormat format → format_room k.header ≡ room
    → IsNamedBehind k format (r ∷ rest) (format_room k.header)
named_behind k format r rest None new is =
    let same : with_format k (Some format) ≡ k = ap (named_in k format) is in
    let E : Known → Type 0 = λ x. cond (ltb (length r.bytes) 4) k x ≡ x in
    let here : IsNamedBehind k format (r ∷ rest) None = subst E (sym same) (same_either (ltb (length r.bytes) 4) k) in
    subst (IsNamedBehind k format (r ∷ rest)) (sym is) here
named_behind k format r rest (Some place) new is =
    let len = length-format_bytes format new.1 in
    let test = le-ltb (length (format_bytes format)) 4 (omega (arith, len)) in
    let B : Bool → Type 0 = λ t. cond t k (with_format k (Some format)) ≡ with_format k (Some format) in
    let here : IsNamedBehind k format (r ∷ rest) (Some place) = subst B (sym test) refl in
    subst (IsNamedBehind k format (r ∷ rest)) (sym is) here

-- behind the whole write of a format, where there is one
pub with_whole : (k : Known) (format : Option (List ℕ)) (rest : List Write) → 0 < length rest → ForSome format IsNewFormat
    → known_with k format (format_writes k.header format ++ rest) ≡ with_format k format
with_whole k format [] some new = absurd (none_positive some)
with_whole k None (r ∷ rest) some new = same_either (ltb (length r.bytes) 4) k
with_whole k (Some format) (r ∷ rest) some new = named_behind k format r rest (format_room k.header) (new format refl) refl

-- Calls one behind the other, and the writes that they made.
module _ {D : Type 0} (g : Ghosts D) where
  made_later : (vs ws made : List Write) (stop : Option DevStop) → IsMade stop ws made → IsMade stop (vs ++ ws) (vs ++ made)
  made_later vs ws made None is = ap (λ (xs : List Write). vs ++ xs) is
  made_later vs ws made (Some stop) part = part-later (IsCutBy stop) vs ws made part

  pub then_made : (vs ws : List Write) (stop : Option DevStop) (a b c : D) → Writes g vs None a b → (later : Writes g ws stop b c)
      → (all : Writes g (vs ++ ws) stop a c) × (all.made ≡ vs ++ later.made)
  then_made vs ws stop a b c first later = (
    record {
      made = vs ++ later.made;
      part = made_later vs ws later.made stop later.part;
      wrote = wrote-then g vs later.made a b c (subst (λ (xs : List Write). Wrote g xs a b) first.part first.wrote) later.wrote;
      cause = cause-later g vs ws first.made later.made stop (g.capacity a) (g.capacity b) (g.faults a) (g.faults b) (g.faults c)
          first.wrote.capacity later.part first.cause later.cause;
      call = call_later vs ws later.made stop (g.failed_call a) (g.failed_call b) (g.failed_call c) later.part first.call later.call;
    },
    refl,
  )

  pub sooner_made : (vs ws : List Write) (stop : DevStop) (a b : D) → (first : Writes g vs (Some stop) a b)
      → (all : Writes g (vs ++ ws) (Some stop) a b) × (all.made ≡ first.made)
  sooner_made vs ws stop a b first = (
    record {
      made = first.made;
      part = part-sooner (IsCutBy stop) vs ws first.made first.part;
      wrote = first.wrote;
      cause = cause-sooner g vs ws first.made stop (g.capacity a) (g.faults a) (g.faults b) first.part first.cause;
      call = call_sooner vs ws first.made stop (g.failed_call a) (g.failed_call b) first.part first.call;
    },
    refl,
  )
