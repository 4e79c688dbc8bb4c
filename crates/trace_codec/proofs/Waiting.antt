-- Lines that are waits.
use Rattle.std.proofs.Common.{◌≡◌, ℕ, zero, suc, ◌<◌, ◌≤◌, Bool, true, false, List, [], ◌∷◌, length, refl, arith, eqb, ltb, le-ltb, Option, Some, None}
use Rattle.std.specs.Prelude.{◌&&◌, ◌||◌, is_some, get_or, IsUtf8, slice_index}
use Rattle.std.specs.List.{list_all, slice_split}
use Rattle.std.specs.Char.{is_ascii_alphabetic}
use Rattle.std.proofs.lemmas.Bool.{false≢true}
use Rattle.std.proofs.lemmas.Str.{IsUtf8-from_ascii}
use Rattle.trace_codec.specs.Cut.{parts_of}
use Rattle.trace_codec.specs.Awaits.{is_name_byte, is_name, id_in, guest_wait, awaited_line_in}
use Rattle.trace_codec.proofs.Parts.{one_part}

not_id : (id : List ℕ) (words : List (List ℕ)) → 0 < length words → id_in (id ∷ words) ≡ None
not_id id [] h = absurd (omega arith)
not_id id (word ∷ words) h = refl

-- more than one word is no id
pub more_ids : (id : List ℕ) (s : ℕ) (rest : Option (List ℕ)) → is_some rest ≡ true → id_in (id ∷ parts_of s rest) ≡ None
more_ids id s None h = cc
more_ids id s (Some rest) h = not_id id (slice_split (λ b. eqb b s) rest) (one_part s rest)

not_guest : (guests : List (List ℕ)) (name amount : List ℕ) (words : List (List ℕ)) → 0 < length words → guest_wait guests (name ∷ amount ∷ words) ≡ None
not_guest guests name amount [] h = absurd (omega arith)
not_guest guests name amount (word ∷ words) h = refl

-- nor are more than two a guest and a number
pub more_guest : (guests : List (List ℕ)) (name amount : List ℕ) (s : ℕ) (rest : Option (List ℕ)) → is_some rest ≡ true
    → guest_wait guests (name ∷ amount ∷ parts_of s rest) ≡ None
more_guest guests name amount s None h = cc
more_guest guests name amount s (Some rest) h = not_guest guests name amount (slice_split (λ b. eqb b s) rest) (one_part s rest)

not_line : (number : List ℕ) (words : List (List ℕ)) → 0 < length words → awaited_line_in (number ∷ words) ≡ None
not_line number [] h = absurd (omega arith)
not_line number (word ∷ words) h = refl

-- nor is more than a number what a line of a trace waits for
pub more_lines : (number : List ℕ) (s : ℕ) (rest : Option (List ℕ)) → is_some rest ≡ true → awaited_line_in (number ∷ parts_of s rest) ≡ None
more_lines number s None h = cc
more_lines number s (Some rest) h = not_line number (slice_split (λ b. eqb b s) rest) (one_part s rest)

-- ---- names are text

both : (a b : Bool) → (a && b) ≡ true → (a ≡ true) × (b ≡ true)
both true b is = (refl, is)
both false b is = absurd (false≢true is)

-- a byte of a name is one of ASCII
low : (c : ℕ) → is_name_byte c ≡ true → c < 128
low c is = grind (arith, is)

ascii : (word : List ℕ) → list_all is_name_byte word ≡ true → (i : ℕ) → get_or word i 0 < 128
ascii [] all i = omega arith
ascii (c ∷ word) all zero = low c (both (is_name_byte c) (list_all is_name_byte word) all).0
ascii (c ∷ word) all (suc i) = ascii word (both (is_name_byte c) (list_all is_name_byte word) all).1 i

pub name_is_text : (word : List ℕ) → is_name word ≡ true → IsUtf8 word
name_is_text word is = IsUtf8-from_ascii word (ascii word (both _ _ (both _ _ is).1).1)
