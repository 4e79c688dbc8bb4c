-- Cutting at the first separator.
use Rattle.std.proofs.Common.{◌≡◌, ◌≢◌, ℕ, ◌+◌, ◌-◌, ◌<◌, List, [], ◌∷◌, ◌++◌, true, false, eqb, Bool, cond, Option, Some, None, is_some, length, get_or, take, drop, refl, ap, sym, ◌∙◌, arith, length-take, get_or-take, take-append-drop, eq-eqb, ne_eqb}
use Rattle.std.specs.List.{slice_split, All}
use Rattle.std.proofs.lemmas.List.{drop_more, take_rest, get_or_default}
use Rattle.std.proofs.lemmas.List.Splits.{slice_split_at, slice_split_none, length-slice_split}
use Rattle.std.specs.Prelude.{codes}
use Rattle.std.specs.Str.{bytes_eq}
use Rattle.trace_codec.specs.declared.op.Op.{Op}
use Rattle.trace_codec.specs.Cut.{IsFirstAt, parts_of}
use Rattle.trace_codec.specs.Line.{words_of, span_in, raw_in, flush_in, request_in}

none_before : (s at : ℕ) (bytes : List ℕ) → IsFirstAt s at bytes → All (λ b. eqb b s ≡ false) (take at bytes)
none_before s at bytes h k d below =
    let near : k < at = omega (arith, length-take at bytes) in
    let inside : k < length bytes = omega (arith, h.within) in
    ne_eqb _ _ (rw get_or-take (rw (get_or_default bytes k d 0 inside) (h.before k near)))

-- the bytes before the first separator are the first part
pub cut_at : (s at : ℕ) (bytes : List ℕ) → IsFirstAt s at bytes → slice_split (λ b. eqb b s) bytes ≡ take at bytes ∷ slice_split (λ b. eqb b s) (take (length bytes - (at + 1)) (drop (at + 1) bytes))
cut_at s at bytes h =
    let back = sym (take-append-drop at bytes) ∙ ap (λ rest. take at bytes ++ rest) (drop_more bytes at 0 h.within) in
    let p : ℕ → Bool = λ b. eqb b s in
    rw (take_rest bytes (at + 1)) (ap (slice_split p) back
    ∙ slice_split_at p (take at bytes) (get_or bytes at 0) (drop (at + 1) bytes) (none_before s at bytes h) (eq-eqb _ _ h.here))

-- bytes with no separator are one part
pub uncut : (s : ℕ) (bytes : List ℕ) → All (λ b. b ≢ s) bytes → slice_split (λ b. eqb b s) bytes ≡ bytes ∷ []
uncut s bytes h = slice_split_none (λ b. eqb b s) bytes (λ k d below. ne_eqb _ _ (h k d below))

-- bytes have a part at least
pub one_part : (s : ℕ) (bytes : List ℕ) → 0 < length (slice_split (λ b. eqb b s) bytes)
one_part s bytes = omega (arith, length-slice_split (λ b. eqb b s) bytes)

not_two : (offset len : List ℕ) (words : List (List ℕ)) → 0 < length words → span_in (offset ∷ len ∷ words) ≡ None
not_two offset len [] h = absurd (omega arith)
not_two offset len (word ∷ words) h = refl

-- more than two words are no span
pub more_words : (offset len : List ℕ) (s : ℕ) (rest : Option (List ℕ)) → is_some rest ≡ true → span_in (offset ∷ len ∷ parts_of s rest) ≡ None
more_words offset len s None h = cc
more_words offset len s (Some rest) h = not_two offset len (slice_split (λ b. eqb b s) rest) (one_part s rest)

not_raw : (offset digits : List ℕ) (words : List (List ℕ)) → 0 < length words → raw_in (offset ∷ digits ∷ words) ≡ None
not_raw offset digits [] h = absurd (omega arith)
not_raw offset digits (word ∷ words) h = refl

-- nor are they a place and bytes
pub more_raw_words : (offset digits : List ℕ) (s : ℕ) (rest : Option (List ℕ)) → is_some rest ≡ true → raw_in (offset ∷ digits ∷ parts_of s rest) ≡ None
more_raw_words offset digits s None h = cc
more_raw_words offset digits s (Some rest) h = not_raw offset digits (slice_split (λ b. eqb b s) rest) (one_part s rest)

not_lone : (words : List (List ℕ)) → 0 < length words → flush_in words ≡ None
not_lone [] h = absurd (omega arith)
not_lone (word ∷ words) h = refl

either_none : (b : Bool) → (let none : Option Op = None in cond b none none) ≡ None
either_none true = refl
either_none false = refl

-- a word that begins no line of several words
pub no_request : (name line : List ℕ) → bytes_eq name (codes "read") ≡ false → bytes_eq name (codes "write") ≡ false → bytes_eq name (codes "bytes") ≡ false → bytes_eq name (codes "discard") ≡ false →
    request_in (name ∷ words_of line) ≡ None
no_request name line read write bytes discard =
    let flush : flush_in (words_of line) ≡ None = not_lone (words_of line) (one_part 32 line) in
    rw (read, write, bytes, discard, flush) (either_none (bytes_eq name (codes "flush")))
