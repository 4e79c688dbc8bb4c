-- How far a script is read.
use Rattle.std.proofs.Common.{◌≡◌, ℕ, ◌+◌, ◌<◌, ◌≤◌, Bool, true, false, List, [], ◌∷◌, ◌++◌, length, eqb, refl, sym, ap, ◌∙◌, arith, append_assoc, append-nil, length-drop, ltb, ltb-false, ltb-true, ◌⊎◌, inl, inr, Option, None, Some}
use Rattle.std.specs.Prelude.{◌&&◌}
use Rattle.std.specs.List.{slice_split, position_or_len, before_first, after_first}
use Rattle.std.proofs.lemmas.Bool.{cases_Bool}
use Rattle.std.proofs.lemmas.List.Sums.{fails_before_first}
use Rattle.std.proofs.lemmas.List.Splits.{slice_split_none, slice_split_first}
use Rattle.trace_codec.specs.Cut.{parts_of}
use Rattle.trace_codec.specs.Trace.{lines_of}
use Rattle.trace_codec.specs.Script.{Order, with_order, order_in, orders_from, is_line, count_of_lines}
use Rattle.trace_codec.proofs.Parts.{one_part}

-- ---- lines

pub record IsCut (bs front back : List ℕ) : Type 0 where
  pub there : position_or_len (λ b. eqb b 10) bs < length bs
  pub front_is : front ≡ before_first (λ b. eqb b 10) bs
  pub back_is : back ≡ after_first (λ b. eqb b 10) bs

pub cut_parts : (bs front back : List ℕ) → IsCut bs front back → lines_of bs ≡ front ∷ parts_of 10 (Some back)
cut_parts bs front back h = rw (h.front_is, h.back_is) (slice_split_first (λ b. eqb b 10) bs 0 h.there)

pub cut_fewer : (bs front back : List ℕ) → IsCut bs front back → length back < length bs
cut_fewer bs front back h = rw h.back_is (let there = h.there in omega (arith, length-drop (position_or_len (λ b. eqb b 10) bs + 1) bs))

pub uncut_parts : (bs : List ℕ) → position_or_len (λ b. eqb b 10) bs ≡ length bs → lines_of bs ≡ bs ∷ parts_of 10 None
uncut_parts bs none = slice_split_none (λ b. eqb b 10) bs (λ k d below. fails_before_first (λ b. eqb b 10) bs k d (omega arith))

-- ---- numbers of lines

-- the line of this number comes, or all have come, of so many
abbrev pub IsAt : ℕ → Option (List ℕ) → ℕ → Type 0
IsAt number None total = total ≤ 4096
IsAt number (Some rest) total = (number ≤ 4097) × (number + count_of_lines (lines_of rest) ≡ total + 1)

pub at_first : (text : List ℕ) → IsAt 1 (Some text) (count_of_lines (lines_of text))
at_first text = (omega arith, omega arith)

-- a line behind which there are others counts one
count-more : (line : List ℕ) (lines : List (List ℕ)) → 0 < length lines → count_of_lines (line ∷ lines) ≡ 1 + count_of_lines lines
count-more line [] h = absurd (omega arith)
count-more [] (next ∷ lines) h = refl
count-more (b ∷ line) (next ∷ lines) h = refl

pub at_next : (number : ℕ) (text line : List ℕ) (after : Option (List ℕ)) (total : ℕ) → IsAt number (Some text) total
    → lines_of text ≡ line ∷ parts_of 10 after → (ltb 4096 number && is_line line after) ≡ false → IsAt (number + 1) after total
at_next number text line after total at parts short = next line after (cases_Bool (ltb 4096 number)) parts short
  where
    next : (line : List ℕ) (after : Option (List ℕ)) → (ltb 4096 number ≡ true) ⊎ (ltb 4096 number ≡ false)
        → lines_of text ≡ line ∷ parts_of 10 after → (ltb 4096 number && is_line line after) ≡ false → IsAt (number + 1) after total
    next [] None high parts short =
        let count : number + count_of_lines ([] ∷ []) ≡ total + 1 = rw parts at at.1 in
        let low = at.0 in
        omega arith
    next (b ∷ line) None (inl high) parts short = let bad : true ≡ false = rw high at short in cc
    next (b ∷ line) None (inr low) parts short =
        let count : number + count_of_lines ((b ∷ line) ∷ []) ≡ total + 1 = rw parts at at.1 in
        omega (arith, ltb-false 4096 number low)
    next [] (Some rest) (inl high) parts short = let bad : true ≡ false = rw high at short in cc
    next (b ∷ line) (Some rest) (inl high) parts short = let bad : true ≡ false = rw high at short in cc
    next line (Some rest) (inr low) parts short =
        let count : number + count_of_lines (line ∷ lines_of rest) ≡ total + 1 = rw parts at at.1 in
        (omega (arith, ltb-false 4096 number low), omega (arith, count-more line (lines_of rest) (one_part 10 rest)))

-- a line too many
pub too_many : (number : ℕ) (text line : List ℕ) (after : Option (List ℕ)) (total : ℕ) → IsAt number (Some text) total
    → lines_of text ≡ line ∷ parts_of 10 after → (ltb 4096 number && is_line line after) ≡ true → 4096 < total
too_many number text line after total at parts is = more line after (cases_Bool (ltb 4096 number)) parts is
  where
    more : (line : List ℕ) (after : Option (List ℕ)) → (ltb 4096 number ≡ true) ⊎ (ltb 4096 number ≡ false)
        → lines_of text ≡ line ∷ parts_of 10 after → (ltb 4096 number && is_line line after) ≡ true → 4096 < total
    more line after (inr low) parts is = let bad : false ≡ true = rw low at is in cc
    more [] None (inl high) parts is = let bad : false ≡ true = rw high at is in cc
    more (b ∷ line) None (inl high) parts is =
        let count : number + count_of_lines ((b ∷ line) ∷ []) ≡ total + 1 = rw parts at at.1 in
        omega (arith, ltb-true 4096 number high)
    more line (Some rest) (inl high) parts is =
        let count : number + count_of_lines (line ∷ lines_of rest) ≡ total + 1 = rw parts at at.1 in
        omega (arith, ltb-true 4096 number high, count-more line (lines_of rest) (one_part 10 rest))

-- ---- orders

with_more : (o : Option Order) (xs ys : List Order) → (xs ++ with_order o []) ++ ys ≡ xs ++ with_order o ys
with_more None xs ys = ap (λ zs. zs ++ ys) (append-nil xs)
with_more (Some order) xs ys = append_assoc xs (order ∷ []) ys

-- one line more
pub orders_next : (guests : List (List ℕ)) (number next : ℕ) (text line : List ℕ) (after : Option (List ℕ)) (old new all : List Order)
    → old ++ orders_from guests number (lines_of text) ≡ all → lines_of text ≡ line ∷ parts_of 10 after → next ≡ number + 1
    → new ≡ old ++ with_order (order_in guests number line) []
    → new ++ orders_from guests next (parts_of 10 after) ≡ all
orders_next guests number next text line after old new all had parts is took =
    rw (took, is) (with_more (order_in guests number line) old (orders_from guests (number + 1) (parts_of 10 after)) ∙ (rw parts at had))

pub orders_end : (guests : List (List ℕ)) (number : ℕ) (old all : List Order) → old ++ orders_from guests number (parts_of 10 None) ≡ all → old ≡ all
orders_end guests number old all had = sym (append-nil old) ∙ had
