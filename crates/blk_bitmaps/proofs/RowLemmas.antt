-- The first row that passes a test, by its place.
use Rattle.std.proofs.Common.{◌≡◌, ℕ, suc, ◌+◌, ◌<◌, inl, inr, Bool, true, false, List, [], ◌∷◌, length, ◌++◌, ◌-◌, map, get_or, set, take, drop, refl, sym, ◌∙◌, ap, arith, Option, Some, None, position, nat_lt}
use Rattle.std.specs.List.{position_or_len, remove}
use Rattle.std.proofs.lemmas.Bool.{cases_lt}
use Rattle.std.proofs.lemmas.Bool.Decides.{nat_tests}
use Rattle.std.proofs.lemmas.List.{take-append-drop, set-append_left, set-append_right, set-get_or, length-take-le, length-append, length-map, length-drop, get_or-take, get_or-drop, get_or_default}
use Rattle.std.proofs.lemmas.List.Edits.{map_over_more}
use Rattle.blk_bitmaps.specs.declared.row.Bitmap.{Bitmap}
use Rattle.blk_bitmaps.specs.Rows.{is_named, merged_row}
use Rattle.blk_bitmaps.specs.Refusals.{first_row, use_refusal, busy_refusal}
use Rattle.blk_bitmaps.specs.Calls.{with_first, without_first, with_source}
use Rattle.blk_bitmaps.proofs.SetLemmas.{merged_self}

-- what the definitions say of the first row that passes, at its place
pub record IsFirstRowAt (test : Bitmap → Bool) (change : Bitmap → Bitmap) (rows : List Bitmap) (place : ℕ) (d : Bitmap) : Type 0 where
  pub within : place < length rows
  pub found : first_row test rows ≡ Some (get_or rows place d)
  pub changed : with_first test change rows ≡ set rows place (change (get_or rows place d))
  pub gone : without_first test rows ≡ remove rows place

-- no row passes
pub record Nowhere (test : Bitmap → Bool) (change : Bitmap → Bitmap) (rows : List Bitmap) : Type 0 where
  pub found : first_row test rows ≡ None
  pub changed : with_first test change rows ≡ rows

at : (test : Bitmap → Bool) (change : Bitmap → Bitmap) (rows : List Bitmap) (d : Bitmap) → position_or_len test rows < length rows
    → IsFirstRowAt test change rows (position_or_len test rows) d
at test change [] d h = absurd (omega arith)
at test change (x ∷ xs) d h = go (test x) refl (at test change xs d)
  where
    go : (b : Bool) → test x ≡ b → (position_or_len test xs < length xs → IsFirstRowAt test change xs (position_or_len test xs) d)
        → IsFirstRowAt test change (x ∷ xs) (position_or_len test (x ∷ xs)) d
    go true e more =
        let place : position_or_len test (x ∷ xs) ≡ 0 = rw e refl in
        rw place (record { within = omega arith; found = rw e refl; changed = rw e refl; gone = rw e refl })
    go false e more =
        let place : position_or_len test (x ∷ xs) ≡ suc (position_or_len test xs) = rw e (omega arith) in
        let rest : IsFirstRowAt test change xs (position_or_len test xs) d = more (omega arith) in
        rw place (record {
          within = omega arith;
          found = rw e rest.found;
          changed = rw e (ap (λ r. x ∷ r) rest.changed);
          gone = rw e (ap (λ r. x ∷ r) rest.gone);
        })

nowhere : (test : Bitmap → Bool) (change : Bitmap → Bitmap) (rows : List Bitmap) → length rows < position_or_len test rows + 1 → Nowhere test change rows
nowhere test change [] h = record { found = refl; changed = refl }
nowhere test change (x ∷ xs) h = go (test x) refl (nowhere test change xs)
  where
    go : (b : Bool) → test x ≡ b → (length xs < position_or_len test xs + 1 → Nowhere test change xs) → Nowhere test change (x ∷ xs)
    go true e more =
        let place : position_or_len test (x ∷ xs) ≡ 0 = rw e refl in
        absurd (omega arith)
    go false e more =
        let place : position_or_len test (x ∷ xs) ≡ suc (position_or_len test xs) = rw e (omega arith) in
        let rest : Nowhere test change xs = more (omega arith) in
        record { found = rw e rest.found; changed = rw e (ap (λ r. x ∷ r) rest.changed) }

pub placed : (test : Bitmap → Bool) (change : Bitmap → Bitmap) (rows : List Bitmap) (place : ℕ) (d : Bitmap) → position test rows ≡ Some place → IsFirstRowAt test change rows place d
placed test change rows place d is = elim (cases_lt (position_or_len test rows) (length rows)) [
  | inl below ↦
      let e : nat_lt (position_or_len test rows) (length rows) ≡ true = grind (arith, nat_tests) in
      let there : position test rows ≡ Some (position_or_len test rows) = rw e refl in
      let same : place ≡ position_or_len test rows = cc in
      rw same (at test change rows d below)
  | inr past ↦ absurd (let e : nat_lt (position_or_len test rows) (length rows) ≡ false = grind (arith, nat_tests) in
      let none : position test rows ≡ None = rw e refl in cc)
]

pub absent : (test : Bitmap → Bool) (change : Bitmap → Bitmap) (rows : List Bitmap) → position test rows ≡ None → Nowhere test change rows
absent test change rows is = elim (cases_lt (position_or_len test rows) (length rows)) [
  | inl below ↦ absurd (let e : nat_lt (position_or_len test rows) (length rows) ≡ true = grind (arith, nat_tests) in
      let there : position test rows ≡ Some (position_or_len test rows) = rw e refl in cc)
  | inr past ↦ nowhere test change rows (omega arith)
]

pub find_at : (test : Bitmap → Bool) (rows : List Bitmap) (place : ℕ) (d : Bitmap) → position test rows ≡ Some place → first_row test rows ≡ Some (get_or rows place d)
find_at test rows place d is = (placed test (λ row. row) rows place d is).found

pub find_none : (test : Bitmap → Bool) (rows : List Bitmap) → position test rows ≡ None → first_row test rows ≡ None
find_none test rows is = (absent test (λ row. row) rows is).found

pub refusal_at : (d : Bitmap) (test : Bitmap → Bool) (rows : List Bitmap) (place : ℕ) (job : Option ℕ) → position test rows ≡ Some place
    → (get_or rows place d).busy ≡ job → use_refusal (first_row test rows) ≡ busy_refusal job
refusal_at d test rows place job is busy = ap use_refusal (find_at test rows place d is) ∙ ap busy_refusal busy

-- a row of a part of the rows is written
pub set_back : (rows : List Bitmap) (i : ℕ) (v : Bitmap) → i < length rows → take i rows ++ set (drop i rows) 0 v ≡ set rows i v
set_back rows i v within =
    let none : i - i ≡ 0 = omega arith in
    let written : set (take i rows ++ drop i rows) i v ≡ take i rows ++ set (drop i rows) (i - i) v
    = set-append_right (take i rows) (drop i rows) i i v (length-take-le i rows (omega arith)) (omega arith) in
    sym (rw (take-append-drop i rows, none) at written)

pub set_front : (rows : List Bitmap) (i m : ℕ) (v : Bitmap) → i < m → m < length rows → set (take m rows) i v ++ drop m rows ≡ set rows i v
set_front rows i m v below within =
    let written : set (take m rows ++ drop m rows) i v ≡ set (take m rows) i v ++ drop m rows
    = set-append_left (take m rows) (drop m rows) i v (omega (arith, length-take-le m rows (omega arith))) in
    sym (rw (take-append-drop m rows) at written)

-- a row merged with itself stays
pub joined_self : (rows : List Bitmap) (i : ℕ) (d : Bitmap) → rows ≡ set rows i (merged_row (get_or rows i d) (get_or rows i d))
joined_self rows i d =
    let same : merged_row (get_or rows i d) (get_or rows i d) ≡ get_or rows i d
    = ap (λ s. record (get_or rows i d) { dirty = s }) (merged_self (get_or rows i d).granularity (get_or rows i d).dirty) in
    rw same (sym (set-get_or rows i d))

pub join_back : (rows front back : List Bitmap) (from to : ℕ) (d v x y : Bitmap) → from < to → to < length rows → front ≡ take to rows → back ≡ drop to rows
    → v ≡ merged_row (get_or front from x) (get_or back 0 y) → front ++ set back 0 v ≡ set rows to (merged_row (get_or rows from d) (get_or rows to d))
join_back rows front back from to d v x y below within front-is back-is is =
    let source : get_or front from x ≡ get_or rows from d
    = ap (λ r. get_or r from x) front-is ∙ get_or-take to rows from x below ∙ get_or_default rows from x d (omega arith) in
    let none : to + 0 ≡ to = omega arith in
    let target : get_or back 0 y ≡ get_or rows to d
    = ap (λ r. get_or r 0 y) back-is ∙ get_or-drop to rows 0 y ∙ ap (λ i. get_or rows i y) none ∙ get_or_default rows to y d within in
    rw (is, source, target, front-is, back-is) (set_back rows to (merged_row (get_or rows from d) (get_or rows to d)) within)

pub join_front : (rows front back : List Bitmap) (from to : ℕ) (d v x y : Bitmap) → to < from → from < length rows → front ≡ take from rows → back ≡ drop from rows
    → v ≡ merged_row (get_or back 0 x) (get_or front to y) → set front to v ++ back ≡ set rows to (merged_row (get_or rows from d) (get_or rows to d))
join_front rows front back from to d v x y below within front-is back-is is =
    let none : from + 0 ≡ from = omega arith in
    let source : get_or back 0 x ≡ get_or rows from d
    = ap (λ r. get_or r 0 x) back-is ∙ get_or-drop from rows 0 x ∙ ap (λ i. get_or rows i x) none ∙ get_or_default rows from x d within in
    let target : get_or front to y ≡ get_or rows to d
    = ap (λ r. get_or r to y) front-is ∙ get_or-take from rows to y below ∙ get_or_default rows to y d (omega arith) in
    rw (is, source, target, front-is, back-is) (set_front rows to from (merged_row (get_or rows from d) (get_or rows to d)) below within)

-- a source is merged into the row at its place
pub merged_at : (rows new : List Bitmap) (node : ℕ) (name : List ℕ) (test : Bitmap → Bool) (from to : ℕ) → position test rows ≡ Some from → position (is_named node name) rows ≡ Some to
    → ((d : Bitmap) → new ≡ set rows to (merged_row (get_or rows from d) (get_or rows to d))) → new ≡ with_source rows node name (first_row test rows)
merged_at [] new node name test from to from-is to-is is = absurd (let none : position test [] ≡ None = refl in cc)
merged_at (row ∷ rows) new node name test from to from-is to-is is =
    is row ∙ sym (placed (is_named node name) (merged_row (get_or (row ∷ rows) from row)) (row ∷ rows) to row to-is).changed
    ∙ sym (ap (with_source (row ∷ rows) node name) (find_at test (row ∷ rows) from row from-is))

pub source_absent : (rows : List Bitmap) (node : ℕ) (name : List ℕ) (test : Bitmap → Bool) → position test rows ≡ None → rows ≡ with_source rows node name (first_row test rows)
source_absent rows node name test is = sym (ap (with_source rows node name) (find_none test rows is))

pub target_absent : (rows : List Bitmap) (node : ℕ) (name : List ℕ) (source : Option Bitmap) → position (is_named node name) rows ≡ None → rows ≡ with_source rows node name source
target_absent rows node name None is = refl
target_absent rows node name (Some source) is = sym (absent (is_named node name) (merged_row source) rows is).changed

-- one more row is changed in place
pub noted : (change : Bitmap → Bitmap) (rows now : List Bitmap) (i : ℕ) (r v : Bitmap) → i < length rows → now ≡ map change (take i rows) ++ drop i rows
    → v ≡ change (get_or now i r) → set now i v ≡ map change (take (i + 1) rows) ++ drop (i + 1) rows
noted change rows now i r v within now-is is =
    let count : length now ≡ length rows
    = ap length now-is ∙ simp (length-append, length-map, length-drop) (omega (arith, length-take-le i rows (omega arith))) in
    ap (λ w. set now i w) is ∙ map_over_more change rows now i (get_or now i r) within now-is (get_or_default now i r (get_or now i r) (omega arith))
