-- What is owed behind each step of a job's work.
use Rattle.std.proofs.Common.{◌≡◌, ℕ, ◌+◌, ◌*◌, ◌/◌, ◌<◌, ◌≤◌, ◌==◌, Bool, true, false, not, ◌&&◌, ◌||◌, nat_lt, List, [], ◌∷◌, ◌++◌, length, Option, None, cond, refl, sym, ◌∙◌, ap, subst, arith, eq-eqb, eqb-true, inl, inr}
use Rattle.std.specs.Prelude.{is_some}
use Rattle.std.specs.List.{list_any}
use Rattle.std.proofs.Math.Nat.{div-div-eq-div-mul, div-mul-le_self, mul-div-le, mul-le-mul_left, mul_comm}
use Rattle.std.proofs.lemmas.Bool.{cases_lt, false≢true}
use Rattle.std.proofs.lemmas.Bool.Decides.{nat_tests}
use Rattle.std.proofs.lemmas.List.{get_or_past}
use Rattle.blk_base.specs.Pieces.{Extent}
use Rattle.blk_base.specs.declared.fault.Fault.{Fault}
use Rattle.blk_bits.specs.Granules.{contains, in_span, those_below}
use Rattle.blk_bits.proofs.GranuleLemmas.{contains-those_below}
use Rattle.blk_bitmaps.specs.Rows.{granule_count, span_touches}
use Rattle.blk_copy.specs.Rows.{is_of, has_row, without_row}
use Rattle.blk_copy.specs.declared.transfers.Transfer.{Transfer}
use Rattle.qmp_codec.specs.declared.event.JobKind.{JobKind}
use Rattle.qmp_codec.specs.declared.event.JobKind.TheVariants.{Stream, Commit, Mirror, Backup}
use Rattle.block_jobs.specs.Ahead.{AreAll, OwesNoMore, is_owed}
use Rattle.block_jobs.specs.Work.{JobWork, IsJobWork, after_copy, after_settle, after_take, block_at, has_open, is_left, left_again, parts_a_block, without_block}
use Rattle.block_jobs.proofs.PartLemmas.{among, block_from, block_to, has_at, length-those_below, member_below}
use Rattle.block_jobs.proofs.WorkLemmas.{is_of_own}

-- the parts of a block

same_block : (x per p q block : ℕ) → q ≡ block → x ≤ p → p < x + per → in_span x (x + per) p ≡ (q == block)
same_block x per p q block e from to = grind (arith, nat_tests)

block_above : (x per p q block : ℕ) → q < block → p < x → in_span x (x + per) p ≡ (q == block)
block_above x per p q block less before = grind (arith, nat_tests)

block_below : (x per p q block : ℕ) → block < q → x + per ≤ p → in_span x (x + per) p ≡ (q == block)
block_below x per p q block less past = grind (arith, nat_tests)

module _ (work : JobWork) (is : IsJobWork work) where
  abbrev Per : ℕ
  Per = parts_a_block work

  up : (a b : ℕ) → a < b → a * Per + Per ≤ b * Per
  up a b less =
      let e : Per * (a + 1) ≤ Per * b = mul-le-mul_left Per (omega (arith, less)) in
      let f = mul_comm Per a in
      let g = mul_comm Per b in
      omega (arith, e, f, g)

  in_block : (p block : ℕ) → in_span (block * Per) (block * Per + Per) p ≡ (p / Per == block)
  in_block p block = elim (cases_lt (p / Per) block) [
    | inl less ↦ block_above (block * Per) Per p (p / Per) block less (omega (arith, up (p / Per) block less, block_to work is p))
    | inr from ↦ elim (cases_lt block (p / Per)) [
      | inl more ↦ block_below (block * Per) Per p (p / Per) block more (omega (arith, up block (p / Per) more, block_from work is p))
      | inr most ↦
          let e : p / Per ≡ block = omega (arith, from, most) in
          let f : (p / Per) * Per ≡ block * Per = ap (λ (n : ℕ). n * Per) e in
          same_block (block * Per) Per p (p / Per) block e (omega (arith, f, block_from work is p)) (omega (arith, f, block_to work is p))
    ]
  ]

  block_of_part : (place : ℕ) → place / work.part / Per ≡ block_at place
  block_of_part place = div-div-eq-div-mul place work.part Per ∙ ap (λ (n : ℕ). place / n) is.blocks

  pub left_off : (block place : ℕ) → is_left (without_block block work) place ≡ (is_left work place && not (block_at place == block))
  left_off block place = elim (cases_lt (place / work.part) (length work.left)) [
    | inl less ↦
        contains-those_below (length work.left) test (place / work.part) less
        ∙ ap (λ (b : Bool). is_left work place && not b) (in_block (place / work.part) block ∙ ap (λ (n : ℕ). n == block) (block_of_part place))
    | inr past ↦
        get_or_past (those_below (length work.left) test) (place / work.part) false (omega (arith, past, length-those_below (length work.left) test))
        ∙ sym (ap (λ (b : Bool). b && not (block_at place == block)) (get_or_past work.left (place / work.part) false past))
  ]
    where
      test : ℕ → Bool
      test k = contains work.left k && not (in_span (block * Per) (block * Per + Per) k)

-- copies in flight

row_more : (job c : ℕ) (rows : List Transfer) (t : Transfer) → has_row job c (rows ++ t ∷ []) ≡ (has_row job c rows || is_of job c t)
row_more job c [] t = or_false (is_of job c t)
  where
    or_false : (b : Bool) → (b || false) ≡ b
    or_false true = refl
    or_false false = refl
row_more job c (row ∷ rows) t = ap (λ (b : Bool). is_of job c row || b) (row_more job c rows t) ∙ assoc (is_of job c row) (has_row job c rows) (is_of job c t)
  where
    assoc : (a b d : Bool) → (a || (b || d)) ≡ ((a || b) || d)
    assoc true b d = refl
    assoc false b d = refl

row_gone : (job block : ℕ) (rows : List Transfer) → has_row job block (without_row job block rows) ≡ false
row_gone job block [] = refl
row_gone job block (row ∷ rows) = by_test (is_of job block row) refl (row_gone job block rows)
  where
    by_test : (b : Bool) → is_of job block row ≡ b → has_row job block (without_row job block rows) ≡ false
        → has_row job block (cond (not b) (row ∷ without_row job block rows) (without_row job block rows)) ≡ false
    by_test true is rest = rest
    by_test false is rest = rw is rest

apart_from : (job c block : ℕ) (row : Transfer) → (c == block) ≡ false → is_of job block row ≡ true → is_of job c row ≡ false
apart_from job c block row other is = by_test (is_of job c row) refl
  where
    second : (a b : Bool) → (a && b) ≡ true → b ≡ true
    second true b e = e
    second false b e = absurd (false≢true e)

    by_test : (b : Bool) → is_of job c row ≡ b → b ≡ false
    by_test false e = refl
    by_test true e =
        let at : row.cluster ≡ block = eqb-true row.cluster block (second (row.job == job) (row.cluster == block) is) in
        let also : row.cluster ≡ c = eqb-true row.cluster c (second (row.job == job) (row.cluster == c) e) in
        absurd (false≢true (sym other ∙ eq-eqb c block (sym also ∙ at)))

row_stays : (job c block : ℕ) (rows : List Transfer) → (c == block) ≡ false → has_row job c (without_row job block rows) ≡ has_row job c rows
row_stays job c block [] other = refl
row_stays job c block (row ∷ rows) other = by_test (is_of job block row) refl (row_stays job c block rows other)
  where
    by_test : (b : Bool) → is_of job block row ≡ b → has_row job c (without_row job block rows) ≡ has_row job c rows
        → has_row job c (cond (not b) (row ∷ without_row job block rows) (without_row job block rows)) ≡ has_row job c (row ∷ rows)
    by_test true is rest = rest ∙ sym (ap (λ (b : Bool). b || has_row job c rows) (apart_from job c block row other is))
    by_test false is rest = ap (λ (b : Bool). is_of job c row || b) rest

row_fewer : (job c block : ℕ) (rows : List Transfer) → has_row job c (without_row job block rows) ≡ (has_row job c rows && not (c == block))
row_fewer job c block rows = by_test (c == block) refl
  where
    and_false : (b : Bool) → false ≡ (b && false)
    and_false true = refl
    and_false false = refl

    and_true : (b : Bool) → b ≡ (b && true)
    and_true true = refl
    and_true false = refl

    by_test : (b : Bool) → (c == block) ≡ b → has_row job c (without_row job block rows) ≡ (has_row job c rows && not b)
    by_test true is =
        subst (λ (n : ℕ). has_row job n (without_row job block rows) ≡ false) (sym (eqb-true c block is)) (row_gone job block rows) ∙ and_false (has_row job c rows)
    by_test false is = row_stays job c block rows is ∙ and_true (has_row job c rows)

-- the steps

pub taken_is_owed : (work : JobWork) (t : Transfer) (place : ℕ) → IsJobWork work → t.job ≡ work.job
    → is_owed Mirror (after_take Mirror t work) place ≡ (is_owed Mirror work place || (block_at place == t.cluster))
taken_is_owed work t place is own =
    rw (left_off work is t.cluster place, row_more work.job (block_at place) work.rows t, is_of_own work.job (block_at place) t own, both_ways t.cluster (block_at place))
    (together (is_left work place) (has_open work (block_at place)) (block_at place == t.cluster))
  where
    both_ways : (a b : ℕ) → (a == b) ≡ (b == a)
    both_ways a b = by_test (a == b) refl (b == a) refl
      where
        by_test : (x : Bool) → (a == b) ≡ x → (y : Bool) → (b == a) ≡ y → x ≡ y
        by_test true is true also = refl
        by_test false is false also = refl
        by_test true is false also = absurd (false≢true (sym also ∙ eq-eqb b a (sym (eqb-true a b is))))
        by_test false is true also = absurd (false≢true (sym is ∙ eq-eqb a b (sym (eqb-true b a also))))

    together : (left open_ here : Bool) → ((left && not here) || (open_ || here)) ≡ ((left || open_) || here)
    together true true true = refl
    together true true false = refl
    together true false true = refl
    together true false false = refl
    together false true true = refl
    together false true false = refl
    together false false true = refl
    together false false false = refl

pub settled_is_left : (work : JobWork) (block place : ℕ)
    → is_owed Mirror (after_settle Mirror block work) place ≡ (is_left work place || (has_open work (block_at place) && not (block_at place == block)))
settled_is_left work block place = ap (λ (b : Bool). is_left work place || b) (row_fewer work.job (block_at place) block work.rows)

pub copied_is_paid : (kind : JobKind) (work : JobWork) (block place : ℕ) → IsJobWork work
    → is_owed kind (after_copy block work) place ≡ (is_owed kind work place && not (block_at place == block))
copied_is_paid Stream work block place is = left_off work is block place
copied_is_paid Commit work block place is = left_off work is block place
copied_is_paid Backup work block place is = left_off work is block place
copied_is_paid Mirror work block place is =
    rw (left_off work is block place, row_fewer work.job (block_at place) block work.rows)
    (together (is_left work place) (has_open work (block_at place)) (not (block_at place == block)))
  where
    together : (a b c : Bool) → ((a && c) || (b && c)) ≡ ((a || b) && c)
    together true true true = refl
    together true true false = refl
    together true false true = refl
    together true false false = refl
    together false true true = refl
    together false true false = refl
    together false false true = refl
    together false false false = refl

or_left : (a b c : Bool) → (a ≡ true → b ≡ true) → (a || c) ≡ true → (b || c) ≡ true
or_left true b c f e = rw (f refl) refl
or_left false true c f e = refl
or_left false false c f e = e

or_more : (a c : Bool) → a ≡ true → (a || c) ≡ true
or_more true c e = refl
or_more false c e = absurd (false≢true e)

-- a guest's write

module _ (work : JobWork) (span : Extent) (none : work.met ≡ None) where
  abbrev Marked : JobWork
  Marked = record work { left = those_below (length work.left) (λ part. contains work.left part || span_touches work.part span part) }

  abbrev By : Option Fault → JobWork
  By met = cond (is_some met) work Marked

  left_marked : (place : ℕ) → is_left (left_again span work) place ≡ contains Marked.left (place / work.part)
  left_marked place =
      subst (λ (met : Option Fault). contains (By met).left (place / (By met).part) ≡ contains Marked.left (place / work.part)) (sym none) refl

  open_marked : (block : ℕ) → has_open (left_again span work) block ≡ has_open work block
  open_marked block = subst (λ (met : Option Fault). has_row (By met).job block (By met).rows ≡ has_row work.job block work.rows) (sym none) refl

  left_grows : (place : ℕ) → is_left work place ≡ true → is_left (left_again span work) place ≡ true
  left_grows place left =
      left_marked place
      ∙ contains-those_below (length work.left) (λ part. contains work.left part || span_touches work.part span part) (place / work.part)
      (member_below work.left (place / work.part) left)
      ∙ or_more (contains work.left (place / work.part)) (span_touches work.part span (place / work.part)) left

  pub marks_grow : (kind : JobKind) → OwesNoMore (is_owed kind work) (is_owed kind (left_again span work))
  marks_grow Stream place left = left_grows place left
  marks_grow Commit place left = left_grows place left
  marks_grow Backup place left = left_grows place left
  marks_grow Mirror place left =
      rw (open_marked (block_at place)) (or_left (is_left work place) (is_left (left_again span work) place) (has_open work (block_at place)) (left_grows place) left)

  touched_there : (place part : ℕ) → 0 < part → span.start ≤ place → place < span.start + span.len → span_touches part span (place / part) ≡ true
  touched_there place part some from to =
      let below : part * (place / part) ≤ place = mul-div-le place part in
      let above : place < part * (place / part) + part = omega (arith, some) in
      let next : part * (place / part + 1) ≡ part * (place / part) + part = omega arith in
      all (nat_lt 0 span.len) (nat_lt (part * (place / part)) (span.start + span.len)) (nat_lt span.start (part * (place / part + 1)))
      (grind (arith, nat_tests)) (grind (arith, nat_tests)) (grind (arith, nat_tests))
    where
      all : (a b c : Bool) → a ≡ true → b ≡ true → c ≡ true → (a && (b && c)) ≡ true
      all a b c e f g = rw (e, f, g) refl

  left_there : IsJobWork work → (place : ℕ) → span.start ≤ place → place < span.start + span.len → place < work.size → is_left (left_again span work) place ≡ true
  left_there is place from to inside =
      let low : place / work.part * work.part ≤ place = div-mul-le_self place work.part in
      let on : place / work.part < granule_count work.size work.part = (among work.size work.part (place / work.part) is.some).1 (omega (arith, low, inside)) in
      let less : place / work.part < length work.left = subst (λ (n : ℕ). place / work.part < n) (sym is.left) on in
      left_marked place
      ∙ contains-those_below (length work.left) (λ part. contains work.left part || span_touches work.part span part) (place / work.part) less
      ∙ or_right (contains work.left (place / work.part)) (span_touches work.part span (place / work.part)) (touched_there place work.part is.some from to)
    where
      or_right : (a b : Bool) → b ≡ true → (a || b) ≡ true
      or_right true b e = refl
      or_right false b e = e

  pub marks_owe : (kind : JobKind) → IsJobWork work → span.start + span.len ≤ work.size → AreAll true (is_owed kind (left_again span work)) span.start span.len
  marks_owe Stream is within place from to = left_there is place from to (omega (arith, to, within))
  marks_owe Commit is within place from to = left_there is place from to (omega (arith, to, within))
  marks_owe Backup is within place from to = left_there is place from to (omega (arith, to, within))
  marks_owe Mirror is within place from to =
      or_more (is_left (left_again span work) place) (has_open (left_again span work) (block_at place)) (left_there is place from to (omega (arith, to, within)))

-- nothing left, and no copy in flight

module _ (work : JobWork) (none : list_any (λ part. part) work.left ≡ false) where
  none_left : (place : ℕ) → is_left work place ≡ false
  none_left place = by_test (is_left work place) refl
    where
      by_test : (b : Bool) → is_left work place ≡ b → b ≡ false
      by_test false e = refl
      by_test true e = absurd (false≢true (sym none ∙ has_at work.left (place / work.part) e))

  pub nothing_is_owed : (kind : JobKind) → work.rows ≡ [] → (place : ℕ) → is_owed kind work place ≡ false
  nothing_is_owed Stream rows place = none_left place
  nothing_is_owed Commit rows place = none_left place
  nothing_is_owed Backup rows place = none_left place
  nothing_is_owed Mirror rows place = rw (none_left place) (ap (λ (xs : List Transfer). has_row work.job (block_at place) xs) rows)
