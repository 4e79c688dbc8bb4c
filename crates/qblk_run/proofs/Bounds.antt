-- Of all works of a world less than 2^64 parts are left.
use Rattle.std.proofs.Common.{◌≡◌, ◌≢◌, ℕ, zero, suc, ◌+◌, ◌-◌, ◌*◌, ◌/◌, ◌^◌, ◌<◌, ◌≤◌, Bool, true, false, eqb, List, [], ◌∷◌, length, refl, sym, ◌∙◌, ap, arith}
use Rattle.std.specs.Prelude.{AllPairs, Contains, slice_index_or, ◌||◌}
use Rattle.std.specs.List.{AllByRecursion, IsDistinct, list_any}
use Rattle.std.proofs.lemmas.Bool.{eqb-true, ne_eqb}
use Rattle.std.proofs.lemmas.Map.Steps.{length-le_from_distinct_below}
use Rattle.std.proofs.Math.Nat.{div-lt_iff_lt-mul}
use Rattle.blk_bitmaps.specs.Rows.{granule_count}
use Rattle.blk_bits.specs.Granules.{member_count}
use Rattle.blk_bits.proofs.CountLemmas.{count-le}
use Rattle.block_jobs.specs.Work.{IsJobWork, JobWork}
use Rattle.job_progress.specs.Belonging.{AreWorksOf, IsOfJob}
use Rattle.job_tables.specs.Jobs.{JobsStand}
use Rattle.qmp_rules.specs.Table.{RunTable}
use Rattle.qmp_rules.specs.declared.rows.JobRecord.{JobRecord}
use Rattle.qblk_run.specs.Slots.{parts_left}

-- ---- what holds of each of a list, one by one

head-there : {A : Type 0} (x : A) (xs : List A) → Contains (x ∷ xs) x
head-there x xs = (zero, omega arith, refl)

later-there : {A : Type 0} (y x : A) (xs : List A) → Contains xs x → Contains (y ∷ xs) x
later-there y x xs (k, below, at) = (suc k, omega arith, at)

each-of : {A : Type 0} (P : A → Type 0) (xs : List A) → ((x : A) → Contains xs x → P x) → AllByRecursion P xs
each-of P [] each = tt
each-of P (x ∷ xs) each = (each x (head-there x xs), each-of P xs (λ y there. each y (later-there x y xs there)))

-- ---- one work

few-granules : (size part : ℕ) → 0 < part → granule_count size part ≤ size
few-granules size zero some = absurd (omega arith)
few-granules size (suc p) some =
    let less : (size + suc p - 1) / suc p < size + 1 = (div-lt_iff_lt-mul {k = suc p} {x = size + suc p - 1} {y = size + 1} some).1 (omega arith) in
    omega arith

work-few : (work : JobWork) → IsJobWork work → member_count work.left ≤ 2 ^ 47
work-few work is =
    let members = count-le work.left in
    let granules = few-granules work.size work.part is.some in
    let size = is.size in
    let whole = is.left in
    omega arith

works-few : (works : List JobWork) → AllByRecursion IsJobWork works → parts_left works ≤ length works * 2 ^ 47
works-few [] all = omega arith
works-few (work ∷ works) all =
    let one = work-few work all.0 in
    let rest = works-few works all.1 in
    omega arith

-- ---- how many works there are

-- another job's
abbrev IsOther : JobWork → JobWork → Type 0
IsOther a b = a.job ≢ b.job

abbrev AreApart : List JobWork → Type 0
AreApart [] = Unit {0}
AreApart (work ∷ works) = AllByRecursion (IsOther work) works × AreApart works

others-at : (work : JobWork) (works : List JobWork) → ((k : ℕ) (d : JobWork) → k < length works → IsOther work (slice_index_or works k d)) → AllByRecursion (IsOther work) works
others-at work [] each = tt
others-at work (other ∷ works) each = (each 0 work (omega arith), others-at work works (λ k d below. each (suc k) d (omega arith)))

apart-at : (works : List JobWork) → AllPairs (λ a b. a.job ≢ b.job) works → AreApart works
apart-at [] pairs = tt
apart-at (work ∷ works) pairs = (
  others-at work works (λ k d below. pairs 0 (suc k) d (omega arith) (omega arith)),
  apart-at works (λ i j d less below. pairs (suc i) (suc j) d (omega arith) (omega arith)),
)

module _ (t : RunTable) (stand : JobsStand t) where
  abbrev slots-of : (works : List JobWork) → AllByRecursion (IsOfJob t) works → List ℕ
  slots-of [] of = []
  slots-of (work ∷ works) of = of.0.row.slot ∷ slots-of works of.1

  slots-many : (works : List JobWork) (of : AllByRecursion (IsOfJob t) works) → length (slots-of works of) ≡ length works
  slots-many [] of = refl
  slots-many (work ∷ works) of = ap suc (slots-many works of.1)

  slots-below : (works : List JobWork) (of : AllByRecursion (IsOfJob t) works) (q : ℕ) → list_any (eqb q) (slots-of works of) ≡ true → q < 16
  slots-below [] of q is = let bad : ⊥ = cc is in absurd bad
  slots-below (work ∷ works) of q is = by_test (eqb q of.0.row.slot) refl is (slots-below works of.1 q)
    where
      by_test : (b : Bool) → eqb q of.0.row.slot ≡ b → (b || list_any (eqb q) (slots-of works of.1)) ≡ true
          → (list_any (eqb q) (slots-of works of.1) ≡ true → q < 16) → q < 16
      by_test true e is rest =
          let same = eqb-true q of.0.row.slot e in
          let within = (stand.each of.0.row of.0.there).slot in
          omega arith
      by_test false e is rest = rest is

  slot-other : (work : JobWork) (of-work : IsOfJob t work) (works : List JobWork) (of : AllByRecursion (IsOfJob t) works) → AllByRecursion (IsOther work) works
      → AllByRecursion (λ y. eqb of-work.row.slot y ≡ false) (slots-of works of)
  slot-other work of-work [] of apart = tt
  slot-other work of-work (other ∷ works) of apart = (
    ne_eqb of-work.row.slot of.0.row.slot (λ same.
        let rows : of-work.row ≡ of.0.row = stand.slots of-work.row of.0.row of-work.there of.0.there same in
        apart.0 (sym of-work.number ∙ ap (λ (row : JobRecord). row.number) rows ∙ of.0.number)),
    slot-other work of-work works of.1 apart.1,
  )

  slots-differ : (works : List JobWork) (of : AllByRecursion (IsOfJob t) works) → AreApart works → IsDistinct eqb (slots-of works of)
  unfolding IsDistinct
  slots-differ [] of apart = tt
  slots-differ (work ∷ works) of apart = (slot-other work of.0 works of.1 apart.0, slots-differ works of.1 apart.1)

  pub parts-bounded : (works : List JobWork) → AreWorksOf t works → parts_left works < 2 ^ 64
  parts-bounded works belong =
      let of = each-of (IsOfJob t) works belong.owned in
      let many = slots-many works of in
      let few = length-le_from_distinct_below (slots-of works of) 16 (slots-differ works of (apart-at works belong.once)) (slots-below works of) in
      let parts = works-few works (each-of IsJobWork works belong.sound) in
      omega arith
