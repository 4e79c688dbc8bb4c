-- The first work of a job, by its place.
use Rattle.std.proofs.Common.{◌≡◌, ℕ, suc, ◌+◌, ◌<◌, inl, inr, Bool, true, false, List, [], ◌∷◌, length, get_or, set, refl, ap, arith, Some, None, position, nat_lt}
use Rattle.std.specs.List.{position_or_len, remove}
use Rattle.std.specs.Prelude.{◌==◌}
use Rattle.std.proofs.lemmas.Bool.{cases_lt}
use Rattle.std.proofs.lemmas.Bool.Decides.{nat_tests}
use Rattle.block_jobs.specs.Work.{JobWork}
use Rattle.job_works.specs.Works.{work_of, with_changed, without_work}

abbrev pub is_job : ℕ → JobWork → Bool
is_job job work = work.job == job

-- what the definitions say of a job's work, at its place
pub record IsFirstAt (job : ℕ) (change : JobWork → JobWork) (works : List JobWork) (place : ℕ) (d : JobWork) : Type 0 where
  pub within : place < length works
  pub found : work_of works job ≡ Some (get_or works place d)
  pub changed : with_changed job change works ≡ set works place (change (get_or works place d))
  pub gone : without_work job works ≡ remove works place

-- no work is the job's
pub record Nowhere (job : ℕ) (change : JobWork → JobWork) (works : List JobWork) : Type 0 where
  pub found : work_of works job ≡ None
  pub changed : with_changed job change works ≡ works
  pub gone : without_work job works ≡ works

at : (job : ℕ) (change : JobWork → JobWork) (works : List JobWork) (d : JobWork) → position_or_len (is_job job) works < length works
    → IsFirstAt job change works (position_or_len (is_job job) works) d
at job change [] d h = absurd (omega arith)
at job change (x ∷ xs) d h = go (x.job == job) refl (at job change xs d)
  where
    go : (b : Bool) → (x.job == job) ≡ b → (position_or_len (is_job job) xs < length xs → IsFirstAt job change xs (position_or_len (is_job job) xs) d)
        → IsFirstAt job change (x ∷ xs) (position_or_len (is_job job) (x ∷ xs)) d
    go true e more =
        let place : position_or_len (is_job job) (x ∷ xs) ≡ 0 = rw e refl in
        rw place (record { within = omega arith; found = rw e refl; changed = rw e refl; gone = rw e refl })
    go false e more =
        let place : position_or_len (is_job job) (x ∷ xs) ≡ suc (position_or_len (is_job job) xs) = rw e (omega arith) in
        let rest : IsFirstAt job change xs (position_or_len (is_job job) xs) d = more (omega arith) in
        rw place (record {
          within = omega arith;
          found = rw e rest.found;
          changed = rw e (ap (λ r. x ∷ r) rest.changed);
          gone = rw e (ap (λ r. x ∷ r) rest.gone);
        })

nowhere : (job : ℕ) (change : JobWork → JobWork) (works : List JobWork) → length works < position_or_len (is_job job) works + 1 → Nowhere job change works
nowhere job change [] h = record { found = refl; changed = refl; gone = refl }
nowhere job change (x ∷ xs) h = go (x.job == job) refl (nowhere job change xs)
  where
    go : (b : Bool) → (x.job == job) ≡ b → (length xs < position_or_len (is_job job) xs + 1 → Nowhere job change xs) → Nowhere job change (x ∷ xs)
    go true e more =
        let place : position_or_len (is_job job) (x ∷ xs) ≡ 0 = rw e refl in
        absurd (omega arith)
    go false e more =
        let place : position_or_len (is_job job) (x ∷ xs) ≡ suc (position_or_len (is_job job) xs) = rw e (omega arith) in
        let rest : Nowhere job change xs = more (omega arith) in
        record { found = rw e rest.found; changed = rw e (ap (λ r. x ∷ r) rest.changed); gone = rw e (ap (λ r. x ∷ r) rest.gone) }

pub placed : (job : ℕ) (change : JobWork → JobWork) (works : List JobWork) (place : ℕ) (d : JobWork) → position (is_job job) works ≡ Some place → IsFirstAt job change works place d
placed job change works place d is = elim (cases_lt (position_or_len (is_job job) works) (length works)) [
  | inl below ↦
      let e : nat_lt (position_or_len (is_job job) works) (length works) ≡ true = grind (arith, nat_tests) in
      let there : position (is_job job) works ≡ Some (position_or_len (is_job job) works) = rw e refl in
      let same : place ≡ position_or_len (is_job job) works = cc in
      rw same (at job change works d below)
  | inr past ↦ absurd (let e : nat_lt (position_or_len (is_job job) works) (length works) ≡ false = grind (arith, nat_tests) in
      let none : position (is_job job) works ≡ None = rw e refl in cc)
]

pub absent : (job : ℕ) (change : JobWork → JobWork) (works : List JobWork) → position (is_job job) works ≡ None → Nowhere job change works
absent job change works is = elim (cases_lt (position_or_len (is_job job) works) (length works)) [
  | inl below ↦ absurd (let e : nat_lt (position_or_len (is_job job) works) (length works) ≡ true = grind (arith, nat_tests) in
      let there : position (is_job job) works ≡ Some (position_or_len (is_job job) works) = rw e refl in cc)
  | inr past ↦ nowhere job change works (omega arith)
]
