-- The work of one job is changed, and those of the others stay.
use Rattle.std.proofs.Common.{◌≡◌, ◌≢◌, ℕ, Bool, true, false, cond, List, [], ◌∷◌, ◌++◌, refl, sym, ap, ◌∙◌, subst, Some, None}
use Rattle.std.specs.Prelude.{◌==◌}
use Rattle.std.proofs.lemmas.Bool.{eqb-true, eq-eqb, ne_eqb}
use Rattle.block_jobs.specs.Work.{JobWork}
use Rattle.job_works.specs.Works.{work_of, with_changed, without_work}

module _ (job : ℕ) (f : JobWork → JobWork) (keeps : (w : JobWork) → w.job ≡ job → (f w).job ≡ job) where
  pub changed_at : (works : List JobWork) (was : JobWork) → work_of works job ≡ Some was → work_of (with_changed job f works) job ≡ Some (f was)
  changed_at [] was h = absurd cc
  changed_at (w ∷ works) was h = by_test (w.job == job) refl (changed_at works was) h
    where
      by_test : (b : Bool) → (w.job == job) ≡ b → (work_of works job ≡ Some was → work_of (with_changed job f works) job ≡ Some (f was))
          → cond b (Some w) (work_of works job) ≡ Some was
          → work_of (cond b (f w ∷ works) (w ∷ with_changed job f works)) job ≡ Some (f was)
      by_test true e more k = rw (eq-eqb (f w).job job (keeps w (eqb-true w.job job e))) (ap (λ x. Some (f x)) cc)
      by_test false e more k = rw e (more k)

  pub changed_else : (n : ℕ) → n ≢ job → (works : List JobWork) → work_of (with_changed job f works) n ≡ work_of works n
  changed_else n differ [] = refl
  changed_else n differ (w ∷ works) = by_test (w.job == job) refl (changed_else n differ works)
    where
      by_test : (b : Bool) → (w.job == job) ≡ b → work_of (with_changed job f works) n ≡ work_of works n
          → work_of (cond b (f w ∷ works) (w ∷ with_changed job f works)) n ≡ cond (w.job == n) (Some w) (work_of works n)
      by_test true e more =
          let own : w.job ≡ job = eqb-true w.job job e in
          let new : ((f w).job == n) ≡ false = ne_eqb (f w).job n (λ same. differ (sym (sym (keeps w own) ∙ same))) in
          let old : (w.job == n) ≡ false = ne_eqb w.job n (λ same. differ (sym (sym own ∙ same))) in
          rw (new, old) refl
      by_test false e more = ap (λ rest. cond (w.job == n) (Some w) rest) more

-- the work that is found is the job's
pub job_found : (works : List JobWork) (job : ℕ) (w : JobWork) → work_of works job ≡ Some w → w.job ≡ job
job_found [] job w h = absurd cc
job_found (x ∷ works) job w h = by_test (x.job == job) refl (job_found works job w) h
  where
    by_test : (b : Bool) → (x.job == job) ≡ b → (work_of works job ≡ Some w → w.job ≡ job) → cond b (Some x) (work_of works job) ≡ Some w → w.job ≡ job
    by_test true e more k = let same : x ≡ w = cc in subst (λ (y : JobWork). y.job ≡ job) same (eqb-true x.job job e)
    by_test false e more k = more k

-- one more stands behind the others
pub pushed_else : (works : List JobWork) (new : JobWork) (n : ℕ) → n ≢ new.job → work_of (works ++ new ∷ []) n ≡ work_of works n
pushed_else [] new n differ = rw (ne_eqb new.job n (λ same. differ (sym same))) refl
pushed_else (w ∷ works) new n differ = ap (λ rest. cond (w.job == n) (Some w) rest) (pushed_else works new n differ)

pub pushed_at : (works : List JobWork) (new : JobWork) → work_of works new.job ≡ None → work_of (works ++ new ∷ []) new.job ≡ Some new
pushed_at [] new none = rw (eq-eqb new.job new.job refl) refl
pushed_at (w ∷ works) new none = by_test (w.job == new.job) (pushed_at works new) none
  where
    by_test : (b : Bool) → (work_of works new.job ≡ None → work_of (works ++ new ∷ []) new.job ≡ Some new) → cond b (Some w) (work_of works new.job) ≡ None
        → cond b (Some w) (work_of (works ++ new ∷ []) new.job) ≡ Some new
    by_test true more h = absurd cc
    by_test false more h = more h

pub gone_else : (job n : ℕ) → n ≢ job → (works : List JobWork) → work_of (without_work job works) n ≡ work_of works n
gone_else job n differ [] = refl
gone_else job n differ (w ∷ works) = by_test (w.job == job) refl (gone_else job n differ works)
  where
    by_test : (b : Bool) → (w.job == job) ≡ b → work_of (without_work job works) n ≡ work_of works n
        → work_of (cond b works (w ∷ without_work job works)) n ≡ cond (w.job == n) (Some w) (work_of works n)
    by_test true e more = rw (ne_eqb w.job n (λ same. differ (sym (sym (eqb-true w.job job e) ∙ same)))) refl
    by_test false e more = ap (λ rest. cond (w.job == n) (Some w) rest) more
