-- How many works there are behind a job's steps and behind its end.
use Rattle.std.proofs.Common.{◌≡◌, ℕ, suc, Bool, true, false, cond, List, [], ◌∷◌, length, refl, ◌∙◌, ap, Option, Some, None}
use Rattle.std.specs.Prelude.{◌==◌, IsSome}
use Rattle.block_jobs.specs.Work.{JobWork}
use Rattle.job_works.specs.Works.{ChangesWork, with_changed, with_work, without_work, work_of}

pub with_count : (job : ℕ) (change : JobWork → JobWork) (works : List JobWork) → length (with_changed job change works) ≡ length works
with_count job change [] = refl
with_count job change (work ∷ works) = by_test (work.job == job) (with_count job change works)
  where
    by_test : (b : Bool) → length (with_changed job change works) ≡ length works
        → length (cond b (change work ∷ works) (work ∷ with_changed job change works)) ≡ suc (length works)
    by_test true rest = refl
    by_test false rest = ap suc rest

pub kept_count : (job : ℕ) (Does : JobWork → JobWork → Type 0) (old new : List JobWork) → ChangesWork job Does old new → length new ≡ length old
kept_count job Does old new is = ap length is.kept ∙ with_count is.now.job (λ work. is.now) old

pub without_count : (job : ℕ) (works : List JobWork) → IsSome (work_of works job) → length works ≡ suc (length (without_work job works))
without_count job [] some = absurd (let no : ⊥ = cc some in no)
without_count job (work ∷ works) some = by_test (work.job == job) refl some (without_count job works)
  where
    by_test : (b : Bool) → (work.job == job) ≡ b → IsSome (cond b (Some work) (work_of works job)) → (IsSome (work_of works job) → length works ≡ suc (length (without_work job works)))
        → suc (length works) ≡ suc (length (cond b works (work ∷ without_work job works)))
    by_test true is some rest = refl
    by_test false is some rest = ap suc (rest some)
