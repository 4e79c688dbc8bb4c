-- What is kept of the copying of a run's jobs: a work for each.
use Rattle.std.specs.Prelude.{◌≡◌, ◌==◌, ℕ, List, [], ◌∷◌, find, if◌then◌else◌, Option, Some}
use Rattle.blk_base.specs.Pieces.{Extent}
use Rattle.block_jobs.specs.Work.{JobWork, left_again}

-- that of the job with a number
abbrev pub work_of : List JobWork → ℕ → Option JobWork
work_of works job = find (λ work. work.job == job) works

-- it becomes another one
abbrev pub with_changed : ℕ → (JobWork → JobWork) → List JobWork → List JobWork
with_changed job change [] = []
with_changed job change (work ∷ works) =
    if work.job == job then change work ∷ works else work ∷ with_changed job change works

abbrev pub with_work : JobWork → List JobWork → List JobWork
with_work now works = with_changed now.job (λ work. now) works

-- a job has to copy a span again
abbrev pub marked_again : ℕ → Extent → List JobWork → List JobWork
marked_again job span works = with_changed job (left_again span) works

-- the job is over
abbrev pub without_work : ℕ → List JobWork → List JobWork
without_work job [] = []
without_work job (work ∷ works) =
    if work.job == job then works else work ∷ without_work job works

-- The work of one job became another one, in a step of which that holds.
pub record ChangesWork (job : ℕ) (Does : JobWork → JobWork → Type 0)
    (old new : List JobWork) : Type 0 where
  pub was : JobWork
  pub there : work_of old job ≡ Some was
  pub now : JobWork
  pub same : now.job ≡ was.job
  pub kept : new ≡ with_work now old
  pub done : Does was now
