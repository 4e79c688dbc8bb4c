-- The work of a job, by its place, becomes another one.
use Rattle.std.proofs.Common.{◌≡◌, ℕ, Bool, true, false, List, get_or, set, refl, sym, ap, ◌∙◌, subst, inl, inr, Option, Some, None, position}
use Rattle.std.specs.Prelude.{IsSome, Result, Ok, Err}
use Rattle.blk_base.specs.declared.fault.Fault.{Fault}
use Rattle.blk_nodes.specs.Nodes.{Nodes}
use Rattle.block_jobs.specs.Work.{JobWork, after_take}
use Rattle.job_copies.specs.Guarding.{after_guard, Guards}
use Rattle.job_copies.specs.Settling.{after_write, Settles}
use Rattle.job_copies.specs.Taking.{Takes}
use Rattle.node_copies.specs.Putting.{answer_of}
use Rattle.blk_copy.specs.declared.transfers.Transfer.{Transfer}
use Rattle.qmp_codec.specs.declared.event.JobKind.{JobKind}
use Rattle.qmp_codec.specs.declared.event.JobKind.TheVariants.{Stream, Commit, Mirror, Backup}
use Rattle.job_works.specs.Works.{ChangesWork, with_changed, work_of}
use Rattle.job_works.proofs.Changed.{job_found}
use Rattle.job_works.proofs.Places.{IsFirstAt, absent, is_job, placed}

-- the work at a place, as it is seen there
pub record IsSeenAt (job : ℕ) (old items : List JobWork) (place : ℕ) (seen : JobWork) : Type 0 where
  pub view : items ≡ old
  pub place_is : position (is_job job) old ≡ Some place
  pub seen_is : seen ≡ get_or items place seen

module _ (job : ℕ) (old items : List JobWork) (place : ℕ) (seen : JobWork) (is : IsSeenAt job old items place seen) where
  first : IsFirstAt job (λ work. work) old place seen
  first = placed job (λ work. work) old place seen is.place_is

  pub found_at : work_of old job ≡ Some seen
  found_at = first.found ∙ ap (λ (w : JobWork). Some w) (sym (is.seen_is ∙ ap (λ (works : List JobWork). get_or works place seen) is.view))

  pub changes_at : (Does : JobWork → JobWork → Type 0) (now : JobWork) → now.job ≡ seen.job → Does seen now → ChangesWork job Does old (set items place now)
  changes_at Does now same done = record {
    was = seen;
    there = found_at;
    now = now;
    same = same;
    kept =
        ap (λ (works : List JobWork). set works place now) is.view
        ∙ sym (placed job (λ work. now) old place seen is.place_is).changed
        ∙ ap (λ n. with_changed n (λ work. now) old) (sym (same ∙ job_found old job seen found_at));
    done = done;
  }

-- a job without a work has no place
pub nowhere : (job : ℕ) (old : List JobWork) → None ≡ position (is_job job) old → IsSome (work_of old job) → ⊥
nowhere job old is some = let none : work_of old job ≡ None = (absent job (λ work. work) old (sym is)).found in let has = subst IsSome none some in cc

-- ---- each step leaves the job's number

guarded_job : (result : Result (Unit {0}) Fault) (block : ℕ) (work : JobWork) → (after_guard result block work).job ≡ work.job
guarded_job (Ok done) block work = refl
guarded_job (Err fault) block work = refl

-- that of a guard
pub guard_keeps : (old new : Nodes) (was now : JobWork) (source target block : ℕ) → Guards old new was now source target block → now.job ≡ was.job
guard_keeps old new was now source target block did = elim did [
  | inl none ↦ ap (λ (w : JobWork). w.job) none.2
  | inr copied ↦ ap (λ (w : JobWork). w.job) copied.work ∙ guarded_job copied.result block was
]

written_job : (result : Result (Unit {0}) Fault) (kind : JobKind) (block : ℕ) (work : JobWork) → (after_write result kind block work).job ≡ work.job
written_job (Ok done) Mirror block work = refl
written_job (Ok done) Backup block work = refl
written_job (Ok done) Stream block work = refl
written_job (Ok done) Commit block work = refl
written_job (Err fault) kind block work = refl

-- that of a settle
pub settle_keeps : (kind : JobKind) (old new : Nodes) (was now : JobWork) (target : ℕ) (t : Transfer) (bytes : List ℕ) (answer : Bool)
    → Settles kind old new was now target t bytes answer → now.job ≡ was.job
settle_keeps kind old new was now target t bytes true did = ap (λ (w : JobWork). w.job) did.work ∙ written_job (answer_of did.wrote) kind t.cluster was
settle_keeps kind old new was now target t bytes false did = ap (λ (w : JobWork). w.job) did.2

taken_job : (kind : JobKind) (t : Transfer) (work : JobWork) → (after_take kind t work).job ≡ work.job
taken_job Mirror t work = refl
taken_job Backup t work = refl
taken_job Stream t work = refl
taken_job Commit t work = refl

-- that of a take
pub take_keeps : (kind : JobKind) (old new : Nodes) (was now : JobWork) (source position : ℕ) (buffer : List ℕ) (answer : Result (Option Transfer) Fault)
    → Takes kind old new was now source position buffer answer → now.job ≡ was.job
take_keeps kind old new was now source position buffer (Ok None) did = ap (λ (w : JobWork). w.job) did.2
take_keeps kind old new was now source position buffer (Ok (Some t)) did = ap (λ (w : JobWork). w.job) did.work ∙ taken_job kind t was
take_keeps kind old new was now source position buffer (Err fault) did = ap (λ (w : JobWork). w.job) did.work
