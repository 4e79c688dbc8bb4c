-- A job goes on where its disks and what its start found are as before.
use Rattle.std.proofs.Common.{◌≡◌, ℕ, Bool, List, length, refl, sym, ap, ◌∙◌, subst, Option, Some}
use Rattle.std.specs.Prelude.{◌||◌}
use Rattle.blk_copy.specs.declared.transfers.Transfer.{Transfer}
use Rattle.blk_history.specs.declared.event.Event.{Event}
use Rattle.block_jobs.specs.Ahead.{IsAhead, is_owed}
use Rattle.block_jobs.specs.Work.{JobWork}
use Rattle.job_copies.specs.Settling.{HoldsGoal}
use Rattle.qmp_codec.specs.declared.event.JobKind.{JobKind}
use Rattle.qmp_codec.specs.declared.event.JobKind.TheVariants.{Stream, Commit, Mirror, Backup}
use Rattle.qmp_rules.specs.declared.rows.JobRecord.{JobRecord}
use Rattle.qmp_rules.specs.declared.rows.UsedBitmap.{UsedBitmap}
use Rattle.qmp_rules.specs.Ends.{settles_target}
use Rattle.qmp_rules.specs.Queries.{bytes_of_node}
use Rattle.flat_machine.specs.Begun.{begun_of, copy_bytes}
use Rattle.flat_machine.specs.State.{State, Begun, bytes_at_node}
use Rattle.job_progress.specs.Piecing.{follows}
use Rattle.job_progress.specs.Going.{goal_by, goal_of, was_dirty, is_due, FoundDisks, taken_bytes, IsCopyOpen, IsJobAhead}

-- the row of the same job
pub record IsAlike (row later : JobRecord) : Type 0 where
  pub number : later.number ≡ row.number
  pub kind : later.kind ≡ row.kind
  pub source : later.source ≡ row.source
  pub target : later.target ≡ row.target
  pub bitmap : later.bitmap ≡ row.bitmap

pub alike_itself : (row : JobRecord) → IsAlike row row
alike_itself row = record { number = refl; kind = refl; source = refl; target = refl; bitmap = refl }

-- what a job rests on is as before
pub record IsBeside (s now : State) (reads then : ℕ → List ℕ) (row : JobRecord) : Type 0 where
  pub begun : begun_of now.begun row.number ≡ begun_of s.begun row.number
  pub size : bytes_of_node now.table row.source ≡ bytes_of_node s.table row.source
  pub source : bytes_at_node now row.source ≡ bytes_at_node s row.source
  pub target : (target : ℕ) → row.target ≡ Some target → then target ≡ reads target

-- places that are due, by the bitmap alone
abbrev due_by : Begun → Option UsedBitmap → ℕ → Bool
due_by b used place = settles_target used || was_dirty b.granules place

module _ (first : State) (h : List Event) (s now : State) (reads then : ℕ → List ℕ) (row later : JobRecord) (work : JobWork)
    (a : IsAlike row later) (beside : IsBeside s now reads then row) where
  begun_same_at : begun_of now.begun later.number ≡ begun_of s.begun row.number
  begun_same_at = ap (begun_of now.begun) a.number ∙ beside.begun

  goal_same : goal_of now later ≡ goal_of s row
  goal_same = ap (goal_by now later) a.kind ∙ by_kind row.kind
    where
      by_source : bytes_at_node now later.source ≡ bytes_at_node s row.source
      by_source = ap (bytes_at_node now) a.source ∙ beside.source

      by_kind : (k : JobKind) → goal_by now later k ≡ goal_by s row k
      by_kind Backup = ap copy_bytes begun_same_at
      by_kind Mirror = by_source
      by_kind Commit = by_source
      by_kind Stream = by_source

  source_same : bytes_at_node now later.source ≡ bytes_at_node s row.source
  source_same = ap (bytes_at_node now) a.source ∙ beside.source

  module _ (b : Begun) where
    ahead_same : (target : ℕ) → row.target ≡ Some target → IsAhead (is_due row b) (is_owed row.kind work) (bytes_at_node s row.source) (goal_of s row) (reads target)
        → IsAhead (is_due later b) (is_owed later.kind work) (bytes_at_node now later.source) (goal_of now later) (then target)
    ahead_same target is was =
        subst (λ (used : Option UsedBitmap). IsAhead (due_by b used) (is_owed later.kind work) (bytes_at_node now later.source) (goal_of now later) (then target)) (sym a.bitmap)
        (subst (λ (k : JobKind). IsAhead (due_by b row.bitmap) (is_owed k work) (bytes_at_node now later.source) (goal_of now later) (then target)) (sym a.kind)
        (subst (λ xs. IsAhead (due_by b row.bitmap) (is_owed row.kind work) xs (goal_of now later) (then target)) (sym source_same)
        (subst (λ xs. IsAhead (due_by b row.bitmap) (is_owed row.kind work) (bytes_at_node s row.source) xs (then target)) (sym goal_same)
        (subst (λ xs. IsAhead (due_by b row.bitmap) (is_owed row.kind work) (bytes_at_node s row.source) (goal_of s row) xs) (sym (beside.target target is)) was))))

    open_same : (t : Transfer) → IsCopyOpen first h s row b work t → IsCopyOpen first h now later b work t
    open_same t was = record {
      past = was.past;
      holds =
          subst (λ (used : Option UsedBitmap). HoldsGoal later.kind work t.cluster (due_by b used) (goal_of now later) (taken_bytes first h later t)) (sym a.bitmap)
          (subst (λ (k : JobKind). HoldsGoal k work t.cluster (due_by b row.bitmap) (goal_of now later) (taken_bytes first h later t)) (sym a.kind)
          (subst (λ xs. HoldsGoal row.kind work t.cluster (due_by b row.bitmap) xs (taken_bytes first h later t)) (sym goal_same)
          (subst (λ xs. HoldsGoal row.kind work t.cluster (due_by b row.bitmap) (goal_of s row) xs) (sym taken_same) was.holds)));
    }
      where
        taken_same : taken_bytes first h later t ≡ taken_bytes first h row t
        taken_same = rw a.source refl

    begun_same : FoundDisks s row b → FoundDisks now later b
    begun_same was = record {
      found = begun_same_at ∙ was.found;
      source = was.source ∙ sym beside.size ∙ ap (bytes_of_node now.table) (sym a.source);
      target = was.target ∙ sym beside.size ∙ ap (bytes_of_node now.table) (sym a.source);
      whole = ap length source_same ∙ was.whole ∙ sym beside.size ∙ ap (bytes_of_node now.table) (sym a.source);
    }

  pub goes : IsJobAhead first h s reads row work → IsJobAhead first h now then later work
  goes g = record {
    begun = g.begun;
    found_disks = begun_same g.begun g.found_disks;
    target = g.target;
    is_target = a.target ∙ g.is_target;
    ahead = ahead_same g.begun g.target g.is_target g.ahead;
    copies = λ t there. open_same g.begun t (g.copies t there);
    whole = λ f. a.bitmap ∙ g.whole (ap follows (sym a.kind) ∙ f);
    at_once = λ commit. g.at_once (sym a.kind ∙ commit);
  }
