-- The changes of the end of a backup or mirror: the job and its filter go, a mirror that pivots moves what used its source, and its target
-- gets a flat disk.
use Rattle.std.proofs.Common.{◌≡◌, ℕ, Bool, true, false, List, [], ◌∷◌, ◌++◌, Option, Some, refl, ◌∙◌, ap}
use Rattle.std.specs.Prelude.{◌&&◌, option_and_then}
use Rattle.std.proofs.lemmas.Bool.{false≢true}
use Rattle.std.proofs.lemmas.List.{append-nil}
use Rattle.blk_graph.specs.declared.edge.Role.TheVariants.{File}
use Rattle.qmp_codec.specs.declared.event.JobKind.{JobKind}
use Rattle.qmp_codec.specs.declared.event.JobKind.TheVariants.{Backup, Commit, Mirror, Stream}
use Rattle.qmp_rules.specs.Ends.{done_edits, drops_aside, end_edits, filter_gone, given_back_to, is_done, moves, read_only_if, settle_if, settled_by, settles_target, top_lost}
use Rattle.qmp_rules.specs.Table.{RunTable, child}
use Rattle.qmp_rules.specs.declared.change.Change.{Change}
use Rattle.qmp_rules.specs.declared.change.Change.TheVariants.{EndJob, Move, PullFilter}
use Rattle.qmp_rules.specs.declared.change.JobOutcome.{JobOutcome}
use Rattle.qmp_rules.specs.declared.change.JobOutcome.TheVariants.{Completed, Copied, Pivoted, Stopped}
use Rattle.qmp_rules.specs.declared.change.NewDisk.{NewDisk}
use Rattle.qmp_rules.specs.declared.change.NewDisk.TheVariants.{OfNode, OfStart}
use Rattle.qmp_rules.specs.declared.rows.JobRecord.{JobRecord}
use Rattle.job_ends.specs.Rows.{IsCopyRow}
use Rattle.job_progress.specs.Going.{copies_blocks}

-- what used the source of a mirror uses its target then
abbrev pub pivots : JobOutcome → JobKind → Bool
pivots Pivoted Mirror = true
pivots outcome kind = false

pub pivot_mirror : (o : JobOutcome) (k : JobKind) → pivots o k ≡ true → k ≡ Mirror
pivot_mirror Pivoted Mirror is = refl
pivot_mirror Pivoted Backup is = absurd (false≢true is)
pivot_mirror Pivoted Stream is = absurd (false≢true is)
pivot_mirror Pivoted Commit is = absurd (false≢true is)
pivot_mirror Completed k is = absurd (false≢true is)
pivot_mirror Copied k is = absurd (false≢true is)
pivot_mirror Stopped k is = absurd (false≢true is)

pub pivot_done : (o : JobOutcome) (k : JobKind) → pivots o k ≡ true → is_done o ≡ true
pivot_done Pivoted k is = refl
pivot_done Completed k is = refl
pivot_done Copied k is = refl
pivot_done Stopped k is = absurd (false≢true is)

abbrev pub over_to : Bool → ℕ → ℕ → ℕ → List Change
over_to true source target filter = Move source target filter ∷ []
over_to false source target filter = []

-- the target gets a flat disk
abbrev pub settles_at_end : JobOutcome → JobRecord → Bool
settles_at_end outcome row = is_done outcome && settles_target row.bitmap

abbrev pub left_as : JobRecord → JobKind → NewDisk
left_as row Backup = OfStart row.number
left_as row kind = OfNode row.source

module _ (t : RunTable) (row : JobRecord) (filter target : ℕ) (copies : copies_blocks row.kind ≡ true) (is_filter : row.filter ≡ Some filter)
    (is_target : row.target ≡ Some target) (copy : IsCopyRow row) where
  abbrev last : JobOutcome → JobKind → List Change
  last o k = over_to (pivots o k) row.source target filter ++ settle_if (settles_target row.bitmap) (Some target) (left_as row k)

  backup_last : settle_if (settles_target row.bitmap) row.target (OfStart row.number) ++ [] ≡ settle_if (settles_target row.bitmap) (Some target) (OfStart row.number)
  backup_last = append-nil (settle_if (settles_target row.bitmap) row.target (OfStart row.number)) ∙ rw is_target refl

  by_kind : (k : JobKind) → row.kind ≡ k → copies_blocks k ≡ true → (o : JobOutcome) → is_done o ≡ true
      → moves row k o ++ settled_by row k ++ top_lost row k o ≡ last o k
  by_kind Backup e is Completed done = backup_last
  by_kind Backup e is Pivoted done = backup_last
  by_kind Backup e is Copied done = backup_last
  by_kind Mirror e is Completed done = rw (is_target, copy.whole e) refl
  by_kind Mirror e is Pivoted done = rw (is_filter, is_target, copy.whole e) refl
  by_kind Mirror e is Copied done = rw (is_target, copy.whole e) refl
  by_kind k e is Stopped done = absurd (false≢true done)
  by_kind Stream e is o done = absurd (false≢true is)
  by_kind Commit e is o done = absurd (false≢true is)

  none_back : read_only_if row.made_writable.base row.target ++ read_only_if row.made_writable.file (option_and_then (λ base. child t base File) row.target) ≡ []
  none_back = rw (copy.base, copy.file) refl

  by_outcome : (o : JobOutcome) → done_edits row o ++ given_back_to t row o
      ≡ over_to (pivots o row.kind) row.source target filter ++ settle_if (settles_at_end o row) (Some target) (left_as row row.kind)
  by_outcome Completed = ap (λ (rest : List Change). done_edits row Completed ++ rest) none_back ∙ append-nil (done_edits row Completed) ∙ by_kind row.kind refl copies Completed refl
  by_outcome Copied = ap (λ (rest : List Change). done_edits row Copied ++ rest) none_back ∙ append-nil (done_edits row Copied) ∙ by_kind row.kind refl copies Copied refl
  by_outcome Pivoted = append-nil (done_edits row Pivoted) ∙ by_kind row.kind refl copies Pivoted refl
  by_outcome Stopped = none_back

  pub edits_are : (o : JobOutcome) → end_edits t row o
      ≡ EndJob row.number row.slot (drops_aside o row.bitmap) ∷ PullFilter filter ∷ over_to (pivots o row.kind) row.source target filter
      ++ settle_if (settles_at_end o row) (Some target) (left_as row row.kind)
  unfolding end_edits
  edits_are o =
      ap (λ (rest : List Change). EndJob row.number row.slot (drops_aside o row.bitmap) ∷ rest)
      (ap (λ (f : Option ℕ). filter_gone f ++ done_edits row o ++ given_back_to t row o) is_filter
      ∙ ap (λ (rest : List Change). PullFilter filter ∷ rest) (by_outcome o))
