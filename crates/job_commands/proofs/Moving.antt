-- The moves of an end lead parents or a backing edge elsewhere.
use Rattle.std.proofs.Common.{ℕ, List, [], ◌∷◌, Option, Some, None}
use Rattle.qmp_codec.specs.declared.event.JobKind.{JobKind}
use Rattle.qmp_codec.specs.declared.event.JobKind.TheVariants.{Stream, Commit, Mirror, Backup}
use Rattle.qmp_rules.specs.declared.change.Change.{Change}
use Rattle.qmp_rules.specs.declared.change.Change.TheVariants as change
use Rattle.qmp_rules.specs.declared.change.JobOutcome.{JobOutcome}
use Rattle.qmp_rules.specs.declared.change.JobOutcome.TheVariants.{Completed, Pivoted, Copied, Stopped}
use Rattle.qmp_rules.specs.declared.rows.JobRecord.{JobRecord}
use Rattle.qmp_rules.specs.Ends.{parents_to, overlay_to}
use Rattle.job_tables.proofs.Ended.{moves_by}

abbrev pub IsMoving : Change → Type 0
IsMoving (change.Move from to but) = Unit {0}
IsMoving (change.Rebase node backing) = Unit {0}
IsMoving c = ⊥

abbrev pub AreMoving : List Change → Type 0
AreMoving [] = Unit {0}
AreMoving (c ∷ changes) = IsMoving c × AreMoving changes

module _ (row : JobRecord) where
  parents_moving : (filter target : Option ℕ) → AreMoving (parents_to row.source filter target)
  parents_moving (Some filter) (Some target) = (tt, tt)
  parents_moving (Some filter) None = tt
  parents_moving None target = tt

  overlay_moving : (overlay base : Option ℕ) → AreMoving (overlay_to overlay base)
  overlay_moving None base = tt
  overlay_moving (Some overlay) base = (tt, tt)

  pub moves_moving : (k : JobKind) (o : JobOutcome) → AreMoving (moves_by row k o)
  moves_moving k Stopped = tt
  moves_moving Stream Completed = (tt, tt)
  moves_moving Stream Pivoted = tt
  moves_moving Stream Copied = tt
  moves_moving Commit Completed = overlay_moving _ row.target
  moves_moving Commit Pivoted = parents_moving row.filter row.target
  moves_moving Commit Copied = tt
  moves_moving Mirror Completed = tt
  moves_moving Mirror Pivoted = parents_moving row.filter row.target
  moves_moving Mirror Copied = tt
  moves_moving Backup Completed = tt
  moves_moving Backup Pivoted = tt
  moves_moving Backup Copied = tt
