-- How a backup, mirror or commit ends.
use Rattle.std.specs.Prelude.{◌≡◌, ℕ, true, false, List, [], Some}
use Rattle.std.specs.List.{list_any}
use Rattle.blk_history.specs.declared.entry.JobEnd.{JobEnd}
use Rattle.blk_history.specs.declared.event.Event.{Event}
use Rattle.block_jobs.specs.Work.{JobWork}
use Rattle.qmp_rules.specs.declared.rows.JobRecord.{JobRecord}
use Rattle.qmp_rules.specs.Ends.{is_done}
use Rattle.flat_machine.specs.State.{State}
use Rattle.flat_machine.specs.Agreement.{Contents}
use Rattle.flat_machine.specs.Jobs.{outcome_of}
use Rattle.flat_machine.specs.Performing.{ReadSame, HeldSame, Nothing}
use Rattle.job_progress.specs.Going.{IsJobAhead}

-- no part is left, and no copy is in flight
pub record OwesNothing (work : JobWork) : Type 0 where
  pub left : list_any (λ part. part) work.left ≡ false
  pub rows : work.rows ≡ []

-- all of its copy is made
pub record HasCopied (first : State) (h : List Event) (s : State) (reads : ℕ → List ℕ)
    (row : JobRecord) (work : JobWork) : Type 0 where
  pub ahead : IsJobAhead first h s reads row work
  pub none : OwesNothing work

-- so it is where it ends without error
abbrev pub MayEndSo : State → List Event → State → (ℕ → List ℕ) → JobRecord → JobWork → JobEnd
    → Type 0
MayEndSo first h s reads row work why =
    is_done (outcome_of why) ≡ true → HasCopied first h s reads row work

-- its filter is gone, and all else reads and holds the same
pub record LosesFilter (row : JobRecord) (old new : Contents) : Type 0 where
  pub nodes : ReadSame (λ node. row.filter ≡ Some node) old new
  pub files : HeldSame Nothing old new
