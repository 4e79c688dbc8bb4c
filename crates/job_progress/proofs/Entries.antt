-- A job goes on behind an entry that leaves table, disks and what starts found.
use Rattle.std.proofs.Common.{◌≡◌, ℕ, ◌≤◌, List, [], ◌∷◌, ◌++◌, length, refl, sym, ap, subst, arith, length-append}
use Rattle.std.specs.List.{Contains}
use Rattle.std.proofs.lemmas.List.{take-append-le}
use Rattle.blk_copy.specs.declared.transfers.Transfer.{Transfer}
use Rattle.blk_history.specs.declared.event.Event.{Event}
use Rattle.block_jobs.specs.Work.{JobWork}
use Rattle.job_copies.specs.Settling.{HoldsGoal}
use Rattle.qmp_rules.specs.declared.rows.JobRecord.{JobRecord}
use Rattle.qmp_rules.specs.Queries.{bytes_of_node}
use Rattle.flat_machine.specs.Begun.{begun_of}
use Rattle.flat_machine.specs.State.{State, Begun, bytes_at_node}
use Rattle.job_progress.specs.Going.{goal_of, is_due, taken_bytes, IsCopyOpen, IsJobAhead, AreJobsAhead}
use Rattle.job_progress.proofs.Goes.{alike_itself, goes}

module _ (first : State) (h more : List Event) (s : State) (reads : ℕ → List ℕ) (row : JobRecord) (work : JobWork) where
  taken_later : (t : Transfer) → t.position ≤ length h → taken_bytes first (h ++ more) row t ≡ taken_bytes first h row t
  taken_later t past = rw (take-append-le t.position h more past) refl

  open_later : (b : Begun) (t : Transfer) → IsCopyOpen first h s row b work t → IsCopyOpen first (h ++ more) s row b work t
  open_later b t was = record {
    past = let long = length-append h more in let past = was.past in omega arith;
    holds = subst (HoldsGoal row.kind work t.cluster (is_due row b) (goal_of s row)) (sym (taken_later t was.past)) was.holds;
  }

  -- entries are put behind the history
  pub goes_later : IsJobAhead first h s reads row work → IsJobAhead first (h ++ more) s reads row work
  goes_later g = record {
    begun = g.begun;
    found_disks = g.found_disks;
    target = g.target;
    is_target = g.is_target;
    ahead = g.ahead;
    copies = λ t there. open_later g.begun t (g.copies t there);
    whole = g.whole;
    at_once = g.at_once;
  }

pub entries_leave : (first s now : State) (h : List Event) (e : Event) (reads : ℕ → List ℕ) (works : List JobWork)
    → now.table ≡ s.table → now.disks ≡ s.disks → now.begun ≡ s.begun → AreJobsAhead first h s reads works → AreJobsAhead first (h ++ e ∷ []) now reads works
entries_leave first s now h e reads works table disks begun go row work there copies is going =
    goes first (h ++ e ∷ []) s now reads reads row row work (alike_itself row)
    (record {
      begun = ap (λ bs. begun_of bs row.number) begun;
      size = ap (λ t. bytes_of_node t row.source) table;
      source = rw (bytes_at_node, table, disks) refl;
      target = λ target to. refl;
    })
    (goes_later first h (e ∷ []) s reads row work (go row work (subst (λ t. Contains t.jobs row) table there) copies is going))
