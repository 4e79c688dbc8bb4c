-- Jobs are as far as they were behind a step of one of them.
use Rattle.std.proofs.Common.{◌≡◌, ◌≢◌, ℕ, List, refl, sym, ◌∙◌, ap, subst, Some, None}
use Rattle.std.specs.Prelude.{Contains, unwrap_or, ◌==◌}
use Rattle.blk_base.specs.declared.fault.Fault.{Fault}
use Rattle.blk_graph.proofs.Members.{find-Some}
use Rattle.blk_history.specs.declared.event.Event.{Event}
use Rattle.block_jobs.specs.Work.{JobWork, failed_by}
use Rattle.blk_nodes.specs.Contents.{disk_of}
use Rattle.qmp_rules.specs.Table.{RunTable, job_at}
use Rattle.qmp_rules.specs.declared.rows.JobRecord.{JobRecord}
use Rattle.flat_machine.specs.EventLicence.{Deed}
use Rattle.flat_machine.specs.State.{State}
use Rattle.job_tables.specs.Jobs.{JobsStand}
use Rattle.job_works.specs.Works.{ChangesWork}
use Rattle.job_progress.specs.Going.{AreJobsAhead, IsJobAhead}
use Rattle.job_progress.proofs.Goes.{alike_itself, goes}
use Rattle.job_progress.proofs.Others.{others_go}
use Rattle.world_parts.specs.Coherent.{AreJobsKept}
use Rattle.world_parts.specs.Face.{WorldSeen}
use Rattle.world_parts.specs.Jobs.{CopiesFor}

-- a job of the table
pub job_there : (t : RunTable) (row : JobRecord) → job_at t row.number ≡ Some row → Contains t.jobs row
job_there t row at = (find-Some (λ (r : JobRecord). r.number == row.number) t.jobs row at).0

-- a job that met a fault isn't one that met none
pub failed_not : {A : Type 0} (work : JobWork) (fault : Fault) (now : JobWork) → now ≡ failed_by fault work → now.met ≡ None → A
failed_not work fault now is none =
    let bad : Some (unwrap_or work.met fault) ≡ None = ap (λ (x : JobWork). x.met) (sym is) ∙ none in
    absurd (let no : ⊥ = cc bad in no)

-- where its target reads as before
pub reads_on : (first s : State) (h : List Event) (reads now : ℕ → List ℕ) (row : JobRecord) (work : JobWork)
    → ((target : ℕ) → row.target ≡ Some target → now target ≡ reads target) → IsJobAhead first h s reads row work → IsJobAhead first h s now row work
reads_on first s h reads now row work same =
    goes first h s s reads now row row work (alike_itself row) (record { begun = refl; size = refl; source = refl; target = same })

module _ (w v : WorldSeen) (deed : Deed) (passes : ℕ → Type 0) (row : JobRecord) (copies : CopiesFor w v deed passes row)
    (Does : JobWork → JobWork → Type 0) (changes : ChangesWork row.number Does w.works v.works) (first s : State) (h : List Event)
    (table_is : s.table ≡ w.table) (jobs : AreJobsKept w.table w.works w.progress.aside) where
  pub ahead_then : (changes.now.met ≡ None → (changes.was.met ≡ None)
      × (IsJobAhead first h s (disk_of w.nodes) row changes.was → IsJobAhead first h s (disk_of v.nodes) row changes.now))
      → ((other : JobRecord) (node : ℕ) → Contains w.table.jobs other → other.number ≢ row.number → other.target ≡ Some node → disk_of v.nodes node ≡ disk_of w.nodes node)
      → AreJobsAhead first h s (disk_of w.nodes) w.works → AreJobsAhead first h s (disk_of v.nodes) v.works
  ahead_then own others going =
      subst (AreJobsAhead first h s (disk_of v.nodes)) (sym changes.kept)
      (others_go first s h (disk_of w.nodes) (disk_of v.nodes) row changes.was changes.now w.works
      (subst JobsStand (sym table_is) jobs.stand)
      (subst (λ (t : RunTable). Contains t.jobs row) (sym table_is) (job_there w.table row copies.there))
      changes.there changes.same
      (λ other node there. others other node (subst (λ (t : RunTable). Contains t.jobs other) table_is there))
      own going)
