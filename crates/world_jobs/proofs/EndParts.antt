-- The job of a number that may end, and its parts.
use Rattle.std.proofs.Common.{◌≡◌, ℕ, List, refl, sym, ◌∙◌, ap, subst, Option, Some, None}
use Rattle.std.specs.Prelude.{◌==◌, IsSome}
use Rattle.std.proofs.lemmas.Bool.{eqb-true}
use Rattle.blk_graph.proofs.Members.{find-Some}
use Rattle.blk_history.specs.Fold.{With}
use Rattle.blk_history.specs.declared.entry.JobEnd.{JobEnd}
use Rattle.blk_nodes.specs.Nodes.{Nodes}
use Rattle.block_jobs.specs.Work.{JobWork}
use Rattle.job_works.specs.Works.{work_of}
use Rattle.qmp_rules.specs.Table.{RunTable, job_at}
use Rattle.qmp_rules.specs.declared.rows.JobRecord.{JobRecord}
use Rattle.world_jobs.specs.Ending.{CanBeEnded}
use Rattle.world_parts.specs.Progress.{Progress}
use Rattle.world_parts.proofs.CountLemmas.{there}

pub number_at : (t : RunTable) (job : ℕ) (row : JobRecord) → job_at t job ≡ Some row → row.number ≡ job
number_at t job row is = eqb-true row.number job (find-Some (λ (r : JobRecord). r.number == job) t.jobs row is).1

pub work_there : (t : RunTable) (nodes : Nodes) (works : List JobWork) (p : Progress) (why : JobEnd) (job : ℕ)
    → With (job_at t job) (CanBeEnded t nodes works p why) → IsSome (work_of works job)
work_there t nodes works p why job can =
    let at = there (job_at t job) (CanBeEnded t nodes works p why) can in
    subst (λ (n : ℕ). IsSome (work_of works n)) (number_at t job at.at at.is) at.holds.work
