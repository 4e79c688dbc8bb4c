-- Which works belong to a table: one for each of its jobs.
use Rattle.std.specs.Prelude.{◌≡◌, ◌≢◌, ◌≤◌, ℕ, List, AllPairs, Contains, Some}
use Rattle.block_jobs.specs.Work.{JobWork, IsJobWork, room_for}
use Rattle.job_works.specs.Works.{work_of}
use Rattle.qmp_rules.specs.declared.rows.JobRecord.{JobRecord}
use Rattle.qmp_rules.specs.Changes.{without_job}
use Rattle.qmp_rules.specs.Queries.{bytes_of_node}
use Rattle.qmp_rules.specs.Table.{RunTable}

-- over its source's disk, with room for as many copies as its kind has at once
pub record HasWork (t : RunTable) (works : List JobWork) (row : JobRecord) : Type 0 where
  pub work : JobWork
  pub there : work_of works row.number ≡ Some work
  pub size : work.size ≡ bytes_of_node t row.source
  pub room : room_for row.kind work.size ≤ work.room

-- a job of the table has the work
pub record IsOfJob (t : RunTable) (work : JobWork) : Type 0 where
  pub row : JobRecord
  pub there : Contains t.jobs row
  pub number : row.number ≡ work.job

-- Each job has its own, and no other is kept.
pub record AreWorksOf (t : RunTable) (works : List JobWork) : Type 0 where
  pub each : (row : JobRecord) → Contains t.jobs row → HasWork t works row
  pub owned : (work : JobWork) → Contains works work → IsOfJob t work
  pub once : AllPairs (λ a b. a.job ≢ b.job) works
  pub sound : (work : JobWork) → Contains works work → IsJobWork work

-- the table without a job
abbrev pub without_row : ℕ → RunTable → RunTable
without_row number t = record t { jobs = without_job number t.jobs }
