-- What is said of the images of the nodes that jobs have.
use Rattle.std.specs.Prelude.{◌≢◌, ◌<◌, ℕ, Contains}
use Rattle.qmp_rules.specs.declared.rows.JobRecord.{JobRecord}
use Rattle.flat_machine.specs.Sights.{mapped_at}
use Rattle.flat_machine.specs.State.{State, MapsNone}
use Rattle.job_tables.specs.Rows.{nodes_of_job}

-- of none of a job whose start stands in the history is it said that it maps no cluster
abbrev pub HeldAreUnsure : State → Type 0
HeldAreUnsure s =
    (row : JobRecord) (node : ℕ) → Contains s.table.jobs row → row.number < s.starts
    → Contains (nodes_of_job row) node
    → mapped_at s.images node ≢ MapsNone
