use Rattle.std.proofs.Common.{◌≡◌, drop}
use Rattle.serde_json.specs.View.{items_view}
use Rattle.qmp_rules.specs.Printed.{items_joined}
use Rattle.qmp_rules.specs.Queries.{jobs_items}
use Rattle.qmp_rules.proofs.table.Names.job_values.Given as goal

abbrev pub invariant-loop-job : goal.invariant-loop-job
invariant-loop-job l =
    items_joined (items_view l.values.items) (jobs_items l.self.table (drop l.job-index l.job-items))
    ≡ jobs_items l.self.table l.self.table.jobs
