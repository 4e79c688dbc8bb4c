use Rattle.std.proofs.Common.{◌≤◌, length, drop, arith}
use Rattle.std.proofs.lemmas.List.{at_drop_all}
use Rattle.serde_json.specs.View.{items_view}
use Rattle.qmp_rules.specs.Queries.{jobs_items}
use Rattle.qmp_rules.proofs.ItemLemmas.{joined_end}
use Rattle.qmp_rules.proofs.table.Names.job_values.Goals as goal

pub returns : goal.returns
returns c =
    let items = c.jobs-job-items.result.now in
    let past : length items ≤ c.loop-job.job-index = omega arith in
    joined_end (items_view c.loop-job.values.items) (jobs_items c.args.self.now.table (drop c.loop-job.job-index items))
    (jobs_items c.args.self.now.table c.args.self.now.table.jobs)
    (at_drop_all (jobs_items c.args.self.now.table) items c.loop-job.job-index past) c.loop-job.invariant
