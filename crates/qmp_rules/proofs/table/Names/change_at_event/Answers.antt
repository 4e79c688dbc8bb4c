use Rattle.std.proofs.Common.{sym, ap, ◌∙◌}
use Rattle.qmp_rules.specs.declared.change.Change.{Change}
use Rattle.qmp_rules.specs.Changes.{changed}
use Rattle.qmp_rules.proofs.table.Names.change_at_event.Goals as goal

pub returns-in-EndJob : goal.returns-in-EndJob
returns-in-EndJob c =
    c.end_job.ensures.table c.in-EndJob.drops ∙ ap (λ (made : Change). changed c.args.self.now.table made) (sym c.in-EndJob.is)
