use Rattle.std.proofs.Common.{sym, ap, ◌∙◌}
use Rattle.qmp_rules.specs.declared.change.Change.{Change}
use Rattle.qmp_rules.specs.Changes.{changed}
use Rattle.qmp_rules.proofs.table.Names.change.Goals as goal

pub returns-in-EndJob-clause-table : goal.returns-in-EndJob-clause-table
returns-in-EndJob-clause-table c =
    c.end_job.ensures.table c.in-EndJob.drops ∙ ap (λ (made : Change). changed c.args.self.now.table made) (sym c.in-EndJob.is)

pub returns-in-FormatFile-clause-table : goal.returns-in-FormatFile-clause-table
returns-in-FormatFile-clause-table c =
    c.format_file.ensures.table c.in-FormatFile.size c.in-FormatFile.backing_file c.in-FormatFile.backing_fmt
    ∙ ap (λ (made : Change). changed c.args.self.now.table made) (sym c.in-FormatFile.is)
