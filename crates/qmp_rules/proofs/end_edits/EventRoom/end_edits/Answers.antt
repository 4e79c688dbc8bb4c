use Rattle.std.proofs.Common.{ap, ◌∙◌}
use Rattle.std.specs.List.{list_all}
use Rattle.qmp_rules.specs.Ends.{is_of_event}
use Rattle.qmp_rules.proofs.EndLemmas.{ends_are_events}
use Rattle.qmp_rules.proofs.end_edits.EventRoom.end_edits.Goals as goal

pub returns-clause-events : goal.returns-clause-events
returns-clause-events c =
    ap (list_all is_of_event) c.put_end.ensures ∙ ends_are_events c.args.names.now.table c.args.row.now c.args.outcome
