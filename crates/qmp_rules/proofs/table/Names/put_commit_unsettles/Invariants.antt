use Rattle.std.proofs.Common.{◌≡◌, ◌++◌, drop, map}
use Rattle.std.specs.Prelude.{filter}
use Rattle.qmp_rules.specs.declared.change.Change.TheVariants.{Unsettle}
use Rattle.qmp_rules.specs.Edits.{commit_unsettles, reads_one_of, under_top}
use Rattle.qmp_rules.proofs.table.Names.put_commit_unsettles.Given as goal

abbrev pub invariant-loop-row : goal.invariant-loop-row
invariant-loop-row l =
    l.edits.items
    ++ map (λ node. Unsettle node.id) (filter (reads_one_of l.self.table l.job.source (under_top l.job)) (drop l.row-index l.row-items))
    ≡ l.initial.edits.items ++ commit_unsettles l.self.table l.job
