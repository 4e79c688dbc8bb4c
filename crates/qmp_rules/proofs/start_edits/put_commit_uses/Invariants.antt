use Rattle.std.proofs.Common.{◌≡◌, ◌++◌, drop, map, if◌then◌else◌}
use Rattle.blk_graph.specs.declared.kind.JobUse.TheVariants.{CommitBase, CommitBetween}
use Rattle.qmp_rules.specs.declared.change.Change.TheVariants.{UseNode}
use Rattle.qmp_rules.specs.Asks.{is_base}
use Rattle.qmp_rules.specs.Edits.{commit_uses}
use Rattle.qmp_rules.proofs.start_edits.put_commit_uses.Given as goal

abbrev pub invariant-loop-id : goal.invariant-loop-id
invariant-loop-id l =
    l.edits.items
    ++ map (λ id. UseNode l.job.slot (if is_base l.job.target id then CommitBase else CommitBetween) id) (drop l.id-index l.id-items)
    ≡ l.initial.edits.items ++ commit_uses l.job
