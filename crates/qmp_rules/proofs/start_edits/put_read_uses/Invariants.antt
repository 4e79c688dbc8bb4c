use Rattle.std.proofs.Common.{◌≡◌, ◌++◌, drop}
use Rattle.blk_graph.specs.declared.kind.JobUse.TheVariants.{StreamBelow}
use Rattle.qmp_rules.specs.Edits.{uses_as}
use Rattle.qmp_rules.proofs.start_edits.put_read_uses.Given as goal

abbrev pub invariant-loop-id : goal.invariant-loop-id
invariant-loop-id l =
    l.edits.items ++ uses_as l.slot StreamBelow (drop l.id-index l.nodes)
    ≡ l.initial.edits.items ++ uses_as l.slot StreamBelow l.nodes
