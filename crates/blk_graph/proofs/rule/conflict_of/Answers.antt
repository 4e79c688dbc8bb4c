use Rattle.std.proofs.Common.{sym, ◌∙◌}
use Rattle.blk_graph.proofs.RuleLemmas.{None-from_AllShare, None-from_other_child, None-from_is_none, is_some_from_is_none}
use Rattle.blk_graph.proofs.rule.conflict_of.Goals as goal
use Rattle.blk_graph.proofs.rule.conflict_of.Goals.{then-ne-via-then-ne, then-ne-via-else-ne+then-is_none}

pub returns-then-ne : goal.returns-then-ne
returns-then-ne c = elim c.then-ne.branch [
  | then-ne-via-then-ne w ↦
      sym (None-from_other_child c.args.edges.now c.args.node c.args.i c.args.asking (sym c.ne.ensures ∙ w.if-ne.true))
  | then-ne-via-else-ne+then-is_none w ↦
      sym (None-from_AllShare c.args.edges.now c.args.node c.args.i c.args.asking c.args.common c.requires
      (sym w.first_denied.ensures ∙ None-from_is_none w.first_denied.result (is_some_from_is_none w.first_denied.result w.is_none.result w.is_none.ensures w.if-is_none.true)))
]
