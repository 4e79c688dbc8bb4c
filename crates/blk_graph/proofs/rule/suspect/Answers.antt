use Rattle.std.proofs.Common.{◌≡◌, ◌<◌, ◌+◌, false, length, get_or, None, sym, ◌∙◌, arith}
use Rattle.std.proofs.lemmas.Option.{slice_get-get_or}
use Rattle.blk_graph.specs.declared.edge.Perms.{Perms}
use Rattle.blk_graph.specs.Rule.{first_denied}
use Rattle.blk_graph.proofs.RuleLemmas.{None-from_is_none}
use Rattle.blk_graph.proofs.ShareLemmas.{CalmBelow, CalmBelow-kept, CalmBelow-marked}
use Rattle.blk_graph.proofs.rule.suspect.Goals as goal
use Rattle.blk_graph.proofs.rule.suspect.Goals.{then-is_some, else-is_some}

pub loop-edge-preserved : goal.loop-edge-preserved
loop-edge-preserved c = elim c.if-is_some.branch [
  | then-is_some w ↦
      let marked : CalmBelow c.args.edges.now c.args.common.now c.if-is_some.suspects (c.loop-edge.edge-index + 1)
      = rw (w.suspects-is, c.index-child.ensures.value)
      (CalmBelow-marked c.args.edges.now c.args.common.now c.loop-edge.suspects c.loop-edge.edge-index c.edge-item.result
      c.loop-edge.invariant c.loop-edge-test.true c.edge-item.is) in marked
  | else-is_some w ↦
      let low : c.index-child.result < length c.args.common.now = omega arith in
      let no_perms : Perms = record { read = false; write = false; unchanged = false } in
      let at = slice_get-get_or c.args.common.now c.index-child.result no_perms low in
      let none = None-from_is_none c.first_denied.result (sym c.is_some.ensures ∙ w.if-is_some.false) in
      let denied : first_denied c.edge-item.result.perm (get_or c.args.common.now c.index-child.result no_perms) ≡ None
      = sym c.first_denied.ensures ∙ none in
      let kept : CalmBelow c.args.edges.now c.args.common.now c.if-is_some.suspects (c.loop-edge.edge-index + 1)
      = rw w.suspects-is
      (CalmBelow-kept c.args.edges.now c.args.common.now c.loop-edge.suspects c.loop-edge.edge-index c.edge-item.result
      _ c.loop-edge.invariant c.loop-edge-test.true c.edge-item.is
      (rw c.index-child.ensures.value at at) (rw c.index-child.ensures.value at denied)) in kept
]
