use Rattle.std.proofs.Common.{refl}
use Rattle.blk_graph.proofs.WalkLemmas.{unmarked_at_first, marked_from_Reaches}
use Rattle.blk_graph.proofs.walk.reaches.Goals as goal

pub loop-from-init : goal.loop-from-init
loop-from-init c = record {
  reached = λ node marked. absurd (unmarked_at_first 64 node marked);
  room = refl;
}

pub returns : goal.returns
returns c = (
  λ marked. c.loop-from-test.ensures.reached c.args.to (rw c.index.ensures.value at marked),
  λ reaches. rw c.index.ensures.value
      (marked_from_Reaches c.args.edges.now c.args.from c.spread.new.marks c.loop-from-test.ensures.more c.args.to reaches),
)
