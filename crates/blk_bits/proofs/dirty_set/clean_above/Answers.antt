use Rattle.std.proofs.Common.{arith, ap, length, ◌∙◌}
use Rattle.blk_bits.proofs.TowerLemmas.{kept-pushed, several-pushed, next-pushed}
use Rattle.blk_bits.proofs.dirty_set.clean_above.Goals as goal

pub loop-words-preserved : goal.loop-words-preserved
loop-words-preserved c =
    let inv = c.loop-words.invariant in
    let pushed = c.in_ok-push.ensures.items in
    let level = c.in_ok-new.ensures in
    record {
      kept = kept-pushed c.args.granules c.loop-words.words c.loop-words.levels.items c.push.new.self.items c.in_ok-new.field-0 pushed level inv.next inv.kept;
      several = several-pushed c.args.granules c.loop-words.words c.loop-words.levels.items c.push.new.self.items c.in_ok-new.field-0 pushed inv.next (omega arith) inv.several;
      next = next-pushed c.args.granules c.loop-words.words c.div_ceil-words-in-loop-words.result c.loop-words.levels.items c.push.new.self.items c.in_ok-new.field-0 pushed inv.next
          (omega (arith, c.div_ceil-words-in-loop-words.ensures));
    }
