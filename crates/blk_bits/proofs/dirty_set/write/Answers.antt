use Rattle.std.proofs.Common.{◌≡◌, ◌≢◌, ◌<◌, suc, [], length, get_or, ap, sym, refl, ◌∙◌, arith, add-one, below_more, get_or-set_same, get_or-set_other}
use Rattle.std.proofs.lemmas.List.{get_or_default}
use Rattle.blk_bits.specs.Words.{word_count, kept_at, used_words, with_written}
use Rattle.blk_bits.proofs.LevelLemmas.{length-used_words}
use Rattle.blk_bits.proofs.WriteLemmas.{length-with_written}
use Rattle.blk_bits.proofs.TowerLemmas.{levels-of}
use Rattle.blk_bits.proofs.dirty_set.write.Goals as goal

pub loop-level-init : goal.loop-level-init
loop-level-init c = record {
  done = λ k below. absurd (omega arith);
  others = λ k past. refl;
  next = c.write-turned.ensures.above;
  order = c.write-turned.ensures.order;
  within = omega (arith, c.write-turned.ensures.within, length-used_words c.args.members.now);
}

pub loop-level-preserved : goal.loop-level-preserved
loop-level-preserved c =
    let i = c.loop-level.level-index in
    let there : i < length c.loop-level.above = omega arith in
    let level : get_or c.loop-level.above i c.level-item.result ≡ kept_at c.args.members.now (suc i)
    = get_or_default c.loop-level.above i c.level-item.result [] there ∙ c.loop-level.invariant.others i (omega arith) ∙ c.requires.above.kept i (omega arith) in
    let written = c.write-turned-in-loop-level.ensures in
    let here : c.write-turned-in-loop-level.new.self ≡ kept_at c.write-turned.new.self (suc i)
    = written.written ∙ ap (λ s. with_written s c.loop-level.turned.from c.loop-level.turned.to c.args.value) level ∙ sym c.loop-level.invariant.next in
    record {
      done = below_more _ _
          (λ k below. let ne : k ≢ i = omega arith in rw get_or-set_other (c.loop-level.invariant.done k below))
          (rw get_or-set_same here);
      others = λ k past. let ne : k ≢ i = omega arith in rw get_or-set_other (c.loop-level.invariant.others k (omega arith));
      next = rw add-one (ap used_words (sym here) ∙ written.above
          ∙ ap (λ s. with_written (used_words s) c.write-turned-in-loop-level.result.from c.write-turned-in-loop-level.result.to c.args.value) level);
      order = written.order;
      within = rw add-one (omega (arith, written.within, length-used_words (kept_at c.args.members.now (suc i)), ap (λ s. word_count (length s)) level));
    }

pub returns-clause-above : goal.returns-clause-above
returns-clause-above c =
    levels-of c.args.members.now c.write-turned.new.self c.loop-level.above c.args.above.now c.requires.above
    (ap length c.write-turned.ensures.written ∙ length-with_written c.args.members.now c.args.span.from c.args.span.to c.args.value)
    c.loop-level.auto.above (λ k below. c.loop-level.invariant.done k (omega arith))
