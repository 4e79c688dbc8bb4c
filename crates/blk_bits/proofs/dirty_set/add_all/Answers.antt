use Rattle.std.proofs.Common.{◌≡◌, ◌≢◌, ◌<◌, suc, [], length, get_or, ap, sym, refl, ◌∙◌, arith, add-one, below_more, get_or-set_same, get_or-set_other}
use Rattle.std.proofs.lemmas.List.{get_or_default}
use Rattle.blk_bits.specs.Words.{word_count, kept_at, used_words, either}
use Rattle.blk_bits.proofs.WriteLemmas.{length-either}
use Rattle.blk_bits.proofs.TowerLemmas.{levels-of, same-height, length-kept_at}
use Rattle.blk_bits.proofs.dirty_set.add_all.Goals as goal

pub bounds-other_above-k : goal.bounds-other_above-k
bounds-other_above-k c =
    omega (arith, same-height c.args.members.now c.args.other.now c.args.above.now c.args.other_above.now c.requires.above c.requires.other_above c.requires.count)

pub add_all-requires-in-loop-k : goal.add_all-requires-in-loop-k
add_all-requires-in-loop-k c =
    let k = c.loop-k.k in
    let height = same-height c.args.members.now c.args.other.now c.args.above.now c.args.other_above.now c.requires.above c.requires.other_above c.requires.count in
    let mine : get_or c.loop-k.above k c.index-above-k.result ≡ kept_at c.args.members.now (suc k)
    = get_or_default c.loop-k.above k c.index-above-k.result [] (omega arith) ∙ c.loop-k.invariant.others k (omega arith) ∙ c.requires.above.kept k (omega arith) in
    let theirs : c.index-other_above-k.result ≡ kept_at c.args.other.now (suc k)
    = c.index-other_above-k.is ∙ get_or_default c.args.other_above.now k c.index-other_above-k.result [] (omega (arith, height)) ∙ c.requires.other_above.kept k (omega (arith, height)) in
    ap length mine ∙ length-kept_at c.args.members.now c.args.other.now (suc k) c.requires.count ∙ ap length (sym theirs)

pub loop-k-preserved : goal.loop-k-preserved
loop-k-preserved c =
    let k = c.loop-k.k in
    let height = same-height c.args.members.now c.args.other.now c.args.above.now c.args.other_above.now c.requires.above c.requires.other_above c.requires.count in
    let there : k < length c.loop-k.above = omega arith in
    let mine : get_or c.loop-k.above k c.index-above-k.result ≡ kept_at c.args.members.now (suc k)
    = get_or_default c.loop-k.above k c.index-above-k.result [] there ∙ c.loop-k.invariant.others k (omega arith) ∙ c.requires.above.kept k (omega arith) in
    let theirs : c.index-other_above-k.result ≡ kept_at c.args.other.now (suc k)
    = c.index-other_above-k.is ∙ get_or_default c.args.other_above.now k c.index-other_above-k.result [] (omega (arith, height)) ∙ c.requires.other_above.kept k (omega (arith, height)) in
    let joined = c.add_all-in-loop-k.ensures in
    let here : c.add_all-in-loop-k.new.self ≡ kept_at c.add_all.new.self (suc k)
    = joined.written ∙ ap (λ s. either s c.index-other_above-k.result) mine ∙ ap (λ s. either (kept_at c.args.members.now (suc k)) s) theirs ∙ sym c.loop-k.invariant.next in
    record {
      done = below_more _ _
          (λ j below. let ne : j ≢ k = omega arith in rw get_or-set_other (c.loop-k.invariant.done j below))
          (rw get_or-set_same here);
      others = λ j past. let ne : j ≢ k = omega arith in rw get_or-set_other (c.loop-k.invariant.others j (omega arith));
      next = rw add-one (ap used_words (sym here) ∙ joined.above ∙ ap (λ s. either (used_words s) (used_words c.index-other_above-k.result)) mine
          ∙ ap (λ s. either (used_words (kept_at c.args.members.now (suc k))) (used_words s)) theirs);
    }

pub returns-clause-above : goal.returns-clause-above
returns-clause-above c =
    levels-of c.args.members.now c.add_all.new.self c.loop-k.above c.args.above.now c.requires.above
    (ap length c.add_all.ensures.written ∙ length-either c.args.members.now c.args.other.now)
    c.loop-k.auto.above (λ j below. c.loop-k.invariant.done j (omega arith))
