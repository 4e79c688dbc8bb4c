use Rattle.std.proofs.Common.{◌≡◌, ◌-◌, arith, length, take, drop, refl, ◌∙◌}
use Rattle.std.specs.Prelude.{if◌then◌else◌}
use Rattle.std.proofs.lemmas.List.{length-take-le, length-drop}
use Rattle.blk_bits.proofs.WordLemmas.{filled}
use Rattle.blk_bits.proofs.words.fill_words.Goals as goal
use Rattle.blk_bits.proofs.words.fill_words.Goals.{then-value, else-value}

pub returns : goal.returns
returns c = λ k.
    let count : length (take (c.args.to - c.args.from) (drop c.args.from c.args.words.now)) ≡ c.args.to - c.args.from
    = length-take-le (c.args.to - c.args.from) (drop c.args.from c.args.words.now) (omega (arith, length-drop c.args.from c.args.words.now)) in
    rw (c.fill.ensures, count) (filled c.args.words.now c.args.from c.args.to c.if-value.fill k c.args.value c.requires.order c.requires.within
    (elim c.if-value.branch [ then-value w ↦ rw w.if-value.true w.fill-is | else-value w ↦ rw w.if-value.false w.fill-is ]))
