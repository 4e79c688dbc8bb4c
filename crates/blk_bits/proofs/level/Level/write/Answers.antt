use Rattle.std.proofs.Common.{◌≡◌, ◌+◌, ◌-◌, ◌*◌, ◌/◌, ◌<◌, max, length, get_or, take, drop, ◌++◌, ap, sym, ◌∙◌, arith}
use Rattle.blk_bits.specs.Words.{bits_in, used_words, lacks}
use Rattle.blk_bits.proofs.LevelLemmas.{length-bits_in}
use Rattle.blk_bits.proofs.WriteLemmas.{nothing_written, put_back, AreWordsWritten, written-has, written-view, written-used}
use Rattle.blk_bits.proofs.level.Level.write.Goals as goal

pub returns-then-span-clause-written : goal.returns-then-span-clause-written
returns-then-span-clause-written c = rw (← c.if-span.true) (nothing_written c.args.self.now c.args.span.from c.args.value (omega arith))

pub returns-then-span-clause-above : goal.returns-then-span-clause-above
returns-then-span-clause-above c = nothing_written (used_words c.args.self.now) 0 c.args.value (omega arith)

pub write_bits-requires-clause-within : goal.write_bits-requires-clause-within
write_bits-requires-clause-within c =
    omega (arith, ap length c.as_mut_slice.ensures.value, ap length c.self.view_is, length-bits_in c.self.inside.count c.self.inside.words.items, c.self.invariant.enough)

pub turned_words-requires-clause-within : goal.turned_words-requires-clause-within
turned_words-requires-clause-within c =
    omega (arith, c.as_slice.ensures.len, ap length c.as_mut_slice.ensures.value, c.as_mut_slice.ensures.len, ap length c.self.view_is, length-bits_in c.self.inside.count c.self.inside.words.items, c.self.invariant.enough)

size : (c : goal.After-turned_words) → length c.write_bits.new.words ≡ length c.self.inside.words.items
size c = omega (arith, ap length c.as_mut_slice.ensures.value, c.write_bits.auto.words)

whole : (c : goal.After-turned_words) → take c.self.inside.words.len (c.write_bits.new.words ++ drop (length c.write_bits.new.words) c.self.inside.words.items) ≡ c.write_bits.new.words
whole c = put_back c.self.inside.words.items c.write_bits.new.words c.self.inside.words.len (size c) (omega (arith, ap length c.as_mut_slice.ensures.value, c.as_mut_slice.ensures.len))

written : (c : goal.After-turned_words) → AreWordsWritten c.args.self.now c.self.inside.count c.self.inside.words.items c.write_bits.new.words c.args.span.from c.args.span.to c.args.value
written c = record {
  view = c.self.view_is;
  has = c.self.invariant;
  size = size c;
  bits = λ k. rw c.as_mut_slice.ensures.value at (c.write_bits.ensures.written k);
  fits = c.write_bits.ensures.fits;
  some = omega arith;
  within = c.requires.within;
}

pub invariant_of-self : goal.invariant_of-self
invariant_of-self c = rw (whole c) (written-has _ _ _ _ _ _ _ (written c))

pub returns-clause-written : goal.returns-clause-written
returns-clause-written c = rw (whole c) (written-view _ _ _ _ _ _ _ (written c))

pub returns-clause-above : goal.returns-clause-above
returns-clause-above c =
    let now = c.as_slice.ensures.value ∙ whole c in
    rw (whole c) (written-used _ _ _ _ _ _ c.turned_words.result.from c.turned_words.result.to _ (written c)
    (rw now at c.turned_words.ensures.from) (rw now at c.turned_words.ensures.to))
