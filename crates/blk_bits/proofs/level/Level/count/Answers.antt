use Rattle.std.proofs.Common.{◌≡◌, length, ap, subst, arith, sym, ◌∙◌}
use Rattle.std.specs.List.{sum_by}
use Rattle.std.specs.Prelude.{count_ones}
use Rattle.blk_bits.proofs.LevelLemmas.{WordsKeep, keeps-bits_in, length-bits_in}
use Rattle.blk_bits.proofs.CountLemmas.{count-kept, count-le}
use Rattle.blk_bits.proofs.level.Level.count.Goals as goal

pub count_ones-requires : goal.count_ones-requires
count_ones-requires c =
    let keeps = subst (λ s. WordsKeep s c.self.inside.words.items) c.self.view_is (keeps-bits_in c.self.inside.count c.self.inside.words.items c.self.invariant) in
    rw c.as_slice.ensures.value (omega (
      arith,
      count-kept c.args.self.now c.self.inside.words.items keeps,
      count-le c.args.self.now,
      ap length c.self.view_is,
      length-bits_in c.self.inside.count c.self.inside.words.items,
      c.self.invariant.small,
    ))

pub returns : goal.returns
returns c =
    let keeps = subst (λ s. WordsKeep s c.self.inside.words.items) c.self.view_is (keeps-bits_in c.self.inside.count c.self.inside.words.items c.self.invariant) in
    c.count_ones.ensures ∙ ap (sum_by count_ones) c.as_slice.ensures.value ∙ count-kept c.args.self.now c.self.inside.words.items keeps
