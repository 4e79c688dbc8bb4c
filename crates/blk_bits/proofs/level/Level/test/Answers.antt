use Rattle.std.proofs.Common.{◌≡◌, ◌/◌, ◌<◌, length, ap, subst, arith, sym, ◌∙◌, get_or}
use Rattle.std.proofs.lemmas.Grind.{get_or_default_zero}
use Rattle.blk_bits.proofs.LevelLemmas.{WordsKeep, keeps-bits_in, length-bits_in}
use Rattle.blk_bits.proofs.FindLemmas.{bit-tested}
use Rattle.blk_bits.proofs.level.Level.test.Goals as goal

pub index-requires : goal.index-requires
index-requires c =
    omega (arith, ap length c.self.view_is, length-bits_in c.self.inside.count c.self.inside.words.items, c.self.invariant.enough, c.self.inside.words.ok.0)

pub returns : goal.returns
returns c =
    let keeps = subst (λ s. WordsKeep s c.self.inside.words.items) c.self.view_is (keeps-bits_in c.self.inside.count c.self.inside.words.items c.self.invariant) in
    let there : c.args.k / 64 < length c.self.inside.words.items
    = omega (arith, ap length c.self.view_is, length-bits_in c.self.inside.count c.self.inside.words.items, c.self.invariant.enough) in
    let word : c.index.result.now ≡ get_or c.self.inside.words.items (c.args.k / 64) 0
    = c.index.ensures ∙ get_or_default_zero c.self.inside.words.items (c.args.k / 64) c.index.result.now there in
    rw word (bit-tested c.args.self.now c.self.inside.words.items keeps c.args.k)
