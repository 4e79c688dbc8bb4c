use Rattle.std.proofs.Common.{◌≡◌, ◌<◌, ◌*◌, ◌+◌, length, ap, subst, arith, sym, ◌∙◌, get_or}
use Rattle.std.proofs.lemmas.Grind.{get_or_default_zero}
use Rattle.blk_bits.proofs.LevelLemmas.{WordsKeep, keeps-bits_in, length-bits_in}
use Rattle.blk_bits.proofs.FindLemmas.{used-word, least-in-word, member-below}
use Rattle.blk_bits.proofs.level.Level.first_in_word.Goals as goal

pub overflow_mul-result : goal.overflow_mul-result
overflow_mul-result c =
    let keeps = subst (λ s. WordsKeep s c.self.inside.words.items) c.self.view_is (keeps-bits_in c.self.inside.count c.self.inside.words.items c.self.invariant) in
    let there = (used-word c.args.self.now c.self.inside.words.items keeps c.args.word c.requires).0 in
    omega (arith, there, c.self.invariant.enough, c.self.invariant.small)

pub index-requires : goal.index-requires
index-requires c =
    let keeps = subst (λ s. WordsKeep s c.self.inside.words.items) c.self.view_is (keeps-bits_in c.self.inside.count c.self.inside.words.items c.self.invariant) in
    omega (arith, (used-word c.args.self.now c.self.inside.words.items keeps c.args.word c.requires).0, c.self.inside.words.ok.0)

pub overflow_add-result : goal.overflow_add-result
overflow_add-result c =
    let keeps = subst (λ s. WordsKeep s c.self.inside.words.items) c.self.view_is (keeps-bits_in c.self.inside.count c.self.inside.words.items c.self.invariant) in
    let used = used-word c.args.self.now c.self.inside.words.items keeps c.args.word c.requires in
    let word : c.index.result.now ≡ get_or c.self.inside.words.items c.args.word 0
    = c.index.ensures ∙ get_or_default_zero c.self.inside.words.items c.args.word c.index.result.now used.0 in
    let least = least-in-word c.args.self.now c.self.inside.words.items keeps c.args.word used.1 in
    let zeros = rw word at c.from.ensures in
    let below = member-below c.args.self.now _ least.member in
    omega (arith, below, zeros, ap length c.self.view_is, length-bits_in c.self.inside.count c.self.inside.words.items, c.self.invariant.small)

pub returns : goal.returns
returns c =
    let keeps = subst (λ s. WordsKeep s c.self.inside.words.items) c.self.view_is (keeps-bits_in c.self.inside.count c.self.inside.words.items c.self.invariant) in
    let used = used-word c.args.self.now c.self.inside.words.items keeps c.args.word c.requires in
    let word : c.index.result.now ≡ get_or c.self.inside.words.items c.args.word 0
    = c.index.ensures ∙ get_or_default_zero c.self.inside.words.items c.args.word c.index.result.now used.0 in
    rw (c.from.ensures, word) (least-in-word c.args.self.now c.self.inside.words.items keeps c.args.word used.1)
