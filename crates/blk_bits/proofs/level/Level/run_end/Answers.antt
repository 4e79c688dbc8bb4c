use Rattle.std.proofs.Common.{◌≡◌, ◌+◌, ◌-◌, ◌/◌, ◌<◌, length, ap, subst, arith, sym, ◌∙◌, get_or}
use Rattle.std.proofs.lemmas.Grind.{get_or_default_zero}
use Rattle.blk_bits.proofs.LevelLemmas.{WordsKeep, keeps-bits_in, length-bits_in}
use Rattle.blk_bits.proofs.FindLemmas.{run-left, member-below}
use Rattle.blk_bits.proofs.level.Level.run_end.Goals as goal

pub index-requires : goal.index-requires
index-requires c =
    omega (arith, member-below c.args.self.now c.args.from c.requires, ap length c.self.view_is, length-bits_in c.self.inside.count c.self.inside.words.items, c.self.invariant.enough, c.self.inside.words.ok.0)

pub overflow_add-result : goal.overflow_add-result
overflow_add-result c =
    let keeps = subst (λ s. WordsKeep s c.self.inside.words.items) c.self.view_is (keeps-bits_in c.self.inside.count c.self.inside.words.items c.self.invariant) in
    let there : c.args.from / 64 < length c.self.inside.words.items
    = omega (arith, member-below c.args.self.now c.args.from c.requires, ap length c.self.view_is, length-bits_in c.self.inside.count c.self.inside.words.items, c.self.invariant.enough) in
    let word : c.index.result.now ≡ get_or c.self.inside.words.items (c.args.from / 64) 0
    = c.index.ensures ∙ get_or_default_zero c.self.inside.words.items (c.args.from / 64) c.index.result.now there in
    let ones = rw word at (c.from.ensures ∙ c.trailing_ones.ensures) in
    let run = run-left c.args.self.now c.self.inside.words.items keeps c.args.from c.requires in
    let last = member-below c.args.self.now (c.args.from + c.from.result - 1) (run.1 (c.args.from + c.from.result - 1) (omega (arith, run.0, ones)) (omega (arith, run.0, ones))) in
    omega (arith, last, ap length c.self.view_is, length-bits_in c.self.inside.count c.self.inside.words.items, c.self.invariant.small)

pub returns-clause-further : goal.returns-clause-further
returns-clause-further c =
    let keeps = subst (λ s. WordsKeep s c.self.inside.words.items) c.self.view_is (keeps-bits_in c.self.inside.count c.self.inside.words.items c.self.invariant) in
    let there : c.args.from / 64 < length c.self.inside.words.items
    = omega (arith, member-below c.args.self.now c.args.from c.requires, ap length c.self.view_is, length-bits_in c.self.inside.count c.self.inside.words.items, c.self.invariant.enough) in
    let word : c.index.result.now ≡ get_or c.self.inside.words.items (c.args.from / 64) 0
    = c.index.ensures ∙ get_or_default_zero c.self.inside.words.items (c.args.from / 64) c.index.result.now there in
    let ones = rw word at (c.from.ensures ∙ c.trailing_ones.ensures) in
    omega (arith, (run-left c.args.self.now c.self.inside.words.items keeps c.args.from c.requires).0, ones)

pub returns-clause-members : goal.returns-clause-members
returns-clause-members c =
    let keeps = subst (λ s. WordsKeep s c.self.inside.words.items) c.self.view_is (keeps-bits_in c.self.inside.count c.self.inside.words.items c.self.invariant) in
    let there : c.args.from / 64 < length c.self.inside.words.items
    = omega (arith, member-below c.args.self.now c.args.from c.requires, ap length c.self.view_is, length-bits_in c.self.inside.count c.self.inside.words.items, c.self.invariant.enough) in
    let word : c.index.result.now ≡ get_or c.self.inside.words.items (c.args.from / 64) 0
    = c.index.ensures ∙ get_or_default_zero c.self.inside.words.items (c.args.from / 64) c.index.result.now there in
    rw (c.from.ensures, c.trailing_ones.ensures, word) (run-left c.args.self.now c.self.inside.words.items keeps c.args.from c.requires).1
