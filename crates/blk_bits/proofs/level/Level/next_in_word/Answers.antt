use Rattle.std.proofs.Common.{◌≡◌, ◌+◌, ◌/◌, ◌%◌, ◌^◌, ◌<◌, ◌≤◌, length, ap, subst, arith, sym, ◌∙◌, get_or}
use Rattle.blk_bits.proofs.LevelLemmas.{WordsKeep, keeps-bits_in}
use Rattle.blk_bits.proofs.FindLemmas.{none-left, none-behind, least-left}
use Rattle.blk_bits.proofs.level.Level.next_in_word.Goals as goal

pub returns-in_err-word : goal.returns-in_err-word
returns-in_err-word c =
    let keeps = subst (λ s. WordsKeep s c.self.inside.words.items) c.self.view_is (keeps-bits_in c.self.inside.count c.self.inside.words.items c.self.invariant) in
    let behind : length c.self.inside.words.items ≤ c.args.from / 64 = omega (arith, c.in_err-word.ensures.lookup.3, ap length c.deref.ensures.value) in
    rw c.from_residual.ensures (none-behind c.args.self.now c.self.inside.words.items keeps c.args.from behind)

pub returns-then-ahead-eq0 : goal.returns-then-ahead-eq0
returns-then-ahead-eq0 c =
    let keeps = subst (λ s. WordsKeep s c.self.inside.words.items) c.self.view_is (keeps-bits_in c.self.inside.count c.self.inside.words.items c.self.invariant) in
    let word : c.in_ok-word.word.now ≡ get_or c.self.inside.words.items (c.args.from / 64) 0
    = c.in_ok-word.ensures.lookup.3.1 0 ∙ ap (λ ws. get_or ws (c.args.from / 64) 0) c.deref.ensures.value in
    none-left c.args.self.now c.self.inside.words.items keeps c.args.from (rw word at c.if-ahead-eq0.true)

pub overflow_add-result : goal.overflow_add-result
overflow_add-result c =
    let keeps = subst (λ s. WordsKeep s c.self.inside.words.items) c.self.view_is (keeps-bits_in c.self.inside.count c.self.inside.words.items c.self.invariant) in
    let word : c.in_ok-word.word.now ≡ get_or c.self.inside.words.items (c.args.from / 64) 0
    = c.in_ok-word.ensures.lookup.3.1 0 ∙ ap (λ ws. get_or ws (c.args.from / 64) 0) c.deref.ensures.value in
    let some : 0 < get_or c.self.inside.words.items (c.args.from / 64) 0 / 2 ^ (c.args.from % 64) = rw (← word) (omega arith) in
    let within = (least-left c.args.self.now c.self.inside.words.items keeps c.args.from some).0 in
    let is = rw word at c.from.ensures in
    omega (arith, within, is)

pub returns : goal.returns
returns c =
    let keeps = subst (λ s. WordsKeep s c.self.inside.words.items) c.self.view_is (keeps-bits_in c.self.inside.count c.self.inside.words.items c.self.invariant) in
    let word : c.in_ok-word.word.now ≡ get_or c.self.inside.words.items (c.args.from / 64) 0
    = c.in_ok-word.ensures.lookup.3.1 0 ∙ ap (λ ws. get_or ws (c.args.from / 64) 0) c.deref.ensures.value in
    let some : 0 < get_or c.self.inside.words.items (c.args.from / 64) 0 / 2 ^ (c.args.from % 64) = rw (← word) (omega arith) in
    rw (c.from.ensures, word) (least-left c.args.self.now c.self.inside.words.items keeps c.args.from some).1
