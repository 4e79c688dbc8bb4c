use Rattle.std.proofs.Common.{◌≡◌, ◌+◌, ◌-◌, ◌*◌, ◌/◌, ◌%◌, arith}
use Rattle.blk_bits.proofs.WordLemmas.{three_written}
use Rattle.blk_bits.specs.Words.{has_bit}
use Rattle.blk_bits.proofs.words.write_bits.Goals as goal

pub returns-else-first-last-clause-written : goal.returns-else-first-last-clause-written
returns-else-first-last-clause-written c = λ k.
    let first = c.args.from / 64 in
    let last = (c.args.to - 1) / 64 in
    let begins : 64 * first + c.args.from % 64 ≡ c.args.from = omega arith in
    let ends : 64 * last + (c.args.to - 64 * last) ≡ c.args.to = omega arith in
    let begin : 64 * last + 0 ≡ 64 * last = omega arith in
    let next : 64 * first + 64 ≡ 64 * (first + 1) = omega arith in
    let front = rw (begins, next) at (c.write_word-else-first-last.ensures k) in
    let back = rw (ends, begin) at (c.write_word-else-first-last-2.ensures k) in
    three_written c.args.value (has_bit c.args.words.now k) (has_bit c.write_word-else-first-last.new.words k) (has_bit c.fill_words.new.words k)
    (has_bit c.write_word-else-first-last-2.new.words k) c.args.from (64 * (first + 1)) (64 * last) c.args.to k (omega arith) (omega arith) (omega arith)
    front (c.fill_words.ensures k) back
