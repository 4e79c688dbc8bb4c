-- Without and with bit 63, the sum is the entry's spelling.
use Rattle.std.proofs.Common.{◌≡◌, ◌+◌, true, false, arith}
use Rattle.q2_format.specs.Entry.{l2_spelling}
use Rattle.q2_format.proofs.Words.{entry_of_spelling}
use Rattle.q2_format.proofs.entries.l2_word.Goals as goal

pub returns-then-single-clause-reads_back : goal.returns-then-single-clause-reads_back
returns-then-single-clause-reads_back c =
    let word : c.unflagged-word.result + 9223372036854775808 ≡ l2_spelling c.args.entry true = omega arith in
    rw word (entry_of_spelling c.args.entry true c.requires.entry)

pub returns-else-single-clause-reads_back : goal.returns-else-single-clause-reads_back
returns-else-single-clause-reads_back c =
    let word : c.unflagged-word.result ≡ l2_spelling c.args.entry false = omega arith in
    rw word (entry_of_spelling c.args.entry false c.requires.entry)
