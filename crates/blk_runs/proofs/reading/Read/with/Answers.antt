use Rattle.std.proofs.Common.{◌≡◌, ◌≢◌, ◌+◌, ◌≤◌, Some, refl, arith, rules}
use Rattle.blk_runs.specs.Reading.{seen_run}
use Rattle.blk_runs.proofs.ReadBack.{read-with, read-apart, read-within}
use Rattle.blk_runs.proofs.reading.Read.with.Goals as goal

pub returns-then-eq : goal.returns-then-eq
returns-then-eq c = λ front back has are.
    let same : c.args.self.last ≡ Some c.args.run.byte = search (rules, c.eq.ensures, c.if-eq.true) in
    read-apart front back c.args.self (seen_run c.args.run) has are same

pub returns-then-len-gt-MOST_BYTES : goal.returns-then-len-gt-MOST_BYTES
returns-then-len-gt-MOST_BYTES c = λ front back has are.
    let within = read-within front back c.args.self (seen_run c.args.run) has are in
    absurd (omega (arith, within, c.if-len-gt-MOST_BYTES.true))

pub returns : goal.returns
returns c = λ front has.
    let apart : c.args.self.last ≢ Some c.args.run.byte = λ same. absurd (search (rules, same, c.eq.ensures, c.if-eq.false)) in
    let within : c.args.self.len + c.args.run.count ≤ 65536 = omega arith in
    read-with front c.args.self _ (seen_run c.args.run) c.requires has apart within refl (omega arith)
