use Rattle.std.proofs.Common.{◌≡◌, subst, sym, ◌∙◌, arith, rules}
use Rattle.std.specs.Str.{IsUtf8}
use Rattle.std.proofs.lemmas.Str.{IsUtf8-from_ascii}
use Rattle.std.proofs.lemmas.Fmt.{IsAscii-decimal}
use Rattle.blk_runs.proofs.reading.number_in.Goals as goal

pub returns-in-Ok : goal.returns-in-Ok
returns-in-Ok c = λ n small written.
    let same : c.in-Ok.text.now ≡ c.args.digits.now = search (rules, c.in-Ok.ensures.cases) in
    c.number_of.ensures n small (written ∙ sym same)

pub returns-in-Err : goal.returns-in-Err
returns-in-Err c = λ n small written.
    let is : IsUtf8 c.args.digits.now = subst IsUtf8 written (IsUtf8-from_ascii _ (IsAscii-decimal n (omega arith))) in
    absurd (search (rules, is, c.in-Err.ensures.cases))
