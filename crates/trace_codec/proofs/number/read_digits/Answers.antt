use Rattle.std.proofs.Common.{◌≡◌, sym, arith, get_or}
use Rattle.trace_codec.proofs.Numerals.{refused}
use Rattle.trace_codec.proofs.number.read_digits.Goals as goal

pub returns-in_err-value-clause-value : goal.returns-in_err-value-clause-value
returns-in_err-value-clause-value c =
    let letter : c.from.result ≡ get_or c.args.digits.now c.loop-digit.digit-index 0 = c.from.ensures in
    let same = rw letter at c.in_ok-digit.ensures.value.1 in
    let small = c.in_ok-digit.ensures.value.0 in
    rw c.from_residual-in_err-value.ensures
    (sym (refused c.args.base c.loop-digit.value c.args.limit c.in_ok-digit.digit c.args.digits.now c.loop-digit.digit-index
    (omega arith) (omega arith) (omega (arith, c.in_ok-digit.ensures.value.1, small)) same c.in_err-value.ensures c.loop-digit.invariant.rest))
