use Rattle.std.proofs.Common.{◌≡◌, ◌<◌, drop}
use Rattle.trace_codec.specs.Number.{digits_after}
use Rattle.trace_codec.proofs.number.read_digits.Given as goal

-- the digits that are left, behind the number so far, write the number of all
abbrev pub invariant-loop-digit : goal.invariant-loop-digit
invariant-loop-digit l = record {
  rest : digits_after l.base l.value (drop l.digit-index l.digits) ≡ digits_after l.base 0 l.digits;
  small : 0 < l.digit-index → l.value < l.limit;
}
