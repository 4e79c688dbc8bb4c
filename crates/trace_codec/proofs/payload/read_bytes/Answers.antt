use Rattle.std.proofs.Common.{◌≡◌, ◌+◌, ◌*◌, ◌/◌, ◌<◌, Some, length, get_or, sym, ◌∙◌, arith}
use Rattle.trace_codec.specs.Hex.{byte_of}
use Rattle.trace_codec.proofs.HexLemmas.{pair_read, digit_left}
use Rattle.trace_codec.proofs.payload.read_bytes.Goals as goal

pub loop-k-preserved : goal.loop-k-preserved
loop-k-preserved c =
    let digits = c.args.digits.now in
    let near : 2 * c.loop-k.k + 1 < length digits = omega arith in
    let read : byte_of (get_or digits (2 * c.loop-k.k) 0) (get_or digits (2 * c.loop-k.k + 1) 0) ≡ Some c.in-Some.byte = sym c.in-Some.ensures in
    record {
      rest = rw c.in_ok-push.ensures.items (pair_read digits c.loop-k.bytes.items c.loop-k.k c.in-Some.byte near read ∙ c.loop-k.invariant.rest);
      count = omega (arith, c.in_ok-push.ensures.len);
    }

pub returns-else-digits-eq0-clause-value : goal.returns-else-digits-eq0-clause-value
returns-else-digits-eq0-clause-value c =
    let at : c.loop-k.k ≡ length c.args.digits.now / 2 = omega arith in
    sym (digit_left c.args.digits.now c.loop-k.bytes.items c.if-digits-eq0.false (rw at at c.loop-k.invariant.rest))
