-- One step goes on with what is left behind the extension.
use Rattle.std.proofs.Common.{◌≡◌, ◌+◌, ◌≤◌, sym, ◌∙◌, arith}
use Rattle.q2_format.specs.Header.{extension_length}
use Rattle.q2_format.proofs.Extending.{extensions_next}
use Rattle.q2_format.proofs.extensions.read_extensions.Goals as goal

pub loop-at-preserved : goal.loop-at-preserved
loop-at-preserved c =
    let len : c.from-len.result ≡ extension_length c.args.cluster.now c.loop-at.at = omega arith in
    let fits : c.loop-at.at + 8 + extension_length c.args.cluster.now c.loop-at.at ≤ c.args.end = omega arith in
    let next = extensions_next c.args.cluster.now c.loop-at.at c.args.end c.loop-at.format c.loop-at-test.true fits
    (λ e. c.if-u32_at-eq-END_OF_EXTENSIONS.false (c.u32_at-in-loop-at.ensures ∙ e)) in
    (rw (c.format_behind-format.ensures, len) (sym next ∙ c.loop-at.invariant.0), omega arith)
