use Rattle.std.proofs.Common.{◌≡◌, ◌+◌, ◌∷◌, arith, sym, ◌∙◌, refl, inr, Some, length}
use Rattle.std.specs.Option.{option_copied}
use Rattle.trace_codec.specs.Cut.{parts_of}
use Rattle.trace_codec.specs.Trace.{lines_of}
use Rattle.trace_codec.specs.Script.{count_of_lines}
use Rattle.trace_codec.proofs.ScriptLemmas.{IsAt, at_next, too_many, orders_next}
use Rattle.trace_codec.proofs.script.read_script.Goals as goal

pub returns-then-is_too_many-clause-stop : goal.returns-then-is_too_many-clause-stop
returns-then-is_too_many-clause-stop c =
    let at = rw c.in-Some.is at c.loop-rest.invariant.at in
    inr (
      refl,
      too_many c.loop-rest.number c.in-Some.lines.now c.cut_line.result.0.now (option_copied c.cut_line.result.1) (count_of_lines (lines_of c.args.text.now))
          at c.cut_line.ensures.parts (sym c.is_too_many.ensures ∙ c.if-is_too_many.true),
    )

pub loop-rest-preserved : goal.loop-rest-preserved
loop-rest-preserved c =
    let at = rw c.in-Some.is at c.loop-rest.invariant.at in
    let orders = rw c.in-Some.is at c.loop-rest.invariant.orders in
    let low = at.0 in
    let next : c.saturating_add-number.result ≡ c.loop-rest.number + 1 = omega arith in
    record {
      orders = orders_next c.args.guests.now c.loop-rest.number c.saturating_add-number.result c.in-Some.lines.now c.cut_line.result.0.now (option_copied c.cut_line.result.1) _ _ _
          orders c.cut_line.ensures.parts next c.in-Ok.ensures;
      at = rw next (at_next c.loop-rest.number c.in-Some.lines.now c.cut_line.result.0.now (option_copied c.cut_line.result.1) (count_of_lines (lines_of c.args.text.now))
          at c.cut_line.ensures.parts (sym c.is_too_many.ensures ∙ c.if-is_too_many.false));
    }
