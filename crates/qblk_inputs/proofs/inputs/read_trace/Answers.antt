use Rattle.std.proofs.Common.{◌≡◌, rules, refl, Err}
use Rattle.std.specs.Prelude.{IsUtf8}
use Rattle.trace_codec.specs.Wishes.{wishes_in}
use Rattle.trace_codec.specs.declared.stop.TraceStop.TheVariants as stops
use Rattle.qblk_inputs.specs.Inputs.{IsRefusedTrace, IsTraceFlaw}
use Rattle.qblk_inputs.specs.Reading.{OfFile}
use Rattle.qblk_inputs.specs.declared.stop.InputFlaw.TheVariants.{NotUtf8, BadLine, TooMany}
use Rattle.qblk_inputs.proofs.Stops.{refused_for, not_text, trace_bad, trace_long}
use Rattle.qblk_inputs.proofs.inputs.read_trace.Goals as goal

pub returns-in_default-clause-stop : goal.returns-in_default-clause-stop
returns-in_default-clause-stop g c =
    let files = g.S.Store.files c.args.store.now in
    let other : IsUtf8 c.in-Ok.bytes → ⊥ = search rules in
    refused_for (OfFile files c.args.name.now (IsTraceFlaw c.args.asked.now) (IsRefusedTrace c.args.asked.now)) c.args.name.now 0 NotUtf8 (g.S.Store.faults c.args.store.now) (g.S.Store.faults c.read_file.new.store) c.refused.result
    c.refused.ensures (refl, refl, not_text files c.args.name.now c.in-Ok.bytes c.in-Ok.ensures.read other) c.in-Ok.ensures.quiet

pub returns-in-Err-BadLine-clause-stop : goal.returns-in-Err-BadLine-clause-stop
returns-in-Err-BadLine-clause-stop g c =
    let files = g.S.Store.files c.args.store.now in
    let is : wishes_in c.args.asked.now c.in-Ok.bytes ≡ Err (stops.BadLine c.in-Err-BadLine.line) = search rules in
    let text : IsUtf8 c.in-Ok.bytes = search rules in
    refused_for (OfFile files c.args.name.now (IsTraceFlaw c.args.asked.now) (IsRefusedTrace c.args.asked.now)) c.args.name.now c.in-Err-BadLine.line BadLine (g.S.Store.faults c.args.store.now)
    (g.S.Store.faults c.read_file.new.store) c.refused-in-Err-BadLine.result c.refused-in-Err-BadLine.ensures
    (trace_bad files c.args.name.now c.in-Ok.bytes c.args.asked.now c.in-Err-BadLine.line c.in-Ok.ensures.read c.in-Ok.ensures.short text is) c.in-Ok.ensures.quiet

pub returns-in-Err-TooMany-clause-stop : goal.returns-in-Err-TooMany-clause-stop
returns-in-Err-TooMany-clause-stop g c =
    let files = g.S.Store.files c.args.store.now in
    let is : wishes_in c.args.asked.now c.in-Ok.bytes ≡ Err (stops.TooMany c.in-Err-TooMany.line) = search rules in
    let text : IsUtf8 c.in-Ok.bytes = search rules in
    refused_for (OfFile files c.args.name.now (IsTraceFlaw c.args.asked.now) (IsRefusedTrace c.args.asked.now)) c.args.name.now c.in-Err-TooMany.line TooMany (g.S.Store.faults c.args.store.now)
    (g.S.Store.faults c.read_file.new.store) c.refused-in-Err-TooMany.result c.refused-in-Err-TooMany.ensures
    (trace_long files c.args.name.now c.in-Ok.bytes c.args.asked.now c.in-Err-TooMany.line c.in-Ok.ensures.read c.in-Ok.ensures.short text is) c.in-Ok.ensures.quiet
