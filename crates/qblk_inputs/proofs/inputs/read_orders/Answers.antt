use Rattle.std.proofs.Common.{rules, refl}
use Rattle.std.specs.Prelude.{IsUtf8}
use Rattle.qblk_inputs.specs.Inputs.{IsRefusedScript, IsScriptFlaw}
use Rattle.qblk_inputs.specs.Reading.{OfFile}
use Rattle.qblk_inputs.specs.declared.stop.InputFlaw.TheVariants.{NotUtf8}
use Rattle.qblk_inputs.proofs.Stops.{refused_for, not_text}
use Rattle.qblk_inputs.proofs.inputs.read_orders.Goals as goal

pub returns-in_default-clause-stop : goal.returns-in_default-clause-stop
returns-in_default-clause-stop g c =
    let files = g.S.Store.files c.args.store.now in
    let other : IsUtf8 c.in-Ok.bytes → ⊥ = search rules in
    refused_for (OfFile files c.args.name.now IsScriptFlaw IsRefusedScript) c.args.name.now 0 NotUtf8 (g.S.Store.faults c.args.store.now) (g.S.Store.faults c.read_file.new.store) c.refused.result
    c.refused.ensures (refl, refl, not_text files c.args.name.now c.in-Ok.bytes c.in-Ok.ensures.read other) c.in-Ok.ensures.quiet
