use Rattle.trace_codec.proofs.ScriptLemmas.{cut_parts, uncut_parts}
use Rattle.trace_codec.proofs.script.cut_line.Goals as goal

pub returns-in-Some-clause-parts : goal.returns-in-Some-clause-parts
returns-in-Some-clause-parts c =
    let cut = c.in-Some.ensures in
    cut_parts c.args.text.now c.in-Some.line.now c.in-Some.rest.now (record { there = cut.0; front_is = cut.1; back_is = cut.2 })

pub returns-in-None-clause-parts : goal.returns-in-None-clause-parts
returns-in-None-clause-parts c = uncut_parts c.args.text.now c.in-None.ensures
