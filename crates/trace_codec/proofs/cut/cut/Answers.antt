use Rattle.trace_codec.proofs.Parts.{cut_at, uncut}
use Rattle.trace_codec.proofs.cut.cut.Goals as goal

pub returns-in-Some-clause-parts : goal.returns-in-Some-clause-parts
returns-in-Some-clause-parts c = cut_at c.args.separator c.in-Some.at c.args.bytes.now c.in-Some.ensures.found

pub returns-in-None-clause-parts : goal.returns-in-None-clause-parts
returns-in-None-clause-parts c = uncut c.args.separator c.args.bytes.now c.in-None.ensures.none
