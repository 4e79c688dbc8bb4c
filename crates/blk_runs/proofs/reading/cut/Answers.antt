use Rattle.blk_runs.proofs.ReadBack.{cut-at, uncut}
use Rattle.blk_runs.proofs.reading.cut.Goals as goal

pub returns-in-Some-clause-parts : goal.returns-in-Some-clause-parts
returns-in-Some-clause-parts c = cut-at c.in-Some.at c.args.text.now c.in-Some.ensures.found

pub returns-in-None-clause-parts : goal.returns-in-None-clause-parts
returns-in-None-clause-parts c = uncut c.args.text.now c.in-None.ensures.none
