use Rattle.std.proofs.Common.{sym}
use Rattle.block_jobs.proofs.PartLemmas.{has_any, has_no}
use Rattle.block_jobs.proofs.parts.has_any.Goals as goal

pub returns-in-Some : goal.returns-in-Some
returns-in-Some c = sym (has_any c.args.set.now c.in-Some.field-0 c.in-Some.ensures)

pub returns-in-None : goal.returns-in-None
returns-in-None c = sym (has_no c.args.set.now c.in-None.ensures)
