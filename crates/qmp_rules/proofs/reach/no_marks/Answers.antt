use Rattle.qmp_rules.proofs.ReachLemmas.{unmarked}
use Rattle.qmp_rules.proofs.reach.no_marks.Goals as goal

pub returns-clause-none : goal.returns-clause-none
returns-clause-none c = unmarked
