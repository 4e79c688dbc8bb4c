use Rattle.world_goings.proofs.Readies.{ready_agrees, readied_comes}
use Rattle.world_goings.proofs.laws.ready_mirrors_agree.Goals as goal

pub returns-clause-agrees : goal.returns-clause-agrees
returns-clause-agrees c = ready_agrees

pub returns-clause-comes : goal.returns-clause-comes
returns-clause-comes c = λ o w v row comes whole joined did. readied_comes o w v row whole joined did comes
