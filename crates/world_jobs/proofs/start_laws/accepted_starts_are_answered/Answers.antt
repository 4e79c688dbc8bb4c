use Rattle.world_jobs.proofs.StartLines.{begun_answers, begun_comes}
use Rattle.world_jobs.proofs.start_laws.accepted_starts_are_answered.Goals as goal

pub returns-clause-answered : goal.returns-clause-answered
returns-clause-answered c = λ w line command u now text new drains good whole joined unfolds after sound did.
    begun_answers w line command good u now text new drains whole joined unfolds after sound did

pub returns-clause-comes : goal.returns-clause-comes
returns-clause-comes c = λ o w line command u now text new drains good whole joined unfolds after sound did not_done can comes.
    begun_comes w line command good u now text new drains whole joined unfolds after sound did o not_done can comes
