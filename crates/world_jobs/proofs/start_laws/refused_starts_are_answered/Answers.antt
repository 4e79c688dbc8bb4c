use Rattle.world_jobs.proofs.StartLines.{refused_answers, refused_comes}
use Rattle.world_jobs.proofs.start_laws.refused_starts_are_answered.Goals as goal

pub returns-clause-answered : goal.returns-clause-answered
returns-clause-answered c = λ w line command text good is some. refused_answers w line command good text is some

pub returns-clause-comes : goal.returns-clause-comes
returns-clause-comes c = λ o w line command text good is some whole joined not_done comes. refused_comes w line command good text is some whole joined o not_done comes
