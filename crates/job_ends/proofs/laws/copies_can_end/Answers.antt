use Rattle.job_ends.proofs.Ends.{copy_suits, copy_rests}
use Rattle.job_ends.proofs.laws.copies_can_end.Goals as goal

pub returns-clause-suits : goal.returns-clause-suits
returns-clause-suits c = λ s row h run go rows files started here copies. copy_suits s row h run here copies rows go files started

pub returns-clause-rests : goal.returns-clause-rests
returns-clause-rests c = copy_rests
