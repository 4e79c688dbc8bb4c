use Rattle.flat_machine.proofs.Suited.{accepted_suits}
use Rattle.flat_machine.proofs.Resting.{reply_rests, refused_rests, no_command}
use Rattle.flat_machine.proofs.laws.replies_keep_standing.Goals as goal

pub returns-clause-suits : goal.returns-clause-suits
returns-clause-suits c = λ s told command begins rests is_told quiet. accepted_suits s told told command begins rests is_told.refusal quiet

pub returns-clause-accepted : goal.returns-clause-accepted
returns-clause-accepted c = reply_rests

pub returns-clause-refused : goal.returns-clause-refused
returns-clause-refused c = refused_rests

pub returns-clause-others : goal.returns-clause-others
returns-clause-others c = no_command
