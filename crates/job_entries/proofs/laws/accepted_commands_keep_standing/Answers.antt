use Rattle.job_entries.proofs.Commands.{accepted_at_rest, accepted_suit, accepted_reply, answered}
use Rattle.job_entries.proofs.laws.accepted_commands_keep_standing.Goals as goal

pub returns-clause-tables : goal.returns-clause-tables
returns-clause-tables c = λ t told command rests drawn quiet. accepted_at_rest t told told command rests drawn quiet

pub returns-clause-suit : goal.returns-clause-suit
returns-clause-suit c = λ s told command rests drawn is_told quiet. accepted_suit s told told command rests drawn quiet is_told.refusal

pub returns-clause-replies : goal.returns-clause-replies
returns-clause-replies c = accepted_reply

pub returns-clause-answers : goal.returns-clause-answers
returns-clause-answers c = answered
