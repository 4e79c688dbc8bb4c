use Rattle.job_tables.proofs.EndSuits.{ends_stand, ends_suit}
use Rattle.job_tables.proofs.laws.ends_stand.Goals as goal

pub returns-clause-suit : goal.returns-clause-suit
returns-clause-suit c = ends_suit

pub returns-clause-stand : goal.returns-clause-stand
returns-clause-stand c = ends_stand
