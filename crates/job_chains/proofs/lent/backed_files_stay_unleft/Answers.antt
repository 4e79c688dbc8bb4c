use Rattle.job_chains.proofs.LentLeftEvents.{piece_unleft}
use Rattle.job_chains.proofs.LentLeftKept.{changes_unleft, disk_unleft, opening_unleft, spoiled_unleft}
use Rattle.job_chains.proofs.lent.backed_files_stay_unleft.Goals as goal

pub returns-clause-beginning : goal.returns-clause-beginning
returns-clause-beginning c = opening_unleft

pub returns-clause-changes : goal.returns-clause-changes
returns-clause-changes c = changes_unleft

pub returns-clause-settled : goal.returns-clause-settled
returns-clause-settled c = λ s node h settled. disk_unleft s h node settled

pub returns-clause-failed : goal.returns-clause-failed
returns-clause-failed c = spoiled_unleft

pub returns-clause-pieces : goal.returns-clause-pieces
returns-clause-pieces c = piece_unleft
