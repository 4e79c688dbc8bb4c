use Rattle.flat_machine.proofs.Kept.{change_keeps, changes_keep}
use Rattle.flat_machine.proofs.laws.changes_keep_disks.Goals as goal

pub returns-clause-change : goal.returns-clause-change
returns-clause-change c = change_keeps

pub returns-clause-changes : goal.returns-clause-changes
returns-clause-changes c = changes_keep
