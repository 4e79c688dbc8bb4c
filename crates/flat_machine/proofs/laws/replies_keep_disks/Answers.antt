use Rattle.flat_machine.proofs.Answered.{reply_keeps, refused_edits, failed_call_edits}
use Rattle.flat_machine.proofs.laws.replies_keep_disks.Goals as goal

pub returns-clause-accepted : goal.returns-clause-accepted
returns-clause-accepted c = reply_keeps

pub returns-clause-refused : goal.returns-clause-refused
returns-clause-refused c = refused_edits

pub returns-clause-failed : goal.returns-clause-failed
returns-clause-failed c = failed_call_edits
