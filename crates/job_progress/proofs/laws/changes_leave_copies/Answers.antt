use Rattle.job_progress.proofs.Changed.{rests_by, all_go}
use Rattle.job_progress.proofs.laws.changes_leave_copies.Goals as goal

pub returns : goal.returns
returns c = λ first s h changes old new works stand leaves did go. all_go works first h changes s old new (rests_by works s.table stand) leaves did go
