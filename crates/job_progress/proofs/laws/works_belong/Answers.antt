use Rattle.job_progress.proofs.Belong.{changes_belong, begins_belong, ends_belong, sizes_belong, marks_belong, step_belongs}
use Rattle.job_progress.proofs.laws.works_belong.Goals as goal

pub returns-clause-changes : goal.returns-clause-changes
returns-clause-changes c = changes_belong

pub returns-clause-begins : goal.returns-clause-begins
returns-clause-begins c = begins_belong

pub returns-clause-ends : goal.returns-clause-ends
returns-clause-ends c = ends_belong

pub returns-clause-sizes : goal.returns-clause-sizes
returns-clause-sizes c = sizes_belong

pub returns-clause-marks : goal.returns-clause-marks
returns-clause-marks c = marks_belong

pub returns-clause-steps : goal.returns-clause-steps
returns-clause-steps c = step_belongs
