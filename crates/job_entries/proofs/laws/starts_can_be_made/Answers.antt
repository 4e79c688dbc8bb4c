use Rattle.qmp_rules.specs.Edits.{start_edits}
use Rattle.job_entries.proofs.Starting.{start_can, start_steps, start_performed, start_agrees}
use Rattle.job_entries.proofs.Steps.{steps_keep}
use Rattle.job_entries.proofs.laws.starts_can_be_made.Goals as goal

pub returns-clause-can : goal.returns-clause-can
returns-clause-can c = start_can

pub returns-clause-images : goal.returns-clause-images
returns-clause-images c = λ s row h b. steps_keep (start_edits s.table row) s (start_steps s row b h)

pub returns-clause-performed : goal.returns-clause-performed
returns-clause-performed c = λ s row old new b. start_performed s row b old new

pub returns-clause-disks : goal.returns-clause-disks
returns-clause-disks c = λ opening s row old new b. start_agrees s row b opening old new
