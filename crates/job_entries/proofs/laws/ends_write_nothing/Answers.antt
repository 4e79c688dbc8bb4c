use Rattle.job_entries.proofs.Ending.{end_performed}
use Rattle.job_entries.proofs.laws.ends_write_nothing.Goals as goal

pub returns : goal.returns
returns c = λ s row why old new. end_performed s row why old new
