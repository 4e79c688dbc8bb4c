use Rattle.job_tables.proofs.Ended.{ends_keep}
use Rattle.job_tables.proofs.laws.ends_keep_permissions.Goals as goal

pub returns-clause-drawn : goal.returns-clause-drawn
returns-clause-drawn c = λ t row outcome h j d here. (ends_keep t row outcome h j d here).0

pub returns-clause-acyclic : goal.returns-clause-acyclic
returns-clause-acyclic c = λ t row outcome h j d here. (ends_keep t row outcome h j d here).1
