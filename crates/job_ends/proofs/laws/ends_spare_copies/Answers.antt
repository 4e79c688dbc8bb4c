use Rattle.job_ends.proofs.Spared.{end_leaves}
use Rattle.job_ends.proofs.laws.ends_spare_copies.Goals as goal

pub returns : goal.returns
returns c = λ works t row outcome h j here. end_leaves works t h j row here outcome
