use Rattle.job_results.proofs.Results.{mirrors}
use Rattle.job_results.proofs.laws.mirrors_show_their_end.Goals as goal

pub returns : goal.returns
returns c = mirrors
