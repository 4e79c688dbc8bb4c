use Rattle.world_jobs.proofs.EndWhole.{whole_left}
use Rattle.world_jobs.proofs.end_laws.ends_keep_worlds_whole.Goals as goal

pub returns : goal.returns
returns c = λ w v row why offset whole joined unfolds did. whole_left w v row why offset whole joined unfolds did
