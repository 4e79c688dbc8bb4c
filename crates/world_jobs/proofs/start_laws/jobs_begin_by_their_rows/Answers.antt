use Rattle.world_jobs.proofs.StartBegun.{begins_so}
use Rattle.world_jobs.proofs.start_laws.jobs_begin_by_their_rows.Goals as goal

pub returns : goal.returns
returns c = λ x row new bitmaps works progress is there noted put started. begins_so x row new is bitmaps works progress there noted put started
