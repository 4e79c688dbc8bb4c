use Rattle.job_tables.proofs.GuestWrites.{written_drawn}
use Rattle.job_tables.proofs.laws.guests_writes_keep_jobs.Goals as goal

pub returns : goal.returns
returns c = λ t writer guest h g there from drive asks. written_drawn t h g writer guest there from drive asks
