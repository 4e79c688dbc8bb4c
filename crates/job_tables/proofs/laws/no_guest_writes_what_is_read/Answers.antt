use Rattle.job_tables.proofs.Guests.{guests_apart}
use Rattle.job_tables.proofs.laws.no_guest_writes_what_is_read.Goals as goal

pub returns : goal.returns
returns c = λ t writer reader guest node along down h j d. guests_apart t h j d writer reader guest node along down
