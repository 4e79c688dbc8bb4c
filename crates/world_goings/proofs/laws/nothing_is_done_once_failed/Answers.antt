use Rattle.world_goings.proofs.Failed.{begun_done, gone_done, marked_done, unmet_flight, unmet_next, unmet_sectors}
use Rattle.world_goings.proofs.laws.nothing_is_done_once_failed.Goals as goal

pub returns-clause-next : goal.returns-clause-next
returns-clause-next c = λ work block done is. unmet_next work done block is

pub returns-clause-left : goal.returns-clause-left
returns-clause-left c = λ work block done some. unmet_sectors work done block some

pub returns-clause-flight : goal.returns-clause-flight
returns-clause-flight c = λ work t done flies. unmet_flight work done t flies

pub returns-clause-begun : goal.returns-clause-begun
returns-clause-begun c = λ works work none all. begun_done works work none all

pub returns-clause-marked : goal.returns-clause-marked
returns-clause-marked c = λ job span works all. marked_done job span works all

pub returns-clause-gone : goal.returns-clause-gone
returns-clause-gone c = λ job works all. gone_done job works all
