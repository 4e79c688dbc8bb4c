use Rattle.blk_history.proofs.OneGuest.{one-history}
use Rattle.blk_history.proofs.laws.one_guest_has_one_history.Goals as goal

pub returns : goal.returns
returns c = one-history
