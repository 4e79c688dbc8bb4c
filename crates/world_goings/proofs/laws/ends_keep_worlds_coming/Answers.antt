use Rattle.world_goings.proofs.Ends.{ends_comes}
use Rattle.world_goings.proofs.laws.ends_keep_worlds_coming.Goals as goal

pub returns : goal.returns
returns c = λ o w v row why offset comes whole joined unfolds did joined_now.
    ends_comes o w v row why offset whole joined unfolds did joined_now comes
