use Rattle.world_goings.proofs.Starts.{starts_comes}
use Rattle.world_goings.proofs.laws.starts_keep_worlds_coming.Goals as goal

pub returns : goal.returns
returns c = λ o w x v line command comes whole joined unfolds can not_done good replied says joined_next begins.
    starts_comes o w x v line command good replied begins whole joined unfolds joined_next can says not_done comes
