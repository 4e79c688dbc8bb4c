use Rattle.world_goings.proofs.StartWorld.{start_coherent, start_did, start_shows}
use Rattle.world_goings.proofs.laws.accepted_starts_keep_parts_together.Goals as goal

pub returns-clause-coherent : goal.returns-clause-coherent
returns-clause-coherent c = λ w u nodes told expected command whole joined none table puts next.
    start_coherent w u nodes told expected command whole joined none table puts next

pub returns-clause-shown : goal.returns-clause-shown
returns-clause-shown c = λ w u nodes told expected command whole joined unfolds none table puts next.
    start_shows w u nodes told expected command whole joined none table puts next unfolds

pub returns-clause-performed : goal.returns-clause-performed
returns-clause-performed c = λ w u nodes told expected command s whole joined unfolds none table puts next same.
    start_did w u nodes told expected command whole joined none table puts next unfolds s same
