use Rattle.world_jobs.proofs.StartWhole.{start_counted, start_found, start_whole}
use Rattle.world_jobs.proofs.start_laws.starts_keep_worlds_whole.Goals as goal

pub returns-clause-whole : goal.returns-clause-whole
returns-clause-whole c = λ w u now command new reply whole joined none table puts after is sound.
    start_whole w u now command whole joined none table puts after new is sound reply

pub returns-clause-found : goal.returns-clause-found
returns-clause-found c = λ w u now command new reply whole joined none table puts after is sound.
    (start_counted w u now command whole joined none table puts after new is sound reply, start_found w u now command whole joined none table puts after new is sound reply)
