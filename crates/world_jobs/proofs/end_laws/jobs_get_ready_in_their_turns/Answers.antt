use Rattle.world_jobs.proofs.ReadyTurns.{readies_in_turn, ready_room, ready_whole}
use Rattle.world_jobs.proofs.end_laws.jobs_get_ready_in_their_turns.Goals as goal

pub returns-clause-room : goal.returns-clause-room
returns-clause-room c = λ w slot whole has. ready_room w slot whole has

pub returns-clause-readies : goal.returns-clause-readies
returns-clause-readies c = λ w v slot whole joined has did. readies_in_turn w v slot whole joined has did

pub returns-clause-whole : goal.returns-clause-whole
returns-clause-whole c = λ w v row whole did. ready_whole w v row whole did
