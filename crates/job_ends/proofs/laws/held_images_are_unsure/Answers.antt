use Rattle.job_ends.proofs.Held.{opening_held, started_held, readied_held, ended_held, all_leaving_held, snapshot_held, beginning_held, other_held, piece_held}
use Rattle.job_ends.proofs.laws.held_images_are_unsure.Goals as goal

pub returns-clause-beginning : goal.returns-clause-beginning
returns-clause-beginning c = opening_held

pub returns-clause-starts : goal.returns-clause-starts
returns-clause-starts c = started_held

pub returns-clause-ready : goal.returns-clause-ready
returns-clause-ready c = readied_held

pub returns-clause-ends : goal.returns-clause-ends
returns-clause-ends c = ended_held

pub returns-clause-changes : goal.returns-clause-changes
returns-clause-changes c = all_leaving_held

pub returns-clause-snapshots : goal.returns-clause-snapshots
returns-clause-snapshots c = snapshot_held

pub returns-clause-begins : goal.returns-clause-begins
returns-clause-begins c = beginning_held

pub returns-clause-others : goal.returns-clause-others
returns-clause-others c = other_held

pub returns-clause-pieces : goal.returns-clause-pieces
returns-clause-pieces c = piece_held
