use Rattle.std.proofs.Common.{◌∙◌, subst, sym}
use Rattle.std.specs.Prelude.{◌<◌}
use Rattle.job_ends.proofs.Aside.{target_agrees, aside_shows, aside_none, aside_turn}
use Rattle.job_ends.proofs.Ends.{copier, target_held, target_plain_of, written_is}
use Rattle.job_ends.proofs.laws.targets_are_written_aside.Goals as goal

pub returns-clause-disks : goal.returns-clause-disks
returns-clause-disks c = λ opening s row target old new h j run files started here copies is.
    target_agrees s row target h run files started here (copier row.kind copies) (written_is row copies ∙ is) (target_plain_of s.table row j here copies target is)
    opening old new

pub returns-clause-images : goal.returns-clause-images
returns-clause-images c = λ s row target old new stands j run held started here copies is.
    aside_shows s stands target (target_plain_of s.table row j here copies target is)
    (held row target here (subst (λ n. row.number < n) (sym started) (run.numbers row here)) (target_held s.table row j here copies target is)) old new

pub returns-clause-none : goal.returns-clause-none
returns-clause-none c = aside_none

pub returns-clause-in_turn : goal.returns-clause-in_turn
returns-clause-in_turn c = aside_turn
