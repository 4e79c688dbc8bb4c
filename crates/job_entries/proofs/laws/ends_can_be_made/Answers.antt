use Rattle.flat_machine.specs.Jobs.{outcome_of, changes_at_end}
use Rattle.flat_machine.proofs.ImagesChanged.{all_images_keep}
use Rattle.flat_machine.proofs.Kept.{changes_keep}
use Rattle.job_tables.proofs.EndSuits.{ends_suit}
use Rattle.job_entries.proofs.Ending.{end_can, end_steps}
use Rattle.job_entries.proofs.Steps.{steps_keep}
use Rattle.job_entries.proofs.laws.ends_can_be_made.Goals as goal

pub returns-clause-can : goal.returns-clause-can
returns-clause-can c = λ s row why h j here. end_can s h j row here why

pub returns-clause-images : goal.returns-clause-images
returns-clause-images c = λ s row why h j here. steps_keep (changes_at_end s row why) s (end_steps s h j row here why)

pub returns-clause-disks : goal.returns-clause-disks
returns-clause-disks c = λ opening s row why old new h j here rests did agrees.
    let kept = changes_keep opening (changes_at_end s row why) s old new (end_can s h j row here why rests) did agrees in
    record { disks = kept.disks; known = kept.known; absent = kept.absent; left = kept.left; unchanged = kept.unchanged }

pub returns-clause-shown : goal.returns-clause-shown
returns-clause-shown c = λ opening s row why old new stands j d here e rests did agrees shows node.
    let kept = all_images_keep opening (changes_at_end s row why) s old new (ends_suit s row (outcome_of why) stands j d here e)
    (end_can s stands.table j row here why rests) (steps_keep (changes_at_end s row why) s (end_steps s stands.table j row here why)) stands agrees did shows node in
    record { noted = kept.noted; mapped = kept.mapped }
