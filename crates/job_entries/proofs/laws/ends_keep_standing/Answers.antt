use Rattle.std.proofs.Common.{refl}
use Rattle.flat_machine.specs.Changed.{all_stepped}
use Rattle.flat_machine.specs.Jobs.{outcome_of, changes_at_end, noted_end}
use Rattle.flat_machine.proofs.Resting.{beside_rests}
use Rattle.job_tables.proofs.EndSuits.{ends_suit}
use Rattle.job_entries.proofs.Ending.{end_steps}
use Rattle.job_entries.proofs.Inline.{steps_rest}
use Rattle.job_entries.proofs.laws.ends_keep_standing.Goals as goal

pub returns : goal.returns
returns c = λ s row why rests j d here e.
    beside_rests (all_stepped s (changes_at_end s row why)) (noted_end s row why) refl refl refl refl (λ node some. some)
    (steps_rest (changes_at_end s row why) s (end_steps s rests.stands.table j row here why)
    (ends_suit s row (outcome_of why) rests.stands j d here e) rests)
