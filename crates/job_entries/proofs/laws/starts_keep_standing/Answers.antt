use Rattle.qmp_rules.specs.Edits.{start_edits}
use Rattle.flat_machine.proofs.ImagesChanged.{all_images_keep}
use Rattle.job_entries.proofs.Inline.{steps_rest}
use Rattle.job_entries.proofs.Starting.{start_can, start_steps, start_performed}
use Rattle.job_entries.proofs.StartSuits.{start_suits}
use Rattle.job_entries.proofs.Steps.{steps_keep}
use Rattle.job_entries.proofs.laws.starts_keep_standing.Goals as goal

pub returns-clause-suit : goal.returns-clause-suit
returns-clause-suit c = λ s row h j d b. start_suits s h.table j d row b

pub returns-clause-rests : goal.returns-clause-rests
returns-clause-rests c = λ s row rests b suits. steps_rest (start_edits s.table row) s (start_steps s row b rests.stands.table) suits rests

pub returns-clause-shown : goal.returns-clause-shown
returns-clause-shown c = λ opening s row old new h b suits shows agrees shown.
    all_images_keep opening (start_edits s.table row) s old new suits (start_can s row b)
    (steps_keep (start_edits s.table row) s (start_steps s row b h.table)) h agrees (start_performed s row b old new shows) shown
