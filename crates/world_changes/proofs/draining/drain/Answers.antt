use Rattle.std.proofs.Common.{List, ℕ, subst, ◌∙◌}
use Rattle.world_parts.specs.Draining.{IsFirstOf}
use Rattle.world_changes.proofs.draining.drain.Goals as goal

pub returns-clause-first : goal.returns-clause-first
returns-clause-first c = λ s table guests.
    subst (λ (disks : List ℕ). IsFirstOf s disks c.first_in_the_way-found.result) (c.as_slice.ensures.value ∙ c.in_ok-disks.ensures)
    (c.first_in_the_way-found.ensures.first s table guests)
