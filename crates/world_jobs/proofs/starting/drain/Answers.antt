use Rattle.world_jobs.proofs.starting.drain.Goals as goal

pub returns-clause-first : goal.returns-clause-first
returns-clause-first c = λ s table guests.
    rw (c.as_slice.ensures.value, c.in_ok-disks.ensures, c.drained_node.ensures) at (c.first_in_the_way-found.ensures.first s table guests)
