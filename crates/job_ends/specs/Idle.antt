-- Works for which a call failed.
use Rattle.std.specs.Prelude.{List, Contains, IsSome}
use Rattle.block_jobs.specs.Work.{JobWork}
use Rattle.job_ends.specs.Ended.{OwesNothing}

-- once a fault was met nothing is left, and no copy is in flight
abbrev pub MetIsIdle : JobWork → Type 0
MetIsIdle work = IsSome work.met → OwesNothing work

abbrev pub AllMetAreIdle : List JobWork → Type 0
AllMetAreIdle works = (work : JobWork) → Contains works work → MetIsIdle work
