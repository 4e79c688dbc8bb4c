-- Names by number, as a transcript prints them.
use Rattle.std.specs.Prelude.{ℕ, List, []}
use Rattle.qmp_codec.specs.declared.event.JobKind.{JobKind}
use Rattle.qmp_codec.specs.declared.event.JobKind.TheVariants.{Stream}

-- a job: its id, what it does, and the bytes of its source
pub record JobLine : Type 0 where
  pub id : List ℕ
  pub kind : JobKind
  pub size : ℕ

-- the guests, and the jobs in the order of their starts
pub record RowNames : Type 0 where
  pub guests : List (List ℕ)
  pub jobs : List JobLine

-- what stands where a job has no name
abbrev pub no_job : JobLine
no_job = record { id = []; kind = Stream; size = 0 }
