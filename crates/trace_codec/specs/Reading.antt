-- How far a trace is read.
use Rattle.std.specs.Prelude.{ℕ, List}
use Rattle.trace_codec.specs.declared.op.Op.{Op}
use Rattle.trace_codec.specs.Amounts.{Amounts}

-- the number of the line that comes, the requests before it, and what all traces ask up to there
pub record Reading : Type 0 where
  pub line : ℕ
  pub ops : List Op
  pub asked : Amounts
