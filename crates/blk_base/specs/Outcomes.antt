-- Outcomes of pieces.
use Rattle.std.specs.Prelude.{Bool, true, false}
use Rattle.blk_base.specs.declared.fault.Outcome.{Outcome}
use Rattle.blk_base.specs.declared.fault.Outcome.TheVariants.{Good, Torn, Io, NoSpace}

abbrev pub is_good : Outcome → Bool
is_good Good = true
is_good (Torn done dev count) = false
is_good (Io dev count) = false
is_good (NoSpace dev) = false
