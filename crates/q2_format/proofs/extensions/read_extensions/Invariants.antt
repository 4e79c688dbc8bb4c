-- What is left of the list, with the format found so far, says what the whole list says.
use Rattle.std.proofs.Common.{◌-◌, ◌≡◌, ◌^◌, ◌<◌, None}
use Rattle.q2_format.specs.Header.{extensions_from}
use Rattle.q2_format.proofs.extensions.read_extensions.Given as goal

abbrev pub invariant-loop-at : goal.invariant-loop-at
invariant-loop-at l = (extensions_from l.cluster l.at l.end l.format ≡ extensions_from l.cluster l.start l.end None) × (l.at < 2 ^ 33)

abbrev pub decreases-loop-at : goal.decreases-loop-at
decreases-loop-at l = l.end - l.at
