use Rattle.std.proofs.Common.{◌≡◌, ◌<◌, ◌≤◌, ℕ, false}
use Rattle.node_copies.specs.Sectors.{has_sector}
use Rattle.node_copies.proofs.sectors.first_asked.Given as goal

abbrev pub invariant-loop-i : goal.invariant-loop-i
invariant-loop-i l = (j : ℕ) → l.from ≤ j → j < l.i → has_sector l.sectors j ≡ false
