use Rattle.std.proofs.Common.{◌≡◌, ◌<◌, ◌≤◌, ℕ, true}
use Rattle.node_copies.specs.Sectors.{has_sector}
use Rattle.node_copies.proofs.sectors.first_unasked.Given as goal

abbrev pub invariant-loop-i : goal.invariant-loop-i
invariant-loop-i l = (j : ℕ) → l.from ≤ j → j < l.i → has_sector l.sectors j ≡ true
