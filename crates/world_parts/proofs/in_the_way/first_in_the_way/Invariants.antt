use Rattle.std.proofs.Common.{◌≡◌, ◌<◌, ℕ}
use Rattle.flat_machine.specs.Marks.{IsInTheWay}
use Rattle.flat_machine.specs.State.{State}
use Rattle.world_parts.proofs.in_the_way.first_in_the_way.Given as goal

-- no guest so far has a request in the way
abbrev pub invariant-loop-guest : goal.invariant-loop-guest
invariant-loop-guest l =
    (s : State) → s.table ≡ l.names.table → s.guests ≡ l.progress.guests → (other : ℕ) → other < l.guest
    → (r : ℕ) → IsInTheWay s l.disks other r → ⊥
