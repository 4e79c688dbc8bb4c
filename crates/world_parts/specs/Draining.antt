-- Requests in flight on the disks that are to be drained.
use Rattle.std.specs.Prelude.{ℕ, List, Option, Some, None, option_map}
use Rattle.flat_machine.specs.Marks.{AreCalm, Drained, IsInTheWay, MustWait, after_later}
use Rattle.flat_machine.specs.State.{State, Guest}
use Rattle.world_parts.specs.declared.in_the_way.InTheWay.{InTheWay}

-- the number of a guest's request in flight
abbrev pub number_in_flight : Option Guest → Option ℕ
number_in_flight None = None
number_in_flight (Some row) = option_map (λ flight. row.done) row.flight

-- the request of this guest that is in flight on one of these disks, if any
abbrev pub IsOneOf : State → List ℕ → ℕ → Option ℕ → Type 0
IsOneOf s disks g None = (r : ℕ) → IsInTheWay s disks g r → ⊥
IsOneOf s disks g (Some r) = IsInTheWay s disks g r

-- the first of all guests' requests that are, if any
abbrev pub IsFirstOf : State → List ℕ → Option InTheWay → Type 0
IsFirstOf s disks None = AreCalm s.table s.guests disks
IsFirstOf s disks (Some found) = MustWait s disks found.guest found.request

-- those disks are held where there is one
abbrev pub held_if : Option InTheWay → List ℕ → Drained → Drained
held_if None disks drains = drains
held_if (Some found) disks drains = after_later disks drains
