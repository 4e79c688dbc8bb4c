-- The guest's row behind each of its entries.
use Rattle.std.proofs.Common.{◌≡◌, ℕ, ◌+◌, ◌≤◌, List, [], ◌∷◌, Bool, true, false, refl, arith, Option, Some, None, inl, inr}
use Rattle.std.specs.Prelude.{slice_get, option_and_then, option_map}
use Rattle.blk_base.specs.Outcomes.{is_good}
use Rattle.blk_base.specs.declared.fault.Outcome.{Outcome}
use Rattle.blk_history.specs.Fold.{With, change}
use Rattle.blk_history.specs.Legal.{IsFlightOver}
use Rattle.blk_history.specs.Machine.{Flight, one_further}
use Rattle.flat_machine.specs.Machine.{admitted, finished, past_piece}
use Rattle.flat_machine.specs.State.{Guest}
use Rattle.trace_codec.specs.Request.{pieces_of}
use Rattle.trace_codec.specs.declared.op.Op.{Op}
use Rattle.world_parts.specs.Face.{WorldSeen}
use Rattle.world_parts.specs.Progress.{flight_at}
use Rattle.world_rows.specs.Ready.{IsAtFirst, IsFlying, IsIdle, IsOver}

-- P of the row gives Q of it
pub row_so : (P Q : Guest → Type 0) (rows : List Guest) → ((row : Guest) → P row → Q row) → With (slice_get rows 0) P → With (slice_get rows 0) Q
row_so P Q [] so has = absurd has
row_so P Q (row ∷ rows) so has = so row has

-- its request in flight
pub flight_in : (P : Flight → Type 0) (left : ℕ) (rows : List Guest) → With (slice_get rows 0) (IsFlying P left) → With (option_and_then (λ (row : Guest). row.flight) (slice_get rows 0)) P
flight_in P left [] has = absurd has
flight_in P left (row ∷ rows) has = has.flight

-- which is over
pub over_now : (w : WorldSeen) (left : ℕ) → IsOver w left → With (flight_at w.progress.guests 0) IsFlightOver
over_now w left over = flight_in IsFlightOver left w.progress.guests over.guest

pub row_after : (P Q : Guest → Type 0) (f : Guest → Guest) (rows : List Guest) → ((row : Guest) → P row → Q (f row)) → With (slice_get rows 0) P → With (slice_get (change 0 f rows) 0) Q
row_after P Q f [] so has = absurd has
row_after P Q f (row ∷ rows) so has = so row has

pub idle_admitted : (left : ℕ) (op : Op) (row : Guest) → pieces_of op ≡ 1 → IsIdle (3 + left) row → IsFlying IsAtFirst left (admitted op row)
idle_admitted left op row one idle =
    let few = idle.few in
    record { flight = record { next = refl; running = refl; one = one }; few = omega (arith, few) }

pub idle_refused : (left : ℕ) (row : Guest) → IsIdle (3 + left) row → IsIdle left (finished row)
idle_refused left row idle = let few = idle.few in record { idle = refl; few = omega (arith, few) }

-- with less to come
pub idle_less : (more left : ℕ) (row : Guest) → left ≤ more → IsIdle more row → IsIdle left row
idle_less more left row less idle = let few = idle.few in record { idle = idle.idle; few = omega (arith, few, less) }

further-over : (outcome : Outcome) (f : Flight) → IsAtFirst f → IsFlightOver (one_further outcome f)
further-over outcome f first = by_good (is_good outcome) refl
  where
    by_good : (b : Bool) → is_good outcome ≡ b → IsFlightOver (one_further outcome f)
    by_good true good = inl (rw (first.next, first.one) refl)
    by_good false bad = inr (rw bad refl)

pub past_flight : (outcome : Outcome) (left : ℕ) (row : Guest) → IsFlying IsAtFirst left row → IsFlying IsFlightOver left (past_piece outcome row)
past_flight outcome left row flying = record { flight = by_flight row.flight flying.flight; few = flying.few }
  where
    by_flight : (x : Option Flight) → With x IsAtFirst → With (option_map (one_further outcome) x) IsFlightOver
    by_flight None has = absurd has
    by_flight (Some f) has = further-over outcome f has

pub flying_finished : (left : ℕ) (row : Guest) → IsFlying IsFlightOver left row → IsIdle left (finished row)
flying_finished left row flying = let few = flying.few in record { idle = refl; few = omega (arith, few) }
