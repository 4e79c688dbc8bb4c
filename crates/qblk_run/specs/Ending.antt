-- How a run ends whose world is closed.
use Rattle.std.specs.Prelude.{◌≡◌, ◌⊎◌, ℕ, List, ◌++◌, Option, Some, None, option_map}
use Rattle.blk_base.specs.Written.{Written}
use Rattle.blk_base.specs.declared.fault.FaultAt.{FaultAt}
use Rattle.trace_codec.specs.declared.waits.Waits.{Waits}
use Rattle.qblk_core.specs.Output.{SendsFront}
use Rattle.qblk_core.specs.declared.status.Status.{Status}
use Rattle.qblk_core.specs.declared.status.Status.TheVariants.{Done, Fault, Stuck, NoMemory}
use Rattle.qblk_core.specs.Session.{failed_as}

-- by its first fault, where one came; else by whether an actor is not done
abbrev pub stuck_as : Option (ℕ × Waits Written) → Status
stuck_as None = Done
stuck_as (Some r) = Stuck r.0 r.1

abbrev pub ended_as : Option FaultAt → Option (ℕ × Waits Written) → Status
ended_as None waiting = stuck_as waiting
ended_as (Some fault) waiting = Fault fault.from fault.count

-- the whole transcript went out
pub record WentOut (old new : Option (List ℕ)) (whole : List ℕ) (before now : ℕ) : Type 0 where
  pub sent : new ≡ option_map (λ s. s ++ whole) old
  pub sink : now ≡ before

-- Memory wasn't had, and nothing went out; or all of it did, or a front of it and a put failed, and the status says how it
-- ended.
abbrev pub EndsAs : Option FaultAt → Option (ℕ × Waits Written) → Option (List ℕ) → Option (List ℕ)
    → List ℕ → ℕ → ℕ → Status → Type 0
EndsAs fault waiting old new whole before now status =
    ((status ≡ NoMemory) × (new ≡ old) × (now ≡ before))
    ⊎ ((status ≡ ended_as fault waiting) × WentOut old new whole before now)
    ⊎ ((status ≡ failed_as fault now) × SendsFront old new whole before now)
