-- A world between calls: its one guest and its script go on, there is room for so many entries more, and its store tells nothing.
use Rattle.std.specs.Prelude.{◌≡◌, ℕ, ◌+◌, ◌≤◌, false, [], slice_get, is_some, None}
use Rattle.blk_history.specs.Fold.{With}
use Rattle.blk_history.specs.Legal.{IsFlightOver}
use Rattle.blk_history.specs.Machine.{Flight}
use Rattle.flat_machine.specs.State.{Guest}
use Rattle.trace_codec.specs.Request.{pieces_of}
use Rattle.world_parts.specs.Face.{WorldSeen}
use Rattle.world_parts.specs.Progress.{ended_in}

pub record StandsWith (P : Guest → Type 0) (w : WorldSeen) (left : ℕ) : Type 0 where
  pub untold : is_some w.files ≡ false
  pub ended : ended_in w.progress.log.events ≡ []
  pub guest : With (slice_get w.progress.guests 0) P
  pub room : left ≤ w.progress.spare.entries

-- the guest has no request in flight, and can count more than there are entries to come
pub record IsIdle (left : ℕ) (row : Guest) : Type 0 where
  pub idle : row.flight ≡ None
  pub few : row.done + left ≤ 65536

abbrev pub IsReady : WorldSeen → ℕ → Type 0
IsReady w left = StandsWith (IsIdle left) w left

-- with so many entries more than there will be
abbrev pub IsReadyAfter : ℕ → WorldSeen → ℕ → Type 0
IsReadyAfter n w left = IsReady w (n + left)

-- its request is in flight
pub record IsFlying (P : Flight → Type 0) (left : ℕ) (row : Guest) : Type 0 where
  pub flight : With row.flight P
  pub few : (row.done + 1) + left ≤ 65536

-- its one piece is to be made
pub record IsAtFirst (f : Flight) : Type 0 where
  pub next : f.next ≡ 0
  pub running : f.is_stopped ≡ false
  pub one : pieces_of f.op ≡ 1

abbrev pub IsAsked : WorldSeen → ℕ → Type 0
IsAsked w left = StandsWith (IsFlying IsAtFirst left) w left

-- it was made
abbrev pub IsOver : WorldSeen → ℕ → Type 0
IsOver w left = StandsWith (IsFlying IsFlightOver left) w left
