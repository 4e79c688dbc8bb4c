-- What a run of a trace keeps, from its opening on.
use Rattle.std.specs.Prelude.{◌≡◌, ℕ, ◌≤◌, false, length, List, [], ◌∷◌, Some}
use Rattle.blk_history.specs.Line.{IsOfGuest, shown_by}
use Rattle.blk_history.specs.Machine.{io_replay}
use Rattle.blk_history.specs.Legal.{LegalIo}
use Rattle.blk_history.specs.Licence.{counted, NameRises}
use Rattle.blk_history.specs.Small.{IsSmall}
use Rattle.blk_history.specs.declared.event.Event.{Event}
use Rattle.blk_nodes.specs.Nodes.{Nodes}
use Rattle.qblk_core.specs.Along.{HaveNodes, GoesInTurn}
use Rattle.qblk_core.specs.Face.{SessionSeen, state_of, machine_on}
use Rattle.qblk_core.specs.ImageNodes.{told_disk, device_faults, HaveShapeOf}

-- the faults that the history names are rises of the device's count, each named once, and each rise is named
pub record NameAllRises (first : Nodes) (w : SessionSeen) : Type 0 where
  pub risen : NameRises (device_faults first ∷ []) w.log.events
  pub last : counted (device_faults first ∷ []) w.log.events ≡ device_faults w.nodes ∷ []

-- an entry is the guest's, and shows at most one block; its numbers are of 64 bits
pub record HasLine (e : Event) : Type 0 where
  pub whose : IsOfGuest 0 e
  pub shown : length (shown_by e) ≤ 65536
  pub small : IsSmall e

abbrev pub HaveLines : List Event → Type 0
HaveLines [] = Unit {0}
HaveLines (e ∷ es) = HasLine e × HaveLines es

-- The run so far is a history from these nodes on, and the machine after it is what is seen.
pub record ComesFrom (first : Nodes) (w : SessionSeen) : Type 0 where
  pub faults : device_faults first ≤ device_faults w.nodes
  pub shape : HaveShapeOf first w.nodes
  -- the guest is on the image's node, and may write
  pub on_image : w.guest.node ≡ 1
  pub access : w.guest.is_read_only ≡ false
  pub licensed : NameAllRises first w
  pub along : HaveNodes (machine_on first) first w.log.events w.nodes
  pub lines : HaveLines w.log.events
  pub replay : io_replay (machine_on first) w.log.events ≡ state_of w
  pub in_turn : GoesInTurn (machine_on first) w.log.events
  -- where the device tells its bytes
  pub told : (disk : List ℕ) → told_disk first ≡ Some disk
      → (now : List ℕ) × (told_disk w.nodes ≡ Some now)
  pub legal : (disk : List ℕ) → told_disk first ≡ Some disk
      → LegalIo (machine_on first) w.log.events
