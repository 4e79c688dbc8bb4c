-- What a guest's request is judged by.
use Rattle.std.proofs.Common.{◌≡◌, ℕ, ◌≤◌, Bool, subst, Option, Some, None}
use Rattle.blk_base.specs.Pieces.{end_of}
use Rattle.trace_codec.specs.declared.op.Op.{Op}
use Rattle.blk_history.specs.Disk.{span_of}
use Rattle.blk_history.specs.Fold.{With}
use Rattle.qmp_rules.specs.declared.rows.DeviceRow.{DeviceRow}
use Rattle.qmp_rules.specs.Table.{RunTable, device_by_number}
use Rattle.qmp_rules.specs.Queries.{bytes_of_node}
use Rattle.flat_machine.specs.State.{disk_of_guest}
use Rattle.flat_machine.specs.Legal.{IsNextJudged, IsInside, IsForbidden, CanAdmit}
use Rattle.world_parts.specs.declared.admission.Seat.{Seat}
use Rattle.world_parts.specs.Face.{WorldSeen, seen_state}
use Rattle.world_parts.specs.Steps.{IsSeat}

-- what follows of what is there
with-map : {A : Type 0} (x : Option A) (P Q : A → Type 0) → ((a : A) → P a → Q a) → With x P → With x Q
with-map None P Q f is = is
with-map (Some a) P Q f is = f a is

-- a request that ends within a size ends within the guest's disk
pub seat-fits : (t : RunTable) (g : ℕ) (seat : Seat) (op : Op) → IsSeat t g seat → IsInside op seat.size
    → With (disk_of_guest t g) (λ node. end_of (span_of op) ≤ bytes_of_node t node)
seat-fits t g seat op is inside =
    with-map (disk_of_guest t g) (λ node. seat.size ≡ bytes_of_node t node) (λ node. end_of (span_of op) ≤ bytes_of_node t node) (λ node same. rw (← same) inside) is.size_is

-- what was judged to be admitted lies within the guest's disk
pub judged-inside : (w : WorldSeen) (g r : ℕ) (op : Op) → IsNextJudged (seen_state w) g r (CanAdmit op)
    → With (disk_of_guest w.table g) (λ node. end_of (span_of op) ≤ bytes_of_node w.table node)
judged-inside w g r op is = at (device_by_number w.table g) is.2
  where
    at : (device : Option DeviceRow) → With device (λ d. With (disk_of_guest w.table g) (λ node. CanAdmit op d.read_only (bytes_of_node w.table node)))
        → With (disk_of_guest w.table g) (λ node. end_of (span_of op) ≤ bytes_of_node w.table node)
    at None none = absurd none
    at (Some device) holds =
        with-map (disk_of_guest w.table g) (λ node. CanAdmit op device.read_only (bytes_of_node w.table node)) (λ node. end_of (span_of op) ≤ bytes_of_node w.table node)
        (λ node can. can.inside) holds

-- what it is judged by is the device's
pub seat-allows : (t : RunTable) (g : ℕ) (seat : Seat) (op : Op) → IsSeat t g seat → (IsForbidden op seat.read_only → ⊥)
    → With (device_by_number t g) (λ device. IsForbidden op device.read_only → ⊥)
seat-allows t g seat op is allows =
    with-map (device_by_number t g) (λ device. seat.read_only ≡ device.read_only) (λ device. IsForbidden op device.read_only → ⊥)
    (λ device same. subst (λ (b : Bool). IsForbidden op b → ⊥) same allows) is.access

-- what was judged to be admitted is allowed by the guest's device
pub judged-allowed : (w : WorldSeen) (g r : ℕ) (op : Op) → IsNextJudged (seen_state w) g r (CanAdmit op)
    → With (device_by_number w.table g) (λ device. IsForbidden op device.read_only → ⊥)
judged-allowed w g r op is =
    with-map (device_by_number w.table g) (λ device. With (disk_of_guest w.table g) (λ node. CanAdmit op device.read_only (bytes_of_node w.table node)))
    (λ device. IsForbidden op device.read_only → ⊥) (λ device holds. at device (disk_of_guest w.table g) holds) is.2
  where
    at : (device : DeviceRow) (disk : Option ℕ) → With disk (λ node. CanAdmit op device.read_only (bytes_of_node w.table node)) → IsForbidden op device.read_only → ⊥
    at device None none = absurd none
    at device (Some node) can = can.allowed
