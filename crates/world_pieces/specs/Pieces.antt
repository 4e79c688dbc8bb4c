-- What a piece of a guest's request leaves of the world, and when it would pass a device's capacity.
use Rattle.std.specs.Prelude.{◌≡◌, ◌+◌, ◌<◌, ◌≤◌, ℕ, true, IfSome, List, length, Some, if◌then◌else◌, Option, None}
use Rattle.blk_base.specs.Pieces.{Extent}
use Rattle.blk_base.specs.declared.fault.DevNo.{DevNo}
use Rattle.blk_base.specs.declared.fault.Outcome.{Outcome}
use Rattle.trace_codec.specs.declared.op.Op.{Op}
use Rattle.trace_codec.specs.declared.op.Op.TheVariants.{Read, Write, Zero}
use Rattle.q2_image.specs.Room.{WriteFits, ZerosFit}
use Rattle.blk_history.specs.Disk.{is_write}
use Rattle.blk_history.specs.Fold.{With}
use Rattle.blk_history.specs.Machine.{Flight}
use Rattle.blk_history.specs.declared.event.Event.{Event}
use Rattle.blk_history.specs.declared.event.Event.TheVariants.{Piece}
use Rattle.job_progress.specs.Piecing.{IsGuarded, marked_by}
use Rattle.blk_nodes.specs.Copying.{LowestLacks, images_met}
use Rattle.blk_nodes.specs.Nodes.{Nodes, device_in, row_at}
use Rattle.blk_nodes.specs.Writing.{own_file, own_start}
use Rattle.blk_nodes.specs.declared.row.Driver.{Driver}
use Rattle.blk_nodes.specs.declared.row.Driver.TheVariants as drivers
use Rattle.blk_pieces.specs.Pieces.{Transfers, shows_in}
use Rattle.qmp_rules.specs.Chains.{disk_node}
use Rattle.qmp_rules.specs.Table.{RunTable}
use Rattle.flat_machine.specs.EventLicence.{IsLicensedBy}
use Rattle.flat_machine.specs.State.{drive_of}
use Rattle.blk_history.specs.Small.{IsSmallOutcome}
use Rattle.world_parts.specs.Counting.{RunsOn, seen_sources, counts_within, HidesNoFault}
use Rattle.world_parts.specs.Face.{WorldSeen, counts_now, seen_state}
use Rattle.flat_machine.specs.Licence.{named_by}
use Rattle.world_parts.specs.Progress.{with_piece_entry, requests_done, flight_at}
use Rattle.world_parts.specs.Piecing.{part_of, shown_in_flight, table_after}
use Rattle.blk_bitmaps.specs.declared.row.Bitmap.{Bitmap}
use Rattle.flat_machine.specs.Bitmaps.{noted_rows}
use Rattle.flat_machine.specs.Machine.{is_noted, path}

-- ---- when it would pass a device's capacity

-- for a write to an image there is no room, or one to another file would end above the capacity
abbrev pub PassesBy : Driver → Op → Extent → ℕ → Type 0
PassesBy (drivers.Qcow2 image) (Write span payload) part capacity =
    WriteFits image part capacity → ⊥
PassesBy (drivers.Qcow2 image) (Zero span) part capacity =
    ZerosFit image part capacity → ⊥
PassesBy driver (Write span payload) part capacity =
    capacity < own_start driver part.start + part.len
PassesBy driver (Zero span) part capacity = capacity < own_start driver part.start + part.len
PassesBy driver op part capacity = ⊥

-- that of this device, which is that of the file that the node writes
abbrev pub write_passes : Nodes → ℕ → Op → Extent → ℕ → Type 0
write_passes nodes node op part dev =
    With (row_at nodes node) (λ row. With (own_file nodes node row.driver)
    (λ file. With (device_in nodes.devices file)
    (λ device. (device.number.0 ≡ dev) × PassesBy row.driver op part device.capacity)))

-- or of an image below the drive into which a copy-on-read puts what is read
abbrev pub read_passes : Nodes → ℕ → Extent → ℕ → Type 0
read_passes nodes drive part dev = (number : DevNo) × (number.0 ≡ dev)
    × LowestLacks nodes part number (images_met nodes drive part.start)

-- a piece on a drive, which reads as the node
abbrev pub piece_passes : Nodes → ℕ → ℕ → Op → Extent → ℕ → Type 0
piece_passes nodes drive node (Read span) part dev = read_passes nodes drive part dev
piece_passes nodes drive node op part dev = write_passes nodes node op part dev

-- ---- what is noted of it

-- what a piece of a request writes of, be it bytes or zeros
abbrev pub written_in : Op → Extent → Option Extent
written_in (Write span payload) part = Some part
written_in (Zero span) part = Some part
written_in op part = None

abbrev pub noted_where : Option Extent → ℕ → RunTable → List Bitmap → List Bitmap
noted_where None drive t rows = rows
noted_where (Some part) drive t rows = noted_rows part rows (path t drive)

abbrev pub noted_after : Outcome → Option Extent → ℕ → RunTable → List Bitmap → List Bitmap
noted_after outcome written drive t rows =
    if is_noted outcome then noted_where written drive t rows else rows

-- what of it was written, where something was
abbrev pub noted_part : Outcome → Option Extent → Option Extent
noted_part outcome written = if is_noted outcome then written else None

-- ---- what it needs of jobs

-- what it writes, no backup owes
abbrev pub IsGuardedPiece : WorldSeen → ℕ → Type 0
IsGuardedPiece w g = IfSome (flight_at w.progress.guests g) (λ f. IfSome (drive_of w.table g)
    (λ drive. is_write f.op ≡ true
    → IsGuarded w.table w.works (disk_node w.table drive) (part_of f)))

-- ---- what it leaves of the world

-- So it was in the world, on the guest's drive where it is read, else on the node that the drive reads as; what was written is
-- noted in the bitmaps of each node from the drive down to that one, and a mirror of that one has to copy it again.
pub record IsPieceMade (w v : WorldSeen) (g : ℕ) (f : Flight) (outcome : Outcome) : Type 0 where
  pub drive : ℕ
  pub buffer : List ℕ
  pub on : drive_of w.table g ≡ Some drive
  pub transferred : Transfers f.op w.nodes v.nodes drive (disk_node w.table drive) (part_of f)
      outcome buffer
  pub fits : IsSmallOutcome outcome
  pub shown : length (shown_in_flight f outcome buffer) ≤ shows_in f.op (part_of f).len
  pub kept : v ≡ record w {
    nodes = v.nodes;
    table = table_after f.op (disk_node w.table drive) w.table;
    progress = with_piece_entry g f.next outcome (shown_in_flight f outcome buffer) w.progress;
    bitmaps = noted_after outcome (written_in f.op (part_of f)) drive v.table w.bitmaps;
    works = marked_by f.op outcome w.table (disk_node w.table drive) (part_of f) w.works;
  }

-- its entry
abbrev pub piece_entry : WorldSeen → ℕ → Flight → Outcome → List ℕ → Event
piece_entry w g f outcome buffer =
    Piece g (requests_done w.progress.guests g) f.next outcome (shown_in_flight f outcome buffer)

-- No count falls, and a fault that it names was reached in this event, of a device that the guest's node reaches, and none is
-- hidden; want of space comes where a write of it would have passed that device's capacity, or one that keeps what it reads.
pub record HasPieceLicence (w v : WorldSeen) (g : ℕ) (f : Flight) (outcome : Outcome)
    (made : IsPieceMade w v g f outcome) : Type 0 where
  pub runs : RunsOn w v
  pub hides : HidesNoFault w v (named_by outcome)
  pub licensed : IsLicensedBy (seen_state w) (seen_sources w)
      (counts_now w) (counts_within w v) (counts_now v)
      (piece_passes w.nodes made.drive (disk_node w.table made.drive) f.op (part_of f))
      (piece_entry w g f outcome made.buffer)
