-- Runs on images that meet no fault, and those that find room for all that they write.
use Rattle.std.specs.Prelude.{◌≡◌, ℕ, ◌<◌, ◌≤◌, List, [], ◌∷◌, ◌++◌, Some}
use Rattle.blk_base.specs.Pieces.{Extent, end_of}
use Rattle.blk_base.specs.declared.fault.Outcome.TheVariants.{Good}
use Rattle.trace_codec.specs.declared.op.Op.{Op}
use Rattle.trace_codec.specs.declared.op.Op.TheVariants.{Write, Zero}
use Rattle.blk_history.specs.Disk.{piece}
use Rattle.blk_history.specs.Fold.{With}
use Rattle.blk_history.specs.Machine.{IoState, IoGuest, Flight, io_guest_at, io_after}
use Rattle.blk_history.specs.declared.event.Event.{Event}
use Rattle.blk_history.specs.declared.event.Event.TheVariants.{Piece}
use Rattle.q2_image.specs.Room.{WriteFits, ZerosFit}
use Rattle.blk_nodes.specs.Nodes.{Nodes, DeviceSeen, row_at}
use Rattle.blk_nodes.specs.declared.row.Driver.{Driver}
use Rattle.blk_nodes.specs.declared.row.Driver.TheVariants.{Qcow2}
use Rattle.blk_nodes.specs.declared.row.Row.{Row}
use Rattle.qblk_core.specs.Along.{HaveNodes}
use Rattle.qblk_core.specs.ImageNodes.{capacity_of}
use Rattle.qblk_core.specs.Run.{Outside, HasImage, HasTrace, closed_opening}
use Rattle.qblk_words.specs.declared.words.Format.{Format}

-- the store tells its files, and among them are an image that can be opened and a trace that asks for this
abbrev pub HasInputs : Format → List ℕ → List ℕ → List Op → Outside → Type 0
HasInputs format image trace ops old =
    With old.files (λ files. HasImage format image files × HasTrace trace ops files)

-- a count has not risen, and can
abbrev pub HasStood : ℕ → ℕ → Type 0
HasStood before now = (before < 18446744073709551615) × (now ≡ before)

-- no count has risen: of the store, of the image's device where it was opened, or of the sink
pub record NoneRises (image : List ℕ) (old new : Outside) : Type 0 where
  pub store : HasStood old.store_faults new.store_faults
  pub sink : HasStood old.sink_faults new.sink_faults
  pub device : (device back : DeviceSeen)
      → new.opened ≡ old.opened ++ closed_opening image device back ∷ []
      → HasStood device.faults back.faults

-- ---- room

-- No write for the part would end above the capacity or need a cluster that isn't below the reach of a qcow2 image. A raw image
-- is the whole of its file, in which the part is written in place.
abbrev pub WriteHasRoom : Driver → Extent → ℕ → Type 0
WriteHasRoom (Qcow2 image) part capacity = WriteFits image part capacity
WriteHasRoom driver part capacity = end_of part ≤ capacity

abbrev pub ZerosHaveRoom : Driver → Extent → ℕ → Type 0
ZerosHaveRoom (Qcow2 image) part capacity = ZerosFit image part capacity
ZerosHaveRoom driver part capacity = end_of part ≤ capacity

-- reads and flushes need none
abbrev pub PartHasRoom : Op → Driver → Extent → ℕ → Type 0
PartHasRoom (Write span payload) driver part capacity = WriteHasRoom driver part capacity
PartHasRoom (Zero span) driver part capacity = ZerosHaveRoom driver part capacity
PartHasRoom op driver part capacity = Unit {0}

-- by what a node is, and by the capacity of the device
abbrev pub HasRoomOn : Nodes → ℕ → Op → Extent → Type 0
HasRoomOn nodes node op part = (row : Row) (capacity : ℕ) → row_at nodes node ≡ Some row
    → capacity_of nodes ≡ Some capacity → PartHasRoom op row.driver part capacity

-- a piece that is made on these nodes has it
abbrev pub HasRoomForEntry : IoState → Nodes → Event → Type 0
HasRoomForEntry s nodes (Piece g r k outcome got) = (row : IoGuest) (f : Flight)
    → io_guest_at s g ≡ Some row → row.flight ≡ Some f
    → HasRoomOn nodes row.node f.op (piece f.op k)
HasRoomForEntry s nodes e = Unit {0}

-- so it is with each entry, on the nodes before it
abbrev pub HaveRoomAlong : (s : IoState) (old : Nodes) (h : List Event) (new : Nodes)
    → HaveNodes s old h new → Type 0
HaveRoomAlong s old [] new along = Unit {0}
HaveRoomAlong s old (e ∷ es) new along =
    HasRoomForEntry s old e × HaveRoomAlong (io_after s e) along.0 es new along.2

abbrev pub IsGoodIfPiece : Event → Type 0
IsGoodIfPiece (Piece g r k outcome got) = outcome ≡ Good
IsGoodIfPiece e = Unit {0}

-- each piece is good
abbrev pub ArePiecesGood : List Event → Type 0
ArePiecesGood [] = Unit {0}
ArePiecesGood (e ∷ es) = IsGoodIfPiece e × ArePiecesGood es
