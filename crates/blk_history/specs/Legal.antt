-- When an entry fits the state before it.
use Rattle.std.specs.Prelude.{◌≡◌, ◌⊎◌, ℕ, ◌<◌, ◌≤◌, ◌&&◌, IsTrue, true, false, List, [], Option, None}
use Rattle.blk_base.specs.Pieces.{Extent, end_of}
use Rattle.blk_base.specs.declared.fault.Outcome.{Outcome}
use Rattle.blk_base.specs.declared.fault.Outcome.TheVariants.{Good, Torn, Io, NoSpace}
use Rattle.trace_codec.specs.declared.op.Op.{Op}
use Rattle.trace_codec.specs.Request.{pieces_of}
use Rattle.blk_history.specs.Fold.{Each, With}
use Rattle.blk_history.specs.Disk.{span_of, is_write, piece, shown_in}
use Rattle.blk_history.specs.Machine.{Node, Flight, IoGuest, IoState, io_guest_at, node_at, disk_in, io_after}
use Rattle.blk_history.specs.declared.entry.Refused.{Refused}
use Rattle.blk_history.specs.declared.entry.Refused.TheVariants.{Range, ReadOnly}
use Rattle.blk_history.specs.declared.event.Event.{Event}
use Rattle.blk_history.specs.declared.event.Event.TheVariants.{Admit, Refuse, Piece, Retire}

-- the span ends within the disk
abbrev pub IsInsideIo : Op → Node → Type 0
IsInsideIo op node = end_of (span_of op) ≤ node.size

-- a guest that may only read asks for what needs one that may write
abbrev pub IsForbiddenIo : Op → IoGuest → Type 0
IsForbiddenIo op row = IsTrue (row.is_read_only && is_write op)

-- why a request is refused: its span first; a flush, which speaks of no bytes and writes none, never is
abbrev pub IsRefusedIo : Op → IoGuest → Node → Refused → Type 0
IsRefusedIo op row node Range = node.size < end_of (span_of op)
IsRefusedIo op row node ReadOnly = IsInsideIo op node × IsForbiddenIo op row

-- the guest has no request in flight, and this is the number of its next
pub record IsNextIo (row : IoGuest) (r : ℕ) : Type 0 where
  pub idle : row.flight ≡ None
  pub number : r ≡ row.done

pub record CanAdmitIo (op : Op) (row : IoGuest) (node : Node) : Type 0 where
  pub inside : IsInsideIo op node
  pub allowed : IsForbiddenIo op row → ⊥

-- what an outcome says: of a read that is good the disk's bytes, of a torn write its first bytes
abbrev pub Tells : Outcome → Op → Extent → Option (List ℕ) → List ℕ → Type 0
Tells Good op part disk got = With disk (λ bytes. got ≡ shown_in op part bytes)
Tells (Torn done dev count) op part disk got =
    IsTrue (is_write op) × (0 < done) × (done < part.len) × (got ≡ [])
Tells (Io dev count) op part disk got = got ≡ []
Tells (NoSpace dev) op part disk got = got ≡ []

-- piece k is the next of the request in flight, and its outcome tells what is so
pub record IsNextPiece (f : Flight) (k : ℕ) (outcome : Outcome) (disk : Option (List ℕ))
    (got : List ℕ) : Type 0 where
  pub running : f.is_stopped ≡ false
  pub next : k ≡ f.next
  pub within : k < pieces_of f.op
  pub told : Tells outcome f.op (piece f.op k) disk got

-- all pieces are done, or the last wasn't good
abbrev pub IsFlightOver : Flight → Type 0
IsFlightOver f = (f.next ≡ pieces_of f.op) ⊎ (f.is_stopped ≡ true)

-- the entry fits the state before it
abbrev pub FitsIo : IoState → Event → Type 0
FitsIo s (Admit g r op) =
    With (io_guest_at s g)
    (λ row. With (node_at s row.node) (λ node. IsNextIo row r × CanAdmitIo op row node))
FitsIo s (Refuse g r op why) =
    With (io_guest_at s g)
    (λ row. With (node_at s row.node) (λ node. IsNextIo row r × IsRefusedIo op row node why))
FitsIo s (Piece g r k outcome got) =
    With (io_guest_at s g)
    (λ row. With row.flight
    (λ f. (r ≡ row.done) × IsNextPiece f k outcome (disk_in s.disks row.node) got))
FitsIo s (Retire g r) =
    With (io_guest_at s g) (λ row. With row.flight (λ f. (r ≡ row.done) × IsFlightOver f))
FitsIo s e = ⊥

-- a history is legal where each of its entries fits
abbrev pub LegalIo : IoState → List Event → Type 0
LegalIo = Each io_after FitsIo
