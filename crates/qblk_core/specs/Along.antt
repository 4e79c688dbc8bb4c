-- The nodes along a history, and what of a history needs no bytes.
use Rattle.std.specs.Prelude.{◌≡◌, ℕ, ◌<◌, true, false, Option, List, [], ◌∷◌, length}
use Rattle.blk_base.specs.Counts.{Rose}
use Rattle.blk_base.specs.Pieces.{Extent}
use Rattle.blk_base.specs.declared.fault.Outcome.{Outcome}
use Rattle.blk_base.specs.declared.fault.Outcome.TheVariants.{Good, Torn, Io, NoSpace}
use Rattle.trace_codec.specs.declared.op.Op.{Op}
use Rattle.trace_codec.specs.Request.{pieces_of}
use Rattle.blk_history.specs.Disk.{is_write, piece}
use Rattle.blk_history.specs.Fold.{Each, With}
use Rattle.blk_history.specs.Legal.{FitsIo}
use Rattle.blk_history.specs.Machine.{IoState, Flight, io_guest_at, io_after}
use Rattle.blk_history.specs.declared.event.Event.{Event}
use Rattle.blk_history.specs.declared.event.Event.TheVariants.{Piece}
use Rattle.blk_nodes.specs.Nodes.{Nodes}
use Rattle.blk_pieces.specs.Pieces.{shows_in}
use Rattle.qblk_core.specs.ImageNodes.{device_faults}
use Rattle.qblk_core.specs.Pieces.{IsPieceOn}

-- How the count of the only device goes with an outcome: a fault is a rise of it, which is named with the count that is there
-- then, and where no fault is named it stands.
abbrev pub CountsOutcome : ℕ → ℕ → Outcome → Type 0
CountsOutcome before now Good = now ≡ before
CountsOutcome before now (Torn done dev count) =
    (dev.0 ≡ 0) × Rose before count × (count ≡ now)
CountsOutcome before now (Io dev count) = (dev.0 ≡ 0) × Rose before count × (count ≡ now)
CountsOutcome before now (NoSpace dev) = (dev.0 ≡ 0) × (now ≡ before)

-- what a piece makes of the nodes, and of the count of their device
pub record IsPieceStep (op : Op) (old new : Nodes) (node : ℕ) (part : Extent) (outcome : Outcome)
    (got : List ℕ) : Type 0 where
  pub made : IsPieceOn op old new node part outcome got
  pub count : CountsOutcome (device_faults old) (device_faults new) outcome

-- what an entry makes of the nodes: only a piece changes them, on its guest's node
abbrev pub IsStepOf : IoState → Event → Nodes → Nodes → Type 0
IsStepOf s (Piece g r k outcome got) old new = With (io_guest_at s g) (λ row.
    With row.flight (λ f. IsPieceStep f.op old new row.node (piece f.op k) outcome got))
IsStepOf s e old new = new ≡ old

-- so it went on, entry by entry, from the first to the last
abbrev pub HaveNodes : IoState → Nodes → List Event → Nodes → Type 0
HaveNodes s old [] new = new ≡ old
HaveNodes s old (e ∷ es) new =
    (next : Nodes) × IsStepOf s e old next × HaveNodes (io_after s e) next es new

-- only a write is torn, behind some of its bytes and not all
abbrev pub HasForm : Outcome → Op → Extent → Type 0
HasForm Good op part = Unit {0}
HasForm (Torn done dev count) op part = (is_write op ≡ true) × (0 < done) × (done < part.len)
HasForm (Io dev count) op part = Unit {0}
HasForm (NoSpace dev) op part = Unit {0}

-- a good piece of a read shows as many bytes as it has, and nothing else shows any
abbrev pub ShowsOf : Outcome → Op → Extent → List ℕ → Type 0
ShowsOf Good op part got = length got ≡ shows_in op part.len
ShowsOf outcome op part got = got ≡ []

-- piece k is the next of the request in flight
pub record IsInTurn (f : Flight) (k : ℕ) (outcome : Outcome) (got : List ℕ) : Type 0 where
  pub running : f.is_stopped ≡ false
  pub next : k ≡ f.next
  pub within : k < pieces_of f.op
  pub form : HasForm outcome f.op (piece f.op k)
  pub shown : ShowsOf outcome f.op (piece f.op k) got

-- the entry fits the state before it, but for what the bytes are that are read
abbrev pub FitsUnread : IoState → Event → Type 0
FitsUnread s (Piece g r k outcome got) = With (io_guest_at s g) (λ row.
    With row.flight (λ f. (r ≡ row.done) × IsInTurn f k outcome got))
FitsUnread s e = FitsIo s e

-- Requests are admitted or refused for their cause in order, their pieces made in order up to the first that isn't good, and
-- they are retired then and not sooner.
abbrev pub GoesInTurn : IoState → List Event → Type 0
GoesInTurn = Each io_after FitsUnread
