-- What each step of a run leaves.
use Rattle.std.specs.Prelude.{◌≡◌, ℕ, ◌^◌, ◌<◌, ◌≤◌, List, length, Option, Some, None, option_map, false}
use Rattle.blk_base.specs.declared.fault.Outcome.{Outcome}
use Rattle.trace_codec.specs.declared.op.Op.{Op}
use Rattle.trace_codec.specs.Request.{pieces_of}
use Rattle.blk_history.specs.Disk.{piece, done_in}
use Rattle.blk_history.specs.Machine.{Flight, done_by, io_admitted, io_finished, io_past_piece}
use Rattle.blk_history.specs.Legal.{IsInsideIo, IsForbiddenIo, IsRefusedIo, Tells}
use Rattle.blk_history.specs.Recorded.{Recorded, log_with_entry, log_with_shown}
use Rattle.blk_history.specs.Small.{IsSmallOutcome}
use Rattle.blk_history.specs.declared.entry.Refused.{Refused}
use Rattle.blk_history.specs.declared.event.Event.TheVariants as events
use Rattle.blk_nodes.specs.Nodes.{Nodes, node_size}
use Rattle.blk_pieces.specs.Pieces.{shows_in}
use Rattle.qblk_core.specs.Along.{CountsOutcome, HasForm}
use Rattle.qblk_core.specs.Face.{SessionSeen, node_of}
use Rattle.qblk_core.specs.ImageNodes.{told_disk, device_faults, HaveShapeOf}
use Rattle.qblk_core.specs.Pieces.{IsPieceOn}

-- a request was admitted, or refused for its cause
abbrev pub admitted_or_refused : SessionSeen → Op → Option Refused → SessionSeen
admitted_or_refused w op None = record w {
  guest = io_admitted op w.guest;
  log = log_with_entry w.log (events.Admit 0 w.guest.done op);
}
admitted_or_refused w op (Some why) = record w {
  guest = io_finished w.guest;
  log = log_with_entry w.log (events.Refuse 0 w.guest.done op why);
}

abbrev pub IsRequestJudged : SessionSeen → Op → Option Refused → Type 0
IsRequestJudged w op None =
    IsInsideIo op (node_of (node_size w.nodes 1)) × (IsForbiddenIo op w.guest → ⊥)
IsRequestJudged w op (Some why) = IsRefusedIo op w.guest (node_of (node_size w.nodes 1)) why

-- a request is over
abbrev pub after_retirement : SessionSeen → SessionSeen
after_retirement w = record w {
  guest = io_finished w.guest;
  log = log_with_entry w.log (events.Retire 0 w.guest.done);
}

-- the next piece can be made: there is one, and the history has room for what it adds
pub record CanPiece (log : Recorded) (f : Flight) : Type 0 where
  pub running : f.is_stopped ≡ false
  pub next : f.next < pieces_of f.op
  pub numbered : pieces_of f.op < 2 ^ 32
  pub room : 0 < log.room
  pub byte_room : shows_in f.op (piece f.op f.next).len ≤ log.byte_room

-- the next piece of a request in flight was made, with this outcome, and showed these bytes
pub record MakesPiece (old new : Nodes) (before now : Recorded) (request : ℕ) (f : Flight)
    (outcome : Outcome) (got : List ℕ) : Type 0 where
  pub on : IsPieceOn f.op old new 1 (piece f.op f.next) outcome got
  pub shape : HaveShapeOf old new
  pub tells : (disk : List ℕ) → told_disk old ≡ Some disk
      → Tells outcome f.op (piece f.op f.next) (Some disk) got
  pub disk : told_disk new
      ≡ option_map (done_in f.op (piece f.op f.next) (done_by outcome (piece f.op f.next)))
      (told_disk old)
  pub form : HasForm outcome f.op (piece f.op f.next)
  pub fits : IsSmallOutcome outcome
  pub cause : CountsOutcome (device_faults old) (device_faults new) outcome
  pub faults : device_faults old ≤ device_faults new
  pub bound : length got ≤ shows_in f.op (piece f.op f.next).len
  pub small : length got ≤ 65536
  pub log : now ≡ log_with_shown before (events.Piece 0 request f.next outcome got) got

-- so it was, and the guest's row is one piece further
pub record PutsPiece (old new : SessionSeen) (f : Flight) (outcome : Outcome)
    (got : List ℕ) : Type 0 where
  pub made : MakesPiece old.nodes new.nodes old.log new.log old.guest.done f outcome got
  pub guest : new.guest ≡ io_past_piece outcome old.guest
