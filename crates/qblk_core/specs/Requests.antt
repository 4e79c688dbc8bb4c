-- How far a run of requests is.
use Rattle.std.specs.Prelude.{◌≡◌, ℕ, ◌+◌, ◌-◌, ◌^◌, ◌<◌, ◌≤◌, false, [], ◌∷◌, ◌++◌, Some, None, List, length}
use Rattle.blk_base.specs.declared.memory.Room.{Room}
use Rattle.trace_codec.specs.declared.op.Op.{Op}
use Rattle.trace_codec.specs.Request.{pieces_of, read_bytes_of}
use Rattle.blk_history.specs.Fold.{With}
use Rattle.blk_history.specs.Machine.{Flight}
use Rattle.blk_history.specs.Legal.{IsFlightOver}
use Rattle.blk_history.specs.Owned.{asked_by}
use Rattle.blk_nodes.specs.Nodes.{Nodes}
use Rattle.blk_pieces.specs.Pieces.{shown_before}
use Rattle.qblk_core.specs.Face.{SessionSeen}
use Rattle.qblk_core.specs.Comes.{ComesFrom}

-- a request that was admitted, before its first piece, and room for what its pieces add and one entry more
pub record CanRun (w : SessionSeen) (pieces : ℕ) (f : Flight) : Type 0 where
  pub first : f.next ≡ 0
  pub running : f.is_stopped ≡ false
  pub count : pieces ≡ pieces_of f.op
  pub numbered : pieces_of f.op < 2 ^ 32
  pub room : pieces_of f.op < w.log.room
  pub byte_room : read_bytes_of f.op ≤ w.log.byte_room

-- k of its pieces were good
pub record AtPiece (old now : SessionSeen) (k : ℕ) (f : Flight) : Type 0 where
  pub flight : now.guest.flight ≡ Some (record f { next = k })
  pub done : now.guest.done ≡ old.guest.done
  pub asked : asked_by 0 now.log.events ≡ asked_by 0 old.log.events
  pub room : old.log.room ≤ now.log.room + k
  pub byte_room : old.log.byte_room ≤ now.log.byte_room + shown_before f.op k
  pub comes : (first : Nodes) → ComesFrom first old → ComesFrom first now

-- all its pieces are done, or the last wasn't good
pub record PiecesDone (old new : SessionSeen) (f : Flight) : Type 0 where
  pub over : With new.guest.flight IsFlightOver
  pub done : new.guest.done ≡ old.guest.done
  pub asked : asked_by 0 new.log.events ≡ asked_by 0 old.log.events
  pub room : old.log.room ≤ new.log.room + pieces_of f.op
  pub byte_room : old.log.byte_room ≤ new.log.byte_room + read_bytes_of f.op
  pub comes : (first : Nodes) → ComesFrom first old → ComesFrom first new

-- room for a request
pub record CanRecord (w : SessionSeen) (op : Op) : Type 0 where
  pub idle : w.guest.flight ≡ None
  pub numbered : w.guest.done + 1 < 2 ^ 32
  pub pieces : pieces_of op < 2 ^ 32
  pub room : pieces_of op + 2 ≤ w.log.room
  pub byte_room : read_bytes_of op ≤ w.log.byte_room

-- a request was admitted and retired, or refused
pub record RequestDone (old new : SessionSeen) (op : Op) : Type 0 where
  pub idle : new.guest.flight ≡ None
  pub done : new.guest.done ≡ old.guest.done + 1
  pub asked : asked_by 0 new.log.events ≡ asked_by 0 old.log.events ++ op ∷ []
  pub room : old.log.room ≤ new.log.room + (pieces_of op + 2)
  pub byte_room : old.log.byte_room ≤ new.log.byte_room + read_bytes_of op
  pub comes : (first : Nodes) → ComesFrom first old → ComesFrom first new

-- the entries and the bytes that some requests may add
abbrev pub entries_to_add : List Op → ℕ
entries_to_add [] = 0
entries_to_add (op ∷ ops) = (pieces_of op + 2) + entries_to_add ops

abbrev pub bytes_to_read : List Op → ℕ
bytes_to_read [] = 0
bytes_to_read (op ∷ ops) = read_bytes_of op + bytes_to_read ops

-- their pieces have numbers
abbrev pub HaveCountedPieces : List Op → Type 0
HaveCountedPieces [] = Unit {0}
HaveCountedPieces (op ∷ ops) = (pieces_of op < 2 ^ 32) × HaveCountedPieces ops

-- room for requests
pub record CanRecordAll (w : SessionSeen) (ops : List Op) : Type 0 where
  pub idle : w.guest.flight ≡ None
  pub numbered : w.guest.done + length ops < 2 ^ 32
  pub pieces : HaveCountedPieces ops
  pub room : entries_to_add ops ≤ w.log.room
  pub byte_room : bytes_to_read ops ≤ w.log.byte_room

-- requests were made, in order
pub record RequestsDone (old new : SessionSeen) (ops : List Op) : Type 0 where
  pub idle : new.guest.flight ≡ None
  pub asked : asked_by 0 new.log.events ≡ asked_by 0 old.log.events ++ ops
  pub comes : (first : Nodes) → ComesFrom first old → ComesFrom first new

-- all but some of them were made
pub record AtRequests (old now : SessionSeen) (ops rest : List Op) : Type 0 where
  pub has : CanRecordAll now rest
  pub asked : asked_by 0 now.log.events ++ rest ≡ asked_by 0 old.log.events ++ ops
  pub comes : (first : Nodes) → ComesFrom first old → ComesFrom first now

-- the room that some requests need
pub record IsRoomForRequests (ops : List Op) (room : Room) : Type 0 where
  pub entries : room.entries ≡ entries_to_add ops
  pub bytes : room.bytes ≡ bytes_to_read ops
  pub pieces : HaveCountedPieces ops
  pub count : length ops < 2 ^ 32
