-- All the memory that a run takes, taken before its first request.
use Rattle.std.specs.Prelude.{◌≡◌, ℕ, ◌^◌, ◌<◌, ◌≤◌, List, [], length}
use Rattle.blk_base.specs.Written.{Written}
use Rattle.trace_codec.specs.declared.op.Op.{Op}
use Rattle.blk_history.specs.Recorded.{Recorded}
use Rattle.blk_history.specs.Names.{RowNames}
use Rattle.qblk_core.specs.Requests.{entries_to_add, bytes_to_read, HaveCountedPieces}
use Rattle.qblk_core.specs.Run.{guest_names}

-- an empty history with room for these requests, a buffer of one block, the guest's name, and a text with room for 64 KiB
-- and the longest line
pub record IsSetUpFor (ops : List Op) (log : Recorded) (buffer : List ℕ) (names : RowNames)
    (line : Written) : Type 0 where
  pub empty : log.events ≡ []
  pub numbered : length ops < 2 ^ 32
  pub pieces : HaveCountedPieces ops
  pub room : entries_to_add ops ≤ log.room
  pub byte_room : bytes_to_read ops ≤ log.byte_room
  pub block : length buffer ≡ 65536
  pub named : names ≡ guest_names
  pub blank : line.bytes ≡ []
  pub line_room : 393476 ≤ line.spare
