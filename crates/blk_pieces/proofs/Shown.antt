-- How many bytes the pieces of a request show.
use Rattle.std.proofs.Common.{ℕ, ◌+◌, ◌<◌, ◌≤◌, arith}
use Rattle.blk_base.specs.Pieces.{count_of_pieces, piece_of}
use Rattle.trace_codec.specs.declared.op.Op.{Op}
use Rattle.trace_codec.specs.declared.op.Op.TheVariants.{Read, Write, Zero, Flush, Discard}
use Rattle.trace_codec.specs.Request.{pieces_of, read_bytes_of}
use Rattle.blk_history.specs.Disk.{piece}
use Rattle.blk_pieces.specs.Pieces.{shown_before, shows_in}

-- a piece shows no more than lies between it and the next
pub shown_next : (op : Op) (k : ℕ) → k < pieces_of op → shows_in op (piece op k).len + shown_before op k ≤ shown_before op (k + 1)
unfolding count_of_pieces piece_of
shown_next (Read span) k below = omega arith
shown_next (Write span payload) k below = omega arith
shown_next (Zero span) k below = omega arith
shown_next Flush k below = omega arith
shown_next (Discard span) k below = omega arith

pub shown_within : (op : Op) (k : ℕ) → shown_before op k ≤ read_bytes_of op
shown_within (Read span) k = omega arith
shown_within (Write span payload) k = omega arith
shown_within (Zero span) k = omega arith
shown_within Flush k = omega arith
shown_within (Discard span) k = omega arith
