-- A flat disk is a list of bytes, changed by writes alone; and the pieces of a request.
use Rattle.std.specs.Prelude.{ℕ, ◌-◌, Bool, true, false, List, [], take, replicate}
use Rattle.blk_base.specs.Pieces.{Extent, piece_of}
use Rattle.blk_base.specs.Content.{with_bytes, bytes_at}
use Rattle.trace_codec.specs.declared.op.Op.{Op}
use Rattle.trace_codec.specs.declared.op.Op.TheVariants.{Read, Write, Zero, Flush, Discard}
use Rattle.trace_codec.specs.declared.op.Payload.TheVariants.{Fill, Raw}

-- the bytes that a request speaks of; a flush speaks of none
abbrev pub span_of : Op → Extent
span_of (Read span) = span
span_of (Write span payload) = span
span_of (Zero span) = span
span_of Flush = record { start = 0; len = 0 }
span_of (Discard span) = span

-- only a guest that may write can ask for it: a discard too, though it changes nothing
abbrev pub is_write : Op → Bool
is_write (Read span) = false
is_write (Write span payload) = true
is_write (Zero span) = true
is_write Flush = false
is_write (Discard span) = true

-- its piece k
abbrev pub piece : Op → ℕ → Extent
piece op k = piece_of (span_of op) k

-- What a request puts into a part of its span; nothing where it puts no bytes. Of a payload, which has as many bytes as
-- the span, those that belong to the part.
abbrev pub payload_in : Op → Extent → List ℕ
payload_in (Read span) part = []
payload_in (Write span (Fill byte)) part = replicate part.len byte
payload_in (Write span (Raw bytes)) part = bytes_at bytes (part.start - span.start) part.len
payload_in (Zero span) part = replicate part.len 0
payload_in Flush part = []
payload_in (Discard span) part = []

-- what a read gives of a part of its span; nothing for what is no read
abbrev pub shown_in : Op → Extent → List ℕ → List ℕ
shown_in (Read span) part disk = bytes_at disk part.start part.len
shown_in (Write span payload) part disk = []
shown_in (Zero span) part disk = []
shown_in Flush part disk = []
shown_in (Discard span) part disk = []

-- the disk once the first n bytes of a part are done
abbrev pub done_in : Op → Extent → ℕ → List ℕ → List ℕ
done_in op part n disk = with_bytes disk part.start (take n (payload_in op part))
