-- The bytes that a piece puts, and how many of them it has put.
use Rattle.std.proofs.Common.{◌≡◌, ℕ, List, length, take, true, refl, sym, arith}
use Rattle.std.proofs.lemmas.Bool.{false≢true}
use Rattle.std.proofs.lemmas.List.{length-replicate, take_all}
use Rattle.blk_base.specs.Pieces.{Extent}
use Rattle.blk_base.specs.declared.fault.Outcome.{Outcome}
use Rattle.blk_base.specs.declared.fault.Outcome.TheVariants.{Good, Torn, Io, NoSpace}
use Rattle.blk_base.proofs.Contents.{length-bytes_at}
use Rattle.trace_codec.specs.declared.op.Op.{Op}
use Rattle.trace_codec.specs.declared.op.Op.TheVariants.{Read, Write, Zero, Flush, Discard}
use Rattle.trace_codec.specs.declared.op.Payload.TheVariants.{Fill, Raw}
use Rattle.blk_history.specs.Disk.{is_write, payload_in}
use Rattle.blk_history.specs.Machine.{done_by}
use Rattle.blk_nodes.specs.Nodes.{Nodes}
use Rattle.blk_nodes.specs.Writing.{taken_by}
use Rattle.blk_pieces.specs.Pieces.{Transfers}

-- what puts bytes has as many of them as its part
abbrev pub IsPutting : Op → Type 0
IsPutting (Read span) = ⊥
IsPutting (Write span payload) = Unit {0}
IsPutting (Zero span) = Unit {0}
IsPutting Flush = ⊥
IsPutting (Discard span) = ⊥

pub payload_length : (op : Op) (part : Extent) → IsPutting op → length (payload_in op part) ≡ part.len
payload_length (Read span) part bad = absurd bad
payload_length (Write span (Fill byte)) part is = length-replicate part.len byte
payload_length (Write span (Raw bytes)) part is = length-bytes_at bytes _ part.len
payload_length (Zero span) part is = length-replicate part.len 0
payload_length Flush part bad = absurd bad
payload_length (Discard span) part bad = absurd bad

pub taken_is : (op : Op) (part : Extent) (outcome : Outcome) → IsPutting op → taken_by outcome (payload_in op part) ≡ take (done_by outcome part) (payload_in op part)
taken_is op part Good is = let len = payload_length op part is in sym (take_all part.len (payload_in op part) (omega (arith, len)))
taken_is op part (Torn done dev count) is = refl
taken_is op part (Io dev count) is = refl
taken_is op part (NoSpace dev) is = refl

-- a write that was made puts bytes
pub putting_by : (op : Op) (old new : Nodes) (drive node : ℕ) (part : Extent) (outcome : Outcome) (buffer : List ℕ)
    → Transfers op old new drive node part outcome buffer → is_write op ≡ true → IsPutting op
putting_by (Read span) old new drive node part outcome buffer did bad = absurd (false≢true bad)
putting_by (Write span payload) old new drive node part outcome buffer did is = tt
putting_by (Zero span) old new drive node part outcome buffer did is = tt
putting_by Flush old new drive node part outcome buffer did bad = absurd (false≢true bad)
putting_by (Discard span) old new drive node part outcome buffer did is = absurd did
