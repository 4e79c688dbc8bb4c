-- A piece of a request that writes is some of one block.
use Rattle.std.proofs.Common.{◌≡◌, ℕ, ◌+◌, ◌-◌, ◌*◌, ◌/◌, ◌<◌, ◌==◌, Bool, true, false, cond, refl, arith, Some}
use Rattle.std.proofs.lemmas.Bool.{eqb-false, false≢true}
use Rattle.blk_base.specs.Pieces.{Extent, count_of_pieces, end_of, piece_of}
use Rattle.blk_history.specs.Disk.{is_write, piece}
use Rattle.trace_codec.specs.Request.{pieces_of}
use Rattle.trace_codec.specs.declared.op.Op.{Op}
use Rattle.trace_codec.specs.declared.op.Op.TheVariants.{Read, Write, Zero, Flush, Discard}
use Rattle.world_goings.specs.Copied.{IsInBlock}
use Rattle.world_pieces.specs.Pieces.{written_in}

module _ (span : Extent) (k : ℕ) (less : k < count_of_pieces span) where
  from_last : (b : Bool) → (span.len == 0) ≡ b → k < cond b 0 ((end_of span - 1) / 65536 + 1 - span.start / 65536)
      → (0 < span.len) × ((span.start / 65536 + k) * 65536 < end_of span)
  from_last true none fewer = absurd (omega (arith, fewer))
  from_last false some fewer =
      let no = eqb-false span.len 0 some in
      let has : 0 < span.len = omega (arith, no) in
      (has, omega (arith, fewer, has))

  meets : (0 < span.len) × ((span.start / 65536 + k) * 65536 < end_of span)
  unfolding count_of_pieces
  meets = from_last (span.len == 0) refl less

  span_some : 0 < (piece_of span k).len
  unfolding piece_of
  span_some = let first = meets.0 in let last = meets.1 in omega arith

  span_block : IsInBlock (piece_of span k) ((piece_of span k).start / 65536)
  unfolding piece_of
  span_block i least below = omega (arith, least, below)

-- of one block
pub record IsSomeOfBlock (part : Extent) : Type 0 where
  pub some : 0 < part.len
  pub block : IsInBlock part (part.start / 65536)

pub written_some : (op : Op) (k : ℕ) → k < pieces_of op → is_write op ≡ true → IsSomeOfBlock (piece op k)
written_some (Write span payload) k less writes = record { some = span_some span k less; block = span_block span k less }
written_some (Zero span) k less writes = record { some = span_some span k less; block = span_block span k less }
written_some (Discard span) k less writes = absurd (omega (arith, less))
written_some (Read span) k less writes = absurd (false≢true writes)
written_some Flush k less writes = absurd (false≢true writes)

-- what is written of a part, is all of it
pub written_is : (op : Op) (part written : Extent) → written_in op part ≡ Some written → (part ≡ written) × (is_write op ≡ true)
written_is (Write span payload) part written is = (cc is, refl)
written_is (Zero span) part written is = (cc is, refl)
written_is (Discard span) part written is = absurd (let bad : ⊥ = cc is in bad)
written_is (Read span) part written is = absurd (let bad : ⊥ = cc is in bad)
written_is Flush part written is = absurd (let bad : ⊥ = cc is in bad)

-- and something is, where there is such a piece
pub written_there : (op : Op) (k : ℕ) (part : Extent) → k < pieces_of op → is_write op ≡ true → written_in op part ≡ Some part
written_there (Write span payload) k part less writes = refl
written_there (Zero span) k part less writes = refl
written_there (Discard span) k part less writes = absurd (omega (arith, less))
written_there (Read span) k part less writes = absurd (false≢true writes)
written_there Flush k part less writes = absurd (false≢true writes)
