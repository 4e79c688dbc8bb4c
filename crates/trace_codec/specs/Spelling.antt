-- How a trace is written: the one spelling of its requests.
use Rattle.std.specs.Prelude.{ℕ, List, [], ◌∷◌, ◌++◌, flat_map, codes, decimal}
use Rattle.std.specs.List.{join_with_byte}
use Rattle.blk_base.specs.Pieces.{Extent}
use Rattle.trace_codec.specs.declared.op.Op.{Op}
use Rattle.trace_codec.specs.declared.op.Op.TheVariants.{Read, Write, Zero, Flush, Discard}
use Rattle.trace_codec.specs.declared.op.Payload.TheVariants.{Fill, Raw}
use Rattle.trace_codec.specs.Hex.{hex}

-- `OFF LEN`, in decimal
abbrev pub span_words : Extent → List (List ℕ)
span_words span = decimal span.start ∷ decimal span.len ∷ []

-- the words of a request
abbrev pub words_for : Op → List (List ℕ)
words_for (Read span) = codes "read" ∷ span_words span
words_for (Write span (Fill byte)) = codes "write" ∷ codes "-P" ∷ decimal byte ∷ span_words span
words_for (Write span (Raw bytes)) = codes "bytes" ∷ decimal span.start ∷ hex bytes ∷ []
words_for (Zero span) = codes "write" ∷ codes "-z" ∷ span_words span
words_for Flush = codes "flush" ∷ []
words_for (Discard span) = codes "discard" ∷ span_words span

-- its line: its words, parted by single spaces
abbrev pub line_for : Op → List ℕ
line_for op = join_with_byte 32 (words_for op)

-- a line for each request, each ended by a line feed
unfoldable pub spelling : List Op → List ℕ
spelling ops = flat_map (λ op. line_for op ++ 10 ∷ []) ops
