-- What a line of a trace says.
use Rattle.std.specs.Prelude.{ℕ, ◌^◌, List, [], ◌∷◌, length, codes, ◌==◌, if◌then◌else◌, Option, Some, None}
use Rattle.std.specs.List.{slice_split}
use Rattle.std.specs.Str.{bytes_eq}
use Rattle.blk_base.specs.Pieces.{Extent}
use Rattle.trace_codec.specs.declared.op.Op.{Op}
use Rattle.trace_codec.specs.declared.op.Op.TheVariants.{Read, Write, Zero, Flush, Discard}
use Rattle.trace_codec.specs.declared.op.Payload.TheVariants.{Fill, Raw}
use Rattle.trace_codec.specs.declared.line.TraceLine.{TraceLine}
use Rattle.trace_codec.specs.declared.line.TraceLine.TheVariants.{Passed, Asks, Bad}
use Rattle.trace_codec.specs.Number.{◌>>=◌, number_of, below}
use Rattle.trace_codec.specs.Hex.{payload_of}

-- The words of a line, parted by single spaces. A space at an end, or two in a row, leave an empty word, which no rule takes.
abbrev pub words_of : List ℕ → List (List ℕ)
words_of line = slice_split (λ b. b == 32) line

-- where a request begins
abbrev pub offset_of : List ℕ → Option ℕ
offset_of word = below (2 ^ 62) (number_of word)

-- a request has from 1 byte to 2 MiB
abbrev pub length_of : List ℕ → Option ℕ
length_of word = do
  n ← below 2097153 (number_of word)
  if n == 0 then None else Some n

-- `OFF LEN`
abbrev pub span_in : List (List ℕ) → Option Extent
span_in (offset ∷ n ∷ []) = do
  start ← offset_of offset
  len ← length_of n
  Some (record { start = start; len = len })
span_in _ = None

-- `read OFF LEN`, behind the first word
abbrev pub read_in : List (List ℕ) → Option Op
read_in words = do
  span ← span_in words
  Some (Read span)

-- `write -P BYTE OFF LEN`, behind the second word
abbrev pub fill_in : List (List ℕ) → Option Op
fill_in [] = None
fill_in (byte ∷ words) = do
  value ← below 256 (number_of byte)
  span ← span_in words
  Some (Write span (Fill value))

-- `write -z OFF LEN`, behind the second word
abbrev pub zero_in : List (List ℕ) → Option Op
zero_in words = do
  span ← span_in words
  Some (Zero span)

-- the kinds of writes, by their flag
abbrev pub write_in : List (List ℕ) → Option Op
write_in [] = None
write_in (flag ∷ words) =
    if bytes_eq flag (codes "-P") then fill_in words
    else if bytes_eq flag (codes "-z") then zero_in words
    else None

-- `bytes OFF HEX`, behind the first word: a write of these bytes, as many as there are
abbrev pub raw_in : List (List ℕ) → Option Op
raw_in (offset ∷ digits ∷ []) = do
  start ← offset_of offset
  bytes ← payload_of digits
  Some (Write (record { start = start; len = length bytes }) (Raw bytes))
raw_in _ = None

-- `flush`, and no word behind it
abbrev pub flush_in : List (List ℕ) → Option Op
flush_in [] = Some Flush
flush_in _ = None

-- `discard OFF LEN`, behind the first word
abbrev pub discard_in : List (List ℕ) → Option Op
discard_in words = do
  span ← span_in words
  Some (Discard span)

-- the request that some words make, by the first of them
abbrev pub request_in : List (List ℕ) → Option Op
request_in [] = None
request_in (name ∷ words) =
    if bytes_eq name (codes "read") then read_in words
    else if bytes_eq name (codes "write") then write_in words
    else if bytes_eq name (codes "bytes") then raw_in words
    else if bytes_eq name (codes "flush") then flush_in words
    else if bytes_eq name (codes "discard") then discard_in words
    else None

abbrev pub asked : Option Op → TraceLine
asked None = Bad
asked (Some op) = Asks op

-- An empty line and one that begins with `#` are passed over. Every other line asks for something, or is bad.
abbrev pub line_of : List ℕ → TraceLine
line_of [] = Passed
line_of (b ∷ bytes) = if b == 35 then Passed else asked (request_in (words_of (b ∷ bytes)))
