-- What a trace asks for.
use Rattle.std.specs.Prelude.{ℕ, ◌+◌, min, List, [], ◌∷◌, ◌++◌, length, nat_lt, ◌==◌, ◌||◌, if◌then◌else◌, Result, Ok, Err}
use Rattle.std.specs.List.{slice_split}
use Rattle.trace_codec.specs.declared.op.Op.{Op}
use Rattle.trace_codec.specs.declared.line.TraceLine.{TraceLine}
use Rattle.trace_codec.specs.declared.line.TraceLine.TheVariants.{Passed, Asks, Bad}
use Rattle.trace_codec.specs.declared.stop.TraceStop.{TraceStop}
use Rattle.trace_codec.specs.declared.stop.TraceStop.TheVariants.{BadLine, TooMany}
use Rattle.trace_codec.specs.Amounts.{Amounts, nothing}
use Rattle.trace_codec.specs.Line.{line_of}
use Rattle.trace_codec.specs.Reading.{Reading}
use Rattle.trace_codec.specs.Request.{with_op, passes_total}

-- what a result that is good leads to
infixl 10 ◌>>=◌
abbrev pub ◌>>=◌ : {A B : Type 0} → Result A TraceStop → (A → Result B TraceStop)
    → Result B TraceStop
(Ok x) >>= f = f x
(Err stop) >>= f = Err stop

-- lines are numbered from 1; at the last number of 32 bits, which no trace file reaches, the count stands still
abbrev pub next_line : Reading → Reading
next_line r = record r { line = min (r.line + 1) 4294967295 }

-- one request more, of which a trace has at most 65,536
abbrev pub with_request : Reading → Op → Result Reading TraceStop
with_request r op =
    if nat_lt 65536 (length r.ops + 1) || passes_total (with_op r.asked op)
    then Err (TooMany r.line)
    else Ok (record r { ops = r.ops ++ op ∷ []; asked = with_op r.asked op })

-- what a line leads to, or the refusal at it
abbrev pub after_line : Reading → TraceLine → Result Reading TraceStop
after_line r Passed = Ok (next_line r)
after_line r Bad = Err (BadLine r.line)
after_line r (Asks op) = do
  more ← with_request r op
  Ok (next_line more)

-- line by line, up to the first refusal
abbrev pub after_lines : Reading → List (List ℕ) → Result Reading TraceStop
after_lines r [] = Ok r
after_lines r (line ∷ lines) = do
  next ← after_line r (line_of line)
  after_lines next lines

-- the lines of a text, parted by line feeds; behind a line feed at the end stands an empty line, which is passed over
abbrev pub lines_of : List ℕ → List (List ℕ)
lines_of text = slice_split (λ b. b == 10) text

-- The requests of a trace and what all traces ask with it, where the traces before it ask for so much; or the first refusal.
unfoldable pub trace_of : Amounts → List ℕ → Result (List Op × Amounts) TraceStop
trace_of before text = do
  r ← after_lines (record { line = 1; ops = []; asked = before }) (lines_of text)
  Ok (r.ops, r.asked)

-- the requests of a trace before which there is none
abbrev pub ops_of : List ℕ → Result (List Op) TraceStop
ops_of text = do
  found ← trace_of nothing text
  Ok found.0
