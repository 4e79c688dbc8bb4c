-- A trace that may wait for answers to lines of the script.
use Rattle.std.specs.Prelude.{ℕ, ◌+◌, min, List, [], ◌∷◌, ◌++◌, nat_lt, ◌||◌, if◌then◌else◌, Option, Some, None, Result, Ok, Err}
use Rattle.std.specs.List.{filter_map}
use Rattle.trace_codec.specs.declared.op.Op.{Op}
use Rattle.trace_codec.specs.declared.line.TraceLine.{TraceLine}
use Rattle.trace_codec.specs.declared.line.TraceLine.TheVariants.{Passed, Asks, Bad}
use Rattle.trace_codec.specs.declared.wish.Wish.{Wish}
use Rattle.trace_codec.specs.declared.wish.Wish.TheVariants.{Ask, Wait}
use Rattle.trace_codec.specs.declared.stop.TraceStop.{TraceStop}
use Rattle.trace_codec.specs.declared.stop.TraceStop.TheVariants.{BadLine, TooMany}
use Rattle.trace_codec.specs.Amounts.{Amounts}
use Rattle.trace_codec.specs.Awaits.{trace_wait}
use Rattle.trace_codec.specs.Line.{line_of}
use Rattle.trace_codec.specs.Request.{with_op, passes_total}
use Rattle.trace_codec.specs.Trace.{◌>>=◌, lines_of}

-- ---- what a text says

-- what a line says: to a reader of requests alone, and whether it waits for a line of the script
abbrev pub wish_by : TraceLine → Option ℕ → Option Wish
wish_by Passed waits = None
wish_by (Asks op) waits = Some (Ask op)
wish_by Bad None = None
wish_by Bad (Some line) = Some (Wait line)

abbrev pub wish_of : List ℕ → Option Wish
wish_of line = wish_by (line_of line) (trace_wait line)

-- what a guest's entries must be, in order
unfoldable pub wishes_of : List ℕ → List Wish
wishes_of text = filter_map wish_of (lines_of text)

-- ---- reading it

-- the number of the line that comes, the wishes before it, how many of them are requests, and what all traces ask up to there
pub record Wishing : Type 0 where
  pub line : ℕ
  pub asks : ℕ
  pub wishes : List Wish
  pub asked : Amounts

abbrev pub nothing_read : Amounts → Wishing
nothing_read before = record { line = 1; asks = 0; wishes = []; asked = before }

-- lines are numbered from 1; at the last number of 32 bits the count stands still
abbrev pub next_wish_line : Wishing → Wishing
next_wish_line r = record r { line = min (r.line + 1) 4294967295 }

-- one request more, of which a trace has at most 65,536
abbrev pub with_ask : Wishing → Op → Result Wishing TraceStop
with_ask r op =
    if nat_lt 65536 (r.asks + 1) || passes_total (with_op r.asked op) then Err (TooMany r.line)
    else Ok (record r {
      asks = r.asks + 1;
      wishes = r.wishes ++ Ask op ∷ [];
      asked = with_op r.asked op;
    })

-- a line that asks for nothing is a wait, or none that a trace may have
abbrev pub with_wait : Wishing → Option ℕ → Result Wishing TraceStop
with_wait r None = Err (BadLine r.line)
with_wait r (Some line) = Ok (record r { wishes = r.wishes ++ Wait line ∷ [] })

-- what a line leads to, or the refusal at it
abbrev pub after_wish_line : Wishing → TraceLine → Option ℕ → Result Wishing TraceStop
after_wish_line r Passed waits = Ok (next_wish_line r)
after_wish_line r (Asks op) waits = do
  more ← with_ask r op
  Ok (next_wish_line more)
after_wish_line r Bad waits = do
  more ← with_wait r waits
  Ok (next_wish_line more)

-- line by line, up to the first refusal
abbrev pub after_wish_lines : Wishing → List (List ℕ) → Result Wishing TraceStop
after_wish_lines r [] = Ok r
after_wish_lines r (line ∷ lines) = do
  next ← after_wish_line r (line_of line) (trace_wait line)
  after_wish_lines next lines

-- The wishes of a trace and what all traces ask with it, where the traces before it ask for so much; or the first refusal.
unfoldable pub wishes_in : Amounts → List ℕ → Result (List Wish × Amounts) TraceStop
wishes_in before text = do
  r ← after_wish_lines (nothing_read before) (lines_of text)
  Ok (r.wishes, r.asked)
