-- What reading line by line comes to: the requests of all lines in order, or the first line with a cause.
use Rattle.std.specs.Prelude.{◌≡◌, ◌≢◌, ℕ, ◌+◌, min, List, [], ◌∷◌, ◌++◌, length, nat_lt, ◌||◌, Bool, true, false, Option, Some, None}
use Rattle.std.specs.List.{AllByRecursion, filter_map}
use Rattle.trace_codec.specs.declared.op.Op.{Op}
use Rattle.trace_codec.specs.declared.line.TraceLine.{TraceLine}
use Rattle.trace_codec.specs.declared.line.TraceLine.TheVariants.{Passed, Asks, Bad}
use Rattle.trace_codec.specs.declared.stop.TraceStop.{TraceStop}
use Rattle.trace_codec.specs.declared.stop.TraceStop.TheVariants.{BadLine, TooMany, NoMemory}
use Rattle.trace_codec.specs.Amounts.{Amounts}
use Rattle.trace_codec.specs.Line.{line_of}
use Rattle.trace_codec.specs.Request.{with_op, passes_total}

-- a line that a trace may have
abbrev pub IsGood : List ℕ → Type 0
IsGood line = line_of line ≢ Bad

abbrev pub op_in : TraceLine → Option Op
op_in Passed = None
op_in (Asks op) = Some op
op_in Bad = None

-- the requests of some lines, in order
abbrev pub requests_of : List (List ℕ) → List Op
requests_of lines = filter_map (λ line. op_in (line_of line)) lines

-- what all traces ask with some requests more
abbrev pub with_ops : Amounts → List Op → Amounts
with_ops asked [] = asked
with_ops asked (op ∷ ops) = with_ops (with_op asked op) ops

-- these are too many requests for one trace, or they ask for too much behind what was asked before
abbrev pub are_too_many : Amounts → List Op → Bool
are_too_many before ops = nat_lt 65536 (length ops) || passes_total (with_ops before ops)

-- all lines are good, and their requests not too many
pub record AreLinesTaken (before : Amounts) (lines : List (List ℕ)) : Type 0 where
  pub good : AllByRecursion IsGood lines
  pub few : are_too_many before (requests_of lines) ≡ false

-- all lines are taken: these are their requests, and this is what all traces ask with them
pub record IsTaken (before : Amounts) (lines : List (List ℕ)) (ops : List Op)
    (asked : Amounts) : Type 0 where
  pub all : AreLinesTaken before lines
  pub requests : ops ≡ requests_of lines
  pub total : asked ≡ with_ops before ops

-- the number of the line behind some lines
abbrev pub number_behind : List (List ℕ) → ℕ
number_behind lines = min (length lines + 1) 4294967295

-- what is wrong at a line behind others
abbrev pub IsCause : Amounts → List (List ℕ) → List ℕ → TraceStop → Type 0
IsCause before front line (BadLine n) = (n ≡ number_behind front) × (line_of line ≡ Bad)
IsCause before front line (TooMany n) =
    (n ≡ number_behind front) × (op : Op) × (line_of line ≡ Asks op)
    × (are_too_many before (requests_of front ++ op ∷ []) ≡ true)
IsCause before front line NoMemory = ⊥

-- the first line with a cause
pub record StopsAt (before : Amounts) (lines : List (List ℕ)) (stop : TraceStop) : Type 0 where
  pub front : List (List ℕ)
  pub line : List ℕ
  pub rest : List (List ℕ)
  pub parts : lines ≡ front ++ line ∷ rest
  pub taken : AreLinesTaken before front
  pub cause : IsCause before front line stop
