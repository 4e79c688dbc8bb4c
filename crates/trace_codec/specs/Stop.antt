-- How a refusal prints: its name, and the line between parentheses.
use Rattle.std.specs.Prelude.{ℕ, List, ◌++◌, codes, decimal}
use Rattle.trace_codec.specs.declared.stop.TraceStop.{TraceStop}
use Rattle.trace_codec.specs.declared.stop.TraceStop.TheVariants.{BadLine, TooMany, NoMemory}

abbrev pub trace_stop_text : TraceStop → List ℕ
trace_stop_text (BadLine line) = codes "BadLine(" ++ decimal line ++ codes ")"
trace_stop_text (TooMany line) = codes "TooMany(" ++ decimal line ++ codes ")"
trace_stop_text NoMemory = codes "NoMemory"
