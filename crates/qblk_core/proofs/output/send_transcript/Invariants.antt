use Rattle.std.proofs.Common.{◌≡◌, take}
use Rattle.std.specs.Prelude.{flat_map}
use Rattle.blk_base.specs.Written.{memory_of}
use Rattle.blk_history.specs.Transcript.{entry_line}
use Rattle.qblk_core.specs.Output.{SendsPart}
use Rattle.qblk_core.proofs.output.send_transcript.Given as goal

-- the lines of the first entries went out, or stand in the text
abbrev pub invariant-loop-at : goal.invariant-loop-at
invariant-loop-at g l = record {
  part : SendsPart (memory_of l.initial.line) (g.K.Sink.sent l.initial.out) (g.K.Sink.sent l.out) (flat_map (entry_line l.names) (take l.at l.history.events)) l.line;
  faults : g.K.Sink.faults l.out ≡ g.K.Sink.faults l.initial.out;
}
