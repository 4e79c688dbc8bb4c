use Rattle.trace_codec.specs.Trace.{lines_of}
use Rattle.trace_codec.proofs.Asking.{lines_each}
use Rattle.trace_codec.proofs.trace.read_trace_after.Goals as goal

pub returns-clause-each : goal.returns-clause-each
returns-clause-each c =
    rw c.finish-ops.ensures.ops (lines_each c.args.asked.now (lines_of c.as_bytes.result.now) c.in_ok-read_lines.field-0 c.in_ok-read_lines.ensures.ok)
