use Rattle.trace_codec.proofs.CauseLemmas.{all_taken, all_requests, all_askable, first_cause}
use Rattle.trace_codec.proofs.trace.read_trace.Goals as goal

pub returns-clause-taken : goal.returns-clause-taken
returns-clause-taken c =
    all_taken c.new-asked.result c.args.text.now c.read_trace_after.new.asked c.read_trace_after.result c.new-asked.ensures c.read_trace_after.ensures.ok

pub returns-clause-requests : goal.returns-clause-requests
returns-clause-requests c =
    all_requests c.new-asked.result c.args.text.now c.read_trace_after.new.asked c.read_trace_after.result c.new-asked.ensures c.read_trace_after.ensures.ok

pub returns-clause-cause : goal.returns-clause-cause
returns-clause-cause c = first_cause c.new-asked.result c.args.text.now c.read_trace_after.result c.new-asked.ensures c.read_trace_after.ensures.refused

pub returns-clause-askable : goal.returns-clause-askable
returns-clause-askable c =
    all_askable c.new-asked.result c.args.text.now c.read_trace_after.new.asked c.read_trace_after.result c.new-asked.ensures c.read_trace_after.ensures.ok c.read_trace_after.ensures.each
