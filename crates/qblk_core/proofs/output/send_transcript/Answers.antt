use Rattle.std.proofs.Common.{List, ℕ, ◌∙◌, take, subst, sym, arith}
use Rattle.std.specs.Prelude.{flat_map}
use Rattle.blk_base.specs.Written.{memory_of}
use Rattle.blk_history.specs.Transcript.{entry_line}
use Rattle.qblk_core.specs.Output.{SendsPart}
use Rattle.qblk_core.proofs.Sending.{on-err, on-ok, get-below, fits-more, lines-next, part-next, line-failed, all-sent, rest-sent, rest-failed}
use Rattle.qblk_core.proofs.output.send_transcript.Goals as goal

pub send_line-requires-clause-lines : goal.send_line-requires-clause-lines
send_line-requires-clause-lines g c =
    fits-more c.args.names.now (memory_of c.args.line.now) (memory_of c.loop-at.line) c.args.history.now.events c.loop-at.invariant.part.buffer.room c.requires.lines

pub send_line-requires-clause-short : goal.send_line-requires-clause-short
send_line-requires-clause-short g c = c.loop-at.invariant.part.buffer.short

pub returns-in-Err-clause-failed : goal.returns-in-Err-clause-failed
returns-in-Err-clause-failed g c =
    let es = c.args.history.now.events in
    let found = get-below es c.loop-at.at (omega arith) in
    line-failed c.args.names.now (memory_of c.args.line.now) es c.loop-at.at found.0 (g.K.Sink.sent c.args.out.now) (g.K.Sink.sent c.loop-at.out) (g.K.Sink.sent c.send_line.new.out) c.loop-at.line
    (g.K.Sink.faults c.args.out.now) (g.K.Sink.faults c.loop-at.out) (g.K.Sink.faults c.send_line.new.out) found.1 c.loop-at.invariant.part (c.in-Err.ensures.failed found.0 found.1) c.loop-at.invariant.faults

pub loop-at-preserved : goal.loop-at-preserved
loop-at-preserved g c =
    let es = c.args.history.now.events in
    let names = c.args.names.now in
    let found = get-below es c.loop-at.at (omega arith) in
    let next = part-next (memory_of c.args.line.now) (g.K.Sink.sent c.args.out.now) (g.K.Sink.sent c.loop-at.out) (g.K.Sink.sent c.send_line.new.out) (flat_map (entry_line names) (take c.loop-at.at es)) (entry_line names found.0) c.loop-at.line c.send_line.new.line
    c.loop-at.invariant.part (c.in_default.ensures.ok found.0 found.1) in
    let P : List ℕ → Type 0 = λ w. SendsPart (memory_of c.args.line.now) (g.K.Sink.sent c.args.out.now) (g.K.Sink.sent c.send_line.new.out) w c.send_line.new.line in
    record { part = subst P (sym (lines-next names es c.loop-at.at found.0 found.1)) next; faults = c.in_default.ensures.quiet ∙ c.loop-at.invariant.faults }

pub returns-then-is_empty-clause-ok : goal.returns-then-is_empty-clause-ok
returns-then-is_empty-clause-ok g c = all-sent c.args.names.now (memory_of c.args.line.now) c.args.history.now.events c.loop-at.at (g.K.Sink.sent c.args.out.now) (g.K.Sink.sent c.loop-at.out) c.loop-at.line (omega arith) c.loop-at.invariant.part (c.is_empty.ensures.0 c.if-is_empty.true)

pub returns-then-is_empty-clause-faults : goal.returns-then-is_empty-clause-faults
returns-then-is_empty-clause-faults g c = omega (arith, c.loop-at.invariant.faults)

pub returns-then-is_empty-clause-quiet : goal.returns-then-is_empty-clause-quiet
returns-then-is_empty-clause-quiet g c = c.loop-at.invariant.faults

pub returns-clause-ok : goal.returns-clause-ok
returns-clause-ok g c =
    on-ok c.send.result _ _ _ _ c.send.ensures.sent c.send.ensures.sent c.send.ensures.sent
    (λ sent again more. rest-sent c.args.names.now (memory_of c.args.line.now) c.args.history.now.events c.loop-at.at (g.K.Sink.sent c.args.out.now) (g.K.Sink.sent c.loop-at.out) (g.K.Sink.sent c.send.new.out) c.loop-at.line (omega arith) c.loop-at.invariant.part sent)

pub returns-clause-failed : goal.returns-clause-failed
returns-clause-failed g c =
    on-err c.send.result _ _ c.send.ensures.failed
    (λ front. rest-failed c.args.names.now (memory_of c.args.line.now) c.args.history.now.events c.loop-at.at (g.K.Sink.sent c.args.out.now) (g.K.Sink.sent c.loop-at.out) (g.K.Sink.sent c.send.new.out) c.loop-at.line
    (g.K.Sink.faults c.args.out.now) (g.K.Sink.faults c.loop-at.out) (g.K.Sink.faults c.send.new.out) (omega arith) c.loop-at.invariant.part front c.loop-at.invariant.faults)

pub returns-clause-faults : goal.returns-clause-faults
returns-clause-faults g c = omega (arith, c.loop-at.invariant.faults, c.send.ensures.faults)
