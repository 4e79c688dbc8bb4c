use Rattle.std.proofs.Common.{arith}
use Rattle.blk_base.specs.Written.{memory_of}
use Rattle.blk_history.specs.Line.{line_room}
use Rattle.blk_history.specs.Transcript.{entry_line}
use Rattle.qblk_core.proofs.Sending.{on-ok, on-err, at-ok, fits-at, get-below, line-kept, line-sent, line-front}
use Rattle.qblk_core.proofs.output.send_line.Goals as goal

pub line-requires-clause-named : goal.line-requires-clause-named
line-requires-clause-named g c = λ e is. (fits-at c.args.names.now (memory_of c.args.line.now) c.args.history.now.events c.args.at e c.requires.lines is).named

pub unwrap-requires : goal.unwrap-requires
unwrap-requires g c =
    let found = get-below c.args.history.now.events c.args.at c.requires.within in
    let fits = fits-at c.args.names.now (memory_of c.args.line.now) c.args.history.now.events c.args.at found.0 c.requires.lines found.1 in
    let room = fits.room in
    let short = c.requires.short in
    c.line.ensures.room found.0 found.1 (omega arith)

pub returns-then-len-lt-CHUNK-clause-ok : goal.returns-then-len-lt-CHUNK-clause-ok
returns-then-len-lt-CHUNK-clause-ok g c = λ e is.
    line-kept (g.K.Sink.sent c.args.out.now) c.args.line.now c.line.new.out (entry_line c.args.names.now e) (line_room c.args.names.now e)
    (at-ok c.line.result c.unwrap.result _ c.unwrap.ensures (c.line.ensures.ok e is)) (omega arith)

pub returns-clause-ok : goal.returns-clause-ok
returns-clause-ok g c = λ e is.
    let appends = at-ok c.line.result c.unwrap.result _ c.unwrap.ensures (c.line.ensures.ok e is) in
    on-ok c.send.result _ _ _ _ c.send.ensures.sent c.send.ensures.empty c.send.ensures.memory
    (λ sent empty memory. line-sent (g.K.Sink.sent c.args.out.now) (g.K.Sink.sent c.send.new.out) c.args.line.now c.line.new.out c.send.new.line (entry_line c.args.names.now e) (line_room c.args.names.now e) appends sent empty memory)

pub returns-clause-failed : goal.returns-clause-failed
returns-clause-failed g c = λ e is.
    let appends = at-ok c.line.result c.unwrap.result _ c.unwrap.ensures (c.line.ensures.ok e is) in
    on-err c.send.result _ _ c.send.ensures.failed
    (λ front. line-front (g.K.Sink.sent c.args.out.now) (g.K.Sink.sent c.send.new.out) c.args.line.now c.line.new.out (entry_line c.args.names.now e) (line_room c.args.names.now e) (g.K.Sink.faults c.args.out.now) (g.K.Sink.faults c.send.new.out) appends front)
