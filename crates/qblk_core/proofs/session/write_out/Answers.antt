use Rattle.std.proofs.Common.{subst, sym, arith}
use Rattle.blk_base.specs.Written.{memory_of}
use Rattle.blk_history.specs.Names.{RowNames}
use Rattle.qblk_core.specs.Output.{AllLinesFit}
use Rattle.qblk_core.specs.Run.{guest_names}
use Rattle.qblk_core.proofs.Sending.{ends-well, ends-badly, lines-fit, fits-more}
use Rattle.qblk_core.proofs.session.write_out.Goals as goal

pub send_transcript-requires-clause-lines : goal.send_transcript-requires-clause-lines
send_transcript-requires-clause-lines g c =
    let made = c.args.made in
    let F : RowNames → Type 0 = λ names. AllLinesFit names (memory_of made.line) made.history.events in
    let room = c.requires.room in
    subst F (sym c.requires.named) (fits-more guest_names 393476 (memory_of made.line) made.history.events (omega arith) (lines-fit made.history.events c.requires.lines))

pub returns-in-Ok : goal.returns-in-Ok
returns-in-Ok g c = rw c.ended.ensures (rw c.requires.named at (ends-well c.args.made.fault _ _ _ _ _ c.in-Ok.ensures.ok c.in-Ok.ensures.quiet))

pub returns : goal.returns
returns g c = rw (c.failed.ensures, c.faults.ensures) (rw c.requires.named at (ends-badly c.args.made.fault _ _ _ _ _ c.in-Err.ensures.failed))
