use Rattle.std.proofs.Common.{sym, subst}
use Rattle.blk_base.specs.Written.{memory_of}
use Rattle.blk_history.specs.Names.{RowNames}
use Rattle.qblk_core.specs.Output.{AllLinesFit}
use Rattle.qblk_run.proofs.output.write_out.Goals as goal

pub send_transcript-requires-clause-lines : goal.send_transcript-requires-clause-lines
send_transcript-requires-clause-lines g c =
    subst (λ (names : RowNames). AllLinesFit names (memory_of c.in-Ok.text) c.args.made.history.events) (sym c.new-rows.ensures)
    (c.in-Ok.ensures.fits c.args.made.jobs.items c.requires.lines)
