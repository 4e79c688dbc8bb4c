use Rattle.std.proofs.Common.{◌<◌, ◌+◌, ◌-◌, sym, ◌∙◌, ap, arith}
use Rattle.flat_machine.specs.Bitmaps.{noted_rows}
use Rattle.flat_machine.specs.Machine.{path_from}
use Rattle.world_pieces.proofs.BitmapsNoted.{path_end, path_none, path_some, path_start}
use Rattle.world_pieces.proofs.recording.note_path.Goals as goal

pub loop-init : goal.loop-init
loop-init c = ap (noted_rows c.args.part c.args.bitmaps.now) (path_start c.args.names.now.table c.args.drive)

pub loop-preserved : goal.loop-preserved
loop-preserved c =
    let less : c.loop.counter < 64 = omega arith in
    ap (λ rows. noted_rows c.args.part rows (path_from (64 - (c.loop.counter + 1)) c.args.names.now.table c.in-Some.below)) c.note_write.ensures
    ∙ sym (ap (noted_rows c.args.part c.loop.bitmaps) (path_some c.loop.counter c.args.names.now.table c.loop.node c.in-Some.below less (sym c.in-Some.ensures)))
    ∙ c.loop.invariant

pub returns-in-None : goal.returns-in-None
returns-in-None c =
    c.note_write.ensures
    ∙ sym (ap (noted_rows c.args.part c.loop.bitmaps) (path_none c.loop.counter c.args.names.now.table c.loop.node (sym c.in-None.ensures)))
    ∙ c.loop.invariant

pub returns : goal.returns
returns c =
    c.note_write-2.ensures
    ∙ sym (ap (noted_rows c.args.part c.loop.bitmaps) (path_end c.loop.counter c.args.names.now.table c.loop.node (omega arith)))
    ∙ c.loop.invariant
