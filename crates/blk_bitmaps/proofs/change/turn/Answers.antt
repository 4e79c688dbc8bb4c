use Rattle.std.proofs.Common.{set, sym, ◌∙◌, ap}
use Rattle.blk_bitmaps.specs.Rows.{is_named, switched}
use Rattle.blk_bitmaps.proofs.RowLemmas.{placed}
use Rattle.blk_bitmaps.proofs.change.turn.Goals as goal

pub returns-clause-done : goal.returns-clause-done
returns-clause-done c =
    ap (λ v. set c.args.rows.now c.in_ok-place.place v) c.turn.ensures
    ∙ sym (placed (is_named c.args.node c.args.name.now) (switched c.args.on) c.args.rows.now c.in_ok-place.place c.index-rows-place.result c.in_ok-place.ensures.place).changed
