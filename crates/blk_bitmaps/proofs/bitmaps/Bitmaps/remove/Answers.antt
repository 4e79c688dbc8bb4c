use Rattle.std.proofs.Common.{rules, ◌≡◌, sym, ◌∙◌, Some, position}
use Rattle.blk_bitmaps.specs.Rows.{is_named}
use Rattle.blk_bitmaps.proofs.RowLemmas.{placed}
use Rattle.blk_bitmaps.proofs.bitmaps.Bitmaps.remove.Goals as goal

pub returns-clause-done : goal.returns-clause-done
returns-clause-done c =
    let there : position (is_named c.args.node c.args.name.now) c.self.inside.rows.items ≡ Some c.in_ok-place.place = search rules in
    rw (← c.self.view_is) (c.remove.ensures.items ∙ sym (placed (is_named c.args.node c.args.name.now) (λ row. row) c.self.inside.rows.items c.in_ok-place.place c.remove.result there).gone)
