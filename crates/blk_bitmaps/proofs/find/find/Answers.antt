use Rattle.std.proofs.Common.{◌≡◌, sym, ◌∙◌, ap, Some, None, position}
use Rattle.blk_bitmaps.specs.Rows.{is_named}
use Rattle.blk_bitmaps.proofs.RowLemmas.{find_at, find_none}
use Rattle.blk_bitmaps.proofs.find.find.Goals as goal

pub returns-in_err-place : goal.returns-in_err-place
returns-in_err-place c =
    let none : position (is_named c.args.node c.args.name.now) c.args.rows.now ≡ None = sym c.place_of.ensures ∙ c.in_err-place.was in
    rw c.from_residual.ensures (sym (find_none (is_named c.args.node c.args.name.now) c.args.rows.now none))

pub returns : goal.returns
returns c =
    let there : position (is_named c.args.node c.args.name.now) c.args.rows.now ≡ Some c.in_ok-place.place = sym c.place_of.ensures ∙ c.in_ok-place.was in
    ap (λ r. Some r) c.index-rows-place.is ∙ sym (find_at (is_named c.args.node c.args.name.now) c.args.rows.now c.in_ok-place.place c.index-rows-place.result there)
