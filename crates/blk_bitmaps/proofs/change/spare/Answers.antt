use Rattle.std.proofs.Common.{◌≡◌, Some, IfSome, get_or, position, sym, subst, ap, ◌∙◌}
use Rattle.blk_bitmaps.specs.Rows.{IsSpareOf, is_named, spare_of}
use Rattle.blk_bitmaps.proofs.RowLemmas.{find_at}
use Rattle.blk_bitmaps.proofs.change.spare.Goals as goal

pub returns-clause-spare : goal.returns-clause-spare
returns-clause-spare c =
    let found = find_at (is_named c.args.node c.args.name.now) c.args.rows.now c.in_ok-place.place c.index-rows-place.result c.in_ok-place.ensures.place in
    let here : c.in_ok-spare.field-0 ≡ spare_of (get_or c.args.rows.now c.in_ok-place.place c.index-rows-place.result) =
    c.in_ok-spare.ensures ∙ ap spare_of c.index-rows-place.is in
    subst (λ row. IfSome row (IsSpareOf c.in_ok-spare.field-0)) (sym found) here
