use Rattle.std.proofs.Common.{◌≡◌, ℕ, Some, None, IfSome, position, set, sym, subst, ◌∙◌, ap}
use Rattle.blk_bitmaps.specs.Rows.{IsSpareOf, is_named, used}
use Rattle.blk_bitmaps.proofs.RowLemmas.{absent, find_at, placed}
use Rattle.blk_bitmaps.proofs.change.freeze.Goals as goal

pub freeze-requires : goal.freeze-requires
freeze-requires c =
    let place : position (is_named c.args.node c.args.name.now) c.args.rows.now ≡ Some c.in-Some.place = sym c.place_of.ensures ∙ c.in-Some.is in
    let found = find_at (is_named c.args.node c.args.name.now) c.args.rows.now c.in-Some.place c.index-rows-place.result place in
    subst (λ row. IfSome row (IsSpareOf c.args.spare)) found c.requires

pub returns-in-Some : goal.returns-in-Some
returns-in-Some c =
    let place : position (is_named c.args.node c.args.name.now) c.args.rows.now ≡ Some c.in-Some.place = sym c.place_of.ensures ∙ c.in-Some.is in
    ap (λ v. set c.args.rows.now c.in-Some.place v) c.freeze.ensures
    ∙ sym (placed (is_named c.args.node c.args.name.now) (used c.args.job) c.args.rows.now c.in-Some.place c.index-rows-place.result place).changed

pub returns-in_default : goal.returns-in_default
returns-in_default c =
    let none : position (is_named c.args.node c.args.name.now) c.args.rows.now ≡ None = sym c.place_of.ensures ∙ c.in_default.is in
    sym (absent (is_named c.args.node c.args.name.now) (used c.args.job) c.args.rows.now none).changed
