use Rattle.std.proofs.Common.{◌≡◌, sym, ◌∙◌, Some, None, position}
use Rattle.blk_bitmaps.specs.Rows.{is_named}
use Rattle.blk_bitmaps.specs.Refusals.{find}
use Rattle.blk_bitmaps.proofs.RowLemmas.{merged_at, source_absent, target_absent}
use Rattle.blk_bitmaps.proofs.merge.merge_named.Goals as goal

pub returns-in_default : goal.returns-in_default
returns-in_default c =
    let none : position (is_named c.args.source_node c.args.source.now) c.args.rows.now ≡ None = sym c.place_of.ensures ∙ c.in_default.is in
    source_absent c.args.rows.now c.args.node c.args.target.now (is_named c.args.source_node c.args.source.now) none

pub returns-in_default-place_of : goal.returns-in_default-place_of
returns-in_default-place_of c =
    target_absent c.args.rows.now c.args.node c.args.target.now (find c.args.rows.now c.args.source_node c.args.source.now) (sym c.place_of-2.ensures ∙ c.in_default-place_of.is)

pub returns : goal.returns
returns c =
    let from : position (is_named c.args.source_node c.args.source.now) c.args.rows.now ≡ Some c.in-Some.from = sym c.place_of.ensures ∙ c.in-Some.is in
    merged_at c.args.rows.now c.join.new.rows c.args.node c.args.target.now (is_named c.args.source_node c.args.source.now) c.in-Some.from c.in-Some-place_of.to
    from (sym c.place_of-2.ensures ∙ c.in-Some-place_of.is) c.join.ensures
