use Rattle.std.proofs.Common.{◌≡◌, refl, sym, ◌∙◌, Some, None, position}
use Rattle.blk_bitmaps.specs.Rows.{is_named}
use Rattle.blk_bitmaps.proofs.RowLemmas.{find_none, refusal_at}
use Rattle.blk_bitmaps.proofs.find.free_place.Goals as goal

pub returns-in-None-clause-answer : goal.returns-in-None-clause-answer
returns-in-None-clause-answer c =
    let none : position (is_named c.args.node c.args.name.now) c.args.rows.now ≡ None = sym c.place_of.ensures ∙ c.in-None.is in
    rw (find_none (is_named c.args.node c.args.name.now) c.args.rows.now none) refl

pub returns-in-Some-busy-clause-answer : goal.returns-in-Some-busy-clause-answer
returns-in-Some-busy-clause-answer c =
    let there : position (is_named c.args.node c.args.name.now) c.args.rows.now ≡ Some c.in-Some.place = sym c.place_of.ensures ∙ c.in-Some.is in
    rw (refusal_at _ (is_named c.args.node c.args.name.now) c.args.rows.now c.in-Some.place (Some c.in-Some-busy.job) there c.in-Some-busy.is) refl

pub returns-in-None-busy-clause-answer : goal.returns-in-None-busy-clause-answer
returns-in-None-busy-clause-answer c =
    let there : position (is_named c.args.node c.args.name.now) c.args.rows.now ≡ Some c.in-Some.place = sym c.place_of.ensures ∙ c.in-Some.is in
    rw (refusal_at _ (is_named c.args.node c.args.name.now) c.args.rows.now c.in-Some.place None there c.in-None-busy.is) refl
