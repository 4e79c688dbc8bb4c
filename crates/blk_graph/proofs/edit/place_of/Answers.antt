use Rattle.std.proofs.Common.{◌≡◌, sym, ◌∙◌, ap, true, get_or}
use Rattle.blk_graph.specs.Edits.{takes_place}
use Rattle.blk_graph.proofs.ListLemmas.{with_edge-found}
use Rattle.blk_graph.proofs.edit.place_of.Goals as goal

pub returns-then-takes_place-clause-place : goal.returns-then-takes_place-clause-place
returns-then-takes_place-clause-place c =
    let is : takes_place c.args.new.now (get_or c.args.edges.now c.loop-i.i c.index-edges-i.result) ≡ true
    = ap (takes_place c.args.new.now) (sym c.index-edges-i.is) ∙ sym c.takes_place.ensures ∙ c.if-takes_place.true in
    sym (with_edge-found c.args.new.now c.args.edges.now c.loop-i.i c.index-edges-i.result c.loop-i-test.true is)
    ∙ c.loop-i.invariant
