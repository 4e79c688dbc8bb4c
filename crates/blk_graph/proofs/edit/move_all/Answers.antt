use Rattle.std.proofs.Common.{◌≡◌, ◌==◌, Bool, true, false, refl, sym, ◌∙◌}
use Rattle.std.specs.Prelude.{not}
use Rattle.std.proofs.lemmas.Bool.{eqb-true}
use Rattle.blk_graph.proofs.DoubleLemmas.{with_moved-same}
use Rattle.blk_graph.proofs.edit.move_all.Goals as goal

same : (b : Bool) → not b ≡ false → b ≡ true
same true h = refl
same false h = absurd cc

pub returns-else-ne-clause-items : goal.returns-else-ne-clause-items
returns-else-ne-clause-items c =
    sym (with_moved-same c.args.from c.args.to c.args.edges.now.items
    (eqb-true c.args.from c.args.to (same (c.args.from == c.args.to) (sym c.ne.ensures ∙ c.if-ne.false))))
