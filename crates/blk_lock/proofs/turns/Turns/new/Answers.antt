use Rattle.std.proofs.Common.{◌≡◌, List, [], ◌∷◌, ◌++◌, Option, Some, ap, ◌∙◌, sym, subst}
use Rattle.atomic_table.specs.Table as table
use Rattle.blk_lock.specs.Order.{InOrder, first_known}
use Rattle.blk_lock.proofs.Ends.{begins}
use Rattle.blk_lock.proofs.turns.Turns.new.Goals as goal

pub new-requires : goal.new-requires
new-requires g c =
    let l = g.W.Logged in let world = c.args.world in
    let items : c.push_reserved.new.self.items ≡ Some world ∷ [] = c.push_reserved.ensures.items ∙ ap (λ xs. xs ++ Some world ∷ []) c.in-Ok.ensures.items in
    subst
    (λ (z : g.row.W-Opening.Denot × g.row.W.Denot × List (Option g.row.W.Denot)). InOrder l.history l.actor l.spare l.comes z.0 (l.spare z.1) (table.opening (0 ∷ 0 ∷ 0 ∷ []) z.2 (first_known z.0 (l.spare z.1))))
    (λ i. (sym c.of-2.ensures i, sym c.of.ensures i, sym items i))
    (begins l.history l.actor l.spare l.comes g.opening world c.requires.1.1.1.0 c.requires.1.1.1.1)
