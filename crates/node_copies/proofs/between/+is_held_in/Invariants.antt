use Rattle.node_copies.proofs.between.+is_held_in.Given as goal

abbrev pub decreases-is_held_in : goal.decreases-is_held_in
decreases-is_held_in g l = l.turns
