use Rattle.blk_nodes.proofs.nodes.Nodes.+base_in.Given as goal

abbrev pub decreases-base_in : goal.decreases-base_in
decreases-base_in g l = l.turns
