use Rattle.blk_nodes.proofs.nodes.Nodes.+source_in.Given as goal

abbrev pub decreases-source_in : goal.decreases-source_in
decreases-source_in g l = l.turns
