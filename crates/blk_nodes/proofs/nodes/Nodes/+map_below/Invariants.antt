use Rattle.blk_nodes.proofs.nodes.Nodes.+map_below.Given as goal

abbrev pub decreases-map_below : goal.decreases-map_below
decreases-map_below g l = l.turns
