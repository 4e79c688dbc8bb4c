use Rattle.blk_nodes.proofs.nodes.Nodes.+room_below.Given as goal

abbrev pub decreases-room_below : goal.decreases-room_below
decreases-room_below g l = l.turns
