use Rattle.blk_nodes.proofs.Joints.{joined_none}
use Rattle.blk_nodes.proofs.nodes.Nodes.new.Goals as goal

pub invariant_of-result : goal.invariant_of-result
invariant_of-result g c = rw (c.in_ok-new.ensures, c.in_ok-no_rows.ensures, c.in_ok-new-5.ensures) joined_none
