use Rattle.std.proofs.Common.{◌≡◌, ◌*◌, Some, sym, ◌∙◌, arith}
use Rattle.blk_nodes.specs.Nodes.{Nodes, node_size}
use Rattle.node_copies.specs.Between.{below_of}
use Rattle.node_copies.proofs.Chained.{size_below}
use Rattle.node_copies.proofs.between.held_below.Goals as goal

pub is_held_in-requires : goal.is_held_in-requires
is_held_in-requires g c =
    let nodes : Nodes = c.args.nodes.now in
    let below : below_of nodes c.args.top ≡ Some c.in-Some.next = sym c.below_of.ensures ∙ c.in-Some.is in
    let size : node_size nodes c.in-Some.next ≡ node_size nodes c.args.top
    = size_below nodes c.args.top (c.args.block * 65536) c.in-Some.next c.edges.ensures.joined c.requires.own below in
    let inside = c.requires.block in
    omega (arith, inside, size)
