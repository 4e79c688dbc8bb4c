use Rattle.std.proofs.Common.{◌≡◌, ◌<◌, None, sym}
use Rattle.blk_graph.specs.Graph.{IsSoundGraph}
use Rattle.blk_graph.specs.Judged.{first_parent, without_node}
use Rattle.blk_graph.proofs.NodeLemmas.{no_child_from_None}
use Rattle.blk_nodes.specs.Nodes.{Nodes}
use Rattle.blk_nodes.proofs.Dropped.{joined_left, disks_left, unparented}
use Rattle.blk_nodes.proofs.nodes.Nodes.drop_node.Goals as goal

pub invariant_of-self : goal.invariant_of-self
invariant_of-self g c =
    let nodes : Nodes = record { graph = c.self.inside.graph; rows = c.self.inside.rows.items; devices = c.self.inside.devices } in
    let none : first_parent c.args.node nodes.graph.edges ≡ None = unparented _ _ c.in-Ok.ensures.answer in
    let value : c.index.result ≡ c.args.node = c.index.ensures.value in
    let small : c.args.node < 64 = rw value at c.index.ensures.small in
    let sound : IsSoundGraph (without_node c.args.node nodes.graph) = rw c.in-Ok.ensures.ok at c.in-Ok.ensures.sound in
    rw (c.in-Ok.ensures.ok, value, c.take_out.ensures.left)
    (joined_left nodes c.args.node c.self.invariant small (no_child_from_None c.args.node nodes.graph.edges none) sound)

pub returns-in-Ok-clause-disks : goal.returns-in-Ok-clause-disks
returns-in-Ok-clause-disks g c =
    let nodes : Nodes = record { graph = c.self.inside.graph; rows = c.self.inside.rows.items; devices = c.self.inside.devices } in
    let none : first_parent c.args.node nodes.graph.edges ≡ None = unparented _ _ c.in-Ok.ensures.answer in
    let value : c.index.result ≡ c.args.node = c.index.ensures.value in
    let small : c.args.node < 64 = rw value at c.index.ensures.small in
    let sound : IsSoundGraph (without_node c.args.node nodes.graph) = rw c.in-Ok.ensures.ok at c.in-Ok.ensures.sound in
    rw (sym c.self.view_is, c.in-Ok.ensures.ok, value, c.take_out.ensures.left)
    (disks_left nodes c.args.node c.self.invariant small (no_child_from_None c.args.node nodes.graph.edges none) sound)
