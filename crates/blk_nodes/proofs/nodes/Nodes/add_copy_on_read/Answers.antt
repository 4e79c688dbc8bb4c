use Rattle.std.proofs.Common.{◌≡◌, ◌<◌, refl, sym, subst}
use Rattle.blk_graph.specs.Edits.{IsLone}
use Rattle.blk_graph.specs.Graph.{HasNode}
use Rattle.blk_nodes.specs.Nodes.{Nodes, node_size}
use Rattle.blk_nodes.proofs.Additions.{graph_back, has_after}
use Rattle.blk_nodes.proofs.OverlayAdded.{joined_copying, disks_copying, disk_copying}
use Rattle.blk_nodes.proofs.nodes.Nodes.add_copy_on_read.Goals as goal

pub draw_edges-requires-clause-file : goal.draw_edges-requires-clause-file
draw_edges-requires-clause-file g c =
    let has : HasNode c.self.inside.graph c.args.child = rw (sym c.self.view_is) at c.requires.child in (
      rw c.in-Ok.ensures.ok (has_after c.self.inside.graph c.in-Ok.node c.args.name.bytes c.node_kind-kind.result c.args.child has),
      λ same. c.in-Ok.ensures.lowest.free (subst (HasNode c.self.inside.graph) same has),
    )

pub invariant_of-self : goal.invariant_of-self
invariant_of-self g c =
    rw (graph_back c.self.inside.graph c.add_node.new.self c.take_back.new.graph c.in-Ok.node c.args.name.bytes c.node_kind-kind.result c.self.invariant.sound
    c.in-Ok.ensures.lowest.free c.in-Ok.ensures.ok c.in-Ok.ensures.lone c.in-Ok.ensures.sound c.take_back.ensures) c.self.invariant

pub returns-in-Err-draw_edges-clause-err : goal.returns-in-Err-draw_edges-clause-err
returns-in-Err-draw_edges-clause-err g c =
    rw (graph_back c.self.inside.graph c.add_node.new.self c.take_back.new.graph c.in-Ok.node c.args.name.bytes c.node_kind-kind.result c.self.invariant.sound
    c.in-Ok.ensures.lowest.free c.in-Ok.ensures.ok c.in-Ok.ensures.lone c.in-Ok.ensures.sound c.take_back.ensures) c.self.view_is

pub invariant_of-self-2 : goal.invariant_of-self-2
invariant_of-self-2 g c =
    let nodes : Nodes = record { graph = c.self.inside.graph; rows = c.self.inside.rows.items; devices = c.self.inside.devices } in
    let has : HasNode c.self.inside.graph c.args.child = rw (sym c.self.view_is) at c.requires.child in
    let value : c.index.result ≡ c.in-Ok.node = c.index.ensures.value in
    let small : c.in-Ok.node < 64 = rw value at c.index.ensures.small in
    let lone : IsLone nodes.graph.edges c.in-Ok.node = rw c.in-Ok.ensures.ok at c.in-Ok.ensures.lone in
    let size : node_size nodes c.args.child ≡ c.size-size.result = sym (rw (sym c.self.view_is) at c.size-size.ensures) in
    let sound = rw (c.in_default-draw_edges.ensures.drawn, c.in-Ok.ensures.ok, c.node_kind-kind.ensures) at c.in_default-draw_edges.ensures.sound in
    rw (c.take_drawn.ensures, c.in_default-draw_edges.ensures.drawn, c.in-Ok.ensures.ok, c.node_kind-kind.ensures, value)
    (joined_copying nodes c.in-Ok.node c.args.child c.size-size.result c.args.name.bytes c.args.read_only c.self.invariant c.in-Ok.ensures.lowest.free
    small lone has size sound)

pub returns-clause-disks : goal.returns-clause-disks
returns-clause-disks g c =
    let nodes : Nodes = record { graph = c.self.inside.graph; rows = c.self.inside.rows.items; devices = c.self.inside.devices } in
    let has : HasNode c.self.inside.graph c.args.child = rw (sym c.self.view_is) at c.requires.child in
    let value : c.index.result ≡ c.in-Ok.node = c.index.ensures.value in
    let small : c.in-Ok.node < 64 = rw value at c.index.ensures.small in
    let lone : IsLone nodes.graph.edges c.in-Ok.node = rw c.in-Ok.ensures.ok at c.in-Ok.ensures.lone in
    let size : node_size nodes c.args.child ≡ c.size-size.result = sym (rw (sym c.self.view_is) at c.size-size.ensures) in
    rw (sym c.self.view_is, c.take_drawn.ensures, c.in_default-draw_edges.ensures.drawn, c.in-Ok.ensures.ok, c.node_kind-kind.ensures, value)
    (disks_copying nodes c.in-Ok.node c.args.child c.size-size.result c.args.name.bytes c.args.read_only c.self.invariant c.in-Ok.ensures.lowest.free
    small lone has size)

pub returns-clause-disk : goal.returns-clause-disk
returns-clause-disk g c =
    let nodes : Nodes = record { graph = c.self.inside.graph; rows = c.self.inside.rows.items; devices = c.self.inside.devices } in
    let has : HasNode c.self.inside.graph c.args.child = rw (sym c.self.view_is) at c.requires.child in
    let value : c.index.result ≡ c.in-Ok.node = c.index.ensures.value in
    let small : c.in-Ok.node < 64 = rw value at c.index.ensures.small in
    let lone : IsLone nodes.graph.edges c.in-Ok.node = rw c.in-Ok.ensures.ok at c.in-Ok.ensures.lone in
    let size : node_size nodes c.args.child ≡ c.size-size.result = sym (rw (sym c.self.view_is) at c.size-size.ensures) in
    let sound = rw (c.in_default-draw_edges.ensures.drawn, c.in-Ok.ensures.ok, c.node_kind-kind.ensures) at c.in_default-draw_edges.ensures.sound in
    rw (sym c.self.view_is, c.take_drawn.ensures, c.in_default-draw_edges.ensures.drawn, c.in-Ok.ensures.ok, c.node_kind-kind.ensures, value)
    (disk_copying nodes c.in-Ok.node c.args.child c.size-size.result c.args.name.bytes c.args.read_only c.self.invariant c.in-Ok.ensures.lowest.free
    small lone has size sound)

pub draw_edges-requires-clause-file_role : goal.draw_edges-requires-clause-file_role
draw_edges-requires-clause-file_role g c = rw (c.in-Ok.ensures.kind, c.node_kind-kind.ensures) refl
