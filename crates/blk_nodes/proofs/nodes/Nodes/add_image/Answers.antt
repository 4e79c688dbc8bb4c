use Rattle.std.proofs.Common.{◌≡◌, ◌<◌, refl, sym, subst}
use Rattle.std.specs.Prelude.{IfSome, Some, None}
use Rattle.blk_graph.specs.Edits.{IsLone}
use Rattle.blk_graph.specs.Graph.{HasNode}
use Rattle.blk_nodes.specs.Joined.{IsFile}
use Rattle.blk_nodes.specs.Nodes.{Nodes}
use Rattle.blk_nodes.specs.Overlays.{Asked, backing_node, backing_size, backing_stop, edges_for, IsOpened}
use Rattle.blk_nodes.proofs.Additions.{graph_back, has_after, file_is_node, breaks}
use Rattle.blk_nodes.proofs.HeldDevices.{HaveRisen-refl}
use Rattle.blk_nodes.proofs.OverlayAdded.{backing_there, whatever, joined_opened, disks_opened, disk_opened}
use Rattle.blk_nodes.proofs.nodes.Nodes.add_image.Goals as goal

pub draw_edges-requires-clause-file : goal.draw_edges-requires-clause-file
draw_edges-requires-clause-file g c =
    let nodes : Nodes = record { graph = c.self.inside.graph; rows = c.self.inside.rows.items; devices = c.self.inside.devices } in
    let is_file : IsFile nodes c.args.file = rw (sym c.self.view_is) at c.requires.file in
    let has : HasNode c.self.inside.graph c.args.file = file_is_node nodes c.args.file c.self.invariant is_file in (
      rw c.in-Ok.ensures.ok (has_after c.self.inside.graph c.in-Ok.node c.args.name.bytes c.node_kind-kind.result c.args.file has),
      λ same. c.in-Ok.ensures.lowest.free (subst (HasNode c.self.inside.graph) same has),
    )

pub draw_edges-requires-clause-backing : goal.draw_edges-requires-clause-backing
draw_edges-requires-clause-backing g c =
    let has : IfSome (backing_node c.args.backing) (HasNode c.self.inside.graph) = rw (sym c.self.view_is) at c.requires.backing in
    rw (c.in-Ok.ensures.ok, c.node-over.ensures)
    (backing_there c.self.inside.graph c.in-Ok.node c.args.name.bytes c.node_kind-kind.result (backing_node c.args.backing) c.in-Ok.ensures.lowest.free has)

pub invariant_of-self : goal.invariant_of-self
invariant_of-self g c =
    rw (graph_back c.self.inside.graph c.add_node.new.self c.take_back.new.graph c.in-Ok.node c.args.name.bytes c.node_kind-kind.result c.self.invariant.sound
    c.in-Ok.ensures.lowest.free c.in-Ok.ensures.ok c.in-Ok.ensures.lone c.in-Ok.ensures.sound c.take_back.ensures) c.self.invariant

pub returns-in-Err-draw_edges-clause-denied : goal.returns-in-Err-draw_edges-clause-denied
returns-in-Err-draw_edges-clause-denied g c = λ pair same.
    let nodes : Nodes = record { graph = c.self.inside.graph; rows = c.self.inside.rows.items; devices = c.self.inside.devices } in
    let asked : Asked = record { name = c.args.name.bytes; file = c.args.file; backing = c.args.backing; is_read_only = c.args.read_only } in
    let told = rw (c.in-Err-draw_edges.ensures.drawn, c.in-Ok.ensures.ok, c.node_kind-kind.ensures, c.node-over.ensures)
    at c.in-Err-draw_edges.ensures.judged in
    let is : c.in-Err-draw_edges.pair ≡ pair = cc same in
    rw (sym c.self.view_is)
    (breaks nodes c.in-Ok.node c.args.name.bytes _ (edges_for asked) (Some pair) c.in-Ok.ensures.lowest (rw is at told))

pub returns-in-Err-draw_edges-clause-err : goal.returns-in-Err-draw_edges-clause-err
returns-in-Err-draw_edges-clause-err g c =
    rw (
      graph_back c.self.inside.graph c.add_node.new.self c.take_back.new.graph c.in-Ok.node c.args.name.bytes c.node_kind-kind.result c.self.invariant.sound
          c.in-Ok.ensures.lowest.free c.in-Ok.ensures.ok c.in-Ok.ensures.lone c.in-Ok.ensures.sound c.take_back.ensures,
      sym c.self.view_is,
    ) refl

pub invariant_of-self-2 : goal.invariant_of-self-2
invariant_of-self-2 g c =
    let nodes : Nodes = record { graph = c.self.inside.graph; rows = c.self.inside.rows.items; devices = c.self.inside.devices } in
    let asked : Asked = record { name = c.args.name.bytes; file = c.args.file; backing = c.args.backing; is_read_only = c.args.read_only } in
    let is_file : IsFile nodes c.args.file = rw (sym c.self.view_is) at c.requires.file in
    let has : IfSome (backing_node c.args.backing) (HasNode c.self.inside.graph) = rw (sym c.self.view_is) at c.requires.backing in
    let opened : IsOpened nodes.devices c.args.file c.args.image = rw (sym c.self.view_is) at c.requires.opened in
    let fits : backing_stop c.args.image c.args.backing (backing_size nodes c.args.backing) ≡ None = rw (sym c.self.view_is) at c.requires.fits in
    let value : c.index.result ≡ c.in-Ok.node = c.index.ensures.value in
    let small : c.in-Ok.node < 64 = rw value at c.index.ensures.small in
    let lone : IsLone nodes.graph.edges c.in-Ok.node = rw c.in-Ok.ensures.ok at c.in-Ok.ensures.lone in
    let sound = rw (c.in_default-draw_edges.ensures.drawn, c.in-Ok.ensures.ok, c.node_kind-kind.ensures, c.node-over.ensures) at c.in_default-draw_edges.ensures.sound in
    rw (c.take_drawn.ensures, c.in_default-draw_edges.ensures.drawn, c.in-Ok.ensures.ok, c.node_kind-kind.ensures, c.node-over.ensures, value, c.size.ensures)
    (joined_opened nodes asked c.in-Ok.node c.args.image c.self.invariant c.in-Ok.ensures.lowest.free small lone is_file has opened fits sound
    nodes.devices (HaveRisen-refl nodes.devices))

pub returns-clause-disks : goal.returns-clause-disks
returns-clause-disks g c =
    let nodes : Nodes = record { graph = c.self.inside.graph; rows = c.self.inside.rows.items; devices = c.self.inside.devices } in
    let asked : Asked = record { name = c.args.name.bytes; file = c.args.file; backing = c.args.backing; is_read_only = c.args.read_only } in
    let is_file : IsFile nodes c.args.file = rw (sym c.self.view_is) at c.requires.file in
    let has : IfSome (backing_node c.args.backing) (HasNode c.self.inside.graph) = rw (sym c.self.view_is) at c.requires.backing in
    let opened : IsOpened nodes.devices c.args.file c.args.image = rw (sym c.self.view_is) at c.requires.opened in
    let fits : backing_stop c.args.image c.args.backing (backing_size nodes c.args.backing) ≡ None = rw (sym c.self.view_is) at c.requires.fits in
    let value : c.index.result ≡ c.in-Ok.node = c.index.ensures.value in
    let small : c.in-Ok.node < 64 = rw value at c.index.ensures.small in
    let lone : IsLone nodes.graph.edges c.in-Ok.node = rw c.in-Ok.ensures.ok at c.in-Ok.ensures.lone in
    let sound = rw (c.in_default-draw_edges.ensures.drawn, c.in-Ok.ensures.ok, c.node_kind-kind.ensures, c.node-over.ensures) at c.in_default-draw_edges.ensures.sound in
    rw (sym c.self.view_is, c.take_drawn.ensures, c.in_default-draw_edges.ensures.drawn, c.in-Ok.ensures.ok, c.node_kind-kind.ensures, c.node-over.ensures, value, c.size.ensures)
    (disks_opened nodes asked c.in-Ok.node c.args.image c.self.invariant c.in-Ok.ensures.lowest.free small lone is_file has opened fits sound
    nodes.devices (HaveRisen-refl nodes.devices))

pub returns-clause-disk : goal.returns-clause-disk
returns-clause-disk g c =
    let nodes : Nodes = record { graph = c.self.inside.graph; rows = c.self.inside.rows.items; devices = c.self.inside.devices } in
    let asked : Asked = record { name = c.args.name.bytes; file = c.args.file; backing = c.args.backing; is_read_only = c.args.read_only } in
    let is_file : IsFile nodes c.args.file = rw (sym c.self.view_is) at c.requires.file in
    let has : IfSome (backing_node c.args.backing) (HasNode c.self.inside.graph) = rw (sym c.self.view_is) at c.requires.backing in
    let opened : IsOpened nodes.devices c.args.file c.args.image = rw (sym c.self.view_is) at c.requires.opened in
    let fits : backing_stop c.args.image c.args.backing (backing_size nodes c.args.backing) ≡ None = rw (sym c.self.view_is) at c.requires.fits in
    let value : c.index.result ≡ c.in-Ok.node = c.index.ensures.value in
    let small : c.in-Ok.node < 64 = rw value at c.index.ensures.small in
    let lone : IsLone nodes.graph.edges c.in-Ok.node = rw c.in-Ok.ensures.ok at c.in-Ok.ensures.lone in
    let sound = rw (c.in_default-draw_edges.ensures.drawn, c.in-Ok.ensures.ok, c.node_kind-kind.ensures, c.node-over.ensures) at c.in_default-draw_edges.ensures.sound in
    rw (sym c.self.view_is, c.take_drawn.ensures, c.in_default-draw_edges.ensures.drawn, c.in-Ok.ensures.ok, c.node_kind-kind.ensures, c.node-over.ensures, value, c.size.ensures)
    (disk_opened nodes asked c.in-Ok.node c.args.image c.self.invariant c.in-Ok.ensures.lowest.free small lone is_file has opened fits sound
    nodes.devices (HaveRisen-refl nodes.devices))

pub draw_edges-requires-clause-file_role : goal.draw_edges-requires-clause-file_role
draw_edges-requires-clause-file_role g c = rw (c.in-Ok.ensures.kind, c.node_kind-kind.ensures) refl

pub draw_edges-requires-clause-backing_role : goal.draw_edges-requires-clause-backing_role
draw_edges-requires-clause-backing_role g c = whatever c.node-over.result _ (rw (c.in-Ok.ensures.kind, c.node_kind-kind.ensures) refl)
