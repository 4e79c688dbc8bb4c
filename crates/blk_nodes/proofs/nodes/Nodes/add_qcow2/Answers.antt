use Rattle.std.proofs.Common.{◌≡◌, ◌<◌, refl, sym, subst}
use Rattle.std.specs.Prelude.{IfSome, Some, None}
use Rattle.blk_graph.specs.Edits.{IsLone}
use Rattle.blk_graph.specs.Graph.{HasNode}
use Rattle.blk_nodes.specs.Joined.{IsFile}
use Rattle.blk_nodes.specs.Nodes.{Nodes}
use Rattle.blk_nodes.specs.Overlays.{Asked, backing_node, backing_size, edges_for}
use Rattle.blk_nodes.proofs.Additions.{graph_back, has_after, file_is_node, breaks}
use Rattle.blk_nodes.proofs.HeldDevices.{HaveRisen-refl}
use Rattle.blk_nodes.proofs.Joints.{joined_after}
use Rattle.blk_nodes.proofs.OverlayAdded.{backing_there, whatever, stop_by, joined_opened, disks_opened, disk_opened}
use Rattle.blk_nodes.proofs.nodes.Nodes.add_qcow2.Goals as goal

pub returns-in-Err-clause-devices : goal.returns-in-Err-clause-devices
returns-in-Err-clause-devices g c = HaveRisen-refl c.args.self.now.devices

pub draw_edges-requires-clause-file : goal.draw_edges-requires-clause-file
draw_edges-requires-clause-file g c =
    let nodes : Nodes = record { graph = c.self.inside.graph; rows = c.self.inside.rows.items; devices = c.self.inside.devices } in
    let is_file : IsFile nodes c.args.file = rw (sym c.self.view_is) at c.requires.file in
    let has : HasNode c.self.inside.graph c.args.file = file_is_node nodes c.args.file c.self.invariant is_file in (
      rw c.in-Ok.ensures.ok (has_after c.self.inside.graph c.in-Ok.node c.args.name.bytes c.node_kind-kind.result c.args.file has),
      λ same. c.in-Ok.ensures.lowest.free (subst (HasNode c.self.inside.graph) same has),
    )

pub draw_edges-requires-clause-backing : goal.draw_edges-requires-clause-backing
draw_edges-requires-clause-backing g c =
    let has : IfSome (backing_node c.args.backing) (HasNode c.self.inside.graph) = rw (sym c.self.view_is) at c.requires.backing in
    rw (c.in-Ok.ensures.ok, c.node-over.ensures)
    (backing_there c.self.inside.graph c.in-Ok.node c.args.name.bytes c.node_kind-kind.result (backing_node c.args.backing) c.in-Ok.ensures.lowest.free has)

pub invariant_of-self : goal.invariant_of-self
invariant_of-self g c =
    rw (graph_back c.self.inside.graph c.add_node.new.self c.take_back.new.graph c.in-Ok.node c.args.name.bytes c.node_kind-kind.result c.self.invariant.sound
    c.in-Ok.ensures.lowest.free c.in-Ok.ensures.ok c.in-Ok.ensures.lone c.in-Ok.ensures.sound c.take_back.ensures) c.self.invariant

pub returns-in-Err-draw_edges-clause-stop : goal.returns-in-Err-draw_edges-clause-stop
returns-in-Err-draw_edges-clause-stop g c =
    let nodes : Nodes = record { graph = c.self.inside.graph; rows = c.self.inside.rows.items; devices = c.self.inside.devices } in
    let asked : Asked = record { name = c.args.name.bytes; file = c.args.file; backing = c.args.backing; is_read_only = c.args.read_only } in
    let back = graph_back c.self.inside.graph c.add_node.new.self c.take_back.new.graph c.in-Ok.node c.args.name.bytes c.node_kind-kind.result c.self.invariant.sound
    c.in-Ok.ensures.lowest.free c.in-Ok.ensures.ok c.in-Ok.ensures.lone c.in-Ok.ensures.sound c.take_back.ensures in
    let told = rw (c.in-Err-draw_edges.ensures.drawn, c.in-Ok.ensures.ok, c.node_kind-kind.ensures, c.node-over.ensures)
    at c.in-Err-draw_edges.ensures.judged in
    let text : c.as_str.result.now ≡ c.args.name.bytes = cc in
    let place = rw (sym c.self.view_is, text) at c.in_default.ensures.ok in
    rw (back, sym c.self.view_is) (
      record { free = place.0; room = place.1 },
      breaks nodes c.in-Ok.node c.args.name.bytes _ (edges_for asked) (Some c.in-Err-draw_edges.pair) c.in-Ok.ensures.lowest told,
      refl,
    )

pub returns-in-Err-draw_edges-clause-err : goal.returns-in-Err-draw_edges-clause-err
returns-in-Err-draw_edges-clause-err g c =
    rw (
      graph_back c.self.inside.graph c.add_node.new.self c.take_back.new.graph c.in-Ok.node c.args.name.bytes c.node_kind-kind.result c.self.invariant.sound
          c.in-Ok.ensures.lowest.free c.in-Ok.ensures.ok c.in-Ok.ensures.lone c.in-Ok.ensures.sound c.take_back.ensures,
      sym c.self.view_is,
    ) refl

pub returns-in-Err-draw_edges-clause-devices : goal.returns-in-Err-draw_edges-clause-devices
returns-in-Err-draw_edges-clause-devices g c = rw (sym c.self.view_is) (HaveRisen-refl c.self.inside.devices)

pub returns-in-Err-open_over-clause-stop : goal.returns-in-Err-open_over-clause-stop
returns-in-Err-open_over-clause-stop g c =
    let nodes : Nodes = record { graph = c.self.inside.graph; rows = c.self.inside.rows.items; devices = c.self.inside.devices } in
    let asked : Asked = record { name = c.args.name.bytes; file = c.args.file; backing = c.args.backing; is_read_only = c.args.read_only } in
    let told = rw (c.in_default-draw_edges.ensures.drawn, c.in-Ok.ensures.ok, c.node_kind-kind.ensures, c.node-over.ensures)
    at c.in_default-draw_edges.ensures.judged in
    let text : c.as_str.result.now ≡ c.args.name.bytes = cc in
    let place = rw (sym c.self.view_is, text) at c.in_default.ensures.ok in
    let size : c.backing_size-size.result ≡ backing_size nodes c.args.backing = rw (sym c.self.view_is) at c.backing_size-size.ensures in
    let opening = rw size at c.in-Err-open_over.ensures.opened in
    rw (sym c.self.view_is)
    (stop_by nodes _ asked c.in-Err-open_over.stop
    (record {
      place = record { free = place.0; room = place.1 };
      allowed = breaks nodes c.in-Ok.node c.args.name.bytes _ (edges_for asked) None c.in-Ok.ensures.lowest told;
    })
    opening)

pub invariant_of-self-in-Ok-open_over : goal.invariant_of-self-in-Ok-open_over
invariant_of-self-in-Ok-open_over g c =
    let nodes : Nodes = record { graph = c.self.inside.graph; rows = c.self.inside.rows.items; devices = c.self.inside.devices } in
    let asked : Asked = record { name = c.args.name.bytes; file = c.args.file; backing = c.args.backing; is_read_only = c.args.read_only } in
    let is_file : IsFile nodes c.args.file = rw (sym c.self.view_is) at c.requires.file in
    let has : IfSome (backing_node c.args.backing) (HasNode c.self.inside.graph) = rw (sym c.self.view_is) at c.requires.backing in
    let value : c.index.result ≡ c.in-Ok.node = c.index.ensures.value in
    let small : c.in-Ok.node < 64 = rw value at c.index.ensures.small in
    let lone : IsLone nodes.graph.edges c.in-Ok.node = rw c.in-Ok.ensures.ok at c.in-Ok.ensures.lone in
    let size : c.backing_size-size.result ≡ backing_size nodes c.args.backing = rw (sym c.self.view_is) at c.backing_size-size.ensures in
    let opened = rw size at c.in-Ok-open_over.ensures.opened in
    let sound = rw (c.in_default-draw_edges.ensures.drawn, c.in-Ok.ensures.ok, c.node_kind-kind.ensures, c.node-over.ensures) at c.in_default-draw_edges.ensures.sound in
    rw (c.take_drawn.ensures, c.in_default-draw_edges.ensures.drawn, c.in-Ok.ensures.ok, c.node_kind-kind.ensures, c.node-over.ensures, value, c.size.ensures)
    (joined_opened nodes asked c.in-Ok.node c.in-Ok-open_over.image c.self.invariant c.in-Ok.ensures.lowest.free small lone is_file has opened.0 opened.1 sound
    c.open_over.new.devices c.open_over.ensures.risen)

pub returns-in-Ok-open_over-clause-disks : goal.returns-in-Ok-open_over-clause-disks
returns-in-Ok-open_over-clause-disks g c =
    let nodes : Nodes = record { graph = c.self.inside.graph; rows = c.self.inside.rows.items; devices = c.self.inside.devices } in
    let asked : Asked = record { name = c.args.name.bytes; file = c.args.file; backing = c.args.backing; is_read_only = c.args.read_only } in
    let is_file : IsFile nodes c.args.file = rw (sym c.self.view_is) at c.requires.file in
    let has : IfSome (backing_node c.args.backing) (HasNode c.self.inside.graph) = rw (sym c.self.view_is) at c.requires.backing in
    let value : c.index.result ≡ c.in-Ok.node = c.index.ensures.value in
    let small : c.in-Ok.node < 64 = rw value at c.index.ensures.small in
    let lone : IsLone nodes.graph.edges c.in-Ok.node = rw c.in-Ok.ensures.ok at c.in-Ok.ensures.lone in
    let size : c.backing_size-size.result ≡ backing_size nodes c.args.backing = rw (sym c.self.view_is) at c.backing_size-size.ensures in
    let opened = rw size at c.in-Ok-open_over.ensures.opened in
    let sound = rw (c.in_default-draw_edges.ensures.drawn, c.in-Ok.ensures.ok, c.node_kind-kind.ensures, c.node-over.ensures) at c.in_default-draw_edges.ensures.sound in
    rw (sym c.self.view_is, c.take_drawn.ensures, c.in_default-draw_edges.ensures.drawn, c.in-Ok.ensures.ok, c.node_kind-kind.ensures, c.node-over.ensures, value, c.size.ensures)
    (disks_opened nodes asked c.in-Ok.node c.in-Ok-open_over.image c.self.invariant c.in-Ok.ensures.lowest.free small lone is_file has opened.0 opened.1 sound
    c.open_over.new.devices c.open_over.ensures.risen)

pub returns-in-Ok-open_over-clause-disk : goal.returns-in-Ok-open_over-clause-disk
returns-in-Ok-open_over-clause-disk g c =
    let nodes : Nodes = record { graph = c.self.inside.graph; rows = c.self.inside.rows.items; devices = c.self.inside.devices } in
    let asked : Asked = record { name = c.args.name.bytes; file = c.args.file; backing = c.args.backing; is_read_only = c.args.read_only } in
    let is_file : IsFile nodes c.args.file = rw (sym c.self.view_is) at c.requires.file in
    let has : IfSome (backing_node c.args.backing) (HasNode c.self.inside.graph) = rw (sym c.self.view_is) at c.requires.backing in
    let value : c.index.result ≡ c.in-Ok.node = c.index.ensures.value in
    let small : c.in-Ok.node < 64 = rw value at c.index.ensures.small in
    let lone : IsLone nodes.graph.edges c.in-Ok.node = rw c.in-Ok.ensures.ok at c.in-Ok.ensures.lone in
    let size : c.backing_size-size.result ≡ backing_size nodes c.args.backing = rw (sym c.self.view_is) at c.backing_size-size.ensures in
    let opened = rw size at c.in-Ok-open_over.ensures.opened in
    let sound = rw (c.in_default-draw_edges.ensures.drawn, c.in-Ok.ensures.ok, c.node_kind-kind.ensures, c.node-over.ensures) at c.in_default-draw_edges.ensures.sound in
    rw (sym c.self.view_is, c.take_drawn.ensures, c.in_default-draw_edges.ensures.drawn, c.in-Ok.ensures.ok, c.node_kind-kind.ensures, c.node-over.ensures, value, c.size.ensures)
    (disk_opened nodes asked c.in-Ok.node c.in-Ok-open_over.image c.self.invariant c.in-Ok.ensures.lowest.free small lone is_file has opened.0 opened.1 sound
    c.open_over.new.devices c.open_over.ensures.risen)

pub invariant_of-self-in-Err-open_over : goal.invariant_of-self-in-Err-open_over
invariant_of-self-in-Err-open_over g c =
    let nodes : Nodes = record { graph = c.self.inside.graph; rows = c.self.inside.rows.items; devices = c.self.inside.devices } in
    rw (graph_back c.self.inside.graph c.add_node.new.self c.take_back-in-Err-open_over.new.graph c.in-Ok.node c.args.name.bytes c.node_kind-kind.result c.self.invariant.sound
    c.in-Ok.ensures.lowest.free c.in-Ok.ensures.ok c.in-Ok.ensures.lone c.in-Ok.ensures.sound c.take_back-in-Err-open_over.ensures)
    (joined_after nodes c.open_over.new.devices c.open_over.ensures.risen c.self.invariant)

pub returns-in-Err-open_over-clause-err : goal.returns-in-Err-open_over-clause-err
returns-in-Err-open_over-clause-err g c =
    rw (
      graph_back c.self.inside.graph c.add_node.new.self c.take_back-in-Err-open_over.new.graph c.in-Ok.node c.args.name.bytes c.node_kind-kind.result c.self.invariant.sound
          c.in-Ok.ensures.lowest.free c.in-Ok.ensures.ok c.in-Ok.ensures.lone c.in-Ok.ensures.sound c.take_back-in-Err-open_over.ensures,
      sym c.self.view_is,
    ) refl

pub draw_edges-requires-clause-file_role : goal.draw_edges-requires-clause-file_role
draw_edges-requires-clause-file_role g c = rw (c.in-Ok.ensures.kind, c.node_kind-kind.ensures) refl

pub draw_edges-requires-clause-backing_role : goal.draw_edges-requires-clause-backing_role
draw_edges-requires-clause-backing_role g c = whatever c.node-over.result _ (rw (c.in-Ok.ensures.kind, c.node_kind-kind.ensures) refl)
