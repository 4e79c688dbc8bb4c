use Rattle.std.proofs.Common.{◌≡◌, ◌<◌, sym}
use Rattle.blk_graph.specs.Edits.{IsLone}
use Rattle.blk_nodes.specs.Nodes.{Nodes}
use Rattle.blk_nodes.proofs.Filtered.{joined_filter, disks_filter, disk_filter}
use Rattle.blk_nodes.proofs.nodes.Nodes.add_filter.Goals as goal

pub invariant_of-self : goal.invariant_of-self
invariant_of-self g c =
    let nodes : Nodes = record { graph = c.self.inside.graph; rows = c.self.inside.rows.items; devices = c.self.inside.devices } in
    let value : c.index.result ≡ c.in-Ok.node = c.index.ensures.value in
    let small : c.in-Ok.node < 64 = rw value at c.index.ensures.small in
    let lone : IsLone nodes.graph.edges c.in-Ok.node = rw c.in-Ok.ensures.ok at c.in-Ok.ensures.lone in
    rw (c.in-Ok.ensures.ok, c.node_kind-kind_of_node.ensures, c.kind.ensures, value)
    (joined_filter nodes c.in-Ok.node c.args.size c.args.kind c.args.name.bytes c.args.read_only c.self.invariant c.in-Ok.ensures.lowest.free small lone
    (rw (c.in-Ok.ensures.ok, c.node_kind-kind_of_node.ensures, c.kind.ensures) at c.in-Ok.ensures.sound))

pub returns-clause-disks : goal.returns-clause-disks
returns-clause-disks g c =
    let nodes : Nodes = record { graph = c.self.inside.graph; rows = c.self.inside.rows.items; devices = c.self.inside.devices } in
    let value : c.index.result ≡ c.in-Ok.node = c.index.ensures.value in
    let small : c.in-Ok.node < 64 = rw value at c.index.ensures.small in
    let lone : IsLone nodes.graph.edges c.in-Ok.node = rw c.in-Ok.ensures.ok at c.in-Ok.ensures.lone in
    rw (sym c.self.view_is, c.in-Ok.ensures.ok, c.node_kind-kind_of_node.ensures, c.kind.ensures, value)
    (disks_filter nodes c.in-Ok.node c.args.size c.args.kind c.args.name.bytes c.args.read_only c.self.invariant c.in-Ok.ensures.lowest.free small lone)

pub returns-clause-disk : goal.returns-clause-disk
returns-clause-disk g c =
    let nodes : Nodes = record { graph = c.self.inside.graph; rows = c.self.inside.rows.items; devices = c.self.inside.devices } in
    let value : c.index.result ≡ c.in-Ok.node = c.index.ensures.value in
    let small : c.in-Ok.node < 64 = rw value at c.index.ensures.small in
    let lone : IsLone nodes.graph.edges c.in-Ok.node = rw c.in-Ok.ensures.ok at c.in-Ok.ensures.lone in
    rw (c.in-Ok.ensures.ok, c.node_kind-kind_of_node.ensures, c.kind.ensures, value)
    (disk_filter nodes c.in-Ok.node c.args.size c.args.kind c.args.name.bytes c.args.read_only c.self.invariant c.in-Ok.ensures.lowest.free small lone
    (rw (c.in-Ok.ensures.ok, c.node_kind-kind_of_node.ensures, c.kind.ensures) at c.in-Ok.ensures.sound))
