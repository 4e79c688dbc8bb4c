use Rattle.std.proofs.Common.{refl, sym}
use Rattle.blk_nodes.proofs.Additions.{joined_file}
use Rattle.blk_nodes.proofs.KeptDisks.{file_disks, file_disk_new}
use Rattle.blk_nodes.proofs.nodes.Nodes.add_file.Goals as goal

pub invariant_of-self-2 : goal.invariant_of-self-2
invariant_of-self-2 g c =
    let joined = rw (sym c.self-inside.view_is) at c.self.invariant in
    let node = c.index.ensures.value in
    let small = rw node at c.index.ensures.small in
    rw (c.in-Ok.ensures.ok, c.node_kind-kind.ensures, node, c.push_reserved.ensures.items, c.reserve.ensures.items)
    (joined_file _ c.in-Ok.node c.length.result c.args.name.bytes c.args.read_only _ joined c.in-Ok.ensures.lowest.free small refl
    (rw (c.in-Ok.ensures.ok, c.node_kind-kind.ensures) at c.in-Ok.ensures.sound))

pub returns-clause-disks : goal.returns-clause-disks
returns-clause-disks g c =
    let joined = rw (sym c.self-inside.view_is) at c.self.invariant in
    let node = c.index.ensures.value in
    let small = rw node at c.index.ensures.small in
    rw (sym c.self.view_is, sym c.self-inside.view_is, c.in-Ok.ensures.ok, c.node_kind-kind.ensures, node, c.push_reserved.ensures.items, c.reserve.ensures.items)
    (file_disks _ c.in-Ok.node c.length.result c.args.name.bytes c.args.read_only _ joined c.in-Ok.ensures.lowest.free small refl)

pub returns-clause-disk : goal.returns-clause-disk
returns-clause-disk g c =
    let joined = rw (sym c.self-inside.view_is) at c.self.invariant in
    let node = c.index.ensures.value in
    let small = rw node at c.index.ensures.small in
    rw (c.in-Ok.ensures.ok, c.node_kind-kind.ensures, node, c.push_reserved.ensures.items, c.reserve.ensures.items, sym c.length.ensures)
    (file_disk_new _ c.in-Ok.node c.length.result c.args.name.bytes c.args.read_only _ joined c.in-Ok.ensures.lowest.free small refl)
