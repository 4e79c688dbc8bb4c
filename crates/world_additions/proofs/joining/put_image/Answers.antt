use Rattle.blk_graph.specs.declared.kind.Kind.TheVariants as kinds
use Rattle.blk_nodes.specs.Adding.{kind_with}
use Rattle.blk_nodes.specs.Overlays.{Asked, edges_for}
use Rattle.world_additions.proofs.AddStops.{over-added}
use Rattle.world_additions.proofs.joining.put_image.Goals as goal

pub unreachable-requires : goal.unreachable-requires
unreachable-requires g c =
    let of = c.add_image.ensures in
    let asked : Asked = record { name = c.args.name.bytes; file = c.args.file; backing = c.args.backing; is_read_only = c.args.read_only } in
    over-added c.args.nodes.now c.args.name.bytes (kind_with kinds.Qcow2 c.args.read_only) (edges_for asked) c.add_image.result
    c.in-Err.field-0 c.requires.place c.requires.allowed of.taken of.full of.denied of.only c.in-Err.is
