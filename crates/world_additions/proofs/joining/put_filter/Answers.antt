use Rattle.blk_graph.specs.Edits.{with_edge}
use Rattle.blk_graph.specs.declared.kind.Kind.TheVariants as kinds
use Rattle.blk_nodes.specs.Adding.{file_edge, kind_with}
use Rattle.world_additions.proofs.AddStops.{over-added}
use Rattle.world_additions.proofs.joining.put_filter.Goals as goal

pub unreachable-requires : goal.unreachable-requires
unreachable-requires g c =
    let of = c.add_copy_on_read.ensures in
    over-added c.args.nodes.now c.args.name.bytes (kind_with kinds.CopyOnRead c.args.read_only) (λ id. with_edge (file_edge id c.args.child))
    c.add_copy_on_read.result c.in-Err.field-0 c.requires.place c.requires.allowed of.taken of.full of.denied of.only c.in-Err.is
