use Rattle.blk_graph.specs.Edits.{with_edge}
use Rattle.blk_graph.specs.declared.kind.Kind.TheVariants as kinds
use Rattle.blk_nodes.specs.Adding.{file_edge, kind_with}
use Rattle.world_additions.proofs.AddStops.{over-added}
use Rattle.world_additions.proofs.joining.put_part.Goals as goal

pub unreachable-requires : goal.unreachable-requires
unreachable-requires g c =
    let of = c.add_raw.ensures in
    over-added c.args.nodes.now c.args.name.bytes (kind_with kinds.Raw c.args.read_only) (λ id. with_edge (file_edge id c.args.file)) c.add_raw.result
    c.in-Err.field-0 c.requires.place c.requires.allowed of.taken of.full of.denied of.only c.in-Err.is
