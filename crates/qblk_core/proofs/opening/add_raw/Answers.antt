use Rattle.std.proofs.Common.{ℕ, false, [], ◌∷◌, ap}
use Rattle.std.proofs.lemmas.Bool.{false≢true}
use Rattle.blk_graph.specs.Edits.{with_edge}
use Rattle.blk_graph.specs.declared.kind.Kind.TheVariants as kinds
use Rattle.blk_nodes.specs.Adding.{file_edge, kind_with}
use Rattle.qblk_core.proofs.Openings.{not-refused}
use Rattle.qblk_core.proofs.opening.add_raw.Goals as goal

pub unreachable-requires : goal.unreachable-requires
unreachable-requires g c =
    let ok = not-refused c.requires.over.0 c.args.nodes.now c.in-Ok.name.bytes (kind_with kinds.Raw false) (λ id. with_edge (file_edge id c.args.file)) c.add_raw.result c.requires.over.1
    c.in-Ok.ensures (λ id. ap (λ (k : ℕ). file_edge id k ∷ []) c.requires.file) c.add_raw.ensures.only c.add_raw.ensures.taken c.add_raw.ensures.full c.add_raw.ensures.denied in
    false≢true (rw c.in-Err.is at ok)
