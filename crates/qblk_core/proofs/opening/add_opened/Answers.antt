use Rattle.std.proofs.Common.{ℕ, false, [], ◌∷◌, ap}
use Rattle.std.proofs.lemmas.Bool.{false≢true}
use Rattle.blk_graph.specs.declared.kind.Kind.TheVariants as kinds
use Rattle.blk_nodes.specs.Adding.{file_edge, kind_with}
use Rattle.blk_nodes.specs.Overlays.{Asked, edges_for}
use Rattle.blk_nodes.specs.declared.backing.Backing.TheVariants.{Unsaid}
use Rattle.qblk_core.proofs.Openings.{is-file, qcow2-made, not-refused}
use Rattle.qblk_core.proofs.opening.add_opened.Goals as goal

pub add_image-requires-clause-file : goal.add_image-requires-clause-file
add_image-requires-clause-file g c = is-file c.requires.over.0 c.args.nodes.now c.args.file c.requires.over.1 c.requires.file

pub unreachable-requires : goal.unreachable-requires
unreachable-requires g c =
    let asked : Asked = record { name = c.in-Ok.name.bytes; file = c.args.file; backing = Unsaid; is_read_only = false } in
    let ok = not-refused c.requires.over.0 c.args.nodes.now c.in-Ok.name.bytes (kind_with kinds.Qcow2 false) (edges_for asked) c.add_image.result c.requires.over.1
    c.in-Ok.ensures (λ id. ap (λ (k : ℕ). file_edge id k ∷ []) c.requires.file) c.add_image.ensures.only c.add_image.ensures.taken c.add_image.ensures.full c.add_image.ensures.denied in
    false≢true (rw c.in-Err.is at ok)

pub returns-clause-ok : goal.returns-clause-ok
returns-clause-ok g c =
    qcow2-made c.requires.over.0 c.args.nodes.now c.add_image.new.self c.args.file c.in-Ok-add_image.image c.in-Ok.name.bytes c.args.image c.requires.over.1 c.requires.file c.in-Ok.ensures
    c.in-Ok-add_image.ensures.lowest c.in-Ok-add_image.ensures.ok
