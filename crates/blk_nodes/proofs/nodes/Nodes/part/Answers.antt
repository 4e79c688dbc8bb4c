use Rattle.std.proofs.Common.{◌≡◌, sym, ◌∙◌, ap}
use Rattle.blk_nodes.specs.Nodes.{Nodes}
use Rattle.blk_base.specs.Pieces.{Extent}
use Rattle.blk_nodes.proofs.Pieces.{piece_of}
use Rattle.blk_nodes.proofs.nodes.Nodes.part.Goals as goal

pub returns-clause-piece : goal.returns-clause-piece
returns-clause-piece g c =
    let nodes : Nodes = record { graph = c.self.inside.graph; rows = c.self.inside.rows.items; devices = c.self.inside.devices } in
    let image = rw (sym c.self.view_is) at c.requires.image in
    let inside = rw (sym c.self.view_is) at c.requires.inside in
    let start : c.whole.inside.start ≡ c.block_around-whole.result.start = ap (λ (s : Extent). s.start) c.whole.view_is in
    let can = rw (sym c.self.view_is) at (rw start at c.source-source.ensures.read) in
    let size = rw (sym c.self.view_is) at c.size.ensures in
    let around = rw size at c.block_around-whole.ensures in
    rw (sym c.self.view_is)
    (piece_of nodes c.self.invariant c.args.node image c.args.span c.block_around-whole.result c.in-Some.file c.source-source.result (sym c.child.ensures.child ∙ c.in-Some.is)
    around c.requires.some c.requires.block inside can)
