use Rattle.std.proofs.lemmas.Bool.{false≢true}
use Rattle.qblk_core.proofs.Openings.{image-there, keeps-drive}
use Rattle.qblk_core.proofs.opening.attach.Goals as goal

pub attach-requires-clause-node : goal.attach-requires-clause-node
attach-requires-clause-node g c =
    let over = c.requires.over in
    image-there over.0 over.1 c.args.nodes.now c.args.image over.2 c.requires.image

pub unreachable-requires : goal.unreachable-requires
unreachable-requires g c =
    let over = c.requires.over in
    let rule = keeps-drive over.0 over.1 c.args.nodes.now c.args.image over.2 c.requires.image in
    false≢true (rw c.in-Err.is at (c.attach.ensures.kept.1 rule))
