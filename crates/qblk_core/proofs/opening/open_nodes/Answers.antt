use Rattle.std.proofs.Common.{subst}
use Rattle.blk_nodes.specs.Nodes.{Nodes}
use Rattle.qblk_core.specs.ImageNodes.{IsImageNodeOver, seen_device}
use Rattle.qblk_core.proofs.Openings.{all-made}
use Rattle.qblk_core.proofs.opening.open_nodes.Goals as goal

pub attach-requires-clause-over : goal.attach-requires-clause-over
attach-requires-clause-over g c = (
  c.args.format,
  seen_device g.D.Device c.args.device,
  subst (λ (f : Nodes). IsImageNodeOver c.args.format f c.add_over.new.nodes) c.in-Ok.ensures.made.is c.in-Ok-add_over.ensures.ok.1,
)

pub returns-in-Ok-add_over-clause-opened : goal.returns-in-Ok-add_over-clause-opened
returns-in-Ok-add_over-clause-opened g c =
    all-made c.args.format (seen_device g.D.Device c.args.device) c.in-Ok.made.0 c.add_over.new.nodes c.attach.new.nodes c.in-Ok-add_over.image c.in-Ok.ensures.made c.in-Ok-add_over.ensures.ok.0
    c.in-Ok-add_over.ensures.ok.1 c.attach.ensures c.edges.ensures.joined c.edges.ensures.disks
