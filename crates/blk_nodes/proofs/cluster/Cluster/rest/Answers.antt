use Rattle.blk_nodes.proofs.HeldDevices.{HaveRisen-refl}
use Rattle.blk_nodes.proofs.cluster.Cluster.rest.Goals as goal

pub returns-clause-devices : goal.returns-clause-devices
returns-clause-devices g c = HaveRisen-refl c.args.devices.now
