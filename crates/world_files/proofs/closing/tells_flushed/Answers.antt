use Rattle.world_files.proofs.CloseLemmas.{tells-of}
use Rattle.world_files.proofs.closing.tells_flushed.Goals as goal

pub returns : goal.returns
returns g c = tells-of (g.D.Device.content c.args.device.now) (g.D.Device.is_flushed c.args.device.now) (g.met.D.Device.told_flushed c.args.device.now)
