use Rattle.qblk_run.proofs.Staying.{progress_stay}
use Rattle.qblk_run.proofs.events.WorldEvents.finish.Goals as goal

pub returns-clause-stays : goal.returns-clause-stays
returns-clause-stays g c = progress_stay c.args.self.now c.finish.new.self c.finish.ensures.comes _ c.finish.ensures.kept
