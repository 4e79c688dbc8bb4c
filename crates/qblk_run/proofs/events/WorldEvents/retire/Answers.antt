use Rattle.qblk_run.proofs.Staying.{progress_stay}
use Rattle.qblk_run.proofs.events.WorldEvents.retire.Goals as goal

pub returns-clause-stays : goal.returns-clause-stays
returns-clause-stays g c =
    progress_stay c.args.self.now c.retire.new.self c.retire.ensures.comes _ c.retire.ensures.kept
