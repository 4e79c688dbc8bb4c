use Rattle.qblk_run.proofs.Staying.{admission_stay}
use Rattle.qblk_run.proofs.events.WorldEvents.admit.Goals as goal

pub returns-clause-stays : goal.returns-clause-stays
returns-clause-stays g c =
    admission_stay c.args.self.now c.admit.new.self c.admit.ensures.comes c.args.guest c.args.op c.admit.result c.admit.ensures.kept
