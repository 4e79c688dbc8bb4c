use Rattle.qblk_run.proofs.Staying.{turned_stay}
use Rattle.qblk_run.proofs.Turning.{is_turned}
use Rattle.qblk_run.proofs.events.WorldEvents.job_turn.Goals as goal

pub returns-clause-turned : goal.returns-clause-turned
returns-clause-turned g c =
    is_turned c.args.self.now c.job_turn-turned.new.self c.args.slot c.job_turn-turned.result c.job_turn-turned.ensures.turned c.fault_law.ensures

pub returns-clause-stays : goal.returns-clause-stays
returns-clause-stays g c =
    turned_stay c.args.self.now c.job_turn-turned.new.self c.job_turn-turned.ensures.comes c.args.slot c.job_turn-turned.result
    (is_turned c.args.self.now c.job_turn-turned.new.self c.args.slot c.job_turn-turned.result c.job_turn-turned.ensures.turned c.fault_law.ensures)
    (λ was. c.law.ensures.whole.drains)
