use Rattle.qblk_run.proofs.Staying.{taken_stay}
use Rattle.qblk_run.proofs.Taken.{taken_holds}
use Rattle.qblk_run.proofs.Turning.{has_taken}
use Rattle.qblk_run.proofs.events.WorldEvents.take.Goals as goal

pub returns-clause-took : goal.returns-clause-took
returns-clause-took g c =
    has_taken c.args.self.now c.take-taken.new.self c.args.slot c.take-taken.new.buffer c.take-taken.result c.take-taken.ensures.taken

pub returns-clause-bytes : goal.returns-clause-bytes
returns-clause-bytes g c =
    taken_holds c.args.self.now c.take-taken.new.self c.law.ensures.whole c.args.slot c.take-taken.new.buffer c.take-taken.result
    (has_taken c.args.self.now c.take-taken.new.self c.args.slot c.take-taken.new.buffer c.take-taken.result c.take-taken.ensures.taken)

pub returns-clause-stays : goal.returns-clause-stays
returns-clause-stays g c =
    taken_stay c.args.self.now c.take-taken.new.self c.take-taken.ensures.comes c.args.slot c.take-taken.new.buffer c.take-taken.result
    (has_taken c.args.self.now c.take-taken.new.self c.args.slot c.take-taken.new.buffer c.take-taken.result c.take-taken.ensures.taken)
