use Rattle.world_parts.specs.Saying.{given_line}
use Rattle.qblk_run.proofs.Named.{executed_named}
use Rattle.qblk_run.proofs.Worlds.{executed_stay}
use Rattle.qblk_run.proofs.events.WorldEvents.execute.Goals as goal

pub returns-clause-named : goal.returns-clause-named
returns-clause-named g c = λ row there.
    executed_named c.args.self.now c.execute-executed.new.self c.law.ensures.whole c.law.ensures.joined c.law-2.ensures.whole row there
    (given_line c.args.line c.args.text.now) c.execute-executed.result c.execute-executed.ensures.done c.execute-executed.ensures.back

pub returns-clause-stays : goal.returns-clause-stays
returns-clause-stays g c =
    executed_stay c.args.self.now c.execute-executed.new.self (given_line c.args.line c.args.text.now) c.execute-executed.result c.execute-executed.ensures.done
    c.execute-executed.ensures.back c.execute-executed.ensures.comes (λ was. c.law-2.ensures.whole.drains)
