use Rattle.world_parts.specs.Saying.{given_line}
use Rattle.world_rows.proofs.Calls.{executed_now}
use Rattle.world_rows.proofs.play.answer.Goals as goal

pub returns : goal.returns
returns c =
    executed_now c.args.world.now c.execute.new.self c.args.left (given_line c.args.line c.args.text.now) c.requires c.execute.result c.execute.ensures.done
    c.execute.ensures.back
