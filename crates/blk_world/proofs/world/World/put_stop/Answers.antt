use Rattle.std.specs.Prelude.{string_bytes}
use Rattle.qmp_codec.specs.Lines.{seen_stop}
use Rattle.world_parts.specs.Saying.{given_line}
use Rattle.blk_world.proofs.CarryBack.{unmoved_on}
use Rattle.world_lines.proofs.CarryLines.{no_command_answers, no_command_comes}
use Rattle.blk_world.proofs.world.World.put_stop.Goals as goal

pub returns-clause-done : goal.returns-clause-done
returns-clause-done g c =
    rw (c.note_reply.ensures, c.in_ok-copy.ensures, ← c.self.view_is) (no_command_answers _
    (given_line c.args.line c.args.given.now) (string_bytes c.in_ok-text.text)
    (seen_stop c.args.stop) c.requires.read c.in_ok-text.ensures)

pub returns-clause-comes : goal.returns-clause-comes
returns-clause-comes g c =
    let asked = c.requires.open in
    let idle = rw (← c.self.view_is) at asked in
    rw (c.note_reply.ensures, c.in_ok-copy.ensures, ← c.self.view_is) (λ o comes. no_command_comes _
    (given_line c.args.line c.args.given.now) (string_bytes c.in_ok-text.text)
    (seen_stop c.args.stop) c.requires.read c.in_ok-text.ensures o idle comes)

pub returns-in_err-text-clause-back : goal.returns-in_err-text-clause-back
returns-in_err-text-clause-back g c = unmoved_on c.from_residual.result c.args.self.now

pub returns-in_err-copy-clause-back : goal.returns-in_err-copy-clause-back
returns-in_err-copy-clause-back g c = unmoved_on c.from_residual-in_err-copy.result c.args.self.now
