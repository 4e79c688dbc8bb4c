use Rattle.world_parts.specs.Saying.{given_line}
use Rattle.std.specs.Prelude.{string_bytes}
use Rattle.qmp_codec.specs.Commands.{seen_command}
use Rattle.blk_world.proofs.KeptJobs.{starts_no_job}
use Rattle.blk_world.proofs.CarryBack.{put_back_comes}
use Rattle.world_lines.proofs.CarryLines.{answered_answers, answered_comes, late_put_off, late_comes}
use Rattle.blk_world.proofs.world.World.put_carried.Goals as goal

pub returns-in_err-carried-clause-comes : goal.returns-in_err-carried-clause-comes
returns-in_err-carried-clause-comes g c = put_back_comes c.args.self.now c.carry.new.self c.in_err-carried.ensures.back.back

pub returns-in-Said-clause-done : goal.returns-in-Said-clause-done
returns-in-Said-clause-done g c =
    let said = rw c.in-Said.is at c.in_ok-carried.ensures.carried in
    rw (c.note_reply.ensures, c.requires.copy) (answered_answers c.args.self.now c.carry.new.self (given_line c.args.line c.args.given.now)
    (string_bytes c.in-Said.text) (seen_command c.args.command) c.requires.read said
    (starts_no_job c.args.self.now.table said.carried.told (seen_command c.args.command) said.refusal c.requires.other said.carried.answered))

pub returns-in-Said-clause-comes : goal.returns-in-Said-clause-comes
returns-in-Said-clause-comes g c =
    let said = rw c.in-Said.is at c.in_ok-carried.ensures.carried in
    rw (c.note_reply.ensures, c.requires.copy) (λ o comes. answered_comes c.args.self.now c.carry.new.self
    (given_line c.args.line c.args.given.now) (string_bytes c.in-Said.text) (seen_command c.args.command) c.requires.read said
    (starts_no_job c.args.self.now.table said.carried.told (seen_command c.args.command) said.refusal c.requires.other said.carried.answered)
    c.images_are_sound.ensures.sound c.images_are_sound.ensures.kept c.images_are_sound.ensures.sizes o c.requires.open comes)

pub returns-in-Later-clause-done : goal.returns-in-Later-clause-done
returns-in-Later-clause-done g c =
    let late = rw c.in-Later.is at c.in_ok-carried.ensures.carried in
    late_put_off c.args.self.now c.carry.new.self (given_line c.args.line c.args.given.now) (seen_command c.args.command) c.in-Later.guest c.in-Later.request c.requires.read late

pub returns-in-Later-clause-comes : goal.returns-in-Later-clause-comes
returns-in-Later-clause-comes g c =
    let late = rw c.in-Later.is at c.in_ok-carried.ensures.carried in
    late_comes c.args.self.now c.carry.new.self (seen_command c.args.command) c.in-Later.guest c.in-Later.request late
