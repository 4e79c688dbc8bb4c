use Rattle.world_rows.proofs.Calls.{asked_now, refused_now}
use Rattle.world_rows.proofs.play.ask.Goals as goal

pub make-requires : goal.make-requires
make-requires c =
    asked_now c.args.world.now c.admit.new.self c.args.left c.args.op c.requires.piece c.requires.ready c.admit.result c.in-Admitted.field-0 c.in-Admitted.is
    c.admit.ensures.kept

pub returns-in-Refused : goal.returns-in-Refused
returns-in-Refused c =
    refused_now c.args.world.now c.admit.new.self c.args.left c.args.op c.requires.piece c.requires.ready c.admit.result c.in-Refused.field-0 c.in-Refused.is
    c.admit.ensures.kept
