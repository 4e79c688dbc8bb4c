use Rattle.qblk_run.proofs.Lines.{text-fits}
use Rattle.qblk_run.proofs.transcript.text_for.Goals as goal

pub returns-clause-fits : goal.returns-clause-fits
returns-clause-fits c =
    text-fits c.args.names.now c.longest_reply.result c.longest_name.result c.in-Some.room c.args.history.now.events _ c.with_room.result
    c.longest_name.ensures c.longest_reply.ensures c.in-Some.ensures c.with_room.ensures.empty c.with_room.ensures.room
