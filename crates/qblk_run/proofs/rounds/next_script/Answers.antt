use Rattle.qblk_run.proofs.Continuing.{script-continues-in, script-goes-in}
use Rattle.qblk_run.proofs.rounds.next_script.Goals as goal

pub returns-clause-goes : goal.returns-clause-goes
returns-clause-goes g c =
    script-continues-in (g.W.Events.face c.args.world.now) (g.W.Events.face c.script_turn.new.world) _ _ _ c.args.actors.now _ c.script_turn.result
    c.actors.view_is c.requires.can c.script_turn.ensures.stays c.script_turn.ensures.turn

pub returns-clause-turn : goal.returns-clause-turn
returns-clause-turn g c =
    script-goes-in (g.W.Events.face c.args.world.now) (g.W.Events.face c.script_turn.new.world) _ _ _ c.args.actors.now _ c.script_turn.result
    c.actors.view_is c.script_turn.ensures.turn
