use Rattle.std.proofs.Common.{inr}
use Rattle.job_turns.specs.declared.step.Step.TheVariants as step
use Rattle.qblk_run.proofs.Blocks.{idle-rests, none-rests, put-off-rests, stays-copies, stays-stands, step-stays}
use Rattle.qblk_run.proofs.Continuing.{stays_then}
use Rattle.qblk_run.proofs.JobCalls.{became-comes, became-turn, none-comes, put-off-comes, stays-comes}
use Rattle.qblk_run.proofs.slot_turn.slot_turn.Goals as goal

pub returns-in-Became-clause-turn : goal.returns-in-Became-clause-turn
returns-in-Became-clause-turn g c = became-turn (g.W.Events.face c.args.world.now) (g.W.Events.face c.job_turn.new.self) c.args.slot c.in-Became.ensures.turned

pub returns-in-Became-clause-comes : goal.returns-in-Became-clause-comes
returns-in-Became-clause-comes g c =
    became-comes (g.W.Events.face c.args.world.now) (g.W.Events.face c.job_turn.new.self) c.args.slot c.job_turn.ensures.comes c.in-Became.ensures.turned

pub copy_block-requires-clause-stands : goal.copy_block-requires-clause-stands
copy_block-requires-clause-stands g c =
    stays-stands (g.W.Events.face c.args.world.now) (g.W.Events.face c.job_turn.new.self) c.args.slot step.Copy c.in-Copy.ensures.turned c.job_turn.ensures.comes c.requires.stands

pub copy_block-requires-clause-copies : goal.copy_block-requires-clause-copies
copy_block-requires-clause-copies g c =
    step-stays (g.W.Events.face c.args.world.now) (g.W.Events.face c.job_turn.new.self) c.args.slot step.Copy c.in-Copy.ensures.turned

pub returns-in-Copy-clause-turn : goal.returns-in-Copy-clause-turn
returns-in-Copy-clause-turn g c =
    inr (inr (stays-copies (g.W.Events.face c.args.world.now) (g.W.Events.face c.job_turn.new.self) (g.W.Events.face c.copy_block.new.world) c.args.slot step.Copy
    c.in-Copy.ensures.turned c.copy_block.ensures.copied))

pub returns-in-Copy-clause-stays : goal.returns-in-Copy-clause-stays
returns-in-Copy-clause-stays g c =
    stays_then (g.W.Events.face c.args.world.now) (g.W.Events.face c.job_turn.new.self) (g.W.Events.face c.copy_block.new.world) c.job_turn.ensures.stays c.copy_block.ensures.stays

pub returns-in-Copy-clause-comes : goal.returns-in-Copy-clause-comes
returns-in-Copy-clause-comes g c = λ orders o d first has.
    c.copy_block.ensures.comes orders o d first
    (stays-comes (g.W.Events.face c.args.world.now) (g.W.Events.face c.job_turn.new.self) c.args.slot c.job_turn.ensures.comes c.requires.stands step.Copy
    c.in-Copy.ensures.turned orders o d first has)

pub returns-in-Empty-clause-turn : goal.returns-in-Empty-clause-turn
returns-in-Empty-clause-turn g c =
    none-rests (g.W.Events.face c.args.world.now) (g.W.Events.face c.job_turn.new.self) c.args.slot c.in-Empty.ensures.turned.0 c.in-Empty.ensures.turned.1

pub returns-in-Empty-clause-comes : goal.returns-in-Empty-clause-comes
returns-in-Empty-clause-comes g c =
    none-comes (g.W.Events.face c.args.world.now) (g.W.Events.face c.job_turn.new.self) c.args.slot c.in-Empty.ensures.turned.1

pub returns-in-Idle-clause-turn : goal.returns-in-Idle-clause-turn
returns-in-Idle-clause-turn g c =
    idle-rests (g.W.Events.face c.args.world.now) (g.W.Events.face c.job_turn.new.self) c.args.slot c.requires.stands c.in-Idle.ensures.turned

pub returns-in-Idle-clause-comes : goal.returns-in-Idle-clause-comes
returns-in-Idle-clause-comes g c =
    stays-comes (g.W.Events.face c.args.world.now) (g.W.Events.face c.job_turn.new.self) c.args.slot c.job_turn.ensures.comes c.requires.stands step.Wait c.in-Idle.ensures.turned

pub returns-in-Later-clause-turn : goal.returns-in-Later-clause-turn
returns-in-Later-clause-turn g c =
    put-off-rests (g.W.Events.face c.args.world.now) (g.W.Events.face c.job_turn.new.self) c.args.slot _ _ c.in-Later.ensures.turned

pub returns-in-Later-clause-comes : goal.returns-in-Later-clause-comes
returns-in-Later-clause-comes g c =
    put-off-comes (g.W.Events.face c.args.world.now) (g.W.Events.face c.job_turn.new.self) c.args.slot c.job_turn.ensures.comes c.requires.stands _ _ c.in-Later.ensures.turned
