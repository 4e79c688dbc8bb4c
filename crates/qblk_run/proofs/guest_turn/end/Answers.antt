use Rattle.std.proofs.Common.{refl, ap, ◌∙◌, ◌+◌}
use Rattle.world_parts.specs.Face.{WorldSeen}
use Rattle.qblk_run.specs.Tasks.{Task}
use Rattle.qblk_run.proofs.GuestTurns.{beside-kept, is-open, is-idle, end-move, row-known, end-room}
use Rattle.qblk_run.proofs.Worlds.{come-done}
use Rattle.qblk_run.proofs.guest_turn.end.Goals as goal

pub finish-requires-clause-known : goal.finish-requires-clause-known
finish-requires-clause-known g c = row-known (g.W.Events.face c.args.world.now).progress c.args.guest c.args.task.now c.requires.task

pub finish-requires-clause-open : goal.finish-requires-clause-open
finish-requires-clause-open g c = is-open (g.W.Events.face c.args.world.now) c.args.guest c.args.task.now c.requires.task c.requires.runs

pub finish-requires-clause-idle : goal.finish-requires-clause-idle
finish-requires-clause-idle g c = is-idle (g.W.Events.face c.args.world.now).progress c.args.guest c.args.task.now c.requires.task c.requires.idle

pub finish-requires-clause-room : goal.finish-requires-clause-room
finish-requires-clause-room g c = end-room (g.W.Events.face c.args.world.now).progress c.args.task.now c.requires.runs c.requires.entries

pub returns-clause-moved : goal.returns-clause-moved
returns-clause-moved g c = (
  end-move (g.W.Events.face c.args.world.now) (g.W.Events.face c.finish.new.self) c.args.guest c.args.task.now _ c.requires.task
      c.requires.idle c.requires.runs c.requires.used c.requires.entries c.finish.ensures.kept
      (ap (λ (t : Task). t.wishes) c.task.view_is ∙ c.requires.used) (ap (λ (t : Task). t.left) c.task.view_is ∙ c.requires.idle) refl,
  beside-kept (g.W.Events.face c.args.world.now) (g.W.Events.face c.finish.new.self) (ap (λ (u : WorldSeen). u.drains) c.finish.ensures.kept)
      (ap (λ (u : WorldSeen). u.table) c.finish.ensures.kept) (ap (λ (u : WorldSeen). u.works) c.finish.ensures.kept),
)

pub returns-clause-comes : goal.returns-clause-comes
returns-clause-comes g c = λ orders o d first has.
    come-done o d first (g.W.Events.face c.args.world.now) (g.W.Events.face c.finish.new.self) orders has (c.finish.ensures.comes o) (c.args.guest + 1)
    (is-open (g.W.Events.face c.args.world.now) c.args.guest c.args.task.now c.requires.task c.requires.runs)
    (is-idle (g.W.Events.face c.args.world.now).progress c.args.guest c.args.task.now c.requires.task c.requires.idle) c.finish.ensures.kept
