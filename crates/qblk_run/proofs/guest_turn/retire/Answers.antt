use Rattle.std.proofs.Common.{refl, ap}
use Rattle.world_parts.specs.Face.{WorldSeen}
use Rattle.qblk_run.specs.Tasks.{Task}
use Rattle.qblk_run.proofs.GuestTurns.{beside-kept, is-over, retire-move}
use Rattle.qblk_run.proofs.Worlds.{come-retired}
use Rattle.qblk_run.proofs.guest_turn.retire.Goals as goal

pub retire-requires : goal.retire-requires
retire-requires g c = is-over (g.W.Events.face c.args.world.now).progress c.args.guest c.args.task.now c.requires.task c.requires.over

pub returns-clause-moved : goal.returns-clause-moved
returns-clause-moved g c = (
  retire-move (g.W.Events.face c.args.world.now) (g.W.Events.face c.retire.new.self) c.args.guest c.args.task.now _ c.requires.task c.requires.over c.retire.ensures.kept
      (ap (λ (t : Task). t.wishes) c.task.view_is) refl (ap (λ (t : Task). t.is_done) c.task.view_is),
  beside-kept (g.W.Events.face c.args.world.now) (g.W.Events.face c.retire.new.self) (ap (λ (u : WorldSeen). u.drains) c.retire.ensures.kept)
      (ap (λ (u : WorldSeen). u.table) c.retire.ensures.kept) (ap (λ (u : WorldSeen). u.works) c.retire.ensures.kept),
)

pub returns-clause-comes : goal.returns-clause-comes
returns-clause-comes g c = λ orders o d first has.
    come-retired o d first (g.W.Events.face c.args.world.now) (g.W.Events.face c.retire.new.self) orders has (c.retire.ensures.comes o) c.args.guest
    (is-over (g.W.Events.face c.args.world.now).progress c.args.guest c.args.task.now c.requires.task c.requires.over) c.retire.ensures.kept
