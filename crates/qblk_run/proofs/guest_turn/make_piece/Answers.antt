use Rattle.std.proofs.Common.{◌≡◌, ℕ, List, length, refl, ap, Some}
use Rattle.blk_history.specs.Machine.{Flight}
use Rattle.world_parts.specs.Progress.{CanShow, flight_at, with_piece_entry}
use Rattle.qblk_run.specs.Tasks.{Task}
use Rattle.qblk_run.proofs.GuestTurns.{can-go, flight-of, piece-beside, piece-move, piece-noted}
use Rattle.qblk_run.proofs.Worlds.{come-piece}
use Rattle.qblk_run.proofs.guest_turn.make_piece.Goals as goal

pub piece-outcome-requires : goal.piece-outcome-requires
piece-outcome-requires g c = can-go (g.W.Events.face c.args.world.now).progress c.args.guest c.args.left c.args.task.now c.requires.task c.requires.flying c.requires.more

pub returns-clause-moved : goal.returns-clause-moved
returns-clause-moved g c =
    let w = g.W.Events.face c.args.world.now in
    let v = g.W.Events.face c.piece-outcome.new.self in
    let noted : (f : Flight) → flight_at w.progress.guests c.args.guest ≡ Some f
    → (got : List ℕ) × (v.progress ≡ with_piece_entry c.args.guest f.next c.piece-outcome.result got w.progress) × CanShow (length got) f =
    piece-noted w v c.args.guest c.piece-outcome.result (can-go w.progress c.args.guest c.args.left c.args.task.now c.requires.task c.requires.flying c.requires.more) c.piece-outcome.ensures.made in
    let f = flight-of w.progress c.args.guest c.args.left c.args.task.now c.requires.task c.requires.flying in (
      piece-move w v c.args.guest c.args.task.now _ c.requires.task
          c.args.left c.left_after.result c.piece-outcome.result c.requires.flying c.requires.more noted c.left_after.ensures.good c.left_after.ensures.bad
          (ap (λ (t : Task). t.wishes) c.task.view_is) refl (ap (λ (t : Task). t.is_done) c.task.view_is),
      piece-beside w v c.args.guest f.0 c.piece-outcome.result (c.piece-outcome.ensures.made f.0 f.1),
    )

pub returns-clause-comes : goal.returns-clause-comes
returns-clause-comes g c = λ orders o d first has.
    let w = g.W.Events.face c.args.world.now in
    let v = g.W.Events.face c.piece-outcome.new.self in
    let f = flight-of w.progress c.args.guest c.args.left c.args.task.now c.requires.task c.requires.flying in
    come-piece o d first w v orders has (c.piece-outcome.ensures.comes o) c.args.guest f.0 c.piece-outcome.result f.1
    (can-go w.progress c.args.guest c.args.left c.args.task.now c.requires.task c.requires.flying c.requires.more) (c.piece-outcome.ensures.made f.0 f.1)
