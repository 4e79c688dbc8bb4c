use Rattle.std.proofs.Common.{◌≡◌, Some, ap, subst, sym, ◌∙◌}
use Rattle.blk_history.specs.Fold.{With}
use Rattle.world_parts.specs.Progress.{HasNext, Progress, flight_at}
use Rattle.world_pieces.proofs.PieceCalls.{made_comes, made_licence}
use Rattle.blk_world.proofs.JobGuards.{guard_progress}
use Rattle.blk_world.proofs.world.World.piece.Goals as goal

pub put_piece-requires : goal.put_piece-requires
put_piece-requires g c =
    subst (λ (p : Progress). With (flight_at p.guests c.args.guest) HasNext)
    (sym (guard_progress c.args.self.now c.guard_piece.new.self c.args.guest c.guard_piece.ensures.guards)) c.requires

pub returns-clause-made : goal.returns-clause-made
returns-clause-made g c = λ f flies.
    let between = c.guard_piece.new.self in
    let kept : between.progress ≡ c.args.self.now.progress = guard_progress c.args.self.now between c.args.guest c.guard_piece.ensures.guards in
    let next : With (flight_at between.progress.guests c.args.guest) HasNext
    = subst (λ (p : Progress). With (flight_at p.guests c.args.guest) HasNext) (sym kept) c.requires in
    let still : flight_at between.progress.guests c.args.guest ≡ Some f = ap (λ (p : Progress). flight_at p.guests c.args.guest) kept ∙ flies in
    let did = made_licence between c.put_piece.new.self c.args.guest c.put_piece.result next c.put_piece.ensures.made c.put_piece.ensures.joined c.put_piece.ensures.whole f still in
    record { between = between; guards = c.guard_piece.ensures.guards; made = did.0; licence = did.1 }

pub returns-clause-comes : goal.returns-clause-comes
returns-clause-comes g c = λ o comes.
    let between = c.guard_piece.new.self in
    let kept : between.progress ≡ c.args.self.now.progress = guard_progress c.args.self.now between c.args.guest c.guard_piece.ensures.guards in
    let next : With (flight_at between.progress.guests c.args.guest) HasNext
    = subst (λ (p : Progress). With (flight_at p.guests c.args.guest) HasNext) (sym kept) c.requires in
    made_comes between c.put_piece.new.self c.args.guest c.put_piece.result next c.put_piece.ensures.made c.put_piece.ensures.joined c.put_piece.ensures.whole
    c.guard_piece.ensures.guarded c.put_piece.ensures.unfolds c.put_piece.ensures.joined_then o (c.guard_piece.ensures.comes o comes)
