use Rattle.std.proofs.Common.{ap, ◌∙◌, sym, subst, ◌≡◌, true, arith, List, ℕ}
use Rattle.blk_lock.specs.Stamps.{has_actor}
use Rattle.lock_probe.proofs.Replays.{done_after, same_kept, script_more}
use Rattle.lock_probe.proofs.calls.write_script.Goals as goal

pub loop-value-preserved : goal.loop-value-preserved
loop-value-preserved g c =
    let i = c.loop-value.invariant in let e = c.exchange.ensures in
    let held : has_actor c.loop-value.pass.seat.me.0.view.actors c.args.actor ≡ true = subst (λ (l : List ℕ). has_actor l c.args.actor ≡ true) (sym (ap (λ v. v.actors) i.same)) c.requires.may.actor_held in
    let room = ap (λ v. v.room.entries) e.pass in
    record {
      lock = e.lock ∙ i.lock;
      same = same_kept c.args.pass.seat.me.0.view c.loop-value.pass.seat.me.0.view c.exchange.new.pass.seat.me.0.view _ e.pass i.same;
      room = omega (arith, i.room, room);
      own = script_more _ _ _ _ _ i.own (done_after _ _ _ _ e.event held);
    }
