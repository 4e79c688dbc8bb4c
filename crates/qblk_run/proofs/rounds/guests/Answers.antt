use Rattle.std.proofs.Common.{◌≡◌, ℕ, ◌+◌, ◌∙◌, Bool, length, refl, sym, ap, subst, arith}
use Rattle.std.specs.Prelude.{◌||◌}
use Rattle.qblk_run.specs.Rounds.{AreGuestTurns}
use Rattle.qblk_run.specs.Tasks.{Tasks}
use Rattle.qblk_run.proofs.Continuing.{continues-same, continues-then, guests-on, no-guests, stays_same, stays_then}
use Rattle.qblk_run.proofs.rounds.guests.Goals.{then-turned, else-turned}
use Rattle.qblk_run.proofs.rounds.guests.Goals as goal

pub loop-guest-init : goal.loop-guest-init
loop-guest-init g c =
    let w = g.W.Events.face c.args.world.now in
    record {
      so = continues-same w c.args.actors.now c.requires.can;
      script = refl;
      turns = no-guests w c.args.actors.now;
      stays = stays_same w;
      comes = λ orders o d first was. was;
    }

pub loop-guest-preserved : goal.loop-guest-preserved
loop-guest-preserved g c =
    let w = g.W.Events.face c.args.world.now in
    let v = g.W.Events.face c.loop-guest.world in
    let u = g.W.Events.face c.next_guest-turned.new.world in
    let a = c.args.actors.now in
    let turned = c.next_guest-turned.result in
    let is : c.if-turned.moved ≡ (turned || c.loop-guest.moved) = elim c.if-turned.branch [
      | then-turned x ↦ rw x.if-turned.true (x.moved-is ∙ x.if-turned.true)
      | else-turned x ↦ rw x.if-turned.false x.moved-is
    ] in
    record {
      so = continues-then w v u a c.loop-guest.actors c.next_guest-turned.new.actors c.loop-guest.invariant.so c.next_guest-turned.ensures.goes;
      script = c.next_guest-turned.ensures.script ∙ c.loop-guest.invariant.script;
      turns = subst (λ (b : Bool). AreGuestTurns w u a c.next_guest-turned.new.actors (c.loop-guest.guest + 1) b) (sym is)
          (guests-on w v u a c.loop-guest.actors c.next_guest-turned.new.actors c.loop-guest.guest c.loop-guest.moved turned c.loop-guest.invariant.so c.loop-guest.invariant.turns
          c.next_guest-turned.ensures.goes c.next_guest-turned.ensures.script c.next_guest-turned.ensures.turn);
      stays = stays_then w v u c.loop-guest.invariant.stays c.next_guest-turned.ensures.stays;
      comes = λ orders o d first was. c.next_guest-turned.ensures.comes orders o d first (c.loop-guest.invariant.comes orders o d first was);
    }

pub returns-clause-turns : goal.returns-clause-turns
returns-clause-turns g c =
    let count : length c.loop-guest.actors.guests ≡ length c.args.actors.now.guests = c.loop-guest.invariant.so.count in
    let items = ap (λ (a : Tasks). length a.guests) c.actors.view_is in
    let all : c.loop-guest.guest ≡ length c.loop-guest.actors.guests =
    omega (arith, count, items, c.loop-guest-test.false, c.loop-guest.auto.guest-end, c.len-guest-end.ensures) in
    subst (λ (n : ℕ). AreGuestTurns (g.W.Events.face c.args.world.now) (g.W.Events.face c.loop-guest.world) c.args.actors.now c.loop-guest.actors n c.loop-guest.moved) all
    c.loop-guest.invariant.turns
