use Rattle.std.proofs.Common.{◌≡◌, ◌+◌, ◌∙◌, Bool, sym, subst}
use Rattle.std.specs.Prelude.{◌||◌}
use Rattle.qblk_run.specs.Rounds.{AreSlotTurns}
use Rattle.qblk_run.proofs.Continuing.{continues-same, continues-then, stays_same, stays_then}
use Rattle.qblk_run.proofs.SlotTurns.{no-slots, slot-continues, slots-on}
use Rattle.qblk_run.proofs.rounds.slots.Goals.{then-turned, else-turned}
use Rattle.qblk_run.proofs.rounds.slots.Goals as goal

pub loop-slot-init : goal.loop-slot-init
loop-slot-init g c =
    let w = g.W.Events.face c.args.world.now in
    record {
      so = continues-same w c.args.actors.now c.requires.can;
      turns = no-slots w c.args.actors.now;
      stays = stays_same w;
      comes = λ orders o d first was. was;
    }

pub slot_turn-turned-requires-clause-stands : goal.slot_turn-turned-requires-clause-stands
slot_turn-turned-requires-clause-stands g c = c.loop-slot.invariant.so.stands c.requires.stands

pub loop-slot-preserved : goal.loop-slot-preserved
loop-slot-preserved g c =
    let w = g.W.Events.face c.args.world.now in
    let v = g.W.Events.face c.loop-slot.world in
    let u = g.W.Events.face c.slot_turn-turned.new.world in
    let a = c.args.actors.now in
    let turned = c.slot_turn-turned.result in
    let is : c.if-turned.moved ≡ (turned || c.loop-slot.moved) = elim c.if-turned.branch [
      | then-turned x ↦ rw x.if-turned.true (x.moved-is ∙ x.if-turned.true)
      | else-turned x ↦ rw x.if-turned.false x.moved-is
    ] in
    let stands = c.loop-slot.invariant.so.stands c.requires.stands in
    let more = slot-continues v u a c.loop-slot.slot turned c.loop-slot.invariant.so.can stands c.slot_turn-turned.ensures.stays c.slot_turn-turned.ensures.turn in
    record {
      so = continues-then w v u a a a c.loop-slot.invariant.so more;
      turns = subst (λ (b : Bool). AreSlotTurns w u a (c.loop-slot.slot + 1) b) (sym is)
          (slots-on w v u a c.loop-slot.slot c.loop-slot.moved turned c.loop-slot.invariant.so stands c.loop-slot.invariant.turns more c.slot_turn-turned.ensures.turn);
      stays = stays_then w v u c.loop-slot.invariant.stays c.slot_turn-turned.ensures.stays;
      comes = λ orders o d first was. c.slot_turn-turned.ensures.comes orders o d first (c.loop-slot.invariant.comes orders o d first was);
    }
