-- What a job's turn leaves, as a slot's turn and as an event of the run.
use Rattle.std.proofs.Common.{◌≡◌, ℕ, ◌==◌, Bool, true, false, refl, sym, ◌∙◌, ap, subst, Some, inl, inr}
use Rattle.std.specs.Prelude.{◌⊎◌, if◌then◌else◌}
use Rattle.blk_graph.proofs.Members.{find-Some}
use Rattle.flat_machine.specs.Marks.{after_turn, must_drain}
use Rattle.flat_machine.specs.declared.opening.Opening.{Opening}
use Rattle.job_ends.proofs.Others.{at_number}
use Rattle.job_turns.specs.declared.step.Step.{Step}
use Rattle.qmp_rules.specs.Table.{job_at, job_in}
use Rattle.qmp_rules.specs.declared.rows.JobRecord.{JobRecord}
use Rattle.world_parts.specs.Comes.{Comes}
use Rattle.world_parts.specs.Face.{WorldSeen}
use Rattle.qblk_run.specs.Slots.{IsSlotTurn, SlotEnds, SlotPutsOff, SlotReadies, SlotStays, StandsInRun}
use Rattle.qblk_run.specs.Worlds.{ComesOnBeside, HasCome}
use Rattle.qblk_run.proofs.Worlds.{come-drained, come-ended, come-readied}

module _ (w v : WorldSeen) (slot : ℕ) where
  pub became-turn : SlotEnds w v slot ⊎ SlotReadies w v slot → IsSlotTurn w v slot true
  became-turn (inl ends) = inl ends
  became-turn (inr ready) = inr (inl ready)

  pub none-comes : v ≡ w → ComesOnBeside w v
  none-comes same orders o c first has = subst (λ (u : WorldSeen). HasCome o c first u orders) (sym same) has

  module _ (comes : (o : Opening) → Comes o w → Comes o v) where
    pub became-comes : SlotEnds w v slot ⊎ SlotReadies w v slot → ComesOnBeside w v
    became-comes (inl ends) orders o c first has = come-ended o c first w v orders has (comes o) ends.row ends.why ends.offset ends.ends ends.fits
    became-comes (inr ready) orders o c first has = come-readied o c first w v orders has (comes o) ready.row ready.readies ready.met

    module _ (stands : StandsInRun w) where
      by-number : (row : JobRecord) → job_in w.table slot ≡ Some row → job_at w.table row.number ≡ Some row
      by-number row there = at_number w.table stands.comes.jobs.stand row (find-Some (λ (r : JobRecord). r.slot == slot) w.table.jobs row there).0

      -- it holds its disk from now on, or nothing is done
      pub stays-comes : (is : Step) → SlotStays w v slot is → ComesOnBeside w v
      stays-comes is stays orders o c first has = by_asked (must_drain stays.has.row) refl
        where
          left : (b : Bool) → must_drain stays.has.row ≡ b → v ≡ record w { drains = if b then after_turn stays.has.row.number w.drains else w.drains }
          left b e = stays.kept ∙ ap (λ (x : Bool). record w { drains = if x then after_turn stays.has.row.number w.drains else w.drains }) e

          by_asked : (b : Bool) → must_drain stays.has.row ≡ b → HasCome o c first v orders
          by_asked true e =
              come-drained o c first w v orders has (comes o)
              (record { row = stays.has.row; there = by-number stays.has.row stays.has.there; asked = e; kept = left true e })
          by_asked false e = none-comes (left false e) orders o c first has

      pub put-off-comes : (g r : ℕ) → SlotPutsOff w v slot g r → ComesOnBeside w v
      put-off-comes g r off orders o c first has =
          come-drained o c first w v orders has (comes o) (record { row = off.row; there = by-number off.row off.there; asked = off.waits.asked; kept = off.kept })
