-- A job for which a call failed does not get ready in its turn.
use Rattle.std.proofs.Common.{◌≡◌, ℕ, Bool, refl, sym, ◌∙◌, ap, Option, Some, None}
use Rattle.std.specs.Prelude.{option_and_then}
use Rattle.blk_base.specs.declared.fault.Fault.{Fault}
use Rattle.blk_history.specs.Fold.{With}
use Rattle.blk_history.specs.declared.entry.JobEnd.TheVariants.{Failed}
use Rattle.block_jobs.specs.Work.{JobWork}
use Rattle.job_turns.specs.Turns.{step_before, step_of, stop_of}
use Rattle.job_turns.specs.declared.step.Step.TheVariants as step
use Rattle.job_works.specs.Works.{work_of}
use Rattle.qmp_rules.specs.declared.rows.JobRecord.{JobRecord}
use Rattle.world_jobs.specs.Turning as turning
use Rattle.world_jobs.specs.declared.turned.Turn.TheVariants as turn
use Rattle.world_parts.specs.Counting.{seen_sources}
use Rattle.world_parts.specs.Face.{WorldSeen}

none_met : (all_done : Bool) (row : JobRecord) (work : JobWork) → step_of all_done row work ≡ step.GetReady → work.met ≡ None
unfolding step_of
none_met all_done row work is = by_met work.met refl
  where
    by_met : (met : Option Fault) → work.met ≡ met → work.met ≡ None
    by_met None e = e
    by_met (Some fault) e =
        let stop : stop_of row work ≡ Some (Failed fault) = rw e refl in
        let ends : step.End (Failed fault) ≡ step.GetReady = sym (ap (step_before all_done row work) stop) ∙ is in
        absurd (let bad : ⊥ = cc ends in bad)

pub ready_met : (w : WorldSeen) (slot : ℕ) (has : turning.HasTurn w slot turn.GetReady) → (seen_sources w).met_by has.row.number ≡ None
ready_met w slot has = by_work (work_of w.works has.row.number) has.step
  where
    by_work : (found : Option JobWork) → With found (λ work. turning.IsTurnOf has.all_done has.row work turn.GetReady)
        → option_and_then (λ (work : JobWork). work.met) found ≡ None
    by_work None of_none = absurd of_none
    by_work (Some work) does = none_met has.all_done has.row work does
