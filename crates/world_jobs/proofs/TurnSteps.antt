-- What the step of a turn says of a job that copies blocks: why it may end so, or that it can be ready and isn't yet, and that nothing is left
-- then.
use Rattle.std.proofs.Common.{◌≡◌, ◌≢◌, ℕ, ◌==◌, Bool, true, false, cond, not, Option, Some, None, refl, sym, ◌∙◌}
use Rattle.std.specs.Prelude.{Contains}
use Rattle.std.specs.List.{list_any}
use Rattle.blk_base.specs.declared.fault.Fault.{Fault}
use Rattle.blk_graph.proofs.Members.{find-Some}
use Rattle.blk_history.specs.declared.entry.Cause.TheVariants.{Command, RunEnd}
use Rattle.blk_history.specs.declared.entry.JobEnd.{JobEnd}
use Rattle.blk_history.specs.declared.entry.JobEnd.TheVariants.{Cancelled, Completed, Copied, Failed, Pivoted}
use Rattle.block_jobs.specs.Work.{JobWork}
use Rattle.flat_machine.specs.Jobs.{can_be_ready}
use Rattle.job_ends.proofs.Others.{at_number}
use Rattle.job_progress.specs.Belonging.{HasWork}
use Rattle.job_turns.specs.Turns.{copied_step, going_step, has_next, has_rows, ready_end, step_before, step_of, stop_asked}
use Rattle.job_turns.specs.declared.step.Step.{Step}
use Rattle.job_turns.specs.declared.step.Step.TheVariants as step
use Rattle.job_works.specs.Works.{work_of}
use Rattle.qmp_rules.specs.Table.{job_at}
use Rattle.qmp_rules.specs.declared.rows.AskedEnd.{AskedEnd}
use Rattle.qmp_rules.specs.declared.rows.AskedEnd.TheVariants as asked
use Rattle.qmp_rules.specs.declared.rows.JobRecord.{JobRecord}
use Rattle.world_parts.specs.Coherent.{IsWholeWorld}
use Rattle.world_parts.specs.Face.{WorldSeen}
use Rattle.world_parts.specs.Jobs.{HasCopiedAll}
use Rattle.world_parts.proofs.InStep.{with-at}
use Rattle.world_jobs.specs.Turning.{HasTurn, IsTurnOf}
use Rattle.world_jobs.specs.declared.turned.Turn.{Turn}
use Rattle.world_jobs.proofs.CopySteps.{none_open}

-- no call failed for it, and it has copied all
pub record IsMade (work : JobWork) : Type 0 where
  pub unmet : work.met ≡ None
  pub all : HasCopiedAll work

-- so it goes on until it is asked to end
pub record IsReady (row : JobRecord) (work : JobWork) (so : AskedEnd) : Type 0 where
  pub made : IsMade work
  pub can : can_be_ready row row.kind ≡ true
  pub ready : row.is_ready ≡ true
  pub asked : row.asked ≡ so

abbrev pub EndSays : Bool → JobRecord → JobWork → JobEnd → Type 0
EndSays all_done row work (Failed fault) = work.met ≡ Some fault
EndSays all_done row work (Cancelled Command) = (work.met ≡ None) × (row.asked ≡ asked.Stop)
EndSays all_done row work (Cancelled RunEnd) = (all_done ≡ true) × IsReady row work asked.Nothing
EndSays all_done row work why = ⊥

abbrev pub FinishSays : JobRecord → JobWork → JobEnd → Type 0
FinishSays row work Completed = IsMade work × (can_be_ready row row.kind ≡ false) × (row.asked ≢ asked.Stop)
FinishSays row work Pivoted = IsReady row work asked.Complete
FinishSays row work Copied = IsReady row work asked.Leave
FinishSays row work why = ⊥

abbrev pub Says : Bool → JobRecord → JobWork → Step → Type 0
Says all_done row work (step.End why) = EndSays all_done row work why
Says all_done row work (step.Finish why) = FinishSays row work why
Says all_done row work step.GetReady = IsMade work × (can_be_ready row row.kind ≡ true) × (row.is_ready ≡ false)
Says all_done row work other = Unit {0}

module _ (all_done : Bool) (row : JobRecord) (work : JobWork) where
  abbrev SaysSo : Step → Type 0
  SaysSo is = Says all_done row work is

  module _ (unmet : work.met ≡ None) where
    ready_says : IsMade work → can_be_ready row row.kind ≡ true → row.is_ready ≡ true → (a : AskedEnd) → row.asked ≡ a → SaysSo (ready_end all_done a)
    ready_says made can ready asked.Complete is = record { made = made; can = can; ready = ready; asked = is }
    ready_says made can ready asked.Leave is = record { made = made; can = can; ready = ready; asked = is }
    ready_says made can ready asked.Stop is = (unmet, is)
    ready_says made can ready asked.Nothing is = by_done all_done refl
      where
        by_done : (b : Bool) → all_done ≡ b → SaysSo (cond b (step.End (Cancelled RunEnd)) step.Wait)
        by_done true so = (so, record { made = made; can = can; ready = ready; asked = is })
        by_done false so = tt

    module _ (goes : row.asked ≢ asked.Stop) where
      copied_says : IsMade work → SaysSo (copied_step all_done row)
      copied_says made = by_can (can_be_ready row row.kind) refl
        where
          by_ready : can_be_ready row row.kind ≡ true → (b : Bool) → row.is_ready ≡ b → SaysSo (cond b (ready_end all_done row.asked) step.GetReady)
          by_ready can true is = ready_says made can is row.asked refl
          by_ready can false is = (made, can, is)

          by_can : (b : Bool) → can_be_ready row row.kind ≡ b
              → SaysSo (cond (not b) (step.Finish Completed) (cond row.is_ready (ready_end all_done row.asked) step.GetReady))
          by_can true can = by_ready can row.is_ready refl
          by_can false can = (made, can, goes)

      going_says : SaysSo (going_step all_done row work)
      going_says = by_open (has_rows work) refl
        where
          by_left : (b : Bool) → list_any (λ part. part) work.left ≡ b → has_rows work ≡ false → SaysSo (cond b step.Go (copied_step all_done row))
          by_left true left open_ = tt
          by_left false left open_ = copied_says (record { unmet = unmet; all = record { left = left; rows = none_open work.rows open_ } })

          by_open : (b : Bool) → has_rows work ≡ b → SaysSo (cond b step.Wait (cond (list_any (λ part. part) work.left) step.Go (copied_step all_done row)))
          by_open true is = tt
          by_open false is = by_left (list_any (λ part. part) work.left) refl is

      next_says : (b : Bool) → SaysSo (cond b step.Copy (going_step all_done row work))
      next_says true = tt
      next_says false = going_says

    asked_says : (a : AskedEnd) → row.asked ≡ a → SaysSo (step_before all_done row work (stop_asked a))
    asked_says asked.Stop is = (unmet, is)
    asked_says asked.Nothing is = next_says (λ same. let no : asked.Nothing ≡ asked.Stop = sym is ∙ same in let bad : ⊥ = cc no in bad) (has_next row work)
    asked_says asked.Complete is = next_says (λ same. let no : asked.Complete ≡ asked.Stop = sym is ∙ same in let bad : ⊥ = cc no in bad) (has_next row work)
    asked_says asked.Leave is = next_says (λ same. let no : asked.Leave ≡ asked.Stop = sym is ∙ same in let bad : ⊥ = cc no in bad) (has_next row work)

  met_says : (found : Option Fault) → work.met ≡ found
      → SaysSo (step_before all_done row work (elim found as (λ _. Option JobEnd) [ None ↦ stop_asked row.asked | Some fault ↦ Some (Failed fault) ]))
  met_says None is = asked_says is row.asked refl
  met_says (Some fault) is = is

  pub step_says : Says all_done row work (step_of all_done row work)
  unfolding step_of
  step_says = met_says work.met refl

-- ---- the job of a slot

module _ (w : WorldSeen) (slot : ℕ) (is : Turn) where
  pub here : (has : HasTurn w slot is) → Contains w.table.jobs has.row
  here has = (find-Some (λ (r : JobRecord). r.slot == slot) w.table.jobs has.row has.there).0

  module _ (whole : IsWholeWorld w) (has : HasTurn w slot is) where
    pub slot_job : job_at w.table has.row.number ≡ Some has.row
    slot_job = at_number w.table whole.jobs.stand has.row (here has)

    abbrev pub own : HasWork w.table w.works has.row
    own = whole.jobs.belong.each has.row (here has)

    pub step_is : IsTurnOf has.all_done has.row own.work is
    step_is = with-at (work_of w.works has.row.number) own.work (λ work. IsTurnOf has.all_done has.row work is) own.there has.step
