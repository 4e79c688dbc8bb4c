-- What a step of a job's copying leaves of the faults that are kept, and of the works.
use Rattle.std.proofs.Common.{◌≡◌, ℕ, ◌≤◌, List, ◌++◌, refl, sym, ◌∙◌, ap, subst, arith, inl, inr, Some, None}
use Rattle.std.specs.Prelude.{IfSome, option_and_then}
use Rattle.blk_base.specs.declared.fault.Fault.{Fault}
use Rattle.blk_base.specs.declared.fault.Fault.TheVariants as faults
use Rattle.blk_base.specs.declared.fault.FaultFrom.TheVariants.{Dev}
use Rattle.blk_history.specs.declared.event.Event.{Event}
use Rattle.block_jobs.specs.Work.{IsJobWork, JobWork}
use Rattle.qmp_rules.specs.declared.rows.JobRecord.{JobRecord}
use Rattle.flat_machine.specs.EventLicence.{Deed, MayMeet}
use Rattle.flat_machine.specs.Licence.{fault_at, faults_of}
use Rattle.job_works.specs.Works.{ChangesWork, work_of}
use Rattle.job_works.proofs.Changed.{changed_at, job_found}
use Rattle.job_progress.specs.Belonging.{AreWorksOf}
use Rattle.job_progress.proofs.Belong.{found_there, step_belongs}
use Rattle.world_parts.specs.Coherent.{AreOut}
use Rattle.world_parts.specs.Counting.{counts_within, seen_sources}
use Rattle.world_parts.specs.Face.{WorldSeen, counts_now, first_counts}
use Rattle.world_parts.specs.Jobs.{CopiesFor}
use Rattle.world_parts.specs.Keeping.{AreRises, all_faults, faults_kept, rise_of}
use Rattle.world_parts.proofs.Rises.{rises-on}
use Rattle.world_goings.proofs.Inserted.{IsWith, with_behind}
use Rattle.world_goings.proofs.KeptFaults.{kept_same, kept_with}
use Rattle.world_goings.proofs.Reached.{met_reached}
use Rattle.world_goings.proofs.Rises.{rises_with}
use Rattle.world_goings.proofs.WorkSteps.{IsStill}

module _ (w v : WorldSeen) (deed : Deed) (passes : ℕ → Type 0) (row : JobRecord) (copies : CopiesFor w v deed passes row)
    (Does : JobWork → JobWork → Type 0) (changes : ChangesWork row.number Does w.works v.works) where
  abbrev was : JobWork
  was = changes.was

  abbrev now : JobWork
  now = changes.now

  pub number_was : was.job ≡ row.number
  number_was = job_found w.works row.number was changes.there

  pub number_now : now.job ≡ row.number
  number_now = changes.same ∙ number_was

  found_was : work_of w.works now.job ≡ Some was
  found_was = ap (work_of w.works) number_now ∙ changes.there

  pub found_now : work_of v.works row.number ≡ Some now
  found_now =
      ap (work_of v.works) (sym number_now) ∙ ap (λ works. work_of works now.job) changes.kept
      ∙ changed_at now.job (λ work. now) (λ work own. refl) w.works was found_was

  met_was : (seen_sources w).met_by row.number ≡ was.met
  met_was = ap (λ found. option_and_then (λ (work : JobWork). work.met) found) changes.there

  met_now : (seen_sources v).met_by row.number ≡ now.met
  met_now = ap (λ found. option_and_then (λ (work : JobWork). work.met) found) found_now

  opened_kept : v.opened ≡ w.opened
  opened_kept = ap (λ (x : WorldSeen). x.opened) copies.kept

  -- ---- faults

  module _ (out : AreOut w.table w.nodes w.opened) (h : List Event) where
    still_kept : rise_of now.met ≡ rise_of was.met → AreRises (first_counts w) (counts_now w) (all_faults h w.works)
        → AreRises (first_counts v) (counts_now v) (all_faults h v.works)
    still_kept same are =
        let all : all_faults h w.works ≡ all_faults h v.works =
        ap (λ fs. faults_of h ++ fs) (sym (ap faults_kept changes.kept ∙ kept_same now.job was now w.works found_was same)) in
        subst (AreRises (first_counts v) (counts_now v)) all (rises-on w v copies.runs (all_faults h w.works) are)

    more_kept : (fault : Fault) → now.met ≡ Some fault → was.met ≡ None → MayMeet w.table (seen_sources w) deed (counts_within w v) (counts_now v) passes row fault
        → IfSome (rise_of (Some fault)) (λ rise. rise.count ≤ 18446744073709551615) → AreRises (first_counts w) (counts_now w) (all_faults h w.works)
        → AreRises (first_counts v) (counts_now v) (all_faults h v.works)
    more_kept (faults.Io dev count) met none may fits are =
        rises_with w v (fault_at (Dev dev) count) (all_faults h w.works) (all_faults h v.works) copies.runs
        (met_reached w v opened_kept out may.node count dev may.device may.cause fits)
        (with_behind (fault_at (Dev dev) count) (faults_of h) (faults_kept w.works) (faults_kept v.works)
        (subst (λ works. IsWith (fault_at (Dev dev) count) (faults_kept w.works) (faults_kept works)) (sym changes.kept)
        (kept_with now.job was now (fault_at (Dev dev) count) w.works found_was (ap rise_of none) (ap rise_of met)))) are
    more_kept (faults.NoSpace dev) met none may fits are = still_kept (ap rise_of met ∙ sym (ap rise_of none)) are

    pub faults_then : AreRises (first_counts w) (counts_now w) (all_faults h w.works) → AreRises (first_counts v) (counts_now v) (all_faults h v.works)
    faults_then are = elim copies.meets [
      | inl none ↦ still_kept (ap rise_of (sym met_now ∙ none.same ∙ met_was)) are
      | inr meets ↦ more_kept meets.fault (sym met_now ∙ meets.met) (sym met_was ∙ meets.may.first) meets.may meets.fits are
    ]

  -- ---- works

  module _ (belong : AreWorksOf w.table w.works) where
    pub sound_was : IsJobWork was
    sound_was = belong.sound was (found_there w.works row.number was changes.there)

    pub works_then : IsStill was now → AreWorksOf w.table v.works
    works_then still =
        let room = still.room in
        subst (AreWorksOf w.table) (sym changes.kept) (step_belongs w.table w.works was now belong found_was still.size (omega arith) still.sound)
