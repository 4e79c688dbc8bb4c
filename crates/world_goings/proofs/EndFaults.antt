-- The fault that a job kept is named by its end, or kept no more.
use Rattle.std.proofs.Common.{◌≡◌, ℕ, List, [], ◌∷◌, ◌++◌, Option, Some, None, refl, sym, ◌∙◌, ap, subst}
use Rattle.std.proofs.lemmas.List.{append-nil}
use Rattle.std.proofs.lemmas.List.Elements.{filter_map-append}
use Rattle.blk_base.specs.declared.fault.Fault.TheVariants as faults
use Rattle.blk_base.specs.declared.fault.FaultAt.{FaultAt}
use Rattle.blk_base.specs.declared.fault.FaultFrom.TheVariants.{Dev}
use Rattle.blk_history.specs.declared.entry.JobEnd.{JobEnd}
use Rattle.blk_history.specs.declared.entry.JobEnd.TheVariants.{Cancelled, Completed, Copied, Failed, Pivoted}
use Rattle.blk_history.specs.declared.event.Event.{Event}
use Rattle.blk_history.specs.declared.event.Event.TheVariants.{End}
use Rattle.block_jobs.specs.Work.{JobWork}
use Rattle.job_works.specs.Works.{without_work, work_of}
use Rattle.flat_machine.specs.EventLicence.{EndsAsMet, Sources}
use Rattle.flat_machine.specs.Licence.{Counts, fault_at, faults_of, named_at_end, named_in}
use Rattle.world_parts.specs.Keeping.{AreRises, all_faults, faults_kept, rise_of}
use Rattle.world_goings.proofs.Inserted.{with_behind, with_between}
use Rattle.world_goings.proofs.KeptFaults.{kept_less, kept_still}
use Rattle.world_goings.proofs.Rises.{rises_moved, rises_without}

module _ (opening now : Counts) (h : List Event) (works : List JobWork) (number : ℕ) (work : JobWork) (there : work_of works number ≡ Some work)
    (are : AreRises opening now (all_faults h works)) where
  abbrev left : List JobWork
  left = without_work number works

  unnamed : AreRises opening now (all_faults h left)
  unnamed = by_rise (rise_of work.met) refl
    where
      by_rise : (rise : Option FaultAt) → rise_of work.met ≡ rise → AreRises opening now (all_faults h left)
      by_rise None none = subst (AreRises opening now) (ap (λ fs. faults_of h ++ fs) (sym (kept_still number work works there none))) are
      by_rise (Some x) some =
          rises_without opening now x (all_faults h left) (all_faults h works)
          (with_behind x (faults_of h) (faults_kept left) (faults_kept works) (kept_less number work x works there some)) are

  named : (x : FaultAt) → rise_of work.met ≡ Some x → AreRises opening now ((faults_of h ++ x ∷ []) ++ faults_kept left)
  named x some =
      rises_moved opening now x (all_faults h left) (all_faults h works) ((faults_of h ++ x ∷ []) ++ faults_kept left)
      (with_behind x (faults_of h) (faults_kept left) (faults_kept works) (kept_less number work x works there some)) (with_between x (faults_of h) (faults_kept left)) are

  module _ (sources : Sources) (met_is : sources.met_by number ≡ work.met) (offset : ℕ) where
    by_none : (why : JobEnd) → named_at_end why ≡ None → AreRises opening now (all_faults (h ++ End number why offset ∷ []) left)
    by_none why none =
        let same : faults_of (h ++ End number why offset ∷ []) ≡ faults_of h =
        filter_map-append named_in h (End number why offset ∷ []) ∙ rw none (append-nil (faults_of h)) in
        subst (AreRises opening now) (ap (λ fs. fs ++ faults_kept left) (sym same)) unnamed

    pub faults_at_end : (why : JobEnd) → EndsAsMet sources number why → AreRises opening now (all_faults (h ++ End number why offset ∷ []) left)
    faults_at_end (Failed (faults.Io dev count)) met =
        let same : faults_of (h ++ End number (Failed (faults.Io dev count)) offset ∷ []) ≡ faults_of h ++ fault_at (Dev dev) count ∷ [] =
        filter_map-append named_in h (End number (Failed (faults.Io dev count)) offset ∷ []) in
        subst (AreRises opening now) (ap (λ fs. fs ++ faults_kept left) (sym same)) (named (fault_at (Dev dev) count) (ap rise_of (sym met_is ∙ met)))
    faults_at_end (Failed (faults.NoSpace dev)) met = by_none (Failed (faults.NoSpace dev)) refl
    faults_at_end Completed met = by_none Completed refl
    faults_at_end Pivoted met = by_none Pivoted refl
    faults_at_end Copied met = by_none Copied refl
    faults_at_end (Cancelled cause) met = by_none (Cancelled cause) refl
