-- The faults that jobs keep, where the work of one becomes another one, or is gone.
use Rattle.std.proofs.Common.{◌≡◌, Bool, true, false, cond, ℕ, List, [], ◌∷◌, Option, Some, None, refl, sym, ◌∙◌, ap, subst, inr}
use Rattle.std.specs.Prelude.{◌==◌}
use Rattle.std.specs.List.{cons_option}
use Rattle.blk_base.specs.declared.fault.FaultAt.{FaultAt}
use Rattle.block_jobs.specs.Work.{JobWork}
use Rattle.job_works.specs.Works.{with_changed, without_work, work_of}
use Rattle.world_parts.specs.Keeping.{faults_kept, rise_of}
use Rattle.world_goings.proofs.Inserted.{IsWith, with_first}

-- one more fault in front, and in front of both lists
one_more : (x : FaultAt) (o p : Option FaultAt) (faults : List FaultAt) → o ≡ None → p ≡ Some x → IsWith x (cons_option o faults) (cons_option p faults)
one_more x o p faults none some =
    subst (λ (a : Option FaultAt). IsWith x (cons_option a faults) (cons_option p faults)) (sym none)
    (subst (λ (a : Option FaultAt). IsWith x faults (cons_option a faults)) (sym some) (with_first x faults))

both : (x : FaultAt) (o : Option FaultAt) (faults all : List FaultAt) → IsWith x faults all → IsWith x (cons_option o faults) (cons_option o all)
both x None faults all is = is
both x (Some y) faults all is = inr (refl, is)

module _ (job : ℕ) (was : JobWork) where
  module _ (now : JobWork) where
    pub kept_same : (works : List JobWork) → work_of works job ≡ Some was → rise_of now.met ≡ rise_of was.met → faults_kept (with_changed job (λ work. now) works) ≡ faults_kept works
    kept_same [] there same = refl
    kept_same (w ∷ works) there same = by_test (w.job == job) there (kept_same works)
      where
        by_test : (b : Bool) → cond b (Some w) (work_of works job) ≡ Some was
            → (work_of works job ≡ Some was → rise_of now.met ≡ rise_of was.met → faults_kept (with_changed job (λ work. now) works) ≡ faults_kept works)
            → faults_kept (cond b (now ∷ works) (w ∷ with_changed job (λ work. now) works)) ≡ faults_kept (w ∷ works)
        by_test true at rest = let one : w ≡ was = cc at in ap (λ o. cons_option o (faults_kept works)) (same ∙ ap (λ (x : JobWork). rise_of x.met) (sym one))
        by_test false at rest = ap (cons_option (rise_of w.met)) (rest at same)

    pub kept_with : (x : FaultAt) (works : List JobWork) → work_of works job ≡ Some was → rise_of was.met ≡ None → rise_of now.met ≡ Some x
        → IsWith x (faults_kept works) (faults_kept (with_changed job (λ work. now) works))
    kept_with x [] there none some = absurd (let bad : ⊥ = cc there in bad)
    kept_with x (w ∷ works) there none some = by_test (w.job == job) there (kept_with x works)
      where
        by_test : (b : Bool) → cond b (Some w) (work_of works job) ≡ Some was
            → (work_of works job ≡ Some was → rise_of was.met ≡ None → rise_of now.met ≡ Some x → IsWith x (faults_kept works) (faults_kept (with_changed job (λ work. now) works)))
            → IsWith x (faults_kept (w ∷ works)) (faults_kept (cond b (now ∷ works) (w ∷ with_changed job (λ work. now) works)))
        by_test true at rest =
            let one : w ≡ was = cc at in
            one_more x (rise_of w.met) (rise_of now.met) (faults_kept works) (ap (λ (y : JobWork). rise_of y.met) one ∙ none) some
        by_test false at rest = both x (rise_of w.met) (faults_kept works) (faults_kept (with_changed job (λ work. now) works)) (rest at none some)

  pub kept_less : (x : FaultAt) (works : List JobWork) → work_of works job ≡ Some was → rise_of was.met ≡ Some x
      → IsWith x (faults_kept (without_work job works)) (faults_kept works)
  kept_less x [] there some = absurd (let bad : ⊥ = cc there in bad)
  kept_less x (w ∷ works) there some = by_test (w.job == job) there (kept_less x works)
    where
      by_test : (b : Bool) → cond b (Some w) (work_of works job) ≡ Some was
          → (work_of works job ≡ Some was → rise_of was.met ≡ Some x → IsWith x (faults_kept (without_work job works)) (faults_kept works))
          → IsWith x (faults_kept (cond b works (w ∷ without_work job works))) (faults_kept (w ∷ works))
      by_test true at rest =
          let one : w ≡ was = cc at in
          one_more x None (rise_of w.met) (faults_kept works) refl (ap (λ (y : JobWork). rise_of y.met) one ∙ some)
      by_test false at rest = both x (rise_of w.met) (faults_kept (without_work job works)) (faults_kept works) (rest at some)

  pub kept_still : (works : List JobWork) → work_of works job ≡ Some was → rise_of was.met ≡ None → faults_kept (without_work job works) ≡ faults_kept works
  kept_still [] there none = refl
  kept_still (w ∷ works) there none = by_test (w.job == job) there (kept_still works)
    where
      by_test : (b : Bool) → cond b (Some w) (work_of works job) ≡ Some was
          → (work_of works job ≡ Some was → rise_of was.met ≡ None → faults_kept (without_work job works) ≡ faults_kept works)
          → faults_kept (cond b works (w ∷ without_work job works)) ≡ faults_kept (w ∷ works)
      by_test true at rest = let one : w ≡ was = cc at in ap (λ o. cons_option o (faults_kept works)) (sym (ap (λ (y : JobWork). rise_of y.met) one ∙ none))
      by_test false at rest = ap (cons_option (rise_of w.met)) (rest at none)
