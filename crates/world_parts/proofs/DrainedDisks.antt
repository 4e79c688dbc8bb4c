-- The disks that jobs hold, job by job.
use Rattle.std.proofs.Common.{◌≡◌, ℕ, Bool, List, [], ◌∷◌, ◌++◌, refl, sym, ◌∙◌, ap}
use Rattle.std.specs.Prelude.{◌||◌}
use Rattle.std.specs.List.{list_any}
use Rattle.std.proofs.lemmas.List.{append-nil}
use Rattle.std.proofs.lemmas.List.Folds.{list_any-append}
use Rattle.flat_machine.specs.Marks.{is_on, job_disks, of_job}
use Rattle.qmp_rules.specs.declared.rows.JobRecord.{JobRecord}
use Rattle.qmp_rules.specs.Table.{RunTable, job_at}

module _ (t : RunTable) (node : ℕ) where
  abbrev is_held : List ℕ → Bool
  is_held = list_any (is_on t node)

  pub source_by_source : (jobs : List ℕ) → list_any (is_on t node) (job_disks t jobs) ≡ list_any (λ (job : ℕ). list_any (is_on t node) (job_disks t (job ∷ []))) jobs
  source_by_source [] = refl
  source_by_source (job ∷ jobs) =
      let own : List ℕ = of_job (job_at t job) (λ (row : JobRecord). row.source ∷ []) in
      list_any-append (is_on t node) own (job_disks t jobs)
      ∙ ap (λ (b : Bool). is_held own || b) (source_by_source jobs)
      ∙ ap (λ (disks : List ℕ). is_held disks || list_any (λ (j : ℕ). is_held (job_disks t (j ∷ []))) jobs) (sym (append-nil own))
