-- Rows of jobs stay what they are while their jobs run, but for what is asked of the jobs and whether they are ready.
use Rattle.std.proofs.Common.{◌≡◌, ℕ, ◌<◌, ◌≤◌, Bool, true, false, cond, List, [], ◌∷◌, map, refl, sym, ◌∙◌, ap, subst, arith, inl, inr, Option, Some, None, option_map}
use Rattle.std.specs.Prelude.{◌==◌, not}
use Rattle.std.specs.List.{Contains, find}
use Rattle.blk_graph.proofs.Members.{Contains-here, Contains-there}
use Rattle.std.proofs.lemmas.Bool.{eqb-true, ne_eqb, cases_eq}
use Rattle.qmp_rules.specs.declared.change.Change.{Change}
use Rattle.qmp_rules.specs.declared.change.Change.TheVariants as change
use Rattle.qmp_rules.specs.declared.change.JobOutcome.{JobOutcome}
use Rattle.qmp_rules.specs.declared.rows.AskedEnd.{AskedEnd}
use Rattle.qmp_rules.specs.declared.rows.JobRecord.{JobRecord}
use Rattle.qmp_rules.specs.Changes.{all_changed, asked_for, changed, followed, ready_for, without_job}
use Rattle.qmp_rules.specs.Ends.{end_edits}
use Rattle.qmp_rules.specs.Table.{RunTable, job_at}
use Rattle.flat_machine.proofs.Finds.{find-push, find-map, find-filter}
use Rattle.flat_machine.proofs.JobNames.{StartsFresh, AllStartFresh}
use Rattle.job_ends.proofs.Rows.{IsOfEnd, AreOfEnd, end_head, end_tail, end_parts, tail_of_end, end_jobs}
use Rattle.job_results.specs.Starts.{IsOneJob}

-- ---- one job

pub one_self : (row : JobRecord) → IsOneJob row row
one_self row = record { number = refl; kind = refl; source = refl; target = refl; bitmap = refl }

pub one_then : (a b c : JobRecord) → IsOneJob a b → IsOneJob b c → IsOneJob a c
one_then a b c ab bc = record {
  number = bc.number ∙ ab.number;
  kind = bc.kind ∙ ab.kind;
  source = bc.source ∙ ab.source;
  target = bc.target ∙ ab.target;
  bitmap = bc.bitmap ∙ ab.bitmap;
}

asked_one : (number : ℕ) (new : AskedEnd) (row : JobRecord) → IsOneJob row (asked_for number new row)
asked_one number new row = by_test (row.number == number)
  where
    by_test : (b : Bool) → IsOneJob row (cond b (record row { asked = followed row.asked new }) row)
    by_test true = record { number = refl; kind = refl; source = refl; target = refl; bitmap = refl }
    by_test false = one_self row

ready_one : (number : ℕ) (row : JobRecord) → IsOneJob row (ready_for number row)
ready_one number row = by_test (row.number == number)
  where
    by_test : (b : Bool) → IsOneJob row (cond b (record row { is_ready = true }) row)
    by_test true = record { number = refl; kind = refl; source = refl; target = refl; bitmap = refl }
    by_test false = one_self row

-- ---- rows by number

pub found_number : (jobs : List JobRecord) (n : ℕ) (row : JobRecord) → find (λ (job : JobRecord). job.number == n) jobs ≡ Some row → row.number ≡ n
found_number [] n row found = absurd cc
found_number (job ∷ jobs) n row found = by_test (job.number == n) refl (found_number jobs n row) found
  where
    by_test : (b : Bool) → (job.number == n) ≡ b → (find (λ (j : JobRecord). j.number == n) jobs ≡ Some row → row.number ≡ n)
        → cond b (Some job) (find (λ (j : JobRecord). j.number == n) jobs) ≡ Some row → row.number ≡ n
    by_test true e ih k = let same : job ≡ row = cc in subst (λ (r : JobRecord). r.number ≡ n) same (eqb-true job.number n e)
    by_test false e ih k = ih k

-- the job of a number was there
pub record WasAt (t : RunTable) (n : ℕ) (row : JobRecord) : Type 0 where
  pub was : JobRecord
  pub found : job_at t n ≡ Some was
  pub same : IsOneJob was row

-- each job has a number below that of the next one
abbrev pub AreEarly : RunTable → Type 0
AreEarly t = (n : ℕ) (row : JobRecord) → job_at t n ≡ Some row → n < t.started

-- the jobs that are there were there, but for those that were started since
pub record KeepsRows (t now : RunTable) : Type 0 where
  pub rows : (n : ℕ) (row : JobRecord) → job_at now n ≡ Some row → n < t.started → WasAt t n row
  pub started : t.started ≤ now.started
  pub early : AreEarly t → AreEarly now

pub keeps_then : (a b c : RunTable) → KeepsRows a b → KeepsRows b c → KeepsRows a c
keeps_then a b c ab bc = record {
  rows = λ n row found less.
      let more = ab.started in
      let w = bc.rows n row found (omega arith) in
      let v = ab.rows n w.was w.found less in
      record { was = v.was; found = v.found; same = one_then v.was w.was row v.same w.same };
  started = let more = ab.started in let most = bc.started in omega arith;
  early = λ early. bc.early (ab.early early);
}

pub same_rows : (t now : RunTable) → now.jobs ≡ t.jobs → now.started ≡ t.started → KeepsRows t now
same_rows t now jobs started = record {
  rows = λ n row found less. record { was = row; found = sym (at n) ∙ found; same = one_self row };
  started = omega arith;
  early = λ early n row found. subst (λ m. n < m) (sym started) (early n row (sym (at n) ∙ found));
}
  where
    at : (n : ℕ) → job_at now n ≡ job_at t n
    at n = ap (find (λ (job : JobRecord). job.number == n)) jobs

mapped_rows : (t now : RunTable) (f : JobRecord → JobRecord) → ((row : JobRecord) → IsOneJob row (f row)) → now.jobs ≡ map f t.jobs
    → now.started ≡ t.started → KeepsRows t now
mapped_rows t now f same jobs started = record {
  rows = λ n row found less. was_at n row found;
  started = omega arith;
  early = λ early n row found. let w = was_at n row found in subst (λ m. n < m) (sym started) (early n w.was w.found);
}
  where
    by_row : (n : ℕ) (row : JobRecord) (found : Option JobRecord) → job_at t n ≡ found → option_map f found ≡ Some row → WasAt t n row
    by_row n row None e k = absurd cc
    by_row n row (Some old) e k =
        let is : f old ≡ row = cc in
        record { was = old; found = e; same = subst (IsOneJob old) is (same old) }

    was_at : (n : ℕ) (row : JobRecord) → job_at now n ≡ Some row → WasAt t n row
    was_at n row found =
        by_row n row (job_at t n) refl
        (sym (find-map (λ (job : JobRecord). job.number == n) f (λ job. ap (λ m. m == n) (same job).number) t.jobs)
        ∙ sym (ap (find (λ (job : JobRecord). job.number == n)) jobs) ∙ found)

started_rows : (t : RunTable) (new : JobRecord) → new.number ≡ t.started → KeepsRows t (changed t (change.StartJob new))
unfolding changed
started_rows t new number = record {
  rows = λ n row found less. elim (find-push (λ (job : JobRecord). job.number == n) t.jobs new row found) [
    | inl old ↦ record { was = row; found = old; same = one_self row }
    | inr is ↦ (let at : new.number ≡ n = eqb-true new.number n is.0 in absurd (omega (arith, at, number, less)))
  ];
  started = omega arith;
  early = λ early n row found. elim (find-push (λ (job : JobRecord). job.number == n) t.jobs new row found) [
    | inl old ↦ (let less = early n row old in omega arith)
    | inr is ↦ (let at : new.number ≡ n = eqb-true new.number n is.0 in omega (arith, at, number))
  ];
}

-- ---- a job goes

gone : (number : ℕ) (jobs : List JobRecord) → find (λ (job : JobRecord). job.number == number) (without_job number jobs) ≡ None
gone number [] = refl
gone number (job ∷ jobs) = by_test (job.number == number) refl (gone number jobs)
  where
    by_test : (b : Bool) → (job.number == number) ≡ b → find (λ (j : JobRecord). j.number == number) (without_job number jobs) ≡ None
        → find (λ (j : JobRecord). j.number == number) (cond (not b) (job ∷ without_job number jobs) (without_job number jobs)) ≡ None
    by_test true e ih = ih
    by_test false e ih = rw e ih

left_row : (number n : ℕ) (jobs : List JobRecord) (row : JobRecord) → find (λ (job : JobRecord). job.number == n) (without_job number jobs) ≡ Some row
    → find (λ (job : JobRecord). job.number == n) jobs ≡ Some row
left_row number n jobs row found = elim (cases_eq n number) [
  | inl same ↦ (
      let some : find (λ (job : JobRecord). job.number == number) (without_job number jobs) ≡ Some row =
      subst (λ m. find (λ (job : JobRecord). job.number == m) (without_job number jobs) ≡ Some row) same found in
      let none = gone number jobs in
      absurd cc)
  | inr differ ↦
      sym (find-filter (λ (job : JobRecord). job.number == n) (λ (job : JobRecord). not (job.number == number))
      (λ job is. ap not (ne_eqb job.number number (λ same. differ (sym (eqb-true job.number n is) ∙ same)))) jobs)
      ∙ found
]

ended_rows : (t : RunTable) (number slot : ℕ) (drops : Bool) → KeepsRows t (changed t (change.EndJob number slot drops))
unfolding changed
ended_rows t number slot drops = record {
  rows = λ n row found less. record { was = row; found = left_row number n t.jobs row found; same = one_self row };
  started = omega arith;
  early = λ early n row found. early n row (left_row number n t.jobs row found);
}

-- ---- changes

change_keeps : (t : RunTable) (c : Change) → StartsFresh t c → KeepsRows t (changed t c)
unfolding changed
change_keeps t (change.StartJob new) fresh = started_rows t new fresh.number
change_keeps t (change.AskJob number new) fresh =
    mapped_rows t (changed t (change.AskJob number new)) (asked_for number new) (asked_one number new) refl refl
change_keeps t (change.ReadyJob number) fresh = mapped_rows t (changed t (change.ReadyJob number)) (ready_for number) (ready_one number) refl refl
change_keeps t (change.EndJob number slot drops) fresh = ended_rows t number slot drops
change_keeps t c fresh = same_rows t (changed t c) refl refl

pub changes_keep : (changes : List Change) (t : RunTable) → AllStartFresh t changes → KeepsRows t (all_changed t changes)
changes_keep [] t fresh = same_rows t t refl refl
changes_keep (c ∷ changes) t fresh =
    keeps_then t (changed t c) (all_changed (changed t c) changes) (change_keeps t c fresh.0) (changes_keep changes (changed t c) fresh.1)

-- ---- ends

fresh_of_end : (t : RunTable) (c : Change) → IsOfEnd c → StartsFresh t c
fresh_of_end t (change.StartJob row) h = absurd h
fresh_of_end t c h = tt

all_fresh : (changes : List Change) (t : RunTable) → AreOfEnd changes → AllStartFresh t changes
all_fresh [] t h = tt
all_fresh (c ∷ changes) t h = (fresh_of_end t c h.0, all_fresh changes (changed t c) h.1)

pub end_keeps : (t : RunTable) (row : JobRecord) (o : JobOutcome) → KeepsRows t (all_changed t (end_edits t row o))
end_keeps t row o =
    subst (λ (changes : List Change). KeepsRows t (all_changed t changes)) (sym (end_parts row t o))
    (changes_keep (end_head row o ∷ end_tail row t o) t (tt, all_fresh (end_tail row t o) (changed t (end_head row o)) (tail_of_end row t o)))

head_jobs : (t : RunTable) (row : JobRecord) (o : JobOutcome) → (changed t (end_head row o)).jobs ≡ without_job row.number t.jobs
unfolding changed
head_jobs t row o = refl

pub end_gone : (t : RunTable) (row : JobRecord) (o : JobOutcome) → job_at (all_changed t (end_edits t row o)) row.number ≡ None
end_gone t row o = ap (find (λ (job : JobRecord). job.number == row.number)) jobs ∙ gone row.number t.jobs
  where
    jobs : (all_changed t (end_edits t row o)).jobs ≡ without_job row.number t.jobs
    jobs =
        ap (λ (changes : List Change). (all_changed t changes).jobs) (end_parts row t o)
        ∙ end_jobs (end_tail row t o) (changed t (end_head row o)) (tail_of_end row t o)
        ∙ head_jobs t row o

pub found_there : (jobs : List JobRecord) (n : ℕ) (row : JobRecord) → find (λ (job : JobRecord). job.number == n) jobs ≡ Some row → Contains jobs row
found_there [] n row found = absurd cc
found_there (job ∷ jobs) n row found = by_test (job.number == n) (found_there jobs n row) found
  where
    by_test : (b : Bool) → (find (λ (j : JobRecord). j.number == n) jobs ≡ Some row → Contains jobs row)
        → cond b (Some job) (find (λ (j : JobRecord). j.number == n) jobs) ≡ Some row → Contains (job ∷ jobs) row
    by_test true ih k = let same : job ≡ row = cc in subst (Contains (job ∷ jobs)) same (Contains-here job jobs)
    by_test false ih k = Contains-there job jobs row (ih k)
