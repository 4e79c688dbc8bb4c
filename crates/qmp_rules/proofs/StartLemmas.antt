-- Lists of changes, one row at a time, and the lowest slot that no job has.
use Rattle.std.proofs.Common.{◌≡◌, ℕ, zero, suc, ◌+◌, ◌-◌, ◌<◌, List, [], ◌∷◌, ◌++◌, map, Bool, true, false, cond, refl, sym, ap, ◌∙◌, arith, eq-eqb, inl, inr}
use Rattle.std.specs.Prelude.{◌==◌, nat_eq, filter, ◌||◌}
use Rattle.std.specs.List.{list_any}
use Rattle.std.proofs.lemmas.Bool.{ne_eqb, cases_order}
use Rattle.blk_graph.specs.Ids.{lowest_from, lowest_free}
use Rattle.qmp_rules.specs.declared.rows.JobRecord.{JobRecord}

-- ---- what is kept of a list

pub kept_step : {A B : Type 0} (p : A → Bool) (f : A → B) (x : A) (rest : List A)
    → map f (filter p (x ∷ [])) ++ map f (filter p rest) ≡ map f (filter p (x ∷ rest))
kept_step p f x rest = elim (p x)
    as (λ b. map f (cond b (x ∷ []) []) ++ map f (filter p rest) ≡ map f (cond b (x ∷ filter p rest) (filter p rest))) [
      | true ↦ refl
      | false ↦ refl
    ]

-- ---- slots

abbrev pub slots_of : List JobRecord → List ℕ
slots_of jobs = map (λ job. job.slot) jobs

same_number : (a b : ℕ) → nat_eq a b ≡ (b == a)
same_number a b = elim (cases_order a b) [
  | inl same ↦ eq-eqb a b same ∙ sym (eq-eqb b a (sym same))
  | inr differs ↦ elim differs [
    | inl less ↦ ne_eqb a b (λ e. omega (arith, less, e)) ∙ sym (ne_eqb b a (λ e. omega (arith, less, e)))
    | inr more ↦ ne_eqb a b (λ e. omega (arith, more, e)) ∙ sym (ne_eqb b a (λ e. omega (arith, more, e)))
  ]
]

pub same_slots : (k : ℕ) (jobs : List JobRecord) → list_any (nat_eq k) (slots_of jobs) ≡ list_any (λ job. job.slot == k) jobs
same_slots k [] = refl
same_slots k (job ∷ jobs) = rw (same_number k job.slot, same_slots k jobs) refl

pub slot_start : (jobs : List JobRecord) → lowest_from (64 - 0) 0 (slots_of jobs) ≡ lowest_free (slots_of jobs)
unfolding lowest_free
slot_start jobs = refl

free_at : (n k : ℕ) (taken : List ℕ) → list_any (nat_eq k) taken ≡ false → lowest_from n k taken ≡ k
free_at zero k taken h = refl
free_at (suc n) k taken h = ap (λ b. cond b (lowest_from n (k + 1) taken) k) h

pub slot_free : (k : ℕ) (jobs : List JobRecord) → list_any (λ job. job.slot == k) jobs ≡ false
    → lowest_from (64 - k) k (slots_of jobs) ≡ k
slot_free k jobs h = free_at (64 - k) k (slots_of jobs) (same_slots k jobs ∙ h)

taken_at : (n k : ℕ) (taken : List ℕ) → list_any (nat_eq k) taken ≡ true
    → lowest_from (suc n) k taken ≡ lowest_from n (k + 1) taken
taken_at n k taken h = ap (λ b. cond b (lowest_from n (k + 1) taken) k) h

pub slot_taken : (k : ℕ) (jobs : List JobRecord) → k < 64 → list_any (λ job. job.slot == k) jobs ≡ true
    → lowest_from (64 - k) k (slots_of jobs) ≡ lowest_from (64 - (k + 1)) (k + 1) (slots_of jobs)
slot_taken k jobs less h =
    let one : 64 - k ≡ suc (64 - (k + 1)) = omega arith in
    ap (λ n. lowest_from n k (slots_of jobs)) one ∙ taken_at (64 - (k + 1)) k (slots_of jobs) (same_slots k jobs ∙ h)
