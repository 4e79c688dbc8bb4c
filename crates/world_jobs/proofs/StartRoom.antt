-- Where a backup or a mirror is accepted there are fewer works than may be, and room for its entries.
use Rattle.std.proofs.Common.{◌≡◌, ◌≢◌, ◌⊎◌, ℕ, suc, ◌+◌, ◌<◌, ◌≤◌, ◌==◌, Bool, true, false, cond, not, List, [], ◌∷◌, ◌++◌, length, None, refl, sym, ◌∙◌, ap, arith, inl, inr}
use Rattle.std.specs.Prelude.{Contains, filter}
use Rattle.std.proofs.lemmas.Bool.{eq-eqb, leb-false, ne_eqb}
use Rattle.blk_graph.proofs.Members.{Contains-cases, Contains-here, Contains-nil, Contains-there}
use Rattle.block_jobs.specs.Work.{JobWork}
use Rattle.flat_machine.proofs.Asked.{not-refused}
use Rattle.job_commands.specs.Begun.{CopyCmd, cmd_of}
use Rattle.job_progress.specs.Belonging.{AreWorksOf}
use Rattle.job_progress.proofs.Belong.{AreOnce, once_of}
use Rattle.job_tables.proofs.StartCommands.{accepted_met}
use Rattle.qmp_asks.specs.declared.ask.Ask.TheVariants as ask
use Rattle.qmp_rules.specs.Answers.{refusal_to, told_none}
use Rattle.qmp_rules.specs.Asks.{holds}
use Rattle.qmp_rules.specs.Changes.{without_job}
use Rattle.qmp_rules.specs.Table.{RunTable}
use Rattle.qmp_rules.specs.declared.rows.JobRecord.{JobRecord}
use Rattle.world_goings.proofs.CopyStarts.{copy_asked}
use Rattle.world_parts.specs.Coherent.{IsWholeWorld, entries_owed, entries_owed_by}
use Rattle.world_parts.specs.Face.{WorldSeen}

-- ---- as many works as jobs at most

abbrev is_other : ℕ → JobRecord → Bool
is_other number job = not (job.number == number)

kept : (p : JobRecord → Bool) (xs : List JobRecord) (x : JobRecord) → Contains xs x → p x ≡ true → Contains (filter p xs) x
kept p [] x h passes = absurd (Contains-nil x h)
kept p (y ∷ xs) x h passes = by_test (p y) refl (λ there. kept p xs x there passes) (Contains-cases y xs x h)
  where
    by_test : (b : Bool) → p y ≡ b → (Contains xs x → Contains (filter p xs) x) → (x ≡ y) ⊎ Contains xs x → Contains (cond b (y ∷ filter p xs) (filter p xs)) x
    by_test true e ih (inl here) = rw here (Contains-here y (filter p xs))
    by_test true e ih (inr there) = Contains-there y (filter p xs) x (ih there)
    by_test false e ih (inl here) = absurd (let is : p x ≡ false = ap p here ∙ e in cc)
    by_test false e ih (inr there) = ih there

no_more : (p : JobRecord → Bool) (xs : List JobRecord) → length (filter p xs) ≤ length xs
no_more p [] = omega arith
no_more p (x ∷ xs) = by_test (p x) (no_more p xs)
  where
    by_test : (b : Bool) → length (filter p xs) ≤ length xs → length (cond b (x ∷ filter p xs) (filter p xs)) ≤ suc (length xs)
    by_test true rest = omega (arith, rest)
    by_test false rest = omega (arith, rest)

fewer : (p : JobRecord → Bool) (xs : List JobRecord) (x : JobRecord) → Contains xs x → p x ≡ false → suc (length (filter p xs)) ≤ length xs
fewer p [] x h fails = absurd (Contains-nil x h)
fewer p (y ∷ xs) x h fails = by_test (p y) refl (λ there. fewer p xs x there fails) (no_more p xs) (Contains-cases y xs x h)
  where
    by_test : (b : Bool) → p y ≡ b → (Contains xs x → suc (length (filter p xs)) ≤ length xs) → length (filter p xs) ≤ length xs → (x ≡ y) ⊎ Contains xs x
        → suc (length (cond b (y ∷ filter p xs) (filter p xs))) ≤ suc (length xs)
    by_test true e ih all (inl here) = absurd (let is : p x ≡ true = ap p here ∙ e in cc)
    by_test true e ih all (inr there) = let rest = ih there in omega (arith, rest)
    by_test false e ih all found = omega (arith, all)

abbrev IsOwned : List JobRecord → JobWork → Type 0
IsOwned jobs work = (row : JobRecord) × Contains jobs row × (row.number ≡ work.job)

works_fit : (works : List JobWork) (jobs : List JobRecord) → AreOnce works → ((work : JobWork) → Contains works work → IsOwned jobs work) → length works ≤ length jobs
works_fit [] jobs once owned = omega arith
works_fit (work ∷ works) jobs once owned =
    let own = owned work (Contains-here work works) in
    let rest = works_fit works (filter (is_other work.job) jobs) once.1 others in
    let less = fewer (is_other work.job) jobs own.0 own.1 (ap not (eq-eqb own.0.number work.job own.2)) in
    omega (arith, rest, less)
  where
    others : (other : JobWork) → Contains works other → IsOwned (filter (is_other work.job) jobs) other
    others other there =
        let of = owned other (Contains-there work works other there) in
        (of.0, kept (is_other work.job) jobs of.0 of.1 (ap not (ne_eqb of.0.number work.job (λ same. once.0 other there (sym same ∙ of.2)))), of.2)

-- ---- two entries a job at most

one_owes : (row : JobRecord) (ready : Bool) → (cond ready 1 2) ≤ 2
one_owes row true = omega arith
one_owes row false = omega arith

few_owed : (rows : List JobRecord) → entries_owed_by rows ≤ length rows + length rows
few_owed [] = omega arith
few_owed (row ∷ rows) =
    let rest = few_owed rows in
    let one : entries_owed row ≤ 2 = one_owes row row.is_ready in
    omega (arith, rest, one)

-- ---- the world

module _ (w : WorldSeen) (c : CopyCmd) (whole : IsWholeWorld w) (none : refusal_to w.table told_none (cmd_of c) ≡ None) where
  by_ask : holds w.table told_none ask.RoomForJob ≡ None → length w.table.jobs < 16
  unfolding holds
  by_ask h = leb-false 16 (length w.table.jobs) (not-refused _ _ h)

  few_jobs : length w.table.jobs < 16
  few_jobs = by_ask (copy_asked w.table told_none c (accepted_met w.table told_none (cmd_of c) none).1).jobs

  pub few_works : length w.works < 16
  few_works =
      let fit = works_fit w.works w.table.jobs (once_of w.works whole.jobs.belong.once)
      (λ work there. let of = whole.jobs.belong.owned work there in (of.row, of.there, of.number)) in
      omega (arith, fit, few_jobs)

  pub few_aside : w.progress.aside ≤ 30
  few_aside = let owed = few_owed w.table.jobs in let room = whole.jobs.room in omega (arith, owed, room, few_jobs)
