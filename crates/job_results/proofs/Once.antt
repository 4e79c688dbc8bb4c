-- A job ends once in a history: its number is no other's behind its end.
use Rattle.std.proofs.Common.{◌≡◌, ℕ, ◌<◌, List, [], ◌∷◌, ◌++◌, refl, sym, ◌∙◌, ap, subst, arith, Option, Some, None}
use Rattle.qmp_codec.specs.Lines.{command_at}
use Rattle.blk_history.specs.Fold.{With}
use Rattle.blk_history.specs.declared.entry.JobEnd.{JobEnd}
use Rattle.blk_history.specs.declared.event.Event.{Event}
use Rattle.blk_history.specs.declared.event.Event.TheVariants.{Admit, Refuse, Piece, Retire, Reply, Reached, Start, Ready, End, Done}
use Rattle.qmp_rules.specs.declared.rows.JobRecord.{JobRecord}
use Rattle.qmp_rules.specs.Ends.{ready_edits}
use Rattle.qmp_rules.specs.Table.{RunTable, job_at}
use Rattle.flat_machine.specs.Jobs.{changes_at_end, ended, noted_end, outcome_of, readied_by}
use Rattle.flat_machine.specs.Legal.{CanEnd, Fits, Legal}
use Rattle.flat_machine.specs.Machine.{after, replay}
use Rattle.flat_machine.specs.Opening.{start}
use Rattle.flat_machine.specs.Replies.{edits_by}
use Rattle.flat_machine.specs.State.{State}
use Rattle.flat_machine.specs.declared.opening.Opening.{Opening}
use Rattle.flat_machine.proofs.JobCommands.{answer_fresh}
use Rattle.flat_machine.proofs.Resting.{stepped_table}
use Rattle.job_entries.proofs.Noted.{started_table}
use Rattle.job_results.specs.Finished.{EndIn}
use Rattle.job_results.proofs.Entries.{StaysSo, entry_stays}
use Rattle.job_results.proofs.Results.{each_parts}
use Rattle.job_results.proofs.Rows.{AreEarly, KeepsRows, changes_keep, end_gone, end_keeps, found_number, same_rows}

-- ---- each entry keeps the rows of jobs, but for one that ends

module _ (s : State) where
  keeps_self : KeepsRows s.table s.table
  keeps_self = same_rows s.table s.table refl refl

  by_stay : (e : Event) → StaysSo s (after s e) → KeepsRows s.table (after s e).table
  by_stay e b = same_rows s.table (after s e).table b.jobs b.started

  by_ready : (found : Option JobRecord) → KeepsRows s.table (readied_by s found).table
  by_ready None = keeps_self
  by_ready (Some row) = subst (KeepsRows s.table) (sym (stepped_table (ready_edits row) s)) (changes_keep (ready_edits row) s.table (tt, tt))

  by_end : (found : Option JobRecord) (why : JobEnd) → KeepsRows s.table (ended s found why).table
  by_end None why = keeps_self
  by_end (Some row) why = subst (KeepsRows s.table) (sym (stepped_table (changes_at_end s row why) s)) (end_keeps s.table row (outcome_of why))

  entry_keeps : (e : Event) → Fits s e → KeepsRows s.table (after s e).table
  entry_keeps (Admit g r op) fits = by_stay (Admit g r op) (entry_stays s (Admit g r op) refl)
  entry_keeps (Refuse g r op why) fits = by_stay (Refuse g r op why) (entry_stays s (Refuse g r op why) refl)
  entry_keeps (Piece g r k outcome got) fits = by_stay (Piece g r k outcome got) (entry_stays s (Piece g r k outcome got) refl)
  entry_keeps (Retire g r) fits = by_stay (Retire g r) (entry_stays s (Retire g r) refl)
  entry_keeps (Reply line given command text) fits =
      let changes = edits_by s text (command_at given) in
      subst (KeepsRows s.table) (sym (stepped_table changes s)) (changes_keep changes s.table (answer_fresh s given command text fits.1.1))
  entry_keeps (Reached line what) fits = by_stay (Reached line what) (entry_stays s (Reached line what) refl)
  entry_keeps (Start job) fits = subst (KeepsRows s.table) (sym (started_table s (job_at s.table job))) keeps_self
  entry_keeps (Ready job) fits = by_ready (job_at s.table job)
  entry_keeps (End job outcome offset) fits = by_end (job_at s.table job) outcome
  entry_keeps (Done actor) fits = by_stay (Done actor) (entry_stays s (Done actor) refl)

-- ---- a number that is gone

none_still : (t now : RunTable) (n : ℕ) → KeepsRows t now → job_at t n ≡ None → n < t.started → job_at now n ≡ None
none_still t now n keeps none less = by_row (job_at now n) refl
  where
    by_row : (found : Option JobRecord) → job_at now n ≡ found → job_at now n ≡ None
    by_row None at = at
    by_row (Some row) at = let w = keeps.rows n row at less in let was = w.found in absurd cc

gone_on : (es : List Event) (s : State) (n : ℕ) → job_at s.table n ≡ None → n < s.table.started → Legal s es → job_at (replay s es).table n ≡ None
gone_on [] s n none less legal = none
gone_on (e ∷ es) s n none less legal =
    let keeps = entry_keeps s e legal.0 in
    gone_on es (after s e) n (none_still s.table (after s e).table n keeps none less) (let more = keeps.started in omega (arith, less)) legal.1

-- behind its end, whatever comes, it doesn't end again
none_ends : (es rest : List Event) (s : State) (n : ℕ) (why : JobEnd) (offset : ℕ) → job_at s.table n ≡ None → n < s.table.started
    → Legal s (es ++ End n why offset ∷ rest) → ⊥
none_ends es rest s n why offset none less legal =
    let parts = each_parts Fits es (End n why offset ∷ rest) s legal in
    subst (λ row. With row (CanEnd (replay s es) why offset)) (gone_on es s n none less parts.0) parts.1.0.1

ended_number : (s : State) (n : ℕ) (why : JobEnd) (offset : ℕ) → AreEarly s.table → Fits s (End n why offset)
    → (job_at (after s (End n why offset)).table n ≡ None) × (n < (after s (End n why offset)).table.started)
ended_number s n why offset early fits = by_row (job_at s.table n) refl fits.1
  where
    by_row : (found : Option JobRecord) → job_at s.table n ≡ found → With found (CanEnd s why offset)
        → (job_at (ended s found why).table n ≡ None) × (n < (ended s found why).table.started)
    by_row None at can = absurd can
    by_row (Some row) at can = (
      subst (λ m. job_at (noted_end s row why).table m ≡ None) (found_number s.table.jobs n row at)
          (ap (λ (t : RunTable). job_at t row.number) (stepped_table (changes_at_end s row why) s) ∙ end_gone s.table row (outcome_of why)),
      (let less = early n row at in let more = (by_end s (Some row) why).started in omega (arith, less, more)),
    )

one_end : (a b c d : List Event) (s : State) (n : ℕ) (why other : JobEnd) (offset at : ℕ) → AreEarly s.table → Legal s (a ++ End n why offset ∷ b)
    → a ++ End n why offset ∷ b ≡ c ++ End n other at ∷ d → a ≡ c
one_end [] b [] d s n why other offset at early legal same = refl
one_end [] b (x ∷ c) d s n why other offset at early legal same =
    let rest : b ≡ c ++ End n other at ∷ d = cc in
    let gone = ended_number s n why offset early legal.0 in
    absurd (none_ends c d (after s (End n why offset)) n other at gone.0 gone.1 (subst (Legal (after s (End n why offset))) rest legal.1))
one_end (x ∷ a) b [] d s n why other offset at early legal same =
    let first : x ≡ End n other at = cc in
    let gone = ended_number s n other at early (subst (Fits s) first legal.0) in
    absurd (none_ends a b (after s (End n other at)) n why offset gone.0 gone.1 (subst (λ (e : Event). Legal (after s e) (a ++ End n why offset ∷ b)) first legal.1))
one_end (x ∷ a) b (y ∷ c) d s n why other offset at early legal same =
    let first : x ≡ y = cc in
    let rest : a ++ End n why offset ∷ b ≡ c ++ End n other at ∷ d = cc in
    let front : a ≡ c = one_end a b c d (after s x) n why other offset at ((entry_keeps s x legal.0).early early) legal.1 rest in
    cc

pub ends_once : (o : Opening) (h : List Event) (e f : EndIn o h) → Legal (start o) h → e.number ≡ f.number → e.before ≡ f.before
ends_once o h e f legal same =
    one_end e.before e.behind f.before f.behind (start o) e.number e.why f.why e.offset f.offset (λ n row found. absurd cc)
    (subst (Legal (start o)) e.place legal)
    (sym e.place ∙ f.place ∙ ap (λ n. f.before ++ End n f.why f.offset ∷ f.behind) (sym same))
