-- Where the start of each job stands in a history, and what it found.
use Rattle.std.proofs.Common.{◌≡◌, ◌≢◌, ℕ, ◌+◌, ◌<◌, ◌≤◌, Bool, true, false, cond, List, [], ◌∷◌, ◌++◌, refl, sym, ◌∙◌, ap, subst, arith, inl, inr, Option, Some, None}
use Rattle.std.specs.Prelude.{◌==◌, not, IsSome}
use Rattle.std.specs.List.{find, filter}
use Rattle.std.proofs.lemmas.Bool.{eqb-true, eq-eqb, ne_eqb, cases_eq}
use Rattle.std.proofs.lemmas.List.{append_assoc, append-nil}
use Rattle.qmp_codec.specs.Lines.{command_at}
use Rattle.blk_history.specs.declared.entry.JobEnd.{JobEnd}
use Rattle.blk_history.specs.declared.event.Event.{Event}
use Rattle.blk_history.specs.declared.event.Event.TheVariants.{Admit, Refuse, Piece, Retire, Reply, Reached, Start, Ready, End, Done}
use Rattle.blk_history.proofs.Folds.{run-push}
use Rattle.qmp_rules.specs.declared.rows.JobRecord.{JobRecord}
use Rattle.qmp_rules.specs.Ends.{ready_edits}
use Rattle.qmp_rules.specs.Table.{RunTable, job_at}
use Rattle.flat_machine.specs.Begun.{begun_of}
use Rattle.flat_machine.specs.Changed.{all_stepped}
use Rattle.flat_machine.specs.Jobs.{begin, changes_at_end, ended, noted_end, noted_start, outcome_of, readied_by, started, unleft}
use Rattle.flat_machine.specs.Legal.{Fits, Legal}
use Rattle.flat_machine.specs.Machine.{after, replay}
use Rattle.flat_machine.specs.Opening.{start}
use Rattle.flat_machine.specs.Replies.{edits_by, replied}
use Rattle.flat_machine.specs.State.{State, Begun}
use Rattle.flat_machine.specs.declared.opening.Opening.{Opening}
use Rattle.flat_machine.proofs.Finds.{find-filter}
use Rattle.flat_machine.proofs.Fresh.{found-new}
use Rattle.flat_machine.proofs.ImagesKept.{find_before}
use Rattle.flat_machine.proofs.JobCommands.{answer_fresh}
use Rattle.flat_machine.proofs.Resting.{stepped_table}
use Rattle.job_entries.proofs.Found.{steps_note}
use Rattle.job_entries.proofs.Noted.{started_table}
use Rattle.job_results.specs.Starts.{StartOf, EndsNext}
use Rattle.job_results.proofs.Entries.{StaysSo, entry_stays}
use Rattle.job_results.proofs.Rows.{AreEarly, KeepsRows, WasAt, changes_keep, end_gone, end_keeps, found_number, one_self, one_then, same_rows}

-- ---- what is known of a job that began

-- its start stands in the history, and what that found is noted
pub record Known (first : State) (h : List Event) (s : State) (number : ℕ) (row : JobRecord) : Type 0 where
  pub origin : StartOf first h number row
  pub noted : begun_of s.begun number ≡ Some (begin (replay first origin.before) origin.was)

-- So it is of each job of which the start is not still to come.
pub record Marked (first : State) (h : List Event) (s : State) : Type 0 where
  pub early : AreEarly s.table
  pub behind : s.starts ≤ s.table.started
  pub later : (n : ℕ) → s.starts ≤ n → begun_of s.begun n ≡ None
  pub each : (n : ℕ) (row : JobRecord) → job_at s.table n ≡ Some row → n < s.starts → Known first h s n row

module _ (first : State) (h : List Event) (e : Event) (s now : State) where
  -- one more entry
  known_on : (n : ℕ) (row : JobRecord) (w : WasAt s.table n row) → begun_of now.begun n ≡ begun_of s.begun n → Known first h s n w.was
      → Known first (h ++ e ∷ []) now n row
  known_on n row w same k = record {
    origin = record {
      before = k.origin.before;
      behind = k.origin.behind ++ e ∷ [];
      place = ap (λ (es : List Event). es ++ e ∷ []) k.origin.place ∙ append_assoc k.origin.before (Start n ∷ k.origin.behind) (e ∷ []);
      was = k.origin.was;
      found = k.origin.found;
      same = one_then k.origin.was w.was row k.origin.same w.same;
    };
    noted = same ∙ k.noted;
  }

  still : KeepsRows s.table now.table → now.begun ≡ s.begun → now.starts ≡ s.starts → Marked first h s → Marked first (h ++ e ∷ []) now
  still keeps begun starts m = record {
    early = keeps.early m.early;
    behind = (let more = keeps.started in let before = m.behind in omega (arith, starts));
    later = λ n late. ap (λ bs. begun_of bs n) begun ∙ m.later n (subst (λ k. k ≤ n) starts late);
    each = λ n row found small.
        let before : n < s.starts = subst (λ k. n < k) starts small in
        let few = m.behind in
        let w = keeps.rows n row found (omega (arith, before, few)) in
        known_on n row w (ap (λ bs. begun_of bs n) begun) (m.each n w.was w.found before);
  }

-- ---- a start

unleft_begun : (name : Option (List ℕ)) (s : State) → (unleft name s).begun ≡ s.begun
unleft_begun None s = refl
unleft_begun (Some name) s = refl

unleft_starts : (name : Option (List ℕ)) (s : State) → (unleft name s).starts ≡ s.starts
unleft_starts None s = refl
unleft_starts (Some name) s = refl

-- one more start is noted
one_more : (s : State) (row : JobRecord) → (started s (Some row)).starts ≡ s.starts + 1
one_more s row = unleft_starts _ (noted_start s row)

module _ (first : State) (h : List Event) (s : State) (here : replay first h ≡ s) (m : Marked first h s) (job : ℕ) (row : JobRecord)
    (at : job_at s.table job ≡ Some row) (turn : job ≡ s.starts) (less : s.starts < s.table.started) where
  begun_is : (started s (Some row)).begun ≡ s.begun ++ begin s row ∷ []
  begun_is = unleft_begun _ (noted_start s row)

  starts_is : (started s (Some row)).starts ≡ s.starts + 1
  starts_is = one_more s row

  table_is : (started s (Some row)).table ≡ s.table
  table_is = started_table s (Some row)

  own : Known first (h ++ Start job ∷ []) (started s (Some row)) job row
  own = record {
    origin = record {
      before = h;
      behind = [];
      place = refl;
      was = row;
      found = subst (λ (x : State). job_at x.table job ≡ Some row) (sym here) at;
      same = one_self row;
    };
    noted = ap (λ bs. begun_of bs job) begun_is
        ∙ found-new (λ (b : Begun). b.job == job) s.begun (begin s row) (m.later job (omega (arith, turn)))
        (eq-eqb row.number job (found_number s.table.jobs job row at))
        ∙ ap (λ (x : State). Some (begin x row)) (sym here);
  }

  noted_before : (n : ℕ) → job ≢ n → begun_of (started s (Some row)).begun n ≡ begun_of s.begun n
  noted_before n differ =
      ap (λ bs. begun_of bs n) begun_is
      ∙ find_before (λ (b : Begun). b.job == n) s.begun (begin s row)
      (ne_eqb row.number n (λ same. differ (sym (found_number s.table.jobs job row at) ∙ same)))

  pub started_marked : Marked first (h ++ Start job ∷ []) (started s (Some row))
  started_marked = record {
    early = subst AreEarly (sym table_is) m.early;
    behind = (let few : (started s (Some row)).table.started ≡ s.table.started = ap (λ (t : RunTable). t.started) table_is in omega (arith, few, starts_is, less));
    later = λ n late.
        let beyond : job ≢ n = omega (arith, late, starts_is, turn) in
        noted_before n beyond ∙ m.later n (omega (arith, late, starts_is));
    each = λ n r found small.
        let at_n : job_at s.table n ≡ Some r = subst (λ (t : RunTable). job_at t n ≡ Some r) table_is found in
        elim (cases_eq job n) [
          | inl same ↦ (
              let at_job : job_at s.table job ≡ Some r = subst (λ k. job_at s.table k ≡ Some r) (sym same) at_n in
              let both : row ≡ r = cc in
              subst (λ k. Known first (h ++ Start job ∷ []) (started s (Some row)) k r) same
              (subst (Known first (h ++ Start job ∷ []) (started s (Some row)) job) both own))
          | inr differ ↦
              known_on first h (Start job) s (started s (Some row)) n r (record { was = r; found = at_n; same = one_self r }) (noted_before n differ)
              (m.each n r at_n (omega (arith, small, starts_is, turn, differ)))
        ];
  }

-- ---- an end

none_fewer : (p q : Begun → Bool) (bs : List Begun) → find p bs ≡ None → find p (filter q bs) ≡ None
none_fewer p q [] none = refl
none_fewer p q (b ∷ bs) none = by_test (p b) (q b) refl none (none_fewer p q bs)
  where
    by_test : (x y : Bool) → p b ≡ x → cond x (Some b) (find p bs) ≡ None → (find p bs ≡ None → find p (filter q bs) ≡ None)
        → find p (cond y (b ∷ filter q bs) (filter q bs)) ≡ None
    by_test true y e k ih = absurd cc
    by_test false true e k ih = rw e (ih k)
    by_test false false e k ih = ih k

module _ (first : State) (h : List Event) (s : State) (m : Marked first h s) (e : Event) (row : JobRecord) (why : JobEnd) where
  ended_keeps : KeepsRows s.table (noted_end s row why).table
  ended_keeps =
      subst (KeepsRows s.table) (sym (stepped_table (changes_at_end s row why) s)) (end_keeps s.table row (outcome_of why))

  ended_gone : job_at (noted_end s row why).table row.number ≡ None
  ended_gone = ap (λ (t : RunTable). job_at t row.number) (stepped_table (changes_at_end s row why) s) ∙ end_gone s.table row (outcome_of why)

  ended_starts : (noted_end s row why).starts ≡ s.starts
  ended_starts = (steps_note (changes_at_end s row why) s).starts

  noted_still : (n : ℕ) → n ≢ row.number → begun_of (noted_end s row why).begun n ≡ begun_of s.begun n
  noted_still n differs =
      find-filter (λ (b : Begun). b.job == n) (λ (b : Begun). not (b.job == row.number))
      (λ b is. ap not (ne_eqb b.job row.number (λ same. differs (sym (eqb-true b.job n is) ∙ same)))) s.begun

  pub ended_marked : Marked first (h ++ e ∷ []) (noted_end s row why)
  ended_marked = record {
    early = ended_keeps.early m.early;
    behind = (let more = ended_keeps.started in let before = m.behind in omega (arith, ended_starts));
    later = λ n late.
        none_fewer (λ b. b.job == n) (λ b. not (b.job == row.number)) s.begun (m.later n (subst (λ k. k ≤ n) ended_starts late));
    each = λ n r found small.
        let before : n < s.starts = subst (λ k. n < k) ended_starts small in
        let few = m.behind in
        let w = ended_keeps.rows n r found (omega (arith, before, few)) in
        let differs : n ≢ row.number = λ same.
        (let some : job_at (noted_end s row why).table row.number ≡ Some r = subst (λ k. job_at (noted_end s row why).table k ≡ Some r) same found in
        let none = ended_gone in
        cc) in
        known_on first h e s (noted_end s row why) n r w (noted_still n differs) (m.each n w.was w.found before);
  }

-- ---- each entry

module _ (first : State) (h : List Event) (s : State) (here : replay first h ≡ s) (m : Marked first h s) where
  other : (e : Event) → StaysSo s (after s e) → Marked first (h ++ e ∷ []) (after s e)
  other e b = still first h e s (after s e) (same_rows s.table (after s e).table b.jobs b.started) b.begun b.starts m

  by_start : (job : ℕ) (found : Option JobRecord) → job_at s.table job ≡ found → IsSome found → job ≡ s.starts → s.starts < s.table.started
      → Marked first (h ++ Start job ∷ []) (started s found)
  by_start job None at some turn less = absurd cc
  by_start job (Some row) at some turn less = started_marked first h s here m job row at turn less

  by_ready : (e : Event) (found : Option JobRecord) → Marked first (h ++ e ∷ []) (readied_by s found)
  by_ready e None = still first h e s s (same_rows s.table s.table refl refl) refl refl m
  by_ready e (Some row) =
      let n = steps_note (ready_edits row) s in
      still first h e s (all_stepped s (ready_edits row)) (changes_keep (ready_edits row) s.table (tt, tt)) n.begun n.starts m

  by_end : (e : Event) (found : Option JobRecord) (why : JobEnd) → Marked first (h ++ e ∷ []) (ended s found why)
  by_end e None why = still first h e s s (same_rows s.table s.table refl refl) refl refl m
  by_end e (Some row) why = ended_marked first h s m e row why

  pub entry_marked : (e : Event) → Fits s e → Marked first (h ++ e ∷ []) (after s e)
  entry_marked (Admit g r op) fits = other (Admit g r op) (entry_stays s (Admit g r op) refl)
  entry_marked (Refuse g r op why) fits = other (Refuse g r op why) (entry_stays s (Refuse g r op why) refl)
  entry_marked (Piece g r k outcome got) fits = other (Piece g r k outcome got) (entry_stays s (Piece g r k outcome got) refl)
  entry_marked (Retire g r) fits = other (Retire g r) (entry_stays s (Retire g r) refl)
  entry_marked (Reply line given command text) fits =
      let changes = edits_by s text (command_at given) in
      let n = steps_note changes s in
      still first h (Reply line given command text) s (replied s given text)
      (subst (KeepsRows s.table) (sym (stepped_table changes s)) (changes_keep changes s.table (answer_fresh s given command text fits.1.1))) n.begun n.starts m
  entry_marked (Reached line what) fits = other (Reached line what) (entry_stays s (Reached line what) refl)
  entry_marked (Start job) fits = by_start job (job_at s.table job) refl fits.1 fits.0.0 fits.0.1
  entry_marked (Ready job) fits = by_ready (Ready job) (job_at s.table job)
  entry_marked (End job outcome offset) fits = by_end (End job outcome offset) (job_at s.table job) outcome
  entry_marked (Done actor) fits = other (Done actor) (entry_stays s (Done actor) refl)

-- ---- histories

marked_on : (first : State) (es past : List Event) (s : State) → replay first past ≡ s → Marked first past s → Legal s es
    → Marked first (past ++ es) (replay s es)
marked_on first [] past s here m legal = subst (λ h. Marked first h s) (sym (append-nil past)) m
marked_on first (e ∷ es) past s here m legal =
    subst (λ h. Marked first h (replay (after s e) es)) (append_assoc past (e ∷ []) es)
    (marked_on first es (past ++ e ∷ []) (after s e) (run-push after first past e ∙ ap (λ x. after x e) here)
    (entry_marked first past s here m e legal.0) legal.1)

opening_marked : (o : Opening) → Marked (start o) [] (start o)
opening_marked o = record {
  early = λ n row found. absurd cc;
  behind = omega arith;
  later = λ n late. refl;
  each = λ n row found small. absurd cc;
}

pub history_marked : (o : Opening) (h : List Event) → Legal (start o) h → Marked (start o) h (replay (start o) h)
history_marked o h legal = marked_on (start o) h [] (start o) refl (opening_marked o) legal

-- the start of a job that is to end stands in the history
pub end_known : (o : Opening) (h : List Event) (number : ℕ) (row : JobRecord) (why : JobEnd) (offset : ℕ) → EndsNext o h number row why offset
    → Known (start o) h (replay (start o) h) number row
end_known o h number row why offset ends =
    let m = history_marked o h ends.legal in
    m.each number row ends.found
    (subst (λ n. number < n) (sym ends.fits.0.0) (m.early number row ends.found))

-- ---- a start stands in a history once

starts_rise : (s : State) (e : Event) → Fits s e → s.starts ≤ (after s e).starts
starts_rise s e fits = by_event e fits
  where
    by_start : (job : ℕ) (found : Option JobRecord) → s.starts ≤ (started s found).starts
    by_start job None = omega arith
    by_start job (Some row) = (let more = one_more s row in omega (arith, more))

    by_ready : (found : Option JobRecord) → s.starts ≤ (readied_by s found).starts
    by_ready None = omega arith
    by_ready (Some row) = (let same = (steps_note (ready_edits row) s).starts in omega (arith, same))

    by_end : (found : Option JobRecord) (why : JobEnd) → s.starts ≤ (ended s found why).starts
    by_end None why = omega arith
    by_end (Some row) why = (let same = (steps_note (changes_at_end s row why) s).starts in omega (arith, same))

    other : (x : Event) → StaysSo s (after s x) → s.starts ≤ (after s x).starts
    other x b = (let same = b.starts in omega (arith, same))

    by_event : (x : Event) → Fits s x → s.starts ≤ (after s x).starts
    by_event (Admit g r op) f = other (Admit g r op) (entry_stays s (Admit g r op) refl)
    by_event (Refuse g r op why) f = other (Refuse g r op why) (entry_stays s (Refuse g r op why) refl)
    by_event (Piece g r k outcome got) f = other (Piece g r k outcome got) (entry_stays s (Piece g r k outcome got) refl)
    by_event (Retire g r) f = other (Retire g r) (entry_stays s (Retire g r) refl)
    by_event (Reply line given command text) f = (let same = (steps_note (edits_by s text (command_at given)) s).starts in omega (arith, same))
    by_event (Reached line what) f = other (Reached line what) (entry_stays s (Reached line what) refl)
    by_event (Start job) f = by_start job (job_at s.table job)
    by_event (Ready job) f = by_ready (job_at s.table job)
    by_event (End job outcome offset) f = by_end (job_at s.table job) outcome
    by_event (Done actor) f = other (Done actor) (entry_stays s (Done actor) refl)

-- no start of an earlier number comes
none_again : (es rest : List Event) (s : State) (n : ℕ) → n < s.starts → Legal s (es ++ Start n ∷ rest) → ⊥
none_again [] rest s n less legal = (let turn = legal.0.0.0 in omega (arith, turn))
none_again (e ∷ es) rest s n less legal =
    none_again es rest (after s e) n (let rise = starts_rise s e legal.0 in omega (arith, rise)) legal.1

start_raises : (s : State) (n : ℕ) → Fits s (Start n) → n < (after s (Start n)).starts
start_raises s n fits = by_row (job_at s.table n) fits.1
  where
    by_row : (found : Option JobRecord) → IsSome found → n < (started s found).starts
    by_row None some = absurd cc
    by_row (Some row) some = (let turn = fits.0.0 in let more = one_more s row in omega (arith, turn, more))

pub one_place : (a b c d : List Event) (s : State) (n : ℕ) → Legal s (a ++ Start n ∷ b) → a ++ Start n ∷ b ≡ c ++ Start n ∷ d → a ≡ c
one_place [] b [] d s n legal same = refl
one_place [] b (x ∷ c) d s n legal same =
    let first : Start n ≡ x = cc in
    let rest : b ≡ c ++ Start n ∷ d = cc in
    absurd (none_again c d (after s (Start n)) n (start_raises s n legal.0) (subst (Legal (after s (Start n))) rest legal.1))
one_place (x ∷ a) b [] d s n legal same =
    let first : x ≡ Start n = cc in
    let at : Fits s (Start n) = subst (Fits s) first legal.0 in
    absurd (none_again a b (after s (Start n)) n (start_raises s n at) (subst (λ (e : Event). Legal (after s e) (a ++ Start n ∷ b)) first legal.1))
one_place (x ∷ a) b (y ∷ c) d s n legal same =
    let first : x ≡ y = cc in
    let rest : a ++ Start n ∷ b ≡ c ++ Start n ∷ d = cc in
    let front : a ≡ c = one_place a b c d (after s x) n legal.1 rest in
    cc
