-- The jobs of a table have names: no two have one id or one number. Which changes leave that so.
use Rattle.std.proofs.Common.{◌≡◌, ◌≢◌, ℕ, ◌+◌, ◌<◌, ◌≤◌, Bool, true, false, cond, List, [], ◌∷◌, ◌++◌, map, length, refl, sym, ap, subst, ◌∙◌, arith, Some, None}
use Rattle.std.specs.Prelude.{◌==◌, not, bytes_eq, get_or}
use Rattle.std.specs.List.{find, filter}
use Rattle.std.proofs.lemmas.Bool.{eqb-true, eqb-false}
use Rattle.std.proofs.lemmas.List.{length-append, get_or_append_left, get_or_push}
use Rattle.qmp_rules.specs.declared.change.Change.{Change}
use Rattle.qmp_rules.specs.declared.change.Change.TheVariants as change
use Rattle.qmp_rules.specs.declared.rows.JobRecord.{JobRecord}
use Rattle.qmp_rules.specs.Changes.{changed, all_changed, followed, asked_for, ready_for}
use Rattle.qmp_rules.specs.Table.{RunTable, job_named}
use Rattle.blk_history.specs.Names.{JobLine, no_job}
use Rattle.blk_history.proofs.Lines.{IsWord}
use Rattle.flat_machine.proofs.Finds.{name_differs}

-- ---- rows apart

-- another id, and another number
abbrev pub Differs : JobRecord → JobRecord → Type 0
Differs a b = (a.id ≢ b.id) × (a.number ≢ b.number)

abbrev pub DiffersFromAll : JobRecord → List JobRecord → Type 0
DiffersFromAll row [] = Unit {0}
DiffersFromAll row (other ∷ rows) = Differs row other × DiffersFromAll row rows

-- of each that holds, and no two have one id or one number
abbrev pub AllDiffer : (JobRecord → Type 0) → List JobRecord → Type 0
AllDiffer P [] = Unit {0}
AllDiffer P (row ∷ rows) = P row × DiffersFromAll row rows × AllDiffer P rows

differ-back : (a b : JobRecord) → Differs a b → Differs b a
differ-back a b h = (λ e. h.0 (sym e), λ e. h.1 (sym e))

-- a change of rows that leaves ids and numbers
record KeepsNames (f : JobRecord → JobRecord) : Type 0 where
  id : (row : JobRecord) → (f row).id ≡ row.id
  number : (row : JobRecord) → (f row).number ≡ row.number

differs-mapped : (f : JobRecord → JobRecord) → KeepsNames f → (row : JobRecord) (rows : List JobRecord) → DiffersFromAll row rows → DiffersFromAll (f row) (map f rows)
differs-mapped f k row [] h = tt
differs-mapped f k row (other ∷ rows) h =
    ((λ e. h.0.0 (sym (k.id row) ∙ e ∙ k.id other), λ e. h.0.1 (sym (k.number row) ∙ e ∙ k.number other)), differs-mapped f k row rows h.1)

all-mapped : (f : JobRecord → JobRecord) (P : JobRecord → Type 0) → KeepsNames f → ((row : JobRecord) → P row → P (f row)) → (rows : List JobRecord)
    → AllDiffer P rows → AllDiffer P (map f rows)
all-mapped f P k keeps [] h = tt
all-mapped f P k keeps (row ∷ rows) h = (keeps row h.0, differs-mapped f k row rows h.1, all-mapped f P k keeps rows h.2)

differs-left : (p : JobRecord → Bool) (row : JobRecord) (rows : List JobRecord) → DiffersFromAll row rows → DiffersFromAll row (filter p rows)
differs-left p row [] h = tt
differs-left p row (other ∷ rows) h = by_test (p other) (differs-left p row rows h.1)
  where
    by_test : (b : Bool) → DiffersFromAll row (filter p rows) → DiffersFromAll row (cond b (other ∷ filter p rows) (filter p rows))
    by_test true rest = (h.0, rest)
    by_test false rest = rest

all-left : (p : JobRecord → Bool) (P : JobRecord → Type 0) (rows : List JobRecord) → AllDiffer P rows → AllDiffer P (filter p rows)
all-left p P [] h = tt
all-left p P (row ∷ rows) h = by_test (p row) (all-left p P rows h.2)
  where
    by_test : (b : Bool) → AllDiffer P (filter p rows) → AllDiffer P (cond b (row ∷ filter p rows) (filter p rows))
    by_test true rest = (h.0, differs-left p row rows h.1, rest)
    by_test false rest = rest

differs-pushed : (row last : JobRecord) (rows : List JobRecord) → DiffersFromAll row rows → Differs row last → DiffersFromAll row (rows ++ last ∷ [])
differs-pushed row last [] h d = (d, tt)
differs-pushed row last (other ∷ rows) h d = (h.0, differs-pushed row last rows h.1 d)

-- ---- rows by number

found-differs : (row : JobRecord) (rows : List JobRecord) (n : ℕ) (b : JobRecord) → DiffersFromAll row rows → find (λ job. job.number == n) rows ≡ Some b
    → Differs row b
found-differs row [] n b h e = absurd cc
found-differs row (other ∷ rows) n b h e = by_test (other.number == n) (found-differs row rows n b h.1) e
  where
    by_test : (x : Bool) → (find (λ job. job.number == n) rows ≡ Some b → Differs row b)
        → cond x (Some other) (find (λ job. job.number == n) rows) ≡ Some b → Differs row b
    by_test true rest k = let same : other ≡ b = cc in subst (Differs row) same h.0
    by_test false rest k = rest k

-- what holds of each holds of the one that is found
pub found-has : (P : JobRecord → Type 0) (rows : List JobRecord) (n : ℕ) (row : JobRecord) → AllDiffer P rows
    → find (λ job. job.number == n) rows ≡ Some row → P row × (row.number ≡ n)
found-has P [] n row h e = absurd cc
found-has P (other ∷ rows) n row h e = by_test (other.number == n) refl (found-has P rows n row h.2) e
  where
    by_test : (x : Bool) → (other.number == n) ≡ x → (find (λ job. job.number == n) rows ≡ Some row → P row × (row.number ≡ n))
        → cond x (Some other) (find (λ job. job.number == n) rows) ≡ Some row → P row × (row.number ≡ n)
    by_test true is rest k = let same : other ≡ row = cc in subst (λ r. P r × (r.number ≡ n)) same (h.0, eqb-true other.number n is)
    by_test false is rest k = rest k

-- an id is that of one number
pub one-number : (P : JobRecord → Type 0) (rows : List JobRecord) (m n : ℕ) (a b : JobRecord) → AllDiffer P rows
    → find (λ job. job.number == m) rows ≡ Some a → find (λ job. job.number == n) rows ≡ Some b → a.id ≡ b.id → m ≡ n
one-number P [] m n a b h is_a is_b same = absurd cc
one-number P (row ∷ rows) m n a b h is_a is_b same =
    by_tests (row.number == m) refl (row.number == n) refl (λ i j. one-number P rows m n a b h.2 i j same) is_a is_b
  where
    by_tests : (x : Bool) → (row.number == m) ≡ x → (y : Bool) → (row.number == n) ≡ y
        → (find (λ job. job.number == m) rows ≡ Some a → find (λ job. job.number == n) rows ≡ Some b → m ≡ n)
        → cond x (Some row) (find (λ job. job.number == m) rows) ≡ Some a → cond y (Some row) (find (λ job. job.number == n) rows) ≡ Some b → m ≡ n
    by_tests true at_m true at_n rest i j = sym (eqb-true row.number m at_m) ∙ eqb-true row.number n at_n
    by_tests true at_m false at_n rest i j =
        let here : row ≡ a = cc in
        absurd ((found-differs row rows n b h.1 j).0 (ap (λ r. r.id) here ∙ same))
    by_tests false at_m true at_n rest i j =
        let here : row ≡ b = cc in
        absurd ((found-differs row rows m a h.1 i).0 (ap (λ r. r.id) here ∙ sym same))
    by_tests false at_m false at_n rest i j = rest i j

-- ---- rows whose jobs may have begun

-- Its id is a word, and its number that of an earlier start. Once its own start is behind, these lines have its id.
pub record IsNamedJob (lines : List JobLine) (below : ℕ) (row : JobRecord) : Type 0 where
  pub word : IsWord row.id
  pub early : row.number < below
  pub told : row.number < length lines → (get_or lines row.number no_job).id ≡ row.id

-- The jobs of a table, of which those with such lines have begun.
pub record JobsAreNamed (lines : List JobLine) (t : RunTable) : Type 0 where
  pub rows : AllDiffer (IsNamedJob lines t.started) t.jobs
  pub many : length lines ≤ t.started

-- one more job
named-pushed : (lines : List JobLine) (below : ℕ) (rows : List JobRecord) (last : JobRecord) → last.number ≡ below → IsWord last.id → length lines ≤ below
    → find (λ job. bytes_eq job.id last.id) rows ≡ None → AllDiffer (IsNamedJob lines below) rows → AllDiffer (IsNamedJob lines (below + 1)) (rows ++ last ∷ [])
named-pushed lines below [] last is word many fresh h =
    (record { word = word; early = omega arith; told = λ less. absurd (omega arith) }, tt, tt)
named-pushed lines below (row ∷ rows) last is word many fresh h =
    by_test (bytes_eq row.id last.id) refl (λ k. named-pushed lines below rows last is word many k h.2) fresh
  where
    later : IsNamedJob lines (below + 1) row
    later = let early = h.0.early in record { word = h.0.word; early = omega arith; told = h.0.told }

    by_test : (x : Bool) → bytes_eq row.id last.id ≡ x
        → (find (λ job. bytes_eq job.id last.id) rows ≡ None → AllDiffer (IsNamedJob lines (below + 1)) (rows ++ last ∷ []))
        → cond x (Some row) (find (λ job. bytes_eq job.id last.id) rows) ≡ None → AllDiffer (IsNamedJob lines (below + 1)) (row ∷ (rows ++ last ∷ []))
    by_test true e rest k = absurd cc
    by_test false e rest k =
        (later, differs-pushed row last rows h.1 (name_differs row.id last.id e, λ same. let early = h.0.early in omega arith), rest k)

-- ---- a start

-- one that has another number
kept-named : (lines : List JobLine) (line : JobLine) (below : ℕ) (row : JobRecord) → row.number ≢ length lines → IsNamedJob lines below row
    → IsNamedJob (lines ++ line ∷ []) below row
kept-named lines line below row other h = record {
  word = h.word;
  early = h.early;
  told = λ less.
      let more = length-append lines (line ∷ []) in
      let within : row.number < length lines = omega (arith, other) in
      ap (λ (l : JobLine). l.id) (get_or_append_left lines (line ∷ []) no_job row.number within) ∙ h.told within;
}

all-kept : (lines : List JobLine) (line : JobLine) (below : ℕ) (row : JobRecord) (rows : List JobRecord) → row.number ≡ length lines → DiffersFromAll row rows
    → AllDiffer (IsNamedJob lines below) rows → AllDiffer (IsNamedJob (lines ++ line ∷ []) below) rows
all-kept lines line below row [] is apart h = tt
all-kept lines line below row (other ∷ rows) is apart h =
    (kept-named lines line below other (λ e. apart.0.1 (is ∙ sym e)) h.0, h.1, all-kept lines line below row rows is apart.1 h.2)

-- the next job begins, and its line has its id
pub begun-named : (lines : List JobLine) (line : JobLine) (below : ℕ) (rows : List JobRecord) (row : JobRecord)
    → find (λ job. job.number == length lines) rows ≡ Some row → line.id ≡ row.id → AllDiffer (IsNamedJob lines below) rows
    → AllDiffer (IsNamedJob (lines ++ line ∷ []) below) rows
begun-named lines line below [] row e is h = absurd cc
begun-named lines line below (other ∷ rows) row e is h =
    by_test (other.number == length lines) refl (λ k. begun-named lines line below rows row k is h.2) e
  where
    by_test : (x : Bool) → (other.number == length lines) ≡ x
        → (find (λ job. job.number == length lines) rows ≡ Some row → AllDiffer (IsNamedJob (lines ++ line ∷ []) below) rows)
        → cond x (Some other) (find (λ job. job.number == length lines) rows) ≡ Some row
        → AllDiffer (IsNamedJob (lines ++ line ∷ []) below) (other ∷ rows)
    by_test true at_it rest k =
        let same : other ≡ row = cc in
        let number = eqb-true other.number (length lines) at_it in (
          record {
            word = h.0.word;
            early = h.0.early;
            told = λ less.
                ap (λ (l : JobLine). l.id) (get_or_push lines line no_job other.number (sym number)) ∙ is ∙ ap (λ (r : JobRecord). r.id) (sym same);
          },
          h.1,
          all-kept lines line below other rows number h.1 h.2,
        )
    by_test false at_other rest k =
        (kept-named lines line below other (eqb-false other.number (length lines) at_other) h.0, h.1, rest k)

-- ---- changes

-- a job's row may be made: it has the next number, and an id that no other job has
pub record MayStart (t : RunTable) (row : JobRecord) : Type 0 where
  pub number : row.number ≡ t.started
  pub fresh : job_named t row.id ≡ None
  pub word : IsWord row.id

abbrev pub StartsFresh : RunTable → Change → Type 0
StartsFresh t (change.StartJob row) = MayStart t row
StartsFresh t c = Unit {0}

abbrev pub AllStartFresh : RunTable → List Change → Type 0
AllStartFresh t [] = Unit {0}
AllStartFresh t (c ∷ changes) = StartsFresh t c × AllStartFresh (changed t c) changes

pub fresh-append : (xs ys : List Change) (t : RunTable) → AllStartFresh t xs → AllStartFresh (all_changed t xs) ys → AllStartFresh t (xs ++ ys)
fresh-append [] ys t h k = k
fresh-append (c ∷ xs) ys t h k = (h.0, fresh-append xs ys (changed t c) h.1 k)

-- some rows are changed
some-keep : (p : JobRecord → Bool) (f : JobRecord → JobRecord) → KeepsNames f → KeepsNames (λ row. cond (p row) (f row) row)
some-keep p f k = record { id = λ row. id_by row (p row); number = λ row. number_by row (p row) }
  where
    id_by : (row : JobRecord) (b : Bool) → (cond b (f row) row).id ≡ row.id
    id_by row true = k.id row
    id_by row false = refl

    number_by : (row : JobRecord) (b : Bool) → (cond b (f row) row).number ≡ row.number
    number_by row true = k.number row
    number_by row false = refl

named-as : (f : JobRecord → JobRecord) → KeepsNames f → (lines : List JobLine) (below : ℕ) (row : JobRecord) → IsNamedJob lines below row
    → IsNamedJob lines below (f row)
named-as f k lines below row h = record {
  word = subst IsWord (sym (k.id row)) h.word;
  early = subst (λ n. n < below) (sym (k.number row)) h.early;
  told = subst (λ n. n < length lines → (get_or lines n no_job).id ≡ (f row).id) (sym (k.number row)) (λ less. h.told less ∙ sym (k.id row));
}

mapped-named : (f : JobRecord → JobRecord) → KeepsNames f → (lines : List JobLine) (below : ℕ) (rows : List JobRecord)
    → AllDiffer (IsNamedJob lines below) rows → AllDiffer (IsNamedJob lines below) (map f rows)
mapped-named f k lines below rows h = all-mapped f (IsNamedJob lines below) k (named-as f k lines below) rows h

pub change-named : (lines : List JobLine) (t : RunTable) (c : Change) → StartsFresh t c → JobsAreNamed lines t → JobsAreNamed lines (changed t c)
unfolding changed
change-named lines t (change.StartJob row) fresh h =
    let many = h.many in
    record { rows = named-pushed lines t.started t.jobs row fresh.number fresh.word many fresh.fresh h.rows; many = omega arith }
change-named lines t (change.AskJob number asked) fresh h = record {
  rows = mapped-named (asked_for number asked)
      (some-keep (λ row. row.number == number) (λ row. record row { asked = followed row.asked asked }) (record { id = λ row. refl; number = λ row. refl }))
      lines t.started t.jobs h.rows;
  many = h.many;
}
change-named lines t (change.ReadyJob number) fresh h = record {
  rows = mapped-named (ready_for number)
      (some-keep (λ row. row.number == number) (λ row. record row { is_ready = true }) (record { id = λ row. refl; number = λ row. refl }))
      lines t.started t.jobs h.rows;
  many = h.many;
}
change-named lines t (change.EndJob number slot drops) fresh h =
    record { rows = all-left (λ job. not (job.number == number)) (IsNamedJob lines t.started) t.jobs h.rows; many = h.many }
change-named lines t c fresh h = record { rows = h.rows; many = h.many }

-- ---- changes that leave the jobs

abbrev pub KeepsJobs : Change → Type 0
KeepsJobs (change.StartJob row) = ⊥
KeepsJobs (change.AskJob number asked) = ⊥
KeepsJobs (change.ReadyJob number) = ⊥
KeepsJobs (change.EndJob number slot drops) = ⊥
KeepsJobs c = Unit {0}

abbrev pub AllKeepJobs : List Change → Type 0
AllKeepJobs [] = Unit {0}
AllKeepJobs (c ∷ changes) = KeepsJobs c × AllKeepJobs changes

pub keep-append : (xs ys : List Change) → AllKeepJobs xs → AllKeepJobs ys → AllKeepJobs (xs ++ ys)
keep-append [] ys h k = k
keep-append (c ∷ xs) ys h k = (h.0, keep-append xs ys h.1 k)

-- the jobs of a table, and how many were started so far
pub record HasJobsOf (old new : RunTable) : Type 0 where
  pub jobs : new.jobs ≡ old.jobs
  pub started : new.started ≡ old.started

jobs-kept : (t : RunTable) (c : Change) → KeepsJobs c → HasJobsOf t (changed t c)
unfolding changed
jobs-kept t (change.StartJob row) leaves = absurd leaves
jobs-kept t (change.AskJob number asked) leaves = absurd leaves
jobs-kept t (change.ReadyJob number) leaves = absurd leaves
jobs-kept t (change.EndJob number slot drops) leaves = absurd leaves
jobs-kept t c leaves = record { jobs = refl; started = refl }

pub all-keep-jobs : (changes : List Change) (t : RunTable) → AllKeepJobs changes → HasJobsOf t (all_changed t changes)
all-keep-jobs [] t leave = record { jobs = refl; started = refl }
all-keep-jobs (c ∷ changes) t leave =
    let first = jobs-kept t c leave.0 in
    let rest = all-keep-jobs changes (changed t c) leave.1 in
    record { jobs = rest.jobs ∙ first.jobs; started = rest.started ∙ first.started }

fresh-kept : (t : RunTable) (c : Change) → KeepsJobs c → StartsFresh t c
fresh-kept t (change.StartJob row) leaves = absurd leaves
fresh-kept t c leaves = tt

-- they start none
pub keep-fresh : (changes : List Change) (t : RunTable) → AllKeepJobs changes → AllStartFresh t changes
keep-fresh [] t leave = tt
keep-fresh (c ∷ changes) t leave = (fresh-kept t c leave.0, keep-fresh changes (changed t c) leave.1)

-- a job may be started behind them as before them
pub start-behind : (changes : List Change) (t : RunTable) (row : JobRecord) → AllKeepJobs changes → MayStart t row → MayStart (all_changed t changes) row
start-behind changes t row leave can =
    let same = all-keep-jobs changes t leave in
    record {
      number = can.number ∙ sym same.started;
      fresh = ap (find (λ job. bytes_eq job.id row.id)) same.jobs ∙ can.fresh;
      word = can.word;
    }
