-- What jobs made writable stays so that they can give it back, behind changes that leave it.
use Rattle.std.proofs.Common.{◌≡◌, ◌≢◌, ℕ, List, [], ◌∷◌, ◌++◌, map, refl, sym, ◌∙◌, ap, subst, Bool, true, false, cond, Option, Some, None}
use Rattle.std.specs.Prelude.{◌==◌, ◌&&◌, not, slice_get}
use Rattle.std.specs.List.{Contains}
use Rattle.std.proofs.lemmas.Bool.{false≢true, eqb-true, eq-eqb}
use Rattle.blk_graph.proofs.Members.{Contains-nil, Contains-filter, Contains-map, find-Some}
use Rattle.qmp_codec.specs.declared.event.JobKind.{JobKind}
use Rattle.qmp_codec.specs.declared.event.JobKind.TheVariants.{Stream, Commit, Mirror}
use Rattle.qmp_codec.specs.declared.nodes.Created.{Created}
use Rattle.qmp_codec.specs.declared.nodes.Created.TheVariants as created
use Rattle.blk_history.specs.declared.entry.JobEnd.{JobEnd}
use Rattle.qmp_rules.specs.declared.change.Change.{Change}
use Rattle.qmp_rules.specs.declared.change.Change.TheVariants as change
use Rattle.qmp_rules.specs.declared.change.JobOutcome.{JobOutcome}
use Rattle.qmp_rules.specs.declared.change.JobOutcome.TheVariants.{Completed, Pivoted, Copied, Stopped}
use Rattle.qmp_rules.specs.declared.rows.NodeRecord.{NodeRecord}
use Rattle.qmp_rules.specs.declared.rows.AskedEnd.{AskedEnd}
use Rattle.qmp_rules.specs.declared.rows.JobRecord.{JobRecord}
use Rattle.qmp_rules.specs.Asks.{is_base, lends}
use Rattle.qmp_rules.specs.Chains.{written_under}
use Rattle.qmp_rules.specs.Changes.{changed, all_changed, asked_for, ready_for, followed, without_job}
use Rattle.qmp_rules.specs.Edits.{spoiled}
use Rattle.qmp_rules.specs.Ends.{drops_aside, filter_gone as pulled, overlay_to, parents_to, moves, given_back_to, end_edits, ready_edits}
use Rattle.qmp_rules.specs.Table.{RunTable, job_at, opening_table}
use Rattle.flat_machine.specs.State.{State}
use Rattle.flat_machine.specs.Jobs.{target_written, outcome_of, changes_at_end, ended, readied_by, readied}
use Rattle.flat_machine.specs.Suiting.{IsAlone, TableSuits, AllTableSuit}
use Rattle.flat_machine.specs.Wiring.{TableStands}
use Rattle.flat_machine.proofs.Resting.{stepped_table}
use Rattle.flat_machine.proofs.TableRests.{table_keeps}
use Rattle.job_tables.specs.Changes.{LeavesJobs, AllLeaveJobs, LeavesBySnapshot}
use Rattle.job_tables.specs.Ends.{IsBare, LentSuits}
use Rattle.job_tables.specs.Jobs.{JobsStand}
use Rattle.job_tables.specs.Rows.{nodes_of_job}
use Rattle.job_tables.proofs.Changes.{change_leaves_jobs}
use Rattle.job_tables.proofs.Copiers.{KeepsRows, rows_same}
use Rattle.job_tables.proofs.Ended.{IsQuiet, AreQuiet, quiet-append, quiet_given, quiet_rest, moves_by, rest_by, end_is}
use Rattle.job_tables.proofs.Runs.{written_by, target_of, target_held, file_used_by}
use Rattle.job_chains.specs.Lent.{BasesAreLent, LeavesLent, AllLeaveLent}
use Rattle.job_chains.proofs.LentBases.{LeavesBare, bare_kept}

-- ---- one job

-- a job that is over, and one with other words beside what it lent
lent_as : (t now : RunTable) (old row : JobRecord) → row.made_writable ≡ old.made_writable → row.target ≡ old.target
    → ((base : ℕ) → old.made_writable.base ≡ true → old.target ≡ Some base → IsBare t base → IsBare now base) → LentSuits t old → LentSuits now row
lent_as t now old row made target keeps h = record {
  bare = λ base is at.
      let was : old.made_writable.base ≡ true = sym (ap (λ m. m.base) made) ∙ is in
      let was_at : old.target ≡ Some base = sym target ∙ at in
      keeps base was was_at (h.bare base was was_at);
  file = λ is. ap (λ m. m.base) made ∙ h.file (sym (ap (λ m. m.file) made) ∙ is);
}

-- ---- rows behind a change

record HadRow (jobs : List JobRecord) (row : JobRecord) : Type 0 where
  old : JobRecord
  there : Contains jobs old
  made : row.made_writable ≡ old.made_writable
  target : row.target ≡ old.target

had_self : (jobs : List JobRecord) (row : JobRecord) → Contains jobs row → HadRow jobs row
had_self jobs row here = record { old = row; there = here; made = refl; target = refl }

had_mapped : (jobs : List JobRecord) (f : JobRecord → JobRecord) → ((row : JobRecord) → ((f row).made_writable ≡ row.made_writable) × ((f row).target ≡ row.target))
    → (row : JobRecord) → Contains (map f jobs) row → HadRow jobs row
had_mapped jobs f same row here =
    let at = Contains-map f jobs row here in
    record {
      old = at.0;
      there = at.1;
      made = ap (λ (x : JobRecord). x.made_writable) at.2 ∙ (same at.0).0;
      target = ap (λ (x : JobRecord). x.target) at.2 ∙ (same at.0).1;
    }

asked_same : (number : ℕ) (new : AskedEnd) (row : JobRecord)
    → ((asked_for number new row).made_writable ≡ row.made_writable) × ((asked_for number new row).target ≡ row.target)
asked_same number new row = by_test (row.number == number)
  where
    by_test : (b : Bool) → ((cond b (record row { asked = followed row.asked new }) row).made_writable ≡ row.made_writable)
        × ((cond b (record row { asked = followed row.asked new }) row).target ≡ row.target)
    by_test true = (refl, refl)
    by_test false = (refl, refl)

ready_same : (number : ℕ) (row : JobRecord) → ((ready_for number row).made_writable ≡ row.made_writable) × ((ready_for number row).target ≡ row.target)
ready_same number row = by_test (row.number == number)
  where
    by_test : (b : Bool) → ((cond b (record row { is_ready = true }) row).made_writable ≡ row.made_writable)
        × ((cond b (record row { is_ready = true }) row).target ≡ row.target)
    by_test true = (refl, refl)
    by_test false = (refl, refl)

pub jobs_kept : (t : RunTable) (c : Change) → KeepsRows c → (changed t c).jobs ≡ t.jobs
jobs_kept t c keeps = rows_same [] (c ∷ []) t ((keeps, λ row target at. absurd (Contains-nil row at)), tt)

had_row : (t : RunTable) (c : Change) → LeavesJobs t c → (row : JobRecord) → Contains (changed t c).jobs row → HadRow t.jobs row
unfolding changed
had_row t (change.AskJob number new) leaves row at = had_mapped t.jobs (asked_for number new) (asked_same number new) row at
had_row t (change.ReadyJob number) leaves row at = had_mapped t.jobs (ready_for number) (ready_same number) row at
had_row t (change.StartJob new) leaves row at = absurd leaves
had_row t (change.EndJob number slot drops) leaves row at = absurd leaves
had_row t c leaves row at = had_self t.jobs row at

-- ---- changes that leave jobs

module _ (t : RunTable) (h : TableStands t) (j : JobsStand t) (job : JobRecord) (here : Contains t.jobs job) (base : ℕ) (lent : job.made_writable.base ≡ true)
    (is : job.target ≡ Some base) where
  base_has : Contains (nodes_of_job job) base
  base_has = target_of t job (j.each job here) base is

  lends_base : lends base job ≡ true
  lends_base = ap (λ b. b && is_base job.target base) lent ∙ ap (λ o. is_base o base) is ∙ eq-eqb base base refl

  leaves_bare : (c : Change) → TableSuits t c → LeavesJobs t c → LeavesLent t c → LeavesBare c base
  leaves_bare (change.AddFormat new file backing) suits leaves apart = λ same.
      let at = find-Some (λ (r : NodeRecord). r.id == file) t.nodes suits.under suits.found in
      let id : suits.under.id ≡ file = eqb-true suits.under.id file at.1 in
      file_used_by t h j job here suits.under at.0 (subst (Contains (nodes_of_job job)) (sym (id ∙ same)) base_has) suits.name suits.of_file
      (subst (IsAlone t) (sym id) suits.alone)
  leaves_bare (change.AddFilter new child) suits leaves apart = λ same.
      false≢true (sym (apart job here) ∙ subst (λ n. lends n job ≡ true) (sym same) lends_base)
  leaves_bare (change.PutFilter new node) suits leaves apart = absurd leaves
  leaves_bare (change.Move from to but) suits leaves apart = absurd leaves
  leaves_bare c suits leaves apart = tt

change_leaves_lent : (t : RunTable) (c : Change) → TableStands t → JobsStand t → TableSuits t c → LeavesJobs t c → LeavesLent t c → BasesAreLent t
    → BasesAreLent (changed t c)
change_leaves_lent t c h j suits leaves apart g row at =
    let w = had_row t c leaves row at in
    lent_as t (changed t c) w.old row w.made w.target
    (λ base is to. bare_kept t c base (leaves_bare t h j w.old w.there base is to c suits leaves apart)) (g w.old w.there)

pub changes_leave_lent : (changes : List Change) (t : RunTable) → TableStands t → JobsStand t → AllTableSuit t changes → AllLeaveJobs t changes
    → AllLeaveLent t changes → BasesAreLent t → BasesAreLent (all_changed t changes)
changes_leave_lent [] t h j suits leaves apart g = g
changes_leave_lent (c ∷ changes) t h j suits leaves apart g =
    changes_leave_lent changes (changed t c) (table_keeps t c suits.0 h) (change_leaves_jobs t c h j suits.0 leaves.0) suits.1 leaves.1 apart.1
    (change_leaves_lent t c h j suits.0 leaves.0 apart.0 g)

-- a run begins without jobs
pub opening_lent : (guests : List (List ℕ)) → BasesAreLent (opening_table guests)
opening_lent guests row there = absurd (Contains-nil row there)

-- ---- lists by which no job begins or ends

-- nothing comes over what these jobs may have lent
abbrev pub PassesBases : List JobRecord → Change → Type 0
PassesBases jobs c = (row : JobRecord) (base : ℕ) → Contains jobs row → row.target ≡ Some base → LeavesBare c base

abbrev pub AllPassBases : List JobRecord → List Change → Type 0
AllPassBases jobs [] = Unit {0}
AllPassBases jobs (c ∷ changes) = (KeepsRows c × PassesBases jobs c) × AllPassBases jobs changes

pub pass-append : (jobs : List JobRecord) (a b : List Change) → AllPassBases jobs a → AllPassBases jobs b → AllPassBases jobs (a ++ b)
pass-append jobs [] b h k = k
pass-append jobs (c ∷ a) b h k = (h.0, pass-append jobs a b h.1 k)

-- what these jobs lent they can give back
abbrev pub AreLent : RunTable → List JobRecord → Type 0
AreLent t jobs = (row : JobRecord) → Contains jobs row → LentSuits t row

pub one_lent : (t : RunTable) (jobs : List JobRecord) (c : Change) → PassesBases jobs c → AreLent t jobs → AreLent (changed t c) jobs
one_lent t jobs c passes g row at =
    lent_as t (changed t c) row row refl refl (λ base is to. bare_kept t c base (passes row base at to)) (g row at)

pub all_lent : (jobs : List JobRecord) (changes : List Change) (t : RunTable) → AllPassBases jobs changes → AreLent t jobs → AreLent (all_changed t changes) jobs
all_lent jobs [] t h g = g
all_lent jobs (c ∷ changes) t h g = all_lent jobs changes (changed t c) h.1 (one_lent t jobs c h.0.1 g)

pub all_jobs_kept : (jobs : List JobRecord) (changes : List Change) (t : RunTable) → AllPassBases jobs changes → (all_changed t changes).jobs ≡ t.jobs
all_jobs_kept jobs [] t h = refl
all_jobs_kept jobs (c ∷ changes) t h = all_jobs_kept jobs changes (changed t c) h.1 ∙ jobs_kept t c h.0.0

pub all_pass_lent : (changes : List Change) (t : RunTable) → AllPassBases t.jobs changes → BasesAreLent t → BasesAreLent (all_changed t changes)
all_pass_lent changes t h g row at =
    all_lent t.jobs changes t h g row (subst (λ rows. Contains rows row) (all_jobs_kept t.jobs changes t h) at)

-- what stands behind the moves of an end
quiet_passes : (jobs : List JobRecord) (changes : List Change) → AreQuiet changes → AllPassBases jobs changes
quiet_passes jobs [] q = tt
quiet_passes jobs (c ∷ changes) q = (one c q.0, quiet_passes jobs changes q.1)
  where
    one : (c : Change) → IsQuiet c → KeepsRows c × PassesBases jobs c
    one (change.Settle node disk) h = (tt, λ row base at is. tt)
    one (change.Unsettle node) h = (tt, λ row base at is. tt)
    one (change.MakeReadOnly node) h = (tt, λ row base at is. tt)
    one c h = absurd h

-- ---- a job ends

module _ (t : RunTable) (j : JobsStand t) (row : JobRecord) (here : Contains t.jobs row) where
  abbrev others : List JobRecord
  others = without_job row.number t.jobs

  other_there : (b : JobRecord) → Contains others b → Contains t.jobs b
  other_there b at = (Contains-filter (λ (x : JobRecord). not (x.number == row.number)) t.jobs b at).0

  -- what it writes is no node of another job
  not_to : (b : JobRecord) → Contains others b → (target : ℕ) → target_written row ≡ Some target → b.target ≢ Some target
  not_to b at target is same =
      let there : Contains t.jobs b = other_there b at in
      let one : b ≡ row = sym (j.slots row b here there
      (j.apart row b target here there (target_held t row (j.each row here) target is) (target_of t b (j.each b there) target same))) in
      let number : (b.number == row.number) ≡ true = eq-eqb b.number row.number (ap (λ (x : JobRecord). x.number) one) in
      false≢true (sym (ap not number) ∙ (Contains-filter (λ (x : JobRecord). not (x.number == row.number)) t.jobs b at).1)

  pass_pulled : (filter : Option ℕ) → AllPassBases others (pulled filter)
  pass_pulled None = tt
  pass_pulled (Some filter) = ((tt, λ b base at is. tt), tt)

  pass_overlay : (overlay : Option ℕ) → AllPassBases others (overlay_to overlay row.target)
  pass_overlay None = tt
  pass_overlay (Some overlay) = ((tt, λ b base at is. tt), tt)

  pass_parents : (filter target : Option ℕ) → target_written row ≡ target → AllPassBases others (parents_to row.source filter target)
  pass_parents (Some filter) (Some target) is = ((tt, λ b base at of same. not_to b at target is (of ∙ ap Some (sym same))), tt)
  pass_parents (Some filter) None is = tt
  pass_parents None target is = tt

  pass_moves : (k : JobKind) → row.kind ≡ k → (o : JobOutcome) → AllPassBases others (moves row k o)
  pass_moves Stream e Completed = ((tt, λ b base at is. tt), tt)
  pass_moves Commit e Completed = pass_overlay (slice_get row.read 0)
  pass_moves Commit e Pivoted = pass_parents row.filter row.target (written_by row Commit e)
  pass_moves Mirror e Pivoted = pass_parents row.filter row.target (written_by row Mirror e)
  pass_moves k e o = tt

  pass_moved : (k : JobKind) → row.kind ≡ k → (o : JobOutcome) → AllPassBases others (moves_by row k o)
  pass_moved k e Stopped = tt
  pass_moved k e Completed = pass_moves k e Completed
  pass_moved k e Pivoted = pass_moves k e Pivoted
  pass_moved k e Copied = pass_moves k e Copied

  abbrev behind : JobOutcome → List Change
  behind o = (pulled row.filter ++ moves_by row row.kind o) ++ (rest_by row row.kind o ++ given_back_to t row o)

  pass_behind : (o : JobOutcome) → AllPassBases others (behind o)
  pass_behind o =
      pass-append others (pulled row.filter ++ moves_by row row.kind o) (rest_by row row.kind o ++ given_back_to t row o)
      (pass-append others (pulled row.filter) (moves_by row row.kind o) (pass_pulled row.filter) (pass_moved row.kind refl o))
      (quiet_passes others (rest_by row row.kind o ++ given_back_to t row o)
      (quiet-append (rest_by row row.kind o) (given_back_to t row o) (quiet_rest row row.kind o) (quiet_given t row o)))

  over_lent : (drops : Bool) → BasesAreLent t → BasesAreLent (changed t (change.EndJob row.number row.slot drops))
  unfolding changed
  over_lent drops g b at =
      lent_as t (changed t (change.EndJob row.number row.slot drops)) b b refl refl
      (λ base is to. bare_kept t (change.EndJob row.number row.slot drops) base tt) (g b (other_there b at))

  over_others : (drops : Bool) → (changed t (change.EndJob row.number row.slot drops)).jobs ≡ others
  unfolding changed
  over_others drops = refl

  pub ends_keep_lent : (o : JobOutcome) → BasesAreLent t → BasesAreLent (all_changed t (end_edits t row o))
  ends_keep_lent o g =
      let over : Change = change.EndJob row.number row.slot (drops_aside o row.bitmap) in
      subst (λ changes. BasesAreLent (all_changed t changes)) (sym (end_is t row o))
      (all_pass_lent (behind o) (changed t over)
      (subst (λ rows. AllPassBases rows (behind o)) (sym (over_others (drops_aside o row.bitmap))) (pass_behind o))
      (over_lent (drops_aside o row.bitmap) g))

pub ended_lent : (s : State) (number : ℕ) (why : JobEnd) → JobsStand s.table → BasesAreLent s.table → BasesAreLent (ended s (job_at s.table number) why).table
ended_lent s number why j g = by_found (job_at s.table number) refl
  where
    by_found : (found : Option JobRecord) → job_at s.table number ≡ found → BasesAreLent (ended s found why).table
    by_found None is = g
    by_found (Some row) is =
        subst BasesAreLent (sym (stepped_table (changes_at_end s row why) s))
        (ends_keep_lent s.table j row (find-Some (λ (job : JobRecord). job.number == number) s.table.jobs row is).0 (outcome_of why) g)

-- ---- what is noted, failed and written

ready_lent : (t : RunTable) (number : ℕ) → BasesAreLent t → BasesAreLent (changed t (change.ReadyJob number))
ready_lent t number g row at =
    let w = had_row t (change.ReadyJob number) tt row at in
    lent_as t (changed t (change.ReadyJob number)) w.old row w.made w.target (λ base is to. bare_kept t (change.ReadyJob number) base tt) (g w.old w.there)

pub readied_lent : (s : State) (number : ℕ) → BasesAreLent s.table → BasesAreLent (readied number s).table
readied_lent s number g = by_found (job_at s.table number)
  where
    by_found : (found : Option JobRecord) → BasesAreLent (readied_by s found).table
    by_found None = g
    by_found (Some row) = subst BasesAreLent (sym (stepped_table (ready_edits row) s)) (ready_lent s.table row.number g)

pub spoiled_lent : (t : RunTable) (options : Created (List ℕ)) → BasesAreLent t → BasesAreLent (all_changed t (spoiled t options))
spoiled_lent t (created.File c) g = all_pass_lent (spoiled t (created.File c)) t ((tt, λ row base at is. tt), tt) g
spoiled_lent t (created.Qcow2 c) g = all_pass_lent (spoiled t (created.Qcow2 c)) t ((tt, λ row base at is. tt), tt) g
spoiled_lent t created.Unknown g = g

pub written_lent : (t : RunTable) (node : ℕ) → BasesAreLent t → BasesAreLent (written_under node t)
unfolding written_under
written_lent t node g row at = lent_as t (written_under node t) row row refl refl (λ base is to bare. bare) (g row at)

-- ---- snapshots

pub snapshots_leave_lent : (t : RunTable) (node overlay : ℕ) → JobsStand t → LeavesBySnapshot t node overlay → BasesAreLent t
    → BasesAreLent (all_changed t (change.Attach overlay node ∷ change.Move node overlay overlay ∷ []))
snapshots_leave_lent t node overlay j leaves g =
    all_pass_lent (change.Attach overlay node ∷ change.Move node overlay overlay ∷ []) t (
      (tt, λ row base at is. tt),
      (
        (tt, λ row base at is same. leaves.overlay_free.held row at (subst (Contains (nodes_of_job row)) (sym same) (target_of t row (j.each row at) base is))),
        tt,
      ),
    ) g
