-- What jobs copy, and their works, behind the changes of an accepted command.
use Rattle.std.proofs.Common.{◌≡◌, ◌≢◌, ℕ, List, [], ◌∷◌, ◌++◌, refl, sym, ap, ◌∙◌, subst, inl, inr, arith, Option, Some, None}
use Rattle.std.specs.Prelude.{◌==◌, codes, unwrap_or}
use Rattle.std.specs.Option.{option_map}
use Rattle.std.specs.List.{find, Contains}
use Rattle.std.proofs.lemmas.Bool.{eq-eqb, eqb-true, ne_eqb}
use Rattle.blk_graph.proofs.Members.{Contains-here, Contains-there, find-Some}
use Rattle.blk_history.specs.declared.event.Event.{Event}
use Rattle.block_jobs.specs.Work.{JobWork}
use Rattle.qmp_codec.specs.Commands.{Cmd}
use Rattle.qmp_codec.specs.declared.command.Command.TheVariants as command
use Rattle.qmp_asks.specs.declared.ask.Ask.TheVariants as ask
use Rattle.qmp_asks.specs.CommandAsks.{asks_of}
use Rattle.qmp_asks.specs.JobAsks.{on_error_value, job_values, commit_names, commit_rest, mirror_values, mirror_names, mirror_rest, backup_values, backup_names, backup_rest}
use Rattle.qmp_rules.specs.declared.change.Change.{Change}
use Rattle.qmp_rules.specs.declared.change.Change.TheVariants as change
use Rattle.qmp_rules.specs.declared.rows.NodeRecord.{NodeRecord}
use Rattle.qmp_rules.specs.declared.rows.JobRecord.{JobRecord}
use Rattle.qmp_rules.specs.declared.told.Told.{Told}
use Rattle.qmp_rules.specs.Changes.{changed, all_changed, without_job}
use Rattle.qmp_rules.specs.Edits.{free_id, stream_job, commit_job, mirror_job, backup_job, start_edits, edits_of}
use Rattle.qmp_rules.specs.Queries.{bytes_of_node}
use Rattle.qmp_rules.specs.Table.{RunTable, job_at}
use Rattle.flat_machine.specs.Agreement.{Contents}
use Rattle.flat_machine.specs.Changed.{all_stepped}
use Rattle.flat_machine.specs.Performing.{AllPerformed}
use Rattle.flat_machine.specs.State.{State}
use Rattle.flat_machine.specs.Wiring.{TableAtRest}
use Rattle.flat_machine.proofs.Accepted.{free_fresh}
use Rattle.flat_machine.proofs.Fresh.{found-new}
use Rattle.flat_machine.proofs.Asked.{NoneHolds, none-holds, none-behind, room-left}
use Rattle.job_tables.specs.Accepted.{IsMet}
use Rattle.job_tables.specs.Changes.{IsNoJobs}
use Rattle.job_tables.specs.Jobs.{JobsStand}
use Rattle.job_tables.specs.Running.{JobsRun}
use Rattle.job_tables.proofs.Ended.{all_changed-append}
use Rattle.job_works.specs.Works.{work_of}
use Rattle.job_works.proofs.Changed.{job_found}
use Rattle.job_progress.specs.Belonging.{AreWorksOf, without_row}
use Rattle.job_progress.specs.Going.{AreJobsAhead}
use Rattle.job_progress.specs.Leaving.{LeavesCopies, AllLeaveCopies, LeavesRows, AllLeaveRows}
use Rattle.job_progress.proofs.Belong.{found_there, changes_belong, sizes_belong}
use Rattle.job_progress.proofs.Changed.{rests_by, all_go}
use Rattle.job_commands.specs.Begun.{IsOneCommand, job_begun}
use Rattle.job_commands.proofs.Spared.{absent_no_jobs, AllSpareJobs, all_sparing_keep_jobs, all_spared_rows, all_spared_copies, all_prepare_spare, copies-append, SameRowsBut, uses_same, uses_leave}
use Rattle.job_commands.proofs.Shapes.{ChangesBitmap, MayChange, command_spares, BeginsAmong, start_among}

-- ---- the job that a command begins

-- its number is the next one
pub begun_number : (t : RunTable) (c : Cmd) (row : JobRecord) → job_begun t c ≡ Some row → row.number ≡ t.started
begun_number t (command.BlockStream c) row is = let same : stream_job t c ≡ row = cc in ap (λ (r : JobRecord). r.number) (sym same)
begun_number t (command.BlockCommit c) row is = let same : commit_job t c ≡ row = cc in ap (λ (r : JobRecord). r.number) (sym same)
begun_number t (command.BlockdevMirror c) row is = let same : mirror_job t c ≡ row = cc in ap (λ (r : JobRecord). r.number) (sym same)
begun_number t (command.BlockdevBackup c) row is = let same : backup_job t None c ≡ row = cc in ap (λ (r : JobRecord). r.number) (sym same)
begun_number t c row is = absurd cc

-- with room for one more node the next id is no job's
room_free : (t : RunTable) (told : Told) → JobsStand t → NoneHolds t told (ask.RoomForNodes 1 ∷ []) → IsNoJobs t (free_id t)
room_free t told j asks = absent_no_jobs t j (free_id t) (free_fresh t (room-left t told 1 asks.0))

pub begun_among : (t : RunTable) (told exp : Told) (c : Cmd) (row : JobRecord) → JobsStand t → job_begun t c ≡ Some row → NoneHolds t told (asks_of c)
    → BeginsAmong t row (edits_of t exp c)
unfolding asks_of edits_of
begun_among t told exp (command.BlockStream c) row j is asks =
    let same : stream_job t c ≡ row = cc in
    subst (λ (r : JobRecord). BeginsAmong t r (start_edits t (stream_job t c))) same (start_among t (stream_job t c) tt)
begun_among t told exp (command.BlockCommit c) row j is asks =
    let same : commit_job t c ≡ row = cc in
    let rest = none-behind t told (on_error_value (codes "on-error") c.on_error ∷ job_values c.options ++ commit_names c) (commit_rest c) asks in
    subst (λ (r : JobRecord). BeginsAmong t r (start_edits t (commit_job t c))) same (start_among t (commit_job t c) (room_free t told j (rest.1.1.1.1.0, tt)))
begun_among t told exp (command.BlockdevMirror c) row j is asks =
    let same : mirror_job t c ≡ row = cc in
    let rest = none-behind t told (mirror_values c ++ mirror_names c) (mirror_rest c) asks in
    subst (λ (r : JobRecord). BeginsAmong t r (start_edits t (mirror_job t c))) same (start_among t (mirror_job t c) (room_free t told j (rest.1.1.1.0, tt)))
begun_among t told exp (command.BlockdevBackup c) row j is asks =
    let same : backup_job t None c ≡ row = cc in
    let rest = none-behind t told (backup_values c ++ backup_names c) (backup_rest c) asks in
    subst (λ (r : JobRecord). BeginsAmong t r (start_edits t (backup_job t None c))) same (start_among t (backup_job t None c) (room_free t told j (rest.1.1.1.1.0, tt)))
begun_among t told exp c row j is asks = absurd cc

-- ---- what jobs copy

-- no work is that of the next job
pub no_work_yet : (t : RunTable) (works : List JobWork) → JobsRun t → AreWorksOf t works → work_of works t.started ≡ None
no_work_yet t works r belong = by_found (work_of works t.started) refl
  where
    by_found : (found : Option JobWork) → work_of works t.started ≡ found → found ≡ None
    by_found None e = refl
    by_found (Some w) e =
        let of = belong.owned w (found_there works t.started w e) in
        let below = r.numbers of.row of.there in
        let same : of.row.number ≡ t.started = of.number ∙ job_found works t.started w e in
        absurd (omega (arith, below, same))

begin_leaves : (works : List JobWork) (t : RunTable) (row : JobRecord) (changes : List Change) → BeginsAmong t row changes → work_of works row.number ≡ None
    → AllLeaveCopies works t changes
begin_leaves works t row changes b none =
    subst (AllLeaveCopies works t) (sym b.is)
    (copies-append works b.before (change.StartJob row ∷ b.behind) t (all_spared_copies works t b.before t refl (all_prepare_spare t b.before b.prepare))
    (none, uses_leave works b.behind (changed (all_changed t b.before) (change.StartJob row)) b.uses))

spares_leave : (works : List JobWork) (t : RunTable) (changes : List Change) → MayChange t changes → AllLeaveCopies works t changes
spares_leave works t changes (inl spares) = all_spared_copies works t changes t refl spares
spares_leave works t changes (inr (inl asks)) = subst (AllLeaveCopies works t) (sym asks.is) (tt, tt)
spares_leave works t changes (inr (inr of)) = subst (AllLeaveCopies works t) (sym of.is) (one of.one of.leaves, tt)
  where
    one : (c : Change) → ChangesBitmap t c → LeavesCopies works t c
    one (change.AddBitmap row) k = tt
    one (change.RemoveBitmap node name) k = tt
    one c k = absurd k

module _ (t : RunTable) (told exp : Told) (c : Cmd) (works : List JobWork) (h : TableAtRest t) (j : JobsStand t) (r : JobsRun t) (belong : AreWorksOf t works)
    (one : IsOneCommand c) (met : IsMet t told c) where
  asks : NoneHolds t told (asks_of c)
  asks = none-holds t told (asks_of c) met.asks

  pub command_leaves : AllLeaveCopies works t (edits_of t exp c)
  command_leaves = by_job (job_begun t c) refl
    where
      by_job : (found : Option JobRecord) → job_begun t c ≡ found → AllLeaveCopies works t (edits_of t exp c)
      by_job None none = spares_leave works t (edits_of t exp c) (command_spares t told exp c h j one none asks)
      by_job (Some row) is =
          begin_leaves works t row (edits_of t exp c) (begun_among t told exp c row j is asks)
          (ap (work_of works) (begun_number t c row is) ∙ no_work_yet t works r belong)

  -- ---- works

  pub command_belongs : job_begun t c ≡ None → AreWorksOf (all_changed t (edits_of t exp c)) works
  command_belongs none = changes_belong (edits_of t exp c) t works j command_leaves (by_shape (command_spares t told exp c h j one none asks)) belong
    where
      rows : (x : Change) → ChangesBitmap t x → LeavesRows x
      rows (change.AddBitmap row) k = tt
      rows (change.RemoveBitmap node name) k = tt
      rows x k = absurd k

      by_shape : MayChange t (edits_of t exp c) → AllLeaveRows (edits_of t exp c)
      by_shape (inl spares) = all_spared_rows t (edits_of t exp c) spares
      by_shape (inr (inl asks)) = subst AllLeaveRows (sym asks.is) (tt, tt)
      by_shape (inr (inr of)) = subst AllLeaveRows (sym of.is) (rows of.one of.leaves, tt)

-- the last of a list goes, which alone has the number
without_last : (number : ℕ) (jobs : List JobRecord) (row : JobRecord) → ((other : JobRecord) → Contains jobs other → other.number ≢ number) → row.number ≡ number
    → without_job number (jobs ++ row ∷ []) ≡ jobs
without_last number [] row differ same = rw (eq-eqb row.number number same) refl
without_last number (job ∷ jobs) row differ same =
    rw (ne_eqb job.number number (differ job (Contains-here job jobs)))
    (ap (λ rest. job ∷ rest) (without_last number jobs row (λ other there. differ other (Contains-there job jobs other there)) same))

pub begin_belongs : (works : List JobWork) (t : RunTable) (row : JobRecord) (changes : List Change) → JobsStand t → JobsRun t → row.number ≡ t.started
    → BeginsAmong t row changes → AreWorksOf t works → AreWorksOf (without_row row.number (all_changed t changes)) works
unfolding changed
begin_belongs works t row changes j r number b belong =
    subst (λ (now : RunTable). AreWorksOf (without_row row.number now) works) (sym last_is)
    (sizes_belong first (without_row row.number last) works jobs_same (λ x there. sizes_same x.source) first_belong)
  where
    first : RunTable
    first = all_changed t b.before

    last : RunTable
    last = all_changed (changed first (change.StartJob row)) b.behind

    last_is : all_changed t changes ≡ last
    last_is = ap (all_changed t) b.is ∙ all_changed-append t b.before (change.StartJob row ∷ b.behind)

    same : SameRowsBut (changed first (change.StartJob row)) last
    same = uses_same b.behind (changed first (change.StartJob row)) b.uses

    spares : AllSpareJobs t b.before
    spares = all_prepare_spare t b.before b.prepare

    first_jobs : first.jobs ≡ t.jobs
    first_jobs = all_sparing_keep_jobs t b.before t spares

    first_belong : AreWorksOf first works
    first_belong = changes_belong b.before t works j (all_spared_copies works t b.before t refl spares) (all_spared_rows t b.before spares) belong

    differ : (other : JobRecord) → Contains first.jobs other → other.number ≢ row.number
    differ other there equal =
        let below = r.numbers other (subst (λ rows. Contains rows other) first_jobs there) in
        absurd (omega (arith, below, number, equal))

    jobs_same : (without_row row.number last).jobs ≡ first.jobs
    jobs_same = ap (without_job row.number) same.jobs ∙ without_last row.number first.jobs row differ refl

    sizes_same : (node : ℕ) → bytes_of_node (without_row row.number last) node ≡ bytes_of_node first node
    sizes_same node = ap (λ (rows : List NodeRecord). unwrap_or (option_map (λ (n : NodeRecord). n.size) (find (λ (n : NodeRecord). n.id == node) rows)) 0) same.nodes

-- the job is there by then, at the end of the list
pub begins_last : (t : RunTable) (row : JobRecord) (changes : List Change) → BeginsAmong t row changes → (all_changed t changes).jobs ≡ t.jobs ++ row ∷ []
unfolding changed
begins_last t row changes b =
    let first : RunTable = all_changed t b.before in
    let last : RunTable = all_changed (changed first (change.StartJob row)) b.behind in
    let last_is : all_changed t changes ≡ last = ap (all_changed t) b.is ∙ all_changed-append t b.before (change.StartJob row ∷ b.behind) in
    ap (λ (now : RunTable). now.jobs) last_is ∙ (uses_same b.behind (changed first (change.StartJob row)) b.uses).jobs
    ∙ ap (λ rows. rows ++ row ∷ []) (all_sparing_keep_jobs t b.before t (all_prepare_spare t b.before b.prepare))

-- no job has the number of the next one yet
pub number_is_new : (t : RunTable) → JobsRun t → (number : ℕ) → number ≡ t.started → job_at t number ≡ None
number_is_new t r number is = by_found (job_at t number) refl
  where
    by_found : (found : Option JobRecord) → job_at t number ≡ found → found ≡ None
    by_found None e = refl
    by_found (Some row) e =
        let at = find-Some (λ (j : JobRecord). j.number == number) t.jobs row e in
        let own : row.number ≡ number = eqb-true row.number number at.1 in
        let below = r.numbers row at.0 in
        absurd (omega (arith, own, below, is))

pub begins_found : (t : RunTable) (row : JobRecord) (changes : List Change) → JobsRun t → row.number ≡ t.started → BeginsAmong t row changes
    → job_at (all_changed t changes) row.number ≡ Some row
begins_found t row changes r number b =
    ap (find (λ (j : JobRecord). j.number == row.number)) (begins_last t row changes b)
    ∙ found-new (λ (j : JobRecord). j.number == row.number) t.jobs row (number_is_new t r row.number number) (eq-eqb row.number row.number refl)

pub command_found : (t : RunTable) (told exp : Told) (c : Cmd) (row : JobRecord) → JobsStand t → JobsRun t → IsMet t told c → job_begun t c ≡ Some row
    → job_at (all_changed t (edits_of t exp c)) row.number ≡ Some row
command_found t told exp c row j r met is =
    begins_found t row (edits_of t exp c) r (begun_number t c row is) (begun_among t told exp c row j is (none-holds t told (asks_of c) met.asks))

-- ---- how far jobs have come

pub command_goes : (first s : State) (h : List Event) (told exp : Told) (c : Cmd) (old new : Contents) (works : List JobWork) → TableAtRest s.table
    → JobsStand s.table → JobsRun s.table → AreWorksOf s.table works → IsOneCommand c → IsMet s.table told c → AllPerformed s (edits_of s.table exp c) old new
    → AreJobsAhead first h s old.reads works → AreJobsAhead first h (all_stepped s (edits_of s.table exp c)) new.reads works
command_goes first s h told exp c old new works rests j r belong one met did go =
    all_go works first h (edits_of s.table exp c) s old new (rests_by works s.table j) (command_leaves s.table told exp c works rests j r belong one met) did go

pub command_begins : (t : RunTable) (told exp : Told) (c : Cmd) (row : JobRecord) (works : List JobWork) → JobsStand t → JobsRun t → AreWorksOf t works
    → IsMet t told c → job_begun t c ≡ Some row → AreWorksOf (without_row row.number (all_changed t (edits_of t exp c))) works
command_begins t told exp c row works j r belong met is =
    begin_belongs works t row (edits_of t exp c) j r (begun_number t c row is)
    (begun_among t told exp c row j is (none-holds t told (asks_of c) met.asks)) belong
