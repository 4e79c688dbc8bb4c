-- Runs in which no count rises and no write would pass a capacity.
use Rattle.std.proofs.Common.{◌≡◌, ℕ, Bool, true, false, cond, List, [], ◌∷◌, ◌++◌, refl, sym, ◌∙◌, ap, subst, arith, Option, Some, None, Result, Ok, Err, inl, inr}
use Rattle.std.specs.Prelude.{◌==◌, All, option_and_then, slice_get, unwrap_or}
use Rattle.std.specs.List.{filter_map}
use Rattle.std.proofs.lemmas.List.Elements.{filter_map-append}
use Rattle.blk_base.specs.Counts.{HasFailedSince, Rose}
use Rattle.blk_base.specs.Pieces.{Extent}
use Rattle.blk_base.specs.declared.fault.DevNo.{DevNo}
use Rattle.blk_base.specs.declared.fault.Fault.{Fault}
use Rattle.blk_base.specs.declared.fault.Fault.TheVariants as faults
use Rattle.blk_base.specs.declared.fault.FaultFrom.{FaultFrom}
use Rattle.blk_base.specs.declared.fault.FaultFrom.TheVariants.{Store, Dev, Sink}
use Rattle.blk_base.specs.declared.fault.Outcome.{Outcome}
use Rattle.blk_base.specs.declared.fault.Outcome.TheVariants.{Good, Torn, Io, NoSpace}
use Rattle.blk_copy.specs.declared.transfers.Transfer.{Transfer}
use Rattle.blk_history.specs.Machine.{Flight}
use Rattle.blk_history.specs.declared.entry.JobEnd.{JobEnd}
use Rattle.blk_history.specs.declared.entry.JobEnd.TheVariants.{Completed, Pivoted, Copied, Failed, Cancelled}
use Rattle.blk_history.specs.declared.event.Event.{Event}
use Rattle.blk_history.specs.declared.event.Event.TheVariants.{Admit, Refuse, Piece, Retire, Reply, Reached, Start, Ready, End, Done as Ended}
use Rattle.blk_nodes.specs.Nodes.{Nodes, node_size}
use Rattle.blk_nodes.specs.Reading.{IsReadBelow}
use Rattle.block_jobs.specs.Work.{JobWork, after_settle, after_take, failed_by, left_again, sectors_left}
use Rattle.node_copies.specs.Putting.{CopiesBehind, CopiesBlock, PutsRuns, answer_of}
use Rattle.node_copies.specs.Sectors.{block_of, runs_of}
use Rattle.job_copies.specs.Guarding.{Guards, after_guard}
use Rattle.job_copies.specs.Settling.{Settles, after_write, settled_sectors}
use Rattle.job_copies.specs.Taking.{Takes}
use Rattle.job_progress.specs.Beginning.{begun_by, work_begun}
use Rattle.job_works.specs.Works.{marked_again, with_changed, with_work, without_work, work_of}
use Rattle.trace_codec.specs.Script.{Order}
use Rattle.qmp_codec.specs.Commands.{Cmd}
use Rattle.qmp_codec.specs.Lines.{command_at}
use Rattle.qmp_codec.specs.declared.event.JobKind.{JobKind}
use Rattle.qmp_codec.specs.declared.event.JobKind.TheVariants as kinds
use Rattle.qmp_rules.specs.Chains.{disk_node}
use Rattle.qmp_rules.specs.Queries.{bytes_of_node}
use Rattle.qmp_rules.specs.Table.{RunTable}
use Rattle.qmp_rules.specs.declared.rows.JobRecord.{JobRecord}
use Rattle.flat_machine.specs.Courses.{Course, course_after}
use Rattle.flat_machine.specs.Entries.{all_of}
use Rattle.flat_machine.specs.EventLicence.{IsCommandsFull, ReachesDevice, full_in_text}
use Rattle.flat_machine.specs.Jobs.{granules_of}
use Rattle.flat_machine.specs.Replies.{command_read}
use Rattle.flat_machine.specs.State.{Dirty, State, drive_of}
use Rattle.flat_machine.specs.declared.opening.Opening.{Opening}
use Rattle.world_parts.specs.Carrying.{FitsAll, would_pass}
use Rattle.world_parts.specs.Counting.{seen_sources}
use Rattle.world_parts.specs.Face.{WorldSeen, counts_now, seen_state}
use Rattle.world_parts.specs.Jobs.{EndsJob}
use Rattle.world_parts.specs.Piecing.{part_of}
use Rattle.qblk_core.specs.declared.status.Status.{Status}
use Rattle.qblk_core.specs.declared.status.Status.TheVariants.{Done, Usage, Input, Fault as Faulty, Stuck, NoMemory}
use Rattle.qblk_words.specs.Words.{Cast}
use Rattle.qblk_core.specs.Completeness.{HasStood}
use Rattle.world_files.specs.Closing.{IsBackAfterFlush}
use Rattle.qblk_run.specs.Completeness.{BlockHasSpace, EventHasSpace, GuardHasSpace, HasSpaceFor, HaveSpace, NamesNoFault, NoneHasRisen, PieceHasSpace, StepHasSpace, full_at_end, full_in}
use Rattle.qblk_run.specs.Run.{Setting, Answers, IsFaulty}
use Rattle.qblk_run.specs.Worlds.{AreStartsBehind, GoesThrough, IsGuardedFor, IsLeftBy, IsPieceEvent, IsReplyOf, IsUneventful, MakesEvent}
use Rattle.qblk_run.proofs.Counts.{again-same, marked-keeps}
use Rattle.qblk_run.proofs.Lists.{is-get, below-get, with-at, with-some}
use Rattle.qblk_run.proofs.Worlds.{put-off-left}

-- ---- no device is full

full-not : (w v : WorldSeen) (line : ℕ) (given : List ℕ) (text : List ℕ) (es : List Event) → IsReplyOf w v line given text es
    → ((c : Cmd) → command_read (command_at given) ≡ Some c → FitsAll w c) → full_in_text text ≡ None
full-not w v line given text es reply space = by_full (full_in_text text) refl
  where
    passes : (dev : ℕ) → full_in_text text ≡ Some dev → IsCommandsFull w.table (seen_sources w) (counts_now w) (would_pass w (command_read (command_at given))) (Some dev) (command_read (command_at given))
    passes dev is =
        let licensed = reply.replied.licensed.2 in
        subst (λ (full : Option ℕ). IsCommandsFull w.table (seen_sources w) (counts_now w) (would_pass w (command_read (command_at given))) full (command_read (command_at given)))
        (sym (ap full_in_text reply.says) ∙ is) licensed

    by_command : (dev : ℕ) (c : Option Cmd) → command_read (command_at given) ≡ c → IsCommandsFull w.table (seen_sources w) (counts_now w) (would_pass w c) (Some dev) c → ⊥
    by_command dev None is full = full.0
    by_command dev (Some c) is full = space c is (record { 0 = dev }) full.0 full.1

    by_full : (full : Option ℕ) → full_in_text text ≡ full → full ≡ None
    by_full None is = refl
    by_full (Some dev) is = absurd (by_command dev (command_read (command_at given)) refl (passes dev is))

-- ---- jobs that met no device that is full

-- the device that a job's first fault says to be full
abbrev full_met : Option Fault → Option ℕ
full_met None = None
full_met (Some fault) = full_at_end (Failed fault)

abbrev NoneAreFull : List JobWork → Type 0
NoneAreFull [] = Unit {0}
NoneAreFull (work ∷ works) = (full_met work.met ≡ None) × NoneAreFull works

full-found : (works : List JobWork) (job : ℕ) (work : JobWork) → NoneAreFull works → work_of works job ≡ Some work → full_met work.met ≡ None
full-found [] job work none is = let bad : ⊥ = cc is in absurd bad
full-found (w ∷ works) job work none is = by_test (w.job == job) is (full-found works job work none.1)
  where
    by_test : (b : Bool) → cond b (Some w) (work_of works job) ≡ Some work → (work_of works job ≡ Some work → full_met work.met ≡ None) → full_met work.met ≡ None
    by_test true e rest = let same : w ≡ work = cc e in subst (λ (x : JobWork). full_met x.met ≡ None) same none.0
    by_test false e rest = rest e

full-changed : (job : ℕ) (change : JobWork → JobWork) (works : List JobWork) → ((work : JobWork) → full_met work.met ≡ None → full_met (change work).met ≡ None)
    → NoneAreFull works → NoneAreFull (with_changed job change works)
full-changed job change [] keeps none = tt
full-changed job change (work ∷ works) keeps none = by_test (work.job == job) (full-changed job change works keeps none.1)
  where
    by_test : (b : Bool) → NoneAreFull (with_changed job change works) → NoneAreFull (cond b (change work ∷ works) (work ∷ with_changed job change works))
    by_test true rest = (keeps work none.0, none.1)
    by_test false rest = (none.0, rest)

full-with : (now : JobWork) (works : List JobWork) → full_met now.met ≡ None → NoneAreFull works → NoneAreFull (with_work now works)
full-with now works own none = full-changed now.job (λ work. now) works (λ work was. own) none

-- a job that has to copy again has met the same
full-again : (job : ℕ) (span : Extent) (works : List JobWork) → NoneAreFull works → NoneAreFull (marked_again job span works)
full-again job span works none =
    full-changed job (left_again span) works (λ work was. subst (λ (m : Option Fault). full_met m ≡ None) (sym (again-same span work).met) was) none

full-push : (works : List JobWork) (work : JobWork) → full_met work.met ≡ None → NoneAreFull works → NoneAreFull (works ++ work ∷ [])
full-push [] work own none = (own, tt)
full-push (w ∷ works) work own none = (none.0, full-push works work own none.1)

full-without : (job : ℕ) (works : List JobWork) → NoneAreFull works → NoneAreFull (without_work job works)
full-without job [] none = tt
full-without job (work ∷ works) none = by_test (work.job == job) (full-without job works none.1)
  where
    by_test : (b : Bool) → NoneAreFull (without_work job works) → NoneAreFull (cond b works (work ∷ without_work job works))
    by_test true rest = none.1
    by_test false rest = (none.0, rest)

-- the first fault stays
failed-full : (fault : Fault) (was : JobWork) → full_met was.met ≡ None → full_met (Some fault) ≡ None → full_met (failed_by fault was).met ≡ None
failed-full fault was none own = by_met was.met none
  where
    by_met : (met : Option Fault) → full_met met ≡ None → full_met (Some (unwrap_or met fault)) ≡ None
    by_met None none = own
    by_met (Some first) none = none

-- a write that doesn't pass a capacity fails otherwise
answer-full : (wrote : Outcome) (fault : Fault) → ((dev : DevNo) → wrote ≡ NoSpace dev → ⊥) → answer_of wrote ≡ Err fault → full_met (Some fault) ≡ None
answer-full Good fault fits is = let bad : ⊥ = cc is in absurd bad
answer-full (Torn done dev count) fault fits is = let same : faults.Io dev count ≡ fault = cc is in subst (λ (f : Fault). full_met (Some f) ≡ None) same refl
answer-full (Io dev count) fault fits is = let same : faults.Io dev count ≡ fault = cc is in subst (λ (f : Fault). full_met (Some f) ≡ None) same refl
answer-full (NoSpace dev) fault fits is = absurd (fits dev refl)

-- no read finds a device full
read-full : (old new : Nodes) (node : ℕ) (read : Outcome) → IsReadBelow old new node read → (dev : DevNo) → read ≡ NoSpace dev → ⊥
read-full old new node Good went dev is = let bad : ⊥ = cc is in bad
read-full old new node (Torn done other count) went dev is = went
read-full old new node (Io other count) went dev is = let bad : ⊥ = cc is in bad
read-full old new node (NoSpace other) went dev is = went

take-full : (kind : JobKind) (old new : Nodes) (was now : JobWork) (source position : ℕ) (buffer : List ℕ) (answer : Result (Option Transfer) Fault)
    → Takes kind old new was now source position buffer answer → full_met was.met ≡ None → full_met now.met ≡ None
take-full kind old new was now source position buffer (Ok None) takes none = subst (λ (work : JobWork). full_met work.met ≡ None) (sym takes.2) none
take-full kind old new was now source position buffer (Ok (Some t)) takes none = subst (λ (work : JobWork). full_met work.met ≡ None) (sym takes.work) (by_kind kind)
  where
    by_kind : (kind : JobKind) → full_met (after_take kind t was).met ≡ None
    by_kind kinds.Mirror = none
    by_kind kinds.Backup = none
    by_kind kinds.Stream = none
    by_kind kinds.Commit = none
take-full kind old new was now source position buffer (Err fault) takes none =
    subst (λ (work : JobWork). full_met work.met ≡ None) (sym takes.work)
    (failed-full fault was none (answer-full takes.read fault (read-full old new source takes.read takes.reads.went) takes.is))

settle-full : (kind : JobKind) (old new : Nodes) (was now : JobWork) (target : ℕ) (t : Transfer) (bytes : List ℕ) (answer : Bool)
    → Settles kind old new was now target t bytes answer → BlockHasSpace old target t.cluster → full_met was.met ≡ None → full_met now.met ≡ None
settle-full kind old new was now target t bytes false settles space none = subst (λ (work : JobWork). full_met work.met ≡ None) (sym settles.2) none
settle-full kind old new was now target t bytes true settles space none =
    subst (λ (work : JobWork). full_met work.met ≡ None) (sym settles.work) (by_answer (answer_of settles.wrote) refl)
  where
    fits : (dev : DevNo) → settles.wrote ≡ NoSpace dev → ⊥
    fits dev is = space new (settled_sectors kind was t.cluster) bytes dev
        (subst (PutsRuns (runs_of (block_of (node_size old target) t.cluster) (settled_sectors kind was t.cluster)) (block_of (node_size old target) t.cluster) old new target bytes) is settles.puts)

    by_kind : (kind : JobKind) → full_met (after_settle kind t.cluster was).met ≡ None
    by_kind kinds.Mirror = none
    by_kind kinds.Backup = none
    by_kind kinds.Stream = none
    by_kind kinds.Commit = none

    by_answer : (result : Result (Unit {0}) Fault) → answer_of settles.wrote ≡ result → full_met (after_write result kind t.cluster was).met ≡ None
    by_answer (Ok done) is = by_kind kind
    by_answer (Err fault) is = failed-full fault was none (answer-full settles.wrote fault fits is)

guard-full : (old new : Nodes) (was now : JobWork) (source target block : ℕ) → Guards old new was now source target block → BlockHasSpace old target block
    → full_met was.met ≡ None → full_met now.met ≡ None
guard-full old new was now source target block (inl same) space none = subst (λ (work : JobWork). full_met work.met ≡ None) (sym same.2) none
guard-full old new was now source target block (inr copies) space none =
    subst (λ (work : JobWork). full_met work.met ≡ None) (sym copies.work) (by_answer copies.result refl)
  where
    its : CopiesBlock old new source target (block_of (node_size old target) block) (sectors_left was block) copies.result
    its = copies.copies

    by_read : (read : Outcome) (fault : Fault) → IsReadBelow old its.between source read
        → CopiesBehind read its.between new target (block_of (node_size old target) block) (sectors_left was block) its.bytes copies.result
        → copies.result ≡ Err fault → full_met (Some fault) ≡ None
    by_read Good fault went behind is = answer-full behind.0 fault (λ dev full.
        space new (sectors_left was block) its.bytes dev
        (subst (λ (x : Nodes). PutsRuns (runs_of (block_of (node_size old target) block) (sectors_left was block)) (block_of (node_size old target) block) x new target its.bytes (NoSpace dev)) went
        (subst (PutsRuns (runs_of (block_of (node_size old target) block) (sectors_left was block)) (block_of (node_size old target) block) its.between new target its.bytes) full behind.1)))
        (sym behind.2 ∙ is)
    by_read (Torn done dev count) fault went behind is = absurd went
    by_read (Io dev count) fault went behind is = answer-full (Io dev count) fault (λ other bad. let no : ⊥ = cc bad in no) (sym behind.1 ∙ is)
    by_read (NoSpace dev) fault went behind is = absurd went

    by_answer : (result : Result (Unit {0}) Fault) → copies.result ≡ result → full_met (after_guard result block was).met ≡ None
    by_answer (Ok done) is = none
    by_answer (Err fault) is = failed-full fault was none (by_read its.read fault its.went its.behind is)

begun-full : (s : State) (row : JobRecord) → full_met (work_begun s row).met ≡ None
begun-full s row = by_granules (granules_of s row row.bitmap)
  where
    by_granules : (d : Option Dirty) → full_met (begun_by row (bytes_of_node s.table row.source) d).met ≡ None
    by_granules None = refl
    by_granules (Some d) = refl

-- ---- one event

-- what comes of it: no entry names a device that is full, and no job has met one
record IsUnharmed (v : WorldSeen) (es : List Event) : Type 0 where
  pub entries : filter_map full_in es ≡ []
  pub works : NoneAreFull v.works

guarded-full : (w v : WorldSeen) (g : ℕ) (f : Flight) (guarded : IsGuardedFor w v g f) → GuardHasSpace w v g f guarded → NoneAreFull w.works → NoneAreFull v.works
guarded-full w v g f (inl same) space none = subst NoneAreFull (ap (λ (u : WorldSeen). u.works) (sym same.0)) none
guarded-full w v g f (inr guards) space none =
    let change = guards.guards.guards in
    let own = guard-full w.nodes v.nodes change.was change.now guards.row.source guards.target guards.block change.done.guards space
    (full-found w.works guards.row.number change.was none change.there) in
    subst NoneAreFull (sym change.kept) (full-with change.now w.works own none)

piece-full : (w v : WorldSeen) (g r k : ℕ) (outcome : Outcome) (got : List ℕ) (event : IsPieceEvent w v g outcome) → PieceHasSpace event.makes.between g event.flight
    → full_in (Piece g r k outcome got) ≡ None
piece-full w v g r k Good got event space = refl
piece-full w v g r k (Torn done dev count) got event space = refl
piece-full w v g r k (Io dev count) got event space = refl
piece-full w v g r k (NoSpace dev) got event space =
    let x = event.makes.between in
    let licensed = event.makes.licence.licensed in
    let reached : ReachesDevice x.table (seen_sources x) event.makes.made.drive dev.0 =
    with-at (drive_of x.table g) event.makes.made.drive (λ node. ReachesDevice x.table (seen_sources x) node dev.0) event.makes.made.on licensed.0 in
    absurd (space event.makes.made.drive dev.0 event.makes.made.on reached licensed.2)

-- a job ends with what it met
end-full : (w v : WorldSeen) (row : JobRecord) (why : JobEnd) (offset : ℕ) → EndsJob w v row why offset → NoneAreFull w.works → full_at_end why ≡ None
end-full w v row (Failed fault) offset ends none = by_work (work_of w.works row.number) refl ends.met
  where
    by_work : (x : Option JobWork) → work_of w.works row.number ≡ x → option_and_then (λ work. work.met) x ≡ Some fault → full_at_end (Failed fault) ≡ None
    by_work None is met = let bad : ⊥ = cc met in absurd bad
    by_work (Some work) is met = subst (λ (m : Option Fault). full_met m ≡ None) met (full-found w.works row.number work none is)
end-full w v row Completed offset ends none = refl
end-full w v row Pivoted offset ends none = refl
end-full w v row Copied offset ends none = refl
end-full w v row (Cancelled cause) offset ends none = refl

one-entry : (e : Event) → full_in e ≡ None → filter_map full_in (e ∷ []) ≡ []
one-entry e none = rw none refl

starts-unharmed : (t : RunTable) (w v : WorldSeen) (es : List Event) → AreStartsBehind t w v es → NoneAreFull w.works → IsUnharmed v es
starts-unharmed t w v [] begins none = record { entries = refl; works = subst NoneAreFull (sym (ap (λ (u : WorldSeen). u.works) begins.kept)) none }
starts-unharmed t w v (Start job ∷ []) begins none = record {
  entries = refl;
  works = subst NoneAreFull (sym (ap (λ (u : WorldSeen). u.works) begins.0.begins.kept))
      (full-push w.works (work_begun (seen_state w) begins.0.row) (begun-full (seen_state w) begins.0.row) none);
}
starts-unharmed t w v (Start job ∷ e ∷ es) begins none = absurd begins
starts-unharmed t w v (Admit g r op ∷ es) begins none = absurd begins
starts-unharmed t w v (Refuse g r op why ∷ es) begins none = absurd begins
starts-unharmed t w v (Piece g r k outcome got ∷ es) begins none = absurd begins
starts-unharmed t w v (Retire g r ∷ es) begins none = absurd begins
starts-unharmed t w v (Reply line given command text ∷ es) begins none = absurd begins
starts-unharmed t w v (Reached line what ∷ es) begins none = absurd begins
starts-unharmed t w v (Ready job ∷ es) begins none = absurd begins
starts-unharmed t w v (End job outcome offset ∷ es) begins none = absurd begins
starts-unharmed t w v (Ended actor ∷ es) begins none = absurd begins

-- one that is alone, and leaves the works
same-unharmed : (w v : WorldSeen) (e : Event) (es : List Event) → es ≡ [] → full_in e ≡ None → v.works ≡ w.works → NoneAreFull w.works → IsUnharmed v (e ∷ es)
same-unharmed w v e es alone silent same none =
    record { entries = rw (alone, silent) refl; works = subst NoneAreFull (sym same) none }

event-unharmed : (w v : WorldSeen) (e : Event) (es : List Event) (left : IsLeftBy w v e es) → EventHasSpace w v e es left → NoneAreFull w.works → IsUnharmed v (e ∷ es)
event-unharmed w v (Reply line given command text) es left space none =
    let silent = full-not w v line given text es left space in
    let behind = starts-unharmed w.table left.between v es left.begins (subst NoneAreFull (sym left.replied.works) none) in
    record { entries = rw silent behind.entries; works = behind.works }
event-unharmed w v (Admit g r op) es left space none =
    same-unharmed w v (Admit g r op) es left.0 refl (ap (λ (u : WorldSeen). u.works) left.1.1) none
event-unharmed w v (Refuse g r op why) es left space none =
    same-unharmed w v (Refuse g r op why) es left.0 refl (ap (λ (u : WorldSeen). u.works) left.1.1) none
event-unharmed w v (Piece g r k outcome got) es left space none =
    let f = left.1.flight in
    let x = left.1.makes.between in
    let made = left.1.makes.made in
    record {
      entries = rw (left.0, piece-full w v g r k outcome got left.1 space.own) refl;
      works = subst NoneAreFull (sym (ap (λ (u : WorldSeen). u.works) made.kept))
          (marked-keeps NoneAreFull full-again f.op outcome x.table (disk_node x.table made.drive) (part_of f) x.works
          (guarded-full w x g f left.1.makes.guarded space.guard none));
    }
event-unharmed w v (Retire g r) es left space none = same-unharmed w v (Retire g r) es left.0 refl (ap (λ (u : WorldSeen). u.works) left.1) none
event-unharmed w v (Reached line what) es left space none = same-unharmed w v (Reached line what) es left.0 refl (ap (λ (u : WorldSeen). u.works) left.1) none
event-unharmed w v (Start job) es left space none = absurd left.1
event-unharmed w v (Ready job) es left space none = same-unharmed w v (Ready job) es left.0 refl (ap (λ (u : WorldSeen). u.works) left.1.readies.kept) none
event-unharmed w v (End job outcome offset) es left space none = record {
  entries = rw (left.0, end-full w v left.1.row outcome offset left.1.ends none) refl;
  works = subst NoneAreFull (sym (ap (λ (u : WorldSeen). u.works) left.1.ends.kept)) (full-without left.1.row.number w.works none);
}
event-unharmed w v (Ended actor) es left space none = same-unharmed w v (Ended actor) es left.0 refl (ap (λ (u : WorldSeen). u.works) left.1) none

still-unharmed : (orders : List Order) (w v : WorldSeen) (still : IsUneventful orders w v) → StepHasSpace orders w v still → NoneAreFull w.works → NoneAreFull v.works
still-unharmed orders w v (inl off) space none = subst NoneAreFull (sym (ap (λ (u : WorldSeen). u.works) (put-off-left orders w v off))) none
still-unharmed orders w v (inr (inl took)) space none =
    let change = took.takes.takes in
    let own = take-full took.row.kind w.nodes v.nodes change.was change.now took.row.source _ took.buffer took.answer change.done.takes
    (full-found w.works took.row.number change.was none change.there) in
    subst NoneAreFull (sym change.kept) (full-with change.now w.works own none)
still-unharmed orders w v (inr (inr (inl settled))) space none =
    let change = settled.settles.settles in
    let own = settle-full settled.row.kind w.nodes v.nodes change.was change.now settled.target settled.transfer settled.bytes settled.answer change.done.settles space
    (full-found w.works settled.row.number change.was none change.there) in
    subst NoneAreFull (sym change.kept) (full-with change.now w.works own none)
still-unharmed orders w v (inr (inr (inr drains))) space none = subst NoneAreFull (sym (ap (λ (u : WorldSeen). u.works) drains.kept)) none

made-unharmed : (orders : List Order) (w v : WorldSeen) (es : List Event) (made : MakesEvent orders w v es) → HasSpaceFor orders w v es made → NoneAreFull w.works → IsUnharmed v es
made-unharmed orders w v [] made space none = record { entries = refl; works = still-unharmed orders w v made space none }
made-unharmed orders w v (e ∷ es) made space none = event-unharmed w v e es made.left space none

pub none-full : (o : Opening) (c : Course) (w : WorldSeen) (events : List (List Event)) (v : WorldSeen) (through : GoesThrough o c w events v) → HaveSpace o c w events v through
    → NoneAreFull w.works → filter_map full_in (all_of events) ≡ []
none-full o c w [] v through space none = refl
none-full o c w (es ∷ events) v through space none =
    let first = made-unharmed c.script w through.0 es through.2 space.0 none in
    let rest = none-full o (course_after c es) through.0 events v through.3 space.1 first.works in
    filter_map-append full_in es (all_of events) ∙ rw (first.entries, rest) refl

-- ---- no count rises

not-failed : (before now count : ℕ) → HasStood before now → HasFailedSince before count → count ≡ now → ⊥
not-failed before now count stood failed same =
    let less = stood.0 in
    let still = stood.1 in
    omega arith

not-rose : (before now count : ℕ) → HasStood before now → Rose before count → count ≡ now → ⊥
not-rose before now count stood rose same = not-failed before now count stood (omega (arith, rose)) same

all-at : {A : Type 0} (P : A → Type 0) (xs : List A) (n : ℕ) (x : A) → All P xs → slice_get xs n ≡ Some x → P x
all-at P xs n x all is = subst P (is-get xs n x x is) (all n x (below-get xs n x is))

faultless : (cast : Cast) (old new : Setting) (from : FaultFrom) (count : ℕ) → NoneHasRisen old new → IsFaulty cast old new from count → ⊥
faultless cast old new Store count none fault = not-rose old.store.faults new.store.faults count none.store fault.1 fault.2
faultless cast old new (Dev dev) count none (work, a, n, stopped, out) =
    let run = stopped.was.run in
    let fails = run.flush.2 in
    let at = with-some (slice_get a.openings run.flush.0.0) (λ o. IsBackAfterFlush count o × HasFailedSince o.faults count) fails.last in
    let stood = all-at (λ o. (c : ℕ) → o.returned ≡ Some c → HasStood o.faults c) a.openings run.flush.0.0 at.0 (none.devices a.openings run.openings) at.1 count at.2.0.0 in
    not-failed at.0.faults count count stood at.2.1 refl
faultless cast old new Sink count none (work, a, n, stopped, rose, same) = not-rose old.sink_faults new.sink_faults count none.sink rose same

pub no-fault : (cast : Cast) (old new : Setting) (status : Status) → Answers cast old new status → NoneHasRisen old new → NamesNoFault status
no-fault cast old new Done answers none = tt
no-fault cast old new Usage answers none = tt
no-fault cast old new (Input name line why) answers none = tt
no-fault cast old new (Faulty from count) answers none = faultless cast old new from count none answers
no-fault cast old new (Stuck actor what) answers none = tt
no-fault cast old new NoMemory answers none = tt
