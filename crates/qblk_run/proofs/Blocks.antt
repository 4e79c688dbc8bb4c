-- A block that is copied in a slot's turn, and a slot for whose job nothing is to be done.
use Rattle.std.proofs.Common.{◌≡◌, ℕ, ◌<◌, Bool, true, false, not, List, [], ◌∷◌, ◌++◌, length, refl, sym, ◌∙◌, ap, subst, arith, Option, Some, None, Result, Ok, Err, inl, inr}
use Rattle.std.specs.Prelude.{◌==◌, ◌&&◌, if◌then◌else◌, IsSome, is_some, slice_get}
use Rattle.std.specs.List.{list_any}
use Rattle.std.proofs.lemmas.Bool.{false≢true}
use Rattle.blk_base.specs.declared.fault.Fault.{Fault}
use Rattle.blk_bits.specs.Granules.{member_count}
use Rattle.blk_copy.specs.Rows.{is_in_flight}
use Rattle.blk_copy.specs.declared.transfers.Transfer.{Transfer}
use Rattle.blk_history.specs.Fold.{With}
use Rattle.blk_history.specs.declared.entry.JobEnd.{JobEnd}
use Rattle.blk_history.specs.declared.entry.JobEnd.TheVariants.{Completed}
use Rattle.block_jobs.specs.Work.{JobWork, after_settle, after_take, failed_by, has_left, next_block}
use Rattle.flat_machine.specs.Blocked.{JobWaits}
use Rattle.flat_machine.specs.Jobs.{can_be_ready}
use Rattle.flat_machine.specs.Marks.{Drained, after_turn, ends_by, must_drain}
use Rattle.flat_machine.specs.declared.opening.Opening.{Opening}
use Rattle.job_copies.specs.Settling.{Settles, after_write}
use Rattle.job_copies.specs.Taking.{FailsToTake, Takes, TakesBlock as TakesOf}
use Rattle.job_progress.specs.Going.{copies_blocks}
use Rattle.job_turns.specs.Turns.{copied_step, going_step, has_next, has_rows, ready_end, step_before, step_of, stop_of}
use Rattle.job_turns.specs.declared.step.Step.{Step}
use Rattle.job_turns.specs.declared.step.Step.TheVariants as step
use Rattle.job_works.specs.Works.{with_work, work_of}
use Rattle.job_works.proofs.Changed.{job_found}
use Rattle.node_copies.specs.Putting.{answer_of}
use Rattle.qmp_codec.specs.declared.event.JobKind.{JobKind}
use Rattle.qmp_codec.specs.declared.event.JobKind.TheVariants.{Backup, Commit, Mirror, Stream}
use Rattle.qmp_rules.specs.Chains.{is_listed}
use Rattle.qmp_rules.specs.Table.{job_at, job_in}
use Rattle.qmp_rules.specs.declared.rows.AskedEnd.{AskedEnd}
use Rattle.qmp_rules.specs.declared.rows.AskedEnd.TheVariants as asked
use Rattle.qmp_rules.specs.declared.rows.JobRecord.{JobRecord}
use Rattle.world_parts.specs.Comes.{Comes}
use Rattle.world_parts.specs.Face.{WorldSeen, seen_state}
use Rattle.world_parts.specs.Jobs.{SettlesBlock}
use Rattle.qblk_run.specs.Slots.{HasSettled, HasStep, HasTaken, NoneFlies, SettlesFor, SlotCopies, SlotPutsOff, SlotRests, SlotStays, StandsInRun, TakesInSlot, drains_for, given_of, parts_left}
use Rattle.qblk_run.proofs.Counts.{failed-less, flights-again, flights-found, flights-with, found-with, next-left, parts-with, settled-lands, settled-less, taken-flies}
use Rattle.qblk_run.proofs.Lists.{with-map}

-- ---- what a turn says

ready-not-copy : (all_done : Bool) (what : AskedEnd) → ready_end all_done what ≡ step.Copy → ⊥
ready-not-copy all_done asked.Complete is = let bad : ⊥ = cc is in bad
ready-not-copy all_done asked.Leave is = let bad : ⊥ = cc is in bad
ready-not-copy all_done asked.Stop is = let bad : ⊥ = cc is in bad
ready-not-copy true asked.Nothing is = let bad : ⊥ = cc is in bad
ready-not-copy false asked.Nothing is = let bad : ⊥ = cc is in bad

copied-not-copy : (all_done : Bool) (row : JobRecord) → copied_step all_done row ≡ step.Copy → ⊥
copied-not-copy all_done row is = by_tests (can_be_ready row row.kind) row.is_ready is
  where
    by_tests : (b c : Bool) → (if not b then step.Finish Completed else if c then ready_end all_done row.asked else step.GetReady) ≡ step.Copy → ⊥
    by_tests false c is = let bad : ⊥ = cc is in bad
    by_tests true true is = ready-not-copy all_done row.asked is
    by_tests true false is = let bad : ⊥ = cc is in bad

going-not-copy : (all_done : Bool) (row : JobRecord) (work : JobWork) → going_step all_done row work ≡ step.Copy → ⊥
going-not-copy all_done row work is = by_tests (has_rows work) (list_any (λ part. part) work.left) is
  where
    by_tests : (b c : Bool) → (if b then step.Wait else if c then step.Go else copied_step all_done row) ≡ step.Copy → ⊥
    by_tests true c is = let bad : ⊥ = cc is in bad
    by_tests false true is = let bad : ⊥ = cc is in bad
    by_tests false false is = copied-not-copy all_done row is

-- where a block is to be read there is one
pub copy-next : (all_done : Bool) (row : JobRecord) (work : JobWork) → step_of all_done row work ≡ step.Copy → (block : ℕ) × (next_block work ≡ Some block)
unfolding step_of
copy-next all_done row work is = by_stop (stop_of row work) is
  where
    by_block : (x : Option ℕ) → next_block work ≡ x → is_some x ≡ true → (block : ℕ) × (next_block work ≡ Some block)
    by_block None none some = absurd (false≢true some)
    by_block (Some block) found some = (block, found)

    by_kind : (b : Bool) → copies_blocks row.kind ≡ b → (if b then is_some (next_block work) else false) ≡ true → (block : ℕ) × (next_block work ≡ Some block)
    by_kind true e has = by_block (next_block work) refl has
    by_kind false e has = absurd (false≢true has)

    by_next : (b : Bool) → has_next row work ≡ b → (if b then step.Copy else going_step all_done row work) ≡ step.Copy → (block : ℕ) × (next_block work ≡ Some block)
    by_next true e is = by_kind (copies_blocks row.kind) refl e
    by_next false e is = absurd (going-not-copy all_done row work is)

    by_stop : (stop : Option JobEnd) → step_before all_done row work stop ≡ step.Copy → (block : ℕ) × (next_block work ≡ Some block)
    by_stop None is = by_next (has_next row work) refl is
    by_stop (Some outcome) is = absurd (let bad : ⊥ = cc is in bad)

-- a ready job for which nothing is to be done is not asked to end, and script or guests are not done
ready-waits : (all_done : Bool) (what : AskedEnd) → ready_end all_done what ≡ step.Wait → (what ≡ asked.Nothing) × (all_done ≡ false)
ready-waits all_done asked.Complete is = let bad : ⊥ = cc is in absurd bad
ready-waits all_done asked.Leave is = let bad : ⊥ = cc is in absurd bad
ready-waits all_done asked.Stop is = let bad : ⊥ = cc is in absurd bad
ready-waits true asked.Nothing is = let bad : ⊥ = cc is in absurd bad
ready-waits false asked.Nothing is = (refl, refl)

-- and one of which no copy is in flight is ready then
step-waits : (all_done : Bool) (row : JobRecord) (work : JobWork) → work.rows ≡ [] → step_of all_done row work ≡ step.Wait
    → (row.is_ready ≡ true) × (row.asked ≡ asked.Nothing) × (all_done ≡ false)
unfolding step_of
step-waits all_done row work none is = by_stop (stop_of row work) is
  where
    by_ready : (c : Bool) → row.is_ready ≡ c → (if c then ready_end all_done row.asked else step.GetReady) ≡ step.Wait
        → (row.is_ready ≡ true) × (row.asked ≡ asked.Nothing) × (all_done ≡ false)
    by_ready true e is = let waits = ready-waits all_done row.asked is in (e, waits.0, waits.1)
    by_ready false e is = let bad : ⊥ = cc is in absurd bad

    by_can : (b : Bool) → (if not b then step.Finish Completed else if row.is_ready then ready_end all_done row.asked else step.GetReady) ≡ step.Wait
        → (row.is_ready ≡ true) × (row.asked ≡ asked.Nothing) × (all_done ≡ false)
    by_can false is = let bad : ⊥ = cc is in absurd bad
    by_can true is = by_ready row.is_ready refl is

    by_left : (c : Bool) → (if c then step.Go else copied_step all_done row) ≡ step.Wait → (row.is_ready ≡ true) × (row.asked ≡ asked.Nothing) × (all_done ≡ false)
    by_left true is = let bad : ⊥ = cc is in absurd bad
    by_left false is = by_can (can_be_ready row row.kind) is

    by_rows : (b : Bool) → b ≡ false → (if b then step.Wait else if list_any (λ part. part) work.left then step.Go else copied_step all_done row) ≡ step.Wait
        → (row.is_ready ≡ true) × (row.asked ≡ asked.Nothing) × (all_done ≡ false)
    by_rows false e is = by_left (list_any (λ part. part) work.left) is
    by_rows true e is = absurd (false≢true (sym e))

    by_next : (b : Bool) → (if b then step.Copy else going_step all_done row work) ≡ step.Wait → (row.is_ready ≡ true) × (row.asked ≡ asked.Nothing) × (all_done ≡ false)
    by_next true is = let bad : ⊥ = cc is in absurd bad
    by_next false is = by_rows (has_rows work) (ap (λ (rows : List Transfer). not (length rows == 0)) none) is

    by_stop : (stop : Option JobEnd) → step_before all_done row work stop ≡ step.Wait → (row.is_ready ≡ true) × (row.asked ≡ asked.Nothing) × (all_done ≡ false)
    by_stop None is = by_next (has_next row work) is
    by_stop (Some outcome) is = let bad : ⊥ = cc is in absurd bad

-- ---- what is drained

-- a job that is not asked to end drains nothing
asked-drains : (row : JobRecord) → row.asked ≡ asked.Nothing → must_drain row ≡ false
asked-drains row none = by_can (can_be_ready row row.kind)
  where
    by_can : (b : Bool) → (b && ends_by row.asked) ≡ false
    by_can true = ap ends_by none
    by_can false = refl

-- else its own number comes to those of jobs
turn-drains : (job : ℕ) (drains : Drained) → after_turn job drains ≡ record drains { jobs = (after_turn job drains).jobs }
turn-drains job drains = by_listed (is_listed job drains.jobs)
  where
    by_listed : (b : Bool) → (if b then drains else record drains { jobs = drains.jobs ++ job ∷ [] })
        ≡ record drains { jobs = (if b then drains else record drains { jobs = drains.jobs ++ job ∷ [] }).jobs }
    by_listed true = refl
    by_listed false = refl

job-drains : (row : JobRecord) (drains : Drained) → drains_for row drains ≡ record drains { jobs = (drains_for row drains).jobs }
job-drains row drains = by_asked (must_drain row)
  where
    by_asked : (b : Bool) → (if b then after_turn row.number drains else drains) ≡ record drains { jobs = (if b then after_turn row.number drains else drains).jobs }
    by_asked true = turn-drains row.number drains
    by_asked false = refl

kept-jobs : (w v : WorldSeen) (drains : Drained) → drains ≡ record w.drains { jobs = drains.jobs } → v ≡ record w { drains = drains }
    → v ≡ record w { drains = record w.drains { jobs = v.drains.jobs } }
kept-jobs w v drains own kept = rw kept (ap (λ (d : Drained). record w { drains = d }) own)

-- ---- a slot in which nothing is done

pub none-rests : (w v : WorldSeen) (slot : ℕ) → job_in w.table slot ≡ None → v ≡ w → SlotRests w v slot
none-rests w v slot none same =
    rw same (record { kept = refl; halts = inl (subst (JobWaits (seen_state w)) (sym none) tt); waits = λ waits. refl })

pub idle-rests : (w v : WorldSeen) (slot : ℕ) → StandsInRun w → SlotStays w v slot step.Wait → SlotRests w v slot
idle-rests w v slot stands stays =
    let has = stays.has in
    let ready = step-waits has.all_done has.row has.work (flights-found w.works has.row.number has.work stands.flights has.copies) has.is in
    let waits : JobWaits (seen_state w) (Some has.row) = (ready.0, ready.1, λ all. false≢true (sym ready.2 ∙ has.done.1 all)) in
    let undrained : drains_for has.row w.drains ≡ w.drains =
    ap (λ (b : Bool). if b then after_turn has.row.number w.drains else w.drains) (asked-drains has.row ready.1) in
    let same : v ≡ w = stays.kept ∙ ap (λ (d : Drained). record w { drains = d }) undrained in
    rw same (record { kept = refl; halts = inl (subst (JobWaits (seen_state w)) (sym has.there) waits); waits = λ was. refl })

pub put-off-rests : (w v : WorldSeen) (slot g r : ℕ) → SlotPutsOff w v slot g r → SlotRests w v slot
put-off-rests w v slot g r off = record {
  kept = kept-jobs w v (after_turn off.row.number w.drains) (turn-drains off.row.number w.drains) off.kept;
  halts = inr (record {
    row = off.row;
    there = there;
    guest = g;
    flies = subst (λ (u : WorldSeen). With (slice_get u.progress.guests g) (λ row. IsSome row.flight)) (sym off.kept)
        (with-map (slice_get w.progress.guests g) (λ row. (r ≡ row.done) × IsSome row.flight) (λ row. IsSome row.flight) (λ row both. both.1) off.waits.waits.waits.request);
  });
  waits = λ waits.
      let job : JobWaits (seen_state v) (Some off.row) = subst (JobWaits (seen_state v)) there waits in
      absurd (false≢true (sym (asked-drains off.row job.1) ∙ off.waits.asked));
}
  where
    there : job_in v.table slot ≡ Some off.row
    there = ap (λ (u : WorldSeen). job_in u.table slot) off.kept ∙ off.there

-- ---- a slot whose job does no more in its turn than to hold its disk

pub step-stays : (w v : WorldSeen) (slot : ℕ) (is : Step) → SlotStays w v slot is → HasStep v slot is
step-stays w v slot is stays =
    let has = stays.has in
    subst (λ (u : WorldSeen). HasStep u slot is) (sym stays.kept)
    (record { row = has.row; work = has.work; all_done = has.all_done; done = has.done; there = has.there; copies = has.copies; is = has.is })

pub stays-stands : (w v : WorldSeen) (slot : ℕ) (is : Step) → SlotStays w v slot is → ((o : Opening) → Comes o w → Comes o v) → StandsInRun w → StandsInRun v
stays-stands w v slot is stays comes stands =
    record { opening = stands.opening; comes = comes stands.opening stands.comes; flights = rw stays.kept stands.flights }

-- a block that is copied then is so of the world before
pub stays-copies : (w x v : WorldSeen) (slot : ℕ) (is : Step) → SlotStays w x slot is → SlotCopies x v → SlotCopies w v
stays-copies w x v slot is stays copies =
    let works : x.works ≡ w.works = ap (λ (u : WorldSeen). u.works) stays.kept in
    record {
      kept = copies.kept
          ∙ ap (λ (u : WorldSeen). record u { nodes = v.nodes; works = v.works; drains = record u.drains { jobs = v.drains.jobs } })
          (kept-jobs w x (drains_for stays.has.row w.drains) (job-drains stays.has.row w.drains) stays.kept);
      less = subst (λ (all : List JobWork). parts_left v.works < parts_left all) works copies.less;
      flights = copies.flights;
    }

-- ---- works, by what is copied

-- the copy of a block that was in flight is over, and none else was
settled-left : (kind : JobKind) (was : JobWork) (t : Transfer) → has_left was t.cluster ≡ true
    → member_count (after_settle kind t.cluster (after_take kind t was)).left < member_count was.left
settled-left Backup was t has = settled-less was t has
settled-left Mirror was t has = settled-less was t has
settled-left Stream was t has = settled-less was t has
settled-left Commit was t has = settled-less was t has

settled-none : (kind : JobKind) (was : JobWork) (t : Transfer) → was.rows ≡ [] → t.job ≡ was.job → (after_settle kind t.cluster (after_take kind t was)).rows ≡ []
settled-none Backup was t none own = settled-lands was t none own
settled-none Mirror was t none own = settled-lands was t none own
settled-none Stream was t none own = settled-lands was t none own
settled-none Commit was t none own = settled-lands was t none own

-- before it was found in flight
taken-in-flight : (kind : JobKind) (was : JobWork) (t : Transfer) → was.rows ≡ [] → is_in_flight t (after_take kind t was).rows ≡ true
taken-in-flight Backup was t none = taken-flies was t none
taken-in-flight Mirror was t none = taken-flies was t none
taken-in-flight Stream was t none = taken-flies was t none
taken-in-flight Commit was t none = taken-flies was t none

copies-kept : (w v : WorldSeen) → v ≡ record w { nodes = v.nodes; works = v.works }
    → v ≡ record w { nodes = v.nodes; works = v.works; drains = record w.drains { jobs = v.drains.jobs } }
copies-kept w v kept =
    kept ∙ ap (λ (jobs : List ℕ). record w { nodes = v.nodes; works = v.works; drains = record w.drains { jobs = jobs } }) (sym (ap (λ (u : WorldSeen). u.drains.jobs) kept))

-- ---- a block is read

same-some : {A : Type 0} (x : Option A) (a b : A) → x ≡ Some a → x ≡ Some b → a ≡ b
same-some x a b one other = let same : Some a ≡ Some b = sym one ∙ other in cc same

module _ (w x : WorldSeen) (slot : ℕ) (buffer : List ℕ) (result : Option Transfer) (stands : StandsInRun w) (has : HasStep w slot step.Copy) where
  pub took-in : HasTaken w x slot buffer result → TakesInSlot w x slot buffer result
  took-in (inl none) = let bad : ⊥ = cc (sym none.0 ∙ has.there) in absurd bad
  took-in (inr took) = took

  module _ (took : TakesInSlot w x slot buffer result) where
    row-is : took.row ≡ has.row
    row-is = same-some (job_in w.table slot) took.row has.row took.there has.there

    was-is : took.takes.takes.was ≡ has.work
    was-is = same-some (work_of w.works took.row.number) took.takes.takes.was has.work took.takes.takes.there
        (ap (λ (row : JobRecord). work_of w.works row.number) row-is ∙ has.copies)

    was-next : (block : ℕ) × (next_block took.takes.takes.was ≡ Some block)
    was-next = let next = copy-next has.all_done has.row has.work has.is in (next.0, ap next_block was-is ∙ next.1)

    was-own : took.takes.takes.was.job ≡ took.row.number
    was-own = job_found w.works took.row.number took.takes.takes.was took.takes.takes.there

    was-lands : took.takes.takes.was.rows ≡ []
    was-lands = flights-found w.works took.row.number took.takes.takes.was stands.flights took.takes.takes.there

    now-own : took.takes.takes.now.job ≡ took.row.number
    now-own = took.takes.takes.same ∙ was-own

    -- the read failed
    read-fails : (fault : Fault) → FailsToTake w.nodes x.nodes took.takes.takes.was took.takes.takes.now took.row.source buffer fault → SlotCopies w x
    read-fails fault fails =
        let was = took.takes.takes.was in
        let now = took.takes.takes.now in
        let sum = parts-with took.row.number was now w.works now-own took.takes.takes.there in
        let left : member_count now.left ≡ member_count (failed_by fault was).left = ap (λ (work : JobWork). member_count work.left) fails.work in
        let less = failed-less was was fault fails.block (next-left was fails.block fails.next) refl in
        let all : parts_left x.works ≡ parts_left (with_work now w.works) = ap parts_left took.takes.takes.kept in
        record {
          kept = copies-kept w x took.takes.copies.kept;
          less = omega (arith, sum, left, less, all);
          flights = subst NoneFlies (sym took.takes.takes.kept) (flights-with now w.works (ap (λ (work : JobWork). work.rows) fails.work) stands.flights);
        }

    pub none-read : result ≡ None → SlotCopies w x
    none-read none = by_answer took.answer (sym took.given ∙ none) took.takes.takes.done.takes
      where
        by_answer : (answer : Result (Option Transfer) Fault) → given_of answer ≡ None
            → Takes took.row.kind w.nodes x.nodes took.takes.takes.was took.takes.takes.now took.row.source (length w.progress.log.events) buffer answer → SlotCopies w x
        by_answer (Ok None) is takes = let bad : ⊥ = cc (sym was-next.1 ∙ takes.0) in absurd bad
        by_answer (Ok (Some t)) is takes = let bad : ⊥ = cc is in absurd bad
        by_answer (Err fault) is takes = read-fails fault takes

    -- it is in flight
    pub one-read : (t : Transfer) → result ≡ Some t
        → TakesOf took.row.kind w.nodes x.nodes took.takes.takes.was took.takes.takes.now took.row.source (length w.progress.log.events) buffer t
    one-read t some = by_answer took.answer (sym took.given ∙ some) took.takes.takes.done.takes
      where
        by_answer : (answer : Result (Option Transfer) Fault) → given_of answer ≡ Some t
            → Takes took.row.kind w.nodes x.nodes took.takes.takes.was took.takes.takes.now took.row.source (length w.progress.log.events) buffer answer
            → TakesOf took.row.kind w.nodes x.nodes took.takes.takes.was took.takes.takes.now took.row.source (length w.progress.log.events) buffer t
        by_answer (Ok None) is takes = let bad : ⊥ = cc is in absurd bad
        by_answer (Ok (Some other)) is takes =
            let same : other ≡ t = cc is in
            subst (TakesOf took.row.kind w.nodes x.nodes took.takes.takes.was took.takes.takes.now took.row.source (length w.progress.log.events) buffer) same takes
        by_answer (Err fault) is takes = let bad : ⊥ = cc is in absurd bad

    -- ---- and written

    module _ (v : WorldSeen) (t : Transfer) (some : result ≡ Some t) (bytes : List ℕ) (answer : Bool) where
      reads : TakesOf took.row.kind w.nodes x.nodes took.takes.takes.was took.takes.takes.now took.row.source (length w.progress.log.events) buffer t
      reads = one-read t some

      t-own : t.job ≡ took.takes.takes.was.job
      t-own = ap (λ (r : Transfer). r.job) reads.is

      row-there : job_at x.table t.job ≡ Some took.row
      row-there =
          ap (λ (u : WorldSeen). job_at u.table t.job) took.takes.copies.kept
          ∙ ap (job_at w.table) (t-own ∙ was-own) ∙ took.takes.copies.there

      pub settled-in : HasSettled x v t bytes answer → SettlesFor x v t bytes answer
      settled-in (inl none) = let bad : ⊥ = cc (sym none.0 ∙ row-there) in absurd bad
      settled-in (inr settled) = settled

      module _ (settled : SettlesFor x v t bytes answer) where
        its : SettlesBlock x v took.row settled.target t settled.block answer
        its = subst (λ (row : JobRecord). SettlesBlock x v row settled.target t settled.block answer)
            (same-some (job_at x.table t.job) settled.row took.row settled.there row-there) settled.settles

        between-is : its.settles.was ≡ took.takes.takes.now
        between-is = same-some (work_of x.works took.row.number) its.settles.was took.takes.takes.now its.settles.there
            (ap (λ (works : List JobWork). work_of works took.row.number) took.takes.takes.kept
            ∙ found-with took.row.number took.takes.takes.was took.takes.takes.now w.works now-own took.takes.takes.there)

        -- the works behind both
        done-with : (now : JobWork) → its.settles.now ≡ now → member_count now.left < member_count took.takes.takes.was.left → now.rows ≡ [] → SlotCopies w v
        done-with now is less lands =
            let was = took.takes.takes.was in
            let mid = took.takes.takes.now in
            let own : its.settles.now.job ≡ took.row.number = its.settles.same ∙ ap (λ (work : JobWork). work.job) between-is ∙ now-own in
            let first = parts-with took.row.number was mid w.works now-own took.takes.takes.there in
            let there : work_of x.works took.row.number ≡ Some mid = its.settles.there ∙ ap (λ (work : JobWork). Some work) between-is in
            let second = parts-with took.row.number mid its.settles.now x.works own there in
            let x-is : parts_left x.works ≡ parts_left (with_work mid w.works) = ap parts_left took.takes.takes.kept in
            let v-is : parts_left v.works ≡ parts_left (with_work its.settles.now x.works) = ap parts_left its.settles.kept in
            let now-is : member_count its.settles.now.left ≡ member_count now.left = ap (λ (work : JobWork). member_count work.left) is in
            record {
              kept = copies-kept w v (its.copies.kept ∙ ap (λ (u : WorldSeen). record u { nodes = v.nodes; works = v.works }) took.takes.copies.kept);
              less = omega (arith, first, second, x-is, v-is, now-is, less);
              flights = subst NoneFlies (sym (its.settles.kept ∙ ap (with_work its.settles.now) took.takes.takes.kept))
                  (flights-again mid its.settles.now w.works (ap (λ (work : JobWork). work.rows) is ∙ lands) (own ∙ sym now-own) stands.flights);
            }

        by-write : (result' : Result (Unit {0}) Fault) → its.settles.now ≡ after_write result' took.row.kind t.cluster its.settles.was → SlotCopies w v
        by-write (Ok done) is =
            let was = took.takes.takes.was in
            let kind = took.row.kind in
            let here : its.settles.now ≡ after_settle kind t.cluster (after_take kind t was) = is ∙ ap (after_settle kind t.cluster) (between-is ∙ reads.work) in
            done-with (after_settle kind t.cluster (after_take kind t was)) here (settled-left kind was t (next-left was t.cluster reads.next)) (settled-none kind was t was-lands t-own)
        by-write (Err fault) is =
            let was = took.takes.takes.was in
            let flown = after_take took.row.kind t was in
            let here : its.settles.now ≡ failed_by fault flown = is ∙ ap (failed_by fault) (between-is ∙ reads.work) in
            done-with (failed_by fault flown) here (failed-less was flown fault t.cluster (next-left was t.cluster reads.next) refl) refl

        pub both-done : SlotCopies w v
        both-done = by_answer answer its.settles.done.settles
          where
            by_answer : (b : Bool) → Settles took.row.kind x.nodes v.nodes its.settles.was its.settles.now settled.target t settled.block b → SlotCopies w v
            by_answer true writes = by-write (answer_of writes.wrote) writes.work
            by_answer false late =
                let flies : is_in_flight t its.settles.was.rows ≡ true = ap (λ (work : JobWork). is_in_flight t work.rows) (between-is ∙ reads.work) ∙ taken-in-flight took.row.kind took.takes.takes.was t was-lands in
                absurd (false≢true (sym late.0 ∙ flies))
