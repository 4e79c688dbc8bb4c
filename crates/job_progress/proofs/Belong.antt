-- Works stay those of the table's jobs.
use Rattle.std.proofs.Common.{◌≡◌, ◌≢◌, ◌⊎◌, ℕ, zero, suc, ◌<◌, ◌≤◌, ◌^◌, Bool, true, false, cond, List, [], ◌∷◌, ◌++◌, length, refl, sym, ap, ◌∙◌, subst, inl, inr, arith, le_refl, Option, Some, None}
use Rattle.std.specs.Prelude.{◌==◌, ◌||◌, not, is_some, AllPairs, slice_index_or, IsSome}
use Rattle.std.specs.List.{Contains}
use Rattle.std.proofs.lemmas.Bool.{false≢true, eqb-true, eqb-false, eq-eqb, ne_eqb}
use Rattle.std.proofs.lemmas.List.{length-replicate}
use Rattle.std.proofs.lemmas.List.Kept.{AllPairs-cons}
use Rattle.blk_base.specs.Pieces.{Extent}
use Rattle.blk_base.specs.declared.fault.Outcome.{Outcome}
use Rattle.blk_bitmaps.specs.Rows.{span_touches}
use Rattle.blk_bits.specs.Granules.{contains, overlaps_member, those_below}
use Rattle.blk_graph.proofs.Members.{Contains-nil, Contains-here, Contains-there, Contains-cases, Contains-filter, Contains-map, map-Contains, find-Some}
use Rattle.block_jobs.specs.Work.{JobWork, IsJobWork, begun, left_again, part_bytes, room_for}
use Rattle.block_jobs.proofs.PartLemmas.{length-those_below}
use Rattle.block_jobs.proofs.WorkLemmas.{begun_stands}
use Rattle.flat_machine.specs.Jobs.{granules_of}
use Rattle.flat_machine.specs.Machine.{is_noted}
use Rattle.flat_machine.specs.State.{State, Dirty}
use Rattle.flat_machine.proofs.Tables.{filter-keeps}
use Rattle.trace_codec.specs.declared.op.Op.{Op}
use Rattle.trace_codec.specs.declared.op.Op.TheVariants.{Read, Write, Zero, Flush, Discard}
use Rattle.qmp_codec.specs.declared.event.JobKind.{JobKind}
use Rattle.qmp_codec.specs.declared.event.JobKind.TheVariants.{Stream, Commit, Mirror, Backup}
use Rattle.qmp_rules.specs.declared.change.Change.{Change}
use Rattle.qmp_rules.specs.declared.change.Change.TheVariants as change
use Rattle.qmp_rules.specs.declared.rows.AskedEnd.{AskedEnd}
use Rattle.qmp_rules.specs.declared.rows.JobRecord.{JobRecord}
use Rattle.qmp_rules.specs.Changes.{changed, all_changed, asked_for, followed, ready_for}
use Rattle.qmp_rules.specs.Queries.{bytes_of_node}
use Rattle.qmp_rules.specs.Table.{RunTable, job_at}
use Rattle.job_tables.specs.Jobs.{StandsByKind, JobsStand}
use Rattle.job_tables.specs.Rows.{nodes_of_job}
use Rattle.job_tables.proofs.RowEdges.{in_left, in_either}
use Rattle.job_works.specs.Works.{work_of, with_changed, with_work, without_work}
use Rattle.job_works.proofs.Changed.{changed_at, changed_else, job_found, pushed_at, pushed_else, gone_else}
use Rattle.job_progress.specs.Beginning.{begun_by, work_begun}
use Rattle.job_progress.specs.Belonging.{HasWork, IsOfJob, AreWorksOf, without_row}
use Rattle.job_progress.specs.Piecing.{follower_of, marked_for, marked_if, marked_by}
use Rattle.job_progress.specs.Leaving.{LeavesCopies, AllLeaveCopies, LeavesRows, AllLeaveRows}
use Rattle.job_progress.proofs.Changed.{Came, came_itself, came_asked, came_ready, size_of}
use Rattle.job_progress.proofs.Pieces.{source_held}
use Rattle.job_progress.proofs.Stays.{IsOwn, StaysAt, own_then, IsOfJobs, stays}

-- ---- one a job

-- no later one is of the same job
abbrev pub IsFirst : JobWork → List JobWork → Type 0
IsFirst work works = (other : JobWork) → Contains works other → work.job ≢ other.job

abbrev pub AreOnce : List JobWork → Type 0
AreOnce [] = Unit {0}
AreOnce (work ∷ works) = IsFirst work works × AreOnce works

pub once_of : (works : List JobWork) → AllPairs (λ (a b : JobWork). a.job ≢ b.job) works → AreOnce works
once_of [] h = tt
once_of (work ∷ works) h = (
  (λ other there same. h 0 (suc there.0) other (omega arith) (omega (arith, there.1)) (same ∙ ap (λ (x : JobWork). x.job) (sym there.2))),
  once_of works (λ i j d less within. h (suc i) (suc j) d (omega (arith, less)) (omega (arith, within))),
)

once_to : (works : List JobWork) → AreOnce works → AllPairs (λ (a b : JobWork). a.job ≢ b.job) works
once_to [] h = λ i j d less within. absurd (omega (arith, less, within))
once_to (work ∷ works) h = AllPairs-cons (λ (a b : JobWork). a.job ≢ b.job) work works (λ k d within. h.0 (slice_index_or works k d) (k, within, same_read works k d within)) (once_to works h.1)
  where
    same_read : (xs : List JobWork) (k : ℕ) (d : JobWork) → k < length xs → slice_index_or xs k (slice_index_or xs k d) ≡ slice_index_or xs k d
    same_read [] k d within = absurd (omega (arith, within))
    same_read (x ∷ xs) zero d within = refl
    same_read (x ∷ xs) (suc k) d within = same_read xs k d (omega (arith, within))

pub found_there : (works : List JobWork) (job : ℕ) (w : JobWork) → work_of works job ≡ Some w → Contains works w
found_there works job w found = (find-Some (λ x. x.job == job) works w found).0

-- ---- one more, and one less

once_pushed : (works : List JobWork) (new : JobWork) → AreOnce works → ((w : JobWork) → Contains works w → w.job ≢ new.job) → AreOnce (works ++ new ∷ [])
once_pushed [] new h differ = ((λ other there. absurd (Contains-nil other there)), tt)
once_pushed (w ∷ works) new h differ = (
  (λ other there. elim (in_either works (new ∷ []) other there) [
    | inl was ↦ h.0 other was
    | inr last ↦ elim (Contains-cases new [] other last) [
      | inl same ↦ λ e. differ w (Contains-here w works) (e ∙ ap (λ (x : JobWork). x.job) same)
      | inr more ↦ absurd (Contains-nil other more)
    ]
  ]),
  once_pushed works new h.1 (λ x there. differ x (Contains-there w works x there)),
)

-- those of the others stay
pub gone_there : (job : ℕ) (works : List JobWork) (x : JobWork) → AreOnce works → Contains (without_work job works) x → Contains works x × (x.job ≢ job)
gone_there job [] x h there = absurd (Contains-nil x there)
gone_there job (w ∷ works) x h there = by_test (w.job == job) refl (gone_there job works x h.1) there
  where
    by_test : (b : Bool) → (w.job == job) ≡ b → (Contains (without_work job works) x → Contains works x × (x.job ≢ job))
        → Contains (cond b works (w ∷ without_work job works)) x → Contains (w ∷ works) x × (x.job ≢ job)
    by_test true e more at = (Contains-there w works x at, λ is. h.0 x at (eqb-true w.job job e ∙ sym is))
    by_test false e more at = elim (Contains-cases w (without_work job works) x at) [
      | inl same ↦ (subst (Contains (w ∷ works)) (sym same) (Contains-here w works), λ is. eqb-false w.job job e (ap (λ (y : JobWork). y.job) (sym same) ∙ is))
      | inr rest ↦ let m = more rest in (Contains-there w works x m.0, m.1)
    ]

once_gone : (job : ℕ) (works : List JobWork) → AreOnce works → AreOnce (without_work job works)
once_gone job [] h = tt
once_gone job (w ∷ works) h = by_test (w.job == job) (once_gone job works h.1)
  where
    by_test : (b : Bool) → AreOnce (without_work job works) → AreOnce (cond b works (w ∷ without_work job works))
    by_test true more = h.1
    by_test false more = ((λ other at. h.0 other (gone_there job works other h.1 at).0), more)

-- ---- one becomes another

-- it is the job's still, of the same size, and has as much room
pub record IsStill (was now : JobWork) : Type 0 where
  pub job : now.job ≡ was.job
  pub size : now.size ≡ was.size
  pub room : was.room ≤ now.room
  pub sound : IsJobWork was → IsJobWork now

record IsChanged (job : ℕ) (f : JobWork → JobWork) (works : List JobWork) (x : JobWork) : Type 0 where
  was : JobWork
  found : work_of works job ≡ Some was
  is : x ≡ f was

changed_there : (job : ℕ) (f : JobWork → JobWork) (works : List JobWork) (x : JobWork) → Contains (with_changed job f works) x → Contains works x ⊎ IsChanged job f works x
changed_there job f [] x there = absurd (Contains-nil x there)
changed_there job f (w ∷ works) x there = by_test (w.job == job) refl (changed_there job f works x) there
  where
    by_test : (b : Bool) → (w.job == job) ≡ b → (Contains (with_changed job f works) x → Contains works x ⊎ IsChanged job f works x)
        → Contains (cond b (f w ∷ works) (w ∷ with_changed job f works)) x → Contains (w ∷ works) x ⊎ IsChanged job f (w ∷ works) x
    by_test true e more at = elim (Contains-cases (f w) works x at) [
      | inl same ↦ inr (record { was = w; found = rw e refl; is = same })
      | inr rest ↦ inl (Contains-there w works x rest)
    ]
    by_test false e more at = elim (Contains-cases w (with_changed job f works) x at) [
      | inl same ↦ inl (subst (Contains (w ∷ works)) (sym same) (Contains-here w works))
      | inr rest ↦ elim (more rest) [
        | inl was ↦ inl (Contains-there w works x was)
        | inr new ↦ inr (record { was = new.was; found = rw e new.found; is = new.is })
      ]
    ]

once_changed : (job : ℕ) (f : JobWork → JobWork) (works : List JobWork) → ((w : JobWork) → work_of works job ≡ Some w → (f w).job ≡ w.job) → AreOnce works
    → AreOnce (with_changed job f works)
once_changed job f [] keeps h = tt
once_changed job f (w ∷ works) keeps h = by_test (w.job == job) refl keeps (once_changed job f works)
  where
    by_test : (b : Bool) → (w.job == job) ≡ b → ((x : JobWork) → cond b (Some w) (work_of works job) ≡ Some x → (f x).job ≡ x.job)
        → (((x : JobWork) → work_of works job ≡ Some x → (f x).job ≡ x.job) → AreOnce works → AreOnce (with_changed job f works))
        → AreOnce (cond b (f w ∷ works) (w ∷ with_changed job f works))
    by_test true e kept more = ((λ other at same. h.0 other at (sym (kept w refl) ∙ same)), h.1)
    by_test false e kept more = (
      (λ other at. elim (changed_there job f works other at) [
        | inl was ↦ h.0 other was
        | inr new ↦ λ same. h.0 new.was (found_there works job new.was new.found) (same ∙ ap (λ (x : JobWork). x.job) new.is ∙ kept new.was new.found)
      ]),
      more kept h.1,
    )

module _ (t : RunTable) (job : ℕ) (f : JobWork → JobWork) (keeps : (w : JobWork) → w.job ≡ job → (f w).job ≡ job) (works : List JobWork)
    (still : (w : JobWork) → work_of works job ≡ Some w → IsStill w (f w)) (belong : AreWorksOf t works) where
  has_changed : (row : JobRecord) → HasWork t works row → HasWork t (with_changed job f works) row
  has_changed row has = by_test (row.number == job) refl
    where
      by_test : (b : Bool) → (row.number == job) ≡ b → HasWork t (with_changed job f works) row
      by_test true e =
          let at : row.number ≡ job = eqb-true row.number job e in
          let found : work_of works job ≡ Some has.work = subst (λ n. work_of works n ≡ Some has.work) at has.there in
          let same = still has.work found in
          let room = has.room in
          let more = same.room in
          record {
            work = f has.work;
            there = subst (λ n. work_of (with_changed job f works) n ≡ Some (f has.work)) (sym at) (changed_at job f keeps works has.work found);
            size = same.size ∙ has.size;
            room = subst (λ n. room_for row.kind n ≤ (f has.work).room) (sym same.size) (omega (arith, room, more));
          }
      by_test false e = record {
        work = has.work;
        there = changed_else job f keeps row.number (eqb-false row.number job e) works ∙ has.there;
        size = has.size;
        room = has.room;
      }

  pub changed_belong : AreWorksOf t (with_changed job f works)
  changed_belong = record {
    each = λ row there. has_changed row (belong.each row there);
    owned = λ x there. elim (changed_there job f works x there) [
      | inl was ↦ belong.owned x was
      | inr new ↦
          let of = belong.owned new.was (found_there works job new.was new.found) in
          record { row = of.row; there = of.there; number = of.number ∙ sym (still new.was new.found).job ∙ ap (λ (y : JobWork). y.job) (sym new.is) }
    ];
    once = once_to (with_changed job f works) (once_changed job f works (λ w found. (still w found).job) (once_of works belong.once));
    sound = λ x there. elim (changed_there job f works x there) [
      | inl was ↦ belong.sound x was
      | inr new ↦ subst IsJobWork (sym new.is) ((still new.was new.found).sound (belong.sound new.was (found_there works job new.was new.found)))
    ];
  }

-- ---- marks, and the steps of one job

marks_sound : (part : Extent) (work : JobWork) → IsStill work (left_again part work)
marks_sound part work = by_test (is_some work.met)
  where
    by_test : (b : Bool) → IsStill work (cond b work (record work { left = those_below (length work.left) (λ k. contains work.left k || span_touches work.part part k) }))
    by_test true = record { job = refl; size = refl; room = le_refl work.room; sound = λ is. is }
    by_test false = record {
      job = refl;
      size = refl;
      room = le_refl work.room;
      sound = λ is. record {
        size = is.size;
        some = is.some;
        sectors = is.sectors;
        blocks = is.blocks;
        left = length-those_below (length work.left) (λ k. contains work.left k || span_touches work.part part k) ∙ is.left;
        copies = is.copies;
      };
    }

marked_belong : (t : RunTable) (found : Option JobRecord) (part : Extent) (works : List JobWork) → AreWorksOf t works → AreWorksOf t (marked_for found part works)
marked_belong t None part works belong = belong
marked_belong t (Some row) part works belong =
    changed_belong t row.number (left_again part) (λ w is. (marks_sound part w).job ∙ is) works (λ w found. marks_sound part w) belong

marked_if_belong : (so : Bool) (t : RunTable) (node : ℕ) (part : Extent) (works : List JobWork) → AreWorksOf t works → AreWorksOf t (marked_if so t node part works)
marked_if_belong true t node part works belong = marked_belong t (follower_of t node) part works belong
marked_if_belong false t node part works belong = belong

pub marks_belong : (t : RunTable) (node : ℕ) (op : Op) (outcome : Outcome) (part : Extent) (works : List JobWork) → AreWorksOf t works
    → AreWorksOf t (marked_by op outcome t node part works)
marks_belong t node (Read span) outcome part works belong = belong
marks_belong t node (Write span payload) outcome part works belong = marked_if_belong (is_noted outcome) t node part works belong
marks_belong t node (Zero span) outcome part works belong = marked_if_belong (is_noted outcome) t node part works belong
marks_belong t node Flush outcome part works belong = belong
marks_belong t node (Discard span) outcome part works belong = belong

pub step_belongs : (t : RunTable) (works : List JobWork) (was now : JobWork) → AreWorksOf t works → work_of works now.job ≡ Some was → now.size ≡ was.size
    → was.room ≤ now.room → IsJobWork now → AreWorksOf t (with_work now works)
step_belongs t works was now belong found size room sound =
    changed_belong t now.job (λ work. now) (λ w is. refl) works (λ w at.
    let both : Some w ≡ Some was = sym at ∙ found in
    let one : w ≡ was = cc both in
    record {
      job = sym (job_found works now.job w at);
      size = size ∙ ap (λ (x : JobWork). x.size) (sym one);
      room = subst (λ (x : JobWork). x.room ≤ now.room) (sym one) room;
      sound = λ is. sound;
    }) belong

-- ---- changes

-- every job's source is one of its nodes
source_of : (t : RunTable) (row : JobRecord) (k : JobKind) → StandsByKind t row k → Contains row.held row.source
source_of t row Stream s = subst (λ ids. Contains ids row.source) (sym s.held) (Contains-here row.source [])
source_of t row Commit s = source_held t row Commit refl s
source_of t row Mirror s = source_held t row Mirror refl s
source_of t row Backup s = source_held t row Backup refl s

record Rests (works : List JobWork) (t : RunTable) : Type 0 where
  own : (node : ℕ) → IsOfJobs works t node → IsOwn t node
  sources : (row : JobRecord) → Contains t.jobs row → Contains (nodes_of_job row) row.source

rests_by : (works : List JobWork) (t : RunTable) → JobsStand t → Rests works t
rests_by works t j = record {
  own = λ node of. let p = (j.each of.row of.there).plain node of.held in record { row = p.row; found = p.there; own = p.own };
  sources = λ row there. in_left row.held row.read row.source (source_of t row row.kind (j.each row there).shape);
}

module _ (works : List JobWork) (t : RunTable) where
  -- each row was there
  came_from : (c : Change) → LeavesRows c → (later : JobRecord) → Contains (changed t c).jobs later → Came t later
  unfolding changed
  came_from (change.StartJob row) none later there = absurd none
  came_from (change.EndJob number slot drops) none later there = absurd none
  came_from (change.AskJob number new) none later there =
      let m = Contains-map (asked_for number new) t.jobs later there in came_asked t number new m.0 later m.1 m.2
  came_from (change.ReadyJob number) none later there = let m = Contains-map (ready_for number) t.jobs later there in came_ready t number m.0 later m.1 m.2
  came_from c none later there = came_itself t later there

  -- and each is still
  asked_number : (number : ℕ) (new : AskedEnd) (row : JobRecord) → (asked_for number new row).number ≡ row.number
  asked_number number new row = by_test (row.number == number)
    where
      by_test : (b : Bool) → (cond b (record row { asked = followed row.asked new }) row).number ≡ row.number
      by_test true = refl
      by_test false = refl

  ready_number : (number : ℕ) (row : JobRecord) → (ready_for number row).number ≡ row.number
  ready_number number row = by_test (row.number == number)
    where
      by_test : (b : Bool) → (cond b (record row { is_ready = true }) row).number ≡ row.number
      by_test true = refl
      by_test false = refl

  still_of : (c : Change) → LeavesRows c → (work : JobWork) → IsOfJob t work → IsOfJob (changed t c) work
  unfolding changed
  still_of (change.StartJob row) none work of = absurd none
  still_of (change.EndJob number slot drops) none work of = absurd none
  still_of (change.AskJob number new) none work of = record {
    row = asked_for number new of.row;
    there = map-Contains (asked_for number new) t.jobs of.row of.there;
    number = asked_number number new of.row ∙ of.number;
  }
  still_of (change.ReadyJob number) none work of = record {
    row = ready_for number of.row;
    there = map-Contains (ready_for number) t.jobs of.row of.there;
    number = ready_number number of.row ∙ of.number;
  }
  still_of c none work of = record { row = of.row; there = of.there; number = of.number }

  module _ (c : Change) (none : LeavesRows c) (leaves : LeavesCopies works t c) (belong : AreWorksOf t works) (r : Rests works t) where
    of_before : (node : ℕ) → IsOfJobs works (changed t c) node → IsOfJobs works t node
    of_before node of =
        let was = came_from c none of.row of.there in
        record {
          row = was.row;
          there = was.there;
          held = subst (λ ids. Contains ids node) was.nodes of.held;
          has = subst (λ n. IsSome (work_of works n)) was.alike.number of.has;
        }

    rests_then : Rests works (changed t c)
    rests_then = record {
      own = λ node of. own_then t (changed t c) node (stays works t node (r.own node (of_before node of)) (of_before node of) c leaves);
      sources = λ later there.
          let was = came_from c none later there in
          subst (λ ids. Contains ids later.source) (sym was.nodes) (subst (Contains (nodes_of_job was.row)) (sym was.alike.source) (r.sources was.row was.there));
    }

    has_then : (later : JobRecord) → Contains (changed t c).jobs later → HasWork (changed t c) works later
    has_then later there = record {
      work = has.work;
      there = ap (work_of works) was.alike.number ∙ has.there;
      size = has.size ∙ sym size_same ∙ ap (bytes_of_node (changed t c)) (sym was.alike.source);
      room = subst (λ k. room_for k has.work.size ≤ has.work.room) (sym was.alike.kind) has.room;
    }
      where
        was : Came t later
        was = came_from c none later there

        has : HasWork t works was.row
        has = belong.each was.row was.there

        of : IsOfJobs works t was.row.source
        of = record { row = was.row; there = was.there; held = r.sources was.row was.there; has = subst IsSome (sym has.there) refl }

        stay : StaysAt t (changed t c) was.row.source
        stay = stays works t was.row.source (r.own was.row.source of) of c leaves

        size_same : bytes_of_node (changed t c) was.row.source ≡ bytes_of_node t was.row.source
        size_same = size_of (changed t c) was.row.source stay.later stay.found ∙ stay.size ∙ sym (size_of t was.row.source stay.was.row stay.was.found)

    belongs_then : AreWorksOf (changed t c) works
    belongs_then = record { each = has_then; owned = λ work there. still_of c none work (belong.owned work there); once = belong.once; sound = belong.sound }

all_belong : (works : List JobWork) (changes : List Change) (t : RunTable) → Rests works t → AllLeaveCopies works t changes → AllLeaveRows changes
    → AreWorksOf t works → AreWorksOf (all_changed t changes) works
all_belong works [] t r leaves none belong = belong
all_belong works (c ∷ changes) t r leaves none belong =
    all_belong works changes (changed t c) (rests_then works t c none.0 leaves.0 belong r) leaves.1 none.1 (belongs_then works t c none.0 leaves.0 belong r)

pub changes_belong : (changes : List Change) (t : RunTable) (works : List JobWork) → JobsStand t → AllLeaveCopies works t changes → AllLeaveRows changes
    → AreWorksOf t works → AreWorksOf (all_changed t changes) works
changes_belong changes t works j leaves none belong = all_belong works changes t (rests_by works t j) leaves none belong

-- ---- a start

-- the work of a job that begins is sound
begun_of_job : (row : JobRecord) (size : ℕ) (found : Option Dirty) → size ≤ 2 ^ 47 → ((d : Dirty) → found ≡ Some d → 0 < d.granularity)
    → IsJobWork (begun_by row size found)
begun_of_job row size None small some = record {
  size = is.size;
  some = is.some;
  sectors = is.sectors;
  blocks = is.blocks;
  left = length-replicate (length (begun row.kind row.number size 65536).left) true ∙ is.left;
  copies = is.copies;
}
  where
    is : IsJobWork (begun row.kind row.number size 65536)
    is = begun_stands row.kind row.number size 65536 small (omega arith)
begun_of_job row size (Some d) small some = record {
  size = is.size;
  some = is.some;
  sectors = is.sectors;
  blocks = is.blocks;
  left =
      length-those_below (length (begun row.kind row.number size d.granularity).left)
      (λ k. contains (begun row.kind row.number size d.granularity).left k
      || overlaps_member (record { mine = part_bytes d.granularity; theirs = d.granularity }) d.set k (length d.set)) ∙ is.left;
  copies = is.copies;
}
  where
    is : IsJobWork (begun row.kind row.number size d.granularity)
    is = begun_stands row.kind row.number size d.granularity small (some d refl)

-- the work is that of a job that begins
pub record IsBegun (row : JobRecord) (size : ℕ) (work : JobWork) : Type 0 where
  pub job : work.job ≡ row.number
  pub size_is : work.size ≡ size
  pub room : room_for row.kind size ≤ work.room

begun_is : (row : JobRecord) (size : ℕ) (found : Option Dirty) → IsBegun row size (begun_by row size found)
begun_is row size None = record { job = refl; size_is = refl; room = le_refl (room_for row.kind size) }
begun_is row size (Some d) = record { job = refl; size_is = refl; room = le_refl (room_for row.kind size) }

module _ (t : RunTable) (row : JobRecord) (works : List JobWork) (new : JobWork) (j : JobsStand t) (at : job_at t row.number ≡ Some row)
    (belong : AreWorksOf (without_row row.number t) works) (is : IsBegun row (bytes_of_node t row.source) new) (sound : IsJobWork new) where
  there_now : Contains t.jobs row
  there_now = (find-Some (λ (r : JobRecord). r.number == row.number) t.jobs row at).0

  -- no work is its yet
  others : (w : JobWork) → Contains works w → w.job ≢ new.job
  others w there same =
      let of = belong.owned w there in
      let kept = Contains-filter (λ (r : JobRecord). not (r.number == row.number)) t.jobs of.row of.there in
      not_both (of.row.number == row.number) (eq-eqb of.row.number row.number (of.number ∙ same ∙ is.job)) kept.1
    where
      not_both : (b : Bool) → b ≡ true → not b ≡ true → ⊥
      not_both true e h = false≢true h
      not_both false e h = false≢true e

  none_yet : work_of works row.number ≡ None
  none_yet = by_found (work_of works row.number) refl
    where
      by_found : (found : Option JobWork) → work_of works row.number ≡ found → found ≡ None
      by_found None e = refl
      by_found (Some w) e = absurd (others w (found_there works row.number w e) (job_found works row.number w e ∙ sym is.job))

  has_each : (other : JobRecord) → Contains t.jobs other → HasWork t (works ++ new ∷ []) other
  has_each other there = by_test (other.number == row.number) refl
    where
      by_test : (b : Bool) → (other.number == row.number) ≡ b → HasWork t (works ++ new ∷ []) other
      by_test true e =
          let same : other ≡ row = j.numbers other row there there_now (eqb-true other.number row.number e) in
          subst (HasWork t (works ++ new ∷ [])) (sym same) (record {
            work = new;
            there =
                subst (λ n. work_of (works ++ new ∷ []) n ≡ Some new) is.job
                (pushed_at works new (subst (λ n. work_of works n ≡ None) (sym is.job) none_yet));
            size = is.size_is;
            room = subst (λ n. room_for row.kind n ≤ new.room) (sym is.size_is) is.room;
          })
      by_test false e =
          let has = belong.each other (filter-keeps (λ (r : JobRecord). not (r.number == row.number)) t.jobs other (rw e refl) there) in
          let differ : other.number ≢ new.job = λ same. eqb-false other.number row.number e (same ∙ is.job) in
          record { work = has.work; there = pushed_else works new other.number differ ∙ has.there; size = has.size; room = has.room }

  pub begun_belongs : AreWorksOf t (works ++ new ∷ [])
  begun_belongs = record {
    each = has_each;
    owned = λ w there. elim (in_either works (new ∷ []) w there) [
      | inl was ↦
          let of = belong.owned w was in
          record { row = of.row; there = (Contains-filter (λ (r : JobRecord). not (r.number == row.number)) t.jobs of.row of.there).0; number = of.number }
      | inr last ↦ elim (Contains-cases new [] w last) [
        | inl same ↦ record { row = row; there = there_now; number = sym is.job ∙ ap (λ (x : JobWork). x.job) (sym same) }
        | inr more ↦ absurd (Contains-nil w more)
      ]
    ];
    once = once_to (works ++ new ∷ []) (once_pushed works new (once_of works belong.once) others);
    sound = λ w there. elim (in_either works (new ∷ []) w there) [
      | inl was ↦ belong.sound w was
      | inr last ↦ elim (Contains-cases new [] w last) [ inl same ↦ subst IsJobWork (sym same) sound | inr more ↦ absurd (Contains-nil w more) ]
    ];
  }

pub begins_belong : (s : State) (row : JobRecord) (works : List JobWork) → JobsStand s.table → job_at s.table row.number ≡ Some row
    → AreWorksOf (without_row row.number s.table) works → bytes_of_node s.table row.source ≤ 2 ^ 47
    → ((d : Dirty) → granules_of s row row.bitmap ≡ Some d → 0 < d.granularity) → AreWorksOf s.table (works ++ work_begun s row ∷ [])
begins_belong s row works j at belong small some =
    begun_belongs s.table row works (work_begun s row) j at belong (begun_is row (bytes_of_node s.table row.source) (granules_of s row row.bitmap))
    (begun_of_job row (bytes_of_node s.table row.source) (granules_of s row row.bitmap) small some)

-- ---- an end, and tables of the same sizes

pub ends_belong : (t : RunTable) (number : ℕ) (works : List JobWork) → AreWorksOf t works → AreWorksOf (without_row number t) (without_work number works)
ends_belong t number works belong = record {
  each = λ row there.
      let kept = Contains-filter (λ (r : JobRecord). not (r.number == number)) t.jobs row there in
      let has = belong.each row kept.0 in
      record { work = has.work; there = gone_else number row.number (apart (row.number == number) refl kept.1) works ∙ has.there; size = has.size; room = has.room };
  owned = λ w there.
      let was = gone_there number works w (once_of works belong.once) there in
      let of = belong.owned w was.0 in
      record {
        row = of.row;
        there = filter-keeps (λ (r : JobRecord). not (r.number == number)) t.jobs of.row (rw (ne_eqb of.row.number number (λ same. was.1 (sym of.number ∙ same))) refl) of.there;
        number = of.number;
      };
  once = once_to (without_work number works) (once_gone number works (once_of works belong.once));
  sound = λ w there. belong.sound w (gone_there number works w (once_of works belong.once) there).0;
}
  where
    apart : {a b : ℕ} (c : Bool) → (a == b) ≡ c → not c ≡ true → a ≢ b
    apart true e h = absurd (false≢true h)
    apart {a} {b} false e h = eqb-false a b e

pub sizes_belong : (t u : RunTable) (works : List JobWork) → u.jobs ≡ t.jobs
    → ((row : JobRecord) → Contains t.jobs row → bytes_of_node u row.source ≡ bytes_of_node t row.source) → AreWorksOf t works → AreWorksOf u works
sizes_belong t u works jobs sizes belong = record {
  each = λ row there.
      let was = subst (λ rows. Contains rows row) jobs there in
      let has = belong.each row was in
      record { work = has.work; there = has.there; size = has.size ∙ sym (sizes row was); room = has.room };
  owned = λ w there.
      let of = belong.owned w there in
      record { row = of.row; there = subst (λ rows. Contains rows of.row) (sym jobs) of.there; number = of.number };
  once = belong.once;
  sound = belong.sound;
}
