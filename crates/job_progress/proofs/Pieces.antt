-- A piece of a guest's request leaves what jobs have copied, and what it writes of a mirror's or a commit's source is owed from then on.
use Rattle.std.proofs.Common.{◌≡◌, ◌≢◌, ℕ, zero, suc, ◌+◌, ◌-◌, ◌<◌, ◌≤◌, Bool, true, false, cond, List, [], ◌∷◌, ◌++◌, length, map, refl, sym, ap, ◌∙◌, subst, inl, inr, arith, Option, Some, None}
use Rattle.std.specs.Prelude.{◌==◌, ◌&&◌, ◌||◌, not, take, is_some, slice_index}
use Rattle.std.specs.List.{Contains, find, list_any}
use Rattle.std.proofs.lemmas.Bool.{false≢true, eqb-true, eqb-false, eq-eqb}
use Rattle.std.proofs.lemmas.List.{length-replicate}
use Rattle.std.proofs.Math.Seq.{take-nil}
use Rattle.blk_base.specs.Content.{with_bytes}
use Rattle.blk_base.specs.Pieces.{Extent, end_of}
use Rattle.blk_base.specs.declared.fault.Outcome.{Outcome}
use Rattle.blk_base.specs.declared.fault.Outcome.TheVariants.{Good, Torn, Io, NoSpace}
use Rattle.blk_base.proofs.Contents.{length-bytes_at, get_or-with_bytes_outside, length-with_bytes_within}
use Rattle.blk_bitmaps.specs.Rows.{span_touches}
use Rattle.blk_bits.specs.Granules.{contains, those_below}
use Rattle.blk_graph.specs.declared.kind.Kind.{Kind}
use Rattle.blk_graph.specs.declared.kind.Kind.TheVariants as driver
use Rattle.blk_graph.proofs.Members.{Contains-nil, Contains-here, Contains-cases, find-Some}
use Rattle.blk_history.specs.Disk.{done_in, payload_in}
use Rattle.blk_history.specs.Machine.{done_by}
use Rattle.blk_history.specs.declared.event.Event.{Event}
use Rattle.block_jobs.specs.Ahead.{IsAhead, AreAll, is_owed}
use Rattle.block_jobs.specs.Work.{JobWork, IsJobWork, is_left, left_again}
use Rattle.block_jobs.proofs.Ahead.{by_stretch, written_is_owed, source_may_change}
use Rattle.block_jobs.proofs.Steps.{marks_grow, marks_owe}
use Rattle.trace_codec.specs.declared.op.Op.{Op}
use Rattle.trace_codec.specs.declared.op.Op.TheVariants.{Read, Write, Zero, Flush, Discard}
use Rattle.trace_codec.specs.declared.op.Payload.TheVariants.{Fill, Raw}
use Rattle.job_copies.specs.Settling.{HoldsGoal}
use Rattle.qmp_codec.specs.declared.event.JobKind.{JobKind}
use Rattle.qmp_codec.specs.declared.event.JobKind.TheVariants.{Stream, Commit, Mirror, Backup}
use Rattle.qmp_rules.specs.declared.rows.NodeRecord.{NodeRecord}
use Rattle.qmp_rules.specs.declared.rows.JobRecord.{JobRecord}
use Rattle.qmp_rules.specs.Chains.{filter_role, disk_node, is_over, unsettled_over, written_under}
use Rattle.qmp_rules.specs.Queries.{bytes_of_node}
use Rattle.qmp_rules.specs.Table.{RunTable}
use Rattle.flat_machine.specs.Agreement.{Contents}
use Rattle.flat_machine.specs.Begun.{begun_of, copy_bytes}
use Rattle.flat_machine.specs.Jobs.{unsure, writes_target}
use Rattle.flat_machine.specs.Machine.{disk_changed, with_disk, node_written, with_part, note, noted, is_noted, read_through, copies_at, path}
use Rattle.flat_machine.specs.Performing.{IsQuiet}
use Rattle.flat_machine.specs.State.{State, Begun, bytes_in, bytes_at_node}
use Rattle.flat_machine.specs.Writing.{IsGuestWritable, WritesDisks, PieceDone, CanWrite}
use Rattle.flat_machine.proofs.Kept.{own_disk}
use Rattle.flat_machine.proofs.Written.{bytes_in-changed, bytes_in-unchanged, unwritten}
use Rattle.job_tables.specs.Jobs.{CopyStands, StandsByKind, JobsStand}
use Rattle.job_tables.specs.Rows.{nodes_of_job}
use Rattle.job_tables.proofs.RowEdges.{in_left}
use Rattle.job_works.specs.Works.{work_of, marked_again}
use Rattle.job_works.proofs.Changed.{changed_at, changed_else}
use Rattle.job_progress.specs.Belonging.{HasWork, AreWorksOf}
use Rattle.job_progress.specs.Going.{goal_by, goal_of, is_due, FoundDisks, taken_bytes, IsJobAhead, AreJobsAhead}
use Rattle.job_progress.specs.Piecing.{NoTargetReads, IsGuarded, CanPass, follows, is_follower_of, follower_of, marked_for, marked_if, marked_by}
use Rattle.job_progress.proofs.Changed.{size_of}
use Rattle.job_progress.proofs.Goes.{alike_itself, IsBeside, goes}
use Rattle.job_progress.proofs.Stays.{IsOwn, IsAs, StaysAt, stays_mapped}

-- ---- the source of what copies is held for the job itself

copies_source : (t : RunTable) (row : JobRecord) (kind : Kind) → CopyStands t row kind → Contains row.held row.source
copies_source t row kind c = subst (λ ids. Contains ids row.source) (sym c.held) (Contains-here row.source (c.target ∷ []))

pub source_held : (t : RunTable) (row : JobRecord) (k : JobKind) → writes_target k ≡ true → StandsByKind t row k → Contains row.held row.source
source_held t row Stream copies s = absurd (false≢true copies)
source_held t row Commit copies s = subst (λ ids. Contains ids row.source) (sym s.held) (Contains-here row.source (s.between ++ s.base ∷ []))
source_held t row Mirror copies s = copies_source t row driver.Mirror s
source_held t row Backup copies s = copies_source t row driver.BeforeWrite s

-- ---- the mirror or commit of a node

pub record Follows (t : RunTable) (node : ℕ) (row : JobRecord) : Type 0 where
  pub there : Contains t.jobs row
  pub kind : follows row.kind ≡ true
  pub source : row.source ≡ node

both_are : (a b : Bool) → (a && b) ≡ true → (a ≡ true) × (b ≡ true)
both_are true b h = (refl, h)
both_are false b h = absurd (false≢true h)

found_follows : (t : RunTable) (node : ℕ) (row : JobRecord) → follower_of t node ≡ Some row → Follows t node row
found_follows t node row found =
    let at = find-Some (is_follower_of node) t.jobs row found in
    let so = both_are (follows row.kind) (row.source == node) at.1 in
    record { there = at.0; kind = so.0; source = eqb-true row.source node so.1 }

-- it has a target or base
writes : (k : JobKind) → follows k ≡ true → writes_target k ≡ true
writes Mirror h = refl
writes Commit h = refl
writes Stream h = absurd (false≢true h)
writes Backup h = absurd (false≢true h)

pub record IsFound (p : JobRecord → Bool) (rows : List JobRecord) : Type 0 where
  pub row : JobRecord
  pub found : find p rows ≡ Some row

find_there : (p : JobRecord → Bool) (rows : List JobRecord) (row : JobRecord) → Contains rows row → p row ≡ true → IsFound p rows
find_there p [] row there is = absurd (Contains-nil row there)
find_there p (x ∷ rows) row there is = elim (Contains-cases x rows row there) [
  | inl same ↦ record { row = x; found = let first : p x ≡ true = ap p (sym same) ∙ is in rw first refl }
  | inr more ↦ by_test (p x) refl (find_there p rows row more is)
]
  where
    by_test : (b : Bool) → p x ≡ b → IsFound p rows → IsFound p (x ∷ rows)
    by_test true e f = record { row = x; found = rw e refl }
    by_test false e f = record { row = f.row; found = rw e f.found }

-- there is one at most
one_follower : (t : RunTable) → JobsStand t → (node : ℕ) (row : JobRecord) → Follows t node row → follower_of t node ≡ Some row
one_follower t j node row m = f.found ∙ ap Some same
  where
    passes : is_follower_of node row ≡ true
    passes = rw m.kind (eq-eqb row.source node m.source)

    f : IsFound (is_follower_of node) t.jobs
    f = find_there (is_follower_of node) t.jobs row m.there passes

    other : Follows t node f.row
    other = found_follows t node f.row f.found

    held : Contains f.row.held node
    held = subst (Contains f.row.held) other.source
        (source_held t f.row f.row.kind (writes f.row.kind other.kind) (j.each f.row other.there).shape)

    held_by : Contains (nodes_of_job row) node
    held_by = in_left row.held row.read node
        (subst (Contains row.held) m.source (source_held t row row.kind (writes row.kind m.kind) (j.each row m.there).shape))

    same : f.row ≡ row
    same = j.slots f.row row other.there m.there (j.apart f.row row node other.there m.there held held_by)

-- ---- works that are marked

-- marking leaves all but what is left
pub record IsKept (work later : JobWork) : Type 0 where
  pub job : later.job ≡ work.job
  pub met : later.met ≡ work.met
  pub rows : later.rows ≡ work.rows
  pub size : later.size ≡ work.size

pub marks_keep : (part : Extent) (work : JobWork) → IsKept work (left_again part work)
marks_keep part work = by_test (is_some work.met)
  where
    by_test : (b : Bool) → IsKept work (cond b work (record work { left = those_below (length work.left) (λ k. contains work.left k || span_touches work.part part k) }))
    by_test true = record { job = refl; met = refl; rows = refl; size = refl }
    by_test false = record { job = refl; met = refl; rows = refl; size = refl }

pub marked_at : (works : List JobWork) (job : ℕ) (part : Extent) (was : JobWork) → work_of works job ≡ Some was → work_of (marked_again job part works) job ≡ Some (left_again part was)
marked_at works job part was found = changed_at job (left_again part) (λ w is. (marks_keep part w).job ∙ is) works was found

-- another job's work isn't marked
unmarked : (found : Option JobRecord) (works : List JobWork) (part : Extent) (n : ℕ) → ((row : JobRecord) → found ≡ Some row → n ≢ row.number)
    → work_of (marked_for found part works) n ≡ work_of works n
unmarked None works part n differ = refl
unmarked (Some row) works part n differ = changed_else row.number (left_again part) (λ w is. (marks_keep part w).job ∙ is) n (differ row refl) works

unmarked_if : (so : Bool) (t : RunTable) (node : ℕ) (part : Extent) (works : List JobWork) (n : ℕ)
    → ((row : JobRecord) → follower_of t node ≡ Some row → n ≢ row.number) → work_of (marked_if so t node part works) n ≡ work_of works n
unmarked_if true t node part works n differ = unmarked (follower_of t node) works part n differ
unmarked_if false t node part works n differ = refl

-- ---- what is put

payload_long : (op : Op) (part : Extent) → length (payload_in op part) ≤ part.len
payload_long (Read span) part = omega arith
payload_long (Write span (Fill byte)) part = omega (arith, length-replicate {A = ℕ} part.len byte)
payload_long (Write span (Raw bytes)) part = let long = length-bytes_at bytes (part.start - span.start) part.len in omega (arith, long)
payload_long (Zero span) part = omega (arith, length-replicate {A = ℕ} part.len 0)
payload_long Flush part = omega arith
payload_long (Discard span) part = omega arith

take_most : (n : ℕ) (xs : List ℕ) → length (take n xs) ≤ length xs
take_most zero xs = omega arith
take_most (suc n) [] = omega arith
take_most (suc n) (x ∷ xs) = let rest = take_most n xs in omega (arith, rest)

abbrev put : Op → Extent → ℕ → List ℕ
put op part n = take n (payload_in op part)

put_long : (op : Op) (part : Extent) (n : ℕ) → length (put op part n) ≤ part.len
put_long op part n = let a = take_most n (payload_in op part) in let b = payload_long op part in omega (arith, a, b)

-- where nothing is noted, nothing is done
nothing_done : (outcome : Outcome) (part : Extent) → is_noted outcome ≡ false → done_by outcome part ≡ 0
nothing_done Good part h = absurd (false≢true (sym h))
nothing_done (Torn done dev count) part h = absurd (false≢true (sym h))
nothing_done (Io dev count) part h = refl
nothing_done (NoSpace dev) part h = refl

-- ---- a write

as_over : (t : RunTable) (node : ℕ) (row : NodeRecord) → IsAs row (unsettled_over t node row)
as_over t node row = by_test (is_over t node row.id)
  where
    by_test : (b : Bool) → IsAs row (cond b (record row { is_settled = false }) row)
    by_test true = record { id = refl; kind = refl; size = refl }
    by_test false = record { id = refl; kind = refl; size = refl }

-- a write is done in the state
pub record Wrote (s now : State) (node : ℕ) (op : Op) (part : Extent) (done : ℕ) : Type 0 where
  pub nodes : now.table.nodes ≡ map (unsettled_over s.table node) s.table.nodes
  pub jobs : now.table.jobs ≡ s.table.jobs
  pub disks : now.disks ≡ map (disk_changed node (done_in op part done)) s.disks
  pub begun : now.begun ≡ s.begun

within_part : (value : Bool) (test : ℕ → Bool) (part : Extent) (n : ℕ) → n ≤ part.len → AreAll value test part.start part.len → AreAll value test part.start n
within_part value test part n less all i from to = all i from (omega (arith, less, to))

module _ (first : State) (h : List Event) (s now : State) (node : ℕ) (op : Op) (part : Extent) (outcome : Outcome) (old new : Contents) (works : List JobWork)
    (j : JobsStand s.table) (belong : AreWorksOf s.table works) (can : IsGuestWritable s node) (unread : NoTargetReads s.table node)
    (guarded : IsGuarded s.table works node part) (within : end_of part ≤ bytes_of_node s.table node)
    (w : Wrote s now node op part (done_by outcome part)) (did : WritesDisks s node op part (done_by outcome part) old new)
    (go : AreJobsAhead first h s old.reads works) where
  abbrev xs : List ℕ
  xs = put op part (done_by outcome part)

  module _ (row : JobRecord) (there : Contains s.table.jobs row) (copies : writes_target row.kind ≡ true) where
    own : IsOwn s.table row.source
    own =
        let p = (j.each row there).plain row.source (in_left row.held row.read row.source (source_held s.table row row.kind copies (j.each row there).shape)) in
        record { row = p.row; found = p.there; own = p.own }

    stay : StaysAt s.table now.table row.source
    stay = stays_mapped s.table now.table row.source (unsettled_over s.table node) (as_over s.table node) w.nodes own

    size_same : bytes_of_node now.table row.source ≡ bytes_of_node s.table row.source
    size_same = size_of now.table row.source stay.later stay.found ∙ stay.size ∙ sym (size_of s.table row.source stay.was.row stay.was.found)

    at_was : bytes_at_node s row.source ≡ bytes_in s.disks row.source
    at_was = ap (bytes_in s.disks) (own_disk s.table row.source own.row own.found own.own)

    at_now : bytes_at_node now row.source ≡ bytes_in (map (disk_changed node (done_in op part (done_by outcome part))) s.disks) row.source
    at_now = ap (bytes_in now.disks) (own_disk now.table row.source stay.later stay.found (ap filter_role stay.kind ∙ stay.was.own))
        ∙ ap (λ ds. bytes_in ds row.source) w.disks

    target_same : (target : ℕ) → row.target ≡ Some target → new.reads target ≡ old.reads target
    target_same target is = did.nodes target (λ reads. unread row target there is reads)

    -- its source stays
    beside : bytes_at_node now row.source ≡ bytes_at_node s row.source → IsBeside s now old.reads new.reads row
    beside same = record { begun = ap (λ bs. begun_of bs row.number) w.begun; size = size_same; source = same; target = target_same }

    else_goes : (work : JobWork) → bytes_at_node now row.source ≡ bytes_at_node s row.source → IsJobAhead first h s old.reads row work
        → IsJobAhead first h now new.reads row work
    else_goes work same g = goes first h s now old.reads new.reads row row work (alike_itself row) (beside same) g

    other_source : row.source ≢ node → bytes_at_node now row.source ≡ bytes_at_node s row.source
    other_source differ = at_now ∙ bytes_in-unchanged node row.source (done_in op part (done_by outcome part)) s.disks differ ∙ sym at_was

    -- its source is what is written
    written : row.source ≡ node → bytes_at_node now row.source ≡ with_bytes (bytes_at_node s row.source) part.start xs
    written is =
        at_now
        ∙ ap (bytes_in (map (disk_changed node (done_in op part (done_by outcome part))) s.disks)) is
        ∙ bytes_in-changed node (done_in op part (done_by outcome part)) s.disks can.disk
        ∙ ap (λ bytes. with_bytes bytes part.start xs) (ap (bytes_in s.disks) (sym is) ∙ sym at_was)

    inside : row.source ≡ node → length (bytes_at_node s row.source) ≡ bytes_of_node s.table row.source → part.start + length xs ≤ length (bytes_at_node s row.source)
    inside is whole =
        let less = put_long op part (done_by outcome part) in
        let bound : end_of part ≤ bytes_of_node s.table row.source = subst (λ n. end_of part ≤ bytes_of_node s.table n) (sym is) within in
        omega (arith, less, bound, whole)

    begun_then : (b : Begun) → row.source ≡ node → FoundDisks s row b → FoundDisks now row b
    begun_then b is was = record {
      found = ap (λ bs. begun_of bs row.number) w.begun ∙ was.found;
      source = was.source ∙ sym size_same;
      target = was.target ∙ sym size_same;
      whole = ap length (written is) ∙ length-with_bytes_within (bytes_at_node s row.source) part.start xs (inside is was.whole) ∙ was.whole ∙ sym size_same;
    }

    goal_backup : row.kind ≡ Backup → goal_of now row ≡ goal_of s row
    goal_backup kind = ap (goal_by now row) kind ∙ ap (λ bs. copy_bytes (begun_of bs row.number)) w.begun ∙ ap (goal_by s row) (sym kind)

    backup_goes : row.kind ≡ Backup → row.source ≡ node → (work : JobWork) → work_of works row.number ≡ Some work → work.met ≡ None
        → IsJobAhead first h s old.reads row work → IsJobAhead first h now new.reads row work
    backup_goes kind is work found met g = record {
      begun = g.begun;
      found_disks = begun_then g.begun is g.found_disks;
      target = g.target;
      is_target = g.is_target;
      ahead =
          subst (λ goal. IsAhead (is_due row g.begun) (is_owed row.kind work) (bytes_at_node now row.source) goal (new.reads g.target)) (sym (goal_backup kind))
          (subst (λ source. IsAhead (is_due row g.begun) (is_owed row.kind work) source (goal_of s row) (new.reads g.target)) (sym (written is))
          (subst (λ made. IsAhead (is_due row g.begun) (is_owed row.kind work) (with_bytes (bytes_at_node s row.source) part.start xs) (goal_of s row) made)
          (sym (target_same g.target g.is_target))
          (source_may_change (is_due row g.begun) (is_owed row.kind work) (bytes_at_node s row.source) (goal_of s row) (old.reads g.target) part.start xs
          (inside is g.found_disks.whole) nothing_owed g.ahead)));
      copies = λ t at.
          let was = g.copies t at in
          record {
            past = was.past;
            holds = subst (λ goal. HoldsGoal row.kind work t.cluster (is_due row g.begun) goal (taken_bytes first h row t)) (sym (goal_backup kind)) was.holds;
          };
      whole = g.whole;
      at_once = g.at_once;
    }
      where
        nothing_owed : AreAll false (is_owed row.kind work) part.start (length xs)
        nothing_owed =
            within_part false (is_owed row.kind work) part (length xs) (put_long op part (done_by outcome part))
            (subst (λ k. AreAll false (is_owed k work) part.start part.len) (sym kind) (guarded row work there kind is found met))

    -- of a mirror or a commit it is owed
    module _ (is : row.source ≡ node) (was : JobWork) (found : work_of works row.number ≡ Some was) (met : was.met ≡ None) where
      abbrev marked : JobWork
      marked = left_again part was

      abbrev disk : List ℕ
      disk = with_bytes (bytes_at_node s row.source) part.start xs

      sound : IsJobWork was
      sound = belong.sound was (find-Some (λ x. x.job == row.number) works was found).0

      size_is : was.size ≡ bytes_of_node s.table row.source
      size_is =
          let has = belong.each row there in
          let both : Some was ≡ Some has.work = sym found ∙ has.there in
          let one : was ≡ has.work = cc both in
          ap (λ (x : JobWork). x.size) one ∙ has.size

      bound : part.start + part.len ≤ was.size
      bound = subst (λ n. part.start + part.len ≤ n) (sym size_is) (subst (λ n. end_of part ≤ bytes_of_node s.table n) (sym is) within)

      all_owed : (k : JobKind) → AreAll true (is_owed k marked) part.start (length xs)
      all_owed k = within_part true (is_owed k marked) part (length xs) (put_long op part (done_by outcome part)) (marks_owe was part met k sound bound)

      all_left : AreAll true (is_left marked) part.start (length xs)
      all_left = within_part true (is_left marked) part (length xs) (put_long op part (done_by outcome part)) (marks_owe was part met Backup sound bound)

      not_true : (b : Bool) → not b ≡ true → b ≡ false
      not_true true e = absurd (false≢true e)
      not_true false e = refl

      not_left : (place : ℕ) → not (is_left marked place) ≡ true → not (is_left was place) ≡ true
      not_left place good = by_test (is_left was place) refl
        where
          by_test : (b : Bool) → is_left was place ≡ b → not b ≡ true
          by_test true e = absurd (false≢true (sym (not_true (is_left marked place) good) ∙ marks_grow was part met Backup place e))
          by_test false e = refl

      holds_then : (block : ℕ) (due : ℕ → Bool) (bytes : List ℕ) → HoldsGoal Mirror was block due (bytes_at_node s row.source) bytes → HoldsGoal Mirror marked block due disk bytes
      holds_then block due bytes before place at_place in_block good is_due_there =
          before place (subst (λ n. place < n) (marks_keep part was).size at_place) in_block (not_left place good) is_due_there
          ∙ sym (by_stretch (slice_index disk place ≡ slice_index (bytes_at_node s row.source) place) part.start (length xs) place
          (λ from to. absurd (false≢true (sym (not_true (is_left marked place) good) ∙ all_left place from to)))
          (λ apart. get_or-with_bytes_outside (bytes_at_node s row.source) part.start xs place apart))

      -- so it is ahead, where its goal is the source as it is
      ahead_then : (k : JobKind) → ((x : State) → goal_by x row k ≡ bytes_at_node x row.source) → row.kind ≡ k → (g : IsJobAhead first h s old.reads row was)
          → IsAhead (is_due row g.begun) (is_owed row.kind marked) (bytes_at_node now row.source) (goal_of now row) (new.reads g.target)
      ahead_then k goal kind g =
          subst (λ k. IsAhead (is_due row g.begun) (is_owed k marked) (bytes_at_node now row.source) (goal_by now row k) (new.reads g.target)) (sym kind)
          (subst (λ bytes. IsAhead (is_due row g.begun) (is_owed k marked) (bytes_at_node now row.source) bytes (new.reads g.target)) (sym (goal now))
          (subst (λ source. IsAhead (is_due row g.begun) (is_owed k marked) source source (new.reads g.target)) (sym (written is))
          (subst (λ made. IsAhead (is_due row g.begun) (is_owed k marked) disk disk made) (sym (target_same g.target g.is_target))
          (written_is_owed (is_due row g.begun) (is_owed k was) (is_owed k marked) (bytes_at_node s row.source) (old.reads g.target) part.start xs
          (inside is g.found_disks.whole) (marks_grow was part met k) (all_owed k)
          (subst (λ bytes. IsAhead (is_due row g.begun) (is_owed k was) (bytes_at_node s row.source) bytes (old.reads g.target)) (goal s)
          (subst (λ k. IsAhead (is_due row g.begun) (is_owed k was) (bytes_at_node s row.source) (goal_by s row k) (old.reads g.target)) kind g.ahead))))))

      commit_goes : row.kind ≡ Commit → IsJobAhead first h s old.reads row was → IsJobAhead first h now new.reads row marked
      commit_goes kind g = record {
        begun = g.begun;
        found_disks = begun_then g.begun is g.found_disks;
        target = g.target;
        is_target = g.is_target;
        ahead = ahead_then Commit (λ x. refl) kind g;
        copies = λ t at. absurd (Contains-nil t (subst (λ rows. Contains rows t) (none_then kind) at));
        whole = g.whole;
        at_once = none_then;
      }
        where
          none_then : row.kind ≡ Commit → marked.rows ≡ []
          none_then commit = (marks_keep part was).rows ∙ g.at_once commit

      mirror_goes : row.kind ≡ Mirror → IsJobAhead first h s old.reads row was → IsJobAhead first h now new.reads row marked
      mirror_goes kind g = record {
        begun = g.begun;
        found_disks = begun_then g.begun is g.found_disks;
        target = g.target;
        is_target = g.is_target;
        ahead = ahead_then Mirror (λ x. refl) kind g;
        whole = g.whole;
        at_once = λ commit. absurd (let same : Commit ≡ Mirror = sym commit ∙ kind in cc);
        copies = λ t at.
            let before = g.copies t (subst (λ rows. Contains rows t) (marks_keep part was).rows at) in
            record {
              past = before.past;
              holds =
                  subst (λ k. HoldsGoal k marked t.cluster (is_due row g.begun) (goal_by now row k) (taken_bytes first h row t)) (sym kind)
                  (subst (λ source. HoldsGoal Mirror marked t.cluster (is_due row g.begun) source (taken_bytes first h row t)) (sym (written is))
                  (holds_then t.cluster (is_due row g.begun) (taken_bytes first h row t)
                  (subst (λ k. HoldsGoal k was t.cluster (is_due row g.begun) (goal_by s row k) (taken_bytes first h row t)) kind before.holds)));
            };
      }

    -- ---- each job

    -- nothing is written where nothing is noted
    unnoted : is_noted outcome ≡ false → row.source ≡ node → bytes_at_node now row.source ≡ bytes_at_node s row.source
    unnoted none is = written is ∙ rw (nothing_done outcome part none) refl

    -- the work of another job than the node's mirror or commit
    its_work : (work : JobWork) → ((m : JobRecord) → Follows s.table node m → m ≢ row)
        → work_of (marked_if (is_noted outcome) s.table node part works) row.number ≡ Some work → work_of works row.number ≡ Some work
    its_work work no_follower found =
        sym (unmarked_if (is_noted outcome) s.table node part works row.number (λ m is same.
        let f = found_follows s.table node m is in
        no_follower m f (j.numbers m row f.there there (sym same)))) ∙ found

    goes_marked : (k : JobKind) → follows k ≡ true → row.kind ≡ k → row.source ≡ node → (was : JobWork) → work_of works row.number ≡ Some was → was.met ≡ None
        → IsJobAhead first h s old.reads row was → IsJobAhead first h now new.reads row (left_again part was)
    goes_marked Stream f kind is was found met g = absurd (false≢true f)
    goes_marked Backup f kind is was found met g = absurd (false≢true f)
    goes_marked Mirror f kind is was found met g = mirror_goes is was found met kind g
    goes_marked Commit f kind is was found met g = commit_goes is was found met kind g

    of_follower : follows row.kind ≡ true → row.source ≡ node → (work : JobWork) → (so : Bool) → is_noted outcome ≡ so
        → work_of (marked_if so s.table node part works) row.number ≡ Some work → work.met ≡ None
        → IsJobAhead first h now new.reads row work
    of_follower kind is work false noted found met = else_goes work (unnoted noted is) (go row work there copies found met)
    of_follower kind is work true noted found met =
        subst (IsJobAhead first h now new.reads row) (sym same) (goes_marked row.kind kind refl is was has.there was_met (go row was there copies has.there was_met))
      where
        has : HasWork s.table works row
        has = belong.each row there

        was : JobWork
        was = has.work

        marked : work_of (marked_for (follower_of s.table node) part works) row.number ≡ Some (left_again part was)
        marked = ap (λ found. work_of (marked_for found part works) row.number)
            (one_follower s.table j node row (record { there = there; kind = kind; source = is }))
            ∙ marked_at works row.number part was has.there

        same : work ≡ left_again part was
        same = let both : Some work ≡ Some (left_again part was) = sym found ∙ marked in cc both

        was_met : was.met ≡ None
        was_met = sym (marks_keep part was).met ∙ ap (λ (x : JobWork). x.met) (sym same) ∙ met

    by_kind : (k : JobKind) → row.kind ≡ k → writes_target k ≡ true → row.source ≡ node → (work : JobWork)
        → work_of (marked_if (is_noted outcome) s.table node part works) row.number ≡ Some work → work.met ≡ None
        → IsJobAhead first h now new.reads row work
    by_kind Stream kind c is work found met = absurd (false≢true c)
    by_kind Commit kind c is work found met = of_follower (ap follows kind) is work (is_noted outcome) refl found met
    by_kind Mirror kind c is work found met = of_follower (ap follows kind) is work (is_noted outcome) refl found met
    by_kind Backup kind c is work found met =
        let own_work = its_work work (λ m f same. false≢true (sym (ap follows (ap (λ (r : JobRecord). r.kind) same ∙ kind)) ∙ f.kind)) found in
        backup_goes kind is work own_work met (go row work there copies own_work met)

    pub goes_with : (work : JobWork) → work_of (marked_if (is_noted outcome) s.table node part works) row.number ≡ Some work → work.met ≡ None
        → IsJobAhead first h now new.reads row work
    goes_with work found met = by_test (row.source == node) refl
      where
        by_test : (b : Bool) → (row.source == node) ≡ b → IsJobAhead first h now new.reads row work
        by_test true e = by_kind row.kind refl copies (eqb-true row.source node e) work found met
        by_test false e =
            let differ : row.source ≢ node = eqb-false row.source node e in
            let own_work = its_work work (λ m f same. differ (ap (λ (r : JobRecord). r.source) (sym same) ∙ f.source)) found in
            else_goes work (other_source differ) (go row work there copies own_work met)

  pub write_goes : AreJobsAhead first h now new.reads (marked_if (is_noted outcome) s.table node part works)
  write_goes row work there copies found met =
      goes_with row (subst (λ rows. Contains rows row) w.jobs there) copies work found met

-- ---- what isn't written

-- tables, disks and what starts found are as before
unwritten_goes : (first : State) (h : List Event) (s now : State) (reads then : ℕ → List ℕ) (works : List JobWork) → now.table ≡ s.table
    → ((n : ℕ) → bytes_in now.disks n ≡ bytes_in s.disks n) → now.begun ≡ s.begun
    → ((row : JobRecord) (target : ℕ) → Contains s.table.jobs row → row.target ≡ Some target → then target ≡ reads target)
    → AreJobsAhead first h s reads works → AreJobsAhead first h now then works
unwritten_goes first h s now reads then works table disks begun targets go row work there copies is going =
    let was = subst (λ t. Contains t.jobs row) table there in
    goes first h s now reads then row row work (alike_itself row)
    (record {
      begun = ap (λ bs. begun_of bs row.number) begun;
      size = ap (λ t. bytes_of_node t row.source) table;
      source = ap (λ t. bytes_in now.disks (disk_node t row.source)) table ∙ disks (disk_node s.table row.source);
      target = λ target to. targets row target was to;
    })
    (go row work was copies is going)

-- ---- each kind of request

record IsNoted (s now : State) : Type 0 where
  table : now.table ≡ s.table
  disks : now.disks ≡ s.disks
  begun : now.begun ≡ s.begun

noted_beside : (outcome : Outcome) (part : Extent) (drive : ℕ) (s : State) → IsNoted s (note outcome part drive s)
noted_beside outcome part drive s = by_test (is_noted outcome)
  where
    by_test : (b : Bool) → IsNoted s (cond b (record s { dirty = noted s.table part s.dirty (path s.table drive) }) s)
    by_test true = record { table = refl; disks = refl; begun = refl }
    by_test false = record { table = refl; disks = refl; begun = refl }

read_beside : (drive : ℕ) (s : State) → IsNoted s (read_through drive s)
read_beside drive s = by_test (list_any (copies_at s.table) (path s.table drive))
  where
    by_test : (b : Bool) → IsNoted s (cond b (record s { images = map (unsure (disk_node s.table drive ∷ [])) s.images }) s)
    by_test true = record { table = refl; disks = refl; begun = refl }
    by_test false = record { table = refl; disks = refl; begun = refl }

puts_none : (op : Op) (part : Extent) (done : ℕ) → payload_in op part ≡ [] → (bytes : List ℕ) → done_in op part done bytes ≡ bytes
puts_none op part done none bytes = rw (none, take-nil done) refl

wrote : (s : State) (drive : ℕ) (op : Op) (outcome : Outcome) (part : Extent)
    → Wrote s (note outcome part drive (node_written (disk_node s.table drive) (with_disk (disk_node s.table drive) (done_in op part (done_by outcome part)) s)))
    (disk_node s.table drive) op part (done_by outcome part)
unfolding written_under
wrote s drive op outcome part =
    let node : ℕ = disk_node s.table drive in
    let b = noted_beside outcome part drive (node_written node (with_disk node (done_in op part (done_by outcome part)) s)) in
    record { nodes = ap (λ (t : RunTable). t.nodes) b.table; jobs = ap (λ (t : RunTable). t.jobs) b.table; disks = b.disks; begun = b.begun }

module _ (first : State) (h : List Event) (s : State) (drive : ℕ) (outcome : Outcome) (part : Extent) (old new : Contents) (works : List JobWork)
    (j : JobsStand s.table) (belong : AreWorksOf s.table works) (within : end_of part ≤ bytes_of_node s.table (disk_node s.table drive))
    (go : AreJobsAhead first h s old.reads works) where
  abbrev node : ℕ
  node = disk_node s.table drive

  still : (op : Op) (now : State) → payload_in op part ≡ [] → IsNoted (with_disk node (done_in op part (done_by outcome part)) s) now
      → ((row : JobRecord) (target : ℕ) → Contains s.table.jobs row → row.target ≡ Some target → new.reads target ≡ old.reads target)
      → AreJobsAhead first h now new.reads works
  still op now none b targets =
      unwritten_goes first h s now old.reads new.reads works b.table
      (λ n. ap (λ ds. bytes_in ds n) b.disks
      ∙ unwritten node (done_in op part (done_by outcome part)) s.disks (puts_none op part (done_by outcome part) none) n)
      b.begun targets go

  itself : (op : Op) → IsNoted (with_disk node (done_in op part (done_by outcome part)) s) (with_disk node (done_in op part (done_by outcome part)) s)
  itself op = record { table = refl; disks = refl; begun = refl }

  quietly : IsQuiet old new → (row : JobRecord) (target : ℕ) → Contains s.table.jobs row → row.target ≡ Some target → new.reads target ≡ old.reads target
  quietly quiet row target there is = quiet.nodes target (λ never. never)

  pub piece_goes : (op : Op) → CanWrite s drive op → CanPass s.table works node op part → PieceDone s drive op outcome part old new
      → AreJobsAhead first h (with_part drive op outcome part s) new.reads (marked_by op outcome s.table node part works)
  piece_goes (Read span) can pass did =
      still (Read span) (with_part drive (Read span) outcome part s) refl
      (read_beside drive (with_disk node (done_in (Read span) part (done_by outcome part)) s))
      (λ row target there is. elim did [
        | inl quiet ↦ quietly quiet row target there is
        | inr copied ↦ copied.1.nodes target (λ under. pass row target there is under)
      ])
  piece_goes Flush can pass did = still Flush (with_part drive Flush outcome part s) refl (itself Flush) (quietly did)
  piece_goes (Discard span) can pass did = still (Discard span) (with_part drive (Discard span) outcome part s) refl (itself (Discard span)) (quietly did)
  piece_goes (Write span payload) can pass did =
      write_goes first h s (with_part drive (Write span payload) outcome part s) node (Write span payload) part outcome old new works j belong can pass.0 pass.1 within
      (wrote s drive (Write span payload) outcome part) did go
  piece_goes (Zero span) can pass did =
      write_goes first h s (with_part drive (Zero span) outcome part s) node (Zero span) part outcome old new works j belong can pass.0 pass.1 within
      (wrote s drive (Zero span) outcome part) did go
