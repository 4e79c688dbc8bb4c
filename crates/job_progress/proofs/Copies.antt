-- A block is copied at once, is read, or is written after it was read.
use Rattle.std.proofs.Common.{◌≡◌, ◌≢◌, ℕ, ◌+◌, ◌-◌, ◌*◌, ◌/◌, ◌<◌, ◌≤◌, Bool, true, false, List, [], ◌∷◌, ◌++◌, length, get_or, refl, sym, ap, ◌∙◌, subst, inl, inr, arith, le_refl, Some}
use Rattle.std.specs.Prelude.{◌==◌, ◌&&◌, ◌||◌, not, slice_index}
use Rattle.std.specs.List.{Contains, list_any}
use Rattle.std.proofs.lemmas.Bool.{false≢true, eqb-true, eq-eqb, ne_eqb}
use Rattle.std.proofs.lemmas.List.{ext_get_or, take_all}
use Rattle.blk_base.specs.Content.{bytes_at}
use Rattle.blk_base.specs.Pieces.{block_size}
use Rattle.blk_base.proofs.Contents.{get_or-bytes_at}
use Rattle.blk_copy.specs.Rows.{is_of, has_row, is_in_flight, without_row}
use Rattle.blk_copy.specs.declared.transfers.Transfer.{Transfer}
use Rattle.blk_graph.proofs.Members.{Contains-nil, Contains-here, Contains-there, Contains-cases, Contains-filter}
use Rattle.blk_history.specs.declared.event.Event.{Event}
use Rattle.block_jobs.specs.Ahead.{IsPlaceAhead, IsAhead, is_owed}
use Rattle.block_jobs.specs.Work.{JobWork, IsJobWork, AreCopiesOf, is_left, has_open, block_at, next_block, without_block, after_copy, after_settle, after_take}
use Rattle.block_jobs.proofs.PartLemmas.{next_is}
use Rattle.block_jobs.proofs.Steps.{left_off, taken_is_owed, copied_is_paid, nothing_is_owed}
use Rattle.job_copies.specs.Settling.{HoldsGoal}
use Rattle.qmp_codec.specs.declared.event.JobKind.{JobKind}
use Rattle.qmp_codec.specs.declared.event.JobKind.TheVariants.{Stream, Commit, Mirror, Backup}
use Rattle.qmp_rules.specs.declared.rows.JobRecord.{JobRecord}
use Rattle.qmp_rules.specs.Ends.{settles_target}
use Rattle.flat_machine.specs.Machine.{replay}
use Rattle.flat_machine.specs.State.{State, Begun, bytes_at_node}
use Rattle.job_tables.proofs.RowEdges.{in_either}
use Rattle.job_progress.specs.Going.{copies_blocks, goal_by, goal_of, was_dirty, is_due, taken_bytes, IsCopyOpen, IsJobAhead}

-- ---- what is owed behind a copy of a block was owed

both : (a b : Bool) → (a && b) ≡ true → a ≡ true
both true b h = refl
both false b h = h

left_before : (work : JobWork) (block place : ℕ) → IsJobWork work → is_left (after_copy block work) place ≡ true → is_left work place ≡ true
left_before work block place sound is = both (is_left work place) (not (block_at place == block)) (sym (copied_is_paid Backup work block place sound) ∙ is)

module _ (first : State) (h : List Event) (s : State) (row : JobRecord) (b : Begun) (work : JobWork) (block : ℕ) (kind : row.kind ≡ Backup) (sound : IsJobWork work) where
  fewer : (t : Transfer) → IsCopyOpen first h s row b work t → IsCopyOpen first h s row b (after_copy block work) t
  fewer t was = record {
    past = was.past;
    holds = subst (λ k. HoldsGoal k (after_copy block work) t.cluster (is_due row b) (goal_of s row) (taken_bytes first h row t)) (sym kind) holds;
  }
    where
      before : HoldsGoal Backup work t.cluster (is_due row b) (goal_of s row) (taken_bytes first h row t)
      before = subst (λ k. HoldsGoal k work t.cluster (is_due row b) (goal_of s row) (taken_bytes first h row t)) kind was.holds

      holds : HoldsGoal Backup (after_copy block work) t.cluster (is_due row b) (goal_of s row) (taken_bytes first h row t)
      holds place inside at good due = before place inside at (left_before work block place sound good) due

pub copied_goes : (first s : State) (h : List Event) (reads now : ℕ → List ℕ) (row : JobRecord) (work : JobWork) (block : ℕ) → row.kind ≡ Backup → IsJobWork work
    → ((target : ℕ) (due : ℕ → Bool) (goal : List ℕ) → row.target ≡ Some target
    → IsAhead due (is_owed Backup work) (bytes_at_node s row.source) goal (reads target)
    → IsAhead due (is_owed Backup (after_copy block work)) (bytes_at_node s row.source) goal (now target))
    → IsJobAhead first h s reads row work → IsJobAhead first h s now row (after_copy block work)
copied_goes first s h reads now row work block kind sound copies g = record {
  begun = g.begun;
  found_disks = g.found_disks;
  target = g.target;
  is_target = g.is_target;
  ahead =
      subst (λ k. IsAhead (is_due row g.begun) (is_owed k (after_copy block work)) (bytes_at_node s row.source) (goal_of s row) (now g.target)) (sym kind)
      (copies g.target (is_due row g.begun) (goal_of s row) g.is_target
      (subst (λ k. IsAhead (is_due row g.begun) (is_owed k work) (bytes_at_node s row.source) (goal_of s row) (reads g.target)) kind g.ahead));
  copies = λ t there.
      fewer first h s row g.begun work block kind sound t
      (g.copies t (Contains-filter (λ r. not (is_of work.job block r)) work.rows t there).0);
  whole = g.whole;
  at_once = λ commit. absurd (let same : Commit ≡ Backup = sym commit ∙ kind in cc);
}

pub passed_goes : (first s : State) (h : List Event) (reads now : ℕ → List ℕ) (row : JobRecord) (work : JobWork) (block : ℕ) → row.kind ≡ Commit
    → ((base : ℕ) (due : ℕ → Bool) → row.target ≡ Some base
    → IsAhead due (is_owed Commit work) (bytes_at_node s row.source) (bytes_at_node s row.source) (reads base)
    → IsAhead due (is_owed Commit (after_copy block work)) (bytes_at_node s row.source) (bytes_at_node s row.source) (now base))
    → IsJobAhead first h s reads row work → IsJobAhead first h s now row (after_copy block work)
passed_goes first s h reads now row work block kind passes g = record {
  begun = g.begun;
  found_disks = g.found_disks;
  target = g.target;
  is_target = g.is_target;
  ahead =
      subst (λ k. IsAhead (is_due row g.begun) (is_owed k (after_copy block work)) (bytes_at_node s row.source) (goal_by s row k) (now g.target)) (sym kind)
      (passes g.target (is_due row g.begun) g.is_target
      (subst (λ k. IsAhead (is_due row g.begun) (is_owed k work) (bytes_at_node s row.source) (goal_by s row k) (reads g.target)) kind g.ahead));
  copies = λ t there. absurd (Contains-nil t (subst (λ rows. Contains rows t) (none_then kind) there));
  whole = g.whole;
  at_once = none_then;
}
  where
    none_then : row.kind ≡ Commit → (after_copy block work).rows ≡ []
    none_then commit = ap (without_row work.job block) (g.at_once commit)

-- ---- a block is read

module _ (first : State) (h : List Event) (row : JobRecord) (work : JobWork) (t : Transfer) (sound : IsJobWork work)
    (own : t.job ≡ work.job) (next : next_block work ≡ Some t.cluster) (position : t.position ≡ length h) where
  abbrev s : State
  s = replay first h

  abbrev disk : List ℕ
  disk = bytes_at_node s row.source

  read_bytes : taken_bytes first h row t ≡ bytes_at disk (t.cluster * block_size) block_size
  read_bytes = rw (position, take_all (length h) h (le_refl (length h))) refl

  -- a place of the block, in what was read
  read_at : (place : ℕ) → block_at place ≡ t.cluster → slice_index (taken_bytes first h row t) (place - t.cluster * block_size) ≡ slice_index disk place
  read_at place at =
      ap (λ xs. slice_index xs (place - t.cluster * block_size)) read_bytes
      ∙ get_or-bytes_at disk (t.cluster * block_size) block_size (place - t.cluster * block_size) inside
      ∙ ap (slice_index disk) whole
    where
      own_block : place / 65536 ≡ t.cluster
      own_block = at

      inside : place - t.cluster * 65536 < 65536
      inside = omega (arith, own_block)

      whole : t.cluster * 65536 + (place - t.cluster * 65536) ≡ place
      whole = omega (arith, own_block)

  module _ (reads : ℕ → List ℕ) where
    holds_backup : (due : ℕ → Bool) (goal made : List ℕ) → IsAhead due (is_owed Backup work) disk goal made
        → HoldsGoal Backup (after_take Backup t work) t.cluster due goal (taken_bytes first h row t)
    holds_backup due goal made ahead place inside at good is_due =
        read_at place at ∙ owed_place (is_left work place) good (ahead.at place is_due)
      where
        owed_place : (b : Bool) → b ≡ true → IsPlaceAhead b (slice_index disk place) (slice_index goal place) (slice_index made place)
            → slice_index disk place ≡ slice_index goal place
        owed_place true is same = same
        owed_place false is same = absurd (false≢true is)

    holds_mirror : (due : ℕ → Bool) → HoldsGoal Mirror (after_take Mirror t work) t.cluster due disk (taken_bytes first h row t)
    holds_mirror due place inside at good is_due = read_at place at

    -- what was open stays so: less is left of a mirror's block, of which no other copy is in flight
    open_backup : (due : ℕ → Bool) (goal bytes : List ℕ) (block : ℕ) → HoldsGoal Backup work block due goal bytes
        → HoldsGoal Backup (after_take Backup t work) block due goal bytes
    open_backup due goal bytes block was = was

    ahead_mirror : (due : ℕ → Bool) (made : List ℕ) → IsAhead due (is_owed Mirror work) disk disk made
        → IsAhead due (is_owed Mirror (after_take Mirror t work)) disk disk made
    ahead_mirror due made ahead = record {
      source_whole = ahead.source_whole;
      made_whole = ahead.made_whole;
      at = λ i is. subst (λ b. IsPlaceAhead b (slice_index disk i) (slice_index disk i) (slice_index made i)) (sym (taken_is_owed work t i sound own))
          (by_owed i (is_owed Mirror work i) (block_at i == t.cluster) (ahead.at i is));
    }
      where
        by_owed : (i : ℕ) (a b : Bool) → IsPlaceAhead a (slice_index disk i) (slice_index disk i) (slice_index made i)
            → IsPlaceAhead (a || b) (slice_index disk i) (slice_index disk i) (slice_index made i)
        by_owed i true b same = refl
        by_owed i false true same = refl
        by_owed i false false same = same

-- a copy in flight is the job's own
job_of : (job size : ℕ) (rows : List Transfer) → AreCopiesOf job size rows → (x : Transfer) → Contains rows x → x.job ≡ job
job_of job size [] are x there = absurd (Contains-nil x there)
job_of job size (row ∷ rows) are x there = elim (Contains-cases row rows x there) [
  | inl same ↦ subst (λ (r : Transfer). r.job ≡ job) (sym same) are.0
  | inr more ↦ job_of job size rows are.3 x more
]

-- and of another block than one of which none is in flight
has_one : (job cluster : ℕ) (rows : List Transfer) (x : Transfer) → Contains rows x → x.job ≡ job → x.cluster ≡ cluster → has_row job cluster rows ≡ true
has_one job cluster [] x there own at = absurd (Contains-nil x there)
has_one job cluster (row ∷ rows) x there own at = elim (Contains-cases row rows x there) [
  | inl same ↦ or_left (is_of job cluster row) (has_row job cluster rows) (subst (λ (r : Transfer). is_of job cluster r ≡ true) same (rw (eq-eqb x.job job own) (eq-eqb x.cluster cluster at)))
  | inr more ↦ or_right (is_of job cluster row) (has_row job cluster rows) (has_one job cluster rows x more own at)
]
  where
    or_left : (a b : Bool) → a ≡ true → (a || b) ≡ true
    or_left true b h = refl
    or_left false b h = absurd (false≢true h)

    or_right : (a b : Bool) → b ≡ true → (a || b) ≡ true
    or_right true b h = refl
    or_right false b h = h

other_block : (work : JobWork) (t x : Transfer) → IsJobWork work → has_open work t.cluster ≡ false → Contains work.rows x → x.cluster ≢ t.cluster
other_block work t x sound none there same =
    false≢true (sym none ∙ has_one work.job t.cluster work.rows x there (job_of work.job work.size work.rows sound.copies x there) same)

module _ (work : JobWork) (t : Transfer) (sound : IsJobWork work) where
  -- of another block just as much is left
  left_apart : (place : ℕ) → block_at place ≢ t.cluster → is_left (without_block t.cluster work) place ≡ is_left work place
  left_apart place differ =
      left_off work sound t.cluster place ∙ ap (λ b. is_left work place && not b) (ne_eqb (block_at place) t.cluster differ) ∙ kept (is_left work place)
    where
      kept : (b : Bool) → (b && true) ≡ b
      kept true = refl
      kept false = refl

  open_mirror : (due : ℕ → Bool) (goal bytes : List ℕ) (x : Transfer) → x.cluster ≢ t.cluster → HoldsGoal Mirror work x.cluster due goal bytes
      → HoldsGoal Mirror (after_take Mirror t work) x.cluster due goal bytes
  open_mirror due goal bytes x differ was place inside at good is_due =
      was place inside at (ap not (sym (left_apart place (λ same. differ (sym at ∙ same)))) ∙ good) is_due

module _ (first : State) (h : List Event) (reads : ℕ → List ℕ) (row : JobRecord) (work : JobWork) (t : Transfer) (sound : IsJobWork work)
    (own : t.job ≡ work.job) (next : next_block work ≡ Some t.cluster) (position : t.position ≡ length h)
    (g : IsJobAhead first h (replay first h) reads row work) where
  abbrev now : State
  now = replay first h

  abbrev source : List ℕ
  source = bytes_at_node now row.source

  -- by the kind, with what it is to come to
  abbrev TakenBy : JobKind → Type 0
  TakenBy k =
      IsAhead (is_due row g.begun) (is_owed k work) source (goal_by now row k) (reads g.target)
      → ((x : Transfer) → Contains work.rows x → HoldsGoal k work x.cluster (is_due row g.begun) (goal_by now row k) (taken_bytes first h row x))
      → IsAhead (is_due row g.begun) (is_owed k (after_take k t work)) source (goal_by now row k) (reads g.target)
      × ((x : Transfer) → Contains (work.rows ++ t ∷ []) x → HoldsGoal k (after_take k t work) x.cluster (is_due row g.begun) (goal_by now row k) (taken_bytes first h row x))

  of_either : (P : Transfer → Type 0) → ((x : Transfer) → Contains work.rows x → P x) → P t → (x : Transfer) → Contains (work.rows ++ t ∷ []) x → P x
  of_either P old new x there = elim (in_either work.rows (t ∷ []) x there) [
    | inl old_one ↦ old x old_one
    | inr one ↦ elim (Contains-cases t [] x one) [ inl same ↦ subst P (sym same) new | inr more ↦ absurd (Contains-nil x more) ]
  ]

  taken_by : (k : JobKind) → copies_blocks k ≡ true → TakenBy k
  taken_by Stream copies = absurd (false≢true copies)
  taken_by Commit copies = absurd (false≢true copies)
  taken_by Backup copies = λ ahead was. (
    ahead,
    of_either (λ x. HoldsGoal Backup (after_take Backup t work) x.cluster (is_due row g.begun) (goal_by now row Backup) (taken_bytes first h row x)) was
        (holds_backup first h row work t sound own next position reads (is_due row g.begun) (goal_by now row Backup) (reads g.target) ahead),
  )
  taken_by Mirror copies = λ ahead was. (
    ahead_mirror first h row work t sound own next position reads (is_due row g.begun) (reads g.target) ahead,
    of_either (λ x. HoldsGoal Mirror (after_take Mirror t work) x.cluster (is_due row g.begun) source (taken_bytes first h row x))
        (λ x there. open_mirror work t sound (is_due row g.begun) source (taken_bytes first h row x) x
        (other_block work t x sound (next_is work t.cluster next).1 there) (was x there))
        (holds_mirror first h row work t sound own next position reads (is_due row g.begun)),
  )

  rows_then : (k : JobKind) → (after_take k t work).rows ≡ work.rows ++ t ∷ []
  rows_then Mirror = refl
  rows_then Backup = refl
  rows_then Stream = refl
  rows_then Commit = refl

  pub taken_goes : copies_blocks row.kind ≡ true → IsJobAhead first h now reads row (after_take row.kind t work)
  taken_goes copies =
      let both = taken_by row.kind copies g.ahead (λ x there. (g.copies x there).holds) in
      record {
        begun = g.begun;
        found_disks = g.found_disks;
        target = g.target;
        is_target = g.is_target;
        ahead = both.0;
        copies = λ x there.
            let among = subst (λ xs. Contains xs x) (rows_then row.kind) there in
            record {
              past = of_either (λ (y : Transfer). y.position ≤ length h) (λ y was. (g.copies y was).past) (let at = position in omega arith) x among;
              holds = both.1 x among;
            };
        whole = g.whole;
        at_once = λ commit. absurd (false≢true (ap copies_blocks (sym commit) ∙ copies));
      }

-- ---- a block is written after it was read

-- just this copy is among them
flies_there : (t : Transfer) (rows : List Transfer) → is_in_flight t rows ≡ true → Contains rows t
flies_there t [] flies = absurd (false≢true flies)
flies_there t (row ∷ rows) is = by_test (is_of t.job t.cluster row && (row.position == t.position)) refl (flies_there t rows) is
  where
    parts : (a b c : Bool) → ((a && b) && c) ≡ true → (a ≡ true) × (b ≡ true) × (c ≡ true)
    parts true true true h = (refl, refl, refl)
    parts true true false h = absurd (false≢true h)
    parts true false c h = absurd (false≢true h)
    parts false b c h = absurd (false≢true h)

    whole : (a b : Transfer) → a.job ≡ b.job → a.cluster ≡ b.cluster → a.position ≡ b.position → a ≡ b
    whole a b job cluster position =
        ap (λ n. record a { job = n }) job ∙ ap (λ n. record b { cluster = n; position = a.position }) cluster ∙ ap (λ n. record b { position = n }) position

    same : (is_of t.job t.cluster row && (row.position == t.position)) ≡ true → row ≡ t
    same h =
        let all = parts (row.job == t.job) (row.cluster == t.cluster) (row.position == t.position) h in
        let job = eqb-true row.job t.job all.0 in
        let cluster = eqb-true row.cluster t.cluster all.1 in
        let position = eqb-true row.position t.position all.2 in
        whole row t job cluster position

    by_test : (b : Bool) → (is_of t.job t.cluster row && (row.position == t.position)) ≡ b → (is_in_flight t rows ≡ true → Contains rows t)
        → (b || is_in_flight t rows) ≡ true → Contains (row ∷ rows) t
    by_test true e more h = subst (Contains (row ∷ rows)) (same e) (Contains-here row rows)
    by_test false e more h = Contains-there row rows t (more h)

module _ (first s : State) (h : List Event) (reads now : ℕ → List ℕ) (row : JobRecord) (work : JobWork) (t : Transfer) (sound : IsJobWork work)
    (flies : is_in_flight t work.rows ≡ true) (g : IsJobAhead first h s reads row work)
    (writes : (target : ℕ) (due : ℕ → Bool) (source goal : List ℕ) → row.target ≡ Some target
    → HoldsGoal row.kind work t.cluster due goal (taken_bytes first h row t)
    → IsAhead due (is_owed row.kind work) source goal (reads target)
    → IsAhead due (is_owed row.kind (after_settle row.kind t.cluster work)) source goal (now target)) where
  -- what is left may have become less, of a backup, and what copies hold of it stays
  holds_then : (k : JobKind) → copies_blocks k ≡ true → (x : Transfer) (due : ℕ → Bool) (goal bytes : List ℕ) → HoldsGoal k work x.cluster due goal bytes
      → HoldsGoal k (after_settle k t.cluster work) x.cluster due goal bytes
  holds_then Stream copies x due goal bytes was = absurd (false≢true copies)
  holds_then Commit copies x due goal bytes was = absurd (false≢true copies)
  holds_then Mirror copies x due goal bytes was = was
  holds_then Backup copies x due goal bytes was = λ place inside at good is_due. was place inside at (left_before work t.cluster place sound good) is_due

  row_before : (k : JobKind) (x : Transfer) → Contains (after_settle k t.cluster work).rows x → Contains work.rows x
  row_before Mirror x there = (Contains-filter (λ r. not (is_of work.job t.cluster r)) work.rows x there).0
  row_before Backup x there = (Contains-filter (λ r. not (is_of work.job t.cluster r)) work.rows x there).0
  row_before Stream x there = (Contains-filter (λ r. not (is_of work.job t.cluster r)) work.rows x there).0
  row_before Commit x there = (Contains-filter (λ r. not (is_of work.job t.cluster r)) work.rows x there).0

  pub settled_goes : copies_blocks row.kind ≡ true → IsJobAhead first h s now row (after_settle row.kind t.cluster work)
  settled_goes copies = record {
    begun = g.begun;
    found_disks = g.found_disks;
    target = g.target;
    is_target = g.is_target;
    ahead =
        writes g.target (is_due row g.begun) (bytes_at_node s row.source) (goal_of s row) g.is_target
        (g.copies t (flies_there t work.rows flies)).holds g.ahead;
    copies = λ x there.
        let was = g.copies x (row_before row.kind x there) in
        record { past = was.past; holds = holds_then row.kind copies x (is_due row g.begun) (goal_of s row) (taken_bytes first h row x) was.holds };
    whole = g.whole;
    at_once = λ commit. absurd (false≢true (ap copies_blocks (sym commit) ∙ copies));
  }

-- ---- nothing is owed any more

pub copies_made : (first s : State) (h : List Event) (reads : ℕ → List ℕ) (row : JobRecord) (work : JobWork) (target : ℕ) → row.target ≡ Some target
    → work.rows ≡ [] → list_any (λ part. part) work.left ≡ false → settles_target row.bitmap ≡ true → IsJobAhead first h s reads row work
    → reads target ≡ goal_of s row
copies_made first s h reads row work target is rows none settles g =
    ap reads same ∙ ext_get_or 0 (reads g.target) (goal_of s row) g.ahead.made_whole
    (λ i below. made_place i (is_owed row.kind work i) (nothing_is_owed work none row.kind rows i) (g.ahead.at i (ap (λ b. b || was_dirty g.begun.granules i) settles)))
  where
    same : target ≡ g.target
    same = let both : Some target ≡ Some g.target = sym is ∙ g.is_target in cc both

    made_place : (i : ℕ) (b : Bool) → b ≡ false
        → IsPlaceAhead b (slice_index (bytes_at_node s row.source) i) (slice_index (goal_of s row) i) (slice_index (reads g.target) i)
        → get_or (reads g.target) i 0 ≡ get_or (goal_of s row) i 0
    made_place i true paid place = absurd (false≢true (sym paid))
    made_place i false paid place = place
