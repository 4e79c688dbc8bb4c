-- A job begins: what it is to copy is owed, and the others go on.
use Rattle.std.proofs.Common.{◌≡◌, ◌≢◌, ◌⊎◌, ℕ, zero, suc, ◌+◌, ◌*◌, ◌/◌, ◌%◌, ◌<◌, ◌≤◌, Bool, true, false, cond, List, [], ◌∷◌, ◌++◌, length, get_or, refl, sym, ap, ◌∙◌, subst, inl, inr, arith, Option, Some, None, nat_lt}
use Rattle.std.specs.Prelude.{◌==◌, ◌&&◌, ◌||◌, replicate, slice_index, option_and_then}
use Rattle.std.specs.List.{Contains}
use Rattle.std.proofs.Math.Nat.{div-lt_iff_lt-mul, div-mul-le_self, mul-div-le, mul-le-mul_left, mul_assoc, mul_comm}
use Rattle.std.proofs.lemmas.Bool.{false≢true, cases_lt, eqb-true, eqb-false, eq-eqb, ne_eqb}
use Rattle.std.proofs.lemmas.Bool.Decides.{nat_tests}
use Rattle.std.proofs.lemmas.List.{get_or_past, get_or-replicate, length-replicate}
use Rattle.blk_bitmaps.specs.Rows.{granule_count}
use Rattle.blk_bits.specs.Granules.{contains, overlaps, overlaps_member}
use Rattle.blk_bits.specs.declared.ratio.Ratio.{Ratio}
use Rattle.blk_bits.proofs.GranuleLemmas.{contains-those_below}
use Rattle.blk_bits.proofs.MergeLemmas.{overlapping, overlapped-by}
use Rattle.blk_graph.proofs.Members.{Contains-nil, find-Some}
use Rattle.blk_history.specs.declared.event.Event.{Event}
use Rattle.blk_history.specs.declared.event.Event.TheVariants.{Start}
use Rattle.block_jobs.specs.Ahead.{IsPlaceAhead, IsAhead, is_owed}
use Rattle.block_jobs.specs.Work.{JobWork, is_left, part_bytes}
use Rattle.block_jobs.proofs.PartLemmas.{among, member_below}
use Rattle.qmp_codec.specs.declared.event.JobKind.{JobKind}
use Rattle.qmp_codec.specs.declared.event.JobKind.TheVariants.{Stream, Commit, Mirror, Backup}
use Rattle.qmp_rules.specs.declared.rows.JobRecord.{JobRecord}
use Rattle.qmp_rules.specs.Ends.{settles_target}
use Rattle.qmp_rules.specs.Queries.{bytes_of_node}
use Rattle.qmp_rules.specs.Table.{job_at, node_by_id}
use Rattle.flat_machine.specs.Begun.{begun_of, copy_bytes, backed_up, mixed}
use Rattle.flat_machine.specs.Jobs.{begin, copied_to, granules_of, noted_start, started, target_bytes, target_file, unleft, writes_target}
use Rattle.flat_machine.specs.Machine.{after}
use Rattle.flat_machine.specs.State.{State, Begun, Dirty, bytes_at_node}
use Rattle.job_tables.specs.Jobs.{JobsStand}
use Rattle.job_works.specs.Works.{work_of}
use Rattle.job_works.proofs.Changed.{pushed_at, pushed_else}
use Rattle.job_progress.specs.Beginning.{AreGranulesOf, CanBeCopied, begun_by, work_begun}
use Rattle.job_progress.specs.Piecing.{follows}
use Rattle.job_progress.specs.Going.{goal_by, goal_of, is_due, was_dirty, IsJobAhead, AreJobsAhead}
use Rattle.job_progress.proofs.Entries.{goes_later}
use Rattle.job_progress.proofs.Goes.{alike_itself, goes}

-- ---- parts and granules

overlaps-is : (ratio : Ratio) (k j : ℕ) → ratio.mine * k < ratio.theirs * (j + 1) → ratio.theirs * j < ratio.mine * (k + 1) → overlaps ratio k j ≡ true
overlaps-is ratio k j ends begins = grind (arith, nat_tests)

first_true : (a b : Bool) → (a && b) ≡ true → a ≡ true
first_true true b e = refl
first_true false b e = e

second_true : (a b : Bool) → (a && b) ≡ true → b ≡ true
second_true true b e = e
second_true false b e = absurd (false≢true e)

lt-true : (a b : ℕ) → nat_lt a b ≡ true → a < b
lt-true a b e = grind (arith, nat_tests)

overlaps-ends : (ratio : Ratio) (k j : ℕ) → overlaps ratio k j ≡ true → ratio.mine * k < ratio.theirs * (j + 1)
overlaps-ends ratio k j over =
    lt-true (ratio.mine * k) (ratio.theirs * (j + 1)) (first_true (nat_lt (ratio.mine * k) (ratio.theirs * (j + 1))) (nat_lt (ratio.theirs * j) (ratio.mine * (k + 1))) over)

overlaps-begins : (ratio : Ratio) (k j : ℕ) → overlaps ratio k j ≡ true → ratio.theirs * j < ratio.mine * (k + 1)
overlaps-begins ratio k j over =
    lt-true (ratio.theirs * j) (ratio.mine * (k + 1)) (second_true (nat_lt (ratio.mine * k) (ratio.theirs * (j + 1))) (nat_lt (ratio.theirs * j) (ratio.mine * (k + 1))) over)

-- a granule is made of whole parts
record IsMadeOf (g p : ℕ) : Type 0 where
  times : ℕ
  is : g ≡ p * times

made_of_parts : (g : ℕ) → ((g % 512 ≡ 0) × (65536 % g ≡ 0)) ⊎ (g % 65536 ≡ 0) → IsMadeOf g (part_bytes g)
made_of_parts g fit = by_test ((g % 512 == 0) && (65536 % g == 0)) refl
  where
    both : (a b : Bool) → a ≡ true → b ≡ true → (a && b) ≡ true
    both a b e f = rw (e, f) refl

    by_test : (b : Bool) → ((g % 512 == 0) && (65536 % g == 0)) ≡ b → IsMadeOf g (cond b g 65536)
    by_test true e = record { times = 1; is = omega arith }
    by_test false e = elim fit [
      | inl small ↦ absurd (false≢true (sym e ∙ both (g % 512 == 0) (65536 % g == 0) (eq-eqb (g % 512) 0 small.0) (eq-eqb (65536 % g) 0 small.1)))
      | inr large ↦ record { times = g / 65536; is = omega (arith, large) }
    ]

some_part : (g : ℕ) → 0 < g → 0 < part_bytes g
some_part g some = by_test ((g % 512 == 0) && (65536 % g == 0))
  where
    by_test : (b : Bool) → 0 < cond b g 65536
    by_test true = some
    by_test false = omega arith

module _ (p g i : ℕ) (some : 0 < p) (some_g : 0 < g) where
  below : p * (i / p) ≤ i
  below = mul-div-le i p

  above : i < p * (i / p + 1)
  above = let next : p * (i / p + 1) ≡ p * (i / p) + p = omega arith in omega (arith, some)

  -- the part of a place shares it with the place's granule
  at_place : overlaps (record { mine = p; theirs = g }) (i / p) (i / g) ≡ true
  at_place =
      let low : g * (i / g) ≤ i = mul-div-le i g in
      let next : g * (i / g + 1) ≡ g * (i / g) + g = omega arith in
      let high : i < g * (i / g + 1) = omega (arith, some_g) in
      overlaps-is (record { mine = p; theirs = g }) (i / p) (i / g) (omega (arith, below, high)) (omega (arith, low, above))

  -- and with no other, where granules are made of parts
  only_place : IsMadeOf g p → (j : ℕ) → overlaps (record { mine = p; theirs = g }) (i / p) j ≡ true → j ≡ i / g
  only_place made j over = omega (arith, at_most, at_least)
    where
      m : ℕ
      m = made.times

      ends : p * (i / p) < g * (j + 1)
      ends = overlaps-ends (record { mine = p; theirs = g }) (i / p) j over

      begins : g * j < p * (i / p + 1)
      begins = overlaps-begins (record { mine = p; theirs = g }) (i / p) j over

      by_parts : (n : ℕ) → g * n ≡ p * (m * n)
      by_parts n = ap (λ x. x * n) made.is ∙ mul_assoc p m n

      j_below : m * j ≤ i / p
      j_below = elim (cases_lt (i / p) (m * j)) [
        | inl more ↦ absurd (let past : p * (i / p + 1) ≤ p * (m * j) = mul-le-mul_left p (omega (arith, more)) in
            let same = by_parts j in omega (arith, past, same, begins))
        | inr most ↦ most
      ]

      j_above : i / p + 1 ≤ m * (j + 1)
      j_above = elim (cases_lt (i / p) (m * (j + 1))) [
        | inl less ↦ omega (arith, less)
        | inr past ↦ absurd (let more : p * (m * (j + 1)) ≤ p * (i / p) = mul-le-mul_left p past in
            let same = by_parts (j + 1) in omega (arith, more, same, ends))
      ]

      from : g * j ≤ i
      from =
          let low : p * (m * j) ≤ p * (i / p) = mul-le-mul_left p j_below in
          let same = by_parts j in
          let on = below in
          omega (arith, low, same, on)

      to : i < g * (j + 1)
      to =
          let high : p * (i / p + 1) ≤ p * (m * (j + 1)) = mul-le-mul_left p j_above in
          let same = by_parts (j + 1) in
          let on = above in
          omega (arith, high, same, on)

      at_most : i / g < j + 1
      at_most = (div-lt_iff_lt-mul some_g).1 (subst (λ n. i < n) (mul_comm g (j + 1)) to)

      at_least : j ≤ i / g
      at_least = elim (cases_lt (i / g) j) [
        | inl less ↦ absurd (let past : i < j * g = (div-lt_iff_lt-mul some_g).0 less in let same = mul_comm g j in let on = from in omega (arith, past, same, on))
        | inr most ↦ most
      ]

-- ---- which places are left

-- by a bitmap, those whose granule it held
module _ (row : JobRecord) (size : ℕ) (d : Dirty) (fit : AreGranulesOf size d) where
  abbrev p : ℕ
  p = part_bytes d.granularity

  abbrev ratio : Ratio
  ratio = record { mine = p; theirs = d.granularity }

  abbrev count : ℕ
  count = granule_count size p

  some_p : 0 < p
  some_p = some_part d.granularity fit.some

  abbrev none : List Bool
  none = replicate count false

  none_contains : (k : ℕ) → contains none k ≡ false
  none_contains k = by_place (contains none k) refl
    where
      by_place : (b : Bool) → contains none k ≡ b → b ≡ false
      by_place false e = refl
      by_place true e =
          let within : k < count = subst (λ n. k < n) (length-replicate count false) (member_below none k e) in
          absurd (false≢true (sym (get_or-replicate count k false false within) ∙ e))

  left_is : (place : ℕ) → place / p < count → is_left (begun_by row size (Some d)) place ≡ overlaps_member ratio d.set (place / p) (length d.set)
  left_is place within =
      contains-those_below (length none) (λ k. contains none k || overlaps_member ratio d.set k (length d.set)) (place / p)
      (subst (λ n. place / p < n) (sym (length-replicate count false)) within)
      ∙ ap (λ b. b || overlaps_member ratio d.set (place / p) (length d.set)) (none_contains (place / p))

  held_is_left : (place : ℕ) → place < size → contains d.set (place / d.granularity) ≡ true → is_left (begun_by row size (Some d)) place ≡ true
  held_is_left place inside held =
      left_is place ((among size p (place / p) some_p).1 (let low = div-mul-le_self place p in omega (arith, low, inside)))
      ∙ overlapped-by ratio d.set (place / p) (length d.set) (place / d.granularity) (member_below d.set (place / d.granularity) held) held
      (at_place p d.granularity place some_p fit.some)

  left_is_held : (place : ℕ) → place < size → is_left (begun_by row size (Some d)) place ≡ true → contains d.set (place / d.granularity) ≡ true
  left_is_held place inside left =
      let within = (among size p (place / p) some_p).1 (let low = div-mul-le_self place p in omega (arith, low, inside)) in
      let w = overlapping ratio d.set (place / p) (length d.set) (sym (left_is place within) ∙ left) in
      let same : w.0 ≡ place / d.granularity = only_place p d.granularity place some_p fit.some (made_of_parts d.granularity fit.fit) w.0 w.3 in
      subst (λ k. contains d.set k ≡ true) same w.2

-- else all
all_is_left : (row : JobRecord) (size place : ℕ) → place < size → is_left (begun_by row size None) place ≡ true
all_is_left row size place inside =
    get_or-replicate (length (replicate (granule_count size 65536) false)) (place / 65536) true false
    (subst (λ n. place / 65536 < n) (sym (length-replicate (granule_count size 65536) false))
    ((among size 65536 (place / 65536) (omega arith)).1 (let low = div-mul-le_self place 65536 in omega (arith, low, inside))))

-- ---- what is owed

length-mixed : (test : ℕ → Bool) (at : ℕ) (ones others : List ℕ) → length ones ≡ length others → length (mixed test at ones others) ≡ length ones
length-mixed test at [] others same = refl
length-mixed test at (a ∷ ones) [] same = absurd (omega (arith, same))
length-mixed test at (a ∷ ones) (b ∷ others) same = ap suc (length-mixed test (at + 1) ones others (omega (arith, same)))

get_or-mixed : (test : ℕ → Bool) (at : ℕ) (ones others : List ℕ) (k : ℕ) → k < length ones → k < length others
    → get_or (mixed test at ones others) k 0 ≡ cond (test (at + k)) (get_or ones k 0) (get_or others k 0)
get_or-mixed test at [] others k in_ones in_others = absurd (omega (arith, in_ones))
get_or-mixed test at (a ∷ ones) [] k in_ones in_others = absurd (omega (arith, in_others))
get_or-mixed test at (a ∷ ones) (b ∷ others) zero in_ones in_others = let same : at + 0 ≡ at = omega arith in rw same refl
get_or-mixed test at (a ∷ ones) (b ∷ others) (suc k) in_ones in_others =
    get_or-mixed test (at + 1) ones others k (omega (arith, in_ones)) (omega (arith, in_others))
    ∙ ap (λ n. cond (test n) (get_or ones k 0) (get_or others k 0)) (let same : at + 1 + k ≡ at + suc k = omega arith in same)

same_place : (b : Bool) (source goal made : ℕ) → source ≡ goal → made ≡ goal → IsPlaceAhead b source goal made
same_place true source goal made a m = a
same_place false source goal made a m = m

past_end : (b : Bool) (source goal made : List ℕ) (i : ℕ) → length source ≤ i → length goal ≤ i → length made ≤ i
    → IsPlaceAhead b (slice_index source i) (slice_index goal i) (slice_index made i)
past_end b source goal made i a g m =
    same_place b (slice_index source i) (slice_index goal i) (slice_index made i)
    (get_or_past source i 0 a ∙ sym (get_or_past goal i 0 g)) (get_or_past made i 0 m ∙ sym (get_or_past goal i 0 g))

-- a place that is owed, or where the source is as it is to be, and one that isn't
owed_place : (b : Bool) (source goal made : ℕ) → (b ≡ true → source ≡ goal) → (b ≡ false → made ≡ goal) → IsPlaceAhead b source goal made
owed_place true source goal made owing paid = owing refl
owed_place false source goal made owing paid = paid refl

or_none : (b : Bool) → (b || false) ≡ b
or_none true = refl
or_none false = refl

-- all of the disk
ahead_whole : (due owed : ℕ → Bool) (source made : List ℕ) (size : ℕ) → length source ≡ size → length made ≡ size → ((i : ℕ) → i < size → owed i ≡ true)
    → IsAhead due owed source source made
ahead_whole due owed source made size of_source of_made all = record {
  source_whole = refl;
  made_whole = of_made ∙ sym of_source;
  at = λ i is. elim (cases_lt i size) [
    | inl inside ↦
        owed_place (owed i) (slice_index source i) (slice_index source i) (slice_index made i) (λ owing. refl)
        (λ paid. absurd (false≢true (sym paid ∙ all i inside)))
    | inr past ↦ past_end (owed i) source source made i (omega (arith, of_source, past)) (omega (arith, of_source, past)) (omega (arith, of_made, past))
  ];
}

-- what a bitmap held
ahead_held : (due held owed : ℕ → Bool) (source target made : List ℕ) (size : ℕ) → length source ≡ size → length target ≡ size → length made ≡ size
    → ((i : ℕ) → i < size → owed i ≡ held i) → ((i : ℕ) → due i ≡ true → held i ≡ false → made ≡ target)
    → IsAhead due owed source (mixed held 0 source target) made
ahead_held due held owed source target made size of_source of_target of_made same rest = record {
  source_whole = of_source ∙ sym of_goal;
  made_whole = of_made ∙ sym of_goal;
  at = λ i is. elim (cases_lt i size) [
    | inl inside ↦
        let goal_is : slice_index (mixed held 0 source target) i ≡ cond (held i) (slice_index source i) (slice_index target i)
        = get_or-mixed held 0 source target i (omega (arith, of_source, inside)) (omega (arith, of_target, inside))
        ∙ ap (λ n. cond (held n) (slice_index source i) (slice_index target i)) (let zero_more : 0 + i ≡ i = omega arith in zero_more) in
        owed_place (owed i) (slice_index source i) (slice_index (mixed held 0 source target) i) (slice_index made i)
        (λ owing. sym (goal_is ∙ ap (λ b. cond b (slice_index source i) (slice_index target i)) (sym (same i inside) ∙ owing)))
        (λ paid.
        let free : held i ≡ false = sym (same i inside) ∙ paid in
        ap (λ xs. slice_index xs i) (rest i is free)
        ∙ sym (goal_is ∙ ap (λ b. cond b (slice_index source i) (slice_index target i)) free))
    | inr past ↦ past_end (owed i) source (mixed held 0 source target) made i (omega (arith, of_source, past)) (omega (arith, of_goal, past)) (omega (arith, of_made, past))
  ];
}
  where
    of_goal : length (mixed held 0 source target) ≡ size
    of_goal = length-mixed held 0 source target (of_source ∙ sym of_target) ∙ of_source

same_truth : (a b : Bool) → (a ≡ true → b ≡ true) → (b ≡ true → a ≡ true) → a ≡ b
same_truth true true f g = refl
same_truth true false f g = sym (f refl)
same_truth false true f g = g refl
same_truth false false f g = refl

module _ (s : State) (reads : ℕ → List ℕ) (row : JobRecord) (target : ℕ) (can : CanBeCopied s reads row target) where
  abbrev size : ℕ
  size = bytes_of_node s.table row.source

  abbrev source : List ℕ
  source = bytes_at_node s row.source

  abbrev due : Option Dirty → ℕ → Bool
  due granules place = settles_target row.bitmap || was_dirty granules place

  -- of a mirror or a commit all is owed
  all_owed : (k : JobKind) → follows k ≡ true → (i : ℕ) → i < size → is_owed k (begun_by row size None) i ≡ true
  all_owed Mirror f i inside = or_none (is_left (begun_by row size None) i) ∙ all_is_left row size i inside
  all_owed Commit f i inside = all_is_left row size i inside
  all_owed Stream f i inside = absurd (false≢true f)
  all_owed Backup f i inside = absurd (false≢true f)

  follower_ahead : (k : JobKind) → follows k ≡ true → row.kind ≡ k → (granules : Option Dirty) → granules_of s row row.bitmap ≡ granules
      → IsAhead (due granules) (is_owed k (begun_by row size granules)) source source (reads target)
  follower_ahead k f kind None is =
      ahead_whole (due None) (is_owed k (begun_by row size None)) source (reads target) size can.source can.whole (all_owed k f)
  follower_ahead k f kind (Some d) is = absurd (let none : granules_of s row row.bitmap ≡ None = ap (granules_of s row) (can.bare (ap follows kind ∙ f)) in cc)

  backup_ahead : (granules : Option Dirty) → granules_of s row row.bitmap ≡ granules
      → IsAhead (due granules) (is_owed Backup (begun_by row size granules)) source
      (backed_up (record { job = row.number; source = source; target = bytes_at_node s target; granules = granules }) granules) (reads target)
  backup_ahead None is =
      ahead_whole (due None) (is_owed Backup (begun_by row size None)) source (reads target) size can.source can.whole (all_is_left row size)
  backup_ahead (Some d) is =
      let fit = can.granules d is in
      ahead_held (due (Some d)) (λ place. contains d.set (place / d.granularity)) (is_owed Backup (begun_by row size (Some d))) source (bytes_at_node s target) (reads target)
      size can.source can.found can.whole
      (λ i inside. same_truth (is_left (begun_by row size (Some d)) i) (contains d.set (i / d.granularity))
      (left_is_held row size d fit i inside) (held_is_left row size d fit i inside))
      (λ i is_due free. can.settled d is (left_of (settles_target row.bitmap) (contains d.set (i / d.granularity)) free is_due))
    where
      left_of : (a b : Bool) → b ≡ false → (a || b) ≡ true → a ≡ true
      left_of true b clean h = refl
      left_of false b clean h = absurd (false≢true (sym clean ∙ h))

  -- ---- the job that begins

  module _ (first : State) (h : List Event) (now : State) (table : now.table ≡ s.table) (disks : now.disks ≡ s.disks)
      (begun_is : now.begun ≡ s.begun ++ begin s row ∷ []) (none : begun_of s.begun row.number ≡ None) where
    found_new : begun_of now.begun row.number ≡ Some (begin s row)
    found_new = ap (λ bs. begun_of bs row.number) begun_is ∙ find_last s.begun (begin s row) refl none
      where
        find_last : (bs : List Begun) (new : Begun) → new.job ≡ row.number → begun_of bs row.number ≡ None → begun_of (bs ++ new ∷ []) row.number ≡ Some new
        find_last [] new own e = rw (eq-eqb new.job row.number own) refl
        find_last (b ∷ bs) new own e = by_test (b.job == row.number) (find_last bs new own) e
          where
            by_test : (c : Bool) → (begun_of bs row.number ≡ None → begun_of (bs ++ new ∷ []) row.number ≡ Some new) → cond c (Some b) (begun_of bs row.number) ≡ None
                → cond c (Some b) (begun_of (bs ++ new ∷ []) row.number) ≡ Some new
            by_test true more k = absurd cc
            by_test false more k = more k

    source_now : bytes_at_node now row.source ≡ source
    source_now = rw (bytes_at_node, table, disks) refl

    size_now : bytes_of_node now.table row.source ≡ size
    size_now = ap (λ t. bytes_of_node t row.source) table

    target_is : target_bytes s row.target ≡ bytes_at_node s target
    target_is = ap (target_bytes s) can.is_target

    -- it has nothing to hold yet
    rows_none : (granules : Option Dirty) → (begun_by row size granules).rows ≡ []
    rows_none None = refl
    rows_none (Some d) = refl

    by_kind : (k : JobKind) → row.kind ≡ k → writes_target k ≡ true
        → IsAhead (due (granules_of s row row.bitmap)) (is_owed k (work_begun s row)) source (goal_by now row k) (reads target)
    by_kind Stream kind copies = absurd (false≢true copies)
    by_kind Commit kind copies =
        subst (λ goal. IsAhead (due (granules_of s row row.bitmap)) (is_owed Commit (work_begun s row)) source goal (reads target)) (sym source_now)
        (follower_ahead Commit refl kind (granules_of s row row.bitmap) refl)
    by_kind Mirror kind copies =
        subst (λ goal. IsAhead (due (granules_of s row row.bitmap)) (is_owed Mirror (work_begun s row)) source goal (reads target)) (sym source_now)
        (follower_ahead Mirror refl kind (granules_of s row row.bitmap) refl)
    by_kind Backup kind copies =
        subst (λ goal. IsAhead (due (granules_of s row row.bitmap)) (is_owed Backup (work_begun s row)) source goal (reads target)) (sym goal_is)
        (backup_ahead (granules_of s row row.bitmap) refl)
      where
        goal_is : copy_bytes (begun_of now.begun row.number)
            ≡ backed_up (record { job = row.number; source = source; target = bytes_at_node s target; granules = granules_of s row row.bitmap }) (granules_of s row row.bitmap)
        goal_is =
            ap copy_bytes found_new
            ∙ ap (λ xs. backed_up (record { job = row.number; source = source; target = xs; granules = granules_of s row row.bitmap }) (granules_of s row row.bitmap)) target_is

    new_goes : writes_target row.kind ≡ true → IsJobAhead first h now reads row (work_begun s row)
    new_goes copies = record {
      begun = begin s row;
      found_disks = record {
        found = found_new;
        source = can.source ∙ sym size_now;
        target = ap length target_is ∙ can.found ∙ sym size_now;
        whole = ap length source_now ∙ can.source ∙ sym size_now;
      };
      target = target;
      is_target = can.is_target;
      ahead =
          subst (λ xs. IsAhead (is_due row (begin s row)) (is_owed row.kind (work_begun s row)) xs (goal_of now row) (reads target)) (sym source_now)
          (by_kind row.kind refl copies);
      copies = λ t there. absurd (Contains-nil t (subst (λ rows. Contains rows t) (rows_none (granules_of s row row.bitmap)) there));
      whole = can.bare;
      at_once = λ commit. rows_none (granules_of s row row.bitmap);
    }

-- ---- all jobs

record HasStarted (s now : State) (row : JobRecord) : Type 0 where
  table : now.table ≡ s.table
  disks : now.disks ≡ s.disks
  begun : now.begun ≡ s.begun ++ begin s row ∷ []

has_started : (s : State) (row : JobRecord) → job_at s.table row.number ≡ Some row → HasStarted s (after s (Start row.number)) row
has_started s row at =
    subst (λ found. HasStarted s (started s found) row) (sym at)
    (by_file (target_file s.table (option_and_then (node_by_id s.table) (copied_to row row.kind))))
  where
    by_file : (file : Option (List ℕ)) → HasStarted s (unleft file (noted_start s row)) row
    by_file None = record { table = refl; disks = refl; begun = refl }
    by_file (Some name) = record { table = refl; disks = refl; begun = refl }

begun_else : (bs : List Begun) (new : Begun) (n : ℕ) → n ≢ new.job → begun_of (bs ++ new ∷ []) n ≡ begun_of bs n
begun_else [] new n differ = rw (ne_eqb new.job n (λ same. differ (sym same))) refl
begun_else (b ∷ bs) new n differ = ap (λ rest. cond (b.job == n) (Some b) rest) (begun_else bs new n differ)

begun_job : (row : JobRecord) (size : ℕ) (granules : Option Dirty) → (begun_by row size granules).job ≡ row.number
begun_job row bytes None = refl
begun_job row bytes (Some d) = refl

pub start_begins : (first s : State) (h : List Event) (reads : ℕ → List ℕ) (row : JobRecord) (target : ℕ) (works : List JobWork) → JobsStand s.table
    → job_at s.table row.number ≡ Some row → work_of works row.number ≡ None → begun_of s.begun row.number ≡ None → CanBeCopied s reads row target
    → AreJobsAhead first h s reads works → AreJobsAhead first (h ++ Start row.number ∷ []) (after s (Start row.number)) reads (works ++ work_begun s row ∷ [])
start_begins first s h reads row target works j at free none can go other work there copies found going = by_test (other.number == row.number) refl
  where
    now : State
    now = after s (Start row.number)

    started_so : HasStarted s now row
    started_so = has_started s row at

    there_was : Contains s.table.jobs other
    there_was = subst (λ t. Contains t.jobs other) started_so.table there

    row_there : Contains s.table.jobs row
    row_there = (find-Some (λ (r : JobRecord). r.number == row.number) s.table.jobs row at).0

    new_job : (work_begun s row).job ≡ row.number
    new_job = begun_job row (bytes_of_node s.table row.source) (granules_of s row row.bitmap)

    its_own : work_of (works ++ work_begun s row ∷ []) row.number ≡ Some (work_begun s row)
    its_own =
        subst (λ n. work_of (works ++ work_begun s row ∷ []) n ≡ Some (work_begun s row)) new_job
        (pushed_at works (work_begun s row) (subst (λ n. work_of works n ≡ None) (sym new_job) free))

    by_test : (b : Bool) → (other.number == row.number) ≡ b → IsJobAhead first (h ++ Start row.number ∷ []) now reads other work
    by_test true e =
        let number : other.number ≡ row.number = eqb-true other.number row.number e in
        let same : other ≡ row = j.numbers other row there_was row_there number in
        let both : Some work ≡ Some (work_begun s row) = sym found ∙ ap (work_of (works ++ work_begun s row ∷ [])) number ∙ its_own in
        let one : work ≡ work_begun s row = cc both in
        subst (λ (w : JobWork). IsJobAhead first (h ++ Start row.number ∷ []) now reads other w) (sym one)
        (subst (λ (r : JobRecord). IsJobAhead first (h ++ Start row.number ∷ []) now reads r (work_begun s row)) (sym same)
        (new_goes s reads row target can first (h ++ Start row.number ∷ []) now started_so.table started_so.disks started_so.begun none
        (ap (λ (r : JobRecord). writes_target r.kind) (sym same) ∙ copies)))
    by_test false e =
        let differ : other.number ≢ row.number = eqb-false other.number row.number e in
        let was : work_of works other.number ≡ Some work = sym (pushed_else works (work_begun s row) other.number (λ same. differ (same ∙ new_job))) ∙ found in
        goes first (h ++ Start row.number ∷ []) s now reads reads other other work (alike_itself other)
        (record {
          begun = ap (λ bs. begun_of bs other.number) started_so.begun ∙ begun_else s.begun (begin s row) other.number differ;
          size = ap (λ t. bytes_of_node t other.source) started_so.table;
          source = rw (bytes_at_node, started_so.table, started_so.disks) refl;
          target = λ node is. refl;
        })
        (goes_later first h (Start row.number ∷ []) s reads other work (go other work there_was copies was going))
