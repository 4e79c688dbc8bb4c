-- Copies in flight, and work that stays in order.
use Rattle.std.proofs.Common.{◌≡◌, ℕ, ◌<◌, ◌≤◌, ◌==◌, Bool, true, false, not, ◌&&◌, ◌||◌, List, [], ◌∷◌, ◌++◌, length, map, cond, refl, sym, ◌∙◌, subst, ◌*◌, ◌/◌, ◌%◌, ◌^◌, replicate, None, arith, eqb, eq-eqb, eqb-true, length-append}
use Rattle.std.specs.List.{list_any, AllByRecursion, IsDistinct}
use Rattle.std.proofs.lemmas.Bool.{false≢true}
use Rattle.std.proofs.lemmas.Map.Keys.{IsDistinct-cons}
use Rattle.std.proofs.lemmas.Map.Steps.{length-le_from_distinct_below}
use Rattle.std.proofs.lemmas.List.{length-map, length-replicate}
use Rattle.blk_copy.specs.Rows.{is_of, is_in_flight, has_row, without_row}
use Rattle.blk_copy.specs.declared.transfers.Transfer.{Transfer}
use Rattle.blk_base.specs.Pieces.{block_size}
use Rattle.blk_bitmaps.specs.Rows.{granule_count}
use Rattle.blk_copy.specs.Table.{Table}
use Rattle.block_jobs.specs.Work.{JobWork, AreCopiesOf, HasRoomForAll, IsJobWork, begun, block_count, has_open, part_bytes, room_for, sector_size}
use Rattle.qmp_codec.specs.declared.event.JobKind.{JobKind}

pub left_false : (a b : Bool) → (a || b) ≡ false → a ≡ false
left_false true b e = e
left_false false b e = refl

pub right_false : (a b : Bool) → (a || b) ≡ false → b ≡ false
right_false true b e = absurd (false≢true (sym e))
right_false false b e = e

-- fewer rows

no_row_fewer : (job c block : ℕ) (rows : List Transfer) → has_row job c rows ≡ false → has_row job c (without_row job block rows) ≡ false
no_row_fewer job c block [] none = refl
no_row_fewer job c block (row ∷ rows) none =
    by_test (is_of job block row) (no_row_fewer job c block rows (right_false (is_of job c row) (has_row job c rows) none))
  where
    by_test : (b : Bool) → has_row job c (without_row job block rows) ≡ false
        → has_row job c (cond (not b) (row ∷ without_row job block rows) (without_row job block rows)) ≡ false
    by_test true rest = rest
    by_test false rest = rw (left_false (is_of job c row) (has_row job c rows) none) rest

pub copies_fewer : (job size block : ℕ) (rows : List Transfer) → AreCopiesOf job size rows → AreCopiesOf job size (without_row job block rows)
copies_fewer job size block [] are = tt
copies_fewer job size block (row ∷ rows) are = by_test (is_of job block row) (copies_fewer job size block rows are.3)
  where
    by_test : (b : Bool) → AreCopiesOf job size (without_row job block rows)
        → AreCopiesOf job size (cond (not b) (row ∷ without_row job block rows) (without_row job block rows))
    by_test true rest = rest
    by_test false rest = (are.0, are.1, no_row_fewer job row.cluster block rows are.2, rest)

-- one more

pub is_of_own : (job c : ℕ) (row : Transfer) → row.job ≡ job → is_of job c row ≡ (row.cluster == c)
is_of_own job c row own = rw (eq-eqb row.job job own) refl

pub flip : (a b : ℕ) → (a == b) ≡ false → (b == a) ≡ false
flip a b apart = by_test (b == a) refl
  where
    by_test : (t : Bool) → (b == a) ≡ t → t ≡ false
    by_test false e = refl
    by_test true e = absurd (false≢true (sym apart ∙ eq-eqb a b (sym (eqb-true b a e))))

no_row_more : (job c : ℕ) (rows : List Transfer) (t : Transfer) → t.job ≡ job → has_row job c rows ≡ false → (t.cluster == c) ≡ false
    → has_row job c (rows ++ t ∷ []) ≡ false
no_row_more job c [] t own none apart = rw (is_of_own job c t own, apart) refl
no_row_more job c (row ∷ rows) t own none apart =
    rw (left_false (is_of job c row) (has_row job c rows) none) (no_row_more job c rows t own (right_false (is_of job c row) (has_row job c rows) none) apart)

pub copies_more : (job size : ℕ) (rows : List Transfer) (t : Transfer) → t.job ≡ job → t.cluster < block_count size → has_row job t.cluster rows ≡ false
    → AreCopiesOf job size rows → AreCopiesOf job size (rows ++ t ∷ [])
copies_more job size [] t own within none are = (own, within, refl, tt)
copies_more job size (row ∷ rows) t own within none are = (
  are.0,
  are.1,
  no_row_more job row.cluster rows t own are.2
      (flip row.cluster t.cluster (sym (is_of_own job t.cluster row are.0) ∙ left_false (is_of job t.cluster row) (has_row job t.cluster rows) none)),
  copies_more job size rows t own within (right_false (is_of job t.cluster row) (has_row job t.cluster rows) none) are.3,
)

-- there is room for them

abbrev clusters : List Transfer → List ℕ
clusters rows = map (λ row. row.cluster) rows

module _ (job size : ℕ) where
  not_among : (c : ℕ) (rows : List Transfer) → AreCopiesOf job size rows → has_row job c rows ≡ false → list_any (eqb c) (clusters rows) ≡ false
  not_among c [] are none = refl
  not_among c (row ∷ rows) are none =
      rw (flip row.cluster c (sym (is_of_own job c row are.0) ∙ left_false (is_of job c row) (has_row job c rows) none))
      (not_among c rows are.3 (right_false (is_of job c row) (has_row job c rows) none))

  among_within : (c : ℕ) (rows : List Transfer) → AreCopiesOf job size rows → list_any (eqb c) (clusters rows) ≡ true → c < block_count size
  among_within c [] are there = absurd (false≢true there)
  among_within c (row ∷ rows) are there = by_test (eqb c row.cluster) refl there (λ more. among_within c rows are.3 more)
    where
      by_test : (b : Bool) → eqb c row.cluster ≡ b → (b || list_any (eqb c) (clusters rows)) ≡ true
          → (list_any (eqb c) (clusters rows) ≡ true → c < block_count size) → c < block_count size
      by_test true is there rest = subst (λ (n : ℕ). n < block_count size) (sym (eqb-true c row.cluster is)) are.1
      by_test false is there rest = rest there

  apart_all : (c : ℕ) (xs : List ℕ) → list_any (eqb c) xs ≡ false → AllByRecursion (λ y. eqb c y ≡ false) xs
  apart_all c [] none = tt
  apart_all c (x ∷ xs) none = (left_false (eqb c x) (list_any (eqb c) xs) none, apart_all c xs (right_false (eqb c x) (list_any (eqb c) xs) none))

  distinct : (rows : List Transfer) → AreCopiesOf job size rows → IsDistinct eqb (clusters rows)
  unfolding IsDistinct
  distinct [] are = tt
  distinct (row ∷ rows) are =
      IsDistinct-cons eqb row.cluster (clusters rows) (apart_all row.cluster (clusters rows) (not_among row.cluster rows are.3 are.2)) (distinct rows are.3)

  pub no_more_than_blocks : (rows : List Transfer) → AreCopiesOf job size rows → length rows ≤ block_count size
  no_more_than_blocks rows are =
      let most : length (clusters rows) ≤ block_count size
      = length-le_from_distinct_below (clusters rows) (block_count size) (distinct rows are) (λ c there. among_within c rows are there) in
      omega (arith, most, length-map rows (λ row. row.cluster))

  -- a block without a copy in flight has room for one
  pub room_left : (rows : List Transfer) (t : Transfer) → t.job ≡ job → t.cluster < block_count size → has_row job t.cluster rows ≡ false
      → AreCopiesOf job size rows → length rows < block_count size
  room_left rows t own within none are =
      let most : length (rows ++ t ∷ []) ≤ block_count size = no_more_than_blocks (rows ++ t ∷ []) (copies_more job size rows t own within none are) in
      omega (arith, most, length-append rows (t ∷ []))

-- the same of work as a whole
pub room_for_one : (work : JobWork) (t : Transfer) → t.job ≡ work.job → t.cluster < block_count work.size → has_open work t.cluster ≡ false
    → HasRoomForAll work → AreCopiesOf work.job work.size work.rows → length work.rows < work.room
room_for_one work t own within none room are = let less = room_left work.job work.size work.rows t own within none are in omega (arith, less, room)

-- work that has just begun

part_stands : (g : ℕ) → 0 < g
    → (0 < part_bytes g) × (sector_size * (part_bytes g / sector_size) ≡ part_bytes g) × (part_bytes g * (block_size / part_bytes g) ≡ block_size)
part_stands g some = by_test (g % 512 == 0) refl (65536 % g == 0) refl
  where
    by_test : (a : Bool) → (g % 512 == 0) ≡ a → (b : Bool) → (65536 % g == 0) ≡ b
        → (0 < cond (a && b) g 65536) × (512 * (cond (a && b) g 65536 / 512) ≡ cond (a && b) g 65536) × (cond (a && b) g 65536 * (65536 / cond (a && b) g 65536) ≡ 65536)
    by_test true is true also =
        let whole : g % 512 ≡ 0 = eqb-true (g % 512) 0 is in
        let blocks : 65536 % g ≡ 0 = eqb-true (65536 % g) 0 also in
        (some, omega (arith, whole), omega (arith, some, blocks))
    by_test true is false also = (omega arith, refl, refl)
    by_test false is b also = (omega arith, refl, refl)

pub begun_stands : (kind : JobKind) (job size granularity : ℕ) → size ≤ 2 ^ 47 → 0 < granularity → IsJobWork (begun kind job size granularity)
begun_stands kind job size g small some =
    let part = part_stands g some in
    record {
      size = small;
      some = part.0;
      sectors = part.1;
      blocks = part.2;
      left = length-replicate (granule_count size (part_bytes g)) false;
      copies = tt;
    }

pub begun_is : (kind : JobKind) (job size g part count room : ℕ) (left : List Bool) (table : Table) → part ≡ part_bytes g → count ≡ granule_count size part
    → left ≡ replicate count false → room ≡ room_for kind size → table ≡ record { rows = []; room = room }
    → (let work : JobWork = record { job = job; size = size; part = part; left = left; rows = table.rows; room = table.room; met = None } in work) ≡ begun kind job size g
begun_is kind job size g part count room left table a b c d e = rw (e, c, b, d, a) refl

-- a copy in flight is of a block of the disk
pub in_flight_within : (job size : ℕ) (t : Transfer) (rows : List Transfer) → AreCopiesOf job size rows → is_in_flight t rows ≡ true → t.cluster < block_count size
in_flight_within job size t [] are there = absurd (false≢true there)
in_flight_within job size t (row ∷ rows) are there =
    by_test (is_of t.job t.cluster row && (row.position == t.position)) refl there (λ more. in_flight_within job size t rows are.3 more)
  where
    middle : (a b c : Bool) → ((a && b) && c) ≡ true → b ≡ true
    middle true true c e = refl
    middle true false c e = absurd (false≢true e)
    middle false b c e = absurd (false≢true e)

    by_test : (b : Bool) → (is_of t.job t.cluster row && (row.position == t.position)) ≡ b → (b || is_in_flight t rows) ≡ true
        → (is_in_flight t rows ≡ true → t.cluster < block_count size) → t.cluster < block_count size
    by_test true is there rest =
        let same : row.cluster ≡ t.cluster
        = eqb-true row.cluster t.cluster (middle (row.job == t.job) (row.cluster == t.cluster) (row.position == t.position) is) in
        subst (λ (n : ℕ). n < block_count size) same are.1
    by_test false is there rest = rest there
