-- How many parts are left of works, and that no copy of them is in flight.
use Rattle.std.proofs.Common.{◌≡◌, ◌≢◌, ◌⊎◌, ℕ, zero, suc, ◌+◌, ◌*◌, ◌<◌, ◌≤◌, Bool, true, false, cond, not, List, [], ◌∷◌, ◌++◌, length, map, replicate, refl, sym, ◌∙◌, ap, subst, arith, Option, Some, None, Result, Ok, Err, inl, inr}
use Rattle.std.specs.Prelude.{◌==◌, ◌&&◌, get_or, is_some, slice_index_or}
use Rattle.std.specs.List.{range_with_len, list_any}
use Rattle.std.proofs.lemmas.Bool.{false≢true, eq-eqb, le-leb, lt-ltb}
use Rattle.std.proofs.lemmas.List.Sums.{sum_by-cons}
use Rattle.std.proofs.lemmas.List.FromFn.{fill_by_all}
use Rattle.blk_bits.specs.Granules.{contains, in_span, member_count, those_below, without_span}
use Rattle.blk_copy.specs.Rows.{is_in_flight}
use Rattle.blk_copy.specs.declared.transfers.Transfer.{Transfer}
use Rattle.block_jobs.specs.Work.{JobWork, after_settle, block_count, failed_by, has_left, is_next, left_again, next_block, parts_a_block, with_transfer, without_block}
use Rattle.qmp_codec.specs.declared.event.JobKind.TheVariants.{Backup}
use Rattle.block_jobs.proofs.PartLemmas.{find_found}
use Rattle.blk_base.specs.declared.fault.Fault.{Fault}
use Rattle.blk_nodes.specs.Nodes.{Nodes}
use Rattle.job_copies.specs.Guarding.{Guards, after_guard}
use Rattle.blk_base.specs.Pieces.{Extent}
use Rattle.blk_base.specs.declared.fault.Outcome.{Outcome}
use Rattle.flat_machine.specs.Machine.{is_noted}
use Rattle.job_progress.specs.Piecing.{marked_by, marked_for, marked_if, follower_of}
use Rattle.qmp_rules.specs.Table.{RunTable}
use Rattle.qmp_rules.specs.declared.rows.JobRecord.{JobRecord}
use Rattle.trace_codec.specs.declared.op.Op.{Op}
use Rattle.trace_codec.specs.declared.op.Op.TheVariants.{Read, Write, Zero, Flush, Discard}
use Rattle.job_works.specs.Works.{marked_again, with_changed, with_work, without_work, work_of}
use Rattle.qblk_run.specs.Slots.{NoneFlies, parts_left}
use Rattle.qblk_run.proofs.Lists.{same_or_not}

-- ---- members of a set

count-cons : (b : Bool) (set : List Bool) → member_count (b ∷ set) ≡ cond b 1 0 + member_count set
count-cons b set = sum_by-cons (λ x. cond x 1 0) b set

ones-le : (b c : Bool) → (b ≡ true → c ≡ true) → cond b 1 0 ≤ cond c 1 0
ones-le false c so = omega arith
ones-le true c so = rw (so refl) (omega arith)

-- fewer pass a test that says less
count-le-map : (f g : ℕ → Bool) → ((k : ℕ) → f k ≡ true → g k ≡ true) → (xs : List ℕ) → member_count (map f xs) ≤ member_count (map g xs)
count-le-map f g so [] = omega arith
count-le-map f g so (x ∷ xs) =
    let rest = count-le-map f g so xs in
    let one = count-cons (f x) (map f xs) in
    let two = count-cons (g x) (map g xs) in
    let first = ones-le (f x) (g x) (so x) in
    omega arith

count-less : (f g : ℕ → Bool) → ((k : ℕ) → f k ≡ true → g k ≡ true) → (a n k : ℕ) → a ≤ k → k < a + n → f k ≡ false → g k ≡ true
    → member_count (map f (range_with_len a n)) < member_count (map g (range_with_len a n))
count-less f g so a zero k low high out inside = absurd (omega arith)
count-less f g so a (suc n) k low high out inside =
    let one = count-cons (f a) (map f (range_with_len (a + 1) n)) in
    let two = count-cons (g a) (map g (range_with_len (a + 1) n)) in
    by_place (same_or_not k a) one two (count-less f g so (a + 1) n k)
  where
    by_place : (k ≡ a) ⊎ (k ≢ a)
        → member_count (f a ∷ map f (range_with_len (a + 1) n)) ≡ cond (f a) 1 0 + member_count (map f (range_with_len (a + 1) n))
        → member_count (g a ∷ map g (range_with_len (a + 1) n)) ≡ cond (g a) 1 0 + member_count (map g (range_with_len (a + 1) n))
        → (a + 1 ≤ k → k < (a + 1) + n → f k ≡ false → g k ≡ true → member_count (map f (range_with_len (a + 1) n)) < member_count (map g (range_with_len (a + 1) n)))
        → member_count (f a ∷ map f (range_with_len (a + 1) n)) < member_count (g a ∷ map g (range_with_len (a + 1) n))
    by_place (inl same) one two behind =
        let rest = count-le-map f g so (range_with_len (a + 1) n) in
        let here : cond {A = ℕ} (f a) 1 0 ≡ 0 = ap (λ (b : Bool). cond {A = ℕ} b 1 0) (ap f (sym same) ∙ out) in
        let there : cond {A = ℕ} (g a) 1 0 ≡ 1 = ap (λ (b : Bool). cond {A = ℕ} b 1 0) (ap g (sym same) ∙ inside) in
        omega (arith, here, there, rest, one, two)
    by_place (inr apart) one two behind =
        let rest = behind (omega (arith, apart)) (omega arith) out inside in
        let first = ones-le (f a) (g a) (so a) in
        omega arith

index-is : (set : List Bool) (k : ℕ) (d e : Bool) → k < length set → get_or set k d ≡ slice_index_or set k e
index-is [] k d e below = absurd (omega arith)
index-is (x ∷ set) zero d e below = refl
index-is (x ∷ set) (suc k) d e below = index-is set k d e (omega arith)

own-members : (set : List Bool) → set ≡ those_below (length set) (contains set)
own-members set = fill_by_all (contains set) set (length set) false refl (λ k below. index-is set k false false below)

contains-below : (set : List Bool) (k : ℕ) → contains set k ≡ true → k < length set
contains-below [] k is = absurd (false≢true is)
contains-below (x ∷ set) zero is = omega arith
contains-below (x ∷ set) (suc k) is = let rest = contains-below set k is in omega arith

both-parts : (a b : Bool) → (a && b) ≡ true → (a ≡ true) × (b ≡ true)
both-parts true true is = (refl, refl)
both-parts true false is = absurd (false≢true is)
both-parts false b is = absurd (false≢true is)

-- a span is taken away in which one stands
span-less : (set : List Bool) (from to k : ℕ) → contains set k ≡ true → in_span from to k ≡ true → member_count (without_span set from to) < member_count set
span-less set from to k has within =
    let f : ℕ → Bool = λ i. contains set i && not (in_span from to i) in
    let below = contains-below set k has in
    let less = count-less f (contains set) (λ i is. (both-parts (contains set i) (not (in_span from to i)) is).0) 0 (length set) k (omega arith) (omega arith) (rw (has, within) refl) has in
    let same : member_count set ≡ member_count (those_below (length set) (contains set)) = ap member_count (own-members set) in
    omega (arith, less, same)

none-counted : (n : ℕ) → member_count (replicate n false) ≡ 0
none-counted zero = refl
none-counted (suc n) = let one = count-cons false (replicate n false) in let rest = none-counted n in omega arith

any-found : (p : ℕ → Bool) (a n : ℕ) → list_any p (range_with_len a n) ≡ true → (k : ℕ) × (a ≤ k) × (k < a + n) × (p k ≡ true)
any-found p a zero is = absurd (false≢true is)
any-found p a (suc n) is = by_test (p a) refl is (any-found p (a + 1) n)
  where
    by_test : (b : Bool) → p a ≡ b → list_any p (a ∷ range_with_len (a + 1) n) ≡ true
        → (list_any p (range_with_len (a + 1) n) ≡ true → (k : ℕ) × (a + 1 ≤ k) × (k < (a + 1) + n) × (p k ≡ true))
        → (k : ℕ) × (a ≤ k) × (k < a + suc n) × (p k ≡ true)
    by_test true e is behind = (a, omega arith, omega arith, e)
    by_test false e is behind =
        let rest = behind (rw e at is) in
        let low = rest.1 in
        let high = rest.2 in
        (rest.0, omega arith, omega arith, rest.3)

-- ---- one work

block-less : (work : JobWork) (block : ℕ) → has_left work block ≡ true → member_count (without_block block work).left < member_count work.left
block-less work block has =
    let from = block * parts_a_block work in
    let found = any-found (contains work.left) from (parts_a_block work) has in
    let low = found.1 in
    let high = found.2 in
    span-less work.left from (from + parts_a_block work) found.0 found.3 (rw (le-leb from found.0 low, lt-ltb found.0 (from + parts_a_block work) high) refl)

pub next-left : (work : JobWork) (block : ℕ) → next_block work ≡ Some block → has_left work block ≡ true
next-left work block is =
    (both-parts (has_left work block) _ (find_found (is_next work) 0 (block_count work.size) block is).1).0

-- the copy of a block that was in flight is over, and none else was
pub settled-less : (was : JobWork) (t : Transfer) → has_left was t.cluster ≡ true → member_count (after_settle Backup t.cluster (with_transfer t was)).left < member_count was.left
settled-less was t has = block-less was t.cluster has

pub settled-lands : (was : JobWork) (t : Transfer) → was.rows ≡ [] → t.job ≡ was.job → (after_settle Backup t.cluster (with_transfer t was)).rows ≡ []
settled-lands was t none own =
    let own-job : (t.job == was.job) ≡ true = eq-eqb t.job was.job own in
    let own-block : (t.cluster == t.cluster) ≡ true = eq-eqb t.cluster t.cluster refl in
    rw (none, own-job, own-block) refl

-- it is found in flight
pub taken-flies : (was : JobWork) (t : Transfer) → was.rows ≡ [] → is_in_flight t (with_transfer t was).rows ≡ true
taken-flies was t none =
    let own-job : (t.job == t.job) ≡ true = eq-eqb t.job t.job refl in
    let own-block : (t.cluster == t.cluster) ≡ true = eq-eqb t.cluster t.cluster refl in
    let own-place : (t.position == t.position) ≡ true = eq-eqb t.position t.position refl in
    rw (none, own-job, own-block, own-place) refl

-- a job that met a fault has nothing left
pub failed-less : (was : JobWork) (now : JobWork) (fault : Fault) (block : ℕ) → has_left was block ≡ true → (failed_by fault now).left ≡ replicate (length now.left) false
    → member_count (failed_by fault now).left < member_count was.left
failed-less was now fault block has none =
    let less = block-less was block has in
    let zero' = none-counted (length now.left) in
    let same : member_count (failed_by fault now).left ≡ member_count (replicate (length now.left) false) = ap member_count none in
    omega arith

-- what is left of a block was copied before a guest's write, or nothing was
pub guard-lands : (old new : Nodes) (was now : JobWork) (source target block : ℕ) → was.rows ≡ [] → Guards old new was now source target block → now.rows ≡ []
guard-lands old new was now source target block none (inl same) = ap (λ (work : JobWork). work.rows) same.2 ∙ none
guard-lands old new was now source target block none (inr copies) = ap (λ (work : JobWork). work.rows) copies.work ∙ by_result copies.result
  where
    by_result : (result : Result (Unit {0}) Fault) → (after_guard result block was).rows ≡ []
    by_result (Ok done) = rw none refl
    by_result (Err fault) = refl

-- ---- works

module _ (now was : JobWork) where
  parts-found : (works : List JobWork) → work_of works now.job ≡ Some was → parts_left (with_work now works) + member_count was.left ≡ parts_left works + member_count now.left
  parts-found [] there = let bad : ⊥ = cc there in absurd bad
  parts-found (work ∷ works) there = by_test (work.job == now.job) there (parts-found works)
    where
      by_test : (b : Bool) → cond b (Some work) (work_of works now.job) ≡ Some was
          → (work_of works now.job ≡ Some was → parts_left (with_work now works) + member_count was.left ≡ parts_left works + member_count now.left)
          → parts_left (cond b (now ∷ works) (work ∷ with_work now works)) + member_count was.left ≡ parts_left (work ∷ works) + member_count now.left
      by_test true is rest = let same : work ≡ was = cc is in rw same (omega arith)
      by_test false is rest = let more = rest is in omega arith

  -- it is found then
  found-there : (works : List JobWork) → work_of works now.job ≡ Some was → work_of (with_work now works) now.job ≡ Some now
  found-there [] there = let bad : ⊥ = cc there in absurd bad
  found-there (work ∷ works) there = by_test (work.job == now.job) refl there (found-there works)
    where
      by_test : (b : Bool) → (work.job == now.job) ≡ b → cond b (Some work) (work_of works now.job) ≡ Some was
          → (work_of works now.job ≡ Some was → work_of (with_work now works) now.job ≡ Some now)
          → work_of (cond b (now ∷ works) (work ∷ with_work now works)) now.job ≡ Some now
      by_test true e is rest = rw (eq-eqb now.job now.job refl) refl
      by_test false e is rest = rw e (rest is)

pub parts-with : (job : ℕ) (was now : JobWork) (works : List JobWork) → now.job ≡ job → work_of works job ≡ Some was
    → parts_left (with_work now works) + member_count was.left ≡ parts_left works + member_count now.left
parts-with job was now works own there = parts-found now was works (subst (λ (n : ℕ). work_of works n ≡ Some was) (sym own) there)

pub found-with : (job : ℕ) (was now : JobWork) (works : List JobWork) → now.job ≡ job → work_of works job ≡ Some was → work_of (with_work now works) job ≡ Some now
found-with job was now works own there = subst (λ (n : ℕ). work_of (with_work now works) n ≡ Some now) own (found-there now was works (subst (λ (n : ℕ). work_of works n ≡ Some was) (sym own) there))

-- ---- no copy is in flight

pub flights-found : (works : List JobWork) (job : ℕ) (work : JobWork) → NoneFlies works → work_of works job ≡ Some work → work.rows ≡ []
flights-found [] job work none is = let bad : ⊥ = cc is in absurd bad
flights-found (w ∷ works) job work none is = by_test (w.job == job) is (flights-found works job work none.1)
  where
    by_test : (b : Bool) → cond b (Some w) (work_of works job) ≡ Some work → (work_of works job ≡ Some work → work.rows ≡ []) → work.rows ≡ []
    by_test true e rest = let same : w ≡ work = cc e in rw (← same) none.0
    by_test false e rest = rest e

flights-changed : (job : ℕ) (change : JobWork → JobWork) (works : List JobWork) → ((work : JobWork) → work.rows ≡ [] → (change work).rows ≡ []) → NoneFlies works
    → NoneFlies (with_changed job change works)
flights-changed job change [] keeps none = tt
flights-changed job change (work ∷ works) keeps none = by_test (work.job == job) (flights-changed job change works keeps none.1)
  where
    by_test : (b : Bool) → NoneFlies (with_changed job change works) → NoneFlies (cond b (change work ∷ works) (work ∷ with_changed job change works))
    by_test true rest = (keeps work none.0, none.1)
    by_test false rest = (none.0, rest)

pub flights-with : (now : JobWork) (works : List JobWork) → now.rows ≡ [] → NoneFlies works → NoneFlies (with_work now works)
flights-with now works own none = flights-changed now.job (λ work. now) works (λ work was. own) none

-- one that had been changed before
pub flights-again : (first now : JobWork) (works : List JobWork) → now.rows ≡ [] → now.job ≡ first.job → NoneFlies works → NoneFlies (with_work now (with_work first works))
flights-again first now [] own same none = tt
flights-again first now (work ∷ works) own same none = by_test (work.job == first.job) refl (flights-again first now works own same none.1)
  where
    by_test : (b : Bool) → (work.job == first.job) ≡ b → NoneFlies (with_work now (with_work first works)) → NoneFlies (with_work now (cond b (first ∷ works) (work ∷ with_work first works)))
    by_test true e rest = rw (eq-eqb first.job now.job (sym same)) (own, none.1)
    by_test false e rest =
        let apart : (work.job == now.job) ≡ false = ap (λ (n : ℕ). work.job == n) same ∙ e in
        rw apart (none.0, rest)

pub flights-push : (works : List JobWork) (work : JobWork) → work.rows ≡ [] → NoneFlies works → NoneFlies (works ++ work ∷ [])
flights-push [] work own none = (own, tt)
flights-push (w ∷ works) work own none = (none.0, flights-push works work own none.1)

pub flights-without : (job : ℕ) (works : List JobWork) → NoneFlies works → NoneFlies (without_work job works)
flights-without job [] none = tt
flights-without job (work ∷ works) none = by_test (work.job == job) (flights-without job works none.1)
  where
    by_test : (b : Bool) → NoneFlies (without_work job works) → NoneFlies (cond b works (work ∷ without_work job works))
    by_test true rest = none.1
    by_test false rest = (none.0, rest)

-- ---- what a mirror has to copy again

-- its first fault and its copies in flight stay
pub record IsSameAgain (was now : JobWork) : Type 0 where
  pub met : now.met ≡ was.met
  pub rows : now.rows ≡ was.rows

pub again-same : (span : Extent) (work : JobWork) → IsSameAgain work (left_again span work)
again-same span work = by_met (is_some work.met) _
  where
    by_met : (b : Bool) (left : List Bool) → IsSameAgain work (cond b work (record work { left = left }))
    by_met true left = record { met = refl; rows = refl }
    by_met false left = record { met = refl; rows = refl }

pub flights-marked : (job : ℕ) (span : Extent) (works : List JobWork) → NoneFlies works → NoneFlies (marked_again job span works)
flights-marked job span works none = flights-changed job (left_again span) works (λ work was. (again-same span work).rows ∙ was) none

-- so it is behind a piece with what stays of works where one has to copy again
module _ (P : List JobWork → Type 0) (again : (job : ℕ) (span : Extent) (works : List JobWork) → P works → P (marked_again job span works)) where
  keeps-found : (found : Option JobRecord) (part : Extent) (works : List JobWork) → P works → P (marked_for found part works)
  keeps-found None part works so = so
  keeps-found (Some row) part works so = again row.number part works so

  keeps-noted : (noted : Bool) (t : RunTable) (node : ℕ) (part : Extent) (works : List JobWork) → P works → P (marked_if noted t node part works)
  keeps-noted true t node part works so = keeps-found (follower_of t node) part works so
  keeps-noted false t node part works so = so

  pub marked-keeps : (op : Op) (outcome : Outcome) (t : RunTable) (node : ℕ) (part : Extent) (works : List JobWork) → P works → P (marked_by op outcome t node part works)
  marked-keeps (Write span payload) outcome t node part works so = keeps-noted (is_noted outcome) t node part works so
  marked-keeps (Zero span) outcome t node part works so = keeps-noted (is_noted outcome) t node part works so
  marked-keeps (Read span) outcome t node part works so = so
  marked-keeps Flush outcome t node part works so = so
  marked-keeps (Discard span) outcome t node part works so = so
