-- What a merge adds, run by run.
use Rattle.std.proofs.Common.{◌≡◌, ◌⊎◌, ◌↔◌, ℕ, zero, suc, ◌+◌, ◌-◌, ◌*◌, ◌/◌, ◌%◌, ◌<◌, ◌≤◌, min, max, Bool, true, false, ◌&&◌, ◌||◌, nat_lt, List, length, refl, sym, ◌∙◌, ap, arith, add-one, inl, inr}
use Rattle.std.proofs.Math.Nat.{mul-le-mul_left}
use Rattle.std.proofs.lemmas.Bool.{cases_lt, cases_eq, cases_Bool}
use Rattle.std.proofs.lemmas.Bool.Decides.{nat_tests}
use Rattle.std.proofs.lemmas.List.{get_or_past}
use Rattle.std.proofs.lemmas.List.FromFn.{fill_by_all, length-map-range_with_len}
use Rattle.blk_bits.specs.declared.ratio.Ratio.{Ratio}
use Rattle.blk_bits.specs.Granules.{contains, those_below, in_span, with_span, overlaps, overlaps_member, merged, LeastFrom, HasNoneFrom}
use Rattle.blk_bits.proofs.GranuleLemmas.{contains-those_below}

-- a quotient that is rounded up
pub ceil_lt : (m e k : ℕ) → 0 < m → (k < e / m + min 1 (e % m)) ↔ (m * k < e)
ceil_lt m e k some =
    let whole : m * (e / m) + e % m ≡ e = omega arith in
    let rest : e % m < m = omega arith in
    elim (cases_lt k (e / m)) [
      | inl below ↦
          let far : m * (k + 1) ≤ m * (e / m) = mul-le-mul_left m (omega arith) in
          let further : m * (k + 1) ≡ m * k + m = omega arith in
          ((λ _. omega arith), (λ _. omega arith))
      | inr past ↦ elim (cases_lt (e / m) k) [
        | inl above ↦
            let far : m * (e / m + 1) ≤ m * k = mul-le-mul_left m (omega arith) in
            let further : m * (e / m + 1) ≡ m * (e / m) + m = omega arith in
            ((λ h. absurd (omega arith)), (λ h. absurd (omega arith)))
        | inr least ↦
            let same : m * k ≡ m * (e / m) = ap (λ n. m * n) (omega arith) in
            ((λ h. omega arith), (λ h. omega arith))
      ]
    ]

both-true : (a b : Bool) → a ≡ true → b ≡ true → (a && b) ≡ true
both-true a b p q = rw (p, q) refl

left-true : (a b : Bool) → (a && b) ≡ true → a ≡ true
left-true true b e = refl
left-true false b e = e

right-true : (a b : Bool) → (a && b) ≡ true → b ≡ true
right-true true b e = e
right-true false b e = absurd (differ e)
  where
    differ : false ≡ true → ⊥
    differ e = cc

pub same_truth : (a b : Bool) → (a ≡ true → b ≡ true) → (b ≡ true → a ≡ true) → a ≡ b
same_truth true true f g = refl
same_truth true false f g = sym (f refl)
same_truth false true f g = g refl
same_truth false false f g = refl

-- a member that is overlapped, and back
pub overlapping : (ratio : Ratio) (other : List Bool) (k n : ℕ) → overlaps_member ratio other k n ≡ true
    → (j : ℕ) × (j < n) × (contains other j ≡ true) × (overlaps ratio k j ≡ true)
overlapping ratio other k zero e = absurd (differ e)
  where
    differ : false ≡ true → ⊥
    differ e = cc
overlapping ratio other k (suc n) e = elim (cases_Bool (contains other n && overlaps ratio k n)) [
  | inl here ↦ (n, omega arith, left-true (contains other n) (overlaps ratio k n) here, right-true (contains other n) (overlaps ratio k n) here)
  | inr apart ↦
      let rest : overlaps_member ratio other k n ≡ true = ap (λ b. b || overlaps_member ratio other k n) (sym apart) ∙ e in
      let w = overlapping ratio other k n rest in
      (w.0, omega (arith, w.1), w.2, w.3)
]

pub overlapped-by : (ratio : Ratio) (other : List Bool) (k n j : ℕ) → j < n → contains other j ≡ true → overlaps ratio k j ≡ true → overlaps_member ratio other k n ≡ true
overlapped-by ratio other k zero j below there over = absurd (omega arith)
overlapped-by ratio other k (suc n) j below there over = elim (cases_eq j n) [
  | inl same ↦
      let here : (contains other n && overlaps ratio k n) ≡ true
      = ap (λ i. contains other i && overlaps ratio k i) (sym same) ∙ both-true (contains other j) (overlaps ratio k j) there over in
      rw here refl
  | inr less ↦ or-true (contains other n && overlaps ratio k n) (overlaps_member ratio other k n) (overlapped-by ratio other k n j (omega arith) there over)
]
  where
    or-true : (a b : Bool) → b ≡ true → (a || b) ≡ true
    or-true true b e = refl
    or-true false b e = e

overlaps-is : (ratio : Ratio) (k j : ℕ) → ratio.mine * k < ratio.theirs * (j + 1) → ratio.theirs * j < ratio.mine * (k + 1) → overlaps ratio k j ≡ true
overlaps-is ratio k j ends begins = grind (arith, nat_tests)

overlaps-ends : (ratio : Ratio) (k j : ℕ) → overlaps ratio k j ≡ true → ratio.mine * k < ratio.theirs * (j + 1)
overlaps-ends ratio k j over = lt-true (ratio.mine * k) (ratio.theirs * (j + 1)) (left-true (nat_lt (ratio.mine * k) (ratio.theirs * (j + 1))) (nat_lt (ratio.theirs * j) (ratio.mine * (k + 1))) over)
  where
    lt-true : (a b : ℕ) → nat_lt a b ≡ true → a < b
    lt-true a b e = grind (arith, nat_tests)

overlaps-begins : (ratio : Ratio) (k j : ℕ) → overlaps ratio k j ≡ true → ratio.theirs * j < ratio.mine * (k + 1)
overlaps-begins ratio k j over = lt-true (ratio.theirs * j) (ratio.mine * (k + 1)) (right-true (nat_lt (ratio.mine * k) (ratio.theirs * (j + 1))) (nat_lt (ratio.theirs * j) (ratio.mine * (k + 1))) over)
  where
    lt-true : (a b : ℕ) → nat_lt a b ≡ true → a < b
    lt-true a b e = grind (arith, nat_tests)

-- a granule between the ends of a run overlaps one of it
in_run : (mine theirs k from to : ℕ) → 0 < mine → from < to → mine * k < theirs * to → theirs * from < mine * (k + 1)
    → (j : ℕ) × (from ≤ j) × (j < to) × (mine * k < theirs * (j + 1)) × (theirs * j < mine * (k + 1))
in_run mine theirs k from to some order ends begins = elim (cases_lt (mine * k) (theirs * (from + 1))) [
  | inl first ↦ (from, omega arith, order, first, begins)
  | inr later ↦ further (cases_eq theirs 0) later
]
  where
    at-least : (j from : ℕ) → 0 < theirs → theirs * (from + 1) < theirs * (j + 1) + 1 → from ≤ j
    at-least j from more bound = elim (cases_lt j from) [
      | inr past ↦ past
      | inl below ↦
          let far : theirs * (j + 1) ≤ theirs * from = mul-le-mul_left theirs (omega arith) in
          let up : theirs * (from + 1) ≡ theirs * from + theirs = omega arith in
          absurd (omega arith)
    ]

    at-most : (j to : ℕ) → theirs * j < theirs * to → j < to
    at-most j to bound = elim (cases_lt j to) [
      | inl below ↦ below
      | inr past ↦ absurd (omega (arith, bound, mul-le-mul_left theirs past))
    ]

    further : (theirs ≡ 0) ⊎ (theirs ≡ 0 → ⊥) → theirs * (from + 1) ≤ mine * k → (j : ℕ) × (from ≤ j) × (j < to) × (mine * k < theirs * (j + 1)) × (theirs * j < mine * (k + 1))
    further (inl none) later = absurd (omega (arith, ends, ap (λ n. n * to) none))
    further (inr positive) later =
        let j = mine * k / theirs in
        let more : 0 < theirs = omega arith in
        let whole : theirs * j + mine * k % theirs ≡ mine * k = omega arith in
        let rest : mine * k % theirs < theirs = omega arith in
        let up : theirs * (j + 1) ≡ theirs * j + theirs = omega arith in
        let wide : mine * (k + 1) ≡ mine * k + mine = omega arith in
        (j, at-least j from more (omega arith), at-most j to (omega arith), omega arith, omega arith)

less : (m k t : ℕ) → m * k < m * t → k < t
less m k t bound = elim (cases_lt k t) [
  | inl below ↦ below
  | inr past ↦ absurd (omega (arith, bound, mul-le-mul_left m past))
]

span-true : (s t k : ℕ) → s ≤ k → k < t → in_span s t k ≡ true
span-true s t k begins ends = grind (arith, nat_tests)

span-begins : (s t k : ℕ) → in_span s t k ≡ true → s ≤ k
span-begins s t k is = grind (arith, nat_tests)

span-ends : (s t k : ℕ) → in_span s t k ≡ true → k < t
span-ends s t k is = grind (arith, nat_tests)

or-left : (a b : Bool) → a ≡ true → (a || b) ≡ true
or-left a b e = rw e refl

or-right : (a b : Bool) → b ≡ true → (a || b) ≡ true
or-right true b e = refl
or-right false b e = e

or-other : (a b : Bool) → a ≡ false → (a || b) ≡ true → b ≡ true
or-other a b none e = rw none at e

-- one run of members of the other set, what it overlaps, and which granules need no look because of it
pub record IsRunOfMembers (ratio : Ratio) (set other : List Bool) (seen from to s t next : ℕ) : Type 0 where
  pub some : 0 < ratio.mine
  pub least : LeastFrom other seen from
  pub order : from < to
  pub members : (k : ℕ) → from ≤ k → k < to → contains other k ≡ true
  pub ends : (k : ℕ) → k < length set → (k < t ↔ (ratio.mine * k < ratio.theirs * to))
  pub begins : (k : ℕ) → k < t → (s ≤ k ↔ (ratio.theirs * from < ratio.mine * (k + 1)))
  pub further : to ≤ next
  pub covered : (j : ℕ) → to ≤ j → j < next → ratio.theirs * (j + 1) ≤ ratio.mine * t

run-adds : (ratio : Ratio) (set other : List Bool) (seen from to s t next k : ℕ) → IsRunOfMembers ratio set other seen from to s t next → k < length set
    → (overlaps_member ratio other k seen || in_span s t k) ≡ true → overlaps_member ratio other k next ≡ true
run-adds ratio set other seen from to s t next k run below is = elim (cases_Bool (overlaps_member ratio other k seen)) [
  | inl before ↦
      let w = overlapping ratio other k seen before in
      overlapped-by ratio other k next w.0 (omega (arith, w.1, run.least.reached, run.order, run.further)) w.2 w.3
  | inr apart ↦
      let here = or-other (overlaps_member ratio other k seen) (in_span s t k) apart is in
      let end = span-ends s t k here in
      let w = in_run ratio.mine ratio.theirs k from to run.some run.order ((run.ends k below).0 end) ((run.begins k end).0 (span-begins s t k here)) in
      overlapped-by ratio other k next w.0 (omega (arith, w.2, run.further)) (run.members w.0 w.1 w.2) (overlaps-is ratio k w.0 w.3 w.4)
]

run-behind : (ratio : Ratio) (set other : List Bool) (seen from to s t next k j : ℕ) → IsRunOfMembers ratio set other seen from to s t next → k < length set
    → from ≤ j → j < next → overlaps ratio k j ≡ true → in_span s t k ≡ true
run-behind ratio set other seen from to s t next k j run below past before over =
    let end = ended (cases_lt j to) in
    span-true s t k ((run.begins k end).1 (omega (arith, overlaps-begins ratio k j over, mul-le-mul_left ratio.theirs past))) end
  where
    ended : (j < to) ⊎ (to ≤ j) → k < t
    ended (inl inside) =
        let far : ratio.theirs * (j + 1) ≤ ratio.theirs * to = mul-le-mul_left ratio.theirs (omega arith) in
        (run.ends k below).1 (omega (arith, far, overlaps-ends ratio k j over))
    ended (inr behind) = less ratio.mine k t (omega (arith, overlaps-ends ratio k j over, run.covered j behind before))

run-all : (ratio : Ratio) (set other : List Bool) (seen from to s t next k : ℕ) → IsRunOfMembers ratio set other seen from to s t next → k < length set
    → overlaps_member ratio other k next ≡ true → (overlaps_member ratio other k seen || in_span s t k) ≡ true
run-all ratio set other seen from to s t next k run below is =
    let w = overlapping ratio other k next is in
    elim (cases_lt w.0 seen) [
      | inl before ↦ or-left (overlaps_member ratio other k seen) (in_span s t k) (overlapped-by ratio other k seen w.0 before w.2 w.3)
      | inr past ↦ elim (cases_lt w.0 from) [
        | inl early ↦ absurd (differ (sym (run.least.first w.0 past early) ∙ w.2))
        | inr late ↦ or-right (overlaps_member ratio other k seen) (in_span s t k) (run-behind ratio set other seen from to s t next k w.0 run below late w.1 w.3)
      ]
    ]
  where
    differ : false ≡ true → ⊥
    differ e = cc

regroup : (a b c d : Bool) → (b || c) ≡ d → ((a || b) || c) ≡ (a || d)
regroup true b c d e = refl
regroup false b c d e = e

-- one run more
pub merged-run : (ratio : Ratio) (set other mid new : List Bool) (seen from to s t next : ℕ) → IsRunOfMembers ratio set other seen from to s t next
    → mid ≡ those_below (length set) (λ k. contains set k || overlaps_member ratio other k seen) → new ≡ with_span mid s t
    → new ≡ those_below (length set) (λ k. contains set k || overlaps_member ratio other k next)
merged-run ratio set other mid new seen from to s t next run mid-is new-is =
    let mid-length : length mid ≡ length set = ap length mid-is ∙ length-map-range_with_len (λ k. contains set k || overlaps_member ratio other k seen) 0 (length set) in
    let new-length : length new ≡ length set = ap length new-is ∙ length-map-range_with_len (λ k. contains mid k || in_span s t k) 0 (length mid) ∙ mid-length in
    fill_by_all (λ k. contains set k || overlaps_member ratio other k next) new (length set) false new-length
    (λ k below.
    let mid-at : contains mid k ≡ (contains set k || overlaps_member ratio other k seen)
    = ap (λ s. contains s k) mid-is ∙ contains-those_below (length set) (λ i. contains set i || overlaps_member ratio other i seen) k below in
    let new-at : contains new k ≡ (contains mid k || in_span s t k)
    = ap (λ s. contains s k) new-is ∙ contains-those_below (length mid) (λ i. contains mid i || in_span s t i) k (omega arith) in
    rw (new-at, mid-at) (regroup (contains set k) (overlaps_member ratio other k seen) (in_span s t k) (overlaps_member ratio other k next)
    (same_truth (overlaps_member ratio other k seen || in_span s t k) (overlaps_member ratio other k next)
    (run-adds ratio set other seen from to s t next k run below) (run-all ratio set other seen from to s t next k run below))))

-- before the first run
pub merged-none : (ratio : Ratio) (set other : List Bool) → set ≡ those_below (length set) (λ k. contains set k || overlaps_member ratio other k 0)
merged-none ratio set other =
    fill_by_all (λ k. contains set k || overlaps_member ratio other k 0) set (length set) false refl (λ k below. or-false (contains set k))
  where
    or-false : (b : Bool) → b ≡ (b || false)
    or-false true = refl
    or-false false = refl

member-below : (set : List Bool) (k : ℕ) → contains set k ≡ true → k < length set
member-below set k there = elim (cases_lt k (length set)) [
  | inl below ↦ below
  | inr past ↦ absurd (differ (sym there ∙ get_or_past set k false past))
]
  where
    differ : true ≡ false → ⊥
    differ e = cc

all-seen : (ratio : Ratio) (other : List Bool) (seen k : ℕ) → HasNoneFrom other seen → overlaps_member ratio other k seen ≡ overlaps_member ratio other k (length other)
all-seen ratio other seen k none = same_truth (overlaps_member ratio other k seen) (overlaps_member ratio other k (length other))
    (λ is. let w = overlapping ratio other k seen is in overlapped-by ratio other k (length other) w.0 (member-below other w.0 w.2) w.2 w.3)
    (λ is. let w = overlapping ratio other k (length other) is in elim (cases_lt w.0 seen) [
      | inl before ↦ overlapped-by ratio other k seen w.0 before w.2 w.3
      | inr past ↦ absurd (differ (sym (none w.0 past) ∙ w.2))
    ])
  where
    differ : false ≡ true → ⊥
    differ e = cc

-- behind the last run
pub merged-all : (ratio : Ratio) (set other mid : List Bool) (seen : ℕ) → HasNoneFrom other seen
    → mid ≡ those_below (length set) (λ k. contains set k || overlaps_member ratio other k seen) → mid ≡ merged ratio set other
merged-all ratio set other mid seen none mid-is =
    fill_by_all (λ k. contains set k || overlaps_member ratio other k (length other)) mid (length set) false
    (ap length mid-is ∙ length-map-range_with_len (λ k. contains set k || overlaps_member ratio other k seen) 0 (length set))
    (λ k below. ap (λ s. contains s k) mid-is ∙ contains-those_below (length set) (λ i. contains set i || overlaps_member ratio other i seen) k below
    ∙ ap (λ b. contains set k || b) (all-seen ratio other seen k none))

-- sets of granules of one size
one-size : (ratio : Ratio) (set other : List Bool) (k : ℕ) → 0 < ratio.mine → ratio.mine ≡ ratio.theirs → length set ≡ length other
    → overlaps_member ratio other k (length other) ≡ contains other k
one-size ratio set other k some same count = same_truth (overlaps_member ratio other k (length other)) (contains other k)
    (λ is.
    let w = overlapping ratio other k (length other) is in
    let ends = overlaps-ends ratio k w.0 w.3 in
    let begins = overlaps-begins ratio k w.0 w.3 in
    let up = ap (λ n. n * (w.0 + 1)) same in
    let down = ap (λ n. n * w.0) same in
    let here : w.0 ≡ k = between w.0 (less ratio.mine k (w.0 + 1) (omega (arith, ends, up))) (less ratio.mine w.0 (k + 1) (omega (arith, begins, down))) in
    ap (λ i. contains other i) (sym here) ∙ w.2)
    (λ there.
    let up = ap (λ n. n * (k + 1)) same in
    let down = ap (λ n. n * k) same in
    let wide : ratio.mine * (k + 1) ≡ ratio.mine * k + ratio.mine = omega arith in
    overlapped-by ratio other k (length other) k (member-below other k there) there (overlaps-is ratio k k (omega (arith, up, wide)) (omega (arith, down, wide))))
  where
    between : (j : ℕ) → k < j + 1 → j < k + 1 → j ≡ k
    between j a b = omega arith

pub merged-same : (ratio : Ratio) (set other new : List Bool) → 0 < ratio.mine → ratio.mine ≡ ratio.theirs → length set ≡ length other
    → new ≡ those_below (length set) (λ k. contains set k || contains other k) → new ≡ merged ratio set other
merged-same ratio set other new some same count is =
    fill_by_all (λ k. contains set k || overlaps_member ratio other k (length other)) new (length set) false
    (ap length is ∙ length-map-range_with_len (λ k. contains set k || contains other k) 0 (length set))
    (λ k below. ap (λ s. contains s k) is ∙ contains-those_below (length set) (λ i. contains set i || contains other i) k below
    ∙ ap (λ b. contains set k || b) (sym (one-size ratio set other k some same count)))
