-- Parts of a disk and the blocks that they lie in.
use Rattle.std.proofs.Common.{◌≡◌, ◌↔◌, ℕ, zero, suc, ◌+◌, ◌-◌, ◌*◌, ◌/◌, ◌^◌, ◌<◌, ◌≤◌, Bool, true, false, not, ◌&&◌, ◌||◌, List, [], ◌∷◌, length, map, find, Some, None, cond, refl, sym, ◌∙◌, ap, subst, arith, inl, inr}
use Rattle.std.specs.List.{range_with_len, list_any}
use Rattle.std.proofs.Math.Nat.{div-lt_iff_lt-mul, mul-le-mul_left, mul_assoc, mul_comm, pow-le-pow_right}
use Rattle.std.proofs.lemmas.Bool.{cases_lt, cases_eq, false≢true}
use Rattle.std.specs.Simd.Lanes.{mask_l}
use Rattle.std.proofs.lemmas.Simd.{mask_l-lt}
use Rattle.std.proofs.lemmas.List.{get_or_past}
use Rattle.std.proofs.lemmas.List.FromFn.{length-map-range_with_len}
use Rattle.blk_bits.specs.Granules.{contains, those_below, HasNoneFrom, LeastFrom}
use Rattle.blk_bitmaps.specs.Rows.{granule_count}
use Rattle.block_jobs.specs.Work.{JobWork, IsJobWork, block_count, parts_a_block, has_left, has_open, is_next, next_block}

pub length-those_below : (n : ℕ) (test : ℕ → Bool) → length (those_below n test) ≡ n
length-those_below n test = length-map-range_with_len test 0 n

-- part k is among the parts of so many bytes where a byte of it is on the disk
pub among : (size part k : ℕ) → 0 < part → (k < granule_count size part) ↔ (k * part < size)
among size part k some =
    let ends : ((size + part - 1) / part < k + 1) ↔ (size + part - 1 < (k + 1) * part) = div-lt_iff_lt-mul some in (
      (λ less. elim (cases_lt (k * part) size) [ inl in_it ↦ in_it | inr past ↦ absurd (omega (arith, less, ends.1 (omega (arith, past)))) ]),
      (λ in_it. elim (cases_lt k (granule_count size part)) [ inl less ↦ less | inr past ↦ absurd (omega (arith, in_it, ends.0 (omega (arith, past)))) ]),
    )

-- the first number of a range that passes a test
pub find_first : (p : ℕ → Bool) (a n b : ℕ) → a ≤ b → b < a + n → p b ≡ true → ((k : ℕ) → a ≤ k → k < b → p k ≡ false)
    → find p (range_with_len a n) ≡ Some b
find_first p a zero b from less is none = absurd (omega (arith, from, less))
find_first p a (suc n) b from less is none = elim (cases_eq a b) [
  | inl same ↦ rw (subst (λ (k : ℕ). p k ≡ true) (sym same) is) (ap (λ (k : ℕ). Some k) same)
  | inr other ↦ rw (none a (omega arith) (omega (arith, from, other))) (find_first p (a + 1) n b (omega (arith, from, other)) (omega (arith, less)) is (λ k above. none k (omega (arith, above))))
]

pub find_none : (p : ℕ → Bool) (a n : ℕ) → ((k : ℕ) → a ≤ k → k < a + n → p k ≡ false) → find p (range_with_len a n) ≡ None
find_none p a zero none = refl
find_none p a (suc n) none = rw (none a (omega arith) (omega arith)) (find_none p (a + 1) n (λ k above below. none k (omega (arith, above)) (omega (arith, below))))

-- and what is so of the number that was found
pub find_found : (p : ℕ → Bool) (a n b : ℕ) → find p (range_with_len a n) ≡ Some b → (b < a + n) × (p b ≡ true)
find_found p a zero b is = absurd (differ is)
  where
    differ : None ≡ Some b → ⊥
    differ e = cc
find_found p a (suc n) b is = by_test (p a) refl is (λ rest. find_found p (a + 1) n b rest)
  where
    by_test : (t : Bool) → p a ≡ t → cond t (Some a) (find p (range_with_len (a + 1) n)) ≡ Some b
        → (find p (range_with_len (a + 1) n) ≡ Some b → (b < a + 1 + n) × (p b ≡ true)) → (b < a + suc n) × (p b ≡ true)
    by_test true t found rest =
        let same : a ≡ b = cc in
        (omega (arith, same), subst (λ (k : ℕ). p k ≡ true) same t)
    by_test false t found rest = let more = rest found in (omega (arith, more.0), more.1)

pub any_at : (p : ℕ → Bool) (a n b : ℕ) → a ≤ b → b < a + n → p b ≡ true → list_any p (range_with_len a n) ≡ true
any_at p a zero b from less is = absurd (omega (arith, from, less))
any_at p a (suc n) b from less is = elim (cases_eq a b) [
  | inl same ↦ rw (subst (λ (k : ℕ). p k ≡ true) (sym same) is) refl
  | inr other ↦ or_true (p a) (any_at p (a + 1) n b (omega (arith, from, other)) (omega (arith, less)) is)
]
  where
    or_true : (x : Bool) {y : Bool} → y ≡ true → (x || y) ≡ true
    or_true true e = refl
    or_true false e = e

pub any_none : (p : ℕ → Bool) (a n : ℕ) → ((k : ℕ) → a ≤ k → k < a + n → p k ≡ false) → list_any p (range_with_len a n) ≡ false
any_none p a zero none = refl
any_none p a (suc n) none = rw (none a (omega arith) (omega arith)) (any_none p (a + 1) n (λ k above below. none k (omega (arith, above)) (omega (arith, below))))

pub member_below : (set : List Bool) (k : ℕ) → contains set k ≡ true → k < length set
member_below set k is = elim (cases_lt k (length set)) [
  | inl less ↦ less
  | inr past ↦ absurd (false≢true (sym (get_or_past set k false past) ∙ is))
]

-- the words of sectors, from the last on
pub mask_step : (test : ℕ → Bool) (a b n m : ℕ) → b ≡ a + 1 → m ≡ suc n
    → 2 * mask_l (map test (range_with_len b n)) + cond (test a) 1 0 ≡ mask_l (map test (range_with_len a m))
mask_step test a b n m next more = rw (next, more) (omega arith)

pub mask_bound : (test : ℕ → Bool) (a n : ℕ) → n ≤ 127 → 2 * mask_l (map test (range_with_len a n)) + 1 < 2 ^ 128
mask_bound test a n few =
    let less : mask_l (map test (range_with_len a n)) < 2 ^ length (map test (range_with_len a n)) = mask_l-lt (map test (range_with_len a n)) in
    let some : 0 < 2 = omega arith in
    let short : length (map test (range_with_len a n)) ≤ 127 = omega (arith, few, length-map-range_with_len test a n) in
    let most : 2 ^ length (map test (range_with_len a n)) ≤ 2 ^ 127 = pow-le-pow_right some short in
    omega (arith, less, most)

-- of work in order
module _ (work : JobWork) (is : IsJobWork work) where
  abbrev Per : ℕ
  Per = parts_a_block work

  pub per_some : 0 < parts_a_block work
  per_some = elim (cases_lt 0 Per) [ inl some ↦ some | inr none ↦ absurd (nothing (omega (arith, none))) ]
    where
      nothing : Per ≡ 0 → ⊥
      nothing e = let no : work.part * 0 ≡ 65536 = ap (λ (n : ℕ). work.part * n) (sym e) ∙ is.blocks in omega (arith, no)

  pub per_most : parts_a_block work ≤ 65536
  per_most =
      let less : Per * 1 ≤ Per * work.part = mul-le-mul_left Per is.some in
      omega (arith, less, mul_comm Per work.part, is.blocks)

  -- the bytes of a block by its parts
  pub by_parts : (b : ℕ) → (b * parts_a_block work) * work.part ≡ b * 65536
  by_parts b = mul_assoc b Per work.part ∙ ap (λ (n : ℕ). b * n) (mul_comm Per work.part ∙ is.blocks)

  abbrev Block : ℕ → ℕ
  Block k = k / Per

  pub block_from : (k : ℕ) → (k / parts_a_block work) * parts_a_block work ≤ k
  block_from k = let some = per_some in let e = mul_comm (Block k) Per in omega (arith, some, e)

  pub block_to : (k : ℕ) → k < (k / parts_a_block work) * parts_a_block work + parts_a_block work
  block_to k = let some = per_some in let e = mul_comm (Block k) Per in omega (arith, some, e)

  pub block_within : (k : ℕ) → k < length work.left → k / parts_a_block work < block_count work.size
  block_within k less =
      let on : k * work.part < work.size = (among work.size work.part k is.some).0 (subst (λ n. k < n) is.left less) in
      let below : (Block k * Per) * work.part ≤ k * work.part = le_right (Block k * Per) k work.part (block_from k) in
      let e : (Block k * Per) * work.part ≡ Block k * 65536 = by_parts (Block k) in
      (among work.size 65536 (Block k) (omega arith)).1 (omega (arith, on, below, e))
    where
      le_right : (a b c : ℕ) → a ≤ b → a * c ≤ b * c
      le_right a b c less = let le : c * a ≤ c * b = mul-le-mul_left c less in omega (arith, le, mul_comm a c, mul_comm b c)

  pub count_most : block_count work.size ≤ 2 ^ 31
  count_most = omega (arith, is.size)

  pub from_most : (b : ℕ) → b ≤ block_count work.size → b * parts_a_block work ≤ 2 ^ 47
  from_most b less =
      let a : b * Per ≤ b * 65536 = mul-le-mul_left b per_most in
      omega (arith, a, less, count_most)

  -- none is next below the block of the first part that is left
  pub none_before : (seen : ℕ) (k : ℕ) → ((i : ℕ) → seen * parts_a_block work ≤ i → i < k → contains work.left i ≡ false)
      → (b : ℕ) → seen ≤ b → b * parts_a_block work + parts_a_block work ≤ k → is_next work b ≡ false
  none_before seen k none b from less =
      let a : Per * seen ≤ Per * b = mul-le-mul_left Per from in
      let e = mul_comm Per seen in
      let e' = mul_comm Per b in
      rw (any_none (contains work.left) (b * Per) Per (λ i above below. none i (omega (arith, a, e, e', above)) (omega (arith, below, less)))) refl

  pub left_in : (k : ℕ) → contains work.left k ≡ true → has_left work (k / parts_a_block work) ≡ true
  left_in k is_in = any_at (contains work.left) (Block k * Per) Per k (block_from k) (block_to k) is_in

  abbrev NoneBelow : ℕ → Type 0
  NoneBelow seen = (b : ℕ) → b < seen → is_next work b ≡ false

  -- a step further
  further : (seen k : ℕ) → NoneBelow seen → LeastFrom work.left (seen * parts_a_block work) k → NoneBelow (k / parts_a_block work)
  further seen k below least b less = elim (cases_lt b seen) [
    | inl before ↦ below b before
    | inr from ↦ none_before seen k least.first b from (up b less)
  ]
    where
      up : (b : ℕ) → b < Block k → b * Per + Per ≤ k
      up b less =
          let a : Per * (b + 1) ≤ Per * Block k = mul-le-mul_left Per (omega (arith, less)) in
          let e = mul_comm Per (Block k) in
          let e' = mul_comm Per b in
          omega (arith, a, e, e', block_from k)

  pub next_found : (seen k : ℕ) → NoneBelow seen → LeastFrom work.left (seen * parts_a_block work) k
      → has_open work (k / parts_a_block work) ≡ false → next_block work ≡ Some (k / parts_a_block work)
  next_found seen k below least shut =
      let in_it : Block k < block_count work.size = block_within k (member_below work.left k least.member) in
      find_first (is_next work) 0 (block_count work.size) (Block k) (omega arith) (omega (arith, in_it))
      (rw (left_in k least.member, shut) refl) (λ b _ under. further seen k below least b under)

  pub next_open : (seen k : ℕ) → NoneBelow seen → LeastFrom work.left (seen * parts_a_block work) k
      → has_open work (k / parts_a_block work) ≡ true → NoneBelow (k / parts_a_block work + 1)
  next_open seen k below least open_ b less = elim (cases_lt b (Block k)) [
    | inl under ↦ further seen k below least b under
    | inr past ↦
        let same : Block k ≡ b = omega (arith, past, less) in
        subst (λ (n : ℕ). is_next work n ≡ false) same (rw open_ (and_false (has_left work (Block k))))
  ]
    where
      and_false : (x : Bool) → (x && false) ≡ false
      and_false true = refl
      and_false false = refl

  pub seen_less : (seen k : ℕ) → seen * parts_a_block work ≤ k → seen ≤ k / parts_a_block work
  seen_less seen k from = elim (cases_lt (Block k) seen) [
    | inr past ↦ past
    | inl less ↦
        let a : Per * (Block k + 1) ≤ Per * seen = mul-le-mul_left Per (omega (arith, less)) in
        let e = mul_comm Per seen in
        let e' = mul_comm Per (Block k) in
        absurd (omega (arith, a, e, e', from, block_to k))
  ]

  pub next_none : (seen : ℕ) → NoneBelow seen → HasNoneFrom work.left (seen * parts_a_block work) → next_block work ≡ None
  next_none seen below none =
      find_none (is_next work) 0 (block_count work.size) (λ b _ less. elim (cases_lt b seen) [
        | inl before ↦ below b before
        | inr from ↦ none_before seen (b * Per + Per) (λ i at _. none i at) b from (omega arith)
      ])

  pub falls : (seen k : ℕ) → LeastFrom work.left (seen * parts_a_block work) k
      → block_count work.size - (k / parts_a_block work + 1) < block_count work.size - seen
  falls seen k least =
      omega (arith, seen_less seen k least.reached, block_within k (member_below work.left k least.member))

  pub seen_within : (seen k : ℕ) → LeastFrom work.left (seen * parts_a_block work) k → k / parts_a_block work + 1 ≤ block_count work.size
  seen_within seen k least = omega (arith, block_within k (member_below work.left k least.member))

-- a set with a member, and one without
pub has_at : (set : List Bool) (k : ℕ) → contains set k ≡ true → list_any (λ part. part) set ≡ true
has_at [] k is = absurd (false≢true is)
has_at (b ∷ set) zero is = rw is refl
has_at (b ∷ set) (suc k) is = or_true b (has_at set k is)
  where
    or_true : (x : Bool) {y : Bool} → y ≡ true → (x || y) ≡ true
    or_true true e = refl
    or_true false e = e

pub has_any : (set : List Bool) (k : ℕ) → LeastFrom set 0 k → list_any (λ part. part) set ≡ true
has_any set k least = has_at set k least.member

pub has_no : (set : List Bool) → ((k : ℕ) → 0 ≤ k → contains set k ≡ false) → list_any (λ part. part) set ≡ false
has_no [] none = refl
has_no (b ∷ set) none = rw (none 0 (omega arith)) (has_no set (λ k _. none (suc k) (omega arith)))

pub bit_most : (b : Bool) → cond b 1 0 ≤ 1
bit_most true = omega arith
bit_most false = omega arith

-- the next block is on the disk, and no copy of it is in flight
pub next_is : (work : JobWork) (block : ℕ) → next_block work ≡ Some block → (block < block_count work.size) × (has_open work block ≡ false)
next_is work block is =
    let found = find_found (is_next work) 0 (block_count work.size) block is in
    (omega (arith, found.0), shut (has_left work block) (has_open work block) found.1)
  where
    shut : (a b : Bool) → (a && not b) ≡ true → b ≡ false
    shut a false e = refl
    shut true true e = absurd (false≢true e)
    shut false true e = absurd (false≢true e)
