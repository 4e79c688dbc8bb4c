-- The numbers below n that pass a test, in order.
use Rattle.std.proofs.Common.{◌≡◌, ℕ, zero, suc, ◌+◌, ◌-◌, ◌*◌, ◌/◌, ◌%◌, ◌<◌, ◌≤◌, ◌≢◌, ◌⊎◌, inl, inr, Bool, true, false, not, ◌&&◌, ◌||◌, eqb, eq-eqb, List, [], ◌∷◌, ◌++◌, length, take, filter, get_or, slice_index, refl, sym, ap, subst, ◌∙◌, arith, length-append}
use Rattle.std.specs.List.{range_with_len}
use Rattle.std.proofs.lemmas.Bool.{ne_eqb, false≢true, eqb-true, and_right, cases_eq}
use Rattle.std.proofs.Math.Bool.{and-true}
use Rattle.std.proofs.lemmas.Nat.{div-add-mod', div-mul-add, mod-mul-add, div_below}
use Rattle.q2_format.specs.Entry.{block_offset}
use Rattle.q2_format.specs.Sizes.{cluster_size, block_entries}
use Rattle.std.proofs.Math.ListN.{set, length-set}
use Rattle.std.proofs.lemmas.List.{get_or-append_right, append-nil, get_or-set_same, get_or-set_other, get_or-take, length-take}
use Rattle.std.proofs.lemmas.List.Elements.{filter-append}
use Rattle.q2_format.specs.declared.header.Header.{Header}
use Rattle.q2_refs.specs.Kept.{KeptRefs, per_block, IsCountsOf}
use Rattle.q2_refs.specs.Allocating.{with_one, with_block, with_block_for, place_of_block, IsAlike}
use Rattle.q2_refs.specs.Free.{free_clusters, free_cluster, will_be_given}

range-split : (a n m : ℕ) → range_with_len a (n + m) ≡ range_with_len a n ++ range_with_len (a + n) m
range-split a zero m = ap (range_with_len a) (omega arith) ∙ ap (λ (b : ℕ). range_with_len b m) (omega arith)
range-split a (suc n) m =
    let more : suc n + m ≡ suc (n + m) = omega arith in
    ap (range_with_len a) more ∙ ap (λ (r : List ℕ). a ∷ r) (range-split (a + 1) n m)
    ∙ ap (λ (b : ℕ). (a ∷ range_with_len (a + 1) n) ++ range_with_len b m) (omega arith)

-- the numbers below n that pass
abbrev pub passing : (ℕ → Bool) → ℕ → List ℕ
passing test n = filter test (range_with_len 0 n)

filter_none : (test : ℕ → Bool) (a n : ℕ) → ((k : ℕ) → a ≤ k → k < a + n → test k ≡ false) → filter test (range_with_len a n) ≡ []
filter_none test a zero none = refl
filter_none test a (suc n) none =
    let here = none a (omega arith) (omega arith) in
    let rest = filter_none test (a + 1) n (λ k low high. none k (omega arith) (omega arith)) in
    rw here rest

pub passing_none : (test : ℕ → Bool) (n : ℕ) → ((k : ℕ) → k < n → test k ≡ false) → passing test n ≡ []
passing_none test n none = filter_none test 0 n (λ k low high. none k (omega arith))

pub passing-split : (test : ℕ → Bool) (n m : ℕ) → passing test (n + m) ≡ passing test n ++ filter test (range_with_len n m)
passing-split test n m = ap (filter test) (range-split 0 n m) ∙ filter-append test (range_with_len 0 n) (range_with_len (0 + n) m)
    ∙ ap (λ (a : ℕ). passing test n ++ filter test (range_with_len a m)) (omega arith)

-- one more number
pub passing-more : (test : ℕ → Bool) (n : ℕ) → test n ≡ true → length (passing test (n + 1)) ≡ length (passing test n) + 1
passing-more test n passes = rw (passing-split test n 1, passes) (length-append (passing test n) (n ∷ []))

pub passing-same : (test : ℕ → Bool) (n : ℕ) → test n ≡ false → passing test (n + 1) ≡ passing test n
passing-same test n fails = rw (passing-split test n 1, fails) (append-nil (passing test n))

sub-self : (n : ℕ) → n - n ≡ 0
sub-self n = omega arith

-- the number that passes where as many below it do
pub passing-at : (test : ℕ → Bool) (n c d : ℕ) → c < n → test c ≡ true → get_or (passing test n) (length (passing test c)) d ≡ c
passing-at test n c d below passes =
    let m : ℕ = n - suc c in
    let whole : c + suc m ≡ n = omega arith in
    let split = ap (passing test) (sym whole) ∙ passing-split test c (suc m) in
    let here : filter test (range_with_len c (suc m)) ≡ c ∷ filter test (range_with_len (c + 1) m) = rw passes refl in
    let all = split ∙ ap (λ (r : List ℕ). passing test c ++ r) here in
    ap (λ (r : List ℕ). get_or r (length (passing test c)) d) all
    ∙ get_or-append_right (passing test c) (c ∷ filter test (range_with_len (c + 1) m)) (length (passing test c)) (length (passing test c)) d refl (omega arith)
    ∙ ap (λ (i : ℕ). get_or (c ∷ filter test (range_with_len (c + 1) m)) i d) (sub-self (length (passing test c)))

-- a cluster whose refcount isn't 0
pub taken_not_given : (kept : KeptRefs) (k : ℕ) → slice_index kept.counts k ≢ 0 → will_be_given kept k ≡ false
taken_not_given kept k taken = let test = ne_eqb (slice_index kept.counts k) 0 taken in rw test refl

-- Taking the first.

head_step : (test : ℕ → Bool) (a m n : ℕ) (rest : List ℕ) (t : Bool) → test a ≡ t
    → (filter test (range_with_len (a + 1) m) ≡ n ∷ rest → (test n ≡ true) × (a + 1 ≤ n) × (n < a + 1 + m))
    → filter test (range_with_len a (suc m)) ≡ n ∷ rest → (test n ≡ true) × (a ≤ n) × (n < a + suc m)
head_step test a m n rest true passes later is =
    let all = rw passes at is in
    let here : a ≡ n = cc in
    (ap test (sym here) ∙ passes, omega (arith, here), omega (arith, here))
head_step test a m n rest false fails later is =
    let found = later (rw fails at is) in
    (found.0, omega (arith, found.1), omega (arith, found.2))

head_passes : (test : ℕ → Bool) (a m n : ℕ) (rest : List ℕ) → filter test (range_with_len a m) ≡ n ∷ rest → (test n ≡ true) × (a ≤ n) × (n < a + m)
head_passes test a zero n rest is = absurd (cc)
head_passes test a (suc m) n rest is = head_step test a m n rest (test a) refl (head_passes test (a + 1) m n rest) is

filter_alike : (p q : ℕ → Bool) (a m : ℕ) → ((k : ℕ) → a ≤ k → k < a + m → q k ≡ p k) → filter q (range_with_len a m) ≡ filter p (range_with_len a m)
filter_alike p q a zero same = refl
filter_alike p q a (suc m) same =
    let here = same a (omega arith) (omega arith) in
    let rest = filter_alike p q (a + 1) m (λ k low high. same k (omega arith) (omega arith)) in
    rw (here, rest) refl

-- the list goes on behind its first once that one no longer passes
rest_step : (p q : ℕ → Bool) (a m n : ℕ) (rest : List ℕ) (t : Bool) → p a ≡ t → p n ≡ true → q n ≡ false → ((k : ℕ) → k < a + suc m → k ≢ n → q k ≡ p k)
    → (filter p (range_with_len (a + 1) m) ≡ n ∷ rest → filter q (range_with_len (a + 1) m) ≡ rest)
    → filter p (range_with_len a (suc m)) ≡ n ∷ rest → filter q (range_with_len a (suc m)) ≡ rest
rest_step p q a m n rest true passes first gone same later is =
    let all = rw passes at is in
    let here : a ≡ n = cc in
    let behind : filter p (range_with_len (a + 1) m) ≡ rest = cc in
    let fails : q a ≡ false = ap q here ∙ gone in
    let alike = filter_alike p q (a + 1) m (λ k low high. same k (omega arith) (λ e. omega (arith, e, here))) in
    rw fails (alike ∙ behind)
rest_step p q a m n rest false fails first gone same later is =
    let other : a ≢ n = λ e. false≢true (sym fails ∙ ap p e ∙ first) in
    let still : q a ≡ false = same a (omega arith) other ∙ fails in
    rw still (later (rw fails at is))

rest_passes : (p q : ℕ → Bool) (a m n : ℕ) (rest : List ℕ) → p n ≡ true → q n ≡ false → ((k : ℕ) → k < a + m → k ≢ n → q k ≡ p k)
    → filter p (range_with_len a m) ≡ n ∷ rest → filter q (range_with_len a m) ≡ rest
rest_passes p q a zero n rest first gone same is = absurd (cc)
rest_passes p q a (suc m) n rest first gone same is =
    rest_step p q a m n rest (p a) refl first gone same (rest_passes p q (a + 1) m n rest first gone (λ k below other. same k (omega arith) other)) is

-- the first of a list, or the number that stands for none
head_of : (xs : List ℕ) (d n : ℕ) → n ≡ get_or xs 0 d → n ≢ d → (rest : List ℕ) × (xs ≡ n ∷ rest)
head_of [] d n is other = absurd (other is)
head_of (x ∷ xs) d n is other = (xs, ap (λ (y : ℕ). y ∷ xs) (sym is))

no_head : (xs : List ℕ) (d : ℕ) → ((x : ℕ) (rest : List ℕ) → xs ≡ x ∷ rest → x ≢ d) → d ≡ get_or xs 0 d → xs ≡ []
no_head [] d small is = refl
no_head (x ∷ xs) d small is = absurd (small x xs refl (sym is))

-- What is given is free, and below the reach.

pub first_free_cluster : (kept : KeptRefs) (n : ℕ) → n ≡ free_cluster kept 0 → n ≢ length kept.counts
    → (rest : List ℕ) × (free_clusters kept ≡ n ∷ rest) × (will_be_given kept n ≡ true) × (n < length kept.counts)
unfolding free_clusters
first_free_cluster kept n is other =
    let head = head_of (free_clusters kept) (length kept.counts) n is other in
    let passes = head_passes (will_be_given kept) 0 (length kept.counts) n head.0 head.1 in
    (head.0, head.1, passes.0, omega (arith, passes.2))

pub none_free : (kept : KeptRefs) → length kept.counts ≡ free_cluster kept 0 → free_clusters kept ≡ []
unfolding free_clusters
none_free kept is =
    no_head (free_clusters kept) (length kept.counts)
    (λ x rest all e. let passes = head_passes (will_be_given kept) 0 (length kept.counts) x rest all in omega (arith, passes.2, e)) is

and_parts : (x y : Bool) → (x && y) ≡ true → (x ≡ true) × (y ≡ true)
and_parts true true h = (refl, refl)
and_parts true false h = absurd (false≢true h)
and_parts false y h = absurd (false≢true h)

or_true : (x : Bool) → (x || true) ≡ true
or_true true = refl
or_true false = refl

-- a cluster isn't the place for its own block
abbrev is_no_place : KeptRefs → ℕ → Bool
is_no_place kept k = not (eqb (block_offset (slice_index kept.table (k / per_block kept))) 0) || not (eqb (k % per_block kept) 0)

-- a cluster behind the first that its block counts
given_later : (kept : KeptRefs) (k : ℕ) → k % per_block kept ≢ 0 → will_be_given kept k ≡ eqb (slice_index kept.counts k) 0
given_later kept k later =
    let test = ne_eqb (k % per_block kept) 0 later in
    let no_place : is_no_place kept k ≡ true = rw test (or_true _) in
    ap (λ (b : Bool). eqb (slice_index kept.counts k) 0 && b) no_place ∙ and-true (eqb (slice_index kept.counts k) 0)

given_place : (kept : KeptRefs) (k : ℕ) → k % per_block kept ≡ 0 → block_offset (slice_index kept.table (k / per_block kept)) ≡ 0 → will_be_given kept k ≡ false
given_place kept k first absent =
    let a = eq-eqb (k % per_block kept) 0 first in
    let b = eq-eqb (block_offset (slice_index kept.table (k / per_block kept))) 0 absent in
    let place : is_no_place kept k ≡ false = rw (a, b) refl in
    and_right (eqb (slice_index kept.counts k) 0) (is_no_place kept k) place

pub given_count : (kept : KeptRefs) (n : ℕ) → will_be_given kept n ≡ true → slice_index kept.counts n ≡ 0
given_count kept n given = eqb-true (slice_index kept.counts n) 0 (and_parts (eqb (slice_index kept.counts n) 0) (is_no_place kept n) given).0

-- a cluster that will be given isn't the place of its block, where that is absent
pub given_beside : (kept : KeptRefs) (n : ℕ) → will_be_given kept n ≡ true → block_offset (slice_index kept.table (n / per_block kept)) ≡ 0 → n % per_block kept ≢ 0
given_beside kept n given absent first = false≢true (sym (given_place kept n first absent) ∙ given)

-- a new block changes nothing of what will be given
block_same : (kept : KeptRefs) (i k : ℕ) → 0 < per_block kept → i < length kept.table → place_of_block kept i < length kept.counts → block_offset (slice_index kept.table i) ≡ 0
    → will_be_given (with_block kept i) k ≡ will_be_given kept k
block_same kept i k some in_table in_counts absent =
    let e : ℕ = per_block kept in
    let f : ℕ = place_of_block kept i in
    let start : i * e ≡ i * e + 0 = omega arith in
    let row : f / e ≡ i = ap (λ (n : ℕ). n / e) start ∙ div-mul-add i e 0 some in
    let column : f % e ≡ 0 = ap (λ (n : ℕ). n % e) start ∙ mod-mul-add i e 0 some in
    elim (cases_eq (k / e) i) [
      | inl here ↦ elim (cases_eq (k % e) 0) [
        | inl first ↦
            let is : k ≡ f = sym (div-add-mod' k e) ∙ ap (λ (a : ℕ). a * e + k % e) here ∙ ap (λ (b : ℕ). i * e + b) first ∙ sym start in
            let one = ap (λ (n : ℕ). get_or (set kept.counts f 1) n 0) is ∙ get_or-set_same kept.counts f 1 0 in_counts in
            taken_not_given (with_block kept i) k (λ none. omega (arith, none, one))
            ∙ sym (given_place kept k first (ap (λ (n : ℕ). block_offset (get_or kept.table n 0)) here ∙ absent))
        | inr later ↦
            given_later (with_block kept i) k later
            ∙ ap (λ (n : ℕ). eqb n 0) (get_or-set_other kept.counts f k 1 0 (λ is. later (ap (λ (n : ℕ). n % e) is ∙ column)))
            ∙ sym (given_later kept k later)
      ]
      | inr elsewhere ↦
          let word = get_or-set_other kept.table i (k / e) (f * cluster_size kept.cluster_bits) 0 elsewhere in
          let count = get_or-set_other kept.counts f k 1 0 (λ is. elsewhere (ap (λ (n : ℕ). n / e) is ∙ row)) in
          rw (count, word) refl
    ]

pub free_with_block : (kept : KeptRefs) (i : ℕ) → 0 < per_block kept → i < length kept.table → place_of_block kept i < length kept.counts → block_offset (slice_index kept.table i) ≡ 0
    → free_clusters (with_block kept i) ≡ free_clusters kept
unfolding free_clusters
free_with_block kept i some in_table in_counts absent =
    let len = length-set kept.counts (place_of_block kept i) 1 in
    ap (λ (n : ℕ). filter (will_be_given (with_block kept i)) (range_with_len 0 n)) len
    ∙ filter_alike (will_be_given kept) (will_be_given (with_block kept i)) 0 (length kept.counts) (λ k low high. block_same kept i k some in_table in_counts absent)

-- and the one that counts now is given no more
pub free_with_one : (kept : KeptRefs) (n : ℕ) (rest : List ℕ) → n < length kept.counts → free_clusters kept ≡ n ∷ rest → free_clusters (with_one kept n) ≡ rest
unfolding free_clusters
free_with_one kept n rest below is =
    let len = length-set kept.counts n 1 in
    let passes = head_passes (will_be_given kept) 0 (length kept.counts) n rest is in
    ap (λ (m : ℕ). filter (will_be_given (with_one kept n)) (range_with_len 0 m)) len
    ∙ rest_passes (will_be_given kept) (will_be_given (with_one kept n)) 0 (length kept.counts) n rest passes.0
    (taken_not_given (with_one kept n) n (λ e. omega (arith, e, get_or-set_same kept.counts n 1 0 below)))
    (λ k inside other. let same = get_or-set_other kept.counts n k 1 0 other in rw same refl) is

-- The same for the block of a cluster, which is put only where it is absent.

pub for_absent : (kept : KeptRefs) (n : ℕ) → block_offset (slice_index kept.table (n / per_block kept)) ≡ 0 → with_block_for kept n ≡ with_block kept (n / per_block kept)
for_absent kept n absent = let test = eq-eqb (block_offset (slice_index kept.table (n / per_block kept))) 0 absent in rw test refl

pub for_present : (kept : KeptRefs) (n : ℕ) → block_offset (slice_index kept.table (n / per_block kept)) ≢ 0 → with_block_for kept n ≡ kept
for_present kept n there = let test = ne_eqb (block_offset (slice_index kept.table (n / per_block kept))) 0 there in rw test refl

pub free_with_block_for : (kept : KeptRefs) (n : ℕ) → 0 < per_block kept → length kept.counts ≤ length kept.table * per_block kept → n < length kept.counts
    → free_clusters (with_block_for kept n) ≡ free_clusters kept
free_with_block_for kept n some reach below = elim (cases_eq (block_offset (slice_index kept.table (n / per_block kept))) 0) [
  | inl absent ↦
      let e : ℕ = per_block kept in
      let parts = div-add-mod' n e in
      let row = div_below n e (length kept.table) some (omega (arith, below, reach)) in
      ap free_clusters (for_absent kept n absent) ∙ free_with_block kept (n / e) some row (omega (arith, parts, below)) absent
  | inr there ↦ ap free_clusters (for_present kept n there)
]

alike_for_block : (kept : KeptRefs) (i : ℕ) → IsAlike kept (with_block kept i)
alike_for_block kept i = record {
  cluster_bits = refl;
  refcount_order = refl;
  table_offset = refl;
  table = length-set kept.table i (place_of_block kept i * cluster_size kept.cluster_bits);
  reach = length-set kept.counts (place_of_block kept i) 1;
}

alike_itself : (kept : KeptRefs) → IsAlike kept kept
alike_itself kept = record { cluster_bits = refl; refcount_order = refl; table_offset = refl; table = refl; reach = refl }

pub alike_for : (kept : KeptRefs) (n : ℕ) → IsAlike kept (with_block_for kept n)
alike_for kept n = let P : KeptRefs → Type 0 = λ k. IsAlike kept k in elim (cases_eq (block_offset (slice_index kept.table (n / per_block kept))) 0) [
  | inl absent ↦ subst P (sym (for_absent kept n absent)) (alike_for_block kept (n / per_block kept))
  | inr there ↦ subst P (sym (for_present kept n there)) (alike_itself kept)
]

-- after a refusal what is kept is as it was, or with the block
pub alike_refused : (kept new : KeptRefs) (n : ℕ) → (new ≡ kept) ⊎ (new ≡ with_block_for kept n) → IsAlike kept new
alike_refused kept new n (inl same) = let P : KeptRefs → Type 0 = λ k. IsAlike kept k in subst P (sym same) (alike_itself kept)
alike_refused kept new n (inr placed) = let P : KeptRefs → Type 0 = λ k. IsAlike kept k in subst P (sym placed) (alike_for kept n)

pub free_refused : (kept new : KeptRefs) (n : ℕ) → 0 < per_block kept → length kept.counts ≤ length kept.table * per_block kept → n < length kept.counts
    → (new ≡ kept) ⊎ (new ≡ with_block_for kept n) → free_clusters new ≡ free_clusters kept
free_refused kept new n some reach below (inl same) = ap free_clusters same
free_refused kept new n some reach below (inr placed) = ap free_clusters placed ∙ free_with_block_for kept n some reach below

-- after an answer the list goes on behind its first
pub free_taken : (kept : KeptRefs) (n : ℕ) (rest : List ℕ) → 0 < per_block kept → length kept.counts ≤ length kept.table * per_block kept → n < length kept.counts
    → free_clusters kept ≡ n ∷ rest → free_clusters (with_one (with_block_for kept n) n) ≡ rest
free_taken kept n rest some reach below is =
    free_with_one (with_block_for kept n) n rest (let len = (alike_for kept n).reach in omega (arith, below, len)) (free_with_block_for kept n some reach below ∙ is)

pub some_entries : {cluster_bits refcount_order : ℕ} → cluster_bits ≡ 16 → refcount_order ≡ 4 → 0 < block_entries (cluster_size cluster_bits) refcount_order
some_entries bits order = rw (bits, order) (omega arith)

-- the cluster that was given counts one
pub given_counts_one : (kept : KeptRefs) (n : ℕ) → n < length kept.counts
    → (n < length (with_one (with_block_for kept n) n).counts) × (slice_index (with_one (with_block_for kept n) n).counts n ≡ 1)
given_counts_one kept n below =
    let len = (alike_for kept n).reach in
    let inside : n < length (with_block_for kept n).counts = omega (arith, below, len) in
    (omega (arith, inside, length-set (with_block_for kept n).counts n 1), get_or-set_same (with_block_for kept n).counts n 1 0 inside)

-- the first counts are still the file's
pub IsCountsOf-take : (file : List ℕ) (h : Header) (kept : KeptRefs) (reach : ℕ) → IsCountsOf file h kept → IsCountsOf file h (record kept { counts = take reach kept.counts })
IsCountsOf-take file h kept reach counts = record {
  shape = record { cluster_bits = counts.shape.cluster_bits; refcount_order = counts.shape.refcount_order; table_offset = counts.shape.table_offset };
  table = counts.table;
  counts = λ k below. get_or-take reach kept.counts k 0 (omega (arith, below, length-take reach kept.counts))
      ∙ counts.counts k (omega (arith, below, length-take reach kept.counts));
}
