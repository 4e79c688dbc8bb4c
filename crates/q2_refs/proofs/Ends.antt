-- Where the writes of allocations end.
use Rattle.std.proofs.Common.{◌≡◌, ℕ, ◌+◌, ◌*◌, ◌/◌, ◌%◌, ◌^◌, ◌<◌, ◌≤◌, max, inl, inr, cond, eqb, length, get_or, slice_index, slice_set, refl, sym, ap, subst, ◌∙◌, arith, eq-eqb}
use Rattle.std.proofs.lemmas.Bool.{cases_eq, ne_eqb}
use Rattle.std.proofs.Math.ListN.{length-set}
use Rattle.std.proofs.lemmas.List.{get_or-set_same, get_or-set_other}
use Rattle.q2_format.specs.Sizes.{cluster_size}
use Rattle.q2_format.specs.Entry.{block_offset}
use Rattle.q2_refs.specs.Allocating.{with_one, with_block, with_block_for, place_of_block, end_of_allocation, count_place}
use Rattle.q2_refs.proofs.AllocationStops.{end_of_block, end_of_block_for, end-allocation_writes}
use Rattle.q2_refs.specs.Kept.{KeptRefs, per_block}

-- the block of a cluster, where it is or where it will be put
abbrev pub block_for : KeptRefs → ℕ → ℕ
block_for kept n =
    let i = n / per_block kept in
    cond (eqb (block_offset (slice_index kept.table i)) 0) (place_of_block kept i * cluster_size kept.cluster_bits) (block_offset (slice_index kept.table i))

placed_back : (f : ℕ) → f < 2 ^ 30 → block_offset (f * 65536) ≡ f * 65536
placed_back f small = omega arith

placed_whole : (f bits : ℕ) → bits ≡ 16 → f < 2 ^ 30 → block_offset (f * cluster_size bits) ≡ f * cluster_size bits
placed_whole f bits is small = rw is (placed_back f small)

-- what an allocation in the supported shape needs of the cluster that it gives
pub record HasEntry (kept : KeptRefs) (n : ℕ) : Type 0 where
  pub cluster_bits : kept.cluster_bits ≡ 16
  pub entry : n / per_block kept < length kept.table
  pub small : place_of_block kept (n / per_block kept) < 2 ^ 30

pub count_after : (kept : KeptRefs) (n : ℕ) → HasEntry kept n → count_place (with_block_for kept n) n ≡ block_for kept n + n % per_block kept * 2
count_after kept n has =
    let i : ℕ = n / per_block kept in
    let f : ℕ = place_of_block kept i in
    elim (cases_eq (block_offset (slice_index kept.table i)) 0) [
      | inl absent ↦
          let test = eq-eqb (block_offset (slice_index kept.table i)) 0 absent in
          let set_there = get_or-set_same kept.table i (f * cluster_size kept.cluster_bits) 0 has.entry in
          let back = placed_whole f kept.cluster_bits has.cluster_bits has.small in
          let here : block_offset (slice_index (slice_set kept.table i (f * cluster_size kept.cluster_bits)) i) ≡ f * cluster_size kept.cluster_bits = ap block_offset set_there ∙ back in
          rw test (ap (λ (o : ℕ). o + n % per_block kept * 2) here)
      | inr there ↦ let test = ne_eqb (block_offset (slice_index kept.table i)) 0 there in rw test refl
    ]

pub end_by_block : (kept : KeptRefs) (n : ℕ) → HasEntry kept n → end_of_allocation kept n ≡ max (end_of_block_for kept n) (block_for kept n + n % per_block kept * 2 + 2)
end_by_block kept n has =
    let size : cluster_size kept.cluster_bits ≡ 65536 = rw has.cluster_bits refl in
    end-allocation_writes kept n size ∙ ap (λ (at : ℕ). max (end_of_block_for kept n) (at + 2)) (count_after kept n has)

-- the same where the entry was looked at
pub end_of_kept : (kept : KeptRefs) (n : ℕ) → kept.cluster_bits ≡ 16 → kept.refcount_order ≡ 4 → n < length kept.counts → length kept.counts ≤ length kept.table * per_block kept → length kept.counts ≤ 8388608
    → end_of_allocation kept n ≡ max (end_of_block_for kept n) (block_for kept n + n % per_block kept * 2 + 2)
end_of_kept kept n bits order below reach few =
    end_by_block kept n (record { cluster_bits = bits; entry = rw (bits, order) (let all = rw (bits, order) at reach in omega arith); small = rw (bits, order) (omega arith) })

-- The second of two allocations ends no further than one of two that are each the first.

-- the ends as functions of what the table names for a cluster
abbrev ends_at : KeptRefs → ℕ → ℕ → ℕ
ends_at kept n block =
    let i = n / per_block kept in
    let place = place_of_block kept i * cluster_size kept.cluster_bits in
    max (cond (eqb block 0) (end_of_block kept i) 0) (cond (eqb block 0) place block + n % per_block kept * 2 + 2)

by_block : (kept : KeptRefs) (n : ℕ) → HasEntry kept n → end_of_allocation kept n ≡ ends_at kept n (block_offset (slice_index kept.table (n / per_block kept)))
by_block kept n has = end_by_block kept n has

-- a block that is put where it will be is no further
placed_no_further : (kept : KeptRefs) (n : ℕ) → ends_at kept n (place_of_block kept (n / per_block kept) * cluster_size kept.cluster_bits) ≤ ends_at kept n 0
placed_no_further kept n =
    let place : ℕ = place_of_block kept (n / per_block kept) * cluster_size kept.cluster_bits in
    elim (cases_eq place 0) [
      | inl zero_there ↦ let test = eq-eqb place 0 zero_there in rw test (omega arith)
      | inr some ↦ let test = ne_eqb place 0 some in rw test (omega arith)
    ]

pub second_end : (kept : KeptRefs) (n m : ℕ) → HasEntry kept n → HasEntry kept m
    → end_of_allocation (with_one (with_block_for kept n) n) m ≤ max (end_of_allocation kept n) (end_of_allocation kept m)
second_end kept n m first second =
    let i : ℕ = n / per_block kept in
    let k : ℕ = m / per_block kept in
    let place : ℕ = place_of_block kept i * cluster_size kept.cluster_bits in
    let own = by_block kept m second in
    let P : KeptRefs → Type 0 = λ after. end_of_allocation (with_one after n) m ≤ max (end_of_allocation kept n) (end_of_allocation kept m) in
    elim (cases_eq (block_offset (slice_index kept.table i)) 0) [
      | inl absent ↦
          let test = eq-eqb (block_offset (slice_index kept.table i)) 0 absent in
          let put : with_block_for kept n ≡ with_block kept i = rw test refl in
          let len = length-set {A = ℕ} kept.table i place in
          let after : HasEntry (with_one (with_block kept i) n) m = record { cluster_bits = second.cluster_bits; entry = omega (arith, len, second.entry); small = second.small } in
          let next = by_block (with_one (with_block kept i) n) m after in
          elim (cases_eq k i) [
            | inl same ↦
                let there = get_or-set_same kept.table i place 0 first.entry in
                let back = placed_whole (place_of_block kept i) kept.cluster_bits first.cluster_bits first.small in
                let is : ends_at kept m (block_offset (get_or (slice_set kept.table i place) k 0)) ≡ ends_at kept m (place_of_block kept k * cluster_size kept.cluster_bits) =
                ap (λ (j : ℕ). ends_at kept m (block_offset (get_or (slice_set kept.table i place) j 0))) same ∙ ap (λ (w : ℕ). ends_at kept m (block_offset w)) there
                ∙ ap (ends_at kept m) back ∙ ap (λ (j : ℕ). ends_at kept m (place_of_block kept j * cluster_size kept.cluster_bits)) (sym same) in
                let absent_too : ends_at kept m (block_offset (slice_index kept.table k)) ≡ ends_at kept m 0 =
                ap (λ (j : ℕ). ends_at kept m (block_offset (slice_index kept.table j))) same ∙ ap (ends_at kept m) absent in
                let further = placed_no_further kept m in
                subst P (sym put) (below_second (end_of_allocation (with_one (with_block kept i) n) m) (end_of_allocation kept n) (end_of_allocation kept m) _ _ (next ∙ is) (own ∙ absent_too) further)
            | inr other ↦
                let there = get_or-set_other kept.table i k place 0 other in
                let is = ap (λ (w : ℕ). ends_at kept m (block_offset w)) there in
                subst P (sym put) (same_second (end_of_allocation (with_one (with_block kept i) n) m) (end_of_allocation kept n) (end_of_allocation kept m) (next ∙ is ∙ sym own))
          ]
      | inr there ↦
          let test = ne_eqb (block_offset (slice_index kept.table i)) 0 there in
          let put : with_block_for kept n ≡ kept = rw test refl in
          let next = by_block (with_one kept n) m (record { cluster_bits = second.cluster_bits; entry = second.entry; small = second.small }) in
          subst P (sym put) (same_second (end_of_allocation (with_one kept n) m) (end_of_allocation kept n) (end_of_allocation kept m) (next ∙ sym own))
    ]
  where
    same_second : (x a b : ℕ) → x ≡ b → x ≤ max a b
    same_second x a b is = omega arith

    below_second : (x a b u v : ℕ) → x ≡ u → b ≡ v → u ≤ v → x ≤ max a b
    below_second x a b u v p q h = omega arith
