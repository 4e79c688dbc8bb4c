-- Where the header's cluster alone is written: no table, no refcount block and no host cluster begins in it, so the tables and the
-- refcounts stay, and a file stays sound whose header still says the same of them.
use Rattle.std.proofs.Common.{◌≡◌, ◌≢◌, ℕ, ◌+◌, ◌*◌, ◌/◌, ◌%◌, ◌<◌, ◌≤◌, ◌⊎◌, inl, inr, Bool, false, not, ◌&&◌, cond, eqb, ltb, List, length, get_or, slice_index, Option, None, refl, sym, ap, subst, ◌∙◌, arith}
use Rattle.std.proofs.lemmas.Bool.{cases_eq, cases_lt, eq-eqb, ne_eqb, eqb-true, not-false, or_parts}
use Rattle.std.proofs.lemmas.Bool.Decides.{nat_tests}
use Rattle.std.proofs.lemmas.List.{get_or_past}
use Rattle.std.proofs.lemmas.Grind.{div_ceil_times}
use Rattle.std.proofs.Math.Nat.{div-eq_of_lt, mod-eq_of_lt, one-le-pow}
use Rattle.q2_format.specs.Bytes.{ReadsAlike}
use Rattle.q2_format.specs.Sizes.{cluster_size, clusters_for, entries_in_cluster, block_entries, refcount_bytes}
use Rattle.q2_format.specs.Entry.{host_offset, block_offset}
use Rattle.q2_format.specs.Header.{header_of, header_refusal}
use Rattle.q2_format.specs.Tables.{active_tree, refcount_table, refcount_of}
use Rattle.q2_format.specs.References.{in_run, structure_uses, uses, cluster_bound}
use Rattle.q2_format.specs.Sound.{IsSound, is_misplaced, is_header_full, bad_refcount_table, bad_l1_table, overlap, uncounted}
use Rattle.q2_format.specs.declared.header.Header.{Header}
use Rattle.q2_format.specs.declared.header.Place.{Place}
use Rattle.q2_format.proofs.ByPlace.{number_at-alike}
use Rattle.q2_format.proofs.Consistent.{FindsNothing, sound_from_parts, sound_tables, sound_is_consistent, placed_block, placed_l2_table}
use Rattle.q2_format.proofs.Firsts.{lowest_alike}
use Rattle.q2_format.proofs.Frames.{words_at-alike}
use Rattle.q2_format.proofs.TreeFrames.{tree_at-alike}
use Rattle.q2_format.proofs.Trees.{l1_of_tree, length_l1}

-- what a header says beside its tables
abbrev pub with_naming : Header → Option Place → Option Place → ℕ → Bool → Header
with_naming h name format ext_end ended = record h { name = name; format = format; ext_end = ext_end; ended = ended }

-- An offset outside the first cluster.

quotient_behind : (c n : ℕ) → 0 < n / c → c ≤ n
quotient_behind c n some = elim (cases_lt n c) [
  | inl below ↦ absurd (let none = div-eq_of_lt below in omega (arith, none))
  | inr high ↦ high
]

whole_behind : (c n : ℕ) → n % c ≡ 0 → n ≢ 0 → c ≤ n
whole_behind c n whole there = elim (cases_lt n c) [
  | inl below ↦ absurd (there (sym (mod-eq_of_lt below) ∙ whole))
  | inr high ↦ high
]

placed_behind : (c len offset : ℕ) → is_misplaced c len offset ≡ false → offset ≢ 0 → c ≤ offset
placed_behind c len offset placed there =
    let parts = or_parts (not (eqb (offset % c) 0)) (not (ltb offset len)) placed in
    whole_behind c offset (eqb-true (offset % c) 0 (not-false (eqb (offset % c) 0) parts.0)) there

run_behind : (n count : ℕ) → ◌≡◌ {A = ℕ} (cond (not (ltb 0 n) && ltb 0 (n + count)) 1 0) 0 → (0 < n) ⊎ (count ≡ 0)
run_behind n count none = elim (cases_eq count 0) [
  | inl empty ↦ inr empty
  | inr some ↦ inl (grind (arith, nat_tests))
]

-- a run of clusters outside the first
run_outside : (c offset count : ℕ) → in_run c 0 offset count ≡ 0 → (c ≤ offset) ⊎ (count ≡ 0)
run_outside c offset count none = elim (run_behind (offset / c) count none) [
  | inl high ↦ inl (quotient_behind c offset high)
  | inr empty ↦ inr empty
]

-- nothing that is looked at behind the header reads its name or its extensions, but for the room that is left
naming_unread : (file : List ℕ) (h : Header) (len : ℕ) (name format : Option Place) (ext_end : ℕ) (ended : Bool) → FindsNothing file h len
    → is_header_full (with_naming h name format ext_end ended) ≡ false → FindsNothing file (with_naming h name format ext_end ended) len
unfolding bad_refcount_table bad_l1_table refcount_table refcount_of overlap uncounted uses structure_uses
naming_unread file h len name format ext_end ended nothing room = record {
  refcount_table = nothing.refcount_table;
  l1_table = nothing.l1_table;
  blocks = nothing.blocks;
  l2_tables = nothing.l2_tables;
  hosts = nothing.hosts;
  l1_bits = nothing.l1_bits;
  refcount_table_bits = nothing.refcount_table_bits;
  l2_bits = nothing.l2_bits;
  compressed = nothing.compressed;
  overlaps = nothing.overlaps;
  counts = nothing.counts;
  room = room;
}

-- A sound file as it was, but for its first cluster.
module _ (old new : List ℕ) (sound : IsSound old) (same : (i : ℕ) → cluster_size (header_of old).cluster_bits ≤ i → slice_index new i ≡ slice_index old i) where
  abbrev h : Header
  h = header_of old

  abbrev c : ℕ
  c = cluster_size h.cluster_bits

  nothing : FindsNothing old h (length old)
  nothing = sound_tables old sound

  row : (at n : ℕ) → (c ≤ at) ⊎ (n ≡ 0) → ReadsAlike old new at n
  row at n (inl high) = record { same = λ i low below. same i (omega (arith, high, low)) }
  row at n (inr none) = record { same = λ i low below. absurd (omega (arith, none, low, below)) }

  table_place : (c ≤ h.ref_offset) ⊎ (h.ref_clusters ≡ 0)
  unfolding uses structure_uses
  table_place =
      let once = (sound_is_consistent old sound).once 0 in
      let none : in_run c 0 h.ref_offset h.ref_clusters ≡ 0 = omega (arith, once) in
      run_outside c h.ref_offset h.ref_clusters none

  l1_place : (c ≤ h.l1_offset) ⊎ (clusters_for c (8 * h.l1_size) ≡ 0)
  unfolding uses structure_uses
  l1_place =
      let once = (sound_is_consistent old sound).once 0 in
      let none : in_run c 0 h.l1_offset (clusters_for c (8 * h.l1_size)) ≡ 0 = omega (arith, once) in
      run_outside c h.l1_offset (clusters_for c (8 * h.l1_size)) none

  pub first_table : refcount_table new h ≡ refcount_table old h
  unfolding refcount_table
  first_table =
      let e : ℕ = entries_in_cluster c in
      words_at-alike old new h.ref_offset (h.ref_clusters * e) (row h.ref_offset (8 * (h.ref_clusters * e)) (elim table_place [
        | inl high ↦ inl high
        | inr none ↦ inr (ap (λ (n : ℕ). 8 * (n * e)) none ∙ omega arith)
      ]))

  -- an L1 table of no cluster has no byte
  no_bytes : (n : ℕ) → clusters_for c n ≡ 0 → n ≡ 0
  no_bytes n none = let some : 0 < c = let p = one-le-pow h.cluster_bits 2 (omega arith) in omega (arith, p) in
      let enough = div_ceil_times n c some in
      let P : ℕ → Type 0 = λ k. n ≤ k * c in
      let within = subst P none enough.0 in omega (arith, within)

  pub first_tree : active_tree new h ≡ active_tree old h
  first_tree =
      let l1 = row h.l1_offset (8 * h.l1_size) (elim l1_place [
        | inl high ↦ inl high
        | inr none ↦ inr (no_bytes (8 * h.l1_size) none)
      ]) in
      tree_at-alike old new c h.l1_offset h.l1_size (record {
        l1 = l1;
        l2 = λ i below other there.
            let P : List ℕ → Type 0 = λ words. is_misplaced c (length old) (host_offset (get_or words i 0)) ≡ false in
            let len = length_l1 old c h.l1_offset h.l1_size in
            let placed = subst P (l1_of_tree old c h.l1_offset h.l1_size) (placed_l2_table c (length old) (active_tree old h) nothing.l2_tables i (omega (arith, below, len))) in
            row _ _ (inl (placed_behind c (length old) _ placed there));
      })

  block_high : (i : ℕ) → block_offset (get_or (refcount_table old h) i 0) ≢ 0 → c ≤ block_offset (get_or (refcount_table old h) i 0)
  block_high i there = elim (cases_lt i (length (refcount_table old h))) [
    | inl inside ↦ placed_behind c (length old) _ (placed_block c (length old) (refcount_table old h) nothing.blocks i inside) there
    | inr past ↦ absurd (there (ap block_offset (get_or_past (refcount_table old h) i 0 past)))
  ]

  pub first_count : (cluster : ℕ) → refcount_of new h cluster ≡ refcount_of old h cluster
  unfolding refcount_of
  first_count cluster =
      let entries : ℕ = block_entries c h.refcount_order in
      let width : ℕ = refcount_bytes h.refcount_order in
      let block : ℕ = block_offset (get_or (refcount_table old h) (cluster / entries) 0) in
      elim (cases_eq block 0) [
        | inl none ↦ let test = eq-eqb block 0 none in rw (first_table, test) refl
        | inr some ↦
            let test = ne_eqb block 0 some in
            let high = block_high (cluster / entries) some in
            let number = number_at-alike old new (block + cluster % entries * width) width (row _ _ (inl (omega (arith, high)))) in
            rw (first_table, test, number) refl
      ]

  first_uses : (cluster : ℕ) → uses new h cluster ≡ uses old h cluster
  unfolding uses
  first_uses cluster = rw (first_table, first_tree) refl

  no_overlap : (len : ℕ) → overlap old h len ≡ None → overlap new h len ≡ None
  unfolding overlap
  no_overlap len none =
      lowest_alike (λ k. ltb 1 (uses new h k)) (λ k. ltb 1 (uses old h k)) (cluster_bound h len) (λ k below. ap (ltb 1) (first_uses k)) ∙ none

  no_uncounted : (len : ℕ) → uncounted old h len ≡ None → uncounted new h len ≡ None
  unfolding uncounted
  no_uncounted len none =
      lowest_alike (λ k. not (eqb (uses new h k) 0) && eqb (refcount_of new h k) 0) (λ k. not (eqb (uses old h k) 0) && eqb (refcount_of old h k) 0) (cluster_bound h len)
      (λ k below. let used = first_uses k in let count = first_count k in rw (used, count) refl) ∙ none

  finds_nothing_too : FindsNothing new h (length old)
  finds_nothing_too = record {
    refcount_table = nothing.refcount_table;
    l1_table = nothing.l1_table;
    blocks = rw first_table nothing.blocks;
    l2_tables = rw first_tree nothing.l2_tables;
    hosts = rw first_tree nothing.hosts;
    l1_bits = rw first_tree nothing.l1_bits;
    refcount_table_bits = rw first_table nothing.refcount_table_bits;
    l2_bits = rw first_tree nothing.l2_bits;
    compressed = rw first_tree nothing.compressed;
    overlaps = no_overlap (length old) nothing.overlaps;
    counts = no_uncounted (length old) nothing.counts;
    room = nothing.room;
  }

  -- such a file is sound where its header is accepted and says the same beside its name and its extensions
  pub first_sound : (name format : Option Place) (ext_end : ℕ) (ended : Bool) → length new ≡ length old → header_refusal new (length new) ≡ None
      → header_of new ≡ with_naming h name format ext_end ended → is_header_full (with_naming h name format ext_end ended) ≡ false → IsSound new
  first_sound name format ext_end ended size header is room =
      let found = naming_unread new h (length old) name format ext_end ended finds_nothing_too room in
      let P : Header → Type 0 = λ x. FindsNothing new x (length old) in
      let Q : ℕ → Type 0 = λ len. FindsNothing new (header_of new) len in
      sound_from_parts new header (subst Q (sym size) (subst P (sym is) found))
