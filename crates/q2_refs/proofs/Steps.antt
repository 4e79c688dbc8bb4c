-- The writes of an allocation: a new block's bytes, its entry in the table, and a refcount. After each of them
-- the file is sound, and what is kept is its refcounts.
use Rattle.std.proofs.Common.{◌≡◌, ◌≢◌, ℕ, ◌+◌, ◌*◌, ◌/◌, ◌%◌, ◌<◌, ◌≤◌, ◌⊎◌, inl, inr, ltb, List, [], ◌∷◌, length, get_or, slice_index, count_by, None, refl, sym, ap, subst, ◌∙◌, arith}
use Rattle.std.proofs.lemmas.Bool.{cases_lt, cases_eq}
use Rattle.std.proofs.lemmas.List.{get_or_past}
use Rattle.std.proofs.lemmas.Nat.{div-add-mod'}
use Rattle.q2_format.specs.Bytes.{ReadsAlike, IsWritten}
use Rattle.q2_format.specs.Entry.{block_offset}
use Rattle.q2_format.specs.Header.{header_of, header_refusal, refused_where, cluster_bits_of, format_refusal, profile_refusal, name_refusal, extension_refusal, size_refusal}
use Rattle.q2_format.specs.declared.header.HeaderStop.TheVariants.{Short}
use Rattle.q2_format.specs.References.{names_cluster, uses}
use Rattle.q2_format.specs.Sizes.{cluster_size}
use Rattle.q2_format.specs.Sound.{is_misplaced, lowest, bad_block, IsSound}
use Rattle.q2_format.specs.Tables.{active_tree, refcount_table, refcount_of}
use Rattle.q2_format.specs.declared.header.Header.{Header}
use Rattle.q2_format.proofs.Consistent.{sound_header, sound_tables, sound_is_consistent}
use Rattle.q2_format.proofs.Firsts.{first-none, lowest-none, none_lowest, option_map-none}
use Rattle.q2_format.proofs.Frames.{placed_longer, cluster_before}
use Rattle.q2_format.proofs.HeaderFrames.{header_alike, profile_bits, name_area}
use Rattle.q2_format.proofs.Limits.{within_limits}
use Rattle.q2_refs.specs.Allocating.{IsInStep, KeepsCounted}
use Rattle.q2_refs.specs.Kept.{KeptRefs, IsCountsOf}
use Rattle.q2_refs.specs.Loading.{HasShape}
use Rattle.q2_refs.proofs.Ranges.{in_block, block_at}
use Rattle.q2_refs.proofs.SoundAfter.{StaysSound, sound_after}
use Rattle.q2_refs.proofs.Uses.{IsApart, block_uses, table_run, unused_apart, names_another, count_zero}
use Rattle.q2_refs.proofs.Writes.{IsWithin, table_stays, tree_stays, header_stays, count_stays}

pub sound_shape : (file : List ℕ) → IsSound file → HasShape (header_of file)
sound_shape file sound =
    let within = within_limits file (length file) (sound_header file sound) in
    record { cluster_bits = within.cluster_bits; refcount_order = within.refcount_order; table = within.refcount_table }

pub cluster_is : (h : Header) → HasShape h → cluster_size h.cluster_bits ≡ 65536
cluster_is h shape = rw shape.cluster_bits refl

pub block_is : (h : Header) → HasShape h → in_block h ≡ 32768
block_is h shape = rw (shape.cluster_bits, shape.refcount_order) refl

-- the header stays where its cluster does
pub header_kept : (old new : List ℕ) → IsSound old → ReadsAlike old new 0 65536 → header_of new ≡ header_of old
unfolding header_refusal
header_kept old new sound alike =
    let each = first-none (refused_where (ltb (length old) 104) Short ∷ format_refusal old (length old) ∷ profile_refusal old ∷ name_refusal old ∷ extension_refusal old ∷ size_refusal old (length old) ∷ []) (sound_header old sound) in
    let bits = profile_bits old each.1.1.0 in
    let small : cluster_size (cluster_bits_of old) ≤ 65536 = rw bits (omega arith) in
    header_alike old new 65536 alike (omega arith) (omega (arith, name_area old each.1.1.1.0, small))

pub uses_alike : (old new : List ℕ) (h : Header) (k : ℕ) → refcount_table new h ≡ refcount_table old h → active_tree new h ≡ active_tree old h → uses new h k ≡ uses old h k
unfolding uses
uses_alike old new h k table tree = rw (table, tree) refl

pub block_longer : (c len longer : ℕ) (table : List ℕ) → len ≤ longer → bad_block c len table ≡ None → bad_block c longer table ≡ None
unfolding bad_block
block_longer c len longer table grows none =
    let nowhere = option_map-none (λ i. block_offset (get_or table i 0)) (lowest (λ i. is_misplaced c len (block_offset (get_or table i 0))) (length table)) none in
    let still = none_lowest (λ i. is_misplaced c longer (block_offset (get_or table i 0))) (length table)
    (λ k below. placed_longer c len longer (block_offset (get_or table k 0)) grows (lowest-none (λ i. is_misplaced c len (block_offset (get_or table i 0))) (length table) nowhere k below)) in
    rw still refl

-- a cluster that no entry of the table names is no block's
pub not_a_block : (file : List ℕ) (h : Header) (k : ℕ) → k ≢ 0 → block_uses file h k ≡ 0 → (i : ℕ) → block_at file h i / cluster_size h.cluster_bits ≢ k
not_a_block file h k other none i = elim (cases_eq (block_at file h i) 0) [
  | inl absent ↦ λ e. other (sym e ∙ ap (λ (o : ℕ). o / cluster_size h.cluster_bits) absent ∙ omega arith)
  | inr there ↦ elim (cases_lt i (length (refcount_table file h))) [
    | inl below ↦ names_another (cluster_size h.cluster_bits) k (block_at file h i) there
        (count_zero (λ word. names_cluster (cluster_size h.cluster_bits) k (block_offset word)) (refcount_table file h) i none below)
    | inr past ↦ absurd (there (ap block_offset (get_or_past (refcount_table file h) i 0 past)))
  ]
]

-- a byte of another cluster
pub outside_cluster : (i k c : ℕ) → 0 < c → i / c ≢ k → (i < k * c) ⊎ (k * c + c ≤ i)
outside_cluster i k c some other =
    let parts = div-add-mod' i c in
    let column : i % c < c = omega arith in
    elim (cases_lt (i / c) k) [
      | inl before ↦ let gap = cluster_before c (i / c) k before in inl (omega (arith, parts, column))
      | inr low ↦ let gap = cluster_before c k (i / c) (omega arith) in inr (omega (arith, parts))
    ]

pub byte_stays : (old new : List ℕ) (k c at i : ℕ) (bytes : List ℕ) → 0 < c → IsWritten old new at bytes → IsWithin k c at bytes → i / c ≢ k → slice_index new i ≡ slice_index old i
byte_stays old new k c at i bytes some written within other = elim (outside_cluster i k c some other) [
  | inl before ↦ written.outside i (inl (omega (arith, within.low)))
  | inr behind ↦ written.outside i (inr (omega (arith, within.high)))
]

pub counts_by_header : (file : List ℕ) (h other : Header) (kept : KeptRefs) → other ≡ h → IsCountsOf file h kept → IsCountsOf file other kept
counts_by_header file h other kept is counts = let P : Header → Type 0 = λ x. IsCountsOf file x kept in subst P (sym is) counts

-- a write into a free cluster
module _ (old new : List ℕ) (kept : KeptRefs) (k at : ℕ) (bytes : List ℕ) (step : IsInStep old kept) (free : refcount_of old (header_of old) k ≡ 0)
    (written : IsWritten old new at bytes) (within : IsWithin k (cluster_size (header_of old).cluster_bits) at bytes)
    (grows : length old ≤ length new) (small : length new ≤ 549755813888) where
  abbrev h : Header
  h = header_of old

  some : 0 < cluster_size h.cluster_bits
  some = omega (arith, cluster_is h (sound_shape old step.sound))

  unused : uses old h k ≡ 0
  unused = let counted = (sound_is_consistent old step.sound).counted k in omega (arith, counted, free)

  parts : IsApart old h k × (table_run h k ≡ 0) × (block_uses old h k ≡ 0)
  parts = unused_apart old h k unused

  same_table : refcount_table new h ≡ refcount_table old h
  same_table = table_stays old new h (length old) k at bytes some written within (sound_tables old step.sound) parts.1

  same_tree : active_tree new h ≡ active_tree old h
  same_tree = tree_stays old new h (length old) k at bytes some written within (sound_tables old step.sound) parts.0

  same_first : ReadsAlike old new 0 65536
  same_first = let c = cluster_is h (sound_shape old step.sound) in rw (← c) (header_stays old new h (length old) k at bytes some written within (sound_tables old step.sound) parts.0.header)

  same_count : (cluster : ℕ) → refcount_of new h cluster ≡ refcount_of old h cluster
  same_count cluster =
      count_stays old new h (length old) k at bytes some written within (sound_tables old step.sound) (sound_shape old step.sound) cluster
      (ap (λ (table : List ℕ). get_or table (cluster / in_block h) 0) same_table)
      (not_a_block old h k parts.0.header parts.2 (cluster / in_block h))

  pub unused_keeps : KeepsCounted old new h
  unused_keeps = record {
    header = header_kept old new step.sound same_first;
    tree = same_tree;
    uses_stay = λ j some_count. uses_alike old new h j same_table same_tree;
    refcounts_stay = λ j some_count. same_count j;
    structure = λ j some_count. ap (λ (table : List ℕ). table_run h j + count_by (λ word. names_cluster (cluster_size h.cluster_bits) j (block_offset word)) table) same_table;
    bytes = λ i some_count none. byte_stays old new k (cluster_size h.cluster_bits) at i bytes some written within (λ e. some_count (ap (refcount_of old h) e ∙ free));
  }

  pub unused_in_step : IsInStep new kept
  unused_in_step =
      let c : ℕ = cluster_size h.cluster_bits in
      let nothing = sound_tables old step.sound in
      let consistent = sound_is_consistent old step.sound in
      let same_uses : (j : ℕ) → uses new h j ≡ uses old h j = λ j. uses_alike old new h j same_table same_tree in
      let stays : StaysSound old new h = record {
        header = header_kept old new step.sound same_first;
        first = same_first;
        grows = grows;
        small = small;
        tree = same_tree;
        blocks = rw same_table (block_longer c (length old) (length new) (refcount_table old h) grows nothing.blocks);
        bits = rw same_table nothing.refcount_table_bits;
        once = λ j. let e = same_uses j in omega (arith, e, consistent.once j);
        counted = λ j. let e = same_uses j in let n = same_count j in omega (arith, e, n, consistent.counted j);
      } in
      record {
        sound = sound_after old new step.sound stays;
        counts = counts_by_header new h (header_of new) kept stays.header (record {
          shape = step.counts.shape;
          table = step.counts.table ∙ sym same_table;
          counts = λ j below. step.counts.counts j below ∙ sym (same_count j);
        });
      }
