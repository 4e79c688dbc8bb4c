-- The write of one refcount: after it the file is sound, and what is kept with that count is its refcounts.
use Rattle.std.proofs.Common.{◌≡◌, ◌≢◌, ℕ, ◌+◌, ◌*◌, ◌/◌, ◌%◌, ◌<◌, ◌≤◌, inl, inr, true, List, length, get_or, count_by, refl, sym, ap, ◌∙◌, arith}
use Rattle.std.proofs.Math.ListN.{set, length-set}
use Rattle.std.proofs.lemmas.Bool.{cases_lt, cases_eq, false≢true}
use Rattle.std.proofs.lemmas.List.{get_or_past, get_or-set_same, get_or-set_other}
use Rattle.std.proofs.lemmas.Nat.{div-add-mod'}
use Rattle.byteorder.specs.Endian.{big_bytes}
use Rattle.byteorder.specs.Numbers.{length-bytes_high_first}
use Rattle.q2_format.specs.Bytes.{number_at, ReadsAlike, IsWritten}
use Rattle.q2_format.specs.Entry.{block_offset}
use Rattle.q2_format.specs.Header.{header_of}
use Rattle.q2_format.specs.References.{names_cluster, uses}
use Rattle.q2_format.specs.Sizes.{cluster_size}
use Rattle.q2_format.specs.Tables.{active_tree, refcount_table, refcount_of}
use Rattle.q2_format.specs.declared.header.Header.{Header}
use Rattle.q2_format.proofs.ByPlace.{number_at-before, number_at-behind}
use Rattle.q2_format.proofs.Consistent.{sound_tables, sound_is_consistent}
use Rattle.q2_format.proofs.Frames.{written_number}
use Rattle.q2_refs.specs.Allocating.{IsInStep, KeepsCounted, refcount_uses, with_one}
use Rattle.q2_refs.specs.Kept.{KeptRefs}
use Rattle.q2_refs.specs.Loading.{HasShape}
use Rattle.q2_refs.proofs.Ranges.{in_block, block_at, width_two, refcount_of-present}
use Rattle.q2_refs.proofs.SoundAfter.{StaysSound, sound_after}
use Rattle.q2_refs.proofs.Uses.{IsApart, table_run, block_apart, blocks_differ, names_it, count_zero}
use Rattle.q2_refs.proofs.Writes.{IsWithin, table_stays, tree_stays, header_stays, count_stays, blocks_whole}
use Rattle.q2_refs.proofs.Steps.{sound_shape, cluster_is, block_is, header_kept, uses_alike, block_longer, byte_stays, counts_by_header}

-- where the refcount of a cluster is
abbrev pub count_at : List ℕ → Header → ℕ → ℕ
count_at file h n = block_at file h (n / in_block h) + n % in_block h * 2

zero_div : (c : ℕ) → 0 < c → 0 / c ≡ 0
zero_div c some = omega arith

module _ (old new : List ℕ) (kept : KeptRefs) (n : ℕ) (step : IsInStep old kept) (below : n < length kept.counts)
    (there : block_at old (header_of old) (n / in_block (header_of old)) ≢ 0) (free : refcount_of old (header_of old) n ≡ 0)
    (written : IsWritten old new (count_at old (header_of old) n) (big_bytes 2 1))
    (grows : length old ≤ length new) (small : length new ≤ 549755813888) where
  abbrev h : Header
  h = header_of old

  abbrev c : ℕ
  c = cluster_size h.cluster_bits

  abbrev i : ℕ
  i = n / in_block h

  abbrev block : ℕ
  block = block_at old h i

  -- the block's cluster
  abbrev k : ℕ
  k = block / c

  shape : HasShape h
  shape = sound_shape old step.sound

  some : 0 < c
  some = omega (arith, cluster_is h shape)

  whole : block ≡ k * c
  whole = let none = blocks_whole c (length old) (refcount_table old h) some (sound_tables old step.sound).blocks i in
      let parts = div-add-mod' block c in omega (arith, none, parts)

  -- the entry of the block is in the table
  in_table : (m : ℕ) → block_at old h m ≢ 0 → m < length (refcount_table old h)
  in_table m some_block = elim (cases_lt m (length (refcount_table old h))) [
    | inl inside ↦ inside
    | inr past ↦ absurd (some_block (ap block_offset (get_or_past (refcount_table old h) m 0 past)))
  ]

  named : names_cluster c k block ≡ true
  named = names_it c k block there refl

  once : uses old h k ≤ 1
  once = (sound_is_consistent old step.sound).once k

  parts : IsApart old h k × (table_run h k ≡ 0)
  parts = block_apart old h k i once (in_table i there) named

  within : IsWithin k c (count_at old h n) (big_bytes 2 1)
  within =
      let two = length-bytes_high_first 2 1 in
      let e = block_is h shape in
      let size = cluster_is h shape in
      let column : n % in_block h < 32768 = rw e (omega arith) in
      record { low = omega (arith, whole); high = omega (arith, whole, two, column, size) }

  same_table : refcount_table new h ≡ refcount_table old h
  same_table = table_stays old new h (length old) k (count_at old h n) (big_bytes 2 1) some written within (sound_tables old step.sound) parts.1

  same_tree : active_tree new h ≡ active_tree old h
  same_tree = tree_stays old new h (length old) k (count_at old h n) (big_bytes 2 1) some written within (sound_tables old step.sound) parts.0

  same_first : ReadsAlike old new 0 65536
  same_first = let size = cluster_is h shape in rw (← size) (header_stays old new h (length old) k (count_at old h n) (big_bytes 2 1) some written within (sound_tables old step.sound) parts.0.header)

  same_block : block_at new h i ≡ block
  same_block = ap (λ (table : List ℕ). block_offset (get_or table i 0)) same_table

  -- refcounts of other blocks
  other_block : (j : ℕ) → j / in_block h ≢ i → refcount_of new h j ≡ refcount_of old h j
  other_block j other =
      count_stays old new h (length old) k (count_at old h n) (big_bytes 2 1) some written within (sound_tables old step.sound) shape j
      (ap (λ (table : List ℕ). get_or table (j / in_block h) 0) same_table)
      (λ e. elim (cases_eq (block_at old h (j / in_block h)) 0) [
        | inl absent ↦ parts.0.header (sym e ∙ ap (λ (o : ℕ). o / c) absent ∙ zero_div c some)
        | inr present ↦ blocks_differ old h k (j / in_block h) i once (in_table (j / in_block h) present) (in_table i there) other (names_it c k (block_at old h (j / in_block h)) present e) named
      ])

  -- a number of the same block
  number_of : (j : ℕ) → j / in_block h ≡ i → (file : List ℕ) → block_at file h i ≡ block → refcount_of file h j ≡ number_at file (block + j % in_block h * 2) 2
  number_of j same file is =
      let place = ap (λ (a : ℕ). a * in_block h + j % in_block h) (sym same) ∙ div-add-mod' j (in_block h) in
      let e = block_is h shape in
      let column : j % in_block h < in_block h = rw e (omega arith) in
      sym (ap (refcount_of file h) place)
      ∙ refcount_of-present file h i (j % in_block h) column (λ none. there (sym is ∙ none))
      ∙ ap (λ (w : ℕ). number_at file (block_at file h i + j % in_block h * w) w) (width_two h shape)
      ∙ ap (λ (o : ℕ). number_at file (o + j % in_block h * 2) 2) is

  same_counts : (j : ℕ) → j ≢ n → refcount_of new h j ≡ refcount_of old h j
  same_counts j other = elim (cases_eq (j / in_block h) i) [
    | inl same ↦
        let two = length-bytes_high_first 2 1 in
        let apart : j % in_block h ≢ n % in_block h = λ e. other (sym (div-add-mod' j (in_block h)) ∙ ap (λ (a : ℕ). a * in_block h + j % in_block h) same ∙ ap (λ (b : ℕ). i * in_block h + b) e ∙ div-add-mod' n (in_block h)) in
        number_of j same new same_block
        ∙ elim (cases_lt (j % in_block h) (n % in_block h)) as (λ _. number_at new (block + j % in_block h * 2) 2 ≡ number_at old (block + j % in_block h * 2) 2) [
          | inl before ↦ number_at-before old new (count_at old h n) (big_bytes 2 1) written (block + j % in_block h * 2) 2 (omega arith)
          | inr low ↦ number_at-behind old new (count_at old h n) (big_bytes 2 1) written (block + j % in_block h * 2) 2 (omega (arith, two))
        ]
        ∙ sym (number_of j same old refl)
    | inr elsewhere ↦ other_block j elsewhere
  ]

  one : refcount_of new h n ≡ 1
  one = number_of n refl new same_block ∙ written_number old new (count_at old h n) 2 1 written (omega arith)

  pub same_uses : (j : ℕ) → uses new h j ≡ uses old h j
  same_uses j = uses_alike old new h j same_table same_tree

  lies_on_block : refcount_uses old h k ≡ 0 → ⊥
  lies_on_block none =
      let no_block : count_by (λ word. names_cluster c k (block_offset word)) (refcount_table old h) ≡ 0 = omega (arith, none) in
      false≢true (sym (count_zero (λ word. names_cluster c k (block_offset word)) (refcount_table old h) i no_block (in_table i there)) ∙ named)

  pub count_keeps : KeepsCounted old new h
  count_keeps = record {
    header = header_kept old new step.sound same_first;
    tree = same_tree;
    uses_stay = λ j some_count. same_uses j;
    refcounts_stay = λ j some_count. same_counts j (λ e. some_count (ap (refcount_of old h) e ∙ free));
    structure = λ j some_count. ap (λ (table : List ℕ). table_run h j + count_by (λ word. names_cluster c j (block_offset word)) table) same_table;
    bytes = λ b some_count none. byte_stays old new k c (count_at old h n) b (big_bytes 2 1) some written within (λ e. lies_on_block (rw e at none));
  }

  pub count_in_step : IsInStep new (with_one kept n)
  count_in_step =
      let nothing = sound_tables old step.sound in
      let consistent = sound_is_consistent old step.sound in
      let stays : StaysSound old new h = record {
        header = header_kept old new step.sound same_first;
        first = same_first;
        grows = grows;
        small = small;
        tree = same_tree;
        blocks = rw same_table (block_longer c (length old) (length new) (refcount_table old h) grows nothing.blocks);
        bits = rw same_table nothing.refcount_table_bits;
        once = λ j. let e = same_uses j in omega (arith, e, consistent.once j);
        counted = λ j. let e = same_uses j in elim (cases_eq j n) [
          | inl here ↦ let counted_once = one in let used = consistent.once j in let all = ap (refcount_of new h) here in omega (arith, e, used, counted_once, all)
          | inr other ↦ let same = same_counts j other in omega (arith, e, same, consistent.counted j)
        ];
      } in
      record {
        sound = sound_after old new step.sound stays;
        counts = counts_by_header new h (header_of new) (with_one kept n) stays.header (record {
          shape = record { cluster_bits = step.counts.shape.cluster_bits; refcount_order = step.counts.shape.refcount_order; table_offset = step.counts.shape.table_offset };
          table = step.counts.table ∙ sym same_table;
          counts = λ j inside. elim (cases_eq j n) [
            | inl here ↦
                ap (λ (m : ℕ). get_or (set kept.counts n 1) m 0) here ∙ get_or-set_same kept.counts n 1 0 below ∙ sym one
                ∙ ap (refcount_of new h) (sym here)
            | inr other ↦ get_or-set_other kept.counts n j 1 0 other ∙ step.counts.counts j (omega (arith, length-set kept.counts n 1)) ∙ sym (same_counts j other)
          ];
        });
      }
