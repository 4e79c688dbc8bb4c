-- The write of a table entry that names a new block: after it the file is sound, and what is kept with that
-- block is its refcounts.
use Rattle.std.proofs.Common.{◌≡◌, ◌≢◌, ℕ, ◌+◌, ◌*◌, ◌/◌, ◌%◌, ◌^◌, ◌<◌, ◌≤◌, inl, inr, Bool, false, not, cond, eqb, List, length, get_or, count_by, None, refl, sym, ap, ◌∙◌, arith, eq-eqb}
use Rattle.std.proofs.Math.ListN.{set, length-set}
use Rattle.std.proofs.lemmas.Bool.{ne_eqb, cases_eq, lt-ltb, not_from_true, and_right}
use Rattle.std.proofs.lemmas.List.{get_or-set_same, get_or-set_other}
use Rattle.std.proofs.lemmas.List.Sums.{sum_by-set}
use Rattle.std.proofs.lemmas.Nat.{div-add-mod'}
use Rattle.byteorder.specs.Endian.{big_bytes}
use Rattle.byteorder.specs.Numbers.{length-bytes_high_first}
use Rattle.q2_format.specs.Bytes.{number_at, ReadsAlike, IsWritten}
use Rattle.q2_format.specs.Entry.{block_offset, has_reserved_in_refcount_table}
use Rattle.q2_format.specs.Header.{header_of}
use Rattle.q2_format.specs.References.{names_cluster, uses}
use Rattle.q2_format.specs.Sizes.{cluster_size, entries_in_cluster}
use Rattle.q2_format.specs.Sound.{is_misplaced, bad_block, reserved_in_refcount_table}
use Rattle.q2_format.specs.Tables.{Tree, active_tree, refcount_table, refcount_of}
use Rattle.q2_format.specs.declared.header.Header.{Header}
use Rattle.q2_format.proofs.ByPlace.{length-words_at, number_at-within}
use Rattle.q2_format.proofs.Consistent.{sound_tables, sound_is_consistent}
use Rattle.q2_format.proofs.Firsts.{lowest-none, none_lowest}
use Rattle.q2_format.proofs.Frames.{placed_longer, words_at-set}
use Rattle.q2_refs.specs.Allocating.{IsInStep, KeepsCounted, with_block, place_of_block}
use Rattle.q2_refs.specs.Kept.{KeptRefs}
use Rattle.q2_refs.specs.Loading.{HasShape}
use Rattle.q2_refs.proofs.Ranges.{in_block, block_at, width_two, refcount_of-absent, refcount_of-present}
use Rattle.q2_refs.proofs.SoundAfter.{StaysSound, sound_after}
use Rattle.q2_refs.proofs.Uses.{IsApart, table_run, block_uses, table_apart, unused_apart, run_has, uses_parts, names_it, table_uses_in, host_uses_in}
use Rattle.q2_refs.proofs.Writes.{IsWithin, table_placed, tree_stays, header_stays, count_stays, whole_of, cluster_apart, block_placed}
use Rattle.q2_refs.proofs.Steps.{sound_shape, cluster_is, block_is, header_kept, not_a_block, byte_stays, counts_by_header}

-- a new block's bytes: its own cluster counts one, and it is the first of the block's range
pub record IsNewBlock (file : List ℕ) (offset entries : ℕ) : Type 0 where
  pub own : number_at file offset 2 ≡ 1
  pub others : (j : ℕ) → 0 < j → j < entries → number_at file (offset + j * 2) 2 ≡ 0

length_table : (file : List ℕ) (h : Header) → length (refcount_table file h) ≡ h.ref_clusters * entries_in_cluster (cluster_size h.cluster_bits)
unfolding refcount_table
length_table file h = length-words_at file h.ref_offset (h.ref_clusters * entries_in_cluster (cluster_size h.cluster_bits))

-- the offset of a cluster reads as itself in an entry
pub reads_back : (f : ℕ) → f < 2 ^ 30 → block_offset (f * 65536) ≡ f * 65536
reads_back f small = omega arith

no_reserved : (f : ℕ) → has_reserved_in_refcount_table (f * 65536) ≡ false
no_reserved f = let none : f * 65536 / 2 ^ 0 % 2 ^ 9 ≡ 0 = omega arith in not_from_true (eqb (f * 65536 / 2 ^ 0 % 2 ^ 9) 0) (eq-eqb (f * 65536 / 2 ^ 0 % 2 ^ 9) 0 none)

abbrev tally : Bool → ℕ
tally t = cond t 1 0

zero_div : (c : ℕ) → 0 < c → 0 / c ≡ 0
zero_div c some = omega arith

omega_zero : (n : ℕ) → n + 0 ≡ n
omega_zero n = omega arith

positive : (n : ℕ) → n ≢ 0 → 0 < n
positive n some = omega arith

unreserved : (table : List ℕ) → reserved_in_refcount_table table ≡ None → (i : ℕ) → i < length table → has_reserved_in_refcount_table (get_or table i 0) ≡ false
unfolding reserved_in_refcount_table
unreserved table none i below = lowest-none (λ i. has_reserved_in_refcount_table (get_or table i 0)) (length table) none i below

module _ (old new : List ℕ) (kept : KeptRefs) (b f : ℕ) (step : IsInStep old kept) (place : f ≡ b * in_block (header_of old))
    (in_table : b < length (refcount_table old (header_of old))) (absent : block_at old (header_of old) b ≡ 0)
    (kept_too : f < length kept.counts) (few : f < 2 ^ 30)
    (there : f * cluster_size (header_of old).cluster_bits < length old)
    (fresh : IsNewBlock old (f * cluster_size (header_of old).cluster_bits) (in_block (header_of old)))
    (written : IsWritten old new ((header_of old).ref_offset + 8 * b) (big_bytes 8 (f * cluster_size (header_of old).cluster_bits)))
    (grows : length old ≤ length new) (small : length new ≤ 549755813888) where
  abbrev h : Header
  h = header_of old

  abbrev c : ℕ
  c = cluster_size h.cluster_bits

  abbrev at : ℕ
  at = h.ref_offset + 8 * b

  abbrev word : List ℕ
  word = big_bytes 8 (f * c)

  -- the entry's cluster
  abbrev k : ℕ
  k = at / c

  shape : HasShape h
  shape = sound_shape old step.sound

  size : c ≡ 65536
  size = cluster_is h shape

  some : 0 < c
  some = omega (arith, size)

  entries : length (refcount_table old h) ≡ h.ref_clusters * 8192
  entries = let bits = shape.cluster_bits in length_table old h ∙ rw bits refl

  whole_table : h.ref_offset % 65536 ≡ 0
  whole_table = rw (← size) (whole_of c (length old) h.ref_offset (table_placed h (length old) (sound_tables old step.sound).refcount_table).1)

  in_cluster : (at / 65536 * 65536 ≤ at) × (at + 8 ≤ at / 65536 * 65536 + 65536)
  in_cluster = (omega arith, omega (arith, whole_table))

  within : IsWithin k c at word
  within = let eight = length-bytes_high_first 8 (f * c) in rw size (record { low = in_cluster.0; high = in_cluster.1 })

  -- it is one of the table's clusters
  in_run_of_table : (h.ref_offset / 65536 ≤ at / 65536) × (at / 65536 < h.ref_offset / 65536 + h.ref_clusters)
  in_run_of_table = (omega arith, omega (arith, whole_table, in_table, entries))

  run : table_run h k ≡ 1
  run = run_has c k h.ref_offset h.ref_clusters (rw size in_run_of_table.0) (rw size in_run_of_table.1)

  used_once : uses old h k ≤ 1
  used_once = (sound_is_consistent old step.sound).once k

  parts : IsApart old h k × (block_uses old h k ≡ 0)
  parts = table_apart old h k used_once run

  -- the new block's cluster is free
  free : refcount_of old h f ≡ 0
  free =
      let e = block_is h shape in
      let first : 0 < in_block h = rw e (omega arith) in
      let here : f ≡ b * in_block h + 0 = omega (arith, place) in
      ap (refcount_of old h) here ∙ refcount_of-absent old h b 0 first absent

  unused : uses old h f ≡ 0
  unused = let counted = (sound_is_consistent old step.sound).counted f in omega (arith, counted, free)

  new_parts : IsApart old h f × (table_run h f ≡ 0) × (block_uses old h f ≡ 0)
  new_parts = unused_apart old h f unused

  other_cluster : f ≢ k
  other_cluster e = let none = new_parts.1 in let same = ap (table_run h) e in omega (arith, none, same, run)

  same_tree : active_tree new h ≡ active_tree old h
  same_tree = tree_stays old new h (length old) k at word some written within (sound_tables old step.sound) parts.0

  same_first : ReadsAlike old new 0 65536
  same_first = rw (← size) (header_stays old new h (length old) k at word some written within (sound_tables old step.sound) parts.0.header)

  table_fits : b < h.ref_clusters * entries_in_cluster c
  table_fits = omega (arith, in_table, length_table old h)

  word_fits : f * c < 256 ^ 8
  word_fits = rw size (omega arith)

  new_table : refcount_table new h ≡ set (refcount_table old h) b (f * c)
  unfolding refcount_table
  new_table = words_at-set old new h.ref_offset (h.ref_clusters * entries_in_cluster c) b (f * c) table_fits written word_fits

  block_new : block_offset (f * c) ≡ f * c
  block_new = rw size (reads_back f few)

  new_word : get_or (refcount_table new h) b 0 ≡ f * c
  new_word = ap (λ (table : List ℕ). get_or table b 0) new_table ∙ get_or-set_same (refcount_table old h) b (f * c) 0 in_table

  names_new : block_at new h b ≡ f * c
  names_new = ap block_offset new_word ∙ block_new

  cluster_of_new : f * c / c ≡ f
  cluster_of_new = rw size (omega arith)

  some_new : f * c ≢ 0
  some_new e = new_parts.0.header (sym cluster_of_new ∙ ap (λ (o : ℕ). o / c) e ∙ zero_div c some)

  -- The uses.

  new_name : (j : ℕ) → j ≢ f → names_cluster c j (f * c) ≡ false
  new_name j other = and_right (not (eqb (f * c) 0)) (eqb (f * c / c) j) (ne_eqb (f * c / c) j (λ e. other (sym e ∙ cluster_of_new)))

  block_uses_new : (j : ℕ) → block_uses new h j ≡ block_uses old h j + cond (names_cluster c j (f * c)) 1 0
  block_uses_new j =
      let p : ℕ → ℕ = λ w. cond (names_cluster c j (block_offset w)) 1 0 in
      let change = sum_by-set (λ w. cond (names_cluster c j (block_offset w)) 1 0) (refcount_table old h) b (f * c) 0 in_table in
      let before : ◌≡◌ {A = ℕ} (cond (names_cluster c j (block_at old h b)) 1 0) 0 = ap (λ (o : ℕ). cond (names_cluster c j o) 1 0) absent in
      let after : ◌≡◌ {A = ℕ} (cond (names_cluster c j (block_offset (f * c))) 1 0) (cond (names_cluster c j (f * c)) 1 0) = ap (λ (o : ℕ). cond (names_cluster c j o) 1 0) block_new in
      let table = ap (λ (xs : List ℕ). count_by (λ w. names_cluster c j (block_offset w)) xs) new_table in
      table ∙ omega (arith, change, before, after)

  uses_new : (j : ℕ) → uses new h j ≡ uses old h j + cond (names_cluster c j (f * c)) 1 0
  uses_new j =
      let blocks = block_uses_new j in
      let tree = ap (λ (t : Tree). table_uses_in c t j + host_uses_in c t j) same_tree in
      omega (arith, uses_parts new h j, uses_parts old h j, blocks, tree)

  other_uses : (j : ℕ) → j ≢ f → uses new h j ≡ uses old h j
  other_uses j other = let none = ap tally (new_name j other) in omega (arith, uses_new j, none)

  one_use : uses new h f ≡ 1
  one_use = let named = ap tally (names_it c f (f * c) some_new cluster_of_new) in omega (arith, uses_new f, named, unused)

  -- The refcounts.

  new_bytes : ReadsAlike old new (f * c) c
  new_bytes =
      let whole : f * c % c ≡ 0 = rw size (omega arith) in
      cluster_apart old new k c at word written within (f * c) c whole (omega arith) (λ e. other_cluster (sym cluster_of_new ∙ e))

  in_new : (file : List ℕ) (j : ℕ) → j < in_block h → block_at file h b ≡ f * c → refcount_of file h (b * in_block h + j) ≡ number_at file (f * c + j * 2) 2
  in_new file j below is =
      refcount_of-present file h b j below (λ none. some_new (sym is ∙ none))
      ∙ ap (λ (w : ℕ). number_at file (block_at file h b + j * w) w) (width_two h shape)
      ∙ ap (λ (o : ℕ). number_at file (o + j * 2) 2) is

  in_new_file : (j : ℕ) → j < in_block h → refcount_of new h (b * in_block h + j) ≡ number_at old (f * c + j * 2) 2
  in_new_file j below =
      let e = block_is h shape in
      let small_column : j < 32768 = rw e at below in
      in_new new j below names_new ∙ number_at-within old new (f * c) c (f * c + j * 2) 2 new_bytes (omega arith) (omega (arith, size, small_column))

  one : refcount_of new h f ≡ 1
  one =
      let e = block_is h shape in
      let first : 0 < in_block h = rw e (omega arith) in
      let here : f ≡ b * in_block h + 0 = omega (arith, place) in
      ap (refcount_of new h) here ∙ in_new_file 0 first ∙ ap (λ (o : ℕ). number_at old o 2) (omega_zero (f * c)) ∙ fresh.own

  counts_in_range : (j : ℕ) → j / in_block h ≡ b → j ≢ f → refcount_of new h j ≡ refcount_of old h j
  counts_in_range j range other =
      let e = block_is h shape in
      let column : j % in_block h < in_block h = rw e (omega arith) in
      let here = ap (λ (a : ℕ). a * in_block h + j % in_block h) (sym range) ∙ div-add-mod' j (in_block h) in
      let later : 0 < j % in_block h = positive (j % in_block h) (λ none. other (sym here ∙ ap (λ (a : ℕ). b * in_block h + a) none ∙ omega_zero (b * in_block h) ∙ sym place)) in
      ap (refcount_of new h) (sym here) ∙ in_new_file (j % in_block h) column ∙ fresh.others (j % in_block h) later column
      ∙ sym (refcount_of-absent old h b (j % in_block h) column absent) ∙ ap (refcount_of old h) here

  counts_elsewhere : (j : ℕ) → j / in_block h ≢ b → refcount_of new h j ≡ refcount_of old h j
  counts_elsewhere j other =
      count_stays old new h (length old) k at word some written within (sound_tables old step.sound) shape j
      (ap (λ (table : List ℕ). get_or table (j / in_block h) 0) new_table ∙ get_or-set_other (refcount_table old h) b (j / in_block h) (f * c) 0 other)
      (not_a_block old h k parts.0.header parts.1 (j / in_block h))

  other_counts : (j : ℕ) → j ≢ f → refcount_of new h j ≡ refcount_of old h j
  other_counts j other = elim (cases_eq (j / in_block h) b) [
    | inl range ↦ counts_in_range j range other
    | inr elsewhere ↦ counts_elsewhere j elsewhere
  ]

  counted_not_f : (j : ℕ) → refcount_of old h j ≢ 0 → j ≢ f
  counted_not_f j some_count = λ e. some_count (ap (refcount_of old h) e ∙ free)

  pub block_keeps : KeepsCounted old new h
  block_keeps = record {
    header = header_kept old new step.sound same_first;
    tree = same_tree;
    uses_stay = λ j some_count. other_uses j (counted_not_f j some_count);
    refcounts_stay = λ j some_count. other_counts j (counted_not_f j some_count);
    structure = λ j some_count. let none = ap tally (new_name j (counted_not_f j some_count)) in omega (arith, block_uses_new j, none);
    bytes = λ i some_count none. byte_stays old new k c at i word some written within (λ e. absurd (let zero_there = rw e at none in omega (arith, zero_there, run)));
  }

  -- Nothing is found of the new table.

  new_placed : (i : ℕ) → i < length (set (refcount_table old h) b (f * c)) → is_misplaced c (length new) (block_offset (get_or (set (refcount_table old h) b (f * c)) i 0)) ≡ false
  new_placed i below = elim (cases_eq i b) [
    | inl here ↦
        let whole = eq-eqb (f * c % c) 0 (rw size (omega arith)) in
        let inside = lt-ltb (f * c) (length new) (omega arith) in
        let placed : is_misplaced c (length new) (f * c) ≡ false = rw (whole, inside) refl in
        ap (λ (m : ℕ). is_misplaced c (length new) (block_offset (get_or (set (refcount_table old h) b (f * c)) m 0))) here
        ∙ ap (λ (w : ℕ). is_misplaced c (length new) (block_offset w)) (get_or-set_same (refcount_table old h) b (f * c) 0 in_table)
        ∙ ap (is_misplaced c (length new)) block_new ∙ placed
    | inr other ↦
        ap (λ (w : ℕ). is_misplaced c (length new) (block_offset w)) (get_or-set_other (refcount_table old h) b i (f * c) 0 other)
        ∙ placed_longer c (length old) (length new) (block_offset (get_or (refcount_table old h) i 0)) grows
        (block_placed c (length old) (refcount_table old h) (sound_tables old step.sound).blocks i (omega (arith, length-set (refcount_table old h) b (f * c))))
  ]

  new_blocks : bad_block c (length new) (refcount_table new h) ≡ None
  unfolding bad_block
  new_blocks =
      let nowhere = none_lowest (λ i. is_misplaced c (length new) (block_offset (get_or (set (refcount_table old h) b (f * c)) i 0))) (length (set (refcount_table old h) b (f * c))) new_placed in
      rw (new_table, nowhere) refl

  new_unreserved : (i : ℕ) → i < length (set (refcount_table old h) b (f * c)) → has_reserved_in_refcount_table (get_or (set (refcount_table old h) b (f * c)) i 0) ≡ false
  new_unreserved i below = elim (cases_eq i b) [
    | inl here ↦
        ap (λ (m : ℕ). has_reserved_in_refcount_table (get_or (set (refcount_table old h) b (f * c)) m 0)) here
        ∙ ap has_reserved_in_refcount_table (get_or-set_same (refcount_table old h) b (f * c) 0 in_table)
        ∙ ap (λ (s : ℕ). has_reserved_in_refcount_table (f * s)) size ∙ no_reserved f
    | inr other ↦
        ap has_reserved_in_refcount_table (get_or-set_other (refcount_table old h) b i (f * c) 0 other)
        ∙ unreserved (refcount_table old h) (sound_tables old step.sound).refcount_table_bits i (omega (arith, length-set (refcount_table old h) b (f * c)))
  ]

  new_bits : reserved_in_refcount_table (refcount_table new h) ≡ None
  unfolding reserved_in_refcount_table
  new_bits =
      let nowhere = none_lowest (λ i. has_reserved_in_refcount_table (get_or (set (refcount_table old h) b (f * c)) i 0)) (length (set (refcount_table old h) b (f * c))) new_unreserved in
      rw (new_table, nowhere) refl

  place_is : place_of_block kept b ≡ f
  place_is = let shaped = step.counts.shape in rw (shaped.cluster_bits, shaped.refcount_order) (sym place)

  word_is : place_of_block kept b * cluster_size kept.cluster_bits ≡ f * c
  word_is = ap (λ (p : ℕ). p * cluster_size kept.cluster_bits) place_is ∙ ap (λ (bits : ℕ). f * cluster_size bits) step.counts.shape.cluster_bits

  new_counts : (j : ℕ) → j < length kept.counts → get_or (set kept.counts (place_of_block kept b) 1) j 0 ≡ refcount_of new h j
  new_counts j below = elim (cases_eq j f) [
    | inl here ↦
        ap (λ (p : ℕ). get_or (set kept.counts p 1) j 0) place_is ∙ ap (λ (m : ℕ). get_or (set kept.counts f 1) m 0) here
        ∙ get_or-set_same kept.counts f 1 0 kept_too ∙ sym one ∙ ap (refcount_of new h) (sym here)
    | inr other ↦
        ap (λ (p : ℕ). get_or (set kept.counts p 1) j 0) place_is ∙ get_or-set_other kept.counts f j 1 0 other
        ∙ step.counts.counts j below ∙ sym (other_counts j other)
  ]

  pub block_in_step : IsInStep new (with_block kept b)
  block_in_step =
      let consistent = sound_is_consistent old step.sound in
      let stays : StaysSound old new h = record {
        header = header_kept old new step.sound same_first;
        first = same_first;
        grows = grows;
        small = small;
        tree = same_tree;
        blocks = new_blocks;
        bits = new_bits;
        once = λ j. elim (cases_eq j f) [
          | inl here ↦ let e = ap (uses new h) here in omega (arith, e, one_use)
          | inr other ↦ let e = other_uses j other in omega (arith, e, consistent.once j)
        ];
        counted = λ j. elim (cases_eq j f) [
          | inl here ↦ let e = ap (uses new h) here in let r = ap (refcount_of new h) here in omega (arith, e, r, one_use, one)
          | inr other ↦ let e = other_uses j other in let r = other_counts j other in omega (arith, e, r, consistent.counted j)
        ];
      } in
      record {
        sound = sound_after old new step.sound stays;
        counts = counts_by_header new h (header_of new) (with_block kept b) stays.header (record {
          shape = record { cluster_bits = step.counts.shape.cluster_bits; refcount_order = step.counts.shape.refcount_order; table_offset = step.counts.shape.table_offset };
          table = ap (λ (table : List ℕ). set table b (place_of_block kept b * cluster_size kept.cluster_bits)) step.counts.table
              ∙ ap (set (refcount_table old h) b) word_is ∙ sym new_table;
          counts = λ j inside. new_counts j (omega (arith, length-set kept.counts (place_of_block kept b) 1));
        });
      }
