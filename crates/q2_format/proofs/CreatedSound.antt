-- A created image is sound.
use Rattle.std.proofs.Common.{◌≡◌, ℕ, suc, ◌+◌, ◌*◌, ◌/◌, ◌%◌, ◌<◌, ◌≤◌, ◌⊎◌, inl, inr, Bool, true, false, not, ◌&&◌, cond, eqb, ltb, List, [], ◌∷◌, length, get_or, slice_index, count_by, Option, None, Some, refl, sym, ap, ◌∙◌, subst, arith}
use Rattle.std.specs.Option.{option_map, is_some, ForSome}
use Rattle.std.proofs.lemmas.Bool.{and_right, cases_lt, cases_eq, ne_eqb, lt-ltb, le-ltb}
use Rattle.std.proofs.lemmas.Bool.Decides.{nat_tests}
use Rattle.std.proofs.lemmas.List.{get_or_past}
use Rattle.std.proofs.lemmas.List.Sums.{sum_by-cons}
use Rattle.q2_format.specs.Bytes.{words_at}
use Rattle.q2_format.specs.Sizes.{clusters_for, l1_entries_for}
use Rattle.q2_format.specs.Entry.{host_offset, block_offset, is_compressed, has_reserved_in_l1, has_reserved_in_l2, has_reserved_in_refcount_table}
use Rattle.q2_format.specs.Tables.{refcount_table, Tree, tree_at, active_tree, l2_word_of, refcount_of}
use Rattle.q2_format.specs.References.{names_cluster, in_run, own_offset, structure_uses, tree_uses, uses, cluster_bound}
use Rattle.q2_format.specs.Renamed.{next_extension}
use Rattle.q2_format.specs.Sound.{is_misplaced, bad_refcount_table, bad_l1_table, bad_block, bad_l2_table, bad_host, guest_clusters, reserved_in_l1, reserved_in_refcount_table, reserved_in_l2, compressed_cluster, overlap, uncounted, is_header_full, IsSound}
use Rattle.q2_format.specs.Created.{CanBeCreated, creation_of, created_header, created_l1_size, created_clusters, AreZeros, IsCreated, IsNewFormat}
use Rattle.q2_format.specs.declared.header.Header.{Header}
use Rattle.q2_format.proofs.ByPlace.{get_or-words_at, length-words_at}
use Rattle.q2_format.proofs.Creating.{one_table_cluster, l1_table_behind}
use Rattle.q2_format.proofs.Consistent.{FindsNothing, count_none, sum_none, sound_from_parts}
use Rattle.q2_format.proofs.Firsts.{none_lowest}
use Rattle.q2_format.proofs.ReadBack.{header_read, created_header_accepted}
use Rattle.q2_format.proofs.Unmapped.{zero_word, no_table, l2_word_of-unmapped}

-- a count in which only the first of a list can stand
count_first : (p : ℕ → Bool) (words : List ℕ) → ((i : ℕ) → 0 < i → p (get_or words i 0) ≡ false) → count_by p words ≤ cond (p (get_or words 0 0)) 1 0
count_first p [] h = omega arith
count_first p (word ∷ words) h =
    let rest = count_none p words (λ i below. h (suc i) (omega arith)) in
    let split = sum_by-cons (λ w. cond (p w) 1 0) word words in
    omega (arith, split, rest)

-- nothing is wrong with an offset of 0
zero_placed : (len : ℕ) → 0 < len → is_misplaced 65536 len 0 ≡ false
zero_placed len h = let inside = lt-ltb 0 len h in rw inside refl

-- a run of at most one cluster has that cluster alone
run_cases : (c cluster offset count place : ℕ) → offset / c ≡ place → count ≤ 1 → (in_run c cluster offset count ≡ 0) ⊎ ((in_run c cluster offset count ≡ 1) × (cluster ≡ place))
run_cases c cluster offset count place is few = grind (arith, nat_tests)

count_cases : (n a b : ℕ) → n ≤ cond (eqb a b) 1 0 → (n ≡ 0) ⊎ ((n ≡ 1) × (a ≡ b))
count_cases n a b h = grind (arith, nat_tests)

header_cases : (cluster : ℕ) → (◌≡◌ {A = ℕ} (cond (eqb cluster 0) 1 0) 0) ⊎ ((◌≡◌ {A = ℕ} (cond (eqb cluster 0) 1 0) 1) × (cluster ≡ 0))
header_cases cluster = grind (arith, nat_tests)

-- one of four, each at a cluster of its own
one_of_four : (a b c d cluster : ℕ) → (a ≡ 0) ⊎ ((a ≡ 1) × (cluster ≡ 0)) → (b ≡ 0) ⊎ ((b ≡ 1) × (cluster ≡ 1)) → (c ≡ 0) ⊎ ((c ≡ 1) × (2 ≡ cluster))
    → (d ≡ 0) ⊎ ((d ≡ 1) × (cluster ≡ 3)) → (a + b + c + d ≤ 1) × (a + b + c + d ≡ 0 ⊎ cluster < 4)
one_of_four a b c d cluster p q r s = (grind arith, grind arith)

-- a list with an ending extension has room
with_ending : (x y : Bool) → ((x && false) && y) ≡ false
with_ending true y = refl
with_ending false y = refl

module _ (file : List ℕ) (size : ℕ) (name format : Option (List ℕ)) (can : CanBeCreated size name format) (created : IsCreated (creation_of size name format) file) where
  abbrev made : Header
  made = created_header (creation_of size name format)

  few_l1_entries : created_l1_size (creation_of size name format) ≤ 512
  few_l1_entries = let small = can.small in omega arith

  four_clusters : 262144 ≤ length file
  four_clusters =
      let one = one_table_cluster size name format can.small in
      let few = few_l1_entries in
      let len = created.tables.whole in
      omega (arith, one, few, len)

  l1_zeros : AreZeros file made.l1_offset (made.l1_offset + 8 * made.l1_size)
  l1_zeros i low high =
      let one = one_table_cluster size name format can.small in
      let few = few_l1_entries in
      created.tables.l1_table i low (omega (arith, one, few))

  -- the refcount table: one block, at 131072

  one_table : made.ref_clusters ≡ 1
  one_table = one_table_cluster size name format can.small

  table_length : length (refcount_table file made) ≡ 8192
  unfolding refcount_table
  table_length = let one = one_table in omega (arith, length-words_at file 65536 (made.ref_clusters * 8192), one)

  table_word : (k : ℕ) → slice_index (refcount_table file made) k ≡ cond (eqb k 0) 131072 0
  unfolding refcount_table
  table_word k =
      let one = one_table in
      elim (cases_lt k 8192) [
        | inl inside ↦
            let word = created.tables.refcount_table.entry k (omega (arith, one)) in
            let block : (1 + made.ref_clusters) * 65536 ≡ 131072 = omega (arith, one) in
            get_or-words_at file 65536 (made.ref_clusters * 8192) k (omega (arith, one)) ∙ word ∙ ap (λ (offset : ℕ). cond (eqb k 0) offset 0) block
        | inr past ↦
            let none = ne_eqb k 0 (λ e. omega arith) in
            get_or_past (words_at file 65536 (made.ref_clusters * 8192)) k 0 (omega (arith, one, length-words_at file 65536 (made.ref_clusters * 8192)))
            ∙ ap (λ (b : Bool). cond b 131072 0) (sym none)
      ]

  first_block : block_offset (slice_index (refcount_table file made) 0) ≡ 131072
  first_block = let word = table_word 0 in rw word refl

  other_block : (k : ℕ) → 0 < k → block_offset (slice_index (refcount_table file made) k) ≡ 0
  other_block k some = let none = ne_eqb k 0 (λ e. omega arith) in let word = table_word k in rw (word, none) refl

  -- the tree: no L2 table

  abbrev tree : Tree
  tree = active_tree file made

  l1_word : (k : ℕ) → slice_index tree.l1 k ≡ 0
  unfolding tree_at
  l1_word k = zero_word file made.l1_offset made.l1_size k l1_zeros

  l2_word : (cluster : ℕ) → l2_word_of tree 65536 cluster ≡ 0
  l2_word cluster = l2_word_of-unmapped file 65536 made.l1_offset made.l1_size cluster l1_zeros

  no_l2_table : (i : ℕ) → get_or tree.l2 i [] ≡ []
  unfolding tree_at
  no_l2_table i = no_table file 65536 made.l1_offset made.l1_size i l1_zeros

  -- no look finds anything

  len_some : 0 < length file
  len_some = omega (arith, four_clusters)

  good_refcount_table : bad_refcount_table made (length file) ≡ None
  unfolding bad_refcount_table
  good_refcount_table =
      let one = one_table in
      let inside = lt-ltb 65536 (length file) (omega (arith, four_clusters)) in
      rw (one, inside) refl

  good_l1_table : bad_l1_table made (length file) ≡ None
  unfolding bad_l1_table
  good_l1_table =
      let place = l1_table_behind size name format can.small in
      let enough = le-ltb (created_l1_size (creation_of size name format)) (l1_entries_for 65536 size) (omega arith) in
      let inside = lt-ltb 196608 (length file) (omega (arith, four_clusters)) in
      rw (enough, place, inside) refl

  block_placed : (i : ℕ) → is_misplaced 65536 (length file) (block_offset (slice_index (refcount_table file made) i)) ≡ false
  block_placed i = elim (cases_eq i 0) [
    | inl here ↦
        let word : block_offset (slice_index (refcount_table file made) i) ≡ 131072 = ap (λ (k : ℕ). block_offset (slice_index (refcount_table file made) k)) here ∙ first_block in
        let inside = lt-ltb 131072 (length file) (omega (arith, four_clusters)) in
        rw (word, inside) refl
    | inr other ↦ let word = other_block i (omega arith) in rw word (zero_placed (length file) len_some)
  ]

  good_blocks : bad_block 65536 (length file) (refcount_table file made) ≡ None
  unfolding bad_block
  good_blocks =
      let none = none_lowest (λ i. is_misplaced 65536 (length file) (block_offset (slice_index (refcount_table file made) i))) (length (refcount_table file made)) (λ i _. block_placed i) in
      ap (option_map (λ i. block_offset (slice_index (refcount_table file made) i))) none

  good_l2_tables : bad_l2_table 65536 (length file) tree ≡ None
  unfolding bad_l2_table
  good_l2_tables =
      let none = none_lowest (λ i. is_misplaced 65536 (length file) (host_offset (slice_index tree.l1 i))) (length tree.l1)
      (λ i _. let word = l1_word i in ap (λ (w : ℕ). is_misplaced 65536 (length file) (host_offset w)) word ∙ zero_placed (length file) len_some) in
      ap (option_map (λ i. host_offset (slice_index tree.l1 i))) none

  good_hosts : bad_host 65536 (length file) tree ≡ None
  unfolding bad_host
  good_hosts =
      let none = none_lowest (λ cluster. is_misplaced 65536 (length file) (own_offset (l2_word_of tree 65536 cluster))) (guest_clusters 65536 tree)
      (λ cluster _. ap (λ (w : ℕ). is_misplaced 65536 (length file) (own_offset w)) (l2_word cluster) ∙ zero_placed (length file) len_some) in
      ap (option_map (λ cluster. own_offset (l2_word_of tree 65536 cluster))) none

  good_l1_bits : reserved_in_l1 tree ≡ None
  unfolding reserved_in_l1
  good_l1_bits = none_lowest (λ i. has_reserved_in_l1 (slice_index tree.l1 i)) (length tree.l1) (λ i _. ap has_reserved_in_l1 (l1_word i))

  good_table_bits : reserved_in_refcount_table (refcount_table file made) ≡ None
  unfolding reserved_in_refcount_table
  good_table_bits = none_lowest (λ i. has_reserved_in_refcount_table (slice_index (refcount_table file made) i)) (length (refcount_table file made))
      (λ i _. ap has_reserved_in_refcount_table (table_word i) ∙ aligned (eqb i 0))
    where
      aligned : (b : Bool) → has_reserved_in_refcount_table (cond b 131072 0) ≡ false
      aligned true = refl
      aligned false = refl

  good_l2_bits : reserved_in_l2 65536 tree ≡ None
  unfolding reserved_in_l2
  good_l2_bits =
      let none = none_lowest (λ cluster. not (is_compressed (l2_word_of tree 65536 cluster)) && has_reserved_in_l2 (l2_word_of tree 65536 cluster)) (guest_clusters 65536 tree)
      (λ cluster _. ap (λ (w : ℕ). not (is_compressed w) && has_reserved_in_l2 w) (l2_word cluster)) in
      ap (option_map (λ cluster. (host_offset (slice_index tree.l1 (cluster / 8192)), cluster % 8192))) none

  good_compressed : compressed_cluster 65536 tree ≡ None
  unfolding compressed_cluster
  good_compressed = none_lowest (λ cluster. is_compressed (l2_word_of tree 65536 cluster)) (guest_clusters 65536 tree) (λ cluster _. ap is_compressed (l2_word cluster))

  -- each of its four clusters is named once and counted once

  tree_names_nothing : (cluster : ℕ) → tree_uses 65536 tree cluster ≡ 0
  unfolding tree_uses
  tree_names_nothing cluster =
      let tables = count_none (λ word. names_cluster 65536 cluster (host_offset word)) tree.l1 (λ i _. ap (λ (w : ℕ). names_cluster 65536 cluster (host_offset w)) (l1_word i)) in
      let hosts = sum_none (λ table. count_by (λ word. names_cluster 65536 cluster (own_offset word)) table) tree.l2
      (λ i _. ap (λ (table : List ℕ). count_by (λ word. names_cluster 65536 cluster (own_offset word)) table) (no_l2_table i)) in
      omega (arith, tables, hosts)

  blocks_named : (cluster : ℕ) → count_by (λ word. names_cluster 65536 cluster (block_offset word)) (refcount_table file made) ≤ cond (eqb 2 cluster) 1 0
  blocks_named cluster =
      let bound = count_first (λ word. names_cluster 65536 cluster (block_offset word)) (refcount_table file made)
      (λ i some. ap (λ (offset : ℕ). names_cluster 65536 cluster offset) (other_block i some)) in
      rw first_block at bound

  named : (cluster : ℕ) → (uses file made cluster ≤ 1) × (uses file made cluster ≡ 0 ⊎ cluster < 4)
  unfolding uses structure_uses
  named cluster =
      let one = one_table in
      let place = l1_table_behind size name format can.small in
      let few = few_l1_entries in
      let none = tree_names_nothing cluster in
      let third : made.l1_offset / 65536 ≡ 3 = rw place refl in
      let table_run = run_cases 65536 cluster 65536 made.ref_clusters 1 refl (omega (arith, one)) in
      let l1_run = run_cases 65536 cluster made.l1_offset (clusters_for 65536 (8 * made.l1_size)) 3 third (omega (arith, few)) in
      let blocks = count_cases (count_by (λ word. names_cluster 65536 cluster (block_offset word)) (refcount_table file made)) 2 cluster (blocks_named cluster) in
      let four = one_of_four (cond (eqb cluster 0) 1 0) (in_run 65536 cluster 65536 made.ref_clusters)
      (count_by (λ word. names_cluster 65536 cluster (block_offset word)) (refcount_table file made))
      (in_run 65536 cluster made.l1_offset (clusters_for 65536 (8 * made.l1_size))) cluster (header_cases cluster) table_run blocks l1_run in
      (omega (arith, four.0, none), elim four.1 [ inl nothing ↦ inl (omega (arith, nothing, none)) | inr below ↦ inr below ])

  counted : (cluster : ℕ) → cluster < 4 → refcount_of file made cluster ≡ 1
  unfolding refcount_of
  counted cluster below =
      let zeroth : cluster / 32768 ≡ 0 = omega arith in
      let rest : cluster % 32768 ≡ cluster = omega arith in
      let block = first_block in
      let one = one_table in
      let few = few_l1_entries in
      let inside : cluster < created_clusters (creation_of size name format) = omega (arith, one) in
      let entry = created.tables.refcounts.count cluster (omega arith) in
      let test = lt-ltb cluster (created_clusters (creation_of size name format)) inside in
      let at : (1 + made.ref_clusters) * 65536 ≡ 131072 = omega (arith, one) in
      let count = rw (at, test) at entry in
      rw (zeroth, rest, block) count

  within_bound : (cluster : ℕ) → (not (eqb (uses file made cluster) 0) && eqb (refcount_of file made cluster) 0) ≡ false
  within_bound cluster = elim (named cluster).1 [
    | inl nothing ↦ rw nothing refl
    | inr below ↦ let one = counted cluster below in rw one (and_right (not (eqb (uses file made cluster) 0)) false refl)
  ]

  good_overlap : overlap file made (length file) ≡ None
  unfolding overlap
  good_overlap = none_lowest (λ k. ltb 1 (uses file made k)) (cluster_bound made (length file)) (λ k _. le-ltb 1 (uses file made k) (named k).0)

  good_counts : uncounted file made (length file) ≡ None
  unfolding uncounted
  good_counts = none_lowest (λ k. not (eqb (uses file made k) 0) && eqb (refcount_of file made k) 0) (cluster_bound made (length file)) (λ k _. within_bound k)

  good_room : is_header_full made ≡ false
  good_room = room_for format can.format_fits
    where
      room_for : (format : Option (List ℕ)) → ForSome format IsNewFormat → is_header_full (created_header (creation_of size name format)) ≡ false
      room_for None fits = with_ending (is_some (created_header (creation_of size name None)).name) false
      room_for (Some text) fits =
          let near = le-ltb 32768 (120 + (length text + 7) / 8 * 8 + 8) (omega (arith, fits text refl)) in
          rw near (with_ending (is_some (created_header (creation_of size name (Some text))).name) (ltb 504 (next_extension (created_header (creation_of size name (Some text))))))

  made_finds_nothing : FindsNothing file made (length file)
  made_finds_nothing = record {
    refcount_table = good_refcount_table;
    l1_table = good_l1_table;
    blocks = good_blocks;
    l2_tables = good_l2_tables;
    hosts = good_hosts;
    l1_bits = good_l1_bits;
    refcount_table_bits = good_table_bits;
    l2_bits = good_l2_bits;
    compressed = good_compressed;
    overlaps = good_overlap;
    counts = good_counts;
    room = good_room;
  }

  pub created_is_sound : clusters_for 65536 (length file) ≤ 8388608 → IsSound file
  created_is_sound short =
      let accepted = created_header_accepted file size (length file) name format created.header can.name_fits can.name_is_text can.format_fits can.small (omega (arith, four_clusters)) (omega (arith, short)) in
      let read = header_read file size name format created.header can.name_fits can.format_fits in
      sound_from_parts file accepted (subst (λ (h : Header). FindsNothing file h (length file)) (sym read) made_finds_nothing)
