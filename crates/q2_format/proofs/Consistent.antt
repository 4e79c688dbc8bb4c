-- A sound image names no cluster twice, and counts each that it names.
use Rattle.std.proofs.Common.{◌≡◌, ℕ, suc, ◌+◌, ◌*◌, ◌/◌, ◌%◌, ◌<◌, ◌≤◌, inl, inr, Bool, false, not, ◌&&◌, ◌||◌, cond, eqb, ltb, List, [], ◌∷◌, length, get_or, count_by, None, refl, ap, arith}
use Rattle.std.specs.Option.{option_map}
use Rattle.std.specs.List.{sum_by}
use Rattle.std.proofs.lemmas.Bool.{ltb-false, ltb-true, ne_eqb, le-ltb, or_parts, and_right, not-false, cases_lt}
use Rattle.std.proofs.lemmas.Bool.Decides.{nat_tests}
use Rattle.std.proofs.lemmas.List.Sums.{sum_by-cons}
use Rattle.std.proofs.lemmas.Grind.{div_ceil_times}
use Rattle.std.proofs.lemmas.Nat.{div_below, mul-add-lt}
use Rattle.std.proofs.Math.Nat.{mul_comm, one-le-pow}
use Rattle.q2_format.specs.Sizes.{cluster_size, clusters_for, entries_in_cluster, l1_entries_for}
use Rattle.q2_format.specs.Entry.{host_offset, block_offset}
use Rattle.q2_format.specs.Header.{first, refused_where, header_of, header_refusal, format_refusal, profile_refusal, name_refusal, extension_refusal, size_refusal}
use Rattle.q2_format.specs.declared.header.HeaderStop.TheVariants.{Short}
use Rattle.q2_format.specs.Tables
use Rattle.q2_format.specs.Tables.{Tree, tree_at, active_tree, l2_table, l2_word_of, refcount_table, refcount_of}
use Rattle.q2_format.specs.References.{names_cluster, in_run, own_offset, structure_uses, tree_uses, uses, cluster_bound}
use Rattle.q2_format.specs.Sound.{InHeader, Offset, Reserved, Compressed, Overlap, Refcount, HeaderFull, is_misplaced, bad_refcount_table, bad_l1_table, bad_block, bad_l2_table, bad_host, guest_clusters, reserved_in_l1, reserved_in_refcount_table, reserved_in_l2, compressed_cluster, overlap, uncounted, is_header_full, table_refusals, image_refusal, IsSound, IsConsistent, lowest}
use Rattle.q2_format.specs.declared.header.Header.{Header}
use Rattle.q2_format.proofs.Trees.{l2_word_of-at, length_l1, length_l2, length_of_l2}
use Rattle.q2_format.proofs.Firsts.{first-none, first-cons-none, option_map-none, refused_where-none, lowest-none}

-- each look at an image that isn't refused behind its header finds nothing
pub record FindsNothing (file : List ℕ) (h : Header) (len : ℕ) : Type 0 where
  pub refcount_table : bad_refcount_table h len ≡ None
  pub l1_table : bad_l1_table h len ≡ None
  pub blocks : bad_block (cluster_size h.cluster_bits) len (Tables.refcount_table file h) ≡ None
  pub l2_tables : bad_l2_table (cluster_size h.cluster_bits) len (active_tree file h) ≡ None
  pub hosts : bad_host (cluster_size h.cluster_bits) len (active_tree file h) ≡ None
  pub l1_bits : reserved_in_l1 (active_tree file h) ≡ None
  pub refcount_table_bits : reserved_in_refcount_table (Tables.refcount_table file h) ≡ None
  pub l2_bits : reserved_in_l2 (cluster_size h.cluster_bits) (active_tree file h) ≡ None
  pub compressed : compressed_cluster (cluster_size h.cluster_bits) (active_tree file h) ≡ None
  pub overlaps : overlap file h len ≡ None
  pub counts : uncounted file h len ≡ None
  pub room : is_header_full h ≡ false

pub finds_nothing : (file : List ℕ) (h : Header) (len : ℕ) → first (table_refusals file h len) ≡ None → FindsNothing file h len
unfolding table_refusals
finds_nothing file h len none =
    let c : ℕ = cluster_size h.cluster_bits in
    let tree : Tree = active_tree file h in
    let each = first-none (table_refusals file h len) none in
    record {
      refcount_table = option_map-none Offset (bad_refcount_table h len) each.0;
      l1_table = option_map-none Offset (bad_l1_table h len) each.1.0;
      blocks = option_map-none Offset (bad_block c len (Tables.refcount_table file h)) each.1.1.0;
      l2_tables = option_map-none Offset (bad_l2_table c len tree) each.1.1.1.0;
      hosts = option_map-none Offset (bad_host c len tree) each.1.1.1.1.0;
      l1_bits = option_map-none (Reserved h.l1_offset) (reserved_in_l1 tree) each.1.1.1.1.1.0;
      refcount_table_bits = option_map-none (Reserved h.ref_offset) (reserved_in_refcount_table (Tables.refcount_table file h)) each.1.1.1.1.1.1.0;
      l2_bits = option_map-none (λ entry. Reserved entry.0 entry.1) (reserved_in_l2 c tree) each.1.1.1.1.1.1.1.0;
      compressed = option_map-none Compressed (compressed_cluster c tree) each.1.1.1.1.1.1.1.1.0;
      overlaps = option_map-none Overlap (overlap file h len) each.1.1.1.1.1.1.1.1.1.0;
      counts = option_map-none Refcount (uncounted file h len) each.1.1.1.1.1.1.1.1.1.1.0;
      room = refused_where-none (is_header_full h) HeaderFull each.1.1.1.1.1.1.1.1.1.1.1.0;
    }

-- and where each look finds nothing, nothing is refused
pub nothing_found : (file : List ℕ) (h : Header) (len : ℕ) → FindsNothing file h len → first (table_refusals file h len) ≡ None
unfolding table_refusals
nothing_found file h len nothing =
    let room = nothing.room in
    rw (nothing.refcount_table, nothing.l1_table, nothing.blocks, nothing.l2_tables, nothing.hosts, nothing.l1_bits, nothing.refcount_table_bits, nothing.l2_bits, nothing.compressed, nothing.overlaps, nothing.counts, room) refl

pub sound_from_parts : (file : List ℕ) → header_refusal file (length file) ≡ None → FindsNothing file (header_of file) (length file) → IsSound file
unfolding image_refusal
sound_from_parts file header nothing =
    let tables = nothing_found file (header_of file) (length file) nothing in
    rw (header, tables) refl

-- an image that isn't refused has a header and tables that aren't
pub sound_header : (file : List ℕ) → IsSound file → header_refusal file (length file) ≡ None
unfolding image_refusal
sound_header file sound =
    let each = first-none (option_map InHeader (header_refusal file (length file)) ∷ first (table_refusals file (header_of file) (length file)) ∷ []) sound in
    option_map-none InHeader (header_refusal file (length file)) each.0

pub sound_tables : (file : List ℕ) → IsSound file → FindsNothing file (header_of file) (length file)
unfolding image_refusal
sound_tables file sound =
    let each = first-none (option_map InHeader (header_refusal file (length file)) ∷ first (table_refusals file (header_of file) (length file)) ∷ []) sound in
    finds_nothing file (header_of file) (length file) each.1.0

-- Sums of nothing.

pub count_none : (p : ℕ → Bool) (words : List ℕ) → ((i : ℕ) → i < length words → p (get_or words i 0) ≡ false) → count_by p words ≡ 0
count_none p [] h = refl
count_none p (word ∷ words) h =
    let here : p word ≡ false = h 0 (omega arith) in
    let rest = count_none p words (λ i below. h (suc i) (omega arith)) in
    let split = sum_by-cons (λ w. cond (p w) 1 0) word words in
    let term : ◌≡◌ {A = ℕ} (cond (p word) 1 0) 0 = ap (λ (b : Bool). cond b 1 0) here in
    omega (arith, split, term, rest)

pub sum_none : (f : List ℕ → ℕ) (tables : List (List ℕ)) → ((i : ℕ) → i < length tables → f (get_or tables i []) ≡ 0) → sum_by f tables ≡ 0
sum_none f [] h = refl
sum_none f (table ∷ tables) h =
    let here : f table ≡ 0 = h 0 (omega arith) in
    let rest = sum_none f tables (λ i below. h (suc i) (omega arith)) in
    let split = sum_by-cons f table tables in
    omega (arith, split, here, rest)

-- Clusters behind the last that can be named.

-- an offset that is in its place lies in one of the file's clusters
pub placed_below : (c len offset : ℕ) → 0 < c → is_misplaced c len offset ≡ false → offset / c < clusters_for c len
placed_below c len offset some placed =
    let parts = or_parts (not (eqb (offset % c) 0)) (not (ltb offset len)) placed in
    let inside : offset < len = ltb-true offset len (not-false (ltb offset len) parts.1) in
    let reach = div_ceil_times len c some in
    div_below offset c (clusters_for c len) some (omega (arith, reach.0))

-- so it names no cluster behind them
unnamed : (c len cluster offset : ℕ) → 0 < c → is_misplaced c len offset ≡ false → clusters_for c len ≤ cluster → names_cluster c cluster offset ≡ false
unnamed c len cluster offset some placed behind =
    let below = placed_below c len offset some placed in
    and_right (not (eqb offset 0)) (eqb (offset / c) cluster) (ne_eqb (offset / c) cluster (λ e. omega (arith, below)))

-- a run that ends in front of a cluster doesn't have it
outside_run : (c cluster offset count : ℕ) → offset / c + count ≤ cluster → in_run c cluster offset count ≡ 0
outside_run c cluster offset count behind = let past = le-ltb cluster (offset / c + count) behind in
    let neither = and_right (not (ltb cluster (offset / c))) (ltb cluster (offset / c + count)) past in
    ap (λ (b : Bool). cond b 1 0) neither

-- Offsets that nothing was found of are in their places.

placed_refcount_table : (file : List ℕ) (h : Header) (len : ℕ) → FindsNothing file h len → is_misplaced (cluster_size h.cluster_bits) len h.ref_offset ≡ false
unfolding bad_refcount_table
placed_refcount_table file h len nothing =
    let test = refused_where-none (eqb h.ref_clusters 0 || is_misplaced (cluster_size h.cluster_bits) len h.ref_offset) h.ref_offset nothing.refcount_table in
    (or_parts (eqb h.ref_clusters 0) (is_misplaced (cluster_size h.cluster_bits) len h.ref_offset) test).1

placed_l1_table : (file : List ℕ) (h : Header) (len : ℕ) → FindsNothing file h len → is_misplaced (cluster_size h.cluster_bits) len h.l1_offset ≡ false
unfolding bad_l1_table
placed_l1_table file h len nothing =
    let c : ℕ = cluster_size h.cluster_bits in
    let test = refused_where-none (ltb h.l1_size (l1_entries_for c h.size) || is_misplaced c len h.l1_offset) h.l1_offset nothing.l1_table in
    (or_parts (ltb h.l1_size (l1_entries_for c h.size)) (is_misplaced c len h.l1_offset) test).1

pub placed_block : (c len : ℕ) (table : List ℕ) → bad_block c len table ≡ None → (i : ℕ) → i < length table → is_misplaced c len (block_offset (get_or table i 0)) ≡ false
unfolding bad_block
placed_block c len table none i h =
    let lowest_none = option_map-none (λ k. block_offset (get_or table k 0)) (lowest (λ k. is_misplaced c len (block_offset (get_or table k 0))) (length table)) none in
    lowest-none (λ k. is_misplaced c len (block_offset (get_or table k 0))) (length table) lowest_none i h

pub placed_l2_table : (c len : ℕ) (tree : Tree) → bad_l2_table c len tree ≡ None → (i : ℕ) → i < length tree.l1 → is_misplaced c len (host_offset (get_or tree.l1 i 0)) ≡ false
unfolding bad_l2_table
placed_l2_table c len tree none i h =
    let lowest_none = option_map-none (λ k. host_offset (get_or tree.l1 k 0)) (lowest (λ k. is_misplaced c len (host_offset (get_or tree.l1 k 0))) (length tree.l1)) none in
    lowest-none (λ k. is_misplaced c len (host_offset (get_or tree.l1 k 0))) (length tree.l1) lowest_none i h

placed_host : (c len : ℕ) (tree : Tree) → bad_host c len tree ≡ None → (cluster : ℕ) → cluster < guest_clusters c tree → is_misplaced c len (own_offset (l2_word_of tree c cluster)) ≡ false
unfolding bad_host
placed_host c len tree none cluster h =
    let lowest_none = option_map-none (λ k. own_offset (l2_word_of tree c k)) (lowest (λ k. is_misplaced c len (own_offset (l2_word_of tree c k))) (guest_clusters c tree)) none in
    lowest-none (λ k. is_misplaced c len (own_offset (l2_word_of tree c k))) (guest_clusters c tree) lowest_none cluster h

-- Nothing names a cluster behind the bound.

module _ (file : List ℕ) (h : Header) (len : ℕ) (some : 0 < cluster_size h.cluster_bits) (long : 0 < len) (nothing : FindsNothing file h len)
    (cluster : ℕ) (behind : cluster_bound h len ≤ cluster) where
  no_structure : structure_uses h (Tables.refcount_table file h) cluster ≡ 0
  unfolding structure_uses
  no_structure =
      let c : ℕ = cluster_size h.cluster_bits in
      let table_place = placed_below c len h.ref_offset some (placed_refcount_table file h len nothing) in
      let l1_place = placed_below c len h.l1_offset some (placed_l1_table file h len nothing) in
      let table = outside_run c cluster h.ref_offset h.ref_clusters (omega arith) in
      let l1 = outside_run c cluster h.l1_offset (clusters_for c (8 * h.l1_size)) (omega arith) in
      let blocks = count_none (λ word. names_cluster c cluster (block_offset word)) (Tables.refcount_table file h)
      (λ i below. unnamed c len cluster (block_offset (get_or (Tables.refcount_table file h) i 0)) some
      (placed_block c len (Tables.refcount_table file h) nothing.blocks i below) (omega arith)) in
      let header : ◌≡◌ {A = ℕ} (cond (eqb cluster 0) 1 0) 0 = ap (λ (b : Bool). cond b 1 0) (ne_eqb cluster 0 (λ e. omega arith)) in
      omega (arith, header, table, blocks, l1)

  no_host : (i : ℕ) → i < length (active_tree file h).l2 → (j : ℕ) → j < length (get_or (active_tree file h).l2 i [])
      → names_cluster (cluster_size h.cluster_bits) cluster (own_offset (get_or (get_or (active_tree file h).l2 i []) j 0)) ≡ false
  no_host i in_tree j in_table =
      let c : ℕ = cluster_size h.cluster_bits in
      let tree : Tree = active_tree file h in
      let i_below : i < h.l1_size = omega (arith, length_l2 file c h.l1_offset h.l1_size) in
      let j_below : j < entries_in_cluster c = omega (arith, length_of_l2 file c h.l1_offset h.l1_size i i_below) in
      let word = l2_word_of-at tree c i j j_below in
      let in_l1 : i < length tree.l1 = omega (arith, i_below, length_l1 file c h.l1_offset h.l1_size) in
      let in_row = mul-add-lt i (entries_in_cluster c) j (length tree.l1) in_l1 j_below in
      let place : i * entries_in_cluster c + j < guest_clusters c tree = rw (mul_comm (length tree.l1) (entries_in_cluster c)) in_row in
      let placed = placed_host c len tree nothing.hosts (i * entries_in_cluster c + j) place in
      let here = rw word at placed in
      unnamed c len cluster (own_offset (get_or (get_or tree.l2 i []) j 0)) some here (omega arith)

  no_tree : tree_uses (cluster_size h.cluster_bits) (active_tree file h) cluster ≡ 0
  unfolding tree_uses
  no_tree =
      let c : ℕ = cluster_size h.cluster_bits in
      let tree : Tree = active_tree file h in
      let tables = count_none (λ word. names_cluster c cluster (host_offset word)) tree.l1
      (λ i below. unnamed c len cluster (host_offset (get_or tree.l1 i 0)) some (placed_l2_table c len tree nothing.l2_tables i below) (omega arith)) in
      let hosts = sum_none (λ table. count_by (λ word. names_cluster c cluster (own_offset word)) table) tree.l2
      (λ i in_tree. count_none (λ word. names_cluster c cluster (own_offset word)) (get_or tree.l2 i []) (λ j in_table. no_host i in_tree j in_table)) in
      omega (arith, tables, hosts)

  no_uses : uses file h cluster ≡ 0
  unfolding uses
  no_uses = omega (arith, no_structure, no_tree)

-- Uses and refcounts.

at_most_once : (n : ℕ) → ltb 1 n ≡ false → n ≤ 1
at_most_once n h = ltb-false 1 n h

covered : (n count : ℕ) → n ≤ 1 → (not (eqb n 0) && eqb count 0) ≡ false → n ≤ count
covered n count h test = grind (arith, nat_tests)

no_overlap : (file : List ℕ) (h : Header) (len cluster : ℕ) → overlap file h len ≡ None → cluster < cluster_bound h len → uses file h cluster ≤ 1
unfolding overlap
no_overlap file h len cluster none below = at_most_once (uses file h cluster) (lowest-none (λ k. ltb 1 (uses file h k)) (cluster_bound h len) none cluster below)

no_uncounted : (file : List ℕ) (h : Header) (len cluster : ℕ) → uncounted file h len ≡ None → cluster < cluster_bound h len
    → (not (eqb (uses file h cluster) 0) && eqb (refcount_of file h cluster) 0) ≡ false
unfolding uncounted
no_uncounted file h len cluster none below = lowest-none (λ k. not (eqb (uses file h k) 0) && eqb (refcount_of file h k) 0) (cluster_bound h len) none cluster below

consistent_parts : (file : List ℕ) (h : Header) (len : ℕ) → 0 < cluster_size h.cluster_bits → 0 < len → FindsNothing file h len → IsConsistent file h len
consistent_parts file h len some long nothing =
    let once : (cluster : ℕ) → uses file h cluster ≤ 1 = λ cluster. elim (cases_lt cluster (cluster_bound h len)) [
      | inl below ↦ no_overlap file h len cluster nothing.overlaps below
      | inr behind ↦ omega (arith, no_uses file h len some long nothing cluster behind)
    ] in
    record {
      within = λ cluster behind. no_uses file h len some long nothing cluster behind;
      once = once;
      counted = λ cluster. elim (cases_lt cluster (cluster_bound h len)) [
        | inl below ↦ covered (uses file h cluster) (refcount_of file h cluster) (once cluster) (no_uncounted file h len cluster nothing.counts below)
        | inr behind ↦ omega (arith, no_uses file h len some long nothing cluster behind)
      ];
    }

-- a header that isn't refused is in a file of 104 bytes or more
header_there : (file : List ℕ) (len : ℕ) → header_refusal file len ≡ None → 104 ≤ len
unfolding header_refusal
header_there file len none =
    let each = first-cons-none (refused_where (ltb len 104) Short) (format_refusal file len ∷ profile_refusal file ∷ name_refusal file ∷ extension_refusal file ∷ size_refusal file len ∷ []) none in
    ltb-false len 104 (refused_where-none (ltb len 104) Short each.0)

pub sound_is_consistent : (file : List ℕ) → IsSound file → IsConsistent file (header_of file) (length file)
sound_is_consistent file sound =
    let long = header_there file (length file) (sound_header file sound) in
    let some : 0 < cluster_size (header_of file).cluster_bits = let p = one-le-pow (header_of file).cluster_bits 2 (omega arith) in omega (arith, p) in
    consistent_parts file (header_of file) (length file) some (omega arith) (sound_tables file sound)
