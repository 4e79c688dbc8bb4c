-- What the clusters of a sound image hold: each that an entry names holds that entry's bytes and nothing else.
use Rattle.std.proofs.Common.{◌≡◌, ◌≢◌, ℕ, ◌+◌, ◌*◌, ◌/◌, ◌%◌, ◌<◌, ◌≤◌, Bool, true, false, cond, eqb, List, length, get_or, count_by, None, refl, sym, ap, subst, ◌∙◌, arith}
use Rattle.std.proofs.lemmas.Bool.{eqb-false}
use Rattle.q2_format.specs.Entry.{l2_entry, host_offset, is_compressed, has_reserved_in_l2, reads_as_zeros}
use Rattle.q2_format.specs.Header.{header_of}
use Rattle.q2_format.specs.References.{names_cluster, own_offset, uses, tree_uses}
use Rattle.q2_format.specs.Sizes.{entries_in_cluster}
use Rattle.q2_format.specs.Sound.{IsConsistent, is_misplaced, lowest, bad_host, guest_clusters}
use Rattle.q2_format.specs.Tables.{Tree, active_tree, l2_word_of, refcount_of}
use Rattle.q2_format.specs.declared.header.Header.{Header}
use Rattle.q2_format.specs.declared.entries.L2Entry.TheVariants.{Unallocated, Zero, Host, Compressed, Reserved}
use Rattle.q2_format.proofs.Consistent.{FindsNothing, sound_tables, sound_is_consistent}
use Rattle.q2_format.proofs.Firsts.{lowest-none, option_map-none}
use Rattle.q2_refs.proofs.Uses.{IsApart, header_uses, table_run, block_uses, l1_run, table_uses, uses_parts, names_it, count_some, unused_apart}
use Rattle.q2_refs.proofs.Writes.{whole_of}
use Rattle.q2_tables.proofs.Apart.{count_two}
use Rattle.q2_tables.proofs.Uses.{tree_uses_of}
use Rattle.q2_image.specs.Image.{Known, IsImageOf, IsOpen, cluster_size_in}
use Rattle.q2_image.proofs.DataWrites.{HoldsNoTable}

-- An entry's own offset.

by_bits : (o host : ℕ) (a b z n : Bool) → cond a Compressed (cond b Reserved (cond z (Zero o) (cond n Unallocated (Host o)))) ≡ Host host
    → (a ≡ false) × (o ≡ host) × (n ≡ false)
by_bits o host true b z n is = absurd (cc)
by_bits o host false true z n is = absurd (cc)
by_bits o host false false true n is = absurd (cc)
by_bits o host false false false true is = absurd (cc)
by_bits o host false false false false is = (refl, cc, refl)

zero_by_bits : (o host : ℕ) (a b z n : Bool) → cond a Compressed (cond b Reserved (cond z (Zero o) (cond n Unallocated (Host o)))) ≡ Zero host
    → (a ≡ false) × (o ≡ host)
zero_by_bits o host true b z n is = absurd (cc)
zero_by_bits o host false true z n is = absurd (cc)
zero_by_bits o host false false true n is = (refl, cc)
zero_by_bits o host false false false true is = absurd (cc)
zero_by_bits o host false false false false is = absurd (cc)

pub host_entry : (word host : ℕ) → l2_entry word ≡ Host host → (own_offset word ≡ host) × (host ≢ 0)
unfolding l2_entry
host_entry word host is =
    let parts = by_bits (host_offset word) host (is_compressed word) (has_reserved_in_l2 word) (reads_as_zeros word) (eqb (host_offset word) 0) is in
    let plain = parts.0 in
    let some = eqb-false (host_offset word) 0 parts.2 in
    (rw plain parts.1, λ none. some (parts.1 ∙ none))

pub zero_entry : (word host : ℕ) → l2_entry word ≡ Zero host → own_offset word ≡ host
unfolding l2_entry
zero_entry word host is =
    let parts = zero_by_bits (host_offset word) host (is_compressed word) (has_reserved_in_l2 word) (reads_as_zeros word) (eqb (host_offset word) 0) is in
    let plain = parts.0 in
    rw plain parts.1

pub host_placed : (c len : ℕ) (tree : Tree) → bad_host c len tree ≡ None → (cluster : ℕ) → cluster < guest_clusters c tree → is_misplaced c len (own_offset (l2_word_of tree c cluster)) ≡ false
unfolding bad_host
host_placed c len tree none cluster below =
    let nowhere = option_map-none (λ k. own_offset (l2_word_of tree c k)) (lowest (λ k. is_misplaced c len (own_offset (l2_word_of tree c k))) (guest_clusters c tree)) none in
    lowest-none (λ k. is_misplaced c len (own_offset (l2_word_of tree c k))) (guest_clusters c tree) nowhere cluster below

-- a cluster that an entry names: it counts, and holds no table
pub record HoldsBytes (file : List ℕ) (h : Header) (k : ℕ) : Type 0 where
  pub free : HoldsNoTable file k
  pub used : 1 ≤ uses file h k
  pub counted : refcount_of file h k ≢ 0

-- The clusters of a file.

module _ (file : List ℕ) (image : Known) (is : IsImageOf file image) where
  abbrev h : Header
  h = image.header

  abbrev c : ℕ
  c = cluster_size_in image

  -- how often the kept entries name a cluster
  abbrev own_uses : ℕ → ℕ
  own_uses k = count_by (λ word. names_cluster c k (own_offset word)) image.tables.words

  pub consistent : IsConsistent file h (length file)
  consistent = let P : Header → Type 0 = λ x. IsConsistent file x (length file) in subst P is.header (sound_is_consistent file is.sound)

  pub parts_of : (k : ℕ) → uses file h k ≡ header_uses k + table_run h k + block_uses file h k + l1_run h k + (table_uses file h k + own_uses k)
  unfolding tree_uses
  parts_of k =
      let tree = tree_uses_of file c h.l1_offset h.l1_size k image.tables is.tables in
      let l1 = ap (λ (words : List ℕ). count_by (λ word. names_cluster c k (host_offset word)) words) is.tables.l1 in
      omega (arith, uses_parts file h k, tree, l1)

  -- the offset of entry q
  abbrev own : ℕ → ℕ
  own q = own_offset (get_or image.tables.words q 0)

  named : (q k : ℕ) → own q ≢ 0 → own q / c ≡ k → names_cluster c k (own q) ≡ true
  named q k some here = names_it c k (own q) some here

  pub one_own : (q k : ℕ) → q < length image.tables.words → own q ≢ 0 → own q / c ≡ k → 1 ≤ own_uses k
  one_own q k below some here = count_some (λ word. names_cluster c k (own_offset word)) image.tables.words q below (named q k some here)

  -- two entries name two clusters
  pub owners_differ : (q p : ℕ) → q < length image.tables.words → p < length image.tables.words → q ≢ p → own q ≢ 0 → own p ≢ 0 → own q / c ≡ own p / c → ⊥
  owners_differ q p below_q below_p differ some_q some_p same =
      let k : ℕ = own q / c in
      let two = count_two (λ word. names_cluster c k (own_offset word)) image.tables.words q p refl below_q below_p differ (named q k some_q refl) (named p k some_p (sym same)) in
      omega (arith, two, parts_of k, consistent.once k)

  by_header : (k : ℕ) → IsApart file h k × (table_run h k ≡ 0) × (block_uses file h k ≡ 0) → HoldsNoTable file k
  by_header k parts =
      let P : Header → Type 0 = λ x. IsApart file x k × (table_run x k ≡ 0) × (block_uses file x k ≡ 0) in
      let there = subst P (sym is.header) parts in
      record { apart = there.0; table = there.1; blocks = there.2 }

  header_none : (k : ℕ) → header_uses k ≡ 0 → k ≢ 0
  header_none k none e = absurd (let zero_there = rw e at none in omega (arith, zero_there))

  pub holds_bytes : (q k : ℕ) → q < length image.tables.words → own q ≢ 0 → own q / c ≡ k → HoldsBytes file h k
  holds_bytes q k below some here =
      let one = one_own q k below some here in
      let parts = parts_of k in
      let once = consistent.once k in
      let counted = consistent.counted k in
      record {
        free = by_header k (record { header = header_none k (omega (arith, one, parts, once)); l1 = omega (arith, one, parts, once); l2 = omega (arith, one, parts, once) }, omega (arith, one, parts, once), omega (arith, one, parts, once));
        used = omega (arith, one, parts);
        counted = λ none. omega (arith, one, parts, counted, none);
      }

  -- a spare cluster holds no table, and no entry names it
  pub spare_holds : (k : ℕ) → uses file (header_of file) k ≡ 0 → HoldsNoTable file k
  spare_holds k none = let parts = unused_apart file (header_of file) k none in record { apart = parts.0; table = parts.1; blocks = parts.2 }

  pub spare_unnamed : (q k : ℕ) → q < length image.tables.words → uses file (header_of file) k ≡ 0 → own q ≢ 0 → own q / c ≢ k
  spare_unnamed q k below none some here =
      let one = one_own q k below some here in
      let parts = parts_of k in
      let none_there = ap (λ (x : Header). uses file x k) (sym is.header) ∙ none in
      omega (arith, one, parts, none_there)

  -- and lies at a multiple of the cluster size
  pub own_aligned : (q : ℕ) → q < length image.tables.words → own q % c ≡ 0
  own_aligned q below =
      let word = is.tables.words q below in
      let entries = is.tables.entries in
      let l1 = ap length is.tables.l1 in
      let inside : q < guest_clusters c (active_tree file h) = subst (λ (n : ℕ). q < n * entries_in_cluster c) l1 (subst (λ (n : ℕ). q < n) entries below) in
      let F : Header → Type 0 = λ x. FindsNothing file x (length file) in
      let nothing = subst F is.header (sound_tables file is.sound) in
      let placed = host_placed c (length file) (active_tree file h) nothing.hosts q inside in
      let here = rw (← word) at placed in
      whole_of c (length file) (own q) here

-- The same of an entry that maps its guest cluster, in numbers.
pub record IsHeld (file : List ℕ) (image : Known) (q host : ℕ) : Type 0 where
  pub own : own_offset (get_or image.tables.words q 0) ≡ host
  pub some : host ≢ 0
  pub whole : host % 65536 ≡ 0
  pub holds : HoldsBytes file image.header (host / 65536)

pub size_in : (image : Known) → IsOpen image → cluster_size_in image ≡ 65536
size_in image ready = let bits = ready.cluster_bits in rw bits refl

pub held_by : (file : List ℕ) (image : Known) → IsImageOf file image → IsOpen image → (q host : ℕ) → q < length image.tables.words
    → own_offset (get_or image.tables.words q 0) ≡ host → host ≢ 0 → IsHeld file image q host
held_by file image is ready q host below own some =
    let size = size_in image ready in
    let aligned = own_aligned file image is q below in
    record {
      own = own;
      some = some;
      whole = rw (own, size) at aligned;
      holds = holds_bytes file image is q (host / 65536) below (λ none. some (sym own ∙ none)) (ap (λ (n : ℕ). n / cluster_size_in image) own ∙ ap (λ (n : ℕ). host / n) size);
    }
