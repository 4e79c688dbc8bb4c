-- An image of which an entry was written: its refcounts stay, and it is sound where what the kept words name fits.
use Rattle.std.proofs.Common.{◌≡◌, ◌≢◌, ℕ, ◌/◌, ◌<◌, ◌≤◌, Bool, true, false, not, ◌&&◌, List, length, get_or, None, refl, sym, ap, subst, ◌∙◌, arith}
use Rattle.q2_format.specs.Bytes.{ReadsAlike, IsWritten}
use Rattle.q2_format.specs.Entry.{host_offset, is_compressed, has_reserved_in_l1, has_reserved_in_l2}
use Rattle.q2_format.specs.Header.{header_of}
use Rattle.q2_format.specs.References.{own_offset, uses}
use Rattle.q2_format.specs.Sizes.{cluster_size}
use Rattle.q2_format.specs.Sound.{IsSound, is_misplaced, guest_clusters, bad_l2_table, bad_host, reserved_in_l1, reserved_in_l2, compressed_cluster}
use Rattle.q2_format.specs.Tables.{Tree, active_tree, refcount_table, refcount_of, l2_word_of}
use Rattle.q2_format.specs.declared.header.Header.{Header}
use Rattle.q2_format.proofs.Consistent.{FindsNothing, sound_tables, sound_header, sound_from_parts}
use Rattle.q2_format.proofs.Firsts.{none_lowest}
use Rattle.q2_format.proofs.HeaderFrames.{header_refusal_alike, header_longer}
use Rattle.q2_refs.specs.Kept.{IsCountsOf}
use Rattle.q2_refs.proofs.Ranges.{in_block}
use Rattle.q2_refs.proofs.SoundAfter.{table_longer, l1_longer, no_overlap, no_uncounted}
use Rattle.q2_refs.proofs.Steps.{sound_shape, cluster_is, header_kept, block_longer, not_a_block}
use Rattle.q2_refs.proofs.Uses.{table_run, block_uses}
use Rattle.q2_refs.proofs.Writes.{IsWithin, table_stays, header_stays, count_stays}
use Rattle.q2_tables.specs.Kept.{IsTreeOf, is_plain}
use Rattle.q2_tables.specs.Kept as tables
use Rattle.q2_image.specs.Opening.{uses_in}
use Rattle.q2_image.specs.Image.{Known, IsImageOf}
use Rattle.q2_image.proofs.DataWrites.{KeepsTables}
use Rattle.q2_image.proofs.Opened.{same_uses}

-- a cluster that holds no part of the header and of the refcounts
pub record HoldsNoCount (file : List ℕ) (k : ℕ) : Type 0 where
  pub header : k ≢ 0
  pub table : table_run (header_of file) k ≡ 0
  pub blocks : block_uses file (header_of file) k ≡ 0

-- a file with the header and the refcounts of another
pub record KeepsCounts (old new : List ℕ) : Type 0 where
  pub header : header_of new ≡ header_of old
  pub first : ReadsAlike old new 0 65536
  pub table : refcount_table new (header_of old) ≡ refcount_table old (header_of old)
  pub counts : (k : ℕ) → refcount_of new (header_of old) k ≡ refcount_of old (header_of old) k

-- so it is behind a write into such a cluster
module _ (old new : List ℕ) (k at : ℕ) (bytes : List ℕ) (sound : IsSound old) (free : HoldsNoCount old k) (written : IsWritten old new at bytes)
    (within : IsWithin k (cluster_size (header_of old).cluster_bits) at bytes) where
  abbrev h : Header
  h = header_of old

  some : 0 < cluster_size h.cluster_bits
  some = omega (arith, cluster_is h (sound_shape old sound))

  same_table : refcount_table new h ≡ refcount_table old h
  same_table = table_stays old new h (length old) k at bytes some written within (sound_tables old sound) free.table

  same_first : ReadsAlike old new 0 65536
  same_first = let c = cluster_is h (sound_shape old sound) in rw (← c) (header_stays old new h (length old) k at bytes some written within (sound_tables old sound) free.header)

  pub counts_kept_by : KeepsCounts old new
  counts_kept_by = record {
    header = header_kept old new sound same_first;
    first = same_first;
    table = same_table;
    counts = λ cluster.
        count_stays old new h (length old) k at bytes some written within (sound_tables old sound) (sound_shape old sound) cluster
        (ap (λ (table : List ℕ). get_or table (cluster / in_block h) 0) same_table)
        (not_a_block old h k free.header free.blocks (cluster / in_block h));
  }

-- and where all tables stay
pub counts_of_tables : (old new : List ℕ) → KeepsTables old new → KeepsCounts old new
counts_of_tables old new keeps = record { header = keeps.header; first = keeps.first; table = keeps.table; counts = keeps.counts }

pub counts_then : (a m b : List ℕ) → KeepsCounts a m → KeepsCounts m b → KeepsCounts a b
counts_then a m b first next =
    let P : Header → Type 0 = λ h. (refcount_table b h ≡ refcount_table m h) × ((k : ℕ) → refcount_of b h k ≡ refcount_of m h k) in
    let moved = subst P first.header (next.table, next.counts) in
    record {
      header = next.header ∙ first.header;
      first = record { same = λ i low high. next.first.same i low high ∙ first.first.same i low high };
      table = moved.0 ∙ first.table;
      counts = λ k. moved.1 k ∙ first.counts k;
    }

-- What a look at the kept words finds in a tree.

no_bad_table : (c len : ℕ) (tree : Tree) (l1 : List ℕ) → l1 ≡ tree.l1 → ((i : ℕ) → i < length l1 → is_misplaced c len (host_offset (get_or l1 i 0)) ≡ false) → bad_l2_table c len tree ≡ None
unfolding bad_l2_table
no_bad_table c len tree l1 is placed =
    let P : List ℕ → Type 0 = λ xs. (i : ℕ) → i < length xs → is_misplaced c len (host_offset (get_or xs i 0)) ≡ false in
    let nowhere = none_lowest (λ i. is_misplaced c len (host_offset (get_or tree.l1 i 0))) (length tree.l1) (subst P is placed) in
    rw nowhere refl

no_l1_bits : (tree : Tree) (l1 : List ℕ) → l1 ≡ tree.l1 → ((i : ℕ) → i < length l1 → has_reserved_in_l1 (get_or l1 i 0) ≡ false) → reserved_in_l1 tree ≡ None
unfolding reserved_in_l1
no_l1_bits tree l1 is plain =
    let P : List ℕ → Type 0 = λ xs. (i : ℕ) → i < length xs → has_reserved_in_l1 (get_or xs i 0) ≡ false in
    none_lowest (λ i. has_reserved_in_l1 (get_or tree.l1 i 0)) (length tree.l1) (subst P is plain)

plain_parts : (a b : Bool) → (not a && not b) ≡ true → (a ≡ false) × ((not a && b) ≡ false)
plain_parts true b h = absurd (cc)
plain_parts false true h = absurd (cc)
plain_parts false false h = (refl, refl)

module _ (c len : ℕ) (tree : Tree) (kept : tables.KeptTables) (is : IsTreeOf c kept tree) where
  in_words : (q : ℕ) → q < guest_clusters c tree → q < length kept.words
  in_words q below = let entries = is.entries in let l1 = ap length is.l1 in rw (entries, l1) below

  no_bad_host : ((q : ℕ) → q < length kept.words → is_misplaced c len (own_offset (get_or kept.words q 0)) ≡ false) → bad_host c len tree ≡ None
  unfolding bad_host
  no_bad_host placed =
      let nowhere = none_lowest (λ q. is_misplaced c len (own_offset (l2_word_of tree c q))) (guest_clusters c tree)
      (λ q below. ap (λ (w : ℕ). is_misplaced c len (own_offset w)) (sym (is.words q (in_words q below))) ∙ placed q (in_words q below)) in
      rw nowhere refl

  no_l2_bits : ((q : ℕ) → q < length kept.words → is_plain (get_or kept.words q 0) ≡ true) → reserved_in_l2 c tree ≡ None
  unfolding reserved_in_l2
  no_l2_bits plain =
      let nowhere = none_lowest (λ q. not (is_compressed (l2_word_of tree c q)) && has_reserved_in_l2 (l2_word_of tree c q)) (guest_clusters c tree)
      (λ q below. ap (λ (w : ℕ). not (is_compressed w) && has_reserved_in_l2 w) (sym (is.words q (in_words q below)))
      ∙ (plain_parts (is_compressed (get_or kept.words q 0)) (has_reserved_in_l2 (get_or kept.words q 0)) (plain q (in_words q below))).1) in
      rw nowhere refl

  no_compressed : ((q : ℕ) → q < length kept.words → is_plain (get_or kept.words q 0) ≡ true) → compressed_cluster c tree ≡ None
  unfolding compressed_cluster
  no_compressed plain =
      none_lowest (λ q. is_compressed (l2_word_of tree c q)) (guest_clusters c tree)
      (λ q below. ap is_compressed (sym (is.words q (in_words q below)))
      ∙ (plain_parts (is_compressed (get_or kept.words q 0)) (has_reserved_in_l2 (get_or kept.words q 0)) (plain q (in_words q below))).0)

-- What the kept words of a changed tree name.
pub record FitsWith (old new : List ℕ) (h : Header) (kept : tables.KeptTables) : Type 0 where
  pub tables : (i : ℕ) → i < length kept.l1 → is_misplaced (cluster_size h.cluster_bits) (length new) (host_offset (get_or kept.l1 i 0)) ≡ false
  pub hosts : (q : ℕ) → q < length kept.words → is_misplaced (cluster_size h.cluster_bits) (length new) (own_offset (get_or kept.words q 0)) ≡ false
  pub l1_bits : (i : ℕ) → i < length kept.l1 → has_reserved_in_l1 (get_or kept.l1 i 0) ≡ false
  pub plain : (q : ℕ) → q < length kept.words → is_plain (get_or kept.words q 0) ≡ true
  pub once : (k : ℕ) → uses_in h (refcount_table old h) kept.l1 kept.words k ≤ 1
  pub counted : (k : ℕ) → uses_in h (refcount_table old h) kept.l1 kept.words k ≤ refcount_of old h k

module _ (old new : List ℕ) (image : Known) (kept : tables.KeptTables) (is : IsImageOf old image) (keeps : KeepsCounts old new)
    (grows : length old ≤ length new) (small : length new ≤ 549755813888)
    (tree : IsTreeOf (cluster_size image.header.cluster_bits) kept (active_tree new image.header)) (fits : FitsWith old new image.header kept) where
  abbrev x : Header
  x = image.header

  abbrev c : ℕ
  c = cluster_size x.cluster_bits

  table_there : refcount_table new x ≡ refcount_table old x
  table_there = let P : Header → Type 0 = λ y. refcount_table new y ≡ refcount_table old y in subst P is.header keeps.table

  counts_there : (k : ℕ) → refcount_of new x k ≡ refcount_of old x k
  counts_there = let P : Header → Type 0 = λ y. (k : ℕ) → refcount_of new y k ≡ refcount_of old y k in subst P is.header keeps.counts

  refs_there : IsCountsOf new x image.refs
  refs_there = record {
    shape = is.refs.shape;
    table = is.refs.table ∙ sym table_there;
    counts = λ k below. is.refs.counts k below ∙ sym (counts_there k);
  }

  uses_new : (k : ℕ) → uses new x k ≡ uses_in x (refcount_table old x) kept.l1 kept.words k
  uses_new k = same_uses new x image.refs kept k refs_there tree ∙ ap (λ (table : List ℕ). uses_in x table kept.l1 kept.words k) is.refs.table

  nothing : FindsNothing new x (length new)
  nothing =
      let F : Header → Type 0 = λ y. FindsNothing old y (length old) in
      let before = subst F is.header (sound_tables old is.sound) in
      record {
        refcount_table = table_longer x (length old) (length new) grows before.refcount_table;
        l1_table = l1_longer x (length old) (length new) grows before.l1_table;
        blocks = rw table_there (block_longer c (length old) (length new) (refcount_table old x) grows before.blocks);
        l2_tables = no_bad_table c (length new) (active_tree new x) kept.l1 tree.l1 fits.tables;
        hosts = no_bad_host c (length new) (active_tree new x) kept tree fits.hosts;
        l1_bits = no_l1_bits (active_tree new x) kept.l1 tree.l1 fits.l1_bits;
        refcount_table_bits = rw table_there before.refcount_table_bits;
        l2_bits = no_l2_bits c (length new) (active_tree new x) kept tree fits.plain;
        compressed = no_compressed c (length new) (active_tree new x) kept tree fits.plain;
        overlaps = no_overlap new x (length new) (λ k. let e = uses_new k in omega (arith, e, fits.once k));
        counts = no_uncounted new x (length new) (λ k. let e = uses_new k in let n = counts_there k in omega (arith, e, n, fits.counted k));
        room = before.room;
      }

  pub image_changed : IsImageOf new (record image { tables = kept })
  image_changed =
      let F : Header → Type 0 = λ y. FindsNothing new y (length new) in
      let header = header_refusal_alike old new (length new) keeps.first ∙ header_longer old (length old) (length new) grows small (sound_header old is.sound) in
      record {
        sound = sound_from_parts new header (subst F (sym (keeps.header ∙ is.header)) nothing);
        header = keeps.header ∙ is.header;
        tables = tree;
        refs = refs_there;
      }
