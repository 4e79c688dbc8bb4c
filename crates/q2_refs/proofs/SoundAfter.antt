-- A sound file whose header and tree stay, and whose references and refcounts still fit, is sound.
use Rattle.std.proofs.Common.{◌≡◌, ℕ, ◌≤◌, false, not, ◌&&◌, eqb, ltb, List, length, get_or, None, refl, sym, subst, ◌∙◌, arith}
use Rattle.std.proofs.lemmas.Bool.{or_from, le-ltb}
use Rattle.std.proofs.lemmas.Bool.Decides.{nat_tests}
use Rattle.q2_format.specs.Bytes.{ReadsAlike}
use Rattle.q2_format.specs.Entry.{host_offset}
use Rattle.q2_format.specs.Header.{header_of}
use Rattle.q2_format.specs.References.{own_offset, uses, cluster_bound}
use Rattle.q2_format.specs.Sizes.{cluster_size, l1_entries_for}
use Rattle.q2_format.specs.Sound.{is_misplaced, lowest, guest_clusters, bad_refcount_table, bad_l1_table, bad_block, bad_l2_table, bad_host, reserved_in_refcount_table, overlap, uncounted, IsSound}
use Rattle.q2_format.specs.Tables.{Tree, active_tree, refcount_table, refcount_of, l2_word_of}
use Rattle.q2_format.specs.declared.header.Header.{Header}
use Rattle.q2_format.proofs.Consistent.{FindsNothing, sound_from_parts, sound_header, sound_tables}
use Rattle.q2_format.proofs.Firsts.{lowest-none, none_lowest, option_map-none}
use Rattle.q2_format.proofs.Frames.{placed_longer}
use Rattle.q2_format.proofs.HeaderFrames.{header_refusal_alike, header_longer}
use Rattle.q2_refs.proofs.Writes.{table_placed, l1_placed}

none_misplaced : (c len longer : ℕ) (f : ℕ → ℕ) (n : ℕ) → len ≤ longer → lowest (λ i. is_misplaced c len (f i)) n ≡ None → lowest (λ i. is_misplaced c longer (f i)) n ≡ None
none_misplaced c len longer f n grows none =
    none_lowest (λ i. is_misplaced c longer (f i)) n (λ k below. placed_longer c len longer (f k) grows (lowest-none (λ i. is_misplaced c len (f i)) n none k below))

pub table_longer : (h : Header) (len longer : ℕ) → len ≤ longer → bad_refcount_table h len ≡ None → bad_refcount_table h longer ≡ None
unfolding bad_refcount_table
table_longer h len longer grows none =
    let c : ℕ = cluster_size h.cluster_bits in
    let parts = table_placed h len none in
    let test = or_from (eqb h.ref_clusters 0) (is_misplaced c longer h.ref_offset) parts.0 (placed_longer c len longer h.ref_offset grows parts.1) in
    rw test refl

pub l1_longer : (h : Header) (len longer : ℕ) → len ≤ longer → bad_l1_table h len ≡ None → bad_l1_table h longer ≡ None
unfolding bad_l1_table
l1_longer h len longer grows none =
    let c : ℕ = cluster_size h.cluster_bits in
    let parts = l1_placed h len none in
    let test = or_from (ltb h.l1_size (l1_entries_for c h.size)) (is_misplaced c longer h.l1_offset) parts.0 (placed_longer c len longer h.l1_offset grows parts.1) in
    rw test refl

pub l2_longer : (c len longer : ℕ) (tree : Tree) → len ≤ longer → bad_l2_table c len tree ≡ None → bad_l2_table c longer tree ≡ None
unfolding bad_l2_table
l2_longer c len longer tree grows none =
    let nowhere = option_map-none (λ i. host_offset (get_or tree.l1 i 0)) (lowest (λ i. is_misplaced c len (host_offset (get_or tree.l1 i 0))) (length tree.l1)) none in
    let still = none_misplaced c len longer (λ i. host_offset (get_or tree.l1 i 0)) (length tree.l1) grows nowhere in
    rw still refl

pub host_longer : (c len longer : ℕ) (tree : Tree) → len ≤ longer → bad_host c len tree ≡ None → bad_host c longer tree ≡ None
unfolding bad_host
host_longer c len longer tree grows none =
    let nowhere = option_map-none (λ k. own_offset (l2_word_of tree c k)) (lowest (λ k. is_misplaced c len (own_offset (l2_word_of tree c k))) (guest_clusters c tree)) none in
    let still = none_misplaced c len longer (λ k. own_offset (l2_word_of tree c k)) (guest_clusters c tree) grows nowhere in
    rw still refl

pub no_overlap : (file : List ℕ) (h : Header) (len : ℕ) → ((k : ℕ) → uses file h k ≤ 1) → overlap file h len ≡ None
unfolding overlap
no_overlap file h len once = none_lowest (λ k. ltb 1 (uses file h k)) (cluster_bound h len) (λ k below. le-ltb 1 (uses file h k) (once k))

covered : (n count : ℕ) → n ≤ count → (not (eqb n 0) && eqb count 0) ≡ false
covered n count h = grind (arith, nat_tests)

pub no_uncounted : (file : List ℕ) (h : Header) (len : ℕ) → ((k : ℕ) → uses file h k ≤ refcount_of file h k) → uncounted file h len ≡ None
unfolding uncounted
no_uncounted file h len counted = none_lowest (λ k. not (eqb (uses file h k) 0) && eqb (refcount_of file h k) 0) (cluster_bound h len) (λ k below. covered (uses file h k) (refcount_of file h k) (counted k))

-- what a changed file still has to have, beside what stays
pub record StaysSound (old new : List ℕ) (h : Header) : Type 0 where
  pub header : header_of new ≡ h
  pub first : ReadsAlike old new 0 65536
  pub grows : length old ≤ length new
  pub small : length new ≤ 549755813888
  pub tree : active_tree new h ≡ active_tree old h
  pub blocks : bad_block (cluster_size h.cluster_bits) (length new) (refcount_table new h) ≡ None
  pub bits : reserved_in_refcount_table (refcount_table new h) ≡ None
  pub once : (k : ℕ) → uses new h k ≤ 1
  pub counted : (k : ℕ) → uses new h k ≤ refcount_of new h k

pub sound_after : (old new : List ℕ) → IsSound old → StaysSound old new (header_of old) → IsSound new
sound_after old new sound stays =
    let h : Header = header_of old in
    let c : ℕ = cluster_size h.cluster_bits in
    let nothing = sound_tables old sound in
    let len : ℕ = length old in
    let longer : ℕ = length new in
    let grows = stays.grows in
    let header = header_refusal_alike old new longer stays.first ∙ header_longer old len longer grows stays.small (sound_header old sound) in
    let found : FindsNothing new h longer = record {
      refcount_table = table_longer h len longer grows nothing.refcount_table;
      l1_table = l1_longer h len longer grows nothing.l1_table;
      blocks = stays.blocks;
      l2_tables = rw stays.tree (l2_longer c len longer (active_tree old h) grows nothing.l2_tables);
      hosts = rw stays.tree (host_longer c len longer (active_tree old h) grows nothing.hosts);
      l1_bits = rw stays.tree nothing.l1_bits;
      refcount_table_bits = stays.bits;
      l2_bits = rw stays.tree nothing.l2_bits;
      compressed = rw stays.tree nothing.compressed;
      overlaps = no_overlap new h longer stays.once;
      counts = no_uncounted new h longer stays.counted;
      room = nothing.room;
    } in
    let P : Header → Type 0 = λ x. FindsNothing new x longer in
    sound_from_parts new header (subst P (sym stays.header) found)
