-- Where an entry is written, and what the file is behind it.
use Rattle.std.proofs.Common.{◌≡◌, ◌≢◌, ℕ, ◌+◌, ◌*◌, ◌/◌, ◌%◌, ◌<◌, ◌≤◌, inl, inr, cond, eqb, List, length, get_or, count_by, refl, sym, ap, subst, ◌∙◌, arith}
use Rattle.std.proofs.lemmas.Bool.{cases_eq, eq-eqb, ne_eqb}
use Rattle.std.proofs.lemmas.Grind.{div_ceil_times}
use Rattle.q2_format.specs.Entry.{host_offset}
use Rattle.q2_format.specs.Header.{header_of}
use Rattle.q2_format.specs.References.{names_cluster, own_offset, uses}
use Rattle.q2_format.specs.Sizes.{clusters_for, entries_in_cluster}
use Rattle.q2_format.specs.Tables.{active_tree}
use Rattle.q2_format.specs.declared.header.Header.{Header}
use Rattle.q2_format.proofs.Consistent.{FindsNothing, sound_tables, sound_header}
use Rattle.q2_format.proofs.Limits.{within_limits}
use Rattle.q2_refs.proofs.Placing.{short_file}
use Rattle.q2_refs.proofs.Uses.{table_run, block_uses, l1_run, table_uses, names_it, count_some, run_has}
use Rattle.q2_refs.proofs.Writes.{l2_placed, l1_placed, whole_of, below_of}
use Rattle.q2_tables.specs.Linking.{CanLink, LiesApart, IsFreeBut, entry_at, l1_index, table_of}
use Rattle.q2_tables.proofs.Apart.{AreNamedOnce, l1_names, l1_of_uses, tables_beside, table_free, unnamed_free}
use Rattle.q2_image.specs.Image.{Known, IsImageOf, IsOpen, cluster_size_in}
use Rattle.q2_image.specs.Writing.{IsSpare}
use Rattle.q2_image.proofs.HostUses.{consistent, parts_of, one_own, size_in}
use Rattle.q2_image.proofs.Taken.{step_of}
use Rattle.q2_image.proofs.TreeChanged.{HoldsNoCount}

-- a cluster in which an entry of an L1 or L2 table lies: it holds nothing else
pub record HoldsEntries (file : List ℕ) (image : Known) (k : ℕ) : Type 0 where
  pub free : HoldsNoCount file k
  pub unnamed : (q : ℕ) → q < length image.tables.words → own_offset (get_or image.tables.words q 0) ≢ 0
      → own_offset (get_or image.tables.words q 0) / cluster_size_in image ≢ k
  pub used : 1 ≤ uses file (header_of file) k

module _ (old : List ℕ) (image : Known) (is : IsImageOf old image) (ready : IsOpen image) where
  abbrev h : Header
  h = image.header

  c_is : cluster_size_in image ≡ 65536
  c_is = size_in image ready

  tables_named : (k : ℕ) → 1 ≤ table_uses old h k + l1_run h k → HoldsEntries old image k
  tables_named k some =
      let parts = parts_of old image is k in
      let once = (consistent old image is).once k in
      let P : Header → Type 0 = λ x. (table_run x k ≡ 0) × (block_uses old x k ≡ 0) × (1 ≤ uses old x k) in
      let there = subst P (sym is.header) (omega (arith, parts, once, some), omega (arith, parts, once, some), omega (arith, parts, some)) in
      record {
        free = record {
          header = λ zero_there. absurd (let first = rw zero_there at parts in let first_some = rw zero_there at some in let first_once = rw zero_there at once in omega (arith, first, first_some, first_once));
          table = there.0;
          blocks = there.1;
        };
        unnamed = λ q below named here. let one = one_own old image is q k below named here in omega (arith, one, parts, once, some);
        used = there.2;
      }

  nothing : FindsNothing old h (length old)
  nothing = let F : Header → Type 0 = λ y. FindsNothing old y (length old) in subst F is.header (sound_tables old is.sound)

  -- the L2 table of an L1 entry
  l1_is : image.tables.l1 ≡ (active_tree old h).l1
  l1_is = is.tables.l1

  pub table_whole : (i : ℕ) → i < length image.tables.l1 → host_offset (get_or image.tables.l1 i 0) % 65536 ≡ 0
  table_whole i below =
      let P : List ℕ → Type 0 = λ xs. (j : ℕ) → j < length xs → host_offset (get_or xs j 0) % 65536 ≡ 0 in
      let all : P (active_tree old h).l1 = λ j in_tree.
      let o : ℕ = host_offset (get_or (active_tree old h).l1 j 0) in
      ap (λ (n : ℕ). o % n) (sym c_is) ∙ whole_of (cluster_size_in image) (length old) o (l2_placed (cluster_size_in image) (length old) (active_tree old h) nothing.l2_tables j in_tree) in
      subst P (sym l1_is) all i below

  pub table_below : (i : ℕ) → i < length image.tables.l1 → host_offset (get_or image.tables.l1 i 0) < length old
  table_below i below =
      let P : List ℕ → Type 0 = λ xs. (j : ℕ) → j < length xs → host_offset (get_or xs j 0) < length old in
      let all : P (active_tree old h).l1 = λ j in_tree. below_of (cluster_size_in image) (length old) (host_offset (get_or (active_tree old h).l1 j 0)) (l2_placed (cluster_size_in image) (length old) (active_tree old h) nothing.l2_tables j in_tree) in
      subst P (sym l1_is) all i below

  table_entries : (i : ℕ) → i < length image.tables.l1 → host_offset (get_or image.tables.l1 i 0) ≢ 0 → HoldsEntries old image (host_offset (get_or image.tables.l1 i 0) / 65536)
  table_entries i below some =
      let o : ℕ = host_offset (get_or image.tables.l1 i 0) in
      let k : ℕ = o / 65536 in
      let test = names_it (cluster_size_in image) k o some (ap (λ (n : ℕ). o / n) c_is) in
      let one = count_some (λ word. names_cluster (cluster_size_in image) k (host_offset word)) image.tables.l1 i below test in
      let same = ap (λ (xs : List ℕ). count_by (λ word. names_cluster (cluster_size_in image) k (host_offset word)) xs) l1_is in
      tables_named k (omega (arith, one, same))

  -- the L1 table
  pub l1_whole : h.l1_offset % 65536 ≡ 0
  l1_whole = ap (λ (n : ℕ). h.l1_offset % n) (sym c_is) ∙ whole_of (cluster_size_in image) (length old) h.l1_offset (l1_placed h (length old) nothing.l1_table).1

  pub l1_below : h.l1_offset < length old
  l1_below = below_of (cluster_size_in image) (length old) h.l1_offset (l1_placed h (length old) nothing.l1_table).1

  l1_entries : (i : ℕ) → i < length image.tables.l1 → HoldsEntries old image ((h.l1_offset + 8 * i) / 65536)
  l1_entries i below =
      let count = ready.l1_size in
      let whole = l1_whole in
      let k : ℕ = (h.l1_offset + 8 * i) / 65536 in
      let bits = ready.cluster_bits in
      let enough = div_ceil_times (8 * h.l1_size) 65536 (omega arith) in
      let run : l1_run h k ≡ 1 = rw bits (run_has 65536 k h.l1_offset (clusters_for 65536 (8 * h.l1_size)) (omega arith) (omega (arith, whole, below, count, enough.0))) in
      tables_named k (omega (arith, run))

  pub short : length old ≤ 549755813888
  short = short_file old image.refs (step_of old image is)

  few_l1 : length image.tables.l1 ≤ 1024
  few_l1 =
      let limits = within_limits old (length old) (sound_header old is.sound) in
      let P : Header → Type 0 = λ y. y.l1_size ≤ 1024 in
      let few : P h = subst P is.header limits.l1_size in
      omega (arith, ready.l1_size, few)

  -- the entry of a guest cluster
  module _ (cluster table : ℕ) (below : cluster < length image.tables.words) (can : CanLink image.tables cluster table) where
    abbrev row : ℕ
    row = l1_index image.tables cluster

    e_is : entries_in_cluster image.tables.c ≡ 8192
    e_is = let same = ready.tables_size ∙ c_is in rw same refl

    pub in_l1 : row < length image.tables.l1
    in_l1 =
        let count = ready.words in
        let size = c_is in
        let e = e_is in
        let all : length image.tables.words ≡ length image.tables.l1 * 8192 = count ∙ ap (λ (n : ℕ). length image.tables.l1 * entries_in_cluster n) size in
        rw e (omega (arith, all, below))

    pub record EntryPlace (at : ℕ) : Type 0 where
      pub holds : HoldsEntries old image (at / 65536)
      pub high : at + 8 ≤ at / 65536 * 65536 + 65536
      pub near : at + 8 ≤ 549755813888

    in_l2 : table_of image.tables cluster ≢ 0 → EntryPlace (table_of image.tables cluster + 8 * (cluster % entries_in_cluster image.tables.c))
    in_l2 some =
        let o : ℕ = table_of image.tables cluster in
        let e = e_is in
        let whole = table_whole row in_l1 in
        let inside = table_below row in_l1 in
        let column : cluster % entries_in_cluster image.tables.c < 8192 = rw e (omega arith) in
        let same : (o + 8 * (cluster % entries_in_cluster image.tables.c)) / 65536 ≡ o / 65536 = omega (arith, whole, column) in
        let P : ℕ → Type 0 = HoldsEntries old image in
        record {
          holds = subst P (sym same) (table_entries row in_l1 some);
          high = omega (arith, whole, column);
          near = omega (arith, whole, column, inside, short);
        }

    in_l1_table : EntryPlace (image.tables.l1_offset + 8 * row)
    in_l1_table =
        let place = ready.l1_place in
        let whole = l1_whole in
        let inside = l1_below in
        let few = few_l1 in
        let P : ℕ → Type 0 = λ o. HoldsEntries old image ((o + 8 * row) / 65536) in
        record {
          holds = subst P (sym place) (l1_entries row in_l1);
          high = omega (arith, whole, place, in_l1, few);
          near = omega (arith, whole, place, in_l1, few, inside, short);
        }

    pub entry_place : EntryPlace (entry_at image.tables cluster table)
    entry_place = elim (cases_eq table 0) [
      | inl none ↦ let test = eq-eqb table 0 none in rw test (in_l2 (can.named none))
      | inr some ↦ let test = ne_eqb table 0 some in rw test in_l1_table
    ]

    -- the tables lie apart
    named_once : AreNamedOnce image.tables
    named_once =
        let size = ready.tables_size ∙ c_is in
        let place = ready.l1_place in
        record {
          some = omega (arith, size);
          once = λ k. let below_uses = l1_of_uses old h image.tables k ready.tables_size place l1_is ready.l1_size in omega (arith, below_uses, (consistent old image is).once k);
          l1_aligned = ap (λ (n : ℕ). image.tables.l1_offset % n) size ∙ ap (λ (n : ℕ). n % 65536) place ∙ l1_whole;
          aligned = λ i inside. ap (λ (n : ℕ). host_offset (get_or image.tables.l1 i 0) % n) size ∙ table_whole i inside;
        }

    free_of : (table ≢ 0 → IsSpare old (table / 65536)) → table % 65536 ≡ 0 → IsFreeBut image.tables (cond (eqb table 0) (table_of image.tables cluster) table) row
    free_of spare whole = elim (cases_eq table 0) [
      | inl none ↦ let test = eq-eqb table 0 none in rw test (table_free image.tables row named_once in_l1 (can.named none))
      | inr some ↦
          let test = ne_eqb table 0 some in
          let size = ready.tables_size ∙ c_is in
          let unnamed : l1_names image.tables (table / image.tables.c) ≡ 0 =
          let below_uses = l1_of_uses old h image.tables (table / 65536) ready.tables_size ready.l1_place l1_is ready.l1_size in
          let none_there = ap (λ (y : Header). uses old y (table / 65536)) (sym is.header) ∙ (spare some).unnamed in
          ap (λ (n : ℕ). l1_names image.tables (table / n)) size ∙ omega (arith, below_uses, none_there) in
          rw test (unnamed_free image.tables table row named_once (ap (λ (n : ℕ). table % n) size ∙ whole) unnamed)
    ]

    pub lies_apart : (table ≢ 0 → IsSpare old (table / 65536)) → table % 65536 ≡ 0 → LiesApart image.tables cluster table
    lies_apart spare whole = record { free = free_of spare whole; beside = tables_beside image.tables named_once }
