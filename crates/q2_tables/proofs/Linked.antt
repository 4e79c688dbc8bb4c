-- The kept words after a write of one entry, or of a new L2 table, are those of the file's tree.
use Rattle.std.proofs.Common.{◌≡◌, ◌≢◌, ◌⊎◌, ℕ, zero, suc, ◌+◌, ◌*◌, ◌/◌, ◌%◌, ◌^◌, ◌<◌, ◌≤◌, inl, inr, false, eqb, List, [], length, get_or, slice_index, refl, sym, ap, ◌∙◌, subst, arith}
use Rattle.std.proofs.Math.ListN.{set, length-set}
use Rattle.std.proofs.Math.Nat.{div-add-mod'}
use Rattle.std.proofs.lemmas.Bool.{cases_eq, eq-eqb, ne_eqb}
use Rattle.std.proofs.lemmas.List.{get_or-set_same, get_or-set_other}
use Rattle.std.proofs.lemmas.Nat.{div_below}
use Rattle.byteorder.specs.Endian.{big_bytes}
use Rattle.byteorder.specs.Numbers.{length-bytes_high_first}
use Rattle.q2_format.specs.Bytes.{words_at, ReadsAlike, IsWritten}
use Rattle.q2_format.specs.Sizes.{entries_in_cluster}
use Rattle.q2_format.specs.Entry.{host_offset}
use Rattle.q2_format.specs.Tables.{tree_at, l2_table, l2_word_of}
use Rattle.q2_format.proofs.ByPlace.{length-words_at}
use Rattle.q2_format.proofs.Frames.{words_at-alike, words_at-set}
use Rattle.q2_format.proofs.Trees.{l1_of_tree, l2_of_tree}
use Rattle.q2_format.proofs.TreeFrames.{l2_table-alike}
use Rattle.q2_tables.specs.Kept.{KeptTables, IsTreeOf}
use Rattle.q2_tables.specs.Linking.{Apart, IsFreeBut, LieBesideL1, HasOneEntry, l1_index, table_of}
use Rattle.q2_tables.specs.Words.{AreTablesOf}
use Rattle.q2_tables.proofs.Loaded.{table_word, words_of_tree, positive}

-- A tree, by its rows.

pub row_of : (k e n m : ℕ) → k < n * e → n ≡ m → k / e < m
row_of k zero n m below same = absurd (omega arith)
row_of k (suc e) n m below same = omega (arith, div_below k (suc e) n (omega arith) below)

-- the words of a tree are those of its tables
pub tables_of_tree : (file : List ℕ) (c at n : ℕ) (kept : KeptTables) → IsTreeOf c kept (tree_at file c at n) → length kept.l1 ≡ n → AreTablesOf file c kept.l1 kept.words
unfolding l2_word_of
tables_of_tree file c at n kept is len = record {
  each = λ k below.
      let e : ℕ = entries_in_cluster c in
      let row : k / e < n = row_of k e (length kept.l1) n below len in
      let table : get_or (tree_at file c at n).l2 (k / e) [] ≡ l2_table file c (get_or kept.l1 (k / e) 0) =
      l2_of_tree file c at n (k / e) row ∙ ap (λ (l : List ℕ). l2_table file c (get_or l (k / e) 0)) (sym is.l1) in
      is.words k (subst (λ (m : ℕ). k < m) (sym is.entries) below) ∙ ap (λ (l : List ℕ). get_or l (k % e) 0) table;
}

-- and the other way round
tree_of_tables : (file : List ℕ) (c at n : ℕ) (kept : KeptTables) → kept.l1 ≡ words_at file at n → AreTablesOf file c kept.l1 kept.words
    → length kept.words ≡ length kept.l1 * entries_in_cluster c → IsTreeOf c kept (tree_at file c at n)
tree_of_tables file c at n kept l1 tables count = record {
  l1 = l1 ∙ sym (l1_of_tree file c at n);
  entries = count;
  words = λ k below. words_of_tree file c at n kept.l1 kept.words l1 tables k (subst (λ (m : ℕ). k < m) count below);
}

-- One entry of one row is another, in the file and in the words.

record ChangesEntry (old new : List ℕ) (c : ℕ) (l1 l1' : List ℕ) (i j word : ℕ) : Type 0 where
  rows : (r : ℕ) → r < length l1 → r ≢ i → l2_table new c (get_or l1' r 0) ≡ l2_table old c (get_or l1 r 0)
  here : slice_index (l2_table new c (get_or l1' i 0)) j ≡ word
  beside : (q : ℕ) → q < entries_in_cluster c → q ≢ j → slice_index (l2_table new c (get_or l1' i 0)) q ≡ slice_index (l2_table old c (get_or l1 i 0)) q

place_of : (k e : ℕ) → k / e * e + k % e ≡ k
place_of k e = div-add-mod' k e

tables_after : (old new : List ℕ) (c : ℕ) (l1 l1' words : List ℕ) (cluster word : ℕ) → 0 < entries_in_cluster c
    → AreTablesOf old c l1 words → length l1' ≡ length l1 → length words ≡ length l1 * entries_in_cluster c → cluster < length words
    → ChangesEntry old new c l1 l1' (cluster / entries_in_cluster c) (cluster % entries_in_cluster c) word
    → AreTablesOf new c l1' (set words cluster word)
tables_after old new c l1 l1' words cluster word some tables same_length count below changes = record {
  each = λ k in_words.
      let e : ℕ = entries_in_cluster c in
      let in_l1 : k < length l1 * e = subst (λ (m : ℕ). k < m * e) same_length in_words in
      let row : k / e < length l1 = row_of k e (length l1) (length l1) in_l1 refl in
      let column : k % e < e = omega arith in
      elim (cases_eq k cluster) [
        | inl same ↦
            ap (λ (m : ℕ). get_or (set words cluster word) m 0) same
            ∙ get_or-set_same words cluster word 0 below
            ∙ sym changes.here
            ∙ ap (λ (m : ℕ). table_word new c l1' m) (sym same)
        | inr other ↦
            get_or-set_other words cluster k word 0 other ∙ tables.each k in_l1
            ∙ elim (cases_eq (k / e) (cluster / e)) [
              | inl in_row ↦
                  let beside : k % e ≢ cluster % e = λ in_column. other
                  (sym (place_of k e) ∙ ap (λ (r : ℕ). r * e + k % e) in_row ∙ ap (λ (q : ℕ). cluster / e * e + q) in_column ∙ place_of cluster e) in
                  ap (λ (r : ℕ). slice_index (l2_table old c (get_or l1 r 0)) (k % e)) in_row
                  ∙ sym (changes.beside (k % e) column beside)
                  ∙ ap (λ (r : ℕ). slice_index (l2_table new c (get_or l1' r 0)) (k % e)) (sym in_row)
              | inr elsewhere ↦ ap (λ (table : List ℕ). get_or table (k % e) 0) (sym (changes.rows (k / e) row elsewhere))
            ]
      ];
}

-- What a write leaves.

-- bytes apart from those that were written
apart_alike : (old new : List ℕ) (place len at n : ℕ) → ((i : ℕ) → (i < place) ⊎ (place + len ≤ i) → slice_index new i ≡ slice_index old i) → Apart place len at n → ReadsAlike old new at n
apart_alike old new place len at n outside apart = record {
  same = λ i low high. outside i (elim apart [ inl before ↦ inr (omega arith) | inr behind ↦ inl (omega arith) ]);
}

-- an entry that was written in a table that begins at `place`, seen from outside the table
entry_outside : (old new : List ℕ) (place c j word : ℕ) → j < entries_in_cluster c → IsWritten old new (place + 8 * j) (big_bytes 8 word)
    → (i : ℕ) → (i < place) ⊎ (place + c ≤ i) → slice_index new i ≡ slice_index old i
entry_outside old new place c j word in_table written i side =
    let eight = length-bytes_high_first 8 word in
    written.outside i (elim side [ inl before ↦ inl (omega arith) | inr behind ↦ inr (omega (arith, eight)) ])

table_fits : (c : ℕ) → 8 * entries_in_cluster c ≤ c
table_fits c = omega arith

shorter : (old new : List ℕ) (at n m : ℕ) → m ≤ n → ReadsAlike old new at n → ReadsAlike old new at m
shorter old new at n m fits alike = record { same = λ i low high. alike.same i low (omega arith) }

-- the other tables, where a cluster was written that is free but for one
other_tables : (old new : List ℕ) (kept : KeptTables) (place but r : ℕ) → IsFreeBut kept place but
    → ((i : ℕ) → (i < place) ⊎ (place + kept.c ≤ i) → slice_index new i ≡ slice_index old i)
    → r < length kept.l1 → r ≢ but → l2_table new kept.c (get_or kept.l1 r 0) ≡ l2_table old kept.c (get_or kept.l1 r 0)
other_tables old new kept place but r free outside below other =
    l2_table-alike old new kept.c (get_or kept.l1 r 0)
    (λ some. shorter old new (host_offset (get_or kept.l1 r 0)) kept.c (8 * entries_in_cluster kept.c) (table_fits kept.c)
    (apart_alike old new place kept.c (host_offset (get_or kept.l1 r 0)) kept.c outside (free.l2_tables r below other some)))

same_l1 : (old new : List ℕ) (kept : KeptTables) (place but n : ℕ) → IsFreeBut kept place but
    → ((i : ℕ) → (i < place) ⊎ (place + kept.c ≤ i) → slice_index new i ≡ slice_index old i)
    → length kept.l1 ≡ n → words_at new kept.l1_offset n ≡ words_at old kept.l1_offset n
same_l1 old new kept place but n free outside len =
    words_at-alike old new kept.l1_offset n
    (apart_alike old new place kept.c kept.l1_offset (8 * n) outside (subst (λ (m : ℕ). Apart place kept.c kept.l1_offset (8 * m)) len free.l1_table))

-- An entry of an L2 table was written.

module _ (file new : List ℕ) (kept : KeptTables) (cluster word : ℕ) (tree : IsTreeOf kept.c kept (tree_at file kept.c kept.l1_offset (length kept.l1)))
    (below : cluster < length kept.words) (fits : word < 256 ^ 8) where
  index : ℕ
  index = cluster / entries_in_cluster kept.c

  column : ℕ
  column = cluster % entries_in_cluster kept.c

  in_rows : cluster < length kept.l1 * entries_in_cluster kept.c
  in_rows = subst (λ (m : ℕ). cluster < m) tree.entries below

  some_entries : 0 < entries_in_cluster kept.c
  some_entries = positive cluster (length kept.l1) (entries_in_cluster kept.c) in_rows

  in_l1 : cluster / entries_in_cluster kept.c < length kept.l1
  in_l1 = row_of cluster (entries_in_cluster kept.c) (length kept.l1) (length kept.l1) in_rows refl

  in_table : cluster % entries_in_cluster kept.c < entries_in_cluster kept.c
  in_table = let some = some_entries in omega (arith, some)

  l1_words : kept.l1 ≡ words_at file kept.l1_offset (length kept.l1)
  l1_words = tree.l1 ∙ l1_of_tree file kept.c kept.l1_offset (length kept.l1)

  pub linked_entry : table_of kept cluster ≢ 0 → IsFreeBut kept (table_of kept cluster) (l1_index kept cluster)
      → IsWritten file new (table_of kept cluster + 8 * (cluster % entries_in_cluster kept.c)) (big_bytes 8 word)
      → IsTreeOf kept.c (record { c = kept.c; l1_offset = kept.l1_offset; l1 = kept.l1; words = set kept.words cluster word }) (tree_at new kept.c kept.l1_offset (length kept.l1))
  unfolding l2_table
  linked_entry some free written =
      let e : ℕ = entries_in_cluster kept.c in
      let i : ℕ = cluster / e in
      let j : ℕ = cluster % e in
      let place : ℕ = table_of kept cluster in
      let test = ne_eqb place 0 some in
      let outside = entry_outside file new place kept.c j word in_table written in
      let row = words_at-set file new place e j word in_table written fits in
      let len = length-words_at file place e in
      let changes : ChangesEntry file new kept.c kept.l1 kept.l1 i j word = record {
        rows = λ r in_rows other. other_tables file new kept place i r free outside in_rows other;
        here = rw test (ap (λ (l : List ℕ). get_or l j 0) row ∙ get_or-set_same (words_at file place e) j word 0 (subst (λ (m : ℕ). j < m) (sym len) in_table));
        beside = λ q in_row other. rw test (ap (λ (l : List ℕ). get_or l q 0) row ∙ get_or-set_other (words_at file place e) j q word 0 other);
      } in
      tree_of_tables new kept.c kept.l1_offset (length kept.l1) (record { c = kept.c; l1_offset = kept.l1_offset; l1 = kept.l1; words = set kept.words cluster word })
      (l1_words ∙ sym (same_l1 file new kept place i (length kept.l1) free outside refl))
      (tables_after file new kept.c kept.l1 kept.l1 kept.words cluster word some_entries
      (tables_of_tree file kept.c kept.l1_offset (length kept.l1) kept tree refl) refl tree.entries below changes)
      (length-set {A = ℕ} kept.words cluster word ∙ tree.entries)

-- A cluster that no table has a byte of was written.

pub beside_tables : (file new : List ℕ) (kept : KeptTables) (place but : ℕ) → IsTreeOf kept.c kept (tree_at file kept.c kept.l1_offset (length kept.l1))
    → IsFreeBut kept place but → host_offset (slice_index kept.l1 but) ≡ 0
    → ((i : ℕ) → (i < place) ⊎ (place + kept.c ≤ i) → slice_index new i ≡ slice_index file i)
    → IsTreeOf kept.c kept (tree_at new kept.c kept.l1_offset (length kept.l1))
beside_tables file new kept place but tree free none outside =
    let e : ℕ = entries_in_cluster kept.c in
    let tables = tables_of_tree file kept.c kept.l1_offset (length kept.l1) kept tree refl in
    let row : (r : ℕ) → r < length kept.l1 → l2_table new kept.c (get_or kept.l1 r 0) ≡ l2_table file kept.c (get_or kept.l1 r 0) = λ r below. elim (cases_eq r but) [
      | inl here ↦ l2_table-alike file new kept.c (get_or kept.l1 r 0) (λ some. absurd (some (ap (λ (m : ℕ). host_offset (get_or kept.l1 m 0)) here ∙ none)))
      | inr other ↦ other_tables file new kept place but r free outside below other
    ] in
    tree_of_tables new kept.c kept.l1_offset (length kept.l1) kept
    (tree.l1 ∙ l1_of_tree file kept.c kept.l1_offset (length kept.l1) ∙ sym (same_l1 file new kept place but (length kept.l1) free outside refl))
    (record {
      each = λ k below. tables.each k below
          ∙ ap (λ (table : List ℕ). get_or table (k % e) 0) (sym (row (k / e) (row_of k e (length kept.l1) (length kept.l1) below refl)));
    })
    tree.entries

-- A new L2 table was written, and then the entry of the L1 table that names it.

-- what an entry of a row lies apart from, whatever the row lies apart from
entry_apart : (old new : List ℕ) (at n i word place len : ℕ) → i < n → IsWritten old new (at + 8 * i) (big_bytes 8 word) → Apart place len at (8 * n) → ReadsAlike old new place len
entry_apart old new at n i word place len below written apart =
    let eight = length-bytes_high_first 8 word in
    record {
      same = λ k low high. written.outside k (elim apart [ inl before ↦ inl (omega arith) | inr behind ↦ inr (omega (arith, eight)) ]);
    }

pub linked_table : (file mid new : List ℕ) (kept : KeptTables) (cluster word table l1_word : ℕ) → IsTreeOf kept.c kept (tree_at file kept.c kept.l1_offset (length kept.l1))
    → cluster < length kept.words → table_of kept cluster ≡ 0 → table ≢ 0 → host_offset l1_word ≡ table → l1_word < 256 ^ 8
    → LieBesideL1 kept → IsFreeBut kept table (l1_index kept cluster)
    → ((i : ℕ) → (i < table) ⊎ (table + kept.c ≤ i) → slice_index mid i ≡ slice_index file i)
    → HasOneEntry mid table (entries_in_cluster kept.c) (cluster % entries_in_cluster kept.c) word
    → IsWritten mid new (kept.l1_offset + 8 * l1_index kept cluster) (big_bytes 8 l1_word)
    → IsTreeOf kept.c (record { c = kept.c; l1_offset = kept.l1_offset; l1 = set kept.l1 (l1_index kept cluster) l1_word; words = set kept.words cluster word })
    (tree_at new kept.c kept.l1_offset (length kept.l1))
unfolding l2_table
linked_table file mid new kept cluster word table l1_word tree below none some named fits beside free outside entry written =
    let e : ℕ = entries_in_cluster kept.c in
    let n : ℕ = length kept.l1 in
    let i : ℕ = cluster / e in
    let in_rows : cluster < n * e = subst (λ (m : ℕ). cluster < m) tree.entries below in
    let in_l1 : i < n = row_of cluster e n n in_rows refl in
    let l1 : List ℕ = set kept.l1 i l1_word in
    let before : kept.l1 ≡ words_at file kept.l1_offset n = tree.l1 ∙ l1_of_tree file kept.c kept.l1_offset n in
    let row : words_at new kept.l1_offset n ≡ l1 =
    words_at-set mid new kept.l1_offset n i l1_word in_l1 written fits
    ∙ ap (λ (l : List ℕ). set l i l1_word) (same_l1 file mid kept table i n free outside refl ∙ sym before) in
    let l1_here : get_or l1 i 0 ≡ l1_word = get_or-set_same kept.l1 i l1_word 0 in_l1 in
    let test : eqb (host_offset l1_word) 0 ≡ false = ne_eqb (host_offset l1_word) 0 (λ zero_there. some (sym named ∙ zero_there)) in
    let no_table = eq-eqb (table_of kept cluster) 0 none in
    let apart_here : ReadsAlike mid new table (8 * e) =
    shorter mid new table kept.c (8 * e) (table_fits kept.c) (entry_apart mid new kept.l1_offset n i l1_word table kept.c in_l1 written free.l1_table) in
    let new_row : words_at new table e ≡ words_at mid table e = words_at-alike mid new table e apart_here in
    let this : l2_table new kept.c (get_or l1 i 0) ≡ words_at mid table e =
    ap (λ (w : ℕ). l2_table new kept.c w) l1_here ∙ rw (test, named) new_row in
    let other_row : (r : ℕ) → r < n → r ≢ i → l2_table new kept.c (get_or kept.l1 r 0) ≡ l2_table mid kept.c (get_or kept.l1 r 0) = λ r in_n other.
    l2_table-alike mid new kept.c (get_or kept.l1 r 0)
    (λ there. shorter mid new (host_offset (get_or kept.l1 r 0)) kept.c (8 * e) (table_fits kept.c)
    (entry_apart mid new kept.l1_offset n i l1_word (host_offset (get_or kept.l1 r 0)) kept.c in_l1 written (beside.each r in_n there))) in
    let changes : ChangesEntry file new kept.c kept.l1 l1 i (cluster % e) word = record {
      rows = λ r in_n other.
          ap (λ (w : ℕ). l2_table new kept.c w) (get_or-set_other kept.l1 i r l1_word 0 other)
          ∙ other_row r in_n other ∙ other_tables file mid kept table i r free outside in_n other;
      here = ap (λ (l : List ℕ). get_or l (cluster % e) 0) this ∙ entry.here;
      beside = λ q in_e other. ap (λ (l : List ℕ). get_or l q 0) this ∙ entry.beside q in_e other ∙ rw no_table refl;
    } in
    tree_of_tables new kept.c kept.l1_offset n (record { c = kept.c; l1_offset = kept.l1_offset; l1 = l1; words = set kept.words cluster word })
    (sym row)
    (tables_after file new kept.c kept.l1 l1 kept.words cluster word (positive cluster n e in_rows)
    (tables_of_tree file kept.c kept.l1_offset n kept tree refl) (length-set {A = ℕ} kept.l1 i l1_word) tree.entries below changes)
    (length-set {A = ℕ} kept.words cluster word ∙ tree.entries ∙ ap (λ (m : ℕ). m * e) (sym (length-set {A = ℕ} kept.l1 i l1_word)))
