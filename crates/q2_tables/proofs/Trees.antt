-- The tree of a loading: the file's where it is told, else one made of the words that were kept.
use Rattle.std.proofs.Common.{◌≡◌, ◌≢◌, ℕ, ◌+◌, ◌*◌, ◌/◌, ◌%◌, ◌<◌, ◌≤◌, ◌==◌, if◌then◌else◌, inl, inr, List, [], length, take, drop, map, replicate, get_or, slice_index, Option, None, Some, Result, Ok, Err, refl, sym, ap, ◌∙◌, subst, arith, div-add-mod'}
use Rattle.std.specs.Option.{option_map}
use Rattle.std.specs.List.{range_with_len}
use Rattle.std.proofs.lemmas.Bool.{cases_eq, eq-eqb, ne_eqb}
use Rattle.std.proofs.lemmas.List.{get_or-take, get_or-drop, get_or-replicate, length-take-le, length-drop, length-replicate}
use Rattle.std.proofs.lemmas.List.FromFn.{get_or-map-range_with_len}
use Rattle.std.proofs.lemmas.Nat.{div_below, mod_below}
use Rattle.blk_base.specs.Files.{WasRead}
use Rattle.blk_base.proofs.Readings.{was_read, read_map}
use Rattle.q2_format.specs.Bytes.{CanStandAt, words_at}
use Rattle.q2_format.specs.Sizes.{cluster_size, entries_in_cluster}
use Rattle.q2_format.specs.Entry.{host_offset}
use Rattle.q2_format.specs.Sound.{bad_l1_table}
use Rattle.q2_format.specs.Tables.{Tree, active_tree, l2_table, l2_word_of}
use Rattle.q2_format.specs.declared.header.Header.{Header}
use Rattle.q2_format.proofs.ByPlace.{length-words_at}
use Rattle.q2_format.proofs.Standing.{file_stands, zeros_stand}
use Rattle.q2_format.proofs.Trees.{length_l1, l2_of_tree}
use Rattle.q2_tables.specs.Kept.{KeptTables, IsTreeOf}
use Rattle.q2_tables.specs.Loading.{AnswersTree, HasRows, IsTableRefusal, RowsStand, TreeStands, load_refusal}
use Rattle.q2_tables.specs.Words.{AreUnnamedZero, IsTablesReadStop, misplaced_table, refused_words}
use Rattle.q2_tables.specs.declared.stop.TablesStop.{TablesStop}
use Rattle.q2_tables.specs.declared.stop.TablesStop.TheVariants.{Offset, ReservedInL1, ReservedInL2, Compressed, Io, NoMemory}
use Rattle.q2_tables.proofs.Loaded.{positive, row_is, rows_fit, l1_of_active}
use Rattle.q2_tables.proofs.Refusals.{refused_at_table, refused_at_l1, refused_of}

-- Rows, one for each entry of an L1 table.

-- the entries of an L2 table
abbrev entries_of : Header → ℕ
entries_of h = entries_in_cluster (cluster_size h.cluster_bits)

-- none where the entry names no table
rows_of_table : (file : List ℕ) (c word : ℕ) → length (l2_table file c word) ≡ (if host_offset word == 0 then 0 else entries_in_cluster c)
unfolding l2_table
rows_of_table file c word = elim (cases_eq (host_offset word) 0) [
  | inl none ↦ let test = eq-eqb (host_offset word) 0 none in rw test refl
  | inr some ↦ let test = ne_eqb (host_offset word) 0 some in rw test (length-words_at file (host_offset word) (entries_in_cluster c))
]

-- a file's tree has them
pub rows_of_active : (file : List ℕ) (h : Header) → HasRows (entries_of h) (active_tree file h)
rows_of_active file h = λ i below.
    let c : ℕ = cluster_size h.cluster_bits in
    ap length (l2_of_tree file c h.l1_offset h.l1_size i (omega (arith, below, length_l1 file c h.l1_offset h.l1_size)))
    ∙ rows_of_table file c (slice_index (active_tree file h).l1 i)

-- each table that an entry names stands in the file
table_stands : (file : List ℕ) (c word len : ℕ) → len ≡ length file → host_offset word ≢ 0 → CanStandAt len (host_offset word) (l2_table file c word)
unfolding l2_table
table_stands file c word len size some =
    let test = ne_eqb (host_offset word) 0 some in rw test (file_stands file len (host_offset word) (entries_in_cluster c) size)

pub active_stands : (file : List ℕ) (h : Header) (len : ℕ) → len ≡ length file → TreeStands h len (active_tree file h)
active_stands file h len size =
    let c : ℕ = cluster_size h.cluster_bits in
    let tree : Tree = active_tree file h in
    record {
      l1 = subst (CanStandAt len h.l1_offset) (sym (l1_of_active file h)) (file_stands file len h.l1_offset h.l1_size size);
      rows = λ i below some. subst (CanStandAt len (host_offset (slice_index tree.l1 i)))
          (sym (l2_of_tree file c h.l1_offset h.l1_size i (omega (arith, below, length_l1 file c h.l1_offset h.l1_size))))
          (table_stands file c (slice_index tree.l1 i) len size some);
    }

-- The tree of the words of an L1 table and of all L2 tables, one behind the other, each with so many.

-- the words under an entry, none where it names no table
abbrev row_of : ℕ → List ℕ → List ℕ → ℕ → List ℕ
row_of entries l1 words i = if host_offset (slice_index l1 i) == 0 then [] else take entries (drop (i * entries) words)

abbrev pub tree_of : ℕ → List ℕ → List ℕ → Tree
tree_of entries l1 words = record {
  l1 = l1;
  l2 = map (row_of entries l1 words) (range_with_len 0 (length l1));
}

row_at : (e : ℕ) (l1 words : List ℕ) (i : ℕ) → i < length l1 → get_or (tree_of e l1 words).l2 i [] ≡ row_of e l1 words i
row_at e l1 words i below = get_or-map-range_with_len (row_of e l1 words) 0 (length l1) i i [] below (omega arith)

-- with as many words as all tables have, the tree has its rows
rows_of : (e : ℕ) (l1 words : List ℕ) → length words ≡ length l1 * e → HasRows e (tree_of e l1 words)
rows_of e l1 words count = λ i below. ap length (row_at e l1 words i below) ∙ elim (cases_eq (host_offset (slice_index l1 i)) 0) [
  | inl none ↦ let test = eq-eqb (host_offset (slice_index l1 i)) 0 none in rw test refl
  | inr some ↦
      let test = ne_eqb (host_offset (slice_index l1 i)) 0 some in
      let fits : (i + 1) * e ≤ length words = rows_fit i (length l1) e (length words) below count in
      let row : (i + 1) * e ≡ i * e + e = omega arith in
      rw test (length-take-le e (drop (i * e) words) (omega (arith, fits, row, length-drop (i * e) words)))
]

-- where its rows stand among the words, the tree stands
stands_of : (h : Header) (len e : ℕ) (l1 words : List ℕ) → CanStandAt len h.l1_offset l1 → RowsStand len e l1 words → TreeStands h len (tree_of e l1 words)
stands_of h len e l1 words table rows = record {
  l1 = table;
  rows = λ i below some.
      let test = ne_eqb (host_offset (slice_index l1 i)) 0 some in
      let row : row_of e l1 words i ≡ take e (drop (i * e) words) = rw test refl in
      subst (CanStandAt len (host_offset (slice_index l1 i))) (sym (row_at e l1 words i below ∙ row)) (rows i below some);
}

-- so do rows of zeros
zero_rows_stand : (len e : ℕ) (l1 : List ℕ) → RowsStand len e l1 (replicate (length l1 * e) 0)
zero_rows_stand len e l1 = λ i below some.
    let n : ℕ = length l1 * e in
    let fits : (i + 1) * e ≤ n = rows_fit i (length l1) e n below refl in
    let row : (i + 1) * e ≡ i * e + e = omega arith in
    let zeros : take e (drop (i * e) (replicate n 0)) ≡ replicate e 0 =
    row_is e (i * e) (replicate n 0) (replicate e 0) (omega (arith, fits, row, length-replicate {A = ℕ} n 0)) (length-replicate {A = ℕ} e 0)
    (λ j column. get_or-replicate n (i * e + j) 0 0 (omega (arith, fits, row)) ∙ sym (get_or-replicate e j 0 0 column)) in
    subst (CanStandAt len (host_offset (slice_index l1 i))) (sym zeros) (zeros_stand len (host_offset (slice_index l1 i)) e)

-- a word is in the row of its table, where those under an entry that names none are 0
word_in_row : (e : ℕ) (l1 words : List ℕ) (k : ℕ) → 0 < e → (host_offset (slice_index l1 (k / e)) ≡ 0 → slice_index words k ≡ 0)
    → slice_index words k ≡ slice_index (row_of e l1 words (k / e)) (k % e)
word_in_row e l1 words k some unnamed = elim (cases_eq (host_offset (slice_index l1 (k / e))) 0) [
  | inl none ↦ let test = eq-eqb (host_offset (slice_index l1 (k / e))) 0 none in rw test (unnamed none)
  | inr named ↦
      let test = ne_eqb (host_offset (slice_index l1 (k / e))) 0 named in
      rw test (sym (get_or-take e (drop (k / e * e) words) (k % e) 0 (mod_below k e some)
      ∙ get_or-drop (k / e * e) words (k % e) 0
      ∙ ap (λ (j : ℕ). get_or words j 0) (div-add-mod' k e)))
]

word_of_tree : (c : ℕ) (l1 words : List ℕ) (k : ℕ) → k < length l1 * entries_in_cluster c
    → (host_offset (slice_index l1 (k / entries_in_cluster c)) ≡ 0 → slice_index words k ≡ 0)
    → slice_index words k ≡ l2_word_of (tree_of (entries_in_cluster c) l1 words) c k
unfolding l2_word_of
word_of_tree c l1 words k below unnamed =
    let e : ℕ = entries_in_cluster c in
    let some : 0 < e = positive k (length l1) e below in
    word_in_row e l1 words k some unnamed ∙ sym (ap (λ (l : List ℕ). get_or l (k % e) 0) (row_at e l1 words (k / e) (div_below k e (length l1) some below)))

pub is_tree_of : (c : ℕ) (kept : KeptTables) → length kept.words ≡ length kept.l1 * entries_in_cluster c
    → AreUnnamedZero (entries_in_cluster c) kept.l1 kept.words (length kept.words)
    → IsTreeOf c kept (tree_of (entries_in_cluster c) kept.l1 kept.words)
is_tree_of c kept count unnamed = record {
  l1 = refl;
  entries = count;
  words = λ k below. word_of_tree c kept.l1 kept.words k (omega (arith, count)) (unnamed k below);
}

-- a read that stops refuses nothing
not_refused : (stop : TablesStop) → IsTablesReadStop stop → IsTableRefusal stop → ⊥
not_refused (Io count) is named = named
not_refused NoMemory is named = named
not_refused (Offset offset) is named = is
not_refused (ReservedInL1 index) is named = is
not_refused (ReservedInL2 table index) is named = is
not_refused (Compressed cluster) is named = is

-- only the offset of the L1 table is named, where it is bad
pub names_l1 : (h : Header) (len : ℕ) (stop : TablesStop) (off : ℕ) → Some stop ≡ option_map Offset (bad_l1_table h len) → bad_l1_table h len ≡ Some off → stop ≡ Offset off
names_l1 h len stop off is bad = let both : Some stop ≡ Some (Offset off) = is ∙ ap (option_map Offset) bad in cc

-- an error that is passed on is the one that the call is known to answer
pub same_error : {A B : Type 0} (r : Result B TablesStop) (x : Result A TablesStop) (e stop other : TablesStop)
    → r ≡ Err e → e ≡ stop → x ≡ Err stop → x ≡ Err other → r ≡ Err other
same_error r x e stop other is by was known = let named : stop ≡ other = cc in is ∙ ap Err (by ∙ named)

-- What is answered of the tree that was read.

module _ (told : Option (List ℕ)) (h : Header) (len : ℕ) (sized : (file : List ℕ) → told ≡ Some file → len ≡ length file) where
  -- of each tree
  pub refused_each : (stop : TablesStop) → ((tree : Tree) → IsTableRefusal stop → load_refusal h len tree ≡ Some stop)
      → WasRead told (λ file. active_tree file h) (AnswersTree h len (Err stop))
  refused_each stop each =
      let of_file : (file : List ℕ) → len ≡ length file → AnswersTree h len (Err stop) (active_tree file h) = λ file size. record {
        entries = length_l1 file (cluster_size h.cluster_bits) h.l1_offset h.l1_size;
        rows = rows_of_active file h;
        stands = active_stands file h len size;
        loads = each (active_tree file h);
      } in
      was_read told (λ file. active_tree file h) (AnswersTree h len (Err stop)) (active_tree (replicate len 0) h)
      (λ file is. of_file file (sized file is)) (of_file (replicate len 0) (sym (length-replicate {A = ℕ} len 0)))

  pub stopped_reading : (stop : TablesStop) → IsTablesReadStop stop → WasRead told (λ file. active_tree file h) (AnswersTree h len (Err stop))
  stopped_reading stop is = refused_each stop (λ tree named. absurd (not_refused stop is named))

  pub refused_table : (stop : TablesStop) → option_map Offset (bad_l1_table h len) ≡ Some stop → WasRead told (λ file. active_tree file h) (AnswersTree h len (Err stop))
  refused_table stop is = refused_each stop (λ tree named. refused_at_table h len tree stop is)

  -- of a tree with these words in its L1 table
  pub refused_l1 : (c : ℕ) (l1 : List ℕ) (stop : TablesStop) → c ≡ cluster_size h.cluster_bits → length l1 ≡ h.l1_size
      → ((file : List ℕ) → told ≡ Some file → l1 ≡ words_at file h.l1_offset h.l1_size)
      → CanStandAt len h.l1_offset l1 → option_map Offset (bad_l1_table h len) ≡ None → misplaced_table c len l1 ≡ Some stop
      → WasRead told (λ file. active_tree file h) (AnswersTree h len (Err stop))
  refused_l1 c l1 stop size entries same stands table is =
      let e : ℕ = entries_of h in
      let words : List ℕ = replicate (length l1 * e) 0 in
      was_read told (λ file. active_tree file h) (AnswersTree h len (Err stop)) (tree_of e l1 words)
      (λ file here. record {
        entries = length_l1 file (cluster_size h.cluster_bits) h.l1_offset h.l1_size;
        rows = rows_of_active file h;
        stands = active_stands file h len (sized file here);
        loads = λ named. refused_at_l1 h c len (active_tree file h) l1 stop size (same file here ∙ sym (l1_of_active file h)) table is;
      })
      (record {
        entries = entries;
        rows = rows_of e l1 words (length-replicate {A = ℕ} (length l1 * e) 0);
        stands = stands_of h len e l1 words stands (zero_rows_stand len e l1);
        loads = λ named. refused_at_l1 h c len (tree_of e l1 words) l1 stop size refl table is;
      })

  -- of a tree with all words that were kept, of which those under an entry that names no table are 0
  module _ (kept : KeptTables) (size : kept.c ≡ cluster_size h.cluster_bits) (l1 : length kept.l1 ≡ h.l1_size)
      (count : length kept.words ≡ length kept.l1 * entries_of h)
      (unnamed : AreUnnamedZero (entries_of h) kept.l1 kept.words (length kept.words))
      (l1_stands : CanStandAt len h.l1_offset kept.l1) (rows_stand : RowsStand len (entries_of h) kept.l1 kept.words)
      (same : (file : List ℕ) → told ≡ Some file → IsTreeOf (cluster_size h.cluster_bits) kept (active_tree file h))
      (table : option_map Offset (bad_l1_table h len) ≡ None) (tables : misplaced_table kept.c len kept.l1 ≡ None) where
    abbrev IsReadTree : Tree → Type 0
    IsReadTree tree = IsTreeOf (cluster_size h.cluster_bits) kept tree × HasRows (entries_of h) tree × TreeStands h len tree

    tree_read : WasRead told (λ file. active_tree file h) IsReadTree
    tree_read =
        was_read told (λ file. active_tree file h) IsReadTree (tree_of (entries_of h) kept.l1 kept.words)
        (λ file is. (same file is, rows_of_active file h, active_stands file h len (sized file is))) (
          is_tree_of (cluster_size h.cluster_bits) kept count unnamed,
          rows_of (entries_of h) kept.l1 kept.words count,
          stands_of h len (entries_of h) kept.l1 kept.words l1_stands rows_stand,
        )

    pub refused_kept : (stop : TablesStop) → refused_words kept.c len kept.l1 kept.words ≡ Some stop
        → WasRead told (λ file. active_tree file h) (AnswersTree h len (Err stop))
    refused_kept stop is =
        read_map told (λ file. active_tree file h) IsReadTree (AnswersTree h len (Err stop))
        (λ tree of. record {
          entries = ap length (sym of.0.l1) ∙ l1;
          rows = of.1;
          stands = of.2;
          loads = λ named. refused_of h len kept tree size of.0 table tables ∙ is;
        })
        tree_read

    pub loaded_kept : refused_words kept.c len kept.l1 kept.words ≡ None → WasRead told (λ file. active_tree file h) (AnswersTree h len (Ok kept))
    loaded_kept is =
        read_map told (λ file. active_tree file h) IsReadTree (AnswersTree h len (Ok kept))
        (λ tree of. record {
          entries = ap length (sym of.0.l1) ∙ l1;
          rows = of.1;
          stands = of.2;
          loads = (refused_of h len kept tree size of.0 table tables ∙ is, of.0);
        })
        tree_read
