-- The words that are read are the tree's, and what is refused of them is what is refused of the tree.
use Rattle.std.proofs.Common.{◌≡◌, ◌≢◌, ℕ, zero, suc, ◌+◌, ◌-◌, ◌*◌, ◌/◌, ◌%◌, ◌<◌, ◌≤◌, inl, inr, List, [], ◌++◌, length, take, drop, get_or, slice_index, refl, sym, ap, ◌∙◌, subst, arith}
use Rattle.std.proofs.lemmas.Bool.{cases_lt, eq-eqb, ne_eqb}
use Rattle.std.proofs.lemmas.List.{ext_get_or, get_or-drop, get_or-take, get_or-append-add, length-take, length-take-le, length-drop, length-append}
use Rattle.std.proofs.lemmas.Nat.{div-mul-add, mod-mul-add, div_below}
use Rattle.std.proofs.lemmas.Slice.{take-put_mid_below, take-put_mid, drop-put_mid}
use borrow.Rule.Slice.PartMut.{put_mid, mid_of}
use Rattle.byteorder.specs.Endian.{big_number, IsRead}
use Rattle.blk_base.specs.Content as content
use Rattle.blk_base.proofs.Contents as contents
use Rattle.q2_format.specs.Bytes.{CanStandAt, number_at, words_at}
use Rattle.q2_format.specs.Sizes.{cluster_size, entries_in_cluster}
use Rattle.q2_format.specs.Entry.{host_offset}
use Rattle.q2_format.specs.Tables.{active_tree, tree_at, l2_table, l2_word_of}
use Rattle.q2_format.specs.declared.header.Header.{Header}
use Rattle.q2_format.proofs.Trees.{l1_of_tree, l2_of_tree}
use Rattle.q2_tables.specs.Kept.{KeptTables, IsTreeOf}
use Rattle.q2_tables.specs.Loading.{RowsStand}
use Rattle.q2_tables.specs.Words.{AreTablesOf, AreUnnamedZero}
use Rattle.q2_format.proofs.ByPlace.{big_from-moved, get_or-words_at, length-words_at}
use Rattle.q2_format.proofs.Standing.{words_stand}

-- Words out of a buffer.

-- a number of a buffer that was read from a file
buffer_number : (file buffer : List ℕ) (at n k w : ℕ) → buffer ≡ content.bytes_at file at n → k + w ≤ n
    → big_number w (drop k buffer) ≡ number_at file (at + k) w
unfolding number_at
buffer_number file buffer at n k w is fits = big_from-moved w 0 (at + k) (drop k buffer) file
    (λ i below. get_or-drop k buffer (0 + i) 0
    ∙ ap (λ (xs : List ℕ). get_or xs (k + (0 + i)) 0) is
    ∙ contents.get_or-bytes_at file at n (k + (0 + i)) (omega arith)
    ∙ ap (λ (j : ℕ). get_or file j 0) (omega arith))

pub words_of_buffer : (file buffer words : List ℕ) (at n : ℕ) → buffer ≡ content.bytes_at file at (8 * n) → length words ≡ n
    → IsRead big_number 8 buffer words → words ≡ words_at file at n
words_of_buffer file buffer words at n is len each = ext_get_or 0 words (words_at file at n) (len ∙ sym (length-words_at file at n))
    (λ k below. each k below ∙ buffer_number file buffer at (8 * n) (8 * k) 8 is (omega (arith, len))
    ∙ sym (get_or-words_at file at n k (omega (arith, len))))

-- a number of a buffer, whatever it was read from
own_number : (buffer : List ℕ) (k w : ℕ) → big_number w (drop k buffer) ≡ number_at buffer k w
unfolding number_at
own_number buffer k w = big_from-moved w 0 k (drop k buffer) buffer
    (λ i below. get_or-drop k buffer (0 + i) 0 ∙ ap (λ (j : ℕ). get_or buffer j 0) (omega arith))

-- words out of one that is 0 past the end of a file can stand in a file that is as long
pub buffer_stands : (buffer words : List ℕ) (len at : ℕ) → content.AreZeroPast len at buffer → IsRead big_number 8 buffer words → CanStandAt len at words
buffer_stands buffer words len at past each = words_stand len at buffer past words (λ k below. each k below ∙ own_number buffer (8 * k) 8)

pub read_of_length : (file buffer : List ℕ) (at n m : ℕ) → buffer ≡ content.bytes_at file at n → n ≡ m → buffer ≡ content.bytes_at file at m
read_of_length file buffer at n m is same = is ∙ ap (content.bytes_at file at) same

-- A part of a list that was written anew.

module _ (xs ys : List ℕ) (a k n : ℕ) (fits : a + n ≤ length xs) (size : k ≡ n) (whole : length ys ≡ n) where
  part_before : (i : ℕ) → i < a → get_or (put_mid a k xs ys) i 0 ≡ get_or xs i 0
  part_before i h =
      sym (get_or-take a (put_mid a k xs ys) i 0 h)
      ∙ ap (λ (l : List ℕ). get_or l i 0) (take-put_mid_below a k xs ys a (omega arith) (omega arith))
      ∙ get_or-take a xs i 0 h

  part_inside : (j : ℕ) → j < n → get_or (put_mid a k xs ys) (a + j) 0 ≡ get_or ys j 0
  part_inside j h =
      let front : length (take a xs) ≡ a = rw length-take (omega arith) in
      let place : a + j ≡ length (take a xs) + j = omega (arith, front) in
      sym (get_or-take (a + n) (put_mid a k xs ys) (a + j) 0 (omega arith))
      ∙ ap (λ (l : List ℕ). get_or l (a + j) 0) (take-put_mid a k xs ys (a + n) (omega arith) (omega arith))
      ∙ ap (λ (i : ℕ). get_or (take a xs ++ ys) i 0) place
      ∙ get_or-append-add (take a xs) ys j 0

  part_behind : (i : ℕ) → a + n ≤ i → get_or (put_mid a k xs ys) i 0 ≡ get_or xs i 0
  part_behind i h =
      let place : a + n + (i - (a + n)) ≡ i = omega arith in
      ap (λ (j : ℕ). get_or (put_mid a k xs ys) j 0) (sym place)
      ∙ sym (get_or-drop (a + n) (put_mid a k xs ys) (i - (a + n)) 0)
      ∙ ap (λ (l : List ℕ). get_or l (i - (a + n)) 0) (drop-put_mid a k xs ys (a + n) (omega arith) (omega arith) (omega arith))
      ∙ get_or-drop (a + n) xs (i - (a + n)) 0
      ∙ ap (λ (j : ℕ). get_or xs j 0) place

part_length : (xs : List ℕ) (a k n : ℕ) → a + n ≤ length xs → k ≡ n → length (mid_of a k xs) ≡ n
part_length xs a k n fits size = rw (length-take, length-drop) (omega arith)

pub row_size : (i e : ℕ) → (i + 1) * e - i * e ≡ e
row_size i e = let row : (i + 1) * e ≡ i * e + e = omega arith in omega (arith, row)

pub rows_fit : (i n e len : ℕ) → i < n → len ≡ n * e → (i + 1) * e ≤ len
rows_fit i n e len below is = grind arith

-- The L2 tables, one behind the other.

-- the word of the L2 entry of a guest cluster
abbrev pub table_word : List ℕ → ℕ → List ℕ → ℕ → ℕ
table_word file c l1 k = slice_index (l2_table file c (slice_index l1 (k / entries_in_cluster c))) (k % entries_in_cluster c)

-- the words of the first i tables are there
pub record HasTables (file : List ℕ) (c i : ℕ) (l1 words : List ℕ) : Type 0 where
  pub each : (k : ℕ) → k < i * entries_in_cluster c → slice_index words k ≡ table_word file c l1 k

-- all words from the i-th table on are 0
abbrev pub HasZerosFrom : ℕ → ℕ → List ℕ → Type 0
HasZerosFrom entries i words = (k : ℕ) → i * entries ≤ k → slice_index words k ≡ 0

pub table_word-at : (file : List ℕ) (c : ℕ) (l1 : List ℕ) (i j : ℕ) → j < entries_in_cluster c
    → table_word file c l1 (i * entries_in_cluster c + j) ≡ slice_index (l2_table file c (slice_index l1 i)) j
table_word-at file c l1 i j h =
    let row = div-mul-add i (entries_in_cluster c) j h in
    let column = mod-mul-add i (entries_in_cluster c) j h in
    rw (row, column) refl

-- one more table
more_tables : (file : List ℕ) (c i : ℕ) (l1 old new : List ℕ) → HasTables file c i l1 old
    → ((k : ℕ) → k < i * entries_in_cluster c → slice_index new k ≡ slice_index old k)
    → ((j : ℕ) → j < entries_in_cluster c → slice_index new (i * entries_in_cluster c + j) ≡ slice_index (l2_table file c (slice_index l1 i)) j)
    → HasTables file c (i + 1) l1 new
more_tables file c i l1 old new had same here = record {
  each = λ k below. elim (cases_lt k (i * entries_in_cluster c)) [
    | inl before ↦ same k before ∙ had.each k before
    | inr from ↦
        let e : ℕ = entries_in_cluster c in
        let place : i * e + (k - i * e) ≡ k = omega arith in
        let row : (i + 1) * e ≡ i * e + e = omega arith in
        let column : k - i * e < e = omega (arith, row) in
        ap (λ (n : ℕ). slice_index new n) (sym place) ∙ here (k - i * e) column
        ∙ sym (table_word-at file c l1 i (k - i * e) column) ∙ ap (table_word file c l1) place
  ];
}

-- an entry that names no table
pub no_table : (file : List ℕ) (c i : ℕ) (l1 words : List ℕ) → HasTables file c i l1 words → HasZerosFrom (entries_in_cluster c) i words
    → host_offset (slice_index l1 i) ≡ 0 → HasTables file c (i + 1) l1 words
unfolding l2_table
no_table file c i l1 words had zeros_there none =
    let test = eq-eqb (host_offset (slice_index l1 i)) 0 none in
    more_tables file c i l1 words words had (λ k below. refl)
    (λ j below. zeros_there (i * entries_in_cluster c + j) (omega arith) ∙ rw test refl)

-- one that names a table, which was read
pub one_table : (file : List ℕ) (c i k at : ℕ) (l1 words table : List ℕ) → HasTables file c i l1 words
    → host_offset (slice_index l1 i) ≢ 0 → at ≡ host_offset (slice_index l1 i)
    → table ≡ words_at file at (length (mid_of (i * entries_in_cluster c) k words))
    → (i + 1) * entries_in_cluster c ≤ length words → k ≡ entries_in_cluster c
    → HasTables file c (i + 1) l1 (put_mid (i * entries_in_cluster c) k words table)
unfolding l2_table
one_table file c i k at l1 words table had some there read fits size =
    let e : ℕ = entries_in_cluster c in
    let offset : ℕ = host_offset (slice_index l1 i) in
    let test = ne_eqb offset 0 some in
    let room : i * e + e ≤ length words = omega arith in
    let is : table ≡ words_at file offset e = read ∙ ap (words_at file at) (part_length words (i * e) k e room size) ∙ ap (λ (o : ℕ). words_at file o e) there in
    let whole : length table ≡ e = ap length is ∙ length-words_at file offset e in
    more_tables file c i l1 words (put_mid (i * e) k words table) had
    (part_before words table (i * e) k e room size whole)
    (λ j below. part_inside words table (i * e) k e room size whole j below ∙ rw test (ap (λ (l : List ℕ). get_or l j 0) is))

pub zeros_behind : (e i k : ℕ) (words table : List ℕ) → HasZerosFrom e i words → (i + 1) * e ≤ length words → k ≡ e
    → length table ≡ length (mid_of (i * e) k words) → HasZerosFrom e (i + 1) (put_mid (i * e) k words table)
zeros_behind e i k words table zeros_there fits size same = λ n from.
    let room : i * e + e ≤ length words = omega arith in
    let whole : length table ≡ e = same ∙ part_length words (i * e) k e room size in
    part_behind words table (i * e) k e room size whole n (omega arith) ∙ zeros_there n (omega arith)

pub fewer_zeros : (e i : ℕ) (words : List ℕ) → HasZerosFrom e i words → HasZerosFrom e (i + 1) words
fewer_zeros e i words zeros_there = λ n from. zeros_there n (omega arith)

pub row_below : (n i e k : ℕ) → n ≤ i → k < n * e → k < i * e
row_below n i e k past below = grind arith

-- The L2 tables, each at its place in a file of so many bytes.

-- a row, by its words
pub row_is : (e a : ℕ) (xs row : List ℕ) → a + e ≤ length xs → length row ≡ e → ((j : ℕ) → j < e → get_or xs (a + j) 0 ≡ get_or row j 0) → take e (drop a xs) ≡ row
row_is e a xs row fits whole each =
    let len : length (take e (drop a xs)) ≡ e = length-take-le e (drop a xs) (omega (arith, fits, length-drop a xs)) in
    ext_get_or 0 (take e (drop a xs)) row (len ∙ sym whole)
    (λ j below. get_or-take e (drop a xs) j 0 (omega (arith, len)) ∙ get_or-drop a xs j 0 ∙ each j (omega (arith, len)))

length_put_mid : (a k n : ℕ) (xs ys : List ℕ) → a + n ≤ length xs → k ≡ n → length ys ≡ n → length (put_mid a k xs ys) ≡ length xs
length_put_mid a k n xs ys fits size whole = rw (length-append, length-append, length-take, length-drop, length-drop) (omega (arith, fits, size, whole))

-- the tables of the first i entries stand
abbrev pub StandBelow : ℕ → ℕ → ℕ → List ℕ → List ℕ → Type 0
StandBelow len e i l1 words = (j : ℕ) → j < i → host_offset (slice_index l1 j) ≢ 0 → CanStandAt len (host_offset (slice_index l1 j)) (take e (drop (j * e) words))

-- an entry that names no table
pub stand_passed : (len e i : ℕ) (l1 words : List ℕ) → StandBelow len e i l1 words → host_offset (slice_index l1 i) ≡ 0 → StandBelow len e (i + 1) l1 words
stand_passed len e i l1 words had none = λ j below named. elim (cases_lt j i) [
  | inl before ↦ had j before named
  | inr from ↦ let here : j ≡ i = omega arith in absurd (named (ap (λ (n : ℕ). host_offset (slice_index l1 n)) here ∙ none))
]

-- one that names a table, which was read
pub stand_read : (len e i k at : ℕ) (l1 words table : List ℕ) → StandBelow len e i l1 words → at ≡ host_offset (slice_index l1 i) → CanStandAt len at table
    → (i + 1) * e ≤ length words → k ≡ e → length table ≡ length (mid_of (i * e) k words) → StandBelow len e (i + 1) l1 (put_mid (i * e) k words table)
stand_read len e i k at l1 words table had there stands fits size same =
    let room : i * e + e ≤ length words = omega arith in
    let whole : length table ≡ e = same ∙ part_length words (i * e) k e room size in
    let new : List ℕ = put_mid (i * e) k words table in
    let as_long : length new ≡ length words = length_put_mid (i * e) k e words table room size whole in
    λ j below named. elim (cases_lt j i) [
      | inl before ↦
          let behind : (j + 1) * e ≤ i * e = rows_fit j i e (i * e) before refl in
          let row : (j + 1) * e ≡ j * e + e = omega arith in
          let inside : j * e + e ≤ length words = omega (arith, behind, row, room) in
          let old : List ℕ = take e (drop (j * e) words) in
          let old_size : length old ≡ e = length-take-le e (drop (j * e) words) (omega (arith, inside, length-drop (j * e) words)) in
          let kept : take e (drop (j * e) new) ≡ old = row_is e (j * e) new old (omega (arith, inside, as_long)) old_size
          (λ n column. part_before words table (i * e) k e room size whole (j * e + n) (omega (arith, behind, row))
          ∙ sym (get_or-take e (drop (j * e) words) n 0 column ∙ get_or-drop (j * e) words n 0)) in
          subst (CanStandAt len (host_offset (slice_index l1 j))) (sym kept) (had j before named)
      | inr from ↦
          let here : j ≡ i = omega arith in
          let read : take e (drop (i * e) new) ≡ table = row_is e (i * e) new table (omega (arith, room, as_long)) whole
          (part_inside words table (i * e) k e room size whole) in
          let P : ℕ → Type 0 = λ n. CanStandAt len (host_offset (slice_index l1 n)) (take e (drop (n * e) new)) in
          subst P (sym here) (subst (CanStandAt len (host_offset (slice_index l1 i))) (sym read) (subst (λ (n : ℕ). CanStandAt len n table) there stands))
    ]

-- after the last
pub all_stand : (len e i : ℕ) (l1 words : List ℕ) → StandBelow len e i l1 words → length l1 ≤ i → RowsStand len e l1 words
all_stand len e i l1 words had past = λ j below. had j (omega arith)

pub rows_kept : (len m e f : ℕ) (l n words : List ℕ) → len ≡ m → e ≡ f → l ≡ n → RowsStand len e l words → RowsStand m f n words
rows_kept len m e f l n words size same list had =
    subst (λ (x : List ℕ). RowsStand m f x words) list (subst (λ (x : ℕ). RowsStand m x l words) same (subst (λ (x : ℕ). RowsStand x e l words) size had))

-- Words under entries that name no table.

unnamed_further : (e i : ℕ) (l1 old new : List ℕ) → AreUnnamedZero e l1 old (i * e) → ((k : ℕ) → k < i * e → get_or new k 0 ≡ get_or old k 0)
    → (host_offset (get_or l1 i 0) ≡ 0 → (k : ℕ) → i * e ≤ k → get_or new k 0 ≡ 0) → AreUnnamedZero e l1 new ((i + 1) * e)
unnamed_further e i l1 old new had same here = λ k below none. elim (cases_lt k (i * e)) [
  | inl before ↦ same k before ∙ had k before none
  | inr from ↦
      let place : i * e + (k - i * e) ≡ k = omega arith in
      let row : (i + 1) * e ≡ i * e + e = omega arith in
      let column : k - i * e < e = omega (arith, row) in
      let at : k / e ≡ i = ap (λ (m : ℕ). m / e) (sym place) ∙ div-mul-add i e (k - i * e) column in
      here (ap (λ (m : ℕ). host_offset (get_or l1 m 0)) (sym at) ∙ none) k from
]

pub unnamed_passed : (e i : ℕ) (l1 words : List ℕ) → AreUnnamedZero e l1 words (i * e) → HasZerosFrom e i words → AreUnnamedZero e l1 words ((i + 1) * e)
unnamed_passed e i l1 words had zeros_there = unnamed_further e i l1 words words had (λ k below. refl) (λ none. zeros_there)

pub unnamed_read : (e i k : ℕ) (l1 words table : List ℕ) → AreUnnamedZero e l1 words (i * e) → host_offset (get_or l1 i 0) ≢ 0 → (i + 1) * e ≤ length words
    → k ≡ e → length table ≡ length (mid_of (i * e) k words) → AreUnnamedZero e l1 (put_mid (i * e) k words table) ((i + 1) * e)
unnamed_read e i k l1 words table had some fits size same =
    let room : i * e + e ≤ length words = omega arith in
    let whole : length table ≡ e = same ∙ part_length words (i * e) k e room size in
    unnamed_further e i l1 words (put_mid (i * e) k words table) had (part_before words table (i * e) k e room size whole) (λ none. absurd (some none))

pub all_unnamed : (e n i len : ℕ) (l1 words : List ℕ) → AreUnnamedZero e l1 words (i * e) → n ≤ i → len ≡ n * e → AreUnnamedZero e l1 words len
all_unnamed e n i len l1 words had past is = λ k below. had k (row_below n i e k past (omega (arith, below, is)))

pub unnamed_kept : (e f : ℕ) (l m words : List ℕ) (n len : ℕ) → e ≡ f → l ≡ m → n ≡ len → AreUnnamedZero e l words n → AreUnnamedZero f m words len
unnamed_kept e f l m words n len same list size had =
    subst (λ (x : ℕ). AreUnnamedZero f m words x) size (subst (λ (x : List ℕ). AreUnnamedZero f x words n) list (subst (λ (x : ℕ). AreUnnamedZero x l words n) same had))

-- after the last
pub all_tables : (file : List ℕ) (c i : ℕ) (l1 words : List ℕ) → HasTables file c i l1 words → length l1 ≤ i → AreTablesOf file c l1 words
all_tables file c i l1 words had past = record {
  each = λ k below. had.each k (row_below (length l1) i (entries_in_cluster c) k past below);
}

-- The words are those of the tree.

pub positive : (k n e : ℕ) → k < n * e → 0 < e
positive k n zero below = absurd (omega arith)
positive k n (suc e) below = omega arith

pub l1_of_active : (file : List ℕ) (h : Header) → (active_tree file h).l1 ≡ words_at file h.l1_offset h.l1_size
l1_of_active file h = l1_of_tree file (cluster_size h.cluster_bits) h.l1_offset h.l1_size

pub words_of_tree : (file : List ℕ) (c at n : ℕ) (l1 words : List ℕ) → l1 ≡ words_at file at n → AreTablesOf file c l1 words
    → (k : ℕ) → k < length l1 * entries_in_cluster c → slice_index words k ≡ l2_word_of (tree_at file c at n) c k
unfolding l2_word_of
words_of_tree file c at n l1 words is tables k below =
    let e : ℕ = entries_in_cluster c in
    let len : length l1 ≡ n = ap length is ∙ length-words_at file at n in
    let row : k / e < n = omega (arith, div_below k e (length l1) (positive k (length l1) e below) below) in
    let l1_is : l1 ≡ (tree_at file c at n).l1 = is ∙ sym (l1_of_tree file c at n) in
    let table : get_or (tree_at file c at n).l2 (k / e) [] ≡ l2_table file c (get_or l1 (k / e) 0) =
    l2_of_tree file c at n (k / e) row ∙ ap (λ (l : List ℕ). l2_table file c (get_or l (k / e) 0)) (sym l1_is) in
    tables.each k below ∙ ap (λ (l : List ℕ). get_or l (k % e) 0) (sym table)

pub are_tree : (file : List ℕ) (h : Header) (kept : KeptTables) → kept.c ≡ cluster_size h.cluster_bits → kept.l1 ≡ words_at file h.l1_offset h.l1_size
    → AreTablesOf file kept.c kept.l1 kept.words → length kept.words ≡ length kept.l1 * entries_in_cluster kept.c
    → IsTreeOf (cluster_size h.cluster_bits) kept (active_tree file h)
are_tree file h kept size l1 tables count =
    let c : ℕ = cluster_size h.cluster_bits in
    let P : ℕ → Type 0 = λ n. AreTablesOf file n kept.l1 kept.words in
    let tables_c : AreTablesOf file c kept.l1 kept.words = subst P size tables in
    let count_c : length kept.words ≡ length kept.l1 * entries_in_cluster c = count ∙ ap (λ (n : ℕ). length kept.l1 * entries_in_cluster n) size in
    record {
      l1 = l1 ∙ sym (l1_of_active file h);
      entries = count_c;
      words = λ k below. words_of_tree file c h.l1_offset h.l1_size kept.l1 kept.words l1 tables_c k (omega (arith, count_c));
    }

-- the same with the slices that were passed
pub read_as : (file : List ℕ) (h : Header) (kept : KeptTables) (c : ℕ) (l1 : List ℕ) → kept.c ≡ cluster_size h.cluster_bits → kept.l1 ≡ words_at file h.l1_offset h.l1_size
    → c ≡ kept.c → l1 ≡ kept.l1 → AreTablesOf file c l1 kept.words → length kept.words ≡ length l1 * entries_in_cluster c
    → IsTreeOf (cluster_size h.cluster_bits) kept (active_tree file h)
read_as file h kept c l1 size is same_c same_l1 tables count =
    let P : ℕ → Type 0 = λ n. AreTablesOf file n l1 kept.words in
    let Q : List ℕ → Type 0 = λ l. AreTablesOf file kept.c l kept.words in
    are_tree file h kept size is (subst Q same_l1 (subst P same_c tables))
    (count ∙ ap (λ (n : ℕ). length l1 * entries_in_cluster n) same_c ∙ ap (λ (l : List ℕ). length l * entries_in_cluster kept.c) same_l1)

-- a buffer that was lent keeps its length
pub filled_again : (n : ℕ) (new old : List ℕ) → n ≡ length old → length new ≡ length old → length (take n (new ++ drop (length new) old)) ≡ length old
filled_again n new old is same = rw (length-take, length-append, length-drop) (omega arith)
