-- The writes of a link, wherever they stop: the entry is as before, or it is the new one.
use Rattle.std.proofs.Common.{◌≡◌, ◌≢◌, ℕ, ◌+◌, ◌*◌, ◌/◌, ◌%◌, ◌^◌, ◌<◌, ◌≤◌, inl, inr, max, List, [], ◌∷◌, ◌++◌, length, take, drop, replicate, get_or, Some, refl, sym, subst, arith}
use Rattle.std.proofs.lemmas.Bool.{cases_eq, cases_lt, ne_eqb}
use Rattle.std.proofs.lemmas.List.{length-take, length-replicate, get_or-replicate, get_or_past, take_all}
use Rattle.blk_base.specs.Content.{with_bytes, size_with}
use Rattle.blk_base.specs.Writes.{write_of, AtEachStop}
use Rattle.blk_base.proofs.Contents.{length-with_bytes}
use Rattle.blk_base.proofs.WriteLists.{at_each_stop-one, at_each_stop-sector, at_each_stop-then}
use Rattle.byteorder.specs.Endian.{big_bytes}
use Rattle.byteorder.specs.Numbers.{length-bytes_high_first}
use Rattle.q2_format.specs.Sizes.{entries_in_cluster}
use Rattle.q2_format.specs.Tables.{tree_at}
use Rattle.q2_format.proofs.ByPlace.{written_by_list}
use Rattle.q2_tables.specs.Kept.{KeptTables, IsTreeOf}
use Rattle.q2_tables.specs.Linking.{CanLink, HasOneEntry, IsOldOrLinked, LiesApart, TableAfter, entry_at, entry_write, l1_index, l1_spelling, link_end, link_writes, new_table, table_len, table_of}
use Rattle.q2_tables.proofs.Loaded.{positive}
use Rattle.q2_tables.proofs.LinkWrites.{length-new_table, table_made}
use Rattle.q2_tables.proofs.Links.{entry_linked, table_linked, table_stopped}
use Rattle.q2_tables.proofs.Written.{entry_after, one_entry, table_after}

zero_there : (n i : ℕ) → get_or (replicate {A = ℕ} n 0) i 0 ≡ 0
zero_there n i = elim (cases_lt i n) [
  | inl inside ↦ get_or-replicate n i 0 0 inside
  | inr past ↦ get_or_past (replicate {A = ℕ} n 0) i 0 (omega (arith, past, length-replicate {A = ℕ} n 0))
]

-- a new table has one entry
one_in_table : (n column word : ℕ) → 8 * column + 8 ≤ n → column < n / 8 → word < 2 ^ 64 → HasOneEntry (new_table n column word) 0 (n / 8) column word
one_in_table n column word fits below small =
    let zeros : List ℕ = replicate n 0 in
    let bytes : List ℕ = big_bytes 8 word in
    let eight = length-bytes_high_first 8 word in
    let len = length-replicate {A = ℕ} n 0 in
    let list : List ℕ = take (8 * column) (replicate n 0) ++ big_bytes 8 word ++ drop (8 * column + length (big_bytes 8 word)) (replicate n 0) in
    let made = table_made n column word zeros bytes list refl refl fits refl in
    one_entry zeros (new_table n column word) (n / 8) column word (λ i. zero_there n i)
    (written_by_list zeros (new_table n column word) bytes (8 * column) (omega (arith, len, eight)) (sym made)) small below

-- how long a file is behind a write
grown : (old : List ℕ) (at : ℕ) (xs : List ℕ) → (length old ≤ length (with_bytes old at xs)) × (length (with_bytes old at xs) ≤ max (length old) (at + length xs))
grown old at xs = let len = length-with_bytes old at xs in let more = longer (length old) xs in (omega (arith, len, more.0), omega (arith, len, more.1))
  where
    longer : (size : ℕ) (bytes : List ℕ) → (size ≤ size_with size at bytes) × (size_with size at bytes ≤ max size (at + length bytes))
    longer size [] = (omega arith, omega arith)
    longer size (byte ∷ bytes) = (omega arith, omega arith)

pub reaching : (old : List ℕ) (at : ℕ) (xs : List ℕ) → 0 < length xs → at + length xs ≤ length (with_bytes old at xs)
reaching old at xs some = let len = length-with_bytes old at xs in let reach = more xs some in omega (arith, len, reach)
  where
    more : (bytes : List ℕ) → 0 < length bytes → at + length bytes ≤ size_with (length old) at bytes
    more [] none = absurd (omega arith)
    more (byte ∷ bytes) h = omega arith

-- eight bytes at a multiple of 8 lie within a sector
in_sector : (at : ℕ) → at % 8 ≡ 0 → at % 512 + 8 ≤ 512
in_sector at even = omega (arith, even)

module _ (file : List ℕ) (kept : KeptTables) (cluster word table : ℕ) (can : CanLink kept cluster table) (apart : LiesApart kept cluster table) (small : word < 2 ^ 64)
    (tree : IsTreeOf kept.c kept (tree_at file kept.c kept.l1_offset (length kept.l1))) (aligned : kept.l1_offset % 8 ≡ 0) where
  abbrev P : List ℕ → Type 0
  P = IsOldOrLinked kept cluster word table file

  some_bytes : 8 ≤ kept.c
  some_bytes =
      let rows : cluster < length kept.l1 * entries_in_cluster kept.c = subst (λ (m : ℕ). cluster < m) tree.entries can.below in
      let some = positive cluster (length kept.l1) (entries_in_cluster kept.c) rows in
      omega (arith, some)

  -- nothing is written
  as_before : P file
  as_before = record {
    grows = omega arith;
    bound = omega arith;
    left = inl (record { file = file; is = refl; tree = tree; outside = λ i entry_side table_side. refl });
  }

  -- the L2 entry alone
  module _ (none : table ≡ 0) where
    abbrev at : ℕ
    at = entry_at kept cluster 0

    entry_made : P (with_bytes file at (big_bytes 8 word))
    entry_made =
        let C : ℕ → Type 0 = λ t. CanLink kept cluster t in
        let A : ℕ → Type 0 = λ t. LiesApart kept cluster t in
        let Q : ℕ → Type 0 = λ t. IsOldOrLinked kept cluster word t file (with_bytes file at (big_bytes 8 word)) in
        let after = entry_linked kept cluster word file (Some file) (Some (with_bytes file at (big_bytes 8 word))) (subst C none can) (subst A none apart) small refl tree refl in
        let eight = length-bytes_high_first 8 word in
        let size = grown file at (big_bytes 8 word) in
        let here : Q 0 = record {
          grows = size.0;
          bound = let bound = size.1 in omega (arith, bound, eight);
          left = inr (after, omega arith);
        } in
        subst Q (sym none) here

    entry_stops : AtEachStop P (link_writes kept cluster word 0) file
    unfolding entry_write
    entry_stops =
        let eight = length-bytes_high_first 8 word in
        let place : at % 8 ≡ 0 = even (table_of kept cluster) (cluster % entries_in_cluster kept.c) (omega arith) in
        let inside : at % 512 + length (big_bytes 8 word) ≤ 512 = let sector = in_sector at place in omega (arith, eight, sector) in
        at_each_stop-sector P (write_of at (big_bytes 8 word)) file inside as_before entry_made
      where
        even : (t q : ℕ) → t % 512 ≡ 0 → (t + 8 * q) % 8 ≡ 0
        even t q aligned_table = omega (arith, aligned_table)

  -- a new table, and then the L1 entry
  module _ (some : table ≢ 0) where
    abbrev column : ℕ
    column = cluster % entries_in_cluster kept.c

    abbrev xs : List ℕ
    xs = new_table kept.c column word

    abbrev at_l1 : ℕ
    at_l1 = kept.l1_offset + 8 * l1_index kept cluster

    xs_len : length xs ≡ kept.c
    xs_len = length-new_table kept.c column word

    len_is : table_len kept table ≡ kept.c
    len_is = let test = ne_eqb table 0 some in rw test refl

    end_is : link_end kept cluster table ≡ max (table + kept.c) (at_l1 + 8)
    end_is = let test = ne_eqb table 0 some in rw test refl

    partly : (n : ℕ) → P (with_bytes file table (take n xs))
    partly n =
        let few : length (take n xs) ≤ kept.c = omega (arith, length-take n xs, xs_len) in
        let after : TableAfter file (Some (with_bytes file table (take n xs))) table kept.c =
        table_after (Some file) (Some (with_bytes file table (take n xs))) file (take n xs) table kept.c refl refl few
        in
        let size = grown file table (take n xs) in
        record {
          grows = size.0;
          bound = let bound = size.1 in omega (arith, bound, few, end_is);
          left = inl (table_stopped kept cluster table kept.c (entry_at kept cluster table) file (Some (with_bytes file table (take n xs))) can apart some tree after refl);
        }

    abbrev made : List ℕ
    made = with_bytes file table xs

    wholly : P made
    wholly =
        let W : List ℕ → Type 0 = λ ys. P (with_bytes file table ys) in
        subst W (take_all (length xs) xs (omega arith)) (partly (length xs))

    column_below : (column < kept.c / 8) × (8 * column + 8 ≤ kept.c)
    column_below =
        let inside : cluster % (kept.c / 8) < kept.c / 8 = omega (arith, some_bytes) in
        (inside, omega (arith, inside))

    all_made : P (with_bytes made at_l1 (big_bytes 8 (l1_spelling table)))
    all_made =
        let after : TableAfter file (Some made) table kept.c = table_after (Some file) (Some made) file xs table kept.c refl refl (omega (arith, xs_len)) in
        let one = one_in_table kept.c column word column_below.1 column_below.0 small in
        let inside : 8 * (kept.c / 8) ≤ length xs = omega (arith, xs_len) in
        let same : made ≡ after.file = let told : Some made ≡ Some after.file = after.is in cc in
        let E : List ℕ → Type 0 = λ f. HasOneEntry f table (kept.c / 8) column word in
        let there = subst E same (entry_after (Some file) (Some made) made xs table (kept.c / 8) column word refl refl inside column_below.0 one) in
        let new : List ℕ = with_bytes made at_l1 (big_bytes 8 (l1_spelling table)) in
        let test = ne_eqb table 0 some in
        let first = grown file table xs in
        let second = grown made at_l1 (big_bytes 8 (l1_spelling table)) in
        let reach = reaching file table xs (omega (arith, xs_len, some_bytes)) in
        let eight = length-bytes_high_first 8 (l1_spelling table) in
        record {
          grows = let low = first.0 in let high = second.0 in omega (arith, low, high);
          bound = let low = first.1 in let high = second.1 in omega (arith, low, high, xs_len, eight, end_is);
          left = inr (
            rw test (rw test at (table_linked kept cluster word table kept.c file (Some made) (Some new) can apart some tree after refl there refl)),
            let high = second.0 in omega (arith, reach, high, xs_len, len_is),
          );
        }

    table_stops : AtEachStop P (write_of table xs ∷ (entry_write at_l1 (l1_spelling table) ∷ [])) file
    unfolding entry_write
    table_stops =
        let eight = length-bytes_high_first 8 (l1_spelling table) in
        let place : at_l1 % 8 ≡ 0 = even kept.l1_offset (l1_index kept cluster) aligned in
        let inside : at_l1 % 512 + length (big_bytes 8 (l1_spelling table)) ≤ 512 = let sector = in_sector at_l1 place in omega (arith, eight, sector) in
        at_each_stop-then P (write_of table xs ∷ []) (write_of at_l1 (big_bytes 8 (l1_spelling table)) ∷ []) file
        (at_each_stop-one P (write_of table xs) file (λ n short border. partly n) wholly)
        (at_each_stop-sector P (write_of at_l1 (big_bytes 8 (l1_spelling table))) made inside wholly all_made)
      where
        even : (t q : ℕ) → t % 8 ≡ 0 → (t + 8 * q) % 8 ≡ 0
        even t q aligned_table = omega (arith, aligned_table)

  pub link_stops : AtEachStop P (link_writes kept cluster word table) file
  link_stops = elim (cases_eq table 0) [
    | inl none ↦
        let S : ℕ → Type 0 = λ t. AtEachStop P (link_writes kept cluster word t) file in
        subst S (sym none) (entry_stops none)
    | inr some ↦ let test = ne_eqb table 0 some in rw test (table_stops some)
  ]
