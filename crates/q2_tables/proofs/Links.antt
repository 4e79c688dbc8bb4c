-- The file behind a link.
use Rattle.std.proofs.Common.{◌≡◌, ◌≢◌, ◌⊎◌, ℕ, ◌+◌, ◌*◌, ◌/◌, ◌%◌, ◌^◌, ◌<◌, ◌≤◌, inl, inr, true, false, cond, eqb, List, length, get_or, slice_index, slice_set, Option, Some, refl, sym, ap, ◌∙◌, subst, arith}
use Rattle.std.proofs.Math.ListN.{length-set}
use Rattle.std.specs.Option.{option_map}
use Rattle.std.proofs.lemmas.Bool.{cases_eq, ne_eqb}
use Rattle.std.proofs.lemmas.List.{get_or-set_same, get_or-set_other}
use Rattle.std.proofs.lemmas.Grind.{get_or_default_zero}
use Rattle.byteorder.specs.Endian.{big_bytes}
use Rattle.byteorder.specs.Numbers.{length-bytes_high_first}
use Rattle.blk_base.specs.Content.{with_bytes}
use Rattle.blk_base.proofs.Contents.{get_or-with_bytes_outside}
use Rattle.q2_format.specs.Sizes.{entries_in_cluster}
use Rattle.q2_format.specs.Entry.{host_offset}
use Rattle.q2_format.specs.Tables.{tree_at}
use Rattle.q2_tables.specs.Kept.{KeptTables, IsTreeOf, is_plain}
use Rattle.q2_tables.specs.Linking.{CanLink, LiesApart, FileAfter, HasOneEntry, IsFreeBut, TableAfter, entry_at, l1_index, l1_spelling, table_len, table_of, with_entry}
use Rattle.q2_tables.proofs.Linked.{row_of, linked_entry, linked_table, beside_tables}
use Rattle.q2_tables.proofs.Written.{is_written, told_after}

-- An L2 entry.

eight_bytes : (at word i : ℕ) → (i < at) ⊎ (at + 8 ≤ i) → (i < at) ⊎ (at + length (big_bytes 8 word) ≤ i)
eight_bytes at word i (inl before) = inl before
eight_bytes at word i (inr behind) = inr (omega (arith, length-bytes_high_first 8 word))

pub entry_linked : (kept : KeptTables) (cluster word : ℕ) (file : List ℕ) (old new : Option (List ℕ)) → CanLink kept cluster 0 → LiesApart kept cluster 0 → word < 2 ^ 64
    → old ≡ Some file → IsTreeOf kept.c kept (tree_at file kept.c kept.l1_offset (length kept.l1))
    → new ≡ option_map (λ b. with_bytes b (entry_at kept cluster 0) (big_bytes 8 word)) old
    → FileAfter (with_entry kept cluster word 0) file new (entry_at kept cluster 0) 8 0 (table_len kept 0)
entry_linked kept cluster word file old new can apart fits told tree is =
    let at : ℕ = entry_at kept cluster 0 in
    record {
      file = with_bytes file at (big_bytes 8 word);
      is = told_after old new file (big_bytes 8 word) at told is;
      tree = linked_entry file (with_bytes file at (big_bytes 8 word)) kept cluster word tree can.below (omega arith) (can.named refl) apart.free (is_written file at (big_bytes 8 word));
      outside = λ i beside table. get_or-with_bytes_outside file at (big_bytes 8 word) i (eight_bytes at word i beside);
    }

-- A new L2 table.

free_table : (kept : KeptTables) (cluster table : ℕ) → LiesApart kept cluster table → table ≢ 0 → IsFreeBut kept table (l1_index kept cluster)
free_table kept cluster table apart some =
    let P : ℕ → Type 0 = λ place. IsFreeBut kept place (l1_index kept cluster) in
    let test = ne_eqb table 0 some in
    let same : cond (eqb table 0) (table_of kept cluster) table ≡ table = rw test refl in
    subst P same apart.free

whole_table : (kept : KeptTables) (table : ℕ) → table ≢ 0 → table_len kept table ≡ kept.c
whole_table kept table some = let test = ne_eqb table 0 some in rw test refl

spelled : (table : ℕ) → table % 512 ≡ 0 → table < 2 ^ 56 → host_offset (l1_spelling table) ≡ table
spelled table aligned small = omega arith

l1_fits : (table : ℕ) → table < 2 ^ 56 → l1_spelling table < 256 ^ 8
l1_fits table small = omega arith

pub table_stopped : (kept : KeptTables) (cluster table n entry : ℕ) (file : List ℕ) (told : Option (List ℕ)) → CanLink kept cluster table → LiesApart kept cluster table → table ≢ 0
    → IsTreeOf kept.c kept (tree_at file kept.c kept.l1_offset (length kept.l1)) → TableAfter file told table n → n ≡ kept.c
    → FileAfter kept file told entry 0 table (table_len kept table)
table_stopped kept cluster table n entry file told can apart some tree after size =
    let P : ℕ → Type 0 = λ m. (i : ℕ) → (i < table) ⊎ (table + m ≤ i) → slice_index after.file i ≡ slice_index file i in
    let outside : P kept.c = subst P size after.outside in
    let Q : ℕ → Type 0 = λ m. (i : ℕ) → (i < table) ⊎ (table + m ≤ i) → slice_index after.file i ≡ slice_index file i in
    let outside_len : Q (table_len kept table) = subst Q (sym (whole_table kept table some)) outside in
    record {
      file = after.file;
      is = after.is;
      tree = beside_tables file after.file kept table (l1_index kept cluster) tree (free_table kept cluster table apart some) (can.new some) outside;
      outside = λ i entry_side table_side. outside_len i table_side;
    }

-- the L1 table keeps its length
linked_length : (kept : KeptTables) (cluster table word : ℕ) (file : List ℕ)
    → IsTreeOf kept.c (record { c = kept.c; l1_offset = kept.l1_offset; l1 = slice_set kept.l1 (l1_index kept cluster) (l1_spelling table); words = slice_set kept.words cluster word })
    (tree_at file kept.c kept.l1_offset (length kept.l1))
    → IsTreeOf kept.c (record { c = kept.c; l1_offset = kept.l1_offset; l1 = slice_set kept.l1 (l1_index kept cluster) (l1_spelling table); words = slice_set kept.words cluster word })
    (tree_at file kept.c kept.l1_offset (length (slice_set kept.l1 (l1_index kept cluster) (l1_spelling table))))
linked_length kept cluster table word file is =
    let P : ℕ → Type 0 = λ n. IsTreeOf kept.c (record { c = kept.c; l1_offset = kept.l1_offset; l1 = slice_set kept.l1 (l1_index kept cluster) (l1_spelling table); words = slice_set kept.words cluster word })
    (tree_at file kept.c kept.l1_offset n) in
    subst P (sym (length-set {A = ℕ} kept.l1 (l1_index kept cluster) (l1_spelling table))) is

pub table_linked : (kept : KeptTables) (cluster word table n : ℕ) (file : List ℕ) (mid new : Option (List ℕ)) → CanLink kept cluster table → LiesApart kept cluster table → table ≢ 0
    → IsTreeOf kept.c kept (tree_at file kept.c kept.l1_offset (length kept.l1)) → (after : TableAfter file mid table n) → n ≡ kept.c
    → HasOneEntry after.file table (n / 8) (cluster % entries_in_cluster kept.c) word
    → new ≡ option_map (λ b. with_bytes b (kept.l1_offset + 8 * l1_index kept cluster) (big_bytes 8 (l1_spelling table))) mid
    → FileAfter (record { c = kept.c; l1_offset = kept.l1_offset; l1 = slice_set kept.l1 (l1_index kept cluster) (l1_spelling table); words = slice_set kept.words cluster word })
    file new (entry_at kept cluster table) 8 table (table_len kept table)
table_linked kept cluster word table n file mid new can apart some tree after size entry is =
    let at : ℕ = kept.l1_offset + 8 * l1_index kept cluster in
    let bytes : List ℕ = big_bytes 8 (l1_spelling table) in
    let test : eqb table 0 ≡ false = ne_eqb table 0 some in
    let P : ℕ → Type 0 = λ m. (i : ℕ) → (i < table) ⊎ (table + m ≤ i) → slice_index after.file i ≡ slice_index file i in
    let outside : P kept.c = subst P size after.outside in
    let Q : ℕ → Type 0 = λ m. HasOneEntry after.file table (m / 8) (cluster % entries_in_cluster kept.c) word in
    let linked = linked_table file after.file (with_bytes after.file at bytes) kept cluster word table (l1_spelling table) tree can.below (can.new some) some
    (spelled table can.aligned can.small) (l1_fits table can.small) apart.beside (free_table kept cluster table apart some) outside (subst Q size entry) (is_written after.file at bytes) in
    let told = told_after mid new after.file bytes at after.is is in
    let beside : (i : ℕ) → (i < at) ⊎ (at + 8 ≤ i) → (i < table) ⊎ (table + kept.c ≤ i) → slice_index (with_bytes after.file at bytes) i ≡ slice_index file i =
    λ i entry_side table_side. get_or-with_bytes_outside after.file at bytes i (eight_bytes at (l1_spelling table) i entry_side) ∙ outside i table_side in
    rw test (record { file = with_bytes after.file at bytes; is = told; tree = linked_length kept cluster table word (with_bytes after.file at bytes) linked; outside = beside })

-- The same where the tables are seen by their fields.

pub entry_seen : (seen kept : KeptTables) (cluster word at : ℕ) (file : List ℕ) (old new : Option (List ℕ)) → seen ≡ kept → CanLink kept cluster 0 → LiesApart kept cluster 0 → word < 2 ^ 64
    → old ≡ Some file → IsTreeOf kept.c kept (tree_at file kept.c kept.l1_offset (length kept.l1)) → at ≡ entry_at seen cluster 0
    → new ≡ option_map (λ b. with_bytes b at (big_bytes 8 word)) old
    → FileAfter (with_entry seen cluster word 0) file new (entry_at kept cluster 0) 8 0 0
entry_seen seen kept cluster word at file old new same can apart fits told tree place is =
    let P : KeptTables → Type 0 = λ k. CanLink k cluster 0 → LiesApart k cluster 0 → IsTreeOf k.c k (tree_at file k.c k.l1_offset (length k.l1)) → FileAfter (with_entry seen cluster word 0) file new (entry_at k cluster 0) 8 0 0 in
    let here : P seen = λ can_seen apart_seen tree_seen.
    entry_linked seen cluster word file old new can_seen apart_seen fits told tree_seen (is ∙ ap (λ (n : ℕ). option_map (λ b. with_bytes b n (big_bytes 8 word)) old) place) in
    subst P same here can apart tree

pub stopped_seen : (seen kept : KeptTables) (cluster table n : ℕ) (file : List ℕ) (mid told : Option (List ℕ)) → seen ≡ kept → CanLink kept cluster table → LiesApart kept cluster table → 0 < table
    → IsTreeOf kept.c kept (tree_at file kept.c kept.l1_offset (length kept.l1)) → TableAfter file mid table n → n ≡ seen.c → told ≡ mid
    → FileAfter seen file told (entry_at kept cluster table) 0 table (table_len kept table)
stopped_seen seen kept cluster table n file mid told same can apart some tree after size is =
    let P : KeptTables → Type 0 = λ k. CanLink k cluster table → LiesApart k cluster table → IsTreeOf k.c k (tree_at file k.c k.l1_offset (length k.l1)) → FileAfter seen file told (entry_at k cluster table) 0 table (table_len k table) in
    let moved : TableAfter file told table n = record { file = after.file; is = is ∙ after.is; outside = after.outside } in
    let here : P seen = λ can_seen apart_seen tree_seen. table_stopped seen cluster table n (entry_at seen cluster table) file told can_seen apart_seen (λ none. omega arith) tree_seen moved size in
    subst P same here can apart tree

pub table_seen : (seen kept : KeptTables) (cluster word table n : ℕ) (file : List ℕ) (mid new : Option (List ℕ)) → seen ≡ kept → CanLink kept cluster table → LiesApart kept cluster table → 0 < table
    → IsTreeOf kept.c kept (tree_at file kept.c kept.l1_offset (length kept.l1)) → (after : TableAfter file mid table n) → n ≡ seen.c
    → HasOneEntry after.file table (n / 8) (cluster % entries_in_cluster seen.c) word
    → new ≡ option_map (λ b. with_bytes b (seen.l1_offset + 8 * l1_index seen cluster) (big_bytes 8 (l1_spelling table))) mid
    → FileAfter (record { c = seen.c; l1_offset = seen.l1_offset; l1 = slice_set seen.l1 (l1_index seen cluster) (l1_spelling table); words = slice_set seen.words cluster word })
    file new (entry_at kept cluster table) 8 table (table_len kept table)
table_seen seen kept cluster word table n file mid new same can apart some tree after size entry is =
    let P : KeptTables → Type 0 = λ k. CanLink k cluster table → LiesApart k cluster table → IsTreeOf k.c k (tree_at file k.c k.l1_offset (length k.l1))
    → FileAfter (record { c = seen.c; l1_offset = seen.l1_offset; l1 = slice_set seen.l1 (l1_index seen cluster) (l1_spelling table); words = slice_set seen.words cluster word })
    file new (entry_at k cluster table) 8 table (table_len k table) in
    let here : P seen = λ can_seen apart_seen tree_seen. table_linked seen cluster word table n file mid new can_seen apart_seen (λ none. omega arith) tree_seen after size entry is in
    subst P same here can apart tree

-- The words stay in order.

pub plain_set : (words : List ℕ) (cluster word : ℕ) → is_plain word ≡ true → cluster < length words
    → ((k : ℕ) → k < length words → is_plain (slice_index words k) ≡ true)
    → (k : ℕ) → k < length (slice_set words cluster word) → is_plain (slice_index (slice_set words cluster word) k) ≡ true
plain_set words cluster word here below all k in_words = elim (cases_eq k cluster) [
  | inl same ↦ ap (λ (m : ℕ). is_plain (slice_index (slice_set words cluster word) m)) same ∙ ap is_plain (get_or-set_same words cluster word 0 below) ∙ here
  | inr other ↦
      ap is_plain (get_or-set_other words cluster k word 0 other)
      ∙ all k (subst (λ (m : ℕ). k < m) (length-set {A = ℕ} words cluster word) in_words)
]

pub below_seen : (seen kept : KeptTables) (cluster : ℕ) → seen ≡ kept → cluster < length kept.words → cluster < length seen.words
below_seen seen kept cluster same below = let P : KeptTables → Type 0 = λ k. cluster < length k.words in subst P (sym same) below

-- the L1 entry of a cluster that was read
pub table_read : (seen : KeptTables) (cluster word : ℕ) → cluster < length seen.words → length seen.words ≡ length seen.l1 * entries_in_cluster seen.c
    → word ≡ get_or seen.l1 (cluster / entries_in_cluster seen.c) word → host_offset word ≡ table_of seen cluster
table_read seen cluster word below count is =
    let e : ℕ = entries_in_cluster seen.c in
    let row : cluster / e < length seen.l1 = row_of cluster e (length seen.l1) (length seen.l1) (subst (λ (m : ℕ). cluster < m) count below) refl in
    ap host_offset (is ∙ get_or_default_zero seen.l1 (cluster / e) word row)
