-- What linking a guest cluster needs, and what it changes.
use Rattle.std.specs.Prelude.{◌≡◌, ◌≢◌, ◌⊎◌, ℕ, ◌+◌, ◌*◌, ◌/◌, ◌%◌, ◌^◌, ◌<◌, ◌≤◌, max, ◌==◌, if◌then◌else◌, List, [], ◌∷◌, ◌++◌, length, replicate, take, slice_index, slice_set, Option, Some}
use Rattle.blk_base.specs.Content.{Write}
use Rattle.blk_base.specs.Writes.{write_of}
use Rattle.byteorder.specs.Endian.{big_bytes}
use Rattle.q2_format.specs.Bytes.{words_at}
use Rattle.q2_format.specs.Sizes.{entries_in_cluster}
use Rattle.q2_format.specs.Entry.{host_offset}
use Rattle.q2_format.specs.Tables.{tree_at}
use Rattle.q2_tables.specs.Kept.{KeptTables, IsTreeOf}

-- the entry of the L1 table that a guest cluster's L2 table stands in
abbrev pub l1_index : KeptTables → ℕ → ℕ
l1_index kept cluster = cluster / entries_in_cluster kept.c

-- the offset of a guest cluster's L2 table, 0 where it has none
abbrev pub table_of : KeptTables → ℕ → ℕ
table_of kept cluster = host_offset (slice_index kept.l1 (l1_index kept cluster))

-- n bytes from a place on have no byte in common with m bytes from another
abbrev pub Apart : ℕ → ℕ → ℕ → ℕ → Type 0
Apart at n other m = (at + n ≤ other) ⊎ (other + m ≤ at)

-- a cluster at an offset is no part of the L1 table, and no L2 table but that of one L1 entry
pub record IsFreeBut (kept : KeptTables) (offset but : ℕ) : Type 0 where
  pub l1_table : Apart offset kept.c kept.l1_offset (8 * length kept.l1)
  pub l2_tables : (i : ℕ) → i < length kept.l1 → i ≢ but → host_offset (slice_index kept.l1 i) ≢ 0
      → Apart offset kept.c (host_offset (slice_index kept.l1 i)) kept.c

-- no L2 table has a byte of the L1 table
pub record LieBesideL1 (kept : KeptTables) : Type 0 where
  pub each : (i : ℕ) → i < length kept.l1 → host_offset (slice_index kept.l1 i) ≢ 0
      → Apart (host_offset (slice_index kept.l1 i)) kept.c kept.l1_offset (8 * length kept.l1)

-- What a caller of `link` has to know of the place of the entry.
pub record CanLink (kept : KeptTables) (cluster table : ℕ) : Type 0 where
  pub below : cluster < length kept.words
  -- a new table exactly where there is none
  pub named : table ≡ 0 → table_of kept cluster ≢ 0
  pub new : table ≢ 0 → table_of kept cluster ≡ 0
  pub aligned : table % 512 ≡ 0
  pub small : table < 2 ^ 56

-- the table that is written lies apart from every other, and each from the L1 table
pub record LiesApart (kept : KeptTables) (cluster table : ℕ) : Type 0 where
  pub free : IsFreeBut kept (if table == 0 then table_of kept cluster else table)
      (l1_index kept cluster)
  pub beside : LieBesideL1 kept

-- where the last write goes: to the L1 entry of a new table, else to the L2 entry
abbrev pub entry_at : KeptTables → ℕ → ℕ → ℕ
entry_at kept cluster table =
    if table == 0 then table_of kept cluster + 8 * (cluster % entries_in_cluster kept.c)
    else kept.l1_offset + 8 * l1_index kept cluster

-- the bytes of a new table
abbrev pub table_len : KeptTables → ℕ → ℕ
table_len kept table = if table == 0 then 0 else kept.c

-- the highest end of the writes
abbrev pub link_end : KeptTables → ℕ → ℕ → ℕ
link_end kept cluster table = max (table + table_len kept table) (entry_at kept cluster table + 8)

-- the write of an entry of a table
unfoldable pub entry_write : ℕ → ℕ → Write
entry_write at word = write_of at (big_bytes 8 word)

-- the n bytes of a new table: one entry, and zeros
unfoldable pub new_table : ℕ → ℕ → ℕ → List ℕ
new_table n column word = take n (replicate (8 * column) 0 ++ big_bytes 8 word ++ replicate n 0)

-- the L1 entry of a table whose refcount is one
abbrev pub l1_spelling : ℕ → ℕ
l1_spelling table = table + 2 ^ 63

-- The writes of a link, in their order: a new table with the entry in it, and then the L1 entry that names it; or
-- the L2 entry alone.
abbrev pub link_writes : KeptTables → ℕ → ℕ → ℕ → List Write
link_writes kept cluster word table =
    if table == 0 then entry_write (entry_at kept cluster table) word ∷ []
    else write_of table (new_table kept.c (cluster % entries_in_cluster kept.c) word)
    ∷ entry_write (entry_at kept cluster table) (l1_spelling table)
    ∷ []

-- the words with another L2 entry, in a new table where that isn't 0
abbrev pub with_entry : KeptTables → ℕ → ℕ → ℕ → KeptTables
with_entry kept cluster word table = record {
  c = kept.c;
  l1_offset = kept.l1_offset;
  l1 = if table == 0 then kept.l1
      else slice_set kept.l1 (l1_index kept cluster) (l1_spelling table);
  words = slice_set kept.words cluster word;
}

-- The file behind a link: of it `len` bytes from an entry's place on were written, and of a cluster of a new
-- table any; all else reads as before, and the kept words are those of its tree.
pub record FileAfter (kept : KeptTables) (old : List ℕ) (told : Option (List ℕ))
    (entry len table table_bytes : ℕ) : Type 0 where
  pub file : List ℕ
  pub is : told ≡ Some file
  pub tree : IsTreeOf kept.c kept (tree_at file kept.c kept.l1_offset (length kept.l1))
  pub outside : (i : ℕ) → (i < entry) ⊎ (entry + len ≤ i) → (i < table) ⊎ (table + table_bytes ≤ i)
      → slice_index file i ≡ slice_index old i

-- What a link leaves of a file, wherever it stops: its entry and the kept words are as before, or both are the new ones.
pub record IsOldOrLinked (kept : KeptTables) (cluster word table : ℕ)
    (before now : List ℕ) : Type 0 where
  pub grows : length before ≤ length now
  pub bound : length now ≤ max (length before) (link_end kept cluster table)
  pub left : FileAfter kept before (Some now) (entry_at kept cluster table) 0 table
      (table_len kept table)
      ⊎ (FileAfter (with_entry kept cluster word table) before (Some now)
      (entry_at kept cluster table) 8 table (table_len kept table)
      × (table + table_len kept table ≤ length now))

-- a table of one entry
pub record HasOneEntry (file : List ℕ) (place e column word : ℕ) : Type 0 where
  pub here : slice_index (words_at file place e) column ≡ word
  pub beside : (q : ℕ) → q < e → q ≢ column → slice_index (words_at file place e) q ≡ 0

-- the file behind a write of so many bytes at a place, whole or not
pub record TableAfter (old : List ℕ) (told : Option (List ℕ)) (at n : ℕ) : Type 0 where
  pub file : List ℕ
  pub is : told ≡ Some file
  pub outside : (i : ℕ) → (i < at) ⊎ (at + n ≤ i) → slice_index file i ≡ slice_index old i
