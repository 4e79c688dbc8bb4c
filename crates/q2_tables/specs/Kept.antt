-- The tables of a tree as they are kept: the words of the L1 table, and behind each other those of all L2 tables.
use Rattle.std.specs.Prelude.{◌≡◌, ℕ, ◌*◌, ◌%◌, ◌^◌, ◌<◌, ◌≤◌, Bool, true, not, ◌&&◌, List, length, slice_index}
use Rattle.q2_format.specs.Sizes.{entries_in_cluster}
use Rattle.q2_format.specs.Entry.{is_compressed, has_reserved_in_l2}
use Rattle.q2_format.specs.Tables.{Tree, l2_word_of}

-- The cluster size, where the L1 table begins in the file, its words, and for each guest cluster the word of its
-- L2 entry: 0 where the cluster has no L2 table.
pub record KeptTables : Type 0 where
  pub c : ℕ
  pub l1_offset : ℕ
  pub l1 : List ℕ
  pub words : List ℕ

-- the kept words are those of a tree
pub record IsTreeOf (c : ℕ) (kept : KeptTables) (tree : Tree) : Type 0 where
  pub l1 : kept.l1 ≡ tree.l1
  pub entries : length kept.words ≡ length kept.l1 * entries_in_cluster c
  pub words : (cluster : ℕ) → cluster < length kept.words
      → slice_index kept.words cluster ≡ l2_word_of tree c cluster

-- an L2 entry that is neither compressed nor has a reserved bit
abbrev pub is_plain : ℕ → Bool
is_plain word = not (is_compressed word) && not (has_reserved_in_l2 word)

-- what always holds of tables in memory, and of the buffer for a new L2 table
pub record AreWhole (kept : KeptTables) (buffer : List ℕ) : Type 0 where
  pub entries : length kept.words ≡ length kept.l1 * entries_in_cluster kept.c
  pub plain : (cluster : ℕ) → cluster < length kept.words
      → is_plain (slice_index kept.words cluster) ≡ true
  pub room : length buffer ≡ kept.c
  pub whole : kept.c ≡ 8 * entries_in_cluster kept.c
  pub small : kept.c < 2 ^ 32
  pub aligned : kept.l1_offset % 8 ≡ 0
  pub near : kept.l1_offset < 2 ^ 40
  pub few : length kept.l1 ≤ 1024
