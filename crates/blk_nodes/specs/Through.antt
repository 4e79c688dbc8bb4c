-- A node below another gets bytes that the upper one reads as anyway.
use Rattle.std.specs.Prelude.{◌≡◌, ◌≢◌, ◌⊎◌, ℕ, ◌+◌, ◌<◌, List, length, slice_index, Some}
use Rattle.blk_nodes.specs.Contents.{bytes_of}
use Rattle.blk_nodes.specs.Nodes.{Nodes, row_at, node_size, file_of, backing_of, filtered_of}
use Rattle.blk_nodes.specs.Writing.{own_file}
use Rattle.blk_nodes.specs.declared.row.Driver.TheVariants.{CopyOnRead}
use Rattle.blk_nodes.specs.declared.row.Row.{Row}

-- a list differs from another only where it is as the top
pub record IsOrAsTop (top old new : List ℕ) : Type 0 where
  pub whole : length new ≡ length old
  pub at : (i : ℕ)
      → (slice_index new i ≡ slice_index old i) ⊎ (slice_index new i ≡ slice_index top i)

-- these bytes are the top's from a place on
abbrev pub AreOfTop : List ℕ → ℕ → List ℕ → Type 0
AreOfTop top start bytes =
    (k : ℕ) → k < length bytes → slice_index bytes k ≡ slice_index top (start + k)

-- A base was written, whose bytes are in a file: all else is as before. The nodes that are spoken of lead to others of these, and
-- read no other file.
pub record LeavesAllBut (old new : Nodes) (base file : ℕ) (Among : ℕ → Type 0) : Type 0 where
  pub graph : new.graph ≡ old.graph
  pub rows : (n : ℕ) → n ≢ base → row_at new n ≡ row_at old n
  pub sizes : (n : ℕ) → node_size new n ≡ node_size old n
  pub bytes : (f : ℕ) → f ≢ file → bytes_of new f ≡ bytes_of old f
  pub own : (n f : ℕ) (row : Row) → Among n → n ≢ base → row_at old n ≡ Some row
      → own_file old n row.driver ≡ Some f → f ≢ file
  pub over : (n c : ℕ) → Among n → backing_of old n ≡ Some c → Among c
  pub filtered : (n c : ℕ) (row : Row) → Among n → row_at old n ≡ Some row → row.driver ≡ CopyOnRead
      → file_of old n ≡ Some c → Among c
  pub passed : (n c : ℕ) → Among n → filtered_of old n ≡ Some c → Among c
