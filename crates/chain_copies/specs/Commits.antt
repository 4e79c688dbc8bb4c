-- What a commit's write to its base leaves as it reads: its top, and what reads the base through the top alone.
use Rattle.std.specs.Prelude.{◌≡◌, ◌≢◌, ℕ, zero, suc, ◌==◌, ◌||◌, if◌then◌else◌, Bool, false, List, [], ◌∷◌, Option, Some, None}
use Rattle.blk_nodes.specs.Contents.{bytes_of, disk_of}
use Rattle.blk_nodes.specs.Nodes.{Nodes, row_at, file_of, backing_of, filtered_of}
use Rattle.blk_nodes.specs.Through.{IsOrAsTop}
use Rattle.blk_nodes.specs.Writing.{LeavesNodes, own_file}
use Rattle.blk_nodes.specs.declared.row.Driver.{Driver}
use Rattle.blk_nodes.specs.declared.row.Driver.TheVariants.{File, Raw, Qcow2, CopyOnRead, Filter}
use Rattle.blk_nodes.specs.declared.row.Row.{Row}

-- the `file` node that a write through a node goes to
abbrev pub written_by : Nodes → ℕ → Option Row → Option ℕ
written_by nodes node None = None
written_by nodes node (Some row) = own_file nodes node row.driver

abbrev pub written_file : Nodes → ℕ → Option ℕ
written_file nodes node = written_by nodes node (row_at nodes node)

-- A base got bytes which the top reads as there, all of them or some. No other file was written, and all rows but the base's stay.
pub record PutsOfTop (old new : Nodes) (base top : ℕ) : Type 0 where
  pub kept : LeavesNodes old new base
  pub bytes : (file : ℕ) → written_file old base ≢ Some file
      → bytes_of new file ≡ bytes_of old file
  pub put : IsOrAsTop (disk_of old top) (disk_of old base) (disk_of new base)

-- ---- what reads the base, or its file, beside the top

-- a node is there, and passes a test
abbrev pub child_is : (ℕ → Bool) → Option ℕ → Bool
child_is test None = false
child_is test (Some node) = test node

-- one of the nodes that a node reads passes it
abbrev pub reads_one : (ℕ → Bool) → Nodes → ℕ → Driver → Bool
reads_one test nodes node File = false
reads_one test nodes node (Raw part) = child_is test (file_of nodes node)
reads_one test nodes node (Qcow2 image) =
    child_is test (file_of nodes node) || child_is test (backing_of nodes node)
reads_one test nodes node CopyOnRead = child_is test (file_of nodes node)
reads_one test nodes node (Filter kind) = child_is test (filtered_of nodes node)

abbrev pub reads_one_by : (ℕ → Bool) → Nodes → ℕ → Option Row → Bool
reads_one_by test nodes node None = false
reads_one_by test nodes node (Some row) = reads_one test nodes node row.driver

abbrev pub reads_one_of : (ℕ → Bool) → Nodes → ℕ → Bool
reads_one_of test nodes node = reads_one_by test nodes node (row_at nodes node)

-- a write through the base changes it: it is the base, or the file that the write goes to
abbrev pub is_written : Nodes → ℕ → ℕ → Bool
is_written nodes base node =
    (node == base) || child_is (λ file. node == file) (written_file nodes base)

-- down a chain of so many nodes
abbrev pub aside_in : ℕ → Nodes → ℕ → ℕ → ℕ → Bool
aside_in zero nodes base top node = false
aside_in (suc turns) nodes base top node =
    if node == top then false
    else (is_written nodes base node || reads_one_of (aside_in turns nodes base top) nodes node)

-- a node isn't the top, and is what a write through the base changes, or reads a node that reads aside
unfoldable pub reads_aside : Nodes → ℕ → ℕ → ℕ → Bool
reads_aside nodes base top node = aside_in 64 nodes base top node

-- a node is the base, or writes the file that the base writes
abbrev pub shares_file : Nodes → ℕ → ℕ → Bool
shares_file nodes base node =
    (node == base) || child_is (λ file. child_is (λ own. own == file) (written_file nodes node))
    (written_file nodes base)

-- ---- chains

-- each node is the backing node of the one before
abbrev pub AreLinkedIn : Nodes → ℕ → List ℕ → Type 0
AreLinkedIn nodes top [] = Unit {0}
AreLinkedIn nodes top (below ∷ ids) =
    (backing_of nodes top ≡ Some below) × AreLinkedIn nodes below ids
