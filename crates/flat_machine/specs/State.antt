-- What the flat machine keeps: the table of names, and for each node a flat disk.
use Rattle.std.specs.Prelude.{ℕ, ◌==◌, Bool, List, [], ◌∷◌, bytes_eq, find, slice_get, Option, Some, None, option_map, option_and_then, if◌then◌else◌}
use Rattle.blk_graph.specs.declared.kind.Kind.{Kind}
use Rattle.blk_graph.specs.declared.edge.Parent.TheVariants.{Guest as GuestOf}
use Rattle.blk_graph.specs.declared.edge.Role.TheVariants.{Drive}
use Rattle.blk_graph.specs.Edits.{child_of}
use Rattle.q2_format.specs.Created.{Creation}
use Rattle.qmp_rules.specs.Table.{RunTable, node_by_id}
use Rattle.qmp_rules.specs.Chains.{disk_node, is_settled}
use Rattle.blk_history.specs.Machine.{Flight}

-- a guest: how many of its requests are done, and the one in flight
pub record Guest : Type 0 where
  pub done : ℕ
  pub flight : Option Flight

-- A node's flat disk. Whether the node has one is said by the table: while it has none these bytes mean nothing.
pub record Disk : Type 0 where
  pub node : ℕ
  pub bytes : List ℕ

-- the disk of a node that was deleted, as the node read its file
pub record Left : Type 0 where
  pub file : List ℕ
  pub kind : Kind
  pub offset : ℕ
  pub bytes : List ℕ

-- what is known of a file's bytes
pub data Content : Type 0 where
  -- all of them
  Bytes : List ℕ → Content
  -- it begins with a created image, which maps nothing; and its length, where that is known
  Blank : Creation → Option ℕ → Content
  Unknown : Content

pub record KnownFile : Type 0 where
  pub name : List ℕ
  pub content : Content

-- whether the image of a qcow2 node maps a cluster
pub data Mapped : Type 0 where
  MapsNone : Mapped
  MapsSome : Mapped
  Unsure : Mapped

pub record Image : Type 0 where
  pub node : ℕ
  pub mapped : Mapped

-- The dirty granules of a bitmap. While a job uses it, those that were dirty at the job's start stand aside.
pub record Dirty : Type 0 where
  pub node : ℕ
  pub name : List ℕ
  pub granularity : ℕ
  pub set : List Bool
  pub aside : Option (List Bool)

-- what a job's start found: the disk of its source, that of its target, and the bitmap that it copies by
pub record Begun : Type 0 where
  pub job : ℕ
  pub source : List ℕ
  pub target : List ℕ
  pub granules : Option Dirty

-- A group of which some members have ended: their ends stand side by side, all without error or none. `has_cause` says
-- that one of them failed or was cancelled by a command.
pub record Ending : Type 0 where
  pub group : ℕ
  pub is_completed : Bool
  pub has_cause : Bool

pub record State : Type 0 where
  -- the capacity of files that are made
  pub room : ℕ
  pub table : RunTable
  -- by number
  pub guests : List Guest
  pub disks : List Disk
  pub left : List Left
  pub files : List KnownFile
  -- the files that were named for writing so far
  pub named : List (List ℕ)
  pub images : List Image
  pub dirty : List Dirty
  pub begun : List Begun
  -- how many jobs' starts stand in the history
  pub starts : ℕ
  pub ending : Option Ending
  -- the actors that are done
  pub ended : List ℕ

-- ---- guests

abbrev pub guest_at : State → ℕ → Option Guest
guest_at s g = slice_get s.guests g

-- the node that a guest's device is on, where it has one
abbrev pub drive_of : RunTable → ℕ → Option ℕ
drive_of t g = child_of (GuestOf g) Drive t.edges

-- a guest's disk is the node that it reaches through filters
abbrev pub disk_of_guest : RunTable → ℕ → Option ℕ
disk_of_guest t g = option_map (disk_node t) (drive_of t g)

-- ---- disks

abbrev pub bytes_in : List Disk → ℕ → List ℕ
bytes_in [] node = []
bytes_in (d ∷ disks) node = if d.node == node then d.bytes else bytes_in disks node

-- the bytes that stand for a node, filters passed through
abbrev pub bytes_at_node : State → ℕ → List ℕ
bytes_at_node s node = bytes_in s.disks (disk_node s.table node)

-- the flat disk of a node, while it is settled
abbrev pub flat_disk_of : State → ℕ → Option (List ℕ)
flat_disk_of s node = if is_settled s.table node then Some (bytes_at_node s node) else None

-- ---- files

abbrev pub content_in : List KnownFile → List ℕ → Option Content
content_in files name =
    option_map (λ known. known.content) (find (λ known. bytes_eq known.name name) files)

-- the file of the store that a `file` node stands for
abbrev pub filename_of : RunTable → ℕ → Option (List ℕ)
filename_of t node = option_and_then (λ row. row.filename) (node_by_id t node)
