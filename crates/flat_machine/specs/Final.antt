-- What the store's files hold, by a history.
use Rattle.std.specs.Prelude.{◌≡◌, ℕ, zero, suc, true, false, List, [], length, All, Option, Some, None, option_map, option_and_then, unwrap_or}
use Rattle.blk_base.specs.Files.{file_at}
use Rattle.blk_base.specs.declared.file.File.{File}
use Rattle.blk_graph.specs.declared.edge.Role.TheVariants.{File as FileRole, Backing}
use Rattle.blk_graph.specs.declared.kind.Kind.{Kind}
use Rattle.blk_graph.specs.declared.kind.Kind.TheVariants.{Protocol, Raw, Qcow2}
use Rattle.q2_format.specs.Contents.{file_disk, raw_disk, image_disk}
use Rattle.q2_format.specs.Sound.{IsSound}
use Rattle.qmp_rules.specs.declared.rows.NodeRecord.{NodeRecord}
use Rattle.qmp_rules.specs.Table.{RunTable, has_name, node_by_id, child}
use Rattle.qmp_rules.specs.Chains.{filtered, is_settled}
use Rattle.blk_history.specs.Fold.{With}
use Rattle.flat_machine.specs.State.{State, Left, bytes_at_node, filename_of}

-- a file's bytes, as a node of a kind reads them alone
abbrev pub read_as : Kind → ℕ → ℕ → List ℕ → List ℕ
read_as Protocol offset size file = file_disk size file
read_as Raw offset size file = raw_disk offset size file
read_as Qcow2 offset size file = image_disk file []
read_as kind offset size file = []

-- these bytes are read as that disk, and an image in them is sound
pub record IsDiskIn (kind : Kind) (offset : ℕ) (disk bytes : List ℕ) : Type 0 where
  pub reads : read_as kind offset (length disk) bytes ≡ disk
  pub sound : kind ≡ Qcow2 → IsSound bytes

-- ---- nodes

abbrev pub bytes_named : List File → List ℕ → Option (List ℕ)
bytes_named files name = option_map (λ f. f.bytes) (file_at name files)

-- the bytes of the file that a `file` node stands for
abbrev pub bytes_under : List File → RunTable → ℕ → List ℕ
bytes_under files t node = unwrap_or (option_and_then (bytes_named files) (filename_of t node)) []

-- that of a node below, where there is one
abbrev pub below_as : (ℕ → List ℕ) → Option ℕ → List ℕ
below_as reads None = []
below_as reads (Some node) = reads node

-- A `file` node is its file, `raw` its part of the `file` node, qcow2 the image in the file over what the backing node reads
-- as, and a filter what its child does.
abbrev pub row_bytes : List File → RunTable → (ℕ → List ℕ) → NodeRecord → Kind → List ℕ
row_bytes files t reads row Protocol = file_disk row.size (bytes_under files t row.id)
row_bytes files t reads row Raw =
    raw_disk row.offset row.size (below_as reads (child t row.id FileRole))
row_bytes files t reads row Qcow2 =
    image_disk (below_as (bytes_under files t) (child t row.id FileRole))
    (below_as reads (child t row.id Backing))
row_bytes files t reads row filter = below_as reads (filtered t row.id)

abbrev pub node_bytes_in : ℕ → List File → RunTable → ℕ → List ℕ
node_bytes_in zero files t node = []
node_bytes_in (suc turns) files t node = elim (node_by_id t node) as (λ _. List ℕ) [
  | None ↦ []
  | Some row ↦ row_bytes files t (node_bytes_in turns files t) row row.kind
]

-- what a node reads as by the files alone; there are at most 64 nodes, and none reaches itself
unfoldable pub node_bytes : List File → RunTable → ℕ → List ℕ
node_bytes files t node = node_bytes_in 64 files t node

-- each node with a flat disk reads as it
abbrev pub AreDisks : List File → State → Type 0
AreDisks files s =
    (node : ℕ) → is_settled s.table node ≡ true
    → node_bytes files s.table node ≡ bytes_at_node s node

-- ---- disks that were left, and files that no command named

-- the file reads as the disk that was left in it
abbrev pub IsLeftIn : List File → Left → Type 0
IsLeftIn files left =
    With (file_at left.file files) (λ f. IsDiskIn left.kind left.offset left.bytes f.bytes)

abbrev pub AreLeft : List File → State → Type 0
AreLeft files s = All (IsLeftIn files) s.left

-- a file that was not named for writing has its bytes of the opening, or is absent as it was there
abbrev pub UnnamedStay : List File → List (List ℕ) → List File → Type 0
UnnamedStay opening named files =
    (name : List ℕ) → has_name name named ≡ false
    → bytes_named files name ≡ bytes_named opening name

-- What a run that ended leaves in its files: the disks of nodes that have one and the disks that were left, and each file that
-- was not named for writing as it was.
pub record AreLeftBy (opening : List File) (s : State) (files : List File) : Type 0 where
  pub nodes : AreDisks files s
  pub left : AreLeft files s
  pub unnamed : UnnamedStay opening s.named files
