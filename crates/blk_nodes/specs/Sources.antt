-- Where the bytes of a node's disk stand, from a place to the end of its block: in a file, in an image, or nowhere, and then
-- they are zeros.
use Rattle.std.specs.Prelude.{ℕ, zero, suc, ◌+◌, ◌/◌, slice_index, [], Option, Some, None}
use Rattle.q2_format.specs.Contents.{guest_byte}
use Rattle.q2_format.specs.declared.entries.L2Entry.{L2Entry}
use Rattle.q2_format.specs.declared.entries.L2Entry.TheVariants as entries
use Rattle.q2_image.specs.Image.{cluster_size_in, entry_in}
use Rattle.blk_nodes.specs.Nodes.{Nodes, row_at, file_of, backing_of, filtered_of}
use Rattle.blk_nodes.specs.Contents.{bytes_of}
use Rattle.blk_nodes.specs.declared.row.Driver.{Driver}
use Rattle.blk_nodes.specs.declared.row.Driver.TheVariants as drivers
use Rattle.blk_nodes.specs.declared.source.Source.{Source}
use Rattle.blk_nodes.specs.declared.source.Source.TheVariants.{Zeros, File, Image}
use Rattle.blk_nodes.specs.declared.source.Step.{Step}
use Rattle.blk_nodes.specs.declared.source.Step.TheVariants.{Found, Below}

-- in the file of a `file` node, from a place on
abbrev pub in_file : Option ℕ → ℕ → Step
in_file None start = Found Zeros
in_file (Some file) start = Found (File file start)

-- in a cluster of an image's own
abbrev pub in_image : ℕ → Option ℕ → Step
in_image node None = Found Zeros
in_image node (Some file) = Found (Image node file)

-- in the node below, at the same place
abbrev pub in_below : Option ℕ → Step
in_below None = Found Zeros
in_below (Some node) = Below node

-- a place of an image, by the entry of its cluster
abbrev pub step_by_entry : ℕ → Option ℕ → Option ℕ → L2Entry → Step
step_by_entry node file backing entries.Unallocated = in_below backing
step_by_entry node file backing (entries.Zero host) = Found Zeros
step_by_entry node file backing (entries.Host host) = in_image node file
step_by_entry node file backing entries.Compressed = Found Zeros
step_by_entry node file backing entries.Reserved = Found Zeros

-- a place of a node, with the nodes that are below it
abbrev pub step_by : ℕ → Option ℕ → Option ℕ → Option ℕ → ℕ → Driver → Step
step_by node file backing filtered place drivers.File = Found (File node place)
step_by node file backing filtered place (drivers.Raw part) = in_file file (part.offset + place)
step_by node file backing filtered place (drivers.Qcow2 image) =
    step_by_entry node file backing (entry_in image (place / cluster_size_in image))
step_by node file backing filtered place drivers.CopyOnRead = in_below file
step_by node file backing filtered place (drivers.Filter kind) = in_below filtered

abbrev pub step_of : Nodes → ℕ → ℕ → Step
step_of nodes node place = elim (row_at nodes node) as (λ _. Step) [
  | None ↦ Found Zeros
  | Some row ↦
      step_by node (file_of nodes node) (backing_of nodes node) (filtered_of nodes node) place
      row.driver
]

-- down a chain of so many nodes
abbrev pub source_in : ℕ → Nodes → ℕ → ℕ → Source
source_in zero nodes node place = Zeros
source_in (suc turns) nodes node place = elim (step_of nodes node place) as (λ _. Source) [
  | Found source ↦ source
  | Below next ↦ source_in turns nodes next place
]

unfoldable pub source_at : Nodes → ℕ → ℕ → Source
source_at nodes node place = source_in 64 nodes node place

-- the byte that stands there, so many behind the place
abbrev pub byte_at : Nodes → Source → ℕ → ℕ → ℕ
byte_at nodes Zeros place i = 0
byte_at nodes (File file start) place i = slice_index (bytes_of nodes file) (start + i)
byte_at nodes (Image node file) place i = guest_byte (bytes_of nodes file) [] (place + i)
