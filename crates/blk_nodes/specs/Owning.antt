-- What a node has of its own at a place, and what it shows of the node below.
use Rattle.std.specs.Prelude.{ℕ, ◌/◌, Bool, true, false, not, Option, Some, None}
use Rattle.q2_image.specs.Image.{cluster_size_in, entry_in}
use Rattle.blk_nodes.specs.Copying.{is_unallocated}
use Rattle.blk_nodes.specs.declared.row.Driver.{Driver}
use Rattle.blk_nodes.specs.declared.row.Driver.TheVariants.{File, Raw, Qcow2, CopyOnRead, Filter}
use Rattle.blk_nodes.specs.declared.row.Row.{Row}

-- in its file, or in a cluster that its image maps, be it one that reads as zeros
abbrev pub has_own_by : ℕ → Driver → Bool
has_own_by place File = true
has_own_by place (Raw part) = true
has_own_by place (Qcow2 image) =
    not (is_unallocated (entry_in image (place / cluster_size_in image)))
has_own_by place CopyOnRead = false
has_own_by place (Filter kind) = false

-- and where there is no node, nothing
abbrev pub has_own : ℕ → Option Row → Bool
has_own place None = false
has_own place (Some row) = has_own_by place row.driver
