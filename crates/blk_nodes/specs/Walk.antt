-- What a walk down a chain keeps and ends with.
use Rattle.std.specs.Prelude.{◌≡◌, ℕ, ◌/◌, ◌<◌, List, Option, Some, None, IsSome, slice_index_or}
use Rattle.q2_image.specs.Image.{Known, IsImageOf, cluster_size_in, entry_in}
use Rattle.q2_image.specs.Reading.{IsHost}
use Rattle.blk_nodes.specs.Nodes.{Nodes, DeviceSeen, device_in, node_size}
use Rattle.blk_graph.specs.declared.edge.Edge.{Edge}
use Rattle.blk_nodes.specs.Reading.{LeadsTo}
use Rattle.blk_nodes.specs.declared.row.Driver.TheVariants.{Qcow2}
use Rattle.blk_nodes.specs.declared.row.Row.{Row}
use Rattle.blk_nodes.specs.declared.source.Source.{Source}
use Rattle.blk_nodes.specs.declared.source.Source.TheVariants.{Zeros, File, Image}
use Rattle.blk_nodes.specs.declared.source.Step.{Step}
use Rattle.blk_nodes.specs.declared.source.Step.TheVariants.{Found, Below}

-- what is known of an image is so of the file of a `file` node, where that is told
abbrev pub IsKnownAt : ℕ → List DeviceSeen → Known → Type 0
IsKnownAt file devices image =
    (device : DeviceSeen) (bytes : List ℕ) → device_in devices file ≡ Some device
    → device.content ≡ Some bytes → IsImageOf bytes image

-- a place of an image's disk in a cluster of its own, and the device of its file
pub record IsPlaceMapped (rows : List (Option Row)) (devices : List DeviceSeen)
    (node file place : ℕ) : Type 0 where
  pub row : Row
  pub image : Known
  pub there : slice_index_or rows node None ≡ Some row
  pub driver : row.driver ≡ Qcow2 image
  pub inside : place < image.header.size
  pub host : IsHost (entry_in image (place / cluster_size_in image))
  pub held : IsSome (device_in devices file)
  pub known : IsKnownAt file devices image

-- what is found can be read
abbrev pub CanSourceBeRead : List (Option Row) → List DeviceSeen → ℕ → Source → Type 0
CanSourceBeRead rows devices place Zeros = Unit {0}
CanSourceBeRead rows devices place (File file start) = IsSome (device_in devices file)
CanSourceBeRead rows devices place (Image node file) = IsPlaceMapped rows devices node file place

-- and the node below has the place too
abbrev pub GoesDown : Nodes → ℕ → Step → Type 0
GoesDown nodes place (Found source) = CanSourceBeRead nodes.rows nodes.devices place source
GoesDown nodes place (Below next) = place < node_size nodes next

-- the edges lead from the node to what is found, or to the node below
abbrev pub LeadsToSource : List Edge → ℕ → Source → Type 0
LeadsToSource edges node Zeros = Unit {0}
LeadsToSource edges node (File file start) = LeadsTo edges node file
LeadsToSource edges node (Image at file) = LeadsTo edges node file

abbrev pub LeadsOn : List Edge → ℕ → Step → Type 0
LeadsOn edges node (Found source) = LeadsToSource edges node source
LeadsOn edges node (Below next) = LeadsTo edges node next
