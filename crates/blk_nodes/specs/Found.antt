-- What is read where a walk down a chain ended.
use Rattle.std.specs.Prelude.{◌≡◌, ℕ, List, [], length, replicate, slice_index_or, Option, Some, None, IfSome}
use Rattle.blk_base.specs.Content.{AreZeroPast, bytes_at}
use Rattle.blk_base.specs.Pieces.{Extent}
use Rattle.blk_base.specs.declared.device.DeviceCall.TheVariants.{Read}
use Rattle.blk_base.specs.declared.fault.Outcome.{Outcome}
use Rattle.blk_base.specs.declared.fault.Outcome.TheVariants.{Good}
use Rattle.q2_image.specs.Guest.{guest_bytes}
use Rattle.q2_image.specs.Image.{Known}
use Rattle.q2_image.specs.Writing.{own_place}
use Rattle.blk_nodes.specs.Contents.{bytes_by}
use Rattle.blk_nodes.specs.Nodes.{Nodes, DeviceSeen, device_in, IsFileTold}
use Rattle.blk_nodes.specs.Reading.{IsReadAt}
use Rattle.blk_nodes.specs.Sources.{source_at}
use Rattle.blk_nodes.specs.declared.row.Driver.TheVariants.{Qcow2}
use Rattle.blk_nodes.specs.declared.row.Row.{Row}
use Rattle.blk_nodes.specs.declared.source.Source.{Source}
use Rattle.blk_nodes.specs.declared.source.Source.TheVariants.{Zeros, File, Image}

-- what stands there is told: by the device of the file, and zeros by none
abbrev pub IsSourceTold : List DeviceSeen → Source → Type 0
IsSourceTold devices Zeros = Unit {0}
IsSourceTold devices (File file start) = IsFileTold devices file
IsSourceTold devices (Image node file) = IsFileTold devices file

-- n bytes from a place on, where that is told
abbrev pub found_bytes : List DeviceSeen → Source → ℕ → ℕ → List ℕ
found_bytes devices Zeros place n = replicate n 0
found_bytes devices (File file start) place n = bytes_at (bytes_by (device_in devices file)) start n
found_bytes devices (Image node file) place n =
    guest_bytes (bytes_by (device_in devices file)) [] place n

-- of bytes that begin at a place of a file, all past its end are 0
abbrev pub IsZeroPastFile : List DeviceSeen → ℕ → ℕ → List ℕ → Type 0
IsZeroPastFile devices file start bytes =
    IfSome (device_in devices file) (λ device. AreZeroPast device.size start bytes)

-- the same of bytes in a cluster of an image's own, which begin where the image has the span
pub record IsZeroPastImage (rows : List (Option Row)) (devices : List DeviceSeen)
    (node file : ℕ) (span : Extent) (bytes : List ℕ) : Type 0 where
  pub row : Row
  pub image : Known
  pub there : slice_index_or rows node None ≡ Some row
  pub driver : row.driver ≡ Qcow2 image
  pub past : IsZeroPastFile devices file (own_place image span) bytes

-- these bytes can stand there, told or not: zeros, or such as a file of that size can have
abbrev pub CanBeFound : List (Option Row) → List DeviceSeen → Source → Extent → List ℕ → Type 0
CanBeFound rows devices Zeros span bytes = bytes ≡ replicate span.len 0
CanBeFound rows devices (File file start) span bytes = IsZeroPastFile devices file start bytes
CanBeFound rows devices (Image node file) span bytes =
    IsZeroPastImage rows devices node file span bytes

-- as many bytes as a span of a node's disk has, which can stand there, and do where that is told
pub record FindsBytes (nodes : Nodes) (node : ℕ) (span : Extent) (bytes : List ℕ) : Type 0 where
  pub whole : length bytes ≡ span.len
  pub can : CanBeFound nodes.rows nodes.devices (source_at nodes node span.start) span bytes
  pub told : IsSourceTold nodes.devices (source_at nodes node span.start)
      → bytes ≡ found_bytes nodes.devices (source_at nodes node span.start) span.start span.len

-- how the read of a span in a cluster of an image's own went: it is one call, at the span's place in the file
pub record IsReadOfImage (rows : List (Option Row)) (node file : ℕ) (span : Extent)
    (old new : List DeviceSeen) (outcome : Outcome) : Type 0 where
  pub row : Row
  pub image : Known
  pub there : slice_index_or rows node None ≡ Some row
  pub driver : row.driver ≡ Qcow2 image
  pub read : IsReadAt file (Read (own_place image span) span.len) old new outcome

-- how the read of a span of a disk went whose bytes stand there: it is one call, or none
abbrev pub IsReadOfSource : List (Option Row) → Source → Extent → List DeviceSeen
    → List DeviceSeen → Outcome → Type 0
IsReadOfSource rows Zeros span old new outcome = (outcome ≡ Good) × (new ≡ old)
IsReadOfSource rows (File file start) span old new outcome =
    IsReadAt file (Read start span.len) old new outcome
IsReadOfSource rows (Image node file) span old new outcome =
    IsReadOfImage rows node file span old new outcome
