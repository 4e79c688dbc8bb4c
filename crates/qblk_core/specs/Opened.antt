-- The nodes of a run that are made, and why they aren't.
use Rattle.std.specs.Prelude.{◌≡◌, ℕ, ◌≤◌, List, [], ◌∷◌, length, Option, Some}
use Rattle.blk_base.specs.Counts.{Rose}
use Rattle.blk_base.specs.Files.{IfTold}
use Rattle.blk_base.specs.declared.fault.FaultFrom.TheVariants.{Dev}
use Rattle.blk_nodes.specs.Contents.{Unfolds}
use Rattle.blk_nodes.specs.Nodes.{Nodes, DeviceSeen}
use Rattle.blk_nodes.specs.Reading.{HasRisen}
use Rattle.q2_format.specs.declared.header.TheConstants.{MIN_HEADER_LENGTH}
use Rattle.q2_image.specs.OpeningCalls.{IsOpeningCall}
use Rattle.q2_image.specs.declared.stop.ImageStop.{ImageStop}
use Rattle.q2_image.specs.declared.stop.ImageStop.TheVariants as stops
use Rattle.qblk_core.specs.Closing.{IsOnlyDevice}
use Rattle.qblk_core.specs.ImageNodes.{AreMadeOf, HaveOneImage, only_device, file_node_alone}
use Rattle.qblk_core.specs.Session.{IsRefusedImage}
use Rattle.qblk_words.specs.declared.words.Format.{Format}
use Rattle.qblk_words.specs.declared.words.Format.TheVariants.{Qcow2}
use Rattle.qblk_core.specs.declared.opening.OpenStop.{OpenStop}
use Rattle.qblk_core.specs.declared.opening.OpenStop.TheVariants.{Refused, Io, NoMemory}
use Rattle.qblk_core.specs.declared.status.InputWhy.TheVariants.{Image}
use Rattle.qblk_core.specs.declared.status.Status.{Status}
use Rattle.qblk_core.specs.declared.status.Status.TheVariants as status

-- there is the `file` node over a device
pub record IsFileOver (device : DeviceSeen) (nodes : Nodes) : Type 0 where
  pub node : device.node ≡ 0
  pub number : device.number ≡ only_device
  pub sized : (bytes : List ℕ) → device.content ≡ Some bytes → device.size ≡ length bytes
  pub is : nodes ≡ file_node_alone device

-- the nodes over a device are made, and the image's is number 1
pub record IsOpenedAs (format : Format) (device : DeviceSeen) (nodes : Nodes) (image : ℕ) : Type 0
  where
    pub number : image ≡ 1
    pub made : AreMadeOf format device nodes
    pub disks : Unfolds nodes
    pub one : HaveOneImage nodes

-- or why they aren't: where no read of the device failed, it is as before
abbrev pub StopsAs : Format → DeviceSeen → DeviceSeen → OpenStop → Type 0
StopsAs format before now (Refused why) =
    IsRefusedImage format why before × (now ≡ before)
StopsAs format before now (Io count) =
    (format ≡ Qcow2) × Rose before.faults count × (count ≡ now.faults)
    × (MIN_HEADER_LENGTH ≤ before.size)
    × IfTold now.failed_call (IsOpeningCall before.size before.content)
StopsAs format before now NoMemory = now ≡ before

-- the image's node isn't added: of their device at most the count has changed, and which call failed last
pub record StopsImageNode (format : Format) (old new : Nodes) (stop : OpenStop) : Type 0 where
  pub before : DeviceSeen
  pub now : DeviceSeen
  pub was : old.devices ≡ before ∷ []
  pub is : IsOnlyDevice new.devices now
  pub cause : StopsAs format before now stop
  pub kept : HasRisen before now

pub record IsStopped (format : Format) (before now : DeviceSeen) (stop : OpenStop) : Type 0 where
  pub cause : StopsAs format before now stop
  pub kept : HasRisen before now

-- the stop that an image's is
abbrev pub open_stop : ImageStop → OpenStop
open_stop (stops.Io count) = Io count
open_stop stops.NoMemory = NoMemory
open_stop stop = Refused (Image stop)

-- the status of an image that isn't opened
abbrev pub IsImageStatus : List ℕ → OpenStop → Status → Type 0
IsImageStatus image (Refused why) (status.Input name line cause) =
    (name.bytes ≡ image) × (line ≡ 0) × (cause ≡ why)
IsImageStatus image (Refused why) status.NoMemory = Unit {0}
IsImageStatus image (Io count) (status.Fault from named) =
    (from ≡ Dev only_device) × (named ≡ count)
IsImageStatus image NoMemory status.NoMemory = Unit {0}
IsImageStatus image stop status = ⊥
