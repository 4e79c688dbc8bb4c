-- Another backing name for the image of a node: what it leaves of the node and of its file, and why it isn't given.
use Rattle.std.specs.Prelude.{◌≡◌, ◌⊎◌, ◌↔◌, ℕ, ◌<◌, List, Option, Some, Result, Ok, Err, slice_set, OnOk, OnErr}
use Rattle.blk_base.specs.Device.{CountsFault}
use Rattle.blk_base.specs.Writes.{AtEachStop}
use Rattle.blk_base.specs.declared.fault.DevNo.{DevNo}
use Rattle.blk_base.specs.declared.fault.DevStop.{DevStop}
use Rattle.blk_base.specs.declared.fault.DevStop.TheVariants as dev_stops
use Rattle.blk_base.specs.declared.fault.Fault.{Fault}
use Rattle.blk_base.specs.declared.fault.Fault.TheVariants as faults
use Rattle.q2_image.specs.BackingName.{RenamesImage, IsOldOrRenamed, HasSameName, name_in, rename_end, rename_writes, with_name, with_format}
use Rattle.q2_image.specs.Image.{Known, IsImageOf, IsOpen}
use Rattle.q2_image.specs.Writing.{IsSameDisk, autocleared, count_of}
use Rattle.blk_nodes.specs.Changing.{seen}
use Rattle.blk_nodes.specs.Nodes.{Nodes, DeviceSeen, row_at, device_in, file_of}
use Rattle.blk_nodes.specs.Reading.{OnlyAt}
use Rattle.blk_nodes.specs.Writing.{IsDeviceAfter, OwnsFile}
use Rattle.blk_nodes.specs.declared.row.Driver.TheVariants.{Qcow2}
use Rattle.blk_nodes.specs.declared.row.Row.{Row}

-- a stop of a call over this device
abbrev pub fault_on : DevNo → DevStop → Fault
fault_on dev (dev_stops.Io count) = faults.Io dev count
fault_on dev dev_stops.NoSpace = faults.NoSpace dev

abbrev pub answer_on : DevNo → Result (Unit {0}) DevStop → Result (Unit {0}) Fault
answer_on dev (Ok done) = Ok done
answer_on dev (Err stop) = Err (fault_on dev stop)

-- What is known of the image then: that it has the name; or, behind a stop, as much as was written. Its tables and refcounts are the
-- same, and so are the size of its disk and of its clusters.
abbrev pub IsKnownNamed : Result (Unit {0}) DevStop → Known → Option (List ℕ)
    → Option (List ℕ) → Known → Type 0
IsKnownNamed (Ok done) image name format now = now ≡ with_name (autocleared image) name format
IsKnownNamed (Err stop) image name format now =
    (now ≡ image) ⊎ ((now ≡ autocleared image) ⊎ (now ≡ with_format (autocleared image) format))

-- the image on a device was given another backing name, or not
pub record IsRenameOf (old new : DeviceSeen) (image now : Known) (name format : Option (List ℕ))
    (answer : Result (Unit {0}) DevStop) : Type 0 where
  pub device : IsDeviceAfter old new
  -- which writes were made, or which of them stopped it, and why
  pub changes : RenamesImage seen image name format answer now old new
  pub stops : (file : List ℕ) → old.content ≡ Some file
      → AtEachStop (IsOldOrRenamed name file) (rename_writes image file name format) file
  pub known : IsKnownNamed answer image name format now
  pub sound : (file : List ℕ) → new.content ≡ Some file → IsImageOf file now
  pub disk : (before after : List ℕ) → old.content ≡ Some before → new.content ≡ Some after
      → IsSameDisk before after
  pub named : OnOk answer ((file : List ℕ) → new.content ≡ Some file → name_in file ≡ name)
  pub kept : OnErr answer ((before after : List ℕ) → old.content ≡ Some before
      → new.content ≡ Some after → HasSameName before after)
  pub no_space : (answer ≡ Err dev_stops.NoSpace) ↔ (old.capacity < rename_end image name format)
  pub cause : CountsFault (count_of answer) old.faults new.faults

-- the same, by the fault that names the device
pub record IsRenameBy (old new : DeviceSeen) (image now : Known) (name format : Option (List ℕ))
    (result : Result (Unit {0}) Fault) : Type 0 where
  pub answer : Result (Unit {0}) DevStop
  pub is : result ≡ answer_on old.number answer
  pub rename : IsRenameOf old new image now name format answer

-- of the device of a `file` node, and all others as before
pub record IsRenameAt (file : ℕ) (old new : List DeviceSeen) (image now : Known)
    (name format : Option (List ℕ)) (result : Result (Unit {0}) Fault) : Type 0 where
  pub before : DeviceSeen
  pub after : DeviceSeen
  pub held : device_in old file ≡ Some before
  pub left : device_in new file ≡ Some after
  pub renamed : IsRenameBy before after image now name format result
  pub only : OnlyAt file old new

-- of the image in a row
pub record RenamesRow (file : ℕ) (old new : Option Row) (before after : List DeviceSeen)
    (name format : Option (List ℕ)) (result : Result (Unit {0}) Fault) : Type 0 where
  pub row : Row
  pub image : Known
  pub now : Known
  pub there : old ≡ Some row
  pub driver : row.driver ≡ Qcow2 image
  pub left : new ≡ Some (record row { driver = Qcow2 now })
  pub opened : IsOpen now
  pub at : IsRenameAt file before after image now name format result

-- and of a node: all else is as before
pub record RenamesNode (old new : Nodes) (node : ℕ) (name format : Option (List ℕ))
    (result : Result (Unit {0}) Fault) : Type 0 where
  pub file : ℕ
  pub edge : file_of old node ≡ Some file
  pub renamed : RenamesRow file (row_at old node) (row_at new node) old.devices new.devices name
      format result
  pub rows : new.rows ≡ slice_set old.rows node (row_at new node)
  pub graph : new.graph ≡ old.graph

-- no other node's image is in the file of this one
abbrev pub OwnsImage : Nodes → ℕ → Type 0
OwnsImage nodes node = (file : ℕ) → file_of nodes node ≡ Some file → OwnsFile nodes node file
