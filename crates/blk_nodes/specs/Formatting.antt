-- What the creation of an image in the file of a node leaves and answers.
use Rattle.std.specs.Prelude.{◌≡◌, ◌⊎◌, ℕ, ◌<◌, ◌≤◌, max, Bool, true, false, if◌then◌else◌, List, length, option_map, None, Some, Result, Ok, Err, OnOk}
use Rattle.blk_base.specs.Content.{Write}
use Rattle.blk_base.specs.Device.{AtEachStopOf}
use Rattle.blk_base.specs.declared.fault.DevNo.{DevNo}
use Rattle.blk_base.specs.declared.fault.DevStop.TheVariants as stops
use Rattle.q2_format.specs.Created.{Creation, CanBeCreated, created_length, IsCreated}
use Rattle.q2_format.specs.Sound.{InHeader, image_refusal}
use Rattle.q2_format.specs.declared.header.HeaderStop.TheVariants.{Magic}
use Rattle.q2_image.specs.Creating.{AreStages, ChangesWithin, IsBeforeOrNone, MakesStages}
use Rattle.q2_image.specs.declared.create.CreateStop.{CreateStop}
use Rattle.q2_image.specs.declared.create.CreateStop.TheVariants as image
use Rattle.blk_nodes.specs.Changing.{seen}
use Rattle.blk_nodes.specs.Nodes.{DeviceSeen, device_in}
use Rattle.blk_nodes.specs.Reading.{OnlyAt, StoppedBy}
use Rattle.blk_nodes.specs.declared.stop.FormatStop.{FormatStop}
use Rattle.blk_nodes.specs.declared.stop.FormatStop.TheVariants.{Io, NoSpace, NoMemory}

-- the stop of an image's creation with the device that it speaks of
abbrev pub format_stop : DevNo → CreateStop → FormatStop
format_stop dev (image.Io count) = Io dev count
format_stop dev image.NoSpace = NoSpace dev
format_stop dev image.NoMemory = NoMemory

-- whether anything was tried
abbrev pub is_tried : Result (Unit {0}) FormatStop → Bool
is_tried (Ok done) = true
is_tried (Err (Io dev count)) = true
is_tried (Err (NoSpace dev)) = false
is_tried (Err NoMemory) = false

-- a file holds the new image; one that was longer stays as long
pub record HoldsImage (new : Creation) (before now : List ℕ) : Type 0 where
  pub can : CanBeCreated new.size new.name new.format
  pub created : IsCreated new now
  pub length_is : length now ≡ max (length before) (created_length new)

-- what a file holds afterwards: behind a stop it is as it was, or no image
abbrev pub HoldsAfter : Creation → List ℕ → Result (Unit {0}) FormatStop → List ℕ → Type 0
HoldsAfter new before (Ok done) now = HoldsImage new before now
HoldsAfter new before (Err stop) now = (now ≡ before) ⊎ (image_refusal now ≡ Some (InHeader Magic))

-- why an image that ends there is created or not; where there is no room or no memory, nothing was tried
abbrev pub HasFormatCause : DeviceSeen → DeviceSeen → ℕ → Result (Unit {0}) FormatStop → Type 0
HasFormatCause old new end (Ok done) = (end ≤ old.capacity) × (new.faults ≡ old.faults)
HasFormatCause old new end (Err (Io dev count)) = (end ≤ old.capacity) × StoppedBy old new dev count
HasFormatCause old new end (Err (NoSpace dev)) =
    (old.capacity < end) × (dev ≡ old.number) × (new ≡ old)
HasFormatCause old new end (Err NoMemory) = (end ≤ old.capacity) × (new ≡ old)

-- which writes were made, of the six that make an image
abbrev pub MakesNewImage : Creation → Result (Unit {0}) FormatStop → DeviceSeen → DeviceSeen
    → Type 0
MakesNewImage image (Ok done) before now = MakesStages seen image 0 6 None before now
MakesNewImage image (Err (Io dev count)) before now =
    MakesStages seen image 0 6 (Some (stops.Io count)) before now
MakesNewImage image (Err stop) before now = now ≡ before

-- wherever its writes stop, the file is as it was or no image, until all are made
abbrev pub IsNoneAtEachStop : Creation → DeviceSeen → Type 0
IsNoneAtEachStop image before = (ws : List Write) → AreStages image 0 ws → length ws ≡ 6
    → AtEachStopOf seen (IsBeforeOrNone ws) ws before

-- a device in whose file an image is created, or not
pub record IsFormatOf (old new : DeviceSeen) (image : Creation)
    (result : Result (Unit {0}) FormatStop) : Type 0 where
  pub node : new.node ≡ old.node
  pub number : new.number ≡ old.number
  pub within : ChangesWithin old.content new.content 0 (created_length image)
  pub writes : MakesNewImage image result old new
  pub stops : IsNoneAtEachStop image old
  pub holds : (before now : List ℕ) → old.content ≡ Some before → new.content ≡ Some now
      → HoldsAfter image before result now
  pub size : OnOk result (new.size ≡ max old.size (created_length image))
  pub grows : old.size ≤ new.size
  pub bound : new.size ≤ max old.size (created_length image)
  pub flushed : new.is_flushed
      ≡ (if is_tried result then option_map (λ _. false) old.is_flushed else old.is_flushed)
  pub capacity : new.capacity ≡ old.capacity
  pub faults : old.faults ≤ new.faults
  pub cause : HasFormatCause old new (created_length image) result

-- the same of the device of a `file` node, and all others as before
pub record IsFormatAt (file : ℕ) (old new : List DeviceSeen) (image : Creation)
    (result : Result (Unit {0}) FormatStop) : Type 0 where
  pub before : DeviceSeen
  pub after : DeviceSeen
  pub held : device_in old file ≡ Some before
  pub left : device_in new file ≡ Some after
  pub formatted : IsFormatOf before after image result
  pub only : OnlyAt file old new
