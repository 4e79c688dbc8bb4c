-- What a write of a piece leaves and answers, and which nodes may be written.
use Rattle.std.specs.Prelude.{◌≡◌, ◌≢◌, ◌⊎◌, ℕ, ◌+◌, ◌%◌, ◌<◌, ◌≤◌, ◌==◌, if◌then◌else◌, Bool, true, false, List, [], length, replicate, take, Option, option_map, is_some, Some, None, Result, Ok, Err}
use Rattle.blk_base.specs.Calls.{FailedLast}
use Rattle.blk_base.specs.Content.{with_bytes, size_with, GoesOn}
use Rattle.blk_base.specs.Pieces.{Extent}
use Rattle.blk_base.specs.declared.device.DeviceCall.TheVariants.{Write}
use Rattle.blk_base.specs.declared.device.Stop.{Stop}
use Rattle.blk_base.specs.declared.device.Stop.TheVariants as why
use Rattle.blk_base.specs.declared.device.WriteStop.{WriteStop}
use Rattle.blk_base.specs.declared.fault.DevNo.{DevNo}
use Rattle.blk_base.specs.declared.fault.DevStop.{DevStop}
use Rattle.blk_base.specs.declared.fault.DevStop.TheVariants as stops
use Rattle.blk_base.specs.declared.fault.Outcome.{Outcome}
use Rattle.blk_base.specs.declared.fault.Outcome.TheVariants.{Good, Torn, Io, NoSpace}
use Rattle.q2_format.specs.declared.entries.L2Entry.{L2Entry}
use Rattle.q2_format.specs.declared.entries.L2Entry.TheVariants as entries
use Rattle.q2_image.specs.Image.{Known, IsImageOf, entry_in}
use Rattle.q2_image.specs.Room.{WriteFits, ZerosFit, entry_for, is_whole}
use Rattle.q2_image.specs.Writing.{IsDiskWith, HasHeaderOf, StaysTaken, own_place}
use Rattle.blk_nodes.specs.Changing.{ImageChange, IsImageWritten, IsZeroed, LeavesRow, cluster_around}
use Rattle.blk_nodes.specs.Contents.{IsToldDisk}
use Rattle.blk_nodes.specs.Found.{IsReadOfSource}
use Rattle.blk_nodes.specs.Nodes.{Nodes, DeviceSeen, row_at, device_in, file_of, backing_of}
use Rattle.blk_nodes.specs.Reading.{HaveRisen, OnlyAt, StoppedBy, LeadsTo}
use Rattle.blk_nodes.specs.Sources.{source_at}
use Rattle.blk_nodes.specs.declared.row.Driver.{Driver}
use Rattle.blk_nodes.specs.declared.row.Driver.TheVariants as drivers
use Rattle.blk_nodes.specs.declared.row.Row.{Row}
use Rattle.blk_nodes.specs.declared.source.Source.TheVariants.{File}

-- what a write of these bytes that went so has written
abbrev pub taken_by : Outcome → List ℕ → List ℕ
taken_by Good bytes = bytes
taken_by (Torn done dev count) bytes = take done bytes
taken_by (Io dev count) bytes = []
taken_by (NoSpace dev) bytes = []

abbrev pub outcome_by : DeviceSeen → ℕ → Stop → Outcome
outcome_by device done why.NoSpace = NoSpace device.number
outcome_by device done why.Failed =
    if done == 0 then Io device.number device.faults else Torn done device.number device.faults

-- what a write that stopped has answered
abbrev pub write_outcome : DeviceSeen → WriteStop → Outcome
write_outcome device stop = outcome_by device stop.done stop.why

-- why a write of so many bytes at a place went so: it has room unless it is refused for want of that, and else only a fault
-- stops it, within the bytes at a border of sectors or before them, and this very call of the device is what failed
abbrev pub HasCauseOf : DeviceSeen → DeviceSeen → ℕ → ℕ → Outcome → Type 0
HasCauseOf old new place n Good = (place + n ≤ old.capacity) × (new.faults ≡ old.faults)
    × (new.failed_call ≡ old.failed_call)
HasCauseOf old new place n (Torn done dev count) = (place + n ≤ old.capacity)
    × (0 < done) × (done < n) × ((place + done) % 512 ≡ 0) × StoppedBy old new dev count
    × FailedLast (Write place n) new.failed_call
HasCauseOf old new place n (Io dev count) = (place + n ≤ old.capacity)
    × StoppedBy old new dev count × FailedLast (Write place n) new.failed_call
HasCauseOf old new place n (NoSpace dev) = (old.capacity < place + n) × (dev ≡ old.number)
    × (new.faults ≡ old.faults) × (new.failed_call ≡ old.failed_call)

-- a device after a write of these bytes at a place
pub record IsWriteOf (old new : DeviceSeen) (place : ℕ) (bytes : List ℕ)
    (outcome : Outcome) : Type 0 where
  pub node : new.node ≡ old.node
  pub number : new.number ≡ old.number
  pub content : new.content ≡ option_map (λ b. with_bytes b place (taken_by outcome bytes))
      old.content
  pub size : new.size ≡ size_with old.size place (taken_by outcome bytes)
  pub log : GoesOn old.log place (taken_by outcome bytes) new.log
  pub flushed : new.is_flushed ≡ option_map (λ _. false) old.is_flushed
  pub capacity : new.capacity ≡ old.capacity
  pub faults : old.faults ≤ new.faults
  pub cause : HasCauseOf old new place (length bytes) outcome

-- the device of a `file` node was written, and no other
pub record IsWriteAt (file : ℕ) (old new : List DeviceSeen) (place : ℕ) (bytes : List ℕ)
    (outcome : Outcome) : Type 0 where
  pub before : DeviceSeen
  pub after : DeviceSeen
  pub held : device_in old file ≡ Some before
  pub left : device_in new file ≡ Some after
  pub wrote : IsWriteOf before after place bytes outcome
  pub only : OnlyAt file old new

-- Of the image on a device.

-- it is the same device, whose count may have risen
pub record IsDeviceAfter (old new : DeviceSeen) : Type 0 where
  pub node : new.node ≡ old.node
  pub number : new.number ≡ old.number
  pub told : is_some new.content ≡ is_some old.content
  pub capacity : new.capacity ≡ old.capacity
  pub faults : old.faults ≤ new.faults

-- a guest cluster that has an entry keeps one
abbrev pub StaysMapped : Known → Known → Type 0
StaysMapped before after = (cluster : ℕ) → entry_in before cluster ≢ entries.Unallocated
    → entry_in after cluster ≢ entries.Unallocated

-- what is so of an image and of its device behind a call that writes these bytes from a place of the image's disk on
pub record IsImageWrite (old new : DeviceSeen) (before after : Known) (place : ℕ)
    (bytes : List ℕ) : Type 0 where
  pub device : IsDeviceAfter old new
  -- what is known of the image is so of the file
  pub image : (b : List ℕ) → new.content ≡ Some b → IsImageOf b after
  pub disk : (b now : List ℕ) → old.content ≡ Some b → new.content ≡ Some now
      → IsDiskWith b now place bytes
  pub header : HasHeaderOf before after
  pub taken : StaysTaken before after
  pub mapped : StaysMapped before after

-- n bytes were torn that are written in place there; none are where they aren't
abbrev pub IsTornAt : Option ℕ → ℕ → ℕ → Type 0
IsTornAt None n done = ⊥
IsTornAt (Some place) n done = (0 < done) × (done < n) × ((place + done) % 512 ≡ 0)

-- why it went so: there is room unless it is refused for want of that, and then nothing is tried; and else only a fault stops it
abbrev pub HasImageCause : Type 0 → Option ℕ → ℕ → DeviceSeen → DeviceSeen → Known → Known
    → Outcome → Type 0
HasImageCause fits place n old new before after Good = fits × (new.faults ≡ old.faults)
HasImageCause fits place n old new before after (Torn done dev count) =
    fits × IsTornAt place n done × StoppedBy old new dev count
HasImageCause fits place n old new before after (Io dev count) = fits × StoppedBy old new dev count
HasImageCause fits place n old new before after (NoSpace dev) =
    (fits → ⊥) × (dev ≡ old.number) × (new ≡ old) × (after ≡ before)

pub record IsImageCall (fits : Type 0) (own : Option ℕ) (change : ImageChange)
    (old new : DeviceSeen) (before after : Known) (place : ℕ) (bytes : List ℕ)
    (outcome : Outcome) : Type 0 where
  pub wrote : IsImageWrite old new before after place (taken_by outcome bytes)
  pub cause : HasImageCause fits own (length bytes) old new before after outcome
  pub changed : change before after old new outcome

-- the same of the device of a `file` node; whether there is room goes by its capacity
pub record IsImageCallAt (file : ℕ) (fits : ℕ → Type 0) (own : Option ℕ)
    (change : ImageChange) (old new : List DeviceSeen) (image now : Known) (place : ℕ)
    (bytes : List ℕ) (outcome : Outcome) : Type 0 where
  pub before : DeviceSeen
  pub after : DeviceSeen
  pub held : device_in old file ≡ Some before
  pub left : device_in new file ≡ Some after
  pub call : IsImageCall (fits before.capacity) own change before after image now place bytes
      outcome
  pub only : OnlyAt file old new
  pub full : (dev : DevNo) → outcome ≡ NoSpace dev → new ≡ old

-- how a write of a whole cluster went, or of its entry
abbrev pub cluster_outcome : DeviceSeen → Result (Unit {0}) DevStop → Outcome
cluster_outcome device (Ok done) = Good
cluster_outcome device (Err (stops.Io count)) = Io device.number count
cluster_outcome device (Err stops.NoSpace) = NoSpace device.number

-- whether there is room on a device
abbrev pub HasRoomBy : Type 0 → DeviceSeen → Outcome → Type 0
HasRoomBy fits device Good = fits
HasRoomBy fits device (Torn done dev count) = ⊥
HasRoomBy fits device (Io dev count) = ⊥
HasRoomBy fits device (NoSpace dev) = (fits → ⊥) × (dev ≡ device.number)

abbrev pub HasRoomAt : ℕ → List DeviceSeen → (ℕ → Type 0) → Outcome → Type 0
HasRoomAt file devices fits outcome = (device : DeviceSeen) → device_in devices file ≡ Some device
    → HasRoomBy (fits device.capacity) device outcome

abbrev pub FitsAt : ℕ → List DeviceSeen → (ℕ → Type 0) → Type 0
FitsAt file devices fits =
    (device : DeviceSeen) → device_in devices file ≡ Some device → fits device.capacity

-- Of a node.

-- the `file` node that a node reads and writes
abbrev pub own_file : Nodes → ℕ → Driver → Option ℕ
own_file nodes node drivers.File = Some node
own_file nodes node (drivers.Raw part) = file_of nodes node
own_file nodes node (drivers.Qcow2 image) = file_of nodes node
own_file nodes node drivers.CopyOnRead = None
own_file nodes node (drivers.Filter kind) = None

-- where a place of a node that is no image stands in its file
abbrev pub own_start : Driver → ℕ → ℕ
own_start (drivers.Raw part) place = part.offset + place
own_start driver place = place

-- the piece of a node was written where its bytes stand in a file, which is the node's
pub record WritesFile (old new : Nodes) (node place : ℕ) (bytes : List ℕ)
    (outcome : Outcome) : Type 0 where
  pub file : ℕ
  pub start : ℕ
  pub stands : source_at old node place ≡ File file start
  pub row : Row
  pub there : row_at old node ≡ Some row
  pub own : own_file old node row.driver ≡ Some file
  pub start_is : start ≡ own_start row.driver place
  pub at : IsWriteAt file old.devices new.devices start bytes outcome

-- where a part of a cluster is written in place, by its entry
abbrev pub own_place_by : L2Entry → Known → Extent → Option ℕ
own_place_by (entries.Host host) image span = Some (own_place image span)
own_place_by entry image span = None

-- What is read for the rest of a part's cluster: all that the disk has of the cluster. Nothing is where the part is written in
-- place, or where it is all of that.
abbrev pub rest_span : Option ℕ → Bool → Known → Extent → Option Extent
rest_span (Some own) whole image span = None
rest_span None true image span = None
rest_span None false image span = Some (cluster_around image span)

-- it was read, in one call, and that went so
abbrev pub IsRestRead : Option Extent → Nodes → Nodes → ℕ → Outcome → Type 0
IsRestRead None old new node outcome = ⊥
IsRestRead (Some span) old new node outcome =
    IsReadOfSource old.rows (source_at old node span.start) span old.devices new.devices outcome

-- Why a piece of an image went so whose file is on this device. What stops it before its first byte is a call of that device, or
-- the read of the rest of its cluster.
abbrev pub HasPieceCause : Type 0 → Option ℕ → Option Extent → ℕ → ℕ → Nodes → Nodes → ℕ
    → DeviceSeen → DeviceSeen → Outcome → Type 0
HasPieceCause fits own rest n file old new node before after Good =
    fits × (after.faults ≡ before.faults) × OnlyAt file old.devices new.devices
HasPieceCause fits own rest n file old new node before after (Torn done dev count) =
    fits × IsTornAt own n done × StoppedBy before after dev count
    × OnlyAt file old.devices new.devices
HasPieceCause fits own rest n file old new node before after (Io dev count) =
    fits × ((StoppedBy before after dev count × OnlyAt file old.devices new.devices)
    ⊎ IsRestRead rest old new node (Io dev count))
HasPieceCause fits own rest n file old new node before after (NoSpace dev) =
    (fits → ⊥) × (dev ≡ before.number) × (new ≡ old)

-- the piece of a node was written to the image in its file
pub record WritesImage (fits : ℕ → Type 0) (own : Option ℕ) (rest : Option Extent)
    (old new : Nodes) (node n : ℕ) (outcome : Outcome) : Type 0 where
  pub file : ℕ
  pub edge : file_of old node ≡ Some file
  pub before : DeviceSeen
  pub after : DeviceSeen
  pub held : device_in old.devices file ≡ Some before
  pub left : device_in new.devices file ≡ Some after
  pub device : IsDeviceAfter before after
  -- no other device was written: it alone was called, or counts alone rose
  pub devices : OnlyAt file old.devices new.devices ⊎ HaveRisen old.devices new.devices
  pub cause : HasPieceCause (fits before.capacity) own rest n file old new node before after outcome

-- by what the node is
abbrev pub WritesBy : Driver → Nodes → Nodes → ℕ → Extent → List ℕ → Outcome → Type 0
WritesBy (drivers.Qcow2 image) old new node span bytes outcome =
    let own = own_place_by (entry_for image span) image span in
    WritesImage (WriteFits image span) own (rest_span own (is_whole image span) image span) old new
    node (length bytes) outcome
WritesBy driver old new node span bytes outcome = WritesFile old new node span.start bytes outcome

pub record WritesPiece (old new : Nodes) (node : ℕ) (span : Extent) (bytes : List ℕ)
    (outcome : Outcome) : Type 0 where
  pub row : Row
  pub there : row_at old node ≡ Some row
  pub wrote : WritesBy row.driver old new node span bytes outcome
  pub left : LeavesRow (IsImageWritten (IsToldDisk old node) span bytes) row.driver row old new node
      outcome

-- zeros are written in place where they are no whole cluster
abbrev pub zeros_place : Bool → Known → Extent → Option ℕ
zeros_place true image span = None
zeros_place false image span = own_place_by (entry_for image span) image span

abbrev pub ZerosBy : Driver → Nodes → Nodes → ℕ → Extent → Outcome → Type 0
ZerosBy (drivers.Qcow2 image) old new node span outcome =
    let whole = is_whole image span in
    let own = zeros_place whole image span in
    WritesImage (ZerosFit image span) own (rest_span own whole image span) old new node span.len
    outcome
ZerosBy driver old new node span outcome =
    WritesFile old new node span.start (replicate span.len 0) outcome

pub record ZerosPiece (old new : Nodes) (node : ℕ) (span : Extent)
    (outcome : Outcome) : Type 0 where
  pub row : Row
  pub there : row_at old node ≡ Some row
  pub wrote : ZerosBy row.driver old new node span outcome
  pub left : LeavesRow (IsZeroed (IsToldDisk old node) span) row.driver row old new node outcome

-- What stays.

-- what a node is stays, but for what is known of its image
abbrev pub IsDriverAfter : Driver → Driver → Type 0
IsDriverAfter drivers.File new = new ≡ drivers.File
IsDriverAfter (drivers.Raw part) new = new ≡ drivers.Raw part
IsDriverAfter (drivers.Qcow2 image) new =
    (now : Known) × (new ≡ drivers.Qcow2 now) × HasHeaderOf image now × StaysTaken image now
    × StaysMapped image now
IsDriverAfter drivers.CopyOnRead new = new ≡ drivers.CopyOnRead
IsDriverAfter (drivers.Filter kind) new = new ≡ drivers.Filter kind

pub record IsRowAfter (old new : Row) : Type 0 where
  pub size : new.size ≡ old.size
  pub is_read_only : new.is_read_only ≡ old.is_read_only
  pub driver : IsDriverAfter old.driver new.driver

abbrev pub AreRowsAfter : Option Row → Option Row → Type 0
AreRowsAfter None new = new ≡ None
AreRowsAfter (Some old) new = (row : Row) × (new ≡ Some row) × IsRowAfter old row

-- all but the devices is as before, and what is known of the node's own image
pub record LeavesNodes (old new : Nodes) (node : ℕ) : Type 0 where
  pub graph : new.graph ≡ old.graph
  pub others : (other : ℕ) → other ≢ node → row_at new other ≡ row_at old other
  pub own : AreRowsAfter (row_at old node) (row_at new node)

-- Which nodes may be written.

-- the image of a node is in a file
pub record HasImageIn (nodes : Nodes) (node file : ℕ) : Type 0 where
  pub row : Row
  pub image : Known
  pub there : row_at nodes node ≡ Some row
  pub driver : row.driver ≡ drivers.Qcow2 image
  pub edge : file_of nodes node ≡ Some file

-- no image but that of this node is in a file
abbrev pub OwnsFile : Nodes → ℕ → ℕ → Type 0
OwnsFile nodes node file = (other : ℕ) → HasImageIn nodes other file → other ≡ node

-- no path leads from a node's backing node to its file, so that what it reads below itself stays
abbrev pub IsOverApart : Nodes → ℕ → Type 0
IsOverApart nodes node =
    (over file : ℕ) → backing_of nodes node ≡ Some over → file_of nodes node ≡ Some file
    → ¬ LeadsTo nodes.graph.edges over file

abbrev pub CanBeWritten : Nodes → ℕ → Driver → Type 0
CanBeWritten nodes node drivers.File = Unit {0}
CanBeWritten nodes node (drivers.Raw part) = Unit {0}
CanBeWritten nodes node (drivers.Qcow2 image) = IsOverApart nodes node
CanBeWritten nodes node drivers.CopyOnRead = ⊥
CanBeWritten nodes node (drivers.Filter kind) = ⊥

-- A node that may be written: it isn't read-only, and no other node's image is in its file, so that a write through it breaks
-- nothing that is known of one.
pub record MayWriteThrough (nodes : Nodes) (node : ℕ) : Type 0 where
  pub row : Row
  pub there : row_at nodes node ≡ Some row
  pub writable : row.is_read_only ≡ false
  pub can : CanBeWritten nodes node row.driver
  pub owns : (file : ℕ) → own_file nodes node row.driver ≡ Some file → OwnsFile nodes node file

-- no path leads from a node to the file of another
abbrev pub IsApartFrom : Nodes → ℕ → ℕ → Type 0
IsApartFrom nodes other node = (row : Row) (file : ℕ) → row_at nodes node ≡ Some row
    → own_file nodes node row.driver ≡ Some file
    → ¬ LeadsTo nodes.graph.edges other file
