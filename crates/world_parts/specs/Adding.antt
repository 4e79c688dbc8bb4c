-- The addition of a node: what the store and the image in its file tell for it.
use Rattle.std.specs.Prelude.{◌≡◌, ◌≢◌, ◌⊎◌, ℕ, ◌^◌, ◌<◌, ◌≤◌, Bool, true, false, List, [], ◌∷◌, ◌++◌, length, Option, Some, None, is_some}
use Rattle.blk_base.specs.Answers.{HasFile, LacksFile}
use Rattle.blk_base.specs.Content.{Log}
use Rattle.blk_base.specs.Counts.{Rose}
use Rattle.blk_base.specs.Files.{IfTold, given_back, is_out}
use Rattle.blk_base.specs.Stored.{IsDeviceOf, files_with_returned}
use Rattle.blk_base.specs.declared.device.DeviceCall.{DeviceCall}
use Rattle.blk_base.specs.declared.fault.DevNo.{DevNo}
use Rattle.blk_base.specs.declared.fault.FaultFrom.TheVariants.{Store, Dev}
use Rattle.blk_base.specs.declared.file.Opened.{Opened}
use Rattle.blk_base.specs.declared.store.StoreCall.TheVariants as calls
use Rattle.q2_format.specs.declared.header.Header.{Header}
use Rattle.q2_image.specs.Image.{Known}
use Rattle.q2_image.specs.declared.stop.ImageStop.{ImageStop}
use Rattle.q2_image.specs.declared.stop.ImageStop.TheVariants as stop
use Rattle.blk_nodes.specs.Adding.{with_node_device, with_node_row}
use Rattle.blk_nodes.specs.Nodes.{DeviceSeen, Nodes, device_in}
use Rattle.blk_nodes.specs.Overlays.{IsOpened, IsOpenedOn, IsUnopened, IsUnopenedOn}
use Rattle.blk_nodes.specs.declared.row.Driver.TheVariants as drivers
use Rattle.qmp_codec.specs.Commands.{Cmd}
use Rattle.qmp_codec.specs.declared.command.Command.TheVariants as command
use Rattle.qmp_codec.specs.declared.nodes.AddQcow2.{AddQcow2}
use Rattle.qmp_codec.specs.declared.nodes.Added.{Added}
use Rattle.qmp_codec.specs.declared.nodes.Added.TheVariants as added
use Rattle.qmp_codec.specs.declared.nodes.BlockdevAdd.{BlockdevAdd}
use Rattle.qmp_codec.specs.declared.nodes.FileRef.{FileRef}
use Rattle.qmp_codec.specs.declared.nodes.FileRef.TheVariants as file_ref
use Rattle.qmp_rules.specs.Answers.{refusal_to, told_none}
use Rattle.qmp_rules.specs.Looks.{ImageSight, file_stop, unfit_image, is_free_file, is_unopened, part_look, raw_stop, told_record}
use Rattle.qmp_rules.specs.Asks.{file_node}
use Rattle.qmp_rules.specs.Table.{RunTable}
use Rattle.qmp_rules.specs.declared.rows.NodeRecord.{NodeRecord}
use Rattle.qmp_asks.specs.declared.look.Look.{Look}
use Rattle.qmp_asks.specs.declared.look.Look.TheVariants as look
use Rattle.qmp_rules.specs.declared.told.Stopped.{Stopped}
use Rattle.qmp_rules.specs.declared.told.Told.{Told}
use Rattle.qmp_rules.specs.declared.refusal.FileFault.TheVariants.{Absent}
use Rattle.qmp_rules.specs.declared.refusal.Refusal.{Refusal}
use Rattle.qmp_rules.specs.declared.refusal.Refusal.TheVariants.{Aborted, File, Io, Image}
use Rattle.world_parts.specs.Stores.{StoreInRun}

-- ---- files that are opened

-- a device that was taken out of the store for a new node, and that no node has yet
pub record Taken : Type 0 where
  pub number : DevNo
  pub content : Option (List ℕ)
  pub is_flushed : Option Bool
  pub log : Option Log
  pub size : ℕ
  pub capacity : ℕ
  pub faults : ℕ
  pub failed_call : Option DeviceCall

-- the same as that of a node
abbrev pub of_node : ℕ → Taken → DeviceSeen
of_node node device = record {
  node = node;
  number = device.number;
  content = device.content;
  is_flushed = device.is_flushed;
  log = device.log;
  size = device.size;
  capacity = device.capacity;
  faults = device.faults;
  failed_call = device.failed_call;
}

-- the nodes with a `file` node over it
abbrev pub with_node_of_file : Nodes → ℕ → List ℕ → Bool → Taken → Nodes
with_node_of_file nodes id name read_only device = with_node_device
    (with_node_row nodes id name
    (record { driver = drivers.File; size = device.size; is_read_only = read_only }))
    (of_node id device)

-- the record of a device that is opened now
abbrev pub opening_of : List ℕ → Taken → Opened
opening_of name device = record {
  name = name;
  size = device.size;
  capacity = device.capacity;
  faults = device.faults;
  returned = None;
  failed_call = device.failed_call;
}

-- the device of that file is out, under the next number
pub record IsTakenOut (old new : StoreInRun) (name : List ℕ) (device : Taken) : Type 0 where
  pub is_its : IsDeviceOf old.files name device.content device.capacity device.is_flushed
  pub number : device.number ≡ record { 0 = length old.opened }
  pub sized : (bytes : List ℕ) → device.content ≡ Some bytes → device.size ≡ length bytes
  pub kept : new ≡ record old { opened = old.opened ++ opening_of name device ∷ [] }

-- why it isn't
pub record IsAbsent (old new : StoreInRun) (name : List ℕ) (why : Refusal) : Type 0 where
  pub is : why ≡ File name Absent
  pub lacks : IfTold old.files (LacksFile name)
  pub kept : new ≡ old

pub record HasOpeningFailed (old new : StoreInRun) (name : List ℕ) (why : Refusal) : Type 0 where
  pub is : why ≡ Io Store new.faults
  pub there : IfTold old.files (HasFile name (λ _. Unit {0}))
  pub rose : Rose old.faults new.faults
  pub faults : old.faults ≤ new.faults
  pub fits : new.faults ≤ 18446744073709551615
  pub call : IfTold new.failed_call (λ last. last ≡ record { name = name; call = calls.Open })
  pub kept : new ≡ record old { faults = new.faults; failed_call = new.failed_call }

abbrev pub IsFileUnopened : StoreInRun → StoreInRun → List ℕ → Refusal → Type 0
IsFileUnopened old new name why = IsAbsent old new name why ⊎ HasOpeningFailed old new name why

-- ---- images

-- what an image tells that is open
abbrev pub opened_sight : Header → ImageSight
opened_sight header =
    record { stop = None; size = header.size; names_backing = is_some header.name }

-- an image that isn't opened is refused, or a read of it failed
abbrev pub unopened : DevNo → ImageStop → Refusal
unopened number (stop.Io count) = Io (Dev number) count
unopened number other = Image other

-- the image on the device is open, and the device is as before
pub record IsOpenOn (old new : Taken) (image : Known) : Type 0 where
  pub on : IsOpenedOn (of_node 0 old) image
  pub kept : new ≡ old

-- a count that a stop names is one of 64 bits
abbrev pub CountFits : ImageStop → Type 0
CountFits (stop.Io count) = count ≤ 18446744073709551615
CountFits other = Unit {0}

-- or it isn't open, for that
pub record IsNotOpenOn (old new : Taken) (why : Refusal) : Type 0 where
  pub cause : ImageStop
  pub is : why ≡ unopened old.number cause
  pub memory : cause ≢ stop.NoMemory
  pub fits : CountFits cause
  pub numbered : old.number.0 < 2 ^ 32
  pub on : IsUnopenedOn (of_node 0 old) (of_node 0 new) cause
  pub kept : new ≡ record old { faults = new.faults; failed_call = new.failed_call }
  pub faults : old.faults ≤ new.faults

-- ---- what is told of a file that was opened

-- of its length
pub record TellsLength (stopped : Option Stopped) (first now : Taken)
    (image : Option Known) (told : Told) : Type 0 where
  pub is : told ≡ told_record (Some first.size) None stopped
  pub none : image ≡ None
  pub kept : now ≡ first

-- of a file that is too long for a node
pub record TellsLong (filename : List ℕ) (first now : Taken) (told : Told) : Type 0 where
  pub stopped : Stopped
  pub long : file_stop filename first.size ≡ Some stopped
  pub is : told ≡ told_record (Some first.size) None (Some stopped)
  pub kept : now ≡ first

-- of the image in it, or why it isn't open
pub record TellsAddedImage (t : RunTable) (node filename : List ℕ) (c : AddQcow2 (List ℕ))
    (first now : Taken) (image : Known) (told : Told) : Type 0 where
  pub on : IsOpenOn first now image
  pub fits : file_stop filename first.size ≡ None
  pub is : told ≡ told_record (Some first.size) (Some image.header.size)
      (unfit_image t node c (opened_sight image.header))

pub record TellsRefusal (filename : List ℕ) (first now : Taken) (told : Told) : Type 0 where
  pub why : Refusal
  pub on : IsNotOpenOn first now why
  pub fits : file_stop filename first.size ≡ None
  pub is : told
      ≡ told_record (Some first.size) None (Some (record { look = look.Image; refusal = why }))

abbrev pub TellsInside : RunTable → List ℕ → List ℕ → AddQcow2 (List ℕ) → Taken → Taken
    → Option Known → Told → Type 0
TellsInside t node filename c first now (Some image) told =
    TellsAddedImage t node filename c first now image told
TellsInside t node filename c first now None told =
    TellsLong filename first now told ⊎ TellsRefusal filename first now told

-- by the driver of the node that is added; others open no file
abbrev pub TellsAddition : RunTable → List ℕ → List ℕ → Added (List ℕ) → Taken → Taken
    → Option Known → Told
    → Type 0
TellsAddition t node filename (added.File own) first now image told =
    TellsLength (file_stop filename first.size) first now image told
TellsAddition t node filename (added.Raw raw) first now image told =
    TellsLength (raw_stop filename raw first.size) first now image told
TellsAddition t node filename (added.Qcow2 c) first now image told =
    TellsInside t node filename c first now image told
TellsAddition t node filename other first now image told = TellsLength None first now image told

-- ---- looks that are reached

abbrev pub Adding : Type 0
Adding = BlockdevAdd (List ℕ)

-- a file of the store, and the first look at it
pub record Opens : Type 0 where
  pub filename : List ℕ
  pub what : Look

-- A look is reached where a stop that stood there would be answered; no command of an addition is aborted otherwise.
abbrev pub probe : Look → Told
probe what = told_record None None (Some (record { look = what; refusal = Aborted }))

abbrev pub IsLookReached : RunTable → Cmd → Look → Type 0
IsLookReached t c what = refusal_to t (probe what) c ≡ Some Aborted

-- which file a command opens, and at which look it does
abbrev pub opens_by : FileRef (List ℕ) → Look → Option Opens
opens_by (file_ref.Name name) what = None
opens_by (file_ref.Inline file) what = Some (record { filename = file.filename; what = what })

abbrev pub opens : Added (List ℕ) → Option Opens
opens (added.File filename) = Some (record { filename = filename; what = look.File })
opens (added.Raw raw) = opens_by raw.file (part_look raw)
opens (added.Qcow2 c) = opens_by c.file look.File
opens driver = None

-- ---- a look at the store

-- The file isn't opened: a refusal stands before the look, or a node stands for it, or it was used.
pub record LooksAway (t : RunTable) (c : Cmd) (at : Opens) (old new : StoreInRun)
    (told : Told) : Type 0 where
  pub away : (refusal_to t (probe at.what) c ≢ Some Aborted) ⊎ (is_unopened t at.filename ≡ true)
  pub is : told ≡ told_none
  pub kept : new ≡ old

-- It is refused. A failed call stands at the look that makes it: what the file would have told stands there or behind.
abbrev pub look_in_vain : Look → Refusal → Look
look_in_vain what (Io from count) = what
look_in_vain what cause = look.File

pub record LooksInVain (at : Opens) (old new : StoreInRun) (told : Told) : Type 0 where
  pub why : Refusal
  pub cause : IsFileUnopened old new at.filename why
  pub is : told
      ≡ told_record None None (Some (record { look = look_in_vain at.what why; refusal = why }))

-- it is opened, and tells what it does
pub record LooksInside (t : RunTable) (c : Adding) (filename : List ℕ) (old new : StoreInRun)
    (now : Taken) (image : Option Known) (told : Told) : Type 0 where
  pub first : Taken
  pub out : IsTakenOut old new filename first
  pub tells : TellsAddition t c.node_name filename c.driver first now image told

abbrev pub LooksAtFile : RunTable → Adding → Opens → StoreInRun → StoreInRun → Option Taken
    → Option Known → Told → Type 0
LooksAtFile t c at old new (Some now) image told =
    LooksInside t c at.filename old new now image told
LooksAtFile t c at old new None image told = LooksInVain at old new told

-- where it is opened, the look is reached, no node stands for it and it wasn't used
abbrev pub Looks : RunTable → Adding → Opens → StoreInRun → StoreInRun → Option Taken → Option Known
    → Told → Type 0
Looks t c at old new out image told =
    (LooksAway t (command.BlockdevAdd c) at old new told × (out ≡ None) × (image ≡ None))
    ⊎ (LooksAtFile t c at old new out image told × (is_unopened t at.filename ≡ false)
    × IsLookReached t (command.BlockdevAdd c) at.what)

-- ---- a device that is given back

abbrev pub put_back : List ℕ → Taken → StoreInRun → StoreInRun
put_back filename device store = record store {
  files = files_with_returned filename device.content device.capacity device.is_flushed store.files;
  opened = given_back filename device.faults device.failed_call store.opened;
}

-- The file was opened and is back, and no call of its device failed or wrote; or it wasn't opened.
pub record IsBackAgain (old new : StoreInRun) (filename : List ℕ) : Type 0 where
  pub first : Taken
  pub between : StoreInRun
  pub inside : is_out filename old.opened ≡ false
  pub out : IsTakenOut old between filename first
  pub is : new ≡ put_back filename first between

abbrev pub IsBackIfOut : StoreInRun → StoreInRun → List ℕ → Type 0
IsBackIfOut old new filename = (new ≡ old) ⊎ IsBackAgain old new filename

-- ---- a look at a node

-- a `file` node without parents has the name
pub record IsFreeFile (t : RunTable) (file : List ℕ) (node : ℕ) : Type 0 where
  pub row : NodeRecord
  pub named : file_node t file ≡ Some row
  pub is : row.id ≡ node
  pub free : is_free_file t file ≡ true

-- The image in it isn't opened: a refusal stands before the look, or the node has a parent.
pub record LooksPast (t : RunTable) (c : Adding) (file : List ℕ) (old new : Nodes)
    (told : Told) : Type 0 where
  pub away : (refusal_to t (probe look.Image) (command.BlockdevAdd c) ≢ Some Aborted)
      ⊎ (is_free_file t file ≡ false)
  pub is : told ≡ told_none
  pub kept : new ≡ old

-- it is refused, or a read of it failed
pub record LooksBadly (t : RunTable) (c : Adding) (file : List ℕ) (old new : Nodes)
    (told : Told) : Type 0 where
  pub reached : IsLookReached t (command.BlockdevAdd c) look.Image
  pub node : ℕ
  pub free : IsFreeFile t file node
  pub device : DeviceSeen
  pub held : device_in old.devices node ≡ Some device
  pub cause : ImageStop
  pub memory : cause ≢ stop.NoMemory
  pub fits : CountFits cause
  pub numbered : device.number.0 < 2 ^ 32
  pub stopped : IsUnopened old.devices new.devices node cause
  pub is : told ≡ told_record None None
      (Some (record { look = look.Image; refusal = unopened device.number cause }))

-- it is open
pub record LooksWell (t : RunTable) (node file : List ℕ) (added : AddQcow2 (List ℕ))
    (old new : Nodes) (image : Known) (told : Told) : Type 0 where
  pub id : ℕ
  pub free : IsFreeFile t file id
  pub opened : IsOpened old.devices id image
  pub kept : new ≡ old
  pub is : told ≡ told_record None (Some image.header.size)
      (unfit_image t node added (opened_sight image.header))

abbrev pub LooksUnder : RunTable → Adding → AddQcow2 (List ℕ) → List ℕ → Nodes → Nodes
    → Option Known
    → Told → Type 0
LooksUnder t c added file old new (Some image) told =
    LooksWell t c.node_name file added old new image told
LooksUnder t c added file old new None told =
    LooksPast t c file old new told ⊎ LooksBadly t c file old new told
