-- The parts of a run on an image, from its inputs to the transcript.
use Rattle.std.specs.Prelude.{◌≡◌, ◌≢◌, ◌⊎◌, ℕ, ◌<◌, ◌≤◌, true, List, [], length, Option, Some, None, is_some, ◌∷◌, ◌++◌, option_map}
use Rattle.blk_base.specs.Counts.{Rose}
use Rattle.blk_base.specs.Files.{IfTold}
use Rattle.blk_base.specs.Answers.{HasFile, LacksFile}
use Rattle.blk_base.specs.declared.file.CallOnFile.{CallOnFile}
use Rattle.blk_base.specs.declared.file.File.{File}
use Rattle.blk_base.specs.declared.store.StoreCall.{StoreCall}
use Rattle.blk_base.specs.declared.fault.FaultAt.{FaultAt}
use Rattle.blk_base.specs.declared.fault.FaultFrom.TheVariants.{Store, Dev, Sink}
use Rattle.blk_history.specs.Owned.{asked_by}
use Rattle.blk_base.specs.declared.fault.Outcome.{Outcome}
use Rattle.blk_base.specs.declared.fault.Outcome.TheVariants.{Io}
use Rattle.q2_format.specs.declared.header.TheConstants.{MIN_HEADER_LENGTH}
use Rattle.q2_image.specs.OpeningCalls.{IsOpeningCall}
use Rattle.qblk_inputs.specs.Inputs.{most_text}
use Rattle.qblk_inputs.specs.Reading.{FailsOn}
use Rattle.blk_nodes.specs.Contents.{Unfolds}
use Rattle.blk_nodes.specs.Joined.{IsJoined}
use Rattle.blk_nodes.specs.Nodes.{Nodes, DeviceSeen}
use Rattle.qblk_core.specs.Face.{SessionSeen, machine_on}
use Rattle.qblk_core.specs.Comes.{ComesFrom}
use Rattle.qblk_core.specs.Format.{HasGoodLength, IsGoodImage}
use Rattle.qblk_core.specs.ImageNodes.{AreMadeOf, HaveOneImage}
use Rattle.blk_pieces.specs.Pieces.{FlushesPart}
use Rattle.qblk_words.specs.declared.words.Format.{Format}
use Rattle.qblk_words.specs.declared.words.Format.TheVariants.{Qcow2}
use Rattle.qblk_core.specs.Run.{AskFor, machine_of, HasLengthFor, IsRefusedRead, IsBadBytes, IsImageCause}
use Rattle.qblk_core.specs.Output.{SendsFront}
use Rattle.qblk_core.specs.declared.input.TraceRead.{TraceRead}
use Rattle.qblk_core.specs.declared.input.TraceRead.TheVariants as reads
use Rattle.qblk_core.specs.declared.status.InputWhy.{InputWhy}
use Rattle.qblk_core.specs.declared.status.InputWhy.TheVariants.{Absent}
use Rattle.qblk_core.specs.declared.status.Status.{Status}
use Rattle.qblk_core.specs.declared.status.Status.TheVariants.{Done, Usage, Input, Fault, Stuck, NoMemory}

-- what reading the trace's file gave
abbrev pub IsTraceRead : List ℕ → TraceRead → List File → Type 0
IsTraceRead trace (reads.Whole bytes) files =
    HasFile trace (λ f. (length f.bytes ≤ most_text) × (bytes ≡ f.bytes)) files
IsTraceRead trace reads.Absent files = LacksFile trace files
IsTraceRead trace reads.TooLong files = HasFile trace (λ f. most_text < length f.bytes) files

-- a whole file is as short as a text may be
abbrev pub IsShortRead : TraceRead → Type 0
IsShortRead (reads.Whole bytes) = length bytes ≤ most_text
IsShortRead reads.Absent = Unit {0}
IsShortRead reads.TooLong = Unit {0}

-- a call of the store failed, or memory wasn't had
abbrev pub IsStoreStop : ℕ → ℕ → Status → Type 0
IsStoreStop before now Done = ⊥
IsStoreStop before now Usage = ⊥
IsStoreStop before now (Input name line why) = ⊥
IsStoreStop before now (Fault (Dev dev) count) = ⊥
IsStoreStop before now (Fault Sink count) = ⊥
IsStoreStop before now (Fault Store count) = Rose before count × (count ≡ now)
IsStoreStop before now (Stuck actor waits) = ⊥
IsStoreStop before now NoMemory = Unit {0}

-- this call of a store that is named failed on a file of which that holds
abbrev pub NamesStoreOn : StoreCall → (List ℕ → Type 0) → Option CallOnFile → Status → Type 0
NamesStoreOn call P last (Fault Store count) = FailsOn call P last
NamesStoreOn call P last status = Unit {0}

-- why an image isn't opened
abbrev pub IsOpenStop : List ℕ → Option (List File) → ℕ → ℕ → Status → Type 0
IsOpenStop image files before now Done = ⊥
IsOpenStop image files before now Usage = ⊥
IsOpenStop image files before now (Input name line why) =
    (name.bytes ≡ image) × (line ≡ 0) × (why ≡ Absent) × IfTold files (LacksFile image)
IsOpenStop image files before now (Fault (Dev dev) count) = ⊥
IsOpenStop image files before now (Fault Sink count) = ⊥
IsOpenStop image files before now (Fault Store count) = Rose before count × (count ≡ now)
IsOpenStop image files before now (Stuck actor waits) = ⊥
IsOpenStop image files before now NoMemory = Unit {0}

-- where a device tells its bytes, they are a good image, and the machine over it is theirs
abbrev pub TellsGoodImage : Format → Nodes → Option (List ℕ) → Type 0
TellsGoodImage format first content = (bytes : List ℕ) → content ≡ Some bytes
    → IsGoodImage format bytes × (machine_on first ≡ machine_of format bytes)

-- the fault of a flush
abbrev pub flush_fault : Outcome → Option FaultAt
flush_fault (Io dev count) = Some (record { from = Dev dev; count = count })
flush_fault outcome = None

-- the nodes were flushed, and their device is given back, with the fault where the flush failed
pub record AreNodesClosed (left last : Nodes) (flush : Outcome) (back : DeviceSeen)
    (fault : Option FaultAt) : Type 0 where
  pub flushed : FlushesPart left last 1 flush
  pub told : fault ≡ flush_fault flush
  pub joined : IsJoined last
  pub disks : Unfolds last
  pub one : HaveOneImage last
  pub given : last.devices ≡ back ∷ []

-- the requests of a trace were made on a device
pub record AreRequestsMade (format : Format) (trace : List ℕ) (before now : DeviceSeen)
    (w : SessionSeen)
    (fault : Option FaultAt) : Type 0 where
  pub first : Nodes
  pub last : Nodes
  pub flush : Outcome
  pub made : AreMadeOf format before first
  pub good : TellsGoodImage format first before.content
  pub asked : AskFor (asked_by 0 w.log.events) trace
  pub comes : ComesFrom first w
  pub idle : w.guest.flight ≡ None
  pub one : HaveOneImage w.nodes
  pub closed : AreNodesClosed w.nodes last flush now fault
  pub tells : (bytes : List ℕ) → now.content ≡ Some bytes → is_some now.is_flushed ≡ true
  pub sized : (bytes : List ℕ) → now.content ≡ Some bytes → now.size ≡ length bytes

-- the trace is refused, or memory wasn't had
abbrev pub IsTraceStop : List ℕ → TraceRead → Status → Type 0
IsTraceStop trace read Done = ⊥
IsTraceStop trace read Usage = ⊥
IsTraceStop trace read (Input name line why) = (name.bytes ≡ trace) × IsRefusedRead read why line
IsTraceStop trace read (Fault from count) = ⊥
IsTraceStop trace read (Stuck actor waits) = ⊥
IsTraceStop trace read NoMemory = Unit {0}

-- why an image isn't opened, by its device's length and by the bytes that this tells
pub record IsRefusedImage (format : Format) (why : InputWhy) (device : DeviceSeen) : Type 0 where
  pub bytes : (bytes : List ℕ) → device.content ≡ Some bytes → IsBadBytes format why bytes
  pub there : why ≢ Absent
  pub length : HasLengthFor why device.size
  pub cause : IsImageCause format why

-- an image on a device can be opened, by its length and by the bytes that it tells
pub record IsGoodDevice (format : Format) (device : DeviceSeen) : Type 0 where
  pub good : (bytes : List ℕ) → device.content ≡ Some bytes → IsGoodImage format bytes
  pub length : HasGoodLength format device.size

-- the image, which is judged before the trace, or the trace is refused; or the image's device failed
abbrev pub IsRunStop : Format → List ℕ → List ℕ → TraceRead → DeviceSeen → DeviceSeen → Status
    → Type 0
IsRunStop format image trace read before now Done = ⊥
IsRunStop format image trace read before now Usage = ⊥
IsRunStop format image trace read before now (Input name line why) =
    (now ≡ before)
    × (((name.bytes ≡ image) × (line ≡ 0) × IsRefusedImage format why before)
    ⊎ (IsGoodDevice format before × (name.bytes ≡ trace) × IsRefusedRead read why line))
IsRunStop format image trace read before now (Fault from count) =
    (format ≡ Qcow2) × (from ≡ Dev (record { 0 = 0 })) × Rose before.faults count
    × (count ≡ now.faults) × (MIN_HEADER_LENGTH ≤ before.size)
    × IfTold now.failed_call (IsOpeningCall before.size before.content)
IsRunStop format image trace read before now (Stuck actor waits) = ⊥
IsRunStop format image trace read before now NoMemory = now ≡ before

-- A transcript went out whole, or a front of it did, and a put failed. The fault of the last flush is named before that.
abbrev pub EndsIoAs : Option FaultAt → Option (List ℕ) → Option (List ℕ) → List ℕ → ℕ → ℕ → Status
    → Type 0
EndsIoAs None old new whole before now Done =
    (new ≡ option_map (λ s. s ++ whole) old) × (now ≡ before)
EndsIoAs None old new whole before now (Fault from count) =
    (from ≡ Sink) × SendsFront old new whole before now × (count ≡ now)
EndsIoAs (Some fault) old new whole before now (Fault from count) =
    (from ≡ fault.from) × (count ≡ fault.count)
    × (front : List ℕ) × (rest : List ℕ) × (front ++ rest ≡ whole)
    × (new ≡ option_map (λ s. s ++ front) old)
    × (((rest ≡ []) × (now ≡ before)) ⊎ Rose before now)
EndsIoAs fault old new whole before now status = ⊥

abbrev pub io_ended_as : Option FaultAt → Status
io_ended_as None = Done
io_ended_as (Some fault) = Fault fault.from fault.count

abbrev pub failed_as : Option FaultAt → ℕ → Status
failed_as None count = Fault Sink count
failed_as (Some fault) count = Fault fault.from fault.count
