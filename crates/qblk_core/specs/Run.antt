-- What a run of a trace on one image is, seen from outside.
use Rattle.std.specs.Prelude.{◌≡◌, ◌⊎◌, ℕ, ◌<◌, ◌≤◌, Bool, true, false, ⊤, List, [], ◌∷◌, ◌++◌, length, take, All, IsUtf8, IsSome, Option, Some, option_map, Ok, Err}
use Rattle.blk_base.specs.Counts.{Rose}
use Rattle.blk_base.specs.Files.{file_at, put_file, IfTold}
use Rattle.blk_base.specs.Answers.{HasFile, LacksFile}
use Rattle.blk_base.specs.declared.file.CallOnFile.{CallOnFile}
use Rattle.blk_base.specs.declared.file.File.{File}
use Rattle.blk_base.specs.declared.file.Opened.{Opened}
use Rattle.blk_base.specs.declared.fault.FaultFrom.{FaultFrom}
use Rattle.blk_base.specs.declared.fault.FaultFrom.TheVariants.{Store, Dev, Sink}
use Rattle.blk_base.specs.declared.store.StoreCall.TheVariants as calls
use Rattle.trace_codec.specs.Trace.{ops_of}
use Rattle.trace_codec.specs.declared.op.Op.{Op}
use Rattle.trace_codec.specs.declared.stop.TraceStop.TheVariants as stops
use Rattle.blk_history.specs.Fold.{With}
use Rattle.blk_history.specs.Machine.{IoState, disk_in, io_replay}
use Rattle.blk_history.specs.Legal.{LegalIo}
use Rattle.blk_history.specs.Owned.{asked_by, IsIdle}
use Rattle.blk_history.specs.Licence.{counted, RoseSince, NameRises, NameNone}
use Rattle.blk_history.specs.Small.{IsSmall}
use Rattle.blk_history.specs.Names.{RowNames}
use Rattle.blk_history.specs.Transcript.{transcript}
use Rattle.blk_history.specs.declared.event.Event.{Event}
use Rattle.q2_format.specs.Header.{header_of}
use Rattle.q2_format.specs.Sound.{IsSound, image_refusal}
use Rattle.q2_format.specs.declared.header.HeaderStop.TheVariants as headers
use Rattle.q2_format.specs.declared.header.TheConstants.{MAX_DISK_SIZE, MIN_HEADER_LENGTH}
use Rattle.q2_image.specs.Opening.{refusal_of}
use Rattle.q2_image.specs.Refusals.{IsRefusalFor}
use Rattle.q2_image.specs.OpeningCalls.{IsOpeningCall}
use Rattle.q2_image.specs.declared.stop.ImageStop.TheVariants as images
use Rattle.qblk_core.specs.Format.{CanHoldImage, disk_by_format, HasGoodLength, IsGoodImage, IsSoundAs}
use Rattle.qblk_words.specs.declared.words.Format.{Format}
use Rattle.qblk_words.specs.declared.words.Format.TheVariants.{Raw, Qcow2}
use Rattle.blk_base.specs.declared.fault.Outcome.{Outcome}
use Rattle.blk_base.specs.Outcomes.{is_good}
use Rattle.blk_nodes.specs.Nodes.{Nodes, DeviceSeen}
use Rattle.blk_nodes.specs.Reading.{HasRisen, StoppedBy}
use Rattle.qblk_inputs.specs.Inputs.{most_text}
use Rattle.qblk_inputs.specs.Reading.{OnFile, FailsOn, input_read}
use Rattle.qblk_inputs.specs.declared.stop.InputFlaw.{InputFlaw}
use Rattle.qblk_inputs.specs.declared.stop.InputFlaw.TheVariants as flaws
use Rattle.qblk_core.specs.Along.{CountsOutcome, HaveNodes, GoesInTurn}
use Rattle.qblk_core.specs.Face.{state_with, new_io_guest, machine_on}
use Rattle.qblk_core.specs.ImageNodes.{AreMadeOf, device_faults, only_device}
use Rattle.blk_pieces.specs.Pieces.{FlushesPart}
use Rattle.qblk_core.specs.declared.input.TraceRead.{TraceRead}
use Rattle.qblk_core.specs.declared.input.TraceRead.TheVariants as reads
use Rattle.qblk_core.specs.declared.status.InputWhy.{InputWhy}
use Rattle.qblk_core.specs.declared.status.InputWhy.TheVariants.{Absent, NotUtf8, TooLong, BadLine, TooMany, TooLarge, NeedsBacking, Image}
use Rattle.qblk_core.specs.declared.status.Status.{Status}
use Rattle.qblk_core.specs.declared.status.Status.TheVariants.{Done, Usage, Input, Fault, Stuck, NoMemory}

-- what is seen of a store and a sink
pub record Outside : Type 0 where
  pub files : Option (List File)
  pub opened : List Opened
  pub store_faults : ℕ
  pub failed_call : Option CallOnFile
  pub sent : Option (List ℕ)
  pub sink_faults : ℕ

-- the machine of an image whose file holds these bytes, before the first request
abbrev pub machine_of : Format → List ℕ → IoState
machine_of format bytes =
    let disk = disk_by_format format bytes
    in state_with (length bytes) (length disk) new_io_guest (Some disk)

-- the one guest is called `disk`
abbrev pub guest_names : RowNames
guest_names = record { guests = (100 ∷ 105 ∷ 115 ∷ 107 ∷ []) ∷ []; jobs = [] }

-- The run on the nodes: they are made over the device, the history leaves them so, and at last what is under them is flushed.
pub record IsRunOn (format : Format) (h : List Event) (device : DeviceSeen)
    (first left last : Nodes) (flush : Outcome) : Type 0 where
  pub made : AreMadeOf format device first
  pub in_turn : GoesInTurn (machine_on first) h
  pub retired : IsIdle (io_replay (machine_on first) h)
  pub along : HaveNodes (machine_on first) first h left
  pub flushed : FlushesPart left last 1 flush

-- the device has what the file has
pub record IsOverFile (device : DeviceSeen) (f : File) : Type 0 where
  pub content : device.content ≡ Some f.bytes
  pub is_flushed : device.is_flushed ≡ Some f.is_flushed
  pub size : device.size ≡ length f.bytes
  pub capacity : device.capacity ≡ f.capacity

-- the image's file at the end reads as the flat disk of a legal history, and all else is as it was
pub record TellsDisk (format : Format) (image : List ℕ) (h : List Event) (good : Bool)
    (device : DeviceSeen) (first : Nodes) (back : DeviceSeen) (old : List File)
    (new : Option (List File)) (f : File) : Type 0 where
  pub file : file_at image old ≡ Some f
  pub opened : IsOverFile device f
  pub machine : machine_on first ≡ machine_of format f.bytes
  pub legal : LegalIo (machine_of format f.bytes) h
  -- the file's bytes at the end, and whether they are flushed
  pub bytes : List ℕ
  pub is_flushed : Bool
  pub content : back.content ≡ Some bytes
  pub flushed : back.is_flushed ≡ Some is_flushed
  pub kept : good ≡ true → is_flushed ≡ true
  pub disk : disk_in (io_replay (machine_of format f.bytes) h).disks 1
      ≡ Some (disk_by_format format bytes)
  pub sound : IsSoundAs format bytes
  pub files : new ≡ Some (put_file (record {
    name = image;
    bytes = bytes;
    capacity = f.capacity;
    is_flushed = is_flushed;
  }) old)

-- The counts of the image's device: where it was opened, behind the opening, behind the last request, and where it is given
-- back. The opening raised none. From then on to the last flush each rise is named by one entry, which gives the count that
-- is there then. The last flush raised one where it failed, and else none.
pub record HaveCounts (h : List Event) (flush : Outcome) (before opened left now : ℕ) : Type 0
  where
    pub opening : opened ≡ before
    pub risen : NameRises (opened ∷ []) h
    pub last : counted (opened ∷ []) h ≡ left ∷ []
    pub flushed : CountsOutcome left now flush

-- the record of the image's device as it was opened, once it is back as it is then
abbrev pub closed_opening : List ℕ → DeviceSeen → DeviceSeen → Opened
closed_opening image device back = record {
  name = image;
  size = device.size;
  capacity = device.capacity;
  faults = device.faults;
  returned = Some back.faults;
  failed_call = back.failed_call;
}

-- a history of these requests on that image: each stands once, in order
pub record IsIoRun (format : Format) (image : List ℕ) (ops : List Op) (flushed : Bool)
    (old new : Outside) (h : List Event) (before now : ℕ) : Type 0 where
  pub asked : asked_by 0 h ≡ ops
  -- so that its transcript is that of no other
  pub small : All IsSmall h
  -- the device as it was opened, and as it is given back
  pub device : DeviceSeen
  pub back : DeviceSeen
  pub opened : new.opened ≡ old.opened ++ closed_opening image device back ∷ []
  -- where the count has not risen, no piece was stopped by a fault
  pub quiet : now ≡ before → before < 18446744073709551615 → NameNone h
  -- the nodes over it
  pub first : Nodes
  pub left : Nodes
  pub end : Nodes
  pub flush : Outcome
  pub on : IsRunOn format h device first left end flush
  pub good : is_good flush ≡ flushed
  pub ends : (device.faults ≡ before) × (back.faults ≡ now)
  pub given : end.devices ≡ back ∷ []
  pub counts : HaveCounts h flush before (device_faults first) (device_faults left) now
  pub told : IfTold old.files (λ files. (f : File)
      × TellsDisk format image h flushed device first back files new.files f)

-- the image is there and can be opened
abbrev pub HasImage : Format → List ℕ → List File → Type 0
HasImage format image files = HasFile image (λ f. IsGoodImage format f.bytes) files

-- the bytes of a trace that asks for this
abbrev pub AskFor : List Op → List ℕ → Type 0
AskFor ops bytes = (length bytes ≤ most_text) × IsUtf8 bytes × (ops_of bytes ≡ Ok ops)

-- the trace is there, and asks for it
abbrev pub HasTrace : List ℕ → List Op → List File → Type 0
HasTrace trace ops files = HasFile trace (λ f. AskFor ops f.bytes) files

-- why a trace's bytes are refused, and at which line
abbrev pub IsFlawInTrace : InputWhy → ℕ → List ℕ → Type 0
IsFlawInTrace Absent line bytes = ⊥
IsFlawInTrace TooLarge line bytes = ⊥
IsFlawInTrace NeedsBacking line bytes = ⊥
IsFlawInTrace (Image stop) line bytes = ⊥
IsFlawInTrace TooLong line bytes = (line ≡ 0) × (most_text < length bytes)
IsFlawInTrace NotUtf8 line bytes = (line ≡ 0) × (length bytes ≤ most_text) × (IsUtf8 bytes → ⊥)
IsFlawInTrace BadLine line bytes =
    (length bytes ≤ most_text) × IsUtf8 bytes × (ops_of bytes ≡ Err (stops.BadLine line))
IsFlawInTrace TooMany line bytes =
    (length bytes ≤ most_text) × IsUtf8 bytes × (ops_of bytes ≡ Err (stops.TooMany line))

-- why an image's bytes are refused: a qcow2 image by its first refusal, and then for its backing name
abbrev pub IsBadBytes : Format → InputWhy → List ℕ → Type 0
IsBadBytes Raw TooLarge bytes = MAX_DISK_SIZE < length bytes
IsBadBytes Qcow2 NeedsBacking bytes = IsSound bytes × IsSome (header_of bytes).name
IsBadBytes Qcow2 (Image stop) bytes =
    With (refusal_of stop) (λ refusal. image_refusal bytes ≡ Some refusal)
IsBadBytes format why bytes = ⊥

abbrev pub IsBadImage : Format → InputWhy → List ℕ → List File → Type 0
IsBadImage format Absent image files = LacksFile image files
IsBadImage format why image files = HasFile image (λ f. IsBadBytes format why f.bytes) files

abbrev pub IsTraceFileRefused : InputWhy → ℕ → List ℕ → List File → Type 0
IsTraceFileRefused Absent line trace files = (line ≡ 0) × LacksFile trace files
IsTraceFileRefused why line trace files = HasFile trace (λ f. IsFlawInTrace why line f.bytes) files

-- why an input is refused: the image before the trace
abbrev pub IsImageOrTraceRefused : Format → List ℕ → List ℕ → List ℕ → ℕ → InputWhy → List File
    → Type 0
IsImageOrTraceRefused format image trace name line why files =
    ((name ≡ image) × (line ≡ 0) × IsBadImage format why image files)
    ⊎ ((name ≡ trace) × HasImage format image files × IsTraceFileRefused why line trace files)

-- what is wrong with a script or a trace, as a status says it
abbrev pub why_of : InputFlaw → InputWhy
why_of flaws.Absent = Absent
why_of flaws.NotUtf8 = NotUtf8
why_of flaws.TooLong = TooLong
why_of flaws.BadLine = BadLine
why_of flaws.TooMany = TooMany

-- what a refusal says where files aren't told: it speaks of the image or of the trace, with a cause of that
abbrev pub IsImageCause : Format → InputWhy → Type 0
IsImageCause format Absent = ⊤
IsImageCause Raw TooLarge = ⊤
IsImageCause Qcow2 NeedsBacking = ⊤
IsImageCause Qcow2 (Image stop) = IsSome (refusal_of stop)
IsImageCause format why = ⊥

-- why what was read of a trace is refused
abbrev pub IsRefusedRead : TraceRead → InputWhy → ℕ → Type 0
IsRefusedRead (reads.Whole bytes) why line = IsFlawInTrace why line bytes
IsRefusedRead reads.Absent why line = (line ≡ 0) × (why ≡ Absent)
IsRefusedRead reads.TooLong why line = (line ≡ 0) × (why ≡ TooLong)

abbrev pub IsTraceCause : InputWhy → ℕ → Type 0
IsTraceCause why line = (read : TraceRead) × IsRefusedRead read why line

-- How long an image is that is refused so: too large; or of qcow2, as long as one that names a backing file, or as some bytes that
-- are refused so, and long enough for a header. One that is refused as short for a header may also have a header that is longer
-- than it.
abbrev pub HasLengthFor : InputWhy → ℕ → Type 0
HasLengthFor TooLarge size = MAX_DISK_SIZE < size
HasLengthFor NeedsBacking size = CanHoldImage true size
HasLengthFor (Image (images.Header headers.Short)) size =
    IsRefusalFor (images.Header headers.Short) size
HasLengthFor (Image stop) size = (MIN_HEADER_LENGTH ≤ size) × IsRefusalFor stop size
HasLengthFor why size = ⊤

-- the image's device was opened so and is back, and no call of it failed
abbrev pub IsBackQuietly : List ℕ → DeviceSeen → Outside → Outside → Type 0
IsBackQuietly image device old new =
    new.opened ≡ old.opened ++ closed_opening image device device ∷ []

abbrev pub IsOpenedQuietly : List ℕ → Outside → Outside → Type 0
IsOpenedQuietly image old new = (device : DeviceSeen) × IsBackQuietly image device old new

-- So it was where the trace is refused, over an image that can be opened.
abbrev pub IsOpenedWell : Format → List ℕ → Outside → Outside → Type 0
IsOpenedWell format image old new = (device : DeviceSeen)
    × IsBackQuietly image device old new × HasGoodLength format device.size

-- So it was where the image is refused, unless it is absent; and it was as long as the refusal says.
abbrev pub IsOpenedQuietlyFor : InputWhy → List ℕ → Outside → Outside → Type 0
IsOpenedQuietlyFor Absent image old new = new.opened ≡ old.opened
IsOpenedQuietlyFor why image old new = (device : DeviceSeen)
    × IsBackQuietly image device old new × HasLengthFor why device.size

abbrev pub SpeaksOfInput : Format → List ℕ → List ℕ → Outside → Outside → List ℕ → ℕ → InputWhy
    → Type 0
SpeaksOfInput format image trace old new name line why =
    ((name ≡ image) × (line ≡ 0) × IsImageCause format why × IsOpenedQuietlyFor why image old new)
    ⊎ ((name ≡ trace) × IsTraceCause why line × IsOpenedWell format image old new)

-- nothing was written: neither to a file nor to the sink
pub record NothingWrittenIo (old new : Outside) : Type 0 where
  pub files : new.files ≡ old.files
  pub sent : new.sent ≡ old.sent

-- and no call of a device failed
abbrev pub NothingDone : List ℕ → Outside → Outside → Type 0
NothingDone image old new = NothingWrittenIo old new
    × ((new.opened ≡ old.opened) ⊎ IsOpenedQuietly image old new)

-- the requests were made, and of the transcript the first n bytes went out
pub record WasIoRun (format : Format) (image trace : List ℕ) (flushed : Bool) (old new : Outside)
    (ops : List Op) (h : List Event) (before now n : ℕ) : Type 0 where
  -- whatever the files tell, these are the requests of a trace
  pub asked : (bytes : List ℕ) × AskFor ops bytes
  pub inputs : IfTold old.files (λ files. HasImage format image files × HasTrace trace ops files)
  pub run : IsIoRun format image ops flushed old new h before now
  pub sent : new.sent ≡ option_map (λ s. s ++ take n (transcript guest_names h)) old.sent

-- all of it went out
abbrev pub IsDone : Format → List ℕ → List ℕ → Outside → Outside → Type 0
IsDone format image trace old new =
    (ops : List Op) × (h : List Event) × (before : ℕ) × (now : ℕ)
    × WasIoRun format image trace true old new ops h before now (length (transcript guest_names h))

-- The device failed while a qcow2 image was opened. It was opened so, and is given back as the opening left it, which only read:
-- its count rose, and all else stayed. One that is too short for a header isn't read.
pub record FailsToOpen (format : Format) (image : List ℕ) (old new : Outside) (count : ℕ) : Type 0
  where
    pub reads : format ≡ Qcow2
    pub nothing : NothingWrittenIo old new
    pub device : DeviceSeen
    pub behind : DeviceSeen
    pub opened : new.opened ≡ old.opened ++ closed_opening image device behind ∷ []
    pub stopped : StoppedBy device behind only_device count
    pub call : IfTold behind.failed_call (IsOpeningCall device.size device.content)
    pub kept : HasRisen device behind
    pub long : MIN_HEADER_LENGTH ≤ device.size
    pub told : IfTold old.files (λ files. HasFile image (IsOverFile device) files)
    pub sink : new.sink_faults ≡ old.sink_faults

-- the device failed in the last flush, after which the transcript goes out nevertheless: a rise that no entry names
abbrev pub FailsToFlushIo : Format → List ℕ → List ℕ → Outside → Outside → ℕ → Type 0
FailsToFlushIo format image trace old new count =
    (ops : List Op) × (h : List Event) × (before : ℕ) × (n : ℕ)
    × WasIoRun format image trace false old new ops h before count n
    × RoseSince (counted (before ∷ []) h) (Some (record { dev = 0; count = count }))
    × (((n ≡ length (transcript guest_names h)) × (new.sink_faults ≡ old.sink_faults))
    ⊎ Rose old.sink_faults new.sink_faults)

-- a call of the store failed on this file, which it was to open, and which is there
abbrev pub OnOpened : Option (List File) → List ℕ → List ℕ → Type 0
OnOpened told name failed = (failed ≡ name) × IfTold told (HasFile name (λ _. Unit {0}))

-- the first fault: while the trace was read, which is there and not too long, or the image's file was opened; while the image was opened, in the last flush, or while the transcript went out
abbrev pub IsFaultyIo : Format → List ℕ → List ℕ → Outside → Outside → FaultFrom → ℕ → Type 0
IsFaultyIo format image trace old new Store count =
    NothingWrittenIo old new × (new.opened ≡ old.opened) × Rose old.store_faults count
    × (count ≡ new.store_faults)
    × (FailsOn input_read (OnFile old.files trace) new.failed_call
    ⊎ FailsOn calls.Open (OnOpened old.files image) new.failed_call)
IsFaultyIo format image trace old new (Dev dev) count =
    (dev.0 ≡ 0) × (FailsToOpen format image old new count
    ⊎ FailsToFlushIo format image trace old new count)
IsFaultyIo format image trace old new Sink count =
    (ops : List Op) × (h : List Event) × (before : ℕ) × (now : ℕ) × (n : ℕ)
    × WasIoRun format image trace true old new ops h before now n × Rose old.sink_faults count
    × (count ≡ new.sink_faults)

-- The store's count of faults stands, but where the status names the store; the sink's, but where it names the sink, or a last
-- flush that failed, behind which a put may have failed too.
abbrev pub StoreStands : Status → ℕ → ℕ → Type 0
StoreStands (Fault Store count) before now = Unit {0}
StoreStands status before now = now ≡ before

abbrev pub SinkStands : Status → ℕ → ℕ → Type 0
SinkStands (Fault Sink count) before now = Unit {0}
SinkStands (Fault (Dev dev) count) before now = Unit {0}
SinkStands status before now = now ≡ before

-- which call of the store failed last stands, but where the status names it
abbrev pub CallStands : Status → Option CallOnFile → Option CallOnFile → Type 0
CallStands (Fault Store count) before now = Unit {0}
CallStands status before now = now ≡ before

-- no fault of the store or the sink goes untold
pub record TellsFaults (old new : Outside) (status : Status) : Type 0 where
  pub call : CallStands status old.failed_call new.failed_call
  pub store : StoreStands status old.store_faults new.store_faults
  pub sink : SinkStands status old.sink_faults new.sink_faults

-- why a run on an image ended so
abbrev pub AnswersIo : Format → List ℕ → List ℕ → Outside → Outside → Status → Type 0
AnswersIo format image trace old new Done = IsDone format image trace old new
AnswersIo format image trace old new Usage = ⊥
AnswersIo format image trace old new (Input name line why) =
    NothingWrittenIo old new × SpeaksOfInput format image trace old new name.bytes line why
    × IfTold old.files (IsImageOrTraceRefused format image trace name.bytes line why)
AnswersIo format image trace old new (Fault from count) =
    IsFaultyIo format image trace old new from count
AnswersIo format image trace old new (Stuck actor waits) = ⊥
AnswersIo format image trace old new NoMemory = NothingDone image old new
