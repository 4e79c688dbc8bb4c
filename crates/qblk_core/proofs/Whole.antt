-- A run seen from outside, from its parts.
use Rattle.std.proofs.Common.{◌≡◌, ◌≢◌, ◌⊎◌, ℕ, zero, suc, ◌<◌, Bool, true, false, List, [], ◌∷◌, ◌++◌, length, take, refl, sym, ◌∙◌, ap, subst, arith, inl, inr, Option, Some, None}
use Rattle.std.specs.Prelude.{All, is_some, is_none, option_map, slice_index_or, IsSome}
use Rattle.std.proofs.lemmas.Bool.{false≢true}
use Rattle.std.proofs.lemmas.List.{take_at, take_all, append-nil}
use Rattle.std.proofs.lemmas.List.Elements.{All-nil, All-cons}
use Rattle.blk_base.specs.Counts.{Rose}
use Rattle.blk_base.specs.Files.{file_at, put_file, IfTold, given_back, is_out}
use Rattle.blk_base.specs.Stored.{IsDeviceOf, files_with_returned}
use Rattle.blk_base.specs.Answers.{HasFile, LacksFile}
use Rattle.blk_base.specs.declared.file.CallOnFile.{CallOnFile}
use Rattle.blk_base.specs.declared.file.File.{File}
use Rattle.blk_base.specs.declared.store.StoreCall.{StoreCall}
use Rattle.blk_base.specs.declared.store.StoreCall.TheVariants as calls
use Rattle.blk_base.specs.declared.fault.FaultAt.{FaultAt}
use Rattle.blk_base.specs.declared.fault.FaultFrom.{FaultFrom}
use Rattle.blk_base.specs.declared.fault.FaultFrom.TheVariants.{Store, Dev, Sink}
use Rattle.blk_base.proofs.Openings.{put-same}
use Rattle.blk_history.specs.Machine.{IoState, IoGuest, disk_in, io_replay}
use Rattle.blk_history.specs.Legal.{LegalIo}
use Rattle.blk_history.specs.Owned.{asked_by}
use Rattle.blk_history.specs.Licence.{RoseSince}
use Rattle.blk_history.specs.Small.{IsSmall}
use Rattle.blk_history.specs.Transcript.{transcript}
use Rattle.blk_history.specs.declared.event.Event.{Event}
use Rattle.qblk_inputs.specs.Reading.{IsShortFile, OnFile, FailsOn, input_read}
use Rattle.qblk_core.proofs.Quiet.{quiet}
use Rattle.qblk_core.proofs.Returned.{open_opening, closed-is}
use Rattle.blk_nodes.specs.Contents.{disk_of}
use Rattle.blk_nodes.specs.Nodes.{DeviceSeen}
use Rattle.blk_nodes.specs.Reading.{HasRisen}
use Rattle.qblk_core.specs.Format.{disk_by_format}
use Rattle.qblk_words.specs.declared.words.Format.{Format}
use Rattle.qblk_words.specs.declared.words.Format.TheVariants as formats
use Rattle.qblk_core.specs.Comes.{HaveLines}
use Rattle.qblk_core.specs.Face.{SessionSeen, state_of, machine_on}
use Rattle.qblk_core.specs.ImageNodes.{only_device, content_of, device_faults, told_disk}
use Rattle.qblk_core.proofs.Closed.{IsFlushed, HasClosed, closed-facts}
use Rattle.qblk_core.proofs.Made.{made-one, made-kind, made-devices, image-as, told-as-disk}
use Rattle.qblk_core.proofs.OneDevice.{head-same, faults-is, capacity-is}
use Rattle.qblk_core.proofs.OneImage.{told-is}
use Rattle.qblk_core.specs.Run.{Outside, OnOpened, AskFor, machine_of, guest_names, closed_opening, IsRunOn, IsOverFile, TellsDisk, IsImageCause, IsBackQuietly, IsOpenedQuietlyFor, SpeaksOfInput, HasImage, HasTrace, IsFlawInTrace, IsBadBytes, IsBadImage, IsRefusedRead, IsTraceFileRefused, IsImageOrTraceRefused, WasIoRun, StoreStands, CallStands, SinkStands, FailsToOpen, FailsToFlushIo, IsFaultyIo, AnswersIo}
use Rattle.qblk_core.specs.Session.{IsTraceRead, IsStoreStop, NamesStoreOn, IsOpenStop, AreRequestsMade, IsGoodDevice, IsRefusedImage, IsRunStop, EndsIoAs}
use Rattle.qblk_core.specs.Inputs.{IsRefusal}
use Rattle.qblk_core.specs.declared.input.TraceRead.{TraceRead}
use Rattle.qblk_core.specs.declared.input.TraceRead.TheVariants as reads
use Rattle.qblk_core.specs.declared.status.InputWhy.{InputWhy}
use Rattle.qblk_core.specs.declared.status.InputWhy.TheVariants as why
use Rattle.qblk_core.specs.declared.status.Status.{Status}
use Rattle.qblk_core.specs.declared.status.Status.TheVariants.{Done, Usage, Input, Fault, Stuck, NoMemory}

-- the device of a file that is told
pub record IsToldAs (image : List ℕ) (d : DeviceSeen) (files : List File) (f : File) : Type 0 where
  file : file_at image files ≡ Some f
  content : d.content ≡ Some f.bytes
  capacity : d.capacity ≡ f.capacity
  flushed : d.is_flushed ≡ Some f.is_flushed
  size : d.size ≡ length f.bytes

told-as : (image : List ℕ) (d : DeviceSeen) (files : List File) → ((bytes : List ℕ) → d.content ≡ Some bytes → d.size ≡ length bytes)
    → IsDeviceOf (Some files) image d.content d.capacity d.is_flushed → (f : File) × IsToldAs image d files f
told-as image d files sized is = (is.0, record { file = is.1; content = is.2; capacity = is.3; flushed = is.4; size = sized is.0.bytes is.2 })

-- an image that is given back untouched leaves all files as they were
returned-untold : (image : List ℕ) (content : Option (List ℕ)) (capacity : ℕ) (flushed : Option Bool) → files_with_returned image content capacity flushed None ≡ None
returned-untold image None capacity flushed = refl
returned-untold image (Some bytes) capacity None = refl
returned-untold image (Some bytes) capacity (Some flushed) = refl

returned-told : (image : List ℕ) (content : Option (List ℕ)) (capacity : ℕ) (flushed : Option Bool) (files : List File) (bytes : List ℕ) (room : ℕ) (flag : Bool)
    → content ≡ Some bytes → capacity ≡ room → flushed ≡ Some flag
    → files_with_returned image content capacity flushed (Some files) ≡ Some (put_file (record { name = image; bytes = bytes; capacity = room; is_flushed = flag }) files)
returned-told image content capacity flushed files bytes room flag c k f = rw (c, k, f) refl

pub untouched : (image : List ℕ) (d : DeviceSeen) (files : Option (List File)) → ((bytes : List ℕ) → d.content ≡ Some bytes → d.size ≡ length bytes)
    → IsDeviceOf files image d.content d.capacity d.is_flushed → files_with_returned image d.content d.capacity d.is_flushed files ≡ files
untouched image d None sized is = returned-untold image d.content d.capacity d.is_flushed
untouched image d (Some files) sized is =
    let told = told-as image d files sized is in
    let f = told.0 in
    returned-told image d.content d.capacity d.is_flushed files f.bytes f.capacity f.is_flushed told.1.content told.1.capacity told.1.flushed
    ∙ ap (λ (fs : List File). Some fs) (put-same image f files told.1.file)

idle-all : (row : IoGuest) → row.flight ≡ None → (k : ℕ) (d : IoGuest) → k < 1 → (slice_index_or (row ∷ []) k d).flight ≡ None
idle-all row is zero d below = is
idle-all row is (suc k) d below = absurd (omega arith)

-- what the device tells at the end
told-disk : (content : Option (List ℕ)) → IsSome content → (disk : List ℕ) × (content ≡ Some disk)
told-disk None is = absurd (false≢true is)
told-disk (Some disk) is = (disk, refl)

told-flag : (flag : Option Bool) → is_some flag ≡ true → (b : Bool) × (flag ≡ Some b)
told-flag None is = absurd (false≢true is)
told-flag (Some b) is = (b, refl)

flag-good : (n : DeviceSeen) (faults : ℕ) (fault : Option FaultAt) (disk : List ℕ) (b : Bool) → IsFlushed n faults fault → n.content ≡ Some disk → n.is_flushed ≡ Some b → is_none fault ≡ true → b ≡ true
flag-good n faults None disk b flushed content is none = let good = flushed.0 disk content in cc
flag-good n faults (Some fault) disk b flushed content is none = absurd (false≢true none)

pub closed-of : (format : Format) (bytes : List ℕ) (d n : DeviceSeen) (w : SessionSeen) (fault : Option FaultAt) (made : AreRequestsMade format bytes d n w fault)
    → HasClosed w.nodes made.last made.flush n fault
closed-of format bytes d n w fault made = closed-facts w.nodes made.last made.flush n fault made.one made.closed made.tells

-- the run on its nodes
runs-on : (format : Format) (bytes : List ℕ) (d n : DeviceSeen) (w : SessionSeen) (fault : Option FaultAt) (made : AreRequestsMade format bytes d n w fault)
    → IsRunOn format w.log.events d made.first w.nodes made.last made.flush
runs-on format bytes d n w fault made = record {
  made = made.made;
  in_turn = made.comes.in_turn;
  retired = rw made.comes.replay (idle-all w.guest made.idle);
  along = made.comes.along;
  flushed = made.closed.flushed;
}

tells-disk : (format : Format) (image : List ℕ) (bytes : List ℕ) (d n : DeviceSeen) (w : SessionSeen) (fault : Option FaultAt) (files : List File) (new : Option (List File)) (f : File)
    → IsToldAs image d files f → (made : AreRequestsMade format bytes d n w fault) → new ≡ files_with_returned image n.content n.capacity n.is_flushed (Some files)
    → TellsDisk format image w.log.events (is_none fault) d made.first n files new f
tells-disk format image bytes d n w fault files new f told made returned =
    let machine : machine_on made.first ≡ machine_of format f.bytes = (made.good f.bytes told.content).1 in
    let facts = closed-of format bytes d n w fault made in
    let opened : told_disk made.first ≡ Some (disk_by_format format f.bytes) = ap (λ (s : IoState). disk_in s.disks 1) machine in
    let disk = made.comes.told (disk_by_format format f.bytes) opened in
    let held = told-is (content_of w.nodes) (disk_of w.nodes 1) disk.0 disk.1 in
    let content : n.content ≡ Some held.0 = sym facts.content ∙ held.1 in
    let flag = told-flag n.is_flushed (made.tells held.0 content) in
    let one = made.closed.one in
    let is_n : one.device ≡ n = head-same one.device n [] (sym one.only ∙ made.closed.given) in
    let kind = facts.shape.kind ∙ made.comes.shape.kind ∙ made-kind format d made.first made.made in
    let same_content : one.device.content ≡ Some held.0 = ap (λ (x : DeviceSeen). x.content) is_n ∙ content in
    let same_size : one.device.size ≡ length held.0 = ap (λ (x : DeviceSeen). x.size) is_n ∙ made.sized held.0 content in
    let read : told_disk w.nodes ≡ Some (disk_by_format format held.0) =
    sym facts.disk ∙ told-as-disk made.last made.closed.joined made.closed.disks one held.0 same_content same_size format kind in
    let first = made-one format d made.first made.made in
    let first_d : first.device ≡ d = head-same first.device d [] (sym first.only ∙ made-devices format d made.first made.made) in
    let room : Some n.capacity ≡ Some d.capacity =
    sym facts.capacity ∙ made.comes.shape.capacity ∙ capacity-is made.first first.device first.only first.node ∙ ap (λ (x : DeviceSeen). Some x.capacity) first_d in
    let capacity : n.capacity ≡ f.capacity = (let same : n.capacity ≡ d.capacity = cc room in same ∙ told.capacity) in
    let L : IoState → Type 0 = λ s. LegalIo s w.log.events in
    let R : IoState → Type 0 = λ s. io_replay s w.log.events ≡ state_of w in
    let replayed : io_replay (machine_of format f.bytes) w.log.events ≡ state_of w = subst R machine made.comes.replay in
    record {
      file = told.file;
      opened = record { content = told.content; is_flushed = told.flushed; size = told.size; capacity = told.capacity };
      machine = machine;
      legal = subst L machine (made.comes.legal (disk_by_format format f.bytes) opened);
      bytes = held.0;
      is_flushed = flag.0;
      content = content;
      flushed = flag.1;
      kept = flag-good n (device_faults w.nodes) fault held.0 flag.0 facts.flushed content flag.1;
      disk = rw replayed read;
      sound = (image-as made.last made.closed.joined made.closed.disks one held.0 same_content same_size format kind).2;
      files = returned ∙ returned-told image n.content n.capacity n.is_flushed files held.0 f.capacity flag.0 content capacity flag.1;
    }

-- the inputs were as they have to be
inputs : (format : Format) (image trace bytes : List ℕ) (read : TraceRead) (d n : DeviceSeen) (w : SessionSeen) (fault : Option FaultAt) (files : List File) (f : File)
    → IsToldAs image d files f → read ≡ reads.Whole bytes → IsTraceRead trace read files → AreRequestsMade format bytes d n w fault → HasImage format image files × HasTrace trace (asked_by 0 w.log.events) files
inputs format image trace bytes read d n w fault files f told is read-is made =
    let P : TraceRead → Type 0 = λ r. IsTraceRead trace r files in
    let whole = subst P is read-is in
    let same : bytes ≡ whole.0.bytes = whole.2.1 in
    ((f, told.file, (made.good f.bytes told.content).0), (whole.0, whole.1, subst (AskFor (asked_by 0 w.log.events)) same made.asked))

-- its numbers are of 64 bits
all-small : (h : List Event) → HaveLines h → All IsSmall h
all-small [] lines = All-nil IsSmall
all-small (e ∷ es) lines = All-cons IsSmall e es lines.0.small (all-small es lines.1)

-- the run, whatever of its transcript went out
pub was-run : (format : Format) (image trace bytes : List ℕ) (read : TraceRead) (d n : DeviceSeen) (w : SessionSeen) (fault : Option FaultAt) (flushed : Bool) (old new : Outside) (k : ℕ)
    → is_none fault ≡ flushed
    → ((b : List ℕ) → d.content ≡ Some b → d.size ≡ length b)
    → (is_out image old.opened ≡ true → ⊥)
    → IsDeviceOf old.files image d.content d.capacity d.is_flushed
    → IfTold old.files (IsTraceRead trace read) → read ≡ reads.Whole bytes → AreRequestsMade format bytes d n w fault
    → new.files ≡ files_with_returned image n.content n.capacity n.is_flushed old.files
    → new.opened ≡ given_back image n.faults n.failed_call (old.opened ++ open_opening image d ∷ [])
    → new.sent ≡ option_map (λ s. s ++ take k (transcript guest_names w.log.events)) old.sent
    → WasIoRun format image trace flushed old new (asked_by 0 w.log.events) w.log.events d.faults n.faults k
was-run format image trace bytes read d n w fault flushed old new k flag sized none device read-is is made files opened sent =
    let last = made.comes.licensed.last in
    let facts = closed-of format bytes d n w fault made in
    let start = faults-is made.first d (made-devices format d made.first made.made) made.made.node in
    record {
      asked = (bytes, made.asked);
      inputs = on-told old.files (λ told is-told read-told. inputs format image trace bytes read d n w fault told (told-as image d told sized is-told).0 (told-as image d told sized is-told).1 is read-told made) device read-is;
      run = record {
        asked = refl;
        small = all-small w.log.events made.comes.lines;
        device = d;
        back = n;
        opened = closed-is image d n old.opened new.opened none opened;
        quiet = λ same below. quiet d.faults (device_faults w.nodes) w.log.events (rw start at made.comes.licensed.risen) (rw start at last) (let more = facts.more in omega arith) below;
        first = made.first;
        left = w.nodes;
        end = made.last;
        flush = made.flush;
        on = runs-on format bytes d n w fault made;
        good = facts.good ∙ flag;
        ends = (refl, refl);
        given = made.closed.given;
        counts = record {
          opening = start;
          risen = made.comes.licensed.risen;
          last = made.comes.licensed.last;
          flushed = facts.counts;
        };
        told = on-run old.files files device;
      };
      sent = sent;
    }
  where
    on-told : (fs : Option (List File)) → ((told : List File) → IsDeviceOf (Some told) image d.content d.capacity d.is_flushed → IsTraceRead trace read told → HasImage format image told × HasTrace trace (asked_by 0 w.log.events) told)
        → IsDeviceOf fs image d.content d.capacity d.is_flushed → IfTold fs (IsTraceRead trace read) → IfTold fs (λ told. HasImage format image told × HasTrace trace (asked_by 0 w.log.events) told)
    on-told None f device read-is = tt
    on-told (Some told) f device read-is = f told device read-is

    on-run : (fs : Option (List File)) → new.files ≡ files_with_returned image n.content n.capacity n.is_flushed fs → IsDeviceOf fs image d.content d.capacity d.is_flushed
        → IfTold fs (λ told. (f : File) × TellsDisk format image w.log.events flushed d made.first n told new.files f)
    on-run None files device = tt
    on-run (Some told) files device =
        let f = told-as image d told sized device in
        let T : Bool → Type 0 = λ b. TellsDisk format image w.log.events b d made.first n told new.files f.0 in
        (f.0, subst T flag (tells-disk format image bytes d n w fault told new.files f.0 f.1 made files))

-- how it ended
front-taken : (old new : Option (List ℕ)) (front rest whole : List ℕ) → front ++ rest ≡ whole → new ≡ option_map (λ s. s ++ front) old → new ≡ option_map (λ s. s ++ take (length front) whole) old
front-taken old new front rest whole is sent =
    let same : take (length front) whole ≡ front = ap (take (length front)) (sym is) ∙ take_at front rest (length front) refl in
    sent ∙ ap (λ (bs : List ℕ). option_map (λ s. s ++ bs) old) (sym same)

whole-taken : (old new : Option (List ℕ)) (whole : List ℕ) → new ≡ option_map (λ s. s ++ whole) old → new ≡ option_map (λ s. s ++ take (length whole) whole) old
whole-taken old new whole sent = sent ∙ ap (λ (bs : List ℕ). option_map (λ s. s ++ bs) old) (sym (take_all (length whole) whole (omega arith)))

-- where nothing is left, all of it went out
all-of : (front rest whole : List ℕ) (before now : ℕ) → front ++ rest ≡ whole → ((rest ≡ []) × (now ≡ before)) ⊎ Rose before now → ((length front ≡ length whole) × (now ≡ before)) ⊎ Rose before now
all-of front rest whole before now is (inl none) =
    let P : List ℕ → Type 0 = λ bs. front ++ bs ≡ whole in
    inl (ap length (sym (append-nil front) ∙ subst P none.0 is), none.1)
all-of front rest whole before now is (inr rose) = inr rose

-- the fault of the last flush is the device's
flush-fault : (n : DeviceSeen) (faults : ℕ) (fault : FaultAt) → IsFlushed n faults (Some fault) → (fault.from ≡ Dev (record { 0 = 0 })) × Rose faults fault.count × (fault.count ≡ n.faults)
flush-fault n faults fault flushed = flushed

pub ends : (format : Format) (image trace bytes : List ℕ) (read : TraceRead) (d n : DeviceSeen) (w : SessionSeen) (fault : Option FaultAt) (old new : Outside) (status : Status)
    → ((b : List ℕ) → d.content ≡ Some b → d.size ≡ length b)
    → (is_out image old.opened ≡ true → ⊥)
    → IsDeviceOf old.files image d.content d.capacity d.is_flushed
    → IfTold old.files (IsTraceRead trace read) → read ≡ reads.Whole bytes → AreRequestsMade format bytes d n w fault
    → new.files ≡ files_with_returned image n.content n.capacity n.is_flushed old.files
    → new.opened ≡ given_back image n.faults n.failed_call (old.opened ++ open_opening image d ∷ [])
    → EndsIoAs fault old.sent new.sent (transcript guest_names w.log.events) old.sink_faults new.sink_faults status
    → AnswersIo format image trace old new status
ends format image trace bytes read d n w None old new Done sized none device read-is is made files opened end = (
  asked_by 0 w.log.events,
  w.log.events,
  d.faults,
  n.faults,
  was-run format image trace bytes read d n w None true old new (length (transcript guest_names w.log.events)) refl sized none device read-is is made files opened (whole-taken old.sent new.sent _ end.0),
)
ends format image trace bytes read d n w None old new (Fault from count) sized none device read-is is made files opened end =
    let front = end.1.part in
    let faulty : IsFaultyIo format image trace old new Sink count = (
      asked_by 0 w.log.events,
      w.log.events,
      d.faults,
      n.faults,
      length front.0,
      was-run format image trace bytes read d n w None true old new (length front.0) refl sized none device read-is is made files opened (front-taken old.sent new.sent front.0 front.1 _ front.2 front.3),
      (let rose = end.1.rose in let same = end.2 in omega arith),
      end.2,
    ) in
    let F : FaultFrom → Type 0 = λ f. IsFaultyIo format image trace old new f count in
    subst F (sym end.0) faulty
ends format image trace bytes read d n w (Some fault) old new (Fault from count) sized none device read-is is made files opened end =
    let flushed = (closed-of format bytes d n w (Some fault) made).flushed in
    let start = faults-is made.first d (made-devices format d made.first made.made) made.made.node in
    let F : FaultFrom → Type 0 = λ f. IsFaultyIo format image trace old new f count in
    let same : count ≡ n.faults = end.1 ∙ flushed.2 in
    let R : ℕ → Type 0 = λ c. WasIoRun format image trace false old new (asked_by 0 w.log.events) w.log.events d.faults c (length end.2) in
    let run = was-run format image trace bytes read d n w (Some fault) false old new (length end.2) refl sized none device read-is is made files opened (front-taken old.sent new.sent end.2 end.3 _ end.4 end.5) in
    let last = rw start at made.comes.licensed.last in
    let S : List ℕ → Type 0 = λ cs. RoseSince cs (Some (record { dev = 0; count = count })) in
    let failed : FailsToFlushIo format image trace old new count = (
      asked_by 0 w.log.events,
      w.log.events,
      d.faults,
      length end.2,
      subst R (sym same) run,
      subst S (sym last) (omega arith, (let rose = flushed.1 in let named = end.1 in omega arith)),
      all-of end.2 end.3 _ old.sink_faults new.sink_faults end.4 end.6,
    ) in
    let faulty : IsFaultyIo format image trace old new (Dev (record { 0 = 0 })) count = (refl, inr failed) in
    subst F (sym (end.0 ∙ flushed.0)) faulty
ends format image trace bytes read d n w fault old new status sized none device read-is is made files opened end = absurd end

-- counts that stand
pub store-stands : (before now : ℕ) (status : Status) → now ≡ before → StoreStands status before now
store-stands before now (Fault Store count) is = tt
store-stands before now (Fault (Dev dev) count) is = is
store-stands before now (Fault Sink count) is = is
store-stands before now Done is = is
store-stands before now Usage is = is
store-stands before now (Input name line cause) is = is
store-stands before now (Stuck actor waits) is = is
store-stands before now NoMemory is = is

pub call-stands : (before now : Option CallOnFile) (status : Status) → now ≡ before → CallStands status before now
call-stands before now (Fault Store count) is = tt
call-stands before now (Fault (Dev dev) count) is = is
call-stands before now (Fault Sink count) is = is
call-stands before now Done is = is
call-stands before now Usage is = is
call-stands before now (Input name line cause) is = is
call-stands before now (Stuck actor waits) is = is
call-stands before now NoMemory is = is

pub sink-stands : (before now : ℕ) (status : Status) → now ≡ before → SinkStands status before now
sink-stands before now (Fault Store count) is = is
sink-stands before now (Fault (Dev dev) count) is = tt
sink-stands before now (Fault Sink count) is = tt
sink-stands before now Done is = is
sink-stands before now Usage is = is
sink-stands before now (Input name line cause) is = is
sink-stands before now (Stuck actor waits) is = is
sink-stands before now NoMemory is = is

pub ends-stands : (n : DeviceSeen) (faults : ℕ) (fault : Option FaultAt) (old new : Option (List ℕ)) (whole : List ℕ) (before now : ℕ) (status : Status)
    → IsFlushed n faults fault → EndsIoAs fault old new whole before now status → SinkStands status before now
ends-stands n faults None old new whole before now Done flushed end = end.1
ends-stands n faults None old new whole before now (Fault from count) flushed end =
    let S : FaultFrom → Type 0 = λ f. SinkStands (Fault f count) before now in
    subst S (sym end.0) tt
ends-stands n faults (Some fault) old new whole before now (Fault from count) flushed end =
    let S : FaultFrom → Type 0 = λ f. SinkStands (Fault f count) before now in
    subst S (sym (end.0 ∙ (flush-fault n faults fault flushed).0)) tt
ends-stands n faults fault old new whole before now status flushed end = absurd end

-- an input that is refused
refused-read : (trace : List ℕ) (read : TraceRead) (files : List File) (line : ℕ) (cause : InputWhy) → IsTraceRead trace read files → IsRefusedRead read cause line → IsTraceFileRefused cause line trace files
refused-read trace (reads.Whole bytes) files line why.Absent is refused = absurd refused
refused-read trace (reads.Whole bytes) files line why.TooLarge is refused = absurd refused
refused-read trace (reads.Whole bytes) files line why.NeedsBacking is refused = absurd refused
refused-read trace (reads.Whole bytes) files line (why.Image stop) is refused = absurd refused
refused-read trace (reads.Whole bytes) files line why.TooLong is refused = (is.0, is.1, (let P : List ℕ → Type 0 = IsFlawInTrace why.TooLong line in subst P is.2.1 refused))
refused-read trace (reads.Whole bytes) files line why.NotUtf8 is refused = (is.0, is.1, (let P : List ℕ → Type 0 = IsFlawInTrace why.NotUtf8 line in subst P is.2.1 refused))
refused-read trace (reads.Whole bytes) files line why.BadLine is refused = (is.0, is.1, (let P : List ℕ → Type 0 = IsFlawInTrace why.BadLine line in subst P is.2.1 refused))
refused-read trace (reads.Whole bytes) files line why.TooMany is refused = (is.0, is.1, (let P : List ℕ → Type 0 = IsFlawInTrace why.TooMany line in subst P is.2.1 refused))
refused-read trace reads.Absent files line cause is refused = let P : InputWhy → Type 0 = λ c. IsTraceFileRefused c line trace files in subst P (sym refused.1) (refused.0, is)
refused-read trace reads.TooLong files line cause is refused = let P : InputWhy → Type 0 = λ c. IsTraceFileRefused c line trace files in subst P (sym refused.1) (is.0, is.1, (refused.0, is.2))

-- a refused image is there
bad-image : (format : Format) (image : List ℕ) (cause : InputWhy) (files : List File) (f : File) → cause ≢ why.Absent → file_at image files ≡ Some f → IsBadBytes format cause f.bytes
    → IsBadImage format cause image files
bad-image format image why.Absent files f there is bad = absurd (there refl)
bad-image format image why.NotUtf8 files f there is bad = (f, is, bad)
bad-image format image why.TooLong files f there is bad = (f, is, bad)
bad-image format image why.BadLine files f there is bad = (f, is, bad)
bad-image format image why.TooMany files f there is bad = (f, is, bad)
bad-image format image why.TooLarge files f there is bad = (f, is, bad)
bad-image format image why.NeedsBacking files f there is bad = (f, is, bad)
bad-image format image (why.Image stop) files f there is bad = (f, is, bad)

-- the image was opened, where it is there
quietly-for : (format : Format) (image : List ℕ) (d : DeviceSeen) (old new : Outside) (cause : InputWhy) → IsRefusedImage format cause d → IsBackQuietly image d old new
    → IsOpenedQuietlyFor cause image old new
quietly-for format image d old new why.Absent refused opened = absurd (refused.there refl)
quietly-for format image d old new cause refused opened = (d, opened, refused.length)

-- its device is back as it was
opened-quietly : (image : List ℕ) (d n : DeviceSeen) (old new : Outside) → (is_out image old.opened ≡ true → ⊥) → n ≡ d
    → new.opened ≡ given_back image n.faults n.failed_call (old.opened ++ open_opening image d ∷ []) → IsBackQuietly image d old new
opened-quietly image d n old new none stands opened =
    let R : DeviceSeen → Type 0 = λ x. new.opened ≡ old.opened ++ closed_opening image d x ∷ [] in
    subst R stands (closed-is image d n old.opened new.opened none opened)

speaks-of : (format : Format) (image trace : List ℕ) (read : TraceRead) (d : DeviceSeen) (name : List ℕ) (line : ℕ) (cause : InputWhy)
    → ((name ≡ image) × (line ≡ 0) × IsRefusedImage format cause d)
    ⊎ (IsGoodDevice format d × (name ≡ trace) × IsRefusedRead read cause line)
    → (old new : Outside) → IsBackQuietly image d old new → SpeaksOfInput format image trace old new name line cause
speaks-of format image trace read d name line cause (inl bad) old new opened =
    inl (bad.0, bad.1, bad.2.cause, quietly-for format image d old new cause bad.2 opened)
speaks-of format image trace read d name line cause (inr good) old new opened = inr (good.1, (read, good.2), (d, opened, good.0.length))

refused-by : (format : Format) (image trace : List ℕ) (read : TraceRead) (d : DeviceSeen) (files : List File) (name : List ℕ) (line : ℕ) (cause : InputWhy)
    → ((f : File) × IsToldAs image d files f) → IsTraceRead trace read files
    → ((name ≡ image) × (line ≡ 0) × IsRefusedImage format cause d)
    ⊎ (IsGoodDevice format d × (name ≡ trace) × IsRefusedRead read cause line)
    → IsImageOrTraceRefused format image trace name line cause files
refused-by format image trace read d files name line cause told is (inl bad) =
    let refused = bad.2 in
    inl (bad.0, bad.1, bad-image format image cause files told.0 refused.there told.1.file (refused.bytes told.0.bytes told.1.content))
refused-by format image trace read d files name line cause told is (inr good) =
    inr (good.1, (told.0, told.1.file, good.0.good told.0.bytes told.1.content), refused-read trace read files line cause is good.2)

-- an image that is given back as it was leaves all files as they were
pub left : (image : List ℕ) (d n : DeviceSeen) (files : Option (List File)) → ((bytes : List ℕ) → d.content ≡ Some bytes → d.size ≡ length bytes)
    → IsDeviceOf files image d.content d.capacity d.is_flushed → HasRisen d n → files_with_returned image n.content n.capacity n.is_flushed files ≡ files
left image d n files sized is same =
    let content = ap (λ (x : DeviceSeen). x.content) same.same in
    let capacity = ap (λ (x : DeviceSeen). x.capacity) same.same in
    let flushed = ap (λ (x : DeviceSeen). x.is_flushed) same.same in
    rw (content, capacity, flushed) (untouched image d files sized is)

-- why a run was stopped before its requests
pub stops : (format : Format) (image trace : List ℕ) (read : TraceRead) (d n : DeviceSeen) (old new : Outside) (status : Status)
    → d.number ≡ only_device
    → ((b : List ℕ) → d.content ≡ Some b → d.size ≡ length b)
    → (is_out image old.opened ≡ true → ⊥)
    → IsDeviceOf old.files image d.content d.capacity d.is_flushed
    → IfTold old.files (IsTraceRead trace read) → IsRunStop format image trace read d n status → HasRisen d n
    → new.files ≡ files_with_returned image n.content n.capacity n.is_flushed old.files
    → new.opened ≡ given_back image n.faults n.failed_call (old.opened ++ open_opening image d ∷ [])
    → new.sent ≡ old.sent → new.sink_faults ≡ old.sink_faults
    → AnswersIo format image trace old new status
stops format image trace read d n old new NoMemory number sized none device read-is stop same files opened sent sink =
    (record { files = files ∙ left image d n old.files sized device same; sent = sent }, inr (d, opened-quietly image d n old new none stop opened))
stops format image trace read d n old new (Input name line cause) number sized none device read-is stop same files opened sent sink = (
  record { files = files ∙ left image d n old.files sized device same; sent = sent },
  speaks-of format image trace read d name.bytes line cause stop.1 old new (opened-quietly image d n old new none stop.0 opened),
  why-of old.files device read-is,
)
  where
    why-of : (fs : Option (List File)) → IsDeviceOf fs image d.content d.capacity d.is_flushed → IfTold fs (IsTraceRead trace read) → IfTold fs (IsImageOrTraceRefused format image trace name.bytes line cause)
    why-of None device read-is = tt
    why-of (Some told) device read-is = refused-by format image trace read d told name.bytes line cause (told-as image d told sized device) read-is stop.1
stops format image trace read d n old new (Fault from count) number sized none device read-is stop same files opened sent sink =
    let F : FaultFrom → Type 0 = λ f. IsFaultyIo format image trace old new f count in
    let fails : FailsToOpen format image old new count = record {
      reads = stop.0;
      nothing = record { files = files ∙ left image d n old.files sized device same; sent = sent };
      device = d;
      behind = n;
      opened = closed-is image d n old.opened new.opened none opened;
      stopped = record { named = sym number; rose = stop.2; now = stop.3 };
      call = stop.5;
      kept = same;
      long = stop.4;
      told = over-file old.files device;
      sink = sink;
    } in
    let faulty : IsFaultyIo format image trace old new (Dev (record { 0 = 0 })) count = (refl, inl fails) in
    subst F (sym stop.1) faulty
  where
    over-file : (fs : Option (List File)) → IsDeviceOf fs image d.content d.capacity d.is_flushed → IfTold fs (λ files. HasFile image (IsOverFile d) files)
    over-file None is = tt
    over-file (Some files) is =
        let f = told-as image d files sized is in
        (f.0, f.1.file, record { content = f.1.content; is_flushed = f.1.flushed; size = f.1.size; capacity = f.1.capacity })
stops format image trace read d n old new status number sized none device read-is stop same files opened sent sink = absurd stop

-- a store that failed on a file
pub read-on : (told : Option (List File)) (name : List ℕ) (last : Option CallOnFile) → IfTold told (IsShortFile name) → IfTold last (λ it. it ≡ record { name = name; call = input_read }) → FailsOn input_read (OnFile told name) last
read-on told name last short on = (name, (refl, short), on)

pub opened-on : (told : Option (List File)) (name : List ℕ) (last : Option CallOnFile) → IfTold told (HasFile name (λ _. Unit {0})) → IfTold last (λ it. it ≡ record { name = name; call = calls.Open }) → FailsOn calls.Open (OnOpened told name) last
opened-on told name last there on = (name, (refl, there), on)

pub trace-failed : (told : Option (List File)) (name : List ℕ) (count : ℕ) (last : Option CallOnFile) (status : Status) → status ≡ Fault Store count → IfTold told (IsShortFile name)
    → IfTold last (λ it. it ≡ record { name = name; call = input_read }) → NamesStoreOn input_read (OnFile told name) last status
trace-failed told name count last status is short on = subst (NamesStoreOn input_read (OnFile told name) last) (sym is) (read-on told name last short on)

pub image-failed : (told : Option (List File)) (name : List ℕ) (count : ℕ) (last : Option CallOnFile) (status : Status) → status ≡ Fault Store count → IfTold told (HasFile name (λ _. Unit {0}))
    → IfTold last (λ it. it ≡ record { name = name; call = calls.Open }) → NamesStoreOn calls.Open (OnOpened told name) last status
image-failed told name count last status is there on = subst (NamesStoreOn calls.Open (OnOpened told name) last) (sym is) (opened-on told name last there on)

-- a refusal doesn't name the store
pub names-no-store : (call : StoreCall) (P : List ℕ → Type 0) (last : Option CallOnFile) (name : List ℕ) (line : ℕ) (cause : InputWhy) (status : Status) → IsRefusal name line cause status → NamesStoreOn call P last status
names-no-store call P last name line cause (Input n l w) is = tt
names-no-store call P last name line cause NoMemory is = tt
names-no-store call P last name line cause status is = absurd is

-- a store whose call failed, or want of memory
pub store-stops : (format : Format) (image trace : List ℕ) (old new : Outside) (status : Status) → IsStoreStop old.store_faults new.store_faults status
    → NamesStoreOn input_read (OnFile old.files trace) new.failed_call status → new.files ≡ old.files → new.opened ≡ old.opened → new.sent ≡ old.sent → AnswersIo format image trace old new status
store-stops format image trace old new NoMemory stop on files opened sent = (record { files = files; sent = sent }, inl opened)
store-stops format image trace old new (Fault Store count) stop on files opened sent =
    (record { files = files; sent = sent }, opened, stop.0, stop.1, inl on)
store-stops format image trace old new status stop on files opened sent = absurd stop

-- an image that isn't opened
pub open-stops : (format : Format) (image trace : List ℕ) (old new : Outside) (before : ℕ) (status : Status) → IsOpenStop image old.files before new.store_faults status
    → NamesStoreOn calls.Open (OnOpened old.files image) new.failed_call status → before ≡ old.store_faults → new.files ≡ old.files → new.opened ≡ old.opened → new.sent ≡ old.sent → AnswersIo format image trace old new status
open-stops format image trace old new before NoMemory stop on same files opened sent = (record { files = files; sent = sent }, inl opened)
open-stops format image trace old new before (Fault Store count) stop on same files opened sent =
    (record { files = files; sent = sent }, opened, subst (λ (n : ℕ). Rose n count) same stop.0, stop.1, inr on)
open-stops format image trace old new before (Input name line cause) stop on same files opened sent =
    (record { files = files; sent = sent }, inl (stop.0, stop.1, absent-cause format cause stop.2, not-opened), absent old.files stop.3)
  where
    absent-cause : (f : Format) (c : InputWhy) → c ≡ why.Absent → IsImageCause f c
    absent-cause formats.Raw c is = subst (IsImageCause formats.Raw) (sym is) tt
    absent-cause formats.Qcow2 c is = subst (IsImageCause formats.Qcow2) (sym is) tt

    not-opened : IsOpenedQuietlyFor cause image old new
    not-opened = subst (λ (c : InputWhy). IsOpenedQuietlyFor c image old new) (sym stop.2) opened

    absent : (fs : Option (List File)) → IfTold fs (LacksFile image) → IfTold fs (IsImageOrTraceRefused format image trace name.bytes line cause)
    absent None lacks = tt
    absent (Some told) lacks = let P : InputWhy → Type 0 = λ c. IsBadImage format c image told in inl (stop.0, stop.1, subst P (sym stop.2) lacks)
open-stops format image trace old new before status stop on same files opened sent = absurd stop
