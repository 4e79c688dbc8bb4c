-- What a run of a script and traces is, seen from outside.
use Rattle.std.specs.Prelude.{◌≡◌, ◌⊎◌, ℕ, ◌+◌, ◌*◌, ◌<◌, ◌≤◌, Bool, true, false, List, [], ◌++◌, length, map, take, slice_get, All, Option, Some, None, IsSome, is_some, option_map}
use Rattle.blk_base.specs.Counts.{HasFailedSince, Rose}
use Rattle.blk_base.specs.Files.{IfTold}
use Rattle.blk_base.specs.Written.{Written}
use Rattle.blk_base.specs.declared.fault.DevNo.{DevNo}
use Rattle.blk_base.specs.declared.fault.FaultAt.{FaultAt}
use Rattle.blk_base.specs.declared.fault.FaultFrom.{FaultFrom}
use Rattle.blk_base.specs.declared.fault.FaultFrom.TheVariants.{Store, Dev, Sink}
use Rattle.blk_base.specs.declared.file.CallOnFile.{CallOnFile}
use Rattle.blk_base.specs.declared.file.File.{File}
use Rattle.blk_base.specs.declared.file.Opened.{Opened}
use Rattle.blk_base.specs.declared.memory.Room.{Room}
use Rattle.trace_codec.specs.declared.waits.Waits.{Waits}
use Rattle.trace_codec.specs.declared.waits.Waits.TheVariants as waits
use Rattle.qmp_rules.specs.Table.{RunTable}
use Rattle.blk_history.specs.Fold.{With}
use Rattle.blk_history.specs.Names.{JobLine, RowNames}
use Rattle.blk_history.specs.Transcript.{transcript}
use Rattle.blk_history.specs.declared.event.Event.{Event}
use Rattle.flat_machine.specs.State.{Dirty, State, filename_of}
use Rattle.flat_machine.specs.Machine.{replay}
use Rattle.flat_machine.specs.Opening.{start}
use Rattle.flat_machine.specs.Comes.{IsHistoryOf, IsInOrder, HasEnded, guests_after, jobs_from}
use Rattle.flat_machine.specs.Courses.{Course, course_of, course_after}
use Rattle.flat_machine.specs.Entries.{all_of}
use Rattle.flat_machine.specs.Blocked.{IsStuck}
use Rattle.flat_machine.specs.Licence.{Counts, AreLicensed, source_count, fault_at, faults_of}
use Rattle.flat_machine.specs.Final.{AreLeftBy, bytes_named}
use Rattle.blk_history.specs.Small.{IsSmall}
use Rattle.flat_machine.specs.Imaging.{ImagesAreSound}
use Rattle.flat_machine.specs.declared.opening.Opening.{Opening}
use Rattle.world_files.specs.Closing.{EndsWorld, IsBackAfterFlush, IsFlushedIn, count_back}
use Rattle.world_parts.specs.Comes.{Comes}
use Rattle.world_parts.specs.Counting.{HaveNotFallen}
use Rattle.world_parts.specs.Face.{WorldSeen, counts_now}
use Rattle.world_parts.specs.Steps.{StoreSeen, IsOpeningOf, new_world, seen_store}
use Rattle.world_parts.specs.Tabling.{IsTableAfter}
use Rattle.qblk_inputs.specs.Inputs.{Work, HasWork, IsWork, IsRefusedInput, SpeaksOfCast}
use Rattle.qblk_inputs.specs.Reading.{FailsOn, OnInputs, input_read}
use Rattle.qblk_inputs.specs.Room.{bytes_for_all, entries_for_all}
use Rattle.qblk_words.specs.Words.{Cast, guests_of}
use Rattle.qblk_inputs.specs.declared.stop.InputFlaw.{InputFlaw}
use Rattle.qblk_inputs.specs.declared.stop.InputStop.{InputStop}
use Rattle.qblk_inputs.specs.declared.stop.InputStop.TheVariants as stops
use Rattle.qblk_core.specs.Run.{Outside, why_of}
use Rattle.qblk_core.specs.declared.status.InputWhy.{InputWhy}
use Rattle.qblk_core.specs.declared.status.Status.{Status}
use Rattle.qblk_run.specs.Devices.{HaveDevices}
use Rattle.qblk_run.specs.Worlds.{GoesThrough, IsLast}
use Rattle.qblk_core.specs.declared.status.Status.TheVariants.{Done, Usage, Input, Fault, Stuck, NoMemory}

-- what is seen of a store and a sink
pub record Setting : Type 0 where
  pub store : StoreSeen
  pub sent : Option (List ℕ)
  pub sink_faults : ℕ

abbrev pub setting : Option (List File) → List Opened → ℕ → ℕ → Option CallOnFile
    → Option (List ℕ) → ℕ → Setting
setting files opened room faults failed_call sent sink_faults =
    record {
      store = seen_store files opened room faults failed_call;
      sent = sent;
      sink_faults = sink_faults;
    }

-- as `io` sees it
abbrev pub outside : Option (List File) → List Opened → ℕ → Option CallOnFile → Option (List ℕ)
    → ℕ → Outside
outside files opened faults failed_call sent sink_faults =
    record {
      files = files;
      opened = opened;
      store_faults = faults;
      failed_call = failed_call;
      sent = sent;
      sink_faults = sink_faults;
    }

-- What a run was: what it began with, the openings of devices in it, its history, the jobs that it started, and the counts of faults
-- behind its last event.
pub record Account : Type 0 where
  pub opening : Opening
  pub openings : List Opened
  pub events : List Event
  pub jobs : List JobLine
  pub counts : Counts

-- ---- counts of faults

-- the openings of a run stand behind those before it, and all are back
pub record HasOpened (before after made : List Opened) : Type 0 where
  pub behind : after ≡ before ++ made
  pub back : All (λ o. IsSome o.returned) made

-- the counts of the store, and of each device at its opening and when it was given back
abbrev pub counts_at_first : StoreSeen → Account → Counts
counts_at_first old a = record { store = old.faults; devices = map (λ o. o.faults) a.openings }

abbrev pub counts_at_last : StoreSeen → Account → Counts
counts_at_last new a =
    record { store = new.faults; devices = map count_back a.openings }

-- none is lower
pub record HaveNotSunk (first last : Counts) : Type 0 where
  pub store : first.store ≤ last.store
  pub devices : HaveNotFallen first.devices last.devices

-- no count has risen
abbrev pub HaveStood : Counts → Counts → Type 0
HaveStood first last = (from : FaultFrom) (n : ℕ) → source_count first from ≡ Some n
    → (n < 18446744073709551615) × (source_count last from ≡ Some n)

-- ---- files

-- the file of each `file` node is flushed
abbrev pub NodesAreFlushed : RunTable → List File → Type 0
NodesAreFlushed t files =
    (node : ℕ) (name : List ℕ) → filename_of t node ≡ Some name → IsFlushedIn files name

-- the state that a history comes to
abbrev pub state_after : Opening → List Event → State
state_after o h = replay (start o) h

-- The history is one of its opening: it is legal, and no mark of it splits a request. Each node of the last table that has a
-- flat disk reads as it, by these files alone; left disks are what their drivers read, of sound images; files that no command
-- named for writing are as they were; and the image in the file of each qcow2 node of that table is sound.
pub record LeavesFiles (a : Account) (fault : Option FaultAt) (files : List File) : Type 0 where
  pub history : IsHistoryOf a.opening a.events
  pub left : AreLeftBy a.opening.files (state_after a.opening a.events) files
  pub flushed : fault ≡ None → NodesAreFlushed (state_after a.opening a.events).table files
  pub sound : ImagesAreSound (state_after a.opening a.events).table (bytes_named files)

-- ---- the last flush: each device that is still out, in the order in which they were opened

-- It failed at this device, and at none before it: the count, which the device was given back with, rose behind the last event.
pub record FailsToFlush (new : StoreSeen) (a : Account) (dev : DevNo) (count : ℕ) : Type 0 where
  pub last : With (slice_get a.openings dev.0)
      (λ o. IsBackAfterFlush count o × HasFailedSince o.faults count)
  pub rose : With (slice_get a.counts.devices dev.0) (λ before. Rose before count)
  pub first : (n : ℕ) → n < dev.0
      → slice_get (counts_at_last new a).devices n ≡ slice_get a.counts.devices n

-- no count rose in it, or its first fault is told
abbrev pub IsFlushedAs : StoreSeen → Account → Option FaultAt → Type 0
IsFlushedAs new a None = counts_at_last new a ≡ a.counts
IsFlushedAs new a (Some fault) =
    (dev : DevNo) × (fault.from ≡ Dev dev) × FailsToFlush new a dev fault.count

-- ---- the worlds of a run

-- the room that is taken of the history: of each line four entries, of the end of each actor one, and for what each trace asks
abbrev pub history_room : Work → Room
history_room work = record {
  entries = (4 * length work.script + 1) + entries_for_all work.traces;
  bytes = bytes_for_all work.traces;
}

-- what is left of script and traces behind the history
abbrev pub course_in : Work → Account → Course
course_in work a = course_after (course_of work.script work.traces) a.events

-- A world was made over the store, the entries are those of its events, one after another, and it was closed; `had` says whether
-- memory was had for each line.
pub record IsPlayedBy (work : Work) (had : Bool) (fault : Option FaultAt) (old new : StoreSeen)
    (a : Account) : Type 0 where
  pub near : WorldSeen
  pub events : List (List Event)
  pub all : all_of events ≡ a.events
  pub through : GoesThrough a.opening (course_of work.script work.traces)
      (new_world old a.opening.guests (history_room work)) events near
  pub last : WorldSeen
  pub is_last : IsLast had (course_in work a).script near last
  pub comes : Comes a.opening last
  pub counts_are : a.counts ≡ counts_now last
  pub jobs_are : a.jobs ≡ last.progress.jobs
  pub closed : EndsWorld last new fault

-- ---- a run

-- Each guest's requests are its trace's, in order, and so it is with the script; each fault that the history names is a
-- rise of its count in this run, and is named once; where no count has risen, none is named. Of the last flush the first fault is
-- told. The numbers that an entry prints have 64 bits. Of names of jobs and of files is spoken where the store tells its files.
pub record IsRun (cast : Cast) (work : Work) (had : Bool) (fault : Option FaultAt)
    (old new : StoreSeen)
    (a : Account) : Type 0 where
  pub opening : IsOpeningOf old (guests_of cast) a.opening
  pub openings : HasOpened old.opened new.opened a.openings
  pub room : new.room ≡ old.room
  pub order : IsInOrder a.opening work.script work.traces a.events
  pub licensed : AreLicensed (counts_at_first old a) a.counts a.events
  pub later : HaveNotSunk a.counts (counts_at_last new a)
  pub quiet : HaveStood (counts_at_first old a) (counts_at_last new a) → faults_of a.events ≡ []
  pub flush : IsFlushedAs new a fault
  pub worlds : IsPlayedBy work had fault old new a
  pub small : All IsSmall a.events
  pub names : is_some old.files ≡ true → a.jobs ≡ jobs_from (start a.opening) a.events
  pub files : IfTold old.files (λ told. With new.files (LeavesFiles a fault))

-- Some actor is unfinished, and each of those is blocked; the first is named. The table in which that is so is one that the
-- entries make, with what is dirty, and the state is the one that the history comes to, where the store tells its files. What
-- blocked actors look at is fixed by the entries whatever the store tells: which guests have a device, how far each is, and which
-- jobs are there.
pub record EndsStuck (is_told : Bool) (work : Work) (a : Account) (actor : ℕ)
    (what : Waits (List ℕ)) : Type 0 where
  pub state : State
  pub table : IsTableAfter a.opening.guests a.events state.table state.dirty
  pub devices : HaveDevices a.opening.guests a.events state.table
  pub told : is_told ≡ true → state ≡ state_after a.opening a.events
  pub guests : state.guests ≡ guests_after a.opening a.events
  pub ended : state.ended ≡ (course_in work a).ended
  pub stuck : IsStuck state (course_in work a) actor what

-- No job is left in the table that the entries make, with what is dirty, whatever the store tells.
pub record LeavesNoJob (a : Account) : Type 0 where
  pub table : RunTable
  pub dirty : List Dirty
  pub after : IsTableAfter a.opening.guests a.events table dirty
  pub none : table.jobs ≡ []

-- script and traces are used up, and so are the jobs
abbrev pub EndsDone : Bool → Work → Account → Type 0
EndsDone is_told work a =
    HasEnded a.opening is_told work.script work.traces a.events × LeavesNoJob a

-- a run stops in one of these two ways
abbrev pub HasRunStopped : Bool → Work → Account → Type 0
HasRunStopped is_told work a =
    EndsDone is_told work a
    ⊎ ((actor : ℕ) × (what : Waits (List ℕ)) × EndsStuck is_told work a actor what)

-- ---- what went out

-- with the names of its guests and jobs
abbrev pub names_by : Account → RowNames
names_by a = record { guests = a.opening.guests; jobs = a.jobs }

abbrev pub whole_transcript : Account → List ℕ
whole_transcript a = transcript (names_by a) a.events

-- script and traces are what the words name, they were run, and of the transcript the first n bytes went out
pub record WasRun (cast : Cast) (work : Work) (fault : Option FaultAt) (old new : Setting)
    (a : Account) (n : ℕ) : Type 0 where
  pub asked : IsWork cast work
  pub inputs : IfTold old.store.files (HasWork cast work)
  pub run : IsRun cast work true fault old.store new.store a
  pub sent : new.sent ≡ option_map (λ s. s ++ take n (whole_transcript a)) old.sent

-- all of it did, and no call failed since the last event
pub record WasRunWhole (cast : Cast) (work : Work) (old new : Setting) (a : Account) : Type 0 where
  pub was : WasRun cast work None old new a (length (whole_transcript a))
  pub sink : new.sink_faults ≡ old.sink_faults

-- it stopped, whether or not all of it went out
pub record WasStopped (cast : Cast) (work : Work) (fault : Option FaultAt) (old new : Setting)
    (a : Account) (n : ℕ) : Type 0 where
  pub was : WasRun cast work fault old new a n
  pub stopped : HasRunStopped (is_some old.store.files) work a

-- nothing was written, neither to a file nor to the sink
pub record NothingWritten (old new : Setting) : Type 0 where
  pub files : new.store.files ≡ old.store.files
  pub opened : new.store.opened ≡ old.store.opened
  pub room : new.store.room ≡ old.store.room
  pub sent : new.sent ≡ old.sent
  pub sink : new.sink_faults ≡ old.sink_faults

-- ---- faults

-- the transcript goes out nevertheless, or a put of it failed too
abbrev pub GoesOut : Setting → Setting → Account → ℕ → Type 0
GoesOut old new a n =
    ((n ≡ length (whole_transcript a)) × (new.sink_faults ≡ old.sink_faults))
    ⊎ Rose old.sink_faults new.sink_faults

-- the first fault: while an input was read, behind those that are good; in the last flush; or while the transcript went out
abbrev pub IsFaulty : Cast → Setting → Setting → FaultFrom → ℕ → Type 0
IsFaulty cast old new Store count =
    NothingWritten old new × Rose old.store.faults count × (count ≡ new.store.faults)
    × FailsOn input_read (OnInputs old.store.files cast) new.store.failed_call
IsFaulty cast old new (Dev dev) count = (work : Work) × (a : Account) × (n : ℕ)
    × WasStopped cast work (Some (fault_at (Dev dev) count)) old new a n × GoesOut old new a n
IsFaulty cast old new Sink count = (work : Work) × (a : Account) × (n : ℕ)
    × WasStopped cast work None old new a n × Rose old.sink_faults count × (count ≡ new.sink_faults)

-- ---- statuses

-- a wait, its texts as bytes
abbrev pub seen_waits : Waits Written → Waits (List ℕ)
seen_waits waits.Attached = waits.Attached
seen_waits (waits.Line line) = waits.Line line
seen_waits (waits.Guest guest requests) = waits.Guest guest requests
seen_waits (waits.Ready id) = waits.Ready id.bytes
seen_waits (waits.Ended id) = waits.Ended id.bytes

-- an input is refused: the script or a trace, for a flaw that it may have; and where files are told, the first that has one
abbrev pub IsInputRefused : Cast → Setting → Setting → List ℕ → ℕ → InputWhy → Type 0
IsInputRefused cast old new name line why =
    NothingWritten old new × (new.store ≡ old.store)
    × ((flaw : InputFlaw) × (why ≡ why_of flaw) × SpeaksOfCast cast name line flaw
    × IfTold old.store.files (IsRefusedInput cast name line flaw))

-- memory wasn't had: nothing went out, and the store is as it was, or as the events so far left it
abbrev pub IsUnsent : Cast → Setting → Setting → Type 0
IsUnsent cast old new = (new.sent ≡ old.sent) × (new.sink_faults ≡ old.sink_faults)
    × ((new.store ≡ old.store)
    ⊎ ((work : Work) × (fault : Option FaultAt) × (a : Account)
    × IsWork cast work × IfTold old.store.files (HasWork cast work)
    × IsRun cast work false fault old.store new.store a))

-- why a run of these words ended so
abbrev pub Answers : Cast → Setting → Setting → Status → Type 0
Answers cast old new Done = (work : Work) × (a : Account)
    × WasRunWhole cast work old new a × EndsDone (is_some old.store.files) work a
Answers cast old new Usage = ⊥
Answers cast old new (Input name line why) = IsInputRefused cast old new name.bytes line why
Answers cast old new (Fault from count) = IsFaulty cast old new from count
Answers cast old new (Stuck actor what) = (work : Work) × (a : Account)
    × WasRunWhole cast work old new a
    × EndsStuck (is_some old.store.files) work a actor (seen_waits what)
Answers cast old new NoMemory = IsUnsent cast old new

-- the status of inputs that weren't read
abbrev pub status_of : InputStop → Status
status_of (stops.Refused name line why) = Input name line (why_of why)
status_of (stops.Failed count) = Fault Store count
status_of stops.NoMemory = NoMemory
