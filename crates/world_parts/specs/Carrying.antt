-- What a command leaves of the world, before its reply stands in the history.
use Rattle.std.specs.Prelude.{◌≡◌, ◌⊎◌, ℕ, ◌<◌, Bool, true, false, [], ◌∷◌, ◌++◌, Result, Ok, Err, Option, Some, None, IfSome, is_some, map, List, string_bytes}
use Rattle.serde_json.specs.Data.{Data}
use Rattle.blk_base.specs.declared.fault.DevNo.{DevNo}
use Rattle.blk_base.specs.declared.fault.FaultAt.{FaultAt}
use Rattle.blk_base.specs.declared.fault.FaultFrom.{FaultFrom}
use Rattle.blk_base.specs.declared.fault.FaultFrom.TheVariants.{Dev}
use Rattle.q2_format.specs.Created.{created_length}
use Rattle.blk_history.specs.Fold.{With}
use Rattle.blk_history.specs.declared.event.Event.{Event}
use Rattle.blk_history.specs.declared.event.Event.TheVariants.{Reply}
use Rattle.qmp_codec.specs.Commands.{Cmd}
use Rattle.qmp_codec.specs.Lines.{Stop, command_at}
use Rattle.qmp_codec.specs.declared.command.Command.TheVariants.{BlockdevAdd, BlockdevCreate, QueryNamedBlockNodes, BitmapAdd, BitmapRemove, BitmapClear, BitmapEnable, BitmapDisable, BitmapMerge}
use Rattle.qmp_codec.specs.declared.nodes.Created.{Created}
use Rattle.qmp_codec.specs.declared.nodes.Created.TheVariants.{Qcow2}
use Rattle.qmp_rules.specs.declared.refusal.Refusal.{Refusal}
use Rattle.qmp_rules.specs.declared.refusal.Refusal.TheVariants.{BadValue, File, Image, BackingNeeded, SizeDiffers, Io, NoSpace}
use Rattle.qmp_rules.specs.declared.told.Stopped.{Stopped}
use Rattle.qmp_rules.specs.declared.told.Told.{Told}
use Rattle.qmp_rules.specs.Changes.{all_changed}
use Rattle.qmp_rules.specs.Answers.{answer, refusal_to, line_answer, line_text}
use Rattle.qmp_rules.specs.Looks.{create_told}
use Rattle.flat_machine.specs.State.{State, KnownFile, Content, Bytes, Blank}
use Rattle.flat_machine.specs.Sights.{IsTold, Fails, told_for}
use Rattle.flat_machine.specs.Licence.{fault_at, named_in}
use Rattle.flat_machine.specs.Marking.{dirty_bytes}
use Rattle.flat_machine.specs.Recording.{dirty_after}
use Rattle.flat_machine.specs.EventLicence.{IsCalledBy, IsLicensedBy}
use Rattle.flat_machine.specs.Replies.{command_read}
use Rattle.flat_machine.specs.Marks.{AreCalm, HasToComeAgain, drained_by, after_later, after_reply}
use Rattle.flat_machine.specs.Performing.{AllPerformed, IsQuiet}
use Rattle.flat_machine.specs.declared.opening.Opening.{Opening}
use Rattle.blk_base.specs.declared.file.Opened.{Opened}
use Rattle.world_parts.specs.declared.carried.Carried.{Carried}
use Rattle.world_parts.specs.declared.carried.Carried.TheVariants as carried
use Rattle.world_parts.specs.declared.executed.Executed.{Executed}
use Rattle.world_parts.specs.declared.executed.Executed.TheVariants as executed
use Rattle.world_parts.specs.Adding.{Opens, opens}
use Rattle.world_parts.specs.Coherent.{IsCoherent}
use Rattle.world_parts.specs.Comes.{ShowsState}
use Rattle.world_parts.specs.Counting.{IsNumbered, RunsOn, IsFaultReached, seen_sources, counts_within, HidesNoFault, LeavesNoneOut}
use Rattle.world_parts.specs.Face.{WorldSeen, held, contents_of, counts_now, dirty_of, seen_state, device_numbered}
use Rattle.world_parts.specs.Jobs.{BeginsNone, BeginsOne}
use Rattle.world_parts.specs.Leaving.{Leaves, LeavesBack, LeavesBitmaps, LeavesBitmapsIn, LeavesIn, clean_told}
use Rattle.world_parts.specs.Looking.{HasCalled}
use Rattle.world_parts.specs.Progress.{with_bare_entry}
use Rattle.world_parts.specs.Saying.{Given, IsSaid}
use Rattle.world_parts.specs.Snapshots.{TellsMapped}
use Rattle.world_parts.specs.Staging.{site_of}
use Rattle.world_parts.specs.Creating.{creation_for}

-- ---- what files may refuse, be it told or not what they hold

abbrev pub IsOfFiles : Refusal → Type 0
IsOfFiles (BadValue member) = Unit {0}
IsOfFiles (File name fault) = Unit {0}
IsOfFiles (Image stop) = Unit {0}
IsOfFiles (BackingNeeded node) = Unit {0}
IsOfFiles (SizeDiffers first second) = Unit {0}
IsOfFiles (Io from count) = Unit {0}
IsOfFiles (NoSpace dev) = Unit {0}
IsOfFiles cause = ⊥

abbrev pub StopsByFiles : Option Stopped → Type 0
StopsByFiles None = Unit {0}
StopsByFiles (Some stopped) = IsOfFiles stopped.refusal

-- ---- where the store tells its files

-- the state with each created image as its bytes are held
abbrev pub known_as : Content → Option (List ℕ) → Content
known_as (Blank new len) (Some bytes) = Bytes bytes
known_as content held = content

abbrev pub held_known : WorldSeen → KnownFile → KnownFile
held_known w known = record known { content = known_as known.content (held w known.name) }

abbrev pub as_held : WorldSeen → State → State
as_held w s = record s { files = map (held_known w) s.files }

-- What stops a command is what the bytes of the files say, or a call that failed.
abbrev pub StopsExactly : State → Cmd → Option Stopped → Type 0
StopsExactly s c stopped =
    (stopped ≡ (told_for s c).stopped) ⊎ With stopped (Fails s.table c (told_for s c).stopped)

-- The files told what a command may be told of them, by which the answer is the one that was given, and its changes were
-- performed.
pub record IsCarriedIn (s : State) (w v : WorldSeen) (c : Cmd) (told : Told) : Type 0 where
  pub seen : Told
  pub is_told : IsTold s c seen
  pub exact : StopsExactly (as_held w s) c seen.stopped
  pub same : answer w.table seen c ≡ answer w.table told c
  pub performed : AllPerformed s (answer w.table told c).changes (contents_of w) (contents_of v)

-- ---- a refusal of which a call failed

-- the image that a command creates would end above the capacity of the device
abbrev pub creation_passes : WorldSeen → Created (List ℕ) → ℕ → Type 0
creation_passes w (Qcow2 c) dev =
    With (device_numbered w.nodes.devices dev)
    (λ device. device.capacity < created_length (creation_for c))
creation_passes w options dev = ⊥

-- where nothing refuses the creation before
abbrev pub would_pass : WorldSeen → Option Cmd → ℕ → Type 0
would_pass w (Some (BlockdevCreate c)) dev =
    (refusal_to w.table (create_told c.options w.room) (BlockdevCreate c) ≡ None)
    × creation_passes w c.options dev
would_pass w c dev = ⊥

-- the store, or a device that the command calls, failed in it and has this count
pub record HasFailed (w v : WorldSeen) (c : Cmd) (from : FaultFrom) (count : ℕ) : Type 0 where
  pub called : IsCalledBy w.table (seen_sources w) (counts_now w) from (Some c)
  pub numbered : IsNumbered from
  pub reached : IsFaultReached w v (fault_at from count)

-- a write of the command would have passed the capacity of a device that it calls
pub record HasNoSpace (w : WorldSeen) (c : Cmd) (dev : DevNo) : Type 0 where
  pub called : IsCalledBy w.table (seen_sources w) (counts_now w) (Dev dev) (Some c)
  pub numbered : IsNumbered (Dev dev)
  pub passes : would_pass w (Some c) dev.0

abbrev pub IsCaused : WorldSeen → WorldSeen → Cmd → Refusal → Type 0
IsCaused w v c (Io from count) = HasFailed w v c from count
IsCaused w v c (NoSpace dev) = HasNoSpace w c dev
IsCaused w v c cause = Unit {0}

-- no write of the command passes the capacity of a device that it calls
abbrev pub FitsAll : WorldSeen → Cmd → Type 0
FitsAll w c = (dev : DevNo) → IsCalledBy w.table (seen_sources w) (counts_now w) (Dev dev) (Some c)
    → would_pass w (Some c) dev.0 → ⊥

-- what is accepted has had its space
abbrev pub HasAnswerCause : WorldSeen → WorldSeen → Cmd → Option Refusal → Type 0
HasAnswerCause w v c None = FitsAll w c
HasAnswerCause w v c (Some cause) = IsCaused w v c cause

-- the fault that a refusal names
abbrev pub fault_named : Refusal → Option FaultAt
fault_named (Io from count) = Some (fault_at from count)
fault_named cause = None

abbrev pub fault_told : Option Refusal → Option FaultAt
fault_told None = None
fault_told (Some cause) = fault_named cause

-- ---- files that are opened

abbrev pub opened_names : List Opened → List (List ℕ)
opened_names opened = map (λ o. o.name) opened

abbrev pub AreOpenedBy : Option Opens → (old new : List (List ℕ)) → Type 0
AreOpenedBy None old new = new ≡ old
AreOpenedBy (Some at) old new = (new ≡ old) ⊎ (new ≡ old ++ at.filename ∷ [])

-- An addition opens at most the file that it names, behind the others; no other command opens any.
abbrev pub OpensFor : Cmd → (old new : List Opened) → Type 0
OpensFor (BlockdevAdd c) old new =
    AreOpenedBy (opens c.driver) (opened_names old) (opened_names new)
OpensFor c old new = opened_names new ≡ opened_names old

-- nor does a line that is no command
abbrev pub OpensIn : Result Cmd Stop → (old new : List Opened) → Type 0
OpensIn (Ok c) old new = OpensFor c old new
OpensIn (Err why) old new = opened_names new ≡ opened_names old

-- ---- images

-- an overlay is told to map a cluster exactly where its image does
abbrev pub TellsMappedIn : WorldSeen → Result Cmd Stop → List (List ℕ) → Type 0
TellsMappedIn w (Ok c) mapped = TellsMapped w.table w.nodes c mapped
TellsMappedIn w (Err why) mapped = Unit {0}

-- ---- drains

-- an accepted command found no request in flight on a disk that it must drain
abbrev pub FoundCalm : State → Told → Result Cmd Stop → Type 0
FoundCalm s told (Ok c) =
    refusal_to s.table told c ≡ None → AreCalm s.table s.guests (drained_by s.table c)
FoundCalm s told (Err why) = Unit {0}

-- the disks that a command must drain are held
abbrev pub held_for : Cmd → WorldSeen → WorldSeen
held_for c w = record w { drains = after_later (drained_by w.table c) w.drains }

-- ---- the whole

-- the counts of all bitmaps, as they are told
abbrev pub counts_of : WorldSeen → List ℕ
counts_of w = map dirty_bytes (dirty_of w)

-- so it is told, beside other things
abbrev pub with_counts : Told → List ℕ → Told
with_counts told ds = record told { dirty = ds }

-- one query prints them
abbrev pub prints_counts : Cmd → Bool
prints_counts (QueryNamedBlockNodes flat) = true
prints_counts c = false

-- a command is accepted, or refused for this
pub record IsCarried (w v : WorldSeen) (c : Cmd) (refusal : Option Refusal) : Type 0 where
  pub told : Told
  pub counts : prints_counts c ≡ true → told.dirty ≡ counts_of w
  pub by_files : StopsByFiles told.stopped
  pub maps : TellsMapped w.table w.nodes c told.mapped
  pub answered : refusal_to w.table told c ≡ refusal
  pub table : v.table ≡ all_changed w.table (answer w.table told c).changes
  pub progress : v.progress ≡ w.progress
  pub drains : v.drains ≡ w.drains
  pub works : v.works ≡ w.works
  pub runs : RunsOn w v
  pub hides : HidesNoFault w v (fault_told refusal)
  pub opens : OpensFor c w.opened v.opened
  pub site : Leaves w.table (clean_told told) c refusal v.table (site_of w) (site_of v)
  pub cause : HasAnswerCause w v c refusal
  pub calm : refusal ≡ None → AreCalm w.table w.progress.guests (drained_by w.table c)
  pub coherent : IsCoherent w.table w.nodes w.opened w.progress
      → IsCoherent v.table v.nodes v.opened v.progress
  pub shows : is_some w.files ≡ true → (o : Opening) (s : State) → ShowsState o s w
      → IsCarriedIn s w v c told

-- and this text is its answer
pub record IsCarriedAs (w v : WorldSeen) (given : List ℕ) (c : Cmd) (text : List ℕ) : Type 0 where
  pub refusal : Option Refusal
  pub carried : IsCarried w v c refusal
  pub said : IsSaid given (answer w.table carried.told c).reply text
  pub dirty : dirty_of v ≡ dirty_after w.table (dirty_of w) (answer w.table carried.told c).changes
  pub bitmaps : LeavesBitmaps w.table c refusal w.bitmaps v.bitmaps

-- The files told what a command may be told of them, by which nothing refuses it.
pub record IsLateIn (s : State) (w : WorldSeen) (c : Cmd) (told : Told) : Type 0 where
  pub seen : Told
  pub is_told : IsTold s c seen
  pub exact : StopsExactly (as_held w s) c seen.stopped
  pub same : answer w.table seen c ≡ answer w.table told c

-- A command has to come again: nothing refuses it, and this request is the first that is in flight on a disk that it must
-- drain. Those disks are held, and nothing else changes.
pub record IsLate (w v : WorldSeen) (c : Cmd) (g r : ℕ) : Type 0 where
  pub told : Told
  pub by_files : StopsByFiles told.stopped
  pub maps : TellsMapped w.table w.nodes c told.mapped
  pub waits : HasToComeAgain (seen_state w) told c g r
  pub left : v ≡ held_for c w
  pub shows : is_some w.files ≡ true → (o : Opening) (s : State) → ShowsState o s w
      → IsLateIn s w c told

-- a command says the text of its answer, or has to come again
abbrev pub IsCarriedOut : WorldSeen → WorldSeen → List ℕ → Cmd → Carried → Type 0
IsCarriedOut w v given c (carried.Said text) = IsCarriedAs w v given c (string_bytes text)
IsCarriedOut w v given c (carried.Later g r) = IsLate w v c g r

-- Want of memory leaves all as it was, but for one opening that is over, and one fault that no answer names.
pub record IsPutBack (w v : WorldSeen) : Type 0 where
  pub table : v.table ≡ w.table
  pub progress : v.progress ≡ w.progress
  pub bitmaps : v.bitmaps ≡ w.bitmaps
  pub drains : v.drains ≡ w.drains
  pub works : v.works ≡ w.works
  pub files : v.files ≡ w.files
  pub called : HasCalled w.nodes v.nodes
  pub runs : RunsOn w v
  pub opens : LeavesNoneOut w.opened v.opened
  pub fault : Option FaultAt
  pub hides : HidesNoFault w v fault
  pub coherent : IsCoherent w.table w.nodes w.opened w.progress
      → IsCoherent v.table v.nodes v.opened v.progress

-- Only the command's own calls were made: of a file that it names, and the fault is one of them.
pub record IsPutBackBy (w v : WorldSeen) (c : Cmd) : Type 0 where
  pub back : IsPutBack w v
  pub site : LeavesBack w.table c (site_of w) (site_of v)
  pub failed : IfSome back.fault (λ fault. HasFailed w v c fault.from fault.count)

-- for a line that is no command nothing is called
abbrev pub IsPutBackIn : WorldSeen → WorldSeen → Result Cmd Stop → Type 0
IsPutBackIn w v (Ok c) = IsPutBackBy w v c
IsPutBackIn w v (Err why) = v ≡ w

-- ---- refusals of which a call failed

abbrev pub is_io_refusal : Refusal → Bool
is_io_refusal (Io from count) = true
is_io_refusal (NoSpace dev) = true
is_io_refusal cause = false

-- ---- commands on bitmaps

abbrev pub is_of_bitmaps : Cmd → Bool
is_of_bitmaps (BitmapAdd c) = true
is_of_bitmaps (BitmapRemove c) = true
is_of_bitmaps (BitmapClear c) = true
is_of_bitmaps (BitmapEnable c) = true
is_of_bitmaps (BitmapDisable c) = true
is_of_bitmaps (BitmapMerge c) = true
is_of_bitmaps c = false

-- ---- lines

abbrev pub reply_entry : WorldSeen → Told → Given → Event
reply_entry w told line =
    Reply line.number line.text (command_read (command_at line.text))
    (line_text w.table told line.text)

-- What the store's files are then, where it tells them: a command changes what its changes say, and no other line any.
abbrev pub IsSeenIn : State → WorldSeen → WorldSeen → Told → Result Cmd Stop → Type 0
IsSeenIn s w v told (Ok c) = IsCarriedIn s w v c told
IsSeenIn s w v told (Err why) = IsQuiet (contents_of w) (contents_of v)

-- what a line is accepted for has had its space
abbrev pub HasFitted : WorldSeen → Option Cmd → Result Data Refusal → Type 0
HasFitted w (Some c) (Ok d) = FitsAll w c
HasFitted w c reply = Unit {0}

-- A line is answered: its reply is the last entry, and the table has the changes of the answer. No drain of a command stands
-- any more. No fault is named but one that was reached in this event by what the line calls, and none is hidden. Store and
-- nodes are as before but for what the command does to them.
pub record IsReplied (w v : WorldSeen) (line : Given) : Type 0 where
  pub told : Told
  pub counts : told.dirty ≡ counts_of w
  pub by_files : StopsByFiles told.stopped
  pub maps : TellsMappedIn w (command_at line.text) told.mapped
  pub table : v.table ≡ all_changed w.table (line_answer w.table told line.text).changes
  pub dirty : dirty_of v
      ≡ dirty_after w.table (dirty_of w) (line_answer w.table told line.text).changes
  pub bitmaps : LeavesBitmapsIn w.table told (command_at line.text) w.bitmaps v.bitmaps
  pub progress : v.progress ≡ with_bare_entry (reply_entry w told line) w.progress
  pub drains : v.drains ≡ after_reply w.drains
  pub works : v.works ≡ w.works
  pub calm : FoundCalm (seen_state w) told (command_at line.text)
  pub runs : RunsOn w v
  pub licensed : IsLicensedBy (seen_state w) (seen_sources w)
      (counts_now w) (counts_within w v) (counts_now v)
      (would_pass w (command_read (command_at line.text))) (reply_entry w told line)
  pub hides : HidesNoFault w v (named_in (reply_entry w told line))
  pub fits : HasFitted w (command_read (command_at line.text))
      (line_answer w.table told line.text).reply
  pub opens : OpensIn (command_at line.text) w.opened v.opened
  pub site : LeavesIn w.table told (command_at line.text) v.table (site_of w) (site_of v)
  pub shows : is_some w.files ≡ true → (o : Opening) (s : State) → ShowsState o s w
      → IsSeenIn s w v told (command_at line.text)

-- A line has to come again: it is a command that nothing refuses, and this request is the first that is in flight on a disk
-- that it must drain. Those disks are held, and nothing else changes.
pub record IsPutOff (w v : WorldSeen) (line : Given) (g r : ℕ) : Type 0 where
  pub told : Told
  pub by_files : StopsByFiles told.stopped
  pub command : Cmd
  pub read : command_at line.text ≡ Ok command
  pub maps : TellsMapped w.table w.nodes command told.mapped
  pub waits : HasToComeAgain (seen_state w) told command g r
  pub left : v ≡ held_for command w
  pub shows : is_some w.files ≡ true → (o : Opening) (s : State) → ShowsState o s w
      → IsLateIn s w command told

-- A line is answered: behind its reply begins the job that its command starts, where it starts one.
pub record AnswersLine (w v : WorldSeen) (line : Given) : Type 0 where
  pub between : WorldSeen
  pub replied : IsReplied w between line
  pub begins : BeginsNone w.table between v ⊎ BeginsOne w.table between v

abbrev pub IsExecuted : WorldSeen → WorldSeen → Given → Executed → Type 0
IsExecuted w v line executed.Replied = AnswersLine w v line
IsExecuted w v line (executed.Later g r) = IsPutOff w v line g r
