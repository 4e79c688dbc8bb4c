-- How inputs are read.
use Rattle.std.specs.Prelude.{◌≡◌, ◌⊎◌, ℕ, ◌<◌, ◌≤◌, true, List, [], ◌∷◌, length, map, Contains, Option}
use Rattle.blk_base.specs.Answers.{HasFile, LacksFile}
use Rattle.blk_base.specs.Counts.{Rose}
use Rattle.blk_base.specs.Files.{IfTold, is_out}
use Rattle.blk_base.specs.declared.file.CallOnFile.{CallOnFile}
use Rattle.blk_base.specs.declared.file.File.{File}
use Rattle.blk_base.specs.declared.file.Opened.{Opened}
use Rattle.blk_base.specs.declared.store.StoreCall.{StoreCall}
use Rattle.blk_base.specs.declared.store.StoreCall.TheVariants as calls
use Rattle.trace_codec.specs.Amounts.{Amounts, nothing}
use Rattle.trace_codec.specs.Script.{Order}
use Rattle.trace_codec.specs.declared.wish.Wish.{Wish}
use Rattle.qblk_inputs.specs.Inputs.{IsScript, ReadsAsTrace, IsFirstRefused, IsRefusedInput, SpeaksOfTraces, SpeaksOfCast, most_text}
use Rattle.qblk_words.specs.Words.{Player, Cast, guests_of}
use Rattle.qblk_inputs.specs.declared.stop.InputFlaw.{InputFlaw}
use Rattle.qblk_inputs.specs.declared.stop.InputFlaw.TheVariants.{Absent, TooLong}
use Rattle.qblk_inputs.specs.declared.stop.InputStop.{InputStop}
use Rattle.qblk_inputs.specs.declared.stop.InputStop.TheVariants.{Refused, Failed, NoMemory}

-- no device is out
abbrev pub NoneOut : List Opened → Type 0
NoneOut opened = (name : List ℕ) → is_out name opened ≡ true → ⊥

-- the bytes of a file that is not too long
abbrev pub IsReadOfFile : List ℕ → List ℕ → List File → Type 0
IsReadOfFile name bytes files =
    HasFile name (λ f. (bytes ≡ f.bytes) × (length bytes ≤ most_text)) files

-- the stop is the refusal of that file, or tells of want of memory
abbrev pub IsInputRefusal : List ℕ → ℕ → InputFlaw → InputStop → Type 0
IsInputRefusal name line why (Refused n l w) = (n.bytes ≡ name) × (l ≡ line) × (w ≡ why)
IsInputRefusal name line why (Failed count) = ⊥
IsInputRefusal name line why NoMemory = Unit {0}

-- an input is refused, for this cause; or a call of the store failed; or memory wasn't had
abbrev pub StopsFor : (List ℕ → InputFlaw → ℕ → Type 0) → ℕ → ℕ → InputStop → Type 0
StopsFor P before now (Refused name line why) = P name.bytes why line × (now ≡ before)
StopsFor P before now (Failed count) = Rose before count × (count ≡ now)
StopsFor P before now NoMemory = now ≡ before

-- a file isn't read as a whole
abbrev pub IsUnread : InputFlaw → ℕ → List ℕ → List File → Type 0
IsUnread Absent line name files = (line ≡ 0) × LacksFile name files
IsUnread TooLong line name files = (line ≡ 0) × HasFile name (λ f. most_text < length f.bytes) files
IsUnread why line name files = ⊥

-- what is said of it, whatever files hold
abbrev pub IsUnreadFlaw : InputFlaw → ℕ → Type 0
IsUnreadFlaw Absent line = line ≡ 0
IsUnreadFlaw TooLong line = line ≡ 0
IsUnreadFlaw why line = ⊥

-- a refusal of this file: for a flaw that such a file may have, and where files are told, has
abbrev pub OfFile : Option (List File) → List ℕ → (InputFlaw → ℕ → Type 0)
    → (InputFlaw → ℕ → List ℕ → List File → Type 0) → List ℕ → InputFlaw → ℕ → Type 0
OfFile told name Q P given why line = (given ≡ name) × Q why line × IfTold told (P why line name)

-- a refusal of one of the traces, where files are told of the first that is refused
abbrev pub OfTraces : Option (List File) → List Player → List ℕ → InputFlaw → ℕ → Type 0
OfTraces told players name why line =
    SpeaksOfTraces nothing players name line why
    × IfTold told (IsFirstRefused nothing players name line why)

-- a refusal of one of the inputs, where files are told of the first that is refused
abbrev pub OfInputs : Option (List File) → Cast → List ℕ → InputFlaw → ℕ → Type 0
OfInputs told cast name why line =
    SpeaksOfCast cast name line why × IfTold told (IsRefusedInput cast name line why)

-- ---- which input a call of the store failed on

-- a file that is there, and not too long
abbrev pub IsShortFile : List ℕ → List File → Type 0
IsShortFile name files = HasFile name (λ f. length f.bytes ≤ most_text) files

-- one of the traces, which is there and not too long: those before it are read
abbrev pub FailsOnTrace : Amounts → List Player → List ℕ → List File → Type 0
FailsOnTrace before [] name files = ⊥
FailsOnTrace before (p ∷ players) name files =
    ((name ≡ p.trace) × IsShortFile p.trace files)
    ⊎ ((wishes : List Wish) × (asked : Amounts)
    × HasFile p.trace (λ f. ReadsAsTrace before wishes asked f.bytes) files
    × FailsOnTrace asked players name files)

-- the script before the traces
abbrev pub FailsOnInput : Cast → List ℕ → List File → Type 0
FailsOnInput cast name files =
    ((name ≡ cast.script) × IsShortFile cast.script files)
    ⊎ ((orders : List Order)
    × HasFile cast.script (λ f. IsScript (guests_of cast) orders f.bytes) files
    × FailsOnTrace nothing cast.players name files)

-- it was this file
abbrev pub OnFile : Option (List File) → List ℕ → List ℕ → Type 0
OnFile told name failed = (failed ≡ name) × IfTold told (IsShortFile name)

-- how an input is read: whole, where it isn't too long
abbrev pub input_read : StoreCall
input_read = calls.Read most_text

-- one of the traces, and where files are told one behind those that are read
abbrev pub OnTraces : Option (List File) → List Player → List ℕ → Type 0
OnTraces told players failed =
    Contains (map (λ p. p.trace) players) failed
    × IfTold told (FailsOnTrace nothing players failed)

-- one of the inputs, and where files are told one behind those that are read
abbrev pub OnInputs : Option (List File) → Cast → List ℕ → Type 0
OnInputs told cast failed =
    ((failed ≡ cast.script) ⊎ Contains (map (λ p. p.trace) cast.players) failed)
    × IfTold told (FailsOnInput cast failed)

-- this call failed on a file of which that holds, by which failed last, where it is told
abbrev pub FailsOn : StoreCall → (List ℕ → Type 0) → Option CallOnFile → Type 0
FailsOn call P last = (failed : List ℕ) × P failed
    × IfTold last (λ it. it ≡ record { name = failed; call = call })

-- so it is behind a read of an input that failed, and which call failed last stays behind every other stop
abbrev pub StopsOn : (List ℕ → Type 0) → Option CallOnFile → Option CallOnFile → InputStop → Type 0
StopsOn P before now (Refused name line why) = now ≡ before
StopsOn P before now (Failed count) = FailsOn input_read P now
StopsOn P before now NoMemory = now ≡ before
