-- Why the calls of a store answer as they do. Want of memory alone has no cause.
use Rattle.std.specs.Prelude.{◌≡◌, ℕ, ◌<◌, ◌≤◌, IsTrue, List, length, Option, Some, None, Result, Ok, Err, MatchResult}
use Rattle.blk_base.specs.Counts.{Rose}
use Rattle.blk_base.specs.Files.{file_at, is_out, IfTold}
use Rattle.blk_base.specs.declared.file.File.{File}
use Rattle.blk_base.specs.declared.file.Opened.{Opened}
use Rattle.blk_base.specs.declared.store.StoreStop.{StoreStop}
use Rattle.blk_base.specs.declared.store.StoreStop.TheVariants.{Absent, InUse, TooLong, Failed, NoMemory}

-- no device of that name is out
abbrev pub IsIn : List ℕ → List Opened → Type 0
IsIn name opened = IsTrue (is_out name opened) → ⊥

-- there is a file of that name, with that
abbrev pub HasFile : List ℕ → (File → Type 0) → List File → Type 0
HasFile name P files = (f : File) × (file_at name files ≡ Some f) × P f

abbrev pub LacksFile : List ℕ → List File → Type 0
LacksFile name files = file_at name files ≡ None

-- why a file is opened or not
abbrev pub OpenAnswers : {A : Type 0} → List ℕ → Option (List File) → List Opened → ℕ → ℕ
    → Result A StoreStop → Type 0
OpenAnswers name files opened before now (Ok dev) =
    IsIn name opened × IfTold files (HasFile name (λ _. Unit {0}))
OpenAnswers name files opened before now (Err Absent) =
    IsIn name opened × IfTold files (LacksFile name)
OpenAnswers name files opened before now (Err InUse) = IsTrue (is_out name opened)
OpenAnswers name files opened before now (Err TooLong) = ⊥
OpenAnswers name files opened before now (Err Failed) =
    IsIn name opened × IfTold files (HasFile name (λ _. Unit {0})) × Rose before now
OpenAnswers name files opened before now (Err NoMemory) = Unit {0}

-- why a file of that length is made or not, where files that are made have this room
abbrev pub CreateAnswers : {A : Type 0} → List ℕ → ℕ → ℕ → List Opened → ℕ → ℕ → Result A StoreStop
    → Type 0
CreateAnswers name len room opened before now (Ok done) = IsIn name opened × (len ≤ room)
CreateAnswers name len room opened before now (Err Absent) = ⊥
CreateAnswers name len room opened before now (Err InUse) = IsTrue (is_out name opened)
CreateAnswers name len room opened before now (Err TooLong) = IsIn name opened × (room < len)
CreateAnswers name len room opened before now (Err Failed) =
    IsIn name opened × (len ≤ room) × Rose before now
CreateAnswers name len room opened before now (Err NoMemory) = Unit {0}

-- why a whole file of at most that length is read or not
abbrev pub ReadAnswers : {A : Type 0} → List ℕ → ℕ → Option (List File) → List Opened → ℕ → ℕ
    → Result A StoreStop → Type 0
ReadAnswers name limit files opened before now (Ok bytes) =
    IsIn name opened × IfTold files (HasFile name (λ f. length f.bytes ≤ limit))
ReadAnswers name limit files opened before now (Err Absent) =
    IsIn name opened × IfTold files (LacksFile name)
ReadAnswers name limit files opened before now (Err InUse) = IsTrue (is_out name opened)
ReadAnswers name limit files opened before now (Err TooLong) =
    IsIn name opened × IfTold files (HasFile name (λ f. limit < length f.bytes))
ReadAnswers name limit files opened before now (Err Failed) =
    IsIn name opened × IfTold files (HasFile name (λ f. length f.bytes ≤ limit)) × Rose before now
ReadAnswers name limit files opened before now (Err NoMemory) = Unit {0}

-- the count is as before, but where the store failed
abbrev pub StandsAt : ℕ → ℕ → StoreStop → Type 0
StandsAt before now Absent = now ≡ before
StandsAt before now InUse = now ≡ before
StandsAt before now TooLong = now ≡ before
StandsAt before now Failed = Unit {0}
StandsAt before now NoMemory = now ≡ before

-- a call that is answered without Failed leaves the count
abbrev pub StandsUnlessFailed : {A : Type 0} → ℕ → ℕ → Result A StoreStop → Type 0
StandsUnlessFailed before now result = MatchResult result (λ _. now ≡ before) (StandsAt before now)
