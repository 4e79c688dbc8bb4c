-- What a run sees of its store: the files, and the openings that are its own.
use Rattle.std.specs.Prelude.{◌≡◌, ℕ, ◌-◌, ◌≤◌, false, IsTrue, List, [], take, drop, length, Option}
use Rattle.blk_base.specs.Answers.{HasFile, IsIn, LacksFile}
use Rattle.blk_base.specs.Counts.{Rose}
use Rattle.blk_base.specs.Files.{IfTold, is_out}
use Rattle.blk_base.specs.declared.file.CallOnFile.{CallOnFile}
use Rattle.blk_base.specs.declared.file.File.{File}
use Rattle.blk_base.specs.declared.file.Opened.{Opened}
use Rattle.blk_base.specs.declared.store.StoreStop.{StoreStop}
use Rattle.blk_base.specs.declared.store.StoreStop.TheVariants.{Absent, InUse, TooLong, Failed, NoMemory}

-- its files where it tells them, the openings before the run and those of the run, the capacity of files that are made, its
-- count of faults, and which call failed last where it tells that
pub record StoreInRun : Type 0 where
  pub files : Option (List File)
  pub earlier : List Opened
  pub opened : List Opened
  pub room : ℕ
  pub faults : ℕ
  pub failed_call : Option CallOnFile

-- the last so many openings, and those before them
abbrev pub last_opened : ℕ → List Opened → List Opened
last_opened n opened = drop (length opened - n) opened

abbrev pub first_opened : ℕ → List Opened → List Opened
first_opened n opened = take (length opened - n) opened

-- there are so many, and before them each device is back
pub record AreLast (n : ℕ) (opened : List Opened) : Type 0 where
  pub many : n ≤ length opened
  pub back : (name : List ℕ) → is_out name (first_opened n opened) ≡ false

-- a store that is found before a run: none of its openings is the run's
abbrev pub found_store : Option (List File) → List Opened → ℕ → ℕ → Option CallOnFile
    → StoreInRun
found_store files opened room faults failed_call = record {
  files = files;
  earlier = opened;
  opened = [];
  room = room;
  faults = faults;
  failed_call = failed_call;
}

-- ---- why a file is opened or not

-- it isn't out, and it is there
abbrev pub CanBeOpened : List ℕ → StoreInRun → Type 0
CanBeOpened name store = IsIn name store.opened × IfTold store.files (HasFile name (λ _. Unit {0}))

-- as a store answers
abbrev pub StopsOpening : List ℕ → StoreInRun → ℕ → StoreStop → Type 0
StopsOpening name store now Absent = IsIn name store.opened × IfTold store.files (LacksFile name)
StopsOpening name store now InUse = IsTrue (is_out name store.opened)
StopsOpening name store now TooLong = ⊥
StopsOpening name store now Failed = CanBeOpened name store × Rose store.faults now
StopsOpening name store now NoMemory = Unit {0}
