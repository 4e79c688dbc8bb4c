-- The files of a store, and its record of the devices that it has opened.
use Rattle.std.specs.Prelude.{◌≡◌, ℕ, Bool, ◌&&◌, if◌then◌else◌, List, [], ◌∷◌, bytes_eq, Option, Some, None, is_none}
use Rattle.std.specs.List.{list_any}
use Rattle.blk_base.specs.declared.device.DeviceCall.{DeviceCall}
use Rattle.blk_base.specs.declared.file.File.{File}
use Rattle.blk_base.specs.declared.file.Opened.{Opened}

-- the file of that name
abbrev pub file_at : List ℕ → List File → Option File
file_at name [] = None
file_at name (f ∷ files) = if bytes_eq name f.name then Some f else file_at name files

-- the files with this one in the place of the one of its name, or at the end
abbrev pub put_file : File → List File → List File
put_file file [] = file ∷ []
put_file file (f ∷ files) =
    if bytes_eq file.name f.name then file ∷ files else f ∷ put_file file files

-- the files but the one of that name
abbrev pub other_files : List ℕ → List File → List File
other_files name [] = []
other_files name (f ∷ files) = if bytes_eq name f.name then files else f ∷ other_files name files

-- the device of that opening is out, under that name
abbrev pub is_out_as : List ℕ → Opened → Bool
is_out_as name o = bytes_eq name o.name && is_none o.returned

-- a device of that name is out
abbrev pub is_out : List ℕ → List Opened → Bool
is_out name opened = list_any (is_out_as name) opened

-- an opening once its device is back, with this count and this call as the one that failed last
abbrev pub closed_with : ℕ → Option DeviceCall → Opened → Opened
closed_with count call o = record o { returned = Some count; failed_call = call }

-- the record once the device of that name is back so
abbrev pub given_back : List ℕ → ℕ → Option DeviceCall → List Opened → List Opened
given_back name count call [] = []
given_back name count call (o ∷ opened) =
    if is_out_as name o then closed_with count call o ∷ opened
    else o ∷ given_back name count call opened

-- a fact about what is told; nothing is asked of what is not
abbrev pub IfTold : {A : Type 0} → Option A → (A → Type 0) → Type 0
IfTold None P = Unit {0}
IfTold (Some told) P = P told

-- P holds of a value that was read; where something is told, that is the value of what is told
pub record WasRead {A B : Type 0} (told : Option A) (of : A → B) (P : B → Type 0) : Type 0 where
  pub value : B
  pub is : IfTold told (λ a. value ≡ of a)
  pub holds : P value
