-- What contracts see of a store in memory.
use Rattle.std.specs.Prelude.{ℕ, Bool, true, if◌then◌else◌, List, [], ◌∷◌, length, map, replicate, bytes_eq, Option, Some, None, IsTrue}
use Rattle.std.specs.List.{position, list_any}
use Rattle.blk_base.specs.Files.{is_out}
use Rattle.blk_base.specs.declared.file.File.{File}
use Rattle.blk_base.specs.declared.file.Opened.{Opened}
use Rattle.blk_fakes.specs.Calls.{CallState, NeverFails, no_calls}
use Rattle.blk_fakes.specs.Disk.{DeviceState, device_bytes, fresh}

-- a file: its name, and its device as it is while it is not out, and as it was opened while it is
pub record FileState : Type 0 where
  pub name : List ℕ
  pub device : DeviceState

pub record StoreState : Type 0 where
  pub files : List FileState
  pub opened : List Opened
  pub room : ℕ
  pub calls : CallState

-- the file that a device of that name comes to
abbrev pub told_as : List ℕ → DeviceState → File
told_as name device = record {
  name = name;
  bytes = device_bytes device.disk;
  capacity = device.disk.capacity;
  is_flushed = device.disk.is_flushed;
}

abbrev pub told_file : FileState → File
told_file file = told_as file.name file.device

abbrev pub told_files : StoreState → List File
told_files store = map told_file store.files

-- the place of the file of that name
abbrev pub shelf_place : List ℕ → List FileState → Option ℕ
shelf_place name files = position (λ f. bytes_eq name f.name) files

-- there is a file of that name
abbrev pub is_held : List ℕ → List FileState → Bool
is_held name files = list_any (λ f. bytes_eq name f.name) files

-- the record of an opening of this device under that name
abbrev pub opened_as : List ℕ → DeviceState → Opened
opened_as name device = record {
  name = name;
  size = length (device_bytes device.disk);
  capacity = device.disk.capacity;
  faults = device.calls.faults;
  returned = None;
  failed_call = None;
}

-- each name that is out is that of a file
abbrev pub OutAreHeld : List Opened → List FileState → Type 0
OutAreHeld opened files =
    (name : List ℕ) → IsTrue (is_out name opened) → IsTrue (is_held name files)

-- the device of that name
abbrev pub device_at : List ℕ → List FileState → Option DeviceState
device_at name [] = None
device_at name (f ∷ files) = if bytes_eq name f.name then Some f.device else device_at name files

-- a file of so many zeros, flushed
abbrev pub zeros_as : List ℕ → ℕ → ℕ → File
zeros_as name len room = record {
  name = name;
  bytes = replicate len 0;
  capacity = room;
  is_flushed = true;
}

-- a device that holds so many zeros in the place of what it held: its calls go on
abbrev pub remade : DeviceState → ℕ → ℕ → DeviceState
remade device len room = record {
  disk = fresh (replicate len 0) room device.disk.log_writes device.disk.log_bytes;
  calls = device.calls;
}

-- a device of so many zeros as a store makes it: none of its calls fails, and its log has room for 1,024 writes of 4,194,304 bytes
abbrev pub zeroed : ℕ → ℕ → DeviceState
zeroed len room = record { disk = fresh (replicate len 0) room 1024 4194304; calls = no_calls [] }

-- the files once the one of that name holds so many zeros
abbrev pub with_made : List ℕ → ℕ → ℕ → List FileState → List FileState
with_made name len room [] = record { name = name; device = zeroed len room } ∷ []
with_made name len room (f ∷ files) =
    if bytes_eq name f.name then record f { device = remade f.device len room } ∷ files
    else f ∷ with_made name len room files

-- the files with this device under that name
abbrev pub with_device : List ℕ → DeviceState → List FileState → List FileState
with_device name device [] = []
with_device name device (f ∷ files) =
    if bytes_eq name f.name then record f { device = device } ∷ files
    else f ∷ with_device name device files

-- no device of these files fails
abbrev pub NoneFails : List FileState → Type 0
NoneFails [] = Unit {0}
NoneFails (f ∷ files) = NeverFails f.device.calls × NoneFails files
