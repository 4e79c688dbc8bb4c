-- What a store's calls do to its files.
use Rattle.std.specs.Prelude.{◌≡◌, ℕ, Bool, List, Option, Some, None}
use Rattle.blk_base.specs.Files.{file_at, put_file, other_files, IfTold}
use Rattle.blk_base.specs.declared.file.File.{File}

-- the device has the file's bytes, its capacity, and its word on whether it is flushed
abbrev pub IsDeviceOf : Option (List File) → List ℕ → Option (List ℕ) → ℕ → Option Bool → Type 0
IsDeviceOf files name bytes limit flushed =
    IfTold files
    (λ told. (f : File) × (file_at name told ≡ Some f) × (bytes ≡ Some f.bytes)
    × (limit ≡ f.capacity) × (flushed ≡ Some f.is_flushed))

-- the file of that name holds these bytes
abbrev pub HoldsBytes : List ℕ → List ℕ → List File → Type 0
HoldsBytes name bytes files = (f : File) × (file_at name files ≡ Some f) × (bytes ≡ f.bytes)

-- all files but the one of that name are as before
abbrev pub LeavesOthers : List ℕ → Option (List File) → Option (List File) → Type 0
LeavesOthers name None new = new ≡ None
LeavesOthers name (Some old) new =
    (told : List File) × (new ≡ Some told) × (other_files name told ≡ other_files name old)

-- the files once a device is back, where both told
abbrev pub files_with_returned : List ℕ → Option (List ℕ) → ℕ → Option Bool → Option (List File)
    → Option (List File)
files_with_returned name (Some bytes) limit (Some flushed) (Some files) =
    Some (put_file (record { name = name; bytes = bytes; capacity = limit; is_flushed = flushed })
    files)
files_with_returned name bytes limit flushed files = None
