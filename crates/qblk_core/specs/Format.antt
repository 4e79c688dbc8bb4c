-- How an image's file reads as a disk.
use Rattle.std.specs.Prelude.{◌≡◌, ℕ, ◌≤◌, ⊤, Bool, false, List, [], length, None, is_some}
use Rattle.q2_format.specs.Header.{header_of}
use Rattle.q2_format.specs.Contents.{image_disk}
use Rattle.q2_format.specs.Sound.{IsSound}
use Rattle.q2_format.specs.declared.header.TheConstants.{MAX_DISK_SIZE, MIN_HEADER_LENGTH}
use Rattle.q2_image.specs.Image.{Known}
use Rattle.q2_image.specs.Placed.{FitsFile}
use Rattle.qblk_words.specs.declared.words.Format.{Format}
use Rattle.qblk_words.specs.declared.words.Format.TheVariants.{Raw, Qcow2}

-- the disk of a file's bytes; a qcow2 image is read without a backing disk
abbrev pub disk_by_format : Format → List ℕ → List ℕ
disk_by_format Raw bytes = bytes
disk_by_format Qcow2 bytes = image_disk bytes []

-- a file that can be opened: not too large, or a sound image that names no backing file
abbrev pub IsGoodImage : Format → List ℕ → Type 0
IsGoodImage Raw bytes = length bytes ≤ MAX_DISK_SIZE
IsGoodImage Qcow2 bytes = IsSound bytes × ((header_of bytes).name ≡ None)

-- a file of `size` bytes can hold a qcow2 image, which names a backing file or none
abbrev pub CanHoldImage : Bool → ℕ → Type 0
CanHoldImage names size = (MIN_HEADER_LENGTH ≤ size)
    × ((image : Known) × FitsFile size image × (is_some image.header.name ≡ names))

-- What the length of a file must be, that it can be opened: a raw image isn't too large, and a qcow2 image that names no backing
-- file fits it.
abbrev pub HasGoodLength : Format → ℕ → Type 0
HasGoodLength Raw size = size ≤ MAX_DISK_SIZE
HasGoodLength Qcow2 size = CanHoldImage false size

-- what is left of it after a run: a sound image stays sound, and names no backing file
abbrev pub IsSoundAs : Format → List ℕ → Type 0
IsSoundAs Raw bytes = ⊤
IsSoundAs Qcow2 bytes = IsSound bytes × ((header_of bytes).name ≡ None)
