-- Values that members may have.
use Rattle.std.specs.Prelude.{ℕ, ◌+◌, ◌-◌, ◌%◌, ◌==◌, nat_le, Bool, true, false, not, ◌&&◌, ◌||◌, List, Option, Some, None, is_some, is_none}
use Rattle.std.specs.Int.{is_power_of_two}
use Rattle.qmp_codec.specs.declared.fields.Amount.{Amount}
use Rattle.qmp_codec.specs.declared.fields.Amount.TheVariants.{Number, Negative}
use Rattle.qmp_codec.specs.declared.verb.Driver.{Driver}
use Rattle.qmp_codec.specs.declared.verb.Driver.TheVariants as driver
use Rattle.qmp_codec.specs.declared.words.OnError.{OnError}
use Rattle.qmp_codec.specs.declared.words.OnError.TheVariants as on_error
use Rattle.qmp_codec.specs.declared.words.Sync.{Sync}
use Rattle.qmp_codec.specs.declared.words.Sync.TheVariants as sync
use Rattle.qmp_codec.specs.declared.words.CopyMode.{CopyMode}
use Rattle.qmp_codec.specs.declared.words.CopyMode.TheVariants as copy_mode
use Rattle.qmp_codec.specs.declared.words.BitmapMode.{BitmapMode}
use Rattle.qmp_codec.specs.declared.words.BitmapMode.TheVariants as bitmap_mode
use Rattle.qmp_codec.specs.declared.words.Discard.{Discard}
use Rattle.qmp_codec.specs.declared.words.Discard.TheVariants as discard
use Rattle.qmp_codec.specs.declared.words.CompletionMode.{CompletionMode}
use Rattle.qmp_codec.specs.declared.words.CompletionMode.TheVariants as completion_mode
use Rattle.qmp_codec.specs.declared.words.ImageFormat.{ImageFormat}
use Rattle.qmp_codec.specs.declared.words.ImageFormat.TheVariants as image_format
use Rattle.qmp_codec.specs.declared.words.Version.{Version}
use Rattle.qmp_codec.specs.declared.words.Version.TheVariants as version
use Rattle.qmp_codec.specs.declared.words.DeviceDriver.{DeviceDriver}
use Rattle.qmp_codec.specs.declared.words.DeviceDriver.TheVariants as device_driver
use Rattle.qmp_codec.specs.declared.words.Sharing.{Sharing}
use Rattle.qmp_codec.specs.declared.words.Sharing.TheVariants as sharing

-- the most bytes of a disk: 256 GiB
abbrev pub most_size : ℕ
most_size = 274877906944

-- the most bytes of a file under a node: 512 GiB
abbrev pub most_length : ℕ
most_length = 549755813888

-- an absent member is accepted, and of those that are there the ones that pass the test
abbrev pub absent_or : {A : Type 0} → (A → Bool) → Option A → Bool
absent_or test None = true
absent_or test (Some value) = test value

-- ---- numbers

abbrev pub passes : (ℕ → Bool) → Amount → Bool
passes test (Number n) = test n
passes test Negative = false

-- the number of a member, or another where it is absent
abbrev pub amount_or : ℕ → Option Amount → ℕ
amount_or n None = n
amount_or n (Some (Number m)) = m
amount_or n (Some Negative) = n

abbrev pub is_offset : Option Amount → Bool
is_offset offset = absent_or (passes (λ n. true)) offset

abbrev pub is_size : Amount → Bool
is_size size = passes (λ n. nat_le n most_size) size

-- the size of an image: whole sectors
abbrev pub is_image_size : Amount → Bool
is_image_size size = passes (λ n. nat_le n most_size && (n % 512 == 0)) size

abbrev pub is_just : ℕ → Option Amount → Bool
is_just n amount = absent_or (passes (λ m. m == n)) amount

-- a power of two from 512 bytes to 2 MiB
abbrev pub is_granularity : Option Amount → Bool
is_granularity amount =
    absent_or (passes (λ n. nat_le 512 n && (nat_le n 2097152 && is_power_of_two n))) amount

-- ---- a part of a file of so many bytes

-- where it begins, and how long it is
abbrev pub part_offset : Option Amount → ℕ
part_offset offset = amount_or 0 offset

abbrev pub part_size : Option Amount → Option Amount → ℕ → ℕ
part_size offset size length = amount_or (length - part_offset offset) size

abbrev pub begins_within : Option Amount → ℕ → Bool
begins_within offset length = nat_le (part_offset offset) length

-- where its size is said
abbrev pub ends_within : Option Amount → Option Amount → ℕ → Bool
ends_within offset size length =
    is_none size || nat_le (part_offset offset + part_size offset size length) length

abbrev pub part_fits : Option Amount → Option Amount → ℕ → Bool
part_fits offset size length = nat_le (part_size offset size length) most_size

-- ---- words

abbrev pub is_file_driver : Driver → Bool
is_file_driver driver.File = true
is_file_driver _ = false

abbrev pub is_discard : Discard → Bool
is_discard discard.Unknown = false
is_discard _ = true

abbrev pub is_on_error : OnError → Bool
is_on_error on_error.Report = true
is_on_error on_error.Unknown = false

abbrev pub is_copy_mode : CopyMode → Bool
is_copy_mode copy_mode.Background = true
is_copy_mode copy_mode.Unknown = false

abbrev pub is_full : Sync → Bool
is_full sync.Full = true
is_full _ = false

abbrev pub is_sync : Sync → Bool
is_sync sync.Unknown = false
is_sync _ = true

abbrev pub is_completion_mode : CompletionMode → Bool
is_completion_mode completion_mode.Unknown = false
is_completion_mode _ = true

abbrev pub is_image_format : ImageFormat → Bool
is_image_format image_format.Unknown = false
is_image_format _ = true

abbrev pub is_version : Version → Bool
is_version version.V3 = true
is_version version.Unknown = false

abbrev pub is_device_driver : DeviceDriver → Bool
is_device_driver device_driver.Unknown = false
is_device_driver _ = true

abbrev pub is_sharing : Sharing → Bool
is_sharing sharing.Unknown = false
is_sharing _ = true

-- a member that may only be false, or only true
abbrev pub is_false : Option Bool → Bool
is_false flag = absent_or not flag

abbrev pub is_true : Option Bool → Bool
is_true flag = absent_or (λ on. on) flag

-- a flag that is false where it is absent
abbrev pub flag_or_false : Option Bool → Bool
flag_or_false None = false
flag_or_false (Some on) = on

abbrev pub shares : Option Sharing → Bool
shares (Some sharing.On) = true
shares _ = false

-- ---- what a backup copies

-- the bitmap is named exactly where it copies by one
abbrev pub is_bitmap_for : Sync → Option (List ℕ) → Bool
is_bitmap_for sync.Full bitmap = is_none bitmap
is_bitmap_for sync.Incremental bitmap = is_some bitmap
is_bitmap_for sync.Bitmap bitmap = is_some bitmap
is_bitmap_for sync.Unknown bitmap = true

-- a full backup has no mode, an incremental one that of success, and one by bitmap says which
abbrev pub is_mode_for : Sync → Option BitmapMode → Bool
is_mode_for sync.Full None = true
is_mode_for sync.Incremental None = true
is_mode_for sync.Incremental (Some bitmap_mode.OnSuccess) = true
is_mode_for sync.Bitmap (Some bitmap_mode.OnSuccess) = true
is_mode_for sync.Bitmap (Some bitmap_mode.Never) = true
is_mode_for sync.Unknown mode = true
is_mode_for _ _ = false
