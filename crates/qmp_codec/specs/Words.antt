-- The words that members take.
use Rattle.std.specs.Prelude.{ℕ, List, codes, if◌then◌else◌}
use Rattle.std.specs.Str.{bytes_eq}
use Rattle.qmp_codec.specs.declared.words.OnError.{OnError}
use Rattle.qmp_codec.specs.declared.words.OnError.TheVariants as on_error
use Rattle.qmp_codec.specs.declared.words.Sync.{Sync}
use Rattle.qmp_codec.specs.declared.words.Sync.TheVariants as sync
use Rattle.qmp_codec.specs.declared.words.CopyMode.{CopyMode}
use Rattle.qmp_codec.specs.declared.words.CopyMode.TheVariants as copy_mode
use Rattle.qmp_codec.specs.declared.words.BitmapMode.{BitmapMode}
use Rattle.qmp_codec.specs.declared.words.BitmapMode.TheVariants as bitmap_mode
use Rattle.qmp_codec.specs.declared.words.Discard.{Discard}
use Rattle.qmp_codec.specs.declared.words.Discard.TheVariants as discard
use Rattle.qmp_codec.specs.declared.words.CompletionMode.{CompletionMode}
use Rattle.qmp_codec.specs.declared.words.CompletionMode.TheVariants as completion_mode
use Rattle.qmp_codec.specs.declared.words.ImageFormat.{ImageFormat}
use Rattle.qmp_codec.specs.declared.words.ImageFormat.TheVariants as image_format
use Rattle.qmp_codec.specs.declared.words.Version.{Version}
use Rattle.qmp_codec.specs.declared.words.Version.TheVariants as version
use Rattle.qmp_codec.specs.declared.words.DeviceDriver.{DeviceDriver}
use Rattle.qmp_codec.specs.declared.words.DeviceDriver.TheVariants as device_driver
use Rattle.qmp_codec.specs.declared.words.Sharing.{Sharing}
use Rattle.qmp_codec.specs.declared.words.Sharing.TheVariants as sharing

unfoldable pub on_error_of : List ℕ → OnError
on_error_of word =
    if bytes_eq word (codes "report") then on_error.Report
    else on_error.Unknown

unfoldable pub sync_of : List ℕ → Sync
sync_of word =
    if bytes_eq word (codes "full") then sync.Full
    else if bytes_eq word (codes "incremental") then sync.Incremental
    else if bytes_eq word (codes "bitmap") then sync.Bitmap
    else sync.Unknown

unfoldable pub copy_mode_of : List ℕ → CopyMode
copy_mode_of word =
    if bytes_eq word (codes "background") then copy_mode.Background
    else copy_mode.Unknown

unfoldable pub bitmap_mode_of : List ℕ → BitmapMode
bitmap_mode_of word =
    if bytes_eq word (codes "on-success") then bitmap_mode.OnSuccess
    else if bytes_eq word (codes "never") then bitmap_mode.Never
    else bitmap_mode.Unknown

unfoldable pub discard_of : List ℕ → Discard
discard_of word =
    if bytes_eq word (codes "ignore") then discard.Ignore
    else if bytes_eq word (codes "unmap") then discard.Unmap
    else discard.Unknown

unfoldable pub completion_mode_of : List ℕ → CompletionMode
completion_mode_of word =
    if bytes_eq word (codes "individual") then completion_mode.Individual
    else if bytes_eq word (codes "grouped") then completion_mode.Grouped
    else completion_mode.Unknown

unfoldable pub image_format_of : List ℕ → ImageFormat
image_format_of word =
    if bytes_eq word (codes "raw") then image_format.Raw
    else if bytes_eq word (codes "qcow2") then image_format.Qcow2
    else image_format.Unknown

unfoldable pub version_of_word : List ℕ → Version
version_of_word word =
    if bytes_eq word (codes "v3") then version.V3
    else version.Unknown

unfoldable pub device_driver_of : List ℕ → DeviceDriver
device_driver_of word =
    if bytes_eq word (codes "virtio-blk") then device_driver.VirtioBlk
    else if bytes_eq word (codes "virtio-blk-pci") then device_driver.VirtioBlkPci
    else if bytes_eq word (codes "scsi-hd") then device_driver.ScsiHd
    else if bytes_eq word (codes "ide-hd") then device_driver.IdeHd
    else device_driver.Unknown

unfoldable pub sharing_of : List ℕ → Sharing
sharing_of word =
    if bytes_eq word (codes "on") then sharing.On
    else if bytes_eq word (codes "off") then sharing.Off
    else sharing.Unknown
