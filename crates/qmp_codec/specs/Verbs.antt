-- The names of commands, of types of actions, and of drivers.
use Rattle.std.specs.Prelude.{ℕ, List, [], ◌∷◌, codes, if◌then◌else◌, Option, Some, None}
use Rattle.std.specs.Borrow.{Bor}
use Rattle.std.specs.Str.{bytes_eq}
use Rattle.qmp_codec.specs.declared.verb.Verb.{Verb}
use Rattle.qmp_codec.specs.declared.verb.Verb.TheVariants as verb
use Rattle.qmp_codec.specs.declared.verb.Deed.{Deed}
use Rattle.qmp_codec.specs.declared.verb.Deed.TheVariants as deed
use Rattle.qmp_codec.specs.declared.verb.Driver.{Driver}
use Rattle.qmp_codec.specs.declared.verb.Driver.TheVariants as driver

-- a row with its name as bytes
abbrev pub verb_row : Bor (List ℕ) × Verb → List ℕ × Verb
verb_row row = (row.0.now, row.1)

-- the command of the first row with this name
abbrev pub verb_among : List (List ℕ × Verb) → List ℕ → Option Verb
verb_among [] name = None
verb_among (row ∷ rows) name = if bytes_eq name row.0 then Some row.1 else verb_among rows name

unfoldable pub verb_of : List ℕ → Option Verb
verb_of name =
    if bytes_eq name (codes "qmp_capabilities") then Some verb.Capabilities
    else if bytes_eq name (codes "blockdev-create") then Some verb.Create
    else if bytes_eq name (codes "job-dismiss") then Some verb.JobDismiss
    else if bytes_eq name (codes "blockdev-add") then Some verb.Add
    else if bytes_eq name (codes "blockdev-del") then Some verb.Del
    else if bytes_eq name (codes "device_add") then Some verb.DeviceAdd
    else if bytes_eq name (codes "device_del") then Some verb.DeviceDel
    else if bytes_eq name (codes "blockdev-snapshot") then Some verb.Snapshot
    else if bytes_eq name (codes "transaction") then Some verb.Transaction
    else if bytes_eq name (codes "block-stream") then Some verb.Stream
    else if bytes_eq name (codes "block-commit") then Some verb.Commit
    else if bytes_eq name (codes "blockdev-mirror") then Some verb.Mirror
    else if bytes_eq name (codes "blockdev-backup") then Some verb.Backup
    else if bytes_eq name (codes "block-job-cancel") then Some verb.JobCancel
    else if bytes_eq name (codes "block-job-complete") then Some verb.JobComplete
    else if bytes_eq name (codes "query-block-jobs") then Some verb.ListJobs
    else if bytes_eq name (codes "query-named-block-nodes") then Some verb.ListNodes
    else if bytes_eq name (codes "block-dirty-bitmap-add") then Some verb.BitmapAdd
    else if bytes_eq name (codes "block-dirty-bitmap-remove") then Some verb.BitmapRemove
    else if bytes_eq name (codes "block-dirty-bitmap-clear") then Some verb.BitmapClear
    else if bytes_eq name (codes "block-dirty-bitmap-enable") then Some verb.BitmapEnable
    else if bytes_eq name (codes "block-dirty-bitmap-disable") then Some verb.BitmapDisable
    else if bytes_eq name (codes "block-dirty-bitmap-merge") then Some verb.BitmapMerge
    else None

unfoldable pub deed_of : List ℕ → Deed
deed_of name =
    if bytes_eq name (codes "abort") then deed.Abort
    else if bytes_eq name (codes "blockdev-snapshot") then deed.Snapshot
    else if bytes_eq name (codes "blockdev-backup") then deed.Backup
    else if bytes_eq name (codes "block-dirty-bitmap-add") then deed.BitmapAdd
    else if bytes_eq name (codes "block-dirty-bitmap-remove") then deed.BitmapRemove
    else if bytes_eq name (codes "block-dirty-bitmap-clear") then deed.BitmapClear
    else if bytes_eq name (codes "block-dirty-bitmap-enable") then deed.BitmapEnable
    else if bytes_eq name (codes "block-dirty-bitmap-disable") then deed.BitmapDisable
    else if bytes_eq name (codes "block-dirty-bitmap-merge") then deed.BitmapMerge
    else deed.Unknown

unfoldable pub driver_of : List ℕ → Driver
driver_of name =
    if bytes_eq name (codes "file") then driver.File
    else if bytes_eq name (codes "raw") then driver.Raw
    else if bytes_eq name (codes "qcow2") then driver.Qcow2
    else if bytes_eq name (codes "copy-on-read") then driver.CopyOnRead
    else driver.Unknown
