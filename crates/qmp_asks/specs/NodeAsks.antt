-- What the commands on nodes, files and devices ask: of the values of members, of the members that are names, and of the
-- table and the files.
use Rattle.std.specs.Prelude.{ℕ, Bool, true, false, not, ◌||◌, List, [], ◌∷◌, ◌++◌, codes, Option, Some, None, is_none, bytes_eq}
use Rattle.qmp_codec.specs.declared.fields.Amount.{Amount}
use Rattle.qmp_codec.specs.declared.nodes.NodeOptions.{NodeOptions}
use Rattle.qmp_codec.specs.declared.nodes.InlineFile.{InlineFile}
use Rattle.qmp_codec.specs.declared.nodes.FileRef.{FileRef}
use Rattle.qmp_codec.specs.declared.nodes.FileRef.TheVariants as file_ref
use Rattle.qmp_codec.specs.declared.nodes.BackingRef.{BackingRef}
use Rattle.qmp_codec.specs.declared.nodes.BackingRef.TheVariants as backing
use Rattle.qmp_codec.specs.declared.nodes.AddRaw.{AddRaw}
use Rattle.qmp_codec.specs.declared.nodes.AddQcow2.{AddQcow2}
use Rattle.qmp_codec.specs.declared.nodes.Added.{Added}
use Rattle.qmp_codec.specs.declared.nodes.Added.TheVariants as added
use Rattle.qmp_codec.specs.declared.nodes.BlockdevAdd.{BlockdevAdd}
use Rattle.qmp_codec.specs.declared.nodes.CreateFile.{CreateFile}
use Rattle.qmp_codec.specs.declared.nodes.CreateQcow2.{CreateQcow2}
use Rattle.qmp_codec.specs.declared.nodes.Created.{Created}
use Rattle.qmp_codec.specs.declared.nodes.Created.TheVariants as created
use Rattle.qmp_codec.specs.declared.nodes.BlockdevCreate.{BlockdevCreate}
use Rattle.qmp_codec.specs.declared.nodes.Snapshot.{Snapshot}
use Rattle.qmp_codec.specs.declared.nodes.DeviceAdd.{DeviceAdd}
use Rattle.qmp_asks.specs.declared.ask.Ask.TheVariants.{Good, Begins, Ends, Files, Named, FileNamed, Found, DeviceFound, FreshNode, Apart, FreshDevice, FreshJob, RoomForNodes, RoomForDevice, Drives, Closed, Fits, Known, KnownUnder, Settled, Beside, Unheld, Writable, WritableUnder, WritableWith, SameSize, NoBacking, Empty, Lone}
use Rattle.qmp_asks.specs.declared.ask.Drivers.TheVariants as drivers
use Rattle.qmp_asks.specs.declared.look.Look.TheVariants as look
use Rattle.qmp_asks.specs.Asking.{Asking}
use Rattle.qmp_asks.specs.Naming.{inline_name}
use Rattle.qmp_asks.specs.Values.{absent_or, is_offset, is_size, is_image_size, is_just, is_file_driver, is_discard, is_image_format, is_version, is_device_driver, is_sharing, flag_or_false}

-- whether a node is added read-only
abbrev pub is_read_only : NodeOptions → Bool
is_read_only options = flag_or_false options.read_only

-- ---- blockdev-create

abbrev pub create_file_values : CreateFile (List ℕ) → List Asking
create_file_values c = Good (codes "size") (is_size c.size) ∷ []

abbrev pub create_qcow2_values : CreateQcow2 (List ℕ) → List Asking
create_qcow2_values c =
    Good (codes "size") (is_image_size c.size)
    ∷ Good (codes "backing-fmt") (absent_or is_image_format c.backing_fmt)
    ∷ Good (codes "cluster-size") (is_just 65536 c.cluster_size)
    ∷ Good (codes "refcount-bits") (is_just 16 c.refcount_bits)
    ∷ Good (codes "version") (absent_or is_version c.version)
    ∷ []

abbrev pub create_file_rest : List ℕ → CreateFile (List ℕ) → List Asking
create_file_rest job c = FreshJob job ∷ Closed c.filename ∷ Files look.File ∷ []

abbrev pub create_qcow2_rest : List ℕ → CreateQcow2 (List ℕ) → List Asking
create_qcow2_rest job c =
    Found (Some c.file)
    ∷ FreshJob job
    ∷ Drives (Some c.file) drivers.File
    ∷ Lone c.file
    ∷ Files look.Format
    ∷ []

abbrev pub create_values : Created (List ℕ) → List Asking
create_values (created.File c) = create_file_values c
create_values (created.Qcow2 c) = create_qcow2_values c
create_values created.Unknown = Good (codes "driver") false ∷ []

abbrev pub create_names : Created (List ℕ) → List Asking
create_names (created.File c) = FileNamed (codes "filename") (Some c.filename) ∷ []
create_names (created.Qcow2 c) =
    Named (codes "file") (Some c.file) ∷ FileNamed (codes "backing-file") c.backing_file ∷ []
create_names created.Unknown = []

abbrev pub create_rest : List ℕ → Created (List ℕ) → List Asking
create_rest job (created.File c) = create_file_rest job c
create_rest job (created.Qcow2 c) = create_qcow2_rest job c
create_rest job created.Unknown = []

abbrev pub create_asks : BlockdevCreate (List ℕ) → List Asking
create_asks c =
    create_values c.options
    ++ Named (codes "job-id") (Some c.job_id) ∷ create_names c.options
    ++ create_rest c.job_id c.options

-- ---- blockdev-add

abbrev pub option_values : NodeOptions → List Asking
option_values options = Good (codes "discard") (absent_or is_discard options.discard) ∷ []

abbrev pub file_values : FileRef (List ℕ) → List Asking
file_values (file_ref.Name name) = []
file_values (file_ref.Inline file) =
    Good (codes "driver") (is_file_driver file.driver) ∷ option_values file.options

abbrev pub file_names : FileRef (List ℕ) → List Asking
file_names (file_ref.Name name) = Named (codes "file") (Some name) ∷ []
file_names (file_ref.Inline file) =
    FileNamed (codes "filename") (Some file.filename) ∷ Named (codes "node-name") file.node_name
    ∷ []

-- what is asked of a part, of a file node that is there or of the file that is opened
abbrev pub begins_in : FileRef (List ℕ) → Option Amount → Asking
begins_in (file_ref.Name name) offset = Begins name offset
begins_in (file_ref.Inline file) offset = Files look.Begin

abbrev pub ends_in : FileRef (List ℕ) → Option Amount → Option Amount → Asking
ends_in (file_ref.Name name) offset size = Ends name offset size
ends_in (file_ref.Inline file) offset size = Files look.End

abbrev pub part_values : AddRaw (List ℕ) → List Asking
part_values raw =
    Good (codes "offset") (is_offset raw.offset)
    ∷ begins_in raw.file raw.offset
    ∷ Good (codes "size") (absent_or is_size raw.size)
    ∷ ends_in raw.file raw.offset raw.size
    ∷ []

abbrev pub added_values : Added (List ℕ) → List Asking
added_values (added.File name) = []
added_values (added.Raw raw) = file_values raw.file ++ part_values raw
added_values (added.Qcow2 image) = file_values image.file
added_values (added.CopyOnRead file) = []
added_values added.Unknown = []

abbrev pub is_added : Added (List ℕ) → Bool
is_added added.Unknown = false
is_added _ = true

-- the backing node's name
abbrev pub backing_name : Option (BackingRef (List ℕ)) → Option (List ℕ)
backing_name (Some (backing.Name name)) = Some name
backing_name _ = None

abbrev pub added_names : Added (List ℕ) → List Asking
added_names (added.File name) = FileNamed (codes "filename") (Some name) ∷ []
added_names (added.Raw raw) = file_names raw.file
added_names (added.Qcow2 image) =
    file_names image.file ++ Named (codes "backing") (backing_name image.backing) ∷ []
added_names (added.CopyOnRead file) = Named (codes "file") (Some file) ∷ []
added_names added.Unknown = []

-- a `file` node may stand for the file
abbrev pub openable : List ℕ → Bool → List Asking
openable filename is_raw = Closed filename ∷ Files look.File ∷ Known filename is_raw ∷ []

-- a file node that is made with the node over it is read-only only where that node is
abbrev pub writable_with : List ℕ → Bool → InlineFile (List ℕ) → Asking
writable_with name read_only file =
    WritableWith name file.node_name (not (is_read_only file.options) || read_only)

abbrev pub file_rest : List ℕ → List Asking
file_rest filename = openable filename false

abbrev pub raw_rest : List ℕ → Bool → AddRaw (List ℕ) → FileRef (List ℕ) → List Asking
raw_rest name read_only raw (file_ref.Name file) =
    Found (Some file)
    ∷ FreshNode (Some name)
    ∷ RoomForNodes 1
    ∷ Drives (Some file) drivers.File
    ∷ Fits file raw.offset raw.size
    ∷ KnownUnder file true
    ∷ WritableUnder file read_only
    ∷ Lone file
    ∷ []
raw_rest name read_only raw (file_ref.Inline file) =
    FreshNode (Some name)
    ∷ FreshNode file.node_name
    ∷ Apart name file.node_name
    ∷ RoomForNodes 2
    ∷ Closed file.filename
    ∷ Files look.File
    ∷ Known file.filename true
    ∷ writable_with name read_only file
    ∷ []

abbrev pub qcow2_rest : List ℕ → Bool → Option (List ℕ) → FileRef (List ℕ) → List Asking
qcow2_rest name read_only back (file_ref.Name file) =
    Found (Some file)
    ∷ Found back
    ∷ FreshNode (Some name)
    ∷ RoomForNodes 1
    ∷ Drives (Some file) drivers.File
    ∷ Drives back drivers.FileRawOrQcow2
    ∷ KnownUnder file false
    ∷ Files look.Image
    ∷ Files look.Backing
    ∷ Settled back
    ∷ Beside back file
    ∷ WritableUnder file read_only
    ∷ Files look.Size
    ∷ Lone file
    ∷ []
qcow2_rest name read_only back (file_ref.Inline file) =
    Found back
    ∷ FreshNode (Some name)
    ∷ FreshNode file.node_name
    ∷ Apart name file.node_name
    ∷ RoomForNodes 2
    ∷ Drives back drivers.FileRawOrQcow2
    ∷ Closed file.filename
    ∷ Files look.File
    ∷ Known file.filename false
    ∷ Files look.Image
    ∷ Files look.Backing
    ∷ Settled back
    ∷ writable_with name read_only file
    ∷ Files look.Size
    ∷ []

abbrev pub copy_on_read_rest : List ℕ → List ℕ → List Asking
copy_on_read_rest name file =
    Found (Some file)
    ∷ FreshNode (Some name)
    ∷ RoomForNodes 1
    ∷ Drives (Some file) drivers.RawOrQcow2
    ∷ Writable file
    ∷ []

abbrev pub added_rest : List ℕ → Bool → Added (List ℕ) → List Asking
added_rest name read_only (added.File filename) =
    FreshNode (Some name) ∷ RoomForNodes 1 ∷ file_rest filename
added_rest name read_only (added.Raw raw) = raw_rest name read_only raw raw.file
added_rest name read_only (added.Qcow2 image) =
    qcow2_rest name read_only (backing_name image.backing) image.file
added_rest name read_only (added.CopyOnRead file) = copy_on_read_rest name file
added_rest name read_only added.Unknown = []

abbrev pub add_values : BlockdevAdd (List ℕ) → List Asking
add_values c =
    Good (codes "driver") (is_added c.driver) ∷ option_values c.options ++ added_values c.driver

abbrev pub add_names : BlockdevAdd (List ℕ) → List Asking
add_names c = Named (codes "node-name") (Some c.node_name) ∷ added_names c.driver

abbrev pub add_asks : BlockdevAdd (List ℕ) → List Asking
add_asks c = add_values c ++ add_names c ++ added_rest c.node_name (is_read_only c.options) c.driver

-- ---- blockdev-del

abbrev pub del_asks : List ℕ → List Asking
del_asks name =
    Named (codes "node-name") (Some name) ∷ Found (Some name) ∷ Unheld name ∷ Lone name ∷ []

-- ---- devices

abbrev pub device_add_asks : DeviceAdd (List ℕ) → List Asking
device_add_asks c =
    Good (codes "driver") (is_device_driver c.driver)
    ∷ Good (codes "share-rw") (absent_or is_sharing c.share_rw)
    ∷ Named (codes "id") (Some c.id)
    ∷ Named (codes "drive") (Some c.drive)
    ∷ Found (Some c.drive)
    ∷ FreshDevice c.id
    ∷ RoomForDevice
    ∷ Settled (Some c.drive)
    ∷ []

abbrev pub device_del_asks : List ℕ → List Asking
device_del_asks id = Named (codes "id") (Some id) ∷ DeviceFound id ∷ []

-- ---- blockdev-snapshot

abbrev pub snapshot_values : Snapshot (List ℕ) → List Asking
snapshot_values c = Good (codes "overlay") (not (bytes_eq c.overlay c.node)) ∷ []

abbrev pub snapshot_names : Snapshot (List ℕ) → List Asking
snapshot_names c =
    Named (codes "node") (Some c.node) ∷ Named (codes "overlay") (Some c.overlay) ∷ []

abbrev pub snapshot_rest : Snapshot (List ℕ) → List Asking
snapshot_rest c =
    Found (Some c.node)
    ∷ Found (Some c.overlay)
    ∷ Drives (Some c.node) drivers.FileRawOrQcow2
    ∷ Drives (Some c.overlay) drivers.Qcow2
    ∷ Settled (Some c.node)
    ∷ Settled (Some c.overlay)
    ∷ Unheld c.node
    ∷ Writable c.overlay
    ∷ SameSize c.node c.overlay
    ∷ NoBacking c.overlay
    ∷ Empty c.overlay
    ∷ Lone c.overlay
    ∷ []
