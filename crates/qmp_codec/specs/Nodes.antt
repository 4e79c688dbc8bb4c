-- The commands on nodes and devices.
use Rattle.std.specs.Prelude.{ℕ, List, codes, Option, Some, None, option_map, true, false, String, string_bytes}
use Rattle.std.specs.declared.alloc.Global.{Global}
use Rattle.serde_json.specs.Data.{Data, null, boolean, string, object}
use Rattle.serde_json.specs.Find.{get}
use Rattle.qmp_codec.specs.declared.words.Sharing.{Sharing}
use Rattle.qmp_codec.specs.declared.words.Sharing.TheVariants as sharing
use Rattle.qmp_codec.specs.Words.{discard_of, image_format_of, version_of_word, device_driver_of, sharing_of}
use Rattle.qmp_codec.specs.Forms.{text_in}
use Rattle.qmp_codec.specs.Fields.{text_if, flag_if, amount_if, amount_in}
use Rattle.qmp_codec.specs.declared.verb.Driver.{Driver}
use Rattle.qmp_codec.specs.declared.verb.Driver.TheVariants as driver
use Rattle.qmp_codec.specs.Verbs.{driver_of}
use Rattle.qmp_codec.specs.declared.nodes.Cache.{Cache}
use Rattle.qmp_codec.specs.declared.nodes.NodeOptions.{NodeOptions}
use Rattle.qmp_codec.specs.declared.nodes.InlineFile.{InlineFile}
use Rattle.qmp_codec.specs.declared.nodes.AddRaw.{AddRaw}
use Rattle.qmp_codec.specs.declared.nodes.AddQcow2.{AddQcow2}
use Rattle.qmp_codec.specs.declared.nodes.BlockdevAdd.{BlockdevAdd}
use Rattle.qmp_codec.specs.declared.nodes.CreateFile.{CreateFile}
use Rattle.qmp_codec.specs.declared.nodes.CreateQcow2.{CreateQcow2}
use Rattle.qmp_codec.specs.declared.nodes.BlockdevCreate.{BlockdevCreate}
use Rattle.qmp_codec.specs.declared.nodes.Snapshot.{Snapshot}
use Rattle.qmp_codec.specs.declared.nodes.DeviceAdd.{DeviceAdd}
use Rattle.qmp_codec.specs.declared.nodes.FileRef.{FileRef}
use Rattle.qmp_codec.specs.declared.nodes.BackingRef.{BackingRef}
use Rattle.qmp_codec.specs.declared.nodes.Added.{Added}
use Rattle.qmp_codec.specs.declared.nodes.Created.{Created}
use Rattle.qmp_codec.specs.declared.nodes.FileRef.TheVariants as file_ref
use Rattle.qmp_codec.specs.declared.nodes.BackingRef.TheVariants as backing
use Rattle.qmp_codec.specs.declared.nodes.Added.TheVariants as added
use Rattle.qmp_codec.specs.declared.nodes.Created.TheVariants as created

abbrev pub cache_in : Data → Cache
cache_in d = record {
  direct = flag_if (codes "direct") d;
  no_flush = flag_if (codes "no-flush") d;
}

-- absent and empty are told apart
abbrev pub cache_if : Data → Option Cache
cache_if d = option_map cache_in (get (codes "cache") d)

abbrev pub node_options_in : Data → NodeOptions
node_options_in d = record {
  read_only = flag_if (codes "read-only") d;
  auto_read_only = flag_if (codes "auto-read-only") d;
  discard = option_map discard_of (text_if (codes "discard") d);
  cache = cache_if d;
}

abbrev pub inline_file_in : Data → InlineFile (List ℕ)
inline_file_in d = record {
  driver = driver_of (text_in (codes "driver") d);
  filename = text_in (codes "filename") d;
  node_name = text_if (codes "node-name") d;
  options = node_options_in d;
}

abbrev pub seen_inline_file : InlineFile (String Global) → InlineFile (List ℕ)
seen_inline_file c = record {
  driver = c.driver;
  filename = string_bytes c.filename;
  node_name = option_map string_bytes c.node_name;
  options = c.options;
}

-- a `file` by name, or with its members
abbrev pub file_ref_of : Option Data → List ℕ → FileRef (List ℕ)
file_ref_of (Some (object ms)) name = file_ref.Inline (inline_file_in (object ms))
file_ref_of _ name = file_ref.Name name

abbrev pub file_ref_in : Data → FileRef (List ℕ)
file_ref_in d = file_ref_of (get (codes "file") d) (text_in (codes "file") d)

abbrev pub seen_file_ref : FileRef (String Global) → FileRef (List ℕ)
seen_file_ref (file_ref.Name name) = file_ref.Name (string_bytes name)
seen_file_ref (file_ref.Inline file) = file_ref.Inline (seen_inline_file file)

-- a backing node by name, or none
abbrev pub backing_if : Option Data → Option (BackingRef (List ℕ))
backing_if (Some null) = Some backing.Null
backing_if (Some (string name)) = Some (backing.Name name)
backing_if _ = None

abbrev pub seen_backing : BackingRef (String Global) → BackingRef (List ℕ)
seen_backing backing.Null = backing.Null
seen_backing (backing.Name name) = backing.Name (string_bytes name)

abbrev pub add_raw_in : Data → AddRaw (List ℕ)
add_raw_in d = record {
  file = file_ref_in d;
  offset = amount_if (codes "offset") d;
  size = amount_if (codes "size") d;
}

abbrev pub seen_add_raw : AddRaw (String Global) → AddRaw (List ℕ)
seen_add_raw c = record {
  file = seen_file_ref c.file;
  offset = c.offset;
  size = c.size;
}

abbrev pub add_qcow2_in : Data → AddQcow2 (List ℕ)
add_qcow2_in d = record {
  file = file_ref_in d;
  backing = backing_if (get (codes "backing") d);
}

abbrev pub seen_add_qcow2 : AddQcow2 (String Global) → AddQcow2 (List ℕ)
seen_add_qcow2 c = record {
  file = seen_file_ref c.file;
  backing = option_map seen_backing c.backing;
}

abbrev pub added_by : Driver → Data → Added (List ℕ)
added_by driver.File d = added.File (text_in (codes "filename") d)
added_by driver.Raw d = added.Raw (add_raw_in d)
added_by driver.Qcow2 d = added.Qcow2 (add_qcow2_in d)
added_by driver.CopyOnRead d = added.CopyOnRead (text_in (codes "file") d)
added_by driver.Unknown d = added.Unknown

abbrev pub added_in : Data → Added (List ℕ)
added_in d = added_by (driver_of (text_in (codes "driver") d)) d

abbrev pub seen_added : Added (String Global) → Added (List ℕ)
seen_added (added.File name) = added.File (string_bytes name)
seen_added (added.Raw c) = added.Raw (seen_add_raw c)
seen_added (added.Qcow2 c) = added.Qcow2 (seen_add_qcow2 c)
seen_added (added.CopyOnRead name) = added.CopyOnRead (string_bytes name)
seen_added added.Unknown = added.Unknown

abbrev pub blockdev_add_in : Data → BlockdevAdd (List ℕ)
blockdev_add_in d = record {
  node_name = text_in (codes "node-name") d;
  options = node_options_in d;
  driver = added_in d;
}

abbrev pub seen_blockdev_add : BlockdevAdd (String Global) → BlockdevAdd (List ℕ)
seen_blockdev_add c = record {
  node_name = string_bytes c.node_name;
  options = c.options;
  driver = seen_added c.driver;
}

abbrev pub create_file_in : Data → CreateFile (List ℕ)
create_file_in d = record {
  filename = text_in (codes "filename") d;
  size = amount_in (codes "size") d;
}

abbrev pub seen_create_file : CreateFile (String Global) → CreateFile (List ℕ)
seen_create_file c = record {
  filename = string_bytes c.filename;
  size = c.size;
}

abbrev pub create_qcow2_in : Data → CreateQcow2 (List ℕ)
create_qcow2_in d = record {
  file = text_in (codes "file") d;
  size = amount_in (codes "size") d;
  backing_file = text_if (codes "backing-file") d;
  backing_fmt = option_map image_format_of (text_if (codes "backing-fmt") d);
  cluster_size = amount_if (codes "cluster-size") d;
  refcount_bits = amount_if (codes "refcount-bits") d;
  version = option_map version_of_word (text_if (codes "version") d);
}

abbrev pub seen_create_qcow2 : CreateQcow2 (String Global) → CreateQcow2 (List ℕ)
seen_create_qcow2 c = record {
  file = string_bytes c.file;
  size = c.size;
  backing_file = option_map string_bytes c.backing_file;
  backing_fmt = c.backing_fmt;
  cluster_size = c.cluster_size;
  refcount_bits = c.refcount_bits;
  version = c.version;
}

abbrev pub created_by : Driver → Data → Created (List ℕ)
created_by driver.File d = created.File (create_file_in d)
created_by driver.Qcow2 d = created.Qcow2 (create_qcow2_in d)
created_by _ d = created.Unknown

-- `options` is an object of its own
abbrev pub created_of : Data → Created (List ℕ)
created_of d = created_by (driver_of (text_in (codes "driver") d)) d

abbrev pub created_or : Option Data → Created (List ℕ)
created_or None = created.Unknown
created_or (Some d) = created_of d

abbrev pub created_in : Data → Created (List ℕ)
created_in d = created_or (get (codes "options") d)

abbrev pub seen_created : Created (String Global) → Created (List ℕ)
seen_created (created.File c) = created.File (seen_create_file c)
seen_created (created.Qcow2 c) = created.Qcow2 (seen_create_qcow2 c)
seen_created created.Unknown = created.Unknown

abbrev pub blockdev_create_in : Data → BlockdevCreate (List ℕ)
blockdev_create_in d = record {
  job_id = text_in (codes "job-id") d;
  options = created_in d;
}

abbrev pub seen_blockdev_create : BlockdevCreate (String Global) → BlockdevCreate (List ℕ)
seen_blockdev_create c = record {
  job_id = string_bytes c.job_id;
  options = seen_created c.options;
}

abbrev pub snapshot_in : Data → Snapshot (List ℕ)
snapshot_in d = record {
  node = text_in (codes "node") d;
  overlay = text_in (codes "overlay") d;
}

abbrev pub seen_snapshot : Snapshot (String Global) → Snapshot (List ℕ)
seen_snapshot c = record {
  node = string_bytes c.node;
  overlay = string_bytes c.overlay;
}

-- a flag, or the word for it
abbrev pub sharing_if : Option Data → Option Sharing
sharing_if (Some (boolean true)) = Some sharing.On
sharing_if (Some (boolean false)) = Some sharing.Off
sharing_if (Some (string word)) = Some (sharing_of word)
sharing_if _ = None

abbrev pub device_add_in : Data → DeviceAdd (List ℕ)
device_add_in d = record {
  driver = device_driver_of (text_in (codes "driver") d);
  id = text_in (codes "id") d;
  drive = text_in (codes "drive") d;
  share_rw = sharing_if (get (codes "share-rw") d);
  bus = text_if (codes "bus") d;
  addr = text_if (codes "addr") d;
  serial = text_if (codes "serial") d;
  write_cache = text_if (codes "write-cache") d;
  bootindex = amount_if (codes "bootindex") d;
}

abbrev pub seen_device_add : DeviceAdd (String Global) → DeviceAdd (List ℕ)
seen_device_add c = record {
  driver = c.driver;
  id = string_bytes c.id;
  drive = string_bytes c.drive;
  share_rw = c.share_rw;
  bus = option_map string_bytes c.bus;
  addr = option_map string_bytes c.addr;
  serial = option_map string_bytes c.serial;
  write_cache = option_map string_bytes c.write_cache;
  bootindex = c.bootindex;
}
