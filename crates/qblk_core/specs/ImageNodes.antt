-- The nodes of a run on one image: the `file` node over its device, the image's node over that, and the guest's drive on this.
use Rattle.std.specs.Prelude.{◌≡◌, ◌≢◌, ℕ, ◌≤◌, false, codes, List, [], ◌∷◌, Option, Some, None, option_map, option_and_then}
use Rattle.blk_base.specs.declared.device.Device.{Ghosts}
use Rattle.blk_base.specs.declared.fault.DevNo.{DevNo}
use Rattle.blk_nodes.specs.Adding.{with_node_row, with_node_device, with_below, file_edge, guest_edge, raw_row}
use Rattle.blk_nodes.specs.Contents.{disk_of}
use Rattle.blk_nodes.specs.Handing.{device_state}
use Rattle.blk_nodes.specs.Joined.{IsJoined}
use Rattle.blk_nodes.specs.Nodes.{Nodes, DeviceSeen, no_nodes, row_at, kind_in, device_in, node_size, file_of, backing_of}
use Rattle.blk_nodes.specs.Overlays.{Asked, IsOpened, with_qcow2}
use Rattle.blk_nodes.specs.declared.backing.Backing.TheVariants.{Unsaid}
use Rattle.blk_nodes.specs.declared.row.Driver.{Driver}
use Rattle.blk_nodes.specs.declared.row.Driver.TheVariants as drivers
use Rattle.blk_nodes.specs.declared.row.Row.{Row}
use Rattle.q2_format.specs.declared.header.TheConstants.{MAX_DISK_SIZE}
use Rattle.q2_image.specs.Image.{Known}
use Rattle.qblk_words.specs.declared.words.Format.{Format}
use Rattle.qblk_words.specs.declared.words.Format.TheVariants.{Raw, Qcow2}

-- the names of both nodes, whose numbers are 0 and 1
abbrev pub file_name : List ℕ
file_name = codes "file"

abbrev pub image_name : List ℕ
image_name = codes "image"

-- the run's only device
abbrev pub only_device : DevNo
only_device = record { 0 = 0 }

-- ---- how they are made

-- the `file` node over a device
abbrev pub file_node_alone : DeviceSeen → Nodes
file_node_alone device = with_node_device
    (with_node_row no_nodes 0 file_name
    (record { driver = drivers.File; size = device.size; is_read_only = false }))
    device

-- the image's node is asked for with nothing said of a backing node
abbrev pub asked_image : Asked
asked_image = record { name = image_name; file = 0; backing = Unsaid; is_read_only = false }

-- a raw image is the whole of its file
abbrev pub with_raw : Nodes → Nodes
with_raw nodes = with_below
    (with_node_row nodes 1 image_name (raw_row
    (record { start = 0; len = node_size nodes 0 }) false))
    (file_edge 1 0)

-- The image's node over the `file` node. A raw image has at most 256 GiB; of a qcow2 image, which names no backing file, just
-- that is known which its file says.
abbrev pub IsImageNodeOver : Format → Nodes → Nodes → Type 0
IsImageNodeOver Raw old new = (node_size old 0 ≤ MAX_DISK_SIZE) × (new ≡ with_raw old)
IsImageNodeOver Qcow2 old new = (image : Known) × IsOpened old.devices 0 image
    × (image.header.name ≡ None) × (new ≡ with_qcow2 old asked_image 1 image)

pub record AreMadeOf (format : Format) (device : DeviceSeen) (nodes : Nodes) : Type 0 where
  pub node : device.node ≡ 0
  pub number : device.number ≡ only_device
  pub over : Nodes
  pub image : IsImageNodeOver format (file_node_alone device) over
  pub drive : nodes ≡ with_below over (guest_edge over 0 1 false)
  pub joined : IsJoined nodes

-- ---- what is seen of them

abbrev pub content_of : Nodes → Option (List ℕ)
content_of nodes = option_and_then (λ device. device.content) (device_in nodes.devices 0)

abbrev pub faults_by : Option DeviceSeen → ℕ
faults_by None = 0
faults_by (Some device) = device.faults

abbrev pub device_faults : Nodes → ℕ
device_faults nodes = faults_by (device_in nodes.devices 0)

abbrev pub capacity_of : Nodes → Option ℕ
capacity_of nodes = option_map (λ device. device.capacity) (device_in nodes.devices 0)

-- the disk of the image's node, where the device tells its bytes
abbrev pub told_disk : Nodes → Option (List ℕ)
told_disk nodes = option_map (λ _. disk_of nodes 1) (content_of nodes)

-- what is seen of the run's device
abbrev pub seen_device : {D : Type 0} → Ghosts D → D → DeviceSeen
seen_device g device = device_state g 0 only_device device

-- ---- what stays so of them

-- both nodes have the sizes and kinds that they had, and the device its capacity
pub record HaveShapeOf (old new : Nodes) : Type 0 where
  pub file : node_size new 0 ≡ node_size old 0
  pub image : node_size new 1 ≡ node_size old 1
  pub kind : option_map kind_in (row_at new 1) ≡ option_map kind_in (row_at old 1)
  pub capacity : capacity_of new ≡ capacity_of old

-- a node is the whole of its file, which is as long as it was and is now; or a qcow2 image that names no backing file
abbrev pub IsOnFile : Driver → ℕ → ℕ → Type 0
IsOnFile drivers.File was now = ⊥
IsOnFile (drivers.Raw part) was now = (part.offset ≡ 0) × (part.size ≡ was) × (now ≡ was)
IsOnFile (drivers.Qcow2 image) was now = image.header.name ≡ None
IsOnFile drivers.CopyOnRead was now = ⊥
IsOnFile (drivers.Filter kind) was now = ⊥

-- there is one device, under the image's node, which is over nothing else and may be written
pub record HaveOneImage (nodes : Nodes) : Type 0 where
  pub device : DeviceSeen
  pub only : nodes.devices ≡ device ∷ []
  pub node : device.node ≡ 0
  pub number : device.number ≡ only_device
  pub row : Row
  pub there : row_at nodes 1 ≡ Some row
  pub writable : row.is_read_only ≡ false
  pub on_file : IsOnFile row.driver (node_size nodes 0) device.size
  pub file : file_of nodes 1 ≡ Some 0
  pub bare : backing_of nodes 1 ≡ None
  pub others : (other : ℕ) → other ≢ 1 → file_of nodes other ≡ None
