-- An addition leaves the disks of the nodes that were there, and gives the new node its own.
use Rattle.std.proofs.Common.{◌≡◌, ℕ, zero, suc, ◌<◌, ◌==◌, Bool, true, false, cond, List, [], Option, Some, None, refl, sym, ◌∙◌, ap}
use Rattle.std.specs.Prelude.{IsSome}
use Rattle.std.proofs.lemmas.Bool.{eq-eqb}
use Rattle.q2_format.specs.Contents.{file_disk, raw_disk, image_disk}
use Rattle.blk_graph.specs.Graph.{HasNode}
use Rattle.blk_nodes.specs.Contents.{told, disk_under, disk_through, disk_by, disk_down, disk_of, bytes_by, bytes_of, file_node_disk}
use Rattle.blk_nodes.specs.Nodes.{Nodes, DeviceSeen, row_at, device_in, size_by, node_size, file_of, backing_of, filtered_of}
use Rattle.blk_nodes.specs.Joined.{IsFile, HasSize, HasBelow, IsJoined}
use Rattle.blk_nodes.specs.declared.row.Driver.{Driver}
use Rattle.blk_nodes.specs.declared.row.Driver.TheVariants.{File, Raw, Qcow2, CopyOnRead, Filter}
use Rattle.blk_nodes.specs.declared.row.Row.{Row}
use Rattle.blk_nodes.proofs.Additions.{Extends, some_row, row_new, no_device, device_new, extends_file, extends_over, file_below}
use Rattle.blk_nodes.specs.Adding.{with_node_row, with_node_device, with_below, file_edge}
use Rattle.blk_graph.specs.Edits.{IsLone}
use Rattle.blk_nodes.proofs.Joints.{held_by}

module _ (old new : Nodes) (e : Extends old new) (joined : IsJoined old) where
  size_stays : (node : ℕ) (row : Row) → row_at old node ≡ Some row → node_size new node ≡ node_size old node
  size_stays node row there = ap size_by (e.rows node row there ∙ sym there)

  bytes_stay : (file : ℕ) → IsSome (device_in old.devices file) → bytes_of new file ≡ bytes_of old file
  bytes_stay file held = ap bytes_by (e.devices file held)

  file_stays : (file : ℕ) → IsFile old file → file_node_disk new file ≡ file_node_disk old file
  file_stays file is =
      ap (λ (n : ℕ). file_disk n (bytes_of new file)) (size_stays file is.row is.there)
      ∙ ap (file_disk (node_size old file)) (bytes_stay file (held_by old file joined is))

  over_stays : (f g : ℕ → List ℕ) → ((node : ℕ) (row : Row) → row_at old node ≡ Some row → f node ≡ g node) → (next : Option ℕ) (size : ℕ)
      → ((node : ℕ) → next ≡ Some node → HasSize old node size) → disk_under f next ≡ disk_under g next
  over_stays f g each None size has = refl
  over_stays f g each (Some node) size has = let h = has node refl in each node h.row h.there

  through_stays : (n : ℕ) (f g : ℕ → List ℕ) → ((node : ℕ) (row : Row) → row_at old node ≡ Some row → f node ≡ g node) → (next : Option ℕ) (size : ℕ)
      → ((node : ℕ) → next ≡ Some node → HasSize old node size) → disk_through n f next ≡ disk_through n g next
  through_stays n f g each None size has = refl
  through_stays n f g each (Some node) size has = let h = has node refl in each node h.row h.there

  by_driver : (f g : ℕ → List ℕ) → ((node : ℕ) (row : Row) → row_at old node ≡ Some row → f node ≡ g node) → (node : ℕ) (row : Row) (driver : Driver)
      → row_at old node ≡ Some row → HasBelow old node row.size driver → disk_by new f node driver ≡ disk_by old g node driver
  by_driver f g each node row File there is =
      ap (λ (n : ℕ). file_disk n (bytes_of new node)) (size_stays node row there) ∙ ap (file_disk (node_size old node)) (bytes_stay node is)
  by_driver f g each node row (Raw part) there is =
      ap (λ (file : Option ℕ). raw_disk part.offset part.size (disk_under (file_node_disk new) file)) (e.files node row there ∙ is.edge)
      ∙ ap (raw_disk part.offset part.size) (file_stays is.file is.is_file)
      ∙ ap (λ (file : Option ℕ). raw_disk part.offset part.size (disk_under (file_node_disk old) file)) (sym is.edge)
  by_driver f g each node row (Qcow2 image) there is =
      ap (λ (file : Option ℕ). image_disk (disk_under (bytes_of new) file) (disk_under f (backing_of new node))) (e.files node row there ∙ is.edge)
      ∙ ap (λ (bytes : List ℕ). image_disk bytes (disk_under f (backing_of new node))) (bytes_stay is.file (held_by old is.file joined is.is_file))
      ∙ ap (λ (over : Option ℕ). image_disk (bytes_of old is.file) (disk_under f over)) (e.backings node row there)
      ∙ ap (image_disk (bytes_of old is.file)) (over_stays f g each (backing_of old node) image.header.size is.backing)
      ∙ ap (λ (file : Option ℕ). image_disk (disk_under (bytes_of old) file) (disk_under g (backing_of old node))) (sym is.edge)
  by_driver f g each node row CopyOnRead there is =
      let same = is.same in
      ap (disk_under f) (e.files node row there ∙ is.edge) ∙ each is.child same.row same.there ∙ ap (disk_under g) (sym is.edge)
  by_driver f g each node row (Filter kind) there is =
      ap (disk_through (node_size new node) f) (e.filters node row there)
      ∙ ap (λ (n : ℕ). disk_through n f (filtered_of old node)) (size_stays node row there)
      ∙ through_stays (node_size old node) f g each (filtered_of old node) row.size is

  step_by_row : (nodes : Nodes) (node : ℕ) (row : Row) (turns : ℕ) → row_at nodes node ≡ Some row
      → disk_down (suc turns) nodes node ≡ disk_by nodes (disk_down turns nodes) node row.driver
  step_by_row nodes node row turns there =
      ap (λ (found : Option Row). elim found as (λ _. List ℕ) [ None ↦ [] | Some r ↦ disk_by nodes (disk_down turns nodes) node r.driver ]) there

  stays_in : (turns node : ℕ) (row : Row) → row_at old node ≡ Some row → disk_down turns new node ≡ disk_down turns old node
  stays_in zero node row there = refl
  stays_in (suc turns) node row there =
      step_by_row new node row turns (e.rows node row there)
      ∙ by_driver (disk_down turns new) (disk_down turns old) (stays_in turns) node row row.driver there (joined.below node row there)
      ∙ sym (step_by_row old node row turns there)

  pub disk_stays : (node : ℕ) → HasNode old.graph node → disk_of new node ≡ disk_of old node
  unfolding disk_of
  disk_stays node has = let found = some_row (row_at old node) (joined.there node has) in stays_in 64 node found.0 found.1

-- the disk of a node over a device, and of a part of one
pub disk_of_file : (nodes : Nodes) (node : ℕ) (row : Row) → row_at nodes node ≡ Some row → row.driver ≡ File → disk_of nodes node ≡ file_disk row.size (bytes_of nodes node)
unfolding disk_of
disk_of_file nodes node row there driver =
    ap (λ (found : Option Row). elim found as (λ _. List ℕ) [ None ↦ [] | Some r ↦ disk_by nodes (disk_down 63 nodes) node r.driver ]) there
    ∙ ap (disk_by nodes (disk_down 63 nodes) node) driver ∙ ap (λ (n : ℕ). file_disk n (bytes_of nodes node)) (ap size_by there)

pub disk_of_raw : (nodes : Nodes) (node file offset size : ℕ) (row : Row) → row_at nodes node ≡ Some row → row.driver ≡ Raw (record { offset = offset; size = size })
    → file_of nodes node ≡ Some file → disk_of nodes node ≡ raw_disk offset size (file_node_disk nodes file)
unfolding disk_of
disk_of_raw nodes node file offset size row there driver edge =
    ap (λ (found : Option Row). elim found as (λ _. List ℕ) [ None ↦ [] | Some r ↦ disk_by nodes (disk_down 63 nodes) node r.driver ]) there
    ∙ ap (disk_by nodes (disk_down 63 nodes) node) driver ∙ ap (λ (f : Option ℕ). raw_disk offset size (disk_under (file_node_disk nodes) f)) edge

-- a `file` node that was added
module _ (nodes : Nodes) (id size : ℕ) (name : List ℕ) (is_read_only : Bool) (device : DeviceSeen) (joined : IsJoined nodes) (absent : HasNode nodes.graph id → ⊥)
    (small : id < 64) (node : device.node ≡ id) where
  abbrev with_file : Nodes
  with_file = with_node_device (with_node_row nodes id name (record { driver = File; size = size; is_read_only = is_read_only })) device

  pub file_disks : (other : ℕ) → HasNode nodes.graph other → disk_of with_file other ≡ disk_of nodes other
  file_disks = disk_stays nodes with_file (extends_file nodes id size name is_read_only device joined absent small node) joined

  pub file_disk_new : disk_of with_file id ≡ file_disk size (told device.content)
  file_disk_new =
      disk_of_file with_file id (record { driver = File; size = size; is_read_only = is_read_only })
      (row_new nodes with_file id name (record { driver = File; size = size; is_read_only = is_read_only }) joined absent small refl refl refl) refl
      ∙ ap (file_disk size) (ap bytes_by (device_new nodes.devices device id (no_device nodes id joined absent)) ∙ here (device.node == id) (ap (λ (n : ℕ). n == id) node ∙ eq-eqb id id refl))
    where
      here : (b : Bool) → b ≡ true → bytes_by (cond b (Some device) None) ≡ told device.content
      here true is = refl
      here false is = absurd (cc is)

-- a `raw` node that was added
module _ (nodes : Nodes) (id file offset size : ℕ) (name : List ℕ) (is_read_only : Bool) (joined : IsJoined nodes) (absent : HasNode nodes.graph id → ⊥)
    (small : id < 64) (lone : IsLone nodes.graph.edges id) (is_file : IsFile nodes file) where
  abbrev raw_row : Row
  raw_row = record { driver = Raw (record { offset = offset; size = size }); size = size; is_read_only = is_read_only }

  abbrev with_raw : Nodes
  with_raw = with_below (with_node_row nodes id name raw_row) (file_edge id file)

  extends_raw : Extends nodes with_raw
  extends_raw = extends_over nodes id file name raw_row joined absent small lone is_file

  pub raw_disks : (other : ℕ) → HasNode nodes.graph other → disk_of with_raw other ≡ disk_of nodes other
  raw_disks = disk_stays nodes with_raw extends_raw joined

  pub raw_disk_new : disk_of with_raw id ≡ raw_disk offset size (disk_of nodes file)
  raw_disk_new =
      disk_of_raw with_raw id file offset size raw_row (row_new nodes with_raw id name raw_row joined absent small refl refl refl) refl
      (file_below nodes id file name raw_row joined absent small lone is_file)
      ∙ ap (raw_disk offset size) (file_stays nodes with_raw extends_raw joined file is_file
      ∙ ap (λ (n : ℕ). file_disk n (bytes_of nodes file)) (ap size_by is_file.there) ∙ sym (disk_of_file nodes file is_file.row is_file.there is_file.driver))
