-- When the disks of nodes stay.
use Rattle.std.proofs.Common.{◌≡◌, ℕ, zero, suc, Bool, true, false, cond, List, [], ◌∷◌, Option, Some, None, refl, ◌∙◌, ap, ◌==◌}
use Rattle.q2_format.specs.Contents.{raw_disk, image_disk}
use Rattle.blk_graph.specs.Edits.{child_of}
use Rattle.blk_graph.specs.declared.edge.Edge.{Edge}
use Rattle.blk_graph.specs.declared.edge.Parent.TheVariants.{Node}
use Rattle.blk_graph.specs.declared.edge.Role.{Role}
use Rattle.blk_graph.specs.declared.edge.Role.TheVariants.{File as FileRole, Backing, Filtered}
use Rattle.blk_nodes.specs.Contents.{told, disk_under, disk_through, disk_by, disk_down, disk_of, bytes_by, bytes_of, file_node_disk}
use Rattle.blk_nodes.specs.Nodes.{Nodes, DeviceSeen, row_at, device_in, size_by, node_size, file_of, backing_of, filtered_of}
use Rattle.blk_nodes.specs.Reading.{HaveRisen}
use Rattle.blk_nodes.specs.declared.row.Driver.{Driver}
use Rattle.blk_nodes.specs.declared.row.Driver.TheVariants.{File, Raw, Qcow2, CopyOnRead, Filter}
use Rattle.blk_nodes.specs.declared.row.Row.{Row}

-- where sizes, children and bytes are the same
module _ (a b : Nodes) (sizes : (node : ℕ) → node_size b node ≡ node_size a node) (bytes : (node : ℕ) → bytes_of b node ≡ bytes_of a node)
    (files : (node : ℕ) → file_of b node ≡ file_of a node) (backings : (node : ℕ) → backing_of b node ≡ backing_of a node)
    (filters : (node : ℕ) → filtered_of b node ≡ filtered_of a node) where
  file_same : (file : ℕ) → file_node_disk b file ≡ file_node_disk a file
  file_same file = rw (sizes file, bytes file) refl

  below_same : (f g : ℕ → List ℕ) → ((node : ℕ) → f node ≡ g node) → (node : Option ℕ) → disk_under f node ≡ disk_under g node
  below_same f g each None = refl
  below_same f g each (Some node) = each node

  through_same : (n : ℕ) (f g : ℕ → List ℕ) → ((node : ℕ) → f node ≡ g node) → (node : Option ℕ) → disk_through n f node ≡ disk_through n g node
  through_same n f g each None = refl
  through_same n f g each (Some node) = each node

  pub by_driver : (f g : ℕ → List ℕ) → ((node : ℕ) → f node ≡ g node) → (node : ℕ) (driver : Driver) → disk_by b f node driver ≡ disk_by a g node driver
  by_driver f g each node File = file_same node
  by_driver f g each node (Raw part) =
      ap (λ (file : Option ℕ). raw_disk part.offset part.size (disk_under (file_node_disk b) file)) (files node)
      ∙ ap (raw_disk part.offset part.size) (below_same (file_node_disk b) (file_node_disk a) file_same (file_of a node))
  by_driver f g each node (Qcow2 image) =
      ap (λ (file : Option ℕ). image_disk (disk_under (bytes_of b) file) (disk_under f (backing_of b node))) (files node)
      ∙ ap (λ (over : Option ℕ). image_disk (disk_under (bytes_of b) (file_of a node)) (disk_under f over)) (backings node)
      ∙ ap (λ (file : List ℕ). image_disk file (disk_under f (backing_of a node))) (below_same (bytes_of b) (bytes_of a) bytes (file_of a node))
      ∙ ap (image_disk (disk_under (bytes_of a) (file_of a node))) (below_same f g each (backing_of a node))
  by_driver f g each node CopyOnRead = ap (disk_under f) (files node) ∙ below_same f g each (file_of a node)
  by_driver f g each node (Filter kind) =
      ap (disk_through (node_size b node) f) (filters node)
      ∙ ap (λ (n : ℕ). disk_through n f (filtered_of a node)) (sizes node)
      ∙ through_same (node_size a node) f g each (filtered_of a node)

-- where rows are the same too
module _ (a b : Nodes) (rows : (node : ℕ) → row_at b node ≡ row_at a node) (bytes : (node : ℕ) → bytes_of b node ≡ bytes_of a node)
    (files : (node : ℕ) → file_of b node ≡ file_of a node) (backings : (node : ℕ) → backing_of b node ≡ backing_of a node)
    (filters : (node : ℕ) → filtered_of b node ≡ filtered_of a node) where
  by_row : (f g : ℕ → List ℕ) → ((node : ℕ) → f node ≡ g node) → (node : ℕ) (found : Option Row)
      → elim found as (λ _. List ℕ) [ None ↦ [] | Some row ↦ disk_by b f node row.driver ] ≡ elim found as (λ _. List ℕ) [ None ↦ [] | Some row ↦ disk_by a g node row.driver ]
  by_row f g each node None = refl
  by_row f g each node (Some row) = by_driver a b (λ n. ap size_by (rows n)) bytes files backings filters f g each node row.driver

  disk_same_in : (turns node : ℕ) → disk_down turns b node ≡ disk_down turns a node
  disk_same_in zero node = refl
  disk_same_in (suc turns) node =
      ap (λ (found : Option Row). elim found as (λ _. List ℕ) [ None ↦ [] | Some row ↦ disk_by b (disk_down turns b) node row.driver ]) (rows node)
      ∙ by_row (disk_down turns b) (disk_down turns a) (disk_same_in turns) node (row_at a node)

  pub disk_same : (node : ℕ) → disk_of b node ≡ disk_of a node
  unfolding disk_of
  disk_same node = disk_same_in 64 node

-- after counts have risen
bytes_or : (here : Bool) (x y : DeviceSeen) (old new : Option DeviceSeen) → y.content ≡ x.content → bytes_by new ≡ bytes_by old
    → bytes_by (cond here (Some y) new) ≡ bytes_by (cond here (Some x) old)
bytes_or true x y old new same rest = ap told same
bytes_or false x y old new same rest = rest

pub bytes_risen : (old new : List DeviceSeen) → HaveRisen old new → (node : ℕ) → bytes_by (device_in new node) ≡ bytes_by (device_in old node)
bytes_risen [] [] risen node = refl
bytes_risen (x ∷ old) (y ∷ new) risen node =
    let same : y.node ≡ x.node = ap (λ (d : DeviceSeen). d.node) (risen.0.same) in
    let content : y.content ≡ x.content = ap (λ (d : DeviceSeen). d.content) (risen.0.same) in
    ap (λ (n : ℕ). bytes_by (cond (n == node) (Some y) (device_in new node))) same
    ∙ bytes_or (x.node == node) x y (device_in old node) (device_in new node) content (bytes_risen old new risen.1 node)
bytes_risen [] (y ∷ new) risen node = absurd risen
bytes_risen (x ∷ old) [] risen node = absurd risen

pub disks_risen : (nodes : Nodes) (new : List DeviceSeen) → HaveRisen nodes.devices new → (node : ℕ) → disk_of (record nodes { devices = new }) node ≡ disk_of nodes node
disks_risen nodes new risen = disk_same nodes (record nodes { devices = new }) (λ node. refl) (bytes_risen nodes.devices new risen) (λ node. refl) (λ node. refl) (λ node. refl)

-- after edges of guests
pub disks_edges : (nodes : Nodes) (edges : List Edge) → ((parent : ℕ) (role : Role) → child_of (Node parent) role edges ≡ child_of (Node parent) role nodes.graph.edges)
    → (node : ℕ) → disk_of (record nodes { graph = record nodes.graph { edges = edges } }) node ≡ disk_of nodes node
disks_edges nodes edges same = disk_same nodes (record nodes { graph = record nodes.graph { edges = edges } }) (λ node. refl) (λ node. refl) (λ node. same node FileRole) (λ node. same node Backing)
    (λ node. same node Filtered)
