-- Nodes as they are made over a device: that nothing refuses them, and what is so of them then.
use Rattle.std.proofs.Common.{◌≡◌, ◌≢◌, ◌⊎◌, ℕ, zero, suc, ◌<◌, ◌≤◌, ◌==◌, ◌&&◌, Bool, true, false, List, [], ◌∷◌, ◌++◌, length, map, get_or, ◌+◌, Option, Some, None, refl, sym, ◌∙◌, ap, subst, inl, inr, arith}
use Rattle.std.specs.Prelude.{Contains, IsSome, slice_get, slice_set, option_map}
use Rattle.std.proofs.lemmas.Bool.{ne_eqb}
use Rattle.std.proofs.lemmas.List.{ext_get_or}
use Rattle.q2_format.proofs.ByPlace.{length-bytes_at, get_or-bytes_at}
use Rattle.blk_graph.specs.Edges.{ArePermsWithin}
use Rattle.blk_graph.specs.Edits.{child_of, with_edge, is_edge}
use Rattle.blk_graph.specs.Graph.{Graph, HasName, ids}
use Rattle.blk_graph.specs.Ids.{IsLowestFree}
use Rattle.blk_graph.specs.Permissions.{drive_edge, node_edge}
use Rattle.blk_graph.specs.Refreshed.{ruled, uses_into, turned, refreshed}
use Rattle.blk_graph.specs.Rule.{KeepsPermissions, first_conflict}
use Rattle.blk_graph.specs.declared.edge.Conflict.{Conflict as Pair}
use Rattle.blk_graph.specs.declared.edge.Edge.{Edge}
use Rattle.blk_graph.specs.declared.edge.Parent.{Parent}
use Rattle.blk_graph.specs.declared.edge.Parent.TheVariants.{Node, Guest}
use Rattle.blk_graph.specs.declared.edge.Role.{Role}
use Rattle.blk_graph.specs.declared.edge.Role.TheVariants.{File, Backing}
use Rattle.blk_graph.specs.declared.kind.Kind.{Kind}
use Rattle.blk_graph.specs.declared.kind.Kind.TheVariants as kinds
use Rattle.blk_graph.specs.declared.kind.NodeKind.{NodeKind}
use Rattle.blk_graph.proofs.ChildLemmas.{child-kept, with_edge-end}
use Rattle.blk_graph.proofs.EditLemmas.{IsSameEdge}
use Rattle.blk_graph.proofs.Members.{Contains-here, Contains-nil, Contains-cases}
use Rattle.blk_graph.proofs.RefreshLemmas.{refreshed-by, ruled-same, child_of-refreshed}
use Rattle.blk_graph.proofs.RuleLemmas.{None-from_KeepsPermissions}
use Rattle.q2_format.specs.Contents.{image_disk, raw_disk, file_disk}
use Rattle.q2_format.specs.Header.{header_of}
use Rattle.q2_format.specs.Sound.{IsSound}
use Rattle.q2_format.specs.declared.header.Header.{Header}
use Rattle.q2_image.specs.Image.{Known, IsImageOf}
use Rattle.q2_image.proofs.Guests.{length-image_disk}
use Rattle.blk_nodes.specs.declared.row.RawImage.{RawImage}
use Rattle.blk_nodes.specs.Adding.{with_node_row, with_node_device, with_below, file_edge, guest_edge, raw_row, kind_with, IsDenied, IsOverStop}
use Rattle.blk_nodes.specs.Contents.{disk_of, disk_by, Unfolds, told, disk_under, bytes_of, bytes_by, file_node_disk}
use Rattle.blk_nodes.specs.Joined.{IsJoined, IsFile, IsOverlay, IsSized, HasBelow}
use Rattle.blk_nodes.specs.Nodes.{Nodes, DeviceSeen, row_at, size_by, node_size, kind_in, driver_kind, file_of, backing_of, device_in}
use Rattle.blk_nodes.specs.Overlays.{Asked, IsOpened, with_qcow2, qcow2_row, edges_for}
use Rattle.blk_nodes.specs.declared.row.Driver.{Driver}
use Rattle.blk_nodes.specs.declared.row.Driver.TheVariants as drivers
use Rattle.blk_nodes.specs.declared.row.Row.{Row}
use Rattle.blk_nodes.specs.declared.stop.AddStop.{AddStop}
use Rattle.blk_nodes.specs.declared.stop.AddStop.TheVariants as adding
use Rattle.qblk_core.specs.Face.{state_with, new_io_guest, machine_on}
use Rattle.qblk_core.specs.Format.{disk_by_format, IsGoodImage, IsSoundAs}
use Rattle.qblk_core.specs.ImageNodes.{file_name, image_name, only_device, file_node_alone, with_raw, asked_image, IsImageNodeOver, AreMadeOf, IsOnFile, HaveOneImage, HaveShapeOf, content_of, told_disk}
use Rattle.qblk_core.specs.Run.{machine_of}
use Rattle.qblk_words.specs.declared.words.Format.{Format}
use Rattle.qblk_words.specs.declared.words.Format.TheVariants.{Raw, Qcow2}
use Rattle.qblk_core.proofs.OneDevice.{found-at, content-is}

-- ---- the numbers of both nodes

pub first-id : (id : ℕ) → IsLowestFree [] id → id ≡ 0
first-id zero is = refl
first-id (suc n) is = absurd (Contains-nil 0 (is.lowest 0 (omega arith)))

pub second-id : (id : ℕ) → IsLowestFree (0 ∷ []) id → id ≡ 1
second-id zero is = absurd (is.free (Contains-here 0 []))
second-id (suc zero) is = refl
second-id (suc (suc n)) is = elim (Contains-cases 0 [] 1 (is.lowest 1 (omega arith))) [
  | inl same ↦ let bad : ⊥ = cc same in absurd bad
  | inr none ↦ absurd (Contains-nil 1 none)
]

-- ---- their edges

-- one edge, or two that lead to different nodes, keep the permission rule
keeps-one : (e : Edge) → KeepsPermissions (e ∷ [])
keeps-one e zero zero asking other a b apart same = absurd (apart refl)
keeps-one e zero (suc j) asking other a b apart same = let bad : ⊥ = cc b in absurd bad
keeps-one e (suc i) j asking other a b apart same = let bad : ⊥ = cc a in absurd bad

keeps-two : (e f : Edge) → e.child ≢ f.child → KeepsPermissions (e ∷ f ∷ [])
keeps-two e f differ zero zero asking other a b apart same = absurd (apart refl)
keeps-two e f differ zero (suc zero) asking other a b apart same =
    let x : e ≡ asking = cc a in
    let y : f ≡ other = cc b in
    absurd (differ (ap (λ (g : Edge). g.child) x ∙ same ∙ sym (ap (λ (g : Edge). g.child) y)))
keeps-two e f differ (suc zero) zero asking other a b apart same =
    let x : f ≡ asking = cc a in
    let y : e ≡ other = cc b in
    absurd (differ (ap (λ (g : Edge). g.child) y ∙ sym same ∙ sym (ap (λ (g : Edge). g.child) x)))
keeps-two e f differ (suc zero) (suc zero) asking other a b apart same = absurd (apart refl)
keeps-two e f differ zero (suc (suc j)) asking other a b apart same = let bad : ⊥ = cc b in absurd bad
keeps-two e f differ (suc zero) (suc (suc j)) asking other a b apart same = let bad : ⊥ = cc b in absurd bad
keeps-two e f differ (suc (suc i)) j asking other a b apart same = let bad : ⊥ = cc a in absurd bad

same-edge : (e : Edge) → IsSameEdge e e
same-edge e = record { parent = refl; role = refl; child = refl }

same-then : (a b c : Edge) → IsSameEdge a b → IsSameEdge b c → IsSameEdge a c
same-then a b c x y = record { parent = x.parent ∙ y.parent; role = x.role ∙ y.role; child = x.child ∙ y.child }

-- what deriving leaves of one edge and of two
pub one-edge : (kinds : List NodeKind) (e : Edge) → (f : Edge) × (refreshed kinds (e ∷ []) ≡ f ∷ []) × IsSameEdge f e
one-edge kinds e =
    refreshed-by kinds (λ es. (f : Edge) × (es ≡ f ∷ []) × IsSameEdge f e)
    (λ es h. (
      ruled kinds (uses_into es) h.0,
      ap (map (ruled kinds (uses_into es))) h.1,
      same-then _ _ _ (ruled-same kinds (uses_into es) h.0) h.2,
    )) (e ∷ []) (e, refl, same-edge e)

two-edges : (kinds : List NodeKind) (a b : Edge) → (f g : Edge) × (refreshed kinds (a ∷ b ∷ []) ≡ f ∷ g ∷ []) × IsSameEdge f a × IsSameEdge g b
two-edges kinds a b =
    refreshed-by kinds (λ es. (f g : Edge) × (es ≡ f ∷ g ∷ []) × IsSameEdge f a × IsSameEdge g b)
    (λ es h. (
      ruled kinds (uses_into es) h.0,
      ruled kinds (uses_into es) h.1,
      ap (map (ruled kinds (uses_into es))) h.2,
      same-then _ _ _ (ruled-same kinds (uses_into es) h.0) h.3,
      same-then _ _ _ (ruled-same kinds (uses_into es) h.1) h.4,
    )) (a ∷ b ∷ []) (a, b, refl, same-edge a, same-edge b)

-- nothing conflicts with the only edge
pub no-conflict : (nodes : List ℕ) (kinds : List NodeKind) (e : Edge) → first_conflict nodes (refreshed kinds (e ∷ [])) ≡ None
no-conflict nodes kinds e =
    let r = one-edge kinds e in
    None-from_KeepsPermissions nodes (refreshed kinds (e ∷ [])) (subst KeepsPermissions (sym r.1) (keeps-one r.0))

-- the edges of the image's node
pub record HasFileEdge (over : Nodes) : Type 0 where
  pub kinds : List NodeKind
  pub is : over.graph.edges ≡ refreshed kinds (file_edge 1 0 ∷ [])

module _ (over : Nodes) (has : HasFileEdge over) where
  file-edge : (f : Edge) × (over.graph.edges ≡ f ∷ []) × IsSameEdge f (file_edge 1 0)
  file-edge = let r = one-edge has.kinds (file_edge 1 0) in (r.0, has.is ∙ r.1, r.2)

  -- the guest's drive conflicts with nothing
  pub drive-keeps : (writes share_rw : Bool) (kinds : List NodeKind) → KeepsPermissions (refreshed kinds (with_edge (drive_edge 0 1 writes share_rw) over.graph.edges))
  drive-keeps writes share_rw kinds =
      let drive : Edge = drive_edge 0 1 writes share_rw in
      let f = file-edge in
      let apart : (e : Edge) → Contains (f.0 ∷ []) e → e.parent ≢ Guest 0 = λ e there same. elim (Contains-cases f.0 [] e there) [
        | inl is ↦ let bad : Node 1 ≡ Guest 0 = sym f.2.parent ∙ ap (λ (g : Edge). g.parent) (sym is) ∙ same in absurd (let no : ⊥ = cc bad in no)
        | inr none ↦ absurd (Contains-nil e none)
      ] in
      let edges : with_edge drive over.graph.edges ≡ f.0 ∷ drive ∷ [] = ap (with_edge drive) f.1 ∙ with_edge-end drive (f.0 ∷ []) apart in
      let r = two-edges kinds f.0 drive in
      let zeroth : r.0.child ≡ 0 = r.3.child ∙ f.2.child in
      let first : r.1.child ≡ 1 = r.4.child in
      let differ : r.0.child ≢ r.1.child = λ same. let bad : 0 ≡ 1 = sym zeroth ∙ same ∙ first in absurd (let no : ⊥ = cc bad in no) in
      subst KeepsPermissions (sym (ap (refreshed kinds) edges ∙ r.2)) (keeps-two r.0 r.1 differ)

  children : (writes share_rw : Bool) (kinds : List NodeKind) (n : ℕ) (role : Role)
      → child_of (Node n) role (refreshed kinds (with_edge (drive_edge 0 1 writes share_rw) over.graph.edges)) ≡ child_of (Node n) role (file_edge 1 0 ∷ [])
  children writes share_rw kinds n role =
      let drive : Edge = drive_edge 0 1 writes share_rw in
      let apart : Guest 0 ≢ Node n = λ same. absurd (let no : ⊥ = cc same in no) in
      child_of-refreshed kinds (Node n) role (with_edge drive over.graph.edges)
      ∙ child-kept (Node n) role drive over.graph.edges apart
      ∙ ap (child_of (Node n) role) has.is
      ∙ child_of-refreshed has.kinds (Node n) role (file_edge 1 0 ∷ [])

other-child : (n : ℕ) → n ≢ 1 → child_of (Node n) File (file_edge 1 0 ∷ []) ≡ None
other-child n apart =
    let differ : (1 == n) ≡ false = ne_eqb 1 n (λ same. apart (sym same)) in
    rw differ refl

-- ---- nodes of one image

pub record IsOneOver (over : Nodes) (d : DeviceSeen) (row : Row) : Type 0 where
  pub devices : over.devices ≡ d ∷ []
  pub there : row_at over 1 ≡ Some row
  pub writable : row.is_read_only ≡ false
  pub on_file : IsOnFile row.driver (node_size over 0) d.size
  pub edges : HasFileEdge over

pub one-with-drive : (over : Nodes) (d : DeviceSeen) (row : Row) → d.node ≡ 0 → d.number ≡ only_device → IsOneOver over d row
    → HaveOneImage (with_below over (guest_edge over 0 1 false))
one-with-drive over d row node number is = record {
  device = d;
  only = is.devices;
  node = node;
  number = number;
  row = row;
  there = is.there;
  writable = is.writable;
  on_file = is.on_file;
  file = children over is.edges _ false over.graph.kinds 1 File;
  bare = children over is.edges _ false over.graph.kinds 1 Backing;
  others = λ other apart. children over is.edges _ false over.graph.kinds other File ∙ other-child other apart;
}

raw-over : (d : DeviceSeen) → IsOneOver (with_raw (file_node_alone d)) d (raw_row (record { start = 0; len = d.size }) false)
raw-over d = record {
  devices = refl;
  there = refl;
  writable = refl;
  on_file = (refl, refl, refl);
  edges = record { kinds = _; is = refl };
}

qcow2-over : (d : DeviceSeen) (image : Known) → image.header.name ≡ None → IsOneOver (with_qcow2 (file_node_alone d) asked_image 1 image) d (qcow2_row image false)
qcow2-over d image none = record {
  devices = refl;
  there = refl;
  writable = refl;
  on_file = none;
  edges = record { kinds = _; is = refl };
}

-- the image's node is as its format says
abbrev pub format_kind : Format → Kind
format_kind Raw = kinds.Raw
format_kind Qcow2 = kinds.Qcow2

pub record IsOverAs (format : Format) (over : Nodes) (d : DeviceSeen) : Type 0 where
  pub row : Row
  pub one : IsOneOver over d row
  pub kind : kind_in row ≡ format_kind format

pub over-as : (format : Format) (d : DeviceSeen) (over : Nodes) → IsImageNodeOver format (file_node_alone d) over → IsOverAs format over d
over-as Raw d over is = subst (λ (o : Nodes). IsOverAs Raw o d) (sym is.1) (record { row = _; one = raw-over d; kind = refl })
over-as Qcow2 d over is = subst (λ (o : Nodes). IsOverAs Qcow2 o d) (sym is.3) (record { row = _; one = qcow2-over d is.0 is.2; kind = refl })

pub made-one : (format : Format) (d : DeviceSeen) (nodes : Nodes) → AreMadeOf format d nodes → HaveOneImage nodes
made-one format d nodes made =
    let over = over-as format d made.over made.image in
    subst HaveOneImage (sym made.drive) (one-with-drive made.over d over.row made.node made.number over.one)

pub made-kind : (format : Format) (d : DeviceSeen) (nodes : Nodes) → AreMadeOf format d nodes → option_map kind_in (row_at nodes 1) ≡ Some (format_kind format)
made-kind format d nodes made =
    let over = over-as format d made.over made.image in
    ap (λ (n : Nodes). option_map kind_in (row_at n 1)) made.drive ∙ ap (option_map kind_in) over.one.there ∙ ap Some over.kind

pub made-devices : (format : Format) (d : DeviceSeen) (nodes : Nodes) → AreMadeOf format d nodes → nodes.devices ≡ d ∷ []
made-devices format d nodes made =
    let over = over-as format d made.over made.image in
    ap (λ (n : Nodes). n.devices) made.drive ∙ over.one.devices

-- ---- nothing refuses them

names-differ : file_name ≡ image_name → ⊥
names-differ same = let bad : ⊥ = cc same in bad

has-no-name : (d : DeviceSeen) → HasName (file_node_alone d).graph image_name → ⊥
has-no-name d has = elim (Contains-cases file_name [] image_name has) [
  | inl same ↦ names-differ (sym same)
  | inr none ↦ Contains-nil image_name none
]

not-denied : (d : DeviceSeen) (kind : NodeKind) (edges : ℕ → List Edge → List Edge) (pair : Pair) → ((id : ℕ) → edges id [] ≡ file_edge id 0 ∷ [])
    → IsDenied (file_node_alone d) kind edges pair → ⊥
not-denied d kind edges pair one denied =
    let none = no-conflict (0 ∷ denied.id ∷ []) (slice_set (file_node_alone d).graph.kinds denied.id kind) (file_edge denied.id 0) in
    let found : None ≡ Some pair = sym none ∙ ap (λ (es : List Edge). first_conflict (0 ∷ denied.id ∷ []) (refreshed (slice_set (file_node_alone d).graph.kinds denied.id kind) es)) (sym (one denied.id)) ∙ denied.first in
    let bad : ⊥ = cc found in bad

pub not-stopped : (d : DeviceSeen) (kind : NodeKind) (edges : ℕ → List Edge → List Edge) (stop : AddStop) → ((id : ℕ) → edges id [] ≡ file_edge id 0 ∷ []) → IsOverStop stop
    → (stop ≡ adding.NameTaken → HasName (file_node_alone d).graph image_name) → (stop ≡ adding.TooManyNodes → length (file_node_alone d).graph.nodes ≡ 64)
    → ((pair : Pair) → stop ≡ adding.Conflict pair → IsDenied (file_node_alone d) kind edges pair) → ⊥
not-stopped d kind edges adding.NameTaken one is name many denied = has-no-name d (name refl)
not-stopped d kind edges adding.TooManyNodes one is name many denied = let full : 1 ≡ 64 = many refl in let bad : ⊥ = cc full in bad
not-stopped d kind edges (adding.Conflict pair) one is name many denied = not-denied d kind edges pair one (denied pair refl)
not-stopped d kind edges (adding.Image stop) one is name many denied = is
not-stopped d kind edges adding.BackingNeeded one is name many denied = is
not-stopped d kind edges adding.SizeDiffers one is name many denied = is
not-stopped d kind edges adding.NoMemory one is name many denied = is

-- ---- the disk of the image's node

whole-bytes : (bytes : List ℕ) (n : ℕ) → n ≡ length bytes → raw_disk 0 n bytes ≡ bytes
whole-bytes bytes n is =
    let len : length (raw_disk 0 n bytes) ≡ n = length-bytes_at bytes 0 n in
    ext_get_or 0 (raw_disk 0 n bytes) bytes (len ∙ is)
    (λ k below.
    let here : 0 + k ≡ k = omega arith in
    let within : k < n = omega (arith, len, below) in
    get_or-bytes_at bytes 0 n k within ∙ ap (λ (j : ℕ). get_or bytes j 0) here)

module _ (nodes : Nodes) (joined : IsJoined nodes) (disks : Unfolds nodes) (one : HaveOneImage nodes) (bytes : List ℕ) (told-as : one.device.content ≡ Some bytes) (sized : one.device.size ≡ length bytes) where
  device-found : device_in nodes.devices 0 ≡ Some one.device
  device-found = ap (λ (ds : List DeviceSeen). device_in ds 0) one.only ∙ found-at one.device one.node

  bytes-are : bytes_of nodes 0 ≡ bytes
  bytes-are = ap bytes_by device-found ∙ ap told told-as

  on-image : (image : Known) → one.row.driver ≡ drivers.Qcow2 image → IsImageOf bytes image
  on-image image driver =
      let below' : IsOverlay nodes 1 image = subst (HasBelow nodes 1 one.row.size) driver (joined.below 1 one.row one.there) in
      let same : below'.file ≡ 0 = (let s : Some below'.file ≡ Some 0 = sym below'.edge ∙ one.file in cc s) in
      below'.known one.device bytes (ap (device_in nodes.devices) same ∙ device-found) told-as

  by-driver : (format : Format) (d : Driver) → one.row.driver ≡ d → driver_kind d ≡ format_kind format → IsOnFile d (node_size nodes 0) one.device.size
      → (disk_of nodes 1 ≡ disk_by_format format bytes) × (node_size nodes 1 ≡ length (disk_by_format format bytes)) × IsSoundAs format bytes
  by-driver Raw (drivers.Raw p) driver kind on =
      let size : IsSized one.row.size (drivers.Raw p) = subst (IsSized one.row.size) driver (joined.sized 1 one.row one.there) in
      let from : p.offset ≡ 0 = on.0 in
      let whole : p.size ≡ length bytes = on.1 ∙ sym on.2 ∙ sized in
      let file : node_size nodes 0 ≡ length bytes = sym on.2 ∙ sized in (
        disks 1 one.row one.there ∙ ap (disk_by nodes (disk_of nodes) 1) driver
            ∙ ap (λ (f : Option ℕ). raw_disk p.offset p.size (disk_under (file_node_disk nodes) f)) one.file
            ∙ ap (λ (n : ℕ). raw_disk n p.size (file_node_disk nodes 0)) from
            ∙ ap (λ (b : List ℕ). raw_disk 0 p.size (file_disk (node_size nodes 0) b)) bytes-are
            ∙ ap (raw_disk 0 p.size) (whole-bytes bytes (node_size nodes 0) file)
            ∙ whole-bytes bytes p.size whole,
        ap size_by one.there ∙ sym size.0 ∙ whole,
        tt,
      )
  by-driver Qcow2 (drivers.Qcow2 image) driver kind on =
      let size : IsSized one.row.size (drivers.Qcow2 image) = subst (IsSized one.row.size) driver (joined.sized 1 one.row one.there) in
      let known = on-image image driver in (
        disks 1 one.row one.there ∙ ap (disk_by nodes (disk_of nodes) 1) driver
            ∙ ap (λ (f : Option ℕ). image_disk (disk_under (bytes_of nodes) f) (disk_under (disk_of nodes) (backing_of nodes 1))) one.file
            ∙ ap (λ (f : Option ℕ). image_disk (bytes_of nodes 0) (disk_under (disk_of nodes) f)) one.bare
            ∙ ap (λ (b : List ℕ). image_disk b []) bytes-are,
        ap size_by one.there ∙ sym size ∙ ap (λ (h : Header). h.size) (sym known.header) ∙ sym (length-image_disk bytes []),
        (known.sound, ap (λ (h : Header). h.name) known.header ∙ on),
      )
  by-driver Raw drivers.File driver kind on = absurd on
  by-driver Raw (drivers.Qcow2 image) driver kind on = absurd (let bad : ⊥ = cc kind in bad)
  by-driver Raw drivers.CopyOnRead driver kind on = absurd on
  by-driver Raw (drivers.Filter of) driver kind on = absurd on
  by-driver Qcow2 drivers.File driver kind on = absurd on
  by-driver Qcow2 (drivers.Raw p) driver kind on = absurd (let bad : ⊥ = cc kind in bad)
  by-driver Qcow2 drivers.CopyOnRead driver kind on = absurd on
  by-driver Qcow2 (drivers.Filter of) driver kind on = absurd on

  pub image-as : (format : Format) → option_map kind_in (row_at nodes 1) ≡ Some (format_kind format)
      → (disk_of nodes 1 ≡ disk_by_format format bytes) × (node_size nodes 1 ≡ length (disk_by_format format bytes)) × IsSoundAs format bytes
  image-as format kind =
      let k : driver_kind one.row.driver ≡ format_kind format = (let s : Some (kind_in one.row) ≡ Some (format_kind format) = sym (ap (option_map kind_in) one.there) ∙ kind in cc s) in
      by-driver format one.row.driver refl k one.on_file

  pub told-as-disk : (format : Format) → option_map kind_in (row_at nodes 1) ≡ Some (format_kind format) → told_disk nodes ≡ Some (disk_by_format format bytes)
  told-as-disk format kind =
      ap (option_map (λ (_ : List ℕ). disk_of nodes 1)) (content-is nodes one.device one.only one.node ∙ told-as) ∙ ap Some (image-as format kind).0

-- ---- the machine over a device that tells its bytes

small-image : (format : Format) (d : DeviceSeen) (over : Nodes) (bytes : List ℕ) → d.size ≡ length bytes → IsImageNodeOver format (file_node_alone d) over → IsSoundAs format bytes → IsGoodImage format bytes
small-image Raw d over bytes sized is sound = let small : d.size ≤ 274877906944 = is.0 in omega (arith, small, sized)
small-image Qcow2 d over bytes sized is sound = sound

pub made-good : (format : Format) (d : DeviceSeen) (nodes : Nodes) (bytes : List ℕ) → AreMadeOf format d nodes → Unfolds nodes → d.content ≡ Some bytes → d.size ≡ length bytes
    → IsGoodImage format bytes × (machine_on nodes ≡ machine_of format bytes)
made-good format d nodes bytes made disks told-as sized =
    let one = made-one format d nodes made in
    let kind = made-kind format d nodes made in
    let same : one.device ≡ d = (let s : one.device ∷ [] ≡ d ∷ [] = sym one.only ∙ made-devices format d nodes made in cc s) in
    let content : one.device.content ≡ Some bytes = ap (λ (x : DeviceSeen). x.content) same ∙ told-as in
    let size : one.device.size ≡ length bytes = ap (λ (x : DeviceSeen). x.size) same ∙ sized in
    let is = image-as nodes made.joined disks one bytes content size format kind in
    let disk = told-as-disk nodes made.joined disks one bytes content size format kind in
    let over = over-as format d made.over made.image in
    let file : node_size nodes 0 ≡ length bytes = ap (λ (n : Nodes). node_size n 0) made.drive ∙ file-size-of format made.over made.image ∙ sized in (
      small-image format d made.over bytes sized made.image is.2,
      ap (λ (n : ℕ). state_with n (node_size nodes 1) new_io_guest (told_disk nodes)) file
          ∙ ap (λ (n : ℕ). state_with (length bytes) n new_io_guest (told_disk nodes)) is.1
          ∙ ap (state_with (length bytes) (length (disk_by_format format bytes)) new_io_guest) disk,
    )
  where
    file-size-of : (f : Format) (over : Nodes) → IsImageNodeOver f (file_node_alone d) over → node_size over 0 ≡ d.size
    file-size-of Raw over is = ap (λ (n : Nodes). node_size n 0) is.1
    file-size-of Qcow2 over is = ap (λ (n : Nodes). node_size n 0) is.3
