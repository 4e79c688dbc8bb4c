-- Nodes of which what is known of an image has changed.
use Rattle.std.proofs.Common.{◌≡◌, ◌≢◌, ℕ, zero, suc, Bool, not, List, [], length, map, get_or, Option, Some, None, refl, sym, ◌∙◌, ap, subst, arith, inl, inr}
use Rattle.std.specs.Prelude.{IsSome}
use Rattle.std.proofs.lemmas.Bool.{cases_eq}
use Rattle.q2_format.specs.Contents.{file_disk, raw_disk, image_disk}
use Rattle.q2_format.specs.declared.header.Header.{Header}
use Rattle.q2_image.specs.Image.{Known, IsOpen}
use Rattle.q2_image.specs.Writing.{HasHeaderOf}
use Rattle.blk_graph.specs.declared.kind.Kind.{Kind}
use Rattle.blk_graph.specs.declared.kind.NodeKind.{NodeKind}
use Rattle.blk_nodes.specs.Contents.{disk_under, disk_through, disk_by, disk_down, disk_of, bytes_of, file_node_disk}
use Rattle.blk_nodes.specs.Joined.{IsFile, HasSize, HasBelow, IsJoined, IsSized}
use Rattle.blk_nodes.specs.Nodes.{Nodes, DeviceSeen, row_at, device_in, size_by, node_size, file_of, backing_of, filtered_of, driver_kind, node_kind}
use Rattle.blk_nodes.specs.Walk.{IsKnownAt}
use Rattle.blk_nodes.specs.Writing.{IsDriverAfter, IsRowAfter, AreRowsAfter}
use Rattle.blk_nodes.specs.declared.row.Driver.{Driver}
use Rattle.blk_nodes.specs.declared.row.Driver.TheVariants.{File, Raw, Qcow2, CopyOnRead, Filter}
use Rattle.blk_nodes.specs.declared.row.Row.{Row}
use Rattle.blk_nodes.proofs.Additions.{some_row}
use Rattle.blk_nodes.proofs.Joints.{once_by_nodes}

pub size_stays : (old new : Known) → HasHeaderOf old new → new.header.size ≡ old.header.size
size_stays old new same = ap (λ (h : Header). h.size) same

driver_refl : (driver : Driver) → IsDriverAfter driver driver
driver_refl File = refl
driver_refl (Raw part) = refl
driver_refl (Qcow2 image) = (image, refl, refl, (λ n taken. taken), λ cluster mapped. mapped)
driver_refl CopyOnRead = refl
driver_refl (Filter kind) = refl

pub row_refl : (found : Option Row) → AreRowsAfter found found
row_refl None = refl
row_refl (Some row) = (row, refl, record { size = refl; is_read_only = refl; driver = driver_refl row.driver })

-- the rows but one stay, and that one may have another image
pub alike_but : (a b : Nodes) (node : ℕ) → ((other : ℕ) → other ≢ node → row_at b other ≡ row_at a other) → AreRowsAfter (row_at a node) (row_at b node)
    → (n : ℕ) → AreRowsAfter (row_at a n) (row_at b n)
alike_but a b node others own n = elim (cases_eq n node) [
  | inl same ↦ rw same own
  | inr apart ↦ rw (others n apart) (row_refl (row_at a n))
]

-- what is the same of two rows
kind_by : (d e : Driver) → IsDriverAfter d e → driver_kind e ≡ driver_kind d
kind_by File e is = ap driver_kind is
kind_by (Raw part) e is = ap driver_kind is
kind_by (Qcow2 image) e is = ap driver_kind is.1
kind_by CopyOnRead e is = ap driver_kind is
kind_by (Filter kind) e is = ap driver_kind is

kind_stays : (old now : Row) → IsRowAfter old now → node_kind now ≡ node_kind old
kind_stays old now is =
    let kind_with : Kind → Bool → NodeKind = λ kind writes. record { kind = kind; writes = writes } in
    ap (λ (k : Kind). kind_with k (not now.is_read_only)) (kind_by old.driver now.driver is.driver)
    ∙ ap (λ (r : Bool). kind_with (driver_kind old.driver) (not r)) is.is_read_only

sized_by : (d e : Driver) (size : ℕ) → IsDriverAfter d e → IsSized size d → IsSized size e
sized_by File e size is has = subst (IsSized size) (sym is) has
sized_by (Raw part) e size is has = subst (IsSized size) (sym is) has
sized_by (Qcow2 image) e size is has = subst (IsSized size) (sym is.1) (size_stays image is.0 is.2 ∙ has)
sized_by CopyOnRead e size is has = subst (IsSized size) (sym is) has
sized_by (Filter kind) e size is has = subst (IsSized size) (sym is) has

-- other rows and devices
module _ (a : Nodes) (rows : List (Option Row)) (devices : List DeviceSeen)
    (alike : (n : ℕ) → AreRowsAfter (row_at a n) (get_or rows n None)) where
  abbrev b : Nodes
  b = record a { rows = rows; devices = devices }

  -- from a row to the one that it was, and back
  back : (n : ℕ) (row : Row) → row_at b n ≡ Some row → (old : Row) × (row_at a n ≡ Some old) × IsRowAfter old row
  back n row there = by (row_at a n) refl (alike n)
    where
      by : (found : Option Row) → row_at a n ≡ found → AreRowsAfter found (row_at b n) → (old : Row) × (row_at a n ≡ Some old) × IsRowAfter old row
      by None is after = let bad : Some row ≡ None = sym there ∙ after in absurd (cc bad)
      by (Some old) is after =
          let same : after.0 ≡ row = cc (sym after.1 ∙ there) in
          (old, is, subst (IsRowAfter old) same after.2)

  forth : (n : ℕ) (old : Row) → row_at a n ≡ Some old → (row : Row) × (row_at b n ≡ Some row) × IsRowAfter old row
  forth n old there =
      let P : Option Row → Type 0 = λ found. AreRowsAfter found (row_at b n) in
      subst P there (alike n)

  size_same : (n : ℕ) → node_size b n ≡ node_size a n
  size_same n = by (row_at a n) refl (alike n)
    where
      by : (found : Option Row) → row_at a n ≡ found → AreRowsAfter found (row_at b n) → node_size b n ≡ node_size a n
      by None is after = ap size_by after ∙ sym (ap size_by is)
      by (Some old) is after = ap size_by after.1 ∙ after.2.size ∙ sym (ap size_by is)

  file_after : (n : ℕ) → IsFile a n → IsFile b n
  file_after n is =
      let now = forth n is.row is.there in
      let P : Driver → Type 0 = λ d. IsDriverAfter d now.0.driver in
      record { row = now.0; there = now.1; driver = subst P is.driver now.2.driver }

  size_after : (n size : ℕ) → HasSize a n size → HasSize b n size
  size_after n size has =
      let now = forth n has.row has.there in
      record { row = now.0; there = now.1; is = now.2.size ∙ has.is }

  module _ (count : length rows ≡ 64)
      (opened : (n : ℕ) (row : Row) (image : Known) → row_at b n ≡ Some row → row.driver ≡ Qcow2 image → IsOpen image)
      (known : (n : ℕ) (row : Row) (image : Known) (file : ℕ) → row_at b n ≡ Some row → row.driver ≡ Qcow2 image → file_of a n ≡ Some file → IsKnownAt file devices image)
      (after : (n : ℕ) → IsSome (device_in a.devices n) → IsSome (device_in devices n))
      (before : (n : ℕ) → IsSome (device_in devices n) → IsSome (device_in a.devices n))
      (names : map (λ (d : DeviceSeen). d.node) devices ≡ map (λ (d : DeviceSeen). d.node) a.devices)
      (joined : IsJoined a) where
    below_by : (n : ℕ) (row : Row) (d e : Driver) → row_at b n ≡ Some row → row.driver ≡ e → IsDriverAfter d e → HasBelow a n row.size d → HasBelow b n row.size e
    below_by n row File e there driver is has = subst (HasBelow b n row.size) (sym is) (after n has)
    below_by n row (Raw part) e there driver is has =
        let size = size_same has.file in
        let within = has.within in
        subst (HasBelow b n row.size) (sym is) (record { file = has.file; edge = has.edge; is_file = file_after has.file has.is_file; within = omega arith })
    below_by n row (Qcow2 image) e there driver is has =
        let now : Known = is.0 in
        let size = size_stays image now is.2 in
        subst (HasBelow b n row.size) (sym is.1) (record {
          file = has.file;
          edge = has.edge;
          is_file = file_after has.file has.is_file;
          opened = opened n row now there (driver ∙ is.1);
          known = known n row now has.file there (driver ∙ is.1) has.edge;
          backing = λ over edge. subst (HasSize b over) (sym size) (size_after over image.header.size (has.backing over edge));
        })
    below_by n row CopyOnRead e there driver is has =
        subst (HasBelow b n row.size) (sym is) (record { child = has.child; edge = has.edge; same = size_after has.child row.size has.same })
    below_by n row (Filter kind) e there driver is has =
        subst (HasBelow b n row.size) (sym is) (λ child edge. size_after child row.size (has child edge))

    pub joined_alike : IsJoined b
    joined_alike = record {
      rows = count;
      sound = joined.sound;
      kinds = λ n row there. let old = back n row there in joined.kinds n old.0 old.1 ∙ sym (kind_stays old.0 row old.2);
      there = λ n has. let found = some_row (row_at a n) (joined.there n has) in let now = forth n found.0 found.1 in rw now.1 refl;
      only = λ n some. let found = some_row (row_at b n) some in let old = back n found.0 found.1 in joined.only n (rw old.1 refl);
      sized = λ n row there.
          let old = back n row there in
          sized_by old.0.driver row.driver row.size old.2.driver (subst (λ (s : ℕ). IsSized s old.0.driver) (sym old.2.size) (joined.sized n old.0 old.1));
      below = λ n row there.
          let old = back n row there in
          below_by n row old.0.driver row.driver there refl old.2.driver
          (subst (λ (s : ℕ). HasBelow a n s old.0.driver) (sym old.2.size) (joined.below n old.0 old.1));
      devices = λ n some. file_after n (joined.devices n (before n some));
      once = once_by_nodes a.devices devices names joined.once;
    }

-- The disks are those that were: what is known of an image isn't looked at.
module _ (a : Nodes) (rows : List (Option Row)) (alike : (n : ℕ) → AreRowsAfter (row_at a n) (get_or rows n None)) where
  abbrev mid : Nodes
  mid = record a { rows = rows }

  file_same : (n : ℕ) → file_node_disk mid n ≡ file_node_disk a n
  file_same n = ap (λ (s : ℕ). file_disk s (bytes_of a n)) (size_same a rows a.devices alike n)

  below_same : (f g : ℕ → List ℕ) → ((n : ℕ) → f n ≡ g n) → (next : Option ℕ) → disk_under f next ≡ disk_under g next
  below_same f g each None = refl
  below_same f g each (Some next) = each next

  through_same : (s : ℕ) (f g : ℕ → List ℕ) → ((n : ℕ) → f n ≡ g n) → (next : Option ℕ) → disk_through s f next ≡ disk_through s g next
  through_same s f g each None = refl
  through_same s f g each (Some next) = each next

  same_driver : (f g : ℕ → List ℕ) → ((n : ℕ) → f n ≡ g n) → (n : ℕ) (d e : Driver) → IsDriverAfter d e → disk_by mid f n e ≡ disk_by a g n d
  same_driver f g each n File e is = ap (disk_by mid f n) is ∙ file_same n
  same_driver f g each n (Raw part) e is =
      ap (disk_by mid f n) is ∙ ap (raw_disk part.offset part.size) (below_same (file_node_disk mid) (file_node_disk a) file_same (file_of a n))
  same_driver f g each n (Qcow2 image) e is =
      ap (disk_by mid f n) is.1 ∙ ap (image_disk (disk_under (bytes_of a) (file_of a n))) (below_same f g each (backing_of a n))
  same_driver f g each n CopyOnRead e is = ap (disk_by mid f n) is ∙ below_same f g each (file_of a n)
  same_driver f g each n (Filter kind) e is =
      ap (disk_by mid f n) is ∙ ap (λ (s : ℕ). disk_through s f (filtered_of a n)) (size_same a rows a.devices alike n)
      ∙ through_same (node_size a n) f g each (filtered_of a n)

  abbrev disk_found : Nodes → (ℕ → List ℕ) → ℕ → Option Row → List ℕ
  disk_found nodes f n found = elim found as (λ _. List ℕ) [ None ↦ [] | Some row ↦ disk_by nodes f n row.driver ]

  same_row : (f g : ℕ → List ℕ) → ((n : ℕ) → f n ≡ g n) → (n : ℕ) (x y : Option Row) → AreRowsAfter x y → disk_found mid f n y ≡ disk_found a g n x
  same_row f g each n None y is = ap (disk_found mid f n) is
  same_row f g each n (Some old) y is = ap (disk_found mid f n) is.1 ∙ same_driver f g each n old.driver is.0.driver is.2.driver

  same_in : (turns n : ℕ) → disk_down turns mid n ≡ disk_down turns a n
  same_in zero n = refl
  same_in (suc turns) n = same_row (disk_down turns mid) (disk_down turns a) (same_in turns) n (row_at a n) (row_at mid n) (alike n)

  pub disks_alike : (n : ℕ) → disk_of mid n ≡ disk_of a n
  unfolding disk_of
  disks_alike n = same_in 64 n
