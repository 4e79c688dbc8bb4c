-- A piece leaves mapped what was, and what a row says of an overlay's image may be told.
use Rattle.std.proofs.Common.{◌≡◌, ◌↔◌, ℕ, Bool, true, false, List, refl, sym, ap, subst, ◌∙◌, Option, Some, None}
use Rattle.std.specs.Prelude.{IsSome, is_some, option_and_then}
use Rattle.std.specs.List.{Contains}
use Rattle.blk_graph.proofs.Members.{find-Some}
use Rattle.blk_history.specs.Fold.{With}
use Rattle.q2_image.specs.Image.{IsImageOf, IsOpen}
use Rattle.qmp_rules.specs.Table.{RunTable, id_named, has_name}
use Rattle.blk_nodes.specs.Joined.{IsJoined}
use Rattle.blk_nodes.specs.Nodes.{DeviceSeen, AreTold, row_at, device_in, is_device_of}
use Rattle.blk_nodes.specs.Overlays.{IsFresh}
use Rattle.blk_nodes.specs.Writing.{IsDriverAfter, AreRowsAfter}
use Rattle.blk_nodes.specs.declared.row.Driver.{Driver}
use Rattle.blk_nodes.specs.declared.row.Driver.TheVariants.{Qcow2}
use Rattle.blk_nodes.specs.declared.row.Row.{Row}
use Rattle.flat_machine.specs.State.{State}
use Rattle.flat_machine.specs.Sights.{AgreesWith, MayMap, mapped_at}
use Rattle.flat_machine.specs.Writing.{written_file}
use Rattle.flat_machine.specs.Wiring.{TableStands}
use Rattle.flat_machine.specs.Imaging.{maps_some, is_qcow2_at, ShowsImages, KeepsMapping}
use Rattle.flat_machine.proofs.ImagesKept.{nothing_said}
use Rattle.world_parts.specs.Coherent.{AreNodesOf}
use Rattle.world_parts.specs.Face.{WorldSeen, node_over, held, held_in_file, contents_of}
use Rattle.world_parts.proofs.NodesAfter.{AreNodesAfter, alike_after}
use Rattle.world_parts.proofs.ImageRows.{HasImageFile, image_file, image_written, IsEmpty, empty_file, file_empty, still_mapped}

-- ---- what a device tells

-- a device that is held tells its bytes
pub told-device : (devices : List DeviceSeen) → AreTold devices → (file : ℕ) → IsSome (device_in devices file)
    → (d : DeviceSeen) × (bytes : List ℕ) × (device_in devices file ≡ Some d) × (d.content ≡ Some bytes)
told-device devices told file some = by_device (device_in devices file) refl some
  where
    by_content : (d : DeviceSeen) → device_in devices file ≡ Some d → (content : Option (List ℕ)) → d.content ≡ content → is_some content ≡ true
        → (e : DeviceSeen) × (bytes : List ℕ) × (device_in devices file ≡ Some e) × (e.content ≡ Some bytes)
    by_content d is None at bad = absurd (let no : ⊥ = cc bad in no)
    by_content d is (Some bytes) at has = (d, bytes, is, at)

    by_device : (found : Option DeviceSeen) → device_in devices file ≡ found → IsSome found
        → (d : DeviceSeen) × (bytes : List ℕ) × (device_in devices file ≡ Some d) × (d.content ≡ Some bytes)
    by_device None is bad = absurd (let no : ⊥ = cc bad in no)
    by_device (Some d) is here = by_content d is d.content refl (told d (find-Some (is_device_of file) devices d is).0)

-- what is held is what the device of the node over the file tells
pub held-is : (w : WorldSeen) (name : List ℕ) (file : ℕ) (d : DeviceSeen) (bytes : List ℕ) → node_over w.table name ≡ Some file
    → device_in w.nodes.devices file ≡ Some d → d.content ≡ Some bytes → held w name ≡ Some bytes
held-is w name file d bytes over is content =
    ap (held_in_file w name) over ∙ ap (option_and_then (λ (x : DeviceSeen). x.content)) is ∙ content

held-of : (w : WorldSeen) (name bytes : List ℕ) (file : ℕ) → node_over w.table name ≡ Some file → held w name ≡ Some bytes
    → (d : DeviceSeen) × (device_in w.nodes.devices file ≡ Some d) × (d.content ≡ Some bytes)
held-of w name bytes file over is = by_device (device_in w.nodes.devices file) refl (sym (ap (held_in_file w name) over) ∙ is)
  where
    by_device : (found : Option DeviceSeen) → device_in w.nodes.devices file ≡ found
        → option_and_then (λ (x : DeviceSeen). x.content) (device_in w.nodes.devices file) ≡ Some bytes
        → (d : DeviceSeen) × (device_in w.nodes.devices file ≡ Some d) × (d.content ≡ Some bytes)
    by_device None e has = absurd (let no : ⊥ = cc (sym (ap (option_and_then (λ (x : DeviceSeen). x.content)) e) ∙ has) in no)
    by_device (Some d) e has = (d, e, sym (ap (option_and_then (λ (x : DeviceSeen). x.content)) e) ∙ has)

-- ---- a piece

module _ (w v : WorldSeen) (alike : AreNodesOf w.table w.nodes) (joined : IsJoined w.nodes) (joined_now : IsJoined v.nodes) (stands : TableStands w.table)
    (moved : AreNodesAfter w.nodes v.nodes) (told : AreTold w.nodes.devices) (over : (name : List ℕ) → node_over v.table name ≡ node_over w.table name) where
  pub mapping_kept : (node : ℕ) → KeepsMapping w.table node (contents_of w) (contents_of v)
  mapping_kept node image name after is holds =
      subst (λ (h : Option (List ℕ)). With h (λ b. maps_some b ≡ true → maps_some after ≡ true)) (sym (held-is w name was.file at.0 at.1 was.over_it at.2 at.3))
      (by_row (row_at v.nodes node) refl (subst (λ (r : Option Row). AreRowsAfter r (row_at v.nodes node)) was.there (moved.rows node)))
    where
      was : HasImageFile w.table w.nodes node name
      was = image_file w.table w.nodes alike joined stands node name image is

      now : HasImageFile w.table v.nodes node name
      now = image_file w.table v.nodes (alike_after w.table w.nodes v.nodes moved alike) joined_now stands node name image is

      at : (d : DeviceSeen) × (bytes : List ℕ) × (device_in w.nodes.devices was.file ≡ Some d) × (d.content ≡ Some bytes)
      at = told-device w.nodes.devices told was.file was.has_device

      later : (d : DeviceSeen) × (device_in v.nodes.devices now.file ≡ Some d) × (d.content ≡ Some after)
      later = held-of v name after now.file (over name ∙ now.over_it) holds

      by_driver : (driver : Driver) → driver ≡ now.row.driver → IsDriverAfter (Qcow2 was.image) driver → maps_some at.1 ≡ true → maps_some after ≡ true
      by_driver driver same does some =
          let image_is : does.0 ≡ now.image = (let both : Qcow2 does.0 ≡ Qcow2 now.image = sym does.1 ∙ same ∙ now.driver in cc both) in
          still_mapped at.1 after was.image does.0 (was.known at.0 at.1 at.2 at.3) was.opened
          (subst (IsImageOf after) (sym image_is) (now.known later.0 after later.1 later.2))
          (subst IsOpen (sym image_is) now.opened) does.2 does.4 some

      by_row : (found : Option Row) → row_at v.nodes node ≡ found → AreRowsAfter (Some was.row) (row_at v.nodes node) → maps_some at.1 ≡ true
          → maps_some after ≡ true
      by_row found e does =
          let same : does.0 ≡ now.row = cc (sym does.1 ∙ now.there) in
          by_driver does.0.driver (ap (λ (r : Row). r.driver) same)
          (subst (λ (d : Driver). IsDriverAfter d does.0.driver) was.driver does.2.driver)

-- ---- what may be told

-- whether the image in a node's row maps a cluster is so of its file
module _ (s : State) (w : WorldSeen) (table : s.table ≡ w.table) (images : ShowsImages s (contents_of w)) (alike : AreNodesOf w.table w.nodes)
    (joined : IsJoined w.nodes) (stands : TableStands w.table) (told : AreTold w.nodes.devices) where
  agrees-row : (node : ℕ) → is_qcow2_at w.table node ≡ true → (says : Bool) → (says ≡ false) ↔ IsFresh w.nodes node
      → AgreesWith (mapped_at s.images node) says
  agrees-row node image says fresh =
      subst (AgreesWith (mapped_at s.images node)) (same says refl)
      ((images node).mapped name.0 at.1 (ap (λ (t : RunTable). written_file t node) table ∙ name.1)
      (held-is w name.0 of.file at.0 at.1 of.over_it at.2 at.3))
    where
      name : (n : List ℕ) × (written_file w.table node ≡ Some n)
      name = image_written w.table w.nodes alike joined stands node image

      of : HasImageFile w.table w.nodes node name.0
      of = image_file w.table w.nodes alike joined stands node name.0 image name.1

      at : (d : DeviceSeen) × (bytes : List ℕ) × (device_in w.nodes.devices of.file ≡ Some d) × (d.content ≡ Some bytes)
      at = told-device w.nodes.devices told of.file of.has_device

      known : IsImageOf at.1 of.image
      known = of.known at.0 at.1 at.2 at.3

      empty-of : IsFresh w.nodes node → IsEmpty of.image
      empty-of is =
          let rows : is.row ≡ of.row = cc (sym is.there ∙ of.there) in
          let drivers : Qcow2 is.image ≡ Qcow2 of.image = sym is.driver ∙ ap (λ (r : Row). r.driver) rows ∙ of.driver in
          let same : is.image ≡ of.image = cc drivers in
          subst IsEmpty same is.empty

      by_maps : (b : Bool) → maps_some at.1 ≡ b → (says : Bool) → says ≡ true → ((says ≡ false) ↔ IsFresh w.nodes node) → maps_some at.1 ≡ says
      by_maps true e says is fresh = e ∙ sym is
      by_maps false e says is fresh =
          let none : says ≡ false =
          fresh.1 (record { row = of.row; image = of.image; there = of.there; driver = of.driver; empty = file_empty at.1 of.image known of.opened e }) in
          absurd (let no : ⊥ = cc (sym is ∙ none) in no)

      same : (b : Bool) → says ≡ b → maps_some at.1 ≡ says
      same false e = empty_file at.1 of.image known of.opened (empty-of (fresh.0 e)) ∙ sym e
      same true e = by_maps (maps_some at.1) refl says e fresh

  -- An overlay is told to hold clusters exactly where its row isn't that of a fresh image.
  pub may_map : (overlays mapped : List (List ℕ))
      → ((name : List ℕ) (node : ℕ) → Contains overlays name → id_named w.table name ≡ Some node → (has_name name mapped ≡ false) ↔ IsFresh w.nodes node)
      → MayMap s overlays mapped
  may_map overlays mapped says name node within named =
      let at : id_named w.table name ≡ Some node = ap (λ (t : RunTable). id_named t name) (sym table) ∙ named in
      by_kind (is_qcow2_at w.table node) refl (says name node within at)
    where
      by_kind : (b : Bool) → is_qcow2_at w.table node ≡ b → (has_name name mapped ≡ false) ↔ IsFresh w.nodes node
          → AgreesWith (mapped_at s.images node) (has_name name mapped)
      by_kind true e fresh = agrees-row node e (has_name name mapped) fresh
      by_kind false e fresh =
          nothing_said s.images node (has_name name mapped) ((images node).noted ∙ ap (λ (t : RunTable). is_qcow2_at t node) table ∙ e)
