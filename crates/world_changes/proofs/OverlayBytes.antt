-- Whether the image of an overlay maps a cluster is what the bytes of its file say, where they are told.
use Rattle.std.proofs.Common.{◌≡◌, ℕ, Bool, true, false, List, Some, refl, sym, ◌∙◌, ap, subst}
use Rattle.std.specs.Prelude.{◌↔◌}
use Rattle.q2_image.specs.Image.{IsImageOf}
use Rattle.flat_machine.specs.Imaging.{maps_some}
use Rattle.blk_nodes.specs.Joined.{HasBelow, IsJoined, IsOverlay}
use Rattle.blk_nodes.specs.Nodes.{Nodes, device_in}
use Rattle.blk_nodes.specs.Overlays.{IsFresh}
use Rattle.blk_nodes.specs.declared.row.Driver.TheVariants.{Qcow2}
use Rattle.blk_nodes.specs.declared.row.Row.{Row}
use Rattle.world_parts.specs.Snapshots.{IsInBytes, TellsImage}
use Rattle.world_parts.proofs.ImageRows.{IsEmpty, empty_file, file_empty}

module _ (nodes : Nodes) (joined : IsJoined nodes) (node : ℕ) (bytes : List ℕ) (is : IsInBytes nodes node bytes) where
  overlay : IsOverlay nodes node is.image
  overlay = subst (HasBelow nodes node is.row.size) is.driver (joined.below node is.row is.there)

  known : IsImageOf bytes is.image
  known =
      let both : Some overlay.file ≡ Some is.file = sym overlay.edge ∙ is.below in
      let same : overlay.file ≡ is.file = cc both in
      overlay.known is.device bytes (ap (device_in nodes.devices) same ∙ is.held) is.content

  empty-of : IsFresh nodes node → IsEmpty is.image
  empty-of fresh =
      let rows : Some fresh.row ≡ Some is.row = sym fresh.there ∙ is.there in
      let row : fresh.row ≡ is.row = cc rows in
      let drivers : Qcow2 fresh.image ≡ Qcow2 is.image = sym fresh.driver ∙ ap (λ (r : Row). r.driver) row ∙ is.driver in
      let image : fresh.image ≡ is.image = cc drivers in
      subst IsEmpty image fresh.empty

  fresh-of : IsEmpty is.image → IsFresh nodes node
  fresh-of empty = record { row = is.row; image = is.image; there = is.there; driver = is.driver; empty = empty }

  pub bytes_say : (maps : Bool) → (maps ≡ false) ↔ IsFresh nodes node → maps ≡ maps_some bytes
  bytes_say false says = sym (empty_file bytes is.image known overlay.opened (empty-of (says.0 refl)))
  bytes_say true says = by_bytes (maps_some bytes) refl
    where
      by_bytes : (b : Bool) → maps_some bytes ≡ b → true ≡ maps_some bytes
      by_bytes true e = sym e
      by_bytes false e =
          let bad : true ≡ false = says.1 (fresh-of (file_empty bytes is.image known overlay.opened e)) in
          absurd (let no : ⊥ = cc bad in no)

pub image_told : (nodes : Nodes) → IsJoined nodes → (node : ℕ) (maps : Bool) → (maps ≡ false) ↔ IsFresh nodes node → TellsImage nodes node maps
image_told nodes joined node maps says = record { known = says; held = λ bytes is. bytes_say nodes joined node bytes is maps says }
