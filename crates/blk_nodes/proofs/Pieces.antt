-- Where a piece of a qcow2 node lies.
use Rattle.std.proofs.Common.{◌≡◌, ℕ, ◌<◌, ◌≤◌, Some, None, refl, sym, ◌∙◌, ap, subst, arith}
use Rattle.blk_base.specs.Pieces.{Extent, block_size, end_of}
use Rattle.q2_image.specs.Image.{Known, cluster_size_in}
use Rattle.q2_image.specs.Reading.{IsWithinCluster}
use Rattle.blk_nodes.specs.Joined.{IsOverlay, IsJoined}
use Rattle.blk_nodes.specs.Nodes.{Nodes, row_at, size_by, node_size, file_of}
use Rattle.blk_nodes.specs.Parts.{IsImage, HasPiece, IsPieceOf}
use Rattle.blk_nodes.specs.Changing.{block_around, stretch_around}
use Rattle.blk_nodes.specs.Walk.{IsKnownAt, CanSourceBeRead}
use Rattle.blk_nodes.specs.declared.part.Part.{Part}
use Rattle.blk_nodes.specs.declared.row.Row.{Row}
use Rattle.blk_nodes.specs.declared.source.Source.{Source}
use Rattle.blk_nodes.proofs.Joints.{held_by}
use Rattle.blk_nodes.proofs.Rows.{has_image, of_image}

module _ (nodes : Nodes) (joined : IsJoined nodes) (node : ℕ) (is : IsImage nodes node) where
  image_of : (row : Row) × (image : Known) × (row_at nodes node ≡ Some row) × IsOverlay nodes node image × (image.header.size ≡ node_size nodes node)
  image_of =
      let found = has_image (row_at nodes node) (λ _. Unit {0}) is in
      let overlay : IsOverlay nodes node found.1 = rw found.3 at (joined.below node found.0 found.2) in
      let size : found.1.header.size ≡ found.0.size = rw found.3 at (joined.sized node found.0 found.2) in
      (found.0, found.1, found.2, overlay, size ∙ sym (ap size_by found.2))

  -- no image's disk is long
  pub size_small : node_size nodes node ≤ 9223372036854775808
  size_small = let most = image_of.3.opened.disk in let size = image_of.4 in omega arith

  -- it has a file
  pub file_there : file_of nodes node ≡ None → ⊥
  file_there none = let bad = sym none ∙ image_of.3.edge in absurd (cc bad)

  pub piece_of : (span whole : Extent) (file : ℕ) (source : Source) → file_of nodes node ≡ Some file → whole ≡ block_around (node_size nodes node) span → 0 < span.len
      → IsWithinCluster block_size span → end_of span ≤ node_size nodes node → CanSourceBeRead nodes.rows nodes.devices whole.start source
      → HasPiece nodes.rows nodes.devices (record { node = node; file = file; span = span; whole = whole; source = source })
  piece_of span whole file source edge around some block inside can =
      let part : Part = record { node = node; file = file; span = span; whole = whole; source = source } in
      let found = has_image (row_at nodes node) (λ _. Unit {0}) is in
      let image : Known = found.1 in
      let overlay : IsOverlay nodes node image = rw found.3 at (joined.below node found.0 found.2) in
      let sized : image.header.size ≡ found.0.size = rw found.3 at (joined.sized node found.0 found.2) in
      let size : image.header.size ≡ node_size nodes node = sized ∙ sym (ap size_by found.2) in
      let same : overlay.file ≡ file = cc (sym overlay.edge ∙ edge) in
      let bits : block_size ≡ cluster_size_in image = rw overlay.opened.cluster_bits refl in
      of_image (row_at nodes node) found.0 image (IsPieceOf nodes.rows nodes.devices part) found.2 found.3 (record {
        opened = overlay.opened;
        some = some;
        cluster = subst (λ (c : ℕ). IsWithinCluster c span) bits block;
        inside = omega arith;
        whole = around ∙ ap (λ (s : ℕ). block_around s span) (sym size) ∙ ap (λ (c : ℕ). stretch_around c image.header.size span) bits;
        held = held_by nodes file joined (rw (sym same) overlay.is_file);
        known = subst (λ (f : ℕ). IsKnownAt f nodes.devices image) same overlay.known;
        can = can;
      })
