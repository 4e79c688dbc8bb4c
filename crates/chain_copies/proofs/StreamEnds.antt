-- What a stream has made at its end, and what the nodes read as where its top is over the base.
use Rattle.std.proofs.Common.{◌≡◌, ◌≢◌, ℕ, ◌/◌, ◌<◌, Bool, true, false, not, List, [], get_or, Option, Some, None, refl, sym, ◌∙◌, ap, subst, inl, inr, arith}
use Rattle.std.specs.Prelude.{option_map}
use Rattle.std.specs.List.{list_any}
use Rattle.std.proofs.lemmas.Bool.{cases_eq}
use Rattle.std.proofs.lemmas.List.{ext_get_or}
use Rattle.q2_format.specs.Contents.{byte_by_entry, file_disk, guest_byte, image_disk, raw_disk}
use Rattle.q2_format.specs.Header.{header_of}
use Rattle.q2_format.specs.Sizes.{cluster_size}
use Rattle.q2_format.specs.declared.entries.L2Entry.{L2Entry}
use Rattle.q2_format.specs.declared.entries.L2Entry.TheVariants as entries
use Rattle.q2_format.specs.declared.header.Header.{Header}
use Rattle.q2_image.specs.Guest.{file_entry}
use Rattle.q2_image.specs.Image.{Known, IsImageOf, cluster_size_in, entry_in}
use Rattle.q2_image.proofs.Guests.{length-image_disk}
use Rattle.q2_image.proofs.Mapped.{entry_of_file}
use Rattle.blk_nodes.specs.Contents.{bytes_by, bytes_of, disk_by, disk_down, disk_of, disk_through, disk_under, file_node_disk}
use Rattle.blk_nodes.specs.Copying.{is_unallocated}
use Rattle.blk_nodes.specs.Joined.{IsJoined, IsOverlay}
use Rattle.blk_nodes.specs.Nodes.{Nodes, AreTold, DeviceSeen, device_in, row_at, size_by, node_size, file_of, backing_of, filtered_of}
use Rattle.blk_nodes.specs.Owning.{has_own, has_own_by}
use Rattle.blk_nodes.specs.Parts.{IsImage}
use Rattle.blk_nodes.specs.Rewiring.{AreReadings, rewired}
use Rattle.blk_nodes.specs.declared.row.Driver.{Driver}
use Rattle.blk_nodes.specs.declared.row.Driver.TheVariants.{File, Raw, Qcow2, CopyOnRead, Filter}
use Rattle.blk_nodes.specs.declared.row.Row.{Row}
use Rattle.blk_nodes.proofs.Chains.{get_or-image_disk, has_entry}
use Rattle.blk_nodes.proofs.HeldDevices.{told_held}
use Rattle.blk_nodes.proofs.Joints.{held_by}
use Rattle.blk_nodes.proofs.Rows.{has_image}
use Rattle.blk_nodes.proofs.Unfolding.{unfolds}
use Rattle.block_jobs.specs.Work.{JobWork, is_left}
use Rattle.block_jobs.proofs.PartLemmas.{has_at}
use Rattle.blk_graph.specs.Refreshed.{kind_at}
use Rattle.blk_graph.specs.declared.edge.Edge.{Edge}
use Rattle.blk_graph.specs.declared.edge.Role.TheVariants.{File as FileRole, Backing, Filtered}
use Rattle.blk_graph.specs.declared.kind.NodeKind.{NodeKind}
use Rattle.blk_nodes.specs.Jobs.{with_read_only}
use Rattle.blk_nodes.proofs.Rewired.{row_then, sizes_same}
use Rattle.chain_copies.specs.Streams.{AreRebased, IsPlaceSettled, IsRebased, IsStreamAhead}

-- ---- an image over another backing disk, which is the same where no cluster is mapped

abbrev bare_at : List ℕ → ℕ → Type 0
bare_at file place = file_entry file (place / 65536) ≡ entries.Unallocated

module _ (file a b : List ℕ) (place : ℕ) (bits : (header_of file).cluster_bits ≡ 16) (same : bare_at file place → get_or a place 0 ≡ get_or b place 0) where
  by_entry : (c : ℕ) (e : L2Entry) → (e ≡ entries.Unallocated → get_or a place 0 ≡ get_or b place 0) → byte_by_entry file c a place e ≡ byte_by_entry file c b place e
  by_entry c entries.Unallocated is = is refl
  by_entry c (entries.Zero host) is = refl
  by_entry c (entries.Host host) is = refl
  by_entry c entries.Compressed is = refl
  by_entry c entries.Reserved is = refl

  byte_same : guest_byte file a place ≡ guest_byte file b place
  unfolding guest_byte
  byte_same =
      let c : ℕ = cluster_size (header_of file).cluster_bits in
      let size : c ≡ 65536 = rw bits refl in
      by_entry c (file_entry file (place / c)) (λ bare. same (ap (λ (k : ℕ). file_entry file (place / k)) (sym size) ∙ bare))

disk_same : (file a b : List ℕ) → (header_of file).cluster_bits ≡ 16
    → ((place : ℕ) → place < (header_of file).size → bare_at file place → get_or a place 0 ≡ get_or b place 0)
    → image_disk file a ≡ image_disk file b
disk_same file a b bits each =
    ext_get_or 0 (image_disk file a) (image_disk file b) (length-image_disk file a ∙ sym (length-image_disk file b))
    (λ place less.
    let size = length-image_disk file a in
    let inside : place < (header_of file).size = omega (arith, less, size) in
    get_or-image_disk file a place inside ∙ byte_same file a b place bits (each place inside) ∙ sym (get_or-image_disk file b place inside))

-- ---- the end

mapped : (e : L2Entry) → not (is_unallocated e) ≡ true → e ≢ entries.Unallocated
mapped entries.Unallocated is = absurd (cc is)
mapped (entries.Zero host) is = λ same. cc same
mapped (entries.Host host) is = λ same. cc same
mapped entries.Compressed is = λ same. cc same
mapped entries.Reserved is = λ same. cc same

none_left : (work : JobWork) (place : ℕ) → list_any (λ part. part) work.left ≡ false → is_left work place ≡ false
none_left work place none = by (is_left work place) refl
  where
    by : (b : Bool) → is_left work place ≡ b → b ≡ false
    by true is = let bad : true ≡ false = sym (has_at work.left (place / work.part) is) ∙ none in absurd (cc bad)
    by false is = refl

-- the image of a top
module _ (nodes : Nodes) (top : ℕ) (joined : IsJoined nodes) (is_image : IsImage nodes top) where
  found : (row : Row) × (image : Known) × (row_at nodes top ≡ Some row) × (row.driver ≡ Qcow2 image) × Unit {0}
  found = has_image (row_at nodes top) (λ _. Unit {0}) is_image

  abbrev row : Row
  row = found.0

  abbrev image : Known
  image = found.1

  overlay : IsOverlay nodes top image
  overlay = rw found.3 at (joined.below top row found.2)

  abbrev bytes : List ℕ
  bytes = bytes_of nodes overlay.file

  top_reads : disk_of nodes top ≡ image_disk bytes (disk_under (disk_of nodes) (backing_of nodes top))
  top_reads =
      unfolds nodes joined top row found.2 ∙ ap (disk_by nodes (disk_of nodes) top) found.3
      ∙ ap (λ (f : Option ℕ). image_disk (disk_under (bytes_of nodes) f) (disk_under (disk_of nodes) (backing_of nodes top))) overlay.edge

  module _ (told : AreTold nodes.devices) (base : Option ℕ) (work : JobWork) (whole : node_size nodes top ≡ work.size)
      (none : list_any (λ part. part) work.left ≡ false) (ahead : IsStreamAhead nodes top base work) where
    known : IsImageOf bytes image
    known =
        let held = told_held overlay.file nodes.devices told (held_by nodes overlay.file joined overlay.is_file) in
        overlay.known held.0 bytes held.1 held.2

    bits : (header_of bytes).cluster_bits ≡ 16
    bits = ap (λ (h : Header). h.cluster_bits) known.header ∙ overlay.opened.cluster_bits

    size_is : (header_of bytes).size ≡ work.size
    size_is =
        let sized : image.header.size ≡ row.size = rw found.3 at (joined.sized top row found.2) in
        ap (λ (h : Header). h.size) known.header ∙ sized ∙ sym (ap size_by found.2) ∙ whole

    own_mapped : (place : ℕ) → place < work.size → has_own place (row_at nodes top) ≡ true → bare_at bytes place → ⊥
    own_mapped place less own bare =
        let size : cluster_size_in image ≡ 65536 = let opened = overlay.opened.cluster_bits in rw opened refl in
        let sized = size_is in
        let header = ap (λ (h : Header). h.size) known.header in
        let k : ℕ = place / 65536 in
        let entry : file_entry bytes k ≡ entry_in image k = entry_of_file bytes image k known (has_entry image k overlay.opened (omega (arith, less, sized, header))) in
        let here : not (is_unallocated (entry_in image k)) ≡ true
        = ap (λ (c : ℕ). not (is_unallocated (entry_in image (place / c)))) (sym size)
        ∙ ap (has_own_by place) (sym found.3) ∙ ap (has_own place) (sym found.2) ∙ own in
        mapped (entry_in image k) here (sym entry ∙ bare)

    alone_reads : image_disk bytes (disk_under (disk_of nodes) base) ≡ disk_of nodes top
    alone_reads =
        disk_same bytes (disk_under (disk_of nodes) base) (disk_under (disk_of nodes) (backing_of nodes top)) bits
        (λ place less bare.
        let size = size_is in
        let inside : place < work.size = omega (arith, less, size) in
        by place inside bare (ahead place inside (none_left work place none)))
        ∙ sym top_reads
      where
        by : (place : ℕ) → place < work.size → bare_at bytes place → IsPlaceSettled nodes top base place
            → get_or (disk_under (disk_of nodes) base) place 0 ≡ get_or (disk_under (disk_of nodes) (backing_of nodes top)) place 0
        by place less bare (inl own) = absurd (own_mapped place less own bare)
        by place less bare (inr same) = sym same

    pub made_alone : (file : ℕ) → file_of nodes top ≡ Some file → image_disk (bytes_of nodes file) (disk_under (disk_of nodes) base) ≡ disk_of nodes top
    made_alone file edge =
        let same : overlay.file ≡ file = cc (sym overlay.edge ∙ edge) in
        ap (λ (f : ℕ). image_disk (bytes_of nodes f) (disk_under (disk_of nodes) base)) (sym same) ∙ alone_reads

-- ---- the top over the base

-- other edges alone
pub rewired_rebased : (nodes : Nodes) (kinds : List NodeKind) (edges : List Edge) (top : ℕ) (base : Option ℕ) → IsJoined nodes → AreRebased nodes.graph.edges edges top base
    → IsRebased nodes (rewired kinds edges nodes) top base
rewired_rebased nodes kinds edges top base joined are = record {
  devices = refl;
  drivers = λ n. ap (option_map (λ (r : Row). r.driver)) (row_then nodes kinds edges joined n) ∙ same (kind_at kinds n) (row_at nodes n);
  sizes = sizes_same nodes kinds edges joined;
  files = λ n. are.others n FileRole (λ is role. cc role);
  filtered = λ n. are.others n Filtered (λ is role. cc role);
  backing = are.backing;
  backings = λ n other. are.others n Backing (λ is. absurd (other is));
}
  where
    same : (kind : NodeKind) (found : Option Row) → option_map (λ (r : Row). r.driver) (option_map (λ (r : Row). with_read_only (not kind.writes) r) found) ≡ option_map (λ (r : Row). r.driver) found
    same kind None = refl
    same kind (Some row) = refl

no_disk : (nodes : Nodes) (n : ℕ) → row_at nodes n ≡ None → disk_of nodes n ≡ []
unfolding disk_of
no_disk nodes n none =
    ap (λ (found : Option Row). elim found as (λ _. List ℕ) [ None ↦ [] | Some r ↦ disk_by nodes (disk_down 63 nodes) n r.driver ]) none

module _ (old new : Nodes) (top file : ℕ) (base : Option ℕ) (joined : IsJoined old) (is_image : IsImage old top) (edge : file_of old top ≡ Some file)
    (alone : image_disk (bytes_of old file) (disk_under (disk_of old) base) ≡ disk_of old top) (is : IsRebased old new top base) where
  bytes_stay : (f : ℕ) → bytes_of new f ≡ bytes_of old f
  bytes_stay f = ap (λ (devices : List DeviceSeen). bytes_by (device_in devices f)) is.devices

  file_stays : (f : ℕ) → file_node_disk new f ≡ file_node_disk old f
  file_stays f = ap (λ (n : ℕ). file_disk n (bytes_of new f)) (is.sizes f) ∙ ap (file_disk (node_size old f)) (bytes_stay f)

  under_same : (f g : ℕ → List ℕ) → ((n : ℕ) → f n ≡ g n) → (found : Option ℕ) → disk_under f found ≡ disk_under g found
  under_same f g each None = refl
  under_same f g each (Some n) = each n

  by_driver : (n : ℕ) → n ≢ top → (d : Driver) → disk_by new (disk_of old) n d ≡ disk_by old (disk_of old) n d
  by_driver n other File = file_stays n
  by_driver n other (Raw part) =
      ap (λ (f : Option ℕ). raw_disk part.offset part.size (disk_under (file_node_disk new) f)) (is.files n)
      ∙ ap (raw_disk part.offset part.size) (under_same (file_node_disk new) (file_node_disk old) file_stays (file_of old n))
  by_driver n other (Qcow2 _) =
      ap (λ (f : Option ℕ). image_disk (disk_under (bytes_of new) f) (disk_under (disk_of old) (backing_of new n))) (is.files n)
      ∙ ap (λ (b : Option ℕ). image_disk (disk_under (bytes_of new) (file_of old n)) (disk_under (disk_of old) b)) (is.backings n other)
      ∙ ap (λ (b : List ℕ). image_disk b (disk_under (disk_of old) (backing_of old n))) (under_same (bytes_of new) (bytes_of old) bytes_stay (file_of old n))
  by_driver n other CopyOnRead = ap (disk_under (disk_of old)) (is.files n)
  by_driver n other (Filter kind) =
      ap (disk_through (node_size new n) (disk_of old)) (is.filtered n) ∙ ap (λ (s : ℕ). disk_through s (disk_of old) (filtered_of old n)) (is.sizes n)

  -- the top is the image in its file over the base
  top_driver : (row : Row) → row_at old top ≡ Some row → disk_by new (disk_of old) top row.driver ≡ disk_of old top
  top_driver row there =
      let found = has_image (row_at old top) (λ _. Unit {0}) is_image in
      let rows : row ≡ found.0 = cc (sym there ∙ found.2) in
      ap (disk_by new (disk_of old) top) (ap (λ (r : Row). r.driver) rows ∙ found.3)
      ∙ ap (λ (f : Option ℕ). image_disk (disk_under (bytes_of new) f) (disk_under (disk_of old) (backing_of new top))) (is.files top ∙ edge)
      ∙ ap (λ (b : Option ℕ). image_disk (bytes_of new file) (disk_under (disk_of old) b)) is.backing
      ∙ ap (λ (b : List ℕ). image_disk b (disk_under (disk_of old) base)) (bytes_stay file)
      ∙ alone

  at_row : (n : ℕ) (row : Row) → row_at old n ≡ Some row → disk_by new (disk_of old) n row.driver ≡ disk_of old n
  at_row n row there = elim (cases_eq n top) [
    | inl same ↦
        subst (λ (m : ℕ). disk_by new (disk_of old) m row.driver ≡ disk_of old m) (sym same)
        (top_driver row (ap (row_at old) (sym same) ∙ there))
    | inr other ↦ by_driver n other row.driver ∙ sym (unfolds old joined n row there)
  ]

  each_found : (n : ℕ) (row : Row) (found : Option Row) → row_at old n ≡ found → option_map (λ (r : Row). r.driver) found ≡ Some row.driver
      → disk_of old n ≡ disk_by new (disk_of old) n row.driver
  each_found n row None there driver = absurd (cc driver)
  each_found n row (Some was) there driver =
      let same : was.driver ≡ row.driver = cc driver in
      sym (at_row n was there) ∙ ap (disk_by new (disk_of old) n) same

  none_found : (found : Option Row) → option_map (λ (r : Row). r.driver) found ≡ None → found ≡ None
  none_found None is = refl
  none_found (Some row) is = absurd (cc is)

  pub rebased_readings : AreReadings new (disk_of old)
  rebased_readings = record {
    each = λ n row there.
        each_found n row (row_at old n) refl (sym (is.drivers n) ∙ ap (option_map (λ (r : Row). r.driver)) there);
    none = λ n none. no_disk old n (none_found (row_at old n) (sym (is.drivers n) ∙ ap (option_map (λ (r : Row). r.driver)) none));
  }
