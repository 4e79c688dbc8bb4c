-- What is found down a chain is what the node's disk has there.
use Rattle.std.proofs.Common.{◌≡◌, ℕ, zero, suc, ◌+◌, ◌*◌, ◌/◌, ◌%◌, ◌<◌, ◌≤◌, List, [], length, get_or, replicate, Option, Some, None, refl, sym, ◌∙◌, ap, arith}
use Rattle.std.proofs.lemmas.List.{length-replicate, get_or-replicate}
use Rattle.std.proofs.lemmas.List.FromFn.{get_or-map-range_with_len}
use Rattle.blk_base.specs.Content as content
use Rattle.blk_base.specs.Pieces.{Extent}
use Rattle.blk_base.specs.declared.fault.Outcome.{Outcome}
use Rattle.blk_base.specs.declared.fault.Outcome.TheVariants.{Good, Torn, Io, NoSpace}
use Rattle.blk_nodes.specs.Reading.{ReadsDisk}
use Rattle.blk_base.proofs.Contents.{bytes_at-by_place, get_or-bytes_at as get_or-device_bytes, length-bytes_at as length-device_bytes}
use Rattle.q2_format.specs.Contents.{guest_byte, image_disk}
use Rattle.q2_format.specs.Header.{header_of}
use Rattle.q2_format.specs.declared.header.Header.{Header}
use Rattle.q2_format.specs.declared.entries.L2Entry.{L2Entry}
use Rattle.q2_format.specs.declared.entries.L2Entry.TheVariants as entries
use Rattle.q2_format.proofs.ByPlace.{get_or-bytes_at}
use Rattle.q2_image.specs.Guest.{file_entry, guest_bytes}
use Rattle.q2_image.specs.Image.{Known, IsImageOf, IsOpen, cluster_size_in, entry_in}
use Rattle.q2_image.proofs.Guests.{guest_host, guest_zero, guest_unallocated, get_or-guest_bytes, length-guest_bytes}
use Rattle.q2_image.proofs.Mapped.{entry_of_file, below_words}
use Rattle.blk_nodes.specs.Contents.{bytes_of, file_node_disk, disk_under, disk_through, disk_by, disk_down, disk_of}
use Rattle.blk_nodes.specs.Nodes.{Nodes, AreTold, row_at, size_by, node_size, file_of, backing_of, filtered_of}
use Rattle.blk_nodes.specs.Joined.{IsPartOfFile, IsOverlay, IsCopying, IsFiltering, IsJoined}
use Rattle.blk_nodes.specs.Found.{found_bytes}
use Rattle.blk_nodes.specs.Sources.{in_below, step_by_entry, step_by, step_of, source_in, source_at, byte_at}
use Rattle.blk_nodes.specs.declared.row.Driver.{Driver}
use Rattle.blk_nodes.specs.declared.row.Driver.TheVariants.{File, Raw, Qcow2, CopyOnRead, Filter}
use Rattle.blk_nodes.specs.declared.row.Row.{Row}
use Rattle.blk_nodes.specs.declared.source.Source.{Source}
use Rattle.blk_nodes.specs.declared.source.Source.TheVariants as sources
use Rattle.blk_nodes.specs.declared.source.Step.{Step}
use Rattle.blk_nodes.specs.declared.source.Step.TheVariants.{Found, Below}
use Rattle.blk_nodes.proofs.HeldDevices.{told_held}
use Rattle.blk_nodes.proofs.Joints.{held_by}

pub get_or-image_disk : (file backing : List ℕ) (i : ℕ) → i < (header_of file).size → get_or (image_disk file backing) i 0 ≡ guest_byte file backing i
unfolding image_disk
get_or-image_disk file backing i below = get_or-map-range_with_len (guest_byte file backing) 0 (header_of file).size i i 0 below (omega arith)

-- entries that no sound image has read as zeros
guest_compressed : (file backing : List ℕ) (place : ℕ) → (header_of file).cluster_bits ≡ 16 → file_entry file (place / 65536) ≡ entries.Compressed → guest_byte file backing place ≡ 0
unfolding guest_byte
guest_compressed file backing place bits entry = let e = rw bits at entry in rw (bits, e) refl

guest_reserved : (file backing : List ℕ) (place : ℕ) → (header_of file).cluster_bits ≡ 16 → file_entry file (place / 65536) ≡ entries.Reserved → guest_byte file backing place ≡ 0
unfolding guest_byte
guest_reserved file backing place bits entry = let e = rw bits at entry in rw (bits, e) refl

-- a place of an open image has an entry
pub has_entry : (image : Known) (cluster : ℕ) → IsOpen image → cluster * 65536 < image.header.size → cluster < length image.tables.words
has_entry image cluster opened inside =
    let bits = opened.cluster_bits in
    below_words image cluster opened (rw bits (omega (arith, inside)))

-- what a step found, or what is found from the node below on
abbrev found_by : (ℕ → ℕ → Source) → ℕ → Step → Source
found_by source place step = elim step as (λ _. Source) [
  | Found found ↦ found
  | Below next ↦ source next place
]

-- the guest cluster of a place
cluster_at : (image : Known) (place : ℕ) → IsOpen image → place / cluster_size_in image ≡ place / 65536
cluster_at image place opened = rw opened.cluster_bits refl

-- one more node down the chain, where what is found below it is right
module _ (turns : ℕ) (nodes : Nodes) (joined : IsJoined nodes) (all : AreTold nodes.devices)
    (rest : (node place i : ℕ) → place + i < node_size nodes node → place % 65536 + i < 65536
    → get_or (disk_down turns nodes node) (place + i) 0 ≡ byte_at nodes (source_in turns nodes node place) place i)
    (place i : ℕ) (block : place % 65536 + i < 65536) where
  over_below : (next : Option ℕ) → ((node : ℕ) → next ≡ Some node → place + i < node_size nodes node)
      → get_or (disk_under (disk_down turns nodes) next) (place + i) 0 ≡ byte_at nodes (found_by (source_in turns nodes) place (in_below next)) place i
  over_below None inside = refl
  over_below (Some node) inside = rest node place i (inside node refl) block

  over_entry : (node file : ℕ) (next : Option ℕ) (entry : L2Entry) → (header_of (bytes_of nodes file)).cluster_bits ≡ 16
      → file_entry (bytes_of nodes file) ((place + i) / 65536) ≡ entry → ((node : ℕ) → next ≡ Some node → place + i < node_size nodes node)
      → guest_byte (bytes_of nodes file) (disk_under (disk_down turns nodes) next) (place + i)
      ≡ byte_at nodes (found_by (source_in turns nodes) place (step_by_entry node (Some file) next entry)) place i
  over_entry node file next entries.Unallocated bits entry inside =
      guest_unallocated (bytes_of nodes file) (disk_under (disk_down turns nodes) next) (place + i) bits entry ∙ over_below next inside
  over_entry node file next (entries.Zero host) bits entry inside = guest_zero (bytes_of nodes file) (disk_under (disk_down turns nodes) next) (place + i) host bits entry
  over_entry node file next (entries.Host host) bits entry inside =
      guest_host (bytes_of nodes file) (disk_under (disk_down turns nodes) next) (place + i) host bits entry
      ∙ sym (guest_host (bytes_of nodes file) [] (place + i) host bits entry)
  over_entry node file next entries.Compressed bits entry inside = guest_compressed (bytes_of nodes file) (disk_under (disk_down turns nodes) next) (place + i) bits entry
  over_entry node file next entries.Reserved bits entry inside = guest_reserved (bytes_of nodes file) (disk_under (disk_down turns nodes) next) (place + i) bits entry

  over_image : (node : ℕ) (row : Row) (image : Known) → row_at nodes node ≡ Some row → image.header.size ≡ row.size → place + i < row.size → IsOverlay nodes node image
      → get_or (image_disk (disk_under (bytes_of nodes) (file_of nodes node)) (disk_under (disk_down turns nodes) (backing_of nodes node))) (place + i) 0
      ≡ byte_at nodes (found_by (source_in turns nodes) place (step_by_entry node (file_of nodes node) (backing_of nodes node) (entry_in image (place / cluster_size_in image)))) place i
  over_image node row image there size inside is =
      let held = told_held is.file nodes.devices all (held_by nodes is.file joined is.is_file) in
      let known : IsImageOf (bytes_of nodes is.file) image = is.known held.0 (bytes_of nodes is.file) held.1 held.2 in
      let header = known.header in
      let bits : (header_of (bytes_of nodes is.file)).cluster_bits ≡ 16 = ap (λ (h : Header). h.cluster_bits) header ∙ is.opened.cluster_bits in
      let whole : (header_of (bytes_of nodes is.file)).size ≡ image.header.size = ap (λ (h : Header). h.size) header in
      let same : (place + i) / 65536 ≡ place / 65536 = omega arith in
      let entry = ap (file_entry (bytes_of nodes is.file)) same ∙ entry_of_file (bytes_of nodes is.file) image (place / 65536) known (has_entry image (place / 65536) is.opened (omega arith))
      ∙ ap (entry_in image) (sym (cluster_at image place is.opened)) in
      rw is.edge
      (get_or-image_disk (bytes_of nodes is.file) (disk_under (disk_down turns nodes) (backing_of nodes node)) (place + i) (omega (arith, whole, size, inside))
      ∙ over_entry node is.file (backing_of nodes node) (entry_in image (place / cluster_size_in image)) bits entry
      (λ next edge. let has = is.backing next edge in rw has.there (omega (arith, has.is, size, inside))))

  by_driver : (node : ℕ) (row : Row) (driver : Driver) → row_at nodes node ≡ Some row → row.driver ≡ driver → place + i < row.size
      → get_or (disk_by nodes (disk_down turns nodes) node driver) (place + i) 0
      ≡ byte_at nodes (found_by (source_in turns nodes) place (step_by node (file_of nodes node) (backing_of nodes node) (filtered_of nodes node) place driver)) place i
  by_driver node row File there driver inside =
      let size : node_size nodes node ≡ row.size = ap size_by there in
      get_or-bytes_at (bytes_of nodes node) 0 (node_size nodes node) (place + i) (omega (arith, size, inside)) ∙ ap (λ (k : ℕ). get_or (bytes_of nodes node) k 0) (omega arith)
  by_driver node row (Raw part) there driver inside =
      let is : IsPartOfFile nodes node part.offset part.size = rw driver at (joined.below node row there) in
      let sized = rw driver at (joined.sized node row there) in
      let size : part.size ≡ row.size = sized.0 in
      let within = is.within in
      rw is.edge
      (get_or-bytes_at (file_node_disk nodes is.file) part.offset part.size (place + i) (omega (arith, size, inside))
      ∙ get_or-bytes_at (bytes_of nodes is.file) 0 (node_size nodes is.file) (part.offset + (place + i)) (omega (arith, size, inside, within))
      ∙ ap (λ (k : ℕ). get_or (bytes_of nodes is.file) k 0) (omega arith))
  by_driver node row (Qcow2 image) there driver inside =
      let is : IsOverlay nodes node image = rw driver at (joined.below node row there) in
      let size : image.header.size ≡ row.size = rw driver at (joined.sized node row there) in
      over_image node row image there size inside is
  by_driver node row CopyOnRead there driver inside =
      let is : IsCopying nodes node row.size = rw driver at (joined.below node row there) in
      let has = is.same in
      over_below (file_of nodes node) (λ next edge.
      let same : next ≡ is.child = cc in
      rw same (rw has.there (omega (arith, has.is, inside))))
  by_driver node row (Filter kind) there driver inside = through (filtered_of nodes node) refl
    where
      is : IsFiltering nodes node row.size
      is = rw driver at (joined.below node row there)

      size : node_size nodes node ≡ row.size
      size = ap size_by there

      through : (found : Option ℕ) → filtered_of nodes node ≡ found
          → get_or (disk_through (node_size nodes node) (disk_down turns nodes) found) (place + i) 0 ≡ byte_at nodes (found_by (source_in turns nodes) place (in_below found)) place i
      through None e = get_or-replicate (node_size nodes node) (place + i) 0 0 (omega (arith, size, inside))
      through (Some next) e = over_below (Some next) (λ n same.
          let here : next ≡ n = cc same in
          let has = is n (e ∙ same) in
          rw has.there (omega (arith, has.is, inside)))

  by_row : (node : ℕ) (found : Option Row) → row_at nodes node ≡ found → place + i < size_by found
      → get_or (elim found as (λ _. List ℕ) [ None ↦ [] | Some row ↦ disk_by nodes (disk_down turns nodes) node row.driver ]) (place + i) 0
      ≡ byte_at nodes (found_by (source_in turns nodes) place (elim found as (λ _. Step) [
        | None ↦ Found sources.Zeros
        | Some row ↦ step_by node (file_of nodes node) (backing_of nodes node) (filtered_of nodes node) place row.driver
      ])) place i
  by_row node None is inside = refl
  by_row node (Some row) is inside = by_driver node row row.driver is refl inside

pub stands_there : (turns : ℕ) (nodes : Nodes) → IsJoined nodes → AreTold nodes.devices → (node place i : ℕ) → place + i < node_size nodes node → place % 65536 + i < 65536
    → get_or (disk_down turns nodes node) (place + i) 0 ≡ byte_at nodes (source_in turns nodes node place) place i
stands_there zero nodes joined all node place i inside block = refl
stands_there (suc turns) nodes joined all node place i inside block =
    by_row turns nodes joined all (stands_there turns nodes joined all) place i block node (row_at nodes node) refl inside

-- one step of a walk of so many nodes
pub walk_ends : (nodes : Nodes) (node place : ℕ) (source : Source) (turns : ℕ) → 0 < turns → step_of nodes node place ≡ Found source → source_in turns nodes node place ≡ source
walk_ends nodes node place source zero some is = absurd (omega arith)
walk_ends nodes node place source (suc turns) some is = rw (is, source_in) refl

pub walk_goes_on : (nodes : Nodes) (node place next : ℕ) (turns left : ℕ) → turns ≡ suc left → step_of nodes node place ≡ Below next → source_in turns nodes node place ≡ source_in left nodes next place
walk_goes_on nodes node place next turns left one is = ap (λ (k : ℕ). source_in k nodes node place) one ∙ rw (is, source_in) refl

-- What was read of a piece, by where it stands.
module _ (nodes : Nodes) (joined : IsJoined nodes) (all : AreTold nodes.devices) (node start n : ℕ)
    (inside : start + n ≤ node_size nodes node) (block : start % 65536 + n ≤ 65536) (buffer : List ℕ) where
  by_place : length buffer ≡ n → ((i : ℕ) → i < n → get_or buffer i 0 ≡ byte_at nodes (source_at nodes node start) start i) → buffer ≡ content.bytes_at (disk_of nodes node) start n
  unfolding source_at disk_of
  by_place whole each = bytes_at-by_place (disk_down 64 nodes node) buffer start n whole
      (λ i below. each i below ∙ sym (stands_there 64 nodes joined all node start i (omega arith) (omega arith)))

  pub reads_zeros : source_at nodes node start ≡ sources.Zeros → buffer ≡ replicate n 0 → buffer ≡ content.bytes_at (disk_of nodes node) start n
  reads_zeros is zeros = by_place (ap length zeros ∙ length-replicate n 0) (λ i below. rw is (ap (λ (b : List ℕ). get_or b i 0) zeros ∙ get_or-replicate n i 0 0 below))

  pub reads_file : (file from : ℕ) → source_at nodes node start ≡ sources.File file from → buffer ≡ content.bytes_at (bytes_of nodes file) from n → buffer ≡ content.bytes_at (disk_of nodes node) start n
  reads_file file from is read = by_place (ap length read ∙ length-device_bytes (bytes_of nodes file) from n)
      (λ i below. rw is (ap (λ (b : List ℕ). get_or b i 0) read ∙ get_or-device_bytes (bytes_of nodes file) from n i below))

  pub reads_image : (at file : ℕ) → source_at nodes node start ≡ sources.Image at file → buffer ≡ guest_bytes (bytes_of nodes file) [] start n → buffer ≡ content.bytes_at (disk_of nodes node) start n
  reads_image at file is read = by_place (ap length read ∙ length-guest_bytes (bytes_of nodes file) [] start n)
      (λ i below. rw is (ap (λ (b : List ℕ). get_or b i 0) read ∙ get_or-guest_bytes (bytes_of nodes file) [] start n i below))

  -- of what was found
  pub reads_found : (source : Source) → source_at nodes node start ≡ source → buffer ≡ found_bytes nodes.devices source start n
      → buffer ≡ content.bytes_at (disk_of nodes node) start n
  reads_found sources.Zeros is read = reads_zeros is read
  reads_found (sources.File file from) is read = reads_file file from is read
  reads_found (sources.Image at file) is read = reads_image at file is read

-- a read that was good
pub when_good : (outcome : Outcome) (disk : List ℕ) (span : Extent) (buffer : List ℕ) → (outcome ≡ Good → buffer ≡ content.bytes_at disk span.start span.len) → ReadsDisk outcome disk span buffer
when_good Good disk span buffer read = read refl
when_good (Torn done dev count) disk span buffer read = tt
when_good (Io dev count) disk span buffer read = tt
when_good (NoSpace dev) disk span buffer read = tt
