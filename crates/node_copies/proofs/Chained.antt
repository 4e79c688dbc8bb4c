-- A chain of nodes that have nothing of their own shows what is at its end.
use Rattle.std.proofs.Common.{◌≡◌, ◌≢◌, ℕ, zero, suc, ◌+◌, ◌-◌, ◌*◌, ◌/◌, ◌%◌, ◌<◌, ◌≤◌, min, Bool, true, false, not, cond, List, [], ◌∷◌, get_or, replicate, Option, Some, None, refl, sym, ◌∙◌, ap, arith, inl, inr}
use Rattle.std.specs.Prelude.{◌⊎◌, ◌||◌}
use Rattle.std.specs.List.{list_any}
use Rattle.std.proofs.lemmas.List.{ext_get_or, get_or-replicate}
use Rattle.blk_base.specs.Content.{bytes_at}
use Rattle.blk_base.proofs.Contents.{bytes_at-by_place, get_or-bytes_at, length-bytes_at}
use Rattle.blk_graph.specs.declared.edge.Parent.TheVariants.{Node}
use Rattle.blk_graph.specs.declared.edge.Role.TheVariants.{File as FileRole, Backing, Filtered}
use Rattle.blk_graph.proofs.ChildLemmas.{child-edge}
use Rattle.q2_format.specs.Contents.{byte_by_entry, guest_byte, image_disk}
use Rattle.q2_format.specs.Header.{header_of}
use Rattle.q2_format.specs.Sizes.{cluster_size}
use Rattle.q2_format.specs.declared.header.Header.{Header}
use Rattle.q2_format.specs.declared.entries.L2Entry.{L2Entry}
use Rattle.q2_format.specs.declared.entries.L2Entry.TheVariants as entries
use Rattle.q2_image.specs.Guest.{file_entry}
use Rattle.q2_image.specs.Image.{Known, IsImageOf, cluster_size_in, entry_in}
use Rattle.q2_image.proofs.Guests.{guest_unallocated, length-image_disk}
use Rattle.q2_image.proofs.Mapped.{entry_of_file}
use Rattle.blk_nodes.specs.Contents.{disk_under, disk_through, disk_by, disk_down, disk_of, bytes_of}
use Rattle.blk_nodes.specs.Copying.{is_unallocated}
use Rattle.blk_nodes.specs.Joined.{IsCopying, IsOverlay, IsJoined}
use Rattle.blk_nodes.specs.Nodes.{Nodes, AreTold, row_at, size_by, node_size, file_of, backing_of}
use Rattle.blk_nodes.specs.Owning.{has_own, has_own_by}
use Rattle.blk_nodes.specs.Parts.{IsImage}
use Rattle.blk_nodes.specs.declared.row.Driver.{Driver}
use Rattle.blk_nodes.specs.declared.row.Driver.TheVariants.{File, Raw, Qcow2, CopyOnRead, Filter}
use Rattle.blk_nodes.specs.declared.row.Row.{Row}
use Rattle.blk_nodes.proofs.Chains.{get_or-image_disk, has_entry}
use Rattle.blk_nodes.proofs.Copied.{IsOver, below_reads, below_size}
use Rattle.blk_nodes.proofs.HeldDevices.{told_held}
use Rattle.blk_nodes.proofs.Joints.{held_by}
use Rattle.blk_nodes.proofs.Rows.{has_image}
use Rattle.blk_nodes.proofs.Unfolding.{StartsAt, no_path, unfolds}
use Rattle.node_copies.specs.Between.{below_by, below_of, between_in, chain_end, end_in, is_base, is_held_between, nodes_between}

-- ---- one step

not_free : (b : Bool) → not b ≡ false → b ≡ true
not_free true is = refl
not_free false is = absurd (cc is)

not_bare : (b : Bool) → not b ≡ true → b ≡ false
not_bare true is = absurd (cc is)
not_bare false is = refl

bare_entry : (e : L2Entry) → is_unallocated e ≡ true → e ≡ entries.Unallocated
bare_entry entries.Unallocated is = refl
bare_entry (entries.Zero host) is = absurd (cc is)
bare_entry (entries.Host host) is = absurd (cc is)
bare_entry entries.Compressed is = absurd (cc is)
bare_entry entries.Reserved is = absurd (cc is)

mapped_entry : (e : L2Entry) → is_unallocated e ≡ false → e ≢ entries.Unallocated
mapped_entry entries.Unallocated is = absurd (cc is)
mapped_entry (entries.Zero host) is = λ same. cc same
mapped_entry (entries.Host host) is = λ same. cc same
mapped_entry entries.Compressed is = λ same. cc same
mapped_entry entries.Reserved is = λ same. cc same

-- an image that maps nothing there, or a filter, is over the node below
module _ (nodes : Nodes) (node place : ℕ) where
  abbrev below_in : Option Row → Option ℕ
  below_in found = elim found as (λ _. Option ℕ) [ None ↦ None | Some row ↦ below_by nodes node row.driver ]

  over_driver : (row : Row) (next : ℕ) (d : Driver) → row_at nodes node ≡ Some row → row.driver ≡ d → has_own_by place d ≡ false → below_by nodes node d ≡ Some next
      → IsOver nodes node place next
  over_driver row next File there driver own below = absurd (cc own)
  over_driver row next (Raw part) there driver own below = absurd (cc own)
  over_driver row next (Qcow2 image) there driver own below =
      let bare : is_unallocated (entry_in image (place / cluster_size_in image)) ≡ true = not_free (is_unallocated (entry_in image (place / cluster_size_in image))) own in
      record { row = row; there = there; how = inr (image, driver, bare_entry (entry_in image (place / cluster_size_in image)) bare, below) }
  over_driver row next CopyOnRead there driver own below = record { row = row; there = there; how = inl (inl (driver, below)) }
  over_driver row next (Filter kind) there driver own below = record { row = row; there = there; how = inl (inr (kind, driver, below)) }

  pub over_is : (next : ℕ) → has_own place (row_at nodes node) ≡ false → below_of nodes node ≡ Some next → IsOver nodes node place next
  over_is next own below = by (row_at nodes node) refl own below
    where
      by : (found : Option Row) → row_at nodes node ≡ found → has_own place found ≡ false → below_in found ≡ Some next → IsOver nodes node place next
      by None there own below = absurd (cc below)
      by (Some row) there own below = over_driver row next row.driver there refl own below

pub size_below : (nodes : Nodes) (node place next : ℕ) → IsJoined nodes → has_own place (row_at nodes node) ≡ false → below_of nodes node ≡ Some next
    → node_size nodes next ≡ node_size nodes node
size_below nodes node place next joined is below = below_size nodes joined node place next (over_is nodes node place next is below)

-- ---- down a chain

or_neither : (a b : Bool) → a || b ≡ false → (a ≡ false) × (b ≡ false)
or_neither true b is = absurd (cc is)
or_neither false b is = (refl, is)

module _ (nodes : Nodes) (joined : IsJoined nodes) (told : AreTold nodes.devices) (base : Option ℕ) (place n : ℕ) (block : place % 65536 + n ≤ 65536) where
  abbrev Own : ℕ → Bool
  Own m = has_own place (row_at nodes m)

  abbrev Reads : ℕ → Option ℕ → Type 0
  Reads node end = bytes_at (disk_of nodes node) place n ≡ bytes_at (disk_under (disk_of nodes) end) place n

  disk_none : (node : ℕ) → row_at nodes node ≡ None → disk_of nodes node ≡ []
  unfolding disk_of
  disk_none node none =
      ap (λ (found : Option Row). elim found as (λ _. List ℕ) [ None ↦ [] | Some r ↦ disk_by nodes (disk_down 63 nodes) node r.driver ]) none

  -- an image over nothing that maps nothing there
  module _ (node : ℕ) (row : Row) (image : Known) (there : row_at nodes node ≡ Some row) (driver : row.driver ≡ Qcow2 image)
      (bare : entry_in image (place / cluster_size_in image) ≡ entries.Unallocated) (alone : backing_of nodes node ≡ None) (inside : place + n ≤ node_size nodes node) where
    lone : IsOverlay nodes node image
    lone = rw driver at (joined.below node row there)

    abbrev own_bytes : List ℕ
    own_bytes = bytes_of nodes lone.file

    lone_known : IsImageOf own_bytes image
    lone_known =
        let held = told_held lone.file nodes.devices told (held_by nodes lone.file joined lone.is_file) in
        lone.known held.0 own_bytes held.1 held.2

    lone_disk : disk_of nodes node ≡ image_disk own_bytes []
    lone_disk =
        unfolds nodes joined node row there ∙ ap (disk_by nodes (disk_of nodes) node) driver
        ∙ ap (λ (f : Option ℕ). image_disk (disk_under (bytes_of nodes) f) (disk_under (disk_of nodes) (backing_of nodes node))) lone.edge
        ∙ ap (λ (b : Option ℕ). image_disk own_bytes (disk_under (disk_of nodes) b)) alone

    zero_at : (i : ℕ) → i < n → get_or (disk_of nodes node) (place + i) 0 ≡ get_or [] (place + i) 0
    zero_at i less =
        let bits : (header_of own_bytes).cluster_bits ≡ 16 = ap (λ (h : Header). h.cluster_bits) lone_known.header ∙ lone.opened.cluster_bits in
        let whole : (header_of own_bytes).size ≡ image.header.size = ap (λ (h : Header). h.size) lone_known.header in
        let sized : image.header.size ≡ row.size = rw driver at (joined.sized node row there) in
        let size : node_size nodes node ≡ row.size = ap size_by there in
        let block_is : cluster_size_in image ≡ 65536 = let opened = lone.opened.cluster_bits in rw opened refl in
        let same : (place + i) / 65536 ≡ place / 65536 = omega (arith, block, less) in
        let entry : file_entry own_bytes ((place + i) / 65536) ≡ entries.Unallocated
        = ap (file_entry own_bytes) same
        ∙ entry_of_file own_bytes image (place / 65536) lone_known (has_entry image (place / 65536) lone.opened (omega (arith, inside, less, sized, size)))
        ∙ ap (λ (c : ℕ). entry_in image (place / c)) (sym block_is) ∙ bare in
        ap (λ (d : List ℕ). get_or d (place + i) 0) lone_disk
        ∙ get_or-image_disk own_bytes [] (place + i) (omega (arith, inside, less, whole, sized, size))
        ∙ guest_unallocated own_bytes [] (place + i) bits entry

    lone_zeros : Reads node None
    lone_zeros =
        bytes_at-by_place [] (bytes_at (disk_of nodes node) place n) place n (length-bytes_at (disk_of nodes node) place n)
        (λ i less. get_or-bytes_at (disk_of nodes node) place n i less ∙ zero_at i less)

  nothing_driver : (node : ℕ) (row : Row) (d : Driver) → row_at nodes node ≡ Some row → row.driver ≡ d → has_own_by place d ≡ false → below_by nodes node d ≡ None
      → place + n ≤ node_size nodes node → Reads node None
  nothing_driver node row File there driver own none inside = absurd (cc own)
  nothing_driver node row (Raw part) there driver own none inside = absurd (cc own)
  nothing_driver node row (Qcow2 image) there driver own none inside =
      let bare : is_unallocated (entry_in image (place / cluster_size_in image)) ≡ true = not_free (is_unallocated (entry_in image (place / cluster_size_in image))) own in
      lone_zeros node row image there driver (bare_entry (entry_in image (place / cluster_size_in image)) bare) none inside
  nothing_driver node row CopyOnRead there driver own none inside =
      let is : IsCopying nodes node row.size = rw driver at (joined.below node row there) in
      let bad : Some is.child ≡ None = sym is.edge ∙ none in
      absurd (cc bad)
  nothing_driver node row (Filter kind) there driver own none inside =
      let lone : disk_of nodes node ≡ replicate (node_size nodes node) 0
      = unfolds nodes joined node row there ∙ ap (disk_by nodes (disk_of nodes) node) driver
      ∙ ap (disk_through (node_size nodes node) (disk_of nodes)) none in
      bytes_at-by_place [] (bytes_at (disk_of nodes node) place n) place n (length-bytes_at (disk_of nodes node) place n)
      (λ i less.
      get_or-bytes_at (disk_of nodes node) place n i less ∙ ap (λ (d : List ℕ). get_or d (place + i) 0) lone
      ∙ get_or-replicate (node_size nodes node) (place + i) 0 0 (omega (arith, inside, less)))

  nothing_below : (node : ℕ) → Own node ≡ false → below_of nodes node ≡ None → place + n ≤ node_size nodes node → Reads node None
  nothing_below node own none inside = by (row_at nodes node) refl own none
    where
      by : (found : Option Row) → row_at nodes node ≡ found → has_own place found ≡ false → below_in nodes node place found ≡ None → Reads node None
      by None there own none = ap (λ (d : List ℕ). bytes_at d place n) (disk_none node there)
      by (Some row) there own none = nothing_driver node row row.driver there refl own none inside

  abbrev rest_of : ℕ → Option ℕ → List ℕ
  rest_of turns found = elim found as (λ _. List ℕ) [ None ↦ [] | Some next ↦ between_in turns nodes base next ]

  abbrev end_of_rest : ℕ → Option ℕ → Option ℕ
  end_of_rest turns found = elim found as (λ _. Option ℕ) [ None ↦ None | Some next ↦ end_in turns nodes base next ]

  starts_on : (turns node next : ℕ) → IsOver nodes node place next → StartsAt nodes.graph.edges turns next → StartsAt nodes.graph.edges (suc turns) node
  starts_on turns node next over starts = elim over.how [
    | inl filter ↦ elim filter [
      | inl copies ↦
          let e = child-edge (Node node) FileRole nodes.graph.edges next copies.1 in (e.edge, e.there, e.from, rw e.to starts)
      | inr passes ↦
          let e = child-edge (Node node) Filtered nodes.graph.edges next passes.2 in (e.edge, e.there, e.from, rw e.to starts)
    ]
    | inr image ↦
        let e = child-edge (Node node) Backing nodes.graph.edges next image.3 in (e.edge, e.there, e.from, rw e.to starts)
  ]

  shows : (turns node : ℕ) → (StartsAt nodes.graph.edges turns node → ⊥) → place + n ≤ node_size nodes node → list_any Own (between_in turns nodes base node) ≡ false
      → Reads node (end_in turns nodes base node)
  shows zero node none inside held = absurd (none tt)
  shows (suc turns) node none inside held = by (is_base base node) held (shows turns)
    where
      on : (found : Option ℕ) → below_of nodes node ≡ found → Own node ≡ false → list_any Own (rest_of turns found) ≡ false
          → ((m : ℕ) → (StartsAt nodes.graph.edges turns m → ⊥) → place + n ≤ node_size nodes m → list_any Own (between_in turns nodes base m) ≡ false
          → Reads m (end_in turns nodes base m))
          → Reads node (end_of_rest turns found)
      on None there own held rest = nothing_below node own there inside
      on (Some next) there own held rest =
          let over : IsOver nodes node place next = over_is nodes node place next own there in
          let size : node_size nodes next ≡ node_size nodes node = size_below nodes node place next joined own there in
          below_reads nodes joined node place next over told place n refl block inside
          ∙ rest next (λ starts. none (starts_on turns node next over starts)) (omega (arith, inside, size)) held

      by : (b : Bool) → list_any Own (cond b [] (node ∷ rest_of turns (below_of nodes node))) ≡ false
          → ((m : ℕ) → (StartsAt nodes.graph.edges turns m → ⊥) → place + n ≤ node_size nodes m → list_any Own (between_in turns nodes base m) ≡ false
          → Reads m (end_in turns nodes base m))
          → Reads node (cond b (Some node) (end_of_rest turns (below_of nodes node)))
      by true held rest = refl
      by false held rest =
          let none_here = or_neither (Own node) (list_any Own (rest_of turns (below_of nodes node))) held in
          on (below_of nodes node) refl none_here.0 none_here.1 rest

  pub chain_shows : (top : ℕ) → place + n ≤ node_size nodes top → is_held_between nodes base top place ≡ false → Reads top (chain_end nodes base top)
  unfolding nodes_between chain_end
  chain_shows top inside held = shows 64 top (no_path nodes joined 64 (omega arith) top) inside held

-- ---- an image over another backing disk

module _ (file a b : List ℕ) (place : ℕ) (bits : (header_of file).cluster_bits ≡ 16)
    (same : file_entry file (place / 65536) ≡ entries.Unallocated → get_or a place 0 ≡ get_or b place 0) where
  by_entry : (c : ℕ) (e : L2Entry) → (e ≡ entries.Unallocated → get_or a place 0 ≡ get_or b place 0) → byte_by_entry file c a place e ≡ byte_by_entry file c b place e
  by_entry c entries.Unallocated is = is refl
  by_entry c (entries.Zero host) is = refl
  by_entry c (entries.Host host) is = refl
  by_entry c entries.Compressed is = refl
  by_entry c entries.Reserved is = refl

  guest_same : guest_byte file a place ≡ guest_byte file b place
  unfolding guest_byte
  guest_same =
      let c : ℕ = cluster_size (header_of file).cluster_bits in
      let size : c ≡ 65536 = rw bits refl in
      by_entry c (file_entry file (place / c)) (λ bare. same (ap (λ (k : ℕ). file_entry file (place / k)) (sym size) ∙ bare))

image_alike : (file a b : List ℕ) → ((place : ℕ) → place < (header_of file).size → guest_byte file a place ≡ guest_byte file b place) → image_disk file a ≡ image_disk file b
image_alike file a b each =
    ext_get_or 0 (image_disk file a) (image_disk file b) (length-image_disk file a ∙ sym (length-image_disk file b))
    (λ place less.
    let size = length-image_disk file a in
    let inside : place < (header_of file).size = omega (arith, less, size) in
    get_or-image_disk file a place inside ∙ each place inside ∙ sym (get_or-image_disk file b place inside))

module _ (nodes : Nodes) (joined : IsJoined nodes) (told : AreTold nodes.devices) (base : Option ℕ) (top below file : ℕ) (is_image : IsImage nodes top)
    (edge : file_of nodes top ≡ Some file) (over : backing_of nodes top ≡ Some below) (ends : chain_end nodes base below ≡ base)
    (each : (block : ℕ) → block * 65536 < node_size nodes top
    → (has_own (block * 65536) (row_at nodes top) ≡ true) ⊎ (is_held_between nodes base below (block * 65536) ≡ false)) where
  found : (row : Row) × (image : Known) × (row_at nodes top ≡ Some row) × (row.driver ≡ Qcow2 image) × Unit {0}
  found = has_image (row_at nodes top) (λ _. Unit {0}) is_image

  abbrev row : Row
  row = found.0

  abbrev image : Known
  image = found.1

  overlay : IsOverlay nodes top image
  overlay = rw found.3 at (joined.below top row found.2)

  same_file : overlay.file ≡ file
  same_file = cc (sym overlay.edge ∙ edge)

  abbrev bytes : List ℕ
  bytes = bytes_of nodes overlay.file

  known : IsImageOf bytes image
  known =
      let held = told_held overlay.file nodes.devices told (held_by nodes overlay.file joined overlay.is_file) in
      overlay.known held.0 bytes held.1 held.2

  bits : (header_of bytes).cluster_bits ≡ 16
  bits = ap (λ (h : Header). h.cluster_bits) known.header ∙ overlay.opened.cluster_bits

  size_is : (header_of bytes).size ≡ node_size nodes top
  size_is =
      let sized : image.header.size ≡ row.size = rw found.3 at (joined.sized top row found.2) in
      ap (λ (h : Header). h.size) known.header ∙ sized ∙ sym (ap size_by found.2)

  size_over : node_size nodes below ≡ node_size nodes top
  size_over =
      let has = overlay.backing below over in
      ap size_by has.there ∙ has.is ∙ sym (ap (λ (h : Header). h.size) known.header) ∙ size_is

  top_is : disk_of nodes top ≡ image_disk bytes (disk_of nodes below)
  top_is =
      unfolds nodes joined top row found.2 ∙ ap (disk_by nodes (disk_of nodes) top) found.3
      ∙ ap (λ (f : Option ℕ). image_disk (disk_under (bytes_of nodes) f) (disk_under (disk_of nodes) (backing_of nodes top))) overlay.edge
      ∙ ap (λ (b : Option ℕ). image_disk bytes (disk_under (disk_of nodes) b)) over

  own_is : (place : ℕ) → has_own place (row_at nodes top) ≡ true → entry_in image (place / cluster_size_in image) ≢ entries.Unallocated
  own_is place own =
      let here : has_own_by place (Qcow2 image) ≡ true = ap (has_own_by place) (sym found.3) ∙ ap (has_own place) (sym found.2) ∙ own in
      mapped_entry (entry_in image (place / cluster_size_in image)) (not_bare (is_unallocated (entry_in image (place / cluster_size_in image))) here)

  at_place : (place : ℕ) → place < (header_of bytes).size → guest_byte bytes (disk_under (disk_of nodes) base) place ≡ guest_byte bytes (disk_of nodes below) place
  at_place place less =
      let size = size_is in
      let block : ℕ = place / 65536 in
      let start : ℕ = block * 65536 in
      let n : ℕ = min 65536 (node_size nodes top - start) in
      let inside : start < node_size nodes top = omega (arith, less, size) in
      guest_same bytes (disk_under (disk_of nodes) base) (disk_of nodes below) place bits
      (λ bare. elim (each block inside) [
        | inl own ↦
            let c_is : cluster_size_in image ≡ 65536 = let opened = overlay.opened.cluster_bits in rw opened refl in
            let cluster : start / cluster_size_in image ≡ block = ap (λ (c : ℕ). start / c) c_is ∙ omega arith in
            let header = ap (λ (h : Header). h.size) known.header in
            let entry : file_entry bytes block ≡ entry_in image block = entry_of_file bytes image block known (has_entry image block overlay.opened (omega (arith, less, header))) in
            absurd (own_is start own (ap (entry_in image) cluster ∙ sym entry ∙ bare))
        | inr free ↦
            let over_size = size_over in
            let shown = chain_shows nodes joined told base start n (omega arith) below (omega (arith, over_size, inside)) free in
            let i : ℕ = place - start in
            let at : start + i ≡ place = omega arith in
            let few : i < n = omega (arith, less, size) in
            let same : bytes_at (disk_of nodes below) start n ≡ bytes_at (disk_under (disk_of nodes) base) start n
            = shown ∙ ap (λ (e : Option ℕ). bytes_at (disk_under (disk_of nodes) e) start n) ends in
            sym (ap (λ (j : ℕ). get_or (disk_of nodes below) j 0) (sym at) ∙ sym (get_or-bytes_at (disk_of nodes below) start n i few)
            ∙ ap (λ (xs : List ℕ). get_or xs i 0) same ∙ get_or-bytes_at (disk_under (disk_of nodes) base) start n i few
            ∙ ap (λ (j : ℕ). get_or (disk_under (disk_of nodes) base) j 0) at)
      ])

  pub over_alone : image_disk (bytes_of nodes file) (disk_under (disk_of nodes) base) ≡ disk_of nodes top
  over_alone =
      ap (λ (f : ℕ). image_disk (bytes_of nodes f) (disk_under (disk_of nodes) base)) (sym same_file)
      ∙ image_alike bytes (disk_under (disk_of nodes) base) (disk_of nodes below) at_place ∙ sym top_is
