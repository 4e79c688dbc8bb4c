-- Which images a read meets down a chain, and what a piece that is written to one of them leaves.
use Rattle.std.proofs.Common.{◌≡◌, ◌≢◌, ℕ, zero, suc, ◌+◌, ◌/◌, ◌%◌, ◌<◌, ◌≤◌, ◌==◌, Bool, true, false, cond, List, [], ◌∷◌, length, get_or, Option, Some, None, refl, sym, ◌∙◌, ap, subst, arith, inl, inr}
use Rattle.std.specs.Prelude.{◌⊎◌, ◌&&◌, AllPairs, Contains, IsSome, is_some}
use Rattle.std.proofs.lemmas.Bool.{cases_eq, eq-eqb, ne_eqb}
use Rattle.blk_base.specs.Content.{bytes_at}
use Rattle.blk_base.specs.Pieces.{Extent}
use Rattle.blk_base.specs.declared.fault.Outcome.{Outcome}
use Rattle.blk_base.specs.declared.fault.Outcome.TheVariants.{Good, Torn, Io, NoSpace}
use Rattle.blk_base.proofs.Contents.{bytes_at-by_place, get_or-bytes_at, length-bytes_at}
use Rattle.blk_graph.specs.Edits.{child_of}
use Rattle.blk_graph.specs.Graph.{Graph}
use Rattle.blk_graph.specs.Paths.{Reaches}
use Rattle.blk_graph.specs.declared.edge.Edge.{Edge}
use Rattle.blk_graph.specs.declared.edge.Parent.TheVariants.{Node}
use Rattle.blk_graph.specs.declared.edge.Role.{Role}
use Rattle.blk_graph.specs.declared.edge.Role.TheVariants.{File as FileRole, Backing, Filtered}
use Rattle.blk_graph.proofs.ChildLemmas.{child-edge}
use Rattle.blk_graph.proofs.Members.{Contains-nil, Contains-cases, find-Some}
use Rattle.blk_graph.proofs.PathLemmas.{Reaches-edge, Reaches-joined}
use Rattle.blk_graph.proofs.RoleLemmas.{tail_pairs, head_pairs}
use Rattle.q2_format.specs.Contents.{image_disk}
use Rattle.q2_format.specs.Header.{header_of}
use Rattle.q2_format.specs.Sizes.{cluster_size}
use Rattle.q2_format.specs.declared.header.Header.{Header}
use Rattle.q2_format.specs.declared.entries.L2Entry.{L2Entry}
use Rattle.q2_format.specs.declared.entries.L2Entry.TheVariants as entries
use Rattle.q2_image.specs.Guest.{file_entry}
use Rattle.q2_image.specs.Image.{Known, IsImageOf, cluster_size_in, clusters_in, entry_in}
use Rattle.q2_image.specs.Reading.{IsHost}
use Rattle.q2_image.specs.Room.{WriteFits, WriteFitsBy, cluster_of, entry_for, is_whole}
use Rattle.q2_image.specs.Writing.{PutFits}
use Rattle.q2_image.proofs.Guests.{guest_unallocated}
use Rattle.q2_image.proofs.Mapped.{entry_of_file}
use Rattle.blk_nodes.specs.Changing.{IsImageWritten, ChangesAround, ChangesPart, ChangesRow, LeavesRow}
use Rattle.blk_nodes.specs.Contents.{IsToldDisk, disk_under, disk_through, disk_by, disk_of, bytes_by, bytes_of}
use Rattle.blk_nodes.specs.Copying.{AtEach, HasRoomIn, GoesWhole, IsMappedAt, IsRoomInEach, LeavesRest, is_unallocated, is_copy_on_read, shows_below_at, puts_below, images_met_in}
use Rattle.blk_nodes.specs.Joined.{IsOverlay, IsCopying, IsFiltering, IsJoined, DifferInNode}
use Rattle.blk_nodes.specs.Nodes.{Nodes, DeviceSeen, AreTold, is_device_of, row_at, device_in, size_by, node_size, file_of, backing_of, filtered_of}
use Rattle.blk_nodes.specs.Parts.{OfImage}
use Rattle.blk_nodes.specs.Reading.{LeadsTo}
use Rattle.blk_nodes.specs.Sources.{in_file, in_image, in_below, step_by_entry, step_by, step_of}
use Rattle.blk_nodes.specs.Writing.{IsTornAt, HasPieceCause, WritesImage, WritesBy, WritesPiece, IsDriverAfter, AreRowsAfter, LeavesNodes, HasImageIn, OwnsFile, CanBeWritten, MayWriteThrough, FitsAt, HasRoomAt, own_file, own_place_by, rest_span}
use Rattle.blk_nodes.specs.declared.row.Driver.{Driver}
use Rattle.blk_nodes.specs.declared.row.Driver.TheVariants.{File, Raw, Qcow2, CopyOnRead, Filter}
use Rattle.blk_nodes.specs.declared.row.FilterKind.{FilterKind}
use Rattle.blk_nodes.specs.declared.row.Row.{Row}
use Rattle.blk_nodes.specs.declared.source.Source.{Source}
use Rattle.blk_nodes.specs.declared.source.Source.TheVariants as sources
use Rattle.blk_nodes.specs.declared.source.Step.{Step}
use Rattle.blk_nodes.specs.declared.source.Step.TheVariants.{Found, Below}
use Rattle.blk_nodes.proofs.Chains.{get_or-image_disk, has_entry}
use Rattle.blk_nodes.proofs.Disks.{bytes_risen}
use Rattle.blk_nodes.proofs.HeldDevices.{before_rise, told_held, some_device}
use Rattle.blk_nodes.proofs.Joints.{held_by}
use Rattle.blk_nodes.proofs.Rows.{has_image, image_found, of_image}
use Rattle.blk_nodes.proofs.Unfolding.{unfolds}

-- ---- lists

pub each_so : (P Q : ℕ → Type 0) → ((n : ℕ) → P n → Q n) → (xs : List ℕ) → AtEach P xs → AtEach Q xs
each_so P Q f [] is = tt
each_so P Q f (x ∷ xs) is = (f x is.0, each_so P Q f xs is.1)

pub each_both : (P Q : ℕ → Type 0) (xs : List ℕ) → AtEach P xs → AtEach Q xs → AtEach (λ n. P n × Q n) xs
each_both P Q [] p q = tt
each_both P Q (x ∷ xs) p q = ((p.0, q.0), each_both P Q xs p.1 q.1)

-- ---- a step to the node below

in_file_not : (found : Option ℕ) (start next : ℕ) → in_file found start ≡ Below next → ⊥
in_file_not None start next is = cc is
in_file_not (Some file) start next is = cc is

in_image_not : (node : ℕ) (found : Option ℕ) (next : ℕ) → in_image node found ≡ Below next → ⊥
in_image_not node None next is = cc is
in_image_not node (Some file) next is = cc is

in_below_is : (found : Option ℕ) (next : ℕ) → in_below found ≡ Below next → found ≡ Some next
in_below_is None next is = absurd (cc is)
in_below_is (Some node) next is = let same : node ≡ next = cc is in ap (λ (k : ℕ). Some k) same

by_entry : (node : ℕ) (file over : Option ℕ) (e : L2Entry) (next : ℕ) → step_by_entry node file over e ≡ Below next → (e ≡ entries.Unallocated) × (over ≡ Some next)
by_entry node file over entries.Unallocated next is = (refl, in_below_is over next is)
by_entry node file over (entries.Zero host) next is = absurd (cc is)
by_entry node file over (entries.Host host) next is = absurd (in_image_not node file next is)
by_entry node file over entries.Compressed next is = absurd (cc is)
by_entry node file over entries.Reserved next is = absurd (cc is)

-- a filter is over the node below: copy-on-read, or one of a job
abbrev pub Filters : Nodes → ℕ → Driver → ℕ → Type 0
Filters nodes node driver next = ((driver ≡ CopyOnRead) × (file_of nodes node ≡ Some next))
    ⊎ ((kind : FilterKind) × (driver ≡ Filter kind) × (filtered_of nodes node ≡ Some next))

-- what is over the node below: a filter, or an image that has nothing there
pub record IsOver (nodes : Nodes) (node place next : ℕ) : Type 0 where
  pub row : Row
  pub there : row_at nodes node ≡ Some row
  pub how : Filters nodes node row.driver next
      ⊎ ((image : Known) × (row.driver ≡ Qcow2 image) × (entry_in image (place / cluster_size_in image) ≡ entries.Unallocated) × (backing_of nodes node ≡ Some next))

module _ (nodes : Nodes) (node place next : ℕ) where
  by_driver : (row : Row) (driver : Driver) → row_at nodes node ≡ Some row → row.driver ≡ driver
      → step_by node (file_of nodes node) (backing_of nodes node) (filtered_of nodes node) place driver ≡ Below next → IsOver nodes node place next
  by_driver row File there driver is = absurd (cc is)
  by_driver row (Raw part) there driver is = absurd (in_file_not (file_of nodes node) (part.offset + place) next is)
  by_driver row (Qcow2 image) there driver is =
      let e = by_entry node (file_of nodes node) (backing_of nodes node) (entry_in image (place / cluster_size_in image)) next is in
      record { row = row; there = there; how = inr (image, driver, e.0, e.1) }
  by_driver row CopyOnRead there driver is = record { row = row; there = there; how = inl (inl (driver, in_below_is (file_of nodes node) next is)) }
  by_driver row (Filter kind) there driver is = record { row = row; there = there; how = inl (inr (kind, driver, in_below_is (filtered_of nodes node) next is)) }

  pub over_below : step_of nodes node place ≡ Below next → IsOver nodes node place next
  over_below is = by_row (row_at nodes node) refl is
    where
      by_row : (found : Option Row) → row_at nodes node ≡ found
          → elim found as (λ _. Step) [
            | None ↦ Found sources.Zeros
            | Some row ↦ step_by node (file_of nodes node) (backing_of nodes node) (filtered_of nodes node) place row.driver
          ] ≡ Below next → IsOver nodes node place next
      by_row None there is = absurd (cc is)
      by_row (Some row) there is = by_driver row row.driver there refl is

child_reaches : (edges : List Edge) (node child : ℕ) (role : Role) → child_of (Node node) role edges ≡ Some child → Reaches edges node child
child_reaches edges node child role is =
    let e = child-edge (Node node) role edges child is in subst (Reaches edges node) e.to (Reaches-edge edges node e.edge e.there e.from)

filter_reaches : (nodes : Nodes) (node next : ℕ) (driver : Driver) → Filters nodes node driver next → Reaches nodes.graph.edges node next
filter_reaches nodes node next driver (inl copies) = child_reaches nodes.graph.edges node next FileRole copies.1
filter_reaches nodes node next driver (inr passes) = child_reaches nodes.graph.edges node next Filtered passes.2

module _ (nodes : Nodes) (joined : IsJoined nodes) (node place next : ℕ) (over : IsOver nodes node place next) where
  pub below_reached : Reaches nodes.graph.edges node next
  below_reached = elim over.how [
    | inl filter ↦ filter_reaches nodes node next over.row.driver filter
    | inr image ↦ child_reaches nodes.graph.edges node next Backing image.3
  ]

  overlay : (image : Known) → over.row.driver ≡ Qcow2 image → IsOverlay nodes node image
  overlay image driver = rw driver at (joined.below node over.row over.there)

  pub below_size : node_size nodes next ≡ node_size nodes node
  below_size = elim over.how [
    | inl filter ↦ elim filter [
      | inl copies ↦
          let is : IsCopying nodes node over.row.size = rw copies.0 at (joined.below node over.row over.there) in
          let child : is.child ≡ next = cc (sym is.edge ∙ copies.1) in
          let has = is.same in
          ap (node_size nodes) (sym child) ∙ ap size_by has.there ∙ has.is ∙ sym (ap size_by over.there)
      | inr passes ↦
          let is : IsFiltering nodes node over.row.size = rw passes.1 at (joined.below node over.row over.there) in
          let has = is next passes.2 in
          ap size_by has.there ∙ has.is ∙ sym (ap size_by over.there)
    ]
    | inr image ↦
        let is : IsOverlay nodes node image.0 = overlay image.0 image.1 in
        let has = is.backing next image.3 in
        let sized : image.0.header.size ≡ over.row.size = rw image.1 at (joined.sized node over.row over.there) in
        ap size_by has.there ∙ has.is ∙ sized ∙ sym (ap size_by over.there)
  ]

  module _ (told : AreTold nodes.devices) (start n : ℕ) (here : start ≡ place) (block : start % 65536 + n ≤ 65536) (inside : start + n ≤ node_size nodes node) where
    disk_unfolds : (driver : Driver) → over.row.driver ≡ driver → disk_of nodes node ≡ disk_by nodes (disk_of nodes) node driver
    disk_unfolds driver is = unfolds nodes joined node over.row over.there ∙ ap (disk_by nodes (disk_of nodes) node) is

    point : (i : ℕ) → i < n → get_or (disk_of nodes node) (start + i) 0 ≡ get_or (disk_of nodes next) (start + i) 0
    point i less = elim over.how [
      | inl filter ↦ ap (λ (d : List ℕ). get_or d (start + i) 0) (elim filter [
        | inl copies ↦ disk_unfolds CopyOnRead copies.0 ∙ ap (disk_under (disk_of nodes)) copies.1
        | inr passes ↦ disk_unfolds (Filter passes.0) passes.1 ∙ ap (disk_through (node_size nodes node) (disk_of nodes)) passes.2
      ])
      | inr image ↦
          let is : IsOverlay nodes node image.0 = overlay image.0 image.1 in
          let held = told_held is.file nodes.devices told (held_by nodes is.file joined is.is_file) in
          let known : IsImageOf (bytes_of nodes is.file) image.0 = is.known held.0 (bytes_of nodes is.file) held.1 held.2 in
          let bits : (header_of (bytes_of nodes is.file)).cluster_bits ≡ 16 = ap (λ (h : Header). h.cluster_bits) known.header ∙ is.opened.cluster_bits in
          let whole : (header_of (bytes_of nodes is.file)).size ≡ image.0.header.size = ap (λ (h : Header). h.size) known.header in
          let sized : image.0.header.size ≡ over.row.size = rw image.1 at (joined.sized node over.row over.there) in
          let size : node_size nodes node ≡ over.row.size = ap size_by over.there in
          let block_is : cluster_size_in image.0 ≡ 65536 = let opened = is.opened.cluster_bits in rw opened refl in
          let same : (start + i) / 65536 ≡ place / 65536 = omega (arith, here, block, less) in
          let entry : file_entry (bytes_of nodes is.file) ((start + i) / 65536) ≡ entries.Unallocated
          = ap (file_entry (bytes_of nodes is.file)) same
          ∙ entry_of_file (bytes_of nodes is.file) image.0 (place / 65536) known (has_entry image.0 (place / 65536) is.opened (omega (arith, here, inside, less, sized, size)))
          ∙ ap (λ (c : ℕ). entry_in image.0 (place / c)) (sym block_is) ∙ image.2 in
          ap (λ (d : List ℕ). get_or d (start + i) 0)
          (disk_unfolds (Qcow2 image.0) image.1
          ∙ ap (λ (f : Option ℕ). image_disk (disk_under (bytes_of nodes) f) (disk_under (disk_of nodes) (backing_of nodes node))) is.edge
          ∙ ap (λ (b : Option ℕ). image_disk (bytes_of nodes is.file) (disk_under (disk_of nodes) b)) image.3)
          ∙ get_or-image_disk (bytes_of nodes is.file) (disk_of nodes next) (start + i) (omega (arith, inside, less, whole, sized, size))
          ∙ guest_unallocated (bytes_of nodes is.file) (disk_of nodes next) (start + i) bits entry
    ]

    pub below_reads : bytes_at (disk_of nodes node) start n ≡ bytes_at (disk_of nodes next) start n
    below_reads =
        bytes_at-by_place (disk_of nodes next) (bytes_at (disk_of nodes node) start n) start n (length-bytes_at (disk_of nodes node) start n)
        (λ i less. get_or-bytes_at (disk_of nodes node) start n i less ∙ point i less)

-- ---- the images that are met

module _ (nodes : Nodes) (place : ℕ) where
  -- the images that are met below a step
  abbrev pub met_by : (ℕ → List ℕ) → ℕ → Step → List ℕ
  met_by rest node step = elim step as (λ _. List ℕ) [
    | Found source ↦ []
    | Below next ↦ cond (puts_below (row_at nodes node) (row_at nodes next) place) (next ∷ rest next) (rest next)
  ]

  pub met_on : (turns left node next : ℕ) (puts : Bool) → turns ≡ suc left → step_of nodes node place ≡ Below next → puts_below (row_at nodes node) (row_at nodes next) place ≡ puts
      → images_met_in turns nodes node place ≡ cond puts (next ∷ images_met_in left nodes next place) (images_met_in left nodes next place)
  met_on turns left node next puts one is put =
      ap (λ (k : ℕ). images_met_in k nodes node place) one
      ∙ ap (met_by (λ n. images_met_in left nodes n place) node) is
      ∙ ap (λ (b : Bool). cond b (next ∷ images_met_in left nodes next place) (images_met_in left nodes next place)) put

  pub met_none : (turns node : ℕ) → turns ≡ 0 → images_met_in turns nodes node place ≡ []
  met_none turns node none = ap (λ (k : ℕ). images_met_in k nodes node place) none

  pub met_ends : (turns node : ℕ) → ((next : ℕ) → step_of nodes node place ≡ Below next → ⊥) → images_met_in turns nodes node place ≡ []
  met_ends zero node ends = refl
  met_ends (suc turns) node ends = by_step (step_of nodes node place) refl
    where
      by_step : (s : Step) → step_of nodes node place ≡ s → met_by (λ n. images_met_in turns nodes n place) node s ≡ []
      by_step (Found source) is = refl
      by_step (Below next) is = absurd (ends next is)

  pub met_found : (turns node : ℕ) (source : Source) → step_of nodes node place ≡ Found source → images_met_in turns nodes node place ≡ []
  met_found turns node source is = met_ends turns node (λ next goes. let clash : Found source ≡ Below next = sym is ∙ goes in cc clash)

  -- they are below the node
  pub met_reached : (turns node : ℕ) → AtEach (Reaches nodes.graph.edges node) (images_met_in turns nodes node place)
  met_reached zero node = tt
  met_reached (suc turns) node = by_step (step_of nodes node place) refl (met_reached turns)
    where
      by_step : (s : Step) → step_of nodes node place ≡ s → ((n : ℕ) → AtEach (Reaches nodes.graph.edges n) (images_met_in turns nodes n place))
          → AtEach (Reaches nodes.graph.edges node) (met_by (λ n. images_met_in turns nodes n place) node s)
      by_step (Found source) is each = tt
      by_step (Below next) is each = by_puts (puts_below (row_at nodes node) (row_at nodes next) place)
        where
          first : Reaches nodes.graph.edges node next
          first = elim (over_below nodes node place next is).how [
            | inl filter ↦ filter_reaches nodes node next (over_below nodes node place next is).row.driver filter
            | inr image ↦ child_reaches nodes.graph.edges node next Backing image.3
          ]

          rest : AtEach (Reaches nodes.graph.edges node) (images_met_in turns nodes next place)
          rest = each_so (Reaches nodes.graph.edges next) (Reaches nodes.graph.edges node) (λ n further. Reaches-joined nodes.graph.edges node next n first further) (images_met_in turns nodes next place) (each next)

          by_puts : (b : Bool) → AtEach (Reaches nodes.graph.edges node) (cond b (next ∷ images_met_in turns nodes next place) (images_met_in turns nodes next place))
          by_puts true = (first, rest)
          by_puts false = rest

  -- and the node isn't one of them
  pub met_apart : IsJoined nodes → (turns node : ℕ) → AtEach (λ n. node ≢ n) (images_met_in turns nodes node place)
  met_apart joined turns node =
      each_so (Reaches nodes.graph.edges node) (λ n. node ≢ n) (λ n reaches same. joined.sound.just.acyclic node (subst (Reaches nodes.graph.edges node) (sym same) reaches))
      (images_met_in turns nodes node place) (met_reached turns node)

-- the image into which a cluster is put
pub record IsPutInto (nodes : Nodes) (node place : ℕ) : Type 0 where
  pub row : Row
  pub image : Known
  pub there : row_at nodes node ≡ Some row
  pub driver : row.driver ≡ Qcow2 image
  pub bare : entry_in image (place / cluster_size_in image) ≡ entries.Unallocated

pub put_into : (nodes : Nodes) (above node place : ℕ) → puts_below (row_at nodes above) (row_at nodes node) place ≡ true → IsPutInto nodes node place
put_into nodes above node place puts = by_rows (row_at nodes above) (row_at nodes node) refl puts
  where
    by_left : (a b : Bool) → a && b ≡ true → b ≡ true
    by_left true b is = is
    by_left false b is = absurd (cc is)

    none_there : (e : L2Entry) → is_unallocated e ≡ true → e ≡ entries.Unallocated
    none_there entries.Unallocated is = refl
    none_there (entries.Zero host) is = absurd (cc is)
    none_there (entries.Host host) is = absurd (cc is)
    none_there entries.Compressed is = absurd (cc is)
    none_there entries.Reserved is = absurd (cc is)

    by_child : (row : Row) (driver : Driver) → row_at nodes node ≡ Some row → row.driver ≡ driver → shows_below_at place driver ≡ true → IsPutInto nodes node place
    by_child row File there driver is = absurd (cc is)
    by_child row (Raw part) there driver is = absurd (cc is)
    by_child row (Qcow2 image) there driver is =
        record { row = row; image = image; there = there; driver = driver; bare = none_there (entry_in image (place / cluster_size_in image)) is }
    by_child row CopyOnRead there driver is = absurd (cc is)
    by_child row (Filter kind) there driver is = absurd (cc is)

    by_rows : (over child : Option Row) → row_at nodes node ≡ child → puts_below over child place ≡ true → IsPutInto nodes node place
    by_rows None child there is = absurd (cc is)
    by_rows (Some over) None there is = absurd (cc is)
    by_rows (Some over) (Some child) there is =
        by_child child child.driver there refl (by_left (is_copy_on_read over.driver) (shows_below_at place child.driver) is)

-- all that are met are such images
pub met_into : (nodes : Nodes) (place turns node : ℕ) → AtEach (λ m. IsPutInto nodes m place) (images_met_in turns nodes node place)
met_into nodes place zero node = tt
met_into nodes place (suc turns) node = by_step (step_of nodes node place) refl (met_into nodes place turns)
  where
    by_step : (s : Step) → step_of nodes node place ≡ s → ((n : ℕ) → AtEach (λ m. IsPutInto nodes m place) (images_met_in turns nodes n place))
        → AtEach (λ m. IsPutInto nodes m place) (met_by nodes place (λ n. images_met_in turns nodes n place) node s)
    by_step (Found source) is each = tt
    by_step (Below next) is each = by_puts (puts_below (row_at nodes node) (row_at nodes next) place) refl
      where
        by_puts : (b : Bool) → puts_below (row_at nodes node) (row_at nodes next) place ≡ b
            → AtEach (λ m. IsPutInto nodes m place) (cond b (next ∷ images_met_in turns nodes next place) (images_met_in turns nodes next place))
        by_puts true puts = (put_into nodes node next place puts, each next)
        by_puts false puts = each next

-- ---- the room of such an image

module _ (nodes : Nodes) (joined : IsJoined nodes) (node : ℕ) (span : Extent) (into : IsPutInto nodes node span.start) where
  into_overlay : IsOverlay nodes node into.image
  into_overlay = rw into.driver at (joined.below node into.row into.there)

  cluster_is : cluster_of into.image span ≡ span.start / 65536
  cluster_is = let bits = into_overlay.opened.cluster_bits in ap (λ (c : ℕ). span.start / c) (rw bits refl)

  pub entry_bare : entry_for into.image span ≡ entries.Unallocated
  entry_bare = into.bare

  pub fits_write : (capacity : ℕ) → PutFits into.image (span.start / 65536) capacity → WriteFits into.image span capacity
  fits_write capacity fits =
      subst (λ (e : L2Entry). WriteFitsBy e into.image span capacity) (sym entry_bare) (subst (λ (k : ℕ). PutFits into.image k capacity) (sym cluster_is) fits)

  pub fits_put : (capacity : ℕ) → WriteFits into.image span capacity → PutFits into.image (span.start / 65536) capacity
  fits_put capacity fits =
      subst (λ (k : ℕ). PutFits into.image k capacity) cluster_is (subst (λ (e : L2Entry). WriteFitsBy e into.image span capacity) entry_bare fits)

  -- asking for it
  pub held_there : (file : ℕ) → file_of nodes node ≡ Some file → IsSome (device_in nodes.devices file)
  held_there file edge =
      let is = into_overlay in
      let same : is.file ≡ file = cc (sym is.edge ∙ edge) in
      held_by nodes file joined (rw (sym same) is.is_file)

  pub cluster_there : span.start < node_size nodes node → OfImage (row_at nodes node) (λ image. span.start / 65536 < clusters_in image)
  cluster_there inside =
      let bits = into_overlay.opened.cluster_bits in
      let sized : into.image.header.size ≡ into.row.size = rw into.driver at (joined.sized node into.row into.there) in
      let size : node_size nodes node ≡ into.row.size = ap size_by into.there in
      of_image (row_at nodes node) into.row into.image (λ image. span.start / 65536 < clusters_in image) into.there into.driver (rw bits (omega (arith, inside, sized, size)))

  pub room_said : (file : ℕ) (room : Outcome) → file_of nodes node ≡ Some file
      → OfImage (row_at nodes node) (λ image. HasRoomAt file nodes.devices (PutFits image (span.start / 65536)) room) → IsRoomInEach (node ∷ []) nodes span room
  room_said file room edge said = by room has
    where
      has : HasRoomAt file nodes.devices (PutFits into.image (span.start / 65536)) room
      has = image_found (row_at nodes node) into.row into.image (λ image. HasRoomAt file nodes.devices (PutFits image (span.start / 65536)) room) into.there into.driver said

      device : (device : DeviceSeen) × (device_in nodes.devices file ≡ Some device)
      device = some_device (device_in nodes.devices file) (held_there file edge)

      by : (o : Outcome) → HasRoomAt file nodes.devices (PutFits into.image (span.start / 65536)) o → IsRoomInEach (node ∷ []) nodes span o
      by Good fits = (
        of_image (row_at nodes node) into.row into.image (λ image. (f : ℕ) → file_of nodes node ≡ Some f → FitsAt f nodes.devices (WriteFits image span)) into.there into.driver
            (λ f other d held.
            let same : f ≡ file = cc (sym other ∙ edge) in
            fits_write d.capacity (fits d (ap (device_in nodes.devices) (sym same) ∙ held))),
        tt,
      )
      by (Torn done dev count) fits = fits device.0 device.1
      by (Io dev count) fits = fits device.0 device.1
      by (NoSpace dev) fits =
          let full = fits device.0 device.1 in
          inr (
            tt,
            record {
              file = file;
              edge = edge;
              device = device.0;
              held = device.1;
              named = full.1;
              full = of_image (row_at nodes node) into.row into.image (λ image. WriteFits image span device.0.capacity → ⊥) into.there into.driver
                  (λ fit. full.0 (fits_put device.0.capacity fit));
            },
          )

-- ---- devices that tell their bytes

pub noded : (devices : List DeviceSeen) (x : DeviceSeen) → AllPairs DifferInNode devices → Contains devices x → device_in devices x.node ≡ Some x
noded [] x once there = absurd (Contains-nil x there)
noded (d ∷ devices) x once there = elim (Contains-cases d devices x there) [
  | inl here ↦ let at : (d.node == x.node) ≡ true = eq-eqb d.node x.node (ap (λ (y : DeviceSeen). y.node) (sym here)) in rw at (ap (λ (y : DeviceSeen). Some y) (sym here))
  | inr later ↦
      let past : (d.node == x.node) ≡ false = ne_eqb d.node x.node (head_pairs DifferInNode d devices once x later) in
      rw past (noded devices x (tail_pairs DifferInNode d devices once) later)
]

size_after : (a b : Option Row) → AreRowsAfter a b → size_by b ≡ size_by a
size_after None b is = ap size_by is
size_after (Some row) b is = ap size_by is.1 ∙ is.2.size

-- ---- a piece that is written to an image

module _ (old new : Nodes) (joined : IsJoined old) (now : IsJoined new) (node : ℕ) (span : Extent) (bytes : List ℕ) (outcome : Outcome) (may : MayWriteThrough old node)
    (into : IsPutInto old node span.start) (wrote : WritesPiece old new node span bytes outcome) (kept : LeavesNodes old new node) where
  abbrev place : Option ℕ
  place = own_place_by (entry_for into.image span) into.image span

  abbrev rest : Option Extent
  rest = rest_span place (is_whole into.image span) into.image span

  pub written : WritesImage (WriteFits into.image span) place rest old new node (length bytes) outcome
  written =
      let same : wrote.row ≡ into.row = cc (sym wrote.there ∙ into.there) in
      subst (λ (d : Driver). WritesBy d old new node span bytes outcome) (ap (λ (r : Row). r.driver) same ∙ into.driver) wrote.wrote

  may_driver : may.row.driver ≡ Qcow2 into.image
  may_driver = let same : may.row ≡ into.row = cc (sym may.there ∙ into.there) in ap (λ (r : Row). r.driver) same ∙ into.driver

  pub owns : OwnsFile old node written.file
  owns = may.owns written.file (ap (own_file old node) may_driver ∙ written.edge)

  pub child_same : (n : ℕ) (role : Role) → child_of (Node n) role new.graph.edges ≡ child_of (Node n) role old.graph.edges
  child_same n role = ap (λ (g : Graph). child_of (Node n) role g.edges) kept.graph

  pub bytes_same : (f : ℕ) → f ≢ written.file → bytes_of new f ≡ bytes_of old f
  bytes_same f apart = elim written.devices [
    | inl only ↦ ap bytes_by (only.others f apart)
    | inr risen ↦ bytes_risen old.devices new.devices risen f
  ]

  pub device_same : outcome ≡ Good → (f : ℕ) → f ≢ written.file → device_in new.devices f ≡ device_in old.devices f
  device_same good f apart =
      let cause = subst (HasPieceCause (WriteFits into.image span written.before.capacity) place rest (length bytes) written.file old new node written.before written.after) good written.cause in
      cause.2.others f apart

  image_before : (n f : ℕ) → HasImageIn new n f → HasImageIn old n f
  image_before n f has = elim (cases_eq n node) [
    | inl same ↦ record {
      row = into.row;
      image = into.image;
      there = ap (row_at old) same ∙ into.there;
      driver = into.driver;
      edge = sym (child_same n FileRole) ∙ has.edge;
    }
    | inr apart ↦ record {
      row = has.row;
      image = has.image;
      there = sym (kept.others n apart) ∙ has.there;
      driver = has.driver;
      edge = sym (child_same n FileRole) ∙ has.edge;
    }
  ]

  sizes_same : (n : ℕ) → node_size new n ≡ node_size old n
  sizes_same n = elim (cases_eq n node) [
    | inl same ↦ rw same (size_after (row_at old node) (row_at new node) kept.own)
    | inr apart ↦ ap size_by (kept.others n apart)
  ]

  told_after : AreTold old.devices → AreTold new.devices
  told_after told d there = elim written.devices [
    | inl only ↦ elim (cases_eq d.node written.file) [
      | inl same ↦
          let is : d ≡ written.after = cc (sym (noded new.devices d now.once there) ∙ ap (device_in new.devices) same ∙ written.left) in
          ap (λ (x : DeviceSeen). is_some x.content) is ∙ written.device.told ∙ told written.before (find-Some (is_device_of written.file) old.devices written.before written.held).0
      | inr apart ↦
          told d (find-Some (is_device_of d.node) old.devices d (sym (only.others d.node apart) ∙ noded new.devices d now.once there)).0
    ]
    | inr risen ↦
        let was = before_rise d.node old.devices new.devices d risen (noded new.devices d now.once there) in
        ap (λ (x : DeviceSeen). is_some x.content) was.2.same ∙ told was.0 (find-Some (is_device_of d.node) old.devices was.0 was.1).0
  ]

  -- it leaves the rest
  pub one_leaves : LeavesRest (node ∷ []) old new outcome
  one_leaves = record {
    graph = kept.graph;
    rows = λ other apart. kept.others other apart.0;
    sizes = sizes_same;
    alike = image_before;
    bytes = λ f apart. bytes_same f (λ same. apart.0 (written.edge ∙ ap (λ (k : ℕ). Some k) (sym same)));
    devices = λ good f apart. device_same good f (λ same. apart.0 (written.edge ∙ ap (λ (k : ℕ). Some k) (sym same)));
    told = told_after;
  }

  -- there is room for it, so that it is put whole or a fault stops it
  pub goes_whole : HasRoomIn old span node → GoesWhole outcome
  goes_whole room = by outcome written.cause
    where
      fits : WriteFits into.image span written.before.capacity
      fits =
          let found = has_image (row_at old node) (λ image. (file : ℕ) → file_of old node ≡ Some file → FitsAt file old.devices (WriteFits image span)) room in
          let rows : found.0 ≡ into.row = cc (sym found.2 ∙ into.there) in
          let images : found.1 ≡ into.image = cc (sym found.3 ∙ ap (λ (r : Row). r.driver) rows ∙ into.driver) in
          subst (λ (i : Known). WriteFits i span written.before.capacity) images (found.4 written.file written.edge written.before written.held)

      nowhere : place ≡ None
      nowhere = ap (λ (e : L2Entry). own_place_by e into.image span) (entry_bare old joined node span into)

      by : (o : Outcome) → HasPieceCause (WriteFits into.image span written.before.capacity) place rest (length bytes) written.file old new node written.before written.after o → GoesWhole o
      by Good is = tt
      by (Torn done dev count) is = absurd (subst (λ (p : Option ℕ). IsTornAt p (length bytes) done) nowhere is.1)
      by (Io dev count) is = tt
      by (NoSpace dev) is = absurd (is.0 fits)

  -- an image keeps the size of its clusters
  size_kept : (now : Known) → row_at new node ≡ Some (record wrote.row { driver = Qcow2 now }) → cluster_size_in now ≡ cluster_size_in into.image
  size_kept now left =
      let own : AreRowsAfter (Some into.row) (row_at new node) = subst (λ (r : Option Row). AreRowsAfter r (row_at new node)) into.there kept.own in
      let after : IsDriverAfter (Qcow2 into.image) own.0.driver = subst (λ (d : Driver). IsDriverAfter d own.0.driver) into.driver own.2.driver in
      let same : own.0 ≡ record wrote.row { driver = Qcow2 now } = cc (sym own.1 ∙ left) in
      let image : Qcow2 after.0 ≡ Qcow2 now = sym after.1 ∙ ap (λ (r : Row). r.driver) same in
      let known : after.0 ≡ now = cc image in
      subst (λ (k : Known). cluster_size_in k ≡ cluster_size_in into.image) known (ap (λ (h : Header). cluster_size h.cluster_bits) after.2)

  -- a good one maps the cluster
  pub mapped_after : outcome ≡ Good → IsMappedAt new span.start node
  mapped_after good =
      let same : wrote.row ≡ into.row = cc (sym wrote.there ∙ into.there) in
      let is : wrote.row.driver ≡ Qcow2 into.image = ap (λ (r : Row). r.driver) same ∙ into.driver in
      let left : ChangesRow (IsImageWritten (IsToldDisk old node) span bytes) into.image wrote.row old new node outcome
      = subst (λ (d : Driver). LeavesRow (IsImageWritten (IsToldDisk old node) span bytes) d wrote.row old new node outcome) is wrote.left in
      let changed : IsImageWritten (IsToldDisk old node) span bytes into.image left.now written.before written.after outcome
      = left.changed written.file written.before written.after written.edge written.held written.left in
      let around : ChangesAround (IsToldDisk old node) span bytes into.image left.now written.before written.after outcome
      = subst (λ (e : L2Entry). ChangesPart (IsToldDisk old node) e span bytes into.image left.now written.before written.after outcome) (entry_bare old joined node span into) changed in
      let made = subst (ChangesAround (IsToldDisk old node) span bytes into.image left.now written.before written.after) good around in
      let row : Row = record wrote.row { driver = Qcow2 left.now } in
      of_image (row_at new node) row left.now (λ image. IsHost (entry_in image (span.start / cluster_size_in image))) left.left refl
      (subst (λ (c : ℕ). IsHost (entry_in left.now (span.start / c))) (sym (size_kept left.now left.left)) made.1)

-- ---- what is left by several

module _ (old mid : Nodes) (images : List ℕ) (outcome : Outcome) (rest : LeavesRest images old mid outcome) where
  pub mid_child : (n : ℕ) (role : Role) → child_of (Node n) role mid.graph.edges ≡ child_of (Node n) role old.graph.edges
  mid_child n role = ap (λ (g : Graph). child_of (Node n) role g.edges) rest.graph

  -- a node that may be written and isn't one of them still may be
  pub may_still : (n : ℕ) → AtEach (λ m. n ≢ m) images → MayWriteThrough old n → MayWriteThrough mid n
  may_still n apart may = record {
    row = may.row;
    there = rest.rows n apart ∙ may.there;
    writable = may.writable;
    can = can may.row.driver may.can;
    owns = λ file own other has. may.owns file (sym (own_same may.row.driver) ∙ own) other (rest.alike other file has);
  }
    where
      own_same : (d : Driver) → own_file mid n d ≡ own_file old n d
      own_same File = refl
      own_same (Raw part) = mid_child n FileRole
      own_same (Qcow2 image) = mid_child n FileRole
      own_same CopyOnRead = refl
      own_same (Filter kind) = refl

      can : (d : Driver) → CanBeWritten old n d → CanBeWritten mid n d
      can File is = tt
      can (Raw part) is = tt
      can (Qcow2 image) is = λ over file backing edge leads.
          is over file (sym (mid_child n Backing) ∙ backing) (sym (mid_child n FileRole) ∙ edge) (subst (λ (g : Graph). LeadsTo g.edges over file) rest.graph leads)
      can CopyOnRead is = is
      can (Filter kind) is = is

  module _ (place : ℕ) (apart_of : ℕ) (apart : AtEach (λ m. apart_of ≢ m) images) (may : AtEach (MayWriteThrough old) images) (into : AtEach (λ m. IsPutInto old m place) images) where
    owned : (f m : ℕ) → HasImageIn old apart_of f → apart_of ≢ m → MayWriteThrough old m → IsPutInto old m place → file_of old m ≡ Some f → ⊥
    owned f m has other may into edge =
        let same : may.row ≡ into.row = cc (sym may.there ∙ into.there) in
        other (may.owns f (ap (own_file old m) (ap (λ (r : Row). r.driver) same ∙ into.driver) ∙ edge) apart_of has)

    -- the file of an image that isn't one of them is no file of theirs
    pub files_apart : (f : ℕ) → HasImageIn old apart_of f → AtEach (λ m. file_of old m ≢ Some f) images
    files_apart f has =
        each_so (λ m. (apart_of ≢ m) × (MayWriteThrough old m × IsPutInto old m place)) (λ m. file_of old m ≢ Some f) (λ m all. owned f m has all.0 all.1.0 all.1.1) images
        (each_both (λ m. apart_of ≢ m) (λ m. MayWriteThrough old m × IsPutInto old m place) images apart (each_both (MayWriteThrough old) (λ m. IsPutInto old m place) images may into))

    pub room_still : (span : Extent) → outcome ≡ Good → HasRoomIn old span apart_of → HasRoomIn mid span apart_of
    room_still span good room =
        let found = has_image (row_at old apart_of) (λ image. (file : ℕ) → file_of old apart_of ≡ Some file → FitsAt file old.devices (WriteFits image span)) room in
        of_image (row_at mid apart_of) found.0 found.1 (λ image. (file : ℕ) → file_of mid apart_of ≡ Some file → FitsAt file mid.devices (WriteFits image span)) (rest.rows apart_of apart ∙ found.2)
        found.3
        (λ file edge device held.
        let edge_old : file_of old apart_of ≡ Some file = sym (mid_child apart_of FileRole) ∙ edge in
        let has : HasImageIn old apart_of file = record { row = found.0; image = found.1; there = found.2; driver = found.3; edge = edge_old } in
        found.4 file edge_old device (sym (rest.devices good file (files_apart file has)) ∙ held))

  pub into_still : (n place : ℕ) → AtEach (λ m. n ≢ m) images → IsPutInto old n place → IsPutInto mid n place
  into_still n place apart into = record { row = into.row; image = into.image; there = rest.rows n apart ∙ into.there; driver = into.driver; bare = into.bare }

-- ---- one after several

module _ (old mid new : Nodes) (rest : List ℕ) (node : ℕ) (below outcome : Outcome) (left : LeavesRest rest old mid below) (one : LeavesRest (node ∷ []) mid new outcome) where
  pub then_leaves : below ≡ Good → LeavesRest (node ∷ rest) old new outcome
  then_leaves good = record {
    graph = one.graph ∙ left.graph;
    rows = λ other apart. one.rows other (apart.0, tt) ∙ left.rows other apart.1;
    sizes = λ n. one.sizes n ∙ left.sizes n;
    alike = λ n f has. left.alike n f (one.alike n f has);
    bytes = λ f apart. one.bytes f ((λ edge. apart.0 (sym (mid_child old mid rest below left node FileRole) ∙ edge)), tt) ∙ left.bytes f apart.1;
    devices = λ all f apart.
        one.devices all f ((λ edge. apart.0 (sym (mid_child old mid rest below left node FileRole) ∙ edge)), tt) ∙ left.devices good f apart.1;
    told = λ told. one.told (left.told told);
  }

pub leaves_none : (nodes : Nodes) (images : List ℕ) (outcome : Outcome) → LeavesRest images nodes nodes outcome
leaves_none nodes images outcome = record {
  graph = refl;
  rows = λ other apart. refl;
  sizes = λ n. refl;
  alike = λ n f has. has;
  bytes = λ f apart. refl;
  devices = λ good f apart. refl;
  told = λ told. told;
}
