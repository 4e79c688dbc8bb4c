-- What a write to the file of one node leaves of the nodes.
use Rattle.std.proofs.Common.{◌≡◌, ◌≢◌, ℕ, zero, suc, ◌+◌, ◌≤◌, List, [], length, replicate, Option, Some, None, refl, sym, ◌∙◌, ap, subst, arith, inl, inr}
use Rattle.std.specs.Prelude.{IsSome, option_map}
use Rattle.std.proofs.lemmas.Bool.{cases_eq}
use Rattle.std.proofs.lemmas.List.{length-take}
use Rattle.blk_base.specs.Content.{bytes_at, with_bytes}
use Rattle.blk_base.specs.Pieces.{Extent}
use Rattle.blk_base.specs.declared.fault.Outcome.{Outcome}
use Rattle.blk_base.specs.declared.fault.Outcome.TheVariants.{Good, Torn, Io, NoSpace}
use Rattle.blk_base.proofs.Contents.{bytes_at-by_place}
use Rattle.blk_nodes.proofs.RawParts.{with_bytes-part}
use Rattle.q2_format.proofs.ByPlace.{length-bytes_at as length-format_bytes, get_or-bytes_at as get_or-format_bytes}
use Rattle.q2_format.specs.Contents.{file_disk, raw_disk, image_disk}
use Rattle.q2_image.specs.Image.{Known, IsImageOf}
use Rattle.blk_graph.specs.declared.edge.Role.TheVariants.{File as FileRole, Backing, Filtered}
use Rattle.blk_nodes.specs.Contents.{IsToldDisk, told, disk_under, disk_through, disk_by, disk_down, disk_of, bytes_by, bytes_of, file_node_disk}
use Rattle.blk_nodes.specs.Changing.{ImageChange, IsImageWritten, IsZeroed, LeavesRow}
use Rattle.blk_nodes.specs.Joined.{IsFile, HasSize, IsPartOfFile, IsOverlay, HasBelow, IsJoined}
use Rattle.blk_nodes.specs.Nodes.{Nodes, DeviceSeen, AreTold, row_at, device_in, size_by, node_size, file_of, backing_of, filtered_of}
use Rattle.blk_nodes.specs.Parts.{OfImage, OfImageBy, IsImage}
use Rattle.blk_nodes.specs.Reading.{OnlyAt, LeadsTo}
use Rattle.blk_nodes.specs.Sources.{in_file, step_by, step_of, source_at}
use Rattle.blk_nodes.specs.Writing.{taken_by, IsWriteOf, IsWriteAt, WritesFile, WritesBy, WritesPiece, ZerosBy, ZerosPiece, LeavesNodes, OwnsFile, CanBeWritten, MayWriteThrough, IsApartFrom}
use Rattle.blk_nodes.specs.Writing as writing
use Rattle.blk_nodes.specs.declared.row.Driver.{Driver}
use Rattle.blk_nodes.specs.declared.row.Driver.TheVariants.{File, Raw, Qcow2, CopyOnRead, Filter}
use Rattle.blk_nodes.specs.declared.row.Row.{Row}
use Rattle.blk_nodes.specs.declared.source.Source.TheVariants as sources
use Rattle.blk_nodes.specs.declared.source.Step.{Step}
use Rattle.blk_nodes.specs.declared.source.Step.TheVariants.{Found}
use Rattle.blk_nodes.proofs.Chains.{walk_ends}
use Rattle.blk_nodes.proofs.HeldDevices.{told_held}
use Rattle.blk_nodes.proofs.Joints.{once_by_nodes}
use Rattle.blk_nodes.proofs.KeptDisks.{disk_of_file, disk_of_raw}
use Rattle.blk_nodes.proofs.Leading.{leads_on, child_leads}
use Rattle.blk_nodes.proofs.Disks.{disk_same}
use Rattle.blk_nodes.proofs.Alike.{row_refl}
use Rattle.blk_nodes.specs.Flushing.{IsFlushOn, IsFlushAt}

-- where no path leads to the file that changed, the disk stays
module _ (nodes : Nodes) (devices : List DeviceSeen) (file : ℕ) (only : OnlyAt file nodes.devices devices) where
  abbrev after : Nodes
  after = record nodes { devices = devices }

  bytes_stay : (other : ℕ) → other ≢ file → bytes_of after other ≡ bytes_of nodes other
  bytes_stay other apart = ap bytes_by (only.others other apart)

  child_apart : (node child : ℕ) → (LeadsTo nodes.graph.edges node file → ⊥) → LeadsTo nodes.graph.edges node child → child ≢ file
  child_apart node child none leads = λ same. none (subst (LeadsTo nodes.graph.edges node) same leads)

  bytes_below : (node : ℕ) → (LeadsTo nodes.graph.edges node file → ⊥) → (found : Option ℕ) → file_of nodes node ≡ found
      → disk_under (bytes_of after) found ≡ disk_under (bytes_of nodes) found
  bytes_below node none None is = refl
  bytes_below node none (Some child) is =
      bytes_stay child (child_apart node child none (child_leads nodes.graph.edges node child FileRole is))

  file_below : (node : ℕ) → (LeadsTo nodes.graph.edges node file → ⊥) → (found : Option ℕ) → file_of nodes node ≡ found
      → disk_under (file_node_disk after) found ≡ disk_under (file_node_disk nodes) found
  file_below node none None is = refl
  file_below node none (Some child) is =
      ap (file_disk (node_size nodes child)) (bytes_stay child (child_apart node child none (child_leads nodes.graph.edges node child FileRole is)))

  over_below : (f g : ℕ → List ℕ) → ((n : ℕ) → (LeadsTo nodes.graph.edges n file → ⊥) → f n ≡ g n) → (node : ℕ) → (LeadsTo nodes.graph.edges node file → ⊥)
      → (found : Option ℕ) → ((child : ℕ) → found ≡ Some child → LeadsTo nodes.graph.edges node child) → disk_under f found ≡ disk_under g found
  over_below f g each node none None leads = refl
  over_below f g each node none (Some child) leads =
      each child (λ rest. none (leads_on nodes.graph.edges node child file (leads child refl) rest))

  through_below : (n : ℕ) (f g : ℕ → List ℕ) → ((n : ℕ) → (LeadsTo nodes.graph.edges n file → ⊥) → f n ≡ g n) → (node : ℕ) → (LeadsTo nodes.graph.edges node file → ⊥)
      → (found : Option ℕ) → ((child : ℕ) → found ≡ Some child → LeadsTo nodes.graph.edges node child) → disk_through n f found ≡ disk_through n g found
  through_below n f g each node none None leads = refl
  through_below n f g each node none (Some child) leads =
      each child (λ rest. none (leads_on nodes.graph.edges node child file (leads child refl) rest))

  by_driver : (f g : ℕ → List ℕ) → ((n : ℕ) → (LeadsTo nodes.graph.edges n file → ⊥) → f n ≡ g n) → (node : ℕ) → (LeadsTo nodes.graph.edges node file → ⊥)
      → (driver : Driver) → disk_by after f node driver ≡ disk_by nodes g node driver
  by_driver f g each node none File = ap (file_disk (node_size nodes node)) (bytes_stay node (λ same. none (inl same)))
  by_driver f g each node none (Raw part) = ap (raw_disk part.offset part.size) (file_below node none (file_of nodes node) refl)
  by_driver f g each node none (Qcow2 image) =
      ap (λ (bytes : List ℕ). image_disk bytes (disk_under f (backing_of nodes node))) (bytes_below node none (file_of nodes node) refl)
      ∙ ap (image_disk (disk_under (bytes_of nodes) (file_of nodes node)))
      (over_below f g each node none (backing_of nodes node) (λ child is. child_leads nodes.graph.edges node child Backing is))
  by_driver f g each node none CopyOnRead =
      over_below f g each node none (file_of nodes node) (λ child is. child_leads nodes.graph.edges node child FileRole is)
  by_driver f g each node none (Filter kind) =
      through_below (node_size nodes node) f g each node none (filtered_of nodes node) (λ child is. child_leads nodes.graph.edges node child Filtered is)

  by_row : (f g : ℕ → List ℕ) → ((n : ℕ) → (LeadsTo nodes.graph.edges n file → ⊥) → f n ≡ g n) → (node : ℕ) → (LeadsTo nodes.graph.edges node file → ⊥)
      → (found : Option Row) → elim found as (λ _. List ℕ) [ None ↦ [] | Some row ↦ disk_by after f node row.driver ]
      ≡ elim found as (λ _. List ℕ) [ None ↦ [] | Some row ↦ disk_by nodes g node row.driver ]
  by_row f g each node none None = refl
  by_row f g each node none (Some row) = by_driver f g each node none row.driver

  kept_in : (turns node : ℕ) → (LeadsTo nodes.graph.edges node file → ⊥) → disk_down turns after node ≡ disk_down turns nodes node
  kept_in zero node none = refl
  kept_in (suc turns) node none = by_row (disk_down turns after) (disk_down turns nodes) (kept_in turns) node none (row_at nodes node)

  pub disk_apart : (node : ℕ) → (LeadsTo nodes.graph.edges node file → ⊥) → disk_of after node ≡ disk_of nodes node
  unfolding disk_of
  disk_apart node none = kept_in 64 node none

-- all still belongs together, where what is known of the file's image stays so
module _ (nodes : Nodes) (devices : List DeviceSeen) (file : ℕ) (only : OnlyAt file nodes.devices devices)
    (held : IsSome (device_in nodes.devices file)) (left : IsSome (device_in devices file)) (joined : IsJoined nodes)
    (keeps : (node : ℕ) (row : Row) (image : Known) → row_at nodes node ≡ Some row → row.driver ≡ Qcow2 image → file_of nodes node ≡ Some file
    → (device : DeviceSeen) (bytes : List ℕ) → device_in devices file ≡ Some device → device.content ≡ Some bytes → IsImageOf bytes image) where
  abbrev changed : Nodes
  changed = record nodes { devices = devices }

  some_after : (node : ℕ) → IsSome (device_in nodes.devices node) → IsSome (device_in devices node)
  some_after node some = elim (cases_eq node file) [
    | inl same ↦ rw same left
    | inr apart ↦ rw (only.others node apart) some
  ]

  some_before : (node : ℕ) → IsSome (device_in devices node) → IsSome (device_in nodes.devices node)
  some_before node some = elim (cases_eq node file) [
    | inl same ↦ rw same held
    | inr apart ↦ rw (only.others node apart) at some
  ]

  file_after : (node : ℕ) → IsFile nodes node → IsFile changed node
  file_after node is = record { row = is.row; there = is.there; driver = is.driver }

  size_after : (node size : ℕ) → HasSize nodes node size → HasSize changed node size
  size_after node size has = record { row = has.row; there = has.there; is = has.is }

  known_after : (node : ℕ) (row : Row) (image : Known) → row_at nodes node ≡ Some row → row.driver ≡ Qcow2 image → (is : IsOverlay nodes node image)
      → (device : DeviceSeen) (bytes : List ℕ) → device_in devices is.file ≡ Some device → device.content ≡ Some bytes → IsImageOf bytes image
  known_after node row image there driver is device bytes has content = elim (cases_eq is.file file) [
    | inl same ↦
        keeps node row image there driver (is.edge ∙ ap (λ (n : ℕ). Some n) same) device bytes (ap (device_in devices) (sym same) ∙ has) content
    | inr apart ↦ is.known device bytes (sym (only.others is.file apart) ∙ has) content
  ]

  below_after : (node : ℕ) (row : Row) (driver : Driver) → row_at nodes node ≡ Some row → row.driver ≡ driver
      → HasBelow nodes node row.size driver → HasBelow changed node row.size driver
  below_after node row File there driver is = some_after node is
  below_after node row (Raw part) there driver is =
      record { file = is.file; edge = is.edge; is_file = file_after is.file is.is_file; within = is.within }
  below_after node row (Qcow2 image) there driver is = record {
    file = is.file;
    edge = is.edge;
    is_file = file_after is.file is.is_file;
    opened = is.opened;
    known = known_after node row image there driver is;
    backing = λ over edge. size_after over image.header.size (is.backing over edge);
  }
  below_after node row CopyOnRead there driver is =
      record { child = is.child; edge = is.edge; same = size_after is.child row.size is.same }
  below_after node row (Filter kind) there driver is = λ child edge. size_after child row.size (is child edge)

  pub joined_changed : IsJoined changed
  joined_changed = record {
    rows = joined.rows;
    sound = joined.sound;
    kinds = joined.kinds;
    there = joined.there;
    only = joined.only;
    sized = joined.sized;
    below = λ node row there. below_after node row row.driver there refl (joined.below node row there);
    devices = λ node some. file_after node (joined.devices node (some_before node some));
    once = once_by_nodes nodes.devices devices only.nodes joined.once;
  }

-- no more is written than was given
pub length-written : (outcome : Outcome) (bytes : List ℕ) → length (taken_by outcome bytes) ≤ length bytes
length-written Good bytes = omega arith
length-written (Torn done dev count) bytes = omega (arith, length-take done bytes)
length-written (Io dev count) bytes = omega arith
length-written (NoSpace dev) bytes = omega arith

-- the bytes of a file that was written
pub bytes_written : (nodes : Nodes) (devices : List DeviceSeen) (file start : ℕ) (bytes : List ℕ) (outcome : Outcome) → AreTold nodes.devices
    → IsWriteAt file nodes.devices devices start bytes outcome
    → bytes_of (record nodes { devices = devices }) file ≡ with_bytes (bytes_of nodes file) start (taken_by outcome bytes)
bytes_written nodes devices file start bytes outcome all at =
    let old = told_held file nodes.devices all (rw at.held refl) in
    let same : at.before ≡ old.0 = cc (sym at.held ∙ old.1) in
    let before : at.before.content ≡ Some (bytes_of nodes file) = ap (λ (d : DeviceSeen). d.content) same ∙ old.2 in
    ap bytes_by at.left
    ∙ ap told (at.wrote.content ∙ ap (option_map (λ (b : List ℕ). with_bytes b start (taken_by outcome bytes))) before)

-- a write within a part is that write of the part
part_written : (b : List ℕ) (offset size start : ℕ) (xs : List ℕ) → start + length xs ≤ size
    → raw_disk offset size (with_bytes b (offset + start) xs) ≡ with_bytes (raw_disk offset size b) start xs
part_written b offset size start xs within =
    same_bytes (with_bytes b (offset + start) xs) offset size ∙ with_bytes-part b offset size start xs within
    ∙ ap (λ (d : List ℕ). with_bytes d start xs) (sym (same_bytes b offset size))
  where
    same_bytes : (f : List ℕ) (at n : ℕ) → raw_disk at n f ≡ bytes_at f at n
    same_bytes f at n = bytes_at-by_place f (raw_disk at n f) at n (length-format_bytes f at n) (λ k below. get_or-format_bytes f at n k below)

-- a node over a device, or a part of one
abbrev pub IsPlain : Driver → Type 0
IsPlain File = Unit {0}
IsPlain (Raw part) = Unit {0}
IsPlain (Qcow2 image) = ⊥
IsPlain CopyOnRead = ⊥
IsPlain (Filter kind) = ⊥

pub plain_if : (nodes : Nodes) (node : ℕ) (may : MayWriteThrough nodes node) → (IsImage nodes node → ⊥) → IsPlain may.row.driver
plain_if nodes node may none = by may.row.driver refl may.can
  where
    image_there : (image : Known) → may.row.driver ≡ Qcow2 image → IsImage nodes node
    image_there image is =
        let P : Known → Type 0 = λ _. Unit {0} in
        subst (λ (found : Option Row). OfImage found P) (sym may.there) (subst (λ (d : Driver). OfImageBy d P) (sym is) tt)

    by : (driver : Driver) → may.row.driver ≡ driver → CanBeWritten nodes node driver → IsPlain driver
    by File is can = tt
    by (Raw part) is can = tt
    by (Qcow2 image) is can = absurd (none (image_there image is))
    by CopyOnRead is can = absurd can
    by (Filter kind) is can = absurd can

-- such a node that may be written
module _ (nodes : Nodes) (joined : IsJoined nodes) (node place : ℕ) (may : MayWriteThrough nodes node) (plain : IsPlain may.row.driver) where
  step_there : {driver : Driver} → may.row.driver ≡ driver → step_of nodes node place ≡ step_by node (file_of nodes node) (backing_of nodes node) (filtered_of nodes node) place driver
  step_there is =
      ap (λ (found : Option Row). elim found as (λ _. Step) [
        | None ↦ Found sources.Zeros
        | Some row ↦ step_by node (file_of nodes node) (backing_of nodes node) (filtered_of nodes node) place row.driver
      ]) may.there ∙ ap (step_by node (file_of nodes node) (backing_of nodes node) (filtered_of nodes node) place) is

  -- where its bytes stand
  stands_by : (driver : Driver) → may.row.driver ≡ driver → IsPlain driver → (file : ℕ) × (start : ℕ) × (source_at nodes node place ≡ sources.File file start)
      × (writing.own_file nodes node driver ≡ Some file) × (start ≡ writing.own_start driver place)
  unfolding source_at
  stands_by File is plain =
      let step : step_of nodes node place ≡ Found (sources.File node place) = step_there is in
      (node, place, walk_ends nodes node place (sources.File node place) 64 (omega arith) step, refl, refl)
  stands_by (Raw part) is plain =
      let below : IsPartOfFile nodes node part.offset part.size = rw is at (joined.below node may.row may.there) in
      let step : step_of nodes node place ≡ Found (sources.File below.file (part.offset + place))
      = step_there is ∙ ap (λ (f : Option ℕ). in_file f (part.offset + place)) below.edge in
      (below.file, part.offset + place, walk_ends nodes node place (sources.File below.file (part.offset + place)) 64 (omega arith) step, below.edge, refl)
  stands_by (Qcow2 image) is plain = absurd plain
  stands_by CopyOnRead is plain = absurd plain
  stands_by (Filter kind) is plain = absurd plain

  pub owned : (file start : ℕ) → source_at nodes node place ≡ sources.File file start
      → (writing.own_file nodes node may.row.driver ≡ Some file) × OwnsFile nodes node file
  owned file start stands =
      let at = stands_by may.row.driver refl plain in
      let same : at.0 ≡ file = cc (sym at.2 ∙ stands) in
      let own : writing.own_file nodes node may.row.driver ≡ Some file = at.3 ∙ ap (λ (n : ℕ). Some n) same in
      (own, may.owns file own)

  pub owned_at : (file start : ℕ) → source_at nodes node place ≡ sources.File file start → start ≡ writing.own_start may.row.driver place
  owned_at file start stands =
      let at = stands_by may.row.driver refl plain in
      let same : at.1 ≡ start = cc (sym at.2 ∙ stands) in
      sym same ∙ at.4

  pub stands : (file : ℕ) × (start : ℕ) × (source_at nodes node place ≡ sources.File file start)
  stands = let at = stands_by may.row.driver refl plain in (at.0, at.1, at.2)

  module _ (devices : List DeviceSeen) (file start : ℕ) (stands : source_at nodes node place ≡ sources.File file start) (bytes : List ℕ) (outcome : Outcome)
      (at : IsWriteAt file nodes.devices devices start bytes outcome) where
    abbrev wrote : Nodes
    wrote = record nodes { devices = devices }

    -- no image is in the file
    no_image : (other : ℕ) (row : Row) (image : Known) → row_at nodes other ≡ Some row → row.driver ≡ Qcow2 image → file_of nodes other ≡ Some file → ⊥
    no_image other row image there driver edge =
        let same : other ≡ node = (owned file start stands).1 other (record { row = row; image = image; there = there; driver = driver; edge = edge }) in
        let rows : row ≡ may.row = cc (sym there ∙ ap (row_at nodes) same ∙ may.there) in
        subst IsPlain (ap (λ (r : Row). r.driver) (sym rows) ∙ driver) plain

    pub joined_wrote : IsJoined wrote
    joined_wrote =
        joined_changed nodes devices file at.only (rw at.held refl) (rw at.left refl) joined
        (λ other row image there driver edge device b has content. absurd (no_image other row image there driver edge))

    pub others_wrote : (other : ℕ) → IsApartFrom nodes other node → disk_of wrote other ≡ disk_of nodes other
    others_wrote other apart = disk_apart nodes devices file at.only other (apart may.row file may.there (owned file start stands).0)

    abbrev xs : List ℕ
    xs = taken_by outcome bytes

    disk_by_driver : AreTold nodes.devices → place + length xs ≤ may.row.size → (driver : Driver) → may.row.driver ≡ driver → IsPlain driver
        → disk_of wrote node ≡ with_bytes (disk_of nodes node) place xs
    unfolding source_at
    disk_by_driver all inside File is plain =
        let step : step_of nodes node place ≡ Found (sources.File node place) = step_there is in
        let found = sym (walk_ends nodes node place (sources.File node place) 64 (omega arith) step) ∙ stands in
        let here : node ≡ file = cc found in
        let from : place ≡ start = cc found in
        let bytes_are = bytes_written nodes devices file start bytes outcome all at in
        disk_of_file wrote node may.row may.there is
        ∙ ap (λ (n : ℕ). file_disk may.row.size (bytes_of wrote n)) here ∙ ap (file_disk may.row.size) bytes_are
        ∙ ap (λ (n : ℕ). file_disk may.row.size (with_bytes (bytes_of nodes file) n xs)) (let e : start ≡ 0 + place = omega (arith, from) in e)
        ∙ part_written (bytes_of nodes file) 0 may.row.size place xs inside
        ∙ ap (λ (n : ℕ). with_bytes (file_disk may.row.size (bytes_of nodes n)) place xs) (sym here)
        ∙ ap (λ (b : List ℕ). with_bytes b place xs) (sym (disk_of_file nodes node may.row may.there is))
    disk_by_driver all inside (Raw part) is plain =
        let below : IsPartOfFile nodes node part.offset part.size = rw is at (joined.below node may.row may.there) in
        let sized = rw is at (joined.sized node may.row may.there) in
        let size : part.size ≡ may.row.size = sized.0 in
        let within = below.within in
        let step : step_of nodes node place ≡ Found (sources.File below.file (part.offset + place))
        = step_there is ∙ ap (λ (f : Option ℕ). in_file f (part.offset + place)) below.edge in
        let found = sym (walk_ends nodes node place (sources.File below.file (part.offset + place)) 64 (omega arith) step) ∙ stands in
        let here : below.file ≡ file = cc found in
        let from : part.offset + place ≡ start = cc found in
        let whole : ℕ = node_size nodes below.file in
        let b : List ℕ = bytes_of nodes below.file in
        let bytes_are : bytes_of wrote below.file ≡ with_bytes b (part.offset + place) xs
        = ap (bytes_of wrote) here ∙ bytes_written nodes devices file start bytes outcome all at
        ∙ ap (λ (n : ℕ). with_bytes (bytes_of nodes n) start xs) (sym here) ∙ ap (λ (n : ℕ). with_bytes b n xs) (sym from) in
        disk_of_raw wrote node below.file part.offset part.size may.row may.there is below.edge
        ∙ ap (λ (f : List ℕ). raw_disk part.offset part.size (file_disk whole f)) bytes_are
        ∙ ap (λ (n : ℕ). raw_disk part.offset part.size (file_disk whole (with_bytes b n xs))) (let e : part.offset + place ≡ 0 + (part.offset + place) = omega arith in e)
        ∙ ap (raw_disk part.offset part.size) (part_written b 0 whole (part.offset + place) xs (omega (arith, within, inside, size)))
        ∙ part_written (file_disk whole b) part.offset part.size place xs (omega (arith, inside, size))
        ∙ ap (λ (d : List ℕ). with_bytes d place xs) (sym (disk_of_raw nodes node below.file part.offset part.size may.row may.there is below.edge))
    disk_by_driver all inside (Qcow2 image) is plain = absurd plain
    disk_by_driver all inside CopyOnRead is plain = absurd plain
    disk_by_driver all inside (Filter kind) is plain = absurd plain

    pub disk_wrote : AreTold nodes.devices → (n : ℕ) → length bytes ≡ n → place + n ≤ node_size nodes node
        → disk_of wrote node ≡ with_bytes (disk_of nodes node) place xs
    disk_wrote all n whole inside =
        let size : node_size nodes node ≡ may.row.size = ap size_by may.there in
        disk_by_driver all (omega (arith, whole, inside, size, length-written outcome bytes)) may.row.driver refl plain

-- After a flush each device has the bytes that it had.
module _ (nodes : Nodes) (devices : List DeviceSeen) (file : ℕ) (outcome : Outcome) (at : IsFlushOn file nodes.devices devices outcome) (joined : IsJoined nodes) where
  content_same : at.after.content ≡ at.before.content
  content_same = ap (λ (d : DeviceSeen). d.content) at.flush.is

  joined_on : IsJoined (record nodes { devices = devices })
  joined_on =
      joined_changed nodes devices file at.only (rw at.held refl) (rw at.left refl) joined
      (λ node row image there driver edge device bytes has content.
      let below : IsOverlay nodes node image = rw driver at (joined.below node row there) in
      let same : below.file ≡ file = cc (sym below.edge ∙ edge) in
      let now : at.after ≡ device = cc (sym at.left ∙ has) in
      below.known at.before bytes (ap (device_in nodes.devices) same ∙ at.held) (sym content_same ∙ ap (λ (d : DeviceSeen). d.content) now ∙ content))

  bytes_same : (node : ℕ) → bytes_of (record nodes { devices = devices }) node ≡ bytes_of nodes node
  bytes_same node = elim (cases_eq node file) [
    | inl same ↦ rw (same, at.left, at.held, content_same) refl
    | inr apart ↦ ap bytes_by (at.only.others node apart)
  ]

  disks_on : (node : ℕ) → disk_of (record nodes { devices = devices }) node ≡ disk_of nodes node
  disks_on = disk_same nodes (record nodes { devices = devices }) (λ node. refl) bytes_same (λ node. refl) (λ node. refl) (λ node. refl)

-- and where none was flushed all is as before
module _ (nodes : Nodes) (devices : List DeviceSeen) (file : ℕ) (outcome : Outcome) where
  with_same : devices ≡ nodes.devices → record nodes { devices = devices } ≡ nodes
  with_same is = ap (λ (ds : List DeviceSeen). let now : Nodes = record nodes { devices = ds } in now) is

  pub joined_flushed : IsFlushAt file nodes.devices devices outcome → IsJoined nodes → IsJoined (record nodes { devices = devices })
  joined_flushed (inl at) joined = joined_on nodes devices file outcome at joined
  joined_flushed (inr none) joined = subst IsJoined (sym (with_same none.1)) joined

  pub disks_flushed : IsFlushAt file nodes.devices devices outcome → IsJoined nodes → (node : ℕ)
      → disk_of (record nodes { devices = devices }) node ≡ disk_of nodes node
  disks_flushed (inl at) joined node = disks_on nodes devices file outcome at joined node
  disks_flushed (inr none) joined node = ap (λ (ns : Nodes). disk_of ns node) (with_same none.1)

-- the row of a node that is no image
row_plain : (change : ImageChange) (driver : Driver) (row : Row) (old new : Nodes) (node : ℕ) (outcome : Outcome) → IsPlain driver → row_at new node ≡ Some row
    → LeavesRow change driver row old new node outcome
row_plain change File row old new node outcome is same = same
row_plain change (Raw part) row old new node outcome is same = same
row_plain change (Qcow2 image) row old new node outcome is same = absurd is
row_plain change CopyOnRead row old new node outcome is same = absurd is
row_plain change (Filter kind) row old new node outcome is same = absurd is

-- A piece of such a node, by what the node is.
pub piece_plain : (old new : Nodes) (node : ℕ) (span : Extent) (bytes : List ℕ) (outcome : Outcome) (may : MayWriteThrough old node) → IsPlain may.row.driver
    → WritesFile old new node span.start bytes outcome → row_at new node ≡ row_at old node → WritesPiece old new node span bytes outcome
piece_plain old new node span bytes outcome may plain wrote same =
    record { row = may.row; there = may.there; wrote = by may.row.driver plain; left = row_plain (IsImageWritten (IsToldDisk old node) span bytes) may.row.driver may.row old new node outcome plain (same ∙ may.there) }
  where
    by : (driver : Driver) → IsPlain driver → WritesBy driver old new node span bytes outcome
    by File is = wrote
    by (Raw part) is = wrote
    by (Qcow2 image) is = absurd is
    by CopyOnRead is = absurd is
    by (Filter kind) is = absurd is

pub zeros_plain : (old new : Nodes) (node : ℕ) (span : Extent) (outcome : Outcome) (may : MayWriteThrough old node) → IsPlain may.row.driver
    → WritesFile old new node span.start (replicate span.len 0) outcome → row_at new node ≡ row_at old node → ZerosPiece old new node span outcome
zeros_plain old new node span outcome may plain wrote same =
    record { row = may.row; there = may.there; wrote = by may.row.driver plain; left = row_plain (IsZeroed (IsToldDisk old node) span) may.row.driver may.row old new node outcome plain (same ∙ may.there) }
  where
    by : (driver : Driver) → IsPlain driver → ZerosBy driver old new node span outcome
    by File is = wrote
    by (Raw part) is = wrote
    by (Qcow2 image) is = absurd is
    by CopyOnRead is = absurd is
    by (Filter kind) is = absurd is

-- only devices have changed
pub leaves_devices : (old : Nodes) (devices : List DeviceSeen) (node : ℕ) → LeavesNodes old (record old { devices = devices }) node
leaves_devices old devices node = record { graph = refl; others = λ other apart. refl; own = row_refl (row_at old node) }
