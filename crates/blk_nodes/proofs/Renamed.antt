-- What another backing name leaves of an image, of the device of its file, and of all nodes.
use Rattle.std.proofs.Common.{◌≡◌, ◌≢◌, ℕ, zero, suc, ◌<◌, Bool, true, false, cond, nat_lt, List, [], ◌∷◌, ◌++◌, length, drop, get_or, set, not, Option, Some, None, Result, Ok, Err, refl, sym, ◌∙◌, ap, subst, arith, inl, inr}
use Rattle.std.specs.Prelude.{◌⊎◌, IsSome, is_some}
use Rattle.std.specs.List.{position}
use Rattle.std.proofs.lemmas.Bool.{cases_eq}
use Rattle.std.proofs.lemmas.List.{get_or-set_same, get_or-set_other, get_or_default, length-set}
use Rattle.blk_base.specs.Content.{Write}
use Rattle.blk_base.specs.Device.{Reads}
use Rattle.blk_base.specs.declared.device.Device.{Ghosts}
use Rattle.blk_base.specs.declared.fault.DevNo.{DevNo}
use Rattle.blk_base.specs.declared.fault.DevStop.{DevStop}
use Rattle.blk_base.specs.declared.fault.DevStop.TheVariants as stops
use Rattle.blk_base.specs.declared.fault.Fault.{Fault}
use Rattle.blk_base.specs.declared.fault.Outcome.TheVariants.{Good}
use Rattle.blk_graph.specs.Refreshed.{kind_at}
use Rattle.blk_graph.specs.declared.kind.NodeKind.{NodeKind}
use Rattle.blk_graph.proofs.Members.{find-Some}
use Rattle.q2_format.specs.Contents.{image_disk}
use Rattle.q2_format.specs.declared.header.Header.{Header}
use Rattle.q2_image.specs.BackingName.{EndsWithFields, FailsBefore, MakesLast, RenamesImage, StopsWithFields, early_writes, known_at, known_with, text_writes, with_format}
use Rattle.q2_image.specs.Image.{Known}
use Rattle.q2_image.specs.Made.{clear_writes}
use Rattle.q2_image.specs.Writing.{autocleared}
use Rattle.blk_nodes.specs.Changing.{seen}
use Rattle.blk_nodes.specs.Contents.{told, disk_under, disk_by, disk_down, disk_of, bytes_by, bytes_of}
use Rattle.blk_nodes.specs.Copying.{LeavesRest, IsBeside}
use Rattle.blk_nodes.specs.Joined.{IsFile, HasSize, HasBelow, IsOverlay, IsJoined, IsSized}
use Rattle.blk_nodes.specs.Nodes.{Nodes, DeviceSeen, AreTold, is_device_of, row_at, device_in, size_by, node_size, file_of, backing_of, driver_kind, node_kind}
use Rattle.blk_nodes.specs.Parts.{IsImage, OfImage}
use Rattle.blk_nodes.specs.Reading.{LeadsTo}
use Rattle.blk_nodes.specs.Renaming.{IsKnownNamed, IsRenameBy, IsRenameAt, RenamesRow, RenamesNode, OwnsImage}
use Rattle.blk_nodes.specs.Walk.{IsKnownAt}
use Rattle.blk_nodes.specs.Writing.{HasImageIn, IsOverApart}
use Rattle.blk_nodes.specs.declared.row.Driver.{Driver}
use Rattle.blk_nodes.specs.declared.row.Driver.TheVariants.{File, Raw, Qcow2, CopyOnRead, Filter}
use Rattle.blk_nodes.specs.declared.row.Row.{Row}
use Rattle.blk_nodes.proofs.Copied.{noded}
use Rattle.blk_nodes.proofs.CopiedDisks.{beside_stays}
use Rattle.blk_nodes.proofs.Disks.{by_driver}
use Rattle.blk_nodes.proofs.HeldDevices.{at_place, put_held, only_at}
use Rattle.blk_nodes.proofs.ImageCalls.{state_of, wrote_seen}
use Rattle.blk_nodes.proofs.ImageDisks.{disk_written}
use Rattle.blk_nodes.proofs.Joints.{held_by, once_by_nodes}
use Rattle.blk_nodes.proofs.Rows.{has_image, of_image, row_below}
use Rattle.blk_nodes.proofs.Unfolding.{unfolds}
use Rattle.blk_nodes.proofs.Written.{disk_apart}

-- ---- what is known of the image

known_with_is : (image : Known) (format : Option (List ℕ)) (made : List Write)
    → (known_with image format made ≡ image) ⊎ (known_with image format made ≡ with_format image format)
known_with_is image format [] = inl refl
known_with_is image format (w ∷ ws) = by (nat_lt (length w.bytes) 4)
  where
    by : (b : Bool) → (cond b image (with_format image format) ≡ image) ⊎ (cond b image (with_format image format) ≡ with_format image format)
    by true = inl refl
    by false = inr refl

known_at_is : (image : Known) (name format : Option (List ℕ)) (made : List Write) (stop : DevStop) → IsKnownNamed (Err stop) image name format (known_at image name format made)
known_at_is image name format made stop = by (nat_lt (length (clear_writes image)) (length made))
  where
    some : Known
    some = known_with (autocleared image) format (drop (length (clear_writes image ++ text_writes image.header name)) made)

    by : (b : Bool) → IsKnownNamed (Err stop) image name format (cond b some image)
    by true = inr (known_with_is (autocleared image) format (drop (length (clear_writes image ++ text_writes image.header name)) made))
    by false = inl refl

pub known_named : {D : Type 0} (g : Ghosts D) (image left : Known) (name format : Option (List ℕ)) (r : Result (Unit {0}) DevStop) (before now : D)
    → RenamesImage g image name format r left before now → IsKnownNamed r image name format left
known_named g image left name format (Ok done) before now is = is.0
known_named g image left name format (Err (stops.Io count)) before now (inl is) = inl is.1
known_named g image left name format (Err (stops.Io count)) before now (inr is) = by is.makes
  where
    by : StopsWithFields g image name format (early_writes image is.n name format) count left before now → IsKnownNamed (Err (stops.Io count)) image name format left
    by (inl last) = subst (IsKnownNamed (Err (stops.Io count)) image name format) (sym last.1) (known_at_is image name format last.0.writes.made (stops.Io count))
    by (inr early) = inr (inr early.1)
known_named g image left name format (Err stops.NoSpace) before now is = inl is.0

-- its tables stay, and so do its size and that of its clusters
pub named_size : (r : Result (Unit {0}) DevStop) (image : Known) (name format : Option (List ℕ)) (now : Known) → IsKnownNamed r image name format now
    → now.header.size ≡ image.header.size
named_size (Ok done) image name format now is = ap (λ (k : Known). k.header.size) is
named_size (Err stop) image name format now (inl is) = ap (λ (k : Known). k.header.size) is
named_size (Err stop) image name format now (inr (inl is)) = ap (λ (k : Known). k.header.size) is
named_size (Err stop) image name format now (inr (inr is)) = ap (λ (k : Known). k.header.size) is

-- ---- the device, as it is seen

module _ {D : Type 0} (g : Ghosts D) (node : ℕ) (number : DevNo) (before now : D) where
  abbrev first : DeviceSeen
  first = state_of g node number before

  abbrev last : DeviceSeen
  last = state_of g node number now

  abbrev last_seen : (h : Header) (early : List Write) (name : Option (List ℕ)) (stop : Option DevStop) → MakesLast g h early name stop before now
      → MakesLast seen h early name stop first last
  last_seen h early name stop is = record {
    between = is.between;
    whole = is.whole;
    told = is.told;
    past = is.past;
    writes = record {
      made = is.writes.made;
      part = is.writes.part;
      wrote = wrote_seen g node number before now is.writes.made is.writes.wrote;
      cause = is.writes.cause;
      call = is.writes.call;
    };
  }

  before_seen : (h : Header) (early : List Write) (stop : Option DevStop) → FailsBefore g h early stop before now → FailsBefore seen h early stop first last
  before_seen h early stop is = record {
    needed = is.needed;
    count = is.count;
    is = is.is;
    wrote = wrote_seen g node number before now early is.wrote;
    cause = is.cause;
    call = is.call;
  }

  ends_seen : (h : Header) (early : List Write) (name : Option (List ℕ)) (stop : Option DevStop) → EndsWithFields g h early name stop before now
      → EndsWithFields seen h early name stop first last
  ends_seen h early name stop (inl is) = inl (last_seen h early name stop is)
  ends_seen h early name stop (inr is) = inr (before_seen h early stop is)

  stops_seen : (image left : Known) (name format : Option (List ℕ)) (early : List Write) (count : ℕ) → StopsWithFields g image name format early count left before now
      → StopsWithFields seen image name format early count left first last
  stops_seen image left name format early count (inl is) = inl (last_seen image.header early name (Some (stops.Io count)) is.0, is.1)
  stops_seen image left name format early count (inr is) = inr (before_seen image.header early (Some (stops.Io count)) is.0, is.1)

  reads_seen : (fault : Option ℕ) → Reads g fault before now → Reads seen fault first last
  reads_seen fault is = record {
    reads = record {
      content = is.reads.content;
      flushed = is.reads.flushed;
      log = is.reads.log;
      size = is.reads.size;
      capacity = is.reads.capacity;
      faults = is.reads.faults;
    };
    cause = is.cause;
    call = is.call;
  }

  pub renames_seen : (image left : Known) (name format : Option (List ℕ)) (r : Result (Unit {0}) DevStop) → RenamesImage g image name format r left before now
      → RenamesImage seen image name format r left first last
  renames_seen image left name format (Ok done) is =
      (is.0, record { n = is.1.n; read = is.1.read; makes = ends_seen image.header (early_writes image is.1.n name format) name None is.1.makes })
  renames_seen image left name format (Err (stops.Io count)) (inl is) = inl (is.0, is.1, reads_seen (Some count) is.2, is.3)
  renames_seen image left name format (Err (stops.Io count)) (inr is) =
      inr (record { n = is.n; read = is.read; makes = stops_seen image left name format (early_writes image is.n name format) count is.makes })
  renames_seen image left name format (Err stops.NoSpace) is = (is.0, reads_seen None is.1)

-- one of the devices
pub renamed_over : (file : ℕ) (devices : List DeviceSeen) (at : ℕ) (d y : DeviceSeen) (image now : Known) (name format : Option (List ℕ)) (result : Result (Unit {0}) Fault)
    → position (is_device_of file) devices ≡ Some at → IsRenameBy (get_or devices at d) y image now name format result
    → IsRenameAt file devices (set devices at y) image now name format result
renamed_over file devices at d y image now name format result place is = record {
  before = get_or devices at d;
  after = y;
  held = at_place file devices at d place;
  left = put_held file devices at d y place is.rename.device.node;
  renamed = is;
  only = only_at file devices at d y place is.rename.device.node;
}

-- ---- the nodes

-- the file of a node's image has a device, and what is known of the image is so of it
pub image_in_file : (nodes : Nodes) (node file : ℕ) → IsJoined nodes → IsImage nodes node → file_of nodes node ≡ Some file
    → IsSome (device_in nodes.devices file) × OfImage (row_at nodes node) (IsKnownAt file nodes.devices)
image_in_file nodes node file joined is edge =
    let found = has_image (row_at nodes node) (λ _. Unit {0}) is in
    let overlay : IsOverlay nodes node found.1 = rw found.3 at (joined.below node found.0 found.2) in
    let same : overlay.file ≡ file = cc (sym overlay.edge ∙ edge) in (
      held_by nodes file joined (subst (IsFile nodes) same overlay.is_file),
      of_image (row_at nodes node) found.0 found.1 (IsKnownAt file nodes.devices) found.2 found.3
          (subst (λ (f : ℕ). IsKnownAt f nodes.devices found.1) same overlay.known),
    )

-- the row that was found is the node's
pub renames_at : (old : Nodes) (node file index : ℕ) (found slot : Option Row) (devices : List DeviceSeen) (name format : Option (List ℕ)) (result : Result (Unit {0}) Fault)
    → index ≡ node → index < length old.rows → found ≡ get_or old.rows index found → RenamesRow file found slot old.devices devices name format result
    → RenamesRow file (row_at old node) slot old.devices devices name format result
renames_at old node file index found slot devices name format result same within is renames =
    let here : row_at old node ≡ found = ap (row_at old) (sym same) ∙ get_or_default old.rows index None found within ∙ sym is in
    subst (λ (r : Option Row). RenamesRow file r slot old.devices devices name format result) (sym here) renames

module _ (old : Nodes) (joined : IsJoined old) (node file : ℕ) (owns : OwnsImage old node) (edge : file_of old node ≡ Some file) (slot : Option Row) (devices : List DeviceSeen)
    (name format : Option (List ℕ)) (result : Result (Unit {0}) Fault) (r : RenamesRow file (row_at old node) slot old.devices devices name format result) where
  abbrev new : Nodes
  new = record old { rows = set old.rows node slot; devices = devices }

  abbrev row_after : Row
  row_after = record r.row { driver = Qcow2 r.now }

  row_now : row_at new node ≡ Some row_after
  row_now = get_or-set_same old.rows node slot None (row_below old.rows node r.row r.there) ∙ r.left

  others_now : (other : ℕ) → other ≢ node → row_at new other ≡ row_at old other
  others_now other apart = get_or-set_other old.rows node other slot None apart

  size_now : r.now.header.size ≡ r.image.header.size
  size_now = named_size r.at.renamed.answer r.image name format r.now r.at.renamed.rename.known

  sizes_same : (n : ℕ) → node_size new n ≡ node_size old n
  sizes_same n = elim (cases_eq n node) [
    | inl same ↦ ap (node_size new) same ∙ ap size_by row_now ∙ sym (ap size_by r.there) ∙ ap (node_size old) (sym same)
    | inr apart ↦ ap size_by (others_now n apart)
  ]

  -- the node is no `file` node
  no_file : (n : ℕ) (is : IsFile old n) → n ≢ node
  no_file n is same =
      let rows : is.row ≡ r.row = cc (sym is.there ∙ ap (row_at old) same ∙ r.there) in
      let drivers : File ≡ Qcow2 r.image = sym is.driver ∙ ap (λ (x : Row). x.driver) rows ∙ r.driver in
      cc drivers

  file_after : (n : ℕ) → IsFile old n → IsFile new n
  file_after n is = record { row = is.row; there = others_now n (no_file n is) ∙ is.there; driver = is.driver }

  size_after : (n size : ℕ) → HasSize old n size → HasSize new n size
  size_after n size has = elim (cases_eq n node) [
    | inl same ↦
        let rows : has.row ≡ r.row = cc (sym has.there ∙ ap (row_at old) same ∙ r.there) in
        record { row = row_after; there = ap (row_at new) same ∙ row_now; is = ap (λ (x : Row). x.size) (sym rows) ∙ has.is }
    | inr apart ↦ record { row = has.row; there = others_now n apart ∙ has.there; is = has.is }
  ]

  some_after : (n : ℕ) → IsSome (device_in old.devices n) → IsSome (device_in devices n)
  some_after n some = elim (cases_eq n file) [
    | inl same ↦ rw (same, r.at.left) refl
    | inr apart ↦ rw (r.at.only.others n apart) some
  ]

  some_before : (n : ℕ) → IsSome (device_in devices n) → IsSome (device_in old.devices n)
  some_before n some = elim (cases_eq n file) [
    | inl same ↦ rw (same, r.at.held) refl
    | inr apart ↦ rw (r.at.only.others n apart) at some
  ]

  known_own : IsKnownAt file devices r.now
  known_own device b held content =
      let same : r.at.after ≡ device = cc (sym r.at.left ∙ held) in
      r.at.renamed.rename.sound b (ap (λ (d : DeviceSeen). d.content) same ∙ content)

  known_other : (n : ℕ) (row : Row) (image : Known) → n ≢ node → row_at old n ≡ Some row → row.driver ≡ Qcow2 image → (is : IsOverlay old n image) → IsKnownAt is.file devices image
  known_other n row image apart there driver is device b held content = elim (cases_eq is.file file) [
    | inl mine ↦
        absurd (apart (owns file edge n (record { row = row; image = image; there = there; driver = driver; edge = is.edge ∙ ap (λ (f : ℕ). Some f) mine })))
    | inr other ↦ is.known device b (sym (r.at.only.others is.file other) ∙ held) content
  ]

  below_other : (n : ℕ) (row : Row) (driver : Driver) → n ≢ node → row_at old n ≡ Some row → row.driver ≡ driver → HasBelow old n row.size driver → HasBelow new n row.size driver
  below_other n row File apart there driver is = some_after n is
  below_other n row (Raw part) apart there driver is =
      let size = sizes_same is.file in
      let within = is.within in
      record { file = is.file; edge = is.edge; is_file = file_after is.file is.is_file; within = omega arith }
  below_other n row (Qcow2 image) apart there driver is = record {
    file = is.file;
    edge = is.edge;
    is_file = file_after is.file is.is_file;
    opened = is.opened;
    known = known_other n row image apart there driver is;
    backing = λ over edge. size_after over image.header.size (is.backing over edge);
  }
  below_other n row CopyOnRead apart there driver is =
      record { child = is.child; edge = is.edge; same = size_after is.child row.size is.same }
  below_other n row (Filter kind) apart there driver is = λ child edge. size_after child row.size (is child edge)

  overlay : IsOverlay old node r.image
  overlay = rw r.driver at (joined.below node r.row r.there)

  below_own : IsOverlay new node r.now
  below_own =
      let same : overlay.file ≡ file = cc (sym overlay.edge ∙ edge) in
      record {
        file = file;
        edge = edge;
        is_file = file_after file (subst (IsFile old) same overlay.is_file);
        opened = r.opened;
        known = known_own;
        backing = λ over over_edge. subst (HasSize new over) (sym size_now) (size_after over r.image.header.size (overlay.backing over over_edge));
      }

  abbrev AtRow : (n : ℕ) (row : Row) → Type 0
  AtRow n row = (kind_at old.graph.kinds n ≡ node_kind row) × IsSized row.size row.driver × HasBelow new n row.size row.driver

  at_row : (n : ℕ) (row : Row) → row_at new n ≡ Some row → AtRow n row
  at_row n row there = elim (cases_eq n node) [
    | inl same ↦
        let is : row_after ≡ row = cc (sym row_now ∙ ap (row_at new) (sym same) ∙ there) in
        let kind_with : Driver → NodeKind = λ d. record { kind = driver_kind d; writes = not r.row.is_read_only } in
        let kind : kind_at old.graph.kinds n ≡ node_kind row_after = ap (kind_at old.graph.kinds) same ∙ joined.kinds node r.row r.there ∙ ap kind_with r.driver in
        let sized : IsSized r.row.size (Qcow2 r.image) = rw r.driver at (joined.sized node r.row r.there) in
        let own : HasBelow new n r.row.size (Qcow2 r.now) = subst (λ (m : ℕ). IsOverlay new m r.now) (sym same) below_own in
        subst (AtRow n) is (kind, size_now ∙ sized, own)
    | inr apart ↦
        let was : row_at old n ≡ Some row = sym (others_now n apart) ∙ there in
        (joined.kinds n row was, joined.sized n row was, below_other n row row.driver apart was refl (joined.below n row was))
  ]

  pub joined_renamed : IsJoined new
  joined_renamed = record {
    rows = length-set old.rows node slot ∙ joined.rows;
    sound = joined.sound;
    kinds = λ n row there. (at_row n row there).0;
    there = λ n has. elim (cases_eq n node) [
      | inl same ↦ rw (same, row_now) refl
      | inr apart ↦ rw (others_now n apart) (joined.there n has)
    ];
    only = λ n some. elim (cases_eq n node) [
      | inl same ↦ joined.only n (rw (same, r.there) refl)
      | inr apart ↦ joined.only n (rw (others_now n apart) at some)
    ];
    sized = λ n row there. (at_row n row there).1;
    below = λ n row there. (at_row n row there).2;
    devices = λ n some. file_after n (joined.devices n (some_before n some));
    once = once_by_nodes old.devices devices r.at.only.nodes joined.once;
  }

  pub renamed_node : RenamesNode old new node name format result
  renamed_node =
      let here : row_at new node ≡ slot = get_or-set_same old.rows node slot None (row_below old.rows node r.row r.there) in
      record {
        file = file;
        edge = edge;
        renamed = subst (λ (s : Option Row). RenamesRow file (row_at old node) s old.devices devices name format result) (sym here) r;
        rows = ap (set old.rows node) (sym here);
        graph = refl;
      }

  -- ---- the disks

  abbrev mid : Nodes
  mid = record old { devices = devices }

  -- what is known of an image isn't looked at
  abbrev disk_found : Nodes → (ℕ → List ℕ) → ℕ → Option Row → List ℕ
  disk_found nodes f n found = elim found as (λ _. List ℕ) [ None ↦ [] | Some row ↦ disk_by nodes f n row.driver ]

  driver_same : (f g : ℕ → List ℕ) → ((n : ℕ) → f n ≡ g n) → (n : ℕ) (d : Driver) → disk_by new f n d ≡ disk_by mid g n d
  driver_same = by_driver mid new sizes_same (λ n. refl) (λ n. refl) (λ n. refl) (λ n. refl)

  found_same : (f g : ℕ → List ℕ) → ((n : ℕ) → f n ≡ g n) → (n : ℕ) (found : Option Row) → disk_found new f n found ≡ disk_found mid g n found
  found_same f g each n None = refl
  found_same f g each n (Some row) = driver_same f g each n row.driver

  row_same : (f g : ℕ → List ℕ) → ((n : ℕ) → f n ≡ g n) → (n : ℕ) → disk_found new f n (row_at new n) ≡ disk_found mid g n (row_at mid n)
  row_same f g each n = elim (cases_eq n node) [
    | inl same ↦
        ap (disk_found new f n) (ap (row_at new) same ∙ row_now) ∙ driver_same f g each n (Qcow2 r.image) ∙ ap (disk_by mid g n) (sym r.driver)
        ∙ ap (disk_found mid g n) (sym (ap (row_at old) same ∙ r.there))
    | inr apart ↦ ap (disk_found new f n) (others_now n apart) ∙ found_same f g each n (row_at old n)
  ]

  down_same : (turns n : ℕ) → disk_down turns new n ≡ disk_down turns mid n
  down_same zero n = refl
  down_same (suc turns) n = row_same (disk_down turns new) (disk_down turns mid) (down_same turns) n

  disk_other : (n : ℕ) → (LeadsTo old.graph.edges n file → ⊥) → disk_of new n ≡ disk_of old n
  unfolding disk_of
  disk_other n none = down_same 64 n ∙ disk_apart old devices file r.at.only n none

  bytes_are : (nodes : Nodes) (d : DeviceSeen) → device_in nodes.devices file ≡ Some d → bytes_of nodes file ≡ told d.content
  bytes_are nodes d held = ap bytes_by held

  image_same : (before after : Option (List ℕ)) (over : List ℕ) → r.at.before.content ≡ before → r.at.after.content ≡ after → is_some after ≡ is_some before
      → image_disk (told after) over ≡ image_disk (told before) over
  image_same None None over was now same = refl
  image_same None (Some b) over was now same = absurd (cc same)
  image_same (Some b) None over was now same = absurd (cc same)
  image_same (Some b) (Some c) over was now same = disk_written b c over 0 [] (r.at.renamed.rename.disk b c was now) (omega arith)

  module _ (apart : IsOverApart old node) where
    under_same : (found : Option ℕ) → backing_of old node ≡ found → disk_under (disk_of new) found ≡ disk_under (disk_of old) found
    under_same None is = refl
    under_same (Some over) is = disk_other over (apart over file is edge)

    pub own_renamed : disk_of new node ≡ disk_of old node
    own_renamed =
        unfolds new joined_renamed node row_after row_now
        ∙ ap (λ (f : Option ℕ). image_disk (disk_under (bytes_of new) f) (disk_under (disk_of new) (backing_of old node))) edge
        ∙ ap (image_disk (bytes_of new file)) (under_same (backing_of old node) refl)
        ∙ ap (λ (b : List ℕ). image_disk b (disk_under (disk_of old) (backing_of old node))) (bytes_are new r.at.after r.at.left)
        ∙ image_same r.at.before.content r.at.after.content (disk_under (disk_of old) (backing_of old node)) refl refl r.at.renamed.rename.device.told
        ∙ ap (λ (b : List ℕ). image_disk b (disk_under (disk_of old) (backing_of old node))) (sym (bytes_are old r.at.before r.at.held))
        ∙ ap (λ (f : Option ℕ). image_disk (disk_under (bytes_of old) f) (disk_under (disk_of old) (backing_of old node))) (sym edge)
        ∙ sym (unfolds old joined node r.row r.there ∙ ap (disk_by old (disk_of old) node) r.driver)

    told_after : AreTold old.devices → AreTold devices
    told_after all d there = elim (cases_eq d.node file) [
      | inl same ↦
          let is : d ≡ r.at.after = cc (sym (noded devices d joined_renamed.once there) ∙ ap (device_in devices) same ∙ r.at.left) in
          ap (λ (x : DeviceSeen). is_some x.content) is ∙ r.at.renamed.rename.device.told
          ∙ all r.at.before (find-Some (is_device_of file) old.devices r.at.before r.at.held).0
      | inr other ↦
          all d (find-Some (is_device_of d.node) old.devices d (sym (r.at.only.others d.node other) ∙ noded devices d joined_renamed.once there)).0
    ]

    image_before : (n f : ℕ) → HasImageIn new n f → HasImageIn old n f
    image_before n f has = elim (cases_eq n node) [
      | inl same ↦ record { row = r.row; image = r.image; there = ap (row_at old) same ∙ r.there; driver = r.driver; edge = has.edge }
      | inr other ↦ record { row = has.row; image = has.image; there = sym (others_now n other) ∙ has.there; driver = has.driver; edge = has.edge }
    ]

    one_leaves : LeavesRest (node ∷ []) old new Good
    one_leaves = record {
      graph = refl;
      rows = λ other each. others_now other each.0;
      sizes = sizes_same;
      alike = image_before;
      bytes = λ f each. ap bytes_by (r.at.only.others f (λ same. each.0 (edge ∙ ap (λ (k : ℕ). Some k) (sym same))));
      devices = λ good f each. r.at.only.others f (λ same. each.0 (edge ∙ ap (λ (k : ℕ). Some k) (sym same)));
      told = told_after;
    }

    pub others_renamed : (other : ℕ) → IsBeside old other node → disk_of new other ≡ disk_of old other
    others_renamed other beside = beside_stays old new joined joined_renamed node Good one_leaves own_renamed file edge other (beside file edge)
