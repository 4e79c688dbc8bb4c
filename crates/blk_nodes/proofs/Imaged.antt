-- What a piece that is written to an image leaves of all nodes.
use Rattle.std.proofs.Common.{◌≡◌, ◌≢◌, ℕ, ◌+◌, ◌/◌, ◌%◌, ◌<◌, ◌≤◌, Bool, true, false, List, [], ◌++◌, length, take, drop, replicate, Option, Some, None, refl, sym, ◌∙◌, ap, subst, arith, inl, inr}
use Rattle.std.specs.Prelude.{IsSome, is_some}
use Rattle.std.proofs.lemmas.Bool.{cases_eq}
use Rattle.std.proofs.lemmas.List.{get_or-set_same, get_or-set_other, length-set, length-replicate, take-append-le, take_all}
use Rattle.blk_base.specs.Content.{bytes_at, with_bytes}
use Rattle.blk_base.specs.Pieces.{Extent}
use Rattle.blk_base.specs.declared.fault.DevNo.{DevNo}
use Rattle.blk_base.specs.declared.fault.Outcome.{Outcome}
use Rattle.blk_base.specs.declared.fault.Outcome.TheVariants.{Good, Torn, Io, NoSpace}
use Rattle.q2_format.specs.Contents.{image_disk}
use Rattle.q2_format.specs.declared.entries.L2Entry.{L2Entry}
use Rattle.q2_format.specs.declared.entries.L2Entry.TheVariants as entries
use Rattle.q2_image.specs.Image.{Known, IsOpen, cluster_size_in, entry_in}
use Rattle.q2_image.specs.Reading.{IsHost}
use Rattle.q2_image.specs.Room.{WriteFits, PartZerosFit, ZerosFit, ZerosFitBy, entry_for, is_whole}
use Rattle.blk_nodes.specs.Contents.{IsToldDisk, told, disk_under, disk_by, disk_of, bytes_of}
use Rattle.blk_nodes.specs.Changing.{ImageChange, IsImageWritten, IsZeroed, ChangesPart, ZeroesPart, ZeroesBy, LeavesRow}
use Rattle.blk_nodes.specs.Found.{found_bytes, IsReadOfSource}
use Rattle.blk_nodes.specs.Joined.{IsOverlay, IsJoined}
use Rattle.blk_nodes.specs.Nodes.{Nodes, DeviceSeen, AreTold, row_at, device_in, size_by, node_size, file_of, backing_of}
use Rattle.blk_nodes.specs.Parts.{HasPiece, IsPieceOf, IsDiskFound, RefusesPiece, StopsReading, CallsPiece, WritesPart, row_in}
use Rattle.blk_nodes.specs.Reading.{HaveRisen, LeadsTo}
use Rattle.blk_nodes.specs.Sources.{source_at}
use Rattle.blk_nodes.specs.Walk.{IsKnownAt}
use Rattle.blk_nodes.specs.Writing.{taken_by, IsDeviceAfter, HasImageCause, HasPieceCause, IsRestRead, WritesImage, WritesBy, WritesPiece, ZerosBy, ZerosPiece, own_place_by, rest_span, zeros_place, IsDriverAfter, AreRowsAfter, LeavesNodes, OwnsFile, own_file, IsOverApart, CanBeWritten, MayWriteThrough, IsApartFrom}
use Rattle.blk_nodes.specs.declared.part.Part.{Part}
use Rattle.blk_nodes.specs.declared.row.Driver.{Driver}
use Rattle.blk_nodes.specs.declared.row.Driver.TheVariants.{Qcow2}
use Rattle.blk_nodes.specs.declared.row.Row.{Row}
use Rattle.blk_nodes.specs.declared.source.Source.{Source}
use Rattle.blk_nodes.proofs.Alike.{alike_but, row_refl, joined_alike, disks_alike}
use Rattle.blk_nodes.proofs.Chains.{reads_found}
use Rattle.blk_nodes.proofs.CoveredDisks.{length_disk}
use Rattle.blk_nodes.proofs.Disks.{disks_risen}
use Rattle.blk_nodes.proofs.HeldDevices.{told_is, told_held, held_after, before_rise, device_risen, HasRisen-refl, HaveRisen-refl, some_device}
use Rattle.blk_nodes.proofs.Joints.{joined_after}
use Rattle.blk_nodes.proofs.PartFits.{rest_whole}
use Rattle.blk_nodes.proofs.PartsWritten.{len_is, same_row, start_is}
use Rattle.blk_nodes.proofs.RestBeside.{read_beside, rest_beside}
use Rattle.blk_nodes.proofs.Rows.{row_below, image_found}
use Rattle.blk_nodes.proofs.Unfolding.{unfolds}
use Rattle.blk_nodes.proofs.Written.{disk_apart}

module _ (nodes : Nodes) (joined : IsJoined nodes) (part : Part) (may : MayWriteThrough nodes part.node) (edge : file_of nodes part.node ≡ Some part.file)
    (source_is : source_at nodes part.node part.whole.start ≡ part.source)
    (piece : HasPiece nodes.rows nodes.devices part) (rows : List (Option Row)) (devices : List DeviceSeen) (fits : Known → ℕ → Type 0) (own : Known → Option ℕ)
    (change : ImageChange) (bytes : List ℕ) (outcome : Outcome) (w : WritesPart fits own change nodes.rows rows nodes.devices devices part bytes outcome)
    (refuses : (device : DeviceSeen) (dev : DevNo) → (fits w.image device.capacity → ⊥) → change w.image w.image device device (NoSpace dev))
    (bare : own w.image ≡ None → part.span.len < part.whole.len → IsHost (entry_in w.image (part.whole.start / cluster_size_in w.image)) → ⊥) where
  abbrev new : Nodes
  new = record nodes { rows = rows; devices = devices }

  abbrev node : ℕ
  node = part.node

  -- what is read for the rest of its cluster
  abbrev rest : Option Extent
  rest = rest_span (own w.image) (is_whole w.image part.span) w.image part.span

  is_piece : IsPieceOf nodes.rows nodes.devices part w.image
  is_piece = image_found (row_at nodes node) w.row w.image (IsPieceOf nodes.rows nodes.devices part) w.there w.driver piece

  may_driver : may.row.driver ≡ Qcow2 w.image
  may_driver = let same : may.row ≡ w.row = cc (sym may.there ∙ w.there) in ap (λ (r : Row). r.driver) same ∙ w.driver

  own_is : own_file nodes node may.row.driver ≡ Some part.file
  own_is = ap (own_file nodes node) may_driver ∙ edge

  owns : OwnsFile nodes node part.file
  owns = may.owns part.file own_is

  over_apart : IsOverApart nodes node
  over_apart = subst (CanBeWritten nodes node) may_driver may.can

  none_below : (other : ℕ) → IsApartFrom nodes other node → LeadsTo nodes.graph.edges other part.file → ⊥
  none_below other apart = apart may.row part.file may.there own_is

  sized : w.image.header.size ≡ node_size nodes node
  sized = let same : w.image.header.size ≡ w.row.size = rw w.driver at (joined.sized node w.row w.there) in same ∙ sym (ap size_by w.there)

  -- the bytes of its cluster are found on its disk
  found_is : AreTold nodes.devices → found_bytes nodes.devices part.source part.whole.start part.whole.len ≡ bytes_at (disk_of nodes node) part.whole.start part.whole.len
  found_is all =
      let start = start_is nodes.rows nodes.devices part w.image is_piece in
      let count = len_is nodes.rows nodes.devices part w.image is_piece in
      let size = sized in
      let within = is_piece.inside in
      let inside : part.whole.start + part.whole.len ≤ node_size nodes node = omega arith in
      let block : part.whole.start % 65536 + part.whole.len ≤ 65536 = omega arith in
      reads_found nodes joined all node part.whole.start part.whole.len inside block (found_bytes nodes.devices part.source part.whole.start part.whole.len) part.source source_is refl

  pub disk_found : (disk : List ℕ) → IsToldDisk nodes node disk → IsDiskFound nodes.devices part disk
  disk_found disk is =
      let start = start_is nodes.rows nodes.devices part w.image is_piece in
      let count = len_is nodes.rows nodes.devices part w.image is_piece in
      let size = sized in
      let within = is_piece.inside in
      let all : length disk ≡ node_size nodes node = ap length is.1 ∙ length_disk nodes joined is.0 node w.row w.there ∙ sym (ap size_by w.there) in
      record {
        told = is.0;
        found = found_is is.0 ∙ ap (λ (d : List ℕ). bytes_at d part.whole.start part.whole.len) (sym is.1);
        ends = λ less. omega arith;
      }

  -- where nothing changed
  module _ (rows_same : rows ≡ nodes.rows) (devices_same : devices ≡ nodes.devices) where
    all_same : new ≡ nodes
    all_same =
        let with_rows : List (Option Row) → Nodes = λ rs. record nodes { rows = rs; devices = devices } in
        let with_devices : List DeviceSeen → Nodes = λ ds. record nodes { devices = ds } in
        ap with_rows rows_same ∙ ap with_devices devices_same

  leaves_same : rows ≡ nodes.rows → LeavesNodes nodes new node
  leaves_same same = record {
    graph = refl;
    others = λ other apart. ap (λ (rs : List (Option Row)). row_in rs other) same;
    own = subst (λ (rs : List (Option Row)). AreRowsAfter (row_at nodes node) (row_in rs node)) (sym same) (row_refl (row_at nodes node));
  }

  -- how the image and the device of its file changed
  abbrev Changed : Known → Type 0
  Changed now = (file : ℕ) (before after : DeviceSeen) → file_of nodes node ≡ Some file → device_in nodes.devices file ≡ Some before → device_in devices file ≡ Some after
      → change w.image now before after outcome

  -- where its row did not
  left_same : rows ≡ nodes.rows → Changed w.image → LeavesRow change (Qcow2 w.image) w.row nodes new node outcome
  left_same same changed = record {
    now = w.image;
    left = ap (λ (rs : List (Option Row)). row_in rs node) same ∙ w.there ∙ ap (λ (r : Row). Some r) (sym (same_row w.row w.image w.driver));
    changed = changed;
  }

  its_file : (file : ℕ) → file_of nodes node ≡ Some file → part.file ≡ file
  its_file file is = cc (sym edge ∙ is)

  -- where nothing was tried
  refused_row : (r : RefusesPiece part.file (fits w.image) nodes.rows rows nodes.devices devices outcome) → Changed w.image
  refused_row r file before after is held left =
      let first : r.device ≡ before = cc (sym r.held ∙ ap (device_in nodes.devices) (its_file file is) ∙ held) in
      let full : fits w.image before.capacity → ⊥ = subst (λ (d : DeviceSeen). fits w.image d.capacity → ⊥) first r.full in
      let stays : before ≡ after = cc (sym held ∙ sym (ap (λ (ds : List DeviceSeen). device_in ds file) r.devices_same) ∙ left) in
      subst (λ (o : Outcome). change w.image w.image before after o) (sym r.is)
      (subst (λ (d : DeviceSeen). change w.image w.image before d (NoSpace r.dev)) stays (refuses before r.dev full))

  -- where the read of the rest of the cluster was stopped
  module _ (s : StopsReading part (fits w.image) (own w.image) change w.image nodes.rows rows nodes.devices devices outcome) where
    abbrev read : Nodes
    read = record nodes { devices = devices }

    read_is : new ≡ read
    read_is = let with_rows : List (Option Row) → Nodes = λ rs. record nodes { rows = rs; devices = devices } in ap with_rows s.rows_same

    at_place : IsReadOfSource nodes.rows (source_at nodes node part.whole.start) part.whole nodes.devices devices (Io s.dev s.count)
    at_place =
        let at_source : IsReadOfSource nodes.rows part.source part.whole nodes.devices devices (Io s.dev s.count)
        = subst (IsReadOfSource nodes.rows part.source part.whole nodes.devices devices) s.is s.read in
        subst (λ (source : Source). IsReadOfSource nodes.rows source part.whole nodes.devices devices (Io s.dev s.count)) (sym source_is) at_source

    -- the image's own file isn't read
    own_stays : device_in devices part.file ≡ device_in nodes.devices part.file
    own_stays =
        read_beside part.file nodes.rows nodes.devices devices s.dev s.count (source_at nodes node part.whole.start) part.whole
        (rest_beside nodes node part.whole.start w.row w.image w.there w.driver (bare s.nowhere s.less) part.file (λ over is. over_apart over part.file is edge)) at_place

    stopped_row : Changed w.image
    stopped_row file before after is held left =
        let here = its_file file is in
        let same : s.device ≡ before = cc (sym s.held ∙ ap (device_in nodes.devices) here ∙ held) in
        let stays : before ≡ after = cc (sym held ∙ ap (device_in nodes.devices) (sym here) ∙ sym own_stays ∙ ap (device_in devices) here ∙ left) in
        subst (λ (d : DeviceSeen). change w.image w.image before d outcome) stays
        (subst (λ (d : DeviceSeen). change w.image w.image d d outcome) same s.changed)

    joined_stopped : IsJoined new
    joined_stopped = subst IsJoined (sym read_is) (joined_after nodes devices s.risen joined)

    disk_stopped : (other : ℕ) → disk_of new other ≡ disk_of nodes other
    disk_stopped other = ap (λ (n : Nodes). disk_of n other) read_is ∙ disks_risen nodes devices s.risen other

    wrote_stopped : WritesImage (fits w.image) (own w.image) rest nodes new node (length bytes) outcome
    wrote_stopped =
        let now = some_device (device_in devices part.file) (held_after part.file nodes.devices devices s.risen (rw s.held refl)) in
        let was = before_rise part.file nodes.devices devices now.0 s.risen now.1 in
        let same_device : was.0 ≡ s.device = cc (sym was.1 ∙ s.held) in
        let whole : rest ≡ Some part.whole = rest_whole nodes.rows nodes.devices part w.image is_piece s.less (own w.image) s.nowhere in
        let is_read : IsRestRead rest nodes new node (Io s.dev s.count)
        = subst (λ (r : Option Extent). IsRestRead r nodes new node (Io s.dev s.count)) (sym whole) at_place in
        record {
          file = part.file;
          edge = edge;
          before = s.device;
          after = now.0;
          held = s.held;
          left = now.1;
          device = subst (λ (d : DeviceSeen). IsDeviceAfter d now.0) same_device (device_risen was.0 now.0 was.2);
          devices = inr s.risen;
          cause = subst (HasPieceCause (fits w.image s.device.capacity) (own w.image) rest (length bytes) part.file nodes new node s.device now.0) (sym s.is)
              (s.fit, inr is_read);
        }

  -- where the image was called
  module _ (c : CallsPiece part (fits w.image) (own w.image) change w.image w.row nodes.rows rows nodes.devices devices bytes outcome) where
    abbrev row_after : Row
    row_after = record w.row { driver = Qcow2 c.now }

    row_now : row_in rows node ≡ Some row_after
    row_now =
        ap (λ (rs : List (Option Row)). row_in rs node) c.row_now
        ∙ get_or-set_same nodes.rows node (Some row_after) None (row_below nodes.rows node w.row w.there)

    others_now : (other : ℕ) → other ≢ node → row_in rows other ≡ row_at nodes other
    others_now other apart =
        ap (λ (rs : List (Option Row)). row_in rs other) c.row_now ∙ get_or-set_other nodes.rows node other (Some row_after) None apart

    own_now : AreRowsAfter (row_at nodes node) (row_in rows node)
    own_now =
        let after : IsDriverAfter w.row.driver (Qcow2 c.now)
        = subst (λ (d : Driver). IsDriverAfter d (Qcow2 c.now)) (sym w.driver) (c.now, refl, c.header, c.taken, c.mapped) in
        subst (λ (f : Option Row). AreRowsAfter f (row_in rows node)) (sym w.there)
        (row_after, row_now, record { size = refl; is_read_only = refl; driver = after })

    called_row : Changed c.now
    called_row file before after is held left =
        let here = its_file file is in
        let first : c.before ≡ before = cc (sym c.held ∙ ap (device_in nodes.devices) here ∙ held) in
        let last : c.after ≡ after = cc (sym c.held_now ∙ ap (device_in devices) here ∙ left) in
        subst (λ (d : DeviceSeen). change w.image c.now before d outcome) last
        (subst (λ (d : DeviceSeen). change w.image c.now d c.after outcome) first c.changed)

    leaves_called : LeavesNodes nodes new node
    leaves_called = record { graph = refl; others = others_now; own = own_now }

    alike : (n : ℕ) → AreRowsAfter (row_at nodes n) (row_in rows n)
    alike = alike_but nodes new node others_now own_now

    image_now : (n : ℕ) (row : Row) (image : Known) → n ≡ node → row_at new n ≡ Some row → row.driver ≡ Qcow2 image → image ≡ c.now
    image_now n row image same there driver =
        let is : row ≡ row_after = cc (sym there ∙ ap (row_in rows) same ∙ row_now) in
        let drivers : Qcow2 image ≡ Qcow2 c.now = sym driver ∙ ap (λ (r : Row). r.driver) is in
        cc drivers

    opened_now : (n : ℕ) (row : Row) (image : Known) → row_at new n ≡ Some row → row.driver ≡ Qcow2 image → IsOpen image
    opened_now n row image there driver = elim (cases_eq n node) [
      | inl same ↦ subst IsOpen (sym (image_now n row image same there driver)) c.opened
      | inr apart ↦
          let was : IsOverlay nodes n image = rw driver at (joined.below n row (sym (others_now n apart) ∙ there)) in
          was.opened
    ]

    known_own : IsKnownAt part.file devices c.now
    known_own device b held content =
        let same : c.after ≡ device = cc (sym c.held_now ∙ held) in
        c.known b (ap (λ (d : DeviceSeen). d.content) same ∙ content)

    known_now : (n : ℕ) (row : Row) (image : Known) (file : ℕ) → row_at new n ≡ Some row → row.driver ≡ Qcow2 image → file_of nodes n ≡ Some file
        → IsKnownAt file devices image
    known_now n row image file there driver is = elim (cases_eq n node) [
      | inl same ↦
          let here : part.file ≡ file = cc (sym edge ∙ sym (ap (file_of nodes) same) ∙ is) in
          let known : IsKnownAt part.file devices image = subst (IsKnownAt part.file devices) (sym (image_now n row image same there driver)) known_own in
          subst (λ (f : ℕ). IsKnownAt f devices image) here known
      | inr apart ↦
          let was : row_at nodes n ≡ Some row = sym (others_now n apart) ∙ there in
          let overlay : IsOverlay nodes n image = rw driver at (joined.below n row was) in
          let here : overlay.file ≡ file = cc (sym overlay.edge ∙ is) in
          λ device b held content. elim (cases_eq file part.file) [
            | inl mine ↦
                absurd (apart (owns n (record { row = row; image = image; there = was; driver = driver; edge = is ∙ ap (λ (f : ℕ). Some f) mine })))
            | inr other ↦
                overlay.known device b (ap (device_in nodes.devices) here ∙ sym (c.only.others file other) ∙ held) content
          ]
    ]

    after_some : (n : ℕ) → IsSome (device_in nodes.devices n) → IsSome (device_in devices n)
    after_some n some = elim (cases_eq n part.file) [
      | inl same ↦ rw (same, c.held_now) refl
      | inr apart ↦ rw (c.only.others n apart) some
    ]

    before_some : (n : ℕ) → IsSome (device_in devices n) → IsSome (device_in nodes.devices n)
    before_some n some = elim (cases_eq n part.file) [
      | inl same ↦ rw (same, c.held) refl
      | inr apart ↦ rw (c.only.others n apart) at some
    ]

    joined_called : IsJoined new
    joined_called =
        let count : length rows ≡ 64 = ap length c.row_now ∙ length-set nodes.rows node (Some row_after) ∙ joined.rows in
        joined_alike nodes rows devices alike count opened_now known_now after_some before_some c.only.nodes joined

    disk_other : (other : ℕ) → (LeadsTo nodes.graph.edges other part.file → ⊥) → disk_of new other ≡ disk_of nodes other
    disk_other other none =
        let mid : Nodes = record nodes { rows = rows } in
        disk_apart mid devices part.file c.only other none ∙ disks_alike nodes rows alike other

    below_now : (found : Option ℕ) → backing_of nodes node ≡ found → disk_under (disk_of new) found ≡ disk_under (disk_of nodes) found
    below_now None is = refl
    below_now (Some over) is = disk_other over (over_apart over part.file is edge)

    abbrev backing : List ℕ
    backing = disk_under (disk_of nodes) (backing_of nodes node)

    abbrev before : List ℕ
    before = bytes_of nodes part.file

    disk_before : disk_of nodes node ≡ image_disk before backing
    disk_before =
        unfolds nodes joined node w.row w.there ∙ ap (disk_by nodes (disk_of nodes) node) w.driver
        ∙ ap (λ (f : Option ℕ). image_disk (disk_under (bytes_of nodes) f) backing) edge

    rest_is : AreTold nodes.devices → found_bytes nodes.devices part.source part.whole.start part.whole.len
        ≡ bytes_at (image_disk before backing) part.whole.start part.whole.len
    rest_is all = found_is all ∙ ap (λ (d : List ℕ). bytes_at d part.whole.start part.whole.len) disk_before

    disk_called : AreTold nodes.devices → disk_of new node ≡ with_bytes (disk_of nodes node) part.span.start (taken_by outcome bytes)
    disk_called all =
        let was = told_held part.file nodes.devices all (rw c.held refl) in
        let same : c.before ≡ was.0 = cc (sym c.held ∙ was.1) in
        let content : c.before.content ≡ Some before = ap (λ (d : DeviceSeen). d.content) same ∙ was.2 in
        let is_told : is_some c.after.content ≡ true = c.device.told ∙ ap is_some content in
        let content_now : c.after.content ≡ Some (told c.after.content) = told_is c.after.content is_told in
        let bytes_now : bytes_of new part.file ≡ told c.after.content
        = ap (λ (f : Option DeviceSeen). elim f as (λ _. List ℕ) [ None ↦ [] | Some d ↦ told d.content ]) c.held_now in
        unfolds new joined_called node row_after row_now
        ∙ ap (λ (f : Option ℕ). image_disk (disk_under (bytes_of new) f) (disk_under (disk_of new) (backing_of nodes node))) edge
        ∙ ap (image_disk (bytes_of new part.file)) (below_now (backing_of nodes node) refl)
        ∙ ap (λ (b : List ℕ). image_disk b backing) bytes_now
        ∙ c.disk all before (told c.after.content) content content_now backing (rest_is all)
        ∙ ap (λ (d : List ℕ). with_bytes d part.span.start (taken_by outcome bytes)) (sym disk_before)

    cause_called : (o : Outcome) → outcome ≡ o → HasImageCause (fits w.image c.before.capacity) (own w.image) (length bytes) c.before c.after w.image c.now o
        → HasPieceCause (fits w.image c.before.capacity) (own w.image) rest (length bytes) part.file nodes new node c.before c.after o
    cause_called Good is cause = (cause.0, cause.1, c.only)
    cause_called (Torn done dev count) is cause = (cause.0, cause.1, cause.2, c.only)
    cause_called (Io dev count) is cause = (cause.0, inl (cause.1, c.only))
    cause_called (NoSpace dev) is cause = let same = c.full dev is in (cause.0, cause.1, all_same same.0 same.1)

    wrote_called : WritesImage (fits w.image) (own w.image) rest nodes new node (length bytes) outcome
    wrote_called = record {
      file = part.file;
      edge = edge;
      before = c.before;
      after = c.after;
      held = c.held;
      left = c.held_now;
      device = c.device;
      devices = inl c.only;
      cause = cause_called outcome refl c.cause;
    }

  -- all of these
  pub joined_piece : IsJoined new
  joined_piece = elim w.wrote [
    | inl r ↦ subst IsJoined (sym (all_same r.rows_same r.devices_same)) joined
    | inr called ↦ elim called [
      | inl s ↦ joined_stopped s
      | inr c ↦ joined_called c
    ]
  ]

  pub disk_piece : AreTold nodes.devices → disk_of new node ≡ with_bytes (disk_of nodes node) part.span.start (taken_by outcome bytes)
  disk_piece all = elim w.wrote [
    | inl r ↦
        ap (λ (n : Nodes). disk_of n node) (all_same r.rows_same r.devices_same)
        ∙ ap (λ (o : Outcome). with_bytes (disk_of nodes node) part.span.start (taken_by o bytes)) (sym r.is)
    | inr called ↦ elim called [
      | inl s ↦
          disk_stopped s node
          ∙ ap (λ (o : Outcome). with_bytes (disk_of nodes node) part.span.start (taken_by o bytes)) (sym s.is)
      | inr c ↦ disk_called c all
    ]
  ]

  pub others_piece : (other : ℕ) → IsApartFrom nodes other node → disk_of new other ≡ disk_of nodes other
  others_piece other apart = elim w.wrote [
    | inl r ↦ ap (λ (n : Nodes). disk_of n other) (all_same r.rows_same r.devices_same)
    | inr called ↦ elim called [
      | inl s ↦ disk_stopped s other
      | inr c ↦ disk_other c other (none_below other apart)
    ]
  ]

  pub leaves_piece : LeavesNodes nodes new node
  leaves_piece = elim w.wrote [
    | inl r ↦ leaves_same r.rows_same
    | inr called ↦ elim called [
      | inl s ↦ leaves_same s.rows_same
      | inr c ↦ leaves_called c
    ]
  ]

  pub left_piece : LeavesRow change (Qcow2 w.image) w.row nodes new node outcome
  left_piece = elim w.wrote [
    | inl r ↦ left_same r.rows_same (refused_row r)
    | inr called ↦ elim called [
      | inl s ↦ left_same s.rows_same (stopped_row s)
      | inr c ↦ record { now = c.now; left = row_now c; changed = called_row c }
    ]
  ]

  pub wrote_piece : WritesImage (fits w.image) (own w.image) rest nodes new node (length bytes) outcome
  wrote_piece = elim w.wrote [
    | inl r ↦
        let left : device_in devices part.file ≡ Some r.device = ap (λ (ds : List DeviceSeen). device_in ds part.file) r.devices_same ∙ r.held in
        record {
          file = part.file;
          edge = edge;
          before = r.device;
          after = r.device;
          held = r.held;
          left = left;
          device = device_risen r.device r.device (HasRisen-refl r.device);
          devices = inr (subst (HaveRisen nodes.devices) (sym r.devices_same) (HaveRisen-refl nodes.devices));
          cause = subst (HasPieceCause (fits w.image r.device.capacity) (own w.image) rest (length bytes) part.file nodes new node r.device r.device) (sym r.is)
              (r.full, r.named, all_same r.rows_same r.devices_same);
        }
    | inr called ↦ elim called [
      | inl s ↦ wrote_stopped s
      | inr c ↦ wrote_called c
    ]
  ]

-- Where there is no room, nothing changes.
refuses_part : (IsDisk : List ℕ → Type 0) (e : L2Entry) (span : Extent) (bytes : List ℕ) (image : Known) (device : DeviceSeen) (dev : DevNo)
    → ChangesPart IsDisk e span bytes image image device device (NoSpace dev)
refuses_part IsDisk entries.Unallocated span bytes image device dev = (refl, refl)
refuses_part IsDisk (entries.Zero host) span bytes image device dev = (refl, refl)
refuses_part IsDisk (entries.Host host) span bytes image device dev = (refl, refl)
refuses_part IsDisk entries.Compressed span bytes image device dev = (refl, refl)
refuses_part IsDisk entries.Reserved span bytes image device dev = (refl, refl)

pub refuses_written : (IsDisk : List ℕ → Type 0) (span : Extent) (bytes : List ℕ) (image : Known) (device : DeviceSeen) (dev : DevNo)
    → IsImageWritten IsDisk span bytes image image device device (NoSpace dev)
refuses_written IsDisk span bytes image device dev = refuses_part IsDisk (entry_for image span) span bytes image device dev

refuses_zeroes : (IsDisk : List ℕ → Type 0) (e : L2Entry) (span : Extent) (image : Known) (device : DeviceSeen) (dev : DevNo) → (PartZerosFit e image span device.capacity → ⊥)
    → ZeroesPart IsDisk e span image image device device (NoSpace dev)
refuses_zeroes IsDisk entries.Unallocated span image device dev full = (refl, refl)
refuses_zeroes IsDisk (entries.Zero host) span image device dev full = absurd (full tt)
refuses_zeroes IsDisk (entries.Host host) span image device dev full = (refl, refl)
refuses_zeroes IsDisk entries.Compressed span image device dev full = (refl, refl)
refuses_zeroes IsDisk entries.Reserved span image device dev full = (refl, refl)

pub refuses_zeroed : (IsDisk : List ℕ → Type 0) (span : Extent) (image : Known) (device : DeviceSeen) (dev : DevNo) → (ZerosFit image span device.capacity → ⊥)
    → IsZeroed IsDisk span image image device device (NoSpace dev)
refuses_zeroed IsDisk span image device dev full = by (is_whole image span) full
  where
    by : (b : Bool) → (ZerosFitBy b image span device.capacity → ⊥) → ZeroesBy IsDisk b span image image device device (NoSpace dev)
    by true full = (refl, refl)
    by false full = refuses_zeroes IsDisk (entry_for image span) span image device dev full

-- A piece of a qcow2 node, by what the node is.
pub piece_image : (old new : Nodes) (node : ℕ) (span : Extent) (bytes : List ℕ) (outcome : Outcome) (row : Row) (image : Known) → row_at old node ≡ Some row → row.driver ≡ Qcow2 image
    → WritesImage (WriteFits image span) (own_place_by (entry_for image span) image span)
    (rest_span (own_place_by (entry_for image span) image span) (is_whole image span) image span) old new node (length bytes) outcome
    → LeavesRow (IsImageWritten (IsToldDisk old node) span bytes) (Qcow2 image) row old new node outcome → WritesPiece old new node span bytes outcome
piece_image old new node span bytes outcome row image there driver wrote left = record {
  row = row;
  there = there;
  wrote = subst (λ (d : Driver). WritesBy d old new node span bytes outcome) (sym driver) wrote;
  left = subst (λ (d : Driver). LeavesRow (IsImageWritten (IsToldDisk old node) span bytes) d row old new node outcome) (sym driver) left;
}

pub zeros_image : (old new : Nodes) (node : ℕ) (span : Extent) (outcome : Outcome) (row : Row) (image : Known) → row_at old node ≡ Some row → row.driver ≡ Qcow2 image
    → WritesImage (ZerosFit image span) (zeros_place (is_whole image span) image span)
    (rest_span (zeros_place (is_whole image span) image span) (is_whole image span) image span) old new node (length (replicate {A = ℕ} span.len 0)) outcome
    → LeavesRow (IsZeroed (IsToldDisk old node) span) (Qcow2 image) row old new node outcome → ZerosPiece old new node span outcome
zeros_image old new node span outcome row image there driver wrote left =
    let P : ℕ → Type 0 = λ n. WritesImage (ZerosFit image span) (zeros_place (is_whole image span) image span)
    (rest_span (zeros_place (is_whole image span) image span) (is_whole image span) image span) old new node n outcome in
    record {
      row = row;
      there = there;
      wrote = subst (λ (d : Driver). ZerosBy d old new node span outcome) (sym driver) (subst P (length-replicate {A = ℕ} span.len 0) wrote);
      left = subst (λ (d : Driver). LeavesRow (IsZeroed (IsToldDisk old node) span) d row old new node outcome) (sym driver) left;
    }

-- a slice that takes the place of the whole list
pub sliced : {A : Type 0} (xs items : List A) (n : ℕ) → length xs ≡ length items → n ≡ length items → take n (xs ++ drop (length xs) items) ≡ xs
sliced xs items n same is =
    take-append-le n xs (drop (length xs) items) (omega arith) ∙ take_all n xs (omega arith)
