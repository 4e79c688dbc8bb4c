-- A read of a guest meets no image but the one below its drive, where that is a copy-on-read: no node is over such a one.
use Rattle.std.proofs.Common.{◌≡◌, ◌⊎◌, ℕ, zero, suc, Bool, true, false, cond, List, [], ◌∷◌, Option, Some, None, refl, sym, ◌∙◌, ap, subst, inl, inr}
use Rattle.std.specs.Prelude.{IsSome, option_and_then, ◌+◌, ◌/◌, ◌&&◌}
use Rattle.std.specs.List.{list_any}
use Rattle.std.proofs.lemmas.Bool.{false≢true}
use Rattle.blk_base.specs.Pieces.{Extent}
use Rattle.blk_base.specs.declared.fault.Outcome.{Outcome}
use Rattle.trace_codec.specs.declared.op.Op.{Op}
use Rattle.trace_codec.specs.declared.op.Op.TheVariants.{Read, Write, Zero, Flush, Discard}
use Rattle.blk_graph.specs.Edits.{child_of}
use Rattle.blk_graph.specs.declared.edge.Parent.TheVariants.{Node}
use Rattle.blk_graph.specs.declared.edge.Role.{Role}
use Rattle.blk_graph.specs.declared.edge.Role.TheVariants.{File as FileRole, Backing, Filtered}
use Rattle.blk_graph.specs.declared.kind.Kind.{Kind}
use Rattle.blk_history.specs.Disk.{is_write}
use Rattle.q2_format.specs.declared.entries.L2Entry.{L2Entry}
use Rattle.q2_format.specs.declared.entries.L2Entry.TheVariants as entries
use Rattle.q2_image.specs.Image.{Known, cluster_size_in, entry_in}
use Rattle.qmp_rules.specs.Chains.{filter_role, filtered, disk_node}
use Rattle.qmp_rules.specs.Table.{RunTable, node_by_id, child}
use Rattle.qmp_rules.specs.declared.rows.NodeRecord.{NodeRecord}
use Rattle.flat_machine.specs.Machine.{is_copying, copies_at, copies_through, path, path_from}
use Rattle.flat_machine.specs.Wiring.{TableStands}
use Rattle.flat_machine.proofs.Kept.{own_disk}
use Rattle.flat_machine.proofs.WritingKept.{role_edge}
use Rattle.blk_nodes.specs.Copying.{MapsOne, StopsUnread, is_copy_on_read, shows_below_at, puts_below, images_met, images_met_in}
use Rattle.blk_nodes.specs.Joined.{IsJoined}
use Rattle.blk_nodes.specs.Nodes.{Nodes, row_at, file_of, backing_of, filtered_of, driver_kind}
use Rattle.blk_nodes.specs.Reading.{HaveRisen, IsReadBelow}
use Rattle.blk_nodes.specs.Sources.{in_file, in_image, in_below, step_by_entry, step_by, step_of}
use Rattle.blk_nodes.specs.Writing.{WritesBy}
use Rattle.blk_nodes.specs.declared.row.Driver.{Driver}
use Rattle.blk_nodes.specs.declared.row.Driver.TheVariants.{File, Raw, Qcow2, CopyOnRead, Filter}
use Rattle.blk_nodes.specs.declared.row.FilterKind.{FilterKind}
use Rattle.blk_nodes.specs.declared.row.Row.{Row}
use Rattle.world_parts.specs.Coherent.{AreNodesOf, AreAlike, IsRowOf}
use Rattle.blk_pieces.specs.Pieces.{ReadsPart, Transfers}
use Rattle.blk_pieces.proofs.Kept.{LacksItsRoom, none_met, one_met}
use Rattle.world_pieces.proofs.PiecePaths.{row_there, through_filter, or-left}
use Rattle.world_pieces.proofs.PieceWriters.{own_row}

-- ---- a node that copies no reads

abbrev pub CopiesNone : Nodes → ℕ → Type 0
CopiesNone nodes n = (row : Row) → row_at nodes n ≡ Some row → row.driver ≡ CopyOnRead → ⊥

-- puts nothing below
puts_none : (nodes : Nodes) (n : ℕ) (child : Option Row) (place : ℕ) → CopiesNone nodes n → puts_below (row_at nodes n) child place ≡ false
puts_none nodes n child place none = by_row (row_at nodes n) child refl
  where
    by_driver : (row under : Row) (driver : Driver) → row_at nodes n ≡ Some row → row.driver ≡ driver → puts_below (Some (record row { driver = driver })) (Some under) place ≡ false
    by_driver row under File there is = refl
    by_driver row under (Raw part) there is = refl
    by_driver row under (Qcow2 image) there is = refl
    by_driver row under CopyOnRead there is = absurd (none row there is)
    by_driver row under (Filter kind) there is = refl

    by_row : (found under : Option Row) → row_at nodes n ≡ found → puts_below found under place ≡ false
    by_row None under there = refl
    by_row (Some row) None there = refl
    by_row (Some row) (Some under) there = by_driver row under row.driver there refl

module _ (nodes : Nodes) (node place : ℕ) where
  step_is : (row : Row) (driver : Driver) → row_at nodes node ≡ Some row → row.driver ≡ driver
      → step_of nodes node place ≡ step_by node (file_of nodes node) (backing_of nodes node) (filtered_of nodes node) place driver
  step_is row driver there is = rw (there, is, step_of) refl

  met_nothing : (turns : ℕ) → step_of nodes node place ≡ in_below None → images_met_in (suc turns) nodes node place ≡ []
  met_nothing turns is = rw (is, images_met_in) refl

  met_below : (turns next : ℕ) → step_of nodes node place ≡ in_below (Some next)
      → images_met_in (suc turns) nodes node place
      ≡ cond (puts_below (row_at nodes node) (row_at nodes next) place) (next ∷ images_met_in turns nodes next place) (images_met_in turns nodes next place)
  met_below turns next is = rw (is, images_met_in) refl

  -- a node reads on in a node below, as its backing node, or ends there
  abbrev EndsOrGoes : ℕ → Type 0
  EndsOrGoes turns = (images_met_in (suc turns) nodes node place ≡ [])
      ⊎ ((next : ℕ) × (role : Role) × (child_of (Node node) role nodes.graph.edges ≡ Some next) × (step_of nodes node place ≡ in_below (Some next)))

  module _ (turns : ℕ) (row : Row) (there : row_at nodes node ≡ Some row) where
    by_file : (start : ℕ) → step_of nodes node place ≡ in_file (file_of nodes node) start → (found : Option ℕ) → file_of nodes node ≡ found → EndsOrGoes turns
    by_file start is None edge = inl (rw (is ∙ ap (λ (file : Option ℕ). in_file file start) edge, images_met_in) refl)
    by_file start is (Some file) edge = inl (rw (is ∙ ap (λ (found : Option ℕ). in_file found start) edge, images_met_in) refl)

    step_by_image : (image : Known) (entry : L2Entry) → row.driver ≡ Qcow2 image → entry_in image (place / cluster_size_in image) ≡ entry
        → step_of nodes node place ≡ step_by_entry node (file_of nodes node) (backing_of nodes node) entry
    step_by_image image entry is found = step_is row (Qcow2 image) there is ∙ ap (step_by_entry node (file_of nodes node) (backing_of nodes node)) found

    by_host : step_of nodes node place ≡ in_image node (file_of nodes node) → (found : Option ℕ) → file_of nodes node ≡ found → EndsOrGoes turns
    by_host is None edge = inl (rw (is ∙ ap (in_image node) edge, images_met_in) refl)
    by_host is (Some file) edge = inl (rw (is ∙ ap (in_image node) edge, images_met_in) refl)

    by_backing : (image : Known) → row.driver ≡ Qcow2 image → entry_in image (place / cluster_size_in image) ≡ entries.Unallocated → (found : Option ℕ) → backing_of nodes node ≡ found → EndsOrGoes turns
    by_backing image is entry None under = inl (met_nothing turns (step_by_image image entries.Unallocated is entry ∙ ap in_below under))
    by_backing image is entry (Some next) under = inr (next, Backing, under, step_by_image image entries.Unallocated is entry ∙ ap in_below under)

    by_entry : (image : Known) → row.driver ≡ Qcow2 image → (entry : L2Entry) → entry_in image (place / cluster_size_in image) ≡ entry → EndsOrGoes turns
    by_entry image is entries.Unallocated entry = by_backing image is entry (backing_of nodes node) refl
    by_entry image is (entries.Zero host) entry = inl (rw (step_by_image image (entries.Zero host) is entry, images_met_in) refl)
    by_entry image is (entries.Host host) entry = by_host (step_by_image image (entries.Host host) is entry) (file_of nodes node) refl
    by_entry image is entries.Compressed entry = inl (rw (step_by_image image entries.Compressed is entry, images_met_in) refl)
    by_entry image is entries.Reserved entry = inl (rw (step_by_image image entries.Reserved is entry, images_met_in) refl)

    by_filtered : (kind : FilterKind) → row.driver ≡ Filter kind → (found : Option ℕ) → filtered_of nodes node ≡ found → EndsOrGoes turns
    by_filtered kind is None under = inl (met_nothing turns (step_is row (Filter kind) there is ∙ ap in_below under))
    by_filtered kind is (Some next) under = inr (next, Filtered, under, step_is row (Filter kind) there is ∙ ap in_below under)

    by_driver : CopiesNone nodes node → (driver : Driver) → row.driver ≡ driver → EndsOrGoes turns
    by_driver none File is = inl (rw (step_is row File there is, images_met_in) refl)
    by_driver none (Raw part) is = by_file (part.offset + place) (step_is row (Raw part) there is) (file_of nodes node) refl
    by_driver none (Qcow2 image) is = by_entry image is (entry_in image (place / cluster_size_in image)) refl
    by_driver none CopyOnRead is = absurd (none row there is)
    by_driver none (Filter kind) is = by_filtered kind is (filtered_of nodes node) refl

  ends_or_goes : (turns : ℕ) → CopiesNone nodes node → EndsOrGoes turns
  ends_or_goes turns none = by_row (row_at nodes node) refl
    where
      by_row : (found : Option Row) → row_at nodes node ≡ found → EndsOrGoes turns
      by_row None there = inl (rw (there, images_met_in, step_of) refl)
      by_row (Some row) there = by_driver turns row there none row.driver refl

module _ (t : RunTable) (nodes : Nodes) (joined : IsJoined nodes) (are : AreNodesOf t nodes) (stands : TableStands t) where
  -- what an edge of a node leads to is none
  below_none : (over next : ℕ) (role : Role) → child_of (Node over) role nodes.graph.edges ≡ Some next → CopiesNone nodes next
  below_none over next role is row at driver =
      let e = role_edge (Node over) role t.edges next (ap (child_of (Node over) role) (sym are.edges) ∙ is) in
      let under = row_there t next (subst (λ (n : ℕ). IsSome (node_by_id t n)) e.to (stands.edges e.edge e.there).child) in
      let own = own_row t nodes joined are stands next under.row under.there in
      let same : own.0 ≡ row = cc in
      stands.on_top e.edge under.row over e.there under.held e.from (e.to ∙ sym under.id_is) (own.2.kind ∙ ap (λ (r : Row). driver_kind r.driver) same ∙ ap driver_kind driver)

  -- and nothing is met below it
  none_in : (turns a place : ℕ) → CopiesNone nodes a → images_met_in turns nodes a place ≡ []
  none_in zero a place none = refl
  none_in (suc turns) a place none = elim (ends_or_goes nodes a place turns none) [
    | inl ends ↦ ends
    | inr goes ↦
        met_below nodes a place turns goes.0 goes.3
        ∙ ap (λ (b : Bool). cond b (goes.0 ∷ images_met_in turns nodes goes.0 place) (images_met_in turns nodes goes.0 place)) (puts_none nodes a (row_at nodes goes.0) place none)
        ∙ none_in turns goes.0 place (below_none a goes.0 goes.1 goes.2)
  ]

  -- ---- the drive of a guest

  row_of : (a : ℕ) (own : Row) → row_at nodes a ≡ Some own → (row : NodeRecord) × (node_by_id t a ≡ Some row) × IsRowOf row own
  row_of a own is = by_row (node_by_id t a) refl (subst (AreAlike (node_by_id t a)) is (are.rows a))
    where
      by_row : (found : Option NodeRecord) → node_by_id t a ≡ found → AreAlike found (Some own) → (row : NodeRecord) × (node_by_id t a ≡ Some row) × IsRowOf row own
      by_row None at alike = absurd alike
      by_row (Some row) at alike = (row, at, alike)

-- The drive is a copy-on-read over the image, which has nothing of its own at the place.
pub record IsCopied (t : RunTable) (nodes : Nodes) (drive node place : ℕ) : Type 0 where
  pub top : NodeRecord
  pub top_at : node_by_id t drive ≡ Some top
  pub top_id : top.id ≡ drive
  pub copies : copies_through t drive ≡ true
  pub met : images_met nodes drive place ≡ node ∷ []
  pub row : Row
  pub image : Known
  pub there : row_at nodes node ≡ Some row
  pub driver : row.driver ≡ Qcow2 image

-- an image that has nothing of its own at a place
record IsBare (nodes : Nodes) (node : ℕ) : Type 0 where
  row : Row
  image : Known
  there : row_at nodes node ≡ Some row
  driver : row.driver ≡ Qcow2 image

bare_below : (nodes : Nodes) (row : Row) (next place : ℕ) → puts_below (Some row) (row_at nodes next) place ≡ true → IsBare nodes next
bare_below nodes row next place puts = by_row (row_at nodes next) refl puts
  where
    right : (a b : Bool) → (a && b) ≡ true → b ≡ true
    right true b is = is
    right false b is = absurd (false≢true is)

    by_driver : (under : Row) (driver : Driver) → row_at nodes next ≡ Some under → under.driver ≡ driver → shows_below_at place driver ≡ true → IsBare nodes next
    by_driver under File there is shows = absurd (false≢true shows)
    by_driver under (Raw part) there is shows = absurd (false≢true shows)
    by_driver under (Qcow2 image) there is shows = record { row = under; image = image; there = there; driver = is }
    by_driver under CopyOnRead there is shows = absurd (false≢true shows)
    by_driver under (Filter kind) there is shows = absurd (false≢true shows)

    by_row : (found : Option Row) → row_at nodes next ≡ found → puts_below (Some row) found place ≡ true → IsBare nodes next
    by_row None there is = absurd (false≢true is)
    by_row (Some under) there is = by_driver under under.driver there refl (right (is_copy_on_read row.driver) (shows_below_at place under.driver) is)

-- no image is met by a read of the drive, or the one that the drive reads as
abbrev pub MeetsOwnImage : RunTable → Nodes → ℕ → ℕ → Type 0
MeetsOwnImage t nodes drive place = (images_met nodes drive place ≡ []) ⊎ IsCopied t nodes drive (disk_node t drive) place

module _ (t : RunTable) (nodes : Nodes) (joined : IsJoined nodes) (are : AreNodesOf t nodes) (stands : TableStands t) (drive place : ℕ) where
  module _ (row : Row) (there : row_at nodes drive ≡ Some row) (driver : row.driver ≡ CopyOnRead) where
    goes : step_of nodes drive place ≡ in_below (file_of nodes drive)
    goes = step_is nodes drive place row CopyOnRead there driver

    child_is : (next : ℕ) → file_of nodes drive ≡ Some next → child t drive FileRole ≡ Some next
    child_is next edge = ap (child_of (Node drive) FileRole) (sym are.edges) ∙ edge

    copies_so : (top : NodeRecord) → node_by_id t drive ≡ Some top → is_copying top.kind ≡ true → copies_through t drive ≡ true
    unfolding path
    copies_so top at is =
        or-left (copies_at t drive) (list_any (copies_at t) (elim (filtered t drive) as (λ _. List ℕ) [ None ↦ [] | Some below ↦ path_from 63 t below ]))
        (ap (λ (found : Option NodeRecord). elim found as (λ _. Bool) [ None ↦ false | Some r ↦ is_copying r.kind ]) at ∙ is)

    met_one : (next : ℕ) → file_of nodes drive ≡ Some next → (puts : Bool) → puts_below (row_at nodes drive) (row_at nodes next) place ≡ puts
        → images_met_in 64 nodes drive place ≡ cond puts (next ∷ []) []
    met_one next edge puts is =
        met_below nodes drive place 63 next (goes ∙ ap in_below edge)
        ∙ ap (λ (b : Bool). cond b (next ∷ images_met_in 63 nodes next place) (images_met_in 63 nodes next place)) is
        ∙ ap (λ (ids : List ℕ). cond puts (next ∷ ids) ids) (none_in t nodes joined are stands 63 next place (below_none t nodes joined are stands drive next FileRole edge))

    copied : (next : ℕ) → file_of nodes drive ≡ Some next → puts_below (row_at nodes drive) (row_at nodes next) place ≡ true → MeetsOwnImage t nodes drive place
    unfolding images_met
    copied next edge puts =
        let top = row_of t nodes joined are stands drive row there in
        let at = row_there t drive (subst IsSome (sym top.1) refl) in
        let same : at.row ≡ top.0 = cc (sym at.there ∙ top.1) in
        let kind : top.0.kind ≡ driver_kind CopyOnRead = top.2.kind ∙ ap driver_kind driver in
        let below : filtered t drive ≡ Some next =
        ap (λ (found : Option NodeRecord). option_and_then (child t drive) (option_and_then (λ (r : NodeRecord). filter_role r.kind) found)) top.1
        ∙ ap (λ (k : Kind). option_and_then (child t drive) (filter_role k)) kind ∙ child_is next edge in
        let bare = bare_below nodes row next place (subst (λ (r : Option Row). puts_below r (row_at nodes next) place ≡ true) there puts) in
        let under = row_of t nodes joined are stands next bare.row bare.there in
        let itself : disk_node t next ≡ next = own_disk t next under.0 under.1 (ap filter_role (under.2.kind ∙ ap driver_kind bare.driver)) in
        let disk : disk_node t drive ≡ next = through_filter t nodes joined are stands drive next below ∙ itself in
        inr (subst (λ (n : ℕ). IsCopied t nodes drive n place) (sym disk) (record {
          top = top.0;
          top_at = top.1;
          top_id = ap (λ (r : NodeRecord). r.id) (sym same) ∙ at.id_is;
          copies = copies_so top.0 top.1 (ap is_copying kind);
          met = met_one next edge true puts;
          row = bare.row;
          image = bare.image;
          there = bare.there;
          driver = bare.driver;
        }))

    below_it : (found : Option ℕ) → file_of nodes drive ≡ found → MeetsOwnImage t nodes drive place
    unfolding images_met
    below_it None edge = inl (met_nothing nodes drive place 63 (goes ∙ ap in_below edge))
    below_it (Some next) edge = by_puts (puts_below (row_at nodes drive) (row_at nodes next) place) refl
      where
        by_puts : (b : Bool) → puts_below (row_at nodes drive) (row_at nodes next) place ≡ b → MeetsOwnImage t nodes drive place
        by_puts true puts = copied next edge puts
        by_puts false puts = inl (met_one next edge false puts)

  pub images_of : MeetsOwnImage t nodes drive place
  unfolding images_met
  images_of = by_row (row_at nodes drive) refl
    where
      none : CopiesNone nodes drive → MeetsOwnImage t nodes drive place
      none apart = inl (none_in t nodes joined are stands 64 drive place apart)

      other : (row : Row) → row_at nodes drive ≡ Some row → (row.driver ≡ CopyOnRead → ⊥) → MeetsOwnImage t nodes drive place
      other row there apart = none (λ found at bad. let same : row ≡ found = cc (sym there ∙ at) in apart (ap (λ (r : Row). r.driver) same ∙ bad))

      by_driver : (row : Row) (driver : Driver) → row_at nodes drive ≡ Some row → row.driver ≡ driver → MeetsOwnImage t nodes drive place
      by_driver row File there is = other row there (λ bad. let no : ⊥ = cc (sym is ∙ bad) in no)
      by_driver row (Raw part) there is = other row there (λ bad. let no : ⊥ = cc (sym is ∙ bad) in no)
      by_driver row (Qcow2 image) there is = other row there (λ bad. let no : ⊥ = cc (sym is ∙ bad) in no)
      by_driver row CopyOnRead there is = below_it row there is (file_of nodes drive) refl
      by_driver row (Filter kind) there is = other row there (λ bad. let no : ⊥ = cc (sym is ∙ bad) in no)

      by_row : (found : Option Row) → row_at nodes drive ≡ found → MeetsOwnImage t nodes drive place
      by_row None there = none (λ row at bad. let no : ⊥ = cc (sym there ∙ at) in no)
      by_row (Some row) there = by_driver row row.driver there refl

-- ---- how a read went

-- it was read, and counts of devices alone may have risen
pub record OnlyReadsPiece (old new : Nodes) (drive : ℕ) (outcome : Outcome) : Type 0 where
  pub devices : HaveRisen old.devices new.devices
  pub below : IsReadBelow old new drive outcome

-- there was no room in the image, and nothing was tried
pub record ReadsFull (t : RunTable) (old new : Nodes) (drive node : ℕ) (part : Extent) (outcome : Outcome) : Type 0 where
  pub copied : IsCopied t old drive node part.start
  pub room : LacksItsRoom old new node part outcome

-- it put what it read into the image
pub record ReadsInto (t : RunTable) (old new : Nodes) (drive node : ℕ) (part : Extent) (outcome : Outcome) (buffer : List ℕ) : Type 0 where
  pub copied : IsCopied t old drive node part.start
  pub maps : MapsOne old new node part buffer outcome

pub into_image : (t : RunTable) (old new : Nodes) (drive node : ℕ) (part : Extent) (outcome : Outcome) (buffer : List ℕ) (into : ReadsInto t old new drive node part outcome buffer)
    → WritesBy (Qcow2 into.copied.image) old new node part buffer outcome
into_image t old new drive node part outcome buffer into =
    let same : into.maps.wrote.row ≡ into.copied.row = cc (sym into.maps.wrote.there ∙ into.copied.there) in
    subst (λ (d : Driver). WritesBy d old new node part buffer outcome) (ap (λ (r : Row). r.driver) same ∙ into.copied.driver) into.maps.wrote.wrote

-- by what it met
abbrev pub ReadWent : RunTable → Nodes → Nodes → ℕ → ℕ → Extent → Outcome → List ℕ → Type 0
ReadWent t old new drive node part outcome buffer =
    OnlyReadsPiece old new drive outcome ⊎ (ReadsFull t old new drive node part outcome ⊎ ReadsInto t old new drive node part outcome buffer)

-- a piece of a drive, which reads as the node
abbrev pub Went : RunTable → Op → Nodes → Nodes → ℕ → ℕ → Extent → Outcome → List ℕ → Type 0
Went t (Read span) old new drive node part outcome buffer = ReadWent t old new drive node part outcome buffer
Went t (Write span payload) old new drive node part outcome buffer = Transfers (Write span payload) old new drive node part outcome buffer
Went t (Zero span) old new drive node part outcome buffer = Transfers (Zero span) old new drive node part outcome buffer
Went t Flush old new drive node part outcome buffer = Transfers Flush old new drive node part outcome buffer
Went t (Discard span) old new drive node part outcome buffer = Transfers (Discard span) old new drive node part outcome buffer

-- whether the file below the node may change
abbrev pub writes_file : RunTable → ℕ → Op → Bool
writes_file t drive (Read span) = copies_through t drive
writes_file t drive (Write span payload) = is_write (Write span payload)
writes_file t drive (Zero span) = is_write (Zero span)
writes_file t drive Flush = is_write Flush
writes_file t drive (Discard span) = is_write (Discard span)

module _ (t : RunTable) (old new : Nodes) (drive : ℕ) (part : Extent) (outcome : Outcome) (buffer : List ℕ) where
  only_stopped : StopsUnread old new drive part outcome → OnlyReadsPiece old new drive outcome
  only_stopped stops = record { devices = stops.devices; below = subst (IsReadBelow old new drive) (sym stops.is) stops.stopped }

  read_went : MeetsOwnImage t old drive part.start → ReadsPart old new drive part outcome buffer → ReadWent t old new drive (disk_node t drive) part outcome buffer
  read_went (inl none) did =
      let only = none_met old new drive part outcome buffer did none in
      inl (record { devices = only.devices; below = only.outcome_is })
  read_went (inr one) did = elim (one_met old new drive part outcome buffer did (disk_node t drive) one.met) [
    | inl lacks ↦ inr (inl (record { copied = one; room = lacks }))
    | inr (inl stops) ↦ inl (only_stopped stops)
    | inr (inr maps) ↦ inr (inr (record { copied = one; maps = maps }))
  ]

  pub piece_went : MeetsOwnImage t old drive part.start → (op : Op) → Transfers op old new drive (disk_node t drive) part outcome buffer
      → Went t op old new drive (disk_node t drive) part outcome buffer
  piece_went met (Read span) did = read_went met did
  piece_went met (Write span payload) did = did
  piece_went met (Zero span) did = did
  piece_went met Flush did = did
  piece_went met (Discard span) did = did
