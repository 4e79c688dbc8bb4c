-- What a piece leaves of the nodes of one image.
use Rattle.std.proofs.Common.{◌≡◌, ℕ, ◌+◌, ◌/◌, ◌≤◌, Bool, true, List, [], ◌∷◌, length, take, replicate, zero, suc, Option, Some, None, refl, sym, ◌∙◌, ap, subst, inl, inr, arith}
use Rattle.std.specs.Prelude.{is_some, option_map, find}
use Rattle.std.proofs.lemmas.Bool.{false≢true, cases_eq}
use Rattle.std.proofs.lemmas.List.{length-replicate, length-take}
use Rattle.blk_base.specs.Content.{with_bytes, size_with}
use Rattle.blk_base.specs.Counts.{Rose}
use Rattle.blk_base.specs.Pieces.{Extent, end_of}
use Rattle.blk_base.specs.declared.fault.DevNo.{DevNo}
use Rattle.blk_base.specs.declared.fault.Outcome.{Outcome}
use Rattle.blk_base.specs.declared.fault.Outcome.TheVariants.{Good, Torn, Io, NoSpace}
use Rattle.trace_codec.specs.declared.op.Op.{Op}
use Rattle.trace_codec.specs.declared.op.Op.TheVariants.{Read, Write, Zero, Flush, Discard}
use Rattle.blk_graph.specs.Edges.{same_parent, same_role}
use Rattle.blk_graph.specs.Edits.{child_of, is_edge}
use Rattle.blk_graph.specs.Permissions.{has_role}
use Rattle.blk_graph.specs.Refreshed.{kind_at, IsOf}
use Rattle.blk_graph.specs.declared.edge.Edge.{Edge}
use Rattle.blk_graph.specs.declared.edge.Role.{Role}
use Rattle.blk_graph.specs.declared.kind.Kind.{Kind}
use Rattle.blk_graph.specs.declared.kind.Kind.TheVariants.{Protocol}
use Rattle.blk_graph.specs.declared.kind.NodeKind.{NodeKind}
use Rattle.blk_graph.proofs.CycleLemmas.{same_parent-true, and-left, and-right}
use Rattle.blk_graph.proofs.Members.{find-Some}
use Rattle.blk_graph.proofs.RoleLemmas.{same_role-true}
use Rattle.blk_graph.specs.Graph.{Graph, HasNode}
use Rattle.blk_graph.specs.declared.edge.Parent.TheVariants.{Node}
use Rattle.blk_graph.specs.declared.edge.Role.TheVariants.{File, Backing, Filtered}
use Rattle.blk_history.specs.Disk.{payload_in, done_in}
use Rattle.blk_history.specs.Legal.{Tells}
use Rattle.blk_history.specs.Machine.{done_by}
use Rattle.q2_format.specs.declared.entries.L2Entry.{L2Entry}
use Rattle.q2_format.specs.declared.entries.L2Entry.TheVariants as entries
use Rattle.q2_format.specs.declared.header.Header.{Header}
use Rattle.q2_image.specs.Image.{Known, cluster_size_in, entry_in}
use Rattle.blk_nodes.specs.declared.row.RawImage.{RawImage}
use Rattle.blk_nodes.specs.Changing.{IsImageWritten, IsZeroed, LeavesRow}
use Rattle.blk_nodes.specs.Contents.{IsToldDisk, disk_of}
use Rattle.blk_nodes.specs.Copying.{AtEach, images_met, images_met_in}
use Rattle.blk_nodes.specs.Flushing.{under_of, base_in, base_of, HasFlushCause, IsFlushAt}
use Rattle.blk_nodes.specs.Joined.{IsFile, HasBelow, IsJoined, IsSized}
use Rattle.blk_nodes.specs.Nodes.{Nodes, DeviceSeen, AreTold, row_at, size_by, node_size, kind_in, driver_kind, device_in, file_of, backing_of, filtered_of}
use Rattle.blk_nodes.specs.Reading.{HasRisen, HaveRisen, OnlyAt, StoppedBy, StoppedAt, IsReadBelow}
use Rattle.blk_nodes.specs.Sources.{step_of}
use Rattle.blk_nodes.specs.Writing.{IsDriverAfter, IsRowAfter, AreRowsAfter, HasCauseOf, HasPieceCause, IsWriteOf, WritesFile, WritesImage, WritesBy, ZerosBy, MayWriteThrough, CanBeWritten, own_start, taken_by}
use Rattle.blk_nodes.specs.declared.row.Driver.{Driver}
use Rattle.blk_nodes.specs.declared.row.Driver.TheVariants as drivers
use Rattle.blk_nodes.specs.declared.row.Row.{Row}
use Rattle.blk_nodes.proofs.Leading.{stopped_piece}
use Rattle.blk_pieces.specs.Pieces.{CanReadFor, CanTransfer, ReadsPart, Transfers, shown_of}
use Rattle.blk_pieces.proofs.Payloads.{payload_length, taken_is}
use Rattle.blk_pieces.proofs.Kept.{ReadsOnly, none_met}
use Rattle.blk_pieces.proofs.Rows.{RowsAfter, rows_after}
use Rattle.blk_pieces.proofs.Told.{tells, torn_by}
use Rattle.qblk_core.specs.Along.{CountsOutcome, HasForm}
use Rattle.qblk_core.specs.ImageNodes.{only_device, IsOnFile, HaveOneImage, HaveShapeOf, content_of, told_disk, device_faults}
use Rattle.qblk_core.proofs.Capacities.{written-capacity, zeroed-capacity}
use Rattle.qblk_core.proofs.OneDevice.{first-found, head-same, only-one, risen-one, told-one, content-is, faults-is, capacity-is, stopped-by, stopped-at}

-- ---- what may be asked of the image's node

pub node-there : (nodes : Nodes) → IsJoined nodes → HaveOneImage nodes → HasNode nodes.graph 1
node-there nodes joined one = joined.only 1 (rw one.there refl)

can-write : (nodes : Nodes) (one : HaveOneImage nodes) (d : Driver) (was now : ℕ) → IsOnFile d was now → CanBeWritten nodes 1 d
can-write nodes one drivers.File was now on = absurd on
can-write nodes one (drivers.Raw part) was now on = tt
can-write nodes one (drivers.Qcow2 image) was now on = λ over file backing edge.
    let none : Some over ≡ None = sym backing ∙ one.bare in
    let bad : ⊥ = cc none in absurd bad
can-write nodes one drivers.CopyOnRead was now on = absurd on
can-write nodes one (drivers.Filter kind) was now on = absurd on

pub may-write : (nodes : Nodes) → HaveOneImage nodes → MayWriteThrough nodes 1
may-write nodes one = record {
  row = one.row;
  there = one.there;
  writable = one.writable;
  can = can-write nodes one one.row.driver (node_size nodes 0) one.device.size one.on_file;
  owns = λ file own other has. elim (cases_eq other 1) [
    | inl same ↦ same
    | inr apart ↦
        let none : Some file ≡ None = sym has.edge ∙ one.others other apart in
        let bad : ⊥ = cc none in absurd bad
  ];
}

-- The image's node stands on its file, and over nothing else.
pub record StandsAlone (was now : ℕ) (nodes : Nodes) : Type 0 where
  pub row : Row
  pub there : row_at nodes 1 ≡ Some row
  pub on_file : IsOnFile row.driver was now
  pub file : file_of nodes 1 ≡ Some 0
  pub bare : backing_of nodes 1 ≡ None

pub stands-alone : (nodes : Nodes) (one : HaveOneImage nodes) → StandsAlone (node_size nodes 0) one.device.size nodes
stands-alone nodes one = record { row = one.row; there = one.there; on_file = one.on_file; file = one.file; bare = one.bare }

-- No copy-on-read is over it, and so a read is kept nowhere: the way down ends at its own file, since it has no backing node.
module _ (nodes : Nodes) (was now : ℕ) (alone : StandsAlone was now nodes) (place turns : ℕ) where
  none-by-entry : (image : Known) → alone.row.driver ≡ drivers.Qcow2 image → (e : L2Entry) → entry_in image (place / cluster_size_in image) ≡ e
      → images_met_in (suc turns) nodes 1 place ≡ []
  none-by-entry image is entries.Unallocated at = rw (alone.there, is, at, alone.bare, images_met_in, step_of) refl
  none-by-entry image is (entries.Zero host) at = rw (alone.there, is, at, images_met_in, step_of) refl
  none-by-entry image is (entries.Host host) at = rw (alone.there, is, at, alone.file, images_met_in, step_of) refl
  none-by-entry image is entries.Compressed at = rw (alone.there, is, at, images_met_in, step_of) refl
  none-by-entry image is entries.Reserved at = rw (alone.there, is, at, images_met_in, step_of) refl

  none-by : (d : Driver) → alone.row.driver ≡ d → IsOnFile d was now → images_met_in (suc turns) nodes 1 place ≡ []
  none-by drivers.File is on = absurd on
  none-by (drivers.Raw part) is on = rw (alone.there, is, alone.file, images_met_in, step_of) refl
  none-by (drivers.Qcow2 image) is on = none-by-entry image is (entry_in image (place / cluster_size_in image)) refl
  none-by drivers.CopyOnRead is on = absurd on
  none-by (drivers.Filter kind) is on = absurd on

pub none-met-alone : (nodes : Nodes) (was now : ℕ) → StandsAlone was now nodes → (place : ℕ) → images_met nodes 1 place ≡ []
unfolding images_met
none-met-alone nodes was now alone place = none-by nodes was now alone place 63 alone.row.driver refl alone.on_file

pub none-kept : (nodes : Nodes) → HaveOneImage nodes → (place : ℕ) → images_met nodes 1 place ≡ []
none-kept nodes one = none-met-alone nodes (node_size nodes 0) one.device.size (stands-alone nodes one)

can-read : (nodes : Nodes) → HaveOneImage nodes → (op : Op) (part : Extent) → end_of part ≤ node_size nodes 1 → CanReadFor op nodes 1 part
can-read nodes one (Read span) part inside = record { inside = inside; may = subst (AtEach (MayWriteThrough nodes)) (sym (none-kept nodes one part.start)) tt }
can-read nodes one (Write span payload) part inside = tt
can-read nodes one (Zero span) part inside = tt
can-read nodes one Flush part inside = tt
can-read nodes one (Discard span) part inside = tt

pub can-transfer : (nodes : Nodes) (op : Op) (part : Extent) → IsJoined nodes → HaveOneImage nodes → end_of part ≤ node_size nodes 1
    → CanTransfer nodes 1 1 op part
can-transfer nodes op part joined one inside = record {
  there = node-there nodes joined one;
  inside = inside;
  read = can-read nodes one op part inside;
  may = λ writes. may-write nodes one;
}

-- a `file` node has no edge of a filter
file-ends : (nodes : Nodes) (file : ℕ) → IsJoined nodes → IsFile nodes file → filtered_of nodes file ≡ None
file-ends nodes file joined is = ap (option_map (λ (e : Edge). e.child)) (by-found (find (is_edge (Node file) Filtered) nodes.graph.edges) refl)
  where
    by-found : (found : Option Edge) → find (is_edge (Node file) Filtered) nodes.graph.edges ≡ found → found ≡ None
    by-found None at = refl
    by-found (Some edge) at =
        let found = find-Some (is_edge (Node file) Filtered) nodes.graph.edges edge at in
        let parent : edge.parent ≡ Node file = same_parent-true edge.parent (Node file) (and-left (same_parent edge.parent (Node file)) (same_role edge.role Filtered) found.1) in
        let role : edge.role ≡ Filtered = same_role-true edge.role Filtered (and-right (same_parent edge.parent (Node file)) (same_role edge.role Filtered) found.1) in
        let table : has_role (kind_at nodes.graph.kinds file).kind edge.role ≡ true = subst (IsOf nodes.graph.kinds edge) parent (joined.sound.fit.each edge found.0).table in
        let kind : (kind_at nodes.graph.kinds file).kind ≡ Protocol
        = ap (λ (k : NodeKind). k.kind) (joined.kinds file is.row is.there) ∙ ap driver_kind is.driver in
        let may : has_role Protocol Filtered ≡ true = subst (λ (k : Kind). has_role k Filtered ≡ true) kind (subst (λ (r : Role). has_role (kind_at nodes.graph.kinds file).kind r ≡ true) role table) in
        absurd (let bad : ⊥ = cc may in bad)

-- the image's node is flushed by its file's device
pub base-is : (nodes : Nodes) → HaveOneImage nodes → filtered_of nodes 0 ≡ None → base_of nodes 1 ≡ 0
unfolding base_of
base-is nodes one none =
    let filed : under_of nodes 1 ≡ Some 0 = ap (λ (f : Option ℕ). elim f as (λ _. Option ℕ) [ None ↦ filtered_of nodes 1 | Some file ↦ Some file ]) one.file in
    let ends : under_of nodes 0 ≡ None
    = ap (λ (f : Option ℕ). elim f as (λ _. Option ℕ) [ None ↦ filtered_of nodes 0 | Some file ↦ Some file ]) (one.others 0 (λ bad. absurd (let e : ⊥ = cc bad in e))) ∙ none in
    ap (λ (f : Option ℕ). elim f as (λ _. ℕ) [ None ↦ 1 | Some next ↦ base_in 63 nodes next ]) filed
    ∙ ap (λ (f : Option ℕ). elim f as (λ _. ℕ) [ None ↦ 0 | Some next ↦ base_in 62 nodes next ]) ends

-- and that file has no node below it
pub no-filter : (nodes : Nodes) → IsJoined nodes → HaveOneImage nodes → filtered_of nodes 0 ≡ None
no-filter nodes joined one = file-ends nodes 0 joined (by-driver one.row.driver refl (joined.below 1 one.row one.there) one.on_file)
  where
    zeroth : (file : ℕ) → file_of nodes 1 ≡ Some file → IsFile nodes file → IsFile nodes 0
    zeroth file edge is = let same : file ≡ 0 = cc (sym edge ∙ one.file) in subst (IsFile nodes) same is

    by-driver : (d : Driver) → one.row.driver ≡ d → HasBelow nodes 1 one.row.size d → IsOnFile d (node_size nodes 0) one.device.size → IsFile nodes 0
    by-driver drivers.File is below on = absurd on
    by-driver (drivers.Raw part) is below on = zeroth below.file below.edge below.is_file
    by-driver (drivers.Qcow2 image) is below on = zeroth below.file below.edge below.is_file
    by-driver drivers.CopyOnRead is below on = absurd on
    by-driver (drivers.Filter kind) is below on = absurd on

-- ---- the device

-- what a piece leaves of it
pub record StepsTo (d e : DeviceSeen) (outcome : Outcome) : Type 0 where
  pub node : e.node ≡ d.node
  pub number : e.number ≡ d.number
  pub told : is_some e.content ≡ is_some d.content
  pub capacity : e.capacity ≡ d.capacity
  pub faults : d.faults ≤ e.faults
  pub cause : CountsOutcome d.faults e.faults outcome

pub record StepsOnDevice (d : DeviceSeen) (new : List DeviceSeen) (outcome : Outcome) : Type 0 where
  pub device : DeviceSeen
  pub is : new ≡ device ∷ []
  pub steps : StepsTo d device outcome

some-mapped : (f : List ℕ → List ℕ) (content : Option (List ℕ)) → is_some (option_map f content) ≡ is_some content
some-mapped f None = refl
some-mapped f (Some bytes) = refl

write-cause : (d e : DeviceSeen) (place n : ℕ) (outcome : Outcome) → d.number ≡ only_device → HasCauseOf d e place n outcome → CountsOutcome d.faults e.faults outcome
write-cause d e place n Good number cause = cause.1
write-cause d e place n (Torn done dev count) number cause = stopped-by d e dev count number cause.4
write-cause d e place n (Io dev count) number cause = stopped-by d e dev count number cause.1
write-cause d e place n (NoSpace dev) number cause = (ap (λ (k : DevNo). k.0) (cause.1 ∙ number), cause.2)

flush-cause : (d e : DeviceSeen) (outcome : Outcome) → d.number ≡ only_device → HasFlushCause d e outcome → CountsOutcome d.faults e.faults outcome
flush-cause d e Good number cause = cause
flush-cause d e (Torn done dev count) number cause = absurd cause
flush-cause d e (Io dev count) number cause = stopped-by d e dev count number cause
flush-cause d e (NoSpace dev) number cause = absurd cause

module _ (old new : Nodes) (one : HaveOneImage old) where
  -- the device that a call's clauses speak of
  pub the-one : (file : ℕ) (before after : DeviceSeen) → OnlyAt file old.devices new.devices → device_in old.devices file ≡ Some before
      → device_in new.devices file ≡ Some after → (new.devices ≡ after ∷ []) × (before ≡ one.device)
  the-one file before after only held left =
      only-one file one.device before after new.devices (subst (λ (ds : List DeviceSeen). OnlyAt file ds new.devices) one.only only)
      (subst (λ (ds : List DeviceSeen). device_in ds file ≡ Some before) one.only held) left

  the-stop : (file : ℕ) (e : DeviceSeen) (dev : DevNo) (count : ℕ) → new.devices ≡ e ∷ [] → StoppedAt file old.devices new.devices dev count
      → (dev.0 ≡ 0) × Rose one.device.faults count × (count ≡ e.faults)
  the-stop file e dev count is stopped =
      stopped-at file one.device e new.devices dev count one.number is
      (subst (λ (ds : List DeviceSeen). StoppedAt file ds new.devices dev count) one.only stopped)

  the-risen : HaveRisen old.devices new.devices → (e : DeviceSeen) × (new.devices ≡ e ∷ []) × HasRisen one.device e
  the-risen risen = risen-one one.device new.devices (subst (λ (ds : List DeviceSeen). HaveRisen ds new.devices) one.only risen)

  the-same : (e : DeviceSeen) → new.devices ≡ e ∷ [] → new ≡ old → e ≡ one.device
  the-same e is same = sym (head-same one.device e [] (sym one.only ∙ ap (λ (n : Nodes). n.devices) (sym same) ∙ is))

  pub file-goes : (place : ℕ) (bytes : List ℕ) (outcome : Outcome) → WritesFile old new 1 place bytes outcome → StepsOnDevice one.device new.devices outcome
  file-goes place bytes outcome wrote =
      let at = wrote.at in
      let r = the-one wrote.file at.before at.after at.only at.held at.left in
      let w : IsWriteOf one.device at.after wrote.start bytes outcome = subst (λ (x : DeviceSeen). IsWriteOf x at.after wrote.start bytes outcome) r.1 at.wrote in
      record {
        device = at.after;
        is = r.0;
        steps = record {
          node = w.node;
          number = w.number;
          told = ap is_some w.content ∙ some-mapped _ one.device.content;
          capacity = w.capacity;
          faults = w.faults;
          cause = write-cause one.device at.after wrote.start (length bytes) outcome one.number w.cause;
        };
      }

  image-goes : (fits : ℕ → Type 0) (own : Option ℕ) (rest : Option Extent) (n : ℕ) (outcome : Outcome) (wrote : WritesImage fits own rest old new 1 n outcome)
      → wrote.after.capacity ≡ wrote.before.capacity → StepsOnDevice one.device new.devices outcome
  image-goes fits own rest n outcome wrote capacity =
      record {
        device = wrote.after;
        is = r.0;
        steps = record {
          node = wrote.device.node ∙ ap (λ (x : DeviceSeen). x.node) r.1;
          number = wrote.device.number ∙ ap (λ (x : DeviceSeen). x.number) r.1;
          told = wrote.device.told ∙ ap (λ (x : DeviceSeen). is_some x.content) r.1;
          capacity = capacity ∙ ap (λ (x : DeviceSeen). x.capacity) r.1;
          faults = subst (λ (x : DeviceSeen). x.faults ≤ wrote.after.faults) r.1 wrote.device.faults;
          cause = by_cause outcome wrote.cause;
        };
      }
    where
      r : (new.devices ≡ wrote.after ∷ []) × (wrote.before ≡ one.device)
      r = elim wrote.devices [
        | inl only ↦ the-one wrote.file wrote.before wrote.after only wrote.held wrote.left
        | inr risen ↦
            let e = the-risen risen in
            let after : wrote.after ≡ e.0 = first-found e.0 wrote.after wrote.file (subst (λ (ds : List DeviceSeen). device_in ds wrote.file ≡ Some wrote.after) e.1 wrote.left) in (
              e.1 ∙ ap (λ (x : DeviceSeen). x ∷ []) (sym after),
              first-found one.device wrote.before wrote.file (subst (λ (ds : List DeviceSeen). device_in ds wrote.file ≡ Some wrote.before) one.only wrote.held),
            )
      ]

      by_cause : (o : Outcome) → HasPieceCause (fits wrote.before.capacity) own rest n wrote.file old new 1 wrote.before wrote.after o → CountsOutcome one.device.faults wrote.after.faults o
      by_cause Good cause = cause.1 ∙ ap (λ (x : DeviceSeen). x.faults) r.1
      by_cause (Torn done dev count) cause =
          stopped-by one.device wrote.after dev count one.number (subst (λ (x : DeviceSeen). StoppedBy x wrote.after dev count) r.1 cause.2)
      by_cause (Io dev count) cause =
          let stopped = stopped_piece old new 1 dev count fits own rest n outcome wrote cause in
          the-stop stopped.file wrote.after dev count r.0 stopped.stopped
      by_cause (NoSpace dev) cause = (
        ap (λ (k : DevNo). k.0) (cause.1 ∙ ap (λ (x : DeviceSeen). x.number) r.1 ∙ one.number),
        ap (λ (x : DeviceSeen). x.faults) (the-same wrote.after r.0 cause.2),
      )

  write-goes : (part : Extent) (bytes : List ℕ) (outcome : Outcome) (row : Row) (driver : Driver) → WritesBy driver old new 1 part bytes outcome
      → LeavesRow (IsImageWritten (IsToldDisk old 1) part bytes) driver row old new 1 outcome → StepsOnDevice one.device new.devices outcome
  write-goes part bytes outcome row drivers.File wrote left = file-goes part.start bytes outcome wrote
  write-goes part bytes outcome row (drivers.Raw p) wrote left = file-goes part.start bytes outcome wrote
  write-goes part bytes outcome row (drivers.Qcow2 image) wrote left =
      image-goes _ _ _ _ outcome wrote
      (written-capacity (IsToldDisk old 1) image left.now wrote.before wrote.after part bytes outcome (left.changed wrote.file wrote.before wrote.after wrote.edge wrote.held wrote.left))
  write-goes part bytes outcome row drivers.CopyOnRead wrote left = file-goes part.start bytes outcome wrote
  write-goes part bytes outcome row (drivers.Filter kind) wrote left = file-goes part.start bytes outcome wrote

  zero-goes : (part : Extent) (outcome : Outcome) (row : Row) (driver : Driver) → ZerosBy driver old new 1 part outcome → LeavesRow (IsZeroed (IsToldDisk old 1) part) driver row old new 1 outcome
      → StepsOnDevice one.device new.devices outcome
  zero-goes part outcome row drivers.File wrote left = file-goes part.start (replicate part.len 0) outcome wrote
  zero-goes part outcome row (drivers.Raw p) wrote left = file-goes part.start (replicate part.len 0) outcome wrote
  zero-goes part outcome row (drivers.Qcow2 image) wrote left =
      image-goes _ _ _ _ outcome wrote
      (zeroed-capacity (IsToldDisk old 1) image left.now wrote.before wrote.after part outcome (left.changed wrote.file wrote.before wrote.after wrote.edge wrote.held wrote.left))
  zero-goes part outcome row drivers.CopyOnRead wrote left = file-goes part.start (replicate part.len 0) outcome wrote
  zero-goes part outcome row (drivers.Filter kind) wrote left = file-goes part.start (replicate part.len 0) outcome wrote

  read-goes : (outcome : Outcome) → IsReadBelow old new 1 outcome → HaveRisen old.devices new.devices → StepsOnDevice one.device new.devices outcome
  read-goes outcome read risen =
      let e = the-risen risen in
      let same = e.2.same in
      record {
        device = e.0;
        is = e.1;
        steps = record {
          node = ap (λ (x : DeviceSeen). x.node) same;
          number = ap (λ (x : DeviceSeen). x.number) same;
          told = ap (λ (x : DeviceSeen). is_some x.content) same;
          capacity = ap (λ (x : DeviceSeen). x.capacity) same;
          faults = e.2.faults;
          cause = by_outcome e.0 e.1 outcome read;
        };
      }
    where
      by_outcome : (e : DeviceSeen) → new.devices ≡ e ∷ [] → (o : Outcome) → IsReadBelow old new 1 o → CountsOutcome one.device.faults e.faults o
      by_outcome e is Good same = ap (λ (x : DeviceSeen). x.faults) (the-same e is same)
      by_outcome e is (Torn done dev count) bad = absurd bad
      by_outcome e is (Io dev count) stopped = the-stop stopped.file e dev count is stopped.stopped
      by_outcome e is (NoSpace dev) bad = absurd bad

  pub flush-goes : (file : ℕ) (outcome : Outcome) → IsFlushAt file old.devices new.devices outcome → StepsOnDevice one.device new.devices outcome
  flush-goes file outcome (inr none) = record {
    device = one.device;
    is = none.1 ∙ one.only;
    steps = record {
      node = refl;
      number = refl;
      told = refl;
      capacity = refl;
      faults = omega arith;
      cause = subst (CountsOutcome one.device.faults one.device.faults) (sym none.2) refl;
    };
  }
  flush-goes file outcome (inl flushed) =
      let r = the-one file flushed.before flushed.after flushed.only flushed.held flushed.left in
      record {
        device = flushed.after;
        is = r.0;
        steps = record {
          node = ap (λ (x : DeviceSeen). x.node) flushed.flush.is ∙ ap (λ (x : DeviceSeen). x.node) r.1;
          number = ap (λ (x : DeviceSeen). x.number) flushed.flush.is ∙ ap (λ (x : DeviceSeen). x.number) r.1;
          told = ap (λ (x : DeviceSeen). is_some x.content) flushed.flush.is ∙ ap (λ (x : DeviceSeen). is_some x.content) r.1;
          capacity = ap (λ (x : DeviceSeen). x.capacity) flushed.flush.is ∙ ap (λ (x : DeviceSeen). x.capacity) r.1;
          faults = subst (λ (x : DeviceSeen). x.faults ≤ flushed.after.faults) r.1 flushed.flush.faults;
          cause = subst (λ (x : DeviceSeen). CountsOutcome x.faults flushed.after.faults outcome) r.1
              (flush-cause flushed.before flushed.after outcome (ap (λ (x : DeviceSeen). x.number) r.1 ∙ one.number) flushed.flush.cause);
        };
      }

  pub reads-only : (part : Extent) (outcome : Outcome) (buffer : List ℕ) → ReadsPart old new 1 part outcome buffer → ReadsOnly old new 1 outcome
  reads-only part outcome buffer did = none_met old new 1 part outcome buffer did (none-kept old one part.start)

  pub goes : (op : Op) (part : Extent) (outcome : Outcome) (buffer : List ℕ) → Transfers op old new 1 1 part outcome buffer → StepsOnDevice one.device new.devices outcome
  goes (Read span) part outcome buffer did =
      let read = reads-only part outcome buffer did in
      read-goes outcome read.outcome_is read.devices
  goes (Write span payload) part outcome buffer did = write-goes part (payload_in (Write span payload) part) outcome did.0.row did.0.row.driver did.0.wrote did.0.left
  goes (Zero span) part outcome buffer did = zero-goes part outcome did.0.row did.0.row.driver did.0.wrote did.0.left
  goes Flush part outcome buffer did = flush-goes (base_of old 1) outcome did.flushed
  goes (Discard span) part outcome buffer did = absurd did

  pub flush-size : (file : ℕ) (outcome : Outcome) (e : DeviceSeen) → new.devices ≡ e ∷ [] → IsFlushAt file old.devices new.devices outcome → e.size ≡ one.device.size
  flush-size file outcome e is (inr none) = ap (λ (x : DeviceSeen). x.size) (head-same e one.device [] (sym is ∙ none.1 ∙ one.only))
  flush-size file outcome e is (inl flushed) =
      let r = the-one file flushed.before flushed.after flushed.only flushed.held flushed.left in
      ap (λ (x : DeviceSeen). x.size) (head-same e flushed.after [] (sym is ∙ r.0)) ∙ ap (λ (x : DeviceSeen). x.size) flushed.flush.is
      ∙ ap (λ (x : DeviceSeen). x.size) r.1

-- ---- the rows

size-after : (a b : Option Row) → AreRowsAfter a b → size_by b ≡ size_by a
size-after None b is = ap size_by is
size-after (Some row) b is = ap size_by is.1 ∙ is.2.size

driver-kind : (a b : Driver) → IsDriverAfter a b → driver_kind b ≡ driver_kind a
driver-kind drivers.File b is = ap driver_kind is
driver-kind (drivers.Raw part) b is = ap driver_kind is
driver-kind (drivers.Qcow2 image) b is = ap driver_kind is.1
driver-kind drivers.CopyOnRead b is = ap driver_kind is
driver-kind (drivers.Filter kind) b is = ap driver_kind is

kind-after : (a b : Option Row) → AreRowsAfter a b → option_map kind_in b ≡ option_map kind_in a
kind-after None b is = ap (option_map kind_in) is
kind-after (Some row) b is = ap (option_map kind_in) is.1 ∙ ap Some (driver-kind row.driver is.0.driver is.2.driver)

pub shape-after : (old new : Nodes) (one : HaveOneImage old) (e : DeviceSeen) → new.devices ≡ e ∷ [] → e.node ≡ one.device.node → e.capacity ≡ one.device.capacity
    → RowsAfter old new → HaveShapeOf old new
shape-after old new one e is node capacity after = record {
  file = size-after (row_at old 0) (row_at new 0) (after.rows 0);
  image = size-after (row_at old 1) (row_at new 1) (after.rows 1);
  kind = kind-after (row_at old 1) (row_at new 1) (after.rows 1);
  capacity = capacity-is new e is (node ∙ one.node) ∙ ap Some capacity ∙ sym (capacity-is old one.device one.only one.node);
}

on-file-after : (a b : Driver) (was now was' now' : ℕ) → IsDriverAfter a b → was' ≡ was → ((p : RawImage) → a ≡ drivers.Raw p → now' ≡ now) → IsOnFile a was now → IsOnFile b was' now'
on-file-after drivers.File b was now was' now' is size same on = absurd on
on-file-after (drivers.Raw p) b was now was' now' is size same on =
    subst (λ (d : Driver). IsOnFile d was' now') (sym is) (on.0, on.1 ∙ sym size, same p refl ∙ on.2 ∙ sym size)
on-file-after (drivers.Qcow2 image) b was now was' now' is size same on =
    subst (λ (d : Driver). IsOnFile d was' now') (sym is.1) (ap (λ (h : Header). h.name) is.2 ∙ on)
on-file-after drivers.CopyOnRead b was now was' now' is size same on = absurd on
on-file-after (drivers.Filter kind) b was now was' now' is size same on = absurd on

row-after : (row : Row) (b : Option Row) → AreRowsAfter (Some row) b → (now : Row) × (b ≡ Some now) × IsRowAfter row now
row-after row b is = is

pub alone-after : (old new : Nodes) (was now : ℕ) → StandsAlone was now old → RowsAfter old new → StandsAlone was now new
alone-after old new was now alone after =
    let r = row-after alone.row (row_at new 1) (subst (λ (b : Option Row). AreRowsAfter b (row_at new 1)) alone.there (after.rows 1)) in
    record {
      row = r.0;
      there = r.1;
      on_file = on-file-after alone.row.driver r.0.driver was now was now r.2.driver refl (λ p raw. refl) alone.on_file;
      file = ap (λ (g : Graph). child_of (Node 1) File g.edges) after.graph ∙ alone.file;
      bare = ap (λ (g : Graph). child_of (Node 1) Backing g.edges) after.graph ∙ alone.bare;
    }

pub one-after : (old new : Nodes) (one : HaveOneImage old) (e : DeviceSeen) → new.devices ≡ e ∷ [] → e.node ≡ one.device.node → e.number ≡ one.device.number
    → ((p : RawImage) → one.row.driver ≡ drivers.Raw p → e.size ≡ one.device.size) → RowsAfter old new → HaveOneImage new
one-after old new one e is node number size after =
    let r = row-after one.row (row_at new 1) (subst (λ (b : Option Row). AreRowsAfter b (row_at new 1)) one.there (after.rows 1)) in
    record {
      device = e;
      only = is;
      node = node ∙ one.node;
      number = number ∙ one.number;
      row = r.0;
      there = r.1;
      writable = r.2.is_read_only ∙ one.writable;
      on_file = on-file-after one.row.driver r.0.driver (node_size old 0) one.device.size (node_size new 0) e.size r.2.driver
          (size-after (row_at old 0) (row_at new 0) (after.rows 0)) size one.on_file;
      file = ap (λ (g : Graph). child_of (Node 1) File g.edges) after.graph ∙ one.file;
      bare = ap (λ (g : Graph). child_of (Node 1) Backing g.edges) after.graph ∙ one.bare;
      others = λ other apart. ap (λ (g : Graph). child_of (Node other) File g.edges) after.graph ∙ one.others other apart;
    }

-- ---- the length of a raw image's file

-- no more is written than was given
length-written : (outcome : Outcome) (bytes : List ℕ) → length (taken_by outcome bytes) ≤ length bytes
length-written Good bytes = omega arith
length-written (Torn done dev count) bytes = omega (arith, length-take done bytes)
length-written (Io dev count) bytes = omega arith
length-written (NoSpace dev) bytes = omega arith

size-within : (size at : ℕ) (bytes : List ℕ) → at + length bytes ≤ size → size_with size at bytes ≡ size
size-within size at [] within = refl
size-within size at (b ∷ bytes) within = omega arith

module _ (old new : Nodes) (joined : IsJoined old) (one : HaveOneImage old) (p : RawImage) (raw : one.row.driver ≡ drivers.Raw p) where
  same-row : (row : Row) → row_at old 1 ≡ Some row → row.driver ≡ drivers.Raw p
  same-row row there = let same : row ≡ one.row = cc (sym there ∙ one.there) in ap (λ (r : Row). r.driver) same ∙ raw

  is-whole : IsOnFile (drivers.Raw p) (node_size old 0) one.device.size
  is-whole = subst (λ (d : Driver). IsOnFile d (node_size old 0) one.device.size) raw one.on_file

  raw-size : node_size old 1 ≡ node_size old 0
  raw-size =
      let sized : IsSized one.row.size (drivers.Raw p) = subst (IsSized one.row.size) raw (joined.sized 1 one.row one.there) in
      ap size_by one.there ∙ sym sized.0 ∙ is-whole.1

  file-size : (part : Extent) (bytes : List ℕ) (outcome : Outcome) (e : DeviceSeen) → new.devices ≡ e ∷ [] → length bytes ≡ part.len → end_of part ≤ node_size old 1
      → WritesFile old new 1 part.start bytes outcome → e.size ≡ one.device.size
  file-size part bytes outcome e is len inside wrote =
      let at = wrote.at in
      let r = the-one old new one wrote.file at.before at.after at.only at.held at.left in
      let w : IsWriteOf one.device at.after wrote.start bytes outcome = subst (λ (x : DeviceSeen). IsWriteOf x at.after wrote.start bytes outcome) r.1 at.wrote in
      let after : at.after ≡ e = head-same at.after e [] (sym r.0 ∙ is) in
      let start : wrote.start ≡ p.offset + part.start = wrote.start_is ∙ ap (λ (d : Driver). own_start d part.start) (same-row wrote.row wrote.there) in
      let most : length (taken_by outcome bytes) ≤ length bytes = length-written outcome bytes in
      let first : p.offset ≡ 0 = is-whole.0 in
      let now : one.device.size ≡ node_size old 0 = is-whole.2 in
      let whole : node_size old 1 ≡ node_size old 0 = raw-size in
      ap (λ (x : DeviceSeen). x.size) (sym after) ∙ w.size
      ∙ size-within one.device.size wrote.start (taken_by outcome bytes) (omega (arith, start, first, now, whole, len, inside, most))

  pub size-after-piece : (op : Op) (part : Extent) (outcome : Outcome) (buffer : List ℕ) (e : DeviceSeen) → new.devices ≡ e ∷ [] → end_of part ≤ node_size old 1
      → Transfers op old new 1 1 part outcome buffer → e.size ≡ one.device.size
  size-after-piece (Read span) part outcome buffer e is inside did =
      let r = the-risen old new one (reads-only old new one part outcome buffer did).devices in
      ap (λ (x : DeviceSeen). x.size) (head-same e r.0 [] (sym is ∙ r.1)) ∙ ap (λ (x : DeviceSeen). x.size) r.2.same
  size-after-piece (Write span payload) part outcome buffer e is inside did =
      let bytes : List ℕ = payload_in (Write span payload) part in
      file-size part bytes outcome e is (payload_length (Write span payload) part tt) inside
      (subst (λ (d : Driver). WritesBy d old new 1 part bytes outcome) (same-row did.0.row did.0.there) did.0.wrote)
  size-after-piece (Zero span) part outcome buffer e is inside did =
      file-size part (replicate part.len 0) outcome e is (length-replicate part.len 0) inside
      (subst (λ (d : Driver). ZerosBy d old new 1 part outcome) (same-row did.0.row did.0.there) did.0.wrote)
  size-after-piece Flush part outcome buffer e is inside did = flush-size old new one (base_of old 1) outcome e is did.flushed
  size-after-piece (Discard span) part outcome buffer e is inside did = absurd did

-- ---- what its outcome tells

pub has-form : (old new : Nodes) (op : Op) (part : Extent) (outcome : Outcome) (buffer : List ℕ) → Transfers op old new 1 1 part outcome buffer → HasForm outcome op part
has-form old new op part Good buffer did = tt
has-form old new op part (Torn done dev count) buffer did = torn_by old new 1 1 op part done dev count buffer did
has-form old new op part (Io dev count) buffer did = tt
has-form old new op part (NoSpace dev) buffer did = tt

-- ---- the disk

nothing-taken : (disk : List ℕ) (at n : ℕ) → with_bytes disk at (take n []) ≡ disk
nothing-taken disk at zero = refl
nothing-taken disk at (suc n) = refl

disk-by : (old new : Nodes) (op : Op) (part : Extent) (outcome : Outcome) (buffer : List ℕ) → AreTold old.devices → Transfers op old new 1 1 part outcome buffer
    → disk_of new 1 ≡ done_in op part (done_by outcome part) (disk_of old 1)
disk-by old new (Read span) part outcome buffer told did = did.disk told ∙ sym (nothing-taken (disk_of old 1) part.start (done_by outcome part))
disk-by old new (Write span payload) part outcome buffer told did =
    did.1.disk told ∙ ap (with_bytes (disk_of old 1) part.start) (taken_is (Write span payload) part outcome tt)
disk-by old new (Zero span) part outcome buffer told did =
    did.1.disk told ∙ ap (with_bytes (disk_of old 1) part.start) (taken_is (Zero span) part outcome tt)
disk-by old new Flush part outcome buffer told did = did.disks 1 ∙ sym (nothing-taken (disk_of old 1) part.start (done_by outcome part))
disk-by old new (Discard span) part outcome buffer told did = absurd did

by-content : (c k : Option (List ℕ)) (was is : List ℕ) (f : List ℕ → List ℕ) → is_some k ≡ is_some c → ((b : List ℕ) → c ≡ Some b → is ≡ f was)
    → option_map (λ (_ : List ℕ). is) k ≡ option_map f (option_map (λ (_ : List ℕ). was) c)
by-content None None was is f same changed = refl
by-content None (Some b) was is f same changed = absurd (false≢true (sym same))
by-content (Some b) None was is f same changed = absurd (false≢true same)
by-content (Some b) (Some k) was is f same changed = ap Some (changed b refl)

-- what of a disk is told, is that of the bytes
pub told-is : (c : Option (List ℕ)) (node_disk disk : List ℕ) → option_map (λ (_ : List ℕ). node_disk) c ≡ Some disk → (b : List ℕ) × (c ≡ Some b) × (node_disk ≡ disk)
told-is None node_disk disk is = absurd (let bad : ⊥ = cc is in bad)
told-is (Some b) node_disk disk is = (b, refl, cc is)

module _ (old new : Nodes) (joined : IsJoined old) (one : HaveOneImage old) (op : Op) (part : Extent) (outcome : Outcome) (buffer : List ℕ)
    (did : Transfers op old new 1 1 part outcome buffer) where
  gone : StepsOnDevice one.device new.devices outcome
  gone = goes old new one op part outcome buffer did

  are-told : (b : List ℕ) → one.device.content ≡ Some b → AreTold old.devices
  are-told b is = subst AreTold (sym one.only) (told-one one.device b is)

  pub piece-tells : (disk : List ℕ) → told_disk old ≡ Some disk → Tells outcome op part (Some disk) (shown_of op outcome buffer)
  piece-tells disk told =
      let t = told-is (content_of old) (disk_of old 1) disk told in
      let content : one.device.content ≡ Some t.0 = sym (content-is old one.device one.only one.node) ∙ t.1 in
      subst (λ (d : List ℕ). Tells outcome op part (Some d) (shown_of op outcome buffer)) t.2
      (tells old new 1 1 part buffer (are-told t.0 content) op outcome (Some (disk_of old 1)) refl did)

  pub piece-disk : told_disk new ≡ option_map (done_in op part (done_by outcome part)) (told_disk old)
  piece-disk =
      let g = gone in
      let was = content-is old one.device one.only one.node in
      let is = content-is new g.device g.is (g.steps.node ∙ one.node) in
      ap (option_map (λ (_ : List ℕ). disk_of new 1)) is
      ∙ by-content one.device.content g.device.content (disk_of old 1) (disk_of new 1) (done_in op part (done_by outcome part)) g.steps.told
      (λ b told. disk-by old new op part outcome buffer (are-told b told) did)
      ∙ ap (λ (c : Option (List ℕ)). option_map (done_in op part (done_by outcome part)) (option_map (λ (_ : List ℕ). disk_of old 1) c)) (sym was)

  pub piece-cause : CountsOutcome (device_faults old) (device_faults new) outcome
  piece-cause =
      let g = gone in
      subst (λ (n : ℕ). CountsOutcome n (device_faults new) outcome) (sym (faults-is old one.device one.only one.node))
      (subst (λ (n : ℕ). CountsOutcome one.device.faults n outcome) (sym (faults-is new g.device g.is (g.steps.node ∙ one.node))) g.steps.cause)

  pub piece-faults : device_faults old ≤ device_faults new
  piece-faults =
      let g = gone in
      let was = faults-is old one.device one.only one.node in
      let is = faults-is new g.device g.is (g.steps.node ∙ one.node) in
      let more = g.steps.faults in
      omega (arith, was, is, more)

  pub piece-shape : HaveShapeOf old new
  piece-shape =
      let g = gone in shape-after old new one g.device g.is g.steps.node g.steps.capacity (rows_after old new 1 1 op part outcome buffer did)

  pub piece-one : end_of part ≤ node_size old 1 → HaveOneImage new
  piece-one inside =
      let g = gone in
      one-after old new one g.device g.is g.steps.node g.steps.number
      (λ p raw. size-after-piece old new joined one p raw op part outcome buffer g.device g.is inside did) (rows_after old new 1 1 op part outcome buffer did)
