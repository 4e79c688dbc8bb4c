-- What a piece leaves of nodes and devices, and whose device stopped it.
use Rattle.std.proofs.Common.{◌≡◌, ℕ, zero, suc, ◌+◌, ◌<◌, true, List, length, replicate, Option, Some, None, refl, sym, ◌∙◌, ap, subst, inl, inr, arith}
use Rattle.std.proofs.lemmas.List.{length-replicate}
use Rattle.blk_base.specs.Pieces.{Extent}
use Rattle.blk_base.specs.declared.fault.DevNo.{DevNo}
use Rattle.blk_base.specs.declared.fault.Outcome.{Outcome}
use Rattle.blk_base.specs.declared.fault.Outcome.TheVariants.{Good, Torn, Io, NoSpace}
use Rattle.trace_codec.specs.declared.op.Op.{Op}
use Rattle.trace_codec.specs.declared.op.Payload.{Payload}
use Rattle.trace_codec.specs.declared.op.Op.TheVariants.{Read, Write, Zero, Flush, Discard}
use Rattle.blk_graph.specs.declared.edge.Role.TheVariants.{File as FileRole, Filtered}
use Rattle.blk_history.specs.Disk.{payload_in, is_write}
use Rattle.blk_history.specs.Fold.{With}
use Rattle.qmp_rules.specs.Table.{RunTable}
use Rattle.flat_machine.specs.EventLicence.{faulty_device}
use Rattle.blk_nodes.specs.Copying.{LowestLacks}
use Rattle.blk_nodes.specs.Flushing.{under_of, base_in, base_of, HasFlushCause, IsFlushAt}
use Rattle.blk_nodes.specs.Joined.{IsJoined}
use Rattle.blk_nodes.specs.Nodes.{Nodes, DeviceSeen, row_at, device_in, file_of, filtered_of}
use Rattle.blk_nodes.specs.Reading.{IsReadBelow, LeadsTo, StoppedBy, StoppedBelow}
use Rattle.blk_nodes.specs.Writing.{WritesFile, WritesImage, WritesBy, ZerosBy, HasCauseOf, HasPieceCause, MayWriteThrough, CanBeWritten, own_file, own_start}
use Rattle.blk_nodes.specs.declared.row.Driver.{Driver}
use Rattle.blk_nodes.specs.declared.row.Driver.TheVariants as drivers
use Rattle.blk_nodes.specs.declared.row.FilterKind.{FilterKind}
use Rattle.blk_nodes.specs.declared.row.Row.{Row}
use Rattle.blk_pieces.proofs.Kept.{LacksItsRoom}
use Rattle.blk_pieces.proofs.Rows.{rows_after}
use Rattle.blk_nodes.proofs.Leading.{leads_on, child_leads, stopped_piece}
use Rattle.world_parts.specs.Counting.{AreSameDevices}
use Rattle.blk_pieces.specs.Pieces.{Transfers}
use Rattle.world_pieces.specs.Pieces.{PassesBy, write_passes, read_passes, piece_passes}
use Rattle.world_parts.proofs.CountLemmas.{same-devices, same-risen, same-only}
use Rattle.world_pieces.proofs.PieceCopied.{ReadWent, Went, into_image}
use Rattle.world_parts.proofs.NodesAfter.{AreNodesAfter, of_rows}

-- ---- nodes after it

module _ (old new : Nodes) (joined : IsJoined old) where
  file_devices : (node place : ℕ) (bytes : List ℕ) (outcome : Outcome) → WritesFile old new node place bytes outcome → AreSameDevices old.devices new.devices
  file_devices node place bytes outcome wrote =
      same-only wrote.file old.devices new.devices wrote.at.before wrote.at.after joined.once wrote.at.only wrote.at.held wrote.at.left
      (record { node = wrote.at.wrote.node; number = wrote.at.wrote.number; capacity = wrote.at.wrote.capacity; faults = wrote.at.wrote.faults })

  image_devices : (fits : ℕ → Type 0) (own : Option ℕ) (rest : Option Extent) (node n : ℕ) (outcome : Outcome) (wrote : WritesImage fits own rest old new node n outcome)
      → AreSameDevices old.devices new.devices
  image_devices fits own rest node n outcome wrote = elim wrote.devices [
    | inl only ↦
        same-only wrote.file old.devices new.devices wrote.before wrote.after joined.once only wrote.held wrote.left
        (record { node = wrote.device.node; number = wrote.device.number; capacity = wrote.device.capacity; faults = wrote.device.faults })
    | inr risen ↦ same-risen old.devices new.devices risen
  ]

  write_devices : (node : ℕ) (part : Extent) (bytes : List ℕ) (outcome : Outcome) (d : Driver) → WritesBy d old new node part bytes outcome
      → AreSameDevices old.devices new.devices
  write_devices node part bytes outcome drivers.File wrote = file_devices node part.start bytes outcome wrote
  write_devices node part bytes outcome (drivers.Raw p) wrote = file_devices node part.start bytes outcome wrote
  write_devices node part bytes outcome (drivers.Qcow2 image) wrote = image_devices _ _ _ node _ outcome wrote
  write_devices node part bytes outcome drivers.CopyOnRead wrote = file_devices node part.start bytes outcome wrote
  write_devices node part bytes outcome (drivers.Filter kind) wrote = file_devices node part.start bytes outcome wrote

  zero_devices : (node : ℕ) (part : Extent) (outcome : Outcome) (d : Driver) → ZerosBy d old new node part outcome → AreSameDevices old.devices new.devices
  zero_devices node part outcome drivers.File wrote = file_devices node part.start (replicate part.len 0) outcome wrote
  zero_devices node part outcome (drivers.Raw p) wrote = file_devices node part.start (replicate part.len 0) outcome wrote
  zero_devices node part outcome (drivers.Qcow2 image) wrote = image_devices _ _ _ node _ outcome wrote
  zero_devices node part outcome drivers.CopyOnRead wrote = file_devices node part.start (replicate part.len 0) outcome wrote
  zero_devices node part outcome (drivers.Filter kind) wrote = file_devices node part.start (replicate part.len 0) outcome wrote

  flush_devices : (file : ℕ) (outcome : Outcome) → IsFlushAt file old.devices new.devices outcome → AreSameDevices old.devices new.devices
  flush_devices file outcome (inr none) = subst (AreSameDevices old.devices) (sym none.1) (same-devices old.devices)
  flush_devices file outcome (inl flushed) =
      same-only file old.devices new.devices flushed.before flushed.after joined.once flushed.only flushed.held flushed.left
      (record {
        node = ap (λ (d : DeviceSeen). d.node) flushed.flush.is;
        number = ap (λ (d : DeviceSeen). d.number) flushed.flush.is;
        capacity = ap (λ (d : DeviceSeen). d.capacity) flushed.flush.is;
        faults = flushed.flush.faults;
      })

  module _ (t : RunTable) (drive node : ℕ) (part : Extent) (outcome : Outcome) (buffer : List ℕ) where
    read_devices : ReadWent t old new drive node part outcome buffer → AreSameDevices old.devices new.devices
    read_devices (inl only) = same-risen old.devices new.devices only.devices
    read_devices (inr (inl full)) = subst (λ (n : Nodes). AreSameDevices old.devices n.devices) (sym full.room.same) (same-devices old.devices)
    read_devices (inr (inr into)) =
        let wrote = into.maps.wrote in
        write_devices node part buffer outcome wrote.row.driver wrote.wrote

    devices_after : (op : Op) → Went t op old new drive node part outcome buffer → AreSameDevices old.devices new.devices
    devices_after (Read span) went = read_devices went
    devices_after (Write span payload) went = write_devices node part (payload_in (Write span payload) part) outcome went.0.row.driver went.0.wrote
    devices_after (Zero span) went = zero_devices node part outcome went.0.row.driver went.0.wrote
    devices_after Flush went = flush_devices (base_of old node) outcome went.flushed
    devices_after (Discard span) went = absurd went

    pub nodes_after : (op : Op) → Transfers op old new drive node part outcome buffer → Went t op old new drive node part outcome buffer → AreNodesAfter old new
    nodes_after op did went = of_rows old new (rows_after old new drive node op part outcome buffer did) (devices_after op went)

-- ---- whose device stopped it

-- a node that is written in place in its file
abbrev pub IsWrittenInPlace : Driver → Type 0
IsWrittenInPlace drivers.File = Unit {0}
IsWrittenInPlace (drivers.Raw part) = Unit {0}
IsWrittenInPlace (drivers.Qcow2 image) = ⊥
IsWrittenInPlace drivers.CopyOnRead = ⊥
IsWrittenInPlace (drivers.Filter kind) = ⊥

-- a device that the node leads to; where a count is told, it rose to that
abbrev pub IsStop : DeviceSeen → DeviceSeen → Outcome → DevNo → Type 0
IsStop before after Good dev = ⊥
IsStop before after (Torn done other count) dev = StoppedBy before after dev count
IsStop before after (Io other count) dev = StoppedBy before after dev count
IsStop before after (NoSpace other) dev = dev ≡ before.number

pub record StoppedOn (old new : Nodes) (node : ℕ) (outcome : Outcome) (dev : DevNo) : Type 0 where
  pub file : ℕ
  pub leads : LeadsTo old.graph.edges node file
  pub before : DeviceSeen
  pub after : DeviceSeen
  pub held : device_in old.devices file ≡ Some before
  pub left : device_in new.devices file ≡ Some after
  pub stop : IsStop before after outcome dev

module _ (old new : Nodes) (node : ℕ) where
  stop_below : (outcome : Outcome) (dev : DevNo) (count : ℕ) → outcome ≡ Io dev count → StoppedBelow old new node dev count → StoppedOn old new node outcome dev
  stop_below outcome dev count is stopped = record {
    file = stopped.file;
    leads = stopped.leads;
    before = stopped.stopped.before;
    after = stopped.stopped.after;
    held = stopped.stopped.held;
    left = stopped.stopped.left;
    stop = subst (λ (o : Outcome). IsStop stopped.stopped.before stopped.stopped.after o dev) (sym is) stopped.stopped.stopped;
  }

  pub read_stop : (outcome : Outcome) (dev : DevNo) → faulty_device outcome ≡ Some dev → IsReadBelow old new node outcome → StoppedOn old new node outcome dev
  read_stop Good dev named is = absurd (let bad : ⊥ = cc named in bad)
  read_stop (Torn done other count) dev named is = absurd is
  read_stop (Io other count) dev named is =
      let same : other ≡ dev = cc named in
      stop_below (Io other count) dev count (ap (λ (d : DevNo). Io d count) same) (subst (λ (d : DevNo). StoppedBelow old new node d count) same is)
  read_stop (NoSpace other) dev named is = absurd is

  write_stop_by : (before after : DeviceSeen) (place n : ℕ) (outcome : Outcome) (dev : DevNo) → faulty_device outcome ≡ Some dev → HasCauseOf before after place n outcome → IsStop before after outcome dev
  write_stop_by before after place n Good dev named cause = absurd (let bad : ⊥ = cc named in bad)
  write_stop_by before after place n (Torn done other count) dev named cause =
      let same : other ≡ dev = cc named in subst (λ (d : DevNo). StoppedBy before after d count) same cause.4
  write_stop_by before after place n (Io other count) dev named cause =
      let same : other ≡ dev = cc named in subst (λ (d : DevNo). StoppedBy before after d count) same cause.1
  write_stop_by before after place n (NoSpace other) dev named cause = let same : other ≡ dev = cc named in sym same ∙ cause.1

  file_stop : (place : ℕ) (bytes : List ℕ) (outcome : Outcome) (dev : DevNo) → faulty_device outcome ≡ Some dev → (wrote : WritesFile old new node place bytes outcome)
      → LeadsTo old.graph.edges node wrote.file → StoppedOn old new node outcome dev
  file_stop place bytes outcome dev named wrote leads = record {
    file = wrote.file;
    leads = leads;
    before = wrote.at.before;
    after = wrote.at.after;
    held = wrote.at.held;
    left = wrote.at.left;
    stop = write_stop_by wrote.at.before wrote.at.after wrote.start (length bytes) outcome dev named wrote.at.wrote.cause;
  }

  image_stop : (fits : ℕ → Type 0) (own : Option ℕ) (rest : Option Extent) (n : ℕ) (outcome : Outcome) (dev : DevNo) → faulty_device outcome ≡ Some dev
      → (wrote : WritesImage fits own rest old new node n outcome) → StoppedOn old new node outcome dev
  image_stop fits own rest n outcome dev named wrote = by_cause outcome refl named wrote.cause
    where
      here : IsStop wrote.before wrote.after outcome dev → StoppedOn old new node outcome dev
      here stop = record {
        file = wrote.file;
        leads = child_leads old.graph.edges node wrote.file FileRole wrote.edge;
        before = wrote.before;
        after = wrote.after;
        held = wrote.held;
        left = wrote.left;
        stop = stop;
      }

      by_cause : (o : Outcome) → outcome ≡ o → faulty_device o ≡ Some dev → HasPieceCause (fits wrote.before.capacity) own rest n wrote.file old new node wrote.before wrote.after o
          → StoppedOn old new node outcome dev
      by_cause Good is named cause = absurd (let bad : ⊥ = cc named in bad)
      by_cause (Torn done other count) is named cause =
          let same : other ≡ dev = cc named in
          here (subst (λ (o : Outcome). IsStop wrote.before wrote.after o dev) (sym is) (subst (λ (d : DevNo). StoppedBy wrote.before wrote.after d count) same cause.2))
      by_cause (Io other count) is named cause =
          let same : other ≡ dev = cc named in
          let stopped = stopped_piece old new node other count fits own rest n outcome wrote cause in
          stop_below outcome dev count (is ∙ ap (λ (d : DevNo). Io d count) same) (subst (λ (d : DevNo). StoppedBelow old new node d count) same stopped)
      by_cause (NoSpace other) is named cause =
          let same : other ≡ dev = cc named in
          here (subst (λ (o : Outcome). IsStop wrote.before wrote.after o dev) (sym is) (sym same ∙ cause.1))

  flush_stop_by : (before after : DeviceSeen) (outcome : Outcome) (dev : DevNo) → faulty_device outcome ≡ Some dev → HasFlushCause before after outcome → IsStop before after outcome dev
  flush_stop_by before after Good dev named cause = absurd (let bad : ⊥ = cc named in bad)
  flush_stop_by before after (Torn done other count) dev named cause = absurd cause
  flush_stop_by before after (Io other count) dev named cause =
      let same : other ≡ dev = cc named in subst (λ (d : DevNo). StoppedBy before after d count) same cause
  flush_stop_by before after (NoSpace other) dev named cause = absurd cause

plain_leads : (nodes : Nodes) (node file : ℕ) (d : Driver) → IsWrittenInPlace d → own_file nodes node d ≡ Some file → LeadsTo nodes.graph.edges node file
plain_leads nodes node file drivers.File plain is = inl (cc is)
plain_leads nodes node file (drivers.Raw part) plain is = child_leads nodes.graph.edges node file FileRole is
plain_leads nodes node file (drivers.Qcow2 image) plain is = absurd plain
plain_leads nodes node file drivers.CopyOnRead plain is = absurd plain
plain_leads nodes node file (drivers.Filter kind) plain is = absurd plain

under_leads : (nodes : Nodes) (node next : ℕ) → under_of nodes node ≡ Some next → LeadsTo nodes.graph.edges node next
under_leads nodes node next is = by_file (file_of nodes node) refl is
  where
    by_file : (found : Option ℕ) → file_of nodes node ≡ found → elim found as (λ _. Option ℕ) [ None ↦ filtered_of nodes node | Some file ↦ Some file ] ≡ Some next
        → LeadsTo nodes.graph.edges node next
    by_file None at is = child_leads nodes.graph.edges node next Filtered is
    by_file (Some file) at is = child_leads nodes.graph.edges node next FileRole (at ∙ is)

base_leads : (nodes : Nodes) (turns node : ℕ) → LeadsTo nodes.graph.edges node (base_in turns nodes node)
base_leads nodes zero node = inl refl
base_leads nodes (suc turns) node = by_under (under_of nodes node) (under_leads nodes node) (base_leads nodes turns)
  where
    by_under : (found : Option ℕ) → ((next : ℕ) → found ≡ Some next → LeadsTo nodes.graph.edges node next) → ((n : ℕ) → LeadsTo nodes.graph.edges n (base_in turns nodes n))
        → LeadsTo nodes.graph.edges node (elim found as (λ _. ℕ) [ None ↦ node | Some next ↦ base_in turns nodes next ])
    by_under None leads rest = inl refl
    by_under (Some next) leads rest = leads_on nodes.graph.edges node next (base_in turns nodes next) (leads next refl) (rest next)

flush_stop : (old new : Nodes) (node : ℕ) (outcome : Outcome) (dev : DevNo) → faulty_device outcome ≡ Some dev → IsFlushAt (base_of old node) old.devices new.devices outcome
    → StoppedOn old new node outcome dev
unfolding base_of
flush_stop old new node outcome dev named (inl flushed) = record {
  file = base_in 64 old node;
  leads = base_leads old 64 node;
  before = flushed.before;
  after = flushed.after;
  held = flushed.held;
  left = flushed.left;
  stop = flush_stop_by old new node flushed.before flushed.after outcome dev named flushed.flush.cause;
}
flush_stop old new node outcome dev named (inr none) = absurd (let bad : ⊥ = cc (sym named ∙ ap faulty_device none.2) in bad)

module _ (old new : Nodes) (node : ℕ) where
  own_of : (place : ℕ) (bytes : List ℕ) (outcome : Outcome) (row : Row) (d : Driver) → row_at old node ≡ Some row → row.driver ≡ d → (wrote : WritesFile old new node place bytes outcome)
      → own_file old node d ≡ Some wrote.file
  own_of place bytes outcome row d there driver wrote =
      let same : wrote.row ≡ row = cc (sym wrote.there ∙ there) in
      ap (own_file old node) (sym driver ∙ ap (λ (r : Row). r.driver) (sym same)) ∙ wrote.own

  plain_stop : (place : ℕ) (bytes : List ℕ) (outcome : Outcome) (dev : DevNo) (row : Row) (d : Driver) → faulty_device outcome ≡ Some dev → row_at old node ≡ Some row → row.driver ≡ d → IsWrittenInPlace d
      → WritesFile old new node place bytes outcome → StoppedOn old new node outcome dev
  plain_stop place bytes outcome dev row d named there driver plain wrote =
      file_stop old new node place bytes outcome dev named wrote
      (plain_leads old node wrote.file d plain (own_of place bytes outcome row d there driver wrote))

  -- a node that may be written copies no reads
  not_copying : (row : Row) → row_at old node ≡ Some row → row.driver ≡ drivers.CopyOnRead → MayWriteThrough old node → ⊥
  not_copying row there driver may =
      let same : may.row ≡ row = cc (sym may.there ∙ there) in
      subst (CanBeWritten old node) (ap (λ (r : Row). r.driver) same ∙ driver) may.can

  -- nor is it the filter of a job
  not_filter : (row : Row) (kind : FilterKind) → row_at old node ≡ Some row → row.driver ≡ drivers.Filter kind → MayWriteThrough old node → ⊥
  not_filter row kind there driver may =
      let same : may.row ≡ row = cc (sym may.there ∙ there) in
      subst (CanBeWritten old node) (ap (λ (r : Row). r.driver) same ∙ driver) may.can

  pub written_stop : (part : Extent) (bytes : List ℕ) (outcome : Outcome) (dev : DevNo) (row : Row) → faulty_device outcome ≡ Some dev → row_at old node ≡ Some row → MayWriteThrough old node
      → (d : Driver) → row.driver ≡ d → WritesBy d old new node part bytes outcome → StoppedOn old new node outcome dev
  written_stop part bytes outcome dev row named there may drivers.File driver wrote = plain_stop part.start bytes outcome dev row drivers.File named there driver tt wrote
  written_stop part bytes outcome dev row named there may (drivers.Raw p) driver wrote = plain_stop part.start bytes outcome dev row (drivers.Raw p) named there driver tt wrote
  written_stop part bytes outcome dev row named there may (drivers.Qcow2 image) driver wrote = image_stop old new node _ _ _ _ outcome dev named wrote
  written_stop part bytes outcome dev row named there may drivers.CopyOnRead driver wrote = absurd (not_copying row there driver may)
  written_stop part bytes outcome dev row named there may (drivers.Filter kind) driver wrote = absurd (not_filter row kind there driver may)

  pub zeroed_stop : (part : Extent) (outcome : Outcome) (dev : DevNo) (row : Row) → faulty_device outcome ≡ Some dev → row_at old node ≡ Some row → MayWriteThrough old node
      → (d : Driver) → row.driver ≡ d → ZerosBy d old new node part outcome → StoppedOn old new node outcome dev
  zeroed_stop part outcome dev row named there may drivers.File driver wrote = plain_stop part.start (replicate part.len 0) outcome dev row drivers.File named there driver tt wrote
  zeroed_stop part outcome dev row named there may (drivers.Raw p) driver wrote = plain_stop part.start (replicate part.len 0) outcome dev row (drivers.Raw p) named there driver tt wrote
  zeroed_stop part outcome dev row named there may (drivers.Qcow2 image) driver wrote = image_stop old new node _ _ _ _ outcome dev named wrote
  zeroed_stop part outcome dev row named there may drivers.CopyOnRead driver wrote = absurd (not_copying row there driver may)
  zeroed_stop part outcome dev row named there may (drivers.Filter kind) driver wrote = absurd (not_filter row kind there driver may)

-- a node above leads there too
stop_above : (old new : Nodes) (above node : ℕ) (outcome : Outcome) (dev : DevNo) → LeadsTo old.graph.edges above node → StoppedOn old new node outcome dev → StoppedOn old new above outcome dev
stop_above old new above node outcome dev down stop = record {
  file = stop.file;
  leads = leads_on old.graph.edges above node stop.file down stop.leads;
  before = stop.before;
  after = stop.after;
  held = stop.held;
  left = stop.left;
  stop = stop.stop;
}

module _ (t : RunTable) (old new : Nodes) (drive node : ℕ) (part : Extent) (outcome : Outcome) (buffer : List ℕ) (dev : DevNo) (named : faulty_device outcome ≡ Some dev)
    (down : LeadsTo old.graph.edges drive node) where
  above : StoppedOn old new node outcome dev → StoppedOn old new drive outcome dev
  above stop = stop_above old new drive node outcome dev down stop

  -- where there was no room, it is for the device of the image's file
  full_stop : LacksItsRoom old new node part outcome → StoppedOn old new drive outcome dev
  full_stop full =
      let own : full.dev ≡ dev = (let both : Some full.dev ≡ Some dev = sym (ap faulty_device full.is) ∙ named in cc both) in
      above (record {
        file = full.lacks.file;
        leads = child_leads old.graph.edges node full.lacks.file FileRole full.lacks.edge;
        before = full.lacks.device;
        after = full.lacks.device;
        held = full.lacks.held;
        left = ap (λ (n : Nodes). device_in n.devices full.lacks.file) full.same ∙ full.lacks.held;
        stop = subst (λ (o : Outcome). IsStop full.lacks.device full.lacks.device o dev) (sym full.is) (sym own ∙ full.lacks.named);
      })

  read_stopped : ReadWent t old new drive node part outcome buffer → StoppedOn old new drive outcome dev
  read_stopped (inl only) = read_stop old new drive outcome dev named only.below
  read_stopped (inr (inl full)) = full_stop full.room
  read_stopped (inr (inr into)) = above (image_stop old new node _ _ _ _ outcome dev named (into_image t old new drive node part outcome buffer into))

  -- The device that a piece names is one that its drive leads to.
  pub stop_of : (op : Op) → (is_write op ≡ true → MayWriteThrough old node) → Went t op old new drive node part outcome buffer → StoppedOn old new drive outcome dev
  stop_of (Read span) may went = read_stopped went
  stop_of (Write span payload) may went =
      above (written_stop old new node part (payload_in (Write span payload) part) outcome dev went.0.row named went.0.there (may refl) went.0.row.driver refl went.0.wrote)
  stop_of (Zero span) may went = above (zeroed_stop old new node part outcome dev went.0.row named went.0.there (may refl) went.0.row.driver refl went.0.wrote)
  stop_of Flush may went = above (flush_stop old new node outcome dev named went.flushed)
  stop_of (Discard span) may went = absurd went

-- ---- want of space

-- a write of the piece would pass the capacity of this device
pub record IsFull (old : Nodes) (node : ℕ) (op : Op) (part : Extent) (dev : DevNo) : Type 0 where
  pub row : Row
  pub there : row_at old node ≡ Some row
  pub file : ℕ
  pub own : own_file old node row.driver ≡ Some file
  pub before : DeviceSeen
  pub held : device_in old.devices file ≡ Some before
  pub named : dev ≡ before.number
  pub passes : PassesBy row.driver op part before.capacity

module _ (old new : Nodes) (node : ℕ) (part : Extent) (dev : DevNo) (row : Row) (there : row_at old node ≡ Some row) where
  plain_full : (op : Op) (bytes : List ℕ) (d : Driver) → row.driver ≡ d → length bytes ≡ part.len
      → (wrote : WritesFile old new node part.start bytes (NoSpace dev)) → (wrote.at.before.capacity < own_start d part.start + part.len → PassesBy d op part wrote.at.before.capacity) → IsFull old node op part dev
  plain_full op bytes d driver len wrote is =
      let same : wrote.row ≡ row = cc (sym wrote.there ∙ there) in
      let start : wrote.start ≡ own_start d part.start = wrote.start_is ∙ ap (λ (r : Row). own_start r.driver part.start) same ∙ ap (λ (x : Driver). own_start x part.start) driver in
      let cause = wrote.at.wrote.cause in
      record {
        row = row;
        there = there;
        file = wrote.file;
        own = ap (λ (r : Row). own_file old node r.driver) (sym same) ∙ wrote.own;
        before = wrote.at.before;
        held = wrote.at.held;
        named = cause.1;
        passes = subst (λ (x : Driver). PassesBy x op part wrote.at.before.capacity) (sym driver) (is (omega (arith, cause.0, start, len)));
      }

  image_full : (op : Op) (fits : ℕ → Type 0) (own : Option ℕ) (rest : Option Extent) (n : ℕ) (d : Driver) → row.driver ≡ d → own_file old node d ≡ file_of old node
      → (wrote : WritesImage fits own rest old new node n (NoSpace dev))
      → PassesBy d op part wrote.before.capacity → IsFull old node op part dev
  image_full op fits own rest n d driver below wrote passes = record {
    row = row;
    there = there;
    file = wrote.file;
    own = ap (own_file old node) driver ∙ below ∙ wrote.edge;
    before = wrote.before;
    held = wrote.held;
    named = wrote.cause.1;
    passes = subst (λ (x : Driver). PassesBy x op part wrote.before.capacity) (sym driver) passes;
  }

  write_full : (span : Extent) (payload : Payload) (bytes : List ℕ) → length bytes ≡ part.len → MayWriteThrough old node → (d : Driver) → row.driver ≡ d
      → WritesBy d old new node part bytes (NoSpace dev) → IsFull old node (Write span payload) part dev
  write_full span payload bytes len may drivers.File driver wrote = plain_full (Write span payload) bytes drivers.File driver len wrote (λ past. past)
  write_full span payload bytes len may (drivers.Raw p) driver wrote = plain_full (Write span payload) bytes (drivers.Raw p) driver len wrote (λ past. past)
  write_full span payload bytes len may (drivers.Qcow2 image) driver wrote = image_full (Write span payload) _ _ _ _ (drivers.Qcow2 image) driver refl wrote wrote.cause.0
  write_full span payload bytes len may drivers.CopyOnRead driver wrote = absurd (not_copying old new node row there driver may)
  write_full span payload bytes len may (drivers.Filter kind) driver wrote = absurd (not_filter old new node row kind there driver may)

  zero_full : (span : Extent) → MayWriteThrough old node → (d : Driver) → row.driver ≡ d → ZerosBy d old new node part (NoSpace dev) → IsFull old node (Zero span) part dev
  zero_full span may drivers.File driver wrote = plain_full (Zero span) (replicate part.len 0) drivers.File driver (length-replicate part.len 0) wrote (λ past. past)
  zero_full span may (drivers.Raw p) driver wrote = plain_full (Zero span) (replicate part.len 0) (drivers.Raw p) driver (length-replicate part.len 0) wrote (λ past. past)
  zero_full span may (drivers.Qcow2 image) driver wrote = image_full (Zero span) _ _ _ _ (drivers.Qcow2 image) driver refl wrote wrote.cause.0
  zero_full span may drivers.CopyOnRead driver wrote = absurd (not_copying old new node row there driver may)
  zero_full span may (drivers.Filter kind) driver wrote = absurd (not_filter old new node row kind there driver may)

module _ (t : RunTable) (old new : Nodes) (drive node : ℕ) (part : Extent) (buffer : List ℕ) (dev : DevNo) where
  full_passes : (op : Op) → IsFull old node op part dev → write_passes old node op part dev.0
  full_passes op full =
      subst
      (λ (row : Option Row). With row (λ r. With (own_file old node r.driver) (λ file. With (device_in old.devices file)
      (λ device. (device.number.0 ≡ dev.0) × PassesBy r.driver op part device.capacity)))) (sym full.there)
      (subst (λ (own : Option ℕ). With own (λ file. With (device_in old.devices file) (λ device. (device.number.0 ≡ dev.0) × PassesBy full.row.driver op part device.capacity)))
      (sym full.own)
      (subst (λ (found : Option DeviceSeen). With found (λ device. (device.number.0 ≡ dev.0) × PassesBy full.row.driver op part device.capacity)) (sym full.held)
      (ap (λ (d : DevNo). d.0) (sym full.named), full.passes)))

  read_full : ReadWent t old new drive node part (NoSpace dev) buffer → read_passes old drive part dev.0
  read_full (inl only) = absurd only.below
  read_full (inr (inl full)) =
      let own : full.room.dev ≡ dev = (let both : NoSpace dev ≡ NoSpace full.room.dev = full.room.is in cc both) in (
        full.room.dev,
        ap (λ (d : DevNo). d.0) own,
        subst (LowestLacks old part full.room.dev) (sym full.copied.met) (inr (tt, full.room.lacks)),
      )
  read_full (inr (inr into)) = absurd into.maps.whole

  -- Where there was no room, a write would have passed the device's capacity.
  pub passes_of : (op : Op) → (is_write op ≡ true → length (payload_in op part) ≡ part.len) → (is_write op ≡ true → MayWriteThrough old node)
      → Went t op old new drive node part (NoSpace dev) buffer → piece_passes old drive node op part dev.0
  passes_of (Read span) len may went = read_full went
  passes_of (Write span payload) len may went =
      full_passes (Write span payload)
      (write_full old new node part dev went.0.row went.0.there span payload (payload_in (Write span payload) part) (len refl) (may refl) went.0.row.driver refl went.0.wrote)
  passes_of (Zero span) len may went =
      full_passes (Zero span) (zero_full old new node part dev went.0.row went.0.there span (may refl) went.0.row.driver refl went.0.wrote)
  passes_of Flush len may went = absurd (no_room went.flushed)
    where
      no_room : IsFlushAt (base_of old node) old.devices new.devices (NoSpace dev) → ⊥
      no_room (inl at) = at.flush.cause
      no_room (inr none) = let bad : ⊥ = cc none.2 in bad
  passes_of (Discard span) len may went = absurd went
