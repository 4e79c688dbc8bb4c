-- What a read of a piece leaves and answers.
use Rattle.std.specs.Prelude.{◌≡◌, ◌≢◌, ◌⊎◌, ℕ, ◌≤◌, List, [], ◌∷◌, map, Some}
use Rattle.blk_base.specs.Calls.{FailedLast}
use Rattle.blk_base.specs.Content.{bytes_at}
use Rattle.blk_base.specs.Counts.{Rose}
use Rattle.blk_base.specs.Pieces.{Extent}
use Rattle.blk_base.specs.declared.device.DeviceCall.{DeviceCall}
use Rattle.blk_base.specs.declared.fault.Outcome.{Outcome}
use Rattle.blk_base.specs.declared.fault.Outcome.TheVariants.{Good, Torn, Io, NoSpace}
use Rattle.blk_base.specs.declared.fault.DevNo.{DevNo}
use Rattle.blk_graph.specs.Paths.{Reaches}
use Rattle.blk_graph.specs.declared.edge.Edge.{Edge}
use Rattle.blk_nodes.specs.Nodes.{Nodes, DeviceSeen, device_in}

-- a device but for its count, which may have risen, and which call failed last
pub record HasRisen (old new : DeviceSeen) : Type 0 where
  pub same : new ≡ record old { faults = new.faults; failed_call = new.failed_call }
  pub faults : old.faults ≤ new.faults

abbrev pub HaveRisen : List DeviceSeen → List DeviceSeen → Type 0
HaveRisen [] [] = Unit {0}
HaveRisen (a ∷ old) (b ∷ new) = HasRisen a b × HaveRisen old new
HaveRisen _ _ = ⊥

-- a device stopped the call: it is named with its count, which rose
pub record StoppedBy (old new : DeviceSeen) (dev : DevNo) (count : ℕ) : Type 0 where
  pub named : dev ≡ old.number
  pub rose : Rose old.faults count
  pub now : count ≡ new.faults

-- how this call of one device went, which reads
abbrev pub IsReadOf : DeviceCall → DeviceSeen → DeviceSeen → Outcome → Type 0
IsReadOf call old new Good = new ≡ old
IsReadOf call old new (Torn done dev count) = ⊥
IsReadOf call old new (Io dev count) =
    StoppedBy old new dev count × FailedLast call new.failed_call
IsReadOf call old new (NoSpace dev) = ⊥

-- all devices but that of a `file` node are as before
pub record OnlyAt (file : ℕ) (old new : List DeviceSeen) : Type 0 where
  pub nodes : map (λ device. device.node) new ≡ map (λ device. device.node) old
  pub others : (other : ℕ) → other ≢ file → device_in new other ≡ device_in old other

-- the device of a `file` node, and no other, stopped the call
pub record StoppedAt (file : ℕ) (old new : List DeviceSeen) (dev : DevNo) (count : ℕ) : Type 0
  where
    pub before : DeviceSeen
    pub after : DeviceSeen
    pub held : device_in old file ≡ Some before
    pub left : device_in new file ≡ Some after
    pub stopped : StoppedBy before after dev count
    pub only : OnlyAt file old new

-- how this call of the device of a `file` node went, which reads
abbrev pub IsReadAt : ℕ → DeviceCall → List DeviceSeen → List DeviceSeen → Outcome → Type 0
IsReadAt file call old new Good = new ≡ old
IsReadAt file call old new (Torn done dev count) = ⊥
IsReadAt file call old new (Io dev count) =
    (at : StoppedAt file old new dev count) × FailedLast call at.after.failed_call
IsReadAt file call old new (NoSpace dev) = ⊥

-- a node is another, or reaches it
abbrev pub LeadsTo : List Edge → ℕ → ℕ → Type 0
LeadsTo edges from to = (from ≡ to) ⊎ Reaches edges from to

-- a device that the node leads to stopped the call
pub record StoppedBelow (old new : Nodes) (node : ℕ) (dev : DevNo) (count : ℕ) : Type 0 where
  pub file : ℕ
  pub leads : LeadsTo old.graph.edges node file
  pub stopped : StoppedAt file old.devices new.devices dev count

-- how a read of a node went
abbrev pub IsReadBelow : Nodes → Nodes → ℕ → Outcome → Type 0
IsReadBelow old new node Good = new ≡ old
IsReadBelow old new node (Torn done dev count) = ⊥
IsReadBelow old new node (Io dev count) = StoppedBelow old new node dev count
IsReadBelow old new node (NoSpace dev) = ⊥

-- a read that was good left the disk's bytes in the buffer
abbrev pub ReadsDisk : Outcome → List ℕ → Extent → List ℕ → Type 0
ReadsDisk Good disk span buffer = buffer ≡ bytes_at disk span.start span.len
ReadsDisk _ disk span buffer = Unit {0}
