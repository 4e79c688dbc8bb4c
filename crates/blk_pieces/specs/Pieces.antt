-- What a piece of a guest's request does to the nodes, and what it answers.
use Rattle.std.specs.Prelude.{◌≡◌, ℕ, ◌+◌, ◌-◌, ◌*◌, ◌/◌, ◌<◌, ◌≤◌, min, max, true, List, [], length, replicate}
use Rattle.blk_base.specs.Content.{with_bytes}
use Rattle.blk_base.specs.Pieces.{Extent, end_of}
use Rattle.blk_base.specs.declared.fault.Outcome.{Outcome}
use Rattle.blk_base.specs.declared.fault.Outcome.TheVariants.{Good, Torn, Io, NoSpace}
use Rattle.trace_codec.specs.declared.op.Op.{Op}
use Rattle.trace_codec.specs.declared.op.Op.TheVariants.{Read, Write, Zero, Flush, Discard}
use Rattle.blk_graph.specs.Graph.{HasNode}
use Rattle.blk_history.specs.Disk.{is_write, payload_in}
use Rattle.blk_nodes.specs.Contents.{disk_of}
use Rattle.blk_nodes.specs.Copying.{AtEach, IsBeside, IsMappedAt, LeavesRest, ReadsPiece, images_met}
use Rattle.blk_nodes.specs.Flushing.{base_of, IsFlushAt}
use Rattle.blk_nodes.specs.Nodes.{Nodes, AreTold, node_size}
use Rattle.blk_nodes.specs.Reading.{ReadsDisk}
use Rattle.blk_nodes.specs.Writing.{MayWriteThrough, IsApartFrom, LeavesNodes, WritesPiece, ZerosPiece, taken_by}

-- ---- what a piece is

-- a piece has bytes, of one block; that of a flush has none, and a discard has no piece
abbrev pub IsPartAsked : Op → Extent → Type 0
IsPartAsked Flush part = part.len ≡ 0
IsPartAsked (Discard span) part = ⊥
IsPartAsked op part = 0 < part.len

-- A read goes in at the node that a guest is on, and may put what it reads into images below; all else is asked of the node
-- that this one reads as.
pub record CanRead (nodes : Nodes) (drive : ℕ) (part : Extent) : Type 0 where
  pub inside : end_of part ≤ node_size nodes drive
  pub may : AtEach (MayWriteThrough nodes) (images_met nodes drive part.start)

abbrev pub CanReadFor : Op → Nodes → ℕ → Extent → Type 0
CanReadFor (Read span) nodes drive part = CanRead nodes drive part
CanReadFor op nodes drive part = Unit {0}

-- the nodes can be asked for it
pub record CanTransfer (nodes : Nodes) (drive node : ℕ) (op : Op) (part : Extent) : Type 0 where
  pub there : HasNode nodes.graph node
  pub inside : end_of part ≤ node_size nodes node
  pub read : CanReadFor op nodes drive part
  pub may : is_write op ≡ true → MayWriteThrough nodes node

-- what it shows, of what its read left in the buffer
abbrev pub shown_of : Op → Outcome → List ℕ → List ℕ
shown_of (Read span) Good buffer = buffer
shown_of (Read span) (Torn done dev count) buffer = []
shown_of (Read span) (Io dev count) buffer = []
shown_of (Read span) (NoSpace dev) buffer = []
shown_of (Write span payload) outcome buffer = []
shown_of (Zero span) outcome buffer = []
shown_of Flush outcome buffer = []
shown_of (Discard span) outcome buffer = []

-- how many of its n bytes it may show
abbrev pub shows_in : Op → ℕ → ℕ
shows_in (Read span) n = n
shows_in (Write span payload) n = 0
shows_in (Zero span) n = 0
shows_in Flush n = 0
shows_in (Discard span) n = 0

-- how many bytes the first k pieces of a read show
abbrev pub shown_before : Op → ℕ → ℕ
shown_before (Read span) k =
    min (max span.start ((span.start / 65536 + k) * 65536)) (end_of span) - span.start
shown_before (Write span payload) k = 0
shown_before (Zero span) k = 0
shown_before Flush k = 0
shown_before (Discard span) k = 0

-- ---- what it does to nodes and devices

-- It was read, and left these bytes in the buffer, as many as it has also where no device tells its bytes. Each image that it met
-- below a copy-on-read has the cluster where it was good. Where the devices tell their bytes, no disk changed but of nodes from
-- which a path leads to such an image's file other than through the image.
pub record ReadsPart (old new : Nodes) (drive : ℕ) (part : Extent) (outcome : Outcome)
    (buffer : List ℕ) : Type 0 where
  pub whole : length buffer ≡ part.len
  pub read : AreTold old.devices → ReadsDisk outcome (disk_of old drive) part buffer
  pub went : ReadsPiece old new drive part buffer outcome
  pub mapped : outcome ≡ Good
      → AtEach (IsMappedAt new part.start) (images_met old drive part.start)
  pub rest : LeavesRest (images_met old drive part.start) old new outcome
  pub disk : AreTold old.devices → disk_of new drive ≡ disk_of old drive
  pub disks : AreTold old.devices → (other : ℕ)
      → AtEach (IsBeside old other) (images_met old drive part.start)
      → disk_of new other ≡ disk_of old other

-- the node's disk has just what was written of these bytes, and disks apart from it are as before
pub record PutsPart (old new : Nodes) (node : ℕ) (part : Extent) (outcome : Outcome)
    (bytes : List ℕ) : Type 0 where
  pub disk : AreTold old.devices
      → disk_of new node ≡ with_bytes (disk_of old node) part.start (taken_by outcome bytes)
  pub others : (other : ℕ) → IsApartFrom old other node → disk_of new other ≡ disk_of old other
  pub kept : LeavesNodes old new node

-- what is under the node was flushed
pub record FlushesPart (old new : Nodes) (node : ℕ) (outcome : Outcome) : Type 0 where
  pub flushed : IsFlushAt (base_of old node) old.devices new.devices outcome
  pub kept : new ≡ record old { devices = new.devices }
  pub disks : (other : ℕ) → disk_of new other ≡ disk_of old other

-- by what is asked, of a drive and of the node that it reads as
abbrev pub Transfers : Op → Nodes → Nodes → ℕ → ℕ → Extent → Outcome → List ℕ → Type 0
Transfers (Read span) old new drive node part outcome buffer =
    ReadsPart old new drive part outcome buffer
Transfers (Write span payload) old new drive node part outcome buffer =
    WritesPiece old new node part (payload_in (Write span payload) part) outcome
    × PutsPart old new node part outcome (payload_in (Write span payload) part)
Transfers (Zero span) old new drive node part outcome buffer =
    ZerosPiece old new node part outcome
    × PutsPart old new node part outcome (replicate part.len 0)
Transfers Flush old new drive node part outcome buffer = FlushesPart old new node outcome
Transfers (Discard span) old new drive node part outcome buffer = ⊥
