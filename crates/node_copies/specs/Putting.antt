-- Sectors that are put to a node, run by run, and what that leaves of the nodes.
use Rattle.std.specs.Prelude.{◌≡◌, ◌≢◌, ◌⊎◌, ℕ, ◌-◌, true, List, [], ◌∷◌, All, length, take, slice_index, Result, Ok, Err}
use Rattle.blk_base.specs.Content.{with_bytes}
use Rattle.blk_base.specs.Pieces.{Extent}
use Rattle.blk_base.specs.declared.fault.Fault.{Fault}
use Rattle.blk_base.specs.declared.fault.Fault.TheVariants as faults
use Rattle.blk_base.specs.declared.fault.Outcome.{Outcome}
use Rattle.blk_base.specs.declared.fault.Outcome.TheVariants.{Good, Torn, Io, NoSpace}
use Rattle.blk_nodes.specs.Contents.{disk_of}
use Rattle.blk_nodes.specs.Found.{IsReadOfSource}
use Rattle.blk_nodes.specs.Nodes.{Nodes, AreTold}
use Rattle.blk_nodes.specs.Reading.{HaveRisen, IsReadBelow, ReadsDisk}
use Rattle.blk_nodes.specs.Sources.{source_at}
use Rattle.blk_nodes.specs.Writing.{IsApartFrom, LeavesNodes, WritesPiece, ZerosPiece, taken_by}
use Rattle.node_copies.specs.Sectors.{is_asked, run_bytes, run_span, runs_of}
use Rattle.node_copies.specs.declared.sectors.Run.{Run}

-- all of a block, and its bytes are zeros
abbrev pub IsZeroBlock : Extent → Extent → List ℕ → Type 0
IsZeroBlock block span bytes = (span.len ≡ block.len) × All (λ b. b ≡ 0) bytes

-- One run: its bytes are written; but a whole block of zeros is made to read as zeros, so that a qcow2 node maps its cluster to zeros.
pub record PutsRun (block : Extent) (old new : Nodes) (to : ℕ) (span : Extent) (bytes : List ℕ)
    (outcome : Outcome) : Type 0 where
  pub made : (IsZeroBlock block span bytes × ZerosPiece old new to span outcome)
      ⊎ (¬ IsZeroBlock block span bytes × WritesPiece old new to span bytes outcome)
  pub disk : AreTold old.devices
      → disk_of new to ≡ with_bytes (disk_of old to) span.start (taken_by outcome bytes)
  pub others : (other : ℕ) → IsApartFrom old other to → disk_of new other ≡ disk_of old other
  pub kept : LeavesNodes old new to
  pub told : AreTold old.devices → AreTold new.devices

-- one after another, until one is stopped
abbrev pub PutsRuns : List Run → Extent → Nodes → Nodes → ℕ → List ℕ → Outcome → Type 0
PutsRuns [] block old new to bytes outcome = (new ≡ old) × (outcome ≡ Good)
PutsRuns (run ∷ runs) block old new to bytes outcome =
    (mid : Nodes) × (first : Outcome)
    × PutsRun block old mid to (run_span block run) (run_bytes block bytes run) first
    × (((first ≡ Good) × PutsRuns runs block mid new to bytes outcome)
    ⊎ ((first ≢ Good) × (new ≡ mid) × (outcome ≡ first)))

-- A disk behind that: each place is as it was, or is asked for and has the block's byte; and where all went well each that is asked
-- for has it.
pub record IsPut (block : Extent) (sectors : ℕ) (bytes old new : List ℕ) (done : Type 0) : Type 0
  where
    pub whole : length new ≡ length old
    pub at : (place : ℕ) → (slice_index new place ≡ slice_index old place)
        ⊎ ((is_asked block sectors place ≡ true)
        × (slice_index new place ≡ slice_index bytes (place - block.start)))
    pub all : done → (place : ℕ) → is_asked block sectors place ≡ true
        → slice_index new place ≡ slice_index bytes (place - block.start)

-- the answer of a copy whose write went so
abbrev pub answer_of : Outcome → Result (Unit {0}) Fault
answer_of Good = Ok tt
answer_of (Torn done dev count) = Err (faults.Io dev count)
answer_of (Io dev count) = Err (faults.Io dev count)
answer_of (NoSpace dev) = Err (faults.NoSpace dev)

-- what follows the read of a block
abbrev pub CopiesBehind : Outcome → Nodes → Nodes → ℕ → Extent → ℕ → List ℕ
    → Result (Unit {0}) Fault → Type 0
CopiesBehind Good old new to block sectors bytes result =
    (wrote : Outcome) × PutsRuns (runs_of block sectors) block old new to bytes wrote
    × (result ≡ answer_of wrote)
CopiesBehind read old new to block sectors bytes result = (new ≡ old) × (result ≡ answer_of read)

-- Sectors of a block are copied from one node to another: the block is read, and they are put.
pub record CopiesBlock (old new : Nodes) (from to : ℕ) (block : Extent) (sectors : ℕ)
    (result : Result (Unit {0}) Fault) : Type 0 where
  pub read : Outcome
  pub bytes : List ℕ
  pub between : Nodes
  pub went : IsReadBelow old between from read
  pub source : IsReadOfSource old.rows (source_at old from block.start) block old.devices
      between.devices read
  pub kept : between ≡ record old { devices = between.devices }
  pub risen : HaveRisen old.devices between.devices
  pub found : AreTold old.devices → ReadsDisk read (disk_of old from) block bytes
  pub behind : CopiesBehind read between new to block sectors bytes result

-- A block of a node's disk is read to the front of a buffer.
pub record ReadsBlock (old new : Nodes) (from : ℕ) (block : Extent) (buffer : List ℕ)
    (read : Outcome) : Type 0 where
  pub went : IsReadBelow old new from read
  pub source : IsReadOfSource old.rows (source_at old from block.start) block old.devices
      new.devices read
  pub kept : new ≡ record old { devices = new.devices }
  pub risen : HaveRisen old.devices new.devices
  pub found : AreTold old.devices → ReadsDisk read (disk_of old from) block (take block.len buffer)
