-- What the ends of jobs rest on.
use Rattle.std.specs.Prelude.{◌≡◌, ◌≢◌, ℕ, Bool, true, false, find, List, Contains, Some}
use Rattle.blk_graph.specs.declared.edge.Edge.{Edge}
use Rattle.blk_graph.specs.declared.edge.Parent.TheVariants.{Job}
use Rattle.blk_graph.specs.declared.kind.NodeKind.{NodeKind}
use Rattle.blk_graph.specs.Edges.{is_job}
use Rattle.blk_graph.specs.Edits.{is_filters}
use Rattle.blk_graph.specs.Permissions.{perms}
use Rattle.blk_graph.specs.Refreshed.{kind_at, uses_into}
use Rattle.job_edges.specs.Chains.{SharesReads, is_plain, IsReadPlain, is_to_backing, IsBelow}

-- A job's filter over its source, which goes with the job's edges. It asks to write where an edge into it does, and
-- shares writes only where all of these do. All others into both share reads.
pub record HasFilter (edges : List Edge) (filter source job : ℕ) : Type 0 where
  pub own : Edge
  pub found : find (is_filters filter) edges ≡ Some own
  pub leads : own.child ≡ source
  pub apart : filter ≢ source
  pub writes : (uses_into edges filter).perm.write ≡ true → own.perm.write ≡ true
  pub shuts : own.shared.write ≡ true → (uses_into edges filter).shared.write ≡ true
  pub over : (e : Edge) → Contains edges e → e.child ≡ filter → SharesReads e
  pub free : (e : Edge) → Contains edges e → e.child ≡ filter → is_job e.parent ≡ false
  pub beside : (e : Edge) → Contains edges e → e.child ≡ source → is_filters filter e ≡ false → e.parent ≢ Job job → SharesReads e

-- A job's edge to the node that all that uses its source is to use: it reads and writes that, and nobody else does.
pub record HoldsAlone (edges : List Edge) (to job : ℕ) : Type 0 where
  pub edge : Edge
  pub there : Contains edges edge
  pub own : edge.parent ≡ Job job
  pub child : edge.child ≡ to
  pub asks : (edge.perm.read ≡ true) × (edge.perm.write ≡ true)
  pub shuts : (edge.shared.read ≡ false) × (edge.shared.write ≡ false)
  pub beside : (e : Edge) → Contains edges e → e.child ≡ to → e.parent ≢ Job job → SharesReads e

-- as large an edge to a backing node as there is: it reads, and lets nobody write
abbrev pub reading : ℕ → Edge → Edge
reading to edge = record edge {
  child = to;
  perm = perms true false false;
  shared = perms true false true;
}

-- an edge that a reader may stand beside: it lets it read, and doesn't write
pub record IsCalm (edge : Edge) : Type 0 where
  pub read : edge.shared.read ≡ true
  pub writes : edge.perm.write ≡ false

-- From its top the nodes of a chain lead through each other to the base, which is read. All other edges into those below the top
-- are calm, but for the job's. Edges that an end gives to the base, as `given` says, may lead elsewhere.
pub record HoldsChain (kinds : List NodeKind) (edges : List Edge) (given : Edge → Bool) (through : ℕ → Bool) (top base over job : ℕ) : Type 0 where
  pub at_top : through top ≡ true
  pub apart : base ≢ top
  pub plain : (n : ℕ) → through n ≡ true → is_plain (kind_at kinds n).kind ≡ true
  pub read : IsReadPlain kinds edges base
  pub leads : (e : Edge) → Contains edges e → given e ≡ false → is_to_backing through e ≡ true → IsBelow through base e.child
  pub away : (e : Edge) → Contains edges e → given e ≡ false → is_to_backing through e ≡ true → (e.child ≢ top) × (e.child ≢ over)
  pub calm : (e : Edge) → Contains edges e → is_filters over e ≡ false → e.parent ≢ Job job → given e ≡ false → is_to_backing through e ≡ false
      → IsBelow through base e.child → e.child ≢ top → IsCalm e
