-- The edges of jobs: which nodes they hold, and how.
use Rattle.std.specs.Prelude.{◌≡◌, ◌≢◌, ℕ, Bool, true, false, find, List, Contains, Some}
use Rattle.blk_graph.specs.declared.edge.Edge.{Edge}
use Rattle.blk_graph.specs.declared.edge.Parent.TheVariants.{Node, Job}
use Rattle.blk_graph.specs.declared.edge.Role.TheVariants.{Backing, Filtered}
use Rattle.blk_graph.specs.declared.kind.Kind.{Kind}
use Rattle.blk_graph.specs.declared.kind.Kind.TheVariants.{BeforeWrite, Mirror, Commit}
use Rattle.blk_graph.specs.declared.kind.NodeKind.{NodeKind}
use Rattle.blk_graph.specs.Edges.{is_job, IsListed}
use Rattle.blk_graph.specs.Edits.{is_filters}
use Rattle.blk_graph.specs.Paths.{Reaches, IsAcyclic}
use Rattle.blk_graph.specs.Refreshed.{kind_at, IsByTable, IsRefreshed}
use Rattle.blk_graph.specs.Rule.{KeepsPermissions}
use Rattle.job_edges.specs.Chains.{is_plain, is_to_backing, IsBelow, IsReadPlain}
use Rattle.job_edges.specs.Kinds.{is_open, is_hidden, FiltersStand}

-- The edges of a graph, which ask and share what they are to by those into their parents: no cycle, the rule on permissions,
-- and nothing over filters but what may be.
pub record EdgesStand (kinds : List NodeKind) (edges : List Edge) : Type 0 where
  pub listed : IsListed edges
  pub acyclic : IsAcyclic edges
  pub table : (e : Edge) → Contains edges e → IsByTable kinds e
  pub refreshed : IsRefreshed kinds edges
  pub rule : KeepsPermissions edges
  pub filters : FiltersStand kinds edges

-- one job alone leads to the node
abbrev pub IsOneJobs : List Edge → ℕ → ℕ → Type 0
IsOneJobs edges node job =
    (e : Edge) → Contains edges e → e.child ≡ node → is_job e.parent ≡ true → e.parent ≡ Job job

-- The job's edge into the node lets nobody read that: so with a target, and with the nodes of a commit below its top. No
-- filter of a commit is over it.
pub record IsUnread (kinds : List NodeKind) (edges : List Edge) (node job : ℕ) : Type 0 where
  pub edge : Edge
  pub there : Contains edges edge
  pub own : edge.parent ≡ Job job
  pub child : edge.child ≡ node
  pub shut : edge.shared.read ≡ false
  pub alone : IsOneJobs edges node job
  pub seen : (e : Edge) → Contains edges e → e.child ≡ node → is_hidden kinds e ≡ false

abbrev pub is_job_filter : Kind → Bool
is_job_filter BeforeWrite = true
is_job_filter Mirror = true
is_job_filter Commit = true
is_job_filter kind = false

-- the filter of a backup or mirror, which always reads
abbrev pub is_copiers : Kind → Bool
is_copiers BeforeWrite = true
is_copiers Mirror = true
is_copiers kind = false

-- A job's filter over its source, a node that is no filter: no format node is over that by its file, and no other job leads
-- to it.
pub record FilterStands (kinds : List NodeKind) (edges : List Edge) (filter source job : ℕ)
    : Type 0 where
  pub own : Edge
  pub found : find (is_filters filter) edges ≡ Some own
  pub leads : own.child ≡ source
  pub apart : filter ≢ source
  pub sole : (e : Edge) → Contains edges e → e.parent ≡ Node filter → e.role ≡ Filtered
  pub kind : is_job_filter (kind_at kinds filter).kind ≡ true
  pub plain : is_plain (kind_at kinds source).kind ≡ true
  pub alone : IsOneJobs edges source job
  pub free : (e : Edge) → Contains edges e → e.child ≡ source → is_job e.parent ≡ false
      → is_open kinds e ≡ true

-- A job's edge into the node that all that uses its source is to use: by it the job reads and writes what nobody else does.
-- The node doesn't lead to the source.
pub record TargetStands (kinds : List NodeKind) (edges : List Edge) (target source job : ℕ)
    : Type 0 where
  pub held : IsUnread kinds edges target job
  pub asks : (held.edge.perm.read ≡ true) × (held.edge.perm.write ≡ true)
  pub shut : held.edge.shared.write ≡ false
  pub plain : is_plain (kind_at kinds target).kind ≡ true
  pub apart : Reaches edges target source → ⊥

-- a node with a backing node
pub record HasBacking (edges : List Edge) (node : ℕ) : Type 0 where
  pub edge : Edge
  pub there : Contains edges edge
  pub parent : edge.parent ≡ Node node
  pub role : edge.role ≡ Backing

-- What the nodes of a commit have as backing nodes is one of them or the base: all below the top nobody else reads, and the
-- job reads the base.
pub record CommitStands (kinds : List NodeKind) (edges : List Edge) (through : ℕ → Bool)
    (top base filter job : ℕ) : Type 0 where
  pub at_top : through top ≡ true
  pub apart : base ≢ top
  pub plain : (n : ℕ) → through n ≡ true → is_plain (kind_at kinds n).kind ≡ true
  pub read : IsReadPlain kinds edges base
  pub leads : (e : Edge) → Contains edges e → is_to_backing through e ≡ true
      → IsBelow through base e.child
  pub away : (e : Edge) → Contains edges e → is_to_backing through e ≡ true → (e.child ≢ top)
      × (e.child ≢ filter)
  pub unread : (n : ℕ) → IsBelow through base n → n ≢ top → IsUnread kinds edges n job

-- A stream's edge to its base: by it that is read, and nobody writes it.
pub record StreamStands (kinds : List NodeKind) (edges : List Edge) (top base job : ℕ)
    : Type 0 where
  pub apart : base ≢ top
  pub plain : (is_plain (kind_at kinds top).kind ≡ true)
      × (is_plain (kind_at kinds base).kind ≡ true)
  pub edge : Edge
  pub there : Contains edges edge
  pub own : edge.parent ≡ Job job
  pub child : edge.child ≡ base
  pub reads : edge.perm.read ≡ true
  pub shut : edge.shared.write ≡ false
