-- What holds of the table while jobs run, so that each of them can end.
use Rattle.std.specs.Prelude.{◌≡◌, ◌≢◌, ◌<◌, ℕ, true, List, [], ◌∷◌, ◌++◌, Contains, Option, Some, None}
use Rattle.blk_graph.specs.declared.edge.Edge.{Edge}
use Rattle.blk_graph.specs.declared.edge.Parent.TheVariants.{Job}
use Rattle.blk_graph.specs.declared.edge.Role.TheVariants.{Backing}
use Rattle.blk_graph.specs.declared.kind.Kind.{Kind}
use Rattle.blk_graph.specs.declared.kind.Kind.TheVariants as driver
use Rattle.blk_graph.specs.Edges.{IsListed}
use Rattle.blk_graph.specs.Refreshed.{IsByTable, IsRefreshed}
use Rattle.blk_graph.specs.Rule.{KeepsPermissions}
use Rattle.qmp_codec.specs.declared.event.JobKind.{JobKind}
use Rattle.qmp_codec.specs.declared.event.JobKind.TheVariants.{Stream, Commit, Mirror, Backup}
use Rattle.qmp_rules.specs.declared.rows.NodeRecord.{NodeRecord}
use Rattle.qmp_rules.specs.declared.rows.JobRecord.{JobRecord}
use Rattle.qmp_rules.specs.Table.{RunTable, child, kinds_of}
use Rattle.flat_machine.specs.Suiting.{IsPlainNode}
use Rattle.job_edges.specs.Copies.{AreApart}
use Rattle.job_edges.specs.Held.{is_job_filter}
use Rattle.job_tables.specs.Rows.{edges_of_job, nodes_of_job, AreLinked, HasFilterOf, mirrors}

-- ---- a job, by its kind

-- A backup or mirror has a filter over its source, and holds that and its target, another node.
pub record CopyStands (t : RunTable) (row : JobRecord) (kind : Kind) : Type 0 where
  pub filter : HasFilterOf t row kind
  pub target : ℕ
  pub is_target : row.target ≡ Some target
  pub held : row.held ≡ row.source ∷ target ∷ []
  pub read : row.read ≡ []
  pub other : target ≢ row.source

-- the overlay over the top of an inner commit has the commit's filter as its backing node
abbrev pub IsOverFilter : RunTable → List ℕ → Option ℕ → Type 0
IsOverFilter t [] filter = Unit {0}
IsOverFilter t (overlay ∷ ids) filter = (child t overlay Backing ≡ filter) × (ids ≡ [])

-- A commit has a filter over its top, and holds the chain from there to its base.
pub record CommitJobStands (t : RunTable) (row : JobRecord) : Type 0 where
  pub filter : HasFilterOf t row driver.Commit
  pub base : ℕ
  pub is_base : row.target ≡ Some base
  pub between : List ℕ
  pub held : row.held ≡ row.source ∷ between ++ base ∷ []
  pub linked : AreLinked t row.source (between ++ base ∷ [])
  pub overlay : IsOverFilter t row.read row.filter

-- A stream to a base reads the chain from below its top to that, and has no filter. What its top
-- has as its backing node it reads, with a base or without.
pub record ReadsTo (t : RunTable) (row : JobRecord) (base : ℕ) : Type 0 where
  pub between : List ℕ
  pub read : row.read ≡ between ++ base ∷ []
  pub linked : AreLinked t row.source (between ++ base ∷ [])

pub record StreamJobStands (t : RunTable) (row : JobRecord) : Type 0 where
  pub bare : row.filter ≡ None
  pub held : row.held ≡ row.source ∷ []
  pub reads : (base : ℕ) → row.target ≡ Some base → ReadsTo t row base
  pub below : (node : ℕ) → child t row.source Backing ≡ Some node → Contains row.read node

abbrev pub StandsByKind : RunTable → JobRecord → JobKind → Type 0
StandsByKind t row Stream = StreamJobStands t row
StandsByKind t row Commit = CommitJobStands t row
StandsByKind t row Mirror = CopyStands t row driver.Mirror
StandsByKind t row Backup = CopyStands t row driver.BeforeWrite

-- ---- a job

pub record JobStands (t : RunTable) (row : JobRecord) : Type 0 where
  pub slot : row.slot < 16
  pub plain : (node : ℕ) → Contains (nodes_of_job row) node → IsPlainNode t node
  pub edges : (edge : Edge) → Contains (edges_of_job row) edge → Contains t.edges edge
  pub shape : StandsByKind t row row.kind

-- ---- all jobs

-- no two have the same slot, nor the same number
abbrev pub HaveDistinctNumbers : RunTable → Type 0
HaveDistinctNumbers t = (a b : JobRecord) → Contains t.jobs a → Contains t.jobs b
    → a.number ≡ b.number
    → a ≡ b

abbrev pub HaveDistinctSlots : RunTable → Type 0
HaveDistinctSlots t = (a b : JobRecord) → Contains t.jobs a → Contains t.jobs b → a.slot ≡ b.slot
    → a ≡ b

-- an edge of a job is one of a row's
pub record IsEdgeOfRow (t : RunTable) (edge : Edge) : Type 0 where
  pub row : JobRecord
  pub there : Contains t.jobs row
  pub own : Contains (edges_of_job row) edge

abbrev pub EdgesAreOfRows : RunTable → Type 0
EdgesAreOfRows t = (edge : Edge) (slot : ℕ) → Contains t.edges edge → edge.parent ≡ Job slot
    → IsEdgeOfRow t edge

-- what one job holds for itself no other holds, nor reads
abbrev pub HoldApart : RunTable → Type 0
HoldApart t = (a b : JobRecord) (node : ℕ) → Contains t.jobs a → Contains t.jobs b
    → Contains a.held node → Contains (nodes_of_job b) node → a.slot ≡ b.slot

-- a filter of a job's kind is the filter of a job of that kind
abbrev pub filter_kind : JobKind → Option Kind
filter_kind Stream = None
filter_kind Commit = Some driver.Commit
filter_kind Mirror = Some driver.Mirror
filter_kind Backup = Some driver.BeforeWrite

pub record IsFilterOfRow (t : RunTable) (node : NodeRecord) : Type 0 where
  pub row : JobRecord
  pub there : Contains t.jobs row
  pub filter : row.filter ≡ Some node.id
  pub kind : filter_kind row.kind ≡ Some node.kind

abbrev pub FiltersAreOfRows : RunTable → Type 0
FiltersAreOfRows t =
    (node : NodeRecord) → Contains t.nodes node → is_job_filter node.kind ≡ true
    → IsFilterOfRow t node

-- Each job stands, with edges and a filter of its own, apart from the others. No mirror's target leads to its own source, or
-- to that of a mirror that began before it.
pub record JobsStand (t : RunTable) : Type 0 where
  pub each : (row : JobRecord) → Contains t.jobs row → JobStands t row
  pub slots : HaveDistinctSlots t
  pub numbers : HaveDistinctNumbers t
  pub edges : EdgesAreOfRows t
  pub apart : HoldApart t
  pub filters : FiltersAreOfRows t
  pub copies : AreApart t.edges (mirrors t.jobs)

-- ---- edges that a graph may have

-- They may stand in a list, are of the table of permissions, ask and share what they are to, and keep the rule on
-- permissions.
pub record EdgesAreDrawn (t : RunTable) : Type 0 where
  pub listed : IsListed t.edges
  pub table : (edge : Edge) → Contains t.edges edge → IsByTable (kinds_of t.nodes) edge
  pub refreshed : IsRefreshed (kinds_of t.nodes) t.edges
  pub rule : KeepsPermissions t.edges
