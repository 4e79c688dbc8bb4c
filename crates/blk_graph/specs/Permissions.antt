-- The table of permissions: what each edge asks of its child and lets other edges into that child ask, a line for each kind
-- of edge.
use Rattle.std.specs.Prelude.{◌≡◌, ℕ, Bool, true, false, not, Option, Some, None}
use Rattle.blk_graph.specs.declared.edge.Edge.{Edge}
use Rattle.blk_graph.specs.declared.edge.Parent.TheVariants.{Node, Guest, Job}
use Rattle.blk_graph.specs.declared.edge.Perms.{Perms}
use Rattle.blk_graph.specs.declared.edge.Role.{Role}
use Rattle.blk_graph.specs.declared.edge.Role.TheVariants.{Drive, File, Backing, Filtered, Source, Target, Between, Base}
use Rattle.blk_graph.specs.declared.edge.Uses.{Uses}
use Rattle.blk_graph.specs.declared.kind.Kind.{Kind}
use Rattle.blk_graph.specs.declared.kind.Kind.TheVariants.{Raw, Qcow2, CopyOnRead, BeforeWrite, Mirror, Commit}
use Rattle.blk_graph.specs.declared.kind.NodeKind.{NodeKind}
use Rattle.blk_graph.specs.declared.kind.JobUse.{JobUse}
use Rattle.blk_graph.specs.declared.kind.JobUse.TheVariants.{CopyTarget, CommitTop, CommitBetween, CommitBase, StreamTop, StreamBelow}

-- reading, writing, and that the bytes stay unchanged
abbrev pub perms : Bool → Bool → Bool → Perms
perms read write unchanged = record { read = read; write = write; unchanged = unchanged }

-- what is asked, and what is shared
abbrev pub asks_shares : Perms → Perms → Uses
asks_shares perm shared = record { perm = perm; shared = shared }

-- nothing is asked, and all is shared
abbrev pub idle_uses : Uses
idle_uses = asks_shares (perms false false false) (perms true true true)

-- a guest's drive, by whether it writes and lets others write
abbrev pub drive_uses : Bool → Bool → Uses
drive_uses writes share_rw = asks_shares (perms true writes false) (perms true share_rw true)

-- A node's own edge, by whether the node may be written and by what the edges into it ask together and all share. An edge
-- of another role asks and shares what was set.
abbrev pub derived_uses : Kind → Role → Bool → Uses → Option Uses
derived_uses Raw File writes above =
    Some (asks_shares (perms true writes false) (perms true false false))
derived_uses Qcow2 File writes above =
    Some (asks_shares (perms true writes false) (perms true false false))
derived_uses Qcow2 Backing writes above =
    Some (asks_shares (perms above.perm.read false false) (perms true (not above.perm.read) true))
derived_uses CopyOnRead File writes above =
    Some (asks_shares (perms above.perm.read above.perm.write true) above.shared)
derived_uses BeforeWrite Filtered writes above =
    Some (asks_shares (perms true above.perm.write above.perm.unchanged) (perms true false true))
derived_uses Mirror Filtered writes above =
    Some (asks_shares (perms true above.perm.write above.perm.unchanged) (perms true false true))
derived_uses Commit Filtered writes above =
    Some (asks_shares (perms false above.perm.write above.perm.unchanged) above.shared)
derived_uses _ _ writes above = None

-- the roles of a node's edges
abbrev pub has_role : Kind → Role → Bool
has_role Raw File = true
has_role Qcow2 File = true
has_role Qcow2 Backing = true
has_role CopyOnRead File = true
has_role BeforeWrite Filtered = true
has_role Mirror Filtered = true
has_role Commit Filtered = true
has_role _ _ = false

abbrev pub uses_by : NodeKind → Role → Uses → Option Uses
uses_by node role above = derived_uses node.kind role node.writes above

-- a job's edges
abbrev pub job_uses : JobUse → Uses
job_uses CopyTarget = asks_shares (perms true true false) (perms false false false)
job_uses CommitTop = asks_shares (perms false false false) (perms true true true)
job_uses CommitBetween = asks_shares (perms false false false) (perms false true true)
job_uses CommitBase = asks_shares (perms true true false) (perms false false true)
job_uses StreamTop = asks_shares (perms false false true) (perms true true true)
job_uses StreamBelow = asks_shares (perms true false false) (perms true false true)

abbrev pub job_role : JobUse → Role
job_role CopyTarget = Target
job_role CommitTop = Source
job_role CommitBetween = Between
job_role CommitBase = Base
job_role StreamTop = Source
job_role StreamBelow = Between

-- the edge of a guest's drive
abbrev pub drive_edge : ℕ → ℕ → Bool → Bool → Edge
drive_edge guest node writes share_rw = record {
  parent = Guest guest;
  role = Drive;
  child = node;
  perm = (drive_uses writes share_rw).perm;
  shared = (drive_uses writes share_rw).shared;
}

-- a job's edge
abbrev pub job_edge : ℕ → JobUse → ℕ → Edge
job_edge job what node = record {
  parent = Job job;
  role = job_role what;
  child = node;
  perm = (job_uses what).perm;
  shared = (job_uses what).shared;
}

-- a node's edge as it is put, before what it asks and shares is derived
abbrev pub node_edge : ℕ → Role → ℕ → Edge
node_edge parent role child = record {
  parent = Node parent;
  role = role;
  child = child;
  perm = idle_uses.perm;
  shared = idle_uses.shared;
}

-- an edge is that of a guest's drive
pub record IsDrive (edge : Edge) : Type 0 where
  pub guest : ℕ
  pub writes : Bool
  pub share_rw : Bool
  pub is : edge ≡ drive_edge guest edge.child writes share_rw

-- an edge is that of a job that uses a node so
pub record IsOfJob (edge : Edge) : Type 0 where
  pub job : ℕ
  pub what : JobUse
  pub is : edge ≡ job_edge job what edge.child
