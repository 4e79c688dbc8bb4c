-- Who makes an edge, what it is for, and what it asks and shares.
use Rattle.std.specs.Prelude.{◌≡◌, ◌≢◌, ◌==◌, ◌<◌, Bool, true, false, List, AllPairs, Contains, IsTrue}
use Rattle.blk_graph.specs.declared.edge.Parent.{Parent}
use Rattle.blk_graph.specs.declared.edge.Parent.TheVariants.{Node, Guest, Job}
use Rattle.blk_graph.specs.declared.edge.Role.{Role}
use Rattle.blk_graph.specs.declared.edge.Role.TheVariants.{Drive, File, Backing, Filtered, Source, Target, Between, Base}
use Rattle.blk_graph.specs.declared.edge.Edge.{Edge}
use Rattle.blk_graph.specs.declared.edge.Perms.{Perms}
use Rattle.blk_graph.specs.declared.edge.Perm.{Perm}
use Rattle.blk_graph.specs.declared.edge.Perm.TheVariants.{Read, Write, Unchanged}

-- whether both are the same node, guest or job
abbrev pub same_parent : Parent → Parent → Bool
same_parent (Node a) (Node b) = a == b
same_parent (Guest a) (Guest b) = a == b
same_parent (Job a) (Job b) = a == b
same_parent _ _ = false

abbrev pub is_job : Parent → Bool
is_job (Job _) = true
is_job _ = false

-- whether both are the same role
abbrev pub same_role : Role → Role → Bool
same_role Drive Drive = true
same_role File File = true
same_role Backing Backing = true
same_role Filtered Filtered = true
same_role Source Source = true
same_role Target Target = true
same_role Between Between = true
same_role Base Base = true
same_role _ _ = false

-- of one parent no two edges have the same role, but of the role Between, and those lead to different children
abbrev pub DifferInPlace : Edge → Edge → Type 0
DifferInPlace a b = a.parent ≡ b.parent → a.role ≡ b.role → (a.role ≡ Between) × (a.child ≢ b.child)

-- whether a permission is one of these
abbrev pub has_perm : Perms → Perm → Bool
has_perm perms Read = perms.read
has_perm perms Write = perms.write
has_perm perms Unchanged = perms.unchanged

-- each permission that is asked is shared
abbrev pub ArePermsWithin : Perms → Perms → Type 0
ArePermsWithin asked shared =
    (perm : Perm) → IsTrue (has_perm asked perm) → IsTrue (has_perm shared perm)

-- a node has its file, its backing node and what it filters, a guest its drive, and a job all the others
abbrev pub may_have : Parent → Role → Bool
may_have (Node _) File = true
may_have (Node _) Backing = true
may_have (Node _) Filtered = true
may_have (Guest _) Drive = true
may_have (Job _) Source = true
may_have (Job _) Target = true
may_have (Job _) Between = true
may_have (Job _) Base = true
may_have _ _ = false

-- nodes have numbers below 64, guests below 80, jobs below 16
abbrev pub HasNumber : Parent → Type 0
HasNumber (Node node) = node < 64
HasNumber (Guest guest) = guest < 80
HasNumber (Job job) = job < 16

-- an edge that may stand in a list
pub record MayStand (edge : Edge) : Type 0 where
  pub role : may_have edge.parent edge.role ≡ true
  pub number : HasNumber edge.parent
  pub child : edge.child < 64

-- What is true of every list of edges. So it has 1,344 at most: three of each node, one of each guest, and of each job three
-- and one of the role Between to each node.
pub record IsListed (edges : List Edge) : Type 0 where
  pub each : (edge : Edge) → Contains edges edge → MayStand edge
  pub places : AllPairs DifferInPlace edges
