-- What edits of a draft keep, so that it can be judged and taken for a graph's edges.
use Rattle.std.specs.Prelude.{◌≡◌, ℕ, Bool, false, List, IsTrue}
use Rattle.blk_graph.specs.declared.edge.Edge.{Edge}
use Rattle.blk_graph.specs.declared.edge.Parent.{Parent}
use Rattle.blk_graph.specs.declared.edge.Role.{Role}
use Rattle.blk_graph.specs.Edits.{child_of}
use Rattle.blk_graph.specs.Graph.{Graph, IsFit}
use Rattle.blk_graph.specs.Paths.{IsAcyclic}
use Rattle.blk_graph.specs.Refreshed.{kind_at, refreshed}
use Rattle.blk_graph.specs.Rule.{KeepsPermissions}
use Rattle.blk_graph.specs.declared.kind.NodeKind.{NodeKind}

-- edges that fit a graph still do
abbrev pub KeepsFit : List Edge → List Edge → Type 0
KeepsFit old new = (graph : Graph) → IsFit graph old → IsFit graph new

-- no node reaches itself that didn't before
abbrev pub KeepsAcyclic : List Edge → List Edge → Type 0
KeepsAcyclic old new = IsAcyclic old → IsAcyclic new

-- each parent has its child of each role as before, but of those that may be changed
abbrev pub KeepsChildren : (Parent → Role → Bool) → List Edge → List Edge → Type 0
KeepsChildren may_change old new = (parent : Parent) (role : Role) → may_change parent role ≡ false
    → child_of parent role new ≡ child_of parent role old

-- where what is derived from the old list keeps the permission rule, so does what is derived from the new one
abbrev pub KeepsRule : List Edge → List Edge → Type 0
KeepsRule old new =
    (kinds : List NodeKind) → KeepsPermissions (refreshed kinds old)
    → KeepsPermissions (refreshed kinds new)

-- each node is what it was, and is written only where it was before
pub record WriteLess (old new : List NodeKind) : Type 0 where
  pub kind : (node : ℕ) → (kind_at new node).kind ≡ (kind_at old node).kind
  pub writes : (node : ℕ) → IsTrue (kind_at new node).writes → IsTrue (kind_at old node).writes
