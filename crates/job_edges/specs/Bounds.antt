-- A list of edges that bounds another.
use Rattle.std.specs.Prelude.{◌≡◌, ◌⊎◌, List, [], ◌∷◌, Contains}
use Rattle.blk_graph.specs.Edges.{ArePermsWithin}
use Rattle.blk_graph.specs.Refreshed.{uses_into, ruled}
use Rattle.blk_graph.specs.declared.edge.Edge.{Edge}
use Rattle.blk_graph.specs.declared.kind.NodeKind.{NodeKind}

-- an edge asks no more than another of the same ends, and shares no less
pub record IsNoMore (a b : Edge) : Type 0 where
  pub parent : a.parent ≡ b.parent
  pub role : a.role ≡ b.role
  pub child : a.child ≡ b.child
  pub asks : ArePermsWithin a.perm b.perm
  pub shares : ArePermsWithin b.shared a.shared

-- edges of another list in their order, each of them no more
abbrev pub AreNoMore : List Edge → List Edge → Type 0
AreNoMore [] old = Unit {0}
AreNoMore (a ∷ new) [] = ⊥
AreNoMore (a ∷ new) (b ∷ old) = (IsNoMore a b × AreNoMore new old) ⊎ AreNoMore (a ∷ new) old

-- what is derived from the edges is no more than they are
abbrev pub IsBound : List NodeKind → List Edge → Type 0
IsBound kinds edges = (e : Edge) → Contains edges e → IsNoMore (ruled kinds (uses_into edges) e) e
