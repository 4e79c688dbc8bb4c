-- Why an addition that the table accepts isn't refused by the nodes.
use Rattle.std.proofs.Common.{◌≡◌, ◌↔◌, ℕ, List, [], ◌∷◌, ◌++◌, length, set, Some, None, inl, inr, sym, ◌∙◌, subst, arith}
use Rattle.std.specs.Prelude.{Err, IfErr, Result}
use Rattle.std.proofs.lemmas.Bool.{cases_lt}
use Rattle.blk_graph.specs.declared.edge.Conflict.{Conflict as Pair}
use Rattle.blk_graph.specs.declared.edge.Edge.{Edge}
use Rattle.blk_graph.specs.declared.kind.NodeKind.{NodeKind}
use Rattle.blk_graph.specs.Graph.{HasName, ids}
use Rattle.blk_graph.specs.Ids.{IsLowestFree}
use Rattle.blk_graph.specs.Refreshed.{refreshed}
use Rattle.blk_graph.specs.Rule.{first_conflict}
use Rattle.blk_nodes.specs.Adding.{IsAllowed, IsDenied, IsOverStop}
use Rattle.blk_nodes.specs.Nodes.{Nodes}
use Rattle.blk_nodes.specs.Overlays.{HasRoomForNode}
use Rattle.blk_nodes.specs.declared.stop.AddStop.{AddStop}
use Rattle.blk_nodes.specs.declared.stop.AddStop.TheVariants.{NameTaken, TooManyNodes, Conflict, Image, BackingNeeded, SizeDiffers, NoMemory}

-- the lowest free id is one
pub lowest-same : (taken : List ℕ) (a b : ℕ) → IsLowestFree taken a → IsLowestFree taken b → a ≡ b
lowest-same taken a b la lb = elim (cases_lt a b) [
  | inl less ↦ absurd (la.free (lb.lowest a less))
  | inr most ↦ elim (cases_lt b a) [
    | inl less ↦ absurd (lb.free (la.lowest b less))
    | inr more ↦ omega (arith, most, more)
  ]
]

-- edges that are allowed aren't denied
pub allowed-denied : (nodes : Nodes) (kind : NodeKind) (edges : ℕ → List Edge → List Edge) (pair : Pair) → IsAllowed nodes kind edges → IsDenied nodes kind edges pair → ⊥
allowed-denied nodes kind edges pair allowed denied =
    let same : allowed.id ≡ denied.id = lowest-same (ids nodes.graph) allowed.id denied.id allowed.lowest denied.lowest in
    let none = subst (λ (id : ℕ). first_conflict (ids nodes.graph ++ id ∷ []) (refreshed (set nodes.graph.kinds id kind) (edges id nodes.graph.edges)) ≡ None) same allowed.first in
    let bad : Some pair ≡ None = sym denied.first ∙ none in
    cc bad

-- A node whose name is free, for which there is room and whose edges are allowed is added.
pub over-added : (nodes : Nodes) (name : List ℕ) (kind : NodeKind) (edges : ℕ → List Edge → List Edge) (result : Result ℕ AddStop) (stop : AddStop)
    → HasRoomForNode nodes name → IsAllowed nodes kind edges
    → ((result ≡ Err NameTaken) ↔ HasName nodes.graph name)
    → ((result ≡ Err TooManyNodes) ↔ ((length nodes.graph.nodes ≡ 64) × ¬ HasName nodes.graph name))
    → ((pair : Pair) → result ≡ Err (Conflict pair) → IsDenied nodes kind edges pair) → IfErr result IsOverStop → result ≡ Err stop → ⊥
over-added nodes name kind edges result NameTaken place allowed taken full denied only is = place.free (taken.0 is)
over-added nodes name kind edges result TooManyNodes place allowed taken full denied only is = place.room (full.0 is).0
over-added nodes name kind edges result (Conflict pair) place allowed taken full denied only is =
    allowed-denied nodes kind edges pair allowed (denied pair is)
over-added nodes name kind edges result (Image cause) place allowed taken full denied only is = rw is at only
over-added nodes name kind edges result BackingNeeded place allowed taken full denied only is = rw is at only
over-added nodes name kind edges result SizeDiffers place allowed taken full denied only is = rw is at only
over-added nodes name kind edges result NoMemory place allowed taken full denied only is = rw is at only
