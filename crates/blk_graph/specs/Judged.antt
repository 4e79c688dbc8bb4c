-- What an edit of the edges answers.
use Rattle.std.specs.Prelude.{◌≡◌, ◌≢◌, ◌↔◌, ℕ, List, Result, Ok, Err, Option, Some, None, IsOk, IfErr, filter, find, not, ◌==◌, slice_set, Contains}
use Rattle.std.specs.Option.{option_map}
use Rattle.blk_graph.specs.declared.edge.Edge.{Edge}
use Rattle.blk_graph.specs.declared.edge.Conflict.{Conflict as Pair}
use Rattle.blk_graph.specs.declared.edge.Parent.{Parent}
use Rattle.blk_graph.specs.declared.edge.Parent.TheVariants.{Node}
use Rattle.blk_graph.specs.Edits.{without_parent}
use Rattle.blk_graph.specs.declared.stop.GraphStop.{GraphStop}
use Rattle.blk_graph.specs.declared.stop.GraphStop.TheVariants.{NameTaken, Cycle, Conflict, TooManyNodes}
use Rattle.blk_graph.specs.declared.kind.NodeKind.{NodeKind}
use Rattle.blk_graph.specs.Graph.{NodeRow, Graph}
use Rattle.blk_graph.specs.Refreshed.{refreshed, no_kind}
use Rattle.blk_graph.specs.Paths.{Reaches, HasCycle, IsAcyclic}
use Rattle.blk_graph.specs.Rule.{KeepsPermissions, first_conflict}

abbrev pub IsEditStop : GraphStop → Type 0
IsEditStop Cycle = Unit {0}
IsEditStop (Conflict _) = Unit {0}
IsEditStop _ = ⊥

-- each edge leads to one of these nodes
abbrev pub LeadTo : List ℕ → List Edge → Type 0
LeadTo nodes edges = (edge : Edge) → Contains edges edge → Contains nodes edge.child

-- The edited list is refused where it has a cycle, else where the list that is derived from it breaks the permission rule, and
-- then with the first broken pair. Any other is taken, and nothing else is answered.
pub record IsJudged (nodes : List ℕ) (kinds : List NodeKind) (edited : List Edge)
    (result : Result (Unit {0}) GraphStop) : Type 0 where
  pub cycle : (result ≡ Err Cycle) ↔ HasCycle edited
  pub conflict : (pair : Pair) → (result ≡ Err (Conflict pair))
      ↔ (IsAcyclic edited × (first_conflict nodes (refreshed kinds edited) ≡ Some pair))
  pub ok : IsOk result ↔ (IsAcyclic edited × KeepsPermissions (refreshed kinds edited))
  pub only : IfErr result IsEditStop

-- The same whichever nodes the edges lead to: a list is taken where no pair into one of these nodes breaks the rule.
pub record IsSettled (nodes : List ℕ) (kinds : List NodeKind) (edited : List Edge)
    (result : Result (Unit {0}) GraphStop) : Type 0 where
  pub cycle : (result ≡ Err Cycle) ↔ HasCycle edited
  pub conflict : (pair : Pair) → (result ≡ Err (Conflict pair))
      ↔ (IsAcyclic edited × (first_conflict nodes (refreshed kinds edited) ≡ Some pair))
  pub ok : IsOk result ↔ (IsAcyclic edited × (first_conflict nodes (refreshed kinds edited) ≡ None))
  pub only : IfErr result IsEditStop

-- nothing leads to the overlay, which is another node than this one and doesn't lead to it
pub record IsOverlayApart (edges : List Edge) (node overlay : ℕ) : Type 0 where
  pub differ : overlay ≢ node
  pub unused : (edge : Edge) → Contains edges edge → edge.child ≢ overlay
  pub away : Reaches edges overlay node → ⊥

-- the same of the derived list of an edited one without cycles
abbrev pub IsRuled : List ℕ → List Edge → Result (Unit {0}) GraphStop → Type 0
IsRuled nodes edges (Ok done) = first_conflict nodes edges ≡ None
IsRuled nodes edges (Err (Conflict pair)) = first_conflict nodes edges ≡ Some pair
IsRuled nodes edges (Err _) = ⊥

-- the graph with an edited list, from which what nodes' edges ask and share is derived
abbrev pub with_edges : Graph → List Edge → Graph
with_edges graph edited = record graph { edges = refreshed graph.kinds edited }

-- the graph where the nodes are these, by which its edges are derived
abbrev pub with_kinds : Graph → List NodeKind → Graph
with_kinds graph kinds = record graph { kinds = kinds; edges = refreshed kinds graph.edges }

-- an addition is refused for these alone
abbrev pub IsAdditionStop : GraphStop → Type 0
IsAdditionStop NameTaken = Unit {0}
IsAdditionStop TooManyNodes = Unit {0}
IsAdditionStop _ = ⊥

-- the parent of the first edge into a node
abbrev pub first_parent : ℕ → List Edge → Option Parent
first_parent node edges = option_map (λ edge. edge.parent) (find (λ edge. edge.child == node) edges)

-- the nodes but one
abbrev pub other_nodes : ℕ → List NodeRow → List NodeRow
other_nodes node nodes = filter (λ row. not (row.id == node)) nodes

-- a node is gone, with the edges that it makes
abbrev pub without_node : ℕ → Graph → Graph
without_node node graph = record {
  nodes = other_nodes node graph.nodes;
  kinds = slice_set graph.kinds node no_kind;
  edges = refreshed graph.kinds (without_parent (Node node) graph.edges);
}
