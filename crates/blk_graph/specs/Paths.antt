-- Paths of edges from node to node.
use Rattle.std.specs.Prelude.{◌≡◌, ◌⊎◌, ℕ, List, [], ◌∷◌, Contains}
use Rattle.blk_graph.specs.declared.edge.Edge.{Edge}
use Rattle.blk_graph.specs.declared.edge.Parent.{Parent}
use Rattle.blk_graph.specs.declared.edge.Parent.TheVariants.{Node, Guest, Job}

-- these edges of the list lead from one node to another, each from where the one before it ended
abbrev pub IsPath : List Edge → ℕ → List Edge → ℕ → Type 0
IsPath edges from [] to = from ≡ to
IsPath edges from (edge ∷ path) to =
    Contains edges edge × (edge.parent ≡ Node from) × IsPath edges edge.child path to

-- a path of one edge or more leads from one node to another
pub record Reaches (edges : List Edge) (from to : ℕ) : Type 0 where
  pub first : Edge
  pub rest : List Edge
  pub path : IsPath edges from (first ∷ rest) to

-- no node reaches itself
abbrev pub IsAcyclic : List Edge → Type 0
IsAcyclic edges = (node : ℕ) → Reaches edges node node → ⊥

-- some node reaches itself
pub record HasCycle (edges : List Edge) : Type 0 where
  pub node : ℕ
  pub cycle : Reaches edges node node

-- the child is the parent or reaches it; guests and jobs are reached by nobody
abbrev pub LeadsBack : List Edge → ℕ → Parent → Type 0
LeadsBack edges child (Node parent) = (child ≡ parent) ⊎ Reaches edges child parent
LeadsBack edges child (Guest _) = ⊥
LeadsBack edges child (Job _) = ⊥
