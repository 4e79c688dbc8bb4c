-- The look for a node that reaches itself: nodes are clear one after another, each when all that it leads to is.
use Rattle.std.specs.Prelude.{◌≡◌, ℕ, ◌<◌, ◌&&◌, ◌||◌, Bool, true, false, not, List, Contains}
use Rattle.std.specs.List.{list_any}
use Rattle.blk_graph.specs.declared.edge.Edge.{Edge}
use Rattle.blk_graph.specs.declared.edge.Parent.{Parent}
use Rattle.blk_graph.specs.declared.edge.Parent.TheVariants.{Node, Guest, Job}
use Rattle.blk_graph.specs.Edges.{same_parent}
use Rattle.blk_graph.specs.Paths.{Reaches}
use Rattle.blk_graph.specs.Walk.{is_marked}

-- a clear node leads to clear ones alone, and does not reach itself
pub record AreClear (edges : List Edge) (clear : List Bool) : Type 0 where
  pub closed : (edge : Edge) (node : ℕ) → Contains edges edge → edge.parent ≡ Node node
      → is_marked clear node ≡ true
      → is_marked clear edge.child ≡ true
  pub free : (node : ℕ) → is_marked clear node ≡ true → Reaches edges node node → ⊥

-- an edge of a node that leads to one that isn't clear
abbrev pub leads_to_unclear : List Bool → ℕ → Edge → Bool
leads_to_unclear clear node edge =
    same_parent edge.parent (Node node) && not (is_marked clear edge.child)

-- the waiting nodes are those with such an edge
abbrev pub AreWaiting : List Edge → List Bool → List Bool → Type 0
AreWaiting edges clear waiting =
    (node : ℕ) → node < 64 → is_marked waiting node ≡ list_any (leads_to_unclear clear node) edges

-- where one edge more is looked at
abbrev pub ShowsWaiting : List Bool → Edge → List Bool → List Bool → Type 0
ShowsWaiting clear edge old new = (node : ℕ) → node < 64
    → is_marked new node ≡ (leads_to_unclear clear node edge || is_marked old node)

-- the nodes that aren't waiting are clear too
abbrev pub AreCleared : List Bool → List Bool → List Bool → Type 0
AreCleared waiting old new =
    (node : ℕ) → node < 64
    → is_marked new node ≡ (is_marked old node || not (is_marked waiting node))

-- an edge of a node that isn't clear
abbrev pub is_unclear_by : List Bool → Parent → Bool
is_unclear_by clear (Node node) = not (is_marked clear node)
is_unclear_by clear (Guest _) = false
is_unclear_by clear (Job _) = false

abbrev pub is_unclear : List Bool → Edge → Bool
is_unclear clear edge = is_unclear_by clear edge.parent

-- a node leads to one that isn't clear
pub record LeadsToUnclear (edges : List Edge) (clear : List Bool) (node : ℕ) : Type 0 where
  pub edge : Edge
  pub there : Contains edges edge
  pub parent : edge.parent ≡ Node node
  pub unclear_child : is_marked clear edge.child ≡ false

-- each node that isn't clear leads to another, and so on and on
abbrev pub AreStuck : List Edge → List Bool → Type 0
AreStuck edges clear =
    (node : ℕ) → node < 64 → is_marked clear node ≡ false → LeadsToUnclear edges clear node
