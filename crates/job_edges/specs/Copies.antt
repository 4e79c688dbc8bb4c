-- The mirrors of a table.
use Rattle.std.specs.Prelude.{◌≢◌, ℕ, List, [], ◌∷◌, Contains}
use Rattle.blk_graph.specs.declared.edge.Edge.{Edge}
use Rattle.blk_graph.specs.Paths.{Reaches}

-- what a mirror copies, and where to
pub record Copied : Type 0 where
  pub source : ℕ
  pub target : ℕ

-- In the order of starts: no target leads to its own source, or to that of one that began before.
abbrev pub IsApartFrom : List Edge → Copied → Copied → Type 0
IsApartFrom edges m x = (Reaches edges x.target m.source → ⊥) × (x.target ≢ m.source)

abbrev pub AreApart : List Edge → List Copied → Type 0
AreApart edges [] = Unit {0}
AreApart edges (m ∷ later) =
    ((x : Copied) → Contains (m ∷ later) x → IsApartFrom edges m x) × AreApart edges later
