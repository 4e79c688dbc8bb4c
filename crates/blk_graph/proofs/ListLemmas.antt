-- The place that a new edge takes, and how long edited lists are.
use Rattle.std.proofs.Common.{◌≡◌, ℕ, zero, suc, ◌<◌, List, [], ◌∷◌, ◌++◌, length, take, drop, set, get_or, refl, ap, arith, true, false}
use Rattle.std.specs.Prelude.{◌↔◌, Some, None}
use Rattle.std.specs.List.{Contains}
use Rattle.blk_graph.specs.declared.edge.Edge.{Edge}
use Rattle.blk_graph.specs.declared.edge.Conflict.{Conflict}
use Rattle.blk_graph.specs.Edits.{takes_place, with_edge}
use Rattle.blk_graph.specs.Rule.{KeepsPermissions, first_conflict}
use Rattle.blk_graph.proofs.RuleLemmas.{KeepsPermissions-from_None, None-from_KeepsPermissions}

-- the edge that is come to gives its place
pub with_edge-found : (new : Edge) (edges : List Edge) (i : ℕ) (d : Edge) → i < length edges
    → takes_place new (get_or edges i d) ≡ true → take i edges ++ with_edge new (drop i edges) ≡ set edges i new
with_edge-found new [] i d h is = absurd (omega arith)
with_edge-found new (e ∷ edges) zero d h is = rw is refl
with_edge-found new (e ∷ edges) (suc i) d h is =
    ap (λ (es : List Edge). e ∷ es) (with_edge-found new edges i d (omega (arith, h)) is)

-- a list that is judged by its first conflict
pub judged-None : (nodes : List ℕ) (edges : List Edge) → first_conflict nodes edges ≡ None
    → ((e : Edge) → Contains edges e → Contains nodes e.child) → (true ≡ true) ↔ KeepsPermissions edges
judged-None nodes edges none children = (λ _. KeepsPermissions-from_None nodes edges children none, λ _. refl)

pub judged-Some : (nodes : List ℕ) (edges : List Edge) (pair : Conflict) → first_conflict nodes edges ≡ Some pair
    → (false ≡ true) ↔ KeepsPermissions edges
judged-Some nodes edges pair found = (
  λ e. absurd cc,
  λ rule. let none : first_conflict nodes edges ≡ None = None-from_KeepsPermissions nodes edges rule in absurd cc,
)
