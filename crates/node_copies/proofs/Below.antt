-- Whether a node down to a base has a place.
use Rattle.std.proofs.Common.{◌≡◌, ℕ, zero, suc, Bool, true, false, cond, List, [], ◌∷◌, Option, Some, None, refl, ◌∙◌, ap}
use Rattle.std.specs.Prelude.{◌||◌}
use Rattle.std.specs.List.{list_any}
use Rattle.blk_nodes.specs.Nodes.{Nodes, row_at}
use Rattle.blk_nodes.specs.Owning.{has_own}
use Rattle.node_copies.specs.Between.{below_of, between_in, is_base}

module _ (nodes : Nodes) (base : Option ℕ) (place : ℕ) where
  abbrev Own : ℕ → Bool
  Own m = has_own place (row_at nodes m)

  abbrev rest_in : ℕ → Option ℕ → List ℕ
  rest_in left found = elim found as (λ _. List ℕ) [ None ↦ [] | Some next ↦ between_in left nodes base next ]

  abbrev Held : ℕ → ℕ → Bool
  Held turns node = list_any Own (between_in turns nodes base node)

  pub held_none : (turns node : ℕ) → turns ≡ 0 → Held turns node ≡ false
  held_none turns node none = ap (λ (k : ℕ). Held k node) none

  pub held_base : (turns node : ℕ) → is_base base node ≡ true → Held turns node ≡ false
  held_base zero node is = refl
  held_base (suc turns) node is = ap (λ (b : Bool). list_any Own (cond b [] (node ∷ rest_in turns (below_of nodes node)))) is

  held_turn : (turns left node : ℕ) → turns ≡ suc left → is_base base node ≡ false → Held turns node ≡ (Own node || list_any Own (rest_in left (below_of nodes node)))
  held_turn turns left node one is =
      ap (λ (k : ℕ). Held k node) one ∙ ap (λ (b : Bool). list_any Own (cond b [] (node ∷ rest_in left (below_of nodes node)))) is

  pub held_here : (turns left node : ℕ) → turns ≡ suc left → is_base base node ≡ false → Own node ≡ true → Held turns node ≡ true
  held_here turns left node one is own =
      held_turn turns left node one is ∙ ap (λ (b : Bool). b || list_any Own (rest_in left (below_of nodes node))) own

  pub held_below : (turns left node : ℕ) (found : Option ℕ) → turns ≡ suc left → is_base base node ≡ false → Own node ≡ false → below_of nodes node ≡ found
      → Held turns node ≡ list_any Own (rest_in left found)
  held_below turns left node found one is own below =
      held_turn turns left node one is ∙ ap (λ (b : Bool). b || list_any Own (rest_in left (below_of nodes node))) own
      ∙ ap (λ (f : Option ℕ). list_any Own (rest_in left f)) below
