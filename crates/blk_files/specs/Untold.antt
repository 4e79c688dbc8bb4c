-- What is not told makes no claim.
use Rattle.std.specs.Prelude.{◌≡◌, List, ℕ, Option, None, Some}

pub untold : {A : Type 0} (b : List ℕ) → (let none : Option (List ℕ) = None in none) ≡ Some b → A
untold b is = let bad : ⊥ = cc is in absurd bad
