-- A commit without an overlay.
use Rattle.std.proofs.Common.{◌≡◌, ℕ, true, List, [], ◌∷◌, length, refl}
use Rattle.std.specs.Prelude.{◌==◌, not}
use Rattle.std.specs.List.{list_any}
use Rattle.std.proofs.lemmas.Bool.{ne_eqb}

pub no_overlay : (ids : List ℕ) → (length ids == 0) ≡ not (list_any (λ id. true) ids)
no_overlay [] = refl
no_overlay (id ∷ ids) = ne_eqb (length (id ∷ ids)) 0 (λ same. cc same)
