-- One pass changes, and the others stay as they were.
use Rattle.std.proofs.Common.{◌≡◌, ◌≢◌, ℕ, zero, suc, ◌+◌, ◌<◌, ◌≤◌, true, List, [], ◌∷◌, ◌++◌, length, set, Option, ◌⊎◌, inl, inr, ⊎_elim, refl, sym, ap, ◌∙◌, subst, arith}
use mathlib.Core.Option.{some, some-injective, some-ne-none}
use mathlib.Core.Logic.{dite}
use native.Mathlib.Decide.{ℕ_discrete}
use lib.ListN.{get_elem?}
use Rattle.atomic_table.proofs.Lists.{at_set, set_here, set_else}
use Rattle.blk_base.specs.declared.memory.Room.{Room}
use Rattle.blk_lock.specs.declared.known.Stamped.{Stamped}
use Rattle.blk_lock.specs.declared.known.Known.{Known}
use Rattle.blk_lock.specs.declared.known.Stage.{Stage}
use Rattle.blk_lock.specs.declared.known.Stage.TheVariants.{Spent, Fresh, Joined, Rest, Waiting, Out, Counted}
use Rattle.blk_lock.specs.Stamps.{is_among}
use Rattle.blk_lock.specs.Stages.{IsLive, has_world_out}
use Rattle.blk_lock.specs.Order.{total, Has, AreApart}

pub at_inside : {X : Type 0} (xs : List X) (i : ℕ) (x : X) → get_elem? xs i ≡ some x → i < length xs
at_inside [] i x at = absurd (some-ne-none x (sym at))
at_inside (z ∷ xs) zero x at = omega arith
at_inside (z ∷ xs) (suc i) x at = omega (arith, at_inside xs i x at)

module _ {X : Type 0} (f : X → ℕ) where
  pub total-set : (xs : List X) (i : ℕ) (x y : X) → get_elem? xs i ≡ some x → total f (set xs i y) + f x ≡ total f xs + f y
  total-set [] i x y at = absurd (some-ne-none x (sym at))
  total-set (z ∷ xs) zero x y at = let same : f z ≡ f x = ap f (some-injective z x at) in omega arith
  total-set (z ∷ xs) (suc i) x y at = omega (arith, total-set xs i x y at)

  pub total-push : (xs : List X) (y : X) → total f (xs ++ y ∷ []) ≡ total f xs + f y
  total-push [] y = omega arith
  total-push (x ∷ xs) y = omega (arith, total-push xs y)

  pub total-at : (xs : List X) (i : ℕ) (x : X) → get_elem? xs i ≡ some x → f x ≤ total f xs
  total-at [] i x at = absurd (some-ne-none x (sym at))
  total-at (z ∷ xs) zero x at = let same : f z ≡ f x = ap f (some-injective z x at) in omega arith
  total-at (z ∷ xs) (suc i) x at = omega (arith, total-at xs i x at)

  pub total-two : (xs : List X) (i j : ℕ) (x y : X) → i ≢ j → get_elem? xs i ≡ some x → get_elem? xs j ≡ some y → f x + f y ≤ total f xs
  total-two [] i j x y apart at at' = absurd (some-ne-none x (sym at))
  total-two (z ∷ xs) zero zero x y apart at at' = absurd (apart refl)
  total-two (z ∷ xs) zero (suc j) x y apart at at' = let same : f z ≡ f x = ap f (some-injective z x at) in omega (arith, total-at xs j y at')
  total-two (z ∷ xs) (suc i) zero x y apart at at' = let same : f z ≡ f y = ap f (some-injective z y at') in omega (arith, total-at xs i x at)
  total-two (z ∷ xs) (suc i) (suc j) x y apart at at' = omega (arith, total-two xs i j x y (λ e. apart (ap suc e)) at at')

module _ {E : Type 0} where
  pub out_is_live : (s : Stage E) → has_world_out s ≡ true → IsLive s
  out_is_live Spent h = cc
  out_is_live Fresh h = tt
  out_is_live (Joined l r) h = tt
  out_is_live Rest h = tt
  out_is_live (Waiting t) h = tt
  out_is_live (Out t) h = tt
  out_is_live (Counted t) h = tt

module _ {E O : Type 0} where
  -- a pass after a step of its own: where it stands, what it has seen, its room and its turn are new
  abbrev pub pass_moved : Known E O → Stage E → List (Stamped E) → Room → Option Room → Known E O
  pass_moved v stage seen room turn = record { stage = stage; view = record v.view { seen = seen; room = room; turn = turn } }

  pub AreApart-sym : (p q : Known E O) → AreApart p q → AreApart q p
  AreApart-sym p q a = record { names = λ n h k. a.names n k h; actors = λ x h k. a.actors x k h; tickets = λ t h k. a.tickets t k h }

  module _ (passes : List (Known E O)) (id : ℕ) (w : Known E O) where
    pub has_set : (j : ℕ) (q : Known E O) → Has (set passes id w) j q → ((j ≡ id) × (w ≡ q)) ⊎ ((j ≢ id) × Has passes j q)
    has_set j q h = ⊎_elim inl (λ t. inr (t.0, (t.1, h.1))) (at_set passes id j w q h.0)

    pub on_each : (P : Known E O → Type 0) → P w → ((j : ℕ) (q : Known E O) → j ≢ id → Has passes j q → P q) → (j : ℕ) (q : Known E O) → Has (set passes id w) j q → P q
    on_each P mine others j q h = ⊎_elim (λ t. subst P t.1 mine) (λ t. others j q t.0 t.1) (has_set j q h)

    pub on_pairs : (R : Known E O → Known E O → Type 0) → ((j : ℕ) (q : Known E O) → j ≢ id → Has passes j q → R w q) → ((p q : Known E O) → R p q → R q p)
        → ((i j : ℕ) (p q : Known E O) → i ≢ j → Has passes i p → Has passes j q → R p q)
        → (i j : ℕ) (p q : Known E O) → i ≢ j → Has (set passes id w) i p → Has (set passes id w) j q → R p q
    on_pairs R mine turn others i j p q apart hi hj = ⊎_elim
        (λ (s : (i ≡ id) × (w ≡ p)). ⊎_elim
        (λ (t : (j ≡ id) × (w ≡ q)). absurd (apart (s.0 ∙ sym t.0)))
        (λ (t : (j ≢ id) × Has passes j q). subst (λ (x : Known E O). R x q) s.1 (mine j q t.0 t.1))
        (has_set j q hj))
        (λ (s : (i ≢ id) × Has passes i p). ⊎_elim
        (λ (t : (j ≡ id) × (w ≡ q)). subst (λ (x : Known E O). R p x) t.1 (turn w p (mine i p s.0 s.1)))
        (λ (t : (j ≢ id) × Has passes j q). others i j p q apart s.1 t.1)
        (has_set j q hj))
        (has_set i p hi)

    pub on_all_pairs : (R : Known E O → Known E O → Type 0) → R w w → ((j : ℕ) (q : Known E O) → j ≢ id → Has passes j q → R w q × R q w)
        → ((i j : ℕ) (p q : Known E O) → Has passes i p → Has passes j q → R p q)
        → (i j : ℕ) (p q : Known E O) → Has (set passes id w) i p → Has (set passes id w) j q → R p q
    on_all_pairs R self mine others i j p q hi hj = ⊎_elim
        (λ (s : (i ≡ id) × (w ≡ p)). ⊎_elim
        (λ (t : (j ≡ id) × (w ≡ q)). subst (λ (x : Known E O × Known E O). R x.0 x.1) (λ k. (s.1 k, t.1 k)) self)
        (λ (t : (j ≢ id) × Has passes j q). subst (λ (x : Known E O). R x q) s.1 (mine j q t.0 t.1).0)
        (has_set j q hj))
        (λ (s : (i ≢ id) × Has passes i p). ⊎_elim
        (λ (t : (j ≡ id) × (w ≡ q)). subst (λ (x : Known E O). R p x) t.1 (mine i p s.0 s.1).1)
        (λ (t : (j ≢ id) × Has passes j q). others i j p q s.1 t.1)
        (has_set j q hj))
        (has_set i p hi)

    -- who is named among the passes is still named, where the pass keeps its names
    pub makers_stay : (v : Known E O) → get_elem? passes id ≡ some v → ((n : List ℕ) → is_among v.view.names n ≡ true → is_among w.view.names n ≡ true) → IsLive w.stage
        → (n : List ℕ) → (i : ℕ) × (p : Known E O) × Has passes i p × (is_among p.view.names n ≡ true)
        → (i : ℕ) × (p : Known E O) × Has (set passes id w) i p × (is_among p.view.names n ≡ true)
    makers_stay v at more live n t = dite (ℕ_discrete t.0 id)
        (λ here. let same : t.1 ≡ v = some-injective t.1 v (sym t.2.0 ∙ (ap (get_elem? passes) here ∙ at)) in
        (id, w, (set_here passes id w (at_inside passes id v at), live), more n (subst (λ (x : Known E O). is_among x.view.names n ≡ true) same t.3)))
        (λ apart. (t.0, t.1, (set_else passes id t.0 w apart ∙ t.2.0, t.2.1), t.3))
