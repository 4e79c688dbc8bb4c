-- What a list contains, element by element.
use Rattle.std.proofs.Common.{◌≡◌, ◌⊎◌, ℕ, zero, suc, ◌<◌, List, [], ◌∷◌, Bool, true, false, cond, Some, length, get_or, map, refl, sym, ◌∙◌, ap, inl, inr, arith}
use Rattle.std.specs.List.{Contains, filter, find, list_any}
use Rattle.std.specs.Prelude.{◌||◌}

module _ {X : Type 0} where
  pub Contains-here : (x : X) (xs : List X) → Contains (x ∷ xs) x
  Contains-here x xs = (0, omega arith, refl)

  pub Contains-there : (y : X) (xs : List X) (x : X) → Contains xs x → Contains (y ∷ xs) x
  Contains-there y xs x h = (suc h.0, omega (arith, h.1), h.2)

  pub Contains-nil : (x : X) → Contains [] x → ⊥
  Contains-nil x h = omega (arith, h.1)

  -- an element of a list is its head or one of the rest
  pub Contains-cases : (y : X) (xs : List X) (x : X) → Contains (y ∷ xs) x → (x ≡ y) ⊎ Contains xs x
  Contains-cases y xs x h = by_index h.0 h.1 h.2
    where
      by_index : (k : ℕ) → k < suc (length xs) → get_or (y ∷ xs) k x ≡ x → (x ≡ y) ⊎ Contains xs x
      by_index zero within found = inl (sym found)
      by_index (suc k) within found = inr (k, omega arith, found)

  -- what a filter keeps was there, and passes
  pub Contains-filter : (p : X → Bool) (xs : List X) (x : X) → Contains (filter p xs) x
      → Contains xs x × (p x ≡ true)
  Contains-filter p [] x h = absurd (Contains-nil x h)
  Contains-filter p (y ∷ xs) x h = by_test (p y) refl (Contains-filter p xs x) h
    where
      by_test : (b : Bool) → p y ≡ b
          → (Contains (filter p xs) x → Contains xs x × (p x ≡ true))
          → Contains (cond b (y ∷ filter p xs) (filter p xs)) x
          → Contains (y ∷ xs) x × (p x ≡ true)
      by_test true e ih k = elim (Contains-cases y (filter p xs) x k) [
        | inl here ↦ (rw here (Contains-here y xs), ap p here ∙ e)
        | inr there ↦ let r = ih there in (Contains-there y xs x r.0, r.1)
      ]
      by_test false e ih k = let r = ih k in (Contains-there y xs x r.0, r.1)

module _ {X Y : Type 0} where
  -- what `map` gives comes from an element
  pub Contains-map : (f : X → Y) (xs : List X) (y : Y) → Contains (map f xs) y
      → (x : X) × Contains xs x × (y ≡ f x)
  Contains-map f [] y h = absurd (Contains-nil y h)
  Contains-map f (x ∷ xs) y h = elim (Contains-cases (f x) (map f xs) y h) [
    | inl here ↦ (x, Contains-here x xs, here)
    | inr there ↦ let r = Contains-map f xs y there in (r.0, Contains-there x xs r.0 r.1, r.2)
  ]

  pub map-Contains : (f : X → Y) (xs : List X) (x : X) → Contains xs x → Contains (map f xs) (f x)
  map-Contains f [] x h = absurd (Contains-nil x h)
  map-Contains f (y ∷ xs) x h = elim (Contains-cases y xs x h) [
    | inl here ↦ rw here (Contains-here (f y) (map f xs))
    | inr there ↦ Contains-there (f y) (map f xs) (f x) (map-Contains f xs x there)
  ]

-- what `find` finds is an element, and passes
pub find-Some : {X : Type 0} (p : X → Bool) (xs : List X) (x : X) → find p xs ≡ Some x
    → Contains xs x × (p x ≡ true)
find-Some p [] x h = absurd cc
find-Some {X} p (y ∷ xs) x h = by_test (p y) refl (find-Some p xs x) h
  where
    by_test : (b : Bool) → p y ≡ b → (find p xs ≡ Some x → Contains xs x × (p x ≡ true))
        → cond b (Some y) (find p xs) ≡ Some x → Contains (y ∷ xs) x × (p x ≡ true)
    by_test true t ih k = let same : x ≡ y = cc in (rw same (Contains-here y xs), ap p same ∙ t)
    by_test false t ih k = let r = ih k in (Contains-there y xs x r.0, r.1)

-- where each element passes, a filter keeps all
pub filter-all : {X : Type 0} (p : X → Bool) (xs : List X) → ((x : X) → Contains xs x → p x ≡ true) → filter p xs ≡ xs
filter-all p [] each = refl
filter-all p (x ∷ xs) each =
    rw (each x (Contains-here x xs)) (ap (λ ys. x ∷ ys) (filter-all p xs (λ y h. each y (Contains-there x xs y h))))

-- tests that agree keep the same
pub filter-same : {X : Type 0} (p q : X → Bool) (xs : List X) → ((x : X) → Contains xs x → p x ≡ q x) → filter p xs ≡ filter q xs
filter-same p q [] each = refl
filter-same {X} p q (x ∷ xs) each =
    rw (each x (Contains-here x xs)) (by_test (q x) (filter-same p q xs (λ y h. each y (Contains-there x xs y h))))
  where
    by_test : (b : Bool) → filter p xs ≡ filter q xs → cond b (x ∷ filter p xs) (filter p xs) ≡ cond b (x ∷ filter q xs) (filter q xs)
    by_test true ih = ap (λ ys. x ∷ ys) ih
    by_test false ih = ih

pub list_any-there : {X : Type 0} (p : X → Bool) (xs : List X) (x : X) → Contains xs x → p x ≡ true → list_any p xs ≡ true
list_any-there p [] x h is = absurd (Contains-nil x h)
list_any-there {X} p (y ∷ xs) x h is = by_cases (λ there. list_any-there p xs x there is) (Contains-cases y xs x h)
  where
    or-right : (a b : Bool) → b ≡ true → (a || b) ≡ true
    or-right true b k = refl
    or-right false b k = k

    by_cases : (Contains xs x → list_any p xs ≡ true) → (x ≡ y) ⊎ Contains xs x → (p y || list_any p xs) ≡ true
    by_cases ih (inl here) = let first : p y ≡ true = ap p (sym here) ∙ is in rw first refl
    by_cases ih (inr there) = or-right (p y) (list_any p xs) (ih there)

pub list_any-none : {X : Type 0} (p : X → Bool) (xs : List X) → ((x : X) → Contains xs x → p x ≡ false) → list_any p xs ≡ false
list_any-none p [] each = refl
list_any-none p (x ∷ xs) each =
    rw (each x (Contains-here x xs)) (list_any-none p xs (λ y h. each y (Contains-there x xs y h)))
