-- A list with one more element somewhere, and what holds of each and of each two then.
use Rattle.std.proofs.Common.{◌≡◌, ◌⊎◌, List, [], ◌∷◌, ◌++◌, inl, inr, refl, sym, ◌∙◌, subst}
use Rattle.std.specs.Prelude.{All, AllPairs, Contains}
use Rattle.std.proofs.lemmas.List.Elements.{All-cons, All-contains, All-contains_itself, All-head, All-nil, All-tail, All-weaker}
use Rattle.blk_graph.proofs.Members.{Contains-cases, Contains-here, Contains-there, Contains-nil}
use Rattle.blk_graph.proofs.RoleLemmas.{head_pairs, more_pairs, tail_pairs}

-- the second list is the first with the element put in
abbrev pub IsWith : {X : Type 0} → X → List X → List X → Type 0
IsWith x xs [] = ⊥
IsWith x [] (y ∷ ys) = (y ≡ x) × (ys ≡ [])
IsWith x (z ∷ xs) (y ∷ ys) = ((y ≡ x) × (ys ≡ z ∷ xs)) ⊎ ((y ≡ z) × IsWith x xs ys)

module _ {X : Type 0} where
  pub with_first : (x : X) (xs : List X) → IsWith x xs (x ∷ xs)
  with_first x [] = (refl, refl)
  with_first x (z ∷ xs) = inl (refl, refl)

  -- behind others
  pub with_behind : (x : X) (zs xs ys : List X) → IsWith x xs ys → IsWith x (zs ++ xs) (zs ++ ys)
  with_behind x [] xs ys is = is
  with_behind x (z ∷ zs) xs ys is = inr (refl, with_behind x zs xs ys is)

  -- and at their end, before what follows
  pub with_between : (x : X) (zs xs : List X) → IsWith x (zs ++ xs) ((zs ++ x ∷ []) ++ xs)
  with_between x [] xs = with_first x xs
  with_between x (z ∷ zs) xs = inr (refl, with_between x zs xs)

  pub among : (x : X) (xs ys : List X) → IsWith x xs ys → (y : X) → Contains ys y → (y ≡ x) ⊎ Contains xs y
  among x xs [] is y there = absurd is
  among x [] (z ∷ ys) is y there = elim (Contains-cases z ys y there) [
    | inl same ↦ subst (λ (a : X). (y ≡ a) ⊎ Contains [] y) is.0 (inl same)
    | inr later ↦ absurd (Contains-nil y (subst (λ (l : List X). Contains l y) is.1 later))
  ]
  among x (w ∷ xs) (z ∷ ys) (inl is) y there = elim (Contains-cases z ys y there) [
    | inl same ↦ subst (λ (a : X). (y ≡ a) ⊎ Contains (w ∷ xs) y) is.0 (inl same)
    | inr later ↦ inr (subst (λ (l : List X). Contains l y) is.1 later)
  ]
  among x (w ∷ xs) (z ∷ ys) (inr is) y there = elim (Contains-cases z ys y there) [
    | inl same ↦ inr (subst (λ (a : X). Contains (w ∷ xs) a) (sym (same ∙ is.0)) (Contains-here w xs))
    | inr later ↦ elim (among x xs ys is.1 y later) [ inl own ↦ inl own | inr more ↦ inr (Contains-there w xs y more) ]
  ]

  -- ---- what holds of each

  pub with_all : (P : X → Type 0) (x : X) (xs ys : List X) → IsWith x xs ys → P x → All P xs → All P ys
  with_all P x xs [] is own all = absurd is
  with_all P x [] (y ∷ ys) is own all = subst (λ (l : List X). All P (y ∷ l)) (sym is.1) (All-cons P y [] (subst P (sym is.0) own) all)
  with_all P x (z ∷ xs) (y ∷ ys) (inl is) own all = subst (λ (l : List X). All P (y ∷ l)) (sym is.1) (All-cons P y (z ∷ xs) (subst P (sym is.0) own) all)
  with_all P x (z ∷ xs) (y ∷ ys) (inr is) own all =
      All-cons P y ys (subst P (sym is.0) (All-head P z xs all)) (with_all P x xs ys is.1 own (All-tail P z xs all))

  pub without_all : (P : X → Type 0) (x : X) (xs ys : List X) → IsWith x xs ys → All P ys → P x × All P xs
  without_all P x xs [] is all = absurd is
  without_all P x [] (y ∷ ys) is all = (subst P is.0 (All-head P y ys all), subst (All P) is.1 (All-tail P y ys all))
  without_all P x (z ∷ xs) (y ∷ ys) (inl is) all = (subst P is.0 (All-head P y ys all), subst (All P) is.1 (All-tail P y ys all))
  without_all P x (z ∷ xs) (y ∷ ys) (inr is) all =
      let rest = without_all P x xs ys is.1 (All-tail P y ys all) in
      (rest.0, All-cons P z xs (subst P is.0 (All-head P y ys all)) rest.1)

  -- ---- and of each two, in either order

  module _ (R : X → X → Type 0) (turned : (a b : X) → R a b → R b a) where
    pub with_pairs : (x : X) (xs ys : List X) → IsWith x xs ys → All (R x) xs → AllPairs R xs → AllPairs R ys
    with_pairs x xs [] is own all = absurd is
    with_pairs x [] (y ∷ ys) is own all = subst (λ (l : List X). AllPairs R (y ∷ l)) (sym is.1) (more_pairs R y [] (λ a there. absurd (Contains-nil a there)) all)
    with_pairs x (z ∷ xs) (y ∷ ys) (inl is) own all =
        subst (λ (l : List X). AllPairs R (y ∷ l)) (sym is.1)
        (more_pairs R y (z ∷ xs) (λ a there. subst (λ (b : X). R b a) (sym is.0) (All-contains (R x) (z ∷ xs) a own there)) all)
    with_pairs x (z ∷ xs) (y ∷ ys) (inr is) own all =
        more_pairs R y ys
        (λ a there. elim (among x xs ys is.1 a there) [
          | inl same ↦ subst (λ (b : X). R b a) (sym is.0) (subst (R z) (sym same) (turned x z (All-head (R x) z xs own)))
          | inr later ↦ subst (λ (b : X). R b a) (sym is.0) (head_pairs R z xs all a later)
        ])
        (with_pairs x xs ys is.1 (All-tail (R x) z xs own) (tail_pairs R z xs all))

    kept : (x : X) (xs ys : List X) → IsWith x xs ys → (y : X) → Contains xs y → Contains ys y
    kept x xs [] is y there = absurd is
    kept x [] (z ∷ ys) is y there = absurd (Contains-nil y there)
    kept x (w ∷ xs) (z ∷ ys) (inl is) y there = Contains-there z ys y (subst (λ (l : List X). Contains l y) (sym is.1) there)
    kept x (w ∷ xs) (z ∷ ys) (inr is) y there = elim (Contains-cases w xs y there) [
      | inl same ↦ subst (λ (a : X). Contains (z ∷ ys) a) (is.0 ∙ sym same) (Contains-here z ys)
      | inr later ↦ Contains-there z ys y (kept x xs ys is.1 y later)
    ]

    itself : (x : X) (xs ys : List X) → IsWith x xs ys → Contains ys x
    itself x xs [] is = absurd is
    itself x [] (z ∷ ys) is = subst (Contains (z ∷ ys)) is.0 (Contains-here z ys)
    itself x (w ∷ xs) (z ∷ ys) (inl is) = subst (Contains (z ∷ ys)) is.0 (Contains-here z ys)
    itself x (w ∷ xs) (z ∷ ys) (inr is) = Contains-there z ys x (itself x xs ys is.1)

    pub without_pairs : (x : X) (xs ys : List X) → IsWith x xs ys → AllPairs R ys → All (R x) xs × AllPairs R xs
    without_pairs x xs [] is all = absurd is
    without_pairs x [] (y ∷ ys) is all = (All-nil (R x), subst (AllPairs R) is.1 (tail_pairs R y ys all))
    without_pairs x (z ∷ xs) (y ∷ ys) (inl is) all =
        let first : AllPairs R (x ∷ z ∷ xs) = subst (λ (a : X). AllPairs R (a ∷ z ∷ xs)) is.0 (subst (λ (l : List X). AllPairs R (y ∷ l)) is.1 all) in
        (All-weaker (Contains (z ∷ xs)) (R x) (λ a there. head_pairs R x (z ∷ xs) first a there) (z ∷ xs) (All-contains_itself (z ∷ xs)), tail_pairs R x (z ∷ xs) first)
    without_pairs x (z ∷ xs) (y ∷ ys) (inr is) all =
        let rest = without_pairs x xs ys is.1 (tail_pairs R y ys all) in
        let first : (a : X) → Contains ys a → R z a = λ a there. subst (λ (b : X). R b a) is.0 (head_pairs R y ys all a there) in
        (All-cons (R x) z xs (turned z x (first x (itself x xs ys is.1))) rest.0, more_pairs R z xs (λ a there. first a (kept x xs ys is.1 a there)) rest.1)
