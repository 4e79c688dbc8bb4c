-- The tests on names and actors, as facts.
use Rattle.std.proofs.Common.{◌≡◌, ℕ, Bool, true, false, ◌||◌, ◌&&◌, not, cond, eqb, List, [], ◌∷◌, ◌++◌, filter, Option, Some, None, ◌⊎◌, inl, inr, ⊎_elim, refl, sym, ap, ◌∙◌, eq-eqb, eqb-true}
use Rattle.blk_lock.specs.Stamps.{same_name, is_among, has_actor}
use Rattle.blk_lock.specs.Plays.{without}

pub not_true : (b : Bool) → (b ≡ true → ⊥) → b ≡ false
not_true true never = absurd (never refl)
not_true false never = refl

pub not_both : {P : Type 0} (b : Bool) → b ≡ true → b ≡ false → P
not_both b holds fails = let clash : true ≡ false = sym holds ∙ fails in cc

pub or_cases : (a b : Bool) → (a || b) ≡ true → (a ≡ true) ⊎ (b ≡ true)
or_cases true b h = inl refl
or_cases false b h = inr h

pub or_left : (a b : Bool) → a ≡ true → (a || b) ≡ true
or_left true b h = refl
or_left false b h = cc

pub or_right : (a b : Bool) → b ≡ true → (a || b) ≡ true
or_right true b h = refl
or_right false b h = h

and_left : (a b : Bool) → (a && b) ≡ true → a ≡ true
and_left true b h = refl
and_left false b h = h

and_right : (a b : Bool) → (a && b) ≡ true → b ≡ true
and_right true b h = h
and_right false b h = cc

pub same_name-refl : (n : List ℕ) → same_name n n ≡ true
same_name-refl [] = refl
same_name-refl (a ∷ n) = ap (λ t. t && same_name n n) (eq-eqb a a refl) ∙ same_name-refl n

pub same_name-is : (m n : List ℕ) → same_name m n ≡ true → m ≡ n
same_name-is [] [] h = refl
same_name-is [] (b ∷ n) h = cc
same_name-is (a ∷ m) [] h = cc
same_name-is (a ∷ m) (b ∷ n) h =
    let head : a ≡ b = eqb-true a b (and_left (eqb a b) (same_name m n) h) in
    let tail : m ≡ n = same_name-is m n (and_right (eqb a b) (same_name m n) h) in cc

pub is_among-here : (n : List ℕ) (names : List (List ℕ)) → is_among (n ∷ names) n ≡ true
is_among-here n names = or_left (same_name n n) (is_among names n) (same_name-refl n)

pub is_among-one : (n m : List ℕ) → is_among (m ∷ []) n ≡ true → m ≡ n
is_among-one n m h = ⊎_elim (λ same. same_name-is m n same) (λ (none : false ≡ true). cc) (or_cases (same_name m n) false h)

pub is_among-left : (xs ys : List (List ℕ)) (n : List ℕ) → is_among xs n ≡ true → is_among (xs ++ ys) n ≡ true
is_among-left [] ys n h = cc
is_among-left (x ∷ xs) ys n h = ⊎_elim (or_left _ _) (λ later. or_right _ _ (is_among-left xs ys n later)) (or_cases (same_name x n) (is_among xs n) h)

pub is_among-right : (xs ys : List (List ℕ)) (n : List ℕ) → is_among ys n ≡ true → is_among (xs ++ ys) n ≡ true
is_among-right [] ys n h = h
is_among-right (x ∷ xs) ys n h = or_right _ _ (is_among-right xs ys n h)

pub is_among-cases : (xs ys : List (List ℕ)) (n : List ℕ) → is_among (xs ++ ys) n ≡ true → (is_among xs n ≡ true) ⊎ (is_among ys n ≡ true)
is_among-cases [] ys n h = inr h
is_among-cases (x ∷ xs) ys n h = ⊎_elim (λ here. inl (or_left _ _ here)) (λ later. ⊎_elim (λ l. inl (or_right _ _ l)) inr (is_among-cases xs ys n later)) (or_cases (same_name x n) (is_among (xs ++ ys) n) h)

pub has_actor-left : (xs ys : List ℕ) (a : ℕ) → has_actor xs a ≡ true → has_actor (xs ++ ys) a ≡ true
has_actor-left [] ys a h = cc
has_actor-left (x ∷ xs) ys a h = ⊎_elim (or_left _ _) (λ later. or_right _ _ (has_actor-left xs ys a later)) (or_cases (eqb x a) (has_actor xs a) h)

pub has_actor-right : (xs ys : List ℕ) (a : ℕ) → has_actor ys a ≡ true → has_actor (xs ++ ys) a ≡ true
has_actor-right [] ys a h = h
has_actor-right (x ∷ xs) ys a h = or_right _ _ (has_actor-right xs ys a h)

pub has_actor-cases : (xs ys : List ℕ) (a : ℕ) → has_actor (xs ++ ys) a ≡ true → (has_actor xs a ≡ true) ⊎ (has_actor ys a ≡ true)
has_actor-cases [] ys a h = inr h
has_actor-cases (x ∷ xs) ys a h = ⊎_elim (λ here. inl (or_left _ _ here)) (λ later. ⊎_elim (λ l. inl (or_right _ _ l)) inr (has_actor-cases xs ys a later)) (or_cases (eqb x a) (has_actor (xs ++ ys) a) h)

-- what is left after an actor was taken out, was there before
filtered_has : (xs : List ℕ) (b a : ℕ) → has_actor (filter (λ x. not (eqb x b)) xs) a ≡ true → has_actor xs a ≡ true
filtered_has [] b a h = h
filtered_has (x ∷ xs) b a h = elim (eqb x b) as (λ t. has_actor (cond (not t) (x ∷ filter (λ y. not (eqb y b)) xs) (filter (λ y. not (eqb y b)) xs)) a ≡ true → has_actor (x ∷ xs) a ≡ true) [
  | true ↦ λ later. or_right _ _ (filtered_has xs b a later)
  | false ↦ λ there. ⊎_elim (or_left _ _) (λ later. or_right _ _ (filtered_has xs b a later)) (or_cases (eqb x a) (has_actor (filter (λ x. not (eqb x b)) xs) a) there)
] h

pub has_actor-without : (xs : List ℕ) (given : Option ℕ) (a : ℕ) → has_actor (without xs given) a ≡ true → has_actor xs a ≡ true
has_actor-without xs None a h = h
has_actor-without xs (Some b) a h = filtered_has xs b a h
