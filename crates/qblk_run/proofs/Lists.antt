-- One element of a list changed, and one more at its end.
use Rattle.std.proofs.Common.{◌≡◌, ◌≢◌, ◌⊎◌, inl, inr, ℕ, zero, suc, ◌<◌, true, false, Bool, List, [], ◌∷◌, ◌++◌, length, set, refl, sym, ◌∙◌, ap, subst, arith, Option, Some, None, eq-eqb}
use Rattle.std.specs.Prelude.{◌==◌, ◌||◌, slice_get, get_or, slice_index_or, option_map, Contains}
use Rattle.std.proofs.lemmas.Bool.{false≢true, ne_eqb}
use Rattle.qmp_rules.specs.Chains.{is_listed}
use Rattle.blk_history.specs.Fold.{change, With}
use Rattle.world_parts.proofs.Ends.{has-is, is-has}

-- two numbers are the same or not
pub same_or_not : (a b : ℕ) → (a ≡ b) ⊎ (a ≢ b)
same_or_not zero zero = inl refl
same_or_not zero (suc b) = inr (λ same. let bad : ⊥ = cc same in bad)
same_or_not (suc a) zero = inr (λ same. let bad : ⊥ = cc same in bad)
same_or_not (suc a) (suc b) = elim (same_or_not a b) as (λ _. (suc a ≡ suc b) ⊎ (suc a ≢ suc b)) [
  | inl same ↦ inl (ap suc same)
  | inr apart ↦ inr (λ same. apart (let e : a ≡ b = omega arith in e))
]

module _ {A : Type 0} where
  pub get-below : (xs : List A) (n : ℕ) → n < length xs → (x : A) × (slice_get xs n ≡ Some x)
  get-below [] n below = absurd (omega arith)
  get-below (x ∷ xs) zero below = (x, refl)
  get-below (x ∷ xs) (suc n) below = get-below xs n (omega arith)

  pub below-get : (xs : List A) (n : ℕ) (x : A) → slice_get xs n ≡ Some x → n < length xs
  below-get [] n x is = absurd (let bad : ⊥ = cc is in bad)
  below-get (y ∷ xs) zero x is = omega arith
  below-get (y ∷ xs) (suc n) x is = let rest = below-get xs n x is in omega arith

  pub get-change : (n : ℕ) (f : A → A) (xs : List A) → slice_get (change n f xs) n ≡ option_map f (slice_get xs n)
  get-change n f [] = refl
  get-change zero f (x ∷ xs) = refl
  get-change (suc n) f (x ∷ xs) = get-change n f xs

  pub get-change-other : (n m : ℕ) (f : A → A) (xs : List A) → m ≢ n → slice_get (change n f xs) m ≡ slice_get xs m
  get-change-other n m f [] apart = refl
  get-change-other zero zero f (x ∷ xs) apart = absurd (apart refl)
  get-change-other zero (suc m) f (x ∷ xs) apart = refl
  get-change-other (suc n) zero f (x ∷ xs) apart = refl
  get-change-other (suc n) (suc m) f (x ∷ xs) apart = get-change-other n m f xs (λ same. apart (ap suc same))

  pub get-set : (xs : List A) (n : ℕ) (x y : A) → slice_get (set xs n x) n ≡ Some y → x ≡ y
  get-set [] n x y is = absurd (let bad : ⊥ = cc is in bad)
  get-set (z ∷ xs) zero x y is = cc is
  get-set (z ∷ xs) (suc n) x y is = get-set xs n x y is

  pub get-set-other : (xs : List A) (n m : ℕ) (x : A) → m ≢ n → slice_get (set xs n x) m ≡ slice_get xs m
  get-set-other [] n m x apart = refl
  get-set-other (z ∷ xs) zero zero x apart = absurd (apart refl)
  get-set-other (z ∷ xs) zero (suc m) x apart = refl
  get-set-other (z ∷ xs) (suc n) zero x apart = refl
  get-set-other (z ∷ xs) (suc n) (suc m) x apart = get-set-other xs n m x (λ same. apart (ap suc same))

  -- what holds of what is there
  pub with-at : (x : Option A) (a : A) (P : A → Type 0) → x ≡ Some a → With x P → P a
  with-at None a P is holds = absurd holds
  with-at (Some b) a P is holds = let same : b ≡ a = cc is in subst P same holds

  pub at-with : (x : Option A) (a : A) (P : A → Type 0) → x ≡ Some a → P a → With x P
  at-with x a P is holds = subst (λ o. With o P) (sym is) holds

  pub with-map : (x : Option A) (P Q : A → Type 0) → ((a : A) → P a → Q a) → With x P → With x Q
  with-map None P Q f holds = holds
  with-map (Some a) P Q f holds = f a holds

  -- something is there
  pub with-some : (x : Option A) (P : A → Type 0) → With x P → (a : A) × (x ≡ Some a) × P a
  with-some None P holds = absurd holds
  with-some (Some a) P holds = (a, refl, holds)

-- ---- ids in a list

pub has-push : (ids : List ℕ) (id other : ℕ) → is_listed id (ids ++ other ∷ []) ≡ (is_listed id ids || (other == id))
has-push [] id other = elim (other == id) as (λ b. (b || false) ≡ (false || b)) [ true ↦ refl | false ↦ refl ]
has-push (x ∷ ids) id other =
    let rest = has-push ids id other in
    elim (x == id) as (λ b. (b || is_listed id (ids ++ other ∷ [])) ≡ ((b || is_listed id ids) || (other == id))) [ true ↦ refl | false ↦ rest ]

or-false : (b : Bool) → (b || false) ≡ b
or-false true = refl
or-false false = refl

or-true : (b : Bool) → (b || true) ≡ true
or-true true = refl
or-true false = refl

-- another's end
pub has-stays : (ids : List ℕ) (id other : ℕ) → other ≢ id → is_listed id (ids ++ other ∷ []) ≡ is_listed id ids
has-stays ids id other apart = has-push ids id other ∙ rw (ne_eqb other id apart) (or-false (is_listed id ids))

pub has-own : (ids : List ℕ) (id : ℕ) → is_listed id (ids ++ id ∷ []) ≡ true
has-own ids id = has-push ids id id ∙ rw (eq-eqb id id refl) (or-true (is_listed id ids))

pub none-has : (ids : List ℕ) (id : ℕ) (b : Bool) → b ≡ is_listed id ids → b ≡ false → Contains ids id → ⊥
none-has ids id b is going has = false≢true (sym going ∙ is ∙ is-has id ids has)

pub some-has : (ids : List ℕ) (id : ℕ) (b : Bool) → b ≡ is_listed id ids → b ≡ true → Contains ids id
some-has ids id b is done = has-is id ids (sym is ∙ done)

-- an element by its place
pub get-is : {A : Type 0} (xs : List A) (n : ℕ) (x : A) → n < length xs → x ≡ get_or xs n x → slice_get xs n ≡ Some x
get-is [] n x below is = absurd (omega arith)
get-is (y ∷ xs) zero x below is = ap (λ (z : _). Some z) (sym is)
get-is (y ∷ xs) (suc n) x below is = get-is xs n x (omega arith) is

pub at-index : {A : Type 0} (xs : List A) (n : ℕ) (d : A) → n < length xs → slice_get xs n ≡ Some (slice_index_or xs n d)
at-index [] n d below = absurd (omega arith)
at-index (y ∷ xs) zero d below = refl
at-index (y ∷ xs) (suc n) d below = at-index xs n d (omega arith)

pub at-get : {A : Type 0} (xs : List A) (n : ℕ) (d : A) → n < length xs → slice_get xs n ≡ Some (get_or xs n d)
at-get [] n d below = absurd (omega arith)
at-get (y ∷ xs) zero d below = refl
at-get (y ∷ xs) (suc n) d below = at-get xs n d (omega arith)

pub is-get : {A : Type 0} (xs : List A) (n : ℕ) (x d : A) → slice_get xs n ≡ Some x → get_or xs n d ≡ x
is-get [] n x d is = let bad : ⊥ = cc is in absurd bad
is-get (y ∷ xs) zero x d is = cc is
is-get (y ∷ xs) (suc n) x d is = is-get xs n x d is
