-- A machine over a list of entries: where it comes to, and what holds at each entry.
use Rattle.std.specs.Prelude.{ℕ, List, [], ◌∷◌, Option, Some, None, zero, suc}

-- the state after the entries, one step for each
abbrev pub run : {S E : Type 0} → (S → E → S) → S → List E → S
run step s [] = s
run step s (e ∷ es) = run step (step s e) es

-- each entry fits the state before it
abbrev pub Each : {S E : Type 0} → (S → E → S) → (S → E → Type 0) → S → List E → Type 0
Each step P s [] = Unit {0}
Each step P s (e ∷ es) = P s e × Each step P (step s e) es

-- it is there, and that holds of it
abbrev pub With : {A : Type 0} → Option A → (A → Type 0) → Type 0
With None P = ⊥
With (Some a) P = P a

-- the list with its element at a place changed
abbrev pub change : {A : Type 0} → ℕ → (A → A) → List A → List A
change n f [] = []
change zero f (x ∷ xs) = f x ∷ xs
change (suc n) f (x ∷ xs) = x ∷ change n f xs
