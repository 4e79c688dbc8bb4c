-- Lists and what stands with options, and one more entry at the end of a history.
use Rattle.std.proofs.Common.{◌≡◌, ℕ, zero, suc, ◌<◌, true, false, cond, List, [], ◌∷◌, ◌++◌, length, refl, ap, subst, arith, Option, Some, None}
use Rattle.std.specs.Prelude.{◌==◌, slice_get}
use Rattle.blk_history.specs.Fold.{run, Each, With, change}
use Rattle.blk_history.specs.Owned.{asked_by}
use Rattle.blk_history.specs.declared.event.Event.{Event}
use Rattle.blk_history.specs.declared.event.Event.TheVariants.{Admit, Refuse}

pub run-push : {S E : Type 0} (step : S → E → S) (s : S) (es : List E) (e : E) → run step s (es ++ e ∷ []) ≡ step (run step s es) e
run-push step s [] e = refl
run-push step s (x ∷ es) e = run-push step (step s x) es e

pub each-push : {S E : Type 0} (step : S → E → S) (P : S → E → Type 0) (s : S) (es : List E) (e : E) → Each step P s es → P (run step s es) e → Each step P s (es ++ e ∷ [])
each-push step P s [] e all one = (one, tt)
each-push step P s (x ∷ es) e all one = (all.0, each-push step P (step s x) es e all.1 one)

-- what a guest asked, and then what the last entry asks
pub asked-push : (g : ℕ) (es : List Event) (e : Event) → asked_by g (es ++ e ∷ []) ≡ asked_by g es ++ asked_by g (e ∷ [])
asked-push g [] e = refl
asked-push g (Admit h r op ∷ es) e = elim (h == g) as (λ b. cond b (op ∷ asked_by g (es ++ e ∷ [])) (asked_by g (es ++ e ∷ [])) ≡ cond b (op ∷ asked_by g es) (asked_by g es) ++ asked_by g (e ∷ [])) [
  | true ↦ ap (λ ops. op ∷ ops) (asked-push g es e)
  | false ↦ asked-push g es e
]
asked-push g (Refuse h r op why ∷ es) e = elim (h == g) as (λ b. cond b (op ∷ asked_by g (es ++ e ∷ [])) (asked_by g (es ++ e ∷ [])) ≡ cond b (op ∷ asked_by g es) (asked_by g es) ++ asked_by g (e ∷ [])) [
  | true ↦ ap (λ ops. op ∷ ops) (asked-push g es e)
  | false ↦ asked-push g es e
]
asked-push g (x ∷ es) e = asked-push g es e

-- ---- what stands with options

pub with-some : {A : Type 0} (P : A → Type 0) (o : Option A) → With o P → (a : A) × ((o ≡ Some a) × P a)
with-some P None h = absurd h
with-some P (Some a) h = (a, (refl, h))

pub with-at : {A : Type 0} (P : A → Type 0) (o : Option A) (a : A) → o ≡ Some a → With o P → P a
with-at P o a e h = subst (λ x. With x P) e h

-- ---- the length of a list

pub length-change : {A : Type 0} (n : ℕ) (f : A → A) (xs : List A) → length (change n f xs) ≡ length xs
length-change n f [] = refl
length-change zero f (x ∷ xs) = refl
length-change (suc n) f (x ∷ xs) = ap suc (length-change n f xs)

pub slice-there : {A : Type 0} (xs : List A) (n : ℕ) (x : A) → slice_get xs n ≡ Some x → n < length xs
slice-there [] n x e = absurd cc
slice-there (y ∷ ys) zero x e = omega arith
slice-there (y ∷ ys) (suc n) x e = let less = slice-there ys n x e in omega arith
