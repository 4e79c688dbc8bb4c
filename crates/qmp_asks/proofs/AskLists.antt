-- Lists that are gone through while what each part makes is put.
use Rattle.std.proofs.Common.{◌≡◌, ℕ, ◌+◌, ◌<◌, ◌≤◌, List, [], ◌∷◌, ◌++◌, length, get_or, drop, refl, sym, ap, subst, ◌∙◌, append_assoc, append-nil, Result}
use Rattle.std.specs.Prelude.{OnOk}
use Rattle.std.proofs.lemmas.List.{at_drop_more, at_drop_all}
use Rattle.qmp_asks.specs.Asking.{Asking}

module _ {X Y : Type 0} where
  -- what one more part makes is put
  pub put_step : (f : List X → List Y) (one : List Y) (xs : List X) (i : ℕ) (x : X) (old new whole : List Y)
      → i < length xs → x ≡ get_or xs i x → f (x ∷ drop (i + 1) xs) ≡ one ++ f (drop (i + 1) xs)
      → new ≡ old ++ one → old ++ f (drop i xs) ≡ whole → new ++ f (drop (i + 1) xs) ≡ whole
  put_step f one xs i x old new whole within is splits put before =
      ap (λ a. a ++ f (drop (i + 1) xs)) put
      ∙ append_assoc old one (f (drop (i + 1) xs))
      ∙ ap (λ a. old ++ a) (sym splits ∙ ap (λ y. f (y ∷ drop (i + 1) xs)) is ∙ sym (at_drop_more f xs i x within))
      ∙ before

  -- all are
  pub put_end : (f : List X → List Y) (xs : List X) (i : ℕ) (old whole : List Y)
      → length xs ≤ i → f [] ≡ [] → old ++ f (drop i xs) ≡ whole → old ≡ whole
  put_end f xs i old whole past none before =
      sym (append-nil old) ∙ ap (λ a. old ++ a) (sym none ∙ sym (at_drop_all f xs i past)) ∙ before

-- what is put, as it is called
pub put_as : {R E : Type 0} → (r : Result R E) (old new more asks : List Asking) → more ≡ asks
    → OnOk r (new ≡ old ++ more) → OnOk r (new ≡ old ++ asks)
put_as r old new more asks e h = subst (λ (l : List Asking). OnOk r (new ≡ old ++ l)) e h

-- asks that are put behind others that were put
pub tail_two : {R E : Type 0} → (r : Result R E) (old mid new a b : List Asking) → mid ≡ old ++ a
    → OnOk r (new ≡ mid ++ b) → OnOk r (new ≡ old ++ (a ++ b))
tail_two r old mid new a b m h =
    put_as r old new (a ++ b) (a ++ b) refl
    (subst (λ (l : List Asking). OnOk r (new ≡ l)) (ap (λ y. y ++ b) m ∙ append_assoc old a b) h)
