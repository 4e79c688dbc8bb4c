-- For callers of the lock: the history of a turn, and the entries of one actor.
use Rattle.std.proofs.Common.{◌≡◌, ℕ, true, false, List, [], ◌∷◌, ◌++◌, ◌≢◌, filter, cond, not, eqb, eqb-true, ⊎_elim, subst, All, Option, Some, None, refl, sym, ap, ◌∙◌, append-nil}
use Rattle.std.proofs.lemmas.List.Elements.{All-head, All-tail, filter-append}
use Rattle.blk_lock.specs.declared.known.Stamped.{Stamped}
use Rattle.blk_lock.specs.Stamps.{has_actor, is_by, entries_of, made_by_actor, IsOthers, OthersAdd}
use Rattle.blk_lock.specs.Plays.{made_since, without}
use Rattle.blk_lock.proofs.Tests.{not_true, not_both, or_cases, or_left, or_right}
use Rattle.blk_lock.proofs.Splits.{has_actor-one}
use Rattle.blk_lock.proofs.Made.{made_since-append, entries_of-append}

one_of_these : (actors : List ℕ) (a : ℕ) (by : Option ℕ) → has_actor actors a ≡ true → is_by actors by ≡ false → is_by (a ∷ []) by ≡ false
one_of_these actors a None held other = refl
one_of_these actors a (Some b) held other = not_true (has_actor (a ∷ []) b) (λ here. let same : a ≡ b = has_actor-one a b here in not_both (has_actor actors b) (subst (λ x. has_actor actors x ≡ true) same held) other)

module _ {E : Type 0} where
  -- what was made since a history was seen is what it grew by
  pub made_since_grown : (seen : List (Stamped E)) (es history : List E) → history ≡ entries_of seen ++ es → made_since seen history ≡ es
  made_since_grown seen es history is = ap (made_since seen) is ∙ made_since-append seen es

  -- a history that grew begins with what was seen
  pub grown_since : (seen : List (Stamped E)) (es history : List E) → history ≡ entries_of seen ++ es → history ≡ entries_of seen ++ made_since seen history
  grown_since seen es history is = is ∙ ap (λ l. entries_of seen ++ l) (sym (made_since_grown seen es history is))

  none_done : (actor : E → Option ℕ) (names : List (List ℕ)) (actors : List ℕ) (a : ℕ) → has_actor actors a ≡ true → (xs : List (Stamped E)) → All (IsOthers actor names actors) xs → made_by_actor actor a xs ≡ []
  none_done actor names actors a held [] all = refl
  none_done actor names actors a held (s ∷ xs) all =
      let P : Stamped E → Type 0 = IsOthers actor names actors in
      let tail = none_done actor names actors a held xs (All-tail P s xs all) in
      let other = one_of_these actors a (actor s.entry) held (All-head P s xs all).of_another in
      ap (λ b. cond b (s.entry ∷ made_by_actor actor a xs) (made_by_actor actor a xs)) other ∙ tail

  pub done_by_append : (actor : E → Option ℕ) (a : ℕ) (xs ys : List (Stamped E)) → made_by_actor actor a (xs ++ ys) ≡ made_by_actor actor a xs ++ made_by_actor actor a ys
  done_by_append actor a xs ys = ap (filter (λ e. is_by (a ∷ []) (actor e))) (entries_of-append xs ys) ∙ filter-append (λ e. is_by (a ∷ []) (actor e)) (entries_of xs) (entries_of ys)

  -- what others add holds nothing of an actor that the pass holds
  pub done_by_others : (actor : E → Option ℕ) (names : List (List ℕ)) (actors : List ℕ) (a : ℕ) (xs ys : List (Stamped E)) → OthersAdd actor names actors xs ys → has_actor actors a ≡ true → made_by_actor actor a ys ≡ made_by_actor actor a xs
  done_by_others actor names actors a xs ys h held =
      ap (made_by_actor actor a) h.begins ∙ done_by_append actor a xs h.rest ∙ ap (λ l. made_by_actor actor a xs ++ l) (none_done actor names actors a held h.rest h.by_others) ∙ append-nil (made_by_actor actor a xs)

-- an actor that was not given away is kept
filtered_keeps : (xs : List ℕ) (b a : ℕ) → a ≢ b → has_actor xs a ≡ true → has_actor (filter (λ x. not (eqb x b)) xs) a ≡ true
filtered_keeps [] b a ne h = h
filtered_keeps (x ∷ xs) b a ne h =
    elim (eqb x b) as (λ t. eqb x b ≡ t → has_actor (cond (not t) (x ∷ filter (λ y. not (eqb y b)) xs) (filter (λ y. not (eqb y b)) xs)) a ≡ true) [
      | true ↦ λ is. ⊎_elim (λ (here : eqb x a ≡ true). absurd (ne (sym (eqb-true x a here) ∙ eqb-true x b is))) (filtered_keeps xs b a ne) (or_cases (eqb x a) (has_actor xs a) h)
      | false ↦ λ is. ⊎_elim (or_left _ _) (λ later. or_right _ _ (filtered_keeps xs b a ne later)) (or_cases (eqb x a) (has_actor xs a) h)
    ] refl

pub kept_without : (xs : List ℕ) (b a : ℕ) → a ≢ b → has_actor xs a ≡ true → has_actor (without xs (Some b)) a ≡ true
kept_without xs b a ne h = filtered_keeps xs b a ne h
