-- Histories that go on from others, and who made what in them.
use Rattle.std.proofs.Common.{◌≡◌, ℕ, ◌≤◌, true, false, cond, ltb, ltb-true, ltb-false, List, [], ◌∷◌, ◌++◌, length, All, Option, Some, None, ⊎_elim, refl, sym, ap, ◌∙◌, subst, arith, append_assoc, append-nil}
use Rattle.std.proofs.lemmas.List.Elements.{All-nil, All-cons, All-head, All-tail, All-append}
use Rattle.blk_lock.specs.declared.known.Stamped.{Stamped}
use Rattle.blk_lock.specs.Stamps.{is_among, has_actor, is_by, IsOthers, OthersAdd}
use Rattle.blk_lock.specs.Plays.{longer}
use Rattle.blk_lock.proofs.Tests.{not_true, not_both, is_among-cases, has_actor-cases}

module _ {X : Type 0} where
  pub All-later : (P : X → Type 0) (xs ys : List X) → All P (xs ++ ys) → All P ys
  All-later P [] ys all = all
  All-later P (x ∷ xs) ys all = All-later P xs ys (All-tail P x (xs ++ ys) all)

  pub All-earlier : (P : X → Type 0) (xs ys : List X) → All P (xs ++ ys) → All P xs
  All-earlier P [] ys all = All-nil P
  All-earlier P (x ∷ xs) ys all = All-cons P x xs (All-head P x (xs ++ ys) all) (All-earlier P xs ys (All-tail P x (xs ++ ys) all))

  pub All-then : (P Q : X → Type 0) → ((x : X) → P x → Q x) → (xs : List X) → All P xs → All Q xs
  All-then P Q to [] all = All-nil Q
  All-then P Q to (x ∷ xs) all = All-cons Q x xs (to x (All-head P x xs all)) (All-then P Q to xs (All-tail P x xs all))

  -- of two beginnings of one list the longer goes on from the shorter
  pub between : (xs r ys q : List X) → xs ++ r ≡ ys ++ q → length xs ≤ length ys → (m : List X) × (ys ≡ xs ++ m) × (r ≡ m ++ q)
  between [] r ys q e le = (ys, refl, e)
  between (x ∷ xs) r [] q e le = absurd (omega arith)
  between (x ∷ xs) r (y ∷ ys) q e le =
      let head : x ≡ y = cc in let tail : xs ++ r ≡ ys ++ q = cc in let t = between xs r ys q tail (omega arith) in
      (t.0, (let u : ys ≡ xs ++ t.0 = t.1 in cc), t.2)

-- what the shorter pass may not have made, it may not have made with fewer names and actors
module _ {E : Type 0} (actor : E → Option ℕ) where
  is_by-fewer : (actors fewer : List ℕ) → ((a : ℕ) → has_actor fewer a ≡ true → has_actor actors a ≡ true) → (a : Option ℕ) → is_by actors a ≡ false → is_by fewer a ≡ false
  is_by-fewer actors fewer sub None h = refl
  is_by-fewer actors fewer sub (Some a) h = not_true _ (λ t. not_both (has_actor actors a) (sub a t) h)

  pub IsOthers-fewer : (names names' : List (List ℕ)) (actors actors' : List ℕ)
      → ((n : List ℕ) → is_among names' n ≡ true → is_among names n ≡ true) → ((a : ℕ) → has_actor actors' a ≡ true → has_actor actors a ≡ true)
      → (s : Stamped E) → IsOthers actor names actors s → IsOthers actor names' actors' s
  IsOthers-fewer names names' actors actors' subn suba s h = record {
    by_another = not_true _ (λ t. not_both (is_among names s.maker) (subn s.maker t) h.by_another);
    of_another = is_by-fewer actors actors' suba (actor s.entry) h.of_another;
  }

  is_by-both : (xs ys : List ℕ) (a : Option ℕ) → is_by xs a ≡ false → is_by ys a ≡ false → is_by (xs ++ ys) a ≡ false
  is_by-both xs ys None h k = refl
  is_by-both xs ys (Some a) h k = not_true _ (λ t. ⊎_elim (λ u. not_both (has_actor xs a) u h) (λ u. not_both (has_actor ys a) u k) (has_actor-cases xs ys a t))

  IsOthers-both : (n1 n2 : List (List ℕ)) (a1 a2 : List ℕ) (s : Stamped E) → IsOthers actor n1 a1 s → IsOthers actor n2 a2 s → IsOthers actor (n1 ++ n2) (a1 ++ a2) s
  IsOthers-both n1 n2 a1 a2 s h k = record {
    by_another = not_true _ (λ t. ⊎_elim (λ u. not_both (is_among n1 s.maker) u h.by_another) (λ u. not_both (is_among n2 s.maker) u k.by_another) (is_among-cases n1 n2 s.maker t));
    of_another = is_by-both a1 a2 (actor s.entry) h.of_another k.of_another;
  }

  All-both : (n1 n2 : List (List ℕ)) (a1 a2 : List ℕ) (xs : List (Stamped E)) → All (IsOthers actor n1 a1) xs → All (IsOthers actor n2 a2) xs → All (IsOthers actor (n1 ++ n2) (a1 ++ a2)) xs
  All-both n1 n2 a1 a2 [] h k = All-nil (IsOthers actor (n1 ++ n2) (a1 ++ a2))
  All-both n1 n2 a1 a2 (x ∷ xs) h k =
      let P : Stamped E → Type 0 = IsOthers actor n1 a1 in
      let Q : Stamped E → Type 0 = IsOthers actor n2 a2 in
      All-cons (IsOthers actor (n1 ++ n2) (a1 ++ a2)) x xs (IsOthers-both n1 n2 a1 a2 x (All-head P x xs h) (All-head Q x xs k)) (All-both n1 n2 a1 a2 xs (All-tail P x xs h) (All-tail Q x xs k))

  pub OthersAdd-same : (names : List (List ℕ)) (actors : List ℕ) (xs : List (Stamped E)) → OthersAdd actor names actors xs xs
  OthersAdd-same names actors xs = record { rest = []; begins = sym (append-nil xs); by_others = All-nil (IsOthers actor names actors) }

  pub OthersAdd-fewer : (names names' : List (List ℕ)) (actors actors' : List ℕ)
      → ((n : List ℕ) → is_among names' n ≡ true → is_among names n ≡ true) → ((a : ℕ) → has_actor actors' a ≡ true → has_actor actors a ≡ true)
      → (xs ys : List (Stamped E)) → OthersAdd actor names actors xs ys → OthersAdd actor names' actors' xs ys
  OthersAdd-fewer names names' actors actors' subn suba xs ys h = record {
    rest = h.rest;
    begins = h.begins;
    by_others = All-then (IsOthers actor names actors) (IsOthers actor names' actors') (IsOthers-fewer names names' actors actors' subn suba) h.rest h.by_others;
  }

  pub OthersAdd-more : (names : List (List ℕ)) (actors : List ℕ) (xs log more : List (Stamped E)) → OthersAdd actor names actors xs log → All (IsOthers actor names actors) more → OthersAdd actor names actors xs (log ++ more)
  OthersAdd-more names actors xs log more h all = record {
    rest = h.rest ++ more;
    begins = ap (λ l. l ++ more) h.begins ∙ append_assoc xs h.rest more;
    by_others = All-append (IsOthers actor names actors) h.rest more h.by_others all;
  }

  -- of two beginnings of the log the longer goes on from the shorter by others alone
  pub OthersAdd-between : (names names' : List (List ℕ)) (actors actors' : List ℕ) (xs ys log : List (Stamped E)) → OthersAdd actor names actors xs log → OthersAdd actor names' actors' ys log
      → length xs ≤ length ys → OthersAdd actor names actors xs ys
  OthersAdd-between names names' actors actors' xs ys log h k le =
      let t = between xs h.rest ys k.rest (sym h.begins ∙ k.begins) le in
      record { rest = t.0; begins = t.1; by_others = All-earlier (IsOthers actor names actors) t.0 k.rest (subst (All (IsOthers actor names actors)) t.2 h.by_others) }

  shorter_rest : (n1 n2 : List (List ℕ)) (a1 a2 : List ℕ) (xs ys log : List (Stamped E)) → OthersAdd actor n1 a1 xs log → (k : OthersAdd actor n2 a2 ys log) → length xs ≤ length ys → All (IsOthers actor n1 a1) k.rest
  shorter_rest n1 n2 a1 a2 xs ys log h k le =
      let t = between xs h.rest ys k.rest (sym h.begins ∙ k.begins) le in
      All-later (IsOthers actor n1 a1) t.0 k.rest (subst (All (IsOthers actor n1 a1)) t.2 h.by_others)

  pub OthersAdd-longer : (n1 n2 : List (List ℕ)) (a1 a2 : List ℕ) (xs ys log : List (Stamped E)) → OthersAdd actor n1 a1 xs log → OthersAdd actor n2 a2 ys log
      → OthersAdd actor (n1 ++ n2) (a1 ++ a2) (longer xs ys) log
  OthersAdd-longer n1 n2 a1 a2 xs ys log h k =
      elim (ltb (length xs) (length ys)) as (λ b. ltb (length xs) (length ys) ≡ b → OthersAdd actor (n1 ++ n2) (a1 ++ a2) (cond b ys xs) log) [
        | true ↦ λ lt. let le : length xs ≤ length ys = omega (arith, ltb-true (length xs) (length ys) lt) in
            record { rest = k.rest; begins = k.begins; by_others = All-both n1 n2 a1 a2 k.rest (shorter_rest n1 n2 a1 a2 xs ys log h k le) k.by_others }
        | false ↦ λ ge. let le : length ys ≤ length xs = ltb-false (length xs) (length ys) ge in
            record { rest = h.rest; begins = h.begins; by_others = All-both n1 n2 a1 a2 h.rest h.by_others (shorter_rest n2 n1 a2 a1 ys xs log k h le) }
      ] refl

pub length-longer-left : {E : Type 0} (xs ys : List (Stamped E)) → length xs ≤ length (longer xs ys)
length-longer-left xs ys = elim (ltb (length xs) (length ys)) as (λ b. ltb (length xs) (length ys) ≡ b → length xs ≤ length (cond b ys xs)) [
  | true ↦ λ lt. omega (arith, ltb-true (length xs) (length ys) lt)
  | false ↦ λ ge. omega arith
] refl

pub length-longer-right : {E : Type 0} (xs ys : List (Stamped E)) → length ys ≤ length (longer xs ys)
length-longer-right xs ys = elim (ltb (length xs) (length ys)) as (λ b. ltb (length xs) (length ys) ≡ b → length ys ≤ length (cond b ys xs)) [
  | true ↦ λ lt. omega arith
  | false ↦ λ ge. ltb-false (length xs) (length ys) ge
] refl
