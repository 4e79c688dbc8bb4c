-- Which entries of a history were made by whom, and what one turn adds to it.
use Rattle.std.proofs.Common.{◌≡◌, ℕ, ◌+◌, ◌≤◌, Bool, true, false, ◌||◌, cond, List, [], ◌∷◌, ◌++◌, map, filter, drop, length, All, Contains, Option, Some, None, ◌⊎◌, ◌↔◌, inl, inr, ⊎_elim, refl, sym, ap, ◌∙◌, subst, arith, append-nil, add-zero}
use Rattle.std.proofs.lemmas.List.Elements.{All-nil, All-cons, All-head, All-tail, Contains-append_left, Contains-append_right, Contains-append_cases}
use Rattle.std.proofs.lemmas.List.Prefix.{front_rest}
use Rattle.std.specs.List.{enumerate_from}
use Rattle.blk_base.specs.declared.memory.Room.{Room}
use Rattle.blk_lock.specs.declared.known.Stamped.{Stamped}
use Rattle.blk_lock.specs.Rooms.{Measure, amount}
use Rattle.blk_lock.specs.Stamps.{same_name, is_among, entries_of, stamped, room_taken, made_by, IsOthers, OthersAdd}
use Rattle.blk_lock.specs.Plays.{made_since}
use Rattle.blk_lock.proofs.Histories.{All-then}

or_assoc : (a b c : Bool) → (a || (b || c)) ≡ ((a || b) || c)
or_assoc true b c = refl
or_assoc false b c = refl

pub is_among-append : (xs ys : List (List ℕ)) (n : List ℕ) → is_among (xs ++ ys) n ≡ (is_among xs n || is_among ys n)
is_among-append [] ys n = refl
is_among-append (x ∷ xs) ys n = ap (λ t. same_name x n || t) (is_among-append xs ys n) ∙ or_assoc (same_name x n) (is_among xs n) (is_among ys n)

module _ {E : Type 0} where
  -- the entries that those of these names made, with their places counted from n
  abbrev pub made_from : List (List ℕ) → ℕ → List (Stamped E) → List (ℕ × E)
  made_from names n stamps = map (λ p. (p.0, p.1.entry)) (filter (λ p. is_among names p.1.maker) (enumerate_from n stamps))

  abbrev put_before : Bool → (ℕ × E) → List (ℕ × E) → List (ℕ × E)
  put_before b x xs = cond b (x ∷ xs) xs

  made_from-cons : (names : List (List ℕ)) (n : ℕ) (s : Stamped E) (xs : List (Stamped E)) → made_from names n (s ∷ xs) ≡ put_before (is_among names s.maker) (n, s.entry) (made_from names (n + 1) xs)
  made_from-cons names n s xs = elim (is_among names s.maker) as (λ b. map (λ p. (p.0, p.1.entry)) (cond b ((n, s) ∷ filter (λ p. is_among names p.1.maker) (enumerate_from (n + 1) xs)) (filter (λ p. is_among names p.1.maker) (enumerate_from (n + 1) xs))) ≡ put_before b (n, s.entry) (made_from names (n + 1) xs)) [ true ↦ refl | false ↦ refl ]

  put_before-append : (b : Bool) (x : ℕ × E) (xs ys : List (ℕ × E)) → put_before b x (xs ++ ys) ≡ put_before b x xs ++ ys
  put_before-append true x xs ys = refl
  put_before-append false x xs ys = refl

  pub made_from-append : (names : List (List ℕ)) (n : ℕ) (xs ys : List (Stamped E)) → made_from names n (xs ++ ys) ≡ made_from names n xs ++ made_from names (n + length xs) ys
  made_from-append names n [] ys = ap (λ k. made_from names k ys) (sym (add-zero n))
  made_from-append names n (s ∷ xs) ys =
      let place : n + 1 + length xs ≡ n + length (s ∷ xs) = omega arith in
      made_from-cons names n s (xs ++ ys)
      ∙ ap (put_before (is_among names s.maker) (n, s.entry)) (made_from-append names (n + 1) xs ys)
      ∙ put_before-append (is_among names s.maker) (n, s.entry) (made_from names (n + 1) xs) (made_from names (n + 1 + length xs) ys)
      ∙ ap (λ k. put_before (is_among names s.maker) (n, s.entry) (made_from names (n + 1) xs) ++ made_from names k ys) place
      ∙ ap (λ l. l ++ made_from names (n + length (s ∷ xs)) ys) (sym (made_from-cons names n s xs))

  pub made_from-none : (names : List (List ℕ)) (n : ℕ) (xs : List (Stamped E)) → All (λ s. is_among names s.maker ≡ false) xs → made_from names n xs ≡ []
  made_from-none names n [] all = refl
  made_from-none names n (s ∷ xs) all =
      let P : Stamped E → Type 0 = λ x. is_among names x.maker ≡ false in
      made_from-cons names n s xs ∙ ap (λ b. put_before b (n, s.entry) (made_from names (n + 1) xs)) (All-head P s xs all) ∙ made_from-none names (n + 1) xs (All-tail P s xs all)

  pub made_from-all : (names : List (List ℕ)) (n : ℕ) (xs : List (Stamped E)) → All (λ s. is_among names s.maker ≡ true) xs → made_from names n xs ≡ enumerate_from n (entries_of xs)
  made_from-all names n [] all = refl
  made_from-all names n (s ∷ xs) all =
      let P : Stamped E → Type 0 = λ x. is_among names x.maker ≡ true in
      made_from-cons names n s xs ∙ ap (λ b. put_before b (n, s.entry) (made_from names (n + 1) xs)) (All-head P s xs all) ∙ ap (λ l. (n, s.entry) ∷ l) (made_from-all names (n + 1) xs (All-tail P s xs all))

  -- what others add is not the pass's own
  pub made_by-others : (actor : E → Option ℕ) (names : List (List ℕ)) (actors : List ℕ) (xs ys : List (Stamped E)) → OthersAdd actor names actors xs ys → made_by names ys ≡ made_by names xs
  made_by-others actor names actors xs ys h =
      ap (made_by names) h.begins
      ∙ made_from-append names 0 xs h.rest
      ∙ ap (λ l. made_by names xs ++ l) (made_from-none names (0 + length xs) h.rest (All-then (IsOthers actor names actors) (λ s. is_among names s.maker ≡ false) (λ s o. o.by_another) h.rest h.by_others))
      ∙ append-nil (made_by names xs)

  here : (e x : ℕ × E) (l : List (ℕ × E)) → Contains (e ∷ []) x → Contains (e ∷ l) x
  here e x l = Contains-append_left (e ∷ []) l x

  later : (b : Bool) (e x : ℕ × E) (l : List (ℕ × E)) → Contains l x → Contains (put_before b e l) x
  later true e x l = Contains-append_right (e ∷ []) l x
  later false e x l = λ c. c

  first_or_later : (e x : ℕ × E) (l : List (ℕ × E)) → Contains (e ∷ l) x → Contains (e ∷ []) x ⊎ Contains l x
  first_or_later e x l = Contains-append_cases (e ∷ []) l x

  either_put : (a b : Bool) (e x : ℕ × E) (both one two : List (ℕ × E)) → (Contains both x → Contains one x ⊎ Contains two x)
      → Contains (put_before (a || b) e both) x → Contains (put_before a e one) x ⊎ Contains (put_before b e two) x
  either_put true b e x both one two tail c = ⊎_elim (λ h. inl (here e x one h)) (λ l. ⊎_elim (λ m. inl (later true e x one m)) (λ m. inr (later b e x two m)) (tail l)) (first_or_later e x both c)
  either_put false true e x both one two tail c = ⊎_elim (λ h. inr (here e x two h)) (λ l. ⊎_elim inl (λ m. inr (later true e x two m)) (tail l)) (first_or_later e x both c)
  either_put false false e x both one two tail c = tail c

  put_either : (a b : Bool) (e x : ℕ × E) (both one two : List (ℕ × E)) → (Contains one x ⊎ Contains two x → Contains both x)
      → Contains (put_before a e one) x ⊎ Contains (put_before b e two) x → Contains (put_before (a || b) e both) x
  put_either true b e x both one two tail (inl c) = ⊎_elim (here e x both) (λ l. later true e x both (tail (inl l))) (first_or_later e x one c)
  put_either false b e x both one two tail (inl c) = later b e x both (tail (inl c))
  put_either true true e x both one two tail (inr c) = ⊎_elim (here e x both) (λ l. later true e x both (tail (inr l))) (first_or_later e x two c)
  put_either false true e x both one two tail (inr c) = ⊎_elim (here e x both) (λ l. later true e x both (tail (inr l))) (first_or_later e x two c)
  put_either true false e x both one two tail (inr c) = later true e x both (tail (inr c))
  put_either false false e x both one two tail (inr c) = tail (inr c)

  by_each : (n1 n2 : List (List ℕ)) (n : ℕ) (s : Stamped E) (xs : List (Stamped E)) → made_from (n1 ++ n2) n (s ∷ xs) ≡ put_before (is_among n1 s.maker || is_among n2 s.maker) (n, s.entry) (made_from (n1 ++ n2) (n + 1) xs)
  by_each n1 n2 n s xs = made_from-cons (n1 ++ n2) n s xs ∙ ap (λ b. put_before b (n, s.entry) (made_from (n1 ++ n2) (n + 1) xs)) (is_among-append n1 n2 s.maker)

  -- what two have made is what the one has made and what the other has
  made_by_either : (n1 n2 : List (List ℕ)) (n : ℕ) (xs : List (Stamped E)) (x : ℕ × E) → Contains (made_from (n1 ++ n2) n xs) x → Contains (made_from n1 n xs) x ⊎ Contains (made_from n2 n xs) x
  made_by_either n1 n2 n [] x c = inl c
  made_by_either n1 n2 n (s ∷ xs) x c =
      let has : List (ℕ × E) → Type 0 = λ l. Contains l x in
      let t = either_put (is_among n1 s.maker) (is_among n2 s.maker) (n, s.entry) x (made_from (n1 ++ n2) (n + 1) xs) (made_from n1 (n + 1) xs) (made_from n2 (n + 1) xs) (made_by_either n1 n2 (n + 1) xs x) (subst has (by_each n1 n2 n s xs) c) in
      ⊎_elim (λ l. inl (subst has (sym (made_from-cons n1 n s xs)) l)) (λ r. inr (subst has (sym (made_from-cons n2 n s xs)) r)) t

  either_made : (n1 n2 : List (List ℕ)) (n : ℕ) (xs : List (Stamped E)) (x : ℕ × E) → Contains (made_from n1 n xs) x ⊎ Contains (made_from n2 n xs) x → Contains (made_from (n1 ++ n2) n xs) x
  either_made n1 n2 n [] x c = ⊎_elim (λ l. l) (λ r. r) c
  either_made n1 n2 n (s ∷ xs) x c =
      let has : List (ℕ × E) → Type 0 = λ l. Contains l x in
      subst has (sym (by_each n1 n2 n s xs)) (put_either (is_among n1 s.maker) (is_among n2 s.maker) (n, s.entry) x (made_from (n1 ++ n2) (n + 1) xs) (made_from n1 (n + 1) xs) (made_from n2 (n + 1) xs) (either_made n1 n2 (n + 1) xs x)
      (⊎_elim (λ l. inl (subst has (made_from-cons n1 n s xs) l)) (λ r. inr (subst has (made_from-cons n2 n s xs) r)) c))

  pub made_by-append : (n1 n2 : List (List ℕ)) (xs : List (Stamped E)) (x : ℕ × E) → Contains (made_by (n1 ++ n2) xs) x ↔ (Contains (made_by n1 xs) x ⊎ Contains (made_by n2 xs) x)
  made_by-append n1 n2 xs x = (made_by_either n1 n2 0 xs x, either_made n1 n2 0 xs x)

  pub entries_of-stamped : (name : List ℕ) (took : Room) (es : List E) → entries_of (stamped name took es) ≡ es
  entries_of-stamped name took [] = refl
  entries_of-stamped name took (e ∷ es) = ap (λ l. e ∷ l) (entries_of-unmarked es)
    where
      entries_of-unmarked : (es : List E) → entries_of (map (λ x. record { entry = x; maker = name; took = None }) es) ≡ es
      entries_of-unmarked [] = refl
      entries_of-unmarked (e ∷ es) = ap (λ l. e ∷ l) (entries_of-unmarked es)

  unmarked_all : (P : Stamped E → Type 0) (Q : E → Type 0) (name : List ℕ) (es : List E) → ((e : E) (t : Option Room) → Q e → P (record { entry = e; maker = name; took = t })) → All Q es → All P (map (λ x. record { entry = x; maker = name; took = None }) es)
  unmarked_all P Q name [] each all = All-nil P
  unmarked_all P Q name (e ∷ es) each all = All-cons P (record { entry = e; maker = name; took = None }) (map (λ x. record { entry = x; maker = name; took = None }) es) (each e None (All-head Q e es all)) (unmarked_all P Q name es each (All-tail Q e es all))

  -- what holds of each entry that is made under a name, holds of each where they stand with it
  pub All-stamped : (P : Stamped E → Type 0) (Q : E → Type 0) (name : List ℕ) (took : Room) (es : List E) → ((e : E) (t : Option Room) → Q e → P (record { entry = e; maker = name; took = t })) → All Q es → All P (stamped name took es)
  All-stamped P Q name took [] each all = All-nil P
  All-stamped P Q name took (e ∷ es) each all = All-cons P (record { entry = e; maker = name; took = Some took }) (map (λ x. record { entry = x; maker = name; took = None }) es) (each e (Some took) (All-head Q e es all)) (unmarked_all P Q name es each (All-tail Q e es all))

  unmarked_taken : (k : Measure) (name : List ℕ) (es : List E) → room_taken k (map (λ x. record { entry = x; maker = name; took = None }) es) ≡ 0
  unmarked_taken k name [] = refl
  unmarked_taken k name (e ∷ es) = omega (arith, unmarked_taken k name es)

  pub taken-stamped : (k : Measure) (name : List ℕ) (took : Room) (es : List E) → room_taken k (stamped name took es) ≤ amount k took
  taken-stamped k name took [] = omega arith
  taken-stamped k name took (e ∷ es) = omega (arith, unmarked_taken k name es)

  pub taken-append : (k : Measure) (xs ys : List (Stamped E)) → room_taken k (xs ++ ys) ≡ room_taken k xs + room_taken k ys
  taken-append k [] ys = omega arith
  taken-append k (s ∷ xs) ys = omega (arith, taken-append k xs ys)

  pub length-entries_of : (xs : List (Stamped E)) → length (entries_of xs) ≡ length xs
  length-entries_of [] = refl
  length-entries_of (s ∷ xs) = omega (arith, length-entries_of xs)

  pub entries_of-append : (xs ys : List (Stamped E)) → entries_of (xs ++ ys) ≡ entries_of xs ++ entries_of ys
  entries_of-append [] ys = refl
  entries_of-append (s ∷ xs) ys = ap (λ l. s.entry ∷ l) (entries_of-append xs ys)

  -- what was made since a history was seen is what follows on it
  pub made_since-append : (seen : List (Stamped E)) (es : List E) → made_since seen (entries_of seen ++ es) ≡ es
  made_since-append seen es = ap (λ n. drop n (entries_of seen ++ es)) (sym (length-entries_of seen)) ∙ front_rest (entries_of seen ++ es) (entries_of seen) es refl

  -- what one turn makes is its pass's own, once, at the places that follow
  pub made_by-stamped : (names : List (List ℕ)) (name : List ℕ) (took : Room) (seen : List (Stamped E)) (es : List E) → is_among names name ≡ true
      → made_by names (seen ++ stamped name took es) ≡ made_by names seen ++ enumerate_from (length seen) es
  made_by-stamped names name took seen es named =
      let start : 0 + length seen ≡ length seen = omega arith in
      let all : All (λ s. is_among names s.maker ≡ true) (stamped name took es) = All-stamped (λ s. is_among names s.maker ≡ true) (λ e. Unit {0}) name took es (λ e t u. named) (λ k d lt. tt) in
      made_from-append names 0 seen (stamped name took es)
      ∙ ap (λ l. made_by names seen ++ l) (made_from-all names (0 + length seen) (stamped name took es) all)
      ∙ ap (λ n. made_by names seen ++ enumerate_from n (entries_of (stamped name took es))) start
      ∙ ap (λ l. made_by names seen ++ enumerate_from (length seen) l) (entries_of-stamped name took es)
