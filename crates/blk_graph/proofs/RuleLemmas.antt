-- The first conflict is none exactly where the permission rule holds.
use Rattle.std.proofs.Common.{◌≡◌, ◌≢◌, ◌⊎◌, ℕ, zero, suc, ◌+◌, List, [], ◌∷◌, refl, sym, ◌∙◌, ap, inl, inr, arith, Bool, true, false, cond, Option, Some, None}
use Rattle.std.specs.Prelude.{◌&&◌, not, ◌==◌, ◌↔◌, IsNone, IfSome, is_some}
use Rattle.std.specs.Option.{option_map}
use Rattle.std.specs.List.{Contains, find, slice_get}
use Rattle.std.proofs.lemmas.Bool.{ne_eqb, eqb-true, eqb-false, eq-eqb}
use Rattle.std.proofs.lemmas.Option.{slice_get_within, get_or_from_slice_get}
use Rattle.blk_graph.specs.declared.edge.Edge.{Edge}
use Rattle.blk_graph.specs.declared.edge.Conflict.{Conflict}
use Rattle.blk_graph.specs.declared.edge.Perms.{Perms}
use Rattle.blk_graph.specs.declared.edge.Perm.{Perm}
use Rattle.blk_graph.specs.declared.edge.Perm.TheVariants.{Read, Write, Unchanged}
use Rattle.blk_graph.specs.Edges.{has_perm, ArePermsWithin}
use Rattle.blk_graph.specs.Rule.{KeepsPermissions, GuestsWriteAlone, IsBroken, AllShare, AsksOnly, first_denied, first_answer, first_answer_from, conflict_on, conflict_between, conflict_of, conflict_at, first_conflict}
use Rattle.blk_graph.proofs.Members.{Contains-here, Contains-there, Contains-cases, Contains-nil, find-Some}
use Rattle.blk_graph.proofs.CycleLemmas.{and-left, and-right}

pub Contains-slice_get : {X : Type 0} (xs : List X) (i : ℕ) (x : X) → slice_get xs i ≡ Some x → Contains xs x
Contains-slice_get xs i x h = (i, slice_get_within xs i x h, get_or_from_slice_get xs i x x h)

module _ {X Y : Type 0} where
  pub first_answer-None : (f : X → Option Y) (xs : List X) → first_answer f xs ≡ None
      → (x : X) → Contains xs x → f x ≡ None
  first_answer-None f [] h x m = absurd (Contains-nil x m)
  first_answer-None f (y ∷ xs) h x m =
      by_answer (f y) refl (λ k. first_answer-None f xs k x) h (Contains-cases y xs x m)
    where
      by_answer : (o : Option Y) → f y ≡ o → (first_answer f xs ≡ None → Contains xs x → f x ≡ None)
          → elim o as (λ _. Option Y) [ None ↦ first_answer f xs | Some z ↦ Some z ] ≡ None
          → (x ≡ y) ⊎ Contains xs x → f x ≡ None
      by_answer None e ih k (inl here) = ap f here ∙ e
      by_answer None e ih k (inr there) = ih k there
      by_answer (Some z) e ih k m = absurd cc

  pub first_answer-none : (f : X → Option Y) (xs : List X) → ((x : X) → Contains xs x → f x ≡ None)
      → first_answer f xs ≡ None
  first_answer-none f [] h = refl
  first_answer-none f (y ∷ xs) h =
      rw (h y (Contains-here y xs), first_answer) (first_answer-none f xs (λ x m. h x (Contains-there y xs x m)))

  pub first_answer-Some : (f : X → Option Y) (xs : List X) (z : Y) → first_answer f xs ≡ Some z
      → (x : X) × (f x ≡ Some z)
  first_answer-Some f [] z h = absurd cc
  first_answer-Some f (y ∷ xs) z h = by_answer (f y) refl (first_answer-Some f xs z) h
    where
      by_answer : (o : Option Y) → f y ≡ o → (first_answer f xs ≡ Some z → (x : X) × (f x ≡ Some z))
          → elim o as (λ _. Option Y) [ None ↦ first_answer f xs | Some w ↦ Some w ] ≡ Some z
          → (x : X) × (f x ≡ Some z)
      by_answer None e ih k = ih k
      by_answer (Some w) e ih k = (y, e ∙ k)

  pub first_answer_from-None : (f : ℕ → X → Option Y) (k : ℕ) (xs : List X) → first_answer_from f k xs ≡ None
      → (i : ℕ) (x : X) → slice_get xs i ≡ Some x → f (k + i) x ≡ None
  first_answer_from-None f k [] h i x m = absurd cc
  first_answer_from-None f k (y ∷ xs) h i x m =
      by_answer (f k y) refl (λ l. first_answer_from-None f (k + 1) xs l) h i m
    where
      by_answer : (o : Option Y) → f k y ≡ o
          → (first_answer_from f (k + 1) xs ≡ None → (i : ℕ) (x : X) → slice_get xs i ≡ Some x → f (k + 1 + i) x ≡ None)
          → elim o as (λ _. Option Y) [ None ↦ first_answer_from f (k + 1) xs | Some w ↦ Some w ] ≡ None
          → (i : ℕ) → slice_get (y ∷ xs) i ≡ Some x → f (k + i) x ≡ None
      by_answer None e ih l zero m =
          let same : x ≡ y = cc in
          let at : k + 0 ≡ k = omega arith in rw (same, at) e
      by_answer None e ih l (suc i) m =
          let at : k + suc i ≡ k + 1 + i = omega arith in rw at (ih l i x m)
      by_answer (Some w) e ih l i m = absurd cc

  pub first_answer_from-none : (f : ℕ → X → Option Y) (k : ℕ) (xs : List X)
      → ((i : ℕ) (x : X) → slice_get xs i ≡ Some x → f (k + i) x ≡ None) → first_answer_from f k xs ≡ None
  first_answer_from-none f k [] h = refl
  first_answer_from-none f k (y ∷ xs) h =
      let at : k + 0 ≡ k = omega arith in
      let here : f k y ≡ None = rw at at (h 0 y refl) in
      rw (here, first_answer_from) (first_answer_from-none f (k + 1) xs
      (λ i x m. let to : k + 1 + i ≡ k + suc i = omega arith in rw to (h (suc i) x m)))

  pub first_answer_from-Some : (f : ℕ → X → Option Y) (k : ℕ) (xs : List X) (z : Y)
      → first_answer_from f k xs ≡ Some z
      → (i : ℕ) × (x : X) × (slice_get xs i ≡ Some x) × (f (k + i) x ≡ Some z)
  first_answer_from-Some f k [] z h = absurd cc
  first_answer_from-Some f k (y ∷ xs) z h = by_answer (f k y) refl (first_answer_from-Some f (k + 1) xs z) h
    where
      by_answer : (o : Option Y) → f k y ≡ o
          → (first_answer_from f (k + 1) xs ≡ Some z
          → (i : ℕ) × (x : X) × (slice_get xs i ≡ Some x) × (f (k + 1 + i) x ≡ Some z))
          → elim o as (λ _. Option Y) [ None ↦ first_answer_from f (k + 1) xs | Some w ↦ Some w ] ≡ Some z
          → (i : ℕ) × (x : X) × (slice_get (y ∷ xs) i ≡ Some x) × (f (k + i) x ≡ Some z)
      by_answer None e ih l =
          let r = ih l in
          let at : k + suc r.0 ≡ k + 1 + r.0 = omega arith in
          (suc r.0, r.1, r.2, rw at r.3)
      by_answer (Some w) e ih l = let at : k + 0 ≡ k = omega arith in (0, y, refl, rw at (e ∙ l))

-- what `find` passes over fails the test
pub find-None : {X : Type 0} (p : X → Bool) (xs : List X) → find p xs ≡ None → (x : X) → Contains xs x → p x ≡ false
find-None p [] h x m = absurd (Contains-nil x m)
find-None {X} p (y ∷ xs) h x m = by_test (p y) refl (λ k. find-None p xs k x) h (Contains-cases y xs x m)
  where
    by_test : (b : Bool) → p y ≡ b → (find p xs ≡ None → Contains xs x → p x ≡ false)
        → cond b (Some y) (find p xs) ≡ None → (x ≡ y) ⊎ Contains xs x → p x ≡ false
    by_test true e ih k m = absurd cc
    by_test false e ih k (inl here) = ap p here ∙ e
    by_test false e ih k (inr there) = ih k there

pub find-none : {X : Type 0} (p : X → Bool) (xs : List X) → ((x : X) → Contains xs x → p x ≡ false) → find p xs ≡ None
find-none p [] h = refl
find-none p (y ∷ xs) h =
    rw (h y (Contains-here y xs), find) (find-none p xs (λ x m. h x (Contains-there y xs x m)))

-- whether a permission is asked and not shared
abbrev pub is_denied : Perms → Perms → Perm → Bool
is_denied asked shared perm = has_perm asked perm && not (has_perm shared perm)

all_perms : (perm : Perm) → Contains (Read ∷ Write ∷ Unchanged ∷ []) perm
all_perms Read = (0, omega arith, refl)
all_perms Write = (1, omega arith, refl)
all_perms Unchanged = (2, omega arith, refl)

not_denied : (a b : Bool) → (a && not b) ≡ false → a ≡ true → b ≡ true
not_denied a true h k = refl
not_denied true false h k = absurd cc
not_denied false false h k = absurd cc

shared_not_denied : (a b : Bool) → (a ≡ true → b ≡ true) → (a && not b) ≡ false
shared_not_denied true true h = refl
shared_not_denied true false h = absurd (let e : false ≡ true = h refl in cc)
shared_not_denied false b h = refl

is_shared : (b : Bool) → not b ≡ true → b ≡ false
is_shared true h = cc
is_shared false h = refl

pub IsWithin-from_None : (asked shared : Perms) → first_denied asked shared ≡ None → ArePermsWithin asked shared
IsWithin-from_None asked shared h perm a =
    not_denied (has_perm asked perm) (has_perm shared perm)
    (find-None (is_denied asked shared) (Read ∷ Write ∷ Unchanged ∷ []) h perm (all_perms perm)) a

pub None-from_IsWithin : (asked shared : Perms) → ArePermsWithin asked shared → first_denied asked shared ≡ None
None-from_IsWithin asked shared h =
    find-none (is_denied asked shared) (Read ∷ Write ∷ Unchanged ∷ [])
    (λ perm _. shared_not_denied (has_perm asked perm) (has_perm shared perm) (h perm))

pub denied_from_Some : (asked shared : Perms) (perm : Perm) → first_denied asked shared ≡ Some perm
    → (has_perm asked perm ≡ true) × (has_perm shared perm ≡ false)
denied_from_Some asked shared perm h =
    let is = (find-Some (is_denied asked shared) (Read ∷ Write ∷ Unchanged ∷ []) perm h).1 in (
      and-left (has_perm asked perm) (not (has_perm shared perm)) is,
      is_shared (has_perm shared perm) (and-right (has_perm asked perm) (not (has_perm shared perm)) is),
    )

option_map-None : {X Y : Type 0} (f : X → Y) (o : Option X) → option_map f o ≡ None → o ≡ None
option_map-None f None h = refl
option_map-None f (Some x) h = cc

option_map-Some : {X Y : Type 0} (f : X → Y) (o : Option X) (y : Y) → option_map f o ≡ Some y
    → (x : X) × (o ≡ Some x) × (f x ≡ y)
option_map-Some f None y h = absurd cc
option_map-Some f (Some x) y h = (x, refl, cc)

-- where nothing conflicts, the rule holds; a node is needed for each edge's child
pub KeepsPermissions-from_None : (ids : List ℕ) (edges : List Edge)
    → ((e : Edge) → Contains edges e → Contains ids e.child)
    → first_conflict ids edges ≡ None → KeepsPermissions edges
KeepsPermissions-from_None ids edges children h i j asking other at_i at_j differ same =
    let node : ℕ = asking.child in
    let at_node : conflict_at edges node ≡ None
    = first_answer-None (conflict_at edges) ids h node (children asking (Contains-slice_get edges i asking at_i)) in
    let of_i : conflict_of edges node i asking ≡ None
    = (let at : 0 + i ≡ i = omega arith in
    rw at at (first_answer_from-None (conflict_of edges node) 0 edges at_node i asking at_i)) in
    let own : (asking.child == node) ≡ true = eq-eqb asking.child node refl in
    let all : first_answer_from (conflict_between node i asking) 0 edges ≡ None = rw own at of_i in
    let between : conflict_between node i asking j other ≡ None
    = (let at : 0 + j ≡ j = omega arith in
    rw at at (first_answer_from-None (conflict_between node i asking) 0 edges all j other at_j)) in
    let apart : (i == j) ≡ false = ne_eqb i j differ in
    let there : (other.child == node) ≡ true = eq-eqb other.child node (sym same) in
    IsWithin-from_None asking.perm other.shared (option_map-None _ _ (rw (apart, there) at between))

-- where the rule holds, nothing conflicts
pub None-from_KeepsPermissions : (ids : List ℕ) (edges : List Edge) → KeepsPermissions edges
    → first_conflict ids edges ≡ None
None-from_KeepsPermissions ids edges rule =
    first_answer-none (conflict_at edges) ids (λ node _.
    first_answer_from-none (conflict_of edges node) 0 edges (λ i asking at_i.
    let at : 0 + i ≡ i = omega arith in
    rw at (by_own node i asking at_i (asking.child == node) refl)))
  where
    by_between : (node i : ℕ) (asking : Edge) → slice_get edges i ≡ Some asking → asking.child ≡ node
        → (j : ℕ) (other : Edge) → slice_get edges j ≡ Some other
        → (b : Bool) → (not (i == j) && other.child == node) ≡ b
        → cond b (option_map (conflict_on node asking other)
        (first_denied asking.perm other.shared)) None ≡ None
    by_between node i asking at_i own j other at_j true t =
        let apart : i ≢ j = eqb-false i j (is_shared (i == j) (and-left (not (i == j)) (other.child == node) t)) in
        let there : other.child ≡ node = eqb-true other.child node (and-right (not (i == j)) (other.child == node) t) in
        rw (None-from_IsWithin asking.perm other.shared
        (rule i j asking other at_i at_j apart (own ∙ sym there))) refl
    by_between node i asking at_i own j other at_j false t = refl

    by_own : (node i : ℕ) (asking : Edge) → slice_get edges i ≡ Some asking
        → (b : Bool) → (asking.child == node) ≡ b
        → cond b (first_answer_from (conflict_between node i asking) 0 edges) None ≡ None
    by_own node i asking at_i true t =
        first_answer_from-none (conflict_between node i asking) 0 edges (λ j other at_j.
        let at : 0 + j ≡ j = omega arith in
        rw at (by_between node i asking at_i (eqb-true asking.child node t) j other at_j
        (not (i == j) && other.child == node) refl))
    by_own node i asking at_i false t = refl

-- a conflict that is found is a broken pair
pub IsBroken-first : (ids : List ℕ) (edges : List Edge) (c : Conflict) → first_conflict ids edges ≡ Some c
    → IsBroken edges c
IsBroken-first ids edges c h =
    let at_node = first_answer-Some (conflict_at edges) ids c h in
    let node : ℕ = at_node.0 in
    let of_i = first_answer_from-Some (conflict_of edges node) 0 edges c at_node.1 in
    by_own node of_i.0 of_i.1 of_i.2 (of_i.1.child == node) refl
    (let at : 0 + of_i.0 ≡ of_i.0 = omega arith in rw at at of_i.3)
  where
    by_between : (node i : ℕ) (asking : Edge) → slice_get edges i ≡ Some asking → asking.child ≡ node
        → (j : ℕ) (other : Edge) → slice_get edges j ≡ Some other
        → (b : Bool) → (not (i == j) && other.child == node) ≡ b
        → cond b (option_map (conflict_on node asking other)
        (first_denied asking.perm other.shared)) None ≡ Some c
        → IsBroken edges c
    by_between node i asking at_i own j other at_j true t h =
        let r = option_map-Some (conflict_on node asking other)
        (first_denied asking.perm other.shared) c h in
        let d = denied_from_Some asking.perm other.shared r.0 r.1 in
        rw (sym r.2) (record {
          i = i;
          j = j;
          asking = asking;
          other = other;
          asking_at = at_i;
          other_at = at_j;
          differ = eqb-false i j (is_shared (i == j) (and-left (not (i == j)) (other.child == node) t));
          same_child = (own, eqb-true other.child node (and-right (not (i == j)) (other.child == node) t));
          parents = (refl, refl);
          asked = d.0;
          denied = d.1;
        })
    by_between node i asking at_i own j other at_j false t h = absurd cc

    by_own : (node i : ℕ) (asking : Edge) → slice_get edges i ≡ Some asking
        → (b : Bool) → (asking.child == node) ≡ b
        → cond b (first_answer_from (conflict_between node i asking) 0 edges) None ≡ Some c
        → IsBroken edges c
    by_own node i asking at_i true t h =
        let of_j = first_answer_from-Some (conflict_between node i asking) 0 edges c h in
        by_between node i asking at_i (eqb-true asking.child node t) of_j.0 of_j.1 of_j.2
        (not (i == of_j.0) && of_j.1.child == node) refl
        (let at : 0 + of_j.0 ≡ of_j.0 = omega arith in rw at at of_j.3)
    by_own node i asking at_i false t h = absurd cc

-- a guest that may write is alone among those that don't share write
pub GuestsWriteAlone-from_rule : (edges : List Edge) → KeepsPermissions edges → GuestsWriteAlone edges
GuestsWriteAlone-from_rule edges rule i j guest drive other at_i at_j differ same is_guest writes =
    rule i j drive other at_i at_j differ same Write writes

-- what the look for a first conflict says
pub record IsCheck (edges : List Edge) (result : Option Conflict) : Type 0 where
  pub rule : IsNone result ↔ KeepsPermissions edges
  pub pair : IfSome result (IsBroken edges)
  pub guests : IsNone result → GuestsWriteAlone edges

pub IsCheck-from_first : (ids : List ℕ) (edges : List Edge) (result : Option Conflict)
    → ((e : Edge) → Contains edges e → Contains ids e.child)
    → result ≡ first_conflict ids edges → IsCheck edges result
IsCheck-from_first ids edges None children is =
    let rule : KeepsPermissions edges = KeepsPermissions-from_None ids edges children (sym is) in
    record {
      rule = (λ _. rule, λ _. refl);
      pair = tt;
      guests = λ _. GuestsWriteAlone-from_rule edges rule;
    }
IsCheck-from_first ids edges (Some c) children is = record {
  rule = (
    λ h. absurd cc,
    λ rule. let none : first_conflict ids edges ≡ None = None-from_KeepsPermissions ids edges rule in absurd cc,
  );
  pair = IsBroken-first ids edges c (sym is);
  guests = λ h. absurd cc;
}

-- what every edge shares is in conflict with none
pub None-from_AllShare : (edges : List Edge) (node i : ℕ) (asking : Edge) (common : Perms) → AllShare edges node common
    → first_denied asking.perm common ≡ None → conflict_of edges node i asking ≡ None
None-from_AllShare edges node i asking common all none = by_own (asking.child == node)
  where
    by_between : (j : ℕ) (other : Edge) → slice_get edges j ≡ Some other
        → (b : Bool) → (not (i == j) && other.child == node) ≡ b
        → cond b (option_map (conflict_on node asking other) (first_denied asking.perm other.shared)) None ≡ None
    by_between j other at_j true t =
        let there : other.child ≡ node = eqb-true other.child node (and-right (not (i == j)) (other.child == node) t) in
        let within : ArePermsWithin asking.perm other.shared
        = λ perm asked. all other (Contains-slice_get edges j other at_j) there perm
        (IsWithin-from_None asking.perm common none perm asked) in
        rw (None-from_IsWithin asking.perm other.shared within) refl
    by_between j other at_j false t = refl

    by_own : (b : Bool) → cond b (first_answer_from (conflict_between node i asking) 0 edges) None ≡ None
    by_own true =
        first_answer_from-none (conflict_between node i asking) 0 edges (λ j other at_j.
        let at : 0 + j ≡ j = omega arith in
        rw at (by_between j other at_j (not (i == j) && other.child == node) refl))
    by_own false = refl

pub None-from_other_child : (edges : List Edge) (node i : ℕ) (asking : Edge) → not (asking.child == node) ≡ true
    → conflict_of edges node i asking ≡ None
None-from_other_child edges node i asking other = rw (is_shared (asking.child == node) other) refl

pub None-from_is_none : {X : Type 0} (o : Option X) → is_some o ≡ false → o ≡ None
None-from_is_none None h = refl
None-from_is_none (Some x) h = cc

pub is_some_from_is_none : {X : Type 0} (o : Option X) (b : Bool) → is_some o ≡ not b → b ≡ true → is_some o ≡ false
is_some_from_is_none o true h e = h
is_some_from_is_none o false h e = absurd cc

-- a calm node has no conflict
pub None-from_IsCalm : (edges : List Edge) (node : ℕ) (common : Perms) → AllShare edges node common
    → AsksOnly edges node common → conflict_at edges node ≡ None
None-from_IsCalm edges node common all calm =
    first_answer_from-none (conflict_of edges node) 0 edges (λ i asking at_i.
    let at : 0 + i ≡ i = omega arith in
    rw at (by_own i asking at_i (asking.child == node) refl))
  where
    by_own : (i : ℕ) (asking : Edge) → slice_get edges i ≡ Some asking → (b : Bool) → (asking.child == node) ≡ b
        → conflict_of edges node i asking ≡ None
    by_own i asking at_i true t =
        None-from_AllShare edges node i asking common all
        (calm asking (Contains-slice_get edges i asking at_i) (eqb-true asking.child node t))
    by_own i asking at_i false t = None-from_other_child edges node i asking (ap not t)
