-- What is found in lists of which one element has gone, and openings of which one is back.
use Rattle.std.proofs.Common.{◌≡◌, ◌≢◌, ◌⊎◌, ℕ, zero, suc, Bool, true, false, cond, List, [], ◌∷◌, get_or, Some, None, refl, sym, ◌∙◌, ap, subst, arith, inl, inr}
use Rattle.std.specs.Prelude.{Option, IsSome, Contains, AllPairs, find, filter, slice_get, ◌||◌}
use Rattle.std.proofs.lemmas.Bool.{cases_lt}
use Rattle.std.proofs.lemmas.List.{get_or_default}
use Rattle.blk_base.specs.Files.{is_out_as, is_out, closed_with, given_back}
use Rattle.blk_base.specs.declared.device.DeviceCall.{DeviceCall}
use Rattle.blk_base.specs.declared.file.Opened.{Opened}
use Rattle.blk_graph.proofs.Members.{Contains-nil, Contains-here, Contains-there, Contains-cases}

-- ---- lists

module _ {X : Type 0} where
  -- what passes the test is found, it or another
  pub find_there : (p : X → Bool) (xs : List X) (x : X) → Contains xs x → p x ≡ true → IsSome (find p xs)
  find_there p [] x there passes = absurd (Contains-nil x there)
  find_there p (y ∷ xs) x there passes = by_test (p y) refl (λ later. find_there p xs x later passes)
    where
      by_test : (b : Bool) → p y ≡ b → (Contains xs x → IsSome (find p xs)) → IsSome (cond b (Some y) (find p xs))
      by_test true is rest = refl
      by_test false is rest = elim (Contains-cases y xs x there) [
        | inl same ↦ let bad : true ≡ false = sym passes ∙ ap p same ∙ is in absurd (cc bad)
        | inr later ↦ rest later
      ]

  -- where nothing passes, nothing is found
  pub find_none : (p : X → Bool) (xs : List X) → ((x : X) → Contains xs x → p x ≡ false) → find p xs ≡ None
  find_none p [] none = refl
  find_none p (y ∷ xs) none =
      rw (none y (Contains-here y xs)) (find_none p xs (λ x there. none x (Contains-there y xs x there)))

  -- what passes the test is kept
  pub kept-in : (p : X → Bool) (xs : List X) (x : X) → Contains xs x → p x ≡ true → Contains (filter p xs) x
  kept-in p [] x there passes = absurd (Contains-nil x there)
  kept-in p (y ∷ xs) x there passes = by_test (p y) refl (λ later. kept-in p xs x later passes)
    where
      by_test : (b : Bool) → p y ≡ b → (Contains xs x → Contains (filter p xs) x) → Contains (cond b (y ∷ filter p xs) (filter p xs)) x
      by_test true is rest = elim (Contains-cases y xs x there) [
        | inl same ↦ rw same (Contains-here y (filter p xs))
        | inr later ↦ Contains-there y (filter p xs) x (rest later)
      ]
      by_test false is rest = elim (Contains-cases y xs x there) [
        | inl same ↦ let bad : true ≡ false = sym passes ∙ ap p same ∙ is in absurd (cc bad)
        | inr later ↦ rest later
      ]

  -- two different elements are related, one way or the other
  pub pairs : (R : X → X → Type 0) (xs : List X) (a b : X) → AllPairs R xs → Contains xs a → Contains xs b → (a ≡ b) ⊎ (R a b ⊎ R b a)
  pairs R xs a b all there other = elim (cases_lt there.0 other.0) [
    | inl before ↦ inr (inl (subst (λ (y : X). R a y) at_b (subst (λ (x : X). R x (get_or xs other.0 a)) there.2 (all there.0 other.0 a before other.1))))
    | inr behind ↦ elim (cases_lt other.0 there.0) [
      | inl before ↦ inr (inr (subst (λ (y : X). R b y) at_a (subst (λ (x : X). R x (get_or xs there.0 b)) other.2 (all other.0 there.0 b before there.1))))
      | inr also ↦
          let same : there.0 ≡ other.0 = omega arith in
          inl (sym there.2 ∙ ap (λ (k : ℕ). get_or xs k a) same ∙ at_b)
    ]
  ]
    where
      at_b : get_or xs other.0 a ≡ b
      at_b = get_or_default xs other.0 a b other.1 ∙ other.2

      at_a : get_or xs there.0 b ≡ a
      at_a = get_or_default xs there.0 b a there.1 ∙ there.2

-- ---- openings

-- the device of that name that is out is that of one opening
pub record IsOnlyOut (name : List ℕ) (opened : List Opened) (k : ℕ) (o : Opened) : Type 0 where
  pub at : slice_get opened k ≡ Some o
  pub out : is_out_as name o ≡ true
  pub only : (j : ℕ) (p : Opened) → slice_get opened j ≡ Some p → is_out_as name p ≡ true → j ≡ k

later : (name : List ℕ) (p : Opened) (opened : List Opened) (k : ℕ) (o : Opened) → IsOnlyOut name (p ∷ opened) (suc k) o → IsOnlyOut name opened k o
later name p opened k o is = record {
  at = is.at;
  out = is.out;
  only = λ j q at out. omega (arith, is.only (suc j) q at out);
}

first_is_in : (name : List ℕ) (p : Opened) (opened : List Opened) (k : ℕ) (o : Opened) → IsOnlyOut name (p ∷ opened) (suc k) o → is_out_as name p ≡ false
first_is_in name p opened k o is = by_test (is_out_as name p) refl
  where
    by_test : (b : Bool) → is_out_as name p ≡ b → b ≡ false
    by_test true out = absurd (omega (arith, is.only 0 p refl out))
    by_test false out = refl

-- a name that is out at all
pub out_there : (name : List ℕ) (opened : List Opened) (k : ℕ) (o : Opened) → slice_get opened k ≡ Some o → is_out_as name o ≡ true → is_out name opened ≡ true
out_there name [] k o at out = absurd (let bad : ⊥ = cc at in bad)
out_there name (p ∷ opened) zero o at out = let same : p ≡ o = cc at in rw (same, out) refl
out_there name (p ∷ opened) (suc k) o at out = rw (out_there name opened k o at out) (or_true (is_out_as name p))
  where
    or_true : (b : Bool) → (b || true) ≡ true
    or_true true = refl
    or_true false = refl

-- its opening has its count and its call once it is back
pub given-there : (name : List ℕ) (count : ℕ) (call : Option DeviceCall) (opened : List Opened) (k : ℕ) (o : Opened) → IsOnlyOut name opened k o
    → slice_get (given_back name count call opened) k ≡ Some (closed_with count call o)
given-there name count call [] k o is = absurd (let bad : ⊥ = cc is.at in bad)
given-there name count call (p ∷ opened) zero o is =
    let same : p ≡ o = cc is.at in
    rw (same, is.out) refl
given-there name count call (p ∷ opened) (suc k) o is =
    rw (first_is_in name p opened k o is) (given-there name count call opened k o (later name p opened k o is))

-- and all others are as before
pub given-other : (name : List ℕ) (count : ℕ) (call : Option DeviceCall) (opened : List Opened) (k : ℕ) (o : Opened) → IsOnlyOut name opened k o
    → (j : ℕ) → j ≢ k → slice_get (given_back name count call opened) j ≡ slice_get opened j
given-other name count call [] k o is j apart = absurd (let bad : ⊥ = cc is.at in bad)
given-other name count call (p ∷ opened) zero o is zero apart = absurd (apart refl)
given-other name count call (p ∷ opened) zero o is (suc j) apart =
    let same : p ≡ o = cc is.at in
    rw (same, is.out) refl
given-other name count call (p ∷ opened) (suc k) o is zero apart = rw (first_is_in name p opened k o is) refl
given-other name count call (p ∷ opened) (suc k) o is (suc j) apart =
    rw (first_is_in name p opened k o is)
    (given-other name count call opened k o (later name p opened k o is) j (λ same. apart (ap suc same)))
