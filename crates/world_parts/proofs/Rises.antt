-- Rises that a history names and jobs keep: some of them, those behind more events, and one more among them.
use Rattle.std.proofs.Common.{◌≡◌, ◌⊎◌, suc, List, [], ◌∷◌, ◌++◌, get_or, refl, sym, ◌∙◌, ap, subst, arith, inl, inr, Option, Some, None}
use Rattle.std.specs.Prelude.{All, AllPairs, Contains, option_to_list}
use Rattle.std.proofs.lemmas.List.{append-nil, get_or_append_left, length-append}
use Rattle.std.proofs.lemmas.List.Elements.{All-append, All-cons, All-contains, All-weaker, filter_map-append}
use Rattle.blk_base.specs.declared.fault.FaultAt.{FaultAt}
use Rattle.blk_graph.proofs.Members.{Contains-nil, Contains-cases, Contains-here, Contains-there}
use Rattle.blk_graph.proofs.RoleLemmas.{tail_pairs, head_pairs, more_pairs}
use Rattle.block_jobs.specs.Work.{JobWork}
use Rattle.blk_history.specs.declared.event.Event.{Event}
use Rattle.flat_machine.specs.Licence.{AreLicensed, Counts, Differ, IsBetweenCounts, named_in, faults_of}
use Rattle.world_parts.specs.Counting.{IsReachedBy, RunsOn}
use Rattle.world_parts.specs.Face.{WorldSeen, first_counts, counts_now}
use Rattle.world_parts.specs.Keeping.{AreRises, all_faults, faults_kept}
use Rattle.world_parts.proofs.CountLemmas.{between-on, differs}

-- ---- lists

all-front : {A : Type 0} (P : A → Type 0) (xs ys : List A) → All P (xs ++ ys) → All P xs
all-front P xs ys all k d less = let long = length-append xs ys in subst P (get_or_append_left xs ys d k less) (all k d (omega arith))

all-back : {A : Type 0} (P : A → Type 0) (xs ys : List A) → All P (xs ++ ys) → All P ys
all-back P [] ys all = all
all-back P (x ∷ xs) ys all = all-back P xs ys (λ k d less. all (suc k) d (omega (arith, less)))

pairs-front : {A : Type 0} (R : A → A → Type 0) (xs ys : List A) → AllPairs R (xs ++ ys) → AllPairs R xs
pairs-front R xs ys all i j d less within =
    let long = length-append xs ys in
    let first = get_or_append_left xs ys d i (omega (arith, less, within)) in
    let second = get_or_append_left xs ys d j within in
    subst (λ a. R a (get_or xs j d)) first (subst (R (get_or (xs ++ ys) i d)) second (all i j d less (omega (arith, within))))

-- a member of one list and another behind it
pub in-either : {A : Type 0} (xs ys : List A) (y : A) → Contains (xs ++ ys) y → Contains xs y ⊎ Contains ys y
in-either [] ys y there = inr there
in-either (x ∷ xs) ys y there = elim (Contains-cases x (xs ++ ys) y there) [
  | inl same ↦ inl (subst (λ a. Contains (x ∷ xs) a) (sym same) (Contains-here x xs))
  | inr later ↦ elim (in-either xs ys y later) [
    | inl first ↦ inl (Contains-there x xs y first)
    | inr second ↦ inr second
  ]
]

pub pairs-put : {A : Type 0} (R : A → A → Type 0) (x : A) (xs ys : List A) → AllPairs R (xs ++ ys) → ((y : A) → Contains xs y → R y x) → ((y : A) → Contains ys y → R x y)
    → AllPairs R (xs ++ x ∷ ys)
pairs-put R x [] ys all before behind = more_pairs R x ys behind all
pairs-put {A = A} R x (z ∷ xs) ys all before behind =
    more_pairs R z (xs ++ x ∷ ys) related (pairs-put R x xs ys (tail_pairs R z (xs ++ ys) all) (λ y there. before y (Contains-there z xs y there)) behind)
  where
    onto : (y : A) → Contains (xs ++ ys) y → R z y
    onto y there = head_pairs R z (xs ++ ys) all y there

    front : (ws : List A) (y : A) → Contains ws y → Contains (ws ++ ys) y
    front [] y there = absurd (Contains-nil y there)
    front (w ∷ ws) y there = elim (Contains-cases w ws y there) [
      | inl same ↦ subst (λ a. Contains (w ∷ ws ++ ys) a) (sym same) (Contains-here w (ws ++ ys))
      | inr later ↦ Contains-there w (ws ++ ys) y (front ws y later)
    ]

    back : (ws : List A) (y : A) → Contains ys y → Contains (ws ++ ys) y
    back [] y there = there
    back (w ∷ ws) y there = Contains-there w (ws ++ ys) y (back ws y there)

    related : (y : A) → Contains (xs ++ x ∷ ys) y → R z y
    related y there = elim (in-either xs (x ∷ ys) y there) [
      | inl first ↦ onto y (front xs y first)
      | inr second ↦ elim (Contains-cases x ys y second) [
        | inl same ↦ subst (R z) (sym same) (before z (Contains-here z xs))
        | inr later ↦ onto y (back xs y later)
      ]
    ]

-- ---- rises

pub rises-front : (opening now : Counts) (xs ys : List FaultAt) → AreRises opening now (xs ++ ys) → AreRises opening now xs
rises-front opening now xs ys is = record {
  rises = all-front (IsBetweenCounts opening now) xs ys is.rises;
  once = pairs-front Differ xs ys is.once;
}

-- the faults that a history names are among those
pub licensed-kept : (opening now : Counts) (h : List Event) (works : List JobWork) → AreRises opening now (all_faults h works) → AreLicensed opening now h
licensed-kept opening now h works is =
    let front = rises-front opening now (faults_of h) (faults_kept works) is in
    record { rises = front.rises; once = front.once }

differ-back : (a b : FaultAt) → Differ a b → Differ b a
differ-back a b is from count = count ∙ is (sym from) (sym count)

module _ (w v : WorldSeen) (runs : RunsOn w v) where
  pub rises-on : (fs : List FaultAt) → AreRises (first_counts w) (counts_now w) fs → AreRises (first_counts v) (counts_now v) fs
  rises-on fs is = record {
    rises = All-weaker (IsBetweenCounts (first_counts w) (counts_now w)) (IsBetweenCounts (first_counts v) (counts_now v)) (between-on w v runs) fs is.rises;
    once = is.once;
  }

  -- one that was reached since then, among them
  pub rises-put : (xs ys : List FaultAt) (named : Option FaultAt) → IsReachedBy w v named → AreRises (first_counts w) (counts_now w) (xs ++ ys)
      → AreRises (first_counts v) (counts_now v) (xs ++ (option_to_list named ++ ys))
  rises-put xs ys None reached is = rises-on (xs ++ ys) is
  rises-put xs ys (Some fault) reached is =
      let on = rises-on (xs ++ ys) is in
      let before = all-front (IsBetweenCounts (first_counts w) (counts_now w)) xs ys is.rises in
      let behind = all-back (IsBetweenCounts (first_counts w) (counts_now w)) xs ys is.rises in
      record {
        rises =
            All-append (IsBetweenCounts (first_counts v) (counts_now v)) xs (fault ∷ ys) (all-front (IsBetweenCounts (first_counts v) (counts_now v)) xs ys on.rises)
            (All-cons (IsBetweenCounts (first_counts v) (counts_now v)) fault ys reached.rise (all-back (IsBetweenCounts (first_counts v) (counts_now v)) xs ys on.rises));
        once =
            pairs-put Differ fault xs ys is.once
            (λ y there. differs w v runs y fault (All-contains (IsBetweenCounts (first_counts w) (counts_now w)) xs y before there) reached)
            (λ y there. differ-back y fault (differs w v runs y fault (All-contains (IsBetweenCounts (first_counts w) (counts_now w)) ys y behind there) reached));
      }

  -- one more entry, whose fault was reached in its event
  pub rises-entry : (h : List Event) (works : List JobWork) (e : Event) → IsReachedBy w v (named_in e) → AreRises (first_counts w) (counts_now w) (all_faults h works)
      → AreRises (first_counts v) (counts_now v) (all_faults (h ++ e ∷ []) works)
  rises-entry h works e reached is =
      let put = rises-put (faults_of h) (faults_kept works) (named_in e) reached is in
      subst (AreRises (first_counts v) (counts_now v)) (behind (named_in e) refl) put
    where
      behind : (named : Option FaultAt) → named_in e ≡ named → faults_of h ++ (option_to_list named ++ faults_kept works) ≡ all_faults (h ++ e ∷ []) works
      behind None none =
          let same : faults_of (h ++ e ∷ []) ≡ faults_of h = filter_map-append named_in h (e ∷ []) ∙ rw none (append-nil (faults_of h)) in
          ap (λ fs. fs ++ faults_kept works) (sym same)
      behind (Some fault) some =
          let same : faults_of (h ++ e ∷ []) ≡ faults_of h ++ fault ∷ [] = filter_map-append named_in h (e ∷ []) ∙ rw some refl in
          assoc (faults_of h) fault (faults_kept works) ∙ ap (λ fs. fs ++ faults_kept works) (sym same)
        where
          assoc : (xs : List FaultAt) (x : FaultAt) (ys : List FaultAt) → xs ++ x ∷ ys ≡ (xs ++ x ∷ []) ++ ys
          assoc [] x ys = refl
          assoc (z ∷ xs) x ys = ap (λ fs. z ∷ fs) (assoc xs x ys)
