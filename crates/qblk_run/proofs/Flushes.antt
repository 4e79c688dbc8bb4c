-- What the last flush leaves of the counts of faults: none rose before its first fault.
use Rattle.std.proofs.Common.{◌≡◌, ◌≢◌, ◌⊎◌, ℕ, zero, suc, ◌+◌, ◌<◌, ◌==◌, true, false, List, [], ◌∷◌, map, set, inl, inr, refl, sym, ◌∙◌, ap, subst, arith, Option, Some, None}
use Rattle.std.specs.Prelude.{Contains, slice_get, option_map}
use Rattle.std.proofs.lemmas.Bool.{cases_eq, eq-eqb, false≢true, ne_eqb}
use Rattle.std.proofs.lemmas.Option.{same_Some}
use Rattle.blk_base.specs.Counts.{HasFailedSince, Rose}
use Rattle.blk_base.specs.Files.{closed_with}
use Rattle.blk_base.specs.declared.device.DeviceCall.{DeviceCall}
use Rattle.blk_base.specs.declared.fault.DevNo.{DevNo}
use Rattle.blk_base.specs.declared.fault.FaultAt.{FaultAt}
use Rattle.blk_base.specs.declared.fault.FaultFrom.TheVariants.{Dev}
use Rattle.blk_base.specs.declared.file.Opened.{Opened}
use Rattle.blk_graph.proofs.Members.{Contains-here, Contains-there, Contains-cases}
use Rattle.blk_graph.proofs.RoleLemmas.{head_pairs}
use Rattle.blk_history.specs.Fold.{With}
use Rattle.blk_nodes.specs.Nodes.{DeviceSeen}
use Rattle.qmp_rules.specs.Table.{RunTable}
use Rattle.world_files.specs.Closing.{AreBack, HasFlushFault, IsBack, count_back, earlier_fault}
use Rattle.world_parts.specs.Coherent.{AreHeld, IsOut}
use Rattle.world_parts.specs.Face.{count_of_opening, counts_from}
use Rattle.world_parts.specs.Steps.{StoreSeen}
use Rattle.world_files.proofs.CloseCounts.{same-back}
use Rattle.world_files.proofs.CloseLemmas.{held-back, now, set-other, set-same}
use Rattle.world_parts.proofs.CountLemmas.{with-of}

-- ---- counts by place

counts-map : (devices : List DeviceSeen) (opened : List Opened) (first n : ℕ)
    → slice_get (counts_from devices first opened) n ≡ option_map (count_of_opening devices (first + n)) (slice_get opened n)
counts-map devices [] first n = refl
counts-map devices (o ∷ opened) first zero =
    let at : first ≡ first + 0 = omega arith in
    ap (λ (k : ℕ). Some (count_of_opening devices k o)) at
counts-map devices (o ∷ opened) first (suc n) =
    let at : first + 1 + n ≡ first + suc n = omega arith in
    counts-map devices opened (first + 1) n ∙ ap (λ (k : ℕ). option_map (count_of_opening devices k) (slice_get opened n)) at

back-map : (opened : List Opened) (n : ℕ) → slice_get (map count_back opened) n ≡ option_map count_back (slice_get opened n)
back-map [] n = refl
back-map (o ∷ opened) zero = refl
back-map (o ∷ opened) (suc n) = back-map opened n

-- lists are the same that are so at each place
pub same-places : (xs ys : List ℕ) → ((n : ℕ) → slice_get xs n ≡ slice_get ys n) → xs ≡ ys
same-places [] [] each = refl
same-places [] (y ∷ ys) each = let bad : ⊥ = cc (each 0) in absurd bad
same-places (x ∷ xs) [] each = let bad : ⊥ = cc (each 0) in absurd bad
same-places (x ∷ xs) (y ∷ ys) each =
    let first : x ≡ y = same_Some x y (each 0) in
    let rest : xs ≡ ys = same-places xs ys (λ n. each (suc n)) in
    ap (λ (a : ℕ). a ∷ xs) first ∙ ap (λ (more : List ℕ). y ∷ more) rest

-- ---- one device

module _ (t : RunTable) (device : DeviceSeen) (rest : List DeviceSeen) (old new : StoreSeen) (fault : Option FaultAt) (back : IsBack t device old new fault)
    (held : AreHeld t (device ∷ rest) old.opened) where
  abbrev out : IsOut t old.opened device
  out = held.each device (Contains-here device rest)

  is-set : new.opened ≡ set old.opened device.number.0 (closed_with back.count back.call out.opening)
  is-set = ap (λ (s : StoreSeen). s.opened) back.kept ∙ now t device rest old.opened held back.name back.count back.call back.named

  own-place : slice_get new.opened device.number.0 ≡ Some (closed_with back.count back.call out.opening)
  own-place =
      ap (λ (opened : List Opened). slice_get opened device.number.0) is-set
      ∙ set-same old.opened device.number.0 out.opening (closed_with back.count back.call out.opening) out.there

  other-place : (n : ℕ) → n ≢ device.number.0 → slice_get new.opened n ≡ slice_get old.opened n
  other-place n apart =
      ap (λ (opened : List Opened). slice_get opened n) is-set
      ∙ set-other old.opened device.number.0 n (closed_with back.count back.call out.opening) apart

  -- another opening's count stands
  pub stands-other : (n : ℕ) → n ≢ device.number.0 → slice_get (counts_from rest 0 new.opened) n ≡ slice_get (counts_from (device ∷ rest) 0 old.opened) n
  stands-other n apart =
      let past : (device.number.0 == 0 + n) ≡ false = ne_eqb device.number.0 (0 + n) (λ same. apart (omega (arith, same))) in
      counts-map rest new.opened 0 n
      ∙ ap (option_map (count_of_opening rest (0 + n))) (other-place n apart)
      ∙ by_found (slice_get old.opened n) past
      ∙ sym (counts-map (device ∷ rest) old.opened 0 n)
    where
      by_found : (x : Option Opened) → (device.number.0 == 0 + n) ≡ false → option_map (count_of_opening rest (0 + n)) x ≡ option_map (count_of_opening (device ∷ rest) (0 + n)) x
      by_found None past = refl
      by_found (Some o) past = rw past refl

  -- and its own, where its flush was good
  stands-own : back.count ≡ device.faults → slice_get (counts_from rest 0 new.opened) device.number.0 ≡ slice_get (counts_from (device ∷ rest) 0 old.opened) device.number.0
  stands-own stood =
      let zero_first : 0 + device.number.0 ≡ device.number.0 = omega arith in
      let own : (device.number.0 == device.number.0) ≡ true = eq-eqb device.number.0 device.number.0 refl in
      let before : count_of_opening (device ∷ rest) (0 + device.number.0) out.opening ≡ device.faults = rw (out.out, zero_first, own) refl in
      counts-map rest new.opened 0 device.number.0
      ∙ ap (option_map (count_of_opening rest (0 + device.number.0))) own-place
      ∙ ap (λ (c : ℕ). Some c) (stood ∙ sym before)
      ∙ ap (option_map (count_of_opening (device ∷ rest) (0 + device.number.0))) (sym out.there)
      ∙ sym (counts-map (device ∷ rest) old.opened 0 device.number.0)

  pub stands-all : back.count ≡ device.faults → (n : ℕ) → slice_get (counts_from rest 0 new.opened) n ≡ slice_get (counts_from (device ∷ rest) 0 old.opened) n
  stands-all stood n = by_place (cases_eq n device.number.0)
    where
      by_place : (n ≡ device.number.0) ⊎ (n ≢ device.number.0) → slice_get (counts_from rest 0 new.opened) n ≡ slice_get (counts_from (device ∷ rest) 0 old.opened) n
      by_place (inl same) = rw same (stands-own stood)
      by_place (inr apart) = stands-other n apart

-- ---- all of them

-- once none is out, each count is the one with which its device was given back
stands-back : (t : RunTable) (opened : List Opened) → AreHeld t [] opened → (n : ℕ) → slice_get (map count_back opened) n ≡ slice_get (counts_from [] 0 opened) n
stands-back t opened held n =
    back-map opened n ∙ by_found (slice_get opened n) refl ∙ sym (counts-map [] opened 0 n)
  where
    by_back : (o : Opened) → slice_get opened n ≡ Some o → (r : Option ℕ) → o.returned ≡ r → count_back o ≡ count_of_opening [] (0 + n) o
    by_back o there None none = absurd (false≢true (held.all n o there none))
    by_back o there (Some c) some = rw some refl

    by_found : (x : Option Opened) → slice_get opened n ≡ x → option_map count_back x ≡ option_map (count_of_opening [] (0 + n)) x
    by_found None is = refl
    by_found (Some o) is = ap (λ (c : ℕ). Some c) (by_back o is o.returned refl)

-- an opening of which no device is out
stands-past : (t : RunTable) (devices : List DeviceSeen) (old new : StoreSeen) (fault : Option FaultAt) → AreBack t devices old new fault → AreHeld t devices old.opened
    → (n : ℕ) → ((device : DeviceSeen) → Contains devices device → n ≢ device.number.0)
    → slice_get (map count_back new.opened) n ≡ slice_get (counts_from devices 0 old.opened) n
stands-past t [] old new fault back held n apart =
    ap (λ (s : StoreSeen). slice_get (map count_back s.opened) n) back.0 ∙ stands-back t old.opened held n
stands-past t (device ∷ devices) old new fault back held n apart =
    stands-past t devices back.0 new back.2 back.4 (held-back t device devices old back.0 back.1 back.3 held) n
    (λ other there. apart other (Contains-there device devices other there))
    ∙ stands-other t device devices old back.0 back.1 back.3 held n (apart device (Contains-here device devices))

good-flush : (device : DeviceSeen) (count : ℕ) (call : Option DeviceCall) (fault : Option FaultAt) → fault ≡ None → HasFlushFault device count call fault → count ≡ device.faults
good-flush device count call fault none cause = let good : HasFlushFault device count call None = subst (HasFlushFault device count call) none cause in good.0

first-none : (first later : Option FaultAt) → earlier_fault first later ≡ None → (first ≡ None) × (later ≡ None)
first-none None later is = (refl, is)
first-none (Some fault) later is = let bad : ⊥ = cc is in absurd bad

-- where no flush failed
pub all-stand : (t : RunTable) (devices : List DeviceSeen) (old new : StoreSeen) (fault : Option FaultAt) → AreBack t devices old new fault → AreHeld t devices old.opened
    → fault ≡ None → (n : ℕ) → slice_get (map count_back new.opened) n ≡ slice_get (counts_from devices 0 old.opened) n
all-stand t [] old new fault back held none n = ap (λ (s : StoreSeen). slice_get (map count_back s.opened) n) back.0 ∙ stands-back t old.opened held n
all-stand t (device ∷ devices) old new fault back held none n =
    let both = first-none back.1 back.2 (sym back.5 ∙ none) in
    all-stand t devices back.0 new back.2 back.4 (held-back t device devices old back.0 back.1 back.3 held) both.1 n
    ∙ stands-all t device devices old back.0 back.1 back.3 held (good-flush device back.3.count back.3.call back.1 both.0 back.3.cause) n

same-number : (a b : DevNo) → Dev a ≡ Dev b → a ≡ b
same-number a b e = cc e

-- those that were opened before the one of which the fault is told
pub first-stand : (t : RunTable) (devices : List DeviceSeen) (old new : StoreSeen) (fault : Option FaultAt) → AreBack t devices old new fault → AreHeld t devices old.opened
    → (f : FaultAt) (dev : DevNo) → fault ≡ Some f → f.from ≡ Dev dev → (n : ℕ) → n < dev.0
    → slice_get (map count_back new.opened) n ≡ slice_get (counts_from devices 0 old.opened) n
first-stand t [] old new fault back held f dev some from n before = let bad : ⊥ = cc (sym back.1 ∙ some) in absurd bad
first-stand t (device ∷ devices) old new fault back held f dev some from n before =
    by_first back.1 refl (λ later. first-stand t devices back.0 new back.2 back.4 (held-back t device devices old back.0 back.1 back.3 held) f dev later from n before)
  where
    by_first : (first : Option FaultAt) → back.1 ≡ first → (back.2 ≡ Some f → slice_get (map count_back new.opened) n ≡ slice_get (counts_from devices 0 back.0.opened) n)
        → slice_get (map count_back new.opened) n ≡ slice_get (counts_from (device ∷ devices) 0 old.opened) n
    by_first None none rest =
        let later : back.2 ≡ Some f = sym (back.5 ∙ ap (λ (x : Option FaultAt). earlier_fault x back.2) none) ∙ some in
        rest later
        ∙ stands-all t device devices old back.0 back.1 back.3 held (good-flush device back.3.count back.3.call back.1 none back.3.cause) n
    by_first (Some named) is rest =
        let same : named ≡ f = same_Some named f (sym (back.5 ∙ ap (λ (x : Option FaultAt). earlier_fault x back.2) is) ∙ some) in
        let cause : HasFlushFault device back.3.count back.3.call (Some named) = subst (HasFlushFault device back.3.count back.3.call) is back.3.cause in
        let own : Dev device.number ≡ Dev dev = sym (ap (λ (x : FaultAt). x.from) (sym same ∙ cause.0)) ∙ from in
        let number : device.number ≡ dev = same-number device.number dev own in
        let less : n < device.number.0 = subst (λ (d : DevNo). n < d.0) (sym number) before in
        stands-past t (device ∷ devices) old new fault back held n (λ other there. apart other less (Contains-cases device devices other there))
      where
        apart : (other : DeviceSeen) → n < device.number.0 → (other ≡ device) ⊎ Contains devices other → n ≢ other.number.0
        apart other less (inl same) equal = let number : other.number.0 ≡ device.number.0 = ap (λ (d : DeviceSeen). d.number.0) same in omega (arith, less, equal, number)
        apart other less (inr there) equal =
            let later : device.number.0 < other.number.0 = head_pairs (λ (a b : DeviceSeen). a.number.0 < b.number.0) device devices held.order other there in
            omega (arith, less, equal, later)

-- its count rose above the one at its opening
pub first-above : (t : RunTable) (devices : List DeviceSeen) (old new : StoreSeen) (fault : Option FaultAt) → AreBack t devices old new fault → AreHeld t devices old.opened
    → (f : FaultAt) (dev : DevNo) → fault ≡ Some f → f.from ≡ Dev dev → With (slice_get (map (λ o. o.faults) old.opened) dev.0) (λ before. HasFailedSince before f.count)
first-above t [] old new fault back held f dev some from = let bad : ⊥ = cc (sym back.1 ∙ some) in absurd bad
first-above t (device ∷ devices) old new fault back held f dev some from =
    by_first back.1 refl (λ later. first-above t devices back.0 new back.2 back.4 (held-back t device devices old back.0 back.1 back.3 held) f dev later from)
  where
    by_first : (first : Option FaultAt) → back.1 ≡ first → (back.2 ≡ Some f → With (slice_get (map (λ o. o.faults) back.0.opened) dev.0) (λ before. HasFailedSince before f.count))
        → With (slice_get (map (λ o. o.faults) old.opened) dev.0) (λ before. HasFailedSince before f.count)
    by_first None none rest =
        let later : back.2 ≡ Some f = sym (back.5 ∙ ap (λ (x : Option FaultAt). earlier_fault x back.2) none) ∙ some in
        let same : map (λ o. o.faults) back.0.opened ≡ map (λ o. o.faults) old.opened =
        ap (λ (s : StoreSeen). map (λ o. o.faults) s.opened) back.3.kept ∙ same-back (λ (o : Opened). o.faults) (λ o count call. refl) back.3.name back.3.count back.3.call old.opened in
        subst (λ (counts : List ℕ). With (slice_get counts dev.0) (λ before. HasFailedSince before f.count)) same
        (rest later)
    by_first (Some named) is rest =
        let same : named ≡ f = same_Some named f (sym (back.5 ∙ ap (λ (x : Option FaultAt). earlier_fault x back.2) is) ∙ some) in
        let cause : HasFlushFault device back.3.count back.3.call (Some named) = subst (HasFlushFault device back.3.count back.3.call) is back.3.cause in
        let own : Dev device.number ≡ Dev dev = sym (ap (λ (x : FaultAt). x.from) (sym same ∙ cause.0)) ∙ from in
        let number : device.number ≡ dev = same-number device.number dev own in
        let count : f.count ≡ back.3.count = ap (λ (x : FaultAt). x.count) (sym same ∙ cause.0) in
        let out : IsOut t old.opened device = held.each device (Contains-here device devices) in
        let rose : Rose device.faults f.count = subst (Rose device.faults) (sym count) cause.1 in
        let least = out.faults in
        let at : slice_get (map (λ o. o.faults) old.opened) dev.0 ≡ Some out.opening.faults =
        faults-map old.opened dev.0 ∙ ap (option_map (λ (o : Opened). o.faults)) (ap (λ (d : DevNo). slice_get old.opened d.0) (sym number) ∙ out.there) in
        with-of (slice_get (map (λ o. o.faults) old.opened) dev.0) out.opening.faults (λ before. HasFailedSince before f.count) at (omega (arith, rose, least))
      where
        faults-map : (opened : List Opened) (n : ℕ) → slice_get (map (λ o. o.faults) opened) n ≡ option_map (λ o. o.faults) (slice_get opened n)
        faults-map [] n = refl
        faults-map (o ∷ opened) zero = refl
        faults-map (o ∷ opened) (suc n) = faults-map opened n

-- what holds of an opening, and of its first count
pub both-at : (opened : List Opened) (n : ℕ) (P : Opened → Type 0) (Q : ℕ → Type 0) → With (slice_get opened n) P → With (slice_get (map (λ o. o.faults) opened) n) Q
    → With (slice_get opened n) (λ o. P o × Q o.faults)
both-at [] n P Q one two = one
both-at (o ∷ opened) zero P Q one two = (one, two)
both-at (o ∷ opened) (suc n) P Q one two = both-at opened n P Q one two
