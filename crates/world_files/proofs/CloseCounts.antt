-- Counts of faults at the end: each device that is given back has as many as it had, or more, and the fault that is told is a rise.
use Rattle.std.proofs.Common.{◌≡◌, ◌≢◌, ℕ, zero, suc, ◌+◌, ◌≤◌, ◌==◌, Bool, true, false, List, [], ◌∷◌, map, set, inl, inr, refl, sym, ◌∙◌, ap, subst, arith, Option, Some, None}
use Rattle.std.specs.Prelude.{IsSome, is_some, Contains, slice_get, option_map, MatchOption}
use Rattle.std.proofs.lemmas.Bool.{cases_eq, eq-eqb, false≢true, ne_eqb}
use Rattle.std.proofs.lemmas.Option.{same_Some}
use Rattle.blk_base.specs.Counts.{Rose}
use Rattle.blk_base.specs.Files.{closed_with, given_back, is_out_as}
use Rattle.blk_base.specs.declared.device.DeviceCall.{DeviceCall}
use Rattle.blk_base.specs.declared.fault.FaultAt.{FaultAt}
use Rattle.blk_base.specs.declared.fault.FaultFrom.TheVariants.{Dev}
use Rattle.blk_base.specs.declared.file.Opened.{Opened}
use Rattle.blk_graph.proofs.Members.{Contains-here, Contains-there}
use Rattle.blk_history.specs.Fold.{With}
use Rattle.blk_nodes.specs.Nodes.{DeviceSeen}
use Rattle.qmp_rules.specs.Table.{RunTable}
use Rattle.world_files.specs.Closing.{AreBack, HasFlushFault, HasGivenBack, IsBack, IsBackAfterFlush, IsToldBack, count_back, earlier_fault, store_in}
use Rattle.world_parts.specs.Coherent.{AreHeld, IsOut}
use Rattle.world_parts.specs.Counting.{HaveNotFallen}
use Rattle.world_parts.specs.Face.{WorldSeen, count_of_opening, counts_from, counts_now}
use Rattle.world_parts.specs.Steps.{StoreSeen}
use Rattle.world_files.proofs.CloseLemmas.{held-back, now, set-other, set-same}
use Rattle.world_parts.proofs.CountLemmas.{count-out, counts-at, there, with-of}
use Rattle.world_files.proofs.DeletedRuns.{counted-at}

-- ---- what giving back leaves of openings

module _ {A : Type 0} (of : Opened → A) (kept : (o : Opened) (count : ℕ) (call : Option DeviceCall) → of (closed_with count call o) ≡ of o) where
  pub same-back : (name : List ℕ) (count : ℕ) (call : Option DeviceCall) (opened : List Opened) → map of (given_back name count call opened) ≡ map of opened
  same-back name count call [] = refl
  same-back name count call (o ∷ opened) = by_test (is_out_as name o) refl (same-back name count call opened)
    where
      by_test : (b : Bool) → is_out_as name o ≡ b → map of (given_back name count call opened) ≡ map of opened → map of (given_back name count call (o ∷ opened)) ≡ map of (o ∷ opened)
      by_test true is rest = rw is (ap (λ (a : A). a ∷ map of opened) (kept o count call))
      by_test false is rest = rw is (ap (λ (more : List A). of o ∷ more) rest)

  same-all : (t : RunTable) (devices : List DeviceSeen) (old new : StoreSeen) (fault : Option FaultAt) → AreBack t devices old new fault → map of new.opened ≡ map of old.opened
  same-all t [] old new fault back = ap (λ (s : StoreSeen). map of s.opened) back.0
  same-all t (device ∷ devices) old new fault back =
      let one = back.3 in
      same-all t devices back.0 new back.2 back.4
      ∙ ap (λ (s : StoreSeen). map of s.opened) one.kept
      ∙ same-back one.name one.count one.call old.opened

-- ---- one device

module _ (t : RunTable) (device : DeviceSeen) (rest : List DeviceSeen) (old new : StoreSeen) (fault : Option FaultAt) (back : IsBack t device old new fault)
    (held : AreHeld t (device ∷ rest) old.opened) where
  abbrev out : IsOut t old.opened device
  out = held.each device (Contains-here device rest)

  is-set : new.opened ≡ set old.opened device.number.0 (closed_with back.count back.call out.opening)
  is-set = ap (λ (s : StoreSeen). s.opened) back.kept ∙ now t device rest old.opened held back.name back.count back.call back.named

  own-place : slice_get new.opened device.number.0 ≡ Some (closed_with back.count back.call out.opening)
  own-place =
      ap (λ (opened : List Opened). slice_get opened device.number.0) is-set
      ∙ set-same old.opened device.number.0 out.opening (closed_with back.count back.call out.opening) out.there

  other-place : (n : ℕ) → n ≢ device.number.0 → slice_get new.opened n ≡ slice_get old.opened n
  other-place n apart =
      ap (λ (opened : List Opened). slice_get opened n) is-set
      ∙ set-other old.opened device.number.0 n (closed_with back.count back.call out.opening) apart

  -- an opening that was back stays
  pub stays-one : (n : ℕ) (o : Opened) → slice_get old.opened n ≡ Some o → IsSome o.returned → slice_get new.opened n ≡ Some o
  stays-one n o at some = elim (cases_eq n device.number.0) [
    | inl same ↦
        let its : o ≡ out.opening = same_Some o out.opening (sym at ∙ ap (slice_get old.opened) same ∙ out.there) in
        let bad : false ≡ true = subst (λ (r : Option ℕ). is_some r ≡ true) (ap (λ (x : Opened). x.returned) its ∙ out.out) some in
        absurd (false≢true bad)
    | inr apart ↦ other-place n apart ∙ at
  ]

  -- no count falls
  one-counts : HaveNotFallen (counts_from (device ∷ rest) 0 old.opened) (counts_from rest 0 new.opened)
  one-counts n count at =
      let was = counted-at (device ∷ rest) old.opened 0 n count at in
      elim (cases_eq n device.number.0) [
        | inl same ↦ at_own n count was.0 was.1 was.2 same
        | inr apart ↦ at_other n count was.0 was.1 was.2 apart
      ]
    where
      at_own : (n count : ℕ) (o : Opened) → slice_get old.opened n ≡ Some o → count_of_opening (device ∷ rest) (0 + n) o ≡ count → n ≡ device.number.0
          → With (slice_get (counts_from rest 0 new.opened) n) (λ c. count ≤ c)
      at_own n count o at counted same =
          let its : o ≡ out.opening = same_Some o out.opening (sym at ∙ ap (slice_get old.opened) same ∙ out.there) in
          let none : o.returned ≡ None = ap (λ (x : Opened). x.returned) its ∙ out.out in
          let zero_first : 0 + n ≡ device.number.0 = omega (arith, same) in
          let own : (device.number.0 == device.number.0) ≡ true = eq-eqb device.number.0 device.number.0 refl in
          let before : count_of_opening (device ∷ rest) (0 + n) o ≡ device.faults = rw (none, zero_first, own) refl in
          let least = back.least in
          let then = counts-at rest new.opened 0 n (closed_with back.count back.call out.opening) (ap (slice_get new.opened) same ∙ own-place) in
          with-of (slice_get (counts_from rest 0 new.opened) n) back.count (λ c. count ≤ c) then (omega (arith, before, counted, least))

      at_other : (n count : ℕ) (o : Opened) → slice_get old.opened n ≡ Some o → count_of_opening (device ∷ rest) (0 + n) o ≡ count → n ≢ device.number.0
          → With (slice_get (counts_from rest 0 new.opened) n) (λ c. count ≤ c)
      at_other n count o at counted apart =
          let past : (device.number.0 == 0 + n) ≡ false = ne_eqb device.number.0 (0 + n) (λ same. apart (omega (arith, same))) in
          let same : count_of_opening (device ∷ rest) (0 + n) o ≡ count_of_opening rest (0 + n) o = rw past refl in
          let then = counts-at rest new.opened 0 n o (other-place n apart ∙ at) in
          with-of (slice_get (counts_from rest 0 new.opened) n) (count_of_opening rest (0 + n) o) (λ c. count ≤ c) then (omega (arith, same, counted))

not-fallen-then : (a b c : List ℕ) → HaveNotFallen a b → HaveNotFallen b c → HaveNotFallen a c
not-fallen-then a b c first next n count at =
    let then = there (slice_get b n) (λ x. count ≤ x) (first n count at) in
    let last = there (slice_get c n) (λ x. then.at ≤ x) (next n then.at then.is) in
    with-of (slice_get c n) last.at (λ x. count ≤ x) last.is (omega (arith, then.holds, last.holds))

-- ---- all of them

slice-map : {A B : Type 0} (f : A → B) (xs : List A) (n : ℕ) → slice_get (map f xs) n ≡ option_map f (slice_get xs n)
slice-map f [] n = refl
slice-map f (x ∷ xs) zero = refl
slice-map f (x ∷ xs) (suc n) = slice-map f xs n

-- each opening is back in the end
all-counts : (t : RunTable) (devices : List DeviceSeen) (old new : StoreSeen) (fault : Option FaultAt) → AreBack t devices old new fault → AreHeld t devices old.opened
    → HaveNotFallen (counts_from devices 0 old.opened) (map count_back new.opened)
all-counts t [] old new fault back held n count at =
    let was = counted-at [] old.opened 0 n count at in
    by_back was.0 was.1 was.2 was.0.returned refl
  where
    by_back : (o : Opened) → slice_get old.opened n ≡ Some o → count_of_opening [] (0 + n) o ≡ count → (r : Option ℕ) → o.returned ≡ r
        → With (slice_get (map count_back new.opened) n) (λ c. count ≤ c)
    by_back o at' counted None none = absurd (false≢true (held.all n o at' none))
    by_back o at' counted (Some c) some =
        let same : new.opened ≡ old.opened = ap (λ (s : StoreSeen). s.opened) back.0 in
        let place : slice_get (map count_back new.opened) n ≡ Some (count_back o) =
        slice-map count_back new.opened n ∙ ap (λ (opened : List Opened). option_map count_back (slice_get opened n)) same ∙ ap (option_map count_back) at' in
        let known : count_back o ≡ c = rw some refl in
        let before : count_of_opening [] (0 + n) o ≡ c = rw some refl in
        with-of (slice_get (map count_back new.opened) n) (count_back o) (λ x. count ≤ x) place (omega (arith, known, before, counted))
all-counts t (device ∷ devices) old new fault back held n count at =
    not-fallen-then (counts_from (device ∷ devices) 0 old.opened) (counts_from devices 0 back.0.opened) (map count_back new.opened)
    (one-counts t device devices old back.0 back.1 back.3 held)
    (all-counts t devices back.0 new back.2 back.4 (held-back t device devices old back.0 back.1 back.3 held)) n count at

-- an opening that is back stays as it is
stays-all : (t : RunTable) (devices : List DeviceSeen) (old new : StoreSeen) (fault : Option FaultAt) → AreBack t devices old new fault → AreHeld t devices old.opened
    → (n : ℕ) (o : Opened) → slice_get old.opened n ≡ Some o → IsSome o.returned → slice_get new.opened n ≡ Some o
stays-all t [] old new fault back held n o at some = ap (λ (s : StoreSeen). slice_get s.opened n) back.0 ∙ at
stays-all t (device ∷ devices) old new fault back held n o at some =
    stays-all t devices back.0 new back.2 back.4 (held-back t device devices old back.0 back.1 back.3 held) n o
    (stays-one t device devices old back.0 back.1 back.3 held n o at some) some

-- the fault of one of these devices
record IsOfOne (devices : List DeviceSeen) (opened : List Opened) (fault : FaultAt) : Type 0 where
  device : DeviceSeen
  within : Contains devices device
  from : fault.from ≡ Dev device.number
  count : With (slice_get opened device.number.0) (IsBackAfterFlush fault.count)
  rose : Rose device.faults fault.count

all-told : (t : RunTable) (devices : List DeviceSeen) (old new : StoreSeen) (fault : Option FaultAt) → AreBack t devices old new fault → AreHeld t devices old.opened
    → (f : FaultAt) → fault ≡ Some f → IsOfOne devices new.opened f
all-told t [] old new fault back held f is = absurd (let bad : ⊥ = cc (sym back.1 ∙ is) in bad)
all-told t (device ∷ devices) old new fault back held f is =
    by_first back.1 refl (all-told t devices back.0 new back.2 back.4 (held-back t device devices old back.0 back.1 back.3 held) f)
  where
    step : AreHeld t devices back.0.opened
    step = held-back t device devices old back.0 back.1 back.3 held

    by_first : (first : Option FaultAt) → back.1 ≡ first → (back.2 ≡ Some f → IsOfOne devices new.opened f) → IsOfOne (device ∷ devices) new.opened f
    by_first None none more =
        let later = more (sym (back.5 ∙ ap (λ (x : Option FaultAt). earlier_fault x back.2) none) ∙ is) in
        record { device = later.device; within = Contains-there device devices later.device later.within; from = later.from; count = later.count; rose = later.rose }
    by_first (Some named) some more =
        let same : named ≡ f = same_Some named f (sym (back.5 ∙ ap (λ (x : Option FaultAt). earlier_fault x back.2) some) ∙ is) in
        let cause : HasFlushFault device back.3.count back.3.call (Some named) = subst (HasFlushFault device back.3.count back.3.call) some back.3.cause in
        let place = stays-all t devices back.0 new back.2 back.4 step device.number.0 (closed_with back.3.count back.3.call (held.each device (Contains-here device devices)).opening)
        (own-place t device devices old back.0 back.1 back.3 held) refl in
        let count : f.count ≡ back.3.count = ap (λ (x : FaultAt). x.count) (sym same ∙ cause.0) in
        record {
          device = device;
          within = Contains-here device devices;
          from = ap (λ (x : FaultAt). x.from) (sym same ∙ cause.0);
          count = with-of (slice_get new.opened device.number.0) (closed_with back.3.count back.3.call (held.each device (Contains-here device devices)).opening)
              (IsBackAfterFlush f.count) place (ap (λ (n : ℕ). Some n) (sym count), cause.2);
          rose = subst (Rose device.faults) (sym count) cause.1;
        }

-- ---- a world

pub given-back : (w : WorldSeen) (new : StoreSeen) (fault : Option FaultAt) → AreBack w.table w.nodes.devices (store_in w) new fault
    → AreHeld w.table w.nodes.devices w.opened → HasGivenBack w new.opened fault
given-back w new fault back held = record {
  names = same-all (λ (o : Opened). o.name) (λ o count call. refl) w.table w.nodes.devices (store_in w) new fault back;
  sizes = same-all (λ (o : Opened). o.size) (λ o count call. refl) w.table w.nodes.devices (store_in w) new fault back;
  capacities = same-all (λ (o : Opened). o.capacity) (λ o count call. refl) w.table w.nodes.devices (store_in w) new fault back;
  first = same-all (λ (o : Opened). o.faults) (λ o count call. refl) w.table w.nodes.devices (store_in w) new fault back;
  counts = all-counts w.table w.nodes.devices (store_in w) new fault back held;
  told = by_fault fault refl;
}
  where
    by_fault : (f : Option FaultAt) → fault ≡ f → MatchOption f (Unit {0}) (IsToldBack w new.opened)
    by_fault None is = tt
    by_fault (Some f) is =
        let one = all-told w.table w.nodes.devices (store_in w) new fault back held f is in
        let at = count-out w.table w.nodes w.opened one.device one.within held in
        record {
          number = one.device.number;
          from = one.from;
          count = one.count;
          rose = with-of (slice_get (counts_now w).devices one.device.number.0) one.device.faults (λ c. Rose c f.count) at one.rose;
        }

pub faults-kept : (t : RunTable) (devices : List DeviceSeen) (old new : StoreSeen) (fault : Option FaultAt) → AreBack t devices old new fault → new.faults ≡ old.faults
faults-kept t [] old new fault back = ap (λ (s : StoreSeen). s.faults) back.0
faults-kept t (device ∷ devices) old new fault back =
    faults-kept t devices back.0 new back.2 back.4 ∙ ap (λ (s : StoreSeen). s.faults) back.3.kept

pub room-kept : (t : RunTable) (devices : List DeviceSeen) (old new : StoreSeen) (fault : Option FaultAt) → AreBack t devices old new fault → new.room ≡ old.room
room-kept t [] old new fault back = ap (λ (s : StoreSeen). s.room) back.0
room-kept t (device ∷ devices) old new fault back =
    room-kept t devices back.0 new back.2 back.4 ∙ ap (λ (s : StoreSeen). s.room) back.3.kept
