-- Counts of faults only rise, and a fault that is reached in an event was named by no entry before.
use Rattle.std.proofs.Common.{◌≡◌, ◌≢◌, ◌⊎◌, ℕ, zero, suc, ◌+◌, ◌<◌, ◌≤◌, Bool, true, false, cond, List, [], ◌∷◌, ◌++◌, length, map, drop, get_or, refl, sym, ◌∙◌, ap, subst, arith, inl, inr, eq-eqb, Option, Some, None}
use Rattle.std.specs.Prelude.{slice_get, option_map, unwrap_or, is_some, IsSome, All, AllPairs, Contains, ◌==◌}
use Rattle.std.proofs.lemmas.Bool.{false≢true, eqb-true, ne_eqb, cases_eq}
use Rattle.std.proofs.lemmas.List.{append-nil}
use Rattle.std.proofs.lemmas.List.Elements.{filter_map-append, All-weaker, All-push}
use Rattle.std.proofs.lemmas.List.Quantifiers.{all_pairs_push}
use Rattle.std.proofs.lemmas.Option.{slice_get-map, same_Some}
use Rattle.blk_base.specs.Counts.{HasFailedSince}
use Rattle.blk_base.specs.declared.fault.DevNo.{DevNo}
use Rattle.blk_base.specs.declared.fault.FaultAt.{FaultAt}
use Rattle.blk_base.specs.declared.fault.FaultFrom.{FaultFrom}
use Rattle.blk_base.specs.declared.fault.FaultFrom.TheVariants.{Store, Dev, Sink}
use Rattle.blk_base.specs.declared.file.Opened.{Opened}
use Rattle.blk_graph.proofs.Members.{Contains-nil, Contains-cases, Contains-here, Contains-there, find-Some}
use Rattle.blk_graph.proofs.RoleLemmas.{tail_pairs, head_pairs, more_pairs}
use Rattle.blk_history.specs.Fold.{With}
use Rattle.blk_history.specs.declared.event.Event.{Event}
use Rattle.blk_nodes.specs.Joined.{DifferInNode}
use Rattle.blk_nodes.specs.Nodes.{Nodes, DeviceSeen, is_device_of, device_in}
use Rattle.blk_nodes.specs.Reading.{HaveRisen, OnlyAt, StoppedBy}
use Rattle.qmp_rules.specs.Table.{RunTable}
use Rattle.flat_machine.specs.Licence.{Counts, AreLicensed, IsBetweenCounts, Differ, source_count, named_in, faults_of, fault_at}
use Rattle.flat_machine.specs.State.{filename_of}
use Rattle.world_parts.specs.Coherent.{AreOut}
use Rattle.world_parts.specs.Face.{WorldSeen, first_counts, counts_now, counts_from, count_of_opening, device_numbered}
use Rattle.world_parts.specs.Counting.{RunsOn, IsLater, HaveNotFallen, IsFaultReached, IsReachedBy, IsSameDevice, AreSameDevices, counts_within}

-- ---- what is there

with-at : {A : Type 0} (x : Option A) (a : A) (P : A → Type 0) → x ≡ Some a → With x P → P a
with-at None a P e is = absurd is
with-at (Some b) a P e is = let same : b ≡ a = cc in subst P same is

pub with-of : {A : Type 0} (x : Option A) (a : A) (P : A → Type 0) → x ≡ Some a → P a → With x P
with-of None a P e is = absurd (let bad : ⊥ = cc in bad)
with-of (Some b) a P e is = let same : a ≡ b = cc in subst P same is

-- what holds of what is there, there
pub record HoldsThere {A : Type 0} (x : Option A) (P : A → Type 0) : Type 0 where
  pub at : A
  pub is : x ≡ Some at
  pub holds : P at

pub there : {A : Type 0} (x : Option A) (P : A → Type 0) → With x P → HoldsThere x P
there None P is = absurd is
there (Some a) P is = record { at = a; is = refl; holds = is }

-- the first count of an opening
first-at : (opened : List Opened) (n : ℕ) (count : ℕ) → slice_get (map (λ (o : Opened). o.faults) opened) n ≡ Some count
    → HoldsThere (slice_get opened n) (λ o. o.faults ≡ count)
first-at [] n count e = absurd (let bad : ⊥ = cc in bad)
first-at (o ∷ opened) zero count e = record { at = o; is = refl; holds = cc }
first-at (o ∷ opened) (suc n) count e = first-at opened n count e

first-of : (opened : List Opened) (n : ℕ) (o : Opened) → slice_get opened n ≡ Some o → slice_get (map (λ (o : Opened). o.faults) opened) n ≡ Some o.faults
first-of opened n o e = slice_get-map (λ (o : Opened). o.faults) opened n ∙ ap (option_map (λ (o : Opened). o.faults)) e

-- ---- a fault that was named

module _ (w v : WorldSeen) (runs : RunsOn w v) where
  -- the first counts stay
  first-stays : (source : FaultFrom) (count : ℕ) → source_count (first_counts w) source ≡ Some count → source_count (first_counts v) source ≡ Some count
  first-stays Store count e = ap Some runs.first ∙ e
  first-stays (Dev dev) count e =
      let was = first-at w.opened dev.0 count e in
      let now = there (slice_get v.opened dev.0) (IsLater was.at) (runs.openings dev.0 was.at was.is) in
      first-of v.opened dev.0 now.at now.is ∙ ap Some (now.holds.first ∙ was.holds)
  first-stays Sink count e = e

  -- and those now don't fall
  now-grows : (source : FaultFrom) (count : ℕ) → source_count (counts_now w) source ≡ Some count → With (source_count (counts_now v) source) (λ now. count ≤ now)
  now-grows Store count e = let same : w.faults ≡ count = cc in subst (λ n. n ≤ v.faults) same runs.store
  now-grows (Dev dev) count e = runs.devices dev.0 count e
  now-grows Sink count e = absurd (let bad : ⊥ = cc in bad)

  -- a fault that was between the counts still is
  pub between-on : (fault : FaultAt) → IsBetweenCounts (first_counts w) (counts_now w) fault → IsBetweenCounts (first_counts v) (counts_now v) fault
  between-on fault is =
      let was = there (source_count (first_counts w) fault.from) (λ before. HasFailedSince before fault.count) is.risen in
      let reached = there (source_count (counts_now w) fault.from) (λ now. fault.count ≤ now) is.reached in
      let grown = there (source_count (counts_now v) fault.from) (λ now. reached.at ≤ now) (now-grows fault.from reached.at reached.is) in
      record {
        risen = with-of (source_count (first_counts v) fault.from) was.at (λ before. HasFailedSince before fault.count) (first-stays fault.from was.at was.is) was.holds;
        reached = with-of (source_count (counts_now v) fault.from) grown.at (λ now. fault.count ≤ now) grown.is (omega (arith, reached.holds, grown.holds));
      }

  -- the count that an event began with is that before it
  began-with : (source : FaultFrom) (count : ℕ) → source_count (counts_now w) source ≡ Some count → source_count (counts_within w v) source ≡ Some count
  began-with Store count e = e
  began-with (Dev dev) count e = get-append (counts_now w).devices (drop (length w.opened) (first_counts v).devices) dev.0 count e
    where
      get-append : (xs ys : List ℕ) (n : ℕ) (x : ℕ) → slice_get xs n ≡ Some x → slice_get (xs ++ ys) n ≡ Some x
      get-append [] ys n x e = absurd (let bad : ⊥ = cc in bad)
      get-append (y ∷ xs) ys zero x e = e
      get-append (y ∷ xs) ys (suc n) x e = get-append xs ys n x e
  began-with Sink count e = e

  -- a fault that is reached in the event is none of those before
  pub differs : (earlier fault : FaultAt) → IsBetweenCounts (first_counts w) (counts_now w) earlier → IsFaultReached w v fault → Differ earlier fault
  differs earlier fault was is = λ from count.
      let reached = there (source_count (counts_now w) earlier.from) (λ now. earlier.count ≤ now) was.reached in
      let same_source : source_count (counts_now w) fault.from ≡ Some reached.at = subst (λ source. source_count (counts_now w) source ≡ Some reached.at) from reached.is in
      let risen : HasFailedSince reached.at fault.count = with-at (source_count (counts_within w v) fault.from) reached.at (λ before. HasFailedSince before fault.count) (began-with fault.from reached.at same_source) is.new.risen in
      let most = is.fits in
      let least = reached.holds in
      omega (arith, risen, most, least, count)

  -- one more entry, whose fault was reached in its event
  pub licensed-on : (es : List Event) (e : Event) → IsReachedBy w v (named_in e) → AreLicensed (first_counts w) (counts_now w) es → AreLicensed (first_counts v) (counts_now v) (es ++ e ∷ [])
  licensed-on es e reached was = by_name (named_in e) refl reached
    where
      opening : Counts
      opening = first_counts v

      now : Counts
      now = counts_now v

      rises : All (IsBetweenCounts opening now) (faults_of es)
      rises = All-weaker (IsBetweenCounts (first_counts w) (counts_now w)) (IsBetweenCounts opening now) between-on (faults_of es) was.rises

      by_name : (named : Option FaultAt) → named_in e ≡ named → IsReachedBy w v named → AreLicensed opening now (es ++ e ∷ [])
      by_name None none unit =
          let same : faults_of (es ++ e ∷ []) ≡ faults_of es = filter_map-append named_in es (e ∷ []) ∙ rw none (append-nil (faults_of es)) in
          record { rises = rw same rises; once = rw same was.once }
      by_name (Some fault) some is =
          let same : faults_of (es ++ e ∷ []) ≡ faults_of es ++ fault ∷ [] = filter_map-append named_in es (e ∷ []) ∙ rw some refl in
          record {
            rises = rw same (All-push (IsBetweenCounts opening now) (faults_of es) fault rises is.rise);
            once = rw same (all_pairs_push Differ (faults_of es) fault was.once (λ k d within. differs (get_or (faults_of es) k d) fault (was.rises k d within) is));
          }

-- ---- devices whose counts have not fallen

same-itself : (device : DeviceSeen) → IsSameDevice device device
same-itself device = record { node = refl; number = refl; capacity = refl; faults = omega arith }

pub same-devices : (devices : List DeviceSeen) → AreSameDevices devices devices
same-devices [] = tt
same-devices (device ∷ devices) = (same-itself device, same-devices devices)

-- counts alone have risen
pub same-risen : (old new : List DeviceSeen) → HaveRisen old new → AreSameDevices old new
same-risen [] [] risen = tt
same-risen (a ∷ old) (b ∷ new) risen = (
  record {
    node = ap (λ (d : DeviceSeen). d.node) risen.0.same;
    number = ap (λ (d : DeviceSeen). d.number) risen.0.same;
    capacity = ap (λ (d : DeviceSeen). d.capacity) risen.0.same;
    faults = risen.0.faults;
  },
  same-risen old new risen.1,
)
same-risen [] (b ∷ new) risen = absurd risen
same-risen (a ∷ old) [] risen = absurd risen

-- each node's device is found again
abbrev pub AreFound : List DeviceSeen → List DeviceSeen → Type 0
AreFound old new = (node : ℕ) (x : DeviceSeen) → device_in old node ≡ Some x → (y : DeviceSeen) × (device_in new node ≡ Some y) × IsSameDevice x y

same-found : (old new : List DeviceSeen) → map (λ (d : DeviceSeen). d.node) new ≡ map (λ (d : DeviceSeen). d.node) old → AllPairs DifferInNode old → AreFound old new → AreSameDevices old new
same-found [] [] nodes once found = tt
same-found [] (b ∷ new) nodes once found = absurd (let bad : ⊥ = cc nodes in bad)
same-found (a ∷ old) [] nodes once found = absurd (let bad : ⊥ = cc nodes in bad)
same-found (a ∷ old) (b ∷ new) nodes once found =
    let node : b.node ≡ a.node = cc nodes in
    let rest : map (λ (d : DeviceSeen). d.node) new ≡ map (λ (d : DeviceSeen). d.node) old = cc nodes in
    let here : device_in (a ∷ old) a.node ≡ Some a = rw (eq-eqb a.node a.node refl) refl in
    let now : device_in (b ∷ new) a.node ≡ Some b = rw (eq-eqb b.node a.node node) refl in
    let again = found a.node a here in
    let is_b : again.0 ≡ b = same_Some again.0 b (sym again.1 ∙ now) in
    (subst (IsSameDevice a) is_b again.2, same-found old new rest (tail_pairs DifferInNode a old once) (later node))
  where
    later : b.node ≡ a.node → AreFound old new
    later node n x is =
        let at = find-Some (is_device_of n) old x is in
        let differ : a.node ≢ n = λ same. head_pairs DifferInNode a old once x at.0 (same ∙ sym (eqb-true x.node n at.1)) in
        let past : (a.node == n) ≡ false = ne_eqb a.node n differ in
        let past_now : (b.node == n) ≡ false = ne_eqb b.node n (λ same. differ (sym node ∙ same)) in
        let was : device_in (a ∷ old) n ≡ Some x = rw past is in
        let again = found n x was in
        (again.0, rw past_now at again.1, again.2)

-- one node's device was used, and all others are as before
pub same-only : (file : ℕ) (old new : List DeviceSeen) (before after : DeviceSeen) → AllPairs DifferInNode old → OnlyAt file old new
    → device_in old file ≡ Some before → device_in new file ≡ Some after → IsSameDevice before after → AreSameDevices old new
same-only file old new before after once only held left is = same-found old new only.nodes once found
  where
    by_node : (node : ℕ) (x : DeviceSeen) → device_in old node ≡ Some x → ((node ≡ file) ⊎ (node ≢ file)) → (y : DeviceSeen) × (device_in new node ≡ Some y) × IsSameDevice x y
    by_node node x there (inl same) =
        let was : before ≡ x = same_Some before x (sym held ∙ subst (λ n. device_in old n ≡ Some x) same there) in
        (after, subst (λ n. device_in new n ≡ Some after) (sym same) left, subst (λ d. IsSameDevice d after) was is)
    by_node node x there (inr apart) = (x, only.others node apart ∙ there, same-itself x)

    found : AreFound old new
    found node x there = by_node node x there (cases_eq node file)

-- ---- devices by number

-- each device has a number of its own
abbrev pub DifferInNumber : DeviceSeen → DeviceSeen → Type 0
DifferInNumber a b = a.number ≢ b.number

pub same-number : (a b : DevNo) → a.0 ≡ b.0 → a ≡ b
same-number a b is = ap (λ n. record { 0 = n }) is

-- a device stands at its number
pub numbered : (devices : List DeviceSeen) (x : DeviceSeen) → AllPairs DifferInNumber devices → Contains devices x → device_numbered devices x.number.0 ≡ Some x
numbered [] x once there = absurd (Contains-nil x there)
numbered (d ∷ devices) x once there = elim (Contains-cases d devices x there) [
  | inl here ↦ let at : (d.number.0 == x.number.0) ≡ true = eq-eqb d.number.0 x.number.0 (ap (λ (y : DeviceSeen). y.number.0) (sym here)) in rw at (ap Some (sym here))
  | inr later ↦
      let differ : d.number.0 ≢ x.number.0 = λ same. head_pairs DifferInNumber d devices once x later (same-number d.number x.number same) in
      let past : (d.number.0 == x.number.0) ≡ false = ne_eqb d.number.0 x.number.0 differ in
      rw past (numbered devices x (tail_pairs DifferInNumber d devices once) later)
]

-- what stands at a number afterwards
abbrev pub AreBoth : Option DeviceSeen → Option DeviceSeen → Type 0
AreBoth None None = Unit {0}
AreBoth (Some a) (Some b) = IsSameDevice a b
AreBoth _ _ = ⊥

pub numbered-same : (old new : List DeviceSeen) (n : ℕ) → AreSameDevices old new → AreBoth (device_numbered old n) (device_numbered new n)
numbered-same [] [] n same = tt
numbered-same (a ∷ old) (b ∷ new) n same =
    let number : b.number.0 ≡ a.number.0 = ap (λ (m : DevNo). m.0) same.0.number in
    subst (λ m. AreBoth (device_numbered (a ∷ old) n) (cond (m == n) (Some b) (device_numbered new n))) (sym number)
    (by_test (a.number.0 == n) (numbered-same old new n same.1))
  where
    by_test : (t : Bool) → AreBoth (device_numbered old n) (device_numbered new n) → AreBoth (cond t (Some a) (device_numbered old n)) (cond t (Some b) (device_numbered new n))
    by_test true rest = same.0
    by_test false rest = rest
numbered-same [] (b ∷ new) n same = absurd same
numbered-same (a ∷ old) [] n same = absurd same

-- ---- counts of openings

counts-fall-not : (old new : List DeviceSeen) → AreSameDevices old new → (n : ℕ) (o : Opened) → count_of_opening old n o ≤ count_of_opening new n o
counts-fall-not old new same n o = by_back o.returned (numbered-same old new n same)
  where
    faults_or : Option DeviceSeen → ℕ
    faults_or found = unwrap_or (option_map (λ (d : DeviceSeen). d.faults) found) o.faults

    by_found : (a b : Option DeviceSeen) → AreBoth a b → faults_or a ≤ faults_or b
    by_found None None both = omega arith
    by_found (Some a) (Some b) both = both.faults
    by_found None (Some b) both = absurd both
    by_found (Some a) None both = absurd both

    by_back : (back : Option ℕ) → AreBoth (device_numbered old n) (device_numbered new n)
        → unwrap_or back (faults_or (device_numbered old n)) ≤ unwrap_or back (faults_or (device_numbered new n))
    by_back None both = by_found (device_numbered old n) (device_numbered new n) both
    by_back (Some count) both = omega arith

pub counts-at : (devices : List DeviceSeen) (opened : List Opened) (first n : ℕ) (o : Opened) → slice_get opened n ≡ Some o
    → slice_get (counts_from devices first opened) n ≡ Some (count_of_opening devices (first + n) o)
counts-at devices [] first n o is = absurd (let bad : ⊥ = cc is in bad)
counts-at devices (x ∷ opened) first zero o is =
    let same : x ≡ o = same_Some x o is in
    let at : first + 0 ≡ first = omega arith in
    rw (at, same) refl
counts-at devices (x ∷ opened) first (suc n) o is =
    let at : first + suc n ≡ first + 1 + n = omega arith in
    rw at (counts-at devices opened (first + 1) n o is)

pub not-fallen : (old new : List DeviceSeen) → AreSameDevices old new → (opened : List Opened) (first : ℕ) → HaveNotFallen (counts_from old first opened) (counts_from new first opened)
not-fallen old new same [] first n count is = absurd (let bad : ⊥ = cc is in bad)
not-fallen old new same (o ∷ opened) first zero count is =
    let was : count_of_opening old first o ≡ count = same_Some (count_of_opening old first o) count is in
    subst (λ c. c ≤ count_of_opening new first o) was (counts-fall-not old new same first o)
not-fallen old new same (o ∷ opened) first (suc n) count is = not-fallen old new same opened (first + 1) n count is

pub goes-on : (o : Opened) → IsLater o o
goes-on o = record { name = refl; size = refl; capacity = refl; first = refl; back = λ back. refl }

later-itself : (opened : List Opened) (n : ℕ) (o : Opened) → slice_get opened n ≡ Some o → With (slice_get opened n) (IsLater o)
later-itself opened n o is = with-of (slice_get opened n) o (IsLater o) is (goes-on o)

-- where the store is called for nothing, counts run on with those of the devices
pub runs-devices : (w v : WorldSeen) → is_some v.files ≡ is_some w.files → v.room ≡ w.room → v.first_faults ≡ w.first_faults → v.earlier ≡ w.earlier → v.faults ≡ w.faults → v.opened ≡ w.opened
    → AreSameDevices w.nodes.devices v.nodes.devices → RunsOn w v
runs-devices w v told room first earlier faults opened same = record {
  told = told;
  room = room;
  first = first;
  earlier = earlier;
  store = omega (arith, faults);
  openings = λ n o is. subst (λ all. With (slice_get all n) (IsLater o)) (sym opened) (later-itself w.opened n o is);
  devices = subst (λ all. HaveNotFallen (counts_now w).devices (counts_from v.nodes.devices 0 all)) (sym opened) (not-fallen w.nodes.devices v.nodes.devices same w.opened 0);
}

-- ---- one event behind another

later-then : (a b c : Opened) → IsLater a b → IsLater b c → IsLater a c
later-then a b c first next = record {
  name = next.name ∙ first.name;
  size = next.size ∙ first.size;
  capacity = next.capacity ∙ first.capacity;
  first = next.first ∙ first.first;
  back = λ back. let same = first.back back in next.back (subst (λ (o : Opened). IsSome o.returned) (sym same) back) ∙ same;
}

pub runs-then : (w x v : WorldSeen) → RunsOn w x → RunsOn x v → RunsOn w v
runs-then w x v first next = record {
  told = next.told ∙ first.told;
  room = next.room ∙ first.room;
  first = next.first ∙ first.first;
  earlier = next.earlier ∙ first.earlier;
  store = omega (arith, first.store, next.store);
  openings = λ n o is.
      let then = there (slice_get x.opened n) (IsLater o) (first.openings n o is) in
      let now = there (slice_get v.opened n) (IsLater then.at) (next.openings n then.at then.is) in
      with-of (slice_get v.opened n) now.at (IsLater o) now.is (later-then o then.at now.at then.holds now.holds);
  devices = λ n count is.
      let then = there (slice_get (counts_now x).devices n) (λ c. count ≤ c) (first.devices n count is) in
      let now = there (slice_get (counts_now v).devices n) (λ c. then.at ≤ c) (next.devices n then.at then.is) in
      with-of (slice_get (counts_now v).devices n) now.at (λ c. count ≤ c) now.is (omega (arith, then.holds, now.holds));
}

-- ---- openings that are out

pub found-before : (old new : List DeviceSeen) (y : DeviceSeen) → AreSameDevices old new → Contains new y → (x : DeviceSeen) × Contains old x × IsSameDevice x y
found-before [] [] y same there = absurd (Contains-nil y there)
found-before (a ∷ old) (b ∷ new) y same there = elim (Contains-cases b new y there) [
  | inl here ↦ (a, Contains-here a old, subst (IsSameDevice a) (sym here) same.0)
  | inr later ↦ let was = found-before old new y same.1 later in (was.0, Contains-there a old was.0 was.1, was.2)
]
found-before [] (b ∷ new) y same there = absurd same
found-before (a ∷ old) [] y same there = absurd same

-- what holds of the numbers of each two
numbers-pairs : (P : DevNo → DevNo → Type 0) (old new : List DeviceSeen) → AreSameDevices old new → AllPairs (λ (a b : DeviceSeen). P a.number b.number) old
    → AllPairs (λ (a b : DeviceSeen). P a.number b.number) new
numbers-pairs P [] [] same all = all
numbers-pairs P (a ∷ old) (b ∷ new) same all =
    more_pairs (λ (x y : DeviceSeen). P x.number y.number) b new
    (λ y there.
    let was = found-before old new y same.1 there in
    subst (λ (n : DevNo). P b.number n) (sym was.2.number)
    (subst (λ (n : DevNo). P n was.0.number) (sym same.0.number) (head_pairs (λ (x y : DeviceSeen). P x.number y.number) a old all was.0 was.1)))
    (numbers-pairs P old new same.1 (tail_pairs (λ (x y : DeviceSeen). P x.number y.number) a old all))
numbers-pairs P [] (b ∷ new) same all = absurd same
numbers-pairs P (a ∷ old) [] same all = absurd same

pub out-same : (t : RunTable) (nodes now : Nodes) (opened : List Opened) → AreSameDevices nodes.devices now.devices → AreOut t nodes opened → AreOut t now opened
out-same t nodes now opened same was = record {
  each = λ device held.
      let before = found-before nodes.devices now.devices device same held in
      let out = was.each before.0 before.1 in
      record {
        opening = out.opening;
        there = subst (λ (n : DevNo). slice_get opened n.0 ≡ Some out.opening) (sym before.2.number) out.there;
        out = out.out;
        named = subst (λ n. filename_of t n ≡ Some out.opening.name) (sym before.2.node) out.named;
        capacity = before.2.capacity ∙ out.capacity;
        faults = omega (arith, out.faults, before.2.faults);
      };
  once = numbers-pairs (λ (a b : DevNo). a ≢ b) nodes.devices now.devices same was.once;
  order = numbers-pairs (λ (a b : DevNo). a.0 < b.0) nodes.devices now.devices same was.order;
  all = λ n o at out. still (device_numbered nodes.devices n) (device_numbered now.devices n) (numbered-same nodes.devices now.devices n same) (was.all n o at out);
  names = was.names;
}
  where
    still : (a b : Option DeviceSeen) → AreBoth a b → IsSome a → IsSome b
    still None b both some = absurd (false≢true some)
    still (Some a) (Some b) both some = refl
    still (Some a) None both some = absurd both

-- ---- a device that is held has failed

-- the count of a device that is out
pub count-out : (t : RunTable) (nodes : Nodes) (opened : List Opened) (x : DeviceSeen) (held : Contains nodes.devices x) (out : AreOut t nodes opened)
    → slice_get (counts_from nodes.devices 0 opened) x.number.0 ≡ Some x.faults
count-out t nodes opened x held out =
    let is = out.each x held in
    let at = counts-at nodes.devices opened 0 x.number.0 is.opening is.there in
    let found = numbered nodes.devices x out.once held in
    let zero_first : 0 + x.number.0 ≡ x.number.0 = omega arith in
    let count : count_of_opening nodes.devices (0 + x.number.0) is.opening ≡ x.faults = rw (is.out, zero_first, found) refl in
    at ∙ ap Some count

pub reached-held : (w v : WorldSeen) (before after : DeviceSeen) (count : ℕ) → RunsOn w v → v.opened ≡ w.opened
    → AreOut w.table w.nodes w.opened → AreOut w.table v.nodes w.opened → Contains w.nodes.devices before → Contains v.nodes.devices after → after.number ≡ before.number
    → StoppedBy before after before.number count → count ≤ 18446744073709551615 → IsFaultReached w v (fault_at (Dev before.number) count)
reached-held w v before after count runs opened out out_now held held_now number stopped fits =
    let is = out.each before held in
    let rose = stopped.rose in
    let least = is.faults in
    let first : slice_get (map (λ (o : Opened). o.faults) v.opened) before.number.0 ≡ Some is.opening.faults =
    subst (λ all. slice_get (map (λ (o : Opened). o.faults) all) before.number.0 ≡ Some is.opening.faults) (sym opened) (first-of w.opened before.number.0 is.opening is.there) in
    let was : slice_get (counts_now w).devices before.number.0 ≡ Some before.faults = count-out w.table w.nodes w.opened before held out in
    let now : slice_get (counts_now v).devices before.number.0 ≡ Some after.faults =
    subst (λ (n : DevNo). slice_get (counts_now v).devices n.0 ≡ Some after.faults) number
    (subst (λ all. slice_get (counts_from v.nodes.devices 0 all) after.number.0 ≡ Some after.faults) (sym opened) (count-out w.table v.nodes w.opened after held_now out_now)) in
    let reached = with-of (slice_get (counts_now v).devices before.number.0) after.faults (λ c. count ≤ c) now (omega (arith, stopped.now)) in
    record {
      rise = record {
        risen = with-of (slice_get (map (λ (o : Opened). o.faults) v.opened) before.number.0) is.opening.faults (λ c. HasFailedSince c count) first (omega (arith, rose, least));
        reached = reached;
      };
      new = record {
        risen = with-of (slice_get (counts_within w v).devices before.number.0) before.faults (λ c. HasFailedSince c count) (began-with w v runs (Dev before.number) before.faults was) (omega (arith, rose));
        reached = reached;
      };
      fits = fits;
    }
