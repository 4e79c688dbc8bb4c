-- A device whose count has not risen is named by no entry.
use Rattle.std.proofs.Common.{◌≡◌, ℕ, ◌<◌, ◌≤◌, List, [], ◌∷◌, refl, ap, subst, arith, Option, Some, None}
use Rattle.std.specs.Prelude.{min, get_or}
use Rattle.blk_base.specs.Counts.{HasFailedSince}
use Rattle.blk_history.specs.Licence.{Named, device_fault_in, last_named, RoseSince, counted, NameRises, NameNone}
use Rattle.blk_history.specs.declared.event.Event.{Event}

-- the count after an entry
abbrev IsStep : ℕ → ℕ → Option Named → Type 0
IsStep before now None = now ≡ before
IsStep before now (Some n) = HasFailedSince before now

step-of : (c : ℕ) (named : Option Named) → RoseSince (c ∷ []) named → (d : ℕ) × (last_named (c ∷ []) named ≡ d ∷ []) × IsStep c d named
step-of c None rose = (c, refl, refl)
step-of c (Some n) rose =
    let one : n.dev ≡ 0 = (let below = rose.0 in omega arith) in
    let R : ℕ → Type 0 = λ dev. HasFailedSince (get_or (c ∷ []) dev 0) n.count in
    (n.count, rw one refl, subst R one rose.1)

step-grows : (c d : ℕ) (named : Option Named) → IsStep c d named → min c 18446744073709551615 ≤ min d 18446744073709551615
step-grows c d None is = omega arith
step-grows c d (Some n) is = omega arith

-- an entry after which the count is no higher names none
still : (c d : ℕ) (named : Option Named) → IsStep c d named → d ≤ c → c < 18446744073709551615 → named ≡ None
still c d None is le below = refl
still c d (Some n) is le below = absurd (omega arith)

abbrev first-of : List ℕ → ℕ
first-of [] = 0
first-of (c ∷ cs) = c

pub grows : (c count : ℕ) (h : List Event) → NameRises (c ∷ []) h → counted (c ∷ []) h ≡ count ∷ [] → min c 18446744073709551615 ≤ count
grows c count [] risen same = let is : c ≡ count = ap first-of same in omega arith
grows c count (e ∷ es) risen same =
    let s = step-of c (device_fault_in e) risen.0 in
    let R : List ℕ → Type 0 = λ cs. NameRises cs es in
    let C : List ℕ → Type 0 = λ cs. counted cs es ≡ count ∷ [] in
    let rest = grows s.0 count es (subst R s.1 risen.1) (subst C s.1 same) in
    let more = step-grows c s.0 (device_fault_in e) s.2 in
    omega arith

pub quiet : (c count : ℕ) (h : List Event) → NameRises (c ∷ []) h → counted (c ∷ []) h ≡ count ∷ [] → count ≤ c → c < 18446744073709551615 → NameNone h
quiet c count [] risen same le below = tt
quiet c count (e ∷ es) risen same le below =
    let s = step-of c (device_fault_in e) risen.0 in
    let R : List ℕ → Type 0 = λ cs. NameRises cs es in
    let C : List ℕ → Type 0 = λ cs. counted cs es ≡ count ∷ [] in
    let risen-on : NameRises (s.0 ∷ []) es = subst R s.1 risen.1 in
    let same-on : counted (s.0 ∷ []) es ≡ count ∷ [] = subst C s.1 same in
    let rest = grows s.0 count es risen-on same-on in
    let more = step-grows c s.0 (device_fault_in e) s.2 in
    (still c s.0 (device_fault_in e) s.2 (omega arith) below, quiet s.0 count es risen-on same-on (omega arith) (omega arith))
