-- The runs of sectors that are asked for.
use Rattle.std.proofs.Common.{◌≡◌, ℕ, zero, suc, ◌+◌, ◌-◌, ◌<◌, ◌≤◌, ◌==◌, nat_le, nat_lt, Bool, true, false, List, [], ◌∷◌, refl, sym, ◌∙◌, ap, subst, arith, inl, inr}
use Rattle.std.specs.Prelude.{◌&&◌, ◌||◌}
use Rattle.std.proofs.lemmas.Bool.{cases_eq, cases_lt, eq-eqb, ne_eqb}
use Rattle.std.proofs.lemmas.Bool.Decides.{nat_tests}
use Rattle.node_copies.specs.Sectors.{has_run, has_sector, is_in_run, runs_from, with_sector}
use Rattle.node_copies.specs.declared.sectors.Run.{Run}

-- runs that lie between two sectors, in their order
abbrev pub LieWithin : ℕ → ℕ → List Run → Type 0
LieWithin from to [] = Unit {0}
LieWithin from to (run ∷ runs) =
    (from ≤ run.from) × (run.from < run.to) × (run.to ≤ to) × LieWithin run.to to runs

lie_later : (from later to : ℕ) (runs : List Run) → from ≤ later → LieWithin later to runs → LieWithin from to runs
lie_later from later to [] h is = tt
lie_later from later to (run ∷ runs) h is = (omega (arith, h, is.0), is.1, is.2, is.3)

one_more : (i to : ℕ) (b : Bool) (runs : List Run) → i < to → LieWithin (i + 1) to runs → LieWithin i to (with_sector i b runs)
one_more i to false runs below is = lie_later i (i + 1) to runs (omega arith) is
one_more i to true [] below is = (omega arith, omega arith, omega (arith, below), tt)
one_more i to true (run ∷ runs) below is = elim (cases_eq run.from (i + 1)) [
  | inl same ↦
      let test = eq-eqb run.from (i + 1) same in
      rw test (omega arith, omega (arith, is.0, is.1), is.2, is.3)
  | inr apart ↦
      let test = ne_eqb run.from (i + 1) apart in
      rw test (omega arith, omega arith, omega (arith, below), is)
]

pub runs_within : (n sectors i to : ℕ) → i + n ≡ to → LieWithin i to (runs_from n sectors i)
runs_within zero sectors i to is = tt
runs_within (suc n) sectors i to is =
    one_more i to (has_sector sectors i) (runs_from n sectors (i + 1)) (omega (arith, is)) (runs_within n sectors (i + 1) to (omega (arith, is)))

-- sectors that aren't asked for are passed over
pub runs_skip : (k left n sectors i : ℕ) → n ≡ left + k → ((j : ℕ) → i ≤ j → j < i + k → has_sector sectors j ≡ false)
    → runs_from n sectors i ≡ runs_from left sectors (i + k)
runs_skip zero left n sectors i is none =
    let e : i ≡ i + 0 = omega arith in
    let f : n ≡ left = omega (arith, is) in
    ap (runs_from n sectors) e ∙ ap (λ (m : ℕ). runs_from m sectors (i + 0)) f
runs_skip (suc k) left zero sectors i is none = absurd (omega (arith, is))
runs_skip (suc k) left (suc n) sectors i is none =
    let here = none i (omega arith) (omega arith) in
    let e : i + 1 + k ≡ i + suc k = omega arith in
    ap (λ (b : Bool). with_sector i b (runs_from n sectors (i + 1))) here
    ∙ runs_skip k left n sectors (i + 1) (omega (arith, is)) (λ j from below. none j (omega (arith, from)) (omega (arith, below)))
    ∙ ap (runs_from left sectors) e

-- one in front of runs that don't begin behind it
alone : (i : ℕ) (runs : List Run) (to : ℕ) → LieWithin (i + 2) to runs → with_sector i true runs ≡ record { from = i; to = i + 1 } ∷ runs
alone i [] to is = refl
alone i (run ∷ runs) to is = let test = ne_eqb run.from (i + 1) (λ same. absurd (omega (arith, same, is.0))) in rw test refl

-- those that are make one run
pub runs_first : (k left n sectors i : ℕ) → n ≡ left + suc k → ((j : ℕ) → i ≤ j → j < i + suc k → has_sector sectors j ≡ true)
    → (0 < left → has_sector sectors (i + suc k) ≡ false)
    → runs_from n sectors i ≡ record { from = i; to = i + suc k } ∷ runs_from left sectors (i + suc k)
runs_first k left zero sectors i is each ends = absurd (omega (arith, is))
runs_first zero zero (suc n) sectors i is each ends =
    let here = each i (omega arith) (omega arith) in
    let none : n ≡ 0 = omega (arith, is) in
    ap (λ (b : Bool). with_sector i b (runs_from n sectors (i + 1))) here ∙ ap (λ (m : ℕ). with_sector i true (runs_from m sectors (i + 1))) none
runs_first zero (suc left) (suc n) sectors i is each ends =
    let here = each i (omega arith) (omega arith) in
    let some : n ≡ suc left = omega (arith, is) in
    let next : has_sector sectors (i + 1) ≡ false = ends (omega arith) in
    let rest : runs_from (suc left) sectors (i + 1) ≡ runs_from left sectors (i + 1 + 1)
    = ap (λ (b : Bool). with_sector (i + 1) b (runs_from left sectors (i + 1 + 1))) next in
    let e : i + 1 + 1 ≡ i + 2 = omega arith in
    let lies : LieWithin (i + 2) (i + 2 + left) (runs_from left sectors (i + 1 + 1))
    = subst (λ (m : ℕ). LieWithin (i + 2) (i + 2 + left) (runs_from left sectors m)) (sym e) (runs_within left sectors (i + 2) (i + 2 + left) refl) in
    ap (λ (b : Bool). with_sector i b (runs_from n sectors (i + 1))) here
    ∙ ap (λ (m : ℕ). with_sector i true (runs_from m sectors (i + 1))) some
    ∙ ap (with_sector i true) rest ∙ alone i (runs_from left sectors (i + 1 + 1)) (i + 2 + left) lies
    ∙ ap (λ (runs : List Run). record { from = i; to = i + 1 } ∷ runs) (sym rest)
runs_first (suc k) left (suc n) sectors i is each ends =
    let here = each i (omega arith) (omega arith) in
    let e : i + 1 + suc k ≡ i + suc (suc k) = omega arith in
    let rest = runs_first k left n sectors (i + 1) (omega (arith, is)) (λ j from below. each j (omega (arith, from)) (omega (arith, below)))
    (λ some. ap (has_sector sectors) e ∙ ends some) in
    let test = eq-eqb (i + 1) (i + 1) refl in
    ap (λ (b : Bool). with_sector i b (runs_from n sectors (i + 1))) here
    ∙ ap (with_sector i true) rest
    ∙ rw test (ap (λ (m : ℕ). record { from = i; to = m } ∷ runs_from left sectors m) e)

-- with its end
pub run_first : (first to count sectors : ℕ) → first < to → to ≤ count → ((j : ℕ) → first ≤ j → j < to → has_sector sectors j ≡ true)
    → (to < count → has_sector sectors to ≡ false)
    → runs_from (count - first) sectors first ≡ record { from = first; to = to } ∷ runs_from (count - to) sectors to
run_first first to count sectors some within each ends =
    let k : ℕ = to - first - 1 in
    let e : first + suc k ≡ to = omega (arith, some) in
    runs_first k (count - to) (count - first) sectors first (omega (arith, some, within)) (λ j from below. each j from (omega (arith, below, e)))
    (λ left. ap (has_sector sectors) e ∙ ends (omega (arith, left)))
    ∙ ap (λ (m : ℕ). record { from = first; to = m } ∷ runs_from (count - to) sectors m) e

pub run_skip : (from first count sectors : ℕ) → from ≤ first → first ≤ count → ((j : ℕ) → from ≤ j → j < first → has_sector sectors j ≡ false)
    → runs_from (count - from) sectors from ≡ runs_from (count - first) sectors first
run_skip from first count sectors order within none =
    let e : from + (first - from) ≡ first = omega (arith, order) in
    runs_skip (first - from) (count - first) (count - from) sectors from (omega (arith, order, within)) (λ j low below. none j low (omega (arith, below, e)))
    ∙ ap (runs_from (count - first) sectors) e

-- ---- which sectors they have

none_before : (from to s : ℕ) (runs : List Run) → LieWithin from to runs → s < from → has_run runs s ≡ false
none_before from to s [] is before = refl
none_before from to s (run ∷ runs) is before =
    let here : is_in_run s run ≡ false = let a = is.0 in grind (arith, nat_tests) in
    rw here (none_before run.to to s runs is.3 (omega (arith, before, is.0, is.1)))

in_one : (s i : ℕ) → is_in_run s (record { from = i; to = i + 1 }) ≡ (s == i)
in_one s i = elim (cases_eq s i) [
  | inl same ↦ let test = eq-eqb s i same in grind (arith, nat_tests)
  | inr apart ↦ let test = ne_eqb s i apart in grind (arith, nat_tests)
]

in_more : (s i to : ℕ) → i + 1 < to → is_in_run s (record { from = i; to = to }) ≡ ((s == i) || is_in_run s (record { from = i + 1; to = to }))
in_more s i to some = elim (cases_eq s i) [
  | inl same ↦ let test = eq-eqb s i same in rw test (grind (arith, nat_tests))
  | inr apart ↦ let test = ne_eqb s i apart in rw test (grind (arith, nat_tests))
]

or_assoc : (a b c : Bool) → (a || b) || c ≡ a || (b || c)
or_assoc true b c = refl
or_assoc false b c = refl

or_none : (a : Bool) → a || false ≡ a
or_none true = refl
or_none false = refl

with_has : (s i to : ℕ) (b : Bool) (runs : List Run) → LieWithin (i + 1) to runs → has_run (with_sector i b runs) s ≡ ((b && (s == i)) || has_run runs s)
with_has s i to false runs is = refl
with_has s i to true [] is = ap (λ (x : Bool). x || false) (in_one s i)
with_has s i to true (run ∷ runs) is = elim (cases_eq run.from (i + 1)) [
  | inl same ↦
      let test = eq-eqb run.from (i + 1) same in
      let whole : record { from = i + 1; to = run.to } ≡ run = ap (λ (m : ℕ). record { from = m; to = run.to }) (sym same) in
      rw test
      (ap (λ (x : Bool). x || has_run runs s) (in_more s i run.to (omega (arith, same, is.1)) ∙ ap (λ (r : Run). (s == i) || is_in_run s r) whole)
      ∙ or_assoc (s == i) (is_in_run s run) (has_run runs s))
  | inr apart ↦
      let test = ne_eqb run.from (i + 1) apart in
      rw test (ap (λ (x : Bool). x || has_run (run ∷ runs) s) (in_one s i))
]

abbrev Asked : ℕ → ℕ → ℕ → ℕ → Bool
Asked sectors from to s = nat_le from s && nat_lt s to && has_sector sectors s

runs_have : (n sectors i to s : ℕ) → i + n ≡ to → has_run (runs_from n sectors i) s ≡ Asked sectors i to s
runs_have zero sectors i to s is = elim (cases_lt s i) [
  | inl below ↦ let test : nat_le i s ≡ false = grind (arith, nat_tests) in rw test refl
  | inr from ↦ let test : nat_lt s to ≡ false = grind (arith, nat_tests) in let low : nat_le i s ≡ true = grind (arith, nat_tests) in rw (low, test) refl
]
runs_have (suc n) sectors i to s is =
    with_has s i to (has_sector sectors i) (runs_from n sectors (i + 1)) (runs_within n sectors (i + 1) to (omega (arith, is)))
    ∙ ap (λ (x : Bool). (has_sector sectors i && (s == i)) || x) (runs_have n sectors (i + 1) to s (omega (arith, is)))
    ∙ elim (cases_eq s i) [
      | inl same ↦
          let test = eq-eqb s i same in
          let low : nat_le i s ≡ true = grind (arith, nat_tests) in
          let high : nat_lt s to ≡ true = grind (arith, nat_tests) in
          let over : nat_le (i + 1) s ≡ false = grind (arith, nat_tests) in
          let sector : has_sector sectors s ≡ has_sector sectors i = ap (has_sector sectors) same in
          rw (test, low, high, over, sector) (both (has_sector sectors i))
      | inr apart ↦
          let test = ne_eqb s i apart in
          let low : nat_le (i + 1) s ≡ nat_le i s = elim (cases_lt s i) [
            | inl below ↦ grind (arith, nat_tests)
            | inr from ↦ grind (arith, nat_tests)
          ] in
          rw (test, low) (neither (has_sector sectors i) (Asked sectors i to s))
    ]
  where
    both : (b : Bool) → ((b && true) || false) ≡ b
    both true = refl
    both false = refl

    neither : (b x : Bool) → ((b && false) || x) ≡ x
    neither true x = refl
    neither false x = refl

pub runs_asked : (n sectors s : ℕ) → has_run (runs_from n sectors 0) s ≡ (nat_lt s n && has_sector sectors s)
runs_asked n sectors s =
    let low : nat_le 0 s ≡ true = grind (arith, nat_tests) in
    runs_have n sectors 0 n s (omega arith) ∙ rw low refl
