-- Which actors are done, by the rows of guests and by the history.
use Rattle.std.proofs.Common.{◌≡◌, ◌≢◌, ◌↔◌, ℕ, zero, suc, ◌+◌, ◌≤◌, ◌<◌, true, false, Bool, List, [], ◌∷◌, ◌++◌, length, set, refl, sym, ◌∙◌, ap, subst, arith, ◌-◌, inl, inr, eq-eqb, Some}
use Rattle.std.specs.Prelude.{◌==◌, ◌||◌, slice_get, slice_index_or, Contains}
use Rattle.std.specs.List.{list_all}
use Rattle.std.proofs.lemmas.Bool.{false≢true, eqb-true, ne_eqb, cases_lt}
use Rattle.qmp_rules.specs.Chains.{is_listed}
use Rattle.world_parts.specs.declared.row.GuestProgress.{GuestProgress}
use Rattle.world_parts.specs.Progress.{AreMarked}

-- ---- one more in a list

has-push : (ids : List ℕ) (id other : ℕ) → is_listed id (ids ++ other ∷ []) ≡ (is_listed id ids || (other == id))
has-push [] id other = elim (other == id) as (λ b. (b || false) ≡ (false || b)) [ true ↦ refl | false ↦ refl ]
has-push (x ∷ ids) id other =
    let rest = has-push ids id other in
    elim (x == id) as (λ b. (b || is_listed id (ids ++ other ∷ [])) ≡ ((b || is_listed id ids) || (other == id))) [ true ↦ refl | false ↦ rest ]

-- another actor's end
stays : (ended : List ℕ) (actor other : ℕ) → other ≢ actor → is_listed actor ended ≡ is_listed actor (ended ++ other ∷ [])
stays ended actor other apart = sym (has-push ended actor other ∙ rw (ne_eqb other actor apart) (or-false (is_listed actor ended)))
  where
    or-false : (b : Bool) → (b || false) ≡ b
    or-false true = refl
    or-false false = refl

own : (ended : List ℕ) (actor : ℕ) → true ≡ is_listed actor (ended ++ actor ∷ [])
own ended actor = sym (has-push ended actor actor ∙ rw (same actor) (or-true (is_listed actor ended)))
  where
    same : (n : ℕ) → (n == n) ≡ true
    same n = eq-eqb n n refl

    or-true : (b : Bool) → (b || true) ≡ true
    or-true true = refl
    or-true false = refl

-- ---- rows

-- an actor before the first of the rows
pub marked-other : (ended : List ℕ) (actor first : ℕ) (rows : List GuestProgress) → actor < first → AreMarked ended first rows → AreMarked (ended ++ actor ∷ []) first rows
marked-other ended actor first [] before all = tt
marked-other ended actor first (row ∷ rows) before all =
    (all.0 ∙ stays ended first actor (omega arith), marked-other ended actor (first + 1) rows (omega arith) all.1)

marked-own : (ended : List ℕ) (first : ℕ) (rows : List GuestProgress) (g : ℕ) (row : GuestProgress) (actor : ℕ) → actor ≡ g + first → slice_get rows g ≡ Some row → AreMarked ended first rows
    → AreMarked (ended ++ actor ∷ []) first (set rows g (record row { is_done = true }))
marked-own ended first [] g row actor at there all = tt
marked-own ended first (x ∷ rows) zero row actor at there all =
    let same : actor ≡ first = omega arith in
    subst (λ n. AreMarked (ended ++ n ∷ []) first (record row { is_done = true } ∷ rows)) (sym same) (own ended first, marked-other ended first (first + 1) rows (omega arith) all.1)
marked-own ended first (x ∷ rows) (suc g) row actor at there all =
    (all.0 ∙ stays ended first actor (omega arith), marked-own ended (first + 1) rows g row actor (omega arith) there all.1)

pub marked-done : (ended : List ℕ) (actor : ℕ) (rows : List GuestProgress) (row : GuestProgress) → actor ≢ 0 → slice_get rows (actor - 1) ≡ Some row → AreMarked ended 1 rows
    → AreMarked (ended ++ actor ∷ []) 1 (set rows (actor - 1) (record row { is_done = true }))
marked-done ended actor rows row some there all = marked-own ended 1 rows (actor - 1) row actor (omega arith) there all

-- the row of a guest says whether it is done
pub marked-at : (ended : List ℕ) (first : ℕ) (rows : List GuestProgress) (g : ℕ) (row : GuestProgress) → AreMarked ended first rows → slice_get rows g ≡ Some row → row.is_done ≡ is_listed (g + first) ended
marked-at ended first [] g row all there = absurd (let bad : ⊥ = cc there in bad)
marked-at ended first (x ∷ rows) zero row all there =
    let same : x ≡ row = cc there in
    let at : 0 + first ≡ first = omega arith in
    rw at (ap (λ (r : GuestProgress). r.is_done) (sym same) ∙ all.0)
marked-at ended first (x ∷ rows) (suc g) row all there =
    let at : suc g + first ≡ g + (first + 1) = omega arith in
    rw at (marked-at ended (first + 1) rows g row all.1 there)

-- ---- lists of numbers

has-is-by : (id x : ℕ) (ids : List ℕ) (b : Bool) → (x == id) ≡ b → is_listed id (x ∷ ids) ≡ true → (is_listed id ids ≡ true → Contains ids id) → Contains (x ∷ ids) id
has-is-by id x ids true e is rest = (0, omega arith, eqb-true x id e)
has-is-by id x ids false e is rest =
    let later = rest (rw e at is) in
    let less = later.1 in
    (suc later.0, omega arith, later.2)

pub has-is : (id : ℕ) (ids : List ℕ) → is_listed id ids ≡ true → Contains ids id
has-is id [] is = absurd (false≢true is)
has-is id (x ∷ ids) is = has-is-by id x ids (x == id) refl is (has-is id ids)

further : (id x : ℕ) (ids : List ℕ) (k : ℕ) → (x == id) ≡ false → k < length (x ∷ ids) → slice_index_or (x ∷ ids) k id ≡ id → Contains ids id
further id x ids zero e less at = absurd (false≢true (sym e ∙ eq-eqb x id at))
further id x ids (suc k) e less at = (k, omega arith, at)

is-has-by : (id x : ℕ) (ids : List ℕ) (b : Bool) → (x == id) ≡ b → Contains (x ∷ ids) id → (Contains ids id → is_listed id ids ≡ true) → is_listed id (x ∷ ids) ≡ true
is-has-by id x ids true e is rest = rw e refl
is-has-by id x ids false e is rest = rw e (rest (further id x ids is.0 e is.1 is.2))

pub is-has : (id : ℕ) (ids : List ℕ) → Contains ids id → is_listed id ids ≡ true
is-has id [] is = absurd (omega (arith, is.1))
is-has id (x ∷ ids) is = is-has-by id x ids (x == id) refl is (is-has id ids)

-- ---- all of them

all-marked-by : (ended : List ℕ) (first : ℕ) (row : GuestProgress) (rows : List GuestProgress) (b : Bool) → row.is_done ≡ b → row.is_done ≡ is_listed first ended
    → list_all (λ r. r.is_done) (row ∷ rows) ≡ true
    → (list_all (λ r. r.is_done) rows ≡ true → (actor : ℕ) → first + 1 ≤ actor → actor < first + 1 + length rows → is_listed actor ended ≡ true)
    → (actor : ℕ) → first ≤ actor → actor < first + length (row ∷ rows) → is_listed actor ended ≡ true
all-marked-by ended first row rows false e at is rest actor from to = absurd (false≢true (rw e at is))
all-marked-by ended first row rows true e at is rest actor from to = elim (cases_lt first actor) [
  | inl later ↦ rest (rw e at is) actor (omega arith) (omega arith)
  | inr here ↦ let same : actor ≡ first = omega arith in rw same (sym at ∙ e)
]

all-marked : (ended : List ℕ) (first : ℕ) (rows : List GuestProgress) → AreMarked ended first rows → list_all (λ row. row.is_done) rows ≡ true
    → (actor : ℕ) → first ≤ actor → actor < first + length rows → is_listed actor ended ≡ true
all-marked ended first [] all is actor from to = absurd (omega arith)
all-marked ended first (row ∷ rows) all is actor from to =
    all-marked-by ended first row rows row.is_done refl all.0 is (all-marked ended (first + 1) rows all.1) actor from to

marked-all : (ended : List ℕ) (first : ℕ) (rows : List GuestProgress) → AreMarked ended first rows
    → ((actor : ℕ) → first ≤ actor → actor < first + length rows → is_listed actor ended ≡ true) → list_all (λ row. row.is_done) rows ≡ true
marked-all ended first [] all each = refl
marked-all ended first (row ∷ rows) all each =
    let here : row.is_done ≡ true = all.0 ∙ each first (omega arith) (omega arith) in
    rw here (marked-all ended (first + 1) rows all.1 (λ actor from to. each actor (omega arith) (omega arith)))

pub all-done : (ended : List ℕ) (rows : List GuestProgress) (n : ℕ) → n ≡ length rows → true ≡ is_listed 0 ended → AreMarked ended 1 rows
    → (list_all (λ row. row.is_done) rows ≡ true) ↔ ((actor : ℕ) → actor ≤ n → Contains ended actor)
all-done ended rows n count script all = (
  λ is actor within. has-is actor ended (elim (cases_lt 0 actor) [
    | inl guest ↦ all-marked ended 1 rows all is actor (omega arith) (omega arith)
    | inr first ↦ let none : actor ≡ 0 = omega arith in rw none (sym script)
  ]),
  λ each. marked-all ended 1 rows all (λ actor from to. is-has actor ended (each actor (omega arith))),
)
