-- Rows of which no two have one node and name, as a view of each shows them: what calls make of the rows, seen so.
use Rattle.std.proofs.Common.{◌≡◌, ℕ, zero, suc, ◌+◌, ◌<◌, ◌≤◌, inl, inr, Bool, true, false, cond, List, [], ◌∷◌, ◌++◌, length, map, take, refl, sym, ap, subst, ◌∙◌, arith, Option, Some, None, option_map}
use Rattle.std.specs.Prelude.{◌==◌, ◌&&◌, ◌||◌, not, bytes_eq, count_by}
use Rattle.std.specs.List.{find, filter, list_any, Contains}
use Rattle.std.proofs.lemmas.Bool.{eqb-true, eq-eqb, false_from_ne_true}
use Rattle.std.proofs.lemmas.Slice.Eq.{bytes_eq-Decides}
use Rattle.std.proofs.lemmas.List.Sums.{count_by_more_no, count_by_more_yes}
use Rattle.blk_graph.proofs.Members.{Contains-here, Contains-there, Contains-cases, Contains-nil}
use Rattle.blk_bits.specs.Granules.{contains}
use Rattle.blk_bitmaps.specs.declared.row.Bitmap.{Bitmap}
use Rattle.blk_bitmaps.specs.Rows.{is_named, is_dirty, dirty_below, HaveDistinctNames}
use Rattle.blk_bitmaps.specs.Refusals.{first_row}
use Rattle.blk_bitmaps.specs.Calls.{with_first, without_first, where_so}

-- ---- names

and-both : (a b : Bool) → (a && b) ≡ true → (a ≡ true) × (b ≡ true)
and-both true true h = (refl, refl)
and-both true false h = absurd cc
and-both false b h = absurd cc

or-both : (a b : Bool) → (a || b) ≡ false → (a ≡ false) × (b ≡ false)
or-both false false h = (refl, refl)
or-both false true h = absurd cc
or-both true b h = absurd cc

named-parts : (n : ℕ) (m : List ℕ) (row : Bitmap) → is_named n m row ≡ true → (row.node ≡ n) × (row.name.bytes ≡ m)
named-parts n m row h =
    let parts = and-both (row.node == n) (bytes_eq row.name.bytes m) h in
    (eqb-true row.node n parts.0, (bytes_eq-Decides row.name.bytes m).0 parts.1)

pub named-itself : (row : Bitmap) → is_named row.node row.name.bytes row ≡ true
named-itself row =
    let node : (row.node == row.node) ≡ true = eq-eqb row.node row.node refl in
    let name : bytes_eq row.name.bytes row.name.bytes ≡ true = (bytes_eq-Decides row.name.bytes row.name.bytes).1 refl in
    rw (node, name) refl

-- the one is named as the other where that is named as the one
named-back : (a b : Bitmap) → is_named a.node a.name.bytes b ≡ false → is_named b.node b.name.bytes a ≡ false
named-back a b h = false_from_ne_true (is_named b.node b.name.bytes a) (λ yes.
    let parts = named-parts b.node b.name.bytes a yes in
    let node : (b.node == a.node) ≡ true = eq-eqb b.node a.node (sym parts.0) in
    let name : bytes_eq b.name.bytes a.name.bytes ≡ true = (bytes_eq-Decides b.name.bytes a.name.bytes).1 (sym parts.1) in
    let named : is_named a.node a.name.bytes b ≡ true = rw (node, name) refl in
    cc)

-- behind a row of the node and name there is none
alone : (n : ℕ) (m : List ℕ) (row : Bitmap) (rows : List Bitmap) → is_named n m row ≡ true
    → list_any (is_named row.node row.name.bytes) rows ≡ false → list_any (is_named n m) rows ≡ false
alone n m row rows named none =
    let parts = named-parts n m row named in
    subst (λ k. list_any (is_named k m) rows ≡ false) parts.0 (subst (λ k. list_any (is_named row.node k) rows ≡ false) parts.1 none)

-- ---- what one call makes of one row

module _ {V : Type 0} (view : Bitmap → V) (n : ℕ) (m : List ℕ) (test : V → Bool) (same : (row : Bitmap) → test (view row) ≡ is_named n m row) where
  module _ (g : V → V) where
    still : (rows : List Bitmap) → list_any (is_named n m) rows ≡ false → map (λ v. cond (test v) (g v) v) (map view rows) ≡ map view rows
    still [] none = refl
    still (row ∷ rows) none =
        let parts = or-both (is_named n m row) (list_any (is_named n m) rows) none in
        let here : test (view row) ≡ false = same row ∙ parts.0 in
        rw here (ap (λ vs. view row ∷ vs) (still rows parts.1))

    pub changed-view : (f : Bitmap → Bitmap) → ((row : Bitmap) → view (f row) ≡ g (view row)) → (rows : List Bitmap) → HaveDistinctNames rows
        → map view (with_first (is_named n m) f rows) ≡ map (λ v. cond (test v) (g v) v) (map view rows)
    changed-view f fits [] single = refl
    changed-view f fits (row ∷ rows) single = at (is_named n m row) refl (changed-view f fits rows single.1)
      where
        at : (b : Bool) → is_named n m row ≡ b
            → map view (with_first (is_named n m) f rows) ≡ map (λ v. cond (test v) (g v) v) (map view rows)
            → map view (cond b (f row ∷ rows) (row ∷ with_first (is_named n m) f rows))
            ≡ cond (test (view row)) (g (view row)) (view row) ∷ map (λ v. cond (test v) (g v) v) (map view rows)
        at true e rest =
            let here : test (view row) ≡ true = same row ∙ e in
            rw (here, fits row) (ap (λ vs. g (view row) ∷ vs) (sym (still rows (alone n m row rows e single.0))))
        at false e rest =
            let here : test (view row) ≡ false = same row ∙ e in
            rw here (ap (λ vs. view row ∷ vs) rest)

  kept : (rows : List Bitmap) → list_any (is_named n m) rows ≡ false → filter (λ v. not (test v)) (map view rows) ≡ map view rows
  kept [] none = refl
  kept (row ∷ rows) none =
      let parts = or-both (is_named n m row) (list_any (is_named n m) rows) none in
      let here : test (view row) ≡ false = same row ∙ parts.0 in
      rw here (ap (λ vs. view row ∷ vs) (kept rows parts.1))

  pub removed-view : (rows : List Bitmap) → HaveDistinctNames rows
      → map view (without_first (is_named n m) rows) ≡ filter (λ v. not (test v)) (map view rows)
  removed-view [] single = refl
  removed-view (row ∷ rows) single = at (is_named n m row) refl (removed-view rows single.1)
    where
      at : (b : Bool) → is_named n m row ≡ b
          → map view (without_first (is_named n m) rows) ≡ filter (λ v. not (test v)) (map view rows)
          → map view (cond b rows (row ∷ without_first (is_named n m) rows)) ≡ filter (λ v. not (test v)) (view row ∷ map view rows)
      at true e rest =
          let here : test (view row) ≡ true = same row ∙ e in
          rw here (sym (kept rows (alone n m row rows e single.0)))
      at false e rest =
          let here : test (view row) ≡ false = same row ∙ e in
          rw here (ap (λ vs. view row ∷ vs) rest)

  pub found-view : (rows : List Bitmap) → find test (map view rows) ≡ option_map view (first_row (is_named n m) rows)
  found-view [] = refl
  found-view (row ∷ rows) = rw (same row) (at (is_named n m row) (found-view rows))
    where
      at : (b : Bool) → find test (map view rows) ≡ option_map view (first_row (is_named n m) rows)
          → cond b (Some (view row)) (find test (map view rows)) ≡ option_map view (cond b (Some row) (first_row (is_named n m) rows))
      at true rest = refl
      at false rest = rest

  pub named-view : (rows : List Bitmap) → list_any test (map view rows) ≡ list_any (is_named n m) rows
  named-view [] = refl
  named-view (row ∷ rows) = rw (same row, named-view rows) refl

-- ---- all rows of a node

module _ {V : Type 0} (view : Bitmap → V) (at : V → ℕ) (same : (row : Bitmap) → at (view row) ≡ row.node) (node : ℕ) where
  pub left-view : (rows : List Bitmap) → map view (filter (λ row. not (row.node == node)) rows) ≡ filter (λ v. not (at v == node)) (map view rows)
  left-view [] = refl
  left-view (row ∷ rows) = rw (same row) (by_test (row.node == node) (left-view rows))
    where
      by_test : (b : Bool) → map view (filter (λ r. not (r.node == node)) rows) ≡ filter (λ v. not (at v == node)) (map view rows)
          → map view (cond (not b) (row ∷ filter (λ r. not (r.node == node)) rows) (filter (λ r. not (r.node == node)) rows))
          ≡ cond (not b) (view row ∷ filter (λ v. not (at v == node)) (map view rows)) (filter (λ v. not (at v == node)) (map view rows))
      by_test true rest = rest
      by_test false rest = ap (λ vs. view row ∷ vs) rest

-- rows that show the same, each
pub mapped-view : {V : Type 0} (view : Bitmap → V) (f : Bitmap → Bitmap) → ((row : Bitmap) → view (f row) ≡ view row) → (rows : List Bitmap)
    → map view (map f rows) ≡ map view rows
mapped-view view f same [] = refl
mapped-view view f same (row ∷ rows) = rw (same row) (ap (λ vs. view row ∷ vs) (mapped-view view f same rows))

pub first-view : {V : Type 0} (view : Bitmap → V) (test : Bitmap → Bool) (f : Bitmap → Bitmap) → ((row : Bitmap) → view (f row) ≡ view row) → (rows : List Bitmap)
    → map view (with_first test f rows) ≡ map view rows
first-view view test f same [] = refl
first-view view test f same (row ∷ rows) = at (test row) (first-view view test f same rows)
  where
    at : (b : Bool) → map view (with_first test f rows) ≡ map view rows → map view (cond b (f row ∷ rows) (row ∷ with_first test f rows)) ≡ map view (row ∷ rows)
    at true rest = rw (same row) refl
    at false rest = ap (λ vs. view row ∷ vs) rest

-- rows changed by a test, where each row's view is changed by another that says the same of it
pub where-view : {V : Type 0} (view : Bitmap → V) (test : Bitmap → Bool) (f : Bitmap → Bitmap) (by : V → Bool) (g : V → V) (rows : List Bitmap)
    → ((row : Bitmap) → Contains rows row → by (view row) ≡ test row) → ((row : Bitmap) → view (f row) ≡ g (view row))
    → map view (where_so test f rows) ≡ map (λ v. cond (by v) (g v) v) (map view rows)
where-view view test f by g [] tells fits = refl
where-view view test f by g (row ∷ rows) tells fits =
    rw (tells row (Contains-here row rows)) (at (test row) (where-view view test f by g rows (λ r there. tells r (Contains-there row rows r there)) fits))
  where
    at : (b : Bool) → map view (where_so test f rows) ≡ map (λ v. cond (by v) (g v) v) (map view rows)
        → view (cond b (f row) row) ∷ map view (where_so test f rows) ≡ cond b (g (view row)) (view row) ∷ map (λ v. cond (by v) (g v) v) (map view rows)
    at true rest = rw (fits row) (ap (λ vs. g (view row) ∷ vs) rest)
    at false rest = ap (λ vs. view row ∷ vs) rest

-- a row is what is found by its node and name
pub found-itself : (rows : List Bitmap) (row : Bitmap) → HaveDistinctNames rows → Contains rows row → first_row (is_named row.node row.name.bytes) rows ≡ Some row
found-itself [] row single there = absurd (Contains-nil row there)
found-itself (x ∷ rows) row single there = elim (Contains-cases x rows row there) [
  | inl here ↦ subst (λ r. cond (is_named r.node r.name.bytes x) (Some x) (first_row (is_named r.node r.name.bytes) rows) ≡ Some r) (sym here) (rw (named-itself x) refl)
  | inr later ↦
      let other : is_named row.node row.name.bytes x ≡ false = named-back x row (unnamed rows single.0 later) in
      rw other (found-itself rows row single.1 later)
]
  where
    unnamed : (rows : List Bitmap) → list_any (is_named x.node x.name.bytes) rows ≡ false → Contains rows row → is_named x.node x.name.bytes row ≡ false
    unnamed [] none there = absurd (Contains-nil row there)
    unnamed (y ∷ rows) none there =
        let parts = or-both (is_named x.node x.name.bytes y) (list_any (is_named x.node x.name.bytes) rows) none in
        elim (Contains-cases y rows row there) [
          | inl here ↦ subst (λ r. is_named x.node x.name.bytes r ≡ false) (sym here) parts.0
          | inr later ↦ unnamed rows parts.1 later
        ]

-- ---- rows stay single

-- the nodes and names are the same
pub single-same : (rows now : List Bitmap) → map (λ row. row.node) now ≡ map (λ row. row.node) rows → map (λ row. row.name.bytes) now ≡ map (λ row. row.name.bytes) rows
    → HaveDistinctNames rows → HaveDistinctNames now
single-same rows [] nodes names single = tt
single-same [] (y ∷ now) nodes names single = absurd cc
single-same (x ∷ rows) (y ∷ now) nodes names single =
    let node : y.node ≡ x.node = cc in
    let name : y.name.bytes ≡ x.name.bytes = cc in
    let more_nodes : map (λ row. row.node) now ≡ map (λ row. row.node) rows = cc in
    let more_names : map (λ row. row.name.bytes) now ≡ map (λ row. row.name.bytes) rows = cc in
    (rw (node, name) (any x.node x.name.bytes rows now more_nodes more_names ∙ single.0), single-same rows now more_nodes more_names single.1)
  where
    any : (n : ℕ) (m : List ℕ) (rows now : List Bitmap) → map (λ row. row.node) now ≡ map (λ row. row.node) rows → map (λ row. row.name.bytes) now ≡ map (λ row. row.name.bytes) rows
        → list_any (is_named n m) now ≡ list_any (is_named n m) rows
    any n m [] [] nodes names = refl
    any n m (x ∷ rows) [] nodes names = absurd cc
    any n m [] (y ∷ now) nodes names = absurd cc
    any n m (x ∷ rows) (y ∷ now) nodes names =
        let node : y.node ≡ x.node = cc in
        let name : y.name.bytes ≡ x.name.bytes = cc in
        let more_nodes : map (λ row. row.node) now ≡ map (λ row. row.node) rows = cc in
        let more_names : map (λ row. row.name.bytes) now ≡ map (λ row. row.name.bytes) rows = cc in
        let rest : list_any (is_named n m) now ≡ list_any (is_named n m) rows = any n m rows now more_nodes more_names in
        rw (node, name, rest) refl

-- fewer rows
none-fewer : (p q : Bitmap → Bool) (rows : List Bitmap) → list_any p rows ≡ false → list_any p (filter q rows) ≡ false
none-fewer p q [] none = refl
none-fewer p q (row ∷ rows) none =
    let parts = or-both (p row) (list_any p rows) none in
    at (q row) (rw (parts.0, none-fewer p q rows parts.1) refl) (none-fewer p q rows parts.1)
  where
    at : (b : Bool) → list_any p (row ∷ filter q rows) ≡ false → list_any p (filter q rows) ≡ false → list_any p (cond b (row ∷ filter q rows) (filter q rows)) ≡ false
    at true with_it rest = with_it
    at false with_it rest = rest

pub single-fewer : (q : Bitmap → Bool) (rows : List Bitmap) → HaveDistinctNames rows → HaveDistinctNames (filter q rows)
single-fewer q [] single = tt
single-fewer q (row ∷ rows) single =
    at (q row) (none-fewer (is_named row.node row.name.bytes) q rows single.0, single-fewer q rows single.1) (single-fewer q rows single.1)
  where
    at : (b : Bool) → HaveDistinctNames (row ∷ filter q rows) → HaveDistinctNames (filter q rows) → HaveDistinctNames (cond b (row ∷ filter q rows) (filter q rows))
    at true with_it rest = with_it
    at false with_it rest = rest

-- without the first of a name they are those that pass a test
pub without-filter : (n : ℕ) (m : List ℕ) (rows : List Bitmap) → HaveDistinctNames rows → without_first (is_named n m) rows ≡ filter (λ row. not (is_named n m row)) rows
without-filter n m rows single = sym (own (without_first (is_named n m) rows)) ∙ removed-view (λ row. row) n m (is_named n m) (λ row. refl) rows single ∙ ap (filter (λ row. not (is_named n m row))) (own rows)
  where
    own : (rows : List Bitmap) → map (λ row. row) rows ≡ rows
    own [] = refl
    own (row ∷ rows) = ap (λ rs. row ∷ rs) (own rows)

-- one more, of another node or name
pub single-push : (row : Bitmap) (rows : List Bitmap) → list_any (is_named row.node row.name.bytes) rows ≡ false → HaveDistinctNames rows → HaveDistinctNames (rows ++ row ∷ [])
single-push row [] none single = (refl, tt)
single-push row (x ∷ rows) none single =
    let parts = or-both (is_named row.node row.name.bytes x) (list_any (is_named row.node row.name.bytes) rows) none in
    (further rows single.0 (named-back row x parts.0), single-push row rows parts.1 single.1)
  where
    further : (rows : List Bitmap) → list_any (is_named x.node x.name.bytes) rows ≡ false → is_named x.node x.name.bytes row ≡ false
        → list_any (is_named x.node x.name.bytes) (rows ++ row ∷ []) ≡ false
    further [] none other = rw other refl
    further (y ∷ rows) none other =
        let parts = or-both (is_named x.node x.name.bytes y) (list_any (is_named x.node x.name.bytes) rows) none in
        rw (parts.0, further rows parts.1 other) refl

-- ---- counts

-- where no job uses the row
pub dirty-count : (row : Bitmap) → row.frozen ≡ None → (k : ℕ) → k ≤ length row.dirty → dirty_below row k ≡ count_by (λ member. member) (take k row.dirty)
dirty-count row whole zero few = refl
dirty-count row whole (suc k) few = at (contains row.dirty k) refl (dirty-count row whole k (omega arith))
  where
    at : (b : Bool) → contains row.dirty k ≡ b → dirty_below row k ≡ count_by (λ member. member) (take k row.dirty) → dirty_below row (suc k) ≡ count_by (λ member. member) (take (suc k) row.dirty)
    at true e rest =
        let more : count_by (λ member. member) (take (k + 1) row.dirty) ≡ count_by (λ member. member) (take k row.dirty) + 1 = count_by_more_yes (λ member. member) row.dirty k false (omega arith) e in
        let further : suc k ≡ k + 1 = omega arith in
        rw (further, e) (ap (λ n. n + 1) rest ∙ sym more)
    at false e rest =
        let more : count_by (λ member. member) (take (k + 1) row.dirty) ≡ count_by (λ member. member) (take k row.dirty) = count_by_more_no (λ member. member) row.dirty k false (omega arith) e in
        let further : suc k ≡ k + 1 = omega arith in
        rw (further, e, whole) (let none : dirty_below row k + 0 ≡ dirty_below row k = omega arith in none ∙ rest ∙ sym more)
