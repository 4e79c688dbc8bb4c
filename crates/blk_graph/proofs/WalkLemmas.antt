-- What one turn of the walk keeps, and what its end says.
use Rattle.std.proofs.Common.{◌≡◌, ◌≢◌, ◌⊎◌, ℕ, zero, suc, ◌+◌, ◌<◌, List, [], ◌∷◌, length, get_or, set, refl, sym, ◌∙◌, ap, inl, inr, arith, Bool, true, false, cond}
use Rattle.std.specs.Prelude.{◌&&◌, ◌||◌, not, ◌==◌, replicate}
use Rattle.std.specs.List.{Contains}
use Rattle.std.proofs.lemmas.List.Sums.{sum_by-set}
use Rattle.std.proofs.lemmas.Bool.{eqb-true, eqb-false, eq-eqb}
use Rattle.std.proofs.lemmas.List.{get_or-set_other, get_or_default}
use Rattle.blk_graph.specs.declared.edge.Edge.{Edge}
use Rattle.blk_graph.specs.declared.edge.Parent.{Parent}
use Rattle.blk_graph.specs.declared.edge.Parent.TheVariants.{Node, Guest, Job}
use Rattle.blk_graph.specs.Paths.{IsPath, Reaches}
use Rattle.blk_graph.specs.Walk.{is_marked, is_reached, leads_on, AllReached, AreMarksClosed, mark_count}
use Rattle.blk_graph.proofs.PathLemmas.{Reaches-edge, Reaches-joined}
use Rattle.blk_graph.proofs.CycleLemmas.{and-left, and-right}

or-cases : (a b : Bool) → (a || b) ≡ true → (a ≡ true) ⊎ (b ≡ true)
or-cases true b h = inl refl
or-cases false b h = inr h

-- an edge that leads on leads to a node that is reached
pub Reaches-leads_on : (edges : List Edge) (from : ℕ) (marks : List Bool) (e : Edge) → AllReached edges from marks
    → Contains edges e → leads_on from marks e ≡ true → Reaches edges from e.child
Reaches-leads_on edges from marks e reached h leads = by_parent e.parent refl (and-left (is_reached from marks e.parent) (not (is_marked marks e.child)) leads)
  where
    by_parent : (parent : Parent) → e.parent ≡ parent → is_reached from marks parent ≡ true → Reaches edges from e.child
    by_parent (Node a) is t = elim (or-cases (a == from) (is_marked marks a) t) [
      | inl start ↦ Reaches-edge edges from e h (rw (eqb-true a from start) at is)
      | inr marked ↦ Reaches-joined edges from a e.child (reached a marked) (Reaches-edge edges a e h is)
    ]
    by_parent (Guest g) is t = absurd cc
    by_parent (Job j) is t = absurd cc

-- one more mark, on a node that is reached
pub AllReached-set : (edges : List Edge) (from : ℕ) (marks : List Bool) (n : ℕ) → AllReached edges from marks
    → Reaches edges from n → AllReached edges from (set marks n true)
AllReached-set edges from marks n reached h m marked = by_test (m == n) refl
  where
    by_test : (b : Bool) → (m == n) ≡ b → Reaches edges from m
    by_test true t = rw (eqb-true m n t) h
    by_test false t =
        let differ : m ≢ n = eqb-false m n t in
        reached m (sym (get_or-set_other marks n m true false differ) ∙ marked)

-- a mark more is one more
pub mark_count-set : (marks : List Bool) (n : ℕ) → n < length marks → is_marked marks n ≡ false
    → mark_count (set marks n true) ≡ mark_count marks + 1
mark_count-set marks n within unmarked =
    let is : get_or marks n false ≡ false = unmarked in
    let h = sum_by-set (λ mark. cond mark 1 0) marks n true false within in
    let k : mark_count (set marks n true) + 0 ≡ mark_count marks + 1 = rw is at h in
    omega (arith, k)

unmarked_from_closed : (a b : Bool) → (a && not b) ≡ false → a ≡ true → b ≡ true
unmarked_from_closed a true h k = refl
unmarked_from_closed true false h k = absurd cc
unmarked_from_closed false false h k = absurd cc

or-right : (a b : Bool) → b ≡ true → (a || b) ≡ true
or-right true b h = refl
or-right false b h = h

-- where no edge leads on, all that is reached has a mark
pub marked_from_path : (edges : List Edge) (from : ℕ) (marks : List Bool) → AreMarksClosed edges from marks
    → (a b : ℕ) (e : Edge) (p : List Edge) → is_reached from marks (Node a) ≡ true
    → IsPath edges a (e ∷ p) b → is_marked marks b ≡ true
marked_from_path edges from marks closed a b e [] start h =
    let child : is_marked marks e.child ≡ true
    = unmarked_from_closed (is_reached from marks e.parent) (is_marked marks e.child) (closed e h.0)
    (rw h.1 start) in
    rw h.2 at child
marked_from_path edges from marks closed a b e (f ∷ p) start h =
    let child : is_marked marks e.child ≡ true
    = unmarked_from_closed (is_reached from marks e.parent) (is_marked marks e.child) (closed e h.0)
    (rw h.1 start) in
    marked_from_path edges from marks closed e.child b f p
    (or-right (e.child == from) (is_marked marks e.child) child) h.2

pub marked_from_Reaches : (edges : List Edge) (from : ℕ) (marks : List Bool) → AreMarksClosed edges from marks
    → (to : ℕ) → Reaches edges from to → is_marked marks to ≡ true
marked_from_Reaches edges from marks closed to h =
    marked_from_path edges from marks closed from to h.first h.rest
    (rw (eq-eqb from from refl) refl) h.path

-- the step of a walk at an edge that leads on
pub record Marked (edges : List Edge) (from : ℕ) (marks new : List Bool) : Type 0 where
  pub reached : AllReached edges from new
  pub grown : mark_count new ≡ mark_count marks + 1

pub Marked-leads_on : (edges : List Edge) (from : ℕ) (marks : List Bool) (i : ℕ) (item : Edge) (child : ℕ)
    → AllReached edges from marks → i < length edges → item ≡ get_or edges i item
    → leads_on from marks item ≡ true → child ≡ item.child → child < length marks
    → Marked edges from marks (set marks child true)
Marked-leads_on edges from marks i item child reached within is leads same low =
    let unmarked : is_marked marks child ≡ false
    = rw same (not_marked (is_marked marks item.child)
    (and-right (is_reached from marks item.parent) (not (is_marked marks item.child)) leads)) in
    let there : Reaches edges from child
    = rw same (Reaches-leads_on edges from marks item reached (i, within, sym is) leads) in
    record {
      reached = AllReached-set edges from marks child reached there;
      grown = mark_count-set marks child low unmarked;
    }
  where
    not_marked : (b : Bool) → not b ≡ true → b ≡ false
    not_marked true h = cc
    not_marked false h = refl

-- what is true of each element before, and of this one
pub below_next : (p : Edge → Bool) (edges : List Edge) (i : ℕ) (item : Edge) → i < length edges
    → item ≡ get_or edges i item → p item ≡ false
    → ((k : ℕ) (d : Edge) → k < i → p (get_or edges k d) ≡ false)
    → (k : ℕ) (d : Edge) → k < i + 1 → p (get_or edges k d) ≡ false
below_next p edges i item within is here below k d low = by_test (k == i) refl
  where
    by_test : (b : Bool) → (k == i) ≡ b → p (get_or edges k d) ≡ false
    by_test true t =
        let same : get_or edges k d ≡ item
        = ap (λ n. get_or edges n d) (eqb-true k i t) ∙ get_or_default edges i d item within ∙ sym is in
        rw same here
    by_test false t = let differ : k ≢ i = eqb-false k i t in below k d (omega arith)

-- at first no node has a mark
pub unmarked_at_first : (n node : ℕ) → is_marked (replicate n false) node ≡ true → ⊥
unmarked_at_first zero node h = cc
unmarked_at_first (suc n) zero h = cc
unmarked_at_first (suc n) (suc node) h = unmarked_at_first n node h
