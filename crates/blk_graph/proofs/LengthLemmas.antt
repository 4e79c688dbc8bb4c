-- In a graph without cycles a path comes to each node once, so it is shorter than the nodes are many.
use Rattle.std.proofs.Common.{◌≡◌, ℕ, ◌+◌, ◌-◌, ◌≤◌, List, [], ◌∷◌, length, refl, inl, inr, arith, true, false}
use Rattle.std.specs.Prelude.{nat_eq}
use Rattle.std.specs.List.{Contains, IsDistinct, AllByRecursion}
use Rattle.std.specs.Cmp.{nat_eq_equiv, unsigned_Decides}
use Rattle.std.specs.Set.{is_member}
use Rattle.std.proofs.lemmas.Bool.{ne_eqb}
use Rattle.std.proofs.lemmas.Map.Keys.{IsDistinct-cons}
use Rattle.std.proofs.lemmas.Map.Made.{length-le_from_is_member, is_member-Decides}
use Rattle.blk_graph.specs.declared.edge.Edge.{Edge}
use Rattle.blk_graph.specs.declared.edge.Parent.TheVariants.{Node}
use Rattle.blk_graph.specs.Paths.{IsPath, Reaches, IsAcyclic}
use Rattle.blk_graph.proofs.Members.{Contains-cases, Contains-nil}
use Rattle.blk_graph.proofs.PathLemmas.{Reaches-edge, Reaches-joined}

-- the nodes that a path comes to
abbrev pub visited : ℕ → List Edge → List ℕ
visited from [] = from ∷ []
visited from (e ∷ p) = from ∷ visited e.child p

pub length-visited : (from : ℕ) (p : List Edge) → length (visited from p) ≡ length p + 1
length-visited from [] = refl
length-visited from (e ∷ p) = let h = length-visited e.child p in omega (arith, h)

-- a node that reaches the first of them is none of them
pub visited-apart : (edges : List Edge) (x from to : ℕ) (p : List Edge) → IsAcyclic edges
    → Reaches edges x from → IsPath edges from p to
    → AllByRecursion (λ y. nat_eq x y ≡ false) (visited from p)
visited-apart edges x from to [] acyclic h k = (ne_eqb x from (λ e. acyclic from (rw e at h)), tt)
visited-apart edges x from to (e ∷ p) acyclic h k =
    let further : Reaches edges x e.child = Reaches-joined edges x from e.child h (Reaches-edge edges from e k.0 k.1) in
    (ne_eqb x from (λ e. acyclic from (rw e at h)), visited-apart edges x e.child to p acyclic further k.2)

pub visited-distinct : (edges : List Edge) (from to : ℕ) (p : List Edge) → IsAcyclic edges
    → IsPath edges from p to → IsDistinct nat_eq (visited from p)
unfolding IsDistinct
visited-distinct edges from to [] acyclic k = IsDistinct-cons nat_eq from [] tt tt
visited-distinct edges from to (e ∷ p) acyclic k =
    IsDistinct-cons nat_eq from (visited e.child p)
    (visited-apart edges from e.child to p acyclic (Reaches-edge edges from e k.0 k.1) k.2)
    (visited-distinct edges e.child to p acyclic k.2)

-- all of them are of a list that has each edge's ends
pub visited-within : (edges : List Edge) (ids : List ℕ) (from to : ℕ) (p : List Edge)
    → ((e : Edge) → Contains edges e → Contains ids e.child)
    → Contains ids from → IsPath edges from p to
    → (q : ℕ) → Contains (visited from p) q → Contains ids q
visited-within edges ids from to [] ends h k q m = elim (Contains-cases from [] q m) [
  | inl here ↦ rw here h
  | inr there ↦ absurd (Contains-nil q there)
]
visited-within edges ids from to (e ∷ p) ends h k q m = elim (Contains-cases from (visited e.child p) q m) [
  | inl here ↦ rw here h
  | inr there ↦ visited-within edges ids e.child to p ends (ends e k.0) k.2 q there
]

-- a path has fewer edges than there are nodes; one without edges may stand among none
pub length-IsPath : (edges : List Edge) (ids : List ℕ) (from to : ℕ) (p : List Edge)
    → IsAcyclic edges
    → ((e : Edge) → Contains edges e → Contains ids e.child)
    → ((e : Edge) (a : ℕ) → Contains edges e → e.parent ≡ Node a → Contains ids a)
    → IsPath edges from p to → length p ≤ length ids - 1
length-IsPath edges ids from to [] acyclic children parents k = omega arith
length-IsPath edges ids from to (e ∷ p) acyclic children parents k =
    let start : Contains ids from = parents e from k.0 k.1 in
    let within : (q : ℕ) → is_member nat_eq (visited from (e ∷ p)) q ≡ true → is_member nat_eq ids q ≡ true
    = λ q m. (is_member-Decides unsigned_Decides ids q).1
    (visited-within edges ids from to (e ∷ p) children start k q
    ((is_member-Decides unsigned_Decides (visited from (e ∷ p)) q).0 m)) in
    let fewer : length (visited from (e ∷ p)) ≤ length ids
    = length-le_from_is_member nat_eq_equiv (visited from (e ∷ p)) ids
    (visited-distinct edges from to (e ∷ p) acyclic k) within in
    omega (arith, fewer, length-visited from (e ∷ p))
