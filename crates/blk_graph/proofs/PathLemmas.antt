-- Paths: joined, covered by others, and cut where they come to a node.
use Rattle.std.proofs.Common.{◌≡◌, ◌⊎◌, ℕ, List, [], ◌∷◌, ◌++◌, refl, sym, inl, inr}
use Rattle.std.specs.List.{Contains}
use Rattle.blk_graph.specs.declared.edge.Edge.{Edge}
use Rattle.blk_graph.specs.declared.edge.Parent.TheVariants.{Node}
use Rattle.blk_graph.specs.Paths.{IsPath, Reaches, IsAcyclic}

-- two paths, one after the other
pub IsPath-append : (edges : List Edge) (a b c : ℕ) (p q : List Edge)
    → IsPath edges a p b → IsPath edges b q c → IsPath edges a (p ++ q) c
IsPath-append edges a b c [] q h k = rw h k
IsPath-append edges a b c (e ∷ p) q h k = (h.0, h.1, IsPath-append edges e.child b c p q h.2 k)

-- one edge is a path
pub Reaches-edge : (edges : List Edge) (a : ℕ) (e : Edge) → Contains edges e → e.parent ≡ Node a
    → Reaches edges a e.child
Reaches-edge edges a e h k = record { first = e; rest = []; path = (h, k, refl) }

pub Reaches-then : (edges : List Edge) (a b c : ℕ) (q : List Edge) → Reaches edges a b
    → IsPath edges b q c → Reaches edges a c
Reaches-then edges a b c q h k = record {
  first = h.first;
  rest = h.rest ++ q;
  path = IsPath-append edges a b c (h.first ∷ h.rest) q h.path k;
}

pub Reaches-joined : (edges : List Edge) (a b c : ℕ) → Reaches edges a b → Reaches edges b c
    → Reaches edges a c
Reaches-joined edges a b c h k = Reaches-then edges a b c (k.first ∷ k.rest) h k.path

pub Reaches-cons : (edges : List Edge) (a c : ℕ) (e : Edge) (q : List Edge) → Contains edges e
    → e.parent ≡ Node a → IsPath edges e.child q c → Reaches edges a c
Reaches-cons edges a c e q h k l = record { first = e; rest = q; path = (h, k, l) }

-- a path, one edge longer at its end, is a path of one edge or more
pub Reaches-last : (edges : List Edge) (a b c : ℕ) (p : List Edge) → IsPath edges a p b
    → Reaches edges b c → Reaches edges a c
Reaches-last edges a b c [] h k = let e : b ≡ a = sym h in rw (← e) k
Reaches-last edges a b c (e ∷ p) h k = Reaches-joined edges a b c (record { first = e; rest = p; path = h }) k

-- where each edge of one list leads along a path of another list, so does each path
pub Reaches-covered : (new old : List Edge)
    → ((a : ℕ) (e : Edge) → Contains new e → e.parent ≡ Node a → Reaches old a e.child)
    → (a b : ℕ) (e : Edge) (p : List Edge) → IsPath new a (e ∷ p) b → Reaches old a b
Reaches-covered new old covers a b e [] h = let r = covers a e h.0 h.1 in rw (← h.2) r
Reaches-covered new old covers a b e (f ∷ p) h =
    Reaches-joined old a e.child b (covers a e h.0 h.1) (Reaches-covered new old covers e.child b f p h.2)

pub IsAcyclic-covered : (new old : List Edge)
    → ((a : ℕ) (e : Edge) → Contains new e → e.parent ≡ Node a → Reaches old a e.child)
    → IsAcyclic old → IsAcyclic new
IsAcyclic-covered new old covers h node cycle =
    h node (Reaches-covered new old covers node node cycle.first cycle.rest cycle.path)

-- fewer edges
pub IsAcyclic-fewer : (new old : List Edge) → ((e : Edge) → Contains new e → Contains old e)
    → IsAcyclic old → IsAcyclic new
IsAcyclic-fewer new old kept =
    IsAcyclic-covered new old (λ a e h k. Reaches-edge old a e (kept e h) k)

-- where each new edge leads to t, a path is one of old edges or comes by t
pub IsPath-by : (new old : List Edge) (t : ℕ)
    → ((e : Edge) → Contains new e → Contains old e ⊎ (e.child ≡ t))
    → (a b : ℕ) (p : List Edge) → IsPath new a p b
    → IsPath old a p b ⊎ (Reaches new a t × (q : List Edge) × IsPath new t q b)
IsPath-by new old t new_lead a b [] h = inl h
IsPath-by new old t new_lead a b (e ∷ p) h = elim (new_lead e h.0) [
  | inl kept ↦ elim (IsPath-by new old t new_lead e.child b p h.2) [
    | inl rest ↦ inl (kept, h.1, rest)
    | inr rest ↦ inr (Reaches-joined new a e.child t (Reaches-edge new a e h.0 h.1) rest.0, rest.1, rest.2)
  ]
  | inr leads ↦
      let to_t : Reaches new a t = rw (← leads) (Reaches-edge new a e h.0 h.1) in
      let from_t : IsPath new t p b = rw (← leads) h.2 in
      inr (to_t, p, from_t)
]

-- so a cycle leads through t
pub Reaches-through : (new old : List Edge) (t : ℕ)
    → ((e : Edge) → Contains new e → Contains old e ⊎ (e.child ≡ t))
    → IsAcyclic old → (node : ℕ) → Reaches new node node → Reaches new t t
Reaches-through new old t new_lead acyclic node cycle =
    elim (IsPath-by new old t new_lead node node (cycle.first ∷ cycle.rest) cycle.path) [
      | inl old_path ↦ absurd (acyclic node (record { first = cycle.first; rest = cycle.rest; path = old_path }))
      | inr by_t ↦ Reaches-last new t node t by_t.1 by_t.2 by_t.0
    ]
