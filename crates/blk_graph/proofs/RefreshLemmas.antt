-- What nodes' edges ask and share changes nothing else of a list, and without cycles no turn more would change it.
use Rattle.std.proofs.Common.{◌≡◌, ℕ, zero, suc, ◌≤◌, List, [], ◌∷◌, ◌++◌, length, map, refl, sym, ◌∙◌, ap, arith, Bool, true, false, cond, Option, Some, None}
use Rattle.std.specs.Prelude.{◌==◌, ◌&&◌}
use Rattle.std.specs.List.{Contains, AllPairs, find}
use Rattle.std.specs.Option.{option_map}
use Rattle.std.proofs.lemmas.Bool.{eqb-true}
use Rattle.std.proofs.lemmas.List.{length-map, length-append}
use Rattle.blk_graph.specs.declared.edge.Edge.{Edge}
use Rattle.blk_graph.specs.declared.edge.Parent.{Parent}
use Rattle.blk_graph.specs.declared.edge.Parent.TheVariants.{Node, Guest, Job}
use Rattle.blk_graph.specs.declared.edge.Role.{Role}
use Rattle.blk_graph.specs.declared.edge.Uses.{Uses}
use Rattle.blk_graph.specs.declared.kind.NodeKind.{NodeKind}
use Rattle.blk_graph.specs.Edges.{same_parent, same_role, may_have, HasNumber, DifferInPlace, MayStand, IsListed}
use Rattle.blk_graph.specs.Edits.{is_edge, child_of}
use Rattle.blk_graph.specs.Paths.{IsPath, IsAcyclic}
use Rattle.blk_graph.specs.Permissions.{uses_by}
use Rattle.blk_graph.specs.Refreshed.{kind_at, joined, uses_into, with_uses, ruled, ruled_from, turned, turned_by, refreshed, IsRefreshed}
use Rattle.blk_graph.proofs.Members.{Contains-here, Contains-there, Contains-map, map-Contains}
use Rattle.blk_graph.proofs.PathLemmas.{IsPath-append, Reaches-edge, IsAcyclic-covered}
use Rattle.blk_graph.proofs.LengthLemmas.{length-IsPath}
use Rattle.blk_graph.proofs.EditLemmas.{IsSameEdge}
use Rattle.blk_graph.proofs.IdLemmas.{numbers_below, below-there, length-below}
use Rattle.blk_graph.proofs.RoleLemmas.{EachIs, map_pairs, kept_apart}

with_uses-same : (e : Edge) (uses : Option Uses) → IsSameEdge (with_uses e uses) e
with_uses-same e None = record { parent = refl; role = refl; child = refl }
with_uses-same e (Some uses) = record { parent = refl; role = refl; child = refl }

pub ruled-same : (kinds : List NodeKind) (above : ℕ → Uses) (e : Edge) → IsSameEdge (ruled kinds above e) e
ruled-same kinds above e = by_parent e.parent
  where
    by_parent : (p : Parent) → IsSameEdge (ruled_from kinds above e p) e
    by_parent (Node n) = with_uses-same e (uses_by (kind_at kinds n) e.role (above n))
    by_parent (Guest n) = record { parent = refl; role = refl; child = refl }
    by_parent (Job n) = record { parent = refl; role = refl; child = refl }

-- an edge that was ruled by the same uses stays
pub ruled-again : (kinds : List NodeKind) (f g : ℕ → Uses) (e : Edge) → ((n : ℕ) → e.parent ≡ Node n → f n ≡ g n)
    → ruled kinds f (ruled kinds g e) ≡ ruled kinds g e
ruled-again kinds f g e same = by_parent e.parent refl
  where
    by_uses : (n : ℕ) → e.parent ≡ Node n → (o : Option Uses) → uses_by (kind_at kinds n) e.role (f n) ≡ o
        → ruled kinds f (with_uses e o) ≡ with_uses e o
    by_uses n is None k = ap (ruled_from kinds f e) is ∙ ap (with_uses e) k
    by_uses n is (Some uses) k =
        ap (ruled_from kinds f (with_uses e (Some uses))) is ∙ ap (with_uses (with_uses e (Some uses))) k

    by_parent : (p : Parent) → e.parent ≡ p → ruled kinds f (ruled_from kinds g e p) ≡ ruled_from kinds g e p
    by_parent (Node n) is =
        by_uses n is (uses_by (kind_at kinds n) e.role (g n)) (ap (uses_by (kind_at kinds n) e.role) (same n is))
    by_parent (Guest n) is = ap (ruled_from kinds f e) is
    by_parent (Job n) is = ap (ruled_from kinds f e) is

-- what each turn keeps
pub refreshed-by : (kinds : List NodeKind) (P : List Edge → Type 0)
    → ((edges : List Edge) → P edges → P (turned kinds edges)) → (edges : List Edge) → P edges → P (refreshed kinds edges)
unfolding refreshed
refreshed-by kinds P keeps edges h = by_turns 64
  where
    by_turns : (turns : ℕ) → P (turned_by turns kinds edges)
    by_turns zero = h
    by_turns (suc turns) = keeps (turned_by turns kinds edges) (by_turns turns)

pub length-turned : (kinds : List NodeKind) (edges : List Edge) → length (turned kinds edges) ≡ length edges
length-turned kinds edges = length-map edges (ruled kinds (uses_into edges))

pub length-refreshed : (kinds : List NodeKind) (edges : List Edge) → length (refreshed kinds edges) ≡ length edges
length-refreshed kinds edges =
    refreshed-by kinds (λ now. length now ≡ length edges) (λ now h. length-turned kinds now ∙ h) edges refl

-- what is true of each edge, whatever it asks and shares
pub EachIs-turned : (P : Edge → Type 0) (kinds : List NodeKind) (edges : List Edge)
    → ((e : Edge) → P e → P (ruled kinds (uses_into edges) e)) → EachIs P edges → EachIs P (turned kinds edges)
EachIs-turned P kinds edges keeps each = λ e h.
    let r = Contains-map (ruled kinds (uses_into edges)) edges e h in rw r.2 (keeps r.0 (each r.0 r.1))

pub AllPairs-turned : (kinds : List NodeKind) (edges : List Edge) → AllPairs DifferInPlace edges → AllPairs DifferInPlace (turned kinds edges)
AllPairs-turned kinds edges =
    let f : Edge → Edge = ruled kinds (uses_into edges) in
    map_pairs DifferInPlace f edges
    (λ a b at_a at_b. kept_apart a b (f a) (f b) (ruled-same kinds (uses_into edges) a) (ruled-same kinds (uses_into edges) b))

stands_same : (a b : Edge) → IsSameEdge a b → MayStand b → MayStand a
stands_same a b same stands = record {
  role = ap (λ p. may_have p a.role) same.parent ∙ ap (may_have b.parent) same.role ∙ stands.role;
  number = rw same.parent stands.number;
  child = rw same.child stands.child;
}

pub IsListed-turned : (kinds : List NodeKind) (edges : List Edge) → IsListed edges → IsListed (turned kinds edges)
IsListed-turned kinds edges listed = record {
  each = EachIs-turned MayStand kinds edges
      (λ e. stands_same (ruled kinds (uses_into edges) e) e (ruled-same kinds (uses_into edges) e)) listed.each;
  places = AllPairs-turned kinds edges listed.places;
}

IsAcyclic-turned : (kinds : List NodeKind) (edges : List Edge) → IsAcyclic edges → IsAcyclic (turned kinds edges)
IsAcyclic-turned kinds edges =
    IsAcyclic-covered (turned kinds edges) edges (λ a e h k.
    let r = Contains-map (ruled kinds (uses_into edges)) edges e h in
    let same = ruled-same kinds (uses_into edges) r.0 in
    let from : r.0.parent ≡ Node a = sym same.parent ∙ sym (ap (λ (x : Edge). x.parent) r.2) ∙ k in
    let to : e.child ≡ r.0.child = ap (λ (x : Edge). x.child) r.2 ∙ same.child in
    rw to (Reaches-edge edges a r.0 r.1 from))

pub IsAcyclic-refreshed : (kinds : List NodeKind) (edges : List Edge) → IsAcyclic edges → IsAcyclic (refreshed kinds edges)
IsAcyclic-refreshed kinds = refreshed-by kinds IsAcyclic (IsAcyclic-turned kinds)

child_of-mapped : (f : Edge → Edge) → ((e : Edge) → IsSameEdge (f e) e) → (parent : Parent) (role : Role) (edges : List Edge)
    → child_of parent role (map f edges) ≡ child_of parent role edges
child_of-mapped f same parent role [] = refl
child_of-mapped f same parent role (e ∷ edges) =
    let test : is_edge parent role (f e) ≡ is_edge parent role e
    = ap (λ p. same_parent p parent && same_role (f e).role role) (same e).parent
    ∙ ap (λ r. same_parent e.parent parent && same_role r role) (same e).role in
    rw test (by_test (is_edge parent role e) (same e).child (child_of-mapped f same parent role edges))
  where
    by_test : (b : Bool) → (f e).child ≡ e.child → child_of parent role (map f edges) ≡ child_of parent role edges
        → option_map (λ (x : Edge). x.child) (cond b (Some (f e)) (find (is_edge parent role) (map f edges)))
        ≡ option_map (λ (x : Edge). x.child) (cond b (Some e) (find (is_edge parent role) edges))
    by_test true is ih = ap Some is
    by_test false is ih = ih

-- each parent has the children that it had
pub child_of-refreshed : (kinds : List NodeKind) (parent : Parent) (role : Role) (edges : List Edge)
    → child_of parent role (refreshed kinds edges) ≡ child_of parent role edges
child_of-refreshed kinds parent role edges =
    refreshed-by kinds (λ now. child_of parent role now ≡ child_of parent role edges)
    (λ now h. child_of-mapped (ruled kinds (uses_into now)) (ruled-same kinds (uses_into now)) parent role now ∙ h) edges refl

-- edges into a node that stay the same leave its uses
uses_into-mapped : (f : Edge → Edge) (n : ℕ) → ((e : Edge) → (f e).child ≡ e.child) → (edges : List Edge)
    → ((e : Edge) → Contains edges e → e.child ≡ n → f e ≡ e) → uses_into (map f edges) n ≡ uses_into edges n
uses_into-mapped f n child [] stays = refl
uses_into-mapped f n child (e ∷ edges) stays =
    rw (ap (λ c. c == n) (child e))
    (by_test (e.child == n) refl (uses_into-mapped f n child edges (λ x h. stays x (Contains-there e edges x h))))
  where
    by_test : (b : Bool) → (e.child == n) ≡ b → uses_into (map f edges) n ≡ uses_into edges n
        → cond b (joined (f e) (uses_into (map f edges) n)) (uses_into (map f edges) n)
        ≡ cond b (joined e (uses_into edges n)) (uses_into edges n)
    by_test true is ih = ap (λ x. joined x (uses_into (map f edges) n)) (stays e (Contains-here e edges) (eqb-true e.child n is))
        ∙ ap (joined e) ih
    by_test false is ih = ih

-- a path of so many edges ends at a node
abbrev pub EndsAt : List Edge → ℕ → ℕ → Type 0
EndsAt edges zero n = Unit {0}
EndsAt edges (suc k) n =
    (e : Edge) × (p : ℕ) × Contains edges e × (e.child ≡ n) × (e.parent ≡ Node p) × EndsAt edges k p

path_of : (edges : List Edge) (k n : ℕ) → EndsAt edges k n
    → (from : ℕ) × (path : List Edge) × IsPath edges from path n × (length path ≡ k)
path_of edges zero n h = (n, [], refl, refl)
path_of edges (suc k) n h =
    let r = path_of edges k h.1 h.5 in
    let last : IsPath edges h.1 (h.0 ∷ []) n = (h.2, h.4, h.3) in (
      r.0,
      r.1 ++ h.0 ∷ [],
      IsPath-append edges r.0 h.1 n r.1 (h.0 ∷ []) r.2 last,
      omega (arith, r.3, length-append r.1 (h.0 ∷ [])),
    )

pub EndsAt-mapped : (f : Edge → Edge) → ((e : Edge) → IsSameEdge (f e) e) → (edges : List Edge) (k n : ℕ) → EndsAt edges k n
    → EndsAt (map f edges) k n
EndsAt-mapped f same edges zero n h = tt
EndsAt-mapped f same edges (suc k) n h = (
  f h.0,
  h.1,
  map-Contains f edges h.0 h.2,
  (same h.0).child ∙ h.3,
  (same h.0).parent ∙ h.4,
  EndsAt-mapped f same edges k h.1 h.5,
)

-- an edge whose parent is such a node stays
stays_ruled : (kinds : List NodeKind) (edges : List Edge) (k : ℕ)
    → ((n : ℕ) → (EndsAt edges k n → ⊥) → uses_into (turned kinds edges) n ≡ uses_into edges n)
    → (e : Edge) → Contains (turned kinds edges) e → ((p : ℕ) → e.parent ≡ Node p → EndsAt edges k p → ⊥)
    → ruled kinds (uses_into (turned kinds edges)) e ≡ e
stays_ruled kinds edges k settled e there none =
    let r = Contains-map (ruled kinds (uses_into edges)) edges e there in
    let same = ruled-same kinds (uses_into edges) r.0 in
    let parent : e.parent ≡ r.0.parent = ap (λ (x : Edge). x.parent) r.2 ∙ same.parent in
    let again = ruled-again kinds (uses_into (turned kinds edges)) (uses_into edges) r.0
    (λ n is. settled n (none n (parent ∙ is))) in
    ap (ruled kinds (uses_into (turned kinds edges))) r.2 ∙ again ∙ sym r.2

settled_turned : (kinds : List NodeKind) (edges : List Edge) (k : ℕ)
    → ((n : ℕ) → (EndsAt edges k n → ⊥) → uses_into (turned kinds edges) n ≡ uses_into edges n)
    → (n : ℕ) → (EndsAt (turned kinds edges) (suc k) n → ⊥)
    → uses_into (turned kinds (turned kinds edges)) n ≡ uses_into (turned kinds edges) n
settled_turned kinds edges k settled n none =
    uses_into-mapped (ruled kinds (uses_into (turned kinds edges))) n
    (λ e. (ruled-same kinds (uses_into (turned kinds edges)) e).child) (turned kinds edges)
    (λ e there to. stays_ruled kinds edges k settled e there
    (λ p is ends. none (
      e,
      p,
      there,
      to,
      is,
      EndsAt-mapped (ruled kinds (uses_into edges)) (ruled-same kinds (uses_into edges)) edges k p ends,
    )))

settled_by : (kinds : List NodeKind) (edges : List Edge) (k n : ℕ) → (EndsAt (turned_by k kinds edges) k n → ⊥)
    → uses_into (turned kinds (turned_by k kinds edges)) n ≡ uses_into (turned_by k kinds edges) n
settled_by kinds edges zero n none = absurd (none tt)
settled_by kinds edges (suc k) n none =
    settled_turned kinds (turned_by k kinds edges) k (settled_by kinds edges k) n none

-- after more turns than a path has edges, each edge is as those into its parent say
refreshed_after : (kinds : List NodeKind) (edges : List Edge) (k : ℕ)
    → ((n : ℕ) → EndsAt (turned_by k kinds edges) (suc k) n → ⊥) → IsRefreshed kinds (turned_by (suc k) kinds edges)
refreshed_after kinds edges k none e there =
    stays_ruled kinds (turned_by k kinds edges) k (settled_by kinds edges k) e there
    (λ p is ends.
    let r = Contains-map (ruled kinds (uses_into (turned_by k kinds edges))) (turned_by k kinds edges) e there in
    let same = ruled-same kinds (uses_into (turned_by k kinds edges)) r.0 in
    none r.0.child (
      r.0,
      p,
      r.1,
      refl,
      sym same.parent ∙ sym (ap (λ (x : Edge). x.parent) r.2) ∙ is,
      ends,
    ))

pub IsListed-turned_by : (kinds : List NodeKind) (edges : List Edge) → IsListed edges → (k : ℕ) → IsListed (turned_by k kinds edges)
IsListed-turned_by kinds edges listed zero = listed
IsListed-turned_by kinds edges listed (suc k) = IsListed-turned kinds (turned_by k kinds edges) (IsListed-turned_by kinds edges listed k)

pub IsAcyclic-turned_by : (kinds : List NodeKind) (edges : List Edge) → IsAcyclic edges → (k : ℕ) → IsAcyclic (turned_by k kinds edges)
IsAcyclic-turned_by kinds edges acyclic zero = acyclic
IsAcyclic-turned_by kinds edges acyclic (suc k) =
    IsAcyclic-turned kinds (turned_by k kinds edges) (IsAcyclic-turned_by kinds edges acyclic k)

-- no path of a list without cycles has 64 edges
pub no_long_path : (edges : List Edge) (from to : ℕ) (path : List Edge) → IsListed edges → IsAcyclic edges → IsPath edges from path to
    → length path ≤ 63
no_long_path edges from to path listed acyclic is =
    let short = length-IsPath edges (numbers_below 64) from to path acyclic (λ e h. below-there 64 e.child (listed.each e h).child)
    (λ e a h parent. let number : HasNumber e.parent = (listed.each e h).number in below-there 64 a (rw parent at number)) is in
    omega (arith, short, length-below 64)

-- so after as many turns no path of 64 edges ends anywhere
pub no_ends : (kinds : List NodeKind) (edges : List Edge) → IsListed edges → IsAcyclic edges
    → (n : ℕ) → EndsAt (turned_by 63 kinds edges) (suc 63) n → ⊥
no_ends kinds edges listed acyclic n ends =
    let path = path_of (turned_by 63 kinds edges) (suc 63) n ends in
    let short = no_long_path (turned_by 63 kinds edges) path.0 n path.1 (IsListed-turned_by kinds edges listed 63)
    (IsAcyclic-turned_by kinds edges acyclic 63) path.2 in
    omega (arith, short, path.3)

pub IsRefreshed-refreshed : (kinds : List NodeKind) (edges : List Edge) → IsListed edges → IsAcyclic edges
    → IsRefreshed kinds (refreshed kinds edges)
unfolding refreshed
IsRefreshed-refreshed kinds edges listed acyclic = refreshed_after kinds edges 63 (no_ends kinds edges listed acyclic)
