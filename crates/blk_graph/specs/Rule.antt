-- The permission rule: what one edge asks of a node, every other edge into that node shares.
use Rattle.std.specs.Prelude.{◌≡◌, ◌≢◌, ℕ, ◌+◌, ◌==◌, Bool, false, ◌&&◌, not, if◌then◌else◌, List, [], ◌∷◌, find, slice_get, Contains, Option, Some, None, IsTrue}
use Rattle.std.specs.Option.{option_map}
use Rattle.blk_graph.specs.declared.edge.Edge.{Edge}
use Rattle.blk_graph.specs.declared.edge.Conflict.{Conflict}
use Rattle.blk_graph.specs.declared.edge.Perms.{Perms}
use Rattle.blk_graph.specs.declared.edge.Perm.{Perm}
use Rattle.blk_graph.specs.declared.edge.Perm.TheVariants.{Read, Write, Unchanged}
use Rattle.blk_graph.specs.declared.edge.Parent.TheVariants.{Guest}
use Rattle.blk_graph.specs.Edges.{has_perm, ArePermsWithin}

-- for any two edges into one node, what the one asks lies within what the other shares
abbrev pub KeepsPermissions : List Edge → Type 0
KeepsPermissions edges = (i j : ℕ) (asking other : Edge)
    → slice_get edges i ≡ Some asking → slice_get edges j ≡ Some other → i ≢ j
    → asking.child ≡ other.child → ArePermsWithin asking.perm other.shared

-- the conflict names two edges into its node, and what the one asks and the other doesn't share
pub record IsBroken (edges : List Edge) (conflict : Conflict) : Type 0 where
  pub i : ℕ
  pub j : ℕ
  pub asking : Edge
  pub other : Edge
  pub asking_at : slice_get edges i ≡ Some asking
  pub other_at : slice_get edges j ≡ Some other
  pub differ : i ≢ j
  pub same_child : (asking.child ≡ conflict.node) × (other.child ≡ conflict.node)
  pub parents : (asking.parent ≡ conflict.asks) × (other.parent ≡ conflict.denies)
  pub asked : IsTrue (has_perm asking.perm conflict.perm)
  pub denied : has_perm other.shared conflict.perm ≡ false

-- where a guest may write a node, every other edge into that node shares write
abbrev pub GuestsWriteAlone : List Edge → Type 0
GuestsWriteAlone edges = (i j guest : ℕ) (drive other : Edge)
    → slice_get edges i ≡ Some drive → slice_get edges j ≡ Some other → i ≢ j
    → drive.child ≡ other.child → drive.parent ≡ Guest guest → IsTrue drive.perm.write
    → IsTrue other.shared.write

-- every edge into the node shares these
abbrev pub AllShare : List Edge → ℕ → Perms → Type 0
AllShare edges node common =
    (edge : Edge) → Contains edges edge → edge.child ≡ node → ArePermsWithin common edge.shared

-- the first that is asked and isn't shared, in the order read, write, unchanged
abbrev pub first_denied : Perms → Perms → Option Perm
first_denied asked shared =
    find (λ perm. has_perm asked perm && not (has_perm shared perm)) (Read ∷ Write ∷ Unchanged ∷ [])

-- no edge into the node asks what isn't among these
abbrev pub AsksOnly : List Edge → ℕ → Perms → Type 0
AsksOnly edges node common =
    (edge : Edge) → Contains edges edge → edge.child ≡ node → first_denied edge.perm common ≡ None

-- what stands at each node's number is shared by every edge into the node
abbrev pub EachShares : List Edge → List Perms → Type 0
EachShares edges shares =
    (node : ℕ) (common : Perms) → slice_get shares node ≡ Some common → AllShare edges node common

-- a node without a mark is calm
abbrev pub RestIsCalm : List Edge → List Perms → List Bool → Type 0
RestIsCalm edges shares marks = (node : ℕ) (common : Perms) → slice_get shares node ≡ Some common
    → slice_get marks node ≡ Some false → AsksOnly edges node common

module _ {X Y : Type 0} where
  -- the first answer that the elements of a list give
  abbrev pub first_answer : (X → Option Y) → List X → Option Y
  first_answer f [] = None
  first_answer f (x ∷ xs) =
      elim (f x) as (λ _. Option Y) [ None ↦ first_answer f xs | Some y ↦ Some y ]

  -- the first answer that the elements give, each with its place, where the first stands at k
  abbrev pub first_answer_from : (ℕ → X → Option Y) → ℕ → List X → Option Y
  first_answer_from f k [] = None
  first_answer_from f k (x ∷ xs) =
      elim (f k x) as (λ _. Option Y) [ None ↦ first_answer_from f (k + 1) xs | Some y ↦ Some y ]

-- an edge asks of the node what another one doesn't share
abbrev pub conflict_on : ℕ → Edge → Edge → Perm → Conflict
conflict_on node asking other perm = record {
  node = node;
  asks = asking.parent;
  denies = other.parent;
  perm = perm;
}

-- what the edge at i asks of a node and the edge at j, another one into the node, doesn't share
abbrev pub conflict_between : ℕ → ℕ → Edge → ℕ → Edge → Option Conflict
conflict_between node i asking j other =
    if not (i == j) && other.child == node
    then option_map (conflict_on node asking other) (first_denied asking.perm other.shared)
    else None

-- the first conflict of what the edge at i asks, by the other edge's place
abbrev pub conflict_of : List Edge → ℕ → ℕ → Edge → Option Conflict
conflict_of edges node i asking =
    if asking.child == node
    then first_answer_from (conflict_between node i asking) 0 edges
    else None

-- the first conflict at a node, by the asking edge's place
abbrev pub conflict_at : List Edge → ℕ → Option Conflict
conflict_at edges node = first_answer_from (conflict_of edges node) 0 edges

-- the first conflict at one of the nodes, by their order
abbrev pub first_conflict : List ℕ → List Edge → Option Conflict
first_conflict ids edges = first_answer (conflict_at edges) ids
