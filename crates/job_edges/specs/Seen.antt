-- What a guest reads, and what a guest writes, along edges.
use Rattle.std.specs.Prelude.{◌≡◌, ◌⊎◌, ℕ, Bool, true, false, List, [], ◌∷◌, Contains}
use Rattle.blk_graph.specs.declared.edge.Edge.{Edge}
use Rattle.blk_graph.specs.declared.edge.Parent.TheVariants.{Node}
use Rattle.blk_graph.specs.declared.edge.Role.TheVariants.{Backing}
use Rattle.blk_graph.specs.declared.kind.NodeKind.{NodeKind}
use Rattle.blk_graph.specs.Refreshed.{kind_at, uses_into}
use Rattle.job_edges.specs.Chains.{is_plain, is_to_backing}
use Rattle.job_edges.specs.Kinds.{is_hidden}
use Rattle.job_edges.specs.Held.{IsUnread}

-- an edge into the node asks to read it
abbrev pub IsRead : List Edge → ℕ → Type 0
IsRead edges node = (uses_into edges node).perm.read ≡ true

-- The tops of all commits, and the nodes between them and their bases: each leads to one that nobody else reads, which is
-- another of these or a base, which the job reads.
pub record CommitsStand (kinds : List NodeKind) (edges : List Edge) (through : ℕ → Bool)
    : Type 0 where
  pub plain : (n : ℕ) → through n ≡ true → is_plain (kind_at kinds n).kind ≡ true
  pub tops : (e : Edge) → Contains edges e → is_hidden kinds e ≡ true → through e.child ≡ true
  pub leads : (e : Edge) → Contains edges e → is_to_backing through e ≡ true
      → ((job : ℕ) × IsUnread kinds edges e.child job)
      × ((through e.child ≡ true) ⊎ IsRead edges e.child)

-- an edge by which its parent, a node, reads: to its backing node, or that of a filter
abbrev pub ReadsBy : List NodeKind → Edge → ℕ → Type 0
ReadsBy kinds edge node =
    (edge.parent ≡ Node node)
    × ((edge.role ≡ Backing) ⊎ (is_plain (kind_at kinds node).kind ≡ false))

-- these edges lead from a node to what it reads
abbrev pub ReadsAlong : List NodeKind → List Edge → ℕ → List Edge → ℕ → Type 0
ReadsAlong kinds edges from [] to = from ≡ to
ReadsAlong kinds edges from (edge ∷ path) to =
    Contains edges edge × ReadsBy kinds edge from × ReadsAlong kinds edges edge.child path to

-- one of them leads to a backing node
abbrev pub GoesBelow : List Edge → Type 0
GoesBelow [] = ⊥
GoesBelow (edge ∷ path) = (edge.role ≡ Backing) ⊎ GoesBelow path

-- these are edges of filters
abbrev pub FiltersAlong : List NodeKind → List Edge → ℕ → List Edge → ℕ → Type 0
FiltersAlong kinds edges from [] to = from ≡ to
FiltersAlong kinds edges from (edge ∷ path) to =
    Contains edges edge × ((edge.parent ≡ Node from) × (is_plain (kind_at kinds from).kind ≡ false))
    × FiltersAlong kinds edges edge.child path to
