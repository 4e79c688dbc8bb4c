-- The nodes of a chain from one down to above a base, which of them have a place of their own, and where the chain ends.
use Rattle.std.specs.Prelude.{ℕ, zero, suc, Bool, false, ◌==◌, if◌then◌else◌, List, [], ◌∷◌, Option, Some, None}
use Rattle.std.specs.List.{list_any}
use Rattle.blk_nodes.specs.Nodes.{Nodes, row_at, file_of, backing_of, filtered_of}
use Rattle.blk_nodes.specs.Owning.{has_own}
use Rattle.blk_nodes.specs.declared.row.Driver.{Driver}
use Rattle.blk_nodes.specs.declared.row.Driver.TheVariants.{File, Raw, Qcow2, CopyOnRead, Filter}

-- the node below: the backing node of an image, and the child of a filter
abbrev pub below_by : Nodes → ℕ → Driver → Option ℕ
below_by nodes node File = None
below_by nodes node (Raw part) = None
below_by nodes node (Qcow2 image) = backing_of nodes node
below_by nodes node CopyOnRead = file_of nodes node
below_by nodes node (Filter kind) = filtered_of nodes node

abbrev pub below_of : Nodes → ℕ → Option ℕ
below_of nodes node = elim (row_at nodes node) as (λ _. Option ℕ) [
  | None ↦ None
  | Some row ↦ below_by nodes node row.driver
]

abbrev pub is_base : Option ℕ → ℕ → Bool
is_base None node = false
is_base (Some base) node = node == base

-- down a chain of so many nodes
abbrev pub between_in : ℕ → Nodes → Option ℕ → ℕ → List ℕ
between_in zero nodes base node = []
between_in (suc turns) nodes base node =
    if is_base base node then []
    else node ∷ (elim (below_of nodes node) as (λ _. List ℕ) [
      | None ↦ []
      | Some next ↦ between_in turns nodes base next
    ])

unfoldable pub nodes_between : Nodes → Option ℕ → ℕ → List ℕ
nodes_between nodes base top = between_in 64 nodes base top

-- one of them has the place
abbrev pub is_held_between : Nodes → Option ℕ → ℕ → ℕ → Bool
is_held_between nodes base top place =
    list_any (λ node. has_own place (row_at nodes node)) (nodes_between nodes base top)

-- one of them below the first has it
abbrev pub is_held_below : Nodes → Option ℕ → ℕ → ℕ → Bool
is_held_below nodes base top place = elim (below_of nodes top) as (λ _. Bool) [
  | None ↦ false
  | Some next ↦ is_held_between nodes base next place
]

-- the base, where the chain leads to it
abbrev pub end_in : ℕ → Nodes → Option ℕ → ℕ → Option ℕ
end_in zero nodes base node = None
end_in (suc turns) nodes base node =
    if is_base base node then Some node
    else elim (below_of nodes node) as (λ _. Option ℕ) [
      | None ↦ None
      | Some next ↦ end_in turns nodes base next
    ]

unfoldable pub chain_end : Nodes → Option ℕ → ℕ → Option ℕ
chain_end nodes base top = end_in 64 nodes base top
