-- Which clusters of a file are named, gone through once.
use Rattle.std.specs.Prelude.{◌≡◌, ℕ, ◌+◌, ◌/◌, ◌<◌, ◌≤◌, Bool, false, not, ◌==◌, ◌&&◌, nat_lt, if◌then◌else◌, List, length, count_by, slice_index_or, slice_index, Option, Some, None}
use Rattle.q2_format.specs.Entry.{host_offset, block_offset}
use Rattle.q2_format.specs.References.{names_cluster, own_offset}
use Rattle.q2_image.specs.declared.seen.Naming.{Naming}
use Rattle.q2_image.specs.declared.seen.Naming.TheVariants.{Block, Table, Own}

-- which clusters were named, and the lowest that was named twice: their number where none was
pub record Sightings : Type 0 where
  pub named : List Bool
  pub twice : ℕ

-- so it is where each cluster was named so often
pub record IsSeen (uses : ℕ → ℕ) (seen : Sightings) : Type 0 where
  pub named : (k : ℕ) → k < length seen.named
      → slice_index_or seen.named k false ≡ nat_lt 0 (uses k)
  pub bound : seen.twice ≤ length seen.named
  pub before : (k : ℕ) → k < seen.twice → uses k ≤ 1
  pub again : seen.twice < length seen.named → 1 < uses seen.twice

-- one more naming of a cluster
abbrev pub named_at : ℕ → ℕ → ℕ
named_at cluster k = if k == cluster then 1 else 0

-- the cluster at an offset, where that isn't 0
abbrev pub named_once : ℕ → ℕ → ℕ → ℕ
named_once c offset k = if names_cluster c k offset then 1 else 0

-- a run of clusters, each named once
abbrev pub named_in_run : ℕ → ℕ → ℕ → ℕ
named_in_run first count k = if not (nat_lt k first) && nat_lt k (first + count) then 1 else 0

-- what a word of a table names: a refcount block, an L2 table, or the host cluster of an L2 entry
abbrev pub offset_in : Naming → ℕ → ℕ
offset_in Block word = block_offset word
offset_in Table word = host_offset word
offset_in Own word = own_offset word

-- how often the words of a table name a cluster
abbrev pub times_named : ℕ → Naming → List ℕ → ℕ → ℕ
times_named c kind words k = count_by (λ word. names_cluster c k (offset_in kind word)) words

-- every word names a cluster below a number, or none
abbrev pub AreNamedBelow : ℕ → Naming → List ℕ → ℕ → Type 0
AreNamedBelow c kind words n =
    (i : ℕ) → i < length words → offset_in kind (slice_index_or words i 0) / c < n

-- the lowest cluster named twice
abbrev pub twice_in : Sightings → Option ℕ
twice_in seen = if seen.twice == length seen.named then None else Some seen.twice

-- a cluster was named, and its refcount is 0
abbrev pub is_uncounted : List Bool → List ℕ → ℕ → Bool
is_uncounted named counts k = slice_index_or named k false && (slice_index counts k == 0)
