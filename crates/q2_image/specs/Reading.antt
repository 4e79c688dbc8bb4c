-- Reading a part of a cluster.
use Rattle.std.specs.Prelude.{ℕ, ◌+◌, ◌%◌, ◌≤◌}
use Rattle.blk_base.specs.Pieces.{Extent}
use Rattle.q2_format.specs.declared.entries.L2Entry.{L2Entry}
use Rattle.q2_format.specs.declared.entries.L2Entry.TheVariants.{Unallocated, Zero, Host, Compressed, Reserved}

-- the cluster has bytes of its own in the file
abbrev pub IsHost : L2Entry → Type 0
IsHost Unallocated = ⊥
IsHost (Zero host) = ⊥
IsHost (Host host) = Unit {0}
IsHost Compressed = ⊥
IsHost Reserved = ⊥

-- a span of a disk ends in the cluster in which it begins
abbrev pub IsWithinCluster : ℕ → Extent → Type 0
IsWithinCluster c span = span.start % c + span.len ≤ c
