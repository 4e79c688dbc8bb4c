-- The clusters that will be given, in order.
use Rattle.std.specs.Prelude.{ℕ, ◌/◌, ◌%◌, Bool, not, ◌==◌, ◌&&◌, ◌||◌, List, length, filter, slice_index, slice_index_or}
use Rattle.std.specs.List.{range_with_len}
use Rattle.q2_format.specs.Entry.{block_offset}
use Rattle.q2_refs.specs.Kept.{KeptRefs, per_block}

-- A cluster will be given where its refcount is 0, and it isn't the place for its own block: an absent block
-- is put into the first cluster that it counts.
abbrev pub will_be_given : KeptRefs → ℕ → Bool
will_be_given kept cluster =
    slice_index kept.counts cluster == 0
    && (not (block_offset (slice_index kept.table (cluster / per_block kept)) == 0)
    || not (cluster % per_block kept == 0))

-- all of them, the lowest first
unfoldable pub free_clusters : KeptRefs → List ℕ
free_clusters kept = filter (will_be_given kept) (range_with_len 0 (length kept.counts))

-- the k-th of them, counted from 0, or the number of kept counts where there are no more
abbrev pub free_cluster : KeptRefs → ℕ → ℕ
free_cluster kept k = slice_index_or (free_clusters kept) k (length kept.counts)
