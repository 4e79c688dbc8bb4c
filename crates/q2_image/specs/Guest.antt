-- What a guest cluster is mapped to in a file, and the guest's bytes from a place on.
use Rattle.std.specs.Prelude.{ℕ, List, map}
use Rattle.std.specs.List.{range_with_len}
use Rattle.q2_format.specs.Sizes.{cluster_size}
use Rattle.q2_format.specs.Entry.{l2_entry}
use Rattle.q2_format.specs.Header.{header_of}
use Rattle.q2_format.specs.Tables.{active_tree, l2_word_of}
use Rattle.q2_format.specs.Contents.{guest_byte}
use Rattle.q2_format.specs.declared.entries.L2Entry.{L2Entry}

-- the L2 entry of a guest cluster, straight from the file
abbrev pub file_entry : List ℕ → ℕ → L2Entry
file_entry file cluster = let h = header_of file in
    l2_entry (l2_word_of (active_tree file h) (cluster_size h.cluster_bits) cluster)

-- the guest's bytes from a place on
unfoldable pub guest_bytes : List ℕ → List ℕ → ℕ → ℕ → List ℕ
guest_bytes file backing at n = map (guest_byte file backing) (range_with_len at n)
