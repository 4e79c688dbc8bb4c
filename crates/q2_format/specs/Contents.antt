-- What one node of a graph reads as: a file, a part of a file, and a qcow2 image over its backing node's disk. A disk is a list of bytes.
use Rattle.std.specs.Prelude.{ℕ, ◌+◌, ◌/◌, ◌%◌, List, map, slice_index}
use Rattle.std.specs.List.{range_with_len}
use Rattle.q2_format.specs.Bytes.{place_bytes}
use Rattle.q2_format.specs.Sizes.{cluster_size}
use Rattle.q2_format.specs.Entry.{l2_entry}
use Rattle.q2_format.specs.Header.{header_of}
use Rattle.q2_format.specs.Tables.{Tree, active_tree, l2_word_of}
use Rattle.q2_format.specs.declared.entries.L2Entry.{L2Entry}
use Rattle.q2_format.specs.declared.entries.L2Entry.TheVariants.{Unallocated, Zero, Host, Compressed, Reserved}

-- The byte at a place of the disk, by the entry of its cluster. A cluster with a host offset reads from the
-- file, one that reads as zeros so, and an unallocated one from the backing disk, whose bytes past its end
-- are 0; without a backing disk that list is empty. The last two entries are in no sound image.
abbrev pub byte_by_entry : List ℕ → ℕ → List ℕ → ℕ → L2Entry → ℕ
byte_by_entry file c backing place Unallocated = slice_index backing place
byte_by_entry file c backing place (Zero host) = 0
byte_by_entry file c backing place (Host host) = slice_index file (host + place % c)
byte_by_entry file c backing place Compressed = 0
byte_by_entry file c backing place Reserved = 0

-- the byte at a place of the disk that a tree gives
abbrev pub byte_by_tree : List ℕ → ℕ → Tree → List ℕ → ℕ → ℕ
byte_by_tree file c tree backing place =
    byte_by_entry file c backing place (l2_entry (l2_word_of tree c (place / c)))

-- the guest's byte at a place of an image, straight from the file's bytes
unfoldable pub guest_byte : List ℕ → List ℕ → ℕ → ℕ
guest_byte file backing place = let h = header_of file in
    byte_by_tree file (cluster_size h.cluster_bits) (active_tree file h) backing place

-- the disk of a file that had `size` bytes when its node was added
abbrev pub file_disk : ℕ → List ℕ → List ℕ
file_disk size file = place_bytes file 0 size

-- the disk of a raw part
abbrev pub raw_disk : ℕ → ℕ → List ℕ → List ℕ
raw_disk offset size file_node = place_bytes file_node offset size

-- the disk of an image over its backing node's disk
unfoldable pub image_disk : List ℕ → List ℕ → List ℕ
image_disk file backing = map (guest_byte file backing) (range_with_len 0 (header_of file).size)
