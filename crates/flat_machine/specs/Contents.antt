-- What is known of the store's files, and what a node that is added over one reads as.
use Rattle.std.specs.Prelude.{ℕ, max, Bool, true, false, if◌then◌else◌, List, [], ◌∷◌, length, bytes_eq, Option, Some, None, option_map}
use Rattle.std.specs.List.{list_all, range_with_len}
use Rattle.q2_format.specs.Bytes.{place_bytes}
use Rattle.blk_base.specs.declared.file.File.{File}
use Rattle.q2_format.specs.Sizes.{cluster_size, clusters_for}
use Rattle.q2_format.specs.Entry.{l2_entry}
use Rattle.q2_format.specs.Header.{header_of}
use Rattle.q2_format.specs.Tables.{active_tree, l2_word_of}
use Rattle.q2_format.specs.Contents.{file_disk, image_disk}
use Rattle.q2_format.specs.Created.{Creation, created_length}
use Rattle.q2_format.specs.declared.entries.L2Entry.{L2Entry}
use Rattle.q2_format.specs.declared.entries.L2Entry.TheVariants.{Unallocated}
use Rattle.q2_format.specs.declared.header.Header.{Header}
use Rattle.flat_machine.specs.State.{Content, Bytes, Blank, Unknown, KnownFile, Mapped, MapsNone, MapsSome, Unsure}

-- a file as it was found
abbrev pub found : File → KnownFile
found file = record { name = file.name; content = Bytes file.bytes }

-- the files with this known of one
abbrev pub with_content : List ℕ → Content → List KnownFile → List KnownFile
with_content name content [] = record { name = name; content = content } ∷ []
with_content name content (known ∷ files) =
    if bytes_eq known.name name then record { name = name; content = content } ∷ files
    else known ∷ with_content name content files

-- how long a file is, where that is known; one that is absent has no bytes
abbrev pub length_in : Option Content → Option ℕ
length_in None = Some 0
length_in (Some (Bytes bytes)) = Some (length bytes)
length_in (Some (Blank new len)) = len
length_in (Some Unknown) = None

-- an image is created over what the file holds; a longer file stays as long
abbrev pub formatted : Creation → Option Content → Content
formatted new old = Blank new (option_map (λ len. max len (created_length new)) (length_in old))

-- ---- reading

abbrev pub is_unallocated : L2Entry → Bool
is_unallocated Unallocated = true
is_unallocated entry = false

-- no cluster of the image's disk has an entry
abbrev pub maps_none : List ℕ → Header → Bool
maps_none file h = let c = cluster_size h.cluster_bits in
    list_all (λ cluster. is_unallocated (l2_entry (l2_word_of (active_tree file h) c cluster)))
    (range_with_len 0 (clusters_for c h.size))

abbrev pub mapped_in : Option Content → Mapped
mapped_in (Some (Bytes file)) = if maps_none file (header_of file) then MapsNone else MapsSome
mapped_in (Some (Blank new len)) = MapsNone
mapped_in content = Unsure

-- the disk of a `file` node that is added
abbrev pub file_bytes : ℕ → Option Content → List ℕ
file_bytes size (Some (Bytes file)) = file_disk size file
file_bytes size content = []

-- the disk of a qcow2 node that is added, over its backing node's disk; what maps nothing reads as that disk, and as
-- zeros past its end
abbrev pub image_bytes : Option Content → List ℕ → List ℕ
image_bytes (Some (Bytes file)) below = image_disk file below
image_bytes (Some (Blank new len)) below = place_bytes below 0 new.size
image_bytes content below = []
