-- What an open image says of a cluster is what its file says.
use Rattle.std.proofs.Common.{◌≡◌, ℕ, ◌+◌, ◌/◌, ◌%◌, ◌^◌, ◌<◌, ◌≤◌, Bool, true, false, cond, eqb, List, [], length, replicate, sym, ap, subst, ◌∙◌, arith}
use Rattle.blk_base.specs.Content.{bytes_at}
use Rattle.q2_format.specs.Sizes.{cluster_size}
use Rattle.q2_format.specs.Entry.{l2_entry, is_compressed, has_reserved_in_l2, reads_as_zeros, host_offset}
use Rattle.q2_format.specs.Header.{header_of}
use Rattle.q2_format.specs.Contents.{image_disk}
use Rattle.q2_format.specs.Tables.{active_tree, l2_word_of}
use Rattle.q2_format.specs.declared.header.Header.{Header}
use Rattle.q2_format.specs.declared.entries.L2Entry.TheVariants.{Unallocated, Zero, Host, Compressed, Reserved}
use Rattle.q2_image.specs.Image.{Known, IsImageOf, IsOpen, clusters_in, entry_in}
use Rattle.q2_image.specs.Guest.{file_entry, guest_bytes}
use Rattle.q2_image.proofs.Guests.{read_mapped, read_zero, read_unmapped, disk_part}

pub entry_of_file : (file : List ℕ) (image : Known) (cluster : ℕ) → IsImageOf file image → cluster < length image.tables.words → file_entry file cluster ≡ entry_in image cluster
entry_of_file file image cluster is below =
    let word = is.tables.words cluster below in
    let P : Header → Type 0 = λ h. l2_entry (l2_word_of (active_tree file h) (cluster_size h.cluster_bits) cluster) ≡ entry_in image cluster in
    subst P (sym is.header) (ap l2_entry (sym word))

-- a host offset leaves room for a place in its cluster
small_host : (word host : ℕ) (a b z n : Bool) → cond a Compressed (cond b Reserved (cond z (Zero (host_offset word)) (cond n Unallocated (Host (host_offset word))))) ≡ Host host → host ≡ host_offset word
small_host word host true b z n is = absurd (cc)
small_host word host false true z n is = absurd (cc)
small_host word host false false true n is = absurd (cc)
small_host word host false false false true is = absurd (cc)
small_host word host false false false false is = cc

pub host_below : (word host : ℕ) → l2_entry word ≡ Host host → host < 2 ^ 56
unfolding l2_entry
host_below word host is =
    let same = small_host word host (is_compressed word) (has_reserved_in_l2 word) (reads_as_zeros word) (eqb (host_offset word) 0) is in
    omega arith

-- what is read of a mapped cluster
pub read_of_image : (file backing buffer : List ℕ) (image : Known) (start n host : ℕ) → IsImageOf file image → image.header.cluster_bits ≡ 16
    → start / 65536 < length image.tables.words → entry_in image (start / 65536) ≡ Host host → start % 65536 + n ≤ 65536
    → buffer ≡ bytes_at file (host + start % 65536) n → buffer ≡ guest_bytes file backing start n
read_of_image file backing buffer image start n host is bits below entry within read =
    read_mapped file backing buffer start n host (ap (λ (h : Header). h.cluster_bits) is.header ∙ bits)
    (entry_of_file file image (start / 65536) is below ∙ entry) within read

-- a guest cluster has an entry
pub below_words : (image : Known) (cluster : ℕ) → IsOpen image → cluster < clusters_in image → cluster < length image.tables.words
below_words image cluster ready below =
    let bits = ready.cluster_bits in
    let l1 = rw bits at ready.l1 in
    let words = rw bits at ready.words in
    let within = rw bits at below in
    omega arith

-- The disk of an image without a backing disk, by what was read of a part of it.
pub disk_read : (file buffer : List ℕ) (image : Known) (start n : ℕ) → IsImageOf file image → start + n ≤ image.header.size
    → buffer ≡ guest_bytes file [] start n → buffer ≡ bytes_at (image_disk file []) start n
disk_read file buffer image start n is within read =
    let size = ap (λ (h : Header). h.size) is.header in
    read ∙ sym (disk_part file start n (omega arith))

file_bits : (file : List ℕ) (image : Known) → IsImageOf file image → image.header.cluster_bits ≡ 16 → (header_of file).cluster_bits ≡ 16
file_bits file image is bits = ap (λ (h : Header). h.cluster_bits) is.header ∙ bits

pub disk_zero : (file buffer : List ℕ) (image : Known) (start n host : ℕ) → IsImageOf file image → image.header.cluster_bits ≡ 16
    → file_entry file (start / 65536) ≡ Zero host → start % 65536 + n ≤ 65536 → start + n ≤ image.header.size → buffer ≡ replicate n 0
    → buffer ≡ bytes_at (image_disk file []) start n
disk_zero file buffer image start n host is bits entry block within zeros =
    disk_read file buffer image start n is within (read_zero file [] buffer start n host (file_bits file image is bits) entry block zeros)

pub disk_unmapped : (file buffer : List ℕ) (image : Known) (start n : ℕ) → IsImageOf file image → image.header.cluster_bits ≡ 16
    → file_entry file (start / 65536) ≡ Unallocated → start % 65536 + n ≤ 65536 → start + n ≤ image.header.size → buffer ≡ replicate n 0
    → buffer ≡ bytes_at (image_disk file []) start n
disk_unmapped file buffer image start n is bits entry block within zeros =
    disk_read file buffer image start n is within (read_unmapped file buffer start n (file_bits file image is bits) entry block zeros)
