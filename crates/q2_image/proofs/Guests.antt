-- The guest's bytes by the entry of their cluster.
use Rattle.std.proofs.Common.{◌≡◌, ℕ, ◌+◌, ◌/◌, ◌%◌, ◌<◌, ◌≤◌, List, [], length, get_or, map, replicate, refl, sym, ap, ◌∙◌, arith}
use Rattle.std.specs.List.{range_with_len}
use Rattle.std.proofs.lemmas.List.{ext_get_or, length-replicate, get_or-replicate}
use Rattle.std.proofs.lemmas.List.FromFn.{get_or-map-range_with_len, length-map-range_with_len}
use Rattle.blk_base.specs.Content.{bytes_at}
use Rattle.blk_base.proofs.Contents.{length-bytes_at, get_or-bytes_at}
use Rattle.q2_format.specs.Header.{header_of}
use Rattle.q2_format.specs.Contents.{guest_byte, image_disk}
use Rattle.q2_format.specs.declared.entries.L2Entry.TheVariants.{Unallocated, Zero, Host}
use Rattle.q2_image.specs.Guest.{file_entry, guest_bytes}

-- a byte of a cluster, by its entry
pub guest_host : (file backing : List ℕ) (place host : ℕ) → (header_of file).cluster_bits ≡ 16 → file_entry file (place / 65536) ≡ Host host
    → guest_byte file backing place ≡ get_or file (host + place % 65536) 0
unfolding guest_byte
guest_host file backing place host bits entry = let e = rw bits at entry in rw (bits, e) refl

pub guest_zero : (file backing : List ℕ) (place host : ℕ) → (header_of file).cluster_bits ≡ 16 → file_entry file (place / 65536) ≡ Zero host
    → guest_byte file backing place ≡ 0
unfolding guest_byte
guest_zero file backing place host bits entry = let e = rw bits at entry in rw (bits, e) refl

pub guest_unallocated : (file backing : List ℕ) (place : ℕ) → (header_of file).cluster_bits ≡ 16 → file_entry file (place / 65536) ≡ Unallocated
    → guest_byte file backing place ≡ get_or backing place 0
unfolding guest_byte
guest_unallocated file backing place bits entry = let e = rw bits at entry in rw (bits, e) refl

-- bytes that are the guest's, place by place
pub length-guest_bytes : (file backing : List ℕ) (at n : ℕ) → length (guest_bytes file backing at n) ≡ n
unfolding guest_bytes
length-guest_bytes file backing at n = length-map-range_with_len (guest_byte file backing) at n

pub get_or-guest_bytes : (file backing : List ℕ) (at n i : ℕ) → i < n → get_or (guest_bytes file backing at n) i 0 ≡ guest_byte file backing (at + i)
unfolding guest_bytes
get_or-guest_bytes file backing at n i h = get_or-map-range_with_len (guest_byte file backing) at n i (at + i) 0 h refl

pub guest_bytes-by_place : (file backing xs : List ℕ) (at n : ℕ) → length xs ≡ n → ((i : ℕ) → i < n → get_or xs i 0 ≡ guest_byte file backing (at + i))
    → xs ≡ guest_bytes file backing at n
guest_bytes-by_place file backing xs at n len each =
    ext_get_or 0 xs (guest_bytes file backing at n) (len ∙ sym (length-guest_bytes file backing at n))
    (λ i h. each i (omega arith) ∙ sym (get_or-guest_bytes file backing at n i (omega arith)))

-- what is read of a mapped cluster is the guest's
pub read_mapped : (file backing buffer : List ℕ) (start n host : ℕ) → (header_of file).cluster_bits ≡ 16 → file_entry file (start / 65536) ≡ Host host
    → start % 65536 + n ≤ 65536 → buffer ≡ bytes_at file (host + start % 65536) n → buffer ≡ guest_bytes file backing start n
read_mapped file backing buffer start n host bits entry within read =
    guest_bytes-by_place file backing buffer start n (ap length read ∙ length-bytes_at file (host + start % 65536) n)
    (λ i h.
    let cluster : (start + i) / 65536 ≡ start / 65536 = omega arith in
    let place : host + (start + i) % 65536 ≡ host + start % 65536 + i = omega arith in
    ap (λ (b : List ℕ). get_or b i 0) read ∙ get_or-bytes_at file (host + start % 65536) n i h
    ∙ ap (λ (j : ℕ). get_or file j 0) (sym place)
    ∙ sym (guest_host file backing (start + i) host bits (ap (file_entry file) cluster ∙ entry)))

-- zeros are the guest's bytes of a cluster that reads as zeros, and of one that isn't mapped, without a backing disk
pub read_zero : (file backing buffer : List ℕ) (start n host : ℕ) → (header_of file).cluster_bits ≡ 16 → file_entry file (start / 65536) ≡ Zero host
    → start % 65536 + n ≤ 65536 → buffer ≡ replicate n 0 → buffer ≡ guest_bytes file backing start n
read_zero file backing buffer start n host bits entry within zeros =
    guest_bytes-by_place file backing buffer start n (ap length zeros ∙ length-replicate n 0)
    (λ i h.
    let cluster : (start + i) / 65536 ≡ start / 65536 = omega arith in
    ap (λ (b : List ℕ). get_or b i 0) zeros ∙ get_or-replicate n i 0 0 h
    ∙ sym (guest_zero file backing (start + i) host bits (ap (file_entry file) cluster ∙ entry)))

pub read_unmapped : (file buffer : List ℕ) (start n : ℕ) → (header_of file).cluster_bits ≡ 16 → file_entry file (start / 65536) ≡ Unallocated
    → start % 65536 + n ≤ 65536 → buffer ≡ replicate n 0 → buffer ≡ guest_bytes file [] start n
read_unmapped file buffer start n bits entry within zeros =
    guest_bytes-by_place file [] buffer start n (ap length zeros ∙ length-replicate n 0)
    (λ i h.
    let cluster : (start + i) / 65536 ≡ start / 65536 = omega arith in
    ap (λ (b : List ℕ). get_or b i 0) zeros ∙ get_or-replicate n i 0 0 h
    ∙ sym (guest_unallocated file [] (start + i) bits (ap (file_entry file) cluster ∙ entry)))

-- a part of an image's disk without a backing disk
pub disk_part : (file : List ℕ) (start n : ℕ) → start + n ≤ (header_of file).size → bytes_at (image_disk file []) start n ≡ guest_bytes file [] start n
unfolding image_disk
disk_part file start n within =
    guest_bytes-by_place file [] (bytes_at (map (guest_byte file []) (range_with_len 0 (header_of file).size)) start n) start n
    (length-bytes_at (map (guest_byte file []) (range_with_len 0 (header_of file).size)) start n)
    (λ i h. get_or-bytes_at (map (guest_byte file []) (range_with_len 0 (header_of file).size)) start n i h
    ∙ get_or-map-range_with_len (guest_byte file []) 0 (header_of file).size (start + i) (start + i) 0 (omega arith) (omega arith))

pub length-image_disk : (file backing : List ℕ) → length (image_disk file backing) ≡ (header_of file).size
unfolding image_disk
length-image_disk file backing = length-map-range_with_len (guest_byte file backing) 0 (header_of file).size
