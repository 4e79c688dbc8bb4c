-- What an image's disk is, over any backing disk, after a change of its file.
use Rattle.std.proofs.Common.{◌≡◌, ℕ, ◌+◌, ◌-◌, ◌%◌, ◌<◌, ◌≤◌, ◌⊎◌, min, List, length, get_or, replicate, refl, sym, ap, subst, ◌∙◌, arith, inl, inr}
use Rattle.std.proofs.lemmas.Bool.{cases_lt}
use Rattle.std.proofs.lemmas.List.{ext_get_or, length-replicate, get_or-replicate}
use Rattle.std.proofs.lemmas.List.FromFn.{get_or-map-range_with_len}
use Rattle.blk_base.specs.Content.{bytes_at, with_bytes}
use Rattle.blk_base.proofs.Contents.{length-with_bytes_within, get_or-with_bytes_inside, get_or-with_bytes_outside, get_or-bytes_at}
use Rattle.q2_format.specs.Header.{header_of}
use Rattle.q2_format.specs.Contents.{guest_byte, image_disk}
use Rattle.q2_image.specs.Writing.{IsDiskWith}
use Rattle.q2_image.proofs.Guests.{length-image_disk}
use Rattle.blk_nodes.specs.Parts.{HasFound, IsLaid}

byte_of_disk : (file backing : List ℕ) (i : ℕ) → i < (header_of file).size → get_or (image_disk file backing) i 0 ≡ guest_byte file backing i
unfolding image_disk
byte_of_disk file backing i below = get_or-map-range_with_len (guest_byte file backing) 0 (header_of file).size i i 0 below (omega arith)

-- a disk that has these bytes from a place on, and else the old ones
disk_changed : (old new backing : List ℕ) (at : ℕ) (bytes : List ℕ) → (header_of new).size ≡ (header_of old).size → at + length bytes ≤ (header_of old).size
    → ((i : ℕ) → i < length bytes → guest_byte new backing (at + i) ≡ get_or bytes i 0)
    → ((place : ℕ) → place < (header_of old).size → (place < at) ⊎ (at + length bytes ≤ place) → guest_byte new backing place ≡ guest_byte old backing place)
    → image_disk new backing ≡ with_bytes (image_disk old backing) at bytes
disk_changed old new backing at bytes size within inside outside =
    let old_len = length-image_disk old backing in
    let new_len = length-image_disk new backing in
    let with_len = length-with_bytes_within (image_disk old backing) at bytes (omega arith) in
    ext_get_or 0 (image_disk new backing) (with_bytes (image_disk old backing) at bytes) (new_len ∙ size ∙ sym old_len ∙ sym with_len)
    (λ i below. byte_of_disk new backing i (omega arith) ∙ elim (cases_lt i at) [
      | inl before ↦
          outside i (omega arith) (inl before) ∙ sym (byte_of_disk old backing i (omega arith))
          ∙ sym (get_or-with_bytes_outside (image_disk old backing) at bytes i (inl before))
      | inr low ↦ elim (cases_lt i (at + length bytes)) [
        | inr behind ↦
            outside i (omega arith) (inr behind) ∙ sym (byte_of_disk old backing i (omega arith))
            ∙ sym (get_or-with_bytes_outside (image_disk old backing) at bytes i (inr behind))
        | inl here ↦
            let k : ℕ = i - at in
            let place : at + k ≡ i = omega arith in
            ap (guest_byte new backing) (sym place) ∙ inside k (omega arith) ∙ sym (get_or-with_bytes_inside (image_disk old backing) at bytes k (omega arith))
            ∙ ap (λ (j : ℕ). get_or (with_bytes (image_disk old backing) at bytes) j 0) place
      ]
    ])

-- after a write in place
pub disk_written : (old new backing : List ℕ) (at : ℕ) (bytes : List ℕ) → IsDiskWith old new at bytes → at + length bytes ≤ (header_of old).size
    → image_disk new backing ≡ with_bytes (image_disk old backing) at bytes
disk_written old new backing at bytes is within =
    disk_changed old new backing at bytes is.size within
    (λ i below. is.inside backing i below (omega arith)) (λ place below side. is.outside backing place below side)

-- after a put of a whole cluster, of which but for a part the disk had the bytes
pub disk_put : (old new backing : List ℕ) (start n : ℕ) (bytes cluster found : List ℕ) → IsDiskWith old new (start - start % 65536) cluster
    → IsLaid 65536 n (start % 65536) bytes cluster → HasFound n (start % 65536) bytes found cluster → found ≡ bytes_at (image_disk old backing) (start - start % 65536) n
    → n ≡ min 65536 ((header_of old).size - (start - start % 65536)) → start % 65536 + length bytes ≤ 65536 → start + length bytes ≤ (header_of old).size
    → image_disk new backing ≡ with_bytes (image_disk old backing) start bytes
disk_put old new backing start n bytes cluster found is laid rest was count block within =
    let whole = laid.whole in
    let base : ℕ = start - start % 65536 in
    let at : ℕ = start % 65536 in
    disk_changed old new backing start bytes is.size within
    (λ i below.
    let place : base + (at + i) ≡ start + i = omega arith in
    ap (guest_byte new backing) (sym place) ∙ is.inside backing (at + i) (omega arith) (omega arith) ∙ laid.inside i below)
    (λ place below side. elim (cases_lt place base) [
      | inl before ↦ is.outside backing place below (inl before)
      | inr low ↦ elim (cases_lt place (base + 65536)) [
        | inr behind ↦ is.outside backing place below (inr (omega arith))
        | inl here ↦
            let k : ℕ = place - base in
            let is_there : base + k ≡ place = omega arith in
            let apart : (k < at) ⊎ (at + length bytes ≤ k) = elim side [ inl first ↦ inl (omega arith) | inr last ↦ inr (omega arith) ] in
            let few : k < n = omega arith in
            ap (guest_byte new backing) (sym is_there) ∙ is.inside backing k (omega arith) (omega arith) ∙ rest k few apart
            ∙ ap (λ (b : List ℕ). get_or b k 0) was ∙ get_or-bytes_at (image_disk old backing) base n k few
            ∙ ap (λ (j : ℕ). get_or (image_disk old backing) j 0) is_there ∙ byte_of_disk old backing place below
      ]
    ])

-- after a zero write of a whole cluster, up to the disk's end
pub disk_zeroed : (old new backing : List ℕ) (start n : ℕ) → IsDiskWith old new (start - start % 65536) (replicate 65536 0) → start % 65536 ≡ 0
    → n ≡ min 65536 ((header_of old).size - start) → start ≤ (header_of old).size → image_disk new backing ≡ with_bytes (image_disk old backing) start (replicate n 0)
disk_zeroed old new backing start n is whole count within =
    let zeros_len = length-replicate {A = ℕ} 65536 0 in
    let n_len = length-replicate {A = ℕ} n 0 in
    let base : start - start % 65536 ≡ start = omega arith in
    let with_zeros : IsDiskWith old new start (replicate 65536 0) = subst (λ (b : ℕ). IsDiskWith old new b (replicate 65536 0)) base is in
    disk_changed old new backing start (replicate n 0) with_zeros.size (omega arith)
    (λ i below. with_zeros.inside backing i (omega arith) (omega arith) ∙ get_or-replicate 65536 i 0 0 (omega arith) ∙ sym (get_or-replicate n i 0 0 (omega arith)))
    (λ place below side. with_zeros.outside backing place below (elim side [
      | inl before ↦ inl before
      | inr behind ↦ inr (omega arith)
    ]))

-- a part of a cluster of zeros, which is left as it is
pub disk_left : (file backing : List ℕ) (start n : ℕ) → ((i : ℕ) → i < n → guest_byte file backing (start + i) ≡ 0) → start + n ≤ (header_of file).size
    → image_disk file backing ≡ with_bytes (image_disk file backing) start (replicate n 0)
disk_left file backing start n zeros within =
    let n_len = length-replicate {A = ℕ} n 0 in
    disk_changed file file backing start (replicate n 0) refl (omega arith)
    (λ i below. zeros i (omega arith) ∙ sym (get_or-replicate n i 0 0 (omega arith)))
    (λ place below side. refl)
