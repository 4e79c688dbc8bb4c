-- A file of which an entry was written, and the cluster of a new table before it: its refcounts stay.
use Rattle.std.proofs.Common.{◌≡◌, ◌≢◌, ℕ, ◌+◌, ◌/◌, ◌%◌, ◌<◌, ◌≤◌, ◌⊎◌, inl, inr, Bool, true, false, not, ◌&&◌, cond, ltb, List, length, map, get_or, count_by, refl, sym, ap, ◌∙◌, arith, eq-eqb}
use Rattle.std.specs.List.{range_with_len}
use Rattle.std.proofs.lemmas.Bool.{cases_eq, cases_lt, lt-ltb, le-ltb, ne_eqb}
use Rattle.std.proofs.lemmas.List.{get_or_past}
use Rattle.std.proofs.lemmas.List.FromFn.{get_or-map-range_with_len, length-map-range_with_len}
use Rattle.q2_format.specs.Bytes.{place_bytes, IsWritten}
use Rattle.q2_format.specs.Entry.{block_offset}
use Rattle.q2_format.specs.Header.{header_of}
use Rattle.q2_format.specs.References.{names_cluster}
use Rattle.q2_format.specs.Sizes.{cluster_size}
use Rattle.q2_format.specs.Tables.{refcount_table}
use Rattle.q2_format.specs.declared.header.Header.{Header}
use Rattle.q2_format.proofs.ByPlace.{get_or-bytes_at, length-bytes_at}
use Rattle.q2_refs.proofs.Steps.{outside_cluster}
use Rattle.q2_refs.proofs.Uses.{table_run}
use Rattle.q2_refs.proofs.Writes.{IsWithin}
use Rattle.q2_tables.specs.Linking.{CanLink, entry_at, table_len}
use Rattle.q2_image.specs.Image.{Known, IsImageOf, IsOpen}
use Rattle.q2_image.specs.Writing.{IsSpare}
use Rattle.q2_image.proofs.DataWrites.{KeepsTables, tables_kept}
use Rattle.q2_image.proofs.HostUses.{spare_holds, size_in}
use Rattle.q2_image.proofs.TreeChanged.{HoldsNoCount, KeepsCounts, counts_kept_by, counts_of_tables, counts_then}
use Rattle.q2_image.proofs.EntryWrites.{EntryPlace, entry_place}

-- new reads as old but for n bytes from a place on
bytes_written : (old new : List ℕ) (at n : ℕ) → ((i : ℕ) → (i < at) ⊎ (at + n ≤ i) → get_or new i 0 ≡ get_or old i 0) → IsWritten old new at (place_bytes new at n)
bytes_written old new at n outside =
    let len = length-bytes_at new at n in
    record {
      inside = λ i h. sym (get_or-bytes_at new at n i (omega (arith, len)));
      outside = λ i side. outside i (elim side [ inl before ↦ inl before | inr behind ↦ inr (omega (arith, len)) ]);
    }

-- The new file with the old bytes in one place.
module _ (old new : List ℕ) (at n : ℕ) (grows : length old ≤ length new) where
  abbrev in_place : ℕ → Bool
  in_place i = not (ltb i at) && ltb i (at + n)

  before_write : List ℕ
  before_write = map (λ i. cond (in_place i) (get_or old i 0) (get_or new i 0)) (range_with_len 0 (length new))

  length_before : length before_write ≡ length new
  unfolding before_write
  length_before = length-map-range_with_len (λ i. cond (in_place i) (get_or old i 0) (get_or new i 0)) 0 (length new)

  zero_either : (b : Bool) (x y : ℕ) → x ≡ 0 → y ≡ 0 → 0 ≡ cond b x y
  zero_either true x y p q = sym p
  zero_either false x y p q = sym q

  byte_before : (i : ℕ) → get_or before_write i 0 ≡ cond (in_place i) (get_or old i 0) (get_or new i 0)
  unfolding before_write
  byte_before i = elim (cases_lt i (length new)) [
    | inl inside ↦ get_or-map-range_with_len (λ i. cond (in_place i) (get_or old i 0) (get_or new i 0)) 0 (length new) i i 0 inside (omega arith)
    | inr past ↦
        let len = length_before in
        get_or_past before_write i 0 (omega (arith, len, past))
        ∙ zero_either (in_place i) (get_or old i 0) (get_or new i 0) (get_or_past old i 0 (omega arith)) (get_or_past new i 0 past)
  ]

  not_in_place : (i : ℕ) → (i < at) ⊎ (at + n ≤ i) → in_place i ≡ false
  not_in_place i (inl before) = let test = lt-ltb i at before in rw test refl
  not_in_place i (inr behind) = let low = le-ltb i at (omega arith) in let test = le-ltb i (at + n) behind in rw (low, test) refl

  -- the write in that place comes last
  last_write : IsWritten before_write new at (place_bytes new at n)
  last_write = bytes_written before_write new at n (λ i side. let none = not_in_place i side in sym (byte_before i ∙ rw none refl))

  -- and what was written elsewhere before it
  first_write : (place len : ℕ) → ((i : ℕ) → (i < at) ⊎ (at + n ≤ i) → (i < place) ⊎ (place + len ≤ i) → get_or new i 0 ≡ get_or old i 0)
      → IsWritten old before_write place (place_bytes before_write place len)
  first_write place len outside = bytes_written old before_write place len (λ i side. elim (cases_lt i at) [
    | inl before ↦ let none = not_in_place i (inl before) in byte_before i ∙ rw none (outside i (inl before) side)
    | inr low ↦ elim (cases_lt i (at + n)) [
      | inl inside ↦ let here = le-ltb i at low in let test = lt-ltb i (at + n) inside in byte_before i ∙ rw (here, test) refl
      | inr behind ↦ let none = not_in_place i (inr behind) in byte_before i ∙ rw none (outside i (inr behind) side)
    ]
  ])

-- what holds no count still holds none
still_no_count : (old new : List ℕ) (k : ℕ) → KeepsTables old new → HoldsNoCount old k → HoldsNoCount new k
still_no_count old new k keeps holds =
    let table : refcount_table new (header_of new) ≡ refcount_table old (header_of old) = ap (refcount_table new) keeps.header ∙ keeps.table in
    record {
      header = holds.header;
      table = ap (λ (h : Header). table_run h k) keeps.header ∙ holds.table;
      blocks = ap (λ (h : Header). count_by (λ word. names_cluster (cluster_size h.cluster_bits) k (block_offset word)) (refcount_table new h)) keeps.header
          ∙ ap (λ (words : List ℕ). count_by (λ word. names_cluster (cluster_size (header_of old).cluster_bits) k (block_offset word)) words) keeps.table
          ∙ holds.blocks;
    }

module _ (old new : List ℕ) (image : Known) (cluster table : ℕ) (is : IsImageOf old image) (ready : IsOpen image) (below : cluster < length image.tables.words)
    (can : CanLink image.tables cluster table) (spare : table ≢ 0 → IsSpare old (table / 65536)) (whole : table % 65536 ≡ 0)
    (outside : (i : ℕ) → (i < entry_at image.tables cluster table) ⊎ (entry_at image.tables cluster table + 8 ≤ i)
    → (i < table) ⊎ (table + table_len image.tables table ≤ i) → get_or new i 0 ≡ get_or old i 0)
    (grows : length old ≤ length new) (small : length new ≤ 549755813888) where
  abbrev at : ℕ
  at = entry_at image.tables cluster table

  place : EntryPlace old image is ready cluster table below can at
  place = entry_place old image is ready cluster table below can

  size : cluster_size (header_of old).cluster_bits ≡ 65536
  size = let b = ap (λ (h : Header). h.cluster_bits) is.header ∙ ready.cluster_bits in rw b refl

  within_entry : (file : List ℕ) → header_of file ≡ header_of old → IsWithin (at / 65536) (cluster_size (header_of file).cluster_bits) at (place_bytes new at 8)
  within_entry file same =
      let len = length-bytes_at new at 8 in
      let c : cluster_size (header_of file).cluster_bits ≡ 65536 = ap (λ (h : Header). cluster_size h.cluster_bits) same ∙ size in
      let high = place.high in
      rw c (record { low = omega arith; high = omega (arith, len, high) })

  no_table : table ≡ 0 → KeepsCounts old new
  no_table none =
      let test = eq-eqb table 0 none in
      let len : table_len image.tables table ≡ 0 = rw test refl in
      counts_kept_by old new (at / 65536) at (place_bytes new at 8) is.sound place.holds.free
      (bytes_written old new at 8 (λ i side. outside i side (inr (omega (arith, none, len))))) (within_entry old refl)

  new_table : table ≢ 0 → KeepsCounts old new
  new_table some =
      let mid : List ℕ = before_write old new at 8 grows in
      let test = ne_eqb table 0 some in
      let c = ready.tables_size ∙ size_in image ready in
      let len : table_len image.tables table ≡ 65536 = rw test c in
      let same = length_before old new at 8 grows in
      let first = first_write old new at 8 grows table (table_len image.tables table) outside in
      let width = length-bytes_at mid table (table_len image.tables table) in
      let within : IsWithin (table / 65536) (cluster_size (header_of old).cluster_bits) table (place_bytes mid table (table_len image.tables table)) =
      rw size (record { low = omega arith; high = omega (arith, width, len, whole) }) in
      let keeps = tables_kept old mid (table / 65536) table (place_bytes mid table (table_len image.tables table)) is.sound (spare_holds old image is (table / 65536) (spare some).unnamed) first within
      (omega (arith, same, grows)) (omega (arith, same, small)) in
      let next = counts_kept_by mid new (at / 65536) at (place_bytes new at 8) keeps.sound (still_no_count old mid (at / 65536) keeps place.holds.free) (last_write old new at 8 grows) (within_entry mid keeps.header) in
      counts_then old mid new (counts_of_tables old mid keeps) next

  pub counts_stay : KeepsCounts old new
  counts_stay = elim (cases_eq table 0) [ inl none ↦ no_table none | inr some ↦ new_table some ]

  -- and so does every byte of another cluster
  pub byte_stays_beside : (i : ℕ) → i / 65536 ≢ at / 65536 → (table ≢ 0 → i / 65536 ≢ table / 65536) → get_or new i 0 ≡ get_or old i 0
  byte_stays_beside i other beside =
      let high = place.high in
      outside i
      (elim (outside_cluster i (at / 65536) 65536 (omega arith) other) [ inl before ↦ inl (omega arith) | inr behind ↦ inr (omega (arith, high, behind)) ])
      (elim (cases_eq table 0) [
        | inl none ↦ let test = eq-eqb table 0 none in let len : table_len image.tables table ≡ 0 = rw test refl in inr (omega (arith, none, len))
        | inr some ↦
            let test = ne_eqb table 0 some in
            let c = ready.tables_size ∙ size_in image ready in
            let len : table_len image.tables table ≡ 65536 = rw test c in
            elim (outside_cluster i (table / 65536) 65536 (omega arith) (beside some)) [ inl before ↦ inl (omega (arith, whole, before)) | inr behind ↦ inr (omega (arith, whole, len, behind)) ]
      ])
