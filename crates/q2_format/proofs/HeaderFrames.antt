-- The header depends on the bytes of its first cluster alone, and on the file's length only by its limits.
use Rattle.std.proofs.Common.{◌≡◌, ℕ, zero, suc, ◌+◌, ◌≤◌, inl, inr, Bool, true, false, not, ◌||◌, eqb, ltb, List, [], ◌∷◌, Option, None, Some, refl, ap, arith}
use Rattle.std.specs.Option.{option_map_or}
use Rattle.std.specs.Int.{trailing_zeros, w64}
use Rattle.std.specs.Str.{is_utf8}
use Rattle.std.proofs.lemmas.Bool.{cases_lt, lt-ltb, le-ltb, ltb-false, or_parts, eqb-true, not-false}
use Rattle.q2_format.specs.Bytes.{number_at, place_bytes, ReadsAlike}
use Rattle.q2_format.specs.Sizes.{cluster_size, clusters_for}
use Rattle.q2_format.specs.Header.{first, refused_where, name_place_of, area_end, cluster_bits_of, header_length_of, refcount_order_of, incompatible_of, crypt_method_of, nb_snapshots_of, magic_of, version_of, size_of, l1_size_of, refcount_table_clusters_of, extension_after, format_after, extension_list, extensions_from, extensions_of, header_of, header_refusal, format_refusal, profile_refusal, name_refusal, extension_refusal, size_refusal, is_bad_name}
use Rattle.q2_format.specs.declared.header.Place.{Place}
use Rattle.q2_format.specs.declared.header.HeaderStop.TheVariants.{Short, Magic, Version, ClusterBits, RefcountOrder, Feature, Crypt, Snapshots, BackingName, TooLarge}
use Rattle.q2_format.proofs.ByPlace.{number_at-within, bytes_at-within}
use Rattle.q2_format.proofs.Firsts.{first-none, refused_where-none}

-- The list of extensions in an area.

format_after_alike : (old new : List ℕ) (n at : ℕ) (format : Option Place) → ReadsAlike old new 0 n → at + 8 ≤ n → format_after new at format ≡ format_after old at format
format_after_alike old new n at format alike h =
    let kind = number_at-within old new 0 n at 4 alike (omega arith) (omega arith) in
    let len = number_at-within old new 0 n (at + 4) 4 alike (omega arith) (omega arith) in
    rw (kind, len) refl

list_alike : (steps : ℕ) (old new : List ℕ) (n at end : ℕ) (format : Option Place) → ReadsAlike old new 0 n → end ≤ n
    → extension_list steps new at end format ≡ extension_list steps old at end format
unfolding extension_list
list_alike zero old new n at end format alike h = refl
list_alike (suc steps) old new n at end format alike h = elim (cases_lt end (at + 8)) [
  | inl short ↦ let test = lt-ltb end (at + 8) short in rw test refl
  | inr room ↦
      let kind = number_at-within old new 0 n at 4 alike (omega arith) (omega arith) in
      let len = number_at-within old new 0 n (at + 4) 4 alike (omega arith) (omega arith) in
      let found = format_after_alike old new n at format alike (omega arith) in
      let rest = list_alike steps old new n (extension_after old at) end (format_after old at format) alike h in
      rw (kind, len, rest) refl
]

pub extensions_alike : (old new : List ℕ) (n at end : ℕ) (format : Option Place) → ReadsAlike old new 0 n → end ≤ n
    → extensions_from new at end format ≡ extensions_from old at end format
unfolding extensions_from
extensions_alike old new n at end format alike h = list_alike end old new n at end format alike h

-- The fields.

name_alike : (old new : List ℕ) (n : ℕ) → ReadsAlike old new 0 n → 104 ≤ n → name_place_of new ≡ name_place_of old
unfolding name_place_of
name_alike old new n alike room =
    let offset = number_at-within old new 0 n 8 8 alike (omega arith) (omega arith) in
    let len = number_at-within old new 0 n 16 4 alike (omega arith) (omega arith) in
    rw (offset, len) refl

area_alike : (old new : List ℕ) (n : ℕ) → ReadsAlike old new 0 n → 104 ≤ n → area_end new ≡ area_end old
area_alike old new n alike room =
    let name = name_alike old new n alike room in
    let bits = number_at-within old new 0 n 20 4 alike (omega arith) (omega arith) in
    rw (name, bits) refl

list_of_alike : (old new : List ℕ) (n : ℕ) → ReadsAlike old new 0 n → 104 ≤ n → area_end old ≤ n → extensions_of new ≡ extensions_of old
unfolding extensions_of
list_of_alike old new n alike room within =
    let area = area_alike old new n alike room in
    let at = number_at-within old new 0 n 100 4 alike (omega arith) (omega arith) in
    rw (area, at) (extensions_alike old new n (header_length_of old) (area_end old) None alike within)

-- the header is read from its first n bytes, where the area of the extensions ends within them
pub header_alike : (old new : List ℕ) (n : ℕ) → ReadsAlike old new 0 n → 104 ≤ n → area_end old ≤ n → header_of new ≡ header_of old
unfolding header_of
header_alike old new n alike room within =
    let field : (at width : ℕ) → at + width ≤ n → number_at new at width ≡ number_at old at width = λ at width h. number_at-within old new 0 n at width alike (omega arith) (omega arith) in
    let name = name_alike old new n alike room in
    let list = list_of_alike old new n alike room within in
    let size = field 24 8 (omega arith) in
    let bits = field 20 4 (omega arith) in
    let l1_size = field 36 4 (omega arith) in
    let l1_offset = field 40 8 (omega arith) in
    let ref_offset = field 48 8 (omega arith) in
    let ref_clusters = field 56 4 (omega arith) in
    let order = field 96 4 (omega arith) in
    let header_length = field 100 4 (omega arith) in
    let nb_snaps = field 60 4 (omega arith) in
    let snaps_offset = field 64 8 (omega arith) in
    let compat = field 80 8 (omega arith) in
    let autoclear = field 88 8 (omega arith) in
    rw (size, bits, l1_size, l1_offset, ref_offset, ref_clusters, order, header_length, nb_snaps, snaps_offset, compat, autoclear, name, list) refl

-- The refusals, stage by stage.

format_alike : (old new : List ℕ) (n len : ℕ) → ReadsAlike old new 0 n → 104 ≤ n → format_refusal new len ≡ format_refusal old len
unfolding format_refusal
format_alike old new n len alike room =
    let magic = number_at-within old new 0 n 0 4 alike (omega arith) (omega arith) in
    let version = number_at-within old new 0 n 4 4 alike (omega arith) (omega arith) in
    let header_length = number_at-within old new 0 n 100 4 alike (omega arith) (omega arith) in
    rw (magic, version, header_length) refl

profile_alike : (old new : List ℕ) (n : ℕ) → ReadsAlike old new 0 n → 104 ≤ n → profile_refusal new ≡ profile_refusal old
unfolding profile_refusal
profile_alike old new n alike room =
    let bits = number_at-within old new 0 n 20 4 alike (omega arith) (omega arith) in
    let order = number_at-within old new 0 n 96 4 alike (omega arith) (omega arith) in
    let incompatible = number_at-within old new 0 n 72 8 alike (omega arith) (omega arith) in
    let crypt = number_at-within old new 0 n 32 4 alike (omega arith) (omega arith) in
    let snapshots = number_at-within old new 0 n 60 4 alike (omega arith) (omega arith) in
    rw (bits, order, incompatible, crypt, snapshots) refl

size_alike : (old new : List ℕ) (n len : ℕ) → ReadsAlike old new 0 n → 104 ≤ n → size_refusal new len ≡ size_refusal old len
unfolding size_refusal
size_alike old new n len alike room =
    let bits = number_at-within old new 0 n 20 4 alike (omega arith) (omega arith) in
    let size = number_at-within old new 0 n 24 8 alike (omega arith) (omega arith) in
    let l1 = number_at-within old new 0 n 36 4 alike (omega arith) (omega arith) in
    let table = number_at-within old new 0 n 56 4 alike (omega arith) (omega arith) in
    rw (bits, size, l1, table) refl

-- a name within the first n bytes is judged by them, and one that leaves its cluster by its place alone
bad_name_alike : (old new : List ℕ) (n : ℕ) (name : Place) → ReadsAlike old new 0 n → 104 ≤ n → cluster_size (cluster_bits_of old) ≤ n
    → is_bad_name new name ≡ is_bad_name old name
bad_name_alike old new n name alike room small =
    let bits = number_at-within old new 0 n 20 4 alike (omega arith) (omega arith) in
    let header_length = number_at-within old new 0 n 100 4 alike (omega arith) (omega arith) in
    elim (cases_lt (cluster_size (cluster_bits_of old)) (name.at + name.len)) [
      | inl out ↦
          let leaves = lt-ltb (cluster_size (cluster_bits_of old)) (name.at + name.len) out in
          rw (bits, header_length, leaves) (or_same (ltb 1023 name.len || ltb name.at (header_length_of old)) (not (is_utf8 (place_bytes new name.at name.len))) (not (is_utf8 (place_bytes old name.at name.len))))
      | inr inside ↦
          let text = bytes_at-within old new 0 n name.at name.len alike (omega arith) (omega arith) in
          rw (bits, header_length, text) refl
    ]
  where
    or_same : (a x y : Bool) → ((a || true) || x) ≡ ((a || true) || y)
    or_same true x y = refl
    or_same false x y = refl

name_refusal_alike : (old new : List ℕ) (n : ℕ) → ReadsAlike old new 0 n → 104 ≤ n → cluster_size (cluster_bits_of old) ≤ n
    → name_refusal new ≡ name_refusal old
unfolding name_refusal
name_refusal_alike old new n alike room small =
    let name = name_alike old new n alike room in
    rw name (ap (λ (b : Bool). refused_where b BackingName) (by_name (name_place_of old)))
  where
    by_name : (name : Option Place) → option_map_or (is_bad_name new) name false ≡ option_map_or (is_bad_name old) name false
    by_name None = refl
    by_name (Some name) = bad_name_alike old new n name alike room small

-- what a stage that refuses nothing says

pub profile_bits : (file : List ℕ) → profile_refusal file ≡ None → cluster_bits_of file ≡ 16
unfolding profile_refusal
profile_bits file none =
    let each = first-none (refused_where (not (eqb (cluster_bits_of file) 16)) ClusterBits
    ∷ refused_where (not (eqb (refcount_order_of file) 4)) RefcountOrder
    ∷ refused_where (not (eqb (incompatible_of file) 0)) (Feature (trailing_zeros w64 (incompatible_of file)))
    ∷ refused_where (not (eqb (crypt_method_of file) 0)) Crypt
    ∷ refused_where (not (eqb (nb_snapshots_of file) 0)) Snapshots ∷ []) none in
    eqb-true (cluster_bits_of file) 16 (not-false (eqb (cluster_bits_of file) 16) (refused_where-none (not (eqb (cluster_bits_of file) 16)) ClusterBits each.0))

area_by_name : (file : List ℕ) (c : ℕ) (name : Option Place) → option_map_or (is_bad_name file) name false ≡ false → cluster_size (cluster_bits_of file) ≡ c
    → option_map_or (λ (place : Place). place.at) name c ≤ c
area_by_name file c None good size = omega arith
area_by_name file c (Some name) good size =
    let fits = or_parts (ltb 1023 name.len || ltb name.at (header_length_of file) || ltb (cluster_size (cluster_bits_of file)) (name.at + name.len)) (not (is_utf8 (place_bytes file name.at name.len))) good in
    let inside = or_parts (ltb 1023 name.len || ltb name.at (header_length_of file)) (ltb (cluster_size (cluster_bits_of file)) (name.at + name.len)) fits.0 in
    let below = ltb-false (cluster_size (cluster_bits_of file)) (name.at + name.len) inside.1 in
    omega (arith, below, size)

pub name_area : (file : List ℕ) → name_refusal file ≡ None → area_end file ≤ cluster_size (cluster_bits_of file)
unfolding name_refusal
name_area file none =
    area_by_name file (cluster_size (cluster_bits_of file)) (name_place_of file) (refused_where-none (option_map_or (is_bad_name file) (name_place_of file) false) BackingName none) refl

extension_alike : (old new : List ℕ) (n : ℕ) → ReadsAlike old new 0 n → 104 ≤ n → area_end old ≤ n → extension_refusal new ≡ extension_refusal old
unfolding extension_refusal
extension_alike old new n alike room within =
    let bits = number_at-within old new 0 n 20 4 alike (omega arith) (omega arith) in
    let header_length = number_at-within old new 0 n 100 4 alike (omega arith) (omega arith) in
    let list = list_of_alike old new n alike room within in
    rw (bits, header_length, list) refl

-- the first refusal is one where the later ones are alike whenever it isn't
first_after : {R : Type 0} (o : Option R) (xs ys : List (Option R)) → (o ≡ None → first xs ≡ first ys) → first (o ∷ xs) ≡ first (o ∷ ys)
first_after None xs ys h = h refl
first_after (Some r) xs ys h = refl

-- the header's refusal is read from the first 64 KiB
pub header_refusal_alike : (old new : List ℕ) (len : ℕ) → ReadsAlike old new 0 65536 → header_refusal new len ≡ header_refusal old len
unfolding header_refusal
header_refusal_alike old new len alike =
    let format = format_alike old new 65536 len alike (omega arith) in
    let profile = profile_alike old new 65536 alike (omega arith) in
    let size = size_alike old new 65536 len alike (omega arith) in
    rw (format, profile, size)
    (first_after (refused_where (ltb len 104) Short) (format_refusal old len ∷ profile_refusal old ∷ name_refusal new ∷ extension_refusal new ∷ size_refusal old len ∷ []) (format_refusal old len ∷ profile_refusal old ∷ name_refusal old ∷ extension_refusal old ∷ size_refusal old len ∷ []) (λ _.
    first_after (format_refusal old len) (profile_refusal old ∷ name_refusal new ∷ extension_refusal new ∷ size_refusal old len ∷ []) (profile_refusal old ∷ name_refusal old ∷ extension_refusal old ∷ size_refusal old len ∷ []) (λ _.
    first_after (profile_refusal old) (name_refusal new ∷ extension_refusal new ∷ size_refusal old len ∷ []) (name_refusal old ∷ extension_refusal old ∷ size_refusal old len ∷ []) (λ supported.
    let bits = profile_bits old supported in
    let small : cluster_size (cluster_bits_of old) ≤ 65536 = rw bits (omega arith) in
    let name = name_refusal_alike old new 65536 alike (omega arith) small in
    rw name (first_after (name_refusal old) (extension_refusal new ∷ size_refusal old len ∷ []) (extension_refusal old ∷ size_refusal old len ∷ []) (λ named.
    let area = name_area old named in
    let extension = extension_alike old new 65536 alike (omega arith) (omega (arith, area, small)) in
    rw extension refl))))))

-- A longer file.

format_longer : (file : List ℕ) (len longer : ℕ) → len ≤ longer → format_refusal file len ≡ None → format_refusal file longer ≡ None
unfolding format_refusal
format_longer file len longer grows none =
    let each = first-none (refused_where (not (eqb (magic_of file) 0x514649fb)) Magic
    ∷ refused_where (not (eqb (version_of file) 3)) Version
    ∷ refused_where (ltb (header_length_of file) 104 || ltb len (header_length_of file)) Short ∷ []) none in
    let test = or_parts (ltb (header_length_of file) 104) (ltb len (header_length_of file)) (refused_where-none (ltb (header_length_of file) 104 || ltb len (header_length_of file)) Short each.1.1.0) in
    let inside = le-ltb longer (header_length_of file) (omega (arith, ltb-false len (header_length_of file) test.1)) in
    let shorter = test.0 in
    rw (each.0, each.1.0, shorter, inside) refl

size_longer : (file : List ℕ) (len longer : ℕ) → clusters_for (cluster_size (cluster_bits_of file)) longer ≤ 8388608 → size_refusal file len ≡ None → size_refusal file longer ≡ None
unfolding size_refusal
size_longer file len longer small none =
    let c : ℕ = cluster_size (cluster_bits_of file) in
    let each = first-none (refused_where (ltb 274877906944 (size_of file)) TooLarge
    ∷ refused_where (ltb 4194304 (clusters_for c (size_of file))) TooLarge
    ∷ refused_where (ltb 8388608 (clusters_for c len)) TooLarge
    ∷ refused_where (ltb 1024 (l1_size_of file)) TooLarge
    ∷ refused_where (ltb 16 (refcount_table_clusters_of file)) TooLarge ∷ []) none in
    let clusters = le-ltb 8388608 (clusters_for c longer) small in
    rw (each.0, each.1.0, clusters, each.1.1.1.0, each.1.1.1.1.0) refl

-- a header that is accepted is accepted in a longer file within the limit
pub header_longer : (file : List ℕ) (len longer : ℕ) → len ≤ longer → longer ≤ 549755813888 → header_refusal file len ≡ None → header_refusal file longer ≡ None
unfolding header_refusal
header_longer file len longer grows small none =
    let each = first-none (refused_where (ltb len 104) Short ∷ format_refusal file len ∷ profile_refusal file ∷ name_refusal file ∷ extension_refusal file ∷ size_refusal file len ∷ []) none in
    let long = ltb-false len 104 (refused_where-none (ltb len 104) Short each.0) in
    let there = le-ltb longer 104 (omega (arith, long)) in
    let bits = profile_bits file each.1.1.0 in
    let clusters : clusters_for (cluster_size (cluster_bits_of file)) longer ≤ 8388608 = rw bits (omega arith) in
    let format = format_longer file len longer grows each.1.0 in
    let size = size_longer file len longer clusters each.1.1.1.1.1.0 in
    rw (there, format, each.1.1.0, each.1.1.1.0, each.1.1.1.1.0, size) refl
