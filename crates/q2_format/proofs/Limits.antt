-- What every header that is accepted keeps within.
use Rattle.std.proofs.Common.{◌≡◌, ℕ, zero, suc, ◌+◌, ◌≤◌, inl, inr, Bool, true, false, not, ◌||◌, cond, eqb, ltb, List, [], ◌∷◌, Option, None, Some, subst, arith}
use Rattle.std.specs.Option.{option_map_or, IfSome}
use Rattle.std.specs.Int.{trailing_zeros, w64}
use Rattle.std.specs.Str.{is_utf8}
use Rattle.std.proofs.lemmas.Bool.{cases_lt, cases_eq, lt-ltb, le-ltb, eq-eqb, ne_eqb, ltb-false, or_parts, eqb-true, not-false}
use Rattle.q2_format.specs.Bytes.{place_bytes}
use Rattle.q2_format.specs.Sizes.{cluster_size, clusters_for}
use Rattle.q2_format.specs.Header.{refused_where, name_place_of, area_end, cluster_bits_of, header_length_of, refcount_order_of, incompatible_of, crypt_method_of, nb_snapshots_of, magic_of, version_of, size_of, l1_size_of, refcount_table_clusters_of, extension_type, extension_length, extension_after, format_after, extension_list, extensions_from, extensions_of, header_of, header_refusal, format_refusal, profile_refusal, name_refusal, extension_refusal, size_refusal, is_bad_name, LiesWithin, IsWithinLimits, CanBeRead}
use Rattle.q2_format.specs.declared.header.Header.{Header}
use Rattle.q2_format.specs.declared.header.Place.{Place}
use Rattle.q2_format.specs.declared.header.HeaderStop.TheVariants.{Short, Magic, Version, ClusterBits, RefcountOrder, Feature, Crypt, Snapshots, BackingName, Extension, TooLarge}
use Rattle.q2_format.specs.declared.extensions.TheConstants.{BACKING_FORMAT}
use Rattle.q2_format.proofs.Firsts.{first-none, refused_where-none}
use Rattle.q2_format.proofs.HeaderFrames.{name_area}

-- the list ends within its area
list_end : (steps : ℕ) (file : List ℕ) (at end : ℕ) (format : Option Place) → (extension_list steps file at end format).end ≤ end
unfolding extension_list
list_end zero file at end format = omega arith
list_end (suc steps) file at end format = elim (cases_lt end (at + 8)) [
  | inl short ↦ let test = lt-ltb end (at + 8) short in rw test (omega arith)
  | inr room ↦
      let long = le-ltb end (at + 8) room in
      elim (cases_lt end (at + 8 + extension_length file at)) [
        | inl past ↦ let test = lt-ltb end (at + 8 + extension_length file at) past in rw (long, test) (omega arith)
        | inr fits ↦
            let test = le-ltb end (at + 8 + extension_length file at) fits in
            elim (cases_eq (extension_type file at) 0) [
              | inl last ↦ let kind = eq-eqb (extension_type file at) 0 last in rw (long, test, kind) room
              | inr more ↦
                  let kind = ne_eqb (extension_type file at) 0 more in
                  rw (long, test, kind) (list_end steps file (extension_after file at) end (format_after file at format))
            ]
      ]
]

format_within : (file : List ℕ) (low at end : ℕ) (format : Option Place) (names : Bool) → low ≤ at → at + 8 + extension_length file at ≤ end
    → IfSome format (LiesWithin low end) → IfSome (cond names (Some (record { at = at + 8; len = extension_length file at })) format) (LiesWithin low end)
format_within file low at end format true above fits found = record { begins = omega arith; ends = fits }
format_within file low at end format false above fits found = found

-- and so does the backing format that it has
list_format : (steps : ℕ) (file : List ℕ) (low at end : ℕ) (format : Option Place) → low ≤ at → IfSome format (LiesWithin low end)
    → IfSome (extension_list steps file at end format).format (LiesWithin low end)
unfolding extension_list
list_format zero file low at end format above found = found
list_format (suc steps) file low at end format above found = elim (cases_lt end (at + 8)) [
  | inl short ↦ let test = lt-ltb end (at + 8) short in rw test found
  | inr room ↦
      let long = le-ltb end (at + 8) room in
      elim (cases_lt end (at + 8 + extension_length file at)) [
        | inl past ↦ let test = lt-ltb end (at + 8 + extension_length file at) past in rw (long, test) found
        | inr fits ↦
            let test = le-ltb end (at + 8 + extension_length file at) fits in
            elim (cases_eq (extension_type file at) 0) [
              | inl last ↦ let kind = eq-eqb (extension_type file at) 0 last in rw (long, test, kind) found
              | inr more ↦
                  let kind = ne_eqb (extension_type file at) 0 more in
                  let next = format_within file low at end format (eqb (extension_type file at) BACKING_FORMAT) above fits found in
                  rw (long, test, kind) (list_format steps file low (extension_after file at) end (format_after file at format) (omega arith) next)
            ]
      ]
]

-- the name lies behind the header, in its cluster
name_within : (file : List ℕ) (name : Option Place) → option_map_or (is_bad_name file) name false ≡ false
    → IfSome name (λ place. LiesWithin (header_length_of file) (cluster_size (cluster_bits_of file)) place × (place.len ≤ 1023))
name_within file None good = tt
name_within file (Some name) good =
    let fits = or_parts (ltb 1023 name.len || ltb name.at (header_length_of file) || ltb (cluster_size (cluster_bits_of file)) (name.at + name.len)) (not (is_utf8 (place_bytes file name.at name.len))) good in
    let inside = or_parts (ltb 1023 name.len || ltb name.at (header_length_of file)) (ltb (cluster_size (cluster_bits_of file)) (name.at + name.len)) fits.0 in
    let behind = or_parts (ltb 1023 name.len) (ltb name.at (header_length_of file)) inside.0 in (
      record {
        begins = ltb-false name.at (header_length_of file) behind.1;
        ends = ltb-false (cluster_size (cluster_bits_of file)) (name.at + name.len) inside.1;
      },
      ltb-false 1023 name.len behind.0,
    )

wider : (from to far : ℕ) (place : Option Place) → to ≤ far → IfSome place (LiesWithin from to) → IfSome place (LiesWithin from far)
wider from to far None h found = tt
wider from to far (Some place) h found = record { begins = found.begins; ends = omega (arith, found.ends) }

-- Each stage, where it refuses nothing.

at_most : (limit n : ℕ) → refused_where (ltb limit n) TooLarge ≡ None → n ≤ limit
at_most limit n none = ltb-false limit n (refused_where-none (ltb limit n) TooLarge none)

is_number : {R : Type 0} (n m : ℕ) (r : R) → refused_where (not (eqb n m)) r ≡ None → n ≡ m
is_number n m r none = eqb-true n m (not-false (eqb n m) (refused_where-none (not (eqb n m)) r none))

pub within_limits : (file : List ℕ) (len : ℕ) → header_refusal file len ≡ None → IsWithinLimits (header_of file) len
unfolding header_refusal format_refusal profile_refusal name_refusal extension_refusal size_refusal header_of extensions_of extensions_from
within_limits file len none =
    let c : ℕ = cluster_size (cluster_bits_of file) in
    let stages = first-none (refused_where (ltb len 104) Short ∷ format_refusal file len ∷ profile_refusal file ∷ name_refusal file ∷ extension_refusal file ∷ size_refusal file len ∷ []) none in
    let format = first-none (refused_where (not (eqb (magic_of file) 0x514649fb)) Magic
    ∷ refused_where (not (eqb (version_of file) 3)) Version
    ∷ refused_where (ltb (header_length_of file) 104 || ltb len (header_length_of file)) Short ∷ []) stages.1.0 in
    let profile = first-none (refused_where (not (eqb (cluster_bits_of file) 16)) ClusterBits
    ∷ refused_where (not (eqb (refcount_order_of file) 4)) RefcountOrder
    ∷ refused_where (not (eqb (incompatible_of file) 0)) (Feature (trailing_zeros w64 (incompatible_of file)))
    ∷ refused_where (not (eqb (crypt_method_of file) 0)) Crypt
    ∷ refused_where (not (eqb (nb_snapshots_of file) 0)) Snapshots ∷ []) stages.1.1.0 in
    let name = name_within file (name_place_of file) (refused_where-none (option_map_or (is_bad_name file) (name_place_of file) false) BackingName stages.1.1.1.0) in
    let extensions = first-none (refused_where (ltb c (header_length_of file)) Extension ∷ refused_where (extensions_of file).overruns Extension ∷ []) stages.1.1.1.1.0 in
    let sizes = first-none (refused_where (ltb 274877906944 (size_of file)) TooLarge
    ∷ refused_where (ltb 4194304 (clusters_for c (size_of file))) TooLarge
    ∷ refused_where (ltb 8388608 (clusters_for c len)) TooLarge
    ∷ refused_where (ltb 1024 (l1_size_of file)) TooLarge
    ∷ refused_where (ltb 16 (refcount_table_clusters_of file)) TooLarge ∷ []) stages.1.1.1.1.1.0 in
    let header = or_parts (ltb (header_length_of file) 104) (ltb len (header_length_of file)) (refused_where-none (ltb (header_length_of file) 104 || ltb len (header_length_of file)) Short format.1.1.0) in
    let area = name_area file stages.1.1.1.0 in
    let list = list_end (area_end file) file (header_length_of file) (area_end file) None in
    let found = list_format (area_end file) file (header_length_of file) (header_length_of file) (area_end file) None (omega arith) tt in
    record {
      cluster_bits = is_number (cluster_bits_of file) 16 ClusterBits profile.0;
      refcount_order = is_number (refcount_order_of file) 4 RefcountOrder profile.1.0;
      header_whole = ltb-false (header_length_of file) 104 header.0;
      header_in_file = ltb-false len (header_length_of file) header.1;
      header_in_cluster = ltb-false c (header_length_of file) (refused_where-none (ltb c (header_length_of file)) Extension extensions.0);
      no_snapshots = is_number (nb_snapshots_of file) 0 Snapshots profile.1.1.1.1.0;
      name = name;
      format = wider (header_length_of file) (area_end file) c (extensions_of file).format area found;
      list = omega (arith, list, area);
      disk = at_most 274877906944 (size_of file) sizes.0;
      guest_clusters = at_most 4194304 (clusters_for c (size_of file)) sizes.1.0;
      file_clusters = at_most 8388608 (clusters_for c len) sizes.1.1.0;
      l1_size = at_most 1024 (l1_size_of file) sizes.1.1.1.0;
      refcount_table = at_most 16 (refcount_table_clusters_of file) sizes.1.1.1.1.0;
    }

-- so does every header that can be read
pub read_within : (h : Header) (len : ℕ) → CanBeRead h len → IsWithinLimits h len
read_within h len r = subst (λ (x : Header). IsWithinLimits x len) r.2 (within_limits r.0 len r.1)
