-- The header cluster of a created image is read back as what it was made from.
use Rattle.std.proofs.Common.{◌≡◌, ℕ, ◌+◌, ◌*◌, ◌/◌, ◌≤◌, true, false, eqb, List, length, Option, None, Some, refl, ◌∙◌, arith}
use Rattle.std.specs.Option.{option_map_or, ForSome}
use Rattle.std.specs.Str.{IsUtf8}
use Rattle.std.proofs.lemmas.Bool.{ne_eqb, le-ltb}
use Rattle.std.proofs.lemmas.Str.{is_utf8-from_IsUtf8}
use Rattle.q2_format.specs.Sizes.{clusters_for}
use Rattle.q2_format.specs.Header.{name_place_of, area_end, extension_after, format_after, extensions_from, extensions_of, header_of, header_refusal, format_refusal, profile_refusal, name_refusal, extension_refusal, size_refusal, is_bad_name}
use Rattle.q2_format.specs.Created.{creation_of, created_l1_size, created_table_clusters, created_end_extension, created_header, AreZeros, HasCreatedFields, HasCreatedExtensions, HasCreatedHeader, IsNewName, IsNewFormat}
use Rattle.q2_format.specs.declared.header.Place.{Place}
use Rattle.q2_format.proofs.Creating.{zero_number, one_table_cluster}
use Rattle.q2_format.proofs.Extending.{extensions_ended, extensions_next}

-- where the name is

name_read : (file : List ℕ) (size : ℕ) (name format : Option (List ℕ)) → HasCreatedFields (creation_of size name format) file
    → ForSome name IsNewName → name_place_of file ≡ (created_header (creation_of size name format)).name
unfolding name_place_of
name_read file size None format fields new = let offset = fields.name_offset in rw offset refl
name_read file size (Some name) format fields new =
    let offset = fields.name_offset in
    let len = fields.name_length in
    let some : eqb (length name) 0 ≡ false = ne_eqb (length name) 0 (λ e. omega (arith, (new name refl).0)) in
    rw (offset, len, some) refl

-- the ending extension, among zeros
ending_read : (file : List ℕ) (at end : ℕ) (format : Option Place) → AreZeros file at 32768 → at + 8 ≤ 32768 → 32768 ≤ end
    → extensions_from file at end format ≡ record { overruns = false; format = format; end = at + 8; ended = true }
ending_read file at end format zeros_there room far =
    let kind = zero_number file at 32768 at 4 zeros_there (omega arith) (omega arith) in
    let len = zero_number file at 32768 (at + 4) 4 zeros_there (omega arith) (omega arith) in
    extensions_ended file at end format (omega arith) (omega (arith, len)) kind

list_read : (file : List ℕ) (size end : ℕ) (name format : Option (List ℕ)) → HasCreatedExtensions (creation_of size name format) file
    → ForSome format IsNewFormat → 32768 ≤ end
    → extensions_from file 112 end None ≡ record { overruns = false; format = (created_header (creation_of size name format)).format; end = created_end_extension (creation_of size name format) + 8; ended = true }
list_read file size end name None extensions new far = ending_read file 112 end None extensions.ending (omega arith) far
list_read file size end name (Some format) extensions new far =
    let fits = new format refl in
    let kind = extensions.format.kind in
    let len = extensions.format.length_field in
    let next = extensions_next file 112 end None (omega arith) (omega (arith, len, fits)) (λ e. omega (arith, kind, e)) in
    let found : format_after file 112 None ≡ Some (record { at = 120; len = length format }) = rw (kind, len) refl in
    let after : extension_after file 112 ≡ 120 + (length format + 7) / 8 * 8 = omega (arith, len) in
    let rest = ending_read file (120 + (length format + 7) / 8 * 8) end (Some (record { at = 120; len = length format })) extensions.ending (omega (arith, fits)) far in
    rw (found, after) at next ∙ rest

module _ (file : List ℕ) (size : ℕ) (name format : Option (List ℕ)) (header : HasCreatedHeader (creation_of size name format) file)
    (new_name : ForSome name IsNewName) (new_format : ForSome format IsNewFormat) where
  created_name_read : name_place_of file ≡ (created_header (creation_of size name format)).name
  created_name_read = name_read file size name format header.fields new_name

  area_read : area_end file ≡ option_map_or (λ (place : Place). place.at) (created_header (creation_of size name format)).name 65536
  area_read =
      let bits = header.fields.cluster_bits in
      let place = created_name_read in
      rw (place, bits) refl

  far_enough : 32768 ≤ area_end file
  far_enough = rw area_read (far name)
    where
      far : (name : Option (List ℕ)) → 32768 ≤ option_map_or (λ (place : Place). place.at) (created_header (creation_of size name format)).name 65536
      far None = omega arith
      far (Some text) = omega arith

  created_list_read : extensions_of file ≡ record { overruns = false; format = (created_header (creation_of size name format)).format; end = created_end_extension (creation_of size name format) + 8; ended = true }
  unfolding extensions_of
  created_list_read =
      let at = header.fields.header_length in
      rw at (list_read file size (area_end file) name format header.extensions new_format far_enough)

  pub header_read : header_of file ≡ created_header (creation_of size name format)
  unfolding header_of
  header_read =
      let f : HasCreatedFields (creation_of size name format) file = header.fields in
      let place = created_name_read in
      let list = created_list_read in
      rw (f.size, f.cluster_bits, f.l1_size, f.l1_offset, f.refcount_table_offset, f.refcount_table_clusters, f.refcount_order, f.header_length, f.nb_snapshots, f.snapshots_offset, f.compatible, f.autoclear, place, list) refl

-- nothing is refused of it

name_fits : (file : List ℕ) (size : ℕ) (name format : Option (List ℕ)) → HasCreatedHeader (creation_of size name format) file
    → ForSome name IsNewName → ForSome name IsUtf8
    → option_map_or (is_bad_name file) (created_header (creation_of size name format)).name false ≡ false
name_fits file size None format header new text = refl
name_fits file size (Some name) format header new text =
    let short = le-ltb 1023 (length name) (new name refl).1 in
    let at = header.fields.header_length in
    let bits = header.fields.cluster_bits in
    let inside = le-ltb 65536 (32768 + length name) (omega (arith, (new name refl).1)) in
    let stands = header.name.text in
    let utf8 = is_utf8-from_IsUtf8 name (text name refl) in
    rw (short, at, bits, inside, stands, utf8) refl

module _ (file : List ℕ) (size len : ℕ) (name format : Option (List ℕ)) (header : HasCreatedHeader (creation_of size name format) file)
    (new_name : ForSome name IsNewName) (text : ForSome name IsUtf8) (new_format : ForSome format IsNewFormat)
    (small : size ≤ 274877906944) (long : 112 ≤ len) (short : len ≤ 549755813888) where
  no_format_refusal : format_refusal file len ≡ None
  unfolding format_refusal
  no_format_refusal =
      let f : HasCreatedFields (creation_of size name format) file = header.fields in
      let within = le-ltb len 112 long in
      rw (f.magic, f.version, f.header_length, within) refl

  no_profile_refusal : profile_refusal file ≡ None
  unfolding profile_refusal
  no_profile_refusal =
      let f : HasCreatedFields (creation_of size name format) file = header.fields in
      rw (f.cluster_bits, f.refcount_order, f.incompatible, f.crypt_method, f.nb_snapshots) refl

  no_name_refusal : name_refusal file ≡ None
  unfolding name_refusal
  no_name_refusal =
      let place = created_name_read file size name format header new_name new_format in
      let fits = name_fits file size name format header new_name text in
      rw (place, fits) refl

  no_extension_refusal : extension_refusal file ≡ None
  unfolding extension_refusal
  no_extension_refusal =
      let f : HasCreatedFields (creation_of size name format) file = header.fields in
      let list = created_list_read file size name format header new_name new_format in
      rw (f.cluster_bits, f.header_length, list) refl

  no_size_refusal : size_refusal file len ≡ None
  unfolding size_refusal
  no_size_refusal =
      let f : HasCreatedFields (creation_of size name format) file = header.fields in
      let disk = le-ltb 274877906944 size small in
      let guest = le-ltb 4194304 (clusters_for 65536 size) (omega arith) in
      let clusters = le-ltb 8388608 (clusters_for 65536 len) (omega arith) in
      let l1 = le-ltb 1024 (created_l1_size (creation_of size name format)) (omega arith) in
      let one = one_table_cluster size name format small in
      let table = le-ltb 16 (created_table_clusters (creation_of size name format)) (omega (arith, one)) in
      rw (f.cluster_bits, f.size, f.l1_size, f.refcount_table_clusters, disk, guest, clusters, l1, table) refl

  pub created_header_accepted : header_refusal file len ≡ None
  unfolding header_refusal
  created_header_accepted =
      let there = le-ltb len 104 (omega arith) in
      rw (there, no_format_refusal, no_profile_refusal, no_name_refusal, no_extension_refusal, no_size_refusal) refl
