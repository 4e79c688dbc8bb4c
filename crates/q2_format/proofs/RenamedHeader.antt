-- A header whose name and extensions may have changed, and nothing else: what it says, and that it is accepted.
use Rattle.std.proofs.Common.{◌≡◌, ℕ, ◌+◌, ◌≤◌, true, false, ltb, List, [], ◌∷◌, Option, Some, None, refl, ◌∙◌, arith}
use Rattle.std.proofs.lemmas.Bool.{le-ltb}
use Rattle.std.specs.Str.{is_utf8}
use Rattle.q2_format.specs.Bytes.{number_at, place_bytes, ReadsAlike}
use Rattle.q2_format.specs.Sizes.{cluster_size}
use Rattle.q2_format.specs.Header.{name_place_of, header_length_of, cluster_bits_of, extensions_of, header_of, refused_where, header_refusal, format_refusal, profile_refusal, name_refusal, extension_refusal, size_refusal}
use Rattle.q2_format.specs.declared.header.Place.{Place}
use Rattle.q2_format.specs.declared.header.HeaderStop.TheVariants.{Short, Extension}
use Rattle.q2_format.specs.declared.extensions.ExtensionList.{ExtensionList}
use Rattle.q2_format.proofs.ByPlace.{number_at-within}
use Rattle.q2_format.proofs.Firsts.{first-none, refused_where-none}
use Rattle.q2_format.proofs.HeaderCluster.{with_naming}

module _ (old new : List ℕ) (front : ReadsAlike old new 0 8) (fields : ReadsAlike old new 20 84) where
  before : (at n : ℕ) → at + n ≤ 8 → number_at new at n ≡ number_at old at n
  before at n h = number_at-within old new 0 8 at n front (omega arith) (omega arith)

  behind : (at n : ℕ) → 20 ≤ at → at + n ≤ 104 → number_at new at n ≡ number_at old at n
  behind at n low high = number_at-within old new 20 84 at n fields low (omega arith)

  pub renamed_header : (name : Option Place) (list : ExtensionList) → name_place_of new ≡ name → extensions_of new ≡ list
      → header_of new ≡ with_naming (header_of old) name list.format list.end list.ended
  unfolding header_of
  renamed_header name list name_is list_is =
      let size = behind 24 8 (omega arith) (omega arith) in
      let bits = behind 20 4 (omega arith) (omega arith) in
      let l1_size = behind 36 4 (omega arith) (omega arith) in
      let l1_offset = behind 40 8 (omega arith) (omega arith) in
      let ref_offset = behind 48 8 (omega arith) (omega arith) in
      let ref_clusters = behind 56 4 (omega arith) (omega arith) in
      let order = behind 96 4 (omega arith) (omega arith) in
      let header_length = behind 100 4 (omega arith) (omega arith) in
      let nb_snaps = behind 60 4 (omega arith) (omega arith) in
      let snaps_offset = behind 64 8 (omega arith) (omega arith) in
      let compat = behind 80 8 (omega arith) (omega arith) in
      let autoclear = behind 88 8 (omega arith) (omega arith) in
      rw (size, bits, l1_size, l1_offset, ref_offset, ref_clusters, order, header_length, nb_snaps, snaps_offset, compat, autoclear, name_is, list_is) refl

  format_stays : (len : ℕ) → format_refusal new len ≡ format_refusal old len
  unfolding format_refusal
  format_stays len =
      let magic = before 0 4 (omega arith) in
      let version = before 4 4 (omega arith) in
      let header_length = behind 100 4 (omega arith) (omega arith) in
      rw (magic, version, header_length) refl

  profile_stays : profile_refusal new ≡ profile_refusal old
  unfolding profile_refusal
  profile_stays =
      let bits = behind 20 4 (omega arith) (omega arith) in
      let order = behind 96 4 (omega arith) (omega arith) in
      let incompatible = behind 72 8 (omega arith) (omega arith) in
      let crypt = behind 32 4 (omega arith) (omega arith) in
      let snapshots = behind 60 4 (omega arith) (omega arith) in
      rw (bits, order, incompatible, crypt, snapshots) refl

  size_stays : (len : ℕ) → size_refusal new len ≡ size_refusal old len
  unfolding size_refusal
  size_stays len =
      let bits = behind 20 4 (omega arith) (omega arith) in
      let size = behind 24 8 (omega arith) (omega arith) in
      let l1 = behind 36 4 (omega arith) (omega arith) in
      let table = behind 56 4 (omega arith) (omega arith) in
      rw (bits, size, l1, table) refl

  extension_none : extension_refusal old ≡ None → (extensions_of new).overruns ≡ false → extension_refusal new ≡ None
  unfolding extension_refusal
  extension_none none whole =
      let bits = behind 20 4 (omega arith) (omega arith) in
      let header_length = behind 100 4 (omega arith) (omega arith) in
      let each = first-none (refused_where (ltb (cluster_size (cluster_bits_of old)) (header_length_of old)) Extension ∷ refused_where (extensions_of old).overruns Extension ∷ []) none in
      let within = refused_where-none (ltb (cluster_size (cluster_bits_of old)) (header_length_of old)) Extension each.0 in
      rw (bits, header_length, within, whole) refl

  -- such a header is accepted where its name and its list are
  pub renamed_refusal : (len : ℕ) → header_refusal old len ≡ None → name_refusal new ≡ None → (extensions_of new).overruns ≡ false → header_refusal new len ≡ None
  unfolding header_refusal
  renamed_refusal len none named whole =
      let each = first-none (refused_where (ltb len 104) Short ∷ format_refusal old len ∷ profile_refusal old ∷ name_refusal old ∷ extension_refusal old ∷ size_refusal old len ∷ []) none in
      let format = format_stays len ∙ each.1.0 in
      let profile = profile_stays ∙ each.1.1.0 in
      let extension = extension_none each.1.1.1.1.0 whole in
      let size = size_stays len ∙ each.1.1.1.1.1.0 in
      rw (each.0, format, profile, named, extension, size) refl

-- a name that may stand where it does
pub name_accepted : (file : List ℕ) (name : Place) → name_place_of file ≡ Some name → name.len ≤ 1023 → header_length_of file ≤ name.at
    → name.at + name.len ≤ cluster_size (cluster_bits_of file) → is_utf8 (place_bytes file name.at name.len) ≡ true → name_refusal file ≡ None
unfolding name_refusal
name_accepted file name is short behind_header in_cluster text =
    let long = le-ltb 1023 name.len short in
    let low = le-ltb name.at (header_length_of file) behind_header in
    let high = le-ltb (cluster_size (cluster_bits_of file)) (name.at + name.len) in_cluster in
    rw (is, long, low, high, text) refl

-- and none
pub no_name_accepted : (file : List ℕ) → name_place_of file ≡ None → name_refusal file ≡ None
unfolding name_refusal
no_name_accepted file is = rw is refl
