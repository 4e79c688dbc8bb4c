-- Where the autoclear field alone is written, as 0: the header is as before but for the field, a sound file stays sound, and the guest's
-- bytes stay. No table and no cluster of the guest begins in the header's cluster, so none has a byte of the field.
use Rattle.std.proofs.Common.{◌≡◌, ◌≢◌, ℕ, zero, suc, ◌+◌, ◌-◌, ◌*◌, ◌/◌, ◌%◌, ◌<◌, ◌≤◌, ◌⊎◌, inl, inr, Bool, true, false, not, ◌&&◌, cond, eqb, ltb, List, length, replicate, get_or, Option, None, Some, IfSome, refl, sym, ap, subst, ◌∙◌, arith}
use Rattle.std.specs.Option.{option_map_or}
use Rattle.std.proofs.lemmas.Bool.{cases_eq, eq-eqb, ne_eqb, eqb-false}
use Rattle.std.proofs.lemmas.Bool.Decides.{nat_tests}
use Rattle.std.proofs.lemmas.List.{get_or-replicate}
use Rattle.q2_format.specs.Bytes.{number_at, ReadsAlike, IsWritten}
use Rattle.q2_format.specs.Sizes.{cluster_size, clusters_for, entries_in_cluster, block_entries, refcount_bytes}
use Rattle.q2_format.specs.Entry.{host_offset, block_offset, l2_entry, is_compressed, has_reserved_in_l2, reads_as_zeros}
use Rattle.q2_format.specs.Header.{LiesWithin, name_place_of, area_end, header_length_of, extension_after, format_after, extension_list, extensions_from, extensions_of, header_of, refused_where, header_refusal, format_refusal, profile_refusal, name_refusal, extension_refusal, size_refusal, is_bad_name}
use Rattle.q2_format.specs.Tables.{active_tree, l2_word_of, refcount_table, refcount_of}
use Rattle.q2_format.specs.Contents.{byte_by_entry, guest_byte}
use Rattle.q2_format.specs.References.{in_run, structure_uses, uses, cluster_bound}
use Rattle.q2_format.specs.Sound.{IsSound, bad_refcount_table, bad_l1_table, overlap, uncounted}
use Rattle.q2_format.specs.declared.header.Header.{Header}
use Rattle.q2_format.specs.declared.header.Place.{Place}
use Rattle.q2_format.specs.declared.header.HeaderStop.TheVariants.{BackingName}
use Rattle.q2_format.specs.declared.entries.L2Entry.{L2Entry}
use Rattle.q2_format.specs.declared.entries.L2Entry.TheVariants.{Unallocated, Zero, Host, Compressed, Reserved}
use Rattle.q2_format.proofs.ByPlace.{number_at-before, number_at-behind, number_at-zeros, bytes_at-alike}
use Rattle.q2_format.proofs.Consistent.{FindsNothing, sound_from_parts, sound_header, sound_tables, sound_is_consistent}
use Rattle.q2_format.proofs.Firsts.{lowest_alike}
use Rattle.q2_format.proofs.Frames.{words_at-alike}
use Rattle.q2_format.proofs.Limits.{within_limits}
use Rattle.q2_format.proofs.TreeFrames.{tree_at-alike}

-- the same header with its autoclear field 0
abbrev pub without_autoclear : Header → Header
without_autoclear h = record h { autoclear = 0 }

-- A file as it was, but for the field.
module _ (old new : List ℕ) (written : IsWritten old new 88 (replicate 8 0)) where
  before : (at n : ℕ) → at + n ≤ 88 → number_at new at n ≡ number_at old at n
  before at n h = number_at-before old new 88 (replicate 8 0) written at n h

  behind : (at n : ℕ) → 96 ≤ at → number_at new at n ≡ number_at old at n
  behind at n h = number_at-behind old new 88 (replicate 8 0) written at n h

  alike_behind : (at n : ℕ) → 96 ≤ at → ReadsAlike old new at n
  alike_behind at n h = record { same = λ i low high. written.outside i (inr (omega arith)) }

  field : number_at new 88 8 ≡ 0
  field = number_at-zeros new 88 8 (λ i low high.
      let inside = written.inside (i - 88) (omega arith) in
      let place : 88 + (i - 88) ≡ i = omega arith in
      let byte = rw place at inside in
      byte ∙ get_or-replicate 8 (i - 88) 0 0 (omega arith))

  -- The header.

  name_stays : name_place_of new ≡ name_place_of old
  unfolding name_place_of
  name_stays =
      let offset = before 8 8 (omega arith) in
      let len = before 16 4 (omega arith) in
      rw (offset, len) refl

  area_stays : area_end new ≡ area_end old
  area_stays =
      let bits = before 20 4 (omega arith) in
      rw (name_stays, bits) refl

  list_stays : (steps at end : ℕ) (format : Option Place) → 96 ≤ at → extension_list steps new at end format ≡ extension_list steps old at end format
  unfolding extension_list
  list_stays zero at end format h = refl
  list_stays (suc steps) at end format h =
      let kind = behind at 4 h in
      let len = behind (at + 4) 4 (omega arith) in
      let rest = list_stays steps (extension_after old at) end (format_after old at format) (omega arith) in
      rw (kind, len, rest) refl

  extensions_stay : 104 ≤ header_length_of old → extensions_of new ≡ extensions_of old
  unfolding extensions_of extensions_from
  extensions_stay long =
      let at = behind 100 4 (omega arith) in
      rw (area_stays, at) (list_stays (area_end old) (header_length_of old) (area_end old) None (omega arith))

  header_long : (len : ℕ) → header_refusal old len ≡ None → 104 ≤ header_length_of old
  unfolding header_of
  header_long len none = (within_limits old len none).header_whole

  pub cleared_header : (len : ℕ) → header_refusal old len ≡ None → header_of new ≡ without_autoclear (header_of old)
  unfolding header_of
  cleared_header len none =
      let list = extensions_stay (header_long len none) in
      let size = before 24 8 (omega arith) in
      let bits = before 20 4 (omega arith) in
      let l1_size = before 36 4 (omega arith) in
      let l1_offset = before 40 8 (omega arith) in
      let ref_offset = before 48 8 (omega arith) in
      let ref_clusters = before 56 4 (omega arith) in
      let order = behind 96 4 (omega arith) in
      let header_length = behind 100 4 (omega arith) in
      let nb_snaps = before 60 4 (omega arith) in
      let snaps_offset = before 64 8 (omega arith) in
      let compat = before 80 8 (omega arith) in
      rw (size, bits, l1_size, l1_offset, ref_offset, ref_clusters, order, header_length, nb_snaps, snaps_offset, compat, field, name_stays, list) refl

  -- The header's refusal.

  format_stays : (len : ℕ) → format_refusal new len ≡ format_refusal old len
  unfolding format_refusal
  format_stays len =
      let magic = before 0 4 (omega arith) in
      let version = before 4 4 (omega arith) in
      let header_length = behind 100 4 (omega arith) in
      rw (magic, version, header_length) refl

  profile_stays : profile_refusal new ≡ profile_refusal old
  unfolding profile_refusal
  profile_stays =
      let bits = before 20 4 (omega arith) in
      let order = behind 96 4 (omega arith) in
      let incompatible = before 72 8 (omega arith) in
      let crypt = before 32 4 (omega arith) in
      let snapshots = before 60 4 (omega arith) in
      rw (bits, order, incompatible, crypt, snapshots) refl

  size_stays : (len : ℕ) → size_refusal new len ≡ size_refusal old len
  unfolding size_refusal
  size_stays len =
      let bits = before 20 4 (omega arith) in
      let size = before 24 8 (omega arith) in
      let l1 = before 36 4 (omega arith) in
      let table = before 56 4 (omega arith) in
      rw (bits, size, l1, table) refl

  -- a name that lies behind the header
  bad_name_stays : (from to limit : ℕ) (name : Option Place) → 96 ≤ from → IfSome name (λ place. LiesWithin from to place × (place.len ≤ limit))
      → option_map_or (is_bad_name new) name false ≡ option_map_or (is_bad_name old) name false
  bad_name_stays from to limit None low lies = refl
  bad_name_stays from to limit (Some name) low lies =
      let bits = before 20 4 (omega arith) in
      let header_length = behind 100 4 (omega arith) in
      let text = bytes_at-alike old new name.at name.len (alike_behind name.at name.len (omega (arith, lies.0.begins))) in
      rw (bits, header_length, text) refl

  name_refusal_stays : (len : ℕ) → header_refusal old len ≡ None → name_refusal new ≡ name_refusal old
  unfolding name_refusal header_of
  name_refusal_stays len none =
      let limits = within_limits old len none in
      let bad = bad_name_stays (header_length_of old) _ _ (name_place_of old) (omega (arith, limits.header_whole)) limits.name in
      rw name_stays (ap (λ (b : Bool). refused_where b BackingName) bad)

  extension_stays : 104 ≤ header_length_of old → extension_refusal new ≡ extension_refusal old
  unfolding extension_refusal
  extension_stays long =
      let bits = before 20 4 (omega arith) in
      let header_length = behind 100 4 (omega arith) in
      let list = extensions_stay long in
      rw (bits, header_length, list) refl

  pub cleared_refusal : (len : ℕ) → header_refusal old len ≡ None → header_refusal new len ≡ header_refusal old len
  unfolding header_refusal
  cleared_refusal len none =
      let format = format_stays len in
      let name = name_refusal_stays len none in
      let extension = extension_stays (header_long len none) in
      let size = size_stays len in
      rw (format, profile_stays, name, extension, size) refl

-- Cluster 0 is the header's alone, so no table begins in it.

run_behind : (n count : ℕ) → ◌≡◌ {A = ℕ} (cond (not (ltb 0 n) && ltb 0 (n + count)) 1 0) 0 → (0 < n) ⊎ (count ≡ 0)
run_behind n count none = elim (cases_eq count 0) [
  | inl empty ↦ inr empty
  | inr some ↦ inl (grind (arith, nat_tests))
]

offset_high : (n : ℕ) → n * 512 ≢ 0 → 96 ≤ n * 512
offset_high n some = omega (arith, some)

cluster_is : (file : List ℕ) → IsSound file → (header_of file).cluster_bits ≡ 16
cluster_is file sound = (within_limits file (length file) (sound_header file sound)).cluster_bits

table_behind : (file : List ℕ) → IsSound file → (96 ≤ (header_of file).ref_offset) ⊎ ((header_of file).ref_clusters ≡ 0)
unfolding uses structure_uses
table_behind file sound =
    let h : Header = header_of file in
    let bits = cluster_is file sound in
    let once = (sound_is_consistent file sound).once 0 in
    let none : in_run (cluster_size h.cluster_bits) 0 h.ref_offset h.ref_clusters ≡ 0 = omega (arith, once) in
    elim (run_behind (h.ref_offset / cluster_size h.cluster_bits) h.ref_clusters none) [
      | inl high ↦ inl (let low = rw bits at high in omega (arith, low))
      | inr empty ↦ inr empty
    ]

l1_behind : (file : List ℕ) → IsSound file → (96 ≤ (header_of file).l1_offset) ⊎ ((header_of file).l1_size ≡ 0)
unfolding uses structure_uses
l1_behind file sound =
    let h : Header = header_of file in
    let bits = cluster_is file sound in
    let once = (sound_is_consistent file sound).once 0 in
    let none : in_run (cluster_size h.cluster_bits) 0 h.l1_offset (clusters_for (cluster_size h.cluster_bits) (8 * h.l1_size)) ≡ 0 = omega (arith, once) in
    elim (run_behind (h.l1_offset / cluster_size h.cluster_bits) (clusters_for (cluster_size h.cluster_bits) (8 * h.l1_size)) none) [
      | inl high ↦ inl (let low = rw bits at high in omega (arith, low))
      | inr empty ↦ inr (let size = rw bits at empty in omega (arith, size))
    ]

-- a host cluster doesn't begin in the first sector
host_by_tests : (word host : ℕ) (a b z n : Bool) → eqb (host_offset word) 0 ≡ n
    → cond a Compressed (cond b Reserved (cond z (Zero (host_offset word)) (cond n Unallocated (Host (host_offset word))))) ≡ Host host → 96 ≤ host
host_by_tests word host true b z n test is = absurd (cc)
host_by_tests word host false true z n test is = absurd (cc)
host_by_tests word host false false true n test is = absurd (cc)
host_by_tests word host false false false true test is = absurd (cc)
host_by_tests word host false false false false test is =
    let same : host_offset word ≡ host = cc in
    rw (← same) (offset_high _ (eqb-false (host_offset word) 0 test))

host_high : (word host : ℕ) → l2_entry word ≡ Host host → 96 ≤ host
unfolding l2_entry
host_high word host is = host_by_tests word host (is_compressed word) (has_reserved_in_l2 word) (reads_as_zeros word) (eqb (host_offset word) 0) refl is

-- nothing that is looked at behind the header reads the field
field_unread : (file : List ℕ) (h : Header) (len : ℕ) → FindsNothing file h len → FindsNothing file (without_autoclear h) len
unfolding bad_refcount_table bad_l1_table refcount_table refcount_of overlap uncounted uses structure_uses
field_unread file h len nothing = record {
  refcount_table = nothing.refcount_table;
  l1_table = nothing.l1_table;
  blocks = nothing.blocks;
  l2_tables = nothing.l2_tables;
  hosts = nothing.hosts;
  l1_bits = nothing.l1_bits;
  refcount_table_bits = nothing.refcount_table_bits;
  l2_bits = nothing.l2_bits;
  compressed = nothing.compressed;
  overlaps = nothing.overlaps;
  counts = nothing.counts;
  room = nothing.room;
}

-- The tables and the refcounts.
module _ (old new : List ℕ) (written : IsWritten old new 88 (replicate 8 0)) (sound : IsSound old) where
  abbrev h : Header
  h = header_of old

  row_stays : (at n : ℕ) → (96 ≤ at) ⊎ (n ≡ 0) → ReadsAlike old new at n
  row_stays at n (inl high) = alike_behind old new written at n high
  row_stays at n (inr none) = record { same = λ i low high. absurd (omega (arith, none, low, high)) }

  pub cleared_table : refcount_table new h ≡ refcount_table old h
  unfolding refcount_table
  cleared_table =
      let e : ℕ = entries_in_cluster (cluster_size h.cluster_bits) in
      words_at-alike old new h.ref_offset (h.ref_clusters * e) (row_stays h.ref_offset (8 * (h.ref_clusters * e)) (elim (table_behind old sound) [
        | inl high ↦ inl high
        | inr none ↦ inr (ap (λ (n : ℕ). 8 * (n * e)) none ∙ omega arith)
      ]))

  pub cleared_tree : active_tree new h ≡ active_tree old h
  cleared_tree =
      let c : ℕ = cluster_size h.cluster_bits in
      let l1 = row_stays h.l1_offset (8 * h.l1_size) (elim (l1_behind old sound) [
        | inl high ↦ inl high
        | inr none ↦ inr (omega (arith, none))
      ]) in
      tree_at-alike old new c h.l1_offset h.l1_size (record {
        l1 = l1;
        l2 = λ i below other there. alike_behind old new written _ _ (offset_high _ there);
      })

  pub cleared_count : (cluster : ℕ) → refcount_of new h cluster ≡ refcount_of old h cluster
  unfolding refcount_of
  cleared_count cluster =
      let entries : ℕ = block_entries (cluster_size h.cluster_bits) h.refcount_order in
      let width : ℕ = refcount_bytes h.refcount_order in
      let block : ℕ = block_offset (get_or (refcount_table old h) (cluster / entries) 0) in
      elim (cases_eq block 0) [
        | inl none ↦ let test = eq-eqb block 0 none in rw (cleared_table, test) refl
        | inr some ↦
            let test = ne_eqb block 0 some in
            let high = offset_high _ some in
            let number = behind old new written (block + cluster % entries * width) width (omega (arith, high)) in
            rw (cleared_table, test, number) refl
      ]

  pub cleared_uses : (cluster : ℕ) → uses new h cluster ≡ uses old h cluster
  unfolding uses
  cleared_uses cluster = rw (cleared_table, cleared_tree) refl

  -- Soundness.

  no_overlap : (len : ℕ) → overlap old h len ≡ None → overlap new h len ≡ None
  unfolding overlap
  no_overlap len none =
      lowest_alike (λ k. ltb 1 (uses new h k)) (λ k. ltb 1 (uses old h k)) (cluster_bound h len) (λ k below. ap (ltb 1) (cleared_uses k)) ∙ none

  no_uncounted : (len : ℕ) → uncounted old h len ≡ None → uncounted new h len ≡ None
  unfolding uncounted
  no_uncounted len none =
      lowest_alike (λ k. not (eqb (uses new h k) 0) && eqb (refcount_of new h k) 0) (λ k. not (eqb (uses old h k) 0) && eqb (refcount_of old h k) 0) (cluster_bound h len)
      (λ k below. let used = cleared_uses k in let count = cleared_count k in rw (used, count) refl) ∙ none

  finds_nothing_too : (len : ℕ) → FindsNothing old h len → FindsNothing new h len
  finds_nothing_too len nothing = record {
    refcount_table = nothing.refcount_table;
    l1_table = nothing.l1_table;
    blocks = rw cleared_table nothing.blocks;
    l2_tables = rw cleared_tree nothing.l2_tables;
    hosts = rw cleared_tree nothing.hosts;
    l1_bits = rw cleared_tree nothing.l1_bits;
    refcount_table_bits = rw cleared_table nothing.refcount_table_bits;
    l2_bits = rw cleared_tree nothing.l2_bits;
    compressed = rw cleared_tree nothing.compressed;
    overlaps = no_overlap len nothing.overlaps;
    counts = no_uncounted len nothing.counts;
    room = nothing.room;
  }

  pub cleared_header_of : header_of new ≡ without_autoclear h
  cleared_header_of = cleared_header old new written (length old) (sound_header old sound)

  pub cleared_sound : length new ≡ length old → IsSound new
  cleared_sound size =
      let none = sound_header old sound in
      let header : header_refusal new (length new) ≡ None = rw size (cleared_refusal old new written (length old) none ∙ none) in
      let found = field_unread new h (length old) (finds_nothing_too (length old) (sound_tables old sound)) in
      let P : Header → Type 0 = λ x. FindsNothing new x (length old) in
      let Q : ℕ → Type 0 = λ len. FindsNothing new (header_of new) len in
      sound_from_parts new header (subst Q (sym size) (subst P (sym cleared_header_of) found))

  -- The guest's bytes.

  byte_stays : (c : ℕ) (backing : List ℕ) (place : ℕ) (entry : L2Entry) → ((host : ℕ) → entry ≡ Host host → 96 ≤ host) → byte_by_entry new c backing place entry ≡ byte_by_entry old c backing place entry
  byte_stays c backing place Unallocated high = refl
  byte_stays c backing place (Zero host) high = refl
  byte_stays c backing place (Host host) high = written.outside (host + place % c) (inr (omega (arith, high host refl)))
  byte_stays c backing place Compressed high = refl
  byte_stays c backing place Reserved high = refl

  pub cleared_byte : (backing : List ℕ) (place : ℕ) → guest_byte new backing place ≡ guest_byte old backing place
  unfolding guest_byte
  cleared_byte backing place =
      let c : ℕ = cluster_size h.cluster_bits in
      let word : ℕ = l2_word_of (active_tree old h) c (place / c) in
      rw (cleared_header_of, cleared_tree) (byte_stays c backing place (l2_entry word) (host_high word))
