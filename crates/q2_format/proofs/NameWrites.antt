-- The writes of a new backing name, one after another: what the header says after each of them, and after a part of one.
use Rattle.std.proofs.Common.{◌≡◌, ℕ, ◌+◌, ◌-◌, ◌%◌, ◌<◌, ◌≤◌, ◌⊎◌, inl, inr, min, Bool, true, false, ltb, List, [], ◌∷◌, slice_index, Option, Some, None, IfSome, refl, sym, ap, subst, ◌∙◌, arith}
use Rattle.std.specs.Option.{option_map_or}
use Rattle.q2_format.specs.Bytes.{number_at, ReadsAlike}
use Rattle.q2_format.specs.Sizes.{cluster_size}
use Rattle.q2_format.specs.Header.{LiesWithin, name_place_of, area_end, header_length_of, cluster_bits_of, extension_type, extension_length, extension_after, format_after, extensions_from, extensions_of, header_of, refused_where, is_bad_name, header_refusal, format_refusal, profile_refusal, name_refusal, extension_refusal, size_refusal}
use Rattle.q2_format.specs.Renamed.{ending_place}
use Rattle.q2_format.specs.declared.header.Place.{Place}
use Rattle.q2_format.specs.declared.header.HeaderStop.TheVariants.{Short, BackingName, Extension}
use Rattle.q2_format.specs.declared.extensions.ExtensionList.{ExtensionList}
use Rattle.q2_format.specs.declared.extensions.TheConstants.{END_OF_EXTENSIONS}
use Rattle.q2_format.proofs.ByPlace.{number_at-alike, bytes_at-alike}
use Rattle.q2_format.proofs.Firsts.{first-none, refused_where-none}
use Rattle.q2_format.proofs.Limits.{within_limits}
use Rattle.q2_format.proofs.HeaderCluster.{with_naming}
use Rattle.q2_format.proofs.RenamedHeader.{renamed_header, renamed_refusal}
use Rattle.q2_format.proofs.Walks.{Walk, Here, Next, IsWalked, HasFormatAt, forward, walks_on, walked, walk_ends, walk_stops, walk_alike, format_named, format_found, any_format}

-- The list of an accepted header.

whole_list : (file : List ℕ) (len : ℕ) → header_refusal file len ≡ None → (extensions_of file).overruns ≡ false
unfolding header_refusal extension_refusal
whole_list file len none =
    let each = first-none (refused_where (ltb len 104) Short ∷ format_refusal file len ∷ profile_refusal file ∷ name_refusal file ∷ extension_refusal file ∷ size_refusal file len ∷ []) none in
    let parts = first-none (refused_where (ltb (cluster_size (cluster_bits_of file)) (header_length_of file)) Extension ∷ refused_where (extensions_of file).overruns Extension ∷ []) each.1.1.1.1.0 in
    refused_where-none (extensions_of file).overruns Extension parts.1.0

accepted_name : (file : List ℕ) (len : ℕ) → header_refusal file len ≡ None → option_map_or (is_bad_name file) (name_place_of file) false ≡ false
unfolding header_refusal name_refusal
accepted_name file len none =
    let each = first-none (refused_where (ltb len 104) Short ∷ format_refusal file len ∷ profile_refusal file ∷ name_refusal file ∷ extension_refusal file ∷ size_refusal file len ∷ []) none in
    refused_where-none (option_map_or (is_bad_name file) (name_place_of file) false) BackingName each.1.1.1.0

-- the walk through it
abbrev pub WalkOf : List ℕ → Type 0
WalkOf file = IsWalked file (header_length_of file) (area_end file) None (extensions_of file)

pub walk_of : (file : List ℕ) (len : ℕ) → header_refusal file len ≡ None → WalkOf file
unfolding extensions_of
walk_of file len none = walked (area_end file) file (header_length_of file) (area_end file) None (omega arith) (whole_list file len none)

-- it goes by multiples of 8, and ends near the area's end at the latest
walk_even : (file : List ℕ) (end q : ℕ) (found : Option Place) (at : ℕ) (format : Option Place) → Walk file end q found at format → q % 8 ≡ at % 8
walk_even file end q found _ _ Here = refl
walk_even file end q found _ _ (Next at format room fits more rest) =
    let later = walk_even file end q found (extension_after file at) _ rest in omega (arith, later)

walk_near : (file : List ℕ) (end q : ℕ) (found : Option Place) (at : ℕ) (format : Option Place) → at ≤ end + 7 → Walk file end q found at format → q ≤ end + 7
walk_near file end q found _ _ low Here = low
walk_near file end q found _ _ low (Next at format room fits more rest) =
    walk_near file end q found (extension_after file at) _ (omega (arith, fits)) rest

next_by_numbers : (e q end start : ℕ) → start ≤ e → start ≤ q → e ≡ min q end → end < q + 8 → q ≤ end + 7 → q % 8 ≡ start % 8 → q ≡ e + (8 - (e - start) % 8) % 8
next_by_numbers e q end start low below is short near even = omega (arith, low, below, is, short, near, even)

-- a name begins behind the header
area_low : (file : List ℕ) (len : ℕ) → header_refusal file len ≡ None → header_length_of file ≤ area_end file
unfolding header_of
area_low file len none = let limits = within_limits file len none in low (name_place_of file) _ limits.name limits.header_in_cluster
  where
    low : (name : Option Place) (limit : ℕ) → IfSome name (λ name. LiesWithin (header_length_of file) (cluster_size (cluster_bits_of file)) name × (name.len ≤ limit))
        → header_length_of file ≤ cluster_size (cluster_bits_of file) → header_length_of file ≤ option_map_or (λ (name : Place). name.at) name (cluster_size (cluster_bits_of file))
    low None limit lies within = within
    low (Some name) limit lies within = lies.0.begins

-- where the walk ends is where the ending extension stands, or goes
pub walk_place : (file : List ℕ) (len : ℕ) (none : header_refusal file len ≡ None) → (walk_of file len none).q ≡ ending_place (header_of file)
unfolding header_of
walk_place file len none =
    let w = walk_of file len none in
    elim w.last [
      | inl last ↦ let ended = last.0 in let end = last.1 in rw ended (omega (arith, end))
      | inr last ↦
          let ended = last.0 in
          let low = area_low file len none in
          let from = forward file (area_end file) w.q _ (header_length_of file) None w.walk in
          let near = walk_near file (area_end file) w.q _ (header_length_of file) None (omega (arith, low)) w.walk in
          let even = walk_even file (area_end file) w.q _ (header_length_of file) None w.walk in
          rw ended (next_by_numbers (extensions_of file).end w.q (area_end file) (header_length_of file) (omega (arith, last.1, low, from)) from last.1 last.2 near even)
    ]

-- A list that reads the same up to its end is the same.

pub list_same : (old new : List ℕ) (at end : ℕ) (format : Option Place) → (extensions_from old at end format).overruns ≡ false
    → ((i : ℕ) → at ≤ i → i < (extensions_from old at end format).end → slice_index new i ≡ slice_index old i)
    → extensions_from new at end format ≡ extensions_from old at end format
list_same old new at end format whole same =
    let w = walked end old at end format (omega arith) whole in
    let q : ℕ = w.q in
    let found : Option Place = (extensions_from old at end format).format in
    let from = forward old end q found at format w.walk in
    elim w.last [
      | inl last ↦
          let stop = last.1 in
          let there : (i : ℕ) → at ≤ i → i < q + 8 → slice_index new i ≡ slice_index old i = λ i low below. same i low (omega (arith, below, stop)) in
          let kind : extension_type new q ≡ extension_type old q = number_at-alike old new q 4 (record { same = λ i low below. there i (omega (arith, low, from)) (omega arith) }) in
          let len : extension_length new q ≡ extension_length old q = number_at-alike old new (q + 4) 4 (record { same = λ i low below. there i (omega (arith, low, from)) (omega arith) }) in
          let moved = walk_alike old new end end at q found (omega arith) (λ i low below. there i low (omega (arith, below))) at format (omega arith) w.walk in
          walk_ends new end q found (omega (arith, len, last.2)) (kind ∙ last.3) at format moved ∙ sym (walk_ends old end q found last.2 last.3 at format w.walk)
      | inr last ↦
          let stop = last.1 in
          let moved = walk_alike old new end end at q found (omega arith) (λ i low below. same i low (omega (arith, below, stop))) at format (omega arith) w.walk in
          walk_stops new end q found last.2 at format moved ∙ sym (walk_stops old end q found last.2 at format w.walk)
    ]

-- A write behind the header's fields, beside the present name.

abbrev pub IsBeside : ℕ → ℕ → Option Place → Type 0
IsBeside from to name = IfSome name (λ name. (to ≤ name.at) ⊎ (name.at + name.len ≤ from))

module _ (old new : List ℕ) (len from to : ℕ) (none : header_refusal old len ≡ None) (long : 104 ≤ from)
    (beside : IsBeside from to (name_place_of old)) (outside : (i : ℕ) → (i < from) ⊎ (to ≤ i) → slice_index new i ≡ slice_index old i) where
  front : ReadsAlike old new 0 8
  front = record { same = λ i low below. outside i (inl (omega arith)) }

  fields : ReadsAlike old new 20 84
  fields = record { same = λ i low below. outside i (inl (omega arith)) }

  pub before : (at n : ℕ) → at + n ≤ from → number_at new at n ≡ number_at old at n
  before at n h = number_at-alike old new at n (record { same = λ i low below. outside i (inl (omega arith)) })

  pub after : (at n : ℕ) → to ≤ at → number_at new at n ≡ number_at old at n
  after at n h = number_at-alike old new at n (record { same = λ i low below. outside i (inr (omega arith)) })

  name_stays : name_place_of new ≡ name_place_of old
  unfolding name_place_of
  name_stays =
      let offset = before 8 8 (omega arith) in
      let size = before 16 4 (omega arith) in
      rw (offset, size) refl

  -- the list is gone through from the same place on, in the same area
  pub area_stays : extensions_of new ≡ extensions_from new (header_length_of old) (area_end old) None
  unfolding extensions_of
  area_stays =
      let bits = before 20 4 (omega arith) in
      let start = before 100 4 (omega arith) in
      rw (name_stays, bits, start) refl

  text_stays : (name : Option Place) → IsBeside from to name → option_map_or (is_bad_name new) name false ≡ option_map_or (is_bad_name old) name false
  text_stays None apart = refl
  text_stays (Some name) apart =
      let bits = before 20 4 (omega arith) in
      let start = before 100 4 (omega arith) in
      let text = bytes_at-alike old new name.at name.len (record { same = λ i low below. outside i (elim apart [ inl ends ↦ inr (omega (arith, ends, low)) | inr begins ↦ inl (omega (arith, begins, below)) ]) }) in
      rw (bits, start, text) refl

  name_none : name_refusal new ≡ None
  unfolding name_refusal
  name_none = let test = text_stays (name_place_of old) beside ∙ accepted_name old len none in rw (name_stays, test) refl

  pub beside_header : (list : ExtensionList) → extensions_of new ≡ list → header_of new ≡ with_naming (header_of old) (name_place_of old) list.format list.end list.ended
  beside_header list is = renamed_header old new front fields (name_place_of old) list name_stays is

  pub beside_refusal : (list : ExtensionList) → list.overruns ≡ false → extensions_of new ≡ list → header_refusal new len ≡ None
  beside_refusal list whole is = renamed_refusal old new front fields len none name_none (ap (λ (l : ExtensionList). l.overruns) is ∙ whole)

  -- behind the list it changes nothing that the header says
  behind_list : (header_of old).ext_end ≤ from → extensions_of new ≡ extensions_of old
  unfolding extensions_of header_of
  behind_list list =
      area_stays ∙ list_same old new (header_length_of old) (area_end old) None (whole_list old len none) (λ i low below. outside i (inl (omega (arith, below, list))))

  pub text_header : (header_of old).ext_end ≤ from → header_of new ≡ header_of old
  unfolding header_of
  text_header list = beside_header (extensions_of old) (behind_list list)

  pub text_refusal : (header_of old).ext_end ≤ from → header_refusal new len ≡ None
  text_refusal list = beside_refusal (extensions_of old) (whole_list old len none) (behind_list list)

-- what ends in front of the area's end lies beside the name
pub in_area : (name : Option Place) (c from to : ℕ) → to ≤ option_map_or (λ (name : Place). name.at) name c → IsBeside from to name
in_area None c from to within = tt
in_area (Some name) c from to within = inl within

header_long : (file : List ℕ) (len : ℕ) → header_refusal file len ≡ None → 104 ≤ header_length_of file
unfolding header_of
header_long file len none = (within_limits file len none).header_whole

-- The length of the ending extension is lowered.
module _ (old new : List ℕ) (len e : ℕ) (none : header_refusal old len ≡ None) (ended : (header_of old).ended ≡ true) (stop : (header_of old).ext_end ≡ e + 8)
    (outside : (i : ℕ) → (i < e + 4) ⊎ (e + 8 ≤ i) → slice_index new i ≡ slice_index old i) (shorter : extension_length new e ≤ extension_length old e) where
  ending_is : (e ≡ (walk_of old len none).q) × (e + 8 + extension_length old e ≤ area_end old) × (extension_type old e ≡ END_OF_EXTENSIONS)
  unfolding header_of
  ending_is =
      let w = walk_of old len none in
      elim w.last [
        | inl last ↦
            let same : e ≡ w.q = let end = last.1 in omega (arith, end, stop) in
            let P : ℕ → Type 0 = λ q. (q + 8 + extension_length old q ≤ area_end old) × (extension_type old q ≡ END_OF_EXTENSIONS) in
            let both = subst P (sym same) (last.2, last.3) in
            (same, both.0, both.1)
        | inr last ↦ absurd (let bad : ◌≡◌ {A = Bool} true false = sym ended ∙ last.0 in cc)
      ]

  low : header_length_of old ≤ e
  low = let w = walk_of old len none in let from = forward old (area_end old) w.q _ (header_length_of old) None w.walk in omega (arith, ending_is.0, from)

  long : 104 ≤ e + 4
  long = omega (arith, header_long old len none, low)

  beside : IsBeside (e + 4) (e + 8) (name_place_of old)
  beside = in_area (name_place_of old) (cluster_size (cluster_bits_of old)) (e + 4) (e + 8) (let within = ending_is.1 in omega (arith, within))

  same_list : extensions_of new ≡ extensions_of old
  unfolding extensions_of
  same_list =
      let w = walk_of old len none in
      let end : ℕ = area_end old in
      let found : Option Place = (extensions_of old).format in
      let W : ℕ → Type 0 = λ q. Walk old end q found (header_length_of old) None in
      let walk = subst W (sym ending_is.0) w.walk in
      let kind : extension_type new e ≡ extension_type old e = before old new len (e + 4) (e + 8) none long beside outside e 4 (omega arith) in
      let moved = walk_alike old new end end (header_length_of old) e found (omega arith) (λ i above below. outside i (inl (omega (arith, below)))) (header_length_of old) None (omega arith) walk in
      let fits = ending_is.1 in
      area_stays old new len (e + 4) (e + 8) none long beside outside
      ∙ walk_ends new end e found (omega (arith, fits, shorter)) (kind ∙ ending_is.2) (header_length_of old) None moved
      ∙ sym (walk_ends old end e found fits ending_is.2 (header_length_of old) None walk)

  pub lowered_header : header_of new ≡ header_of old
  unfolding header_of
  lowered_header = beside_header old new len (e + 4) (e + 8) none long beside outside (extensions_of old) same_list

  pub lowered_refusal : header_refusal new len ≡ None
  lowered_refusal = beside_refusal old new len (e + 4) (e + 8) none long beside outside (extensions_of old) (whole_list old len none) same_list

same_place : (a b x y : ℕ) → a ≡ x → b ≡ y → ◌≡◌ {A = Place} (record { at = a; len = b }) (record { at = x; len = y })
same_place a b x y at size = rw (at, size) refl

-- The data of the backing format extension are replaced, and their length.
module _ (old new : List ℕ) (len : ℕ) (p : Place) (none : header_refusal old len ≡ None) (format : (extensions_of old).format ≡ Some p) (some : 1 ≤ p.len) (short : p.len ≤ 8)
    (room : p.at + 8 ≤ area_end old) (from : ℕ) (front_of : from + 4 ≡ p.at) (outside : (i : ℕ) → (i < from) ⊎ (p.at + 8 ≤ i) → slice_index new i ≡ slice_index old i)
    (some_new : 1 ≤ number_at new from 4) (short_new : number_at new from 4 ≤ 8) where
  abbrev end : ℕ
  end = area_end old

  abbrev start : ℕ
  start = header_length_of old

  abbrev q : ℕ
  q = (walk_of old len none).q

  there : HasFormatAt old end q p start None
  there =
      let W : Option Place → Type 0 = λ f. Walk old end q f start None in
      elim (format_found old end q p start None (subst W format (walk_of old len none).walk)) [
        | inl bad ↦ absurd (cc bad)
        | inr found ↦ found
      ]

  abbrev e : ℕ
  e = there.e

  at_is : p.at ≡ e + 8
  at_is = ap (λ (x : Place). x.at) there.place

  len_is : p.len ≡ extension_length old e
  len_is = ap (λ (x : Place). x.len) there.place

  format_low : start ≤ e
  format_low = forward old end e there.known start None there.first

  format_long : 104 ≤ from
  format_long = omega (arith, header_long old len none, format_low, at_is, front_of)

  format_beside : IsBeside from (p.at + 8) (name_place_of old)
  format_beside = in_area (name_place_of old) (cluster_size (cluster_bits_of old)) from (p.at + 8) room

  abbrev moved_format : Option Place
  moved_format = Some (record { at = p.at; len = number_at new from 4 })

  place_is : from ≡ e + 4
  place_is = omega (arith, at_is, front_of)

  kind_new : extension_type new e ≡ extension_type old e
  kind_new = before old new len from (p.at + 8) none format_long format_beside outside e 4 (omega (arith, place_is))

  len_new : extension_length new e ≡ number_at new from 4
  len_new = ap (λ (at : ℕ). number_at new at 4) (sym place_is)

  after_old : extension_after old e ≡ e + 16
  after_old = omega (arith, len_is, some, short)

  after_new : extension_after new e ≡ e + 16
  after_new = omega (arith, len_new, some_new, short_new)

  named_new : format_after new e there.known ≡ moved_format
  named_new =
      let named = format_named new e there.known (kind_new ∙ there.kind) in
      named ∙ ap (λ (x : Place). Some x) (same_place (e + 8) (extension_length new e) p.at (number_at new from 4) (sym at_is) len_new)

  rest_new : Walk new end q moved_format (extension_after new e) (format_after new e there.known)
  rest_new =
      let any = any_format old end q p (extension_after old e) (Some p) (omega (arith, at_is, after_old)) there.rest in
      let moved = walk_alike old new end end (e + 16) q moved_format (omega arith) (λ i above below. outside i (inr (omega (arith, above, at_is)))) (extension_after old e) moved_format
      (omega (arith, after_old)) (any.1 moved_format) in
      let A : ℕ → Type 0 = λ at. Walk new end q moved_format at moved_format in
      let F : Option Place → Type 0 = λ f. Walk new end q moved_format (extension_after new e) f in
      subst F (sym named_new) (subst A (after_old ∙ sym after_new) moved)

  walk_new : Walk new end q moved_format start None
  walk_new =
      let first = walk_alike old new end end start e there.known (omega arith) (λ i above below. outside i (inl (omega (arith, below, place_is)))) start None (omega arith) there.first in
      let fits : e + 8 + extension_length new e ≤ end = omega (arith, len_new, short_new, room, at_is) in
      walks_on new end e q there.known moved_format start None first (Next e there.known there.room fits (λ is. there.more (sym kind_new ∙ is)) rest_new)

  behind : e + 16 ≤ q
  behind = omega (arith, after_old, forward old end q (Some p) (extension_after old e) (Some p) there.rest)

  format_list : extensions_of new ≡ record (extensions_of old) { format = moved_format }
  unfolding extensions_of
  format_list =
      let w = walk_of old len none in
      let found : Option Place = (extensions_of old).format in
      let kind : extension_type new q ≡ extension_type old q = after old new len from (p.at + 8) none format_long format_beside outside q 4 (omega (arith, behind, at_is)) in
      let size : extension_length new q ≡ extension_length old q = after old new len from (p.at + 8) none format_long format_beside outside (q + 4) 4 (omega (arith, behind, at_is)) in
      area_stays old new len from (p.at + 8) none format_long format_beside outside ∙ elim w.last [
        | inl last ↦
            walk_ends new end q moved_format (omega (arith, size, last.2)) (kind ∙ last.3) start None walk_new
            ∙ ap (λ (l : ExtensionList). record l { format = moved_format }) (sym (walk_ends old end q found last.2 last.3 start None w.walk))
        | inr last ↦
            walk_stops new end q moved_format last.2 start None walk_new
            ∙ ap (λ (l : ExtensionList). record l { format = moved_format }) (sym (walk_stops old end q found last.2 start None w.walk))
      ]

  pub format_header : header_of new ≡ record (header_of old) { format = moved_format }
  unfolding header_of
  format_header = beside_header old new len from (p.at + 8) none format_long format_beside outside (record (extensions_of old) { format = moved_format }) format_list

  pub format_refusal_none : header_refusal new len ≡ None
  format_refusal_none = beside_refusal old new len from (p.at + 8) none format_long format_beside outside (record (extensions_of old) { format = moved_format }) (whole_list old len none) format_list

-- The fields of the name are written, and an ending extension where there is none.
module _ (old new : List ℕ) (len : ℕ) (name : Option Place) (none : header_refusal old len ≡ None) (front : ReadsAlike old new 0 8)
    (same : (i : ℕ) → 20 ≤ i → i < ending_place (header_of old) → slice_index new i ≡ slice_index old i)
    (kind : extension_type new (ending_place (header_of old)) ≡ END_OF_EXTENSIONS)
    (fits : ending_place (header_of old) + 8 + extension_length new (ending_place (header_of old)) ≤ area_end new) (name_is : name_place_of new ≡ name) where
  abbrev place : ℕ
  place = ending_place (header_of old)

  walk_old : Walk old (area_end old) place (extensions_of old).format (header_length_of old) None
  walk_old =
      let W : ℕ → Type 0 = λ q. Walk old (area_end old) q (extensions_of old).format (header_length_of old) None in
      subst W (walk_place old len none) (walk_of old len none).walk

  high : header_length_of old ≤ place
  high = forward old (area_end old) place _ (header_length_of old) None walk_old

  last_fields : ReadsAlike old new 20 84
  last_fields = record { same = λ i low below. same i low (omega (arith, below, high, header_long old len none)) }

  last_list : extensions_of new ≡ record { overruns = false; format = (extensions_of old).format; end = place + 8; ended = true }
  unfolding extensions_of
  last_list =
      let start : header_length_of new ≡ header_length_of old = number_at-alike old new 100 4 (record { same = λ i low below. same i (omega (arith, low)) (omega (arith, below, high, header_long old len none)) }) in
      let found : Option Place = (extensions_of old).format in
      let moved = walk_alike old new (area_end old) (area_end new) (header_length_of old) place found (omega (arith, fits))
      (λ i low below. same i (omega (arith, low, header_long old len none)) (omega (arith, below))) (header_length_of old) None (omega arith) walk_old in
      rw start (walk_ends new (area_end new) place found fits kind (header_length_of old) None moved)

  pub last_header : header_of new ≡ with_naming (header_of old) name (header_of old).format (place + 8) true
  unfolding header_of
  last_header = renamed_header old new front last_fields name _ name_is last_list

  pub last_refusal : name_refusal new ≡ None → header_refusal new len ≡ None
  last_refusal named = renamed_refusal old new front last_fields len none named (ap (λ (l : ExtensionList). l.overruns) last_list)
