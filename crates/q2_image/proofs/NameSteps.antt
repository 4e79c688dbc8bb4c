-- The writes of a new backing name, one after another, and a part of one: what is known of the image then.
use Rattle.std.proofs.Common.{◌≡◌, ℕ, ◌+◌, ◌-◌, ◌<◌, ◌≤◌, inl, inr, Bool, true, false, not, ◌&&◌, cond, ltb, List, [], ◌∷◌, ◌++◌, length, take, replicate, slice_index, Option, Some, None, IfSome, refl, sym, ap, subst, ◌∙◌, arith, length-append}
use Rattle.std.proofs.lemmas.Bool.{cases_lt}
use Rattle.std.proofs.lemmas.Bool.Decides.{nat_tests}
use Rattle.std.proofs.lemmas.List.{get_or-take, get_or-replicate, length-replicate, length-take}
use Rattle.std.proofs.Math.Seq.{take-length}
use Rattle.std.specs.Option.{ForSome, option_map_or, option_and_then}
use Rattle.byteorder.specs.Endian.{big_bytes}
use Rattle.byteorder.specs.Numbers.{length-bytes_high_first}
use Rattle.blk_base.specs.Content.{with_bytes}
use Rattle.blk_base.specs.Writes.{write_of, AtEachStop}
use Rattle.blk_base.proofs.Contents.{get_or-with_bytes_inside, get_or-with_bytes_outside}
use Rattle.blk_base.proofs.WriteLists.{at_each_stop-none, at_each_stop-one}
use Rattle.q2_format.specs.Bytes.{number_at}
use Rattle.q2_format.specs.Created.{IsNewName, IsNewFormat}
use Rattle.q2_format.specs.Header.{LiesWithin, header_of, header_length_of, name_place_of, area_end, extension_type, extension_length, extension_after}
use Rattle.q2_format.specs.Renamed.{new_name_offset, format_room, format_bytes, takes_eight, list_area_end, replaced_format, ending_place}
use Rattle.q2_format.specs.Sizes.{cluster_size}
use Rattle.q2_format.specs.Sound.{IsSound}
use Rattle.q2_format.specs.declared.header.Header.{Header}
use Rattle.q2_format.specs.declared.header.Place.{Place}
use Rattle.q2_format.proofs.Consistent.{sound_header}
use Rattle.q2_format.proofs.Limits.{within_limits}
use Rattle.q2_format.proofs.NamePlaces.{number_lower, offset_beside, offset_within, part_of_length}
use Rattle.q2_format.proofs.NameSound.{StaysSound, ending_low, format_sound, list_low, lowered_sound, text_sound}
use Rattle.q2_format.proofs.NameWrites.{IsBeside, in_area, walk_of, walk_place}
use Rattle.q2_format.proofs.Walks.{Walk, HasFormatAt, format_found, forward}
use Rattle.q2_refs.proofs.Placing.{written_with}
use Rattle.q2_image.specs.BackingName.{text_writes, ending_writes, with_format}
use Rattle.q2_image.specs.Image.{Known, IsImageOf, IsOpen, cluster_size_in}
use Rattle.q2_image.proofs.HeaderWrites.{KeepsName, kept, keeps_name, open_renaming, reformatted, written_outside, written_length}
use Rattle.q2_image.proofs.HostUses.{size_in}

-- The text.

name_short : (name : Option Place) → IfSome name (LiesWithin 104 65536) → IfSome name (λ name. name.len ≤ 1023) → IfSome name (λ name. (name.at + name.len ≤ 65536) × (name.len ≤ 1023))
name_short None lies short = tt
name_short (Some name) lies short = (lies.ends, short)

limit_of : (name : Option Place) (low c : ℕ) → IfSome name (λ name. LiesWithin low c name × (name.len ≤ 1023)) → IfSome name (λ name. name.len ≤ 1023)
limit_of None low c lies = tt
limit_of (Some name) low c lies = lies.1

beside_less : (from to upto : ℕ) (name : Option Place) → to ≤ upto → IsBeside from upto name → IsBeside from to name
beside_less from to upto None less beside = tt
beside_less from to upto (Some name) less (inl ends) = inl (omega (arith, ends, less))
beside_less from to upto (Some name) less (inr begins) = inr begins

old_beside : (file : List ℕ) (from to : ℕ) → IsBeside from to (header_of file).name → IsBeside from to (name_place_of file)
unfolding header_of
old_beside file from to beside = beside

old_area : (file : List ℕ) (to : ℕ) → to ≤ list_area_end (header_of file) → to ≤ area_end file
unfolding header_of
old_area file to within = within

of_area : (file : List ℕ) (to : ℕ) → to ≤ area_end file → to ≤ list_area_end (header_of file)
unfolding header_of
of_area file to within = within

module _ (file : List ℕ) (image : Known) (is : IsImageOf file image) (ready : IsOpen image) where
  abbrev h : Header
  h = image.header

  bits : (header_of file).cluster_bits ≡ 16
  bits = ap (λ (x : Header). x.cluster_bits) is.header ∙ ready.cluster_bits

  pub header_size : cluster_size (header_of file).cluster_bits ≡ 65536
  header_size = let b = bits in rw b refl

  own_name : IfSome h.name (λ name. (name.at + name.len ≤ 65536) × (name.len ≤ 1023))
  own_name =
      let limits = within_limits file (length file) (sound_header file is.sound) in
      let L : Header → Type 0 = λ x. IfSome x.name (λ name. name.len ≤ 1023) in
      let C : ℕ → Type 0 = λ c. IfSome h.name (LiesWithin 104 c) in
      name_short h.name (subst C (size_in image ready) ready.name) (subst L is.header (limit_of (header_of file).name _ _ limits.name))

  -- some of a name's first bytes where a new one goes
  pub text_part : (name : List ℕ) (n : ℕ) → IsNewName name → KeepsName file (with_bytes file (new_name_offset h) (take n name)) image
  text_part name n new =
      let at : ℕ = new_name_offset h in
      let xs : List ℕ = take n name in
      let short : length xs ≤ 1023 = omega (arith, length-take n name, new.1) in
      let place = offset_within h ready.cluster_bits in
      let c = size_in image ready in
      let middle = place.0 in
      let ends = place.1 in
      let within : at + length xs ≤ 65536 = omega (arith, short, ends, c) in
      let beside = offset_beside h (length xs) ready.cluster_bits short own_name in
      let old_list = list_low file is.sound in
      let whole = header_size in
      let E : Header → Type 0 = λ x. x.name ≡ h.name in
      let P : Option Place → Type 0 = IsBeside at (at + length xs) in
      let named : (header_of file).name ≡ h.name = ap (λ (x : Header). x.name) is.header in
      let stays = text_sound file (with_bytes file at xs) at (at + length xs) is.sound (omega (arith, middle, c)) (omega (arith, old_list, whole, middle, c)) (omega (arith, within, whole))
      (old_beside file at (at + length xs) (subst P (sym named) beside)) (written_outside file image is ready at xs within) (written_length file image is ready at xs within) in
      keeps_name file image is ready at xs within beside h.format ready
      (kept_format file (with_bytes file at xs) h (ap (λ (x : Header). x.format) is.header) stays)
    where
      kept_format : (file now : List ℕ) (h : Header) → (header_of file).format ≡ h.format → StaysSound now (header_of file) → StaysSound now (record (header_of file) { format = h.format })
      kept_format file now h same stays =
          let F : Option Place → Type 0 = λ f. StaysSound now (record (header_of file) { format = f }) in
          subst F same stays

  pub text_stops : (name : Option (List ℕ)) → ForSome name IsNewName → AtEachStop (λ now. KeepsName file now image) (text_writes h name) file
  text_stops None new = at_each_stop-none (λ now. KeepsName file now image) file (kept file image is)
  text_stops (Some name) new =
      let K : List ℕ → Type 0 = λ now. KeepsName file now image in
      let W : List ℕ → Type 0 = λ bs. K (with_bytes file (new_name_offset h) bs) in
      at_each_stop-one K (write_of (new_name_offset h) name) file (λ n short border. text_part name n (new name refl)) (subst W (take-length name) (text_part name (length name) (new name refl)))

-- The format.

-- where its extension stands, and how long it is
pub record IsFormatOf (file : List ℕ) (p : Place) : Type 0 where
  pub length_field : (from : ℕ) → from + 4 ≡ p.at → number_at file from 4 ≡ p.len
  pub behind : 1 ≤ p.len → p.len ≤ 8 → p.at + 8 ≤ ending_place (header_of file)
  pub low : 104 + 8 ≤ p.at

pub format_of : (file : List ℕ) (p : Place) → IsSound file → (header_of file).format ≡ Some p → IsFormatOf file p
unfolding header_of
format_of file p sound some =
    let none = sound_header file sound in
    let len : ℕ = length file in
    let w = walk_of file len none in
    let start : ℕ = header_length_of file in
    let long = (within_limits file len none).header_whole in
    let W : Option Place → Type 0 = λ f. Walk file (area_end file) w.q f start None in
    let there : HasFormatAt file (area_end file) w.q p start None = elim (format_found file (area_end file) w.q p start None (subst W some w.walk)) [
      | inl bad ↦ absurd (cc bad)
      | inr found ↦ found
    ] in
    let at_is : p.at ≡ there.e + 8 = ap (λ (x : Place). x.at) there.place in
    let len_is : p.len ≡ extension_length file there.e = ap (λ (x : Place). x.len) there.place in
    let low = forward file (area_end file) there.e there.known start None there.first in
    let rest = forward file (area_end file) w.q (Some p) (extension_after file there.e) (Some p) there.rest in
    let place = walk_place file len none in
    record {
      length_field = λ from front. ap (λ (at : ℕ). number_at file at 4) (omega (arith, front, at_is)) ∙ sym len_is;
      behind = λ one eight. omega (arith, at_is, len_is, rest, place, one, eight);
      low = omega (arith, at_is, low, long);
    }

-- what the header's room for a format says
pub record IsRoomAt (h : Header) (p : Place) : Type 0 where
  pub format : h.format ≡ Some p
  pub some : 1 ≤ p.len
  pub short : p.len ≤ 8
  pub area : p.at + 8 ≤ list_area_end h

room_tests : (n at area : ℕ) → ((ltb 0 n && not (ltb 8 n)) && not (ltb area (at + 8))) ≡ true → (1 ≤ n) × (n ≤ 8) × (at + 8 ≤ area)
room_tests n at area test = (grind (arith, nat_tests), grind (arith, nat_tests), grind (arith, nat_tests))

room_of_place : (h : Header) (q p : Place) (t : Bool) → h.format ≡ Some q → takes_eight h q ≡ t → ◌≡◌ {A = Option Place} (cond t (Some q) None) (Some p) → IsRoomAt h p
room_of_place h q p true is test same =
    let here : q ≡ p = cc same in
    let P : Place → Type 0 = λ x. (h.format ≡ Some x) × (takes_eight h x ≡ true) in
    let both = subst P here (is, test) in
    let tests = room_tests p.len p.at (list_area_end h) both.1 in
    record { format = both.0; some = tests.0; short = tests.1; area = tests.2 }
room_of_place h q p false is test same = absurd (cc same)

room_of_format : (h : Header) (format : Option Place) (p : Place) → h.format ≡ format → option_and_then (λ (place : Place). cond (takes_eight h place) (Some place) None) format ≡ Some p → IsRoomAt h p
room_of_format h None p is some = absurd (cc some)
room_of_format h (Some q) p is some = room_of_place h q p (takes_eight h q) is refl some

pub room_at : (h : Header) (p : Place) → format_room h ≡ Some p → IsRoomAt h p
room_at h p some = room_of_format h h.format p refl some

area_beside : (name : Option Place) (c from to : ℕ) → to ≤ option_map_or (λ (name : Place). name.at) name c → IsBeside from to name
area_beside name c from to within = in_area name c from to within

area_in : (name : Option Place) (c to : ℕ) → IfSome name (LiesWithin 104 c) → to ≤ option_map_or (λ (name : Place). name.at) name c → to ≤ c
area_in None c to lies within = within
area_in (Some name) c to lies within = let ends = lies.ends in omega (arith, ends, within)

pub length-format_bytes : (format : List ℕ) → length format ≤ 8 → length (format_bytes format) ≡ 12
length-format_bytes format short =
    let four = length-bytes_high_first 4 (length format) in
    let zeros = length-replicate {A = ℕ} (8 - length format) 0 in
    let rest = length-append format (replicate (8 - length format) 0) in
    let all = length-append (big_bytes 4 (length format)) (format ++ replicate (8 - length format) 0) in
    omega (arith, four, zeros, rest, all, short)

-- the header's format is another one, at the same place
pub open_format : (image : Known) (p : Place) (n : ℕ) → IsOpen image → IsRoomAt image.header p → n ≤ 8 → IsOpen (reformatted image (Some (record { at = p.at; len = n })))
open_format image p n ready room short =
    let h : Header = image.header in
    let F : Option Place → Type 0 = λ f. IfSome f (LiesWithin 104 (cluster_size_in image)) in
    let lies : LiesWithin 104 (cluster_size_in image) p = subst F room.format ready.format in
    let begins = lies.begins in
    let ends = area_in h.name (cluster_size_in image) (p.at + 8) ready.name room.area in
    open_renaming image h.name (Some (record { at = p.at; len = n })) h.ext_end h.ended ready ready.name (record { begins = begins; ends = omega (arith, ends, short) }) ready.list ready.ended ready.room

-- what is known once so many bytes of it are written: its length is the first number
abbrev pub format_known : Known → List ℕ → ℕ → Known
format_known image format k = cond (ltb k 4) image (with_format image (Some format))

module _ (file : List ℕ) (image : Known) (is : IsImageOf file image) (ready : IsOpen image) (format : List ℕ) (new : IsNewFormat format) (p : Place) (room : format_room image.header ≡ Some p) (k : ℕ) where
  abbrev fh : Header
  fh = image.header

  at_room : IsRoomAt fh p
  at_room = room_at fh p room

  abbrev from : ℕ
  from = p.at - 4

  abbrev part : List ℕ
  part = take k (format_bytes format)

  abbrev now : List ℕ
  now = with_bytes file from part

  there : IsFormatOf file p
  there = format_of file p is.sound (ap (λ (x : Header). x.format) is.header ∙ at_room.format)

  front : from + 4 ≡ p.at
  front = let low = there.low in omega (arith, low)

  part_length : length part ≤ 12
  part_length = omega (arith, length-take k (format_bytes format), length-format_bytes format new.1)

  in_cluster : p.at + 8 ≤ 65536
  in_cluster =
      let c = size_in image ready in
      let ends = area_in fh.name (cluster_size_in image) (p.at + 8) ready.name at_room.area in
      omega (arith, ends, c)

  within : from + length part ≤ 65536
  within = omega (arith, front, part_length, in_cluster)

  old_number : number_at file from 4 ≡ p.len
  old_number = there.length_field from front

  new_number : number_at now from 4 ≡ cond (ltb k 4) p.len (length format)
  new_number =
      let eight = at_room.short in
      let was = old_number in
      part_of_length file now from k (length format) (format ++ replicate (8 - length format) 0) (written_with file from part) new.1 (omega (arith, was, eight))
      ∙ ap (λ (n : ℕ). cond (ltb k 4) n (length format)) was

  abbrev number : ℕ
  number = cond (ltb k 4) p.len (length format)

  either : (t : Bool) → (1 ≤ cond t p.len (length format)) × (cond t p.len (length format) ≤ 8)
  either true = (at_room.some, at_room.short)
  either false = new

  abbrev place : Place
  place = record { at = p.at; len = number }

  known_place : (t : Bool) → reformatted image (Some (record { at = p.at; len = cond t p.len (length format) })) ≡ cond t image (with_format image (Some format))
  known_place true = ap (reformatted image) (sym at_room.format)
  known_place false =
      let r : replaced_format fh (Some format) ≡ Some (record { at = p.at; len = length format }) = ap (λ (o : Option Place). option_map_or (λ (q : Place). Some (record { at = q.at; len = length format })) o fh.format) room in
      ap (reformatted image) (sym r)

  format_stays : StaysSound now (record (header_of file) { format = Some place })
  format_stays =
      let area : p.at + 8 ≤ area_end file = old_area file (p.at + 8) (let A : Header → Type 0 = λ x. p.at + 8 ≤ list_area_end x in subst A (sym is.header) at_room.area) in
      let c = header_size file image is ready in
      let both = either (ltb k 4) in
      let number_is = new_number in
      let low = both.0 in
      let high = both.1 in
      let N : ℕ → Type 0 = λ n. StaysSound now (record (header_of file) { format = Some (record { at = p.at; len = n }) }) in
      let ends = part_length in
      let front_is = front in
      let inside = in_cluster in
      subst N number_is
      (format_sound file now p from is.sound (ap (λ (x : Header). x.format) is.header ∙ at_room.format) at_room.some at_room.short area front (omega (arith, inside, c))
      (λ i apart. written_outside file image is ready from part within i (elim apart [ inl below ↦ inl below | inr above ↦ inr (omega (arith, above, ends, front_is)) ]))
      (omega (arith, number_is, low)) (omega (arith, number_is, high)) (written_length file image is ready from part within))

  pub format_part : KeepsName file now (format_known image format k)
  format_part =
      let K : Known → Type 0 = KeepsName file now in
      let ends = part_length in
      let front_is = front in
      let beside = area_beside fh.name (cluster_size_in image) from (from + length part) (let area = at_room.area in omega (arith, area, ends, front_is)) in
      subst K (known_place (ltb k 4))
      (keeps_name file image is ready from part within beside (Some place) (open_format image p number ready at_room (either (ltb k 4)).1) format_stays)

-- The length of the ending extension.

pub ended_list : (file : List ℕ) → IsSound file → (header_of file).ended ≡ true
    → ((header_of file).ext_end ≡ ending_place (header_of file) + 8) × (extension_type file (ending_place (header_of file)) ≡ 0)
    × (ending_place (header_of file) + 8 + extension_length file (ending_place (header_of file)) ≤ area_end file) × (104 ≤ ending_place (header_of file))
unfolding header_of
ended_list file sound ended =
    let none = sound_header file sound in
    let len : ℕ = length file in
    let w = walk_of file len none in
    let long = (within_limits file len none).header_whole in
    let from = forward file (area_end file) w.q _ (header_length_of file) None w.walk in
    let place = walk_place file len none in
    elim w.last [
      | inl last ↦
          let stop = last.1 in
          let P : ℕ → Type 0 = λ q. (extension_type file q ≡ 0) × (q + 8 + extension_length file q ≤ area_end file) in
          let both = subst P place (last.3, last.2) in
          (omega (arith, stop, place), both.0, both.1, omega (arith, place, from, long))
      | inr last ↦ absurd (let bad : ◌≡◌ {A = Bool} true false = sym ended ∙ last.0 in cc)
    ]

module _ (file : List ℕ) (image : Known) (is : IsImageOf file image) (ready : IsOpen image) (ended : image.header.ended ≡ true) (k : ℕ) where
  abbrev eh : Header
  eh = image.header

  abbrev at : ℕ
  at = eh.ext_end - 4

  abbrev zeros : List ℕ
  zeros = take k (replicate 4 0)

  abbrev e : ℕ
  e = ending_place (header_of file)

  old_ended : (header_of file).ended ≡ true
  old_ended = ap (λ (x : Header). x.ended) is.header ∙ ended

  end_is : eh.ext_end ≡ e + 8
  end_is = sym (ap (λ (x : Header). x.ext_end) is.header) ∙ (ended_list file is.sound old_ended).0

  zeros_length : length zeros ≤ 4
  zeros_length = omega (arith, length-take {A = ℕ} k (replicate 4 0), length-replicate {A = ℕ} 4 0)

  low_end : e + 8 ≤ 32768
  low_end = let c = header_size file image is ready in let low = ending_low file is.sound in omega (arith, c, low)

  zeros_within : at + length zeros ≤ 65536
  zeros_within = omega (arith, end_is, zeros_length, low_end)

  lower : extension_length (with_bytes file at zeros) e ≤ extension_length file e
  lower = number_lower file (with_bytes file at zeros) (e + 4) 4 (λ i from upto. elim (cases_lt i (e + 4 + length zeros)) [
    | inl inside ↦
        let j : ℕ = i - at in
        let place : at + j ≡ i = omega (arith, end_is, from) in
        let short : j < length zeros = omega (arith, end_is, inside, from) in
        let below : j < k = omega (arith, short, length-take {A = ℕ} k (replicate 4 0)) in
        let four : j < 4 = omega (arith, short, zeros_length) in
        let P : ℕ → Type 0 = λ n. slice_index (with_bytes file at zeros) n ≡ 0 in
        let zero_there = subst P place (get_or-with_bytes_inside file at zeros j short ∙ get_or-take k (replicate 4 0) j 0 below ∙ get_or-replicate 4 j 0 0 four) in
        omega (arith, zero_there)
    | inr past ↦
        let same = get_or-with_bytes_outside file at zeros i (inr (omega (arith, past, end_is))) in
        omega (arith, same)
  ])

  beside_ending : IsBeside at (at + length zeros) eh.name
  beside_ending =
      let fits = (ended_list file is.sound old_ended).2 in
      let L : Header → Type 0 = λ x. at + length zeros ≤ list_area_end x in
      area_beside eh.name (cluster_size_in image) at (at + length zeros) (subst L is.header (of_area file (at + length zeros) (omega (arith, fits, end_is, zeros_length))))

  pub ending_part : KeepsName file (with_bytes file at zeros) image
  ending_part =
      let now : List ℕ = with_bytes file at zeros in
      let c = header_size file image is ready in
      let stays = lowered_sound file now e is.sound old_ended (ended_list file is.sound old_ended).0 (omega (arith, low_end, c))
      (λ i apart. written_outside file image is ready at zeros zeros_within i (elim apart [ inl below ↦ inl (omega (arith, below, end_is)) | inr above ↦ inr (omega (arith, above, end_is, zeros_length)) ]))
      lower (written_length file image is ready at zeros zeros_within) in
      let F : Option Place → Type 0 = λ f. StaysSound now (record (header_of file) { format = f }) in
      keeps_name file image is ready at zeros zeros_within beside_ending eh.format ready (subst F (ap (λ (x : Header). x.format) is.header) stays)

pub ending_stops : (file : List ℕ) (image : Known) (name : Option (List ℕ)) (n : ℕ) → IsImageOf file image → IsOpen image
    → AtEachStop (λ now. KeepsName file now image) (ending_writes image.header name n) file
ending_stops file image None n is ready = at_each_stop-none (λ now. KeepsName file now image) file (kept file image is)
ending_stops file image (Some name) n is ready = by_tests image.header.ended (ltb (new_name_offset image.header) (image.header.ext_end + n)) refl
  where
    by_tests : (a b : Bool) → image.header.ended ≡ a → AtEachStop (λ now. KeepsName file now image) (cond (a && b) (write_of (image.header.ext_end - 4) (replicate 4 0) ∷ []) []) file
    by_tests true true ended =
        let W : List ℕ → Type 0 = λ bs. KeepsName file (with_bytes file (image.header.ext_end - 4) bs) image in
        at_each_stop-one (λ now. KeepsName file now image) (write_of (image.header.ext_end - 4) (replicate 4 0)) file (λ k short border. ending_part file image is ready ended k)
        (subst W (take-length (replicate 4 0)) (ending_part file image is ready ended (length (replicate {A = ℕ} 4 0))))
    by_tests true false ended = at_each_stop-none (λ now. KeepsName file now image) file (kept file image is)
    by_tests false b ended = at_each_stop-none (λ now. KeepsName file now image) file (kept file image is)
