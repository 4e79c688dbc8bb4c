-- The last write of a new backing name: with it the header says the name, and the image is as it was but for that.
use Rattle.std.proofs.Common.{◌≡◌, ℕ, ◌+◌, ◌-◌, ◌/◌, ◌^◌, ◌<◌, ◌≤◌, inl, inr, Bool, true, false, not, ◌&&◌, ◌||◌, cond, ltb, List, [], ◌++◌, length, replicate, get_or, slice_index, Option, Some, None, IfSome, is_some, refl, sym, ap, subst, ◌∙◌, arith, length-append, append_assoc}
use Rattle.std.proofs.Math.Seq.{get_or-append_right}
use Rattle.std.proofs.lemmas.Bool.{le-ltb}
use Rattle.std.proofs.lemmas.List.{get_or_append_left, get_or-replicate, length-replicate}
use Rattle.std.proofs.lemmas.Str.{is_utf8-from_IsUtf8}
use Rattle.std.specs.Option.{ForSome, option_map, option_map_or}
use Rattle.std.specs.Str.{IsUtf8, is_utf8}
use Rattle.byteorder.specs.Endian.{big_bytes}
use Rattle.byteorder.specs.Numbers.{length-bytes_high_first}
use Rattle.blk_base.specs.Content.{with_bytes}
use Rattle.q2_format.specs.Bytes.{number_at, place_bytes, IsWritten}
use Rattle.q2_format.specs.Created.{IsNewName}
use Rattle.q2_format.specs.Header.{LiesWithin, area_end, cluster_bits_of, extension_length, extension_type, header_length_of, header_of, name_place_of, name_refusal}
use Rattle.q2_format.specs.Renamed.{ending_place, name_fields, needs_ending, new_name_offset, next_extension}
use Rattle.q2_format.specs.Sizes.{cluster_size}
use Rattle.q2_format.specs.Sound.{IsSound}
use Rattle.q2_format.specs.declared.header.Header.{Header}
use Rattle.q2_format.specs.declared.header.Place.{Place}
use Rattle.q2_format.proofs.ByPlace.{bytes_at-alike, get_or-bytes_at, length-bytes_at, number_at-alike, number_at-zeros}
use Rattle.q2_format.proofs.Consistent.{sound_header}
use Rattle.q2_format.proofs.HeaderCluster.{with_naming}
use Rattle.q2_format.proofs.Limits.{within_limits}
use Rattle.q2_format.proofs.NamePlaces.{name_written, no_name_written, offset_within}
use Rattle.q2_format.proofs.NameSound.{StaysSound, last_sound}
use Rattle.q2_format.proofs.NameWrites.{walk_of, walk_place}
use Rattle.q2_format.proofs.RenamedHeader.{name_accepted, no_name_accepted}
use Rattle.q2_format.proofs.Walks.{forward}
use Rattle.q2_refs.proofs.Placing.{written_with}
use Rattle.q2_image.specs.BackingName.{between_in, ending_length, last_bytes, name_in, with_name}
use Rattle.q2_image.specs.Creating.{text_at}
use Rattle.q2_image.specs.Image.{Known, IsImageOf, IsOpen, cluster_size_in}
use Rattle.q2_image.specs.Writing.{IsSameDisk}
use Rattle.q2_image.proofs.HeaderWrites.{open_renaming, renaming_disk, renaming_image, written_length, written_outside}
use Rattle.q2_image.proofs.HostUses.{size_in}
use Rattle.q2_image.proofs.NameRoom.{room_in}
use Rattle.q2_image.proofs.NameSteps.{ended_list, header_size}

-- where a new name stands
abbrev pub new_place : Header → Option (List ℕ) → Option Place
new_place h name = option_map (λ (text : List ℕ). record { at = new_name_offset h; len = length text }) name

-- An image with another name is as open.

place_lies : (h : Header) (name : Option (List ℕ)) → h.cluster_bits ≡ 16 → ForSome name IsNewName → IfSome (new_place h name) (LiesWithin 104 (cluster_size h.cluster_bits))
place_lies h None bits new = tt
place_lies h (Some name) bits new =
    let place = offset_within h bits in
    let low = place.0 in
    let high = place.1 in
    let c : cluster_size h.cluster_bits ≡ 65536 = rw bits refl in
    let short = (new name refl).1 in
    record { begins = omega (arith, low, c); ends = omega (arith, high, short) }

-- where its list ends
list_by_tests : (c ext_end next : ℕ) (named ended : Bool) → c ≡ 65536 → 104 ≤ ext_end → ext_end ≤ c / 2 → (named ≡ true → ended ≡ false → next ≤ 504) → (ended ≡ false → named ≡ true)
    → ext_end ≤ next → (104 ≤ cond ended (ext_end - 8) next + 8) × (cond ended (ext_end - 8) next + 8 ≤ c / 2)
list_by_tests c ext_end next named true size low high next_low named_there later = (omega (arith, low), omega (arith, high, low))
list_by_tests c ext_end next named false size low high next_low named_there later =
    let next_there = next_low (named_there refl) refl in
    (omega (arith, low, later), omega (arith, next_there, size))

pub list_place : (image : Known) → IsOpen image → (104 ≤ ending_place image.header + 8) × (ending_place image.header + 8 ≤ cluster_size image.header.cluster_bits / 2)
list_place image ready =
    let h : Header = image.header in
    let room = room_in h ready.room in
    list_by_tests (cluster_size_in image) h.ext_end (next_extension h) (is_some h.name) h.ended (size_in image ready) ready.list room.0 room.1 ready.ended (omega arith)

full_by_tests : (c ext_end next : ℕ) (named : Bool) → ext_end ≤ c / 2 → (ltb (c / 2) ext_end || ((named && not true) && ltb 504 next)) ≡ false
full_by_tests c ext_end next true low = let test = le-ltb (c / 2) ext_end low in rw test refl
full_by_tests c ext_end next false low = let test = le-ltb (c / 2) ext_end low in rw test refl

pub open_named : (image : Known) (name : Option (List ℕ)) → IsOpen image → ForSome name IsNewName → IsOpen (with_name image name None)
open_named image name ready new =
    let h : Header = image.header in
    let place = new_place h name in
    let list = list_place image ready in
    open_renaming image place h.format (ending_place h + 8) true ready (place_lies h name ready.cluster_bits new) ready.format list.0 (λ bad. absurd (cc bad))
    (full_by_tests (cluster_size h.cluster_bits) (ending_place h + 8) (next_extension (with_naming h place h.format (ending_place h + 8) true)) (is_some place) list.1)

-- What the file has to hold before the write.

-- the text stands where the new name goes
abbrev pub HasText : List ℕ → Header → Option (List ℕ) → Type 0
HasText file h name = IfSome name (λ text. (place_bytes file (new_name_offset h) (length text) ≡ text) × IsNewName text × IsUtf8 text)

-- the ending extension's own data end in front of it
abbrev pub EndsBefore : List ℕ → Header → Option (List ℕ) → Type 0
EndsBefore file h name = h.ended ≡ true → IfSome name (λ text. h.ext_end + ending_length file h ≤ new_name_offset h)

pub record IsReadyFor (file : List ℕ) (h : Header) (name : Option (List ℕ)) : Type 0 where
  pub text : HasText file h name
  pub ending : EndsBefore file h name

pub length-name_fields : (h : Header) (name : Option (List ℕ)) → length (name_fields h name) ≡ 12
length-name_fields h None = length-replicate {A = ℕ} 12 0
length-name_fields h (Some name) = length-append (big_bytes 8 (new_name_offset h)) (big_bytes 4 (length name)) ∙ omega (arith, length-bytes_high_first 8 (new_name_offset h), length-bytes_high_first 4 (length name))

-- What a file is then, byte by byte.
pub record IsLast (file now : List ℕ) (h : Header) (name : Option (List ℕ)) : Type 0 where
  pub rest : List ℕ
  pub fields : IsWritten file now 8 (name_fields h name ++ rest)
  pub same : (i : ℕ) → 20 ≤ i → i < ending_place h → slice_index now i ≡ slice_index file i
  pub kind : extension_type now (ending_place h) ≡ 0
  pub fits : ending_place h + 8 + extension_length now (ending_place h) ≤ option_map_or (λ (place : Place). place.at) (new_place h name) (cluster_size h.cluster_bits)
  pub behind : (i : ℕ) → 65536 ≤ i → slice_index now i ≡ slice_index file i
  pub size : length now ≡ length file

-- the area of a list ends within the cluster
area_high : (file : List ℕ) → IsSound file → area_end file ≤ cluster_size (header_of file).cluster_bits
unfolding header_of
area_high file sound = let limits = within_limits file (length file) (sound_header file sound) in high (name_place_of file) _ _ _ limits.name
  where
    high : (name : Option Place) (low c limit : ℕ) → IfSome name (λ name. LiesWithin low c name × (name.len ≤ limit)) → option_map_or (λ (name : Place). name.at) name c ≤ c
    high None low c limit lies = omega arith
    high (Some name) low c limit lies = let ends = lies.0.ends in omega (arith, ends)

module _ (file : List ℕ) (image : Known) (is : IsImageOf file image) (ready : IsOpen image) (name : Option (List ℕ)) where
  abbrev h : Header
  h = image.header

  abbrev e : ℕ
  e = ending_place h

  place_is : ending_place (header_of file) ≡ e
  place_is = ap ending_place is.header

  whole : cluster_size h.cluster_bits ≡ 65536
  whole = size_in image ready

  list_low : (104 ≤ e + 8) × (e + 8 ≤ 32768)
  list_low = let list = list_place image ready in let c = whole in let high = list.1 in (list.0, omega (arith, high, c))

  abbrev area : ℕ
  area = option_map_or (λ (place : Place). place.at) (new_place h name) (cluster_size h.cluster_bits)

  middle_area : (name : Option (List ℕ)) → 32768 ≤ option_map_or (λ (place : Place). place.at) (new_place h name) (cluster_size h.cluster_bits)
  middle_area None = let c = whole in omega (arith, c)
  middle_area (Some text) = let c = whole in let place = (offset_within h ready.cluster_bits).0 in omega (arith, place, c)

  -- where the list has an ending extension the fields alone are written
  module _ (ended : h.ended ≡ true) (ends : EndsBefore file h name) where
    abbrev xs : List ℕ
    xs = name_fields h name ++ []

    xs_length : length xs ≡ 12
    xs_length = length-append (name_fields h name) [] ∙ omega (arith, length-name_fields h name)

    xs_within : 8 + length xs ≤ 65536
    xs_within = omega (arith, xs_length)

    abbrev now : List ℕ
    now = with_bytes file 8 xs

    past : (i : ℕ) → 20 ≤ i → slice_index now i ≡ slice_index file i
    past i low = written_outside file image is ready 8 xs xs_within i (inr (omega (arith, low, xs_length)))

    list_is : (h.ext_end ≡ e + 8) × (extension_type file e ≡ 0) × (e + 8 + extension_length file e ≤ area_end file) × (104 ≤ e)
    list_is =
        let P : Header → Type 0 = λ x. (x.ext_end ≡ ending_place x + 8) × (extension_type file (ending_place x) ≡ 0)
        × (ending_place x + 8 + extension_length file (ending_place x) ≤ area_end file) × (104 ≤ ending_place x) in
        subst P is.header (ended_list file is.sound (ap (λ (x : Header). x.ended) is.header ∙ ended))

    fits_by : (name : Option (List ℕ)) → EndsBefore file h name → e + 8 + extension_length file e ≤ option_map_or (λ (place : Place). place.at) (new_place h name) (cluster_size h.cluster_bits)
    fits_by None before =
        let fits = list_is.2 in
        let high = area_high file is.sound in
        let c = header_size file image is ready in
        let c_too = whole in
        omega (arith, fits, high, c, c_too)
    fits_by (Some text) before =
        let stop = list_is.0 in
        let at : h.ext_end - 4 ≡ e + 4 = omega (arith, stop) in
        let P : ℕ → Type 0 = λ n. h.ext_end + number_at file n 4 ≤ new_name_offset h in
        let there = subst P at (before ended) in
        omega (arith, there, stop)

    pub last_ended : IsLast file now h name
    last_ended =
        let low = list_is.3 in
        let kind_same : extension_type now e ≡ extension_type file e = number_at-alike file now e 4 (record { same = λ i from below. past i (omega (arith, from, low)) }) in
        let length_same : extension_length now e ≡ extension_length file e = number_at-alike file now (e + 4) 4 (record { same = λ i from below. past i (omega (arith, from, low)) }) in
        record {
          rest = [];
          fields = written_with file 8 xs;
          same = λ i from below. past i from;
          kind = kind_same ∙ list_is.1;
          fits = let fits = fits_by name ends in omega (arith, fits, length_same);
          behind = λ i above. past i (omega (arith, above));
          size = written_length file image is ready 8 xs xs_within;
        }

  -- else an ending extension is written with them, behind what stands between
  module _ (unended : h.ended ≡ false) where
    abbrev between : List ℕ
    between = between_in file h

    abbrev behind_fields : List ℕ
    behind_fields = between ++ replicate 8 0

    abbrev ys : List ℕ
    ys = name_fields h name ++ behind_fields

    next_is : e ≡ next_extension h
    next_is = let test = unended in rw test refl

    low : 104 ≤ e
    low = let list = ready.list in let next = next_is in omega (arith, list, next)

    between_length : length between ≡ e - 20
    between_length = length-bytes_at file 20 (next_extension h - 20) ∙ ap (λ (n : ℕ). n - 20) (sym next_is)

    ys_length : length ys ≡ e
    ys_length =
        let all = length-append (name_fields h name) behind_fields in
        let rest = length-append between (replicate 8 0) in
        omega (arith, all, rest, length-name_fields h name, between_length, length-replicate {A = ℕ} 8 0, low)

    ys_within : 8 + length ys ≤ 65536
    ys_within = let high = list_low.1 in omega (arith, ys_length, high)

    abbrev later : List ℕ
    later = with_bytes file 8 ys

    written : IsWritten file later 8 ys
    written = written_with file 8 ys

    -- a byte behind the fields
    byte_at : (i : ℕ) → 20 ≤ i → i < e + 8 → slice_index later i ≡ get_or behind_fields (i - 20) 0
    byte_at i from below =
        let j : ℕ = i - 8 in
        let place : 8 + j ≡ i = omega (arith, from) in
        let P : ℕ → Type 0 = λ n. slice_index later n ≡ get_or behind_fields (i - 20) 0 in
        let twelve = length-name_fields h name in
        let index : j - length (name_fields h name) ≡ i - 20 = omega (arith, twelve, from) in
        subst P place (written.inside j (omega (arith, ys_length, below, from))
        ∙ get_or-append_right (name_fields h name) behind_fields j 0 (omega (arith, twelve, from)) ∙ ap (λ (n : ℕ). get_or behind_fields n 0) index)

    same_between : (i : ℕ) → 20 ≤ i → i < e → slice_index later i ≡ slice_index file i
    same_between i from below =
        let place : 20 + (i - 20) ≡ i = omega (arith, from) in
        let next = next_is in
        byte_at i from (omega (arith, below))
        ∙ get_or_append_left between (replicate 8 0) 0 (i - 20) (omega (arith, between_length, below, from))
        ∙ get_or-bytes_at file 20 (next_extension h - 20) (i - 20) (omega (arith, from, below, next)) ∙ ap (λ (n : ℕ). slice_index file n) place

    zero_ending : (i : ℕ) → e ≤ i → i < e + 8 → slice_index later i ≡ 0
    zero_ending i from below =
        let index : i - 20 - length between ≡ i - e = omega (arith, between_length, from, low) in
        byte_at i (omega (arith, from, low)) below
        ∙ get_or-append_right between (replicate 8 0) (i - 20) 0 (omega (arith, between_length, from))
        ∙ ap (λ (n : ℕ). get_or (replicate 8 0) n 0) index ∙ get_or-replicate 8 (i - e) 0 0 (omega (arith, below, from))

    pub last_unended : IsLast file later h name
    last_unended =
        let no_length : extension_length later e ≡ 0 = number_at-zeros later (e + 4) 4 (λ i from below. zero_ending i (omega (arith, from)) (omega (arith, below))) in
        record {
          rest = behind_fields;
          fields = written;
          same = same_between;
          kind = number_at-zeros later e 4 (λ i from below. zero_ending i from (omega (arith, below)));
          fits = let middle = middle_area name in let high = list_low.1 in omega (arith, middle, high, no_length);
          behind = λ i above. written_outside file image is ready 8 ys ys_within i (inr (omega (arith, above, ys_within)));
          size = written_length file image is ready 8 ys ys_within;
        }

  -- with the list that a header has
  by_list : (t : Bool) → h.ended ≡ t → EndsBefore file h name → IsLast file (with_bytes file 8 (last_bytes h (between_in file h) name)) h name
  by_list true ended ends =
      let none : needs_ending h ≡ false = and_not (is_some h.name) h.ended ended in
      let P : Bool → Type 0 = λ b. IsLast file (with_bytes file 8 (name_fields h name ++ cond b (between_in file h ++ replicate 8 0) [])) h name in
      subst P (sym none) (last_ended ended ends)
    where
      and_not : (a b : Bool) → b ≡ true → (a && not b) ≡ false
      and_not true b is = rw is refl
      and_not false b is = refl
  by_list false unended ends =
      let some : needs_ending h ≡ true = and_yes (is_some h.name) h.ended (ready.ended unended) unended in
      let P : Bool → Type 0 = λ b. IsLast file (with_bytes file 8 (name_fields h name ++ cond b (between_in file h ++ replicate 8 0) [])) h name in
      subst P (sym some) (last_unended unended)
    where
      and_yes : (a b : Bool) → a ≡ true → b ≡ false → (a && not b) ≡ true
      and_yes a b there none = rw (there, none) refl

first_true : (a b : Bool) → (a && not b) ≡ true → a ≡ true
first_true true b test = refl
first_true false b test = absurd (cc test)

second_false : (a b : Bool) → (a && not b) ≡ true → b ≡ false
second_false true false test = refl
second_false true true test = absurd (cc test)
second_false false b test = absurd (cc test)

-- the list begins behind the fields
header_whole : (file : List ℕ) → IsSound file → 104 ≤ header_length_of file
unfolding header_of
header_whole file sound = (within_limits file (length file) (sound_header file sound)).header_whole

list_start : (file : List ℕ) → IsSound file → header_length_of file ≤ ending_place (header_of file)
list_start file sound =
    let none = sound_header file sound in
    let w = walk_of file (length file) none in
    let from = forward file (area_end file) w.q _ (header_length_of file) None w.walk in
    let place = walk_place file (length file) none in
    omega (arith, from, place)

-- So the header says the name.

module _ (file now : List ℕ) (image : Known) (is : IsImageOf file image) (ready : IsOpen image) (name : Option (List ℕ)) (new : ForSome name IsNewName)
    (last : IsLast file now image.header name) (text : HasText now image.header name) where
  abbrev nh : Header
  nh = image.header

  place_there : ending_place (header_of file) ≡ ending_place nh
  place_there = ap ending_place is.header

  abbrev place : Option Place
  place = new_place nh name

  named_by : (name : Option (List ℕ)) → ForSome name IsNewName → IsWritten file now 8 (name_fields nh name ++ last.rest) → name_place_of now ≡ new_place nh name
  named_by None new written = no_name_written now (λ i low high.
      let j : ℕ = i - 8 in
      let at : 8 + j ≡ i = omega (arith, low) in
      let twelve = length-replicate {A = ℕ} 12 0 in
      let all = length-append (replicate 12 0) last.rest in
      let P : ℕ → Type 0 = λ n. slice_index now n ≡ 0 in
      subst P at (written.inside j (omega (arith, all, twelve, high, low)) ∙ get_or_append_left (replicate 12 0) last.rest 0 j (omega (arith, twelve, high, low))
      ∙ get_or-replicate 12 j 0 0 (omega (arith, high, low))))
  named_by (Some text) new written =
      let offset = new_name_offset nh in
      let within = offset_within nh ready.cluster_bits in
      let c = size_in image ready in
      let low = within.0 in
      let high = within.1 in
      let some = (new text refl).0 in
      let short = (new text refl).1 in
      let W : List ℕ → Type 0 = λ bytes. IsWritten file now 8 bytes in
      name_written file now offset (length text) last.rest (subst W (append_assoc (big_bytes 8 offset) (big_bytes 4 (length text)) last.rest) written)
      (λ none. omega (arith, none, low, c)) (λ none. omega (arith, none, some)) (small_offset offset (omega (arith, high, c))) (small_length (length text) (omega (arith, short)))
    where
      small_offset : (n : ℕ) → n ≤ 65536 → n < 256 ^ 8
      small_offset n low = omega (arith, low)

      small_length : (n : ℕ) → n ≤ 65536 → n < 256 ^ 4
      small_length n low = omega (arith, low)

  named : name_place_of now ≡ place
  named = named_by name new last.fields

  long : (104 ≤ header_length_of file) × (header_length_of file ≤ ending_place nh)
  long = (header_whole file is.sound, subst (λ (n : ℕ). header_length_of file ≤ n) place_there (list_start file is.sound))

  alike_front : (at n : ℕ) → 20 ≤ at → at + n ≤ 104 → number_at now at n ≡ number_at file at n
  alike_front at n low high =
      let list = long in
      number_at-alike file now at n (record { same = λ i from below. last.same i (omega (arith, from, low)) (omega (arith, below, high, list.0, list.1)) })

  bits_there : cluster_bits_of now ≡ 16
  unfolding header_of
  bits_there = alike_front 20 4 (omega arith) (omega arith) ∙ ap (λ (x : Header). x.cluster_bits) is.header ∙ ready.cluster_bits

  length_there : header_length_of now ≡ header_length_of file
  length_there = alike_front 100 4 (omega arith) (omega arith)

  name_good : (name : Option (List ℕ)) → ForSome name IsNewName → HasText now nh name → name_place_of now ≡ new_place nh name → name_refusal now ≡ None
  name_good None new text is_there = no_name_accepted now is_there
  name_good (Some name) new text is_there =
      let offset = new_name_offset nh in
      let within = offset_within nh ready.cluster_bits in
      let c = size_in image ready in
      let low = within.0 in
      let high = within.1 in
      let short = (new name refl).1 in
      let list = long in
      let place = list_place image ready in
      let start = length_there in
      let place_high = place.1 in
      let bits = bits_there in
      let c_now : cluster_size (cluster_bits_of now) ≡ 65536 = rw bits refl in
      let utf8 = ap is_utf8 text.0 ∙ is_utf8-from_IsUtf8 name text.2 in
      name_accepted now (record { at = offset; len = length name }) is_there short (omega (arith, start, list.1, place_high, low)) (omega (arith, high, short, c, c_now)) utf8

  area_there : area_end now ≡ option_map_or (λ (place : Place). place.at) place (cluster_size nh.cluster_bits)
  area_there = let is_named = named in let bits = bits_there in let own = ready.cluster_bits in rw (is_named, bits, own) refl

  stays : StaysSound now (with_naming (header_of file) place (header_of file).format (ending_place (header_of file) + 8) true)
  stays =
      let at = place_there in
      let c = header_size file image is ready in
      let K : ℕ → Type 0 = λ n. extension_type now n ≡ 0 in
      let F : ℕ → Type 0 = λ n. n + 8 + extension_length now n ≤ area_end now in
      let fits = last.fits in
      let area_is = area_there in
      last_sound file now place is.sound
      (record { same = λ i from below. last.fields.outside i (inl (omega (arith, below))) })
      (λ i from below. last.same i from (omega (arith, below, at)))
      (λ i above. last.behind i (omega (arith, above, c)))
      (subst K (sym at) last.kind) (subst F (sym at) (omega (arith, fits, area_is))) named (name_good name new text named) last.size

  header_there : header_of now ≡ with_naming nh place nh.format (ending_place nh + 8) true
  header_there = stays.header ∙ ap (λ (h : Header). with_naming h place h.format (ending_place h + 8) true) is.header

  high_stays : (i : ℕ) → 65536 ≤ i → slice_index now i ≡ slice_index file i
  high_stays = last.behind

  pub last_image : IsImageOf now (with_name image name None)
  last_image = renaming_image file now image is ready high_stays place nh.format (ending_place nh + 8) true stays.sound header_there

  pub last_disk : IsSameDisk file now
  last_disk = renaming_disk file now image is ready high_stays place nh.format (ending_place nh + 8) true stays.sound header_there (open_named image name ready new)

  pub last_name : name_in now ≡ name
  last_name = ap (λ (h : Header). text_at now h.name) header_there ∙ by_name name text
    where
      by_name : (name : Option (List ℕ)) → HasText now nh name → text_at now (new_place nh name) ≡ name
      by_name None text = refl
      by_name (Some name) text = ap (λ (bytes : List ℕ). Some bytes) text.0

-- The whole write.

-- the image has the name, and no byte of its disk changed
pub record IsRenamed (file now : List ℕ) (image : Known) (name : Option (List ℕ)) : Type 0 where
  pub image_is : IsImageOf now (with_name image name None)
  pub disk : IsSameDisk file now
  pub name_is : name_in now ≡ name

-- the text stands behind the list, so the write leaves it
text_after : (file : List ℕ) (image : Known) (xs : List ℕ) (name : Option (List ℕ)) → IsImageOf file image → IsOpen image → 8 + length xs ≤ 32768
    → HasText file image.header name → HasText (with_bytes file 8 xs) image.header name
text_after file image xs None is ready short text = tt
text_after file image xs (Some name) is ready short text =
    let h : Header = image.header in
    let c = size_in image ready in
    let low = (offset_within h ready.cluster_bits).0 in (
      bytes_at-alike file (with_bytes file 8 xs) (new_name_offset h) (length name) (record {
        same = λ i from below. written_outside file image is ready 8 xs (omega (arith, short)) i (inr (omega (arith, short, from, low, c)));
      }) ∙ text.0,
      text.1,
      text.2,
    )

pub last_short : (file : List ℕ) (image : Known) (name : Option (List ℕ)) → IsImageOf file image → IsOpen image → 8 + length (last_bytes image.header (between_in file image.header) name) ≤ 512
last_short file image name is ready = by_need (needs_ending image.header) refl
  where
    by_need : (t : Bool) → needs_ending image.header ≡ t → 8 + length (name_fields image.header name ++ cond t (between_in file image.header ++ replicate 8 0) []) ≤ 512
    by_need true is_needed =
        let h : Header = image.header in
        let all = length-append (name_fields h name) (between_in file h ++ replicate 8 0) in
        let rest = length-append (between_in file h) (replicate 8 0) in
        let low = (room_in h ready.room).1 (first_true (is_some h.name) h.ended is_needed) (second_false (is_some h.name) h.ended is_needed) in
        omega (arith, all, rest, length-name_fields h name, length-bytes_at file 20 (next_extension h - 20), length-replicate {A = ℕ} 8 0, low)
    by_need false none = omega (arith, length-append (name_fields image.header name) [], length-name_fields image.header name)

pub last_made : (file : List ℕ) (image : Known) (name : Option (List ℕ)) → IsImageOf file image → IsOpen image → ForSome name IsNewName → IsReadyFor file image.header name
    → IsRenamed file (with_bytes file 8 (last_bytes image.header (between_in file image.header) name)) image name
last_made file image name is ready new ready_for =
    let h : Header = image.header in
    let xs : List ℕ = last_bytes h (between_in file h) name in
    let now : List ℕ = with_bytes file 8 xs in
    let last = by_list file image is ready name h.ended refl ready_for.ending in
    let short = last_short file image name is ready in
    let text = text_after file image xs name is ready (omega (arith, short)) ready_for.text in
    record {
      image_is = last_image file now image is ready name new last text;
      disk = last_disk file now image is ready name new last text;
      name_is = last_name file now image is ready name new last text;
    }
