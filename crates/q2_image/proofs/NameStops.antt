-- All writes of a new backing name, one behind the other and wherever they stop.
use Rattle.std.proofs.Common.{◌≡◌, ℕ, ◌+◌, ◌-◌, ◌%◌, ◌<◌, ◌≤◌, inl, inr, Bool, true, false, ◌&&◌, cond, ltb, List, [], ◌∷◌, ◌++◌, length, take, replicate, slice_index, Option, Some, None, IfSome, refl, sym, ap, subst, ◌∙◌, arith}
use Rattle.std.proofs.lemmas.Bool.{cases_eq, eq-eqb, ne_eqb}
use Rattle.std.proofs.lemmas.Bool.Decides.{nat_tests}
use Rattle.std.proofs.lemmas.List.{get_or-replicate, length-replicate}
use Rattle.std.proofs.Math.Seq.{take-length}
use Rattle.std.specs.Option.{ForSome, option_map_or}
use Rattle.std.specs.Str.{IsUtf8}
use Rattle.blk_base.specs.Content.{Write, after_writes, with_bytes}
use Rattle.blk_base.specs.Writes.{write_of, IsCutBy, IsPart, AtEachStop}
use Rattle.blk_base.specs.declared.fault.DevStop.{DevStop}
use Rattle.blk_base.specs.declared.fault.DevStop.TheVariants.{Io, NoSpace}
use Rattle.blk_base.proofs.WriteLists.{after_writes-append, at_each_stop-none, at_each_stop-one, at_each_stop-refused, at_each_stop-sector, at_each_stop-then, at_each_stop-weaker, cut-sector, part-split}
use Rattle.q2_format.specs.Bytes.{number_at}
use Rattle.q2_format.specs.Created.{IsNewName, IsNewFormat}
use Rattle.q2_format.specs.Header.{LiesWithin, header_of, name_place_of}
use Rattle.q2_format.specs.Renamed.{ending_place, format_bytes, format_room, new_name_offset}
use Rattle.q2_format.specs.Sound.{IsSound}
use Rattle.q2_format.specs.declared.header.Header.{Header}
use Rattle.q2_format.specs.declared.header.Place.{Place}
use Rattle.q2_format.proofs.Autoclear.{cleared_header_of}
use Rattle.q2_format.proofs.ByPlace.{bytes_at-alike, bytes_at-written, number_at-alike, number_at-zeros}
use Rattle.q2_format.proofs.Consistent.{sound_header}
use Rattle.q2_format.proofs.Limits.{within_limits}
use Rattle.q2_format.proofs.NamePlaces.{offset_within}
use Rattle.q2_refs.proofs.Placing.{written_with}
use Rattle.q2_image.specs.BackingName.{HasSameName, IsOldOrRenamed, between_in, early_writes, ending_length, ending_writes, format_writes, last_bytes, last_writes, rename_writes, text_writes, with_format}
use Rattle.q2_image.specs.Creating.{text_at}
use Rattle.q2_image.specs.Image.{Known, IsImageOf, IsOpen}
use Rattle.q2_image.specs.Made.{clear_writes}
use Rattle.q2_image.specs.Writing.{IsSameDisk, autocleared}
use Rattle.q2_image.proofs.Autocleared.{cleared}
use Rattle.q2_image.proofs.HeaderWrites.{KeepsName, kept, keeps_then}
use Rattle.q2_image.proofs.HostUses.{size_in}
use Rattle.q2_image.proofs.LastWrite.{EndsBefore, HasText, IsReadyFor, IsRenamed, last_made, last_short, list_place}
use Rattle.q2_image.proofs.NameRoom.{room_in}
use Rattle.q2_image.proofs.NameSteps.{ended_list, ending_stops, format_known, format_of, format_part, length-format_bytes, open_format, room_at, text_part, text_stops}
use Rattle.q2_image.proofs.OwnStops.{behind_clear}
use Rattle.q2_image.proofs.OwnTold.{open_cleared}
use Rattle.q2_image.proofs.OwnWrites.{disk_then}

-- the file is sound, and has the same disk and the same name
pub record StaysAsNamed (old now : List ℕ) : Type 0 where
  pub sound : IsSound now
  pub disk : IsSameDisk old now
  pub name : HasSameName old now

pub stays_by : (old mid now : List ℕ) (before after : Known) → KeepsName old mid before → KeepsName mid now after → StaysAsNamed old now
stays_by old mid now before after first later =
    let both = keeps_then old mid now before after first later in
    record { sound = both.image.sound; disk = both.disk; name = both.name }

-- The autoclear field.

clear_name : (file : List ℕ) → IsSound file → HasSameName file (cleared file)
unfolding header_of
clear_name file sound =
    let header = cleared_header_of file (cleared file) (written_with file 88 (replicate 8 0)) sound in
    let place : (header_of (cleared file)).name ≡ (header_of file).name = ap (λ (h : Header). h.name) header in
    let limits = within_limits file (length file) (sound_header file sound) in
    record { place = place; text = ap (text_at (cleared file)) place ∙ by_place (name_place_of file) _ _ _ limits.header_whole limits.name }
  where
    by_place : (name : Option Place) (low c limit : ℕ) → 104 ≤ low → IfSome name (λ name. LiesWithin low c name × (name.len ≤ limit)) → text_at (cleared file) name ≡ text_at file name
    by_place None low c limit long lies = refl
    by_place (Some name) low c limit long lies =
        let begins = lies.0.begins in
        let written = written_with file 88 (replicate 8 0) in
        ap (λ (text : List ℕ). Some text) (bytes_at-alike file (cleared file) name.at name.len (record {
          same = λ i from below. written.outside i (inr (omega (arith, from, begins, long)));
        }))

pub same_name : (file : List ℕ) → HasSameName file file
same_name file = record { place = refl; text = refl }

clear_keeps : (file : List ℕ) (image : Known) → IsImageOf file image → KeepsName file (after_writes file (clear_writes image)) (autocleared image)
clear_keeps file image is =
    let behind = behind_clear file image is in
    record { image = behind.image_is; disk = behind.disk; name = named }
  where
    named : HasSameName file (after_writes file (clear_writes image))
    named = elim (cases_eq image.header.autoclear 0) [
      | inl none ↦ let test = eq-eqb image.header.autoclear 0 none in rw test (same_name file)
      | inr some ↦ let test = ne_eqb image.header.autoclear 0 some in rw test (clear_name file is.sound)
    ]

clear_stops : (file : List ℕ) (image : Known) → IsImageOf file image → AtEachStop (StaysAsNamed file) (clear_writes image) file
clear_stops file image is =
    let own = kept file image is in
    let nothing : StaysAsNamed file file = record { sound = is.sound; disk = own.disk; name = own.name } in
    let after = clear_keeps file image is in
    let done : StaysAsNamed file (after_writes file (clear_writes image)) = record { sound = after.image.sound; disk = after.disk; name = after.name } in
    elim (cases_eq image.header.autoclear 0) [
      | inl none ↦
          let test = eq-eqb image.header.autoclear 0 none in
          rw test (at_each_stop-none (StaysAsNamed file) file nothing)
      | inr some ↦
          let test = ne_eqb image.header.autoclear 0 some in
          let whole = rw test at done in
          rw test (at_each_stop-sector (StaysAsNamed file) (write_of 88 (replicate 8 0)) file (omega arith) nothing whole)
    ]

-- The format.

format_keeps : (file : List ℕ) (image : Known) (format : Option (List ℕ)) → IsImageOf file image → IsOpen image → ForSome format IsNewFormat
    → KeepsName file (after_writes file (format_writes image.header format)) (with_format image format)
format_keeps file image None is ready new = kept file image is
format_keeps file image (Some format) is ready new = by_room (format_room image.header) refl
  where
    all_bytes : (p : Place) → format_room image.header ≡ Some p → KeepsName file (with_bytes file (p.at - 4) (format_bytes format)) (with_format image (Some format))
    all_bytes p room =
        let len = length-format_bytes format (new format refl).1 in
        let test : ltb (length (format_bytes format)) 4 ≡ false = ap (λ (n : ℕ). ltb n 4) len in
        let W : List ℕ → Type 0 = λ bs. KeepsName file (with_bytes file (p.at - 4) bs) (format_known image format (length (format_bytes format))) in
        let part = subst W (take-length (format_bytes format)) (format_part file image is ready format (new format refl) p room (length (format_bytes format))) in
        let K : Bool → Type 0 = λ t. KeepsName file (with_bytes file (p.at - 4) (format_bytes format)) (cond t image (with_format image (Some format))) in
        subst K test part

    by_room : (room : Option Place) → format_room image.header ≡ room
        → KeepsName file (after_writes file (option_map_or (λ (place : Place). write_of (place.at - 4) (format_bytes format) ∷ []) room [])) (with_format image (Some format))
    by_room None none =
        let same : with_format image (Some format) ≡ image = ap (λ (o : Option Place). record image { header = record image.header { format = option_map_or (λ (place : Place). Some (record { at = place.at; len = length format })) o image.header.format } }) none in
        let K : Known → Type 0 = KeepsName file file in
        subst K (sym same) (kept file image is)
    by_room (Some p) room = all_bytes p room

known_stays : (file now : List ℕ) (image next : Known) (t : Bool) → KeepsName file now (cond t image next) → StaysAsNamed file now
known_stays file now image next true keeps = record { sound = keeps.image.sound; disk = keeps.disk; name = keeps.name }
known_stays file now image next false keeps = record { sound = keeps.image.sound; disk = keeps.disk; name = keeps.name }

format_stops : (file : List ℕ) (image : Known) (format : Option (List ℕ)) → IsImageOf file image → IsOpen image → ForSome format IsNewFormat
    → AtEachStop (StaysAsNamed file) (format_writes image.header format) file
format_stops file image None is ready new =
    let own = kept file image is in at_each_stop-none (StaysAsNamed file) file (record { sound = is.sound; disk = own.disk; name = own.name })
format_stops file image (Some format) is ready new = by_room (format_room image.header) refl
  where
    by_room : (room : Option Place) → format_room image.header ≡ room
        → AtEachStop (StaysAsNamed file) (option_map_or (λ (place : Place). write_of (place.at - 4) (format_bytes format) ∷ []) room []) file
    by_room None none =
        let own = kept file image is in at_each_stop-none (StaysAsNamed file) file (record { sound = is.sound; disk = own.disk; name = own.name })
    by_room (Some p) room =
        let fields : List ℕ = format_bytes format in
        let each : (k : ℕ) → StaysAsNamed file (with_bytes file (p.at - 4) (take k fields)) = λ k.
        known_stays file (with_bytes file (p.at - 4) (take k fields)) image (with_format image (Some format)) (ltb k 4) (format_part file image is ready format (new format refl) p room k) in
        let W : List ℕ → Type 0 = λ bs. StaysAsNamed file (with_bytes file (p.at - 4) bs) in
        at_each_stop-one (StaysAsNamed file) (write_of (p.at - 4) fields) file (λ k short border. each k) (subst W (take-length fields) (each (length fields)))

pub open_with_format : (image : Known) (format : Option (List ℕ)) → IsOpen image → ForSome format IsNewFormat → IsOpen (with_format image format)
open_with_format image None ready new = ready
open_with_format image (Some format) ready new = by_room (format_room image.header) refl
  where
    by_room : (room : Option Place) → format_room image.header ≡ room
        → IsOpen (record image { header = record image.header { format = option_map_or (λ (place : Place). Some (record { at = place.at; len = length format })) room image.header.format } })
    by_room None none = ready
    by_room (Some p) room = open_format image p (length format) ready (room_at image.header p room) (new format refl).1

-- The text and the ending extension.

text_keeps : (file : List ℕ) (image : Known) (name : Option (List ℕ)) → IsImageOf file image → IsOpen image → ForSome name IsNewName
    → KeepsName file (after_writes file (text_writes image.header name)) image
text_keeps file image None is ready new = kept file image is
text_keeps file image (Some name) is ready new =
    let W : List ℕ → Type 0 = λ bs. KeepsName file (with_bytes file (new_name_offset image.header) bs) image in
    subst W (take-length name) (text_part file image is ready name (length name) (new name refl))

to_stays : (file now : List ℕ) (image : Known) → KeepsName file now image → StaysAsNamed file now
to_stays file now image keeps = record { sound = keeps.image.sound; disk = keeps.disk; name = keeps.name }

within_by : (offset m k : ℕ) → ltb offset m ≡ false → k ≡ m → k ≤ offset
within_by offset m k test same = grind (arith, nat_tests)

-- a byte behind a write of so many
behind_write : (old : List ℕ) (at : ℕ) (xs : List ℕ) (n i : ℕ) → length xs ≡ n → at + n ≤ i → slice_index (with_bytes old at xs) i ≡ slice_index old i
behind_write old at xs n i len past = (written_with old at xs).outside i (inr (omega (arith, len, past)))

-- All but the last.

module _ (file : List ℕ) (image : Known) (name format : Option (List ℕ)) (n : ℕ) (is : IsImageOf file image) (ready : IsOpen image)
    (new_name : ForSome name IsNewName) (new_format : ForSome format IsNewFormat) where
  abbrev h : Header
  h = image.header

  abbrev cleared_image : Known
  cleared_image = autocleared image

  abbrev next : Known
  next = with_format (autocleared image) format

  open_1 : IsOpen (autocleared image)
  open_1 = open_cleared image ready

  open_2 : IsOpen next
  open_2 = open_with_format (autocleared image) format open_1 new_format

  abbrev m1 : List ℕ
  m1 = after_writes file (clear_writes image)

  abbrev m2 : List ℕ
  m2 = after_writes m1 (text_writes h name)

  abbrev m3 : List ℕ
  m3 = after_writes m2 (format_writes h format)

  abbrev m4 : List ℕ
  m4 = after_writes m3 (ending_writes h name n)

  to_1 : KeepsName file m1 (autocleared image)
  to_1 = clear_keeps file image is

  step_2 : KeepsName m1 m2 (autocleared image)
  step_2 = text_keeps m1 (autocleared image) name to_1.image open_1 new_name

  to_2 : KeepsName file m2 (autocleared image)
  to_2 = keeps_then file m1 m2 (autocleared image) (autocleared image) to_1 step_2

  step_3 : KeepsName m2 m3 next
  step_3 = format_keeps m2 (autocleared image) format to_2.image open_1 new_format

  to_3 : KeepsName file m3 next
  to_3 = keeps_then file m2 m3 (autocleared image) next to_2 step_3

  all_ending : AtEachStop (λ now. KeepsName m3 now next) (ending_writes h name n) m3
  all_ending = ending_stops m3 next name n to_3.image open_2

  pub before_fields : KeepsName file m4 next
  before_fields = keeps_then file m3 m4 next next to_3 all_ending.done

  pub m4_is : after_writes file (early_writes image n name format) ≡ m4
  m4_is =
      after_writes-append file (clear_writes image) (text_writes h name ++ (format_writes h format ++ ending_writes h name n))
      ∙ after_writes-append m1 (text_writes h name) (format_writes h format ++ ending_writes h name n)
      ∙ after_writes-append m2 (format_writes h format) (ending_writes h name n)

  pub early_stops : AtEachStop (StaysAsNamed file) (early_writes image n name format) file
  early_stops =
      let P : List ℕ → Type 0 = StaysAsNamed file in
      let texts = at_each_stop-weaker (λ now. KeepsName m1 now (autocleared image)) P (text_writes h name) m1
      (λ now keeps. stays_by file m1 now (autocleared image) (autocleared image) to_1 keeps) (text_stops m1 (autocleared image) to_1.image open_1 name new_name) in
      let formats = at_each_stop-weaker (StaysAsNamed m2) P (format_writes h format) m2
      (λ now stays. stays_then file m2 now to_2 stays) (format_stops m2 (autocleared image) format to_2.image open_1 new_format) in
      let endings = at_each_stop-weaker (λ now. KeepsName m3 now next) P (ending_writes h name n) m3
      (λ now keeps. stays_by file m3 now next next to_3 keeps) all_ending in
      at_each_stop-then P (clear_writes image) (text_writes h name ++ (format_writes h format ++ ending_writes h name n)) file (clear_stops file image is)
      (at_each_stop-then P (text_writes h name) (format_writes h format ++ ending_writes h name n) m1 texts
      (at_each_stop-then P (format_writes h format) (ending_writes h name n) m2 formats endings))
    where
      stays_then : (old mid now : List ℕ) → KeepsName old mid (autocleared image) → StaysAsNamed mid now → StaysAsNamed old now
      stays_then old mid now first later = record {
        sound = later.sound;
        disk = disk_then old mid now 0 [] first.disk later.disk;
        name = record { place = later.name.place ∙ first.name.place; text = later.name.text ∙ first.name.text };
      }

  -- The text stands there then.

  format_high : (format : Option (List ℕ)) → ForSome format IsNewFormat → (i : ℕ) → ending_place h ≤ i → slice_index (after_writes m2 (format_writes h format)) i ≡ slice_index m2 i
  format_high None new i high = refl
  format_high (Some format) new i high = by_room (format_room h) refl
    where
      by_room : (room : Option Place) → format_room h ≡ room
          → slice_index (after_writes m2 (option_map_or (λ (place : Place). write_of (place.at - 4) (format_bytes format) ∷ []) room [])) i ≡ slice_index m2 i
      by_room None none = refl
      by_room (Some p) room =
          let at = room_at h p room in
          let there = format_of m2 p to_2.image.sound (ap (λ (x : Header). x.format) to_2.image.header ∙ at.format) in
          let len = length-format_bytes format (new format refl).1 in
          let behind = there.behind at.some at.short in
          let place = ap ending_place to_2.image.header in
          let low = there.low in
          behind_write m2 (p.at - 4) (format_bytes format) 12 i len (omega (arith, behind, place, low, high))

  list_in_half : ending_place h + 8 ≤ 32768
  list_in_half = let list = list_place image ready in let c = size_in image ready in let low = list.1 in omega (arith, low, c)

  ending_high : (name : Option (List ℕ)) → (i : ℕ) → 32768 ≤ i → slice_index (after_writes m3 (ending_writes h name n)) i ≡ slice_index m3 i
  ending_high None i high = refl
  ending_high (Some name) i high = by_test (h.ended && ltb (new_name_offset h) (h.ext_end + n))
    where
      by_test : (t : Bool) → slice_index (after_writes m3 (cond t (write_of (h.ext_end - 4) (replicate 4 0) ∷ []) [])) i ≡ slice_index m3 i
      by_test true =
          let low = (room_in h ready.room).0 in
          let c = size_in image ready in
          (written_with m3 (h.ext_end - 4) (replicate 4 0)).outside i (inr (omega (arith, low, c, high, length-replicate {A = ℕ} 4 0)))
      by_test false = refl

  upper : (i : ℕ) → 32768 ≤ i → slice_index m4 i ≡ slice_index m2 i
  upper i high = let low = list_in_half in ending_high name i high ∙ format_high format new_format i (omega (arith, low, high))

  text_there : (name : Option (List ℕ)) → ForSome name IsNewName → ForSome name IsUtf8 → ((i : ℕ) → 32768 ≤ i → slice_index m4 i ≡ slice_index (after_writes m1 (text_writes h name)) i)
      → HasText m4 h name
  text_there None new text same = tt
  text_there (Some name) new text same =
      let at : ℕ = new_name_offset h in
      let low = (offset_within h ready.cluster_bits).0 in
      let c = size_in image ready in (
        bytes_at-alike (with_bytes m1 at name) m4 at (length name) (record { same = λ i from below. same i (omega (arith, from, low, c)) })
            ∙ bytes_at-written m1 (with_bytes m1 at name) at name (written_with m1 at name),
        new name refl,
        text name refl,
      )

  -- The ending extension's own data end in front of it.

  number_there : h.ended ≡ true → number_at m3 (h.ext_end - 4) 4 ≡ ending_length file h
  number_there ended =
      let list = ended_in ended in
      let stop = list.0 in
      let start = list.1 in
      let low = list_in_half in
      number_at-alike file m3 (h.ext_end - 4) 4 (record {
        same = λ i from below.
            format_high format new_format i (omega (arith, from, stop))
            ∙ text_low name i (omega (arith, below, stop, low))
            ∙ clear_behind i (omega (arith, from, stop, start));
      })
    where
      ended_in : h.ended ≡ true → (h.ext_end ≡ ending_place h + 8) × (104 ≤ ending_place h)
      ended_in ended =
          let P : Header → Type 0 = λ x. (x.ext_end ≡ ending_place x + 8) × (104 ≤ ending_place x) in
          let all = ended_list file is.sound (ap (λ (x : Header). x.ended) is.header ∙ ended) in
          subst P is.header (all.0, all.3)

      text_low : (name : Option (List ℕ)) → (i : ℕ) → i < 32768 → slice_index (after_writes m1 (text_writes h name)) i ≡ slice_index m1 i
      text_low None i below = refl
      text_low (Some name) i below =
          let middle = (offset_within h ready.cluster_bits).0 in
          let c = size_in image ready in
          (written_with m1 (new_name_offset h) name).outside i (inl (omega (arith, below, middle, c)))

      clear_behind : (i : ℕ) → 96 ≤ i → slice_index m1 i ≡ slice_index file i
      clear_behind i above = elim (cases_eq h.autoclear 0) [
        | inl none ↦ let test = eq-eqb h.autoclear 0 none in rw test refl
        | inr some ↦ let test = ne_eqb h.autoclear 0 some in rw test ((written_with file 88 (replicate 8 0)).outside i (inr (omega (arith, above))))
      ]

  ends_there : (name : Option (List ℕ)) → ending_writes h name n ≡ ending_writes h name (ending_length file h) → EndsBefore (after_writes m3 (ending_writes h name n)) h name
  ends_there None same ended = tt
  ends_there (Some name) same ended =
      let m : ℕ = ending_length file h in
      let own = number_there ended in
      let W : List Write → Type 0 = λ ws. h.ext_end + number_at (after_writes m3 ws) (h.ext_end - 4) 4 ≤ new_name_offset h in
      subst W (sym same) (by_tests h.ended (ltb (new_name_offset h) (h.ext_end + m)) ended refl)
    where
      by_tests : (a b : Bool) → a ≡ true → ltb (new_name_offset h) (h.ext_end + ending_length file h) ≡ b
          → h.ext_end + number_at (after_writes m3 (cond (a && b) (write_of (h.ext_end - 4) (replicate 4 0) ∷ []) [])) (h.ext_end - 4) 4 ≤ new_name_offset h
      by_tests false b is test = absurd (cc is)
      by_tests true true is test =
          let low = (room_in h ready.room).0 in
          let middle = (offset_within h ready.cluster_bits).0 in
          let at : ℕ = h.ext_end - 4 in
          let zero_there : number_at (with_bytes m3 at (replicate 4 0)) at 4 ≡ 0 = number_at-zeros (with_bytes m3 at (replicate 4 0)) at 4 (λ i from below.
          let j : ℕ = i - at in
          let place : at + j ≡ i = omega (arith, from) in
          let four = length-replicate {A = ℕ} 4 0 in
          let P : ℕ → Type 0 = λ k. slice_index (with_bytes m3 at (replicate 4 0)) k ≡ 0 in
          subst P place ((written_with m3 at (replicate 4 0)).inside j (omega (arith, four, below, from)) ∙ get_or-replicate 4 j 0 0 (omega (arith, below, from)))) in
          omega (arith, zero_there, low, middle)
      by_tests true false is test =
          let own = number_there (is_ended is) in
          within_by (new_name_offset h) (h.ext_end + ending_length file h) (h.ext_end + number_at m3 (h.ext_end - 4) 4) test (omega (arith, own))
        where
          is_ended : true ≡ true → h.ended ≡ true
          is_ended same_test = ended

  pub ready_for_fields : ForSome name IsUtf8 → ending_writes h name n ≡ ending_writes h name (ending_length file h) → IsReadyFor m4 h name
  ready_for_fields text same = record { text = text_there name new_name text upper; ending = ends_there name same }

-- All of them.

module _ (file : List ℕ) (image : Known) (name format : Option (List ℕ)) (is : IsImageOf file image) (ready : IsOpen image)
    (new_name : ForSome name IsNewName) (new_format : ForSome format IsNewFormat) (text : ForSome name IsUtf8) where
  abbrev ah : Header
  ah = image.header

  abbrev an : ℕ
  an = ending_length file ah

  abbrev early : List Write
  early = early_writes image an name format

  abbrev mid : List ℕ
  mid = after_writes file early

  abbrev named : Known
  named = with_format (autocleared image) format

  abbrev xs : List ℕ
  xs = last_bytes ah (between_in mid ah) name

  mid_keeps : KeepsName file mid named
  mid_keeps =
      let K : List ℕ → Type 0 = λ now. KeepsName file now named in
      subst K (sym (m4_is file image name format an is ready new_name new_format)) (before_fields file image name format an is ready new_name new_format)

  open_mid : IsOpen named
  open_mid = open_with_format (autocleared image) format (open_cleared image ready) new_format

  mid_ready : IsReadyFor mid named.header name
  mid_ready =
      let R : List ℕ → Type 0 = λ now. IsReadyFor now ah name in
      let there = subst R (sym (m4_is file image name format an is ready new_name new_format)) (ready_for_fields file image name format an is ready new_name new_format text refl) in
      record { text = there.text; ending = there.ending }

  pub all_made : IsRenamed mid (with_bytes mid 8 xs) named name
  all_made = last_made mid named name mid_keeps.image open_mid new_name mid_ready

  abbrev P : List ℕ → Type 0
  P = IsOldOrRenamed name file

  stays_old : (now : List ℕ) → StaysAsNamed file now → P now
  stays_old now stays = (stays.sound, stays.disk, inl stays.name)

  renamed_now : P (with_bytes mid 8 xs)
  renamed_now = let done = all_made in (done.image_is.sound, disk_then file mid (with_bytes mid 8 xs) 0 [] mid_keeps.disk done.disk, inr done.name_is)

  last_within : 8 % 512 + length xs ≤ 512
  last_within = let short = last_short mid named name mid_keeps.image open_mid in omega (arith, short)

  stops_early : AtEachStop (StaysAsNamed file) early file
  stops_early = early_stops file image name format an is ready new_name new_format

  pub rename_stops : AtEachStop P (rename_writes image file name format) file
  rename_stops =
      at_each_stop-then P early (last_writes ah (between_in mid ah) name) file (at_each_stop-weaker (StaysAsNamed file) P early file stays_old stops_early)
      (at_each_stop-sector P (write_of 8 xs) mid last_within (stays_old mid stops_early.done) renamed_now)

  part_of_early : (stop : DevStop) (made : List Write) → IsPart (IsCutBy stop) early made → StaysAsNamed file (after_writes file made)
  part_of_early (Io count) made part = stops_early.stopped made part
  part_of_early NoSpace made part = at_each_stop-refused (StaysAsNamed file) early file made stops_early part

  part_of_last : (stop : DevStop) (rest : List Write) → IsPart (IsCutBy stop) (last_writes ah (between_in mid ah) name) rest → after_writes mid rest ≡ mid
  part_of_last stop [] part = absurd part
  part_of_last stop (m ∷ rest) (inl (same, part)) = absurd part
  part_of_last stop (m ∷ rest) (inr (cut, none)) =
      let is_none = cut-sector stop (write_of 8 xs) m last_within cut in
      ap (after_writes mid) (ap (λ (ms : List Write). m ∷ ms) none ∙ ap (λ (x : Write). x ∷ []) is_none)

  -- a stop leaves the name
  pub stopped_keeps : (stop : DevStop) (made : List Write) → IsPart (IsCutBy stop) (rename_writes image file name format) made → StaysAsNamed file (after_writes file made)
  stopped_keeps stop made part = elim (part-split (IsCutBy stop) early (last_writes ah (between_in mid ah) name) made part) [
    | inl sooner ↦ part_of_early stop made sooner
    | inr later ↦
        let S : List ℕ → Type 0 = StaysAsNamed file in
        let same : after_writes file made ≡ mid = ap (after_writes file) later.1 ∙ after_writes-append file early later.0 ∙ part_of_last stop later.0 later.2 in
        subst S (sym same) stops_early.done
  ]
