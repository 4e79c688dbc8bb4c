-- What the calls leave of a device by which an image gets another backing name, one behind the other.
use Rattle.std.proofs.Common.{◌≡◌, ℕ, suc, ◌+◌, ◌-◌, ◌<◌, ◌≤◌, inl, inr, Bool, true, false, not, ◌&&◌, cond, ltb, List, [], ◌∷◌, ◌++◌, length, take, drop, replicate, get_or, Option, Some, None, Result, Ok, Err, is_some, refl, sym, ap, subst, ◌∙◌, arith, length-append}
use Rattle.std.proofs.lemmas.Bool.{cases_eq, cases_lt, eq-eqb, ne_eqb, lt-ltb, le-ltb}
use Rattle.std.proofs.lemmas.List.{append-nil, ext_get_or, get_or-drop, get_or-replicate, get_or-take, length-replicate, length-take}
use Rattle.std.proofs.Math.Seq.{take-length}
use Rattle.std.specs.Option.{ForSome, option_map, option_map_or}
use Rattle.std.specs.Prelude.{IfErr, IfSome, OnErr}
use Rattle.q2_format.specs.Header.{LiesWithin}
use Rattle.blk_base.specs.Calls.{FailedLast, IsWriteAfterStop}
use Rattle.blk_base.specs.Content.{AreZeroPast, Write, after_writes, with_bytes}
use Rattle.blk_base.specs.Content as content
use Rattle.blk_base.proofs.Contents.{get_or-bytes_at}
use Rattle.blk_base.specs.Counts.{IsFailedWrite}
use Rattle.blk_base.specs.Device.{CountsFault, Reads, StopsBy, Untouched, Wrote, Writes, stop_of}
use Rattle.blk_base.specs.Writes.{write_of, end_of_writes, size_after_writes, IsCutBy, IsPart}
use Rattle.blk_base.specs.declared.device.Device.{Ghosts}
use Rattle.blk_base.specs.declared.device.DeviceCall.TheVariants as calls
use Rattle.blk_base.specs.declared.device.Stop.{Stop}
use Rattle.blk_base.specs.declared.device.Stop.TheVariants as why
use Rattle.blk_base.specs.declared.fault.DevStop.{DevStop}
use Rattle.blk_base.specs.declared.fault.DevStop.TheVariants.{Io, NoSpace}
use Rattle.blk_base.proofs.Calls.{write_failed}
use Rattle.blk_base.proofs.DeviceLemmas.{beyond-within, only_reads-wrote, untouched-writes, wrote-then, writes_then}
use Rattle.blk_base.proofs.WriteLists.{cut-sector, end_of_writes-append}
use Rattle.q2_format.specs.Created.{IsNewName, IsNewFormat}
use Rattle.q2_format.specs.Renamed.{ending_place, format_bytes, format_room, name_fields, needs_ending, next_extension, new_name_offset}
use Rattle.q2_format.specs.declared.header.Header.{Header}
use Rattle.q2_format.specs.declared.header.Place.{Place}
use Rattle.q2_format.specs.Bytes.{place_bytes}
use Rattle.q2_format.proofs.ByPlace.{bytes_from_places, length-bytes_at}
use Rattle.q2_format.proofs.NamePlaces.{offset_within}
use Rattle.q2_refs.proofs.Placing.{told_before}
use Rattle.q2_image.specs.BackingName.{IsPutBetween, stop_by, with_format_at, EndsWithFields, between_in, early_writes, ending_writes, fields_end, format_writes, last_bytes, last_writes, rename_end, text_writes, with_format, MakesFormat, known_with}
use Rattle.q2_image.specs.Image.{Known, IsImageOf, IsOpen, cluster_size_in}
use Rattle.q2_image.specs.Made.{clear_writes}
use Rattle.q2_image.specs.Writing.{TellsFault, autoclear_end, count_of}
use Rattle.q2_image.proofs.LastWrite.{length-name_fields}
use Rattle.q2_image.proofs.NameReads.{between_past, what_is_told}
use Rattle.q2_image.proofs.NameRoom.{room_in}
use Rattle.q2_image.proofs.NameSteps.{format_known, format_part, length-format_bytes, open_format, room_at}

-- The last write is short, so it lies in the first sector.

pub last_length : (h : Header) (between : List ℕ) (name : Option (List ℕ)) → length between ≡ next_extension h - 20 → 104 ≤ h.ext_end
    → 8 + length (last_bytes h between name) ≡ fields_end h
last_length h between name whole list = by_need (needs_ending h)
  where
    by_need : (t : Bool) → 8 + length (name_fields h name ++ cond t (between ++ replicate 8 0) []) ≡ cond t (next_extension h + 8) 20
    by_need true = omega (arith, length-append (name_fields h name) (between ++ replicate 8 0), length-append between (replicate 8 0), length-name_fields h name, whole, length-replicate {A = ℕ} 8 0, list)
    by_need false = omega (arith, length-append (name_fields h name) [], length-name_fields h name)

fields_low : (t named ended : Bool) (next : ℕ) → (named && not ended) ≡ t → (named ≡ true → ended ≡ false → next ≤ 504) → cond t (next + 8) 20 ≤ 512
fields_low true true false next test low = let within = low refl refl in omega (arith, within)
fields_low true true true next test low = absurd (cc test)
fields_low true false ended next test low = absurd (cc test)
fields_low false named ended next test low = omega arith

pub fields_in_sector : (image : Known) → IsOpen image → fields_end image.header ≤ 512
fields_in_sector image ready =
    let h : Header = image.header in
    fields_low (needs_ending h) (is_some h.name) h.ended (next_extension h) refl (room_in h ready.room).1

module _ {D : Type 0} (g : Ghosts D) where
  -- it is made behind others, or that stops
  pub last_told : (h : Header) (early : List Write) (name : Option (List ℕ)) (a b c : D) (between : List ℕ) → Wrote g early a b
      → ((file : List ℕ) → g.content b ≡ Some file → between ≡ between_in (after_writes file []) h)
      → (file : List ℕ) → g.content a ≡ Some file → between ≡ between_in (after_writes file early) h
  last_told h early name a b c between wrote told file was =
      told (after_writes file early) (wrote.content ∙ ap (option_map (λ bytes. after_writes bytes early)) was)

  pub last_past : (early : List Write) (a b : D) (between : List ℕ) → Wrote g early a b → AreZeroPast (g.size b) 20 between → AreZeroPast (size_after_writes (g.size a) early) 20 between
  last_past early a b between wrote past = let P : ℕ → Type 0 = λ size. AreZeroPast size 20 between in subst P wrote.size past

  pub fields_behind : (h : Header) (early : List Write) (name : Option (List ℕ)) (stop : Option DevStop) (a b c : D) → Writes g early None a b
      → EndsWithFields g h [] name stop b c → EndsWithFields g h early name stop a c
  fields_behind h early name stop a b c first (inl last) =
      let wrote = subst (λ (ws : List Write). Wrote g ws a b) first.part first.wrote in
      inl (record {
        between = last.between;
        whole = last.whole;
        told = last_told h early name a b c last.between wrote last.told;
        past = last_past early a b last.between wrote last.past;
        writes = writes_then g early (last_writes h last.between name) stop a b c first last.writes;
      })
  fields_behind h early name stop a b c first (inr fails) =
      let wrote = subst (λ (ws : List Write). Wrote g ws a b) first.part first.wrote in
      let quiet = first.cause.1 in
      let W : List Write → Type 0 = λ ws. Wrote g ws a c in
      inr (record {
        needed = fails.needed;
        count = fails.count;
        is = fails.is;
        wrote = subst W (append-nil early) (wrote-then g early [] a b c wrote fails.wrote);
        cause = subst (λ (n : ℕ). CountsFault (Some fails.count) n (g.faults c)) quiet fails.cause;
        call = fails.call;
      })

  -- Which calls fail, where there is room.

  stop_cause : (ws made : List Write) (stop : DevStop) (capacity before now : ℕ) → end_of_writes ws ≤ capacity → StopsBy (Some stop) ws made capacity before now → TellsFault stop
  stop_cause ws made (Io count) capacity before now fits cause = tt
  stop_cause ws made NoSpace capacity before now fits cause = let beyond = beyond-within g ws made capacity cause.0 in absurd (omega (arith, beyond, fits))

  pub writes_fault : (ws : List Write) (r : Result (Unit {0}) DevStop) (a b : D) → Writes g ws (stop_of r) a b → end_of_writes ws ≤ g.capacity a → IfErr r TellsFault
  writes_fault ws (Ok done) a b writes fits = tt
  writes_fault ws (Err stop) a b writes fits = stop_cause ws writes.made stop (g.capacity a) (g.faults a) (g.faults b) fits writes.cause

  pub fields_fault : (h : Header) (early : List Write) (name : Option (List ℕ)) (r : Result (Unit {0}) DevStop) (a b : D) → EndsWithFields g h early name (stop_of r) a b
      → 104 ≤ h.ext_end → end_of_writes early ≤ g.capacity a → fields_end h ≤ g.capacity a → IfErr r TellsFault
  fields_fault h early name (Ok done) a b ends list fits last_fits = tt
  fields_fault h early name (Err stop) a b (inl last) list fits last_fits =
      let end = last_length h last.between name last.whole list in
      let both = end_of_writes-append early (last_writes h last.between name) in
      stop_cause (early ++ last_writes h last.between name) last.writes.made stop (g.capacity a) (g.faults a) (g.faults b) (omega (arith, both, end, fits, last_fits)) last.writes.cause
  fields_fault h early name (Err (Io count)) a b (inr fails) list fits last_fits = tt
  fields_fault h early name (Err NoSpace) a b (inr fails) list fits last_fits = absurd (let is = fails.is in cc)

  -- A stop within the last write leaves the bytes.

  cut_nothing : (h : Header) (between : List ℕ) (name : Option (List ℕ)) (stop : DevStop) (made : List Write) → 8 + length (last_bytes h between name) ≤ 512
      → IsPart (IsCutBy stop) (last_writes h between name) made → made ≡ write_of 8 [] ∷ []
  cut_nothing h between name stop [] short part = absurd part
  cut_nothing h between name stop (m ∷ made) short (inl (same, part)) = absurd part
  cut_nothing h between name stop (m ∷ made) short (inr (cut, none)) =
      let is = cut-sector stop (write_of 8 (last_bytes h between name)) m (omega (arith, short)) cut in
      ap (λ (ms : List Write). m ∷ ms) none ∙ ap (λ (x : Write). x ∷ []) is

  nothing_changed : (o : Option (List ℕ)) → option_map (λ (b : List ℕ). b) o ≡ o
  nothing_changed None = refl
  nothing_changed (Some b) = refl

  pub fields_stopped : (image : Known) (name : Option (List ℕ)) (stop : DevStop) (a b : D) → IsOpen image → EndsWithFields g image.header [] name (Some stop) a b → g.content b ≡ g.content a
  fields_stopped image name stop a b ready (inl last) =
      let h : Header = image.header in
      let end = last_length h last.between name last.whole ready.list in
      let low = fields_in_sector image ready in
      let nothing = cut_nothing h last.between name stop last.writes.made (omega (arith, end, low)) last.writes.part in
      let wrote = subst (λ (ws : List Write). Wrote g ws a b) nothing last.writes.wrote in
      wrote.content ∙ nothing_changed (g.content a)
  fields_stopped image name stop a b ready (inr fails) = let wrote = fails.wrote in wrote.content ∙ nothing_changed (g.content a)

-- How far the writes reach.

ending_end : (image : Known) (name : Option (List ℕ)) (n : ℕ) → IsOpen image → ForSome name IsNewName → end_of_writes (ending_writes image.header name n) ≤ end_of_writes (text_writes image.header name)
ending_end image None n ready new = omega arith
ending_end image (Some name) n ready new = by_test (image.header.ended && ltb (new_name_offset image.header) (image.header.ext_end + n))
  where
    by_test : (t : Bool) → end_of_writes (cond t (write_of (image.header.ext_end - 4) (replicate 4 0) ∷ []) []) ≤ end_of_writes (write_of (new_name_offset image.header) name ∷ [])
    by_test true =
        let low = (room_in image.header ready.room).0 in
        let middle = (offset_within image.header ready.cluster_bits).0 in
        let list = ready.list in
        omega (arith, low, middle, list, length-replicate {A = ℕ} 4 0)
    by_test false = omega arith

pub clear_end : (image : Known) → end_of_writes (clear_writes image) ≤ autoclear_end image
clear_end image = elim (cases_eq image.header.autoclear 0) [
  | inl none ↦ let test = eq-eqb image.header.autoclear 0 none in rw test (omega arith)
  | inr some ↦ let test = ne_eqb image.header.autoclear 0 some in rw test (omega arith)
]

pub early_end : (image : Known) (name format : Option (List ℕ)) (n : ℕ) → IsOpen image → ForSome name IsNewName
    → end_of_writes (early_writes image n name format) ≤ rename_end image name format
early_end image name format n ready new =
    let h : Header = image.header in
    let clear = clear_end image in
    let ending = ending_end image name n ready new in
    let three = end_of_writes-append (format_writes h format) (ending_writes h name n) in
    let two = end_of_writes-append (text_writes h name) (format_writes h format ++ ending_writes h name n) in
    let one = end_of_writes-append (clear_writes image) (text_writes h name ++ (format_writes h format ++ ending_writes h name n)) in
    omega (arith, clear, ending, three, two, one)

-- The write of a format.

module _ {D : Type 0} (g : Ghosts D) where
  pub whole_write : (at : ℕ) (bytes : List ℕ) (a b : D) → Wrote g (write_of at bytes ∷ []) a b → at + length bytes ≤ g.capacity a → g.faults b ≡ g.faults a
      → g.failed_call b ≡ g.failed_call a → Writes g (write_of at bytes ∷ []) None a b
  whole_write at bytes a b wrote fits quiet call = record { made = write_of at bytes ∷ []; part = refl; wrote = wrote; cause = (omega (arith, fits), quiet); call = call }

  pub stopped_write : (at done : ℕ) (bytes : List ℕ) (reason : Stop) (a b : D) → Wrote g (write_of at (take done bytes) ∷ []) a b
      → (reason ≡ why.NoSpace → (g.capacity a < at + length bytes) × (done ≡ 0) × (g.faults b ≡ g.faults a))
      → (reason ≡ why.Failed → (at + length bytes ≤ g.capacity a) × IsFailedWrite at done (length bytes) (g.faults a) (g.faults b))
      → IsWriteAfterStop reason (calls.Write at (length bytes)) (g.failed_call a) (g.failed_call b)
      → (all : Writes g (write_of at bytes ∷ []) (Some (stop_by reason (g.faults b))) a b) × (all.made ≡ write_of at (take done bytes) ∷ [])
  stopped_write at done bytes why.Failed a b wrote no_space failed call =
      let stopped = (failed refl).1 in (
        record {
          made = write_of at (take done bytes) ∷ [];
          part = inr (record { n = done; short = stopped.part; sector = stopped.sector; first = refl }, refl);
          wrote = wrote;
          cause = ((write_of at bytes, refl, (failed refl).0), stopped.rose, refl);
          call = write_failed at (g.faults b) bytes (write_of at (take done bytes)) why.Failed (g.failed_call a) (g.failed_call b) refl call;
        },
        refl,
      )
  stopped_write at done bytes why.NoSpace a b wrote no_space failed call =
      let refused = no_space refl in (
        record {
          made = write_of at (take done bytes) ∷ [];
          part = inr (ap (λ (n : ℕ). write_of at (take n bytes)) refused.1, refl);
          wrote = wrote;
          cause = ((write_of at bytes, refl, refused.0), refused.2);
          call = call;
        },
        refl,
      )

pub format_writes_at : (h : Header) (format : List ℕ) (p : Place) → format_room h ≡ Some p → format_writes h (Some format) ≡ write_of (p.at - 4) (format_bytes format) ∷ []
format_writes_at h format p room = ap (λ (o : Option Place). option_map_or (λ (place : Place). write_of (place.at - 4) (format_bytes format) ∷ []) o []) room

pub format_named : (image : Known) (format : List ℕ) (p : Place) → format_room image.header ≡ Some p
    → with_format_at image (record { at = p.at; len = length format }) ≡ with_format image (Some format)
format_named image format p room =
    ap (λ (o : Option Place). record image { header = record image.header { format = option_map_or (λ (place : Place). Some (record { at = place.at; len = length format })) o image.header.format } }) (sym room)

pub format_is_open : (image : Known) (format : List ℕ) (p : Place) → IsOpen image → format_room image.header ≡ Some p → IsNewFormat format
    → IsOpen (with_format_at image (record { at = p.at; len = length format }))
format_is_open image format p ready room new = open_format image p (length format) ready (room_at image.header p room) new.1

-- the image of a file into which so many of its bytes were written
module _ (o n : Option (List ℕ)) (image : Known) (format : List ℕ) (p : Place) (k : ℕ) (of_image : (file : List ℕ) → o ≡ Some file → IsImageOf file image) (ready : IsOpen image)
    (room : format_room image.header ≡ Some p) (new : IsNewFormat format) (is : n ≡ option_map (λ b. with_bytes b (p.at - 4) (take k (format_bytes format))) o) where
  format_told : (file : List ℕ) → n ≡ Some file → IsImageOf file (format_known image format k)
  format_told file told =
      let was = told_before (λ b. with_bytes b (p.at - 4) (take k (format_bytes format))) o n file is told in
      let P : List ℕ → Type 0 = λ f. IsImageOf f (format_known image format k) in
      subst P was.2 (format_part was.0 image (of_image was.0 was.1) ready format new p room k).image

  pub format_short : k < 4 → (file : List ℕ) → n ≡ Some file → IsImageOf file image
  format_short short file told =
      let P : Bool → Type 0 = λ t. IsImageOf file (cond t image (with_format image (Some format))) in
      subst P (lt-ltb k 4 short) (format_told file told)

  pub format_past : 4 ≤ k → (file : List ℕ) → n ≡ Some file → IsImageOf file (with_format image (Some format))
  format_past past file told =
      let P : Bool → Type 0 = λ t. IsImageOf file (cond t image (with_format image (Some format))) in
      subst P (le-ltb k 4 past) (format_told file told)

pub format_whole : (o n : Option (List ℕ)) (image : Known) (format : List ℕ) (p : Place) → ((file : List ℕ) → o ≡ Some file → IsImageOf file image) → IsOpen image
    → format_room image.header ≡ Some p → IsNewFormat format → n ≡ option_map (λ b. with_bytes b (p.at - 4) (format_bytes format)) o
    → (file : List ℕ) → n ≡ Some file → IsImageOf file (with_format image (Some format))
format_whole o n image format p of_image ready room new is =
    let bytes : List ℕ = format_bytes format in
    let len = length-format_bytes format new.1 in
    let P : List ℕ → Type 0 = λ xs. n ≡ option_map (λ b. with_bytes b (p.at - 4) xs) o in
    format_past o n image format p (length bytes) of_image ready room new (subst P (sym (take-length bytes)) is) (four_of (length bytes) len)
  where
    four_of : (n : ℕ) → n ≡ 12 → 4 ≤ n
    four_of n is = omega (arith, is)

-- The same as its call answers.

module _ {D : Type 0} (g : Ghosts D) (image : Known) (format bytes : List ℕ) (p : Place) (room : format_room image.header ≡ Some p) (same : bytes ≡ format_bytes format) (a b : D) where
  -- the first of its bytes are as many as those of a part
  few_bytes : (done : ℕ) → IsNewFormat format → ltb (length (take done bytes)) 4 ≡ ltb done 4
  few_bytes done new =
      let len = ap (λ (bs : List ℕ). length bs) same ∙ length-format_bytes format new.1 in
      let cut = length-take done bytes in
      elim (cases_lt done 4) [
        | inl few ↦ lt-ltb (length (take done bytes)) 4 (omega (arith, cut, len, few)) ∙ sym (lt-ltb done 4 few)
        | inr many ↦ le-ltb (length (take done bytes)) 4 (omega (arith, cut, len, many)) ∙ sym (le-ltb done 4 many)
      ]

  pub format_stopped : (done : ℕ) (reason : Stop) (r : DevStop) (left : Known) → r ≡ stop_by reason (g.faults b) → Wrote g (write_of (p.at - 4) (take done bytes) ∷ []) a b
      → (reason ≡ why.NoSpace → (g.capacity a < p.at - 4 + length bytes) × (done ≡ 0) × (g.faults b ≡ g.faults a))
      → (reason ≡ why.Failed → (p.at - 4 + length bytes ≤ g.capacity a) × IsFailedWrite (p.at - 4) done (length bytes) (g.faults a) (g.faults b))
      → IsWriteAfterStop reason (calls.Write (p.at - 4) (length bytes)) (g.failed_call a) (g.failed_call b) → IsNewFormat format → left ≡ cond (ltb done 4) image (with_format image (Some format)) → MakesFormat g image (Some format) (Some r) left a b
  format_stopped done reason r left is wrote no_space failed call new known =
      let part : List Write = write_of (p.at - 4) (take done bytes) ∷ [] in
      let W : List Write → Type 0 = λ ws. (all : Writes g ws (Some r) a b) × (all.made ≡ part) in
      let B : List ℕ → Type 0 = λ bs. W (write_of (p.at - 4) bs ∷ []) in
      let R : DevStop → Type 0 = λ x. (all : Writes g (write_of (p.at - 4) bytes ∷ []) (Some x) a b) × (all.made ≡ part) in
      let all : W (format_writes image.header (Some format)) = subst W (sym (format_writes_at image.header format p room)) (subst B same (subst R (sym is) (stopped_write g (p.at - 4) done bytes reason a b wrote no_space failed call))) in
      record {
        writes = all.0;
        known = known ∙ ap (λ (t : Bool). cond t image (with_format image (Some format))) (sym (few_bytes done new)) ∙ ap (known_with image (Some format)) (sym all.1);
      }

  -- before its length is written, and behind that
  pub known_before : (done : ℕ) → done < 4 → image ≡ cond (ltb done 4) image (with_format image (Some format))
  known_before done few = ap (λ (t : Bool). cond t image (with_format image (Some format))) (sym (lt-ltb done 4 few))

  pub known_past : (done : ℕ) (left : Known) → 4 ≤ done → left ≡ with_format_at image (record { at = p.at; len = length format }) → left ≡ cond (ltb done 4) image (with_format image (Some format))
  known_past done left many known = known ∙ format_named image format p room ∙ ap (λ (t : Bool). cond t image (with_format image (Some format))) (sym (le-ltb done 4 many))

  module _ (of_image : (file : List ℕ) → g.content a ≡ Some file → IsImageOf file image) (ready : IsOpen image) (new : IsNewFormat format) (now : Known)
      (known : now ≡ with_format_at image (record { at = p.at; len = length format })) where
    is_known : now ≡ with_format image (Some format)
    is_known = known ∙ format_named image format p room

    pub format_done : g.content b ≡ option_map (λ f. with_bytes f (p.at - 4) bytes) (g.content a) → (file : List ℕ) → g.content b ≡ Some file → IsImageOf file now
    format_done is file told =
        let B : List ℕ → Type 0 = λ bs. g.content b ≡ option_map (λ f. with_bytes f (p.at - 4) bs) (g.content a) in
        subst (IsImageOf file) (sym is_known) (format_whole (g.content a) (g.content b) image format p of_image ready room new (subst B same is) file told)

    pub format_behind : (k : ℕ) → 4 ≤ k → g.content b ≡ option_map (λ f. with_bytes f (p.at - 4) (take k bytes)) (g.content a)
        → (file : List ℕ) → g.content b ≡ Some file → IsImageOf file now
    format_behind k past is file told =
        let B : List ℕ → Type 0 = λ bs. g.content b ≡ option_map (λ f. with_bytes f (p.at - 4) (take k bs)) (g.content a) in
        subst (IsImageOf file) (sym is_known) (format_past (g.content a) (g.content b) image format p k of_image ready room new (subst B same is) past file told)

  pub format_before : ((file : List ℕ) → g.content a ≡ Some file → IsImageOf file image) → IsOpen image → IsNewFormat format
      → (k : ℕ) → k < 4 → g.content b ≡ option_map (λ f. with_bytes f (p.at - 4) (take k bytes)) (g.content a)
      → (file : List ℕ) → g.content b ≡ Some file → IsImageOf file image
  format_before of_image ready new k short is file told =
      let B : List ℕ → Type 0 = λ bs. g.content b ≡ option_map (λ f. with_bytes f (p.at - 4) (take k bs)) (g.content a) in
      format_short (g.content a) (g.content b) image format p k of_image ready room new (subst B same is) short file told

pub format_low : (image : Known) (p : Place) → IsOpen image → format_room image.header ≡ Some p → 4 ≤ p.at
format_low image p ready room =
    let at = room_at image.header p room in
    let F : Option Place → Type 0 = λ f. IfSome f (LiesWithin 104 (cluster_size_in image)) in
    let lies : LiesWithin 104 (cluster_size_in image) p = subst F at.format ready.format in
    let begins = lies.begins in
    omega (arith, begins)

-- What was read.

take-append-add : (xs ys : List ℕ) (n : ℕ) → take (length xs + n) (xs ++ ys) ≡ xs ++ take n ys
take-append-add [] ys n = let e : 0 + n ≡ n = omega arith in ap (λ (k : ℕ). take k ys) e
take-append-add (x ∷ xs) ys n =
    let e : suc (length xs) + n ≡ suc (length xs + n) = omega arith in
    ap (λ (k : ℕ). take k (x ∷ (xs ++ ys))) e ∙ ap (λ (l : List ℕ). x ∷ l) (take-append-add xs ys n)

take_front : (xs ys : List ℕ) (n m : ℕ) → length xs ≡ n → take (n + m) (xs ++ ys) ≡ xs ++ take m ys
take_front xs ys n m len = ap (λ (k : ℕ). take (k + m) (xs ++ ys)) (sym len) ∙ take-append-add xs ys m

-- the rest of a buffer that was zeros
rest_zeros : (rest mid old : List ℕ) (n i : ℕ) → old ≡ replicate 512 0 → mid ≡ drop 12 old → rest ≡ drop n mid → n + 20 ≤ 512 → i < 8 → get_or rest i 0 ≡ 0
rest_zeros rest mid old n i zeros first later room below =
    ap (λ (xs : List ℕ). get_or xs i 0) later ∙ get_or-drop n mid i 0 ∙ ap (λ (xs : List ℕ). get_or xs (n + i) 0) first ∙ get_or-drop 12 old (n + i) 0
    ∙ ap (λ (xs : List ℕ). get_or xs (12 + (n + i)) 0) zeros ∙ get_or-replicate 512 (12 + (n + i)) 0 0 (omega (arith, room, below))

eight_of : (rest : List ℕ) → 8 ≤ length rest → ((i : ℕ) → i < 8 → get_or rest i 0 ≡ 0) → take {A = ℕ} 8 rest ≡ replicate 8 0
eight_of rest enough zeros =
    let cut = length-take {A = ℕ} 8 rest in
    let own = length-replicate {A = ℕ} 8 0 in
    ext_get_or 0 (take 8 rest) (replicate 8 0) (omega (arith, cut, own, enough))
    (λ i below.
    let short : i < 8 = omega (arith, below, cut) in
    get_or-take 8 rest i 0 short ∙ zeros i short ∙ sym (get_or-replicate 8 i 0 0 short))

-- the fields, and behind them what was read and zeros
pub put_between : (fields front between rest mid old : List ℕ) (n : ℕ) (told : Option (List ℕ)) (size : ℕ) → length fields ≡ 12 → front ≡ fields → length between ≡ n
    → old ≡ replicate 512 0 → mid ≡ drop 12 old → rest ≡ drop n mid → 8 ≤ length rest → n + 20 ≤ 512
    → ((file : List ℕ) → told ≡ Some file → between ≡ content.bytes_at file 20 n) → AreZeroPast size 20 between → IsPutBetween fields n told size (front ++ (between ++ rest))
put_between fields front between rest mid old n told size twelve same whole zeros first later enough room read past = record {
  between = between;
  whole = whole;
  is = read;
  past = past;
  put =
      ap (λ (xs : List ℕ). take (n + 20) (xs ++ (between ++ rest))) same
      ∙ ap (λ (k : ℕ). take k (fields ++ (between ++ rest))) (omega arith) ∙ take_front fields (between ++ rest) 12 (n + 8) twelve
      ∙ ap (λ (xs : List ℕ). fields ++ xs) (take_front between rest n 8 whole
      ∙ ap (λ (xs : List ℕ). between ++ xs) (eight_of rest enough (λ i below. rest_zeros rest mid old n i zeros first later room below)));
}

-- The last write is made, alone or behind what was read.

module _ {D : Type 0} (g : Ghosts D) (image : Known) (name : Option (List ℕ)) (fields : List ℕ) (fields_are : fields ≡ name_fields image.header name) where
  abbrev lh : Header
  lh = image.header

  pub fields_alone : (stop : Option DevStop) (a b : D) → ((file : List ℕ) → g.content a ≡ Some file → g.size a ≡ length file) → needs_ending lh ≡ false → Writes g (write_of 8 fields ∷ []) stop a b → EndsWithFields g lh [] name stop a b
  fields_alone stop a b sized none writes =
      let between : List ℕ = between_in (what_is_told (g.content a)) lh in
      let bytes : last_bytes lh between name ≡ fields = ap (λ (t : Bool). name_fields lh name ++ cond t (between ++ replicate 8 0) []) none ∙ append-nil (name_fields lh name) ∙ sym fields_are in
      let W : List ℕ → Type 0 = λ bs. Writes g (write_of 8 bs ∷ []) stop a b in
      inl (record {
        between = between;
        whole = length-bytes_at (what_is_told (g.content a)) 20 (next_extension lh - 20);
        told = λ file was. ap (λ (o : Option (List ℕ)). between_in (what_is_told o) lh) was;
        past = between_past (g.content a) (g.size a) [] lh sized;
        writes = subst W (sym bytes) writes;
      })

  pub fields_read : (stop : Option DevStop) (buffer : List ℕ) (n : ℕ) (a b c : D) → needs_ending lh ≡ true → n ≡ next_extension lh - 20
      → IsPutBetween fields n (g.content a) (g.size a) buffer → Untouched g a b → Writes g (write_of 8 (take (n + 20) buffer) ∷ []) stop b c → EndsWithFields g lh [] name stop a c
  fields_read stop buffer n a b c some is put quiet writes =
      let between : List ℕ = put.between in
      let bytes : take (n + 20) buffer ≡ last_bytes lh between name =
      put.put ∙ ap (λ (xs : List ℕ). xs ++ (between ++ replicate 8 0)) fields_are ∙ ap (λ (t : Bool). name_fields lh name ++ cond t (between ++ replicate 8 0) []) (sym some) in
      let W : List ℕ → Type 0 = λ bs. Writes g (write_of 8 bs ∷ []) stop b c in
      inl (record {
        between = between;
        whole = put.whole ∙ is;
        told = λ file was. by_place file between n is (put.is file was) put.whole;
        past = put.past;
        writes = writes_then g [] (last_writes lh between name) stop a b c (untouched-writes g a b quiet) (subst W bytes writes);
      })
    where
      by_place : (file between : List ℕ) (n : ℕ) → n ≡ next_extension lh - 20 → between ≡ content.bytes_at file 20 n → length between ≡ n → between ≡ between_in file lh
      by_place file between n is read whole =
          bytes_from_places file between 20 (λ k below. ap (λ (b : List ℕ). get_or b k 0) read ∙ get_or-bytes_at file 20 n k (omega (arith, below, whole)))
          ∙ ap (λ (m : ℕ). place_bytes file 20 m) (whole ∙ is)

  pub read_failed : {A : Type 0} (early : List Write) (needed : needs_ending lh ≡ true) (r : Result A DevStop) (stop : DevStop) (a b : D) → r ≡ Err stop → Reads g (count_of r) a b → OnErr r (FailedLast (calls.Read 20 (next_extension lh - 20)) (g.failed_call b))
      → IfErr r TellsFault → EndsWithFields g lh [] name (Some stop) a b
  read_failed {A} early needed r (Io count) a b is reads call cause =
      let R : Option ℕ → Type 0 = λ o. Reads g o a b in
      let L : Result A DevStop → Type 0 = λ x. OnErr x (FailedLast (calls.Read 20 (next_extension lh - 20)) (g.failed_call b)) in
      let here : Reads g (Some count) a b = subst R (ap count_of is) reads in
      inr (record { needed = needed; count = count; is = refl; wrote = only_reads-wrote g a b here.reads; cause = here.cause; call = subst L is call })
  read_failed {A} early needed r NoSpace a b is reads call cause =
      let P : Result A DevStop → Type 0 = λ x. IfErr x TellsFault in
      absurd (subst P is cause)

-- with such a list the ending extension goes where the next one would begin
pub place_needed : (h : Header) → needs_ending h ≡ true → ending_place h ≡ next_extension h
place_needed h some = by_tests (is_some h.name) h.ended some
  where
    by_tests : (a b : Bool) → (a && not b) ≡ true → cond b (h.ext_end - 8) (next_extension h) ≡ next_extension h
    by_tests a false test = refl
    by_tests true true test = absurd (cc test)
    by_tests false true test = absurd (cc test)
