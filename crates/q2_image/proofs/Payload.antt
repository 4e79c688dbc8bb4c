-- A write into a host cluster in which no guest byte lies.
use Rattle.std.proofs.Common.{◌≡◌, ◌≢◌, ℕ, ◌+◌, ◌*◌, ◌/◌, ◌%◌, ◌<◌, ◌≤◌, inl, inr, max, List, [], ◌∷◌, length, get_or, take, Option, Some, None, option_map, Result, Ok, Err, OnOk, refl, sym, ap, subst, ◌∙◌, arith}
use Rattle.std.proofs.lemmas.Bool.{cases_eq}
use Rattle.std.proofs.lemmas.List.{length-take, take_all}
use Rattle.blk_base.specs.Content.{Write, with_bytes, size_with}
use Rattle.blk_base.specs.Device.{IsMade, Wrote, Writes, stop_of}
use Rattle.blk_base.specs.Writes.{write_of, first_bytes}
use Rattle.blk_base.specs.declared.device.Device.{Ghosts}
use Rattle.blk_base.specs.declared.fault.DevStop.{DevStop}
use Rattle.blk_base.proofs.Contents.{length-with_bytes}
use Rattle.blk_base.proofs.WriteLists.{cut-bytes}
use Rattle.q2_format.specs.Bytes.{place_bytes}
use Rattle.q2_format.specs.Header.{header_of}
use Rattle.q2_format.specs.Sizes.{cluster_size}
use Rattle.q2_format.specs.declared.header.Header.{Header}
use Rattle.q2_format.specs.declared.entries.L2Entry.{L2Entry}
use Rattle.q2_format.specs.declared.entries.L2Entry.TheVariants.{Zero, Host}
use Rattle.q2_format.proofs.ByPlace.{bytes_at-written}
use Rattle.q2_refs.proofs.Placing.{told_before, written_with, short_file}
use Rattle.q2_refs.proofs.Steps.{byte_stays}
use Rattle.q2_refs.proofs.Writes.{IsWithin}
use Rattle.q2_image.specs.Image.{Known, IsImageOf, IsOpen, cluster_size_in, entry_in}
use Rattle.q2_image.specs.Writing.{IsSameDisk, IsSpare, HoldsNoGuestByte}
use Rattle.q2_image.proofs.DataWrites.{HoldsNoTable, KeepsTables, tables_kept, image_kept, spare_kept}
use Rattle.q2_image.proofs.HostUses.{host_entry, zero_entry, spare_holds, spare_unnamed, owners_differ, held_by, size_in}
use Rattle.q2_image.proofs.DiskKept.{same_disk}
use Rattle.q2_image.proofs.Taken.{step_of}

not_both : (e : L2Entry) (a b : ℕ) → e ≡ Zero a → e ≡ Host b → ⊥
not_both e a b zero host = absurd (cc)

longer : (size at : ℕ) (bytes : List ℕ) → (size ≤ size_with size at bytes) × (size_with size at bytes ≤ max size (at + length bytes))
longer size at [] = (omega arith, omega arith)
longer size at (byte ∷ bytes) = (omega arith, omega arith)

-- a write of some bytes into the cluster at an offset, which holds no table
module _ (old : List ℕ) (image : Known) (at place : ℕ) (bytes : List ℕ) (is : IsImageOf old image) (ready : IsOpen image)
    (free : HoldsNoTable old (at / 65536)) (low : at / 65536 * 65536 ≤ place) (high : place + length bytes ≤ at / 65536 * 65536 + 65536) (small : at < 549755813888) where
  abbrev new : List ℕ
  new = with_bytes old place bytes

  size : cluster_size (header_of old).cluster_bits ≡ 65536
  size = let b = ap (λ (h : Header). h.cluster_bits) is.header ∙ ready.cluster_bits in rw b refl

  within : IsWithin (at / 65536) (cluster_size (header_of old).cluster_bits) place bytes
  within = rw size (record { low = low; high = high })

  grown : (length old ≤ length new) × (length new ≤ 549755813888)
  grown =
      let len = length-with_bytes old place bytes in
      let short = short_file old image.refs (step_of old image is) in
      let more = longer (length old) place bytes in
      (omega (arith, len, more.0), omega (arith, len, more.1, short, low, high, small))

  pub tables_stay : KeepsTables old new
  tables_stay = tables_kept old new (at / 65536) place bytes is.sound free (written_with old place bytes) within grown.0 grown.1

  pub byte_outside : (i : ℕ) → i / 65536 ≢ at / 65536 → get_or new i 0 ≡ get_or old i 0
  byte_outside i other = byte_stays old new (at / 65536) 65536 place i bytes (omega arith) (written_with old place bytes) (record { low = low; high = high }) other

-- What lies idle.

idle_free : (old : List ℕ) (image : Known) (at : ℕ) → IsImageOf old image → IsOpen image → HoldsNoGuestByte 65536 old image at → HoldsNoTable old (at / 65536)
idle_free old image at is ready (inl spare) = spare_holds old image is (at / 65536) spare.unnamed
idle_free old image at is ready (inr (q, below, entry, some)) =
    (held_by old image is ready q at below (zero_entry (get_or image.tables.words q 0) at entry) (λ none. omega arith)).holds.free

idle_other : (old : List ℕ) (image : Known) (at : ℕ) → IsImageOf old image → IsOpen image → HoldsNoGuestByte 65536 old image at
    → (q host : ℕ) → q < length image.tables.words → entry_in image q ≡ Host host → host / 65536 ≢ at / 65536
idle_other old image at is ready (inl spare) q host below entry =
    let own = host_entry (get_or image.tables.words q 0) host entry in
    let size = size_in image ready in
    λ same. spare_unnamed old image is q (at / 65536) below spare.unnamed (λ none. own.1 (sym own.0 ∙ none))
    (ap (λ (n : ℕ). n / cluster_size_in image) own.0 ∙ ap (λ (n : ℕ). host / n) size ∙ same)
idle_other old image at is ready (inr (p, below_p, entry_p, some)) q host below entry =
    let own = host_entry (get_or image.tables.words q 0) host entry in
    let other = zero_entry (get_or image.tables.words p 0) at entry_p in
    let size = size_in image ready in
    λ same. elim (cases_eq q p) [
      | inl here ↦ not_both (entry_in image p) at host entry_p (ap (entry_in image) (sym here) ∙ entry)
      | inr differ ↦ owners_differ old image is q p below below_p differ (λ none. own.1 (sym own.0 ∙ none)) (λ none. omega (arith, none, other, some))
          (ap (λ (n : ℕ). n / cluster_size_in image) own.0 ∙ ap (λ (n : ℕ). host / n) size ∙ same ∙ ap (λ (n : ℕ). at / n) (sym size) ∙ ap (λ (n : ℕ). n / cluster_size_in image) (sym other))
    ]

-- So a write there changes no byte of the disk.
module _ (old : List ℕ) (image : Known) (at : ℕ) (bytes : List ℕ) (is : IsImageOf old image) (ready : IsOpen image)
    (idle : HoldsNoGuestByte 65536 old image at) (whole : at % 65536 ≡ 0) (short : length bytes ≤ 65536) (small : at < 549755813888) where
  free : HoldsNoTable old (at / 65536)
  free = idle_free old image at is ready idle

  low : at / 65536 * 65536 ≤ at
  low = omega arith

  high : at + length bytes ≤ at / 65536 * 65536 + 65536
  high = omega (arith, whole, short)

  pub payload_tables : KeepsTables old (with_bytes old at bytes)
  payload_tables = tables_stay old image at at bytes is ready free low high small

  pub payload_image : IsImageOf (with_bytes old at bytes) image
  payload_image = image_kept old (with_bytes old at bytes) payload_tables image is

  pub payload_disk : IsSameDisk old (with_bytes old at bytes)
  payload_disk =
      same_disk old (with_bytes old at bytes) image image (record { old_image = is; new_image = payload_image; old_open = ready; new_open = ready; size = refl }) (λ q below. refl)
      (λ q below. λ host i entry inside.
      let own = host_entry (get_or image.tables.words q 0) host entry in
      let held = held_by old image is ready q host below own.0 own.1 in
      let aligned = held.whole in
      let place : (host + i) / 65536 ≡ host / 65536 = omega (arith, aligned, inside) in
      byte_outside old image at at bytes is ready free low high small (host + i) (λ same. idle_other old image at is ready idle q host below entry (sym place ∙ same)))

-- The same of what a device tells.

pub told_now : (f : List ℕ → List ℕ) (o n : Option (List ℕ)) (old new : List ℕ) → n ≡ option_map f o → o ≡ Some old → n ≡ Some new → f old ≡ new
told_now f o n old new is was told = let e : option_map f (Some old) ≡ Some new = ap (option_map f) (sym was) ∙ sym is ∙ told in cc

module _ (o n : Option (List ℕ)) (image : Known) (at : ℕ) (bytes : List ℕ) (is : n ≡ option_map (λ b. with_bytes b at bytes) o)
    (of_image : (file : List ℕ) → o ≡ Some file → IsImageOf file image) (ready : IsOpen image) (idle : (file : List ℕ) → o ≡ Some file → HoldsNoGuestByte 65536 file image at)
    (whole : (file : List ℕ) → o ≡ Some file → at % 65536 ≡ 0) (short : length bytes ≤ 65536) (small : at < 549755813888) where
  pub told_image : (file : List ℕ) → n ≡ Some file → IsImageOf file image
  told_image file told =
      let was = told_before (λ b. with_bytes b at bytes) o n file is told in
      let P : List ℕ → Type 0 = λ f. IsImageOf f image in
      subst P was.2 (payload_image was.0 image at bytes (of_image was.0 was.1) ready (idle was.0 was.1) (whole was.0 was.1) short small)

  pub told_disk : (old new : List ℕ) → o ≡ Some old → n ≡ Some new → IsSameDisk old new
  told_disk old new was told =
      let P : List ℕ → Type 0 = IsSameDisk old in
      subst P (told_now (λ b. with_bytes b at bytes) o n old new is was told) (payload_disk old image at bytes (of_image old was) ready (idle old was) (whole old was) short small)

  pub told_spare : (old new : List ℕ) (k : ℕ) → o ≡ Some old → n ≡ Some new → IsSpare old k → IsSpare new k
  told_spare old new k was told spare =
      let P : List ℕ → Type 0 = λ f. IsSpare f k in
      subst P (told_now (λ b. with_bytes b at bytes) o n old new is was told)
      (spare_kept old (with_bytes old at bytes) (payload_tables old image at bytes (of_image old was) ready (idle old was) (whole old was) short small) k spare)

pub told_written : (o n : Option (List ℕ)) (at : ℕ) (bytes : List ℕ) → n ≡ option_map (λ b. with_bytes b at bytes) o → length bytes ≡ 65536
    → (file : List ℕ) → n ≡ Some file → place_bytes file at 65536 ≡ bytes
told_written o n at bytes is whole file told =
    let was = told_before (λ b. with_bytes b at bytes) o n file is told in
    let P : List ℕ → Type 0 = λ f. place_bytes f at 65536 ≡ bytes in
    let here : place_bytes (with_bytes was.0 at bytes) at 65536 ≡ bytes =
    ap (place_bytes (with_bytes was.0 at bytes) at) (sym whole) ∙ bytes_at-written was.0 (with_bytes was.0 at bytes) at bytes (written_with was.0 at bytes) in
    subst P was.2 here

part_short : (done : ℕ) (bytes : List ℕ) → length bytes ≤ 65536 → length (take done bytes) ≤ 65536
part_short done bytes h = omega (arith, length-take done bytes, h)

-- what is made of one write
pub one_made : (stop : Option DevStop) (w : Write) (made : List Write) → IsMade stop (w ∷ []) made → (k : ℕ) × (made ≡ first_bytes k w ∷ [])
one_made None w made is =
    (length w.bytes, is ∙ ap (λ (bs : List ℕ). write_of w.offset bs ∷ []) (sym (take_all (length w.bytes) w.bytes (omega arith))))
one_made (Some stop) w [] part = absurd part
one_made (Some stop) w (m ∷ made) (inl (same, part)) = absurd part
one_made (Some stop) w (m ∷ made) (inr (cut, none)) =
    let bytes = cut-bytes stop w m cut in
    (bytes.0, ap (λ (ms : List Write). m ∷ ms) none ∙ ap (λ (x : Write). x ∷ []) bytes.1)

-- The same of one write, made or in part.
module _ {D : Type 0} (g : Ghosts D) (image : Known) (at : ℕ) (bytes : List ℕ) (stop : Option DevStop) (a b : D) (writes : Writes g (write_of at bytes ∷ []) stop a b)
    (of_image : (file : List ℕ) → g.content a ≡ Some file → IsImageOf file image) (ready : IsOpen image)
    (idle : (file : List ℕ) → g.content a ≡ Some file → HoldsNoGuestByte 65536 file image at)
    (whole : (file : List ℕ) → g.content a ≡ Some file → at % 65536 ≡ 0) (short : length bytes ≤ 65536) (small : at < 549755813888) where
  first : (k : ℕ) × (writes.made ≡ first_bytes k (write_of at bytes) ∷ [])
  first = one_made stop (write_of at bytes) writes.made writes.part

  abbrev some : List ℕ
  some = take first.0 bytes

  content : g.content b ≡ option_map (λ f. with_bytes f at some) (g.content a)
  content =
      let wrote : Wrote g (first_bytes first.0 (write_of at bytes) ∷ []) a b = subst (λ (ws : List Write). Wrote g ws a b) first.1 writes.wrote in
      wrote.content

  pub image_written : (file : List ℕ) → g.content b ≡ Some file → IsImageOf file image
  image_written = told_image (g.content a) (g.content b) image at some content of_image ready idle whole (part_short first.0 bytes short) small

  pub disk_written : (old new : List ℕ) → g.content a ≡ Some old → g.content b ≡ Some new → IsSameDisk old new
  disk_written = told_disk (g.content a) (g.content b) image at some content of_image ready idle whole (part_short first.0 bytes short) small

  pub spare_written : (old new : List ℕ) (k : ℕ) → g.content a ≡ Some old → g.content b ≡ Some new → IsSpare old k → IsSpare new k
  spare_written = told_spare (g.content a) (g.content b) image at some content of_image ready idle whole (part_short first.0 bytes short) small

pub bytes_written : {D : Type 0} (g : Ghosts D) (at : ℕ) (bytes : List ℕ) (r : Result (Unit {0}) DevStop) (a b : D) → Writes g (write_of at bytes ∷ []) (stop_of r) a b
    → length bytes ≡ 65536 → OnOk r ((file : List ℕ) → g.content b ≡ Some file → place_bytes file at 65536 ≡ bytes)
bytes_written g at bytes (Ok done) a b writes whole =
    let wrote : Wrote g (write_of at bytes ∷ []) a b = subst (λ (ws : List Write). Wrote g ws a b) writes.part writes.wrote in
    told_written (g.content a) (g.content b) at bytes wrote.content whole
bytes_written g at bytes (Err stop) a b writes whole = tt
