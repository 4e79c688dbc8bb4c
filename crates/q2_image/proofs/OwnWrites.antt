-- A write in place: into the host cluster of one guest cluster.
use Rattle.std.proofs.Common.{◌≡◌, ◌≢◌, ℕ, ◌+◌, ◌*◌, ◌/◌, ◌%◌, ◌<◌, ◌≤◌, inl, inr, List, length, get_or, refl, sym, ap, subst, ◌∙◌, arith}
use Rattle.std.proofs.lemmas.Bool.{cases_eq}
use Rattle.blk_base.specs.Content.{with_bytes}
use Rattle.q2_format.specs.Contents.{guest_byte, byte_by_entry}
use Rattle.q2_format.specs.References.{own_offset}
use Rattle.q2_format.specs.declared.header.Header.{Header}
use Rattle.q2_format.specs.declared.entries.L2Entry.TheVariants.{Host}
use Rattle.q2_refs.proofs.Placing.{written_with}
use Rattle.q2_image.specs.Image.{Known, IsImageOf, IsOpen, cluster_size_in, entry_in}
use Rattle.q2_image.specs.Writing.{IsDiskWith, IsSameDisk}
use Rattle.q2_image.proofs.DataWrites.{KeepsTables, image_kept}
use Rattle.q2_image.proofs.HostUses.{IsHeld, host_entry, held_by, owners_differ, size_in}
use Rattle.q2_image.proofs.DiskKept.{AreImages, HostStays, in_words, guest_by_entry, same_byte, same_size}
use Rattle.q2_image.proofs.Payload.{tables_stay, byte_outside}

-- One change of the disk behind none.
pub disk_then : (old mid new : List ℕ) (at : ℕ) (bytes : List ℕ) → IsSameDisk old mid → IsDiskWith mid new at bytes → IsDiskWith old new at bytes
disk_then old mid new at bytes first next =
    let size = first.size in
    record {
      size = next.size ∙ first.size;
      inside = λ backing i h below. next.inside backing i h (omega (arith, size, below));
      outside = λ backing place below side. next.outside backing place (omega (arith, size, below)) side ∙ first.outside backing place below (inr (omega arith));
    }

-- and none behind one
pub then_same : (old mid new : List ℕ) (at : ℕ) (bytes : List ℕ) → IsDiskWith old mid at bytes → IsSameDisk mid new → IsDiskWith old new at bytes
then_same old mid new at bytes first next =
    let size = first.size in
    record {
      size = next.size ∙ first.size;
      inside = λ backing i h below. next.outside backing (at + i) (omega (arith, size, below)) (inr (omega arith)) ∙ first.inside backing i h below;
      outside = λ backing place below side. next.outside backing place (omega (arith, size, below)) (inr (omega arith)) ∙ first.outside backing place below side;
    }

module _ (old : List ℕ) (image : Known) (start host : ℕ) (bytes : List ℕ) (is : IsImageOf old image) (ready : IsOpen image)
    (below : start / 65536 < length image.tables.words) (entry : entry_in image (start / 65536) ≡ Host host) (within : start % 65536 + length bytes ≤ 65536) (small : host < 549755813888) where
  abbrev q : ℕ
  q = start / 65536

  abbrev place : ℕ
  place = host + start % 65536

  abbrev new : List ℕ
  new = with_bytes old place bytes

  own : (own_offset (get_or image.tables.words q 0) ≡ host) × (host ≢ 0)
  own = host_entry (get_or image.tables.words q 0) host entry

  held : IsHeld old image q host
  held = held_by old image is ready q host below own.0 own.1

  low : host / 65536 * 65536 ≤ place
  low = omega arith

  high : place + length bytes ≤ host / 65536 * 65536 + 65536
  high = let whole = held.whole in omega (arith, whole, within)

  pub own_tables : KeepsTables old new
  own_tables = tables_stay old image host place bytes is ready held.holds.free low high small

  pub own_image : IsImageOf new image
  own_image = image_kept old new own_tables image is

  images : AreImages old new image image
  images = record { old_image = is; new_image = own_image; old_open = ready; new_open = ready; size = refl }

  -- other guest clusters
  others : (p : ℕ) → p < length image.tables.words → p ≢ q → HostStays old new (entry_in image p)
  others p below_p differ = λ other i entry_p inside.
      let own_p = host_entry (get_or image.tables.words p 0) other entry_p in
      let held_p = held_by old image is ready p other below_p own_p.0 own_p.1 in
      let size = size_in image ready in
      let aligned = held_p.whole in
      let there : (other + i) / 65536 ≡ other / 65536 = omega (arith, aligned, inside) in
      byte_outside old image host place bytes is ready held.holds.free low high small (other + i)
      (λ same. owners_differ old image is p q below_p below differ (λ none. own_p.1 (sym own_p.0 ∙ none)) (λ none. own.1 (sym own.0 ∙ none))
      (ap (λ (n : ℕ). n / cluster_size_in image) own_p.0 ∙ ap (λ (n : ℕ). other / n) size ∙ sym there ∙ same ∙ ap (λ (n : ℕ). host / n) (sym size) ∙ ap (λ (n : ℕ). n / cluster_size_in image) (sym own.0)))

  -- a byte of this one
  here : (file backing : List ℕ) (p : ℕ) → IsImageOf file image → p / 65536 ≡ q → guest_byte file backing p ≡ get_or file (host + p % 65536) 0
  here file backing p of_image same =
      guest_by_entry file backing image p of_image ready (subst (λ (k : ℕ). k < length image.tables.words) (sym same) below)
      ∙ ap (λ (k : ℕ). byte_by_entry file 65536 backing p (entry_in image k)) same
      ∙ ap (byte_by_entry file 65536 backing p) entry

  pub own_disk : IsDiskWith old new start bytes
  own_disk =
      let written = written_with old place bytes in
      record {
        size = same_size old new image image images;
        inside = λ backing i h in_disk.
            let cluster : (start + i) / 65536 ≡ q = omega (arith, within, h) in
            let spot : host + (start + i) % 65536 ≡ place + i = omega (arith, within, h) in
            here new backing (start + i) own_image cluster ∙ ap (λ (n : ℕ). get_or new n 0) spot ∙ written.inside i h;
        outside = λ backing p in_disk side. elim (cases_eq (p / 65536) q) [
          | inl same ↦
              here new backing p own_image same
              ∙ written.outside (host + p % 65536) (elim side [ inl before ↦ inl (omega (arith, same, before)) | inr behind ↦ inr (omega (arith, same, behind, within)) ])
              ∙ sym (here old backing p is same)
          | inr differ ↦
              let size = ap (λ (h : Header). h.size) is.header in
              same_byte old new image image images backing p in_disk refl (others (p / 65536) (in_words image p ready (omega (arith, in_disk, size))) differ)
        ];
      }
