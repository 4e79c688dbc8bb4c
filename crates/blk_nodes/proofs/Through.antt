-- A node below another gets bytes that the upper one reads as anyway: then that reads as before.
use Rattle.std.proofs.Common.{◌≡◌, ◌⊎◌, ℕ, ◌+◌, ◌-◌, ◌/◌, ◌<◌, ◌≤◌, List, length, get_or, refl, sym, ◌∙◌, ap, inl, inr, arith}
use Rattle.std.specs.Prelude.{slice_index}
use Rattle.std.proofs.lemmas.Bool.{cases_lt}
use Rattle.std.proofs.lemmas.List.{ext_get_or, get_or_past}
use Rattle.std.proofs.lemmas.List.FromFn.{get_or-map-range_with_len, length-map-range_with_len}
use Rattle.blk_base.specs.Content.{with_bytes}
use Rattle.blk_base.proofs.Contents.{get_or-with_bytes_outside, get_or-with_bytes_inside, length-with_bytes_within}
use Rattle.q2_format.specs.Contents.{byte_by_entry, guest_byte, image_disk}
use Rattle.q2_format.specs.Entry.{l2_entry}
use Rattle.q2_format.specs.Header.{header_of}
use Rattle.q2_format.specs.Sizes.{cluster_size}
use Rattle.q2_format.specs.Tables.{active_tree, l2_word_of}
use Rattle.q2_format.specs.declared.entries.L2Entry.{L2Entry}
use Rattle.q2_format.specs.declared.entries.L2Entry.TheVariants.{Unallocated, Zero, Host, Compressed, Reserved}
use Rattle.blk_nodes.specs.Through.{IsOrAsTop, AreOfTop}

pub put_through : (top old : List ℕ) (start : ℕ) (bytes : List ℕ) → start + length bytes ≤ length old → AreOfTop top start bytes → IsOrAsTop top old (with_bytes old start bytes)
put_through top old start bytes within are = record {
  whole = length-with_bytes_within old start bytes within;
  at = λ i. elim (cases_lt i start) [
    | inl below ↦ inl (get_or-with_bytes_outside old start bytes i (inl below))
    | inr from ↦ elim (cases_lt i (start + length bytes)) [
      | inl less ↦ inr (inside i from less)
      | inr past ↦ inl (get_or-with_bytes_outside old start bytes i (inr past))
    ]
  ];
}
  where
    inside : (i : ℕ) → start ≤ i → i < start + length bytes → slice_index (with_bytes old start bytes) i ≡ slice_index top i
    inside i from less =
        let e : start + (i - start) ≡ i = omega (arith, from) in
        let small : i - start < length bytes = omega (arith, from, less) in
        ap (λ (j : ℕ). get_or (with_bytes old start bytes) j 0) (sym e)
        ∙ get_or-with_bytes_inside old start bytes (i - start) small ∙ are (i - start) small ∙ ap (λ (j : ℕ). get_or top j 0) e

-- an image over it
module _ (top file old new : List ℕ) (is : IsOrAsTop top old new) where
  by_entry : (c place : ℕ) (e : L2Entry)
      → (byte_by_entry file c new place e ≡ byte_by_entry file c old place e) ⊎ (byte_by_entry file c new place e ≡ slice_index top place)
  by_entry c place Unallocated = is.at place
  by_entry c place (Zero host) = inl refl
  by_entry c place (Host host) = inl refl
  by_entry c place Compressed = inl refl
  by_entry c place Reserved = inl refl

  byte_through : (place : ℕ) → (guest_byte file new place ≡ guest_byte file old place) ⊎ (guest_byte file new place ≡ slice_index top place)
  unfolding guest_byte
  byte_through place =
      let c : ℕ = cluster_size (header_of file).cluster_bits in
      by_entry c place (l2_entry (l2_word_of (active_tree file (header_of file)) c (place / c)))

  abbrev Here : ℕ → Type 0
  Here i = (slice_index (image_disk file new) i ≡ slice_index (image_disk file old) i) ⊎ (slice_index (image_disk file new) i ≡ slice_index top i)

  image_length : (below : List ℕ) → length (image_disk file below) ≡ (header_of file).size
  unfolding image_disk
  image_length below = length-map-range_with_len (guest_byte file below) 0 (header_of file).size

  image_byte : (below : List ℕ) (i : ℕ) → i < (header_of file).size → get_or (image_disk file below) i 0 ≡ guest_byte file below i
  unfolding image_disk
  image_byte below i less = get_or-map-range_with_len (guest_byte file below) 0 (header_of file).size i i 0 less (omega arith)

  pub image_through : IsOrAsTop top (image_disk file old) (image_disk file new)
  image_through = record {
    whole = image_length new ∙ sym (image_length old);
    at = λ i. elim (cases_lt i (header_of file).size) [
      | inl less ↦ at_place i less (byte_through i)
      | inr past ↦ inl (get_or_past (image_disk file new) i 0 (omega (arith, past, image_length new)) ∙ sym (get_or_past (image_disk file old) i 0 (omega (arith, past, image_length old))))
    ];
  }
    where
      at_place : (i : ℕ) → i < (header_of file).size → (guest_byte file new i ≡ guest_byte file old i) ⊎ (guest_byte file new i ≡ slice_index top i) → Here i
      at_place i less (inl same) = inl (image_byte new i less ∙ same ∙ sym (image_byte old i less))
      at_place i less (inr up) = inr (image_byte new i less ∙ up)

-- up to the top itself
pub top_stays : (top new : List ℕ) → IsOrAsTop top top new → new ≡ top
top_stays top new is = ext_get_or 0 new top is.whole (λ k less. elim (is.at k) [ inl same ↦ same | inr up ↦ up ])
