-- Where the list of extensions of a header ends that can be read, and has room for another name.
use Rattle.std.proofs.Common.{◌≡◌, ℕ, ◌+◌, ◌/◌, ◌<◌, ◌≤◌, inl, inr, min, Bool, true, false, not, ◌&&◌, ◌||◌, ltb, List, Option, Some, None, is_some, IfSome, refl, sym, subst, ◌∙◌, arith}
use Rattle.std.proofs.lemmas.Bool.Decides.{nat_tests}
use Rattle.std.specs.Option.{option_map_or}
use Rattle.q2_format.specs.Sizes.{cluster_size}
use Rattle.q2_format.specs.Header.{CanBeRead, LiesWithin, area_end, cluster_bits_of, header_length_of, header_of, header_refusal, name_place_of}
use Rattle.q2_format.specs.Renamed.{next_extension}
use Rattle.q2_format.specs.Sound.{is_header_full}
use Rattle.q2_format.specs.declared.header.Header.{Header}
use Rattle.q2_format.specs.declared.header.Place.{Place}
use Rattle.q2_format.proofs.Limits.{within_limits}
use Rattle.q2_format.proofs.NameWrites.{walk_of}
use Rattle.q2_format.proofs.Walks.{forward}

-- what a header with room for another name says of its list
pub room_by_parts : (c ext_end next : ℕ) (named ended : Bool) → (ltb (c / 2) ext_end || ((named && not ended) && ltb 504 next)) ≡ false
    → (ext_end ≤ c / 2) × (named ≡ true → ended ≡ false → next ≤ 504)
room_by_parts c ext_end next named ended test = (grind (arith, nat_tests), λ n e. grind (arith, nat_tests))

pub room_in : (h : Header) → is_header_full h ≡ false → (h.ext_end ≤ cluster_size h.cluster_bits / 2) × (is_some h.name ≡ true → h.ended ≡ false → next_extension h ≤ 504)
room_in h room = room_by_parts (cluster_size h.cluster_bits) h.ext_end (next_extension h) (is_some h.name) h.ended room

-- a list without an ending extension ends at a name
named_or_full : (c end q ext_end : ℕ) (name : Option Place) → 16 ≤ c → end ≡ option_map_or (λ (name : Place). name.at) name c → ext_end ≡ min q end → end < q + 8 → ext_end ≤ c / 2 → is_some name ≡ true
named_or_full c end q ext_end None big area is short low = absurd (omega (arith, big, area, is, short, low))
named_or_full c end q ext_end (Some name) big area is short low = refl

area_low : (file : List ℕ) (name : Option Place) (limit : ℕ) → IfSome name (λ name. LiesWithin (header_length_of file) (cluster_size (cluster_bits_of file)) name × (name.len ≤ limit))
    → header_length_of file ≤ cluster_size (cluster_bits_of file) → header_length_of file ≤ option_map_or (λ (name : Place). name.at) name (cluster_size (cluster_bits_of file))
area_low file None limit lies within = within
area_low file (Some name) limit lies within = lies.0.begins

file_list : (file : List ℕ) (len : ℕ) → header_refusal file len ≡ None → is_header_full (header_of file) ≡ false
    → (104 ≤ (header_of file).ext_end) × ((header_of file).ended ≡ false → is_some (header_of file).name ≡ true)
unfolding header_of
file_list file len none room =
    let h : Header = header_of file in
    let c : ℕ = cluster_size h.cluster_bits in
    let limits = within_limits file len none in
    let bits = limits.cluster_bits in
    let size : c ≡ 65536 = rw bits refl in
    let long = limits.header_whole in
    let w = walk_of file len none in
    let from = forward file (area_end file) w.q _ (header_length_of file) None w.walk in
    let low = area_low file (name_place_of file) _ limits.name limits.header_in_cluster in
    let middle = (room_in h room).0 in
    elim w.last [
      | inl last ↦
          let stop = last.1 in
          let ended = last.0 in
          (omega (arith, stop, from, long), λ open_list. absurd (let bad : ◌≡◌ {A = Bool} true false = sym ended ∙ open_list in cc))
      | inr last ↦
          let stop = last.1 in
          (omega (arith, stop, from, long, low), λ open_list. named_or_full c (area_end file) w.q h.ext_end h.name (omega (arith, size)) refl last.1 last.2 middle)
    ]

pub list_ends : (h : Header) (len : ℕ) → CanBeRead h len → is_header_full h ≡ false → (104 ≤ h.ext_end) × (h.ended ≡ false → is_some h.name ≡ true)
list_ends h len readable room =
    let F : Header → Type 0 = λ x. is_header_full x ≡ false in
    let R : Header → Type 0 = λ x. (104 ≤ x.ext_end) × (x.ended ≡ false → is_some x.name ≡ true) in
    subst R readable.2 (file_list readable.0 len readable.1 (subst F (sym readable.2) room))
