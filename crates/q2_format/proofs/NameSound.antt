-- A sound file stays sound after each write of a new backing name, and after a part of one.
use Rattle.std.proofs.Common.{◌≡◌, ℕ, ◌+◌, ◌/◌, ◌<◌, ◌≤◌, ◌⊎◌, inl, inr, min, Bool, true, false, not, ◌&&◌, ◌||◌, ltb, List, length, slice_index, Option, Some, None, is_some, refl, sym, subst, arith}
use Rattle.std.proofs.lemmas.Bool.{le-ltb}
use Rattle.std.proofs.lemmas.Bool.Decides.{nat_tests}
use Rattle.std.specs.Option.{option_map_or}
use Rattle.q2_format.specs.Bytes.{number_at, ReadsAlike}
use Rattle.q2_format.specs.Sizes.{cluster_size}
use Rattle.q2_format.specs.Header.{name_place_of, area_end, extension_type, extension_length, header_of, header_refusal, name_refusal}
use Rattle.q2_format.specs.Renamed.{next_extension, ending_place}
use Rattle.q2_format.specs.Sound.{IsSound, is_header_full}
use Rattle.q2_format.specs.declared.header.Header.{Header}
use Rattle.q2_format.specs.declared.header.Place.{Place}
use Rattle.q2_format.specs.declared.extensions.TheConstants.{END_OF_EXTENSIONS}
use Rattle.q2_format.proofs.Consistent.{sound_header, sound_tables}
use Rattle.q2_format.proofs.Limits.{within_limits}
use Rattle.q2_format.proofs.HeaderCluster.{with_naming, first_sound}
use Rattle.q2_format.proofs.NameWrites.{IsBeside, walk_of, walk_place, text_header, text_refusal, lowered_header, lowered_refusal, format_header, format_refusal_none, last_header, last_refusal}

-- what an image's header says stays, and it is sound
pub record StaysSound (new : List ℕ) (h : Header) : Type 0 where
  pub sound : IsSound new
  pub header : header_of new ≡ h

room_of : (file : List ℕ) → IsSound file → is_header_full (header_of file) ≡ false
room_of file sound = (sound_tables file sound).room

at_length : (new : List ℕ) (n : ℕ) → length new ≡ n → header_refusal new n ≡ None → header_refusal new (length new) ≡ None
at_length new n size none = let P : ℕ → Type 0 = λ k. header_refusal new k ≡ None in subst P (sym size) none

-- text behind the list, beside the present name
pub text_sound : (old new : List ℕ) (from to : ℕ) → IsSound old → 104 ≤ from → (header_of old).ext_end ≤ from → to ≤ cluster_size (header_of old).cluster_bits
    → IsBeside from to (name_place_of old) → ((i : ℕ) → (i < from) ⊎ (to ≤ i) → slice_index new i ≡ slice_index old i) → length new ≡ length old → StaysSound new (header_of old)
text_sound old new from to sound long list within beside outside size =
    let none = sound_header old sound in
    let h : Header = header_of old in
    let header = text_header old new (length old) from to none long beside outside list in
    record {
      sound = first_sound old new sound (λ i high. outside i (inr (omega (arith, high, within)))) h.name h.format h.ext_end h.ended size
          (at_length new (length old) size (text_refusal old new (length old) from to none long beside outside list)) header (room_of old sound);
      header = header;
    }

-- the length of the ending extension
pub lowered_sound : (old new : List ℕ) (e : ℕ) → IsSound old → (header_of old).ended ≡ true → (header_of old).ext_end ≡ e + 8 → e + 8 ≤ cluster_size (header_of old).cluster_bits
    → ((i : ℕ) → (i < e + 4) ⊎ (e + 8 ≤ i) → slice_index new i ≡ slice_index old i) → extension_length new e ≤ extension_length old e → length new ≡ length old
    → StaysSound new (header_of old)
lowered_sound old new e sound ended stop within outside shorter size =
    let none = sound_header old sound in
    let h : Header = header_of old in
    let header = lowered_header old new (length old) e none ended stop outside shorter in
    record {
      sound = first_sound old new sound (λ i high. outside i (inr (omega (arith, high, within)))) h.name h.format h.ext_end h.ended size
          (at_length new (length old) size (lowered_refusal old new (length old) e none ended stop outside shorter)) header (room_of old sound);
      header = header;
    }

-- the backing format's data and their length
pub format_sound : (old new : List ℕ) (p : Place) (from : ℕ) → IsSound old → (header_of old).format ≡ Some p → 1 ≤ p.len → p.len ≤ 8 → p.at + 8 ≤ area_end old → from + 4 ≡ p.at
    → p.at + 8 ≤ cluster_size (header_of old).cluster_bits
    → ((i : ℕ) → (i < from) ⊎ (p.at + 8 ≤ i) → slice_index new i ≡ slice_index old i) → 1 ≤ number_at new from 4 → number_at new from 4 ≤ 8 → length new ≡ length old
    → StaysSound new (record (header_of old) { format = Some (record { at = p.at; len = number_at new from 4 }) })
unfolding header_of
format_sound old new p from sound format some short room front_of within outside some_new short_new size =
    let none = sound_header old sound in
    let h : Header = header_of old in
    let header = format_header old new (length old) p none format some short room from front_of outside some_new short_new in
    record {
      sound = first_sound old new sound (λ i high. outside i (inr (omega (arith, high, within)))) h.name (Some (record { at = p.at; len = number_at new from 4 })) h.ext_end h.ended size
          (at_length new (length old) size (format_refusal_none old new (length old) p none format some short room from front_of outside some_new short_new)) header (room_of old sound);
      header = header;
    }

-- The list's end leaves room for the name.

named_or_full : (c end q ext_end : ℕ) (name : Option Place) → 16 ≤ c → end ≡ option_map_or (λ (name : Place). name.at) name c → ext_end ≡ min q end → end < q + 8 → ext_end ≤ c / 2 → is_some name ≡ true
named_or_full c end q ext_end None big area is short low = absurd (omega (arith, big, area, is, short, low))
named_or_full c end q ext_end (Some name) big area is short low = refl

room_parts : (c ext_end next : ℕ) (named ended : Bool) → (ltb (c / 2) ext_end || ((named && not ended) && ltb 504 next)) ≡ false → (ext_end ≤ c / 2) × (named ≡ true → ended ≡ false → next ≤ 504)
room_parts c ext_end next named ended test = (grind (arith, nat_tests), λ n e. grind (arith, nat_tests))

pub list_low : (file : List ℕ) → IsSound file → (header_of file).ext_end ≤ cluster_size (header_of file).cluster_bits / 2
list_low file sound =
    let h : Header = header_of file in
    (room_parts (cluster_size h.cluster_bits) h.ext_end (next_extension h) (is_some h.name) h.ended (room_of file sound)).0

-- the ending extension stands, or goes, in front of the middle of the cluster
pub ending_low : (file : List ℕ) → IsSound file → ending_place (header_of file) + 8 ≤ cluster_size (header_of file).cluster_bits / 2
unfolding header_of
ending_low file sound =
    let h : Header = header_of file in
    let c : ℕ = cluster_size h.cluster_bits in
    let none = sound_header file sound in
    let limits = within_limits file (length file) none in
    let bits = limits.cluster_bits in
    let size : c ≡ 65536 = rw bits refl in
    let w = walk_of file (length file) none in
    let place = walk_place file (length file) none in
    let parts = room_parts c h.ext_end (next_extension h) (is_some h.name) h.ended (room_of file sound) in
    elim w.last [
      | inl last ↦ let stop = last.1 in let low = parts.0 in omega (arith, place, stop, low)
      | inr last ↦
          let ended = last.0 in
          let named = named_or_full c (area_end file) w.q h.ext_end h.name (omega (arith, size)) refl last.1 last.2 parts.0 in
          let high = parts.1 named ended in
          rw ended (omega (arith, high, size))
    ]

-- The last write.
pub last_sound : (old new : List ℕ) (name : Option Place) → IsSound old → ReadsAlike old new 0 8
    → ((i : ℕ) → 20 ≤ i → i < ending_place (header_of old) → slice_index new i ≡ slice_index old i)
    → ((i : ℕ) → cluster_size (header_of old).cluster_bits ≤ i → slice_index new i ≡ slice_index old i)
    → extension_type new (ending_place (header_of old)) ≡ END_OF_EXTENSIONS
    → ending_place (header_of old) + 8 + extension_length new (ending_place (header_of old)) ≤ area_end new → name_place_of new ≡ name → name_refusal new ≡ None → length new ≡ length old
    → StaysSound new (with_naming (header_of old) name (header_of old).format (ending_place (header_of old) + 8) true)
last_sound old new name sound front same behind kind fits is named size =
    let none = sound_header old sound in
    let h : Header = header_of old in
    let header = last_header old new (length old) name none front same kind fits is in
    let low = le-ltb (cluster_size h.cluster_bits / 2) (ending_place h + 8) (ending_low old sound) in
    record {
      sound = first_sound old new sound behind name h.format (ending_place h + 8) true size
          (at_length new (length old) size (last_refusal old new (length old) name none front same kind fits is named)) header
          (ended_room (cluster_size h.cluster_bits) (ending_place h + 8) (is_some name) (next_extension (with_naming h name h.format (ending_place h + 8) true)) low);
      header = header;
    }
  where
    ended_room : (c ext_end : ℕ) (named : Bool) (next : ℕ) → ltb (c / 2) ext_end ≡ false → (ltb (c / 2) ext_end || ((named && not true) && ltb 504 next)) ≡ false
    ended_room c ext_end true next low = rw low refl
    ended_room c ext_end false next low = rw low refl
