-- A header that gets a new backing name: which bytes its cluster gets, and what it says then.
use Rattle.std.specs.Prelude.{ℕ, ◌+◌, ◌-◌, ◌/◌, ◌%◌, not, ◌&&◌, nat_lt, Bool, true, false, if◌then◌else◌, List, ◌++◌, length, replicate, Option, Some, None, is_some}
use Rattle.std.specs.Option.{option_map, option_map_or, option_and_then}
use Rattle.byteorder.specs.Endian.{big_bytes}
use Rattle.q2_format.specs.Sizes.{cluster_size}
use Rattle.q2_format.specs.declared.header.Header.{Header}
use Rattle.q2_format.specs.declared.header.Place.{Place}
use Rattle.q2_format.specs.declared.header.TheConstants.{MAX_NAME_LENGTH}

abbrev pub middle_of : Header → ℕ
middle_of h = cluster_size h.cluster_bits / 2

-- The text.

-- the present name has a byte among those from the middle of the cluster on that a name may take
abbrev pub is_in_middle : Header → Place → Bool
is_in_middle h name =
    nat_lt name.at (middle_of h + MAX_NAME_LENGTH) && nat_lt (middle_of h) (name.at + name.len)

-- where the text of a new name goes: to the middle of the cluster, and a quarter of it behind where the present one is in the way
abbrev pub new_name_offset : Header → ℕ
new_name_offset h =
    if option_map_or (is_in_middle h) h.name false then middle_of h + middle_of h / 2
    else middle_of h

-- The extension that names the backing format.

-- the list of extensions is in an area that ends at the name where there is one, and else with the cluster
abbrev pub list_area_end : Header → ℕ
list_area_end h = option_map_or (λ (name : Place). name.at) h.name (cluster_size h.cluster_bits)

-- these data can be replaced in place: they take 8 bytes with their padding, and those lie in the list's area
abbrev pub takes_eight : Header → Place → Bool
takes_eight h place =
    nat_lt 0 place.len && not (nat_lt 8 place.len) && not (nat_lt (list_area_end h) (place.at + 8))

-- the data that a new format replaces
abbrev pub format_room : Header → Option Place
format_room h =
    option_and_then (λ (place : Place). if takes_eight h place then Some place else None) h.format

-- what is written over them, and over their length in front of them
abbrev pub format_bytes : List ℕ → List ℕ
format_bytes format = big_bytes 4 (length format) ++ (format ++ replicate (8 - length format) 0)

-- The fields.

-- bytes 8 to 19: where the name stands, and how long it is
abbrev pub name_fields : Header → Option (List ℕ) → List ℕ
name_fields h None = replicate 12 0
name_fields h (Some name) = big_bytes 8 (new_name_offset h) ++ big_bytes 4 (length name)

-- The list of extensions ends at the present name without an ending extension: with another name it would go on.
abbrev pub needs_ending : Header → Bool
needs_ending h = is_some h.name && not h.ended

-- where an ending extension goes: where the next one would begin, at a multiple of 8 bytes behind the header
abbrev pub next_extension : Header → ℕ
next_extension h = h.ext_end + (8 - (h.ext_end - h.header_length) % 8) % 8

-- the new format's data stand where those of the present one do
abbrev pub replaced_format : Header → Option (List ℕ) → Option Place
replaced_format h None = h.format
replaced_format h (Some format) =
    option_map_or
    (λ (place : Place). Some (record { at = place.at; len = length format })) (format_room h)
    h.format

-- where the ending extension stands, or goes
abbrev pub ending_place : Header → ℕ
ending_place h = if h.ended then h.ext_end - 8 else next_extension h

-- what the header says then
abbrev pub renamed : Header → Option (List ℕ) → Option (List ℕ) → Header
renamed h name format = record h {
  name = option_map (λ (text : List ℕ). record { at = new_name_offset h; len = length text }) name;
  format = replaced_format h format;
  ext_end = ending_place h + 8;
  ended = true;
}
