-- Another backing name for an image: which writes it takes, and what they leave.
use Rattle.std.specs.Prelude.{◌≡◌, ◌⊎◌, ℕ, ◌+◌, ◌-◌, ◌<◌, ◌≤◌, max, Bool, true, is_some, ◌&&◌, nat_lt, if◌then◌else◌, List, [], ◌∷◌, ◌++◌, length, slice_index, take, drop, replicate, Option, Some, None, Result, Ok, Err}
use Rattle.std.specs.Option.{option_map_or}
use Rattle.blk_base.specs.Calls.{FailedLast}
use Rattle.blk_base.specs.Content.{AreZeroPast, Write, after_writes}
use Rattle.blk_base.specs.Content as content
use Rattle.blk_base.specs.Device.{CountsFault, Reads, Untouched, Writes, Wrote}
use Rattle.blk_base.specs.Files.{IfTold}
use Rattle.blk_base.specs.Writes.{write_of, end_of_writes, size_after_writes}
use Rattle.blk_base.specs.declared.device.Device.{Ghosts}
use Rattle.blk_base.specs.declared.device.DeviceCall.TheVariants as calls
use Rattle.blk_base.specs.declared.device.Stop.{Stop}
use Rattle.blk_base.specs.declared.device.Stop.TheVariants as why
use Rattle.blk_base.specs.declared.fault.DevStop.{DevStop}
use Rattle.blk_base.specs.declared.fault.DevStop.TheVariants.{Io, NoSpace}
use Rattle.q2_format.specs.Bytes.{number_at, place_bytes}
use Rattle.q2_format.specs.Header.{header_of}
use Rattle.q2_format.specs.Renamed.{new_name_offset, format_room, format_bytes, name_fields, needs_ending, next_extension, replaced_format, renamed}
use Rattle.q2_format.specs.Sizes.{cluster_size}
use Rattle.q2_format.specs.Sound.{IsSound}
use Rattle.q2_format.specs.declared.header.Header.{Header}
use Rattle.q2_format.specs.declared.header.Place.{Place}
use Rattle.q2_image.specs.Creating.{text_at}
use Rattle.q2_image.specs.Image.{Known}
use Rattle.q2_image.specs.Made.{clear_writes}
use Rattle.q2_image.specs.Writing.{IsSameDisk, autocleared, autoclear_end}

-- Which writes it takes, in their order.

-- the text, behind the list of extensions and beside the present name
abbrev pub text_writes : Header → Option (List ℕ) → List Write
text_writes h None = []
text_writes h (Some name) = write_of (new_name_offset h) name ∷ []

-- the format, with its length, where it can take the present one's place
abbrev pub format_writes : Header → Option (List ℕ) → List Write
format_writes h None = []
format_writes h (Some format) =
    option_map_or
    (λ (place : Place). write_of (place.at - 4) (format_bytes format) ∷ []) (format_room h) []

-- what the file says of the length of the ending extension's own data
abbrev pub ending_length : List ℕ → Header → ℕ
ending_length file h = number_at file (h.ext_end - 4) 4

-- it becomes 0 where they would end past the new name
abbrev pub ending_writes : Header → Option (List ℕ) → ℕ → List Write
ending_writes h None n = []
ending_writes h (Some name) n =
    if h.ended && nat_lt (new_name_offset h) (h.ext_end + n)
    then write_of (h.ext_end - 4) (replicate 4 0) ∷ [] else []

-- all of these, behind the autoclear field
abbrev pub early_writes : Known → ℕ → Option (List ℕ) → Option (List ℕ) → List Write
early_writes image n name format =
    let h = image.header in
    clear_writes image ++ (text_writes h name ++ (format_writes h format ++ ending_writes h name n))

-- what stands in a file between the fields of the name and the place for an ending extension
abbrev pub between_in : List ℕ → Header → List ℕ
between_in file h = place_bytes file 20 (next_extension h - 20)

-- the fields of the name; where the list needs an ending extension, what stands in front of it and that
abbrev pub last_bytes : Header → List ℕ → Option (List ℕ) → List ℕ
last_bytes h between name =
    name_fields h name ++ (if needs_ending h then between ++ replicate 8 0 else [])

-- one write makes the new name the image's
abbrev pub last_writes : Header → List ℕ → Option (List ℕ) → List Write
last_writes h between name = write_of 8 (last_bytes h between name) ∷ []

-- all writes, for a file with these bytes
abbrev pub rename_writes : Known → List ℕ → Option (List ℕ) → Option (List ℕ) → List Write
rename_writes image file name format =
    let early = early_writes image (ending_length file image.header) name format in
    early ++ last_writes image.header (between_in (after_writes file early) image.header) name

-- where the last of them ends
abbrev pub fields_end : Header → ℕ
fields_end h = if needs_ending h then next_extension h + 8 else 20

-- the highest end of them, whatever bytes the file has
abbrev pub rename_end : Known → Option (List ℕ) → Option (List ℕ) → ℕ
rename_end image name format =
    let h = image.header in
    max (autoclear_end image)
    (max (end_of_writes (text_writes h name))
    (max (end_of_writes (format_writes h format)) (fields_end h)))

-- What is known.

-- the image once its header names another format
abbrev pub with_format : Known → Option (List ℕ) → Known
with_format image format =
    record image { header = record image.header { format = replaced_format image.header format } }

abbrev pub with_format_at : Known → Place → Known
with_format_at image place = record image { header = record image.header { format = Some place } }

-- and once it has the name
abbrev pub with_name : Known → Option (List ℕ) → Option (List ℕ) → Known
with_name image name format = record image { header = renamed image.header name format }

-- behind writes of a format, the last of them in part: it is named once its length is written
abbrev pub known_with : Known → Option (List ℕ) → List Write → Known
known_with image format [] = image
known_with image format (w ∷ ws) =
    if nat_lt (length w.bytes) 4 then image else with_format image format

-- What is known where a call stops behind these of its writes, the last of them in part: nothing
-- changed until the autoclear field is written, and nothing but that until a format is.
abbrev pub known_at : Known → Option (List ℕ) → Option (List ℕ) → List Write → Known
known_at image name format made =
    let cleared = clear_writes image in
    let named = cleared ++ text_writes image.header name in
    if nat_lt (length cleared) (length made)
    then known_with (autocleared image) format (drop (length named) made) else image

-- What a call leaves of a device.

-- the stop of a call whose write stopped, by the count of faults then
abbrev pub stop_by : Stop → ℕ → DevStop
stop_by why.Failed count = Io count
stop_by why.NoSpace count = NoSpace

-- these fields, and behind them so many bytes that a device of this length read, of what it told, and the 8 of an
-- ending extension, begin a buffer
pub record IsPutBetween (fields : List ℕ) (n : ℕ) (told : Option (List ℕ)) (size : ℕ)
    (buffer : List ℕ) : Type 0 where
  pub between : List ℕ
  pub whole : length between ≡ n
  pub is : (file : List ℕ) → told ≡ Some file → between ≡ content.bytes_at file 20 n
  pub past : AreZeroPast size 20 between
  pub put : take (n + 20) buffer ≡ fields ++ (between ++ replicate 8 0)

-- what the write of a format leaves of an image and of its device, by the stop that its call tells
abbrev pub IsKnownWith : Option DevStop → Known → Option (List ℕ) → List Write → Known → Type 0
IsKnownWith None image format made left = left ≡ with_format image format
IsKnownWith (Some stop) image format made left = left ≡ known_with image format made

pub record MakesFormat {D : Type 0} (g : Ghosts D) (image : Known) (format : Option (List ℕ))
    (stop : Option DevStop) (left : Known) (before now : D) : Type 0 where
  pub writes : Writes g (format_writes image.header format) stop before now
  pub known : IsKnownWith stop image format writes.made left

-- and all writes but the last
abbrev pub IsKnownEarly : Option DevStop → Known → Option (List ℕ) → Option (List ℕ) → List Write
    → Known → Type 0
IsKnownEarly None image name format made left = left ≡ with_format (autocleared image) format
IsKnownEarly (Some stop) image name format made left = left ≡ known_at image name format made

pub record MakesEarly {D : Type 0} (g : Ghosts D) (image : Known) (n : ℕ)
    (name format : Option (List ℕ)) (stop : Option DevStop) (left : Known) (before now : D) : Type
    0 where
  pub writes : Writes g (early_writes image n name format) stop before now
  pub known : IsKnownEarly stop image name format writes.made left

-- The last write is made behind others. What stands in it between fields and ending extension was read before it, zeros
-- past the end that the device had then.
pub record MakesLast {D : Type 0} (g : Ghosts D) (h : Header) (early : List Write)
    (name : Option (List ℕ)) (stop : Option DevStop) (before now : D) : Type 0 where
  pub between : List ℕ
  pub whole : length between ≡ next_extension h - 20
  pub told : (file : List ℕ) → g.content before ≡ Some file
      → between ≡ between_in (after_writes file early) h
  pub past : AreZeroPast (size_after_writes (g.size before) early) 20 between
  pub writes : Writes g (early ++ last_writes h between name) stop before now

-- or that read failed, of a list that needs an ending extension
pub record FailsBefore {D : Type 0} (g : Ghosts D) (h : Header) (early : List Write)
    (stop : Option DevStop) (before now : D) : Type 0 where
  pub needed : needs_ending h ≡ true
  pub count : ℕ
  pub is : stop ≡ Some (Io count)
  pub wrote : Wrote g early before now
  pub cause : CountsFault (Some count) (g.faults before) (g.faults now)
  pub call : FailedLast (calls.Read 20 (next_extension h - 20)) (g.failed_call now)

abbrev pub EndsWithFields : {D : Type 0} → Ghosts D → Header → List Write → Option (List ℕ)
    → Option DevStop → D → D → Type 0
EndsWithFields g h early name stop before now =
    MakesLast g h early name stop before now ⊎ FailsBefore g h early stop before now

-- where a failed call stops them, and what is known then: by those that were made, or behind all
-- but the last
abbrev pub StopsWithFields : {D : Type 0} → Ghosts D → Known → Option (List ℕ) → Option (List ℕ)
    → List Write → ℕ → Known → D → D → Type 0
StopsWithFields g image name format early count left before now =
    ((last : MakesLast g image.header early name (Some (Io count)) before now)
    × (left ≡ known_at image name format last.writes.made))
    ⊎ (FailsBefore g image.header early (Some (Io count)) before now
    × (left ≡ with_format (autocleared image) format))

-- What a call takes for the length of the ending extension's own data, of a device that tells this and has this size: the
-- same is written for it as for the length that a file of that size says, which is the one that is told where one is. So
-- a length that would stand past the end is 0.
pub record IsLengthRead (told : Option (List ℕ)) (size : ℕ) (h : Header) (name : Option (List ℕ))
    (n : ℕ) : Type 0 where
  pub file : List ℕ
  pub whole : length file ≡ size
  pub same : IfTold told (λ bytes. file ≡ bytes)
  pub is : ending_writes h name n ≡ ending_writes h name (ending_length file h)

-- All the writes. The length of the ending extension was read before them, where it has a say.
pub record MakesRenaming {D : Type 0} (g : Ghosts D) (image : Known) (name format : Option (List ℕ))
    (stop : Option DevStop) (before now : D) : Type 0 where
  pub n : ℕ
  pub read : IsLengthRead (g.content before) (g.size before) image.header name n
  pub makes : EndsWithFields g image.header (early_writes image n name format) name stop before now

-- and where they stop
pub record StopsRenaming {D : Type 0} (g : Ghosts D) (image : Known) (name format : Option (List ℕ))
    (count : ℕ) (left : Known) (before now : D) : Type 0 where
  pub n : ℕ
  pub read : IsLengthRead (g.content before) (g.size before) image.header name n
  pub makes : StopsWithFields g image name format (early_writes image n name format) count left
      before now

-- The length of the ending extension is read where a new name may come before the end of its data.
abbrev pub reads_length : Header → Option (List ℕ) → Bool
reads_length h name = h.ended && is_some name

-- what a call leaves of an image and of its device that gives it another backing name
abbrev pub RenamesImage : {A D : Type 0} → Ghosts D → Known → Option (List ℕ) → Option (List ℕ)
    → Result A DevStop → Known → D → D → Type 0
RenamesImage g image name format (Ok done) left before now =
    (left ≡ with_name (autocleared image) name format)
    × MakesRenaming g image name format None before now
RenamesImage g image name format (Err (Io count)) left before now =
    ((reads_length image.header name ≡ true) × (left ≡ image) × Reads g (Some count) before now
    × FailedLast (calls.Read (image.header.ext_end - 4) 4) (g.failed_call now))
    ⊎ StopsRenaming g image name format count left before now
RenamesImage g image name format (Err NoSpace) left before now =
    (left ≡ image) × Untouched g before now

-- The name that a file's header says.

abbrev pub name_in : List ℕ → Option (List ℕ)
name_in file = text_at file (header_of file).name

-- the header says the same name, at the same place
pub record HasSameName (before now : List ℕ) : Type 0 where
  pub place : (header_of now).name ≡ (header_of before).name
  pub text : name_in now ≡ name_in before

-- All of the header's cluster is as before, but for the 8 bytes of the autoclear field. So the
-- header says the same name.
pub record KeepsHeader (before now : List ℕ) : Type 0 where
  pub bytes : (i : ℕ) → i < cluster_size (header_of before).cluster_bits → (i < 88) ⊎ (96 ≤ i)
      → slice_index now i ≡ slice_index before i
  pub name : HasSameName before now

-- wherever it stops, the file is sound, its disk is the same, and it has the old name or the new one
abbrev pub IsOldOrRenamed : Option (List ℕ) → List ℕ → List ℕ → Type 0
IsOldOrRenamed name before now =
    IsSound now × IsSameDisk before now × (HasSameName before now ⊎ (name_in now ≡ name))
