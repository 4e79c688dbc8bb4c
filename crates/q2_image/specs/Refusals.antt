-- What a refusal of an opening says, whatever the file holds.
use Rattle.std.specs.Prelude.{◌≡◌, ◌⊎◌, ℕ, ◌<◌, List, slice_index, Option, Some, None}
use Rattle.blk_base.specs.Content.{AreZeroPast}
use Rattle.q2_format.specs.Header.{CanBeRead, IsWithinLimits, header_refusal}
use Rattle.q2_format.specs.Sound.{Refusal}
use Rattle.q2_format.specs.declared.header.Header.{Header}
use Rattle.q2_refs.specs.Kept as refs
use Rattle.q2_tables.specs.Kept as tables
use Rattle.q2_image.specs.Loading.{CanBeWords, ImageWords, table_stops}
use Rattle.q2_image.specs.Opening.{place_stops, refusal_of}
use Rattle.q2_image.specs.Placed.{AreKept, kept_stops}
use Rattle.q2_image.specs.declared.stop.ImageStop.{ImageStop}
use Rattle.q2_image.specs.declared.stop.ImageStop.TheVariants.{Header as HeaderStops, Io, NoMemory}

-- these numbers are bytes
abbrev pub AreBytes : List ℕ → Type 0
AreBytes bytes = (k : ℕ) → slice_index bytes k < 256

-- bytes with which a file of `len` bytes can begin
abbrev pub CanBegin : ℕ → List ℕ → Type 0
CanBegin len bytes = AreBytes bytes × AreZeroPast len 0 bytes

-- it is the first refusal of some words of a header's tables
abbrev pub IsOfWords : Header → ℕ → Option Refusal → Type 0
IsOfWords h len refusal =
    (words : ImageWords) × CanBeWords h len words
    × (table_stops h len words.table words.tree ≡ refusal)

-- it is the first refusal of what tables name and count, of whose words nothing is refused
abbrev pub IsOfNames : Header → ℕ → Option Refusal → Type 0
IsOfNames h len refusal =
    (r : refs.KeptRefs) × (t : tables.KeptTables) × AreKept h len r t
    × (kept_stops h len r t ≡ refusal)

-- it is the first refusal behind a header
abbrev pub IsBehindHeader : Header → ℕ → Option Refusal → Type 0
IsBehindHeader h len refusal =
    (place_stops h len ≡ refusal)
    ⊎ ((place_stops h len ≡ None) × (IsOfWords h len refusal ⊎ IsOfNames h len refusal))

-- In a file of `len` bytes some first bytes are refused so, or the refusal comes behind a header that reading can give.
abbrev pub IsRefusalFor : ImageStop → ℕ → Type 0
IsRefusalFor (HeaderStops stop) len =
    (bytes : List ℕ) × CanBegin len bytes × (header_refusal bytes len ≡ Some stop)
IsRefusalFor (Io count) len = Unit {0}
IsRefusalFor NoMemory len = Unit {0}
IsRefusalFor stop len =
    (h : Header) × CanBeRead h len × IsWithinLimits h len
    × IsBehindHeader h len (refusal_of stop)
