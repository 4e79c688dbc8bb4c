-- Rows of the table of bitmaps, and what the calls make of one row.
use Rattle.std.specs.Prelude.{◌≡◌, ◌<◌, ◌^◌, ℕ, zero, suc, ◌+◌, ◌-◌, ◌*◌, ◌/◌, ◌==◌, nat_lt, nat_le, Bool, true, false, ◌&&◌, ◌||◌, if◌then◌else◌, List, [], ◌∷◌, length, replicate, bytes_eq, Option, Some, None}
use Rattle.std.specs.Int.{is_power_of_two}
use Rattle.std.specs.List.{list_any}
use Rattle.blk_base.specs.Pieces.{Extent}
use Rattle.blk_base.specs.Written.{Written}
use Rattle.blk_bits.specs.Granules.{contains, those_below, merged}
use Rattle.blk_bitmaps.specs.declared.row.Bitmap.{Bitmap}

-- a power of two from 512 to 2,097,152
abbrev pub is_granule_size : ℕ → Bool
is_granule_size bytes = nat_le 512 bytes && (nat_le bytes 2097152 && is_power_of_two bytes)

-- how many granules a disk has; the last one may reach past its end
abbrev pub granule_count : ℕ → ℕ → ℕ
granule_count size granularity = (size + granularity - 1) / granularity

abbrev pub is_named : ℕ → List ℕ → Bitmap → Bool
is_named node name row = (row.node == node) && bytes_eq row.name.bytes name

-- a row that records the writes of a node
abbrev pub records : ℕ → Bitmap → Bool
records node row = (row.node == node) && row.enabled

abbrev pub is_busy_with : ℕ → Option ℕ → Bool
is_busy_with job None = false
is_busy_with job (Some other) = other == job

abbrev pub is_used_by : ℕ → Bitmap → Bool
is_used_by job row = is_busy_with job row.busy

-- a new row: nothing is dirty, and no job uses it
abbrev pub added : ℕ → Written → ℕ → ℕ → Bool → Bitmap
added node name size granularity on = record {
  node = node;
  name = name;
  size = size;
  granularity = granularity;
  enabled = on;
  busy = None;
  dirty = replicate (granule_count size granularity) false;
  frozen = None;
}

abbrev pub switched : Bool → Bitmap → Bitmap
switched on row = record row { enabled = on }

abbrev pub emptied : Bitmap → Bitmap
emptied row = record row { dirty = replicate (length row.dirty) false }

abbrev pub filled : Bitmap → Bitmap
filled row = record row { dirty = replicate (length row.dirty) true }

-- granule k has a byte of the span
abbrev pub span_touches : ℕ → Extent → ℕ → Bool
span_touches granularity span k =
    nat_lt 0 span.len
    && (nat_lt (granularity * k) (span.start + span.len)
    && nat_lt span.start (granularity * (k + 1)))

-- each granule with a byte of the span is dirty
abbrev pub written : Extent → Bitmap → Bitmap
written span row =
    record row {
      dirty = those_below (length row.dirty)
          (λ k. contains row.dirty k || span_touches row.granularity span k);
    }

-- each granule that overlaps a dirty one of the source is dirty
abbrev pub merged_row : Bitmap → Bitmap → Bitmap
merged_row source row =
    record row {
      dirty = merged (record { mine = row.granularity; theirs = source.granularity })
          row.dirty source.dirty;
    }

-- the set of what is written from now on, once a job uses the row: nothing yet
abbrev pub spare_of : Bitmap → List Bool
spare_of row = replicate (length row.dirty) false

abbrev pub IsSpareOf : List Bool → Bitmap → Type 0
IsSpareOf spare row = spare ≡ spare_of row

-- a job uses the row: what was dirty is put aside, and what is written from now on is dirty
abbrev pub used : ℕ → Bitmap → Bitmap
used job row = record row {
  busy = Some job;
  dirty = spare_of row;
  frozen = Some row.dirty;
}

-- a set with what was put aside
abbrev pub with_frozen : List Bool → Option (List Bool) → List Bool
with_frozen set None = set
with_frozen set (Some old) = those_below (length set) (λ k. contains set k || contains old k)

-- the use ends: what was put aside is dropped, or is dirty again
abbrev pub use_ended : Bool → Bitmap → Bitmap
use_ended drops row = record row {
  busy = None;
  dirty = if drops then row.dirty else with_frozen row.dirty row.frozen;
  frozen = None;
}

abbrev pub is_aside : Option (List Bool) → ℕ → Bool
is_aside None k = false
is_aside (Some old) k = contains old k

-- a granule of the row is dirty, be it put aside
abbrev pub is_dirty : Bitmap → ℕ → Bool
is_dirty row k = contains row.dirty k || is_aside row.frozen k

-- how many granules below a number are dirty
abbrev pub dirty_below : Bitmap → ℕ → ℕ
dirty_below row zero = 0
dirty_below row (suc k) = dirty_below row k + (if is_dirty row k then 1 else 0)

-- ---- tables of rows

-- no two have one node and name
abbrev pub HaveDistinctNames : List Bitmap → Type 0
HaveDistinctNames [] = Unit {0}
HaveDistinctNames (row ∷ rows) =
    (list_any (is_named row.node row.name.bytes) rows ≡ false) × HaveDistinctNames rows

-- the bytes of its granules are counted in 64 bits
abbrev pub IsCountable : Bitmap → Type 0
IsCountable row = length row.dirty * row.granularity < 2 ^ 64
