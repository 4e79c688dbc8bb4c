-- Which of the refusals of two loaders comes first: that of the refcount table's reserved bits, or that of the other tables.
use Rattle.std.specs.Prelude.{ℕ, Option, Some, None, unwrap_or}
use Rattle.std.specs.Option.{option_map}
use Rattle.q2_format.specs.Sound.{Refusal}
use Rattle.q2_format.specs.Sound as sound
use Rattle.q2_format.specs.declared.header.Header.{Header}
use Rattle.q2_tables.specs.declared.stop.TablesStop.{TablesStop}
use Rattle.q2_tables.specs.declared.stop.TablesStop.TheVariants as tables
use Rattle.q2_image.specs.declared.stop.ImageStop.{ImageStop}
use Rattle.q2_image.specs.declared.stop.ImageStop.TheVariants.{Offset, Reserved, Compressed, Io, NoMemory}
use Rattle.q2_image.specs.Opening.{refusal_of}

-- a reserved bit of the refcount table, where there is one, and else what comes behind it
abbrev pub behind_reserved : Header → Option ℕ → ImageStop → ImageStop
behind_reserved h reserved stop = unwrap_or (option_map (Reserved h.ref_offset) reserved) stop

-- Offsets and reserved bits of the L1 table come before a reserved bit of the refcount table, and all else behind it.
abbrev pub merged_stop : Header → Option ℕ → TablesStop → ImageStop
merged_stop h reserved (tables.Offset offset) = Offset offset
merged_stop h reserved (tables.ReservedInL1 index) = Reserved h.l1_offset index
merged_stop h reserved (tables.ReservedInL2 table index) =
    behind_reserved h reserved (Reserved table index)
merged_stop h reserved (tables.Compressed cluster) = behind_reserved h reserved (Compressed cluster)
merged_stop h reserved (tables.Io count) = Io count
merged_stop h reserved tables.NoMemory = NoMemory

-- the first refusal of both
abbrev pub merged_refusal : Header → Option ℕ → Option TablesStop → Option Refusal
merged_refusal h reserved None = option_map (sound.Reserved h.ref_offset) reserved
merged_refusal h reserved (Some stop) = refusal_of (merged_stop h reserved stop)
