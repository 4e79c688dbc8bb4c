-- The dirty granules of bitmaps.
use Rattle.std.specs.Prelude.{ℕ, ◌*◌, ◌==◌, Bool, true, false, ◌&&◌, ◌||◌, if◌then◌else◌, List, length, replicate, map, find, count_by, bytes_eq, Option, Some, None, option_map, unwrap_or}
use Rattle.blk_base.specs.Pieces.{Extent}
use Rattle.blk_bits.specs.Granules.{contains, those_below, merged}
use Rattle.blk_bitmaps.specs.Rows.{granule_count, span_touches, with_frozen}
use Rattle.qmp_rules.specs.declared.rows.BitmapRow.{BitmapRow}
use Rattle.qmp_rules.specs.Table.{RunTable, bitmap_at}
use Rattle.flat_machine.specs.State.{Dirty}

-- a new bitmap of a disk of so many bytes: nothing is dirty
abbrev pub clean : BitmapRow → ℕ → Dirty
clean row size = record {
  node = row.node;
  name = row.name;
  granularity = row.granularity;
  set = replicate (granule_count size row.granularity) false;
  aside = None;
}

abbrev pub made_clean : Dirty → Dirty
made_clean d = record d { set = replicate (length d.set) false }

abbrev pub made_dirty : Dirty → Dirty
made_dirty d = record d { set = replicate (length d.set) true }

-- each granule with a byte of the span
abbrev pub marked : Extent → Dirty → Dirty
marked span d =
    record d {
      set = those_below (length d.set)
          (λ k. contains d.set k || span_touches d.granularity span k);
    }

-- each granule that overlaps a dirty one of the source
abbrev pub dirtied_by : Dirty → Dirty → Dirty
dirtied_by source d =
    record d {
      set = merged (record { mine = d.granularity; theirs = source.granularity }) d.set
          source.set;
    }

-- a job copies by it: what is dirty stands aside
abbrev pub put_aside : Dirty → Dirty
put_aside d = record d { set = replicate (length d.set) false; aside = Some d.set }

-- the job is over: what stands aside is dropped, or is dirty again
abbrev pub taken_back : Bool → Dirty → Dirty
taken_back drops d = record d {
  set = if drops then d.set else with_frozen d.set d.aside;
  aside = None;
}

-- all that is dirty, with what stands aside
abbrev pub all_dirty : Dirty → List Bool
all_dirty d = with_frozen d.set d.aside

-- how many bytes that is
abbrev pub dirty_bytes : Dirty → ℕ
dirty_bytes d = d.granularity * count_by (λ is_dirty. is_dirty) (all_dirty d)

-- ---- in their list

abbrev pub is_dirty_of : ℕ → List ℕ → Dirty → Bool
is_dirty_of node name d = (d.node == node) && bytes_eq d.name name

abbrev pub dirty_at : List Dirty → ℕ → List ℕ → Option Dirty
dirty_at ds node name = find (is_dirty_of node name) ds

-- those that pass a test are changed
abbrev pub where_dirty : (Dirty → Bool) → (Dirty → Dirty) → List Dirty → List Dirty
where_dirty test change ds = map (λ d. if test d then change d else d) ds

-- a bitmap that records writes
abbrev pub records_writes : RunTable → Dirty → Bool
records_writes t d = unwrap_or (option_map (λ row. row.enabled) (bitmap_at t d.node d.name)) false

-- the bitmaps of a node that record are changed
abbrev pub where_recording : RunTable → ℕ → (Dirty → Dirty) → List Dirty → List Dirty
where_recording t node change ds =
    where_dirty (λ d. (d.node == node) && records_writes t d) change ds

-- the source's granules are dirty in the target too, where the source is there
abbrev pub merge_from : Option Dirty → ℕ → List ℕ → List Dirty → List Dirty
merge_from None node name ds = ds
merge_from (Some source) node name ds = where_dirty (is_dirty_of node name) (dirtied_by source) ds
