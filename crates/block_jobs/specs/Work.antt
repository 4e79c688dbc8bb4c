-- What a job keeps of its copying: which parts of its disk are left to copy, the copies in flight, and the first fault; and what
-- each step makes of it.
use Rattle.std.specs.Prelude.{◌≡◌, ℕ, ◌+◌, ◌*◌, ◌/◌, ◌%◌, ◌^◌, ◌<◌, ◌≤◌, ◌==◌, Bool, true, false, not, ◌&&◌, ◌||◌, if◌then◌else◌, List, [], ◌∷◌, ◌++◌, length, replicate, find, Option, Some, None, is_some, unwrap_or}
use Rattle.std.specs.List.{range_with_len, list_any}
use Rattle.std.specs.Simd.Lanes.{mask_l}
use Rattle.blk_base.specs.Pieces.{Extent, block_size}
use Rattle.blk_base.specs.declared.fault.Fault.{Fault}
use Rattle.blk_bitmaps.specs.Rows.{granule_count, span_touches}
use Rattle.blk_bits.specs.Granules.{contains, merged, those_below, without_span}
use Rattle.blk_copy.specs.Rows.{has_row, without_row}
use Rattle.blk_copy.specs.declared.transfers.Transfer.{Transfer}
use Rattle.qmp_codec.specs.declared.event.JobKind.{JobKind}
use Rattle.qmp_codec.specs.declared.event.JobKind.TheVariants.{Stream, Commit, Mirror, Backup}

-- The job's number in the run, and how many bytes its disk has; how many bytes a part has, and which parts are left; the copies
-- in flight, in the order in which they were taken, and how many there is room for; the first fault.
pub record JobWork : Type 0 where
  pub job : ℕ
  pub size : ℕ
  pub part : ℕ
  pub left : List Bool
  pub rows : List Transfer
  pub room : ℕ
  pub met : Option Fault

-- Parts and blocks.

abbrev pub sector_size : ℕ
sector_size = 512

-- a part is a granule where a block is made of whole granules, and these of whole sectors; else it is a block
abbrev pub part_bytes : ℕ → ℕ
part_bytes granularity =
    if (granularity % sector_size == 0) && (block_size % granularity == 0) then granularity
    else block_size

abbrev pub block_count : ℕ → ℕ
block_count size = granule_count size block_size

abbrev pub block_at : ℕ → ℕ
block_at place = place / block_size

-- how many parts a block has
abbrev pub parts_a_block : JobWork → ℕ
parts_a_block work = block_size / work.part

-- the part of a place of the disk is left
abbrev pub is_left : JobWork → ℕ → Bool
is_left work place = contains work.left (place / work.part)

-- a part of a block is left
abbrev pub has_left : JobWork → ℕ → Bool
has_left work block =
    list_any (contains work.left)
    (range_with_len (block * parts_a_block work) (parts_a_block work))

-- a copy of a block is in flight
abbrev pub has_open : JobWork → ℕ → Bool
has_open work block = has_row work.job block work.rows

-- the least block with a part left of which no copy is in flight
abbrev pub is_next : JobWork → ℕ → Bool
is_next work block = has_left work block && not (has_open work block)

abbrev pub next_block : JobWork → Option ℕ
next_block work = find (is_next work) (range_with_len 0 (block_count work.size))

-- the sectors of a block whose parts are left; of sector i it is bit i
unfoldable pub sectors_left : JobWork → ℕ → ℕ
sectors_left work block =
    mask_l (those_below 128 (λ sector. is_left work (block * block_size + sector * sector_size)))

-- The steps.

-- a copy in flight for each block is what backups and mirrors have room for
abbrev pub room_for : JobKind → ℕ → ℕ
room_for Stream size = 0
room_for Commit size = 0
room_for Mirror size = block_count size
room_for Backup size = block_count size

-- no part is left
abbrev pub begun : JobKind → ℕ → ℕ → ℕ → JobWork
begun kind job size granularity =
    record {
      job = job;
      size = size;
      part = part_bytes granularity;
      left = replicate (granule_count size (part_bytes granularity)) false;
      rows = [];
      room = room_for kind size;
      met = None;
    }

-- all of the disk is left
abbrev pub all_left : JobWork → JobWork
all_left work = record work { left = replicate (length work.left) true }

-- each part that has a byte of a dirty granule is left
abbrev pub granules_left : ℕ → List Bool → JobWork → JobWork
granules_left granularity set work =
    record work { left = merged (record { mine = work.part; theirs = granularity }) work.left set }

-- each part that has a byte of a span is left again; nothing is done for a job that met a fault
abbrev pub left_again : Extent → JobWork → JobWork
left_again span work =
    if is_some work.met then work
    else record work {
      left = those_below (length work.left)
          (λ part. contains work.left part || span_touches work.part span part);
    }

-- no part of a block is left
abbrev pub without_block : ℕ → JobWork → JobWork
without_block block work =
    let from = block * parts_a_block work in
    record work { left = without_span work.left from (from + parts_a_block work) }

abbrev pub with_transfer : Transfer → JobWork → JobWork
with_transfer t work = record work { rows = work.rows ++ t ∷ [] }

abbrev pub without_transfer : ℕ → JobWork → JobWork
without_transfer block work = record work { rows = without_row work.job block work.rows }

-- a mirror's block isn't left from its take on, so that what is written since is left again; any other's is until it was copied
abbrev pub after_take : JobKind → Transfer → JobWork → JobWork
after_take Mirror t work = with_transfer t (without_block t.cluster work)
after_take kind t work = with_transfer t work

abbrev pub after_settle : JobKind → ℕ → JobWork → JobWork
after_settle Mirror block work = without_transfer block work
after_settle kind block work = without_transfer block (without_block block work)

-- a block is copied at once, and a copy of it in flight comes too late
abbrev pub after_copy : ℕ → JobWork → JobWork
after_copy block work = without_transfer block (without_block block work)

-- nothing is left to do from then on, no copy is in flight, and the first fault is kept
abbrev pub failed_by : Fault → JobWork → JobWork
failed_by fault work =
    record work {
      left = replicate (length work.left) false;
      rows = [];
      met = Some (unwrap_or work.met fault);
    }

-- What holds of it always.

-- the copies in flight are the job's own, of blocks of its disk, and one a block at most
abbrev pub AreCopiesOf : ℕ → ℕ → List Transfer → Type 0
AreCopiesOf job size [] = Unit {0}
AreCopiesOf job size (row ∷ rows) =
    (row.job ≡ job) × (row.cluster < block_count size)
    × (has_row job row.cluster rows ≡ false) × AreCopiesOf job size rows

pub record IsJobWork (work : JobWork) : Type 0 where
  pub size : work.size ≤ 2 ^ 47
  pub some : 0 < work.part
  pub sectors : sector_size * (work.part / sector_size) ≡ work.part
  pub blocks : work.part * (block_size / work.part) ≡ block_size
  pub left : length work.left ≡ granule_count work.size work.part
  pub copies : AreCopiesOf work.job work.size work.rows

-- there is room for a copy of each block
abbrev pub HasRoomForAll : JobWork → Type 0
HasRoomForAll work = block_count work.size ≤ work.room
