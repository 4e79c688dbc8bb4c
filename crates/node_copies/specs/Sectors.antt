-- The sectors of a block that are asked for: which they are, their runs, and where these lie.
use Rattle.std.specs.Prelude.{ℕ, zero, suc, ◌+◌, ◌-◌, ◌*◌, ◌/◌, ◌%◌, ◌^◌, min, ◌==◌, nat_le, nat_lt, ◌&&◌, Bool, true, false, if◌then◌else◌, List, [], ◌∷◌}
use Rattle.std.specs.List.{list_any}
use Rattle.blk_base.specs.Content.{bytes_at}
use Rattle.blk_base.specs.Pieces.{Extent, block_size, end_of}
use Rattle.node_copies.specs.declared.sectors.Run.{Run}

abbrev pub sector_size : ℕ
sector_size = 512

-- sector i of a block is asked for where bit i is set
abbrev pub has_sector : ℕ → ℕ → Bool
has_sector sectors i = sectors / 2 ^ i % 2 == 1

-- One more in front of runs, where it is asked for: it begins the first of them, where that begins behind it.
abbrev pub with_sector : ℕ → Bool → List Run → List Run
with_sector i false runs = runs
with_sector i true [] = record { from = i; to = i + 1 } ∷ []
with_sector i true (run ∷ runs) =
    if run.from == i + 1 then record { from = i; to = run.to } ∷ runs
    else record { from = i; to = i + 1 } ∷ run ∷ runs

-- the runs of those that are asked for, of so many sectors from one on
abbrev pub runs_from : ℕ → ℕ → ℕ → List Run
runs_from zero sectors i = []
runs_from (suc n) sectors i =
    with_sector i (has_sector sectors i) (runs_from n sectors (i + 1))

-- a block of a disk, which ends with the disk
abbrev pub block_of : ℕ → ℕ → Extent
block_of size block =
    record { start = block * block_size; len = min block_size (size - block * block_size) }

-- how many sectors a block has, the last of which may be cut
abbrev pub sector_count : Extent → ℕ
sector_count block = (block.len + 511) / sector_size

-- a run of these has a sector
abbrev pub is_in_run : ℕ → Run → Bool
is_in_run sector run = nat_le run.from sector && nat_lt sector run.to

abbrev pub has_run : List Run → ℕ → Bool
has_run runs sector = list_any (is_in_run sector) runs

abbrev pub runs_of : Extent → ℕ → List Run
runs_of block sectors = runs_from (sector_count block) sectors 0

-- where a run lies in its block, and on the disk
abbrev pub run_start : Run → ℕ
run_start run = sector_size * run.from

abbrev pub run_len : Extent → Run → ℕ
run_len block run = min (sector_size * run.to) block.len - run_start run

abbrev pub run_span : Extent → Run → Extent
run_span block run =
    record { start = block.start + run_start run; len = run_len block run }

-- its bytes, of those of the block
abbrev pub run_bytes : Extent → List ℕ → Run → List ℕ
run_bytes block bytes run = bytes_at bytes (run_start run) (run_len block run)

-- the sector of a place of the disk, and whether that is asked for
abbrev pub sector_at : Extent → ℕ → ℕ
sector_at block place = (place - block.start) / sector_size

abbrev pub is_asked : Extent → ℕ → ℕ → Bool
is_asked block sectors place =
    nat_le block.start place && nat_lt place (end_of block)
    && has_sector sectors (sector_at block place)
