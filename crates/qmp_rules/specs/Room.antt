-- A table with the room that it has for more.
use Rattle.std.specs.Prelude.{ℕ, ◌+◌, ◌^◌, ◌<◌, ◌≤◌}
use Rattle.qmp_rules.specs.Table.{RunTable}

-- how many rows more there is memory for, of each kind
pub record Spare : Type 0 where
  pub nodes : ℕ
  pub devices : ℕ
  pub jobs : ℕ
  pub bitmaps : ℕ
  pub files : ℕ
  pub kept : ℕ

pub record Roomy : Type 0 where
  pub table : RunTable
  pub spare : Spare

-- So many changes can be made without taking memory: each adds a row of a kind at most. Numbers of jobs have 32 bits, and
-- edges have always room.
pub record HasRoomForChanges (changes : ℕ) (names : Roomy) : Type 0 where
  pub nodes : changes ≤ names.spare.nodes
  pub devices : changes ≤ names.spare.devices
  pub jobs : changes ≤ names.spare.jobs
  pub bitmaps : changes ≤ names.spare.bitmaps
  pub files : changes ≤ names.spare.files
  pub kept : changes ≤ names.spare.kept
  pub starts : names.table.started + changes < 2 ^ 32

-- what one change takes of the room at most
pub record TakesLittle (old new : Roomy) : Type 0 where
  pub nodes : old.spare.nodes ≤ new.spare.nodes + 1
  pub devices : old.spare.devices ≤ new.spare.devices + 1
  pub jobs : old.spare.jobs ≤ new.spare.jobs + 1
  pub bitmaps : old.spare.bitmaps ≤ new.spare.bitmaps + 1
  pub files : old.spare.files ≤ new.spare.files + 1
  pub kept : old.spare.kept ≤ new.spare.kept + 1
  pub starts : new.table.started ≤ old.table.started + 1

-- the table may be another one, and there is as much memory
pub record KeepsSpare (old new : Roomy) : Type 0 where
  pub nodes : old.spare.nodes ≤ new.spare.nodes
  pub devices : old.spare.devices ≤ new.spare.devices
  pub jobs : old.spare.jobs ≤ new.spare.jobs
  pub bitmaps : old.spare.bitmaps ≤ new.spare.bitmaps
  pub files : old.spare.files ≤ new.spare.files
  pub kept : old.spare.kept ≤ new.spare.kept
