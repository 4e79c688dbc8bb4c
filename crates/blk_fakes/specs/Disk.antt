-- What contracts see of bytes in memory with a log of the writes to them.
use Rattle.std.specs.Prelude.{ℕ, Bool, true, false, ◌≡◌, ◌+◌, ◌-◌, ◌%◌, min, ◌&&◌, ltb, leb, if◌then◌else◌, List, [], ◌∷◌, ◌++◌, length, slice_get, Option, Some, None}
use Rattle.blk_base.specs.Content.{Write, Log, after_writes}
use Rattle.blk_fakes.specs.Calls.{CallState}

-- a log, and how many more writes and bytes go in
pub record LogState : Type 0 where
  pub is_kept : Bool
  pub before : List ℕ
  pub writes : List Write
  pub writes_left : ℕ
  pub bytes_left : ℕ

-- the log, while it is kept
abbrev pub log_of : LogState → Option Log
log_of log =
    if log.is_kept then Some (record { before = log.before; writes = log.writes }) else None

-- a write of so many bytes goes in
abbrev pub goes_in : LogState → ℕ → Bool
goes_in log n = log.is_kept && ltb 0 log.writes_left && leb n log.bytes_left

-- the log with one more write that goes in
abbrev pub with_write : LogState → ℕ → List ℕ → LogState
with_write log offset bytes = record log {
  writes = log.writes ++ record { offset = offset; bytes = bytes } ∷ [];
  writes_left = log.writes_left - 1;
  bytes_left = log.bytes_left - length bytes;
}

-- the log after one more write: it ends with a write past its room
abbrev pub logged_with : LogState → ℕ → List ℕ → LogState
logged_with log offset bytes =
    if goes_in log (length bytes) then with_write log offset bytes
    else record log { is_kept = false }

-- the log after a write; one of no bytes is none
abbrev pub log_after : LogState → ℕ → List ℕ → LogState
log_after log offset [] = log
log_after log offset (byte ∷ bytes) = logged_with log offset (byte ∷ bytes)

-- how much is done of a write of n bytes that is to fail after some: less than all, and at most up to a border of sectors
abbrev pub torn_at : ℕ → ℕ → ℕ → ℕ
torn_at offset n done = min done (n - 1) - (offset + min done (n - 1)) % 512

-- write k is that
abbrev pub WriteAt : List Write → ℕ → ℕ → List ℕ → Type 0
WriteAt writes k offset bytes =
    slice_get writes k ≡ Some (record { offset = offset; bytes = bytes })

-- bytes, the log of the writes to them, and the room with which a log begins
pub record DiskState : Type 0 where
  pub bytes : List ℕ
  pub log : LogState
  pub log_writes : ℕ
  pub log_bytes : ℕ
  pub capacity : ℕ
  pub is_flushed : Bool

-- the bytes: while a log is kept, what its writes come to
abbrev pub told_by : List ℕ → LogState → List ℕ
told_by bytes log = if log.is_kept then after_writes log.before log.writes else bytes

abbrev pub device_bytes : DiskState → List ℕ
device_bytes disk = told_by disk.bytes disk.log

-- a device: its bytes, and its calls
pub record DeviceState : Type 0 where
  pub disk : DiskState
  pub calls : CallState

-- a disk as it is made: flushed, with an empty log
abbrev pub fresh : List ℕ → ℕ → ℕ → ℕ → DiskState
fresh bytes capacity writes room = record {
  bytes = bytes;
  log = record {
    is_kept = true;
    before = bytes;
    writes = [];
    writes_left = writes;
    bytes_left = room;
  };
  log_writes = writes;
  log_bytes = room;
  capacity = capacity;
  is_flushed = true;
}
