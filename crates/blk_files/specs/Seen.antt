-- What contracts see of real files: counts and lengths, and nothing of what they hold.
use Rattle.std.specs.Prelude.{ℕ, List, Option, None}
use Rattle.blk_base.specs.declared.device.DeviceCall.{DeviceCall}
use Rattle.blk_base.specs.declared.file.CallOnFile.{CallOnFile}
use Rattle.blk_base.specs.declared.file.Opened.{Opened}

-- a file that is open: its length, how often the system has failed on it, and at which call it did last
pub record SystemFile : Type 0 where
  pub length : ℕ
  pub faults : ℕ
  pub failed_call : Option DeviceCall

-- the record of an opening of this file under that name
abbrev pub opened_file_as : List ℕ → SystemFile → Opened
opened_file_as name file = record {
  name = name;
  size = file.length;
  capacity = 9223372036854775807;
  faults = file.faults;
  returned = None;
  failed_call = file.failed_call;
}

-- the files by name: their openings, how often the system has failed on them, and at which call on which file it did
-- last, where there was memory for the name
pub record SystemStore : Type 0 where
  pub opened : List Opened
  pub faults : ℕ
  pub failed_call : Option CallOnFile

-- where the program writes: how often a put has failed
pub record SystemSink : Type 0 where
  pub faults : ℕ
