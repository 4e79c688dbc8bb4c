-- The state in which a run begins.
use Rattle.std.specs.Prelude.{ℕ, List, [], map, None}
use Rattle.blk_base.specs.declared.file.File.{File}
use Rattle.qmp_rules.specs.Table.{RunTable, opening_table}
use Rattle.flat_machine.specs.State.{State, Guest}
use Rattle.flat_machine.specs.Contents.{found}
use Rattle.flat_machine.specs.declared.opening.Opening.{Opening}

-- a guest that has asked for nothing yet
abbrev pub new_guest : Guest
new_guest = record { done = 0; flight = None }

-- the state of a table without nodes' disks, over these files
abbrev pub state_over : List File → ℕ → RunTable → List (List ℕ) → State
state_over files room table guests = record {
  room = room;
  table = table;
  guests = map (λ name. new_guest) guests;
  disks = [];
  left = [];
  files = map found files;
  named = [];
  images = [];
  dirty = [];
  begun = [];
  starts = 0;
  ending = None;
  ended = [];
}

-- a run begins with the files as they are found, and nothing else
abbrev pub start : Opening → State
start o = state_over o.files o.room (opening_table o.guests) o.guests
