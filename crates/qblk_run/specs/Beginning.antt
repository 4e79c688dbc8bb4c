-- What a run begins with.
use Rattle.std.specs.Prelude.{◌≡◌, ℕ, false, List, length, map, None}
use Rattle.blk_base.specs.declared.memory.Room.{Room}
use Rattle.trace_codec.specs.declared.wish.Wish.{Wish}
use Rattle.trace_codec.specs.Script.{Order}
use Rattle.qblk_inputs.specs.Room.{IsRoomFor}
use Rattle.qblk_run.specs.Tasks.{Task, Tasks}

-- a guest with all its wishes, and a script with all its lines
abbrev pub new_task : List Wish → Task
new_task wishes = record { wishes = wishes; left = None; is_done = false }

abbrev pub new_tasks : List Order → List (List Wish) → Tasks
new_tasks script traces = record {
  script = record { orders = script; is_done = false };
  guests = map new_task traces;
}

-- what a run of a script and traces needs beside its store
pub record IsRunReady (script : List Order) (traces : List (List Wish)) (guests : List (List ℕ))
    (actors : Tasks) (its names : List (List ℕ)) (room : Room) : Type 0 where
  pub actors_are : actors ≡ new_tasks script traces
  pub guests_are : its ≡ guests
  pub names_are : names ≡ guests
  pub room_is : IsRoomFor (length script) traces room
