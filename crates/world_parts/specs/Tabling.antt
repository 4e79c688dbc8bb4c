-- What each entry of a history makes of the table and of what is dirty, whatever the store tells.
use Rattle.std.specs.Prelude.{◌≡◌, ℕ, List, [], ◌∷◌, map, Option, Some}
use Rattle.blk_base.specs.declared.fault.Outcome.{Outcome}
use Rattle.blk_history.specs.Disk.{piece}
use Rattle.blk_history.specs.Machine.{Flight}
use Rattle.blk_history.specs.declared.event.Event.{Event}
use Rattle.blk_history.specs.declared.event.Event.TheVariants.{Piece, Reply, Start, Ready, End}
use Rattle.qmp_rules.specs.Answers.{line_answer, line_text}
use Rattle.qmp_rules.specs.Chains.{disk_node}
use Rattle.qmp_rules.specs.Changes.{all_changed}
use Rattle.qmp_rules.specs.Table.{RunTable, opening_table}
use Rattle.qmp_rules.specs.declared.told.Told.{Told}
use Rattle.flat_machine.specs.Comes.{guest_step}
use Rattle.flat_machine.specs.Machine.{after}
use Rattle.flat_machine.specs.Marking.{dirty_bytes}
use Rattle.flat_machine.specs.Marks.{AreCalm, marks_of, reply_marks}
use Rattle.flat_machine.specs.Opening.{new_guest, state_over}
use Rattle.flat_machine.specs.Recording.{dirty_after, dirty_by}
use Rattle.flat_machine.specs.State.{State, Dirty, Guest, drive_of}
use Rattle.world_parts.specs.Piecing.{table_after}
use Rattle.world_parts.specs.Progress.{flight_at}

-- a piece of a request in flight, on the guest's drive
abbrev pub piece_table : Option ℕ → Option Flight → RunTable → RunTable
piece_table (Some drive) (Some f) t = table_after f.op (disk_node t drive) t
piece_table drive flight t = t

-- and what is dirty then, by the table behind it
abbrev pub piece_dirty : Option ℕ → Option Flight → ℕ → Outcome → RunTable → List Dirty → List Dirty
piece_dirty (Some drive) (Some f) k outcome t ds = dirty_by f.op outcome (piece f.op k) drive t ds
piece_dirty drive flight k outcome t ds = ds

pub record IsPieceBy (drive : Option ℕ) (flight : Option Flight) (k : ℕ) (outcome : Outcome)
    (t : RunTable) (ds : List Dirty) (now : RunTable) (left : List Dirty) : Type 0 where
  pub table : now ≡ piece_table drive flight t
  pub dirty : left ≡ piece_dirty drive flight k outcome now ds

-- This is what the rules answer to the line where files told something, and the changes of that answer were made. On no disk
-- that the line marks had a guest a request in flight.
pub record IsAnsweredBy (guests : List Guest) (t : RunTable) (ds : List Dirty) (given text : List ℕ)
    (now : RunTable) (left : List Dirty) : Type 0 where
  pub calm : AreCalm t guests (reply_marks t given text)
  pub told : Told
  pub counts : told.dirty ≡ map dirty_bytes ds
  pub says : text ≡ line_text t told given
  pub changes : now ≡ all_changed t (line_answer t told given).changes
  pub dirty : left ≡ dirty_after t ds (line_answer t told given).changes

-- a state with this table, and so much dirty, over no files
abbrev pub tabled : RunTable → List Dirty → State
tabled t ds = record (state_over [] 0 t []) { dirty = ds }

-- An entry of a job: table and dirty granules are those of the flat machine, in which disks and files have no part. On no disk
-- that it marks had a guest a request in flight.
pub record IsJobsBy (guests : List Guest) (t : RunTable) (ds : List Dirty) (e : Event)
    (now : RunTable)
    (left : List Dirty) : Type 0 where
  pub calm : AreCalm t guests (marks_of (tabled t ds) e)
  pub table : now ≡ (after (tabled t ds) e).table
  pub dirty : left ≡ (after (tabled t ds) e).dirty

-- of guests that have so far got; other entries change neither
abbrev pub IsTableBy : List Guest → RunTable → List Dirty → Event → RunTable → List Dirty → Type 0
IsTableBy guests t ds (Piece g r k outcome got) now left =
    IsPieceBy (drive_of t g) (flight_at guests g) k outcome t ds now left
IsTableBy guests t ds (Reply line given command text) now left =
    IsAnsweredBy guests t ds given text now left
IsTableBy guests t ds (Start job) now left = IsJobsBy guests t ds (Start job) now left
IsTableBy guests t ds (Ready job) now left = IsJobsBy guests t ds (Ready job) now left
IsTableBy guests t ds (End job outcome offset) now left =
    IsJobsBy guests t ds (End job outcome offset) now left
IsTableBy guests t ds e now left = (now ≡ t) × (left ≡ ds)

abbrev pub AreTablesBy : List Guest → RunTable → List Dirty → List Event → RunTable → List Dirty
    → Type 0
AreTablesBy guests t ds [] now left = (now ≡ t) × (left ≡ ds)
AreTablesBy guests t ds (e ∷ h) now left = (next : RunTable) × (between : List Dirty)
    × IsTableBy guests t ds e next between
    × AreTablesBy (guest_step guests e) next between h now left

-- the table and the dirty granules that a history leaves of a run with guests of these names
abbrev pub IsTableAfter : List (List ℕ) → List Event → RunTable → List Dirty → Type 0
IsTableAfter names h now left =
    AreTablesBy (map (λ name. new_guest) names) (opening_table names) [] h now left
