-- The flat machine: what each entry of a history does to its tables and disks.
use Rattle.std.specs.Prelude.{ℕ, zero, suc, ◌+◌, ◌==◌, if◌then◌else◌, Bool, true, false, List, [], ◌∷◌, ◌++◌, map, Option, Some, None, option_map, option_and_then}
use Rattle.std.specs.List.{list_any}
use Rattle.blk_base.specs.Pieces.{Extent}
use Rattle.blk_base.specs.declared.fault.Outcome.{Outcome}
use Rattle.blk_base.specs.declared.fault.Outcome.TheVariants.{Good, Torn}
use Rattle.blk_graph.specs.declared.kind.Kind.{Kind}
use Rattle.blk_graph.specs.declared.kind.Kind.TheVariants.{CopyOnRead}
use Rattle.trace_codec.specs.declared.op.Op.{Op}
use Rattle.trace_codec.specs.declared.op.Op.TheVariants.{Read, Write, Zero}
use Rattle.qmp_rules.specs.Table.{RunTable, node_by_id, job_at}
use Rattle.qmp_rules.specs.Chains.{filtered, disk_node, written_under}
use Rattle.blk_history.specs.Fold.{run, change}
use Rattle.blk_history.specs.Disk.{piece, done_in}
use Rattle.flat_machine.specs.State.{State, Guest, Disk, Dirty, guest_at, drive_of}
use Rattle.blk_history.specs.Machine.{Flight, one_further, done_by}
use Rattle.flat_machine.specs.Marking.{marked, where_recording}
use Rattle.flat_machine.specs.Jobs.{unsure, started, readied, ended}
use Rattle.flat_machine.specs.Replies.{replied}
use Rattle.blk_history.specs.declared.event.Event.{Event}
use Rattle.blk_history.specs.declared.event.Event.TheVariants.{Admit, Refuse, Piece, Retire, Reply, Reached, Start, Ready, End, Done}

-- ---- a guest's row

abbrev pub with_guest : ℕ → (Guest → Guest) → State → State
with_guest g f s = record s { guests = change g f s.guests }

abbrev pub admitted : Op → Guest → Guest
admitted op row = record row { flight = Some (record { op = op; next = 0; is_stopped = false }) }

abbrev pub finished : Guest → Guest
finished row = record row { done = row.done + 1; flight = None }

abbrev pub past_piece : Outcome → Guest → Guest
past_piece outcome row = record row { flight = option_map (one_further outcome) row.flight }

-- ---- what a piece does

abbrev pub disk_changed : ℕ → (List ℕ → List ℕ) → Disk → Disk
disk_changed node f d = if d.node == node then record d { bytes = f d.bytes } else d

abbrev pub with_disk : ℕ → (List ℕ → List ℕ) → State → State
with_disk node f s = record s { disks = map (disk_changed node f) s.disks }

-- from a node down to the one that it reads as
abbrev pub path_from : ℕ → RunTable → ℕ → List ℕ
path_from zero t node = node ∷ []
path_from (suc more) t node =
    node ∷ (elim (filtered t node) as (λ _. List ℕ) [
      | None ↦ []
      | Some below ↦ path_from more t
          below
    ])

unfoldable pub path : RunTable → ℕ → List ℕ
path t node = path_from 64 t node

-- something was written of it: the bitmaps on the guest's path note the whole piece
abbrev pub is_noted : Outcome → Bool
is_noted Good = true
is_noted (Torn done dev count) = true
is_noted outcome = false

abbrev pub noted : RunTable → Extent → List Dirty → List ℕ → List Dirty
noted t part = run (λ ds node. where_recording t node (marked part) ds)

abbrev pub note : Outcome → Extent → ℕ → State → State
note outcome part drive s =
    if is_noted outcome then record s { dirty = noted s.table part s.dirty (path s.table drive) }
    else s

-- every other node that reaches the disk's node by backing edges is unsettled, and its image may map a cluster
abbrev pub node_written : ℕ → State → State
node_written node s = record s {
  table = written_under node s.table;
  images = map (unsure (node ∷ [])) s.images;
}

-- a read through copy-on-read writes what it reads into the image below
abbrev pub is_copying : Kind → Bool
is_copying CopyOnRead = true
is_copying kind = false

abbrev pub copies_at : RunTable → ℕ → Bool
copies_at t node =
    elim (node_by_id t node) as (λ _. Bool) [ None ↦ false | Some row ↦ is_copying row.kind ]

abbrev pub copies_through : RunTable → ℕ → Bool
copies_through t node = list_any (copies_at t) (path t node)

abbrev pub read_through : ℕ → State → State
read_through drive s =
    if copies_through s.table drive
    then record s { images = map (unsure (disk_node s.table drive ∷ [])) s.images }
    else s

-- beside the disk's bytes
abbrev pub touched : Op → Outcome → Extent → ℕ → State → State
touched (Read span) outcome part drive s = read_through drive s
touched (Write span payload) outcome part drive s =
    note outcome part drive (node_written (disk_node s.table drive) s)
touched (Zero span) outcome part drive s =
    note outcome part drive (node_written (disk_node s.table drive) s)
touched op outcome part drive s = s

-- piece k of a request in flight, on the disk of the guest's device
abbrev pub with_part : ℕ → Op → Outcome → Extent → State → State
with_part drive op outcome part s =
    touched op outcome part drive
    (with_disk (disk_node s.table drive) (done_in op part (done_by outcome part)) s)

abbrev pub with_piece : Option ℕ → Option Flight → ℕ → Outcome → State → State
with_piece (Some drive) (Some f) k outcome s = with_part drive f.op outcome (piece f.op k) s
with_piece drive flight k outcome s = s

abbrev pub flight_of : State → ℕ → Option Flight
flight_of s g = option_and_then (λ row. row.flight) (guest_at s g)

-- ---- each entry

abbrev pub after : State → Event → State
after s (Admit g r op) = with_guest g (admitted op) s
after s (Refuse g r op why) = with_guest g finished s
after s (Piece g r k outcome got) =
    with_guest g (past_piece outcome) (with_piece (drive_of s.table g) (flight_of s g) k outcome s)
after s (Retire g r) = with_guest g finished s
after s (Reply line given command text) = replied s given text
after s (Reached line what) = s
after s (Start job) = started s (job_at s.table job)
after s (Ready job) = readied job s
after s (End job outcome offset) = ended s (job_at s.table job) outcome
after s (Done actor) = record s { ended = s.ended ++ actor ∷ [] }

-- the state after a history
abbrev pub replay : State → List Event → State
replay = run after
