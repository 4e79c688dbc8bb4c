-- The flat machine: its tables and disks, and what each entry of a history does to them.
use Rattle.std.specs.Prelude.{ℕ, ◌+◌, ◌==◌, if◌then◌else◌, Bool, false, not, List, [], ◌∷◌, map, slice_get, Option, Some, None, option_map}
use Rattle.blk_base.specs.Pieces.{Extent}
use Rattle.blk_base.specs.declared.fault.Outcome.{Outcome}
use Rattle.blk_base.specs.declared.fault.Outcome.TheVariants.{Good, Torn, Io, NoSpace}
use Rattle.blk_base.specs.Outcomes.{is_good}
use Rattle.trace_codec.specs.declared.op.Op.{Op}
use Rattle.blk_history.specs.Fold.{run, change}
use Rattle.blk_history.specs.Disk.{piece, done_in}
use Rattle.blk_history.specs.declared.event.Event.{Event}
use Rattle.blk_history.specs.declared.event.Event.TheVariants.{Admit, Refuse, Piece, Retire}

-- a node of the block graph: the size of its disk
pub record Node : Type 0 where
  pub size : ℕ

-- a request in flight: its next piece, and whether one before it wasn't good
pub record Flight : Type 0 where
  pub op : Op
  pub next : ℕ
  pub is_stopped : Bool

-- a guest: its node, whether it is read-only, how many of its requests are done, and the one in flight
pub record IoGuest : Type 0 where
  pub node : ℕ
  pub is_read_only : Bool
  pub done : ℕ
  pub flight : Option Flight

-- Nodes and guests by number. A node's number is its place in the order of addition, and is never used again.
pub record IoTable : Type 0 where
  pub nodes : List Node
  pub guests : List IoGuest

-- a node's flat disk; none while the node is unsettled
pub record IoDisk : Type 0 where
  pub node : ℕ
  pub bytes : Option (List ℕ)

pub record IoState : Type 0 where
  pub table : IoTable
  pub disks : List IoDisk

abbrev pub io_guest_at : IoState → ℕ → Option IoGuest
io_guest_at s g = slice_get s.table.guests g

abbrev pub node_at : IoState → ℕ → Option Node
node_at s n = slice_get s.table.nodes n

-- the settled disk of a node
abbrev pub disk_in : List IoDisk → ℕ → Option (List ℕ)
disk_in [] n = None
disk_in (d ∷ disks) n = if d.node == n then d.bytes else disk_in disks n

-- a guest's row changed
abbrev pub with_io_guest : ℕ → (IoGuest → IoGuest) → IoState → IoState
with_io_guest g f s = record s { table = record s.table { guests = change g f s.table.guests } }

-- a node's disk changed
abbrev pub io_disk_changed : ℕ → (List ℕ → List ℕ) → IoDisk → IoDisk
io_disk_changed n f d = if d.node == n then record d { bytes = option_map f d.bytes } else d

abbrev pub with_io_disk : ℕ → (List ℕ → List ℕ) → IoState → IoState
with_io_disk n f s = record s { disks = map (io_disk_changed n f) s.disks }

-- how many of a piece's bytes were done
abbrev pub done_by : Outcome → Extent → ℕ
done_by Good part = part.len
done_by (Torn done dev count) part = done
done_by (Io dev count) part = 0
done_by (NoSpace dev) part = 0

-- a guest's row after each of its entries
abbrev pub io_admitted : Op → IoGuest → IoGuest
io_admitted op row = record row { flight = Some (record { op = op; next = 0; is_stopped = false }) }

abbrev pub io_finished : IoGuest → IoGuest
io_finished row = record row { done = row.done + 1; flight = None }

abbrev pub one_further : Outcome → Flight → Flight
one_further outcome f = record f { next = f.next + 1; is_stopped = not (is_good outcome) }

abbrev pub io_past_piece : Outcome → IoGuest → IoGuest
io_past_piece outcome row = record row { flight = option_map (one_further outcome) row.flight }

-- what piece k of a request in flight does to the disk of its guest's node
abbrev pub with_io_piece : ℕ → Option Flight → ℕ → Outcome → IoState → IoState
with_io_piece node None k outcome s = s
with_io_piece node (Some f) k outcome s =
    with_io_disk node (done_in f.op (piece f.op k) (done_by outcome (piece f.op k))) s

abbrev pub piece_done : Option IoGuest → ℕ → Outcome → IoState → IoState
piece_done None k outcome s = s
piece_done (Some row) k outcome s = with_io_piece row.node row.flight k outcome s

-- the state after an entry
abbrev pub io_after : IoState → Event → IoState
io_after s (Admit g r op) = with_io_guest g (io_admitted op) s
io_after s (Refuse g r op why) = with_io_guest g io_finished s
io_after s (Piece g r k outcome got) =
    with_io_guest g (io_past_piece outcome) (piece_done (io_guest_at s g) k outcome s)
io_after s (Retire g r) = with_io_guest g io_finished s
io_after s e = s

-- the state after a history
abbrev pub io_replay : IoState → List Event → IoState
io_replay = run io_after
