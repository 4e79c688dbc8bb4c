-- What is seen of the nodes of one image and their guest while a trace is run on them.
use Rattle.std.specs.Prelude.{◌≡◌, ℕ, ◌≤◌, Bool, false, List, [], ◌∷◌, Option, Some, None, option_map, option_and_then}
use Rattle.trace_codec.specs.declared.op.Op.{Op}
use Rattle.blk_base.specs.Pieces.{end_of}
use Rattle.blk_history.specs.Disk.{span_of}
use Rattle.blk_history.specs.Machine.{Node, Flight, IoGuest, IoState}
use Rattle.blk_history.specs.Recorded.{Recorded}
use Rattle.blk_history.specs.Line.{request_at}
use Rattle.blk_history.specs.declared.event.Event.{Event}
use Rattle.blk_nodes.specs.Nodes.{Nodes, node_size}
use Rattle.qblk_core.specs.ImageNodes.{told_disk}
use Rattle.qblk_core.specs.declared.flight.InFlight.{InFlight}

pub record SessionSeen : Type 0 where
  pub nodes : Nodes
  pub guest : IoGuest
  pub log : Recorded

abbrev pub flight_with : InFlight → Op → Flight
flight_with f op = record { op = op; next = f.next; is_stopped = f.is_stopped }

-- a request in flight stands in the history, and its row says where
abbrev pub flight_in_history : List Event → InFlight → Option Flight
flight_in_history events f = option_map (flight_with f) (request_at events f.place)

-- the guest's row: it is on the image's node
abbrev pub guest_on_image : List Event → ℕ → Option InFlight → IoGuest
guest_on_image events done flight = record {
  node = 1;
  is_read_only = false;
  done = done;
  flight = option_and_then (flight_in_history events) flight;
}

-- what is in flight was admitted, within a disk of so many bytes
abbrev pub WasAdmitted : ℕ → List Event → Option InFlight → Type 0
WasAdmitted size events None = Unit {0}
WasAdmitted size events (Some f) =
    (op : Op) × (request_at events f.place ≡ Some op) × (end_of (span_of op) ≤ size)

abbrev pub node_of : ℕ → Node
node_of size = record { size = size }

-- The machine of one image: its `file` node, which is unsettled under the image's node and has the file's size; that node with
-- the disk; and a guest.
abbrev pub state_with : ℕ → ℕ → IoGuest → Option (List ℕ) → IoState
state_with file_size size guest disk = record {
  table = record { nodes = node_of file_size ∷ node_of size ∷ []; guests = guest ∷ [] };
  disks = record { node = 0; bytes = None } ∷ record { node = 1; bytes = disk } ∷ [];
}

abbrev pub state_on : Nodes → IoGuest → IoState
state_on nodes guest = state_with (node_size nodes 0) (node_size nodes 1) guest (told_disk nodes)

abbrev pub state_of : SessionSeen → IoState
state_of w = state_on w.nodes w.guest

-- before its first request
abbrev pub new_io_guest : IoGuest
new_io_guest = record { node = 1; is_read_only = false; done = 0; flight = None }

-- the machine before the first request
abbrev pub machine_on : Nodes → IoState
machine_on nodes = state_on nodes new_io_guest
