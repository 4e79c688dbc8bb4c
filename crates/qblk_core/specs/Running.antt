-- What an engine keeps of its nodes and its guest.
use Rattle.std.specs.Prelude.{◌≡◌, ℕ, List, length, Option}
use Rattle.blk_history.specs.declared.event.Event.{Event}
use Rattle.blk_nodes.specs.Nodes.{Nodes, node_size}
use Rattle.qblk_core.specs.Face.{WasAdmitted}
use Rattle.qblk_core.specs.ImageNodes.{HaveOneImage}
use Rattle.qblk_core.specs.declared.flight.InFlight.{InFlight}

-- what is in flight was admitted, and a block fits in the buffer
pub record IsRunning (nodes : Nodes) (node : ℕ) (events : List Event) (flight : Option InFlight)
    (buffer : List ℕ) : Type 0 where
  pub one : HaveOneImage nodes
  pub image : node ≡ 1
  pub admitted : WasAdmitted (node_size nodes 1) events flight
  pub block : length buffer ≡ 65536
