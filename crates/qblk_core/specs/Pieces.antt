-- A piece of the guest's request, on a node.
use Rattle.std.specs.Prelude.{◌≡◌, ℕ, List}
use Rattle.blk_base.specs.Pieces.{Extent}
use Rattle.blk_base.specs.declared.fault.Outcome.{Outcome}
use Rattle.trace_codec.specs.declared.op.Op.{Op}
use Rattle.blk_nodes.specs.Joined.{IsJoined}
use Rattle.blk_nodes.specs.Nodes.{Nodes}
use Rattle.blk_pieces.specs.Pieces.{Transfers, shown_of}

-- a piece was made on a node, and showed these bytes
pub record IsPieceOn (op : Op) (old new : Nodes) (node : ℕ) (part : Extent) (outcome : Outcome)
    (got : List ℕ) : Type 0 where
  pub buffer : List ℕ
  pub shown : got ≡ shown_of op outcome buffer
  pub did : Transfers op old new node node part outcome buffer
  pub joined : IsJoined new
