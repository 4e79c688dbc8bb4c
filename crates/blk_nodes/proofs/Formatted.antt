-- What is left where an image is created in a node's file.
use Rattle.std.proofs.Common.{◌≡◌, ◌≢◌, ℕ, List, get_or, set, Some, None, Result, refl, inl, inr}
use Rattle.std.specs.Prelude.{Contains}
use Rattle.std.specs.List.{position}
use Rattle.blk_graph.specs.Judged.{first_parent}
use Rattle.blk_graph.specs.declared.edge.Edge.{Edge}
use Rattle.blk_graph.specs.declared.edge.Parent.TheVariants.{Node}
use Rattle.blk_graph.specs.declared.edge.Role.TheVariants.{File as FileRole}
use Rattle.blk_graph.proofs.ChildLemmas.{child-edge, reached-entered}
use Rattle.blk_graph.proofs.NodeLemmas.{no_child_from_None}
use Rattle.q2_format.specs.Created.{Creation}
use Rattle.blk_nodes.specs.Contents.{disk_of}
use Rattle.blk_nodes.specs.Formatting.{IsFormatOf, IsFormatAt}
use Rattle.blk_nodes.specs.Joined.{IsJoined}
use Rattle.blk_nodes.specs.Nodes.{Nodes, DeviceSeen, is_device_of, file_of}
use Rattle.blk_nodes.specs.Reading.{LeadsTo}
use Rattle.blk_nodes.specs.declared.stop.FormatStop.{FormatStop}
use Rattle.blk_nodes.proofs.HeldDevices.{at_place, put_held, only_at}
use Rattle.blk_nodes.proofs.Written.{disk_apart, joined_changed}

-- one of the devices
pub formatted_over : (file : ℕ) (devices : List DeviceSeen) (at : ℕ) (d y : DeviceSeen) (new : Creation) (result : Result (Unit {0}) FormatStop)
    → position (is_device_of file) devices ≡ Some at → IsFormatOf (get_or devices at d) y new result → IsFormatAt file devices (set devices at y) new result
formatted_over file devices at d y new result place formatted = record {
  before = get_or devices at d;
  after = y;
  held = at_place file devices at d place;
  left = put_held file devices at d y place formatted.node;
  formatted = formatted;
  only = only_at file devices at d y place formatted.node;
}

-- a node that no edge leads to
module _ (nodes : Nodes) (node : ℕ) (lone : first_parent node nodes.graph.edges ≡ None) where
  unentered : (edge : Edge) → Contains nodes.graph.edges edge → edge.child ≢ node
  unentered = no_child_from_None node nodes.graph.edges lone

  no_way : (other : ℕ) → other ≢ node → LeadsTo nodes.graph.edges other node → ⊥
  no_way other apart (inl same) = apart same
  no_way other apart (inr reaches) = reached-entered nodes.graph.edges other node reaches.first reaches.rest reaches.path unentered

  not_over : (other : ℕ) → file_of nodes other ≡ Some node → ⊥
  not_over other is = let e = child-edge (Node other) FileRole nodes.graph.edges node is in unentered e.edge e.there e.to

  module _ (devices : List DeviceSeen) (new : Creation) (result : Result (Unit {0}) FormatStop) (at : IsFormatAt node nodes.devices devices new result) where
    pub others_formatted : (other : ℕ) → other ≢ node → disk_of (record nodes { devices = devices }) other ≡ disk_of nodes other
    others_formatted other apart = disk_apart nodes devices node at.only other (no_way other apart)

    pub joined_formatted : IsJoined nodes → IsJoined (record nodes { devices = devices })
    joined_formatted joined =
        joined_changed nodes devices node at.only (rw at.held refl) (rw at.left refl) joined
        (λ other row image there driver edge device bytes has content. absurd (not_over other edge))
