-- Devices that tell their bytes do so after a piece.
use Rattle.std.proofs.Common.{◌≡◌, ℕ, Bool, List, replicate, Option, Some, None, refl, sym, ◌∙◌, ap, inl, inr}
use Rattle.std.specs.Prelude.{is_some, option_map, option_and_then}
use Rattle.blk_base.specs.Pieces.{Extent}
use Rattle.blk_base.specs.declared.fault.Outcome.{Outcome}
use Rattle.trace_codec.specs.declared.op.Op.{Op}
use Rattle.trace_codec.specs.declared.op.Op.TheVariants.{Read, Write, Zero, Flush, Discard}
use Rattle.blk_history.specs.Disk.{payload_in}
use Rattle.blk_nodes.specs.Flushing.{base_of, IsFlushAt}
use Rattle.blk_nodes.specs.Joined.{IsJoined}
use Rattle.blk_nodes.specs.Nodes.{Nodes, DeviceSeen, AreTold, device_in}
use Rattle.blk_nodes.specs.Writing.{WritesFile, WritesImage, WritesBy, ZerosBy}
use Rattle.blk_nodes.specs.declared.row.Driver.{Driver}
use Rattle.blk_nodes.specs.declared.row.Driver.TheVariants as drivers
use Rattle.world_parts.specs.Counting.{AreSameDevices}
use Rattle.qmp_rules.specs.Table.{RunTable}
use Rattle.world_parts.proofs.CountLemmas.{found-before}
use Rattle.world_parts.proofs.NodesAfter.{device_content_in, is_told, noded, only_told}
use Rattle.world_pieces.proofs.PieceContents.{risen_content}
use Rattle.world_pieces.proofs.PieceCopied.{ReadWent, Went, into_image}

some_mapped : (f : List ℕ → List ℕ) (content : Option (List ℕ)) → is_some (option_map f content) ≡ is_some content
some_mapped f None = refl
some_mapped f (Some bytes) = refl

module _ (old new : Nodes) (n : ℕ) where
  file_told : (node place : ℕ) (bytes : List ℕ) (outcome : Outcome) → WritesFile old new node place bytes outcome → is_told new.devices n ≡ is_told old.devices n
  file_told node place bytes outcome wrote =
      only_told wrote.file old.devices new.devices wrote.at.before wrote.at.after wrote.at.only wrote.at.held wrote.at.left
      (ap is_some wrote.at.wrote.content ∙ some_mapped _ wrote.at.before.content) n

  image_told : (fits : ℕ → Type 0) (own : Option ℕ) (rest : Option Extent) (node m : ℕ) (outcome : Outcome) → WritesImage fits own rest old new node m outcome → is_told new.devices n ≡ is_told old.devices n
  image_told fits own rest node m outcome wrote = elim wrote.devices [
    | inl only ↦ only_told wrote.file old.devices new.devices wrote.before wrote.after only wrote.held wrote.left wrote.device.told n
    | inr risen ↦ ap is_some (risen_content old.devices new.devices risen n)
  ]

  write_told : (node : ℕ) (part : Extent) (bytes : List ℕ) (outcome : Outcome) (d : Driver) → WritesBy d old new node part bytes outcome → is_told new.devices n ≡ is_told old.devices n
  write_told node part bytes outcome drivers.File wrote = file_told node part.start bytes outcome wrote
  write_told node part bytes outcome (drivers.Raw p) wrote = file_told node part.start bytes outcome wrote
  write_told node part bytes outcome (drivers.Qcow2 image) wrote = image_told _ _ _ node _ outcome wrote
  write_told node part bytes outcome drivers.CopyOnRead wrote = file_told node part.start bytes outcome wrote
  write_told node part bytes outcome (drivers.Filter kind) wrote = file_told node part.start bytes outcome wrote

  zero_told : (node : ℕ) (part : Extent) (outcome : Outcome) (d : Driver) → ZerosBy d old new node part outcome → is_told new.devices n ≡ is_told old.devices n
  zero_told node part outcome drivers.File wrote = file_told node part.start (replicate part.len 0) outcome wrote
  zero_told node part outcome (drivers.Raw p) wrote = file_told node part.start (replicate part.len 0) outcome wrote
  zero_told node part outcome (drivers.Qcow2 image) wrote = image_told _ _ _ node _ outcome wrote
  zero_told node part outcome drivers.CopyOnRead wrote = file_told node part.start (replicate part.len 0) outcome wrote
  zero_told node part outcome (drivers.Filter kind) wrote = file_told node part.start (replicate part.len 0) outcome wrote

  flush_told : (file : ℕ) (outcome : Outcome) → IsFlushAt file old.devices new.devices outcome → is_told new.devices n ≡ is_told old.devices n
  flush_told file outcome (inr none) = ap (λ (ds : List DeviceSeen). is_told ds n) none.1
  flush_told file outcome (inl flushed) =
      only_told file old.devices new.devices flushed.before flushed.after flushed.only flushed.held flushed.left
      (ap (λ (d : DeviceSeen). is_some d.content) flushed.flush.is) n

  module _ (t : RunTable) (drive node : ℕ) (part : Extent) (outcome : Outcome) (buffer : List ℕ) where
    read_told : ReadWent t old new drive node part outcome buffer → is_told new.devices n ≡ is_told old.devices n
    read_told (inl only) = ap is_some (risen_content old.devices new.devices only.devices n)
    read_told (inr (inl full)) = ap (λ (ns : Nodes). is_told ns.devices n) full.room.same
    read_told (inr (inr into)) = image_told _ _ _ node _ outcome (into_image t old new drive node part outcome buffer into)

    told_same : (op : Op) → Went t op old new drive node part outcome buffer → is_told new.devices n ≡ is_told old.devices n
    told_same (Read span) went = read_told went
    told_same (Write span payload) went = write_told node part (payload_in (Write span payload) part) outcome went.0.row.driver went.0.wrote
    told_same (Zero span) went = zero_told node part outcome went.0.row.driver went.0.wrote
    told_same Flush went = flush_told (base_of old node) outcome went.flushed
    told_same (Discard span) went = absurd went

pub told_after : (t : RunTable) (op : Op) (old new : Nodes) (drive node : ℕ) (part : Extent) (outcome : Outcome) (buffer : List ℕ) → IsJoined old → IsJoined new
    → AreSameDevices old.devices new.devices → Went t op old new drive node part outcome buffer → AreTold old.devices → AreTold new.devices
told_after t op old new drive node part outcome buffer joined now same went told device there =
    let before = found-before old.devices new.devices device same there in
    let held : device_in old.devices before.0.node ≡ Some before.0 = noded old.devices before.0 joined.once before.1 in
    let here : device_in new.devices device.node ≡ Some device = noded new.devices device now.once there in
    let tells : List DeviceSeen → ℕ → Bool = λ devices n. is_some (device_content_in devices n) in
    sym (ap (λ (d : Option DeviceSeen). is_some (option_and_then (λ (x : DeviceSeen). x.content) d)) here)
    ∙ told_same old new device.node t drive node part outcome buffer op went
    ∙ ap (tells old.devices) before.2.node
    ∙ ap (λ (d : Option DeviceSeen). is_some (option_and_then (λ (x : DeviceSeen). x.content) d)) held
    ∙ told before.0 before.1
