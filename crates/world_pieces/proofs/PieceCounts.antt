-- A piece raises no count but that of the device that it names.
use Rattle.std.proofs.Common.{◌≡◌, ℕ, List, length, replicate, Option, sym, ap, subst, inl, inr}
use Rattle.std.specs.Prelude.{AllPairs}
use Rattle.blk_base.specs.Pieces.{Extent}
use Rattle.blk_base.specs.declared.fault.DevNo.{DevNo}
use Rattle.blk_base.specs.declared.fault.Outcome.{Outcome}
use Rattle.blk_base.specs.declared.fault.Outcome.TheVariants.{Good, Torn, Io, NoSpace}
use Rattle.trace_codec.specs.declared.op.Op.{Op}
use Rattle.trace_codec.specs.declared.op.Op.TheVariants.{Read, Write, Zero, Flush, Discard}
use Rattle.blk_history.specs.Disk.{payload_in}
use Rattle.blk_nodes.specs.Flushing.{base_of, HasFlushCause, IsFlushAt}
use Rattle.blk_nodes.specs.Joined.{DifferInNode}
use Rattle.blk_nodes.specs.Nodes.{Nodes, DeviceSeen}
use Rattle.blk_nodes.specs.Reading.{IsReadBelow, StoppedAt}
use Rattle.blk_nodes.specs.Writing.{IsWriteAt, WritesImage, WritesBy, ZerosBy, HasCauseOf, HasPieceCause}
use Rattle.blk_nodes.specs.declared.row.Driver.{Driver}
use Rattle.blk_nodes.specs.declared.row.Driver.TheVariants as drivers
use Rattle.blk_nodes.proofs.Leading.{stopped_piece}
use Rattle.qmp_rules.specs.Table.{RunTable}
use Rattle.world_parts.proofs.CountsKept.{AreSame, faults_at, only-same}
use Rattle.world_pieces.proofs.PieceCopied.{ReadWent, Went, into_image}

-- no count rose, or that of the device which stopped it
abbrev pub AreCounted : Outcome → List DeviceSeen → List DeviceSeen → Type 0
AreCounted Good old new = AreSame old new
AreCounted (Torn done dev count) old new = (file : ℕ) × StoppedAt file old new dev count
AreCounted (Io dev count) old new = (file : ℕ) × StoppedAt file old new dev count
AreCounted (NoSpace dev) old new = AreSame old new

same-of : (old new : List DeviceSeen) → new ≡ old → AreSame old new
same-of old new same n = ap (λ (ds : List DeviceSeen). faults_at ds n) same

module _ (old new : Nodes) (once : AllPairs DifferInNode old.devices) where
  pub read-counted : (node : ℕ) (outcome : Outcome) → IsReadBelow old new node outcome → AreCounted outcome old.devices new.devices
  read-counted node Good is = same-of old.devices new.devices (ap (λ (n : Nodes). n.devices) is)
  read-counted node (Torn done dev count) is = absurd is
  read-counted node (Io dev count) is = (is.file, is.stopped)
  read-counted node (NoSpace dev) is = absurd is

  file-counted : (file place : ℕ) (bytes : List ℕ) (outcome : Outcome) → IsWriteAt file old.devices new.devices place bytes outcome
      → AreCounted outcome old.devices new.devices
  file-counted file place bytes outcome at = by_cause outcome at.wrote.cause
    where
      by_cause : (o : Outcome) → HasCauseOf at.before at.after place (length bytes) o → AreCounted o old.devices new.devices
      by_cause Good cause =
          only-same file old.devices new.devices at.before at.after once at.only at.held at.left at.wrote.number cause.1
      by_cause (Torn done dev count) cause =
          (file, record { before = at.before; after = at.after; held = at.held; left = at.left; stopped = cause.4; only = at.only })
      by_cause (Io dev count) cause =
          (file, record { before = at.before; after = at.after; held = at.held; left = at.left; stopped = cause.1; only = at.only })
      by_cause (NoSpace dev) cause =
          only-same file old.devices new.devices at.before at.after once at.only at.held at.left at.wrote.number cause.2

  image-counted : (fits : ℕ → Type 0) (own : Option ℕ) (rest : Option Extent) (node n : ℕ) (outcome : Outcome) → WritesImage fits own rest old new node n outcome
      → AreCounted outcome old.devices new.devices
  image-counted fits own rest node n outcome wrote = by_cause outcome wrote.cause
    where
      by_cause : (o : Outcome) → HasPieceCause (fits wrote.before.capacity) own rest n wrote.file old new node wrote.before wrote.after o
          → AreCounted o old.devices new.devices
      by_cause Good cause =
          only-same wrote.file old.devices new.devices wrote.before wrote.after once cause.2 wrote.held wrote.left wrote.device.number
          cause.1
      by_cause (Torn done dev count) cause = (
        wrote.file,
        record { before = wrote.before; after = wrote.after; held = wrote.held; left = wrote.left; stopped = cause.2; only = cause.3 },
      )
      by_cause (Io dev count) cause =
          let stopped = stopped_piece old new node dev count fits own rest n outcome wrote cause in (stopped.file, stopped.stopped)
      by_cause (NoSpace dev) cause = same-of old.devices new.devices (ap (λ (m : Nodes). m.devices) cause.2)

  pub write-counted : (node : ℕ) (part : Extent) (bytes : List ℕ) (outcome : Outcome) (d : Driver) → WritesBy d old new node part bytes outcome
      → AreCounted outcome old.devices new.devices
  write-counted node part bytes outcome drivers.File wrote = file-counted wrote.file wrote.start bytes outcome wrote.at
  write-counted node part bytes outcome (drivers.Raw p) wrote = file-counted wrote.file wrote.start bytes outcome wrote.at
  write-counted node part bytes outcome (drivers.Qcow2 image) wrote = image-counted _ _ _ node _ outcome wrote
  write-counted node part bytes outcome drivers.CopyOnRead wrote = file-counted wrote.file wrote.start bytes outcome wrote.at
  write-counted node part bytes outcome (drivers.Filter kind) wrote = file-counted wrote.file wrote.start bytes outcome wrote.at

  pub zero-counted : (node : ℕ) (part : Extent) (outcome : Outcome) (d : Driver) → ZerosBy d old new node part outcome
      → AreCounted outcome old.devices new.devices
  zero-counted node part outcome drivers.File wrote = file-counted wrote.file wrote.start (replicate part.len 0) outcome wrote.at
  zero-counted node part outcome (drivers.Raw p) wrote = file-counted wrote.file wrote.start (replicate part.len 0) outcome wrote.at
  zero-counted node part outcome (drivers.Qcow2 image) wrote = image-counted _ _ _ node _ outcome wrote
  zero-counted node part outcome drivers.CopyOnRead wrote = file-counted wrote.file wrote.start (replicate part.len 0) outcome wrote.at
  zero-counted node part outcome (drivers.Filter kind) wrote = file-counted wrote.file wrote.start (replicate part.len 0) outcome wrote.at

  flush-counted : (file : ℕ) (outcome : Outcome) → IsFlushAt file old.devices new.devices outcome → AreCounted outcome old.devices new.devices
  flush-counted file outcome (inr none) = subst (λ (o : Outcome). AreCounted o old.devices new.devices) (sym none.2) (same-of old.devices new.devices none.1)
  flush-counted file outcome (inl at) = by_cause outcome at.flush.cause
    where
      by_cause : (o : Outcome) → HasFlushCause at.before at.after o → AreCounted o old.devices new.devices
      by_cause Good cause =
          only-same file old.devices new.devices at.before at.after once at.only at.held at.left
          (ap (λ (d : DeviceSeen). d.number) at.flush.is) cause
      by_cause (Torn done dev count) cause = absurd cause
      by_cause (Io dev count) cause =
          (file, record { before = at.before; after = at.after; held = at.held; left = at.left; stopped = cause; only = at.only })
      by_cause (NoSpace dev) cause = absurd cause

  module _ (t : RunTable) (drive node : ℕ) (part : Extent) (outcome : Outcome) (buffer : List ℕ) where
    full-counted : (o : Outcome) (dev : DevNo) → o ≡ NoSpace dev → AreSame old.devices new.devices → AreCounted o old.devices new.devices
    full-counted o dev is same = subst (λ (x : Outcome). AreCounted x old.devices new.devices) (sym is) same

    went-counted : ReadWent t old new drive node part outcome buffer → AreCounted outcome old.devices new.devices
    went-counted (inl only) = read-counted drive outcome only.below
    went-counted (inr (inl full)) = full-counted outcome full.room.dev full.room.is (same-of old.devices new.devices (ap (λ (n : Nodes). n.devices) full.room.same))
    went-counted (inr (inr into)) = image-counted _ _ _ node _ outcome (into_image t old new drive node part outcome buffer into)

    pub piece-counted : (op : Op) → Went t op old new drive node part outcome buffer → AreCounted outcome old.devices new.devices
    piece-counted (Read span) went = went-counted went
    piece-counted (Write span payload) went = write-counted node part (payload_in (Write span payload) part) outcome went.0.row.driver went.0.wrote
    piece-counted (Zero span) went = zero-counted node part outcome went.0.row.driver went.0.wrote
    piece-counted Flush went = flush-counted (base_of old node) outcome went.flushed
    piece-counted (Discard span) went = absurd went
