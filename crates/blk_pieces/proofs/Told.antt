-- What a piece's outcome tells, and what it shows.
use Rattle.std.proofs.Common.{◌≡◌, ℕ, ◌<◌, true, List, [], ◌∷◌, length, replicate, Option, Some, None, refl, sym, subst, arith, inl, inr}
use Rattle.std.proofs.lemmas.List.{length-replicate}
use Rattle.blk_base.specs.Pieces.{Extent}
use Rattle.blk_base.specs.declared.fault.DevNo.{DevNo}
use Rattle.blk_base.specs.declared.fault.Outcome.{Outcome}
use Rattle.blk_base.specs.declared.fault.Outcome.TheVariants.{Good, Torn, Io, NoSpace}
use Rattle.trace_codec.specs.declared.op.Op.{Op}
use Rattle.trace_codec.specs.declared.op.Op.TheVariants.{Read, Write, Zero, Flush, Discard}
use Rattle.blk_history.specs.Disk.{payload_in, shown_in, is_write}
use Rattle.blk_history.specs.Fold.{With}
use Rattle.blk_history.specs.Legal.{Tells}
use Rattle.blk_nodes.specs.Contents.{disk_of}
use Rattle.blk_nodes.specs.Copying.{GoesWhole, MapsNext, MapsEach, ReadsPiece, images_met}
use Rattle.blk_nodes.specs.Nodes.{Nodes, DeviceSeen, AreTold}
use Rattle.blk_nodes.specs.Writing.{WritesBy, ZerosBy, IsTornAt, HasCauseOf}
use Rattle.blk_nodes.specs.declared.row.Driver.{Driver}
use Rattle.blk_nodes.specs.declared.row.Driver.TheVariants as drivers
use Rattle.blk_pieces.specs.Pieces.{Transfers, shown_of}
use Rattle.blk_pieces.proofs.Payloads.{payload_length}

-- ---- torn pieces

torn_file : (before after : DeviceSeen) (place n done : ℕ) (dev : DevNo) (count : ℕ) → HasCauseOf before after place n (Torn done dev count) → (0 < done) × (done < n)
torn_file before after place n done dev count cause = (cause.1, cause.2)

torn_image : (own : Option ℕ) (n done : ℕ) → IsTornAt own n done → (0 < done) × (done < n)
torn_image None n done never = absurd never
torn_image (Some place) n done is = (is.0, is.1)

torn_write : (old new : Nodes) (node : ℕ) (part : Extent) (bytes : List ℕ) (done : ℕ) (dev : DevNo) (count : ℕ) (d : Driver) → WritesBy d old new node part bytes (Torn done dev count)
    → (0 < done) × (done < length bytes)
torn_write old new node part bytes done dev count drivers.File wrote = torn_file wrote.at.before wrote.at.after wrote.start (length bytes) done dev count wrote.at.wrote.cause
torn_write old new node part bytes done dev count (drivers.Raw p) wrote = torn_file wrote.at.before wrote.at.after wrote.start (length bytes) done dev count wrote.at.wrote.cause
torn_write old new node part bytes done dev count (drivers.Qcow2 image) wrote = torn_image _ (length bytes) done wrote.cause.1
torn_write old new node part bytes done dev count drivers.CopyOnRead wrote = torn_file wrote.at.before wrote.at.after wrote.start (length bytes) done dev count wrote.at.wrote.cause
torn_write old new node part bytes done dev count (drivers.Filter kind) wrote = torn_file wrote.at.before wrote.at.after wrote.start (length bytes) done dev count wrote.at.wrote.cause

torn_zero : (old new : Nodes) (node : ℕ) (part : Extent) (done : ℕ) (dev : DevNo) (count : ℕ) (d : Driver) → ZerosBy d old new node part (Torn done dev count)
    → (0 < done) × (done < part.len)
torn_zero old new node part done dev count drivers.File wrote =
    let is = torn_file wrote.at.before wrote.at.after wrote.start (length (replicate {A = ℕ} part.len 0)) done dev count wrote.at.wrote.cause in
    let len = length-replicate {A = ℕ} part.len 0 in
    (is.0, omega (arith, is.1, len))
torn_zero old new node part done dev count (drivers.Raw p) wrote =
    let is = torn_file wrote.at.before wrote.at.after wrote.start (length (replicate {A = ℕ} part.len 0)) done dev count wrote.at.wrote.cause in
    let len = length-replicate {A = ℕ} part.len 0 in
    (is.0, omega (arith, is.1, len))
torn_zero old new node part done dev count (drivers.Qcow2 image) wrote = torn_image _ part.len done wrote.cause.1
torn_zero old new node part done dev count drivers.CopyOnRead wrote =
    let is = torn_file wrote.at.before wrote.at.after wrote.start (length (replicate {A = ℕ} part.len 0)) done dev count wrote.at.wrote.cause in
    let len = length-replicate {A = ℕ} part.len 0 in
    (is.0, omega (arith, is.1, len))
torn_zero old new node part done dev count (drivers.Filter kind) wrote =
    let is = torn_file wrote.at.before wrote.at.after wrote.start (length (replicate {A = ℕ} part.len 0)) done dev count wrote.at.wrote.cause in
    let len = length-replicate {A = ℕ} part.len 0 in
    (is.0, omega (arith, is.1, len))

-- an image that a read is put into has its cluster whole or not at all
whole_next : (below : Outcome) (mid new : Nodes) (node : ℕ) (span : Extent) (bytes : List ℕ) (outcome : Outcome)
    → GoesWhole below → MapsNext below mid new node span bytes outcome → GoesWhole outcome
whole_next Good mid new node span bytes outcome whole one = one.whole
whole_next (Torn done dev count) mid new node span bytes outcome whole stopped = absurd whole
whole_next (Io dev count) mid new node span bytes outcome whole stopped = subst GoesWhole (sym stopped.1) whole
whole_next (NoSpace dev) mid new node span bytes outcome whole stopped = absurd whole

pub maps_whole : (images : List ℕ) (old new : Nodes) (span : Extent) (bytes : List ℕ) (outcome : Outcome)
    → MapsEach images old new span bytes outcome → GoesWhole outcome
maps_whole [] old new span bytes outcome maps = subst GoesWhole (sym maps.1) tt
maps_whole (node ∷ rest) old new span bytes outcome maps =
    whole_next maps.1 maps.0 new node span bytes outcome (maps_whole rest old maps.0 span bytes maps.1 maps.2) maps.3

torn_read : (old new : Nodes) (drive : ℕ) (part : Extent) (done : ℕ) (dev : DevNo) (count : ℕ) (buffer : List ℕ)
    → ReadsPiece old new drive part buffer (Torn done dev count) → ⊥
torn_read old new drive part done dev count buffer went = elim went [
  | inl lacks ↦ let clash = lacks.is in cc clash
  | inr reads ↦ elim reads.went [
    | inl stopped ↦ let clash = stopped.is in cc clash
    | inr maps ↦ maps_whole (images_met old drive part.start) old new part buffer (Torn done dev count) maps
  ]
]

-- only a write is torn, behind some of its bytes and not all
pub torn_by : (old new : Nodes) (drive node : ℕ) (op : Op) (part : Extent) (done : ℕ) (dev : DevNo) (count : ℕ) (buffer : List ℕ)
    → Transfers op old new drive node part (Torn done dev count) buffer → (is_write op ≡ true) × (0 < done) × (done < part.len)
torn_by old new drive node (Read span) part done dev count buffer did = absurd (torn_read old new drive part done dev count buffer did.went)
torn_by old new drive node (Write span payload) part done dev count buffer did =
    let is = torn_write old new node part (payload_in (Write span payload) part) done dev count did.0.row.driver did.0.wrote in
    let len = payload_length (Write span payload) part tt in
    (refl, is.0, omega (arith, is.1, len))
torn_by old new drive node (Zero span) part done dev count buffer did =
    let is = torn_zero old new node part done dev count did.0.row.driver did.0.wrote in (refl, is.0, is.1)
torn_by old new drive node Flush part done dev count buffer did = absurd (elim did.flushed [
  | inl on ↦ on.flush.cause
  | inr none ↦ let bad : ⊥ = cc none.2 in bad
])
torn_by old new drive node (Discard span) part done dev count buffer did = absurd did

-- ---- what is shown

pub shown_none : (op : Op) (outcome : Outcome) (buffer : List ℕ) → (outcome ≡ Good → ⊥) → shown_of op outcome buffer ≡ []
shown_none (Read span) Good buffer none = absurd (none refl)
shown_none (Read span) (Torn done dev count) buffer none = refl
shown_none (Read span) (Io dev count) buffer none = refl
shown_none (Read span) (NoSpace dev) buffer none = refl
shown_none (Write span payload) outcome buffer none = refl
shown_none (Zero span) outcome buffer none = refl
shown_none Flush outcome buffer none = refl
shown_none (Discard span) outcome buffer none = refl

module _ (old new : Nodes) (drive node : ℕ) (part : Extent) (buffer : List ℕ) (told : AreTold old.devices) where
  good_tells : (op : Op) → Transfers op old new drive node part Good buffer → shown_of op Good buffer ≡ shown_in op part (disk_of old drive)
  good_tells (Read span) did = did.read told
  good_tells (Write span payload) did = refl
  good_tells (Zero span) did = refl
  good_tells Flush did = refl
  good_tells (Discard span) did = refl

  -- it tells what is so of the drive's disk
  pub tells : (op : Op) (outcome : Outcome) (disk : Option (List ℕ)) → disk ≡ Some (disk_of old drive) → Transfers op old new drive node part outcome buffer
      → Tells outcome op part disk (shown_of op outcome buffer)
  tells op Good disk is did = subst (λ (d : Option (List ℕ)). With d (λ bytes. shown_of op Good buffer ≡ shown_in op part bytes)) (sym is) (good_tells op did)
  tells op (Torn done dev count) disk is did =
      let torn = torn_by old new drive node op part done dev count buffer did in
      (torn.0, torn.1, torn.2, shown_none op (Torn done dev count) buffer (λ bad. let e : ⊥ = cc bad in e))
  tells op (Io dev count) disk is did = shown_none op (Io dev count) buffer (λ bad. let e : ⊥ = cc bad in e)
  tells op (NoSpace dev) disk is did = shown_none op (NoSpace dev) buffer (λ bad. let e : ⊥ = cc bad in e)
