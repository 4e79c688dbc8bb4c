-- A run in which no count rises, and all that is written finds room, has good pieces only.
use Rattle.std.proofs.Common.{◌≡◌, ℕ, ◌+◌, ◌<◌, ◌≤◌, zero, suc, Bool, List, [], ◌∷◌, length, replicate, Option, Some, None, refl, sym, ◌∙◌, ap, subst, arith, inl, inr}
use Rattle.std.specs.Prelude.{slice_get, option_map}
use Rattle.std.proofs.lemmas.List.{length-replicate}
use Rattle.blk_base.specs.Pieces.{Extent, end_of}
use Rattle.blk_base.specs.declared.fault.DevNo.{DevNo}
use Rattle.blk_base.specs.declared.fault.Outcome.{Outcome}
use Rattle.blk_base.specs.declared.fault.Outcome.TheVariants.{Good, Torn, Io, NoSpace}
use Rattle.trace_codec.specs.declared.op.Op.{Op}
use Rattle.trace_codec.specs.declared.op.Op.TheVariants.{Read, Write, Zero, Flush, Discard}
use Rattle.blk_history.specs.Disk.{piece, payload_in}
use Rattle.blk_history.specs.Fold.{With, change}
use Rattle.blk_history.specs.Licence.{NameNone, device_fault_by, device_fault_in}
use Rattle.blk_history.specs.Machine.{IoState, IoGuest, Flight, io_guest_at, io_after, io_admitted, io_finished, io_past_piece, with_io_piece, piece_done}
use Rattle.blk_history.specs.declared.event.Event.{Event}
use Rattle.blk_history.specs.declared.event.Event.TheVariants.{Admit, Refuse, Piece, Retire, Reply, Reached, Start, Ready, End, Done}
use Rattle.blk_history.proofs.Folds.{with-some}
use Rattle.blk_nodes.specs.Nodes.{Nodes, DeviceSeen, row_at, device_in, file_of, node_size}
use Rattle.blk_nodes.specs.Writing.{WritesFile, WritesImage, WritesBy, ZerosBy, own_file, own_start}
use Rattle.blk_nodes.specs.declared.row.Driver.{Driver}
use Rattle.blk_nodes.specs.declared.row.Driver.TheVariants as drivers
use Rattle.blk_nodes.specs.declared.row.RawImage.{RawImage}
use Rattle.blk_nodes.specs.declared.row.Row.{Row}
use Rattle.blk_pieces.specs.Pieces.{Transfers}
use Rattle.blk_pieces.proofs.Kept.{none_met}
use Rattle.blk_pieces.proofs.Payloads.{payload_length}
use Rattle.blk_pieces.proofs.Rows.{RowsAfter, rows_after, rows_same}
use Rattle.qblk_core.specs.Along.{HaveNodes, IsStepOf, IsPieceStep}
use Rattle.qblk_core.specs.Completeness.{HasStood, WriteHasRoom, ZerosHaveRoom, HasRoomOn, HasRoomForEntry, HaveRoomAlong, IsGoodIfPiece, ArePiecesGood}
use Rattle.qblk_core.specs.Face.{machine_on}
use Rattle.qblk_core.specs.ImageNodes.{IsOnFile, capacity_of}
use Rattle.qblk_core.specs.Run.{Outside, IsIoRun}
use Rattle.qblk_words.specs.declared.words.Format.{Format}
use Rattle.qblk_core.proofs.Made.{made-one}
use Rattle.qblk_core.proofs.OneImage.{StandsAlone, stands-alone, none-met-alone, alone-after}

-- ---- the guest is on the image's node

abbrev AreOnImage : List IoGuest → Type 0
AreOnImage [] = Unit {0}
AreOnImage (row ∷ rows) = (row.node ≡ 1) × AreOnImage rows

on-at : (rows : List IoGuest) (g : ℕ) (row : IoGuest) → slice_get rows g ≡ Some row → AreOnImage rows → row.node ≡ 1
on-at [] g row is on = absurd (let bad : ⊥ = cc is in bad)
on-at (x ∷ rows) zero row is on = let same : x ≡ row = cc is in ap (λ (r : IoGuest). r.node) (sym same) ∙ on.0
on-at (x ∷ rows) (suc g) row is on = on-at rows g row is on.1

on-change : (g : ℕ) (f : IoGuest → IoGuest) (rows : List IoGuest) → ((row : IoGuest) → (f row).node ≡ row.node) → AreOnImage rows → AreOnImage (change g f rows)
on-change g f [] keeps on = tt
on-change zero f (x ∷ rows) keeps on = (keeps x ∙ on.0, on.1)
on-change (suc g) f (x ∷ rows) keeps on = (on.0, on-change g f rows keeps on.1)

-- a piece changes no guest but in its flight
guests-by : (node : ℕ) (flight : Option Flight) (k : ℕ) (outcome : Outcome) (s : IoState) → (with_io_piece node flight k outcome s).table.guests ≡ s.table.guests
guests-by node None k outcome s = refl
guests-by node (Some f) k outcome s = refl

guests-done : (found : Option IoGuest) (k : ℕ) (outcome : Outcome) (s : IoState) → (piece_done found k outcome s).table.guests ≡ s.table.guests
guests-done None k outcome s = refl
guests-done (Some row) k outcome s = guests-by row.node row.flight k outcome s

on-after : (s : IoState) (e : Event) → AreOnImage s.table.guests → AreOnImage (io_after s e).table.guests
on-after s (Admit g r op) on = on-change g (io_admitted op) s.table.guests (λ row. refl) on
on-after s (Refuse g r op why) on = on-change g io_finished s.table.guests (λ row. refl) on
on-after s (Piece g r k outcome got) on =
    on-change g (io_past_piece outcome) (piece_done (io_guest_at s g) k outcome s).table.guests (λ row. refl)
    (subst AreOnImage (sym (guests-done (io_guest_at s g) k outcome s)) on)
on-after s (Retire g r) on = on-change g io_finished s.table.guests (λ row. refl) on
on-after s (Reply line given command text) on = on
on-after s (Reached line what) on = on
on-after s (Start job) on = on
on-after s (Ready job) on = on
on-after s (End job outcome offset) on = on
on-after s (Done actor) on = on

-- ---- a piece that finds room

module _ (old new : Nodes) (was now : ℕ) (alone : StandsAlone was now old) (part : Extent) (dev : DevNo) where
  -- the device is that of the image's file
  capacity-at : (file : ℕ) (d : DeviceSeen) → file_of old 1 ≡ Some file → device_in old.devices file ≡ Some d → capacity_of old ≡ Some d.capacity
  capacity-at file d edge held =
      let same : file ≡ 0 = (let s : Some file ≡ Some 0 = sym edge ∙ alone.file in cc s) in
      ap (option_map (λ (x : DeviceSeen). x.capacity)) (subst (λ (n : ℕ). device_in old.devices n ≡ Some d) same held)

  image-full : (fits : ℕ → Type 0) (own : Option ℕ) (rest : Option Extent) (n : ℕ) → WritesImage fits own rest old new 1 n (NoSpace dev)
      → ((capacity : ℕ) → capacity_of old ≡ Some capacity → fits capacity) → ⊥
  image-full fits own rest n wrote room = wrote.cause.0 (room wrote.before.capacity (capacity-at wrote.file wrote.before wrote.edge wrote.held))

  raw-full : (row : Row) (p : RawImage) (bytes : List ℕ) → row_at old 1 ≡ Some row → row.driver ≡ drivers.Raw p → p.offset ≡ 0 → length bytes ≡ part.len
      → WritesFile old new 1 part.start bytes (NoSpace dev) → ((capacity : ℕ) → capacity_of old ≡ Some capacity → end_of part ≤ capacity) → ⊥
  raw-full row p bytes there raw whole len wrote room =
      let at = wrote.at in
      let same : wrote.row ≡ row = (let s : Some wrote.row ≡ Some row = sym wrote.there ∙ there in cc s) in
      let driver : wrote.row.driver ≡ drivers.Raw p = ap (λ (r : Row). r.driver) same ∙ raw in
      let edge : file_of old 1 ≡ Some wrote.file = subst (λ (d : Driver). own_file old 1 d ≡ Some wrote.file) driver wrote.own in
      let start : wrote.start ≡ p.offset + part.start = wrote.start_is ∙ ap (λ (d : Driver). own_start d part.start) driver in
      let full : at.before.capacity < wrote.start + length bytes = at.wrote.cause.0 in
      let fits : end_of part ≤ at.before.capacity = room at.before.capacity (capacity-at wrote.file at.before edge at.held) in
      omega (arith, start, whole, len, full, fits)

  on-row : (row : Row) → row_at old 1 ≡ Some row → IsOnFile row.driver was now
  on-row row there =
      let same : alone.row ≡ row = (let s : Some alone.row ≡ Some row = sym alone.there ∙ there in cc s) in
      subst (λ (r : Row). IsOnFile r.driver was now) same alone.on_file

  write-full : (row : Row) (driver : Driver) (bytes : List ℕ) → row_at old 1 ≡ Some row → row.driver ≡ driver → IsOnFile driver was now → length bytes ≡ part.len
      → WritesBy driver old new 1 part bytes (NoSpace dev) → ((capacity : ℕ) → capacity_of old ≡ Some capacity → WriteHasRoom driver part capacity) → ⊥
  write-full row drivers.File bytes there is on len wrote room = on
  write-full row (drivers.Raw p) bytes there is on len wrote room = raw-full row p bytes there is on.0 len wrote room
  write-full row (drivers.Qcow2 image) bytes there is on len wrote room = image-full _ _ _ _ wrote room
  write-full row drivers.CopyOnRead bytes there is on len wrote room = on
  write-full row (drivers.Filter kind) bytes there is on len wrote room = on

  zeros-full : (row : Row) (driver : Driver) → row_at old 1 ≡ Some row → row.driver ≡ driver → IsOnFile driver was now
      → ZerosBy driver old new 1 part (NoSpace dev) → ((capacity : ℕ) → capacity_of old ≡ Some capacity → ZerosHaveRoom driver part capacity) → ⊥
  zeros-full row drivers.File there is on wrote room = on
  zeros-full row (drivers.Raw p) there is on wrote room = raw-full row p (replicate part.len 0) there is on.0 (length-replicate part.len 0) wrote room
  zeros-full row (drivers.Qcow2 image) there is on wrote room = image-full _ _ _ _ wrote room
  zeros-full row drivers.CopyOnRead there is on wrote room = on
  zeros-full row (drivers.Filter kind) there is on wrote room = on

  not-full : (op : Op) (buffer : List ℕ) → Transfers op old new 1 1 part (NoSpace dev) buffer → HasRoomOn old 1 op part → ⊥
  not-full (Read span) buffer did room = (none_met old new 1 part (NoSpace dev) buffer did (none-met-alone old was now alone part.start)).outcome_is
  not-full (Write span payload) buffer did room =
      let row = did.0.row in
      write-full row row.driver (payload_in (Write span payload) part) did.0.there refl (on-row row did.0.there) (payload_length (Write span payload) part tt) did.0.wrote
      (λ capacity is. room row capacity did.0.there is)
  not-full (Zero span) buffer did room =
      let row = did.0.row in
      zeros-full row row.driver did.0.there refl (on-row row did.0.there) did.0.wrote (λ capacity is. room row capacity did.0.there is)
  not-full Flush buffer did room = elim did.flushed [
    | inl on ↦ on.flush.cause
    | inr none ↦ cc none.2
  ]
  not-full (Discard span) buffer did room = did

-- it is good where it names no fault
piece-good : (old new : Nodes) (was now : ℕ) → StandsAlone was now old → (op : Op) (part : Extent) (outcome : Outcome) (buffer : List ℕ)
    → Transfers op old new 1 1 part outcome buffer → HasRoomOn old 1 op part → device_fault_by outcome ≡ None → outcome ≡ Good
piece-good old new was now alone op part Good buffer did room none = refl
piece-good old new was now alone op part (Torn done dev count) buffer did room none = absurd (let bad : ⊥ = cc none in bad)
piece-good old new was now alone op part (Io dev count) buffer did room none = absurd (let bad : ⊥ = cc none in bad)
piece-good old new was now alone op part (NoSpace dev) buffer did room none = absurd (not-full old new was now alone part dev op buffer did room)

-- ---- each entry

step-good : (s : IoState) (e : Event) (old next : Nodes) (was now : ℕ) → AreOnImage s.table.guests → StandsAlone was now old → IsStepOf s e old next → HasRoomForEntry s old e
    → device_fault_in e ≡ None → RowsAfter old next × IsGoodIfPiece e
step-good s (Piece g r k outcome got) old next was now on alone step room none =
    let row = with-some (λ (row : IoGuest). With row.flight (λ (f : Flight). IsPieceStep f.op old next row.node (piece f.op k) outcome got)) (io_guest_at s g) step in
    let f = with-some (λ (f : Flight). IsPieceStep f.op old next row.0.node (piece f.op k) outcome got) row.0.flight row.1.1 in
    let node : row.0.node ≡ 1 = on-at s.table.guests g row.0 row.1.0 on in
    let made = f.1.1.made in
    let did : Transfers f.0.op old next 1 1 (piece f.0.op k) outcome made.buffer =
    subst (λ (n : ℕ). Transfers f.0.op old next n n (piece f.0.op k) outcome made.buffer) node made.did in
    let fits : HasRoomOn old 1 f.0.op (piece f.0.op k) = subst (λ (n : ℕ). HasRoomOn old n f.0.op (piece f.0.op k)) node (room row.0 f.0 row.1.0 f.1.0) in (
      rows_after old next 1 1 f.0.op (piece f.0.op k) outcome made.buffer did,
      piece-good old next was now alone f.0.op (piece f.0.op k) outcome made.buffer did fits none,
    )
step-good s (Admit g r op) old next was now on alone step room none = (rows_same old next step, tt)
step-good s (Refuse g r op why) old next was now on alone step room none = (rows_same old next step, tt)
step-good s (Retire g r) old next was now on alone step room none = (rows_same old next step, tt)
step-good s (Reply line given command text) old next was now on alone step room none = (rows_same old next step, tt)
step-good s (Reached line what) old next was now on alone step room none = (rows_same old next step, tt)
step-good s (Start job) old next was now on alone step room none = (rows_same old next step, tt)
step-good s (Ready job) old next was now on alone step room none = (rows_same old next step, tt)
step-good s (End job outcome offset) old next was now on alone step room none = (rows_same old next step, tt)
step-good s (Done actor) old next was now on alone step room none = (rows_same old next step, tt)

all-good : (s : IoState) (old new : Nodes) (was now : ℕ) (h : List Event) (along : HaveNodes s old h new) → AreOnImage s.table.guests → StandsAlone was now old
    → HaveRoomAlong s old h new along → NameNone h → ArePiecesGood h
all-good s old new was now [] along on alone room none = tt
all-good s old new was now (e ∷ es) along on alone room none =
    let step = step-good s e old along.0 was now on alone along.1 room.0 none.0 in (
      step.1,
      all-good (io_after s e) along.0 new was now es along.2 (on-after s e on) (alone-after old along.0 was now alone step.0) room.1 none.1,
    )

pub pieces-good : (format : Format) (image : List ℕ) (ops : List Op) (flushed : Bool) (old new : Outside) (h : List Event) (before now : ℕ)
    → (run : IsIoRun format image ops flushed old new h before now) → HasStood before now
    → HaveRoomAlong (machine_on run.first) run.first h run.left run.on.along → ArePiecesGood h
pieces-good format image ops flushed old new h before now run stood room =
    let one = made-one format run.device run.first run.on.made in
    all-good (machine_on run.first) run.first run.left (node_size run.first 0) one.device.size h run.on.along (refl, tt) (stands-alone run.first one) room
    (run.quiet stood.1 stood.0)
