-- Each step of a run leaves a history from the same opening.
use Rattle.std.proofs.Common.{◌≡◌, ℕ, ◌≤◌, Bool, List, [], ◌∷◌, ◌++◌, length, refl, sym, ◌∙◌, ap, subst, arith, Option, Some, None, IsSome}
use Rattle.std.specs.Prelude.{option_map}
use Rattle.std.proofs.lemmas.Bool.{false≢true}
use Rattle.blk_base.specs.Counts.{HasFailedSince, Rose}
use Rattle.blk_history.specs.Recorded.{Recorded}
use Rattle.blk_base.specs.declared.fault.Outcome.{Outcome}
use Rattle.blk_base.specs.declared.fault.Outcome.TheVariants.{Good, Torn, Io, NoSpace}
use Rattle.trace_codec.specs.declared.op.Op.{Op}
use Rattle.trace_codec.specs.declared.op.Op.TheVariants.{Read, Write, Zero, Flush, Discard}
use Rattle.blk_base.specs.Pieces.{Extent}
use Rattle.blk_history.specs.Disk.{piece}
use Rattle.blk_pieces.proofs.Told.{shown_none}
use Rattle.qblk_core.specs.Pieces.{IsPieceOn}
use Rattle.blk_history.specs.Machine.{IoState, IoGuest, Flight, io_after, io_replay}
use Rattle.blk_history.specs.Legal.{FitsIo, IsFlightOver}
use Rattle.blk_history.specs.Fold.{With}
use Rattle.blk_history.specs.Licence.{Named, device_fault_in, device_fault_by, last_named, RoseSince}
use Rattle.blk_history.specs.declared.entry.Refused.{Refused}
use Rattle.blk_history.specs.declared.event.Event.{Event}
use Rattle.blk_history.specs.declared.event.Event.TheVariants.{Admit, Refuse, Piece, Retire}
use Rattle.blk_history.proofs.Folds.{run-push, each-push}
use Rattle.blk_nodes.specs.Nodes.{Nodes, kind_in, node_size}
use Rattle.qblk_core.specs.Along.{CountsOutcome, IsStepOf, HaveNodes, ShowsOf, FitsUnread}
use Rattle.qblk_core.specs.Face.{SessionSeen, new_io_guest, state_with, state_of, machine_on}
use Rattle.qblk_core.specs.ImageNodes.{told_disk, device_faults, HaveShapeOf}
use Rattle.qblk_core.specs.Steps.{admitted_or_refused, IsRequestJudged, after_retirement, CanPiece, PutsPiece}
use Rattle.qblk_core.specs.Comes.{NameAllRises, HasLine, HaveLines, ComesFrom}

-- a fault that an entry names is one of the only device, and rose; where none is named the count stands
abbrev IsLicensed : ℕ → ℕ → Option Named → Type 0
IsLicensed before now None = now ≡ before
IsLicensed before now (Some n) = (n.dev ≡ 0) × Rose before n.count × (n.count ≡ now)

-- the last count that was named is the present one
abbrev Last : List ℕ → ℕ → Type 0
Last counts now = counts ≡ now ∷ []

last-next : (counts : List ℕ) (before now : ℕ) (named : Option Named) → Last counts before → IsLicensed before now named → Last (last_named counts named) now
last-next counts before now None last licensed = last ∙ ap (λ (c : ℕ). c ∷ []) (sym licensed)
last-next counts before now (Some n) last licensed =
    let named : last_named counts (Some n) ≡ n.count ∷ [] = rw (last, licensed.0) refl in
    named ∙ ap (λ (c : ℕ). c ∷ []) licensed.2

rose-next : (counts : List ℕ) (before now : ℕ) (named : Option Named) → Last counts before → IsLicensed before now named → RoseSince counts named
rose-next counts before now None last licensed = tt
rose-next counts before now (Some n) last licensed =
    let since : HasFailedSince before n.count = (let rose = licensed.1 in omega (arith, rose)) in
    rw (last, licensed.0) (omega arith, since)

-- one entry more
along-push : (s : IoState) (old mid new : Nodes) (es : List Event) (e : Event) → HaveNodes s old es mid → IsStepOf (io_replay s es) e mid new
    → HaveNodes s old (es ++ e ∷ []) new
along-push s old mid new [] e is step = (new, subst (λ (m : Nodes). IsStepOf s e m new) is step, refl)
along-push s old mid new (x ∷ es) e is step = (is.0, is.1, along-push (io_after s x) is.0 mid new es e is.2 step)

shape-same : (nodes : Nodes) → HaveShapeOf nodes nodes
shape-same nodes = record { file = refl; image = refl; kind = refl; capacity = refl }

pub shape-then : (a b c : Nodes) → HaveShapeOf a b → HaveShapeOf b c → HaveShapeOf a c
shape-then a b c first next = record {
  file = next.file ∙ first.file;
  image = next.image ∙ first.image;
  kind = next.kind ∙ first.kind;
  capacity = next.capacity ∙ first.capacity;
}

-- it tells its disk still
abbrev TellsStill : Nodes → Nodes → Type 0
TellsStill old new = (disk : List ℕ) → told_disk old ≡ Some disk → (now : List ℕ) × (told_disk new ≡ Some now)

-- what one entry more has to be
record Adds (w v : SessionSeen) (e : Event) : Type 0 where
  events : v.log.events ≡ w.log.events ++ e ∷ []
  line : HasLine e
  shape : HaveShapeOf w.nodes v.nodes
  on_image : v.guest.node ≡ w.guest.node
  access : v.guest.is_read_only ≡ w.guest.is_read_only
  faults : device_faults w.nodes ≤ device_faults v.nodes
  licensed : IsLicensed (device_faults w.nodes) (device_faults v.nodes) (device_fault_in e)
  step : IsStepOf (state_of w) e w.nodes v.nodes
  state : io_after (state_of w) e ≡ state_of v
  told : TellsStill w.nodes v.nodes
  turn : FitsUnread (state_of w) e
  fits : (disk : List ℕ) → told_disk w.nodes ≡ Some disk → FitsIo (state_of w) e

licensed-push : (first : Nodes) (w v : SessionSeen) (e : Event) → ComesFrom first w → Adds w v e → NameAllRises first v
licensed-push first w v e comes adds =
    let was = comes.licensed in
    let step : List ℕ → Event → List ℕ = λ counts x. last_named counts (device_fault_in x) in
    record {
      risen = rw adds.events (each-push step (λ counts x. RoseSince counts (device_fault_in x)) (device_faults first ∷ []) w.log.events e was.risen (rose-next _ (device_faults w.nodes) (device_faults v.nodes) (device_fault_in e) was.last adds.licensed));
      last = rw (adds.events, run-push step (device_faults first ∷ []) w.log.events e) (last-next _ (device_faults w.nodes) (device_faults v.nodes) (device_fault_in e) was.last adds.licensed);
    }

lines-push : (es : List Event) (e : Event) → HaveLines es → HasLine e → HaveLines (es ++ e ∷ [])
lines-push [] e all one = (one, tt)
lines-push (x ∷ es) e all one = (all.0, lines-push es e all.1 one)

comes-push : (first : Nodes) (w v : SessionSeen) (e : Event) → ComesFrom first w → Adds w v e → ComesFrom first v
comes-push first w v e comes adds = record {
  faults = let before = comes.faults in let more = adds.faults in omega arith;
  shape = shape-then first w.nodes v.nodes comes.shape adds.shape;
  on_image = adds.on_image ∙ comes.on_image;
  access = adds.access ∙ comes.access;
  licensed = licensed-push first w v e comes adds;
  along = rw adds.events (along-push (machine_on first) first w.nodes v.nodes w.log.events e comes.along (rw comes.replay adds.step));
  lines = rw adds.events (lines-push w.log.events e comes.lines adds.line);
  replay = rw (adds.events, run-push io_after (machine_on first) w.log.events e, comes.replay) adds.state;
  in_turn = rw adds.events (each-push io_after FitsUnread (machine_on first) w.log.events e comes.in_turn (rw comes.replay adds.turn));
  told = λ disk is. let now = comes.told disk is in adds.told now.0 now.1;
  legal = λ disk is.
      let now = comes.told disk is in
      rw adds.events (each-push io_after FitsIo (machine_on first) w.log.events e (comes.legal disk is) (rw comes.replay (adds.fits now.0 now.1)));
}

adds-admission : (first : Nodes) (w : SessionSeen) (op : Op) → ComesFrom first w → w.guest.flight ≡ None → IsRequestJudged w op None → Adds w (admitted_or_refused w op None) (Admit 0 w.guest.done op)
adds-admission first w op comes idle judged = record {
  events = refl;
  line = record { whose = refl; shown = omega arith; small = tt };
  shape = shape-same w.nodes;
  on_image = refl;
  access = refl;
  faults = omega arith;
  licensed = refl;
  step = refl;
  state = refl;
  told = λ disk is. (disk, is);
  turn = rw comes.on_image (
    record { idle = idle; number = refl },
    record { inside = judged.0; allowed = judged.1 },
  );
  fits = λ disk is. rw comes.on_image (
    record { idle = idle; number = refl },
    record { inside = judged.0; allowed = judged.1 },
  );
}

adds-refusal : (first : Nodes) (w : SessionSeen) (op : Op) (why : Refused) → ComesFrom first w → w.guest.flight ≡ None → IsRequestJudged w op (Some why) → Adds w (admitted_or_refused w op (Some why)) (Refuse 0 w.guest.done op why)
adds-refusal first w op why comes idle judged = record {
  events = refl;
  line = record { whose = refl; shown = omega arith; small = tt };
  shape = shape-same w.nodes;
  on_image = refl;
  access = refl;
  faults = omega arith;
  licensed = refl;
  step = refl;
  state = refl;
  told = λ disk is. (disk, is);
  turn = rw comes.on_image (record { idle = idle; number = refl }, judged);
  fits = λ disk is. rw comes.on_image (record { idle = idle; number = refl }, judged);
}

pub admission-kept : (w : SessionSeen) (op : Op) (why : Option Refused) → w.guest.flight ≡ None → IsRequestJudged w op why → (first : Nodes) → ComesFrom first w → ComesFrom first (admitted_or_refused w op why)
admission-kept w op None idle judged first comes = comes-push first w _ _ comes (adds-admission first w op comes idle judged)
admission-kept w op (Some why) idle judged first comes = comes-push first w _ _ comes (adds-refusal first w op why comes idle judged)

-- the request in flight, where one is over
over : (flight : Option Flight) → With flight IsFlightOver → (f : Flight) × (flight ≡ Some f) × IsFlightOver f
over None is = absurd is
over (Some f) is = (f, refl, is)

adds-retirement : (w : SessionSeen) → With w.guest.flight IsFlightOver → Adds w (after_retirement w) (Retire 0 w.guest.done)
adds-retirement w is =
    let found = over w.guest.flight is in
    record {
      events = refl;
      line = record { whose = refl; shown = omega arith; small = tt };
      shape = shape-same w.nodes;
      on_image = refl;
      access = refl;
      faults = omega arith;
      licensed = refl;
      step = refl;
      state = refl;
      told = λ disk is. (disk, is);
      turn = rw found.1 (refl, found.2);
      fits = λ disk is. rw found.1 (refl, found.2);
    }

pub retirement-kept : (w : SessionSeen) → With w.guest.flight IsFlightOver → (first : Nodes) → ComesFrom first w → ComesFrom first (after_retirement w)
retirement-kept w is first comes = comes-push first w _ _ comes (adds-retirement w is)

licensed-piece : (before now : ℕ) (outcome : Outcome) → CountsOutcome before now outcome → IsLicensed before now (device_fault_by outcome)
licensed-piece before now Good cause = cause
licensed-piece before now (Torn done dev count) cause = cause
licensed-piece before now (Io dev count) cause = cause
licensed-piece before now (NoSpace dev) cause = cause.1

still-tells : (f : List ℕ → List ℕ) (old new : Nodes) → told_disk new ≡ option_map f (told_disk old) → TellsStill old new
still-tells f old new is disk told = (f disk, is ∙ ap (option_map f) told)

-- the state after a piece
state-after : (w v : SessionSeen) (f : Flight) (outcome : Outcome) (got : List ℕ) → w.guest.node ≡ 1 → w.guest.flight ≡ Some f → PutsPiece w v f outcome got
    → io_after (state_of w) (Piece 0 w.guest.done f.next outcome got) ≡ state_of v
state-after w v f outcome got on_image is puts =
    let shape = puts.made.shape in
    rw (puts.guest, shape.file, shape.image, puts.made.disk, is, on_image) refl

-- what a piece shows
shows-of : (op : Op) (old new : Nodes) (part : Extent) (outcome : Outcome) (got : List ℕ) → IsPieceOn op old new 1 part outcome got → ShowsOf outcome op part got
shows-of (Read span) old new part Good got on = ap length on.shown ∙ on.did.whole
shows-of (Write span payload) old new part Good got on = ap length on.shown
shows-of (Zero span) old new part Good got on = ap length on.shown
shows-of Flush old new part Good got on = ap length on.shown
shows-of (Discard span) old new part Good got on = ap length on.shown
shows-of op old new part (Torn done dev count) got on = on.shown ∙ shown_none op (Torn done dev count) on.buffer (λ bad. let e : ⊥ = cc bad in e)
shows-of op old new part (Io dev count) got on = on.shown ∙ shown_none op (Io dev count) on.buffer (λ bad. let e : ⊥ = cc bad in e)
shows-of op old new part (NoSpace dev) got on = on.shown ∙ shown_none op (NoSpace dev) on.buffer (λ bad. let e : ⊥ = cc bad in e)

adds-piece : (first : Nodes) (w v : SessionSeen) (f : Flight) (outcome : Outcome) (got : List ℕ) → ComesFrom first w → w.guest.flight ≡ Some f → CanPiece w.log f → PutsPiece w v f outcome got → Adds w v (Piece 0 w.guest.done f.next outcome got)
adds-piece first w v f outcome got comes is can puts = record {
  events = ap (λ (l : Recorded). l.events) puts.made.log;
  line = record { whose = refl; shown = puts.made.small; small = puts.made.fits };
  shape = puts.made.shape;
  on_image = ap (λ (g : IoGuest). g.node) puts.guest;
  access = ap (λ (g : IoGuest). g.is_read_only) puts.guest;
  faults = puts.made.faults;
  licensed = licensed-piece (device_faults w.nodes) (device_faults v.nodes) outcome puts.made.cause;
  step = rw (is, comes.on_image) (record { made = puts.made.on; count = puts.made.cause });
  state = state-after w v f outcome got comes.on_image is puts;
  told = still-tells _ w.nodes v.nodes puts.made.disk;
  turn = rw is (refl, record { running = can.running; next = refl; within = can.next; form = puts.made.form; shown = shows-of f.op w.nodes v.nodes (piece f.op f.next) outcome got puts.made.on });
  fits = λ disk told. rw is (
    refl,
    record {
      running = can.running;
      next = refl;
      within = can.next;
      told = rw (comes.on_image, told) (puts.made.tells disk told);
    },
  );
}

piece-kept : (w v : SessionSeen) (f : Flight) (outcome : Outcome) (got : List ℕ) → w.guest.flight ≡ Some f → CanPiece w.log f → PutsPiece w v f outcome got → (first : Nodes) → ComesFrom first w → ComesFrom first v
piece-kept w v f outcome got is can puts first comes = comes-push first w v _ comes (adds-piece first w v f outcome got comes is can puts)

piece-of : (w v : SessionSeen) (outcome : Outcome) (flight : Option Flight) → w.guest.flight ≡ flight → With flight (CanPiece w.log) → With flight (λ f. (got : List ℕ) × PutsPiece w v f outcome got) → (first : Nodes) → ComesFrom first w → ComesFrom first v
piece-of w v outcome None is can puts = absurd can
piece-of w v outcome (Some f) is can puts = piece-kept w v f outcome puts.0 is can puts.1

pub piece-made : (w v : SessionSeen) (outcome : Outcome) → With w.guest.flight (CanPiece w.log) → With w.guest.flight (λ f. (got : List ℕ) × PutsPiece w v f outcome got) → (first : Nodes) → ComesFrom first w → ComesFrom first v
piece-made w v outcome can puts = piece-of w v outcome w.guest.flight refl can puts

-- a run begins with its nodes
pub comes-start : (first : Nodes) (log : Recorded) → log.events ≡ [] → ComesFrom first (record { nodes = first; guest = new_io_guest; log = log })
comes-start first log empty = record {
  faults = omega arith;
  shape = shape-same first;
  on_image = refl;
  access = refl;
  licensed = record { risen = rw empty tt; last = rw empty refl };
  along = rw empty refl;
  lines = rw empty tt;
  replay = rw empty refl;
  in_turn = rw empty tt;
  told = λ disk is. (disk, is);
  legal = λ disk is. rw empty tt;
}
