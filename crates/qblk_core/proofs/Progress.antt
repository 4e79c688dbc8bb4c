-- How far a request is after each of its pieces.
use Rattle.std.proofs.Common.{◌≡◌, ℕ, ◌+◌, ◌<◌, true, false, not, List, [], ◌∷◌, ◌++◌, refl, sym, ◌∙◌, ap, subst, arith, inl, inr, Option, Some, None}
use Rattle.std.specs.Prelude.{option_map}
use Rattle.std.specs.Prelude.{is_some}
use Rattle.std.proofs.lemmas.Bool.{false≢true}
use Rattle.std.proofs.lemmas.List.{append-nil}
use Rattle.blk_base.specs.Outcomes.{is_good}
use Rattle.blk_base.specs.declared.fault.Outcome.{Outcome}
use Rattle.trace_codec.specs.declared.op.Op.{Op}
use Rattle.trace_codec.specs.declared.op.Op.TheVariants.{Read, Write, Zero, Flush, Discard}
use Rattle.trace_codec.specs.Request.{pieces_of}
use Rattle.blk_history.specs.Disk.{piece}
use Rattle.blk_history.specs.Fold.{With}
use Rattle.blk_history.specs.Machine.{Flight, IoGuest, one_further, io_past_piece}
use Rattle.blk_history.specs.Legal.{IsFlightOver}
use Rattle.blk_history.specs.Owned.{asked_by}
use Rattle.blk_history.specs.Recorded.{Recorded}
use Rattle.blk_history.specs.declared.event.Event.{Event}
use Rattle.blk_history.specs.declared.event.Event.TheVariants as events
use Rattle.blk_history.specs.declared.entry.Refused.{Refused}
use Rattle.blk_history.proofs.Folds.{asked-push}
use Rattle.qblk_core.specs.Face.{SessionSeen}
use Rattle.blk_nodes.specs.Nodes.{Nodes}
use Rattle.blk_pieces.specs.Pieces.{shown_before}
use Rattle.blk_pieces.proofs.Shown.{shown_next, shown_within}
use Rattle.qblk_core.specs.Steps.{CanPiece, PutsPiece, admitted_or_refused, after_retirement}
use Rattle.qblk_core.specs.Comes.{ComesFrom}
use Rattle.qblk_core.specs.Requests.{CanRun, AtPiece, PiecesDone, CanRecord, RequestDone}

shown-start : (op : Op) → shown_before op 0 ≡ 0
shown-start (Read span) = omega arith
shown-start (Write span payload) = refl
shown-start (Zero span) = refl
shown-start Flush = refl
shown-start (Discard span) = refl

pub start-piece : (w : SessionSeen) (pieces : ℕ) (f : Flight) → w.guest.flight ≡ Some f → CanRun w pieces f → AtPiece w w 0 f
start-piece w pieces f is can = record {
  flight = is ∙ ap (λ n. Some (record f { next = n })) can.first;
  done = refl;
  asked = refl;
  room = omega arith;
  byte_room = omega arith;
  comes = λ o h. h;
}

pub can-piece : (old now : SessionSeen) (pieces k : ℕ) (f : Flight) → CanRun old pieces f → AtPiece old now k f → k < pieces → CanPiece now.log (record f { next = k })
can-piece old now pieces k f can at below =
    let next = shown_next f.op k (omega arith) in
    let within = shown_within f.op (k + 1) in
    record { running = can.running; next = omega arith; numbered = can.numbered; room = omega arith; byte_room = omega arith }

-- an entry of a piece asks for nothing
asked-piece : (es : List Event) (r k : ℕ) (outcome : Outcome) (got : List ℕ) → asked_by 0 (es ++ events.Piece 0 r k outcome got ∷ []) ≡ asked_by 0 es
asked-piece es r k outcome got = asked-push 0 es (events.Piece 0 r k outcome got) ∙ append-nil (asked_by 0 es)

-- what holds of what is there
with-at : {A : Type 0} (x : Option A) (a : A) (P : A → Type 0) → x ≡ Some a → With x P → P a
with-at None a P is holds = absurd holds
with-at (Some b) a P is holds = let same : b ≡ a = cc is in subst P same holds

at-with : {A : Type 0} (x : Option A) (a : A) (P : A → Type 0) → x ≡ Some a → P a → With x P
at-with None a P is holds = let bad : ⊥ = cc is in bad
at-with (Some b) a P is holds = let same : b ≡ a = cc is in subst P (sym same) holds

over-with : (flight : Option Flight) (f : Flight) → flight ≡ Some f → IsFlightOver f → With flight IsFlightOver
over-with flight f is over = at-with flight f IsFlightOver is over

-- the flight after a piece
flight-after : (outcome : Outcome) (now v : SessionSeen) (f : Flight) → now.guest.flight ≡ Some f → v.guest ≡ io_past_piece outcome now.guest → v.guest.flight ≡ Some (one_further outcome f)
flight-after outcome now v f is guest = ap (λ (g : IoGuest). g.flight) guest ∙ ap (option_map (one_further outcome)) is

pub next-piece : (old now v : SessionSeen) (k : ℕ) (f : Flight) (outcome : Outcome) (got : List ℕ) → f.is_stopped ≡ false → k < pieces_of f.op → AtPiece old now k f → PutsPiece now v (record f { next = k }) outcome got → is_good outcome ≡ true → ((o : Nodes) → ComesFrom o now → ComesFrom o v) → AtPiece old v (k + 1) f
next-piece old now v k f outcome got running below at puts good comes =
    let log = puts.made.log in
    let bound = puts.made.bound in
    let shown = shown_next f.op k below in
    let room = ap (λ (l : Recorded). l.room) log in
    let byte_room = ap (λ (l : Recorded). l.byte_room) log in
    let after = flight-after outcome now v (record f { next = k }) at.flight puts.guest in
    let stays : not (is_good outcome) ≡ f.is_stopped = ap not good ∙ sym running in
    record {
      flight = after ∙ ap (λ b. Some (record { op = f.op; next = k + 1; is_stopped = b })) stays;
      done = ap (λ (g : IoGuest). g.done) puts.guest ∙ at.done;
      asked = ap (λ (l : Recorded). asked_by 0 l.events) log ∙ asked-piece now.log.events now.guest.done k outcome got ∙ at.asked;
      room = omega arith;
      byte_room = omega arith;
      comes = λ o h. comes o (at.comes o h);
    }

pub last-piece : (old now v : SessionSeen) (k : ℕ) (f : Flight) (outcome : Outcome) (got : List ℕ) → k < pieces_of f.op → AtPiece old now k f → PutsPiece now v (record f { next = k }) outcome got → is_good outcome ≡ false → ((o : Nodes) → ComesFrom o now → ComesFrom o v) → PiecesDone old v f
last-piece old now v k f outcome got below at puts bad comes =
    let log = puts.made.log in
    let bound = puts.made.bound in
    let shown = shown_next f.op k below in
    let within = shown_within f.op (k + 1) in
    let room = ap (λ (l : Recorded). l.room) log in
    let byte_room = ap (λ (l : Recorded). l.byte_room) log in
    let after = flight-after outcome now v (record f { next = k }) at.flight puts.guest in
    record {
      over = over-with v.guest.flight _ after (inr (ap not bad));
      done = ap (λ (g : IoGuest). g.done) puts.guest ∙ at.done;
      asked = ap (λ (l : Recorded). asked_by 0 l.events) log ∙ asked-piece now.log.events now.guest.done k outcome got ∙ at.asked;
      room = omega arith;
      byte_room = omega arith;
      comes = λ o h. comes o (at.comes o h);
    }

pub all-pieces : (old now : SessionSeen) (f : Flight) → AtPiece old now (pieces_of f.op) f → PiecesDone old now f
all-pieces old now f at =
    let within = shown_within f.op (pieces_of f.op) in
    record {
      over = over-with now.guest.flight _ at.flight (inl refl);
      done = at.done;
      asked = at.asked;
      room = at.room;
      byte_room = omega arith;
      comes = at.comes;
    }

-- the same, of a guest whose flight is known only to be there
pub turn-can : (old now : SessionSeen) (pieces k : ℕ) (flight : Option Flight) → With flight (CanRun old pieces) → With flight (AtPiece old now k) → k < pieces → With now.guest.flight (CanPiece now.log)
turn-can old now pieces k None can at below = absurd can
turn-can old now pieces k (Some f) can at below = at-with now.guest.flight _ (CanPiece now.log) at.flight (can-piece old now pieces k f can at below)

pub turn-next : (old now v : SessionSeen) (pieces k : ℕ) (outcome : Outcome) (flight : Option Flight) → With flight (CanRun old pieces) → With flight (AtPiece old now k) → k < pieces
    → With now.guest.flight (λ f. (got : List ℕ) × PutsPiece now v f outcome got) → is_good outcome ≡ true → ((o : Nodes) → ComesFrom o now → ComesFrom o v) → With flight (AtPiece old v (k + 1))
turn-next old now v pieces k outcome None can at below puts good comes = absurd can
turn-next old now v pieces k outcome (Some f) can at below puts good comes =
    let put = with-at now.guest.flight _ (λ f. (got : List ℕ) × PutsPiece now v f outcome got) at.flight puts in
    next-piece old now v k f outcome put.0 can.running (omega arith) at put.1 good comes

pub turn-last : (old now v : SessionSeen) (pieces k : ℕ) (outcome : Outcome) (flight : Option Flight) → With flight (CanRun old pieces) → With flight (AtPiece old now k) → k < pieces
    → With now.guest.flight (λ f. (got : List ℕ) × PutsPiece now v f outcome got) → is_good outcome ≡ false → ((o : Nodes) → ComesFrom o now → ComesFrom o v) → With flight (PiecesDone old v)
turn-last old now v pieces k outcome None can at below puts bad comes = absurd can
turn-last old now v pieces k outcome (Some f) can at below puts bad comes =
    let put = with-at now.guest.flight _ (λ f. (got : List ℕ) × PutsPiece now v f outcome got) at.flight puts in
    last-piece old now v k f outcome put.0 (omega arith) at put.1 bad comes

pub turn-all : (old now : SessionSeen) (pieces k : ℕ) (flight : Option Flight) → With flight (CanRun old pieces) → With flight (AtPiece old now k) → k ≡ pieces → With flight (PiecesDone old now)
turn-all old now pieces k None can at is = absurd can
turn-all old now pieces k (Some f) can at is = all-pieces old now f (rw (← (is ∙ can.count)) at)

pub turn-first : (w : SessionSeen) (pieces : ℕ) (flight : Option Flight) → w.guest.flight ≡ flight → With flight (CanRun w pieces) → With flight (AtPiece w w 0)
turn-first w pieces None is can = can
turn-first w pieces (Some f) is can = start-piece w pieces f is can

-- an entry that asks for a request
asked-admit : (es : List Event) (r : ℕ) (op : Op) → asked_by 0 (es ++ events.Admit 0 r op ∷ []) ≡ asked_by 0 es ++ op ∷ []
asked-admit es r op = asked-push 0 es (events.Admit 0 r op)

asked-refuse : (es : List Event) (r : ℕ) (op : Op) (why : Refused) → asked_by 0 (es ++ events.Refuse 0 r op why ∷ []) ≡ asked_by 0 es ++ op ∷ []
asked-refuse es r op why = asked-push 0 es (events.Refuse 0 r op why)

asked-retire : (es : List Event) (r : ℕ) → asked_by 0 (es ++ events.Retire 0 r ∷ []) ≡ asked_by 0 es
asked-retire es r = asked-push 0 es (events.Retire 0 r) ∙ append-nil (asked_by 0 es)

refused-done : (w : SessionSeen) (op : Op) (why : Refused) → CanRecord w op → ((o : Nodes) → ComesFrom o w → ComesFrom o (admitted_or_refused w op (Some why))) → RequestDone w (admitted_or_refused w op (Some why)) op
refused-done w op why has comes = record {
  idle = refl;
  done = refl;
  asked = asked-refuse w.log.events w.guest.done op why;
  room = omega arith;
  byte_room = omega arith;
  comes = comes;
}

pub request-refused : (w v : SessionSeen) (op : Op) (why : Option Refused) → CanRecord w op → is_some why ≡ true → v ≡ admitted_or_refused w op why → ((o : Nodes) → ComesFrom o w → ComesFrom o v) → RequestDone w v op
request-refused w v op None has is kept comes = absurd (false≢true is)
request-refused w v op (Some why) has is kept comes =
    let P : SessionSeen → Type 0 = λ x. RequestDone w x op in
    subst P (sym kept) (refused-done w op why has (λ o h. let Q : SessionSeen → Type 0 = ComesFrom o in subst Q kept (comes o h)))

-- a request that was admitted, once its pieces are made and it is retired
retired-done : (w u : SessionSeen) (op : Op) → CanRecord w op → ((o : Nodes) → ComesFrom o w → ComesFrom o (admitted_or_refused w op None)) → PiecesDone (admitted_or_refused w op None) u (record { op = op; next = 0; is_stopped = false })
    → ((o : Nodes) → ComesFrom o u → ComesFrom o (after_retirement u)) → RequestDone w (after_retirement u) op
retired-done w u op has first pieces last = record {
  idle = refl;
  done = ap (λ n. n + 1) pieces.done;
  asked = asked-retire u.log.events u.guest.done ∙ pieces.asked ∙ asked-admit w.log.events w.guest.done op;
  room = let some = pieces.room in let had = has.room in omega arith;
  byte_room = pieces.byte_room;
  comes = λ o h. last o (pieces.comes o (first o h));
}

pub request-retired : (w v u x : SessionSeen) (op : Op) (why : Option Refused) → CanRecord w op → is_some why ≡ false → v ≡ admitted_or_refused w op why → ((o : Nodes) → ComesFrom o w → ComesFrom o v)
    → With v.guest.flight (PiecesDone v u) → x ≡ after_retirement u → ((o : Nodes) → ComesFrom o u → ComesFrom o x) → RequestDone w x op
request-retired w v u x op (Some why) has is kept first pieces ends last = absurd (false≢true (sym is))
request-retired w v u x op None has is kept first pieces ends last =
    let P : SessionSeen → Type 0 = λ y. RequestDone w y op in
    let D : SessionSeen → Type 0 = λ y. With y.guest.flight (PiecesDone y u) in
    subst P (sym ends) (retired-done w u op has (λ o h. let Q : SessionSeen → Type 0 = ComesFrom o in subst Q kept (first o h)) (subst D kept pieces) (λ o h. let Q : SessionSeen → Type 0 = ComesFrom o in subst Q ends (last o h)))
