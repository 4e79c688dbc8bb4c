-- Rows and history stay in step with each entry.
use Rattle.std.proofs.Common.{◌≡◌, ℕ, suc, ◌+◌, ◌*◌, ◌-◌, ◌≤◌, ◌<◌, List, [], ◌∷◌, ◌++◌, length, set, replicate, zero, refl, sym, ◌∙◌, ap, subst, arith, Option, Some, None, Bool, false, not}
use Rattle.std.specs.Prelude.{slice_get, option_and_then, option_map, unwrap_or}
use Rattle.std.proofs.lemmas.List.{append-nil, length-append}
use Rattle.std.proofs.lemmas.List.Elements.{filter_map-append}
use Rattle.blk_base.specs.declared.memory.Room.{Room}
use Rattle.blk_base.specs.Outcomes.{is_good}
use Rattle.blk_base.specs.declared.fault.Outcome.{Outcome}
use Rattle.trace_codec.specs.declared.op.Op.{Op}
use Rattle.trace_codec.specs.Request.{pieces_of, read_bytes_of}
use Rattle.qmp_rules.specs.Chains.{is_listed}
use Rattle.blk_history.specs.Fold.{change, With}
use Rattle.blk_history.specs.Machine.{Flight}
use Rattle.blk_history.specs.Names.{JobLine}
use Rattle.blk_history.specs.Recorded.{Recorded, log_with_entry, log_with_shown}
use Rattle.blk_history.specs.declared.event.Event.{Event}
use Rattle.blk_history.specs.declared.event.Event.TheVariants.{Admit, Done}
use Rattle.blk_pieces.specs.Pieces.{shown_before}
use Rattle.blk_pieces.proofs.Shown.{shown_next, shown_within}
use Rattle.flat_machine.specs.State.{Guest}
use Rattle.flat_machine.specs.Opening.{new_guest}
use Rattle.flat_machine.specs.Machine.{admitted, finished, past_piece}
use Rattle.world_parts.specs.declared.row.InFlight.{InFlight}
use Rattle.world_parts.specs.declared.row.GuestProgress.{GuestProgress}
use Rattle.world_parts.specs.Progress.{no_log, new_row, guest_in, guests_in, flight_as, flight_in, flight_at, IsPlaced, IsPlacedIn, CanShow, HaveTheirPlaces, AreMarked, KeepsStep, owed, owed_by, owed_bytes, owed_bytes_by, actor_done, ended_in, answered_by, answered_in, room_less, requests_done, IsFree, HasRoomFor}
use Rattle.world_parts.proofs.Rows.{request-push, request-append, guests-append, guest-append, placed-append, placed-put, placed-at, guests-put, guests-at, marked-put, owed-change, owed-bytes-change, owed-at, owed-bytes-at}

-- what holds of what is there
pub with-at : {A : Type 0} (x : Option A) (a : A) (P : A → Type 0) → x ≡ Some a → With x P → P a
with-at None a P is holds = absurd holds
with-at (Some b) a P is holds = let same : b ≡ a = cc is in subst P same holds

-- an entry that ends no actor and answers no line
pub ended-push : (es : List Event) (e : Event) → actor_done e ≡ None → ended_in (es ++ e ∷ []) ≡ ended_in es
ended-push es e none = filter_map-append actor_done es (e ∷ []) ∙ rw none (append-nil (ended_in es))

pub answered-push : (es : List Event) (e : Event) → answered_by e ≡ None → answered_in (es ++ e ∷ []) ≡ answered_in es
answered-push es e none = filter_map-append answered_by es (e ∷ []) ∙ rw none (append-nil (answered_in es))

-- A guest's row after an entry of that guest. What is spared and owed falls by as much as the room, or by more.
pub record PutsRow (log log' : Recorded) (spare spare' : Room) (rows : List GuestProgress) (e : Event) (g : ℕ) (old row : GuestProgress) (h : Guest → Guest) : Type 0 where
  pub there : slice_get rows g ≡ Some old
  pub events : log'.events ≡ log.events ++ e ∷ []
  pub ends : actor_done e ≡ None
  pub answers : answered_by e ≡ None
  pub is : guest_in (log.events ++ e ∷ []) row ≡ h (guest_in log.events old)
  pub placed : IsPlacedIn (log.events ++ e ∷ []) row.done row.flight
  pub done : row.is_done ≡ old.is_done
  pub falls : log'.room ≤ log.room
  pub spares : spare'.entries ≤ spare.entries
  pub room : spare'.entries + owed (h (guest_in log.events old)).flight + log.room ≤ spare.entries + owed (guest_in log.events old).flight + log'.room
  pub bytes : spare'.bytes + owed_bytes (h (guest_in log.events old)).flight + log.byte_room ≤ spare.bytes + owed_bytes (guest_in log.events old).flight + log'.byte_room

module _ (log log' : Recorded) (spare spare' : Room) (rows : List GuestProgress) (e : Event) (g : ℕ) (old row : GuestProgress) (h : Guest → Guest) (puts : PutsRow log log' spare spare' rows e g old row h) where
  -- the guests after it
  pub guests-then : HaveTheirPlaces log.events rows → guests_in log'.events (set rows g row) ≡ change g h (guests_in log.events rows)
  guests-then placed =
      let at : guest_in (log.events ++ e ∷ []) old ≡ guest_in log.events old = guest-append log.events (e ∷ []) old (placed-at log.events rows g old placed puts.there) in
      let stays = guests-append log.events (e ∷ []) rows placed in
      rw (puts.events, guests-put (log.events ++ e ∷ []) rows g old row h puts.there (puts.is ∙ ap h (sym at)), stays) refl

  pub in-step-put : {aside most : ℕ} {jobs : List JobLine} (is_done : Bool) (lines : List ℕ) (capacity : ℕ) → KeepsStep log spare aside jobs most rows is_done lines capacity → KeepsStep log' spare' aside jobs most (set rows g row) is_done lines capacity
  in-step-put is_done lines capacity was =
      let now = guests-then was.placed in
      let at = guests-at log.events rows g old puts.there in
      let owes = owed-change (guests_in log.events rows) g (guest_in log.events old) h at in
      let owes_bytes = owed-bytes-change (guests_in log.events rows) g (guest_in log.events old) h at in
      let room = puts.room in
      let bytes = puts.bytes in
      let falls = puts.falls in
      let had = was.room in
      let had_bytes = was.bytes in
      let had_lines = was.line_room in
      record {
        placed = rw puts.events (placed-put (log.events ++ e ∷ []) rows g row (placed-append log.events (e ∷ []) rows was.placed) puts.placed);
        script = was.script ∙ ap (is_listed 0) (sym (ap ended_in puts.events ∙ ended-push log.events e puts.ends));
        guests = rw (puts.events, ended-push log.events e puts.ends) (marked-put (ended_in log.events) 1 rows g old row was.guests puts.there puts.done);
        answered = was.answered ∙ sym (ap answered_in puts.events ∙ answered-push log.events e puts.answers);
        line_room = omega arith;
        room = rw now (omega arith);
        bytes = rw now (omega arith);
        few = was.few;
        named = let had_names = was.named in let less = puts.spares in omega arith;
      }

-- ---- each entry

-- a guest without a request in flight, by its row
pub idle-row : (es : List Event) (rows : List GuestProgress) (g : ℕ) (row : GuestProgress) → slice_get rows g ≡ Some row
    → With (slice_get (guests_in es rows) g) IsFree → IsFree (guest_in es row)
idle-row es rows g row is free = with-at _ _ IsFree (guests-at es rows g row is) free

pub done-is : (es : List Event) (rows : List GuestProgress) (g : ℕ) (row : GuestProgress) → slice_get rows g ≡ Some row → row.done ≡ requests_done (guests_in es rows) g
done-is es rows g row is = sym (ap (λ x. unwrap_or (option_map (λ (y : Guest). y.done) x) 0) (guests-at es rows g row is))

-- the row of a guest whose request was admitted by the last entry
abbrev pub admitted_row : List Event → GuestProgress → GuestProgress
admitted_row es row = record row { flight = Some (record { place = length es; next = 0; is_stopped = false }) }

pub puts-admission : (log log' : Recorded) (spare spare' : Room) (rows : List GuestProgress) (g : ℕ) (row : GuestProgress) (op : Op)
    → log' ≡ log_with_entry log (Admit g row.done op) → spare' ≡ room_less (pieces_of op + 2) (read_bytes_of op) spare → 0 < log.room
    → slice_get rows g ≡ Some row → IsFree (guest_in log.events row) → HasRoomFor op spare
    → PutsRow log log' spare spare' rows (Admit g row.done op) g row (admitted_row log.events row) (admitted op)
puts-admission log log' spare spare' rows g row op is spared some there free has =
    let placed = request-push log.events g row.done op in
    let idle = free.idle in
    let entries = has.entries in
    let bytes = has.bytes in
    record {
      there = there;
      events = ap (λ (l : Recorded). l.events) is;
      ends = refl;
      answers = refl;
      is = rw placed refl;
      placed = record { op = op; at = placed; next = omega arith; pieces = has.pieces; numbered = free.numbered };
      done = refl;
      falls = rw is (omega arith);
      spares = rw spared (omega arith);
      room = rw (is, spared, idle) (omega arith);
      bytes = rw (is, spared, idle) (omega arith);
    }

pub puts-refusal : (log log' : Recorded) (spare spare' : Room) (rows : List GuestProgress) (g : ℕ) (row : GuestProgress) (e : Event)
    → log' ≡ log_with_entry log e → actor_done e ≡ None → answered_by e ≡ None → spare' ≡ room_less 1 0 spare → 0 < log.room → 0 < spare.entries
    → slice_get rows g ≡ Some row → IsFree (guest_in log.events row)
    → PutsRow log log' spare spare' rows e g row (record row { done = row.done + 1; flight = None }) finished
puts-refusal log log' spare spare' rows g row e is ends answers spared some has there free =
    let idle = free.idle in
    record {
      there = there;
      events = ap (λ (l : Recorded). l.events) is;
      ends = ends;
      answers = answers;
      is = refl;
      placed = tt;
      done = refl;
      falls = rw is (omega arith);
      spares = rw spared (omega arith);
      room = rw (is, spared, idle) (omega arith);
      bytes = rw (is, spared, idle) (omega arith);
    }

-- a request in flight, at its end
pub puts-retirement : (log log' : Recorded) (spare : Room) (rows : List GuestProgress) (g : ℕ) (row : GuestProgress) (f : Flight) (e : Event)
    → log' ≡ log_with_entry log e → actor_done e ≡ None → answered_by e ≡ None → 0 < log.room
    → slice_get rows g ≡ Some row → (guest_in log.events row).flight ≡ Some f
    → PutsRow log log' spare spare rows e g row (record row { done = row.done + 1; flight = None }) finished
puts-retirement log log' spare rows g row f e is ends answers some there flying =
    record {
      there = there;
      events = ap (λ (l : Recorded). l.events) is;
      ends = ends;
      answers = answers;
      is = refl;
      placed = tt;
      done = refl;
      falls = rw is (omega arith);
      spares = omega arith;
      room = rw (is, flying) (omega arith);
      bytes = rw (is, flying) (omega arith);
    }

-- a request in flight, after its next piece
pub puts-piece : (log log' : Recorded) (spare : Room) (rows : List GuestProgress) (g : ℕ) (row : GuestProgress) (f : InFlight) (outcome : Outcome) (got : List ℕ) (e : Event)
    → log' ≡ log_with_shown log e got → actor_done e ≡ None → answered_by e ≡ None → 0 < log.room → length got ≤ log.byte_room
    → slice_get rows g ≡ Some row → row.flight ≡ Some f → (placed : IsPlaced log.events row.done f) → CanShow (length got) (flight_as f placed.op)
    → PutsRow log log' spare spare rows e g row (record row { flight = Some (record { place = f.place; next = f.next + 1; is_stopped = not (is_good outcome) }) }) (past_piece outcome)
puts-piece log log' spare rows g row f outcome got e is ends answers some room there flying placed can =
    let at = placed.at in
    let now = request-append log.events (e ∷ []) f.place placed.op placed.at in
    let next = can.next in
    let shown = can.shown in
    let more = shown_next placed.op f.next can.next in
    let within = shown_within placed.op (f.next + 1) in
    record {
      there = there;
      events = ap (λ (l : Recorded). l.events) is;
      ends = ends;
      answers = answers;
      is = rw (flying, at, now) refl;
      placed = record { op = placed.op; at = now; next = omega arith; pieces = placed.pieces; numbered = placed.numbered };
      done = refl;
      falls = rw is (omega arith);
      spares = omega arith;
      room = rw (is, flying, at) (omega arith);
      bytes = rw (is, flying, at) (omega arith);
    }

-- ---- entries that change no guest's row

-- a line is answered
pub in-step-answer : {aside most : ℕ} {jobs : List JobLine} (log log' : Recorded) (spare spare' : Room) (rows : List GuestProgress) (is_done : Bool) (lines : List ℕ) (capacity line : ℕ) (e : Event)
    → log' ≡ log_with_entry log e → spare' ≡ room_less 1 0 spare → 0 < spare.entries → actor_done e ≡ None → answered_by e ≡ Some line
    → KeepsStep log spare aside jobs most rows is_done lines capacity → KeepsStep log' spare' aside jobs most rows is_done (lines ++ line ∷ []) capacity
in-step-answer log log' spare spare' rows is_done lines capacity line e is spared some ends answers was =
    let room = was.room in
    let bytes = was.bytes in
    let had_lines = was.line_room in
    let stays = guests-append log.events (e ∷ []) rows was.placed in
    let longer = length-append lines (line ∷ []) in
    rw (is, spared) (record {
      placed = placed-append log.events (e ∷ []) rows was.placed;
      script = was.script ∙ ap (is_listed 0) (sym (ended-push log.events e ends));
      guests = rw (ended-push log.events e ends) was.guests;
      answered = ap (λ xs. xs ++ line ∷ []) was.answered ∙ sym (filter_map-append answered_by log.events (e ∷ []) ∙ rw answers refl);
      line_room = omega arith;
      room = rw stays (omega arith);
      bytes = rw stays (omega arith);
      few = was.few;
      named = let had_names = was.named in omega arith;
    })

-- an actor is done
pub in-step-done : {aside most : ℕ} {jobs : List JobLine} (log log' : Recorded) (spare spare' : Room) (rows rows' : List GuestProgress) (is_done is_done' : Bool) (lines : List ℕ) (capacity actor : ℕ)
    → log' ≡ log_with_entry log (Done actor) → spare' ≡ room_less 1 0 spare → 0 < spare.entries
    → ((ended : List ℕ) → is_done ≡ is_listed 0 ended → is_done' ≡ is_listed 0 (ended ++ actor ∷ []))
    → ((ended : List ℕ) → AreMarked ended 1 rows → AreMarked (ended ++ actor ∷ []) 1 rows')
    → ((es : List Event) → HaveTheirPlaces es rows → HaveTheirPlaces es rows')
    → ((es : List Event) → guests_in es rows' ≡ guests_in es rows)
    → KeepsStep log spare aside jobs most rows is_done lines capacity → KeepsStep log' spare' aside jobs most rows' is_done' lines capacity
in-step-done log log' spare spare' rows rows' is_done is_done' lines capacity actor is spared some script marks places same was =
    let room = was.room in
    let bytes = was.bytes in
    let had_lines = was.line_room in
    let stays = same (log.events ++ Done actor ∷ []) ∙ guests-append log.events (Done actor ∷ []) rows was.placed in
    let ends : ended_in (log.events ++ Done actor ∷ []) ≡ ended_in log.events ++ actor ∷ [] = filter_map-append actor_done log.events (Done actor ∷ []) in
    rw (is, spared) (record {
      placed = places (log.events ++ Done actor ∷ []) (placed-append log.events (Done actor ∷ []) rows was.placed);
      script = script (ended_in log.events) was.script ∙ ap (is_listed 0) (sym ends);
      guests = rw ends (marks (ended_in log.events) was.guests);
      answered = was.answered ∙ sym (answered-push log.events (Done actor) refl);
      line_room = omega arith;
      room = rw stays (omega arith);
      bytes = rw stays (omega arith);
      few = was.few;
      named = let had_names = was.named in omega arith;
    })

-- an entry of a job, for which the room was spared or set aside
pub in-step-job : {aside most : ℕ} {jobs : List JobLine} (log log' : Recorded) (spare spare' : Room) (aside' : ℕ) (jobs' : List JobLine) (rows : List GuestProgress) (is_done : Bool) (lines : List ℕ) (capacity : ℕ) (e : Event)
    → log' ≡ log_with_entry log e → actor_done e ≡ None → answered_by e ≡ None
    → (spare'.entries + aside') + 1 ≤ spare.entries + aside → spare'.bytes ≡ spare.bytes → aside' ≤ 32
    → 3 * length jobs' + spare'.entries ≤ 3 * length jobs + spare.entries
    → KeepsStep log spare aside jobs most rows is_done lines capacity → KeepsStep log' spare' aside' jobs' most rows is_done lines capacity
in-step-job log log' spare spare' aside' jobs' rows is_done lines capacity e is ends answers falls same few names was =
    let room = was.room in
    let bytes = was.bytes in
    let had_lines = was.line_room in
    let stays = guests-append log.events (e ∷ []) rows was.placed in
    rw is (record {
      placed = placed-append log.events (e ∷ []) rows was.placed;
      script = was.script ∙ ap (is_listed 0) (sym (ended-push log.events e ends));
      guests = rw (ended-push log.events e ends) was.guests;
      answered = was.answered ∙ sym (answered-push log.events e answers);
      line_room = omega arith;
      room = rw stays (omega arith);
      bytes = rw stays (omega arith);
      few = few;
      named = let had_names = was.named in omega arith;
    })

-- ---- a guest with a request in flight, by its row

pub record IsFlyingByRow (es : List Event) (row : GuestProgress) (P : Flight → Type 0) : Type 0 where
  pub f : InFlight
  pub flying : row.flight ≡ Some f
  pub placed : IsPlaced es row.done f
  pub sees : (guest_in es row).flight ≡ Some (flight_as f placed.op)
  pub holds : P (flight_as f placed.op)

is-flying : (es : List Event) (row : GuestProgress) (flight : Option InFlight) (P : Flight → Type 0) → row.flight ≡ flight → IsPlacedIn es row.done flight
    → With (option_and_then (flight_in es) flight) P → IsFlyingByRow es row P
is-flying es row None P is placed holds = absurd holds
is-flying es row (Some f) P is placed holds =
    let at = placed.at in
    let sees : flight_in es f ≡ Some (flight_as f placed.op) = rw at refl in
    record {
      f = f;
      flying = is;
      placed = placed;
      sees = ap (option_and_then (flight_in es)) is ∙ sees;
      holds = with-at (flight_in es f) (flight_as f placed.op) P sees holds;
    }

pub flying-row : (es : List Event) (rows : List GuestProgress) (g : ℕ) (row : GuestProgress) (P : Flight → Type 0) → HaveTheirPlaces es rows → slice_get rows g ≡ Some row
    → With (flight_at (guests_in es rows) g) P → IsFlyingByRow es row P
flying-row es rows g row P placed there holds =
    let at = guests-at es rows g row there in
    is-flying es row row.flight P refl (placed-at es rows g row placed there) (subst (λ x. With (option_and_then (λ (y : Guest). y.flight) x) P) at holds)

module _ (log : Recorded) (spare : Room) (rows : List GuestProgress) (is_done : Bool) (lines : List ℕ) (capacity : ℕ) {aside most : ℕ} {jobs : List JobLine} (was : KeepsStep log spare aside jobs most rows is_done lines capacity) (g : ℕ) (row : GuestProgress) (there : slice_get rows g ≡ Some row) where
  -- there is room for what it owes
  pub room-owed : (f : Flight) → (guest_in log.events row).flight ≡ Some f → 0 < log.room
  room-owed f sees =
      let at = owed-at (guests_in log.events rows) g (guest_in log.events row) (guests-at log.events rows g row there) in
      let owes : owed (guest_in log.events row).flight ≡ pieces_of f.op - f.next + 1 = rw sees refl in
      let room = was.room in
      omega arith

  pub bytes-owed : (f : Flight) (n : ℕ) → (guest_in log.events row).flight ≡ Some f → CanShow n f → n ≤ log.byte_room
  bytes-owed f n sees can =
      let at = owed-bytes-at (guests_in log.events rows) g (guest_in log.events row) (guests-at log.events rows g row there) in
      let owes : owed_bytes (guest_in log.events row).flight ≡ read_bytes_of f.op - shown_before f.op f.next = rw sees refl in
      let bytes = was.bytes in
      let shown = can.shown in
      let more = shown_next f.op f.next can.next in
      let within = shown_within f.op (f.next + 1) in
      omega arith

pub same-flight : {flight : Option InFlight} {a b : InFlight} → flight ≡ Some a → flight ≡ Some b → a ≡ b
same-flight x y = cc

-- so it is with the flight that its row names
pub record Flies (es : List Event) (row : GuestProgress) (P : Flight → Type 0) (f : InFlight) : Type 0 where
  pub placed : IsPlaced es row.done f
  pub sees : (guest_in es row).flight ≡ Some (flight_as f placed.op)
  pub holds : P (flight_as f placed.op)

flies-at : (es : List Event) (row : GuestProgress) (P : Flight → Type 0) (f g : InFlight) → f ≡ g → Flies es row P f → Flies es row P g
flies-at es row P f g same flies = subst (Flies es row P) same flies

pub flying-is : (es : List Event) (rows : List GuestProgress) (g : ℕ) (row : GuestProgress) (P : Flight → Type 0) → HaveTheirPlaces es rows → slice_get rows g ≡ Some row
    → With (flight_at (guests_in es rows) g) P → (f : InFlight) → row.flight ≡ Some f → Flies es row P f
flying-is es rows g row P placed there holds f is =
    let found = flying-row es rows g row P placed there holds in
    flies-at es row P found.f f (same-flight found.flying is) (record { placed = found.placed; sees = found.sees; holds = found.holds })

pub next-is : (es : List Event) (rows : List GuestProgress) (g : ℕ) (row : GuestProgress) → slice_get rows g ≡ Some row → (a : Flight) → (guest_in es row).flight ≡ Some a
    → (b : Flight) → flight_at (guests_in es rows) g ≡ Some b → b.next ≡ a.next
next-is es rows g row there a sees b is =
    let at = guests-at es rows g row there in
    let same : Some b ≡ Some a = sym is ∙ ap (option_and_then (λ (y : Guest). y.flight)) at ∙ sees in
    ap (λ (x : Option Flight). next_or x) same
  where
    next_or : Option Flight → ℕ
    next_or None = 0
    next_or (Some x) = x.next

-- ---- the beginning

placed-new : (n : ℕ) → HaveTheirPlaces [] (replicate n new_row)
placed-new zero = tt
placed-new (suc n) = (tt, placed-new n)

marked-new : (n actor : ℕ) → AreMarked [] actor (replicate n new_row)
marked-new zero actor = tt
marked-new (suc n) actor = (refl, marked-new n (actor + 1))

pub guests-new : (n : ℕ) → guests_in [] (replicate n new_row) ≡ replicate n new_guest
guests-new zero = refl
guests-new (suc n) = ap (λ guests. new_guest ∷ guests) (guests-new n)

owed-new : (n : ℕ) → owed_by (replicate n new_guest) ≡ 0
owed-new zero = refl
owed-new (suc n) = let rest = owed-new n in omega arith

owed-bytes-new : (n : ℕ) → owed_bytes_by (replicate n new_guest) ≡ 0
owed-bytes-new zero = refl
owed-bytes-new (suc n) = let rest = owed-bytes-new n in omega arith

pub in-step-new : (n : ℕ) (room : Room) (capacity : ℕ) → room.entries ≤ capacity → (most : ℕ) → room.entries ≤ 3 * most
    → KeepsStep (no_log room) room 0 [] most (replicate n new_row) false [] capacity
in-step-new n room capacity fits most enough =
    let none = owed-new n in
    let no_bytes = owed-bytes-new n in
    record {
      placed = placed-new n;
      script = refl;
      guests = marked-new n 1;
      answered = refl;
      line_room = omega arith;
      room = rw (guests-new n) (omega arith);
      bytes = rw (guests-new n) (omega arith);
      few = omega arith;
      named = omega arith;
    }
