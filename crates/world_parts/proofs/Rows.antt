-- Rows of guests, and the history that they point into.
use Rattle.std.proofs.Common.{◌≡◌, ℕ, zero, suc, ◌+◌, ◌≤◌, List, [], ◌∷◌, ◌++◌, length, set, refl, sym, ◌∙◌, ap, arith, Option, Some, None}
use Rattle.std.specs.Prelude.{slice_get, option_and_then}
use Rattle.trace_codec.specs.declared.op.Op.{Op}
use Rattle.blk_history.specs.Fold.{change}
use Rattle.blk_history.specs.Line.{admitted_by, request_at}
use Rattle.blk_history.specs.declared.event.Event.{Event}
use Rattle.blk_history.specs.declared.event.Event.TheVariants.{Admit}
use Rattle.flat_machine.specs.State.{Guest}
use Rattle.world_parts.specs.declared.row.InFlight.{InFlight}
use Rattle.world_parts.specs.declared.row.GuestProgress.{GuestProgress}
use Rattle.world_parts.specs.Progress.{flight_in, guest_in, guests_in, IsPlacedIn, HaveTheirPlaces, AreMarked, owed, owed_by, owed_bytes, owed_bytes_by}

-- ---- an entry that is there stays where it is

get-push : (es : List Event) (e : Event) → slice_get (es ++ e ∷ []) (length es) ≡ Some e
get-push [] e = refl
get-push (x ∷ es) e = get-push es e

-- the last entry is the request's
pub request-push : (es : List Event) (g r : ℕ) (op : Op) → request_at (es ++ Admit g r op ∷ []) (length es) ≡ Some op
request-push es g r op = ap (option_and_then admitted_by) (get-push es (Admit g r op))

pub request-append : (es more : List Event) (n : ℕ) (op : Op) → request_at es n ≡ Some op → request_at (es ++ more) n ≡ Some op
request-append [] more n op is = cc is
request-append (x ∷ es) more zero op is = is
request-append (x ∷ es) more (suc n) op is = request-append es more n op is

flight-append : (es more : List Event) (done : ℕ) (flight : Option InFlight) → IsPlacedIn es done flight
    → option_and_then (flight_in (es ++ more)) flight ≡ option_and_then (flight_in es) flight
flight-append es more done None is = refl
flight-append es more done (Some f) is =
    let was = is.at in
    let now = request-append es more f.place is.op is.at in
    rw (now, was) refl

pub guest-append : (es more : List Event) (row : GuestProgress) → IsPlacedIn es row.done row.flight → guest_in (es ++ more) row ≡ guest_in es row
guest-append es more row is =
    let e = flight-append es more row.done row.flight is in
    rw e refl

pub guests-append : (es more : List Event) (rows : List GuestProgress) → HaveTheirPlaces es rows → guests_in (es ++ more) rows ≡ guests_in es rows
guests-append es more [] all = refl
guests-append es more (row ∷ rows) all =
    let head = guest-append es more row all.0 in
    let tail = guests-append es more rows all.1 in
    rw (head, tail) refl

placed-in-append : (es more : List Event) (done : ℕ) (flight : Option InFlight) → IsPlacedIn es done flight → IsPlacedIn (es ++ more) done flight
placed-in-append es more done None is = tt
placed-in-append es more done (Some f) is = record {
  op = is.op;
  at = request-append es more f.place is.op is.at;
  next = is.next;
  pieces = is.pieces;
  numbered = is.numbered;
}

pub placed-append : (es more : List Event) (rows : List GuestProgress) → HaveTheirPlaces es rows → HaveTheirPlaces (es ++ more) rows
placed-append es more [] all = tt
placed-append es more (row ∷ rows) all = (placed-in-append es more row.done row.flight all.0, placed-append es more rows all.1)

-- ---- one guest's row changed

pub placed-put : (es : List Event) (rows : List GuestProgress) (g : ℕ) (row : GuestProgress) → HaveTheirPlaces es rows → IsPlacedIn es row.done row.flight → HaveTheirPlaces es (set rows g row)
placed-put es [] g row all one = tt
placed-put es (r ∷ rows) zero row all one = (one, all.1)
placed-put es (r ∷ rows) (suc g) row all one = (all.0, placed-put es rows g row all.1 one)

pub placed-at : (es : List Event) (rows : List GuestProgress) (g : ℕ) (row : GuestProgress) → HaveTheirPlaces es rows → slice_get rows g ≡ Some row → IsPlacedIn es row.done row.flight
placed-at es [] g row all is = absurd (let bad : ⊥ = cc is in bad)
placed-at es (r ∷ rows) zero row all is = let same : r ≡ row = cc is in rw (← same) all.0
placed-at es (r ∷ rows) (suc g) row all is = placed-at es rows g row all.1 is

pub guests-put : (es : List Event) (rows : List GuestProgress) (g : ℕ) (old row : GuestProgress) (h : Guest → Guest)
    → slice_get rows g ≡ Some old → guest_in es row ≡ h (guest_in es old) → guests_in es (set rows g row) ≡ change g h (guests_in es rows)
guests-put es [] g old row h is to = absurd (let bad : ⊥ = cc is in bad)
guests-put es (r ∷ rows) zero old row h is to =
    let same : r ≡ old = cc is in
    rw (same, to) refl
guests-put es (r ∷ rows) (suc g) old row h is to = ap (λ xs. guest_in es r ∷ xs) (guests-put es rows g old row h is to)

pub guests-at : (es : List Event) (rows : List GuestProgress) (g : ℕ) (row : GuestProgress) → slice_get rows g ≡ Some row → slice_get (guests_in es rows) g ≡ Some (guest_in es row)
guests-at es [] g row is = absurd (let bad : ⊥ = cc is in bad)
guests-at es (r ∷ rows) zero row is = let same : r ≡ row = cc is in rw same refl
guests-at es (r ∷ rows) (suc g) row is = guests-at es rows g row is

pub marked-put : (ended : List ℕ) (actor : ℕ) (rows : List GuestProgress) (g : ℕ) (old row : GuestProgress) → AreMarked ended actor rows → slice_get rows g ≡ Some old
    → row.is_done ≡ old.is_done → AreMarked ended actor (set rows g row)
marked-put ended actor [] g old row all is same = tt
marked-put ended actor (r ∷ rows) zero old row all is same =
    let found : r ≡ old = cc is in
    (same ∙ ap (λ (x : GuestProgress). x.is_done) (sym found) ∙ all.0, all.1)
marked-put ended actor (r ∷ rows) (suc g) old row all is same = (all.0, marked-put ended (actor + 1) rows g old row all.1 is same)

-- ---- what is owed

pub owed-change : (guests : List Guest) (g : ℕ) (row : Guest) (h : Guest → Guest) → slice_get guests g ≡ Some row
    → owed_by (change g h guests) + owed row.flight ≡ owed_by guests + owed (h row).flight
owed-change [] g row h is = absurd (let bad : ⊥ = cc is in bad)
owed-change (x ∷ guests) zero row h is = let same : x ≡ row = cc is in rw same (omega arith)
owed-change (x ∷ guests) (suc g) row h is = let rest = owed-change guests g row h is in omega arith

pub owed-bytes-change : (guests : List Guest) (g : ℕ) (row : Guest) (h : Guest → Guest) → slice_get guests g ≡ Some row
    → owed_bytes_by (change g h guests) + owed_bytes row.flight ≡ owed_bytes_by guests + owed_bytes (h row).flight
owed-bytes-change [] g row h is = absurd (let bad : ⊥ = cc is in bad)
owed-bytes-change (x ∷ guests) zero row h is = let same : x ≡ row = cc is in rw same (omega arith)
owed-bytes-change (x ∷ guests) (suc g) row h is = let rest = owed-bytes-change guests g row h is in omega arith

-- a row that points to the same
pub guests-same : (es : List Event) (rows : List GuestProgress) (g : ℕ) (old row : GuestProgress) → slice_get rows g ≡ Some old → guest_in es row ≡ guest_in es old
    → guests_in es (set rows g row) ≡ guests_in es rows
guests-same es [] g old row there is = refl
guests-same es (r ∷ rows) zero old row there is =
    let same : r ≡ old = cc in
    ap (λ x. x ∷ guests_in es rows) (is ∙ ap (guest_in es) (sym same))
guests-same es (r ∷ rows) (suc g) old row there is = ap (λ xs. guest_in es r ∷ xs) (guests-same es rows g old row there is)

-- what a request in flight owes is part of what all owe
pub owed-at : (guests : List Guest) (g : ℕ) (row : Guest) → slice_get guests g ≡ Some row → owed row.flight ≤ owed_by guests
owed-at [] g row is = absurd (let bad : ⊥ = cc is in bad)
owed-at (x ∷ guests) zero row is = let same : x ≡ row = cc is in rw (← same) (omega arith)
owed-at (x ∷ guests) (suc g) row is = let rest = owed-at guests g row is in omega arith

pub owed-bytes-at : (guests : List Guest) (g : ℕ) (row : Guest) → slice_get guests g ≡ Some row → owed_bytes row.flight ≤ owed_bytes_by guests
owed-bytes-at [] g row is = absurd (let bad : ⊥ = cc is in bad)
owed-bytes-at (x ∷ guests) zero row is = let same : x ≡ row = cc is in rw (← same) (omega arith)
owed-bytes-at (x ∷ guests) (suc g) row is = let rest = owed-bytes-at guests g row is in omega arith
