-- Where a request in flight stands in the history.
use Rattle.std.proofs.Common.{◌≡◌, ℕ, zero, suc, List, [], ◌∷◌, ◌++◌, length, refl, ap, arith, Option, Some, None}
use Rattle.std.specs.Prelude.{slice_get, option_and_then}
use Rattle.trace_codec.specs.declared.op.Op.{Op}
use Rattle.blk_history.specs.declared.event.Event.{Event}
use Rattle.blk_history.specs.declared.event.Event.TheVariants.{Admit}
use Rattle.blk_history.specs.Line.{admitted_by, request_at}
use Rattle.qblk_core.specs.Face.{guest_on_image, WasAdmitted}
use Rattle.qblk_core.specs.declared.flight.InFlight.{InFlight}

get-push : (es : List Event) (e : Event) (n : ℕ) → n ≡ length es → slice_get (es ++ e ∷ []) n ≡ Some e
get-push [] e zero is = refl
get-push [] e (suc n) is = absurd (omega arith)
get-push (x ∷ es) e zero is = absurd (omega arith)
get-push (x ∷ es) e (suc n) is = get-push es e n (omega arith)

-- the last entry is the request's
pub request-push : (es : List Event) (op : Op) (r n : ℕ) → n ≡ length es → request_at (es ++ Admit 0 r op ∷ []) n ≡ Some op
request-push es op r n is = ap (option_and_then admitted_by) (get-push es (Admit 0 r op) n is)

-- an entry that is there stays where it is
request-append : (es more : List Event) (n : ℕ) (op : Op) → request_at es n ≡ Some op → request_at (es ++ more) n ≡ Some op
request-append [] more n op is = cc is
request-append (x ∷ es) more zero op is = is
request-append (x ∷ es) more (suc n) op is = request-append es more n op is

-- so does the guest's row
pub row-append : (size : ℕ) (es more : List Event) (done : ℕ) (flight : Option InFlight) → WasAdmitted size es flight → guest_on_image (es ++ more) done flight ≡ guest_on_image es done flight
row-append size es more done None was = refl
row-append size es more done (Some f) was =
    let now = request-append es more f.place was.0 was.1 in
    let then = was.1 in
    rw (now, then) refl

pub admitted-append : (size : ℕ) (es more : List Event) (flight : Option InFlight) → WasAdmitted size es flight → WasAdmitted size (es ++ more) flight
admitted-append size es more None was = tt
admitted-append size es more (Some f) was = (was.0, request-append es more f.place was.0 was.1, was.2)
