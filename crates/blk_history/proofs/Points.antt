-- Entries whose bytes stand among those that are kept read the same when more are kept.
use Rattle.std.proofs.Common.{◌≡◌, ℕ, zero, suc, ◌-◌, ◌<◌, ◌≤◌, get_or, sym, subst, Some, List, [], ◌∷◌, ◌++◌, length, map, take, drop, refl, ◌∙◌, ap, arith, length-drop}
use Rattle.std.specs.Prelude.{slice_range, slice_get}
use Rattle.std.proofs.lemmas.List.{drop-append-le, take-append-le}
use Rattle.blk_base.specs.Pieces.{end_of}
use Rattle.blk_history.specs.declared.entry.Entry.{Entry}
use Rattle.blk_history.specs.declared.entry.Entry.TheVariants.{Piece}
use Rattle.blk_history.specs.declared.event.Event.{Event}
use Rattle.blk_history.specs.declared.event.Event.TheVariants as events
use Rattle.blk_history.specs.Line.{At}
use Rattle.blk_history.specs.Recorded.{event_of, PointsWithin, AllPointWithin}

pub points-push : (n : ℕ) (es : List Entry) (e : Entry) → AllPointWithin n es → PointsWithin n e → AllPointWithin n (es ++ e ∷ [])
points-push n [] e all one = (one, tt)
points-push n (x ∷ es) e all one = (all.0, points-push n es e all.1 one)

point-more : (n m : ℕ) (e : Entry) → n ≤ m → PointsWithin n e → PointsWithin m e
point-more n m (Piece g r k outcome got) le h = omega arith
point-more n m e le h = tt

pub points-more : (n m : ℕ) (es : List Entry) → n ≤ m → AllPointWithin n es → AllPointWithin m es
points-more n m [] le all = tt
points-more n m (e ∷ es) le all = (point-more n m e le all.0, points-more n m es le all.1)

-- a part of the front of a list
range-append : (bytes more : List ℕ) (i j : ℕ) → i ≤ j → j ≤ length bytes → slice_range (bytes ++ more) i j ≡ slice_range bytes i j
range-append bytes more i j le within =
    ap (take (j - i)) (drop-append-le i bytes more (omega arith)) ∙ take-append-le (j - i) (drop i bytes) more (omega (arith, length-drop i bytes))

event-append : (bytes more : List ℕ) (e : Entry) → PointsWithin (length bytes) e → event_of (bytes ++ more) e ≡ event_of bytes e
event-append bytes more (Piece g r k outcome got) h = ap (events.Piece g r k outcome) (range-append bytes more got.start (end_of got) (omega arith) h)
event-append bytes more e h = refl

pub events-append : (bytes more : List ℕ) (es : List Entry) → AllPointWithin (length bytes) es → map (event_of (bytes ++ more)) es ≡ map (event_of bytes) es
events-append bytes more [] all = refl
events-append bytes more (e ∷ es) all = let one = event-append bytes more e all.0 in let rest = events-append bytes more es all.1 in cc

-- the entry at a place points where all do
pub points-at : (n : ℕ) (es : List Entry) (at : ℕ) (e : Entry) → AllPointWithin n es → at < length es → e ≡ get_or es at e → PointsWithin n e
points-at n [] at e all below read = absurd (omega arith)
points-at n (x ∷ es) zero e all below read = let P : Entry → Type 0 = PointsWithin n in subst P (sym read) all.0
points-at n (x ∷ es) (suc at) e all below read = points-at n es at e all.1 (omega arith) read

-- what holds of its event
event-at : (bytes : List ℕ) (es : List Entry) (at : ℕ) (e : Entry) → at < length es → e ≡ get_or es at e → slice_get (map (event_of bytes) es) at ≡ Some (event_of bytes e)
event-at bytes [] at e below read = absurd (omega arith)
event-at bytes (x ∷ es) zero e below read = ap (λ (v : Entry). Some (event_of bytes v)) (sym read)
event-at bytes (x ∷ es) (suc at) e below read = event-at bytes es at e (omega arith) read

pub of_event : (P : Event → Type 0) (bytes : List ℕ) (es : List Entry) (at : ℕ) (e : Entry) → at < length es → e ≡ get_or es at e → At (map (event_of bytes) es) at P → P (event_of bytes e)
of_event P bytes es at e below read holds = holds (event_of bytes e) (event-at bytes es at e below read)

pub at_event : (P : Event → Type 0) (bytes : List ℕ) (es : List Entry) (at : ℕ) (e : Entry) → at < length es → e ≡ get_or es at e → P (event_of bytes e) → At (map (event_of bytes) es) at P
at_event P bytes es at e below read holds v is = let same : event_of bytes e ≡ v = cc (event-at bytes es at e below read) in subst P same holds
