-- Reading a trace that may wait takes the wishes of its lines, in order.
use Rattle.std.proofs.Common.{◌≡◌, ℕ, ◌+◌, List, [], ◌∷◌, ◌++◌, Bool, true, false, ltb, ◌||◌, Option, Some, None, Result, Ok, Err, refl, ap, sym, ◌∙◌, append_assoc, append-nil, ⊎_elim}
use Rattle.std.specs.List.{filter_map, cons_option}
use Rattle.std.proofs.lemmas.Bool.{cases_Bool}
use Rattle.trace_codec.specs.declared.op.Op.{Op}
use Rattle.trace_codec.specs.declared.line.TraceLine.{TraceLine}
use Rattle.trace_codec.specs.declared.line.TraceLine.TheVariants.{Passed, Asks, Bad}
use Rattle.trace_codec.specs.declared.wish.Wish.{Wish}
use Rattle.trace_codec.specs.declared.wish.Wish.TheVariants.{Ask, Wait}
use Rattle.trace_codec.specs.declared.stop.TraceStop.{TraceStop}
use Rattle.trace_codec.specs.declared.stop.TraceStop.TheVariants.{TooMany}
use Rattle.trace_codec.specs.Amounts.{Amounts}
use Rattle.trace_codec.specs.Awaits.{trace_wait}
use Rattle.trace_codec.specs.Line.{line_of}
use Rattle.trace_codec.specs.Request.{with_op, passes_total}
use Rattle.trace_codec.specs.Trace.{◌>>=◌, lines_of}
use Rattle.trace_codec.specs.Wishes.{Wishing, nothing_read, next_wish_line, after_wish_line, after_wish_lines, wish_by, wish_of, wishes_of}

abbrev wishes_from : List (List ℕ) → List Wish
wishes_from lines = filter_map wish_of lines

-- what is read behind r holds the wishes of these lines behind those of r
abbrev Takes : Wishing → List (List ℕ) → Wishing → Type 0
Takes r lines s = after_wish_lines r lines ≡ Ok s → s.wishes ≡ r.wishes ++ wishes_from lines

-- a line with this wish, or with none
one_more : (r : List Wish) (w : Option Wish) (rest found : List Wish) → found ≡ (r ++ cons_option w []) ++ rest → found ≡ r ++ cons_option w rest
one_more r None rest found h = h ∙ ap (λ xs. xs ++ rest) (append-nil r)
one_more r (Some w) rest found h = h ∙ append_assoc r (w ∷ []) rest

-- the reading with one request more
abbrev with_one : Wishing → Op → Wishing
with_one r op = record r { asks = r.asks + 1; wishes = r.wishes ++ Ask op ∷ []; asked = with_op r.asked op }

abbrev passes_with : Wishing → Op → Bool
passes_with r op = ltb 65536 (r.asks + 1) || passes_total (with_op r.asked op)

by_line : (r s : Wishing) (lines : List (List ℕ)) → ((q : Wishing) → Takes q lines s) → (l : TraceLine) (waits : Option ℕ)
    → (after_wish_line r l waits >>= (λ next. after_wish_lines next lines)) ≡ Ok s
    → s.wishes ≡ r.wishes ++ cons_option (wish_by l waits) (wishes_from lines)
by_line r s lines ih Passed waits h = ih (next_wish_line r) h
by_line r s lines ih Bad None h = cc
by_line r s lines ih Bad (Some line) h =
    one_more r.wishes (Some (Wait line)) (wishes_from lines) s.wishes
    (ih (next_wish_line (record r { wishes = r.wishes ++ Wait line ∷ [] })) h)
by_line r s lines ih (Asks op) waits h = ⊎_elim
    (λ t. let no : Err (TooMany r.line) ≡ Ok s = rw t at h in cc)
    (λ f. one_more r.wishes (Some (Ask op)) (wishes_from lines) s.wishes (ih (next_wish_line (with_one r op)) (rw f at h)))
    (cases_Bool (passes_with r op))

takes : (lines : List (List ℕ)) (r s : Wishing) → Takes r lines s
takes [] r s h = let same : r ≡ s = cc in ap (λ q. q.wishes) (sym same) ∙ sym (append-nil r.wishes)
takes (line ∷ lines) r s h = by_line r s lines (λ q. takes lines q s) (line_of line) (trace_wait line) h

-- a trace that is read gives its wishes
pub read_wishes : (before : Amounts) (text : List ℕ) (r : Wishing) → after_wish_lines (nothing_read before) (lines_of text) ≡ Ok r → r.wishes ≡ wishes_of text
unfolding wishes_of
read_wishes before text r h = takes (lines_of text) (nothing_read before) r h
