-- A trace that was written reads as its requests.
use Rattle.std.proofs.Common.{◌≡◌, ◌+◌, ◌≤◌, List, [], ◌∷◌, ◌++◌, length, false, Result, Ok, Err, eqb, ltb, le-ltb, ltb-false, refl, ap, sym, ◌∙◌, arith, append_assoc, append-nil, length-append}
use Rattle.std.specs.Prelude.{◌||◌, map, flat_map}
use Rattle.std.specs.List.{AllByRecursion}
use Rattle.std.proofs.lemmas.Bool.{or_parts, or_from}
use Rattle.std.proofs.lemmas.List.Elements.{All-from_recursion}
use Rattle.std.proofs.lemmas.List.Splits.{slice_split_at}
use Rattle.trace_codec.specs.declared.op.Op.{Op}
use Rattle.trace_codec.specs.declared.stop.TraceStop.{TraceStop}
use Rattle.trace_codec.specs.Amounts.{Amounts, nothing}
use Rattle.trace_codec.specs.Line.{line_of}
use Rattle.trace_codec.specs.Reading.{Reading}
use Rattle.trace_codec.specs.Request.{with_op, passes_total}
use Rattle.trace_codec.specs.Trace.{◌>>=◌, next_line, after_line, after_lines, lines_of, trace_of, ops_of}
use Rattle.trace_codec.specs.Causes.{with_ops}
use Rattle.trace_codec.specs.Traced.{IsRequest, IsTrace}
use Rattle.trace_codec.specs.Spelling.{line_for, spelling}
use Rattle.trace_codec.proofs.Spelled.{line_read, line_whole}

-- the lines of a trace are those of its requests, and an empty one behind the last line feed
lines_cut : (ops : List Op) → AllByRecursion IsRequest ops → lines_of (flat_map (λ op. line_for op ++ 10 ∷ []) ops) ≡ map line_for ops ++ [] ∷ []
lines_cut [] all = refl
lines_cut (op ∷ ops) all =
    let rest = flat_map (λ o. line_for o ++ 10 ∷ []) ops in
    ap lines_of (append_assoc (line_for op) (10 ∷ []) rest)
    ∙ slice_split_at (λ b. eqb b 10) (line_for op) 10 rest (All-from_recursion (λ c. eqb c 10 ≡ false) (line_for op) (line_whole op all.0)) refl
    ∙ ap (λ lines. line_for op ∷ lines) (lines_cut ops all.1)

-- what is asked only grows
record Grows (old new : Amounts) : Type 0 where
  pieces : old.pieces ≤ new.pieces
  read_bytes : old.read_bytes ≤ new.read_bytes

grows : (asked : Amounts) (ops : List Op) → Grows asked (with_ops asked ops)
grows asked [] = record { pieces = omega arith; read_bytes = omega arith }
grows asked (op ∷ ops) =
    let g = grows (with_op asked op) ops in
    record { pieces = omega (arith, g.pieces); read_bytes = omega (arith, g.read_bytes) }

within : (old new : Amounts) → Grows old new → passes_total new ≡ false → passes_total old ≡ false
within old new g h =
    let parts = or_parts (ltb 1000000 new.pieces) (ltb 268435456 new.read_bytes) h in
    or_from (ltb 1000000 old.pieces) (ltb 268435456 old.read_bytes)
    (le-ltb _ _ (omega (arith, g.pieces, ltb-false 1000000 new.pieces parts.0)))
    (le-ltb _ _ (omega (arith, g.read_bytes, ltb-false 268435456 new.read_bytes parts.1)))

-- line by line
all_read : (ops : List Op) (r : Reading) → AllByRecursion IsRequest ops → length r.ops + length ops ≤ 65536 → passes_total (with_ops r.asked ops) ≡ false →
    (after_lines r (map line_for ops ++ [] ∷ []) >>= (λ s. Ok s.ops)) ≡ Ok (r.ops ++ ops)
all_read [] r all few total = ap (λ (l : List Op). Ok l) (sym (append-nil r.ops))
all_read (op ∷ ops) r all few total =
    let fits : (ltb 65536 (length r.ops + 1) || passes_total (with_op r.asked op)) ≡ false = or_from _ _ (le-ltb _ _ (omega arith)) (within (with_op r.asked op) (with_ops (with_op r.asked op) ops) (grows (with_op r.asked op) ops) total) in
    let next : Reading = next_line (record r { ops = r.ops ++ op ∷ []; asked = with_op r.asked op }) in
    let took : after_line r (line_of (line_for op)) ≡ Ok next = rw (line_read op all.0) (rw fits refl) in
    ap (λ x. x >>= (λ q. after_lines q (map line_for ops ++ [] ∷ [])) >>= (λ s. Ok s.ops)) took
    ∙ all_read ops next all.1 (omega (arith, length-append r.ops (op ∷ []))) total
    ∙ ap (λ (l : List Op). Ok l) (append_assoc r.ops (op ∷ []) ops)

-- of what is found the requests alone
abbrev both : Reading → Result (List Op × Amounts) TraceStop
both r = Ok (r.ops, r.asked)

abbrev first : List Op × Amounts → Result (List Op) TraceStop
first found = Ok found.0

only_ops : (x : Result Reading TraceStop) → ((x >>= both) >>= first) ≡ (x >>= (λ r. Ok r.ops))
only_ops (Ok r) = refl
only_ops (Err stop) = refl

-- the requests of a written trace are those that it was written from
pub reads_back : (ops : List Op) → IsTrace ops → ops_of (spelling ops) ≡ Ok ops
unfolding trace_of spelling
reads_back ops is =
    let parts = or_parts (ltb 65536 (length ops)) (passes_total (with_ops nothing ops)) is.few in
    let start : Reading = record { line = 1; ops = []; asked = nothing } in
    only_ops (after_lines start (lines_of (flat_map (λ op. line_for op ++ 10 ∷ []) ops)))
    ∙ ap (λ lines. after_lines start lines >>= (λ r. Ok r.ops)) (lines_cut ops is.each)
    ∙ all_read ops start is.each (omega (arith, ltb-false 65536 (length ops) parts.0)) parts.1
