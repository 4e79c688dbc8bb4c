-- Reading line by line takes the lines up to the first with a cause.
use Rattle.std.proofs.Common.{◌≡◌, ℕ, ◌+◌, ◌≤◌, min, List, [], ◌∷◌, ◌++◌, length, ◌||◌, ◌⊎◌, inl, inr, IfOk, IfErr, OnOk, Bool, true, false, ltb, Result, Ok, Err, refl, ap, sym, subst, ◌∙◌, arith, append_assoc, append-nil, length-append, ltb-false, le-ltb, ⊎_elim}
use Rattle.std.specs.List.{AllByRecursion, cons_option}
use Rattle.std.proofs.lemmas.Bool.{cases_Bool, or_parts, or_from}
use Rattle.std.proofs.lemmas.List.{length_push}
use Rattle.trace_codec.specs.declared.op.Op.{Op}
use Rattle.trace_codec.specs.declared.line.TraceLine.{TraceLine}
use Rattle.trace_codec.specs.declared.line.TraceLine.TheVariants.{Passed, Asks, Bad}
use Rattle.trace_codec.specs.declared.stop.TraceStop.{TraceStop}
use Rattle.trace_codec.specs.declared.stop.TraceStop.TheVariants.{BadLine, TooMany, NoMemory}
use Rattle.trace_codec.specs.Amounts.{Amounts, nothing}
use Rattle.trace_codec.specs.Line.{line_of}
use Rattle.trace_codec.specs.Reading.{Reading}
use Rattle.trace_codec.specs.Request.{with_op, passes_total}
use Rattle.trace_codec.specs.Trace.{◌>>=◌, next_line, after_line, after_lines, lines_of, trace_of}
use Rattle.trace_codec.specs.Causes.{IsGood, op_in, requests_of, with_ops, are_too_many, AreLinesTaken, IsTaken, IsCause, StopsAt}
use Rattle.trace_codec.specs.Traced.{IsRequest, IsTrace}

-- a reading that may go on
pub record MayGoOn (r : Reading) : Type 0 where
  pub number : r.line ≤ 4294967295
  pub few : length r.ops ≤ 65536
  pub within : passes_total r.asked ≡ false

-- s is read behind r, with these lines in between
pub record Behind (r : Reading) (lines : List (List ℕ)) (s : Reading) : Type 0 where
  pub good : AllByRecursion IsGood lines
  pub line : s.line ≡ min (r.line + length lines) 4294967295
  pub ops : s.ops ≡ r.ops ++ requests_of lines
  pub asked : s.asked ≡ with_ops r.asked (requests_of lines)
  pub few : length s.ops ≤ 65536
  pub within : passes_total s.asked ≡ false

same_reading : (r : Reading) → MayGoOn r → Behind r [] r
same_reading r m = record {
  good = tt;
  line = omega (arith, m.number);
  ops = sym (append-nil r.ops);
  asked = refl;
  few = m.few;
  within = m.within;
}

-- a line that is passed over asks for nothing, and one that asks adds its request
requests_of-passed : (line : List ℕ) (lines : List (List ℕ)) → line_of line ≡ Passed → requests_of (line ∷ lines) ≡ requests_of lines
requests_of-passed line lines e = ap (λ l. cons_option (op_in l) (requests_of lines)) e

requests_of-asks : (line : List ℕ) (lines : List (List ℕ)) (op : Op) → line_of line ≡ Asks op → requests_of (line ∷ lines) ≡ op ∷ requests_of lines
requests_of-asks line lines op e = ap (λ l. cons_option (op_in l) (requests_of lines)) e

more_passed : (r s : Reading) (line : List ℕ) (lines : List (List ℕ)) → line_of line ≡ Passed → Behind (next_line r) lines s → Behind r (line ∷ lines) s
more_passed r s line lines e b = record {
  good = ((λ bad. cc), b.good);
  line = omega (arith, b.line);
  ops = b.ops ∙ ap (λ ops. r.ops ++ ops) (sym (requests_of-passed line lines e));
  asked = b.asked ∙ ap (with_ops r.asked) (sym (requests_of-passed line lines e));
  few = b.few;
  within = b.within;
}

-- the reading with one request more
abbrev added : Reading → Op → Reading
added r op = record r { ops = r.ops ++ op ∷ []; asked = with_op r.asked op }

more_asked : (r s : Reading) (line : List ℕ) (lines : List (List ℕ)) (op : Op) → line_of line ≡ Asks op → Behind (next_line (added r op)) lines s → Behind r (line ∷ lines) s
more_asked r s line lines op e b = record {
  good = ((λ bad. cc), b.good);
  line = omega (arith, b.line);
  ops = b.ops ∙ append_assoc r.ops (op ∷ []) (requests_of lines) ∙ ap (λ ops. r.ops ++ ops) (sym (requests_of-asks line lines op e));
  asked = b.asked ∙ ap (with_ops r.asked) (sym (requests_of-asks line lines op e));
  few = b.few;
  within = b.within;
}

-- too many requests, or too much asked for, with one more
abbrev passes_with : Reading → Op → Bool
passes_with r op = ltb 65536 (length r.ops + 1) || passes_total (with_op r.asked op)

may_add : (r : Reading) (op : Op) → MayGoOn r → passes_with r op ≡ false → MayGoOn (next_line (added r op))
may_add r op m h =
    let parts = or_parts (ltb 65536 (length r.ops + 1)) (passes_total (with_op r.asked op)) h in
    record {
      number = omega arith;
      few = omega (arith, ltb-false 65536 (length r.ops + 1) parts.0, length-append r.ops (op ∷ []));
      within = parts.1;
    }

may_pass : (r : Reading) → MayGoOn r → MayGoOn (next_line r)
may_pass r m = record { number = omega arith; few = m.few; within = m.within }

-- what the lines behind one show of all, by what that line says
abbrev TakesLines : Reading → List (List ℕ) → Reading → Type 0
TakesLines r lines s = MayGoOn r → after_lines r lines ≡ Ok s → Behind r lines s

taken_line : (r s : Reading) (line : List ℕ) (lines : List (List ℕ)) → ((q : Reading) → TakesLines q lines s) → (l : TraceLine) → line_of line ≡ l → MayGoOn r →
    (after_line r l >>= (λ next. after_lines next lines)) ≡ Ok s → Behind r (line ∷ lines) s
taken_line r s line lines ih Passed e m h = more_passed r s line lines e (ih (next_line r) (may_pass r m) h)
taken_line r s line lines ih Bad e m h = cc
taken_line r s line lines ih (Asks op) e m h = ⊎_elim
    (λ t. let no : Err (TooMany r.line) ≡ Ok s = rw t at h in cc)
    (λ f. more_asked r s line lines op e (ih (next_line (added r op)) (may_add r op m f) (rw f at h)))
    (cases_Bool (passes_with r op))

-- lines that are read to their end
pub taken : (lines : List (List ℕ)) (r s : Reading) → TakesLines r lines s
taken [] r s m h = let same : r ≡ s = cc in subst (λ q. Behind r [] q) same (same_reading r m)
taken (line ∷ lines) r s m h = taken_line r s line lines (λ q. taken lines q s) (line_of line) refl m h

-- the line at which reading stops, and the reading before it
pub record Stopped (r : Reading) (lines : List (List ℕ)) (stop : TraceStop) : Type 0 where
  pub front : List (List ℕ)
  pub line : List ℕ
  pub rest : List (List ℕ)
  pub parts : lines ≡ front ++ line ∷ rest
  pub reading : Reading
  pub read : after_lines r front ≡ Ok reading
  pub here : after_line reading (line_of line) ≡ Err stop

stopped_line : (r : Reading) (stop : TraceStop) (line : List ℕ) (lines : List (List ℕ)) → ((q : Reading) → after_lines q lines ≡ Err stop → Stopped q lines stop) →
    (x : Result Reading TraceStop) → after_line r (line_of line) ≡ x → (x >>= (λ next. after_lines next lines)) ≡ Err stop → Stopped r (line ∷ lines) stop
stopped_line r stop line lines ih (Err e) now h =
    record { front = []; line = line; rest = lines; parts = refl; reading = r; read = refl; here = now ∙ h }
stopped_line r stop line lines ih (Ok next) now h =
    let t = ih next h in
    record {
      front = line ∷ t.front;
      line = t.line;
      rest = t.rest;
      parts = ap (λ ls. line ∷ ls) t.parts;
      reading = t.reading;
      read = ap (λ x. x >>= (λ q. after_lines q t.front)) now ∙ t.read;
      here = t.here;
    }

stopped : (lines : List (List ℕ)) (r : Reading) (stop : TraceStop) → after_lines r lines ≡ Err stop → Stopped r lines stop
stopped [] r stop h = cc
stopped (line ∷ lines) r stop h = stopped_line r stop line lines (λ q. stopped lines q stop) (after_line r (line_of line)) refl h

-- before the first line
abbrev pub first_reading : Amounts → Reading
first_reading before = record { line = 1; ops = []; asked = before }

may_start : (before : Amounts) → passes_total before ≡ false → MayGoOn (first_reading before)
may_start before h = record { number = omega arith; few = omega arith; within = h }

taken_few : (before : Amounts) (lines : List (List ℕ)) (s : Reading) → Behind (first_reading before) lines s → AreLinesTaken before lines
taken_few before lines s b = record {
  good = b.good;
  few = or_from (ltb 65536 (length (requests_of lines))) (passes_total (with_ops before (requests_of lines)))
      (le-ltb 65536 (length (requests_of lines)) (rw b.ops at b.few)) (rw b.asked at b.within);
}

with_ops-push : (before : Amounts) (ops : List Op) (op : Op) → with_ops before (ops ++ op ∷ []) ≡ with_op (with_ops before ops) op
with_ops-push before [] op = refl
with_ops-push before (first ∷ ops) op = with_ops-push (with_op before first) ops op

-- one request more is too many behind these lines, as it is behind the reading that took them
too_many_with : (before : Amounts) (front : List (List ℕ)) (s : Reading) (op : Op) → Behind (first_reading before) front s → passes_with s op ≡ true → are_too_many before (requests_of front ++ op ∷ []) ≡ true
too_many_with before front s op b t =
    rw (length_push (requests_of front) op) (rw (with_ops-push before (requests_of front) op) (rw b.asked at (rw b.ops at t)))

cause_at : (before : Amounts) (front : List (List ℕ)) (line : List ℕ) (stop : TraceStop) (s : Reading) → Behind (first_reading before) front s → (l : TraceLine) → line_of line ≡ l → after_line s l ≡ Err stop → IsCause before front line stop
cause_at before front line stop s b Passed e h = cc
cause_at before front line stop s b Bad e h =
    let same : BadLine s.line ≡ stop = cc in
    subst (IsCause before front line) same (omega (arith, b.line), e)
cause_at before front line stop s b (Asks op) e h = ⊎_elim
    (λ t.
    let told : Err (TooMany s.line) ≡ Err stop = rw t at h in
    let same : TooMany s.line ≡ stop = cc in
    subst (IsCause before front line) same (omega (arith, b.line), op, e, too_many_with before front s op b t))
    (λ f. let no : Ok (next_line (added s op)) ≡ Err stop = rw f at h in cc)
    (cases_Bool (passes_with s op))

-- a refusal has its cause at the first line that has one
stops_at : (before : Amounts) (lines : List (List ℕ)) (stop : TraceStop) → passes_total before ≡ false → after_lines (first_reading before) lines ≡ Err stop → StopsAt before lines stop
stops_at before lines stop within h =
    let t = stopped lines (first_reading before) stop h in
    let b = taken t.front (first_reading before) t.reading (may_start before within) t.read in
    record {
      front = t.front;
      line = t.line;
      rest = t.rest;
      parts = t.parts;
      taken = taken_few before t.front t.reading b;
      cause = cause_at before t.front t.line stop t.reading b (line_of t.line) refl t.here;
    }

-- what a trace that is read to its end gives
abbrev found : Reading → Result (List Op × Amounts) TraceStop
found r = Ok (r.ops, r.asked)

refused_by : (before : Amounts) (stop : TraceStop) (x : Result Reading TraceStop) → (x >>= found) ≡ Err stop → x ≡ Err stop
refused_by before stop (Ok r) h = cc
refused_by before stop (Err e) h = let same : e ≡ stop = cc in ap (λ d. Err d) same

pub trace_stops : (before : Amounts) (text : List ℕ) (stop : TraceStop) → passes_total before ≡ false → trace_of before text ≡ Err stop → StopsAt before (lines_of text) stop
unfolding trace_of
trace_stops before text stop within h =
    stops_at before (lines_of text) stop within (refused_by before stop (after_lines (first_reading before) (lines_of text)) h)

taken_by : (before : Amounts) (lines : List (List ℕ)) (ops : List Op) (asked : Amounts) → passes_total before ≡ false → (x : Result Reading TraceStop) → after_lines (first_reading before) lines ≡ x →
    (x >>= found) ≡ Ok (ops, asked) → IsTaken before lines ops asked
taken_by before lines ops asked within (Ok r) now h =
    let b = taken lines (first_reading before) r (may_start before within) now in
    let left : List Op × Amounts = (r.ops, r.asked) in
    let right : List Op × Amounts = (ops, asked) in
    let same : left ≡ right = cc in
    let mine : ops ≡ requests_of lines = ap (λ p. p.0) (sym same) ∙ b.ops in
    record {
      all = taken_few before lines r b;
      requests = mine;
      total = ap (λ p. p.1) (sym same) ∙ b.asked ∙ ap (with_ops before) (sym mine);
    }
taken_by before lines ops asked within (Err e) now h = cc

pub trace_takes : (before : Amounts) (text : List ℕ) (ops : List Op) (asked : Amounts) → passes_total before ≡ false → trace_of before text ≡ Ok (ops, asked) → IsTaken before (lines_of text) ops asked
unfolding trace_of
trace_takes before text ops asked within h = taken_by before (lines_of text) ops asked within (after_lines (first_reading before) (lines_of text)) refl h

-- the same of what reading a first trace answered
pub all_taken : (before : Amounts) (text : List ℕ) (asked : Amounts) (r : Result (List Op) TraceStop) → before ≡ nothing →
    IfOk r (λ ops. trace_of before text ≡ Ok (ops, asked)) → OnOk r (AreLinesTaken nothing (lines_of text))
all_taken before text asked (Ok ops) e h = (trace_takes nothing text ops asked refl (rw e at h)).all
all_taken before text asked (Err stop) e h = tt

pub all_requests : (before : Amounts) (text : List ℕ) (asked : Amounts) (r : Result (List Op) TraceStop) → before ≡ nothing →
    IfOk r (λ ops. trace_of before text ≡ Ok (ops, asked)) → IfOk r (λ ops. ops ≡ requests_of (lines_of text))
all_requests before text asked (Ok ops) e h = (trace_takes nothing text ops asked refl (rw e at h)).requests
all_requests before text asked (Err stop) e h = tt

-- so a trace can ask for them
pub all_askable : (before : Amounts) (text : List ℕ) (asked : Amounts) (r : Result (List Op) TraceStop) → before ≡ nothing →
    IfOk r (λ ops. trace_of before text ≡ Ok (ops, asked)) → IfOk r (AllByRecursion IsRequest) → IfOk r IsTrace
all_askable before text asked (Ok ops) e h each =
    let t = trace_takes nothing text ops asked refl (rw e at h) in
    record { each = each; few = subst (λ (l : List Op). are_too_many nothing l ≡ false) (sym t.requests) t.all.few }
all_askable before text asked (Err stop) e h each = tt

pub first_cause : (before : Amounts) (text : List ℕ) (r : Result (List Op) TraceStop) → before ≡ nothing →
    IfErr r (λ stop. (stop ≡ NoMemory) ⊎ (trace_of before text ≡ Err stop)) → IfErr r (λ stop. (stop ≡ NoMemory) ⊎ StopsAt nothing (lines_of text) stop)
first_cause before text (Ok ops) e h = tt
first_cause before text (Err stop) e h = ⊎_elim (λ n. inl n) (λ t. inr (trace_stops nothing text stop refl (rw e at t))) h
