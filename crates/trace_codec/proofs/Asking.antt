-- What a line asks for is a request that a trace can have.
use Rattle.std.proofs.Common.{◌≡◌, ℕ, ◌+◌, ◌*◌, ◌<◌, ◌≤◌, List, [], ◌∷◌, ◌++◌, length, Bool, true, false, cond, Option, Some, None, Result, Ok, Err, eqb, ltb, ltb-true, ltb-false, refl, ap, subst, arith, ⊎_elim}
use Rattle.std.specs.Prelude.{codes, ◌||◌, ◌&&◌, ◌^◌}
use Rattle.std.specs.Char.{digit_value, is_digit}
use Rattle.std.specs.List.{AllByRecursion}
use Rattle.std.specs.Str.{bytes_eq}
use Rattle.std.proofs.lemmas.Bool.{eqb-false, cases_Bool, and_parts, or_parts}
use Rattle.blk_base.specs.Pieces.{Extent}
use Rattle.trace_codec.specs.declared.op.Op.{Op}
use Rattle.trace_codec.specs.declared.op.Op.TheVariants.{Read, Write, Zero, Flush, Discard}
use Rattle.trace_codec.specs.declared.op.Payload.TheVariants.{Fill, Raw}
use Rattle.trace_codec.specs.declared.line.TraceLine.{TraceLine}
use Rattle.trace_codec.specs.declared.line.TraceLine.TheVariants.{Passed, Asks, Bad}
use Rattle.trace_codec.specs.declared.stop.TraceStop.{TraceStop}
use Rattle.trace_codec.specs.declared.stop.TraceStop.TheVariants.{TooMany}
use Rattle.trace_codec.specs.Number.{◌>>=◌, number_of, below}
use Rattle.trace_codec.specs.Hex.{byte_of, bytes_of_digits, payload_of}
use Rattle.trace_codec.specs.Line.{offset_of, length_of, span_in, read_in, fill_in, zero_in, write_in, raw_in, flush_in, discard_in, request_in, words_of, asked, line_of}
use Rattle.trace_codec.specs.Amounts.{Amounts}
use Rattle.trace_codec.specs.Reading.{Reading}
use Rattle.trace_codec.specs.Request.{with_op, passes_total}
use Rattle.trace_codec.specs.Trace.{next_line, after_line, after_lines, lines_of, trace_of}
use Rattle.trace_codec.specs.Trace as trace
use Rattle.trace_codec.specs.Traced.{IsRange, IsRequest}

-- what a value led to, and the value
led : {A B : Type 0} (x : Option A) (f : A → Option B) (b : B) → (x >>= f) ≡ Some b → (a : A) × (x ≡ Some a) × (f a ≡ Some b)
led None f b h = cc
led (Some a) f b h = (a, refl, h)

-- a choice between two
chosen : {A : Type 0} (b : Bool) (x y : Option A) (a : A) (P : Type 0) → (x ≡ Some a → P) → (y ≡ Some a → P) → cond b x y ≡ Some a → P
chosen true x y a P first other h = first h
chosen false x y a P first other h = other h

below_is : (limit n : ℕ) (x : Option ℕ) → below limit x ≡ Some n → n < limit
below_is limit n None h = cc
below_is limit n (Some m) h = ⊎_elim
    (λ t. let same : m ≡ n = cc (rw t at h) in subst (λ (k : ℕ). k < limit) same (ltb-true m limit t))
    (λ f. let no : None ≡ Some n = rw f at h in cc)
    (cases_Bool (ltb m limit))

length_is : (word : List ℕ) (n : ℕ) → length_of word ≡ Some n → (0 < n) × (n ≤ 2097152)
length_is word n h =
    let d = led (below 2097153 (number_of word)) (λ m. cond (eqb m 0) None (Some m)) n h in
    let small = below_is 2097153 d.0 (number_of word) d.1 in
    ⊎_elim
    (λ t. let no : None ≡ Some n = rw t at d.2 in cc)
    (λ f. let same : d.0 ≡ n = cc (rw f at d.2) in (omega (arith, eqb-false d.0 0 f), omega arith))
    (cases_Bool (eqb d.0 0))

span_is : (words : List (List ℕ)) (span : Extent) → span_in words ≡ Some span → IsRange span
span_is [] span h = cc
span_is (offset ∷ []) span h = cc
span_is (offset ∷ n ∷ word ∷ words) span h = cc
span_is (offset ∷ n ∷ []) span h =
    let d = led (offset_of offset) (λ start. length_of n >>= (λ len. Some (record { start = start; len = len }))) span h in
    let e = led (length_of n) (λ len. Some (record { start = d.0; len = len })) span d.2 in
    let made : Extent = record { start = d.0; len = e.0 } in
    let same : made ≡ span = cc e.2 in
    let size = length_is n e.0 e.1 in
    subst IsRange same (record { start = below_is (2 ^ 62) d.0 (number_of offset) d.1; some = size.0; most = size.1 })

-- two digits are below 256
byte_is : (high low byte : ℕ) → byte_of high low ≡ Some byte → byte < 256
byte_is high low byte h = ⊎_elim
    (λ t.
    let both = and_parts (is_digit high 16) (is_digit low 16) t in
    let same : digit_value high * 16 + digit_value low ≡ byte = cc (rw t at h) in
    omega (arith, ltb-true (digit_value high) 16 both.0, ltb-true (digit_value low) 16 both.1))
    (λ f. let no : None ≡ Some byte = rw f at h in cc)
    (cases_Bool (is_digit high 16 && is_digit low 16))

bytes_are : (digits bytes : List ℕ) → bytes_of_digits digits ≡ Some bytes → AllByRecursion (λ byte. byte < 256) bytes
bytes_are [] bytes h = let same : [] ≡ bytes = cc in subst (AllByRecursion (λ byte. byte < 256)) same tt
bytes_are (digit ∷ []) bytes h = cc
bytes_are (high ∷ low ∷ digits) bytes h =
    let d = led (byte_of high low) (λ byte. bytes_of_digits digits >>= (λ rest. Some (byte ∷ rest))) bytes h in
    let e = led (bytes_of_digits digits) (λ rest. Some (d.0 ∷ rest)) bytes d.2 in
    let same : d.0 ∷ e.0 ≡ bytes = cc e.2 in
    subst (AllByRecursion (λ byte. byte < 256)) same (byte_is high low d.0 d.1, bytes_are digits e.0 e.1)

-- a payload has from 1 byte to 2 MiB
record IsBytes (bytes : List ℕ) : Type 0 where
  some : 0 < length bytes
  most : length bytes ≤ 2097152
  small : AllByRecursion (λ byte. byte < 256) bytes

payload_is : (word bytes : List ℕ) → payload_of word ≡ Some bytes → IsBytes bytes
payload_is word bytes h =
    let d = led (bytes_of_digits word) (λ found. cond (eqb (length found) 0 || ltb 2097152 (length found)) None (Some found)) bytes h in
    ⊎_elim
    (λ t. let no : None ≡ Some bytes = rw t at d.2 in cc)
    (λ f.
    let same : d.0 ≡ bytes = cc (rw f at d.2) in
    let parts = or_parts (eqb (length d.0) 0) (ltb 2097152 (length d.0)) f in
    subst IsBytes same (record { some = omega (arith, eqb-false (length d.0) 0 parts.0); most = ltb-false 2097152 (length d.0) parts.1; small = bytes_are word d.0 d.1 }))
    (cases_Bool (eqb (length d.0) 0 || ltb 2097152 (length d.0)))

-- each kind of line
read_is : (words : List (List ℕ)) (op : Op) → read_in words ≡ Some op → IsRequest op
read_is words op h =
    let d = led (span_in words) (λ span. Some (Read span)) op h in
    let same : Read d.0 ≡ op = cc d.2 in
    subst IsRequest same (span_is words d.0 d.1)

zero_is : (words : List (List ℕ)) (op : Op) → zero_in words ≡ Some op → IsRequest op
zero_is words op h =
    let d = led (span_in words) (λ span. Some (Zero span)) op h in
    let same : Zero d.0 ≡ op = cc d.2 in
    subst IsRequest same (span_is words d.0 d.1)

discard_is : (words : List (List ℕ)) (op : Op) → discard_in words ≡ Some op → IsRequest op
discard_is words op h =
    let d = led (span_in words) (λ span. Some (Discard span)) op h in
    let same : Discard d.0 ≡ op = cc d.2 in
    subst IsRequest same (span_is words d.0 d.1)

fill_is : (words : List (List ℕ)) (op : Op) → fill_in words ≡ Some op → IsRequest op
fill_is [] op h = cc
fill_is (byte ∷ words) op h =
    let d = led (below 256 (number_of byte)) (λ value. span_in words >>= (λ span. Some (Write span (Fill value)))) op h in
    let e = led (span_in words) (λ span. Some (Write span (Fill d.0))) op d.2 in
    let same : Write e.0 (Fill d.0) ≡ op = cc e.2 in
    subst IsRequest same (span_is words e.0 e.1, below_is 256 d.0 (number_of byte) d.1)

write_is : (words : List (List ℕ)) (op : Op) → write_in words ≡ Some op → IsRequest op
write_is [] op h = cc
write_is (flag ∷ words) op h =
    chosen (bytes_eq flag (codes "-P")) (fill_in words) (cond (bytes_eq flag (codes "-z")) (zero_in words) None) op (IsRequest op)
    (fill_is words op)
    (chosen (bytes_eq flag (codes "-z")) (zero_in words) None op (IsRequest op) (zero_is words op) (λ never. cc))
    h

raw_is : (words : List (List ℕ)) (op : Op) → raw_in words ≡ Some op → IsRequest op
raw_is [] op h = cc
raw_is (offset ∷ []) op h = cc
raw_is (offset ∷ digits ∷ word ∷ words) op h = cc
raw_is (offset ∷ digits ∷ []) op h =
    let d = led (offset_of offset) (λ start. payload_of digits >>= (λ bytes. Some (Write (record { start = start; len = length bytes }) (Raw bytes)))) op h in
    let e = led (payload_of digits) (λ bytes. Some (Write (record { start = d.0; len = length bytes }) (Raw bytes))) op d.2 in
    let same : Write (record { start = d.0; len = length e.0 }) (Raw e.0) ≡ op = cc e.2 in
    let is = payload_is digits e.0 e.1 in
    subst IsRequest same (record { start = below_is (2 ^ 62) d.0 (number_of offset) d.1; some = is.some; most = is.most }, (refl, is.small))

flush_is : (words : List (List ℕ)) (op : Op) → flush_in words ≡ Some op → IsRequest op
flush_is [] op h = let same : Flush ≡ op = cc in subst IsRequest same tt
flush_is (word ∷ words) op h = cc

request_is : (words : List (List ℕ)) (op : Op) → request_in words ≡ Some op → IsRequest op
request_is [] op h = cc
request_is (name ∷ words) op h =
    let R = IsRequest op in
    chosen (bytes_eq name (codes "read")) _ _ op R (read_is words op)
    (chosen (bytes_eq name (codes "write")) _ _ op R (write_is words op)
    (chosen (bytes_eq name (codes "bytes")) _ _ op R (raw_is words op)
    (chosen (bytes_eq name (codes "flush")) _ _ op R (flush_is words op)
    (chosen (bytes_eq name (codes "discard")) _ _ op R (discard_is words op) (λ never. cc)))))
    h

-- what is asked for was found
asked_is : (found : Option Op) (op : Op) → asked found ≡ Asks op → found ≡ Some op
asked_is None op h = cc
asked_is (Some o) op h = let same : o ≡ op = cc in ap (λ (p : Op). Some p) same

pub line_is : (line : List ℕ) (op : Op) → line_of line ≡ Asks op → IsRequest op
line_is [] op h = cc
line_is (b ∷ bytes) op h = ⊎_elim
    (λ t. let no : Passed ≡ Asks op = rw t at h in cc)
    (λ f. request_is (words_of (b ∷ bytes)) op (asked_is (request_in (words_of (b ∷ bytes))) op (rw f at h)))
    (cases_Bool (eqb b 35))

-- each request that was read is one
each_push : (ops : List Op) (op : Op) → AllByRecursion IsRequest ops → IsRequest op → AllByRecursion IsRequest (ops ++ op ∷ [])
each_push [] op all one = (one, tt)
each_push (o ∷ ops) op all one = (all.0, each_push ops op all.1 one)

each_after : (r next : Reading) (line : List ℕ) (says : TraceLine) → line_of line ≡ says → AllByRecursion IsRequest r.ops → after_line r says ≡ Ok next → AllByRecursion IsRequest next.ops
each_after r next line Passed e all h = let same : next_line r ≡ next = cc in subst (λ (q : Reading). AllByRecursion IsRequest q.ops) same all
each_after r next line Bad e all h = cc
each_after r next line (Asks op) e all h = ⊎_elim
    (λ t. let never : Err (TooMany r.line) ≡ Ok next = rw t at h in cc)
    (λ f.
    let more : Reading = next_line (record r { ops = r.ops ++ op ∷ []; asked = with_op r.asked op }) in
    let same : more ≡ next = cc (rw f at h) in
    subst (λ (q : Reading). AllByRecursion IsRequest q.ops) same (each_push r.ops op all (line_is line op e)))
    (cases_Bool (ltb 65536 (length r.ops + 1) || passes_total (with_op r.asked op)))

each_by : (r s : Reading) (line : List ℕ) (lines : List (List ℕ)) (x : Result Reading TraceStop) → after_line r (line_of line) ≡ x → AllByRecursion IsRequest r.ops →
    ((q : Reading) → AllByRecursion IsRequest q.ops → after_lines q lines ≡ Ok s → AllByRecursion IsRequest s.ops) → trace.◌>>=◌ x (λ q. after_lines q lines) ≡ Ok s → AllByRecursion IsRequest s.ops
each_by r s line lines (Err stop) e all ih h = cc
each_by r s line lines (Ok next) e all ih h = ih next (each_after r next line (line_of line) refl all e) h

each_read : (lines : List (List ℕ)) (r s : Reading) → AllByRecursion IsRequest r.ops → after_lines r lines ≡ Ok s → AllByRecursion IsRequest s.ops
each_read [] r s all h = let same : r ≡ s = cc in subst (λ (q : Reading). AllByRecursion IsRequest q.ops) same all
each_read (line ∷ lines) r s all h = each_by r s line lines (after_line r (line_of line)) refl all (λ q. each_read lines q s) h

pub lines_each : (asked : Amounts) (lines : List (List ℕ)) (s : Reading) → after_lines (record { line = 1; ops = []; asked = asked }) lines ≡ Ok s → AllByRecursion IsRequest s.ops
lines_each asked lines s h = each_read lines (record { line = 1; ops = []; asked = asked }) s tt h
