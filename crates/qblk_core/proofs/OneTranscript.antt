-- With what the guest asks, a transcript is that of at most one history in turn, whatever the images.
use Rattle.std.proofs.Common.{◌≡◌, ℕ, zero, suc, ◌+◌, ◌<◌, ◌≤◌, ◌^◌, Bool, true, false, cond, eqb, List, [], ◌∷◌, ◌++◌, map, length, replicate, refl, sym, ap, subst, ◌∙◌, inl, inr, arith, Option, Some, None, ne_eqb}
use Rattle.std.specs.Prelude.{All, ◌==◌, ◌&&◌, ◌/◌, ◌%◌, not, flat_map, decimal, codes, get_or, slice_get}
use Rattle.std.specs.Fmt.{digit_glyph}
use Rattle.std.specs.List.{list_all, slice_split}
use Rattle.std.proofs.Math.Dec.{ltb}
use Rattle.std.proofs.lemmas.Bool.{cases_lt, lt-ltb, le-ltb, and_parts}
use Rattle.std.proofs.lemmas.Fmt.{decimal_injective}
use Rattle.std.proofs.lemmas.List.{append_cancel_left, length-append, length-replicate}
use Rattle.std.proofs.lemmas.List.Elements.{All-nil, All-cons, All-head, All-tail}
use Rattle.std.proofs.lemmas.List.Splits.{slice_split_at, slice_split_none}
use Rattle.blk_base.specs.Pieces.{Extent, piece_of}
use Rattle.blk_base.specs.declared.fault.Outcome.{Outcome}
use Rattle.blk_base.specs.declared.fault.Outcome.TheVariants.{Good, Torn, Io, NoSpace}
use Rattle.blk_runs.specs.Runs.{Run, run_text, text_of, runs_of, runs_text, bytes_of_runs}
use Rattle.blk_runs.proofs.Longest.{bytes_of-runs_of}
use Rattle.blk_runs.proofs.ReadBack.{no-runs}
use Rattle.trace_codec.specs.declared.op.Op.{Op}
use Rattle.trace_codec.specs.declared.op.Op.TheVariants.{Read, Write, Zero, Flush, Discard}
use Rattle.blk_history.specs.Fold.{With, change}
use Rattle.blk_history.specs.Disk.{piece}
use Rattle.blk_history.specs.Legal.{IsNextIo, CanAdmitIo, IsRefusedIo, IsFlightOver}
use Rattle.blk_history.specs.Machine.{IoState, IoTable, IoGuest, Flight, io_guest_at, node_at, with_io_piece, piece_done, io_admitted, io_finished, io_past_piece, io_after}
use Rattle.blk_history.specs.Owned.{asked_by}
use Rattle.blk_history.specs.Small.{IsSmall}
use Rattle.blk_history.specs.Transcript.{sentence, guest_word, op_words, refused_word, good_words, outcome_words, entry_line, transcript}
use Rattle.blk_history.specs.declared.entry.Refused.{Refused}
use Rattle.blk_history.specs.declared.entry.Refused.TheVariants.{Range, ReadOnly}
use Rattle.blk_history.specs.declared.event.Event.{Event}
use Rattle.blk_history.specs.declared.event.Event.TheVariants.{Admit, Refuse, Piece, Retire, Reply, Reached, Start, Ready, End, Done}
use Rattle.blk_history.proofs.Folds.{with-some, with-at}
use Rattle.blk_history.proofs.Lines.{in_line, in_word, IsLine, IsWord, all-append, words_then, sentence-then, after-verb, first-word, same-word, last-word, decimal-word}
use Rattle.blk_history.proofs.Outcomes.{one-outcome}
use Rattle.blk_history.proofs.Verbs.{event_verb, verb_in, verb-told, line-there}
use Rattle.blk_pieces.specs.Pieces.{shows_in}
use Rattle.qblk_core.specs.Along.{ShowsOf, IsInTurn, FitsUnread, GoesInTurn}
use Rattle.qblk_core.specs.Printed.{PrintsInTurn}
use Rattle.qblk_core.specs.Run.{guest_names}

-- ---- the text of one run

glyph-low : (d : ℕ) → d < 10 → digit_glyph false d ≡ 48 + d
glyph-low d small = let is : ltb d 10 ≡ true = lt-ltb d 10 small in rw is refl

glyph-high : (d : ℕ) → 10 ≤ d → digit_glyph false d ≡ 87 + d
glyph-high d large = let is : ltb d 10 ≡ false = le-ltb d 10 large in rw is refl

same-glyph : (c d : ℕ) → digit_glyph false c ≡ digit_glyph false d → c ≡ d
same-glyph c d same = elim (cases_lt c 10) [
  | inl low ↦ elim (cases_lt d 10) [
    | inl below ↦ omega (arith, glyph-low c low, glyph-low d below)
    | inr above ↦ omega (arith, glyph-low c low, glyph-high d above)
  ]
  | inr high ↦ elim (cases_lt d 10) [
    | inl below ↦ omega (arith, glyph-high c high, glyph-low d below)
    | inr above ↦ omega (arith, glyph-high c high, glyph-high d above)
  ]
]

one-run : (r q : Run) → r.count < 2 ^ 64 → q.count < 2 ^ 64 → run_text r ≡ run_text q → r ≡ q
one-run r q is are same =
    let high = same-glyph (r.byte / 16) (q.byte / 16) (cc same) in
    let low = same-glyph (r.byte % 16) (q.byte % 16) (cc same) in
    let byte : r.byte ≡ q.byte = omega (arith, high, low) in
    let count = decimal_injective r.count q.count is are (cc same) in
    rw (byte, count) refl

both : (a b : Bool) → a ≡ true → b ≡ true → (a && b) ≡ true
both a b h k = rw (h, k) refl

glyph-word : (d : ℕ) → in_word (digit_glyph false d) ≡ true
glyph-word d = elim (cases_lt d 10) [
  | inl low ↦ rw (glyph-low d low) (both (not ((48 + d) == 32)) (in_line (48 + d)) (ap not (ne_eqb (48 + d) 32 (λ e. omega arith))) (ap not (ne_eqb (48 + d) 10 (λ e. omega arith))))
  | inr high ↦ rw (glyph-high d high) (both (not ((87 + d) == 32)) (in_line (87 + d)) (ap not (ne_eqb (87 + d) 32 (λ e. omega arith))) (ap not (ne_eqb (87 + d) 10 (λ e. omega arith))))
]

run-word : (r : Run) → IsWord (run_text r)
run-word r =
    both (in_word (digit_glyph false (r.byte / 16))) (list_all in_word (digit_glyph false (r.byte % 16) ∷ 42 ∷ decimal r.count)) (glyph-word (r.byte / 16))
    (both (in_word (digit_glyph false (r.byte % 16))) (list_all in_word (42 ∷ decimal r.count)) (glyph-word (r.byte % 16)) (decimal-word r.count))

word-line : (xs : List ℕ) → IsWord xs → IsLine xs
word-line [] h = refl
word-line (x ∷ xs) h =
    let parts = and_parts (in_word x) (list_all in_word xs) h in
    both (in_line x) (list_all in_line xs) (and_parts (not (x == 32)) (in_line x) parts.0).1 (word-line xs parts.1)

not-true : (b : Bool) → not b ≡ true → b ≡ false
not-true true e = absurd cc
not-true false e = refl

-- no blank stands in a word
word-whole : (xs : List ℕ) → IsWord xs → All (λ b. eqb b 32 ≡ false) xs
word-whole [] h = All-nil (λ b. eqb b 32 ≡ false)
word-whole (x ∷ xs) h =
    let parts = and_parts (in_word x) (list_all in_word xs) h in
    All-cons (λ b. eqb b 32 ≡ false) x xs (not-true (eqb x 32) (and_parts (not (x == 32)) (in_line x) parts.0).0) (word-whole xs parts.1)

-- ---- the text of some runs

runs-line : (rs : List Run) → IsLine (text_of rs)
runs-line [] = refl
runs-line (r ∷ []) = word-line (run_text r) (run-word r)
runs-line (r ∷ q ∷ rs) = all-append in_line (run_text r) (32 ∷ text_of (q ∷ rs)) (word-line (run_text r) (run-word r)) (runs-line (q ∷ rs))

words-of-runs : (r : Run) (rs : List Run) → slice_split (λ b. b == 32) (text_of (r ∷ rs)) ≡ map run_text (r ∷ rs)
words-of-runs r [] = slice_split_none (λ b. eqb b 32) (run_text r) (word-whole (run_text r) (run-word r))
words-of-runs r (q ∷ rs) =
    slice_split_at (λ b. eqb b 32) (run_text r) 32 (text_of (q ∷ rs)) (word-whole (run_text r) (run-word r)) refl
    ∙ ap (λ ws. run_text r ∷ ws) (words-of-runs q rs)

run-length : (r : Run) (rs : List Run) → length (bytes_of_runs (r ∷ rs)) ≡ r.count + length (bytes_of_runs rs)
run-length r rs = length-append (replicate r.count r.byte) (bytes_of_runs rs) ∙ ap (λ n. n + length (bytes_of_runs rs)) (length-replicate r.count r.byte)

same-words : (rs qs : List Run) → length (bytes_of_runs rs) < 2 ^ 64 → length (bytes_of_runs qs) < 2 ^ 64 → map run_text rs ≡ map run_text qs → rs ≡ qs
same-words [] [] small few same = refl
same-words [] (q ∷ qs) small few same = absurd (let bad : ⊥ = cc same in bad)
same-words (r ∷ rs) [] small few same = absurd (let bad : ⊥ = cc same in bad)
same-words (r ∷ rs) (q ∷ qs) small few same =
    let here = run-length r rs in
    let there = run-length q qs in
    let first : r ≡ q = one-run r q (omega arith) (omega arith) (cc same) in
    let rest : rs ≡ qs = same-words rs qs (omega arith) (omega arith) (cc same) in
    rw (first, rest) refl

same-runs : (rs qs : List Run) → length (bytes_of_runs rs) < 2 ^ 64 → length (bytes_of_runs qs) < 2 ^ 64 → text_of rs ≡ text_of qs → rs ≡ qs
same-runs [] qs small few same = sym (no-runs qs (sym same))
same-runs (r ∷ rs) [] small few same = no-runs (r ∷ rs) same
same-runs (r ∷ rs) (q ∷ qs) small few same =
    same-words (r ∷ rs) (q ∷ qs) small few (sym (words-of-runs r rs) ∙ ap (slice_split (λ b. b == 32)) same ∙ words-of-runs q qs)

same-bytes : (x y : List ℕ) → length x < 2 ^ 64 → length y < 2 ^ 64 → runs_text x ≡ runs_text y → x ≡ y
unfolding runs_text
same-bytes x y small few same =
    let whole = bytes_of-runs_of x in
    let other = bytes_of-runs_of y in
    let runs = same-runs (runs_of x) (runs_of y) (omega (arith, ap length whole, small)) (omega (arith, ap length other, few)) same in
    sym whole ∙ ap bytes_of_runs runs ∙ other

text-line : (x : List ℕ) → IsLine (runs_text x)
unfolding runs_text
text-line x = runs-line (runs_of x)

-- ---- what a piece shows

no-word : (w : List ℕ) (ws : List (List ℕ)) (r q : List ℕ) → words_then [] r ≡ words_then (w ∷ ws) q → ⊥
no-word w ws r q e =
    let same : sentence [] [] ++ r ≡ sentence [] (w ∷ ws) ++ q = sentence-then [] [] r ∙ e ∙ sym (sentence-then [] (w ∷ ws) q) in
    let letters : 10 ≡ 32 = ap (λ (l : List ℕ). get_or l 0 0) same in
    omega (arith, letters)

good-shown : (x y r q : List ℕ) → length x < 2 ^ 64 → length y < 2 ^ 64 → words_then (good_words x) r ≡ words_then (good_words y) q → x ≡ y
good-shown [] [] r q small few e = refl
good-shown [] (b ∷ ys) r q small few e = absurd (no-word (runs_text (b ∷ ys)) [] r q (same-word (codes "ok") [] (runs_text (b ∷ ys) ∷ []) r q e))
good-shown (a ∷ xs) [] r q small few e = absurd (no-word (runs_text (a ∷ xs)) [] q r (sym (same-word (codes "ok") (runs_text (a ∷ xs) ∷ []) [] r q e)))
good-shown (a ∷ xs) (b ∷ ys) r q small few e =
    let words = same-word (codes "ok") (runs_text (a ∷ xs) ∷ []) (runs_text (b ∷ ys) ∷ []) r q e in
    let last = last-word (runs_text (a ∷ xs)) (runs_text (b ∷ ys)) r q (text-line (a ∷ xs)) (text-line (b ∷ ys)) words in
    same-bytes (a ∷ xs) (b ∷ ys) small few last.0

one-shown : (outcome : Outcome) (op : Op) (part : Extent) (x y r q : List ℕ) → shows_in op part.len ≤ 65536 → ShowsOf outcome op part x → ShowsOf outcome op part y
    → words_then (outcome_words outcome x) r ≡ words_then (outcome_words outcome y) q → x ≡ y
one-shown Good op part x y r q within h k e = good-shown x y r q (omega (arith, h, within)) (omega (arith, k, within)) e
one-shown (Torn done dev count) op part x y r q within h k e = h ∙ sym k
one-shown (Io dev count) op part x y r q within h k e = h ∙ sym k
one-shown (NoSpace dev) op part x y r q within h k e = h ∙ sym k

-- a piece shows at most one block
shows-block : (op : Op) (k : ℕ) → shows_in op (piece op k).len ≤ 65536
unfolding piece_of
shows-block (Read span) k = omega arith
shows-block (Write span payload) k = omega arith
shows-block (Zero span) k = omega arith
shows-block Flush k = omega arith
shows-block (Discard span) k = omega arith

-- ---- the one row

the-row : (s : IoState) (row : IoGuest) (g : ℕ) (P : IoGuest → Type 0) → s.table.guests ≡ row ∷ [] → With (io_guest_at s g) P → (g ≡ 0) × P row
the-row s row g P is h = at g (subst (λ (rows : List IoGuest). With (slice_get rows g) P) is h)
  where
    at : (n : ℕ) → With (slice_get (row ∷ []) n) P → (n ≡ 0) × P row
    at zero h = (refl, h)
    at (suc n) h = absurd h

abbrev one-of : ℕ → (IoGuest → IoGuest) → IoGuest → IoGuest
one-of zero f row = f row
one-of (suc n) f row = row

changed : (g : ℕ) (f : IoGuest → IoGuest) (rows : List IoGuest) (row : IoGuest) → rows ≡ row ∷ [] → change g f rows ≡ one-of g f row ∷ []
changed zero f rows row is = ap (change zero f) is
changed (suc n) f rows row is = ap (change (suc n) f) is

abbrev next-row : Event → IoGuest → IoGuest
next-row (Admit g r op) row = one-of g (io_admitted op) row
next-row (Refuse g r op why) row = one-of g io_finished row
next-row (Piece g r k outcome got) row = one-of g (io_past_piece outcome) row
next-row (Retire g r) row = one-of g io_finished row
next-row e row = row

piece-table : (s : IoState) (node : ℕ) (flight : Option Flight) (k : ℕ) (outcome : Outcome) → (with_io_piece node flight k outcome s).table ≡ s.table
piece-table s node None k outcome = refl
piece-table s node (Some f) k outcome = refl

done-table : (s : IoState) (row : Option IoGuest) (k : ℕ) (outcome : Outcome) → (piece_done row k outcome s).table ≡ s.table
done-table s None k outcome = refl
done-table s (Some row) k outcome = piece-table s row.node row.flight k outcome

after-row : (s : IoState) (row : IoGuest) (e : Event) → s.table.guests ≡ row ∷ [] → (io_after s e).table.guests ≡ next-row e row ∷ []
after-row s row (Admit g r op) is = changed g (io_admitted op) s.table.guests row is
after-row s row (Refuse g r op why) is = changed g io_finished s.table.guests row is
after-row s row (Piece g r k outcome got) is =
    changed g (io_past_piece outcome) (piece_done (io_guest_at s g) k outcome s).table.guests row (ap (λ (t : IoTable). t.guests) (done-table s (io_guest_at s g) k outcome) ∙ is)
after-row s row (Retire g r) is = changed g io_finished s.table.guests row is
after-row s row (Reply line given command text) is = is
after-row s row (Reached line what) is = is
after-row s row (Start job) is = is
after-row s row (Ready job) is = is
after-row s row (End job outcome offset) is = is
after-row s row (Done actor) is = is

-- ---- one entry

asked-admit : (n m : ℕ) (op other : Op) (es fs : List Event) → asked_by 0 (Admit 0 n op ∷ es) ≡ asked_by 0 (Admit 0 m other ∷ fs) → op ≡ other
asked-admit n m op other es fs e = let all : op ∷ asked_by 0 es ≡ other ∷ asked_by 0 fs = e in cc all

asked-refuse : (n m : ℕ) (op other : Op) (why cause : Refused) (es fs : List Event) → asked_by 0 (Refuse 0 n op why ∷ es) ≡ asked_by 0 (Refuse 0 m other cause ∷ fs) → op ≡ other
asked-refuse n m op other why cause es fs e = let all : op ∷ asked_by 0 es ≡ other ∷ asked_by 0 fs = e in cc all

rest-by : (b : Bool) (op : Op) (xs ys : List Op) → (cond b (op ∷ xs) xs) ≡ (cond b (op ∷ ys) ys) → xs ≡ ys
rest-by true op xs ys e = cc e
rest-by false op xs ys e = e

asked-rest : (e : Event) (es fs : List Event) → asked_by 0 (e ∷ es) ≡ asked_by 0 (e ∷ fs) → asked_by 0 es ≡ asked_by 0 fs
asked-rest (Admit g r op) es fs h = rest-by (g == 0) op (asked_by 0 es) (asked_by 0 fs) h
asked-rest (Refuse g r op why) es fs h = rest-by (g == 0) op (asked_by 0 es) (asked_by 0 fs) h
asked-rest (Piece g r k outcome got) es fs h = h
asked-rest (Retire g r) es fs h = h
asked-rest (Reply line given command text) es fs h = h
asked-rest (Reached line what) es fs h = h
asked-rest (Start job) es fs h = h
asked-rest (Ready job) es fs h = h
asked-rest (End job outcome offset) es fs h = h
asked-rest (Done actor) es fs h = h

-- behind the same words, the last words are the same
behind : (ws : List (List ℕ)) (w v r q : List ℕ) → words_then (ws ++ w ∷ []) r ≡ words_then (ws ++ v ∷ []) q → words_then (w ∷ []) r ≡ words_then (v ∷ []) q
behind [] w v r q e = e
behind (x ∷ ws) w v r q e = behind ws w v r q (same-word x (ws ++ w ∷ []) (ws ++ v ∷ []) r q e)

cause-word : (why : Refused) → IsWord (refused_word why)
cause-word Range = refl
cause-word ReadOnly = refl

one-cause : (a b : Refused) → refused_word a ≡ refused_word b → a ≡ b
one-cause Range Range e = refl
one-cause ReadOnly ReadOnly e = refl
one-cause Range ReadOnly e = absurd (let letters : 97 ≡ 101 = ap (λ l. get_or l 1 0) e in omega arith)
one-cause ReadOnly Range e = absurd (let letters : 101 ≡ 97 = ap (λ l. get_or l 1 0) e in omega arith)

both-at : {A : Type 0} (o : Option A) (P Q : A → Type 0) → With o P → With o Q → (a : A) × (P a × Q a)
both-at o P Q h k = let a = with-some P o h in (a.0, (a.1.1, with-at Q o a.0 a.1.0 k))

admit-number : (s : IoState) (row : IoGuest) (n : ℕ) (op : Op) → With (node_at s row.node) (λ node. IsNextIo row n × CanAdmitIo op row node) → n ≡ row.done
admit-number s row n op h = (with-some (λ node. IsNextIo row n × CanAdmitIo op row node) (node_at s row.node) h).1.1.0.number

refuse-number : (s : IoState) (row : IoGuest) (n : ℕ) (op : Op) (why : Refused) → With (node_at s row.node) (λ node. IsNextIo row n × IsRefusedIo op row node why) → n ≡ row.done
refuse-number s row n op why h = (with-some (λ node. IsNextIo row n × IsRefusedIo op row node why) (node_at s row.node) h).1.1.0.number

module _ (s t : IoState) (row : IoGuest) (left : s.table.guests ≡ row ∷ []) (right : t.table.guests ≡ row ∷ []) where
  same-refusal : (n : ℕ) (op : Op) (a b : Refused) (r q : List ℕ) → entry_line guest_names (Refuse 0 n op a) ++ r ≡ entry_line guest_names (Refuse 0 n op b) ++ q → a ≡ b
  same-refusal n op a b r q e =
      let front = guest_word guest_names 0 ∷ decimal n ∷ op_words op in
      let words = after-verb (codes "refuse") (front ++ refused_word a ∷ []) (front ++ refused_word b ∷ []) r q e in
      let last = behind front (refused_word a) (refused_word b) r q words in
      one-cause a b (first-word (refused_word a) (refused_word b) [] [] r q (cause-word a) (cause-word b) last).0

  same-piece : (n k : ℕ) (outcome other : Outcome) (got shown : List ℕ) (f : Flight) → IsInTurn f k outcome got → IsInTurn f k other shown → IsSmall (Piece 0 n k outcome got) → IsSmall (Piece 0 n k other shown)
      → (r q : List ℕ) → entry_line guest_names (Piece 0 n k outcome got) ++ r ≡ entry_line guest_names (Piece 0 n k other shown) ++ q → Piece 0 n k outcome got ≡ Piece 0 n k other shown
  same-piece n k outcome other got shown f fa fb sa sb r q e =
      let front = guest_word guest_names 0 ∷ decimal n ∷ decimal k ∷ [] in
      let all = after-verb (codes "piece") (guest_word guest_names 0 ∷ decimal n ∷ decimal k ∷ outcome_words outcome got)
      (guest_word guest_names 0 ∷ decimal n ∷ decimal k ∷ outcome_words other shown) r q e in
      let numbered = same-word (guest_word guest_names 0) (decimal n ∷ decimal k ∷ outcome_words outcome got) (decimal n ∷ decimal k ∷ outcome_words other shown) r q all in
      let placed = same-word (decimal n) (decimal k ∷ outcome_words outcome got) (decimal k ∷ outcome_words other shown) r q numbered in
      let words = same-word (decimal k) (outcome_words outcome got) (outcome_words other shown) r q placed in
      let outcomes : outcome ≡ other = one-outcome outcome other got shown r q sa sb words in
      let told = subst (λ (o : Outcome). ShowsOf o f.op (piece f.op k) shown) (sym outcomes) fb.shown in
      let same-words = subst (λ (o : Outcome). words_then (outcome_words outcome got) r ≡ words_then (outcome_words o shown) q) (sym outcomes) words in
      let bytes : got ≡ shown = one-shown outcome f.op (piece f.op k) got shown r q (shows-block f.op k) fa.shown told same-words in
      rw (outcomes, bytes) refl

  same-entry : (e f : Event) (es fs : List Event) → event_verb e ≡ event_verb f → FitsUnread s e → FitsUnread t f → asked_by 0 (e ∷ es) ≡ asked_by 0 (f ∷ fs) → IsSmall e → IsSmall f
      → (r q : List ℕ) → entry_line guest_names e ++ r ≡ entry_line guest_names f ++ q → e ≡ f
  unfolding event_verb
  same-entry (Admit g n op) (Admit g2 n2 op2) es fs verbs fe ff asked se sf r q e =
      let a = the-row s row g (λ row. With (node_at s row.node) (λ node. IsNextIo row n × CanAdmitIo op row node)) left fe in
      let b = the-row t row g2 (λ row. With (node_at t row.node) (λ node. IsNextIo row n2 × CanAdmitIo op2 row node)) right ff in
      let number : n ≡ n2 = admit-number s row n op a.1 ∙ sym (admit-number t row n2 op2 b.1) in
      let ops : op ≡ op2 = asked-admit n n2 op op2 es fs
      (subst (λ (x : ℕ). asked_by 0 (Admit x n op ∷ es) ≡ asked_by 0 (Admit 0 n2 op2 ∷ fs)) a.0
      (subst (λ (x : ℕ). asked_by 0 (Admit g n op ∷ es) ≡ asked_by 0 (Admit x n2 op2 ∷ fs)) b.0 asked)) in
      rw (a.0, b.0, number, ops) refl
  same-entry (Refuse g n op why) (Refuse g2 n2 op2 why2) es fs verbs fe ff asked se sf r q e =
      let a = the-row s row g (λ row. With (node_at s row.node) (λ node. IsNextIo row n × IsRefusedIo op row node why)) left fe in
      let b = the-row t row g2 (λ row. With (node_at t row.node) (λ node. IsNextIo row n2 × IsRefusedIo op2 row node why2)) right ff in
      let number : n2 ≡ n = refuse-number t row n2 op2 why2 b.1 ∙ sym (refuse-number s row n op why a.1) in
      let ops : op2 ≡ op = sym (asked-refuse n n2 op op2 why why2 es fs
      (subst (λ (x : ℕ). asked_by 0 (Refuse x n op why ∷ es) ≡ asked_by 0 (Refuse 0 n2 op2 why2 ∷ fs)) a.0
      (subst (λ (x : ℕ). asked_by 0 (Refuse g n op why ∷ es) ≡ asked_by 0 (Refuse x n2 op2 why2 ∷ fs)) b.0 asked))) in
      let lines : entry_line guest_names (Refuse 0 n op why) ++ r ≡ entry_line guest_names (Refuse 0 n op why2) ++ q =
      subst (λ (x : ℕ). entry_line guest_names (Refuse x n op why) ++ r ≡ entry_line guest_names (Refuse 0 n op why2) ++ q) a.0
      (subst (λ (x : ℕ). entry_line guest_names (Refuse g n op why) ++ r ≡ entry_line guest_names (Refuse x n op why2) ++ q) b.0
      (subst (λ (x : ℕ). entry_line guest_names (Refuse g n op why) ++ r ≡ entry_line guest_names (Refuse g2 x op why2) ++ q) number
      (subst (λ (x : Op). entry_line guest_names (Refuse g n op why) ++ r ≡ entry_line guest_names (Refuse g2 n2 x why2) ++ q) ops e))) in
      let cause : why ≡ why2 = same-refusal n op why why2 r q lines in
      rw (a.0, b.0, number, ops, cause) refl
  same-entry (Piece g n k outcome got) (Piece g2 n2 k2 outcome2 got2) es fs verbs fe ff asked se sf r q e =
      let a = the-row s row g (λ row. With row.flight (λ f. (n ≡ row.done) × IsInTurn f k outcome got)) left fe in
      let b = the-row t row g2 (λ row. With row.flight (λ f. (n2 ≡ row.done) × IsInTurn f k2 outcome2 got2)) right ff in
      let flight = both-at row.flight (λ f. (n ≡ row.done) × IsInTurn f k outcome got) (λ f. (n2 ≡ row.done) × IsInTurn f k2 outcome2 got2) a.1 b.1 in
      let fa = flight.1.0 in
      let fb = flight.1.1 in
      let number : n2 ≡ n = fb.0 ∙ sym fa.0 in
      let place : k2 ≡ k = fb.1.next ∙ sym fa.1.next in
      let lines : entry_line guest_names (Piece 0 n k outcome got) ++ r ≡ entry_line guest_names (Piece 0 n k outcome2 got2) ++ q =
      subst (λ (x : ℕ). entry_line guest_names (Piece x n k outcome got) ++ r ≡ entry_line guest_names (Piece 0 n k outcome2 got2) ++ q) a.0
      (subst (λ (x : ℕ). entry_line guest_names (Piece g n k outcome got) ++ r ≡ entry_line guest_names (Piece x n k outcome2 got2) ++ q) b.0
      (subst (λ (x : ℕ). entry_line guest_names (Piece g n k outcome got) ++ r ≡ entry_line guest_names (Piece g2 x k outcome2 got2) ++ q) number
      (subst (λ (x : ℕ). entry_line guest_names (Piece g n k outcome got) ++ r ≡ entry_line guest_names (Piece g2 n2 x outcome2 got2) ++ q) place e))) in
      let same = same-piece n k outcome outcome2 got got2 flight.0 fa.1 (subst (λ (x : ℕ). IsInTurn flight.0 x outcome2 got2) place fb.1) se sf r q lines in
      ap (λ (x : ℕ). Piece x n k outcome got) a.0 ∙ same ∙ ap (λ (x : ℕ). Piece 0 x k outcome2 got2) (sym number) ∙ ap (λ (x : ℕ). Piece 0 n2 x outcome2 got2) (sym place)
      ∙ ap (λ (x : ℕ). Piece x n2 k2 outcome2 got2) (sym b.0)
  same-entry (Retire g n) (Retire g2 n2) es fs verbs fe ff asked se sf r q e =
      let a = the-row s row g (λ row. With row.flight (λ f. (n ≡ row.done) × IsFlightOver f)) left fe in
      let b = the-row t row g2 (λ row. With row.flight (λ f. (n2 ≡ row.done) × IsFlightOver f)) right ff in
      let flight = both-at row.flight (λ f. (n ≡ row.done) × IsFlightOver f) (λ f. (n2 ≡ row.done) × IsFlightOver f) a.1 b.1 in
      let number : n ≡ n2 = flight.1.0.0 ∙ sym flight.1.1.0 in
      rw (a.0, b.0, number) refl
  same-entry (Reply line given command text) f es fs verbs fe ff asked se sf r q e = absurd fe
  same-entry (Reached line what) f es fs verbs fe ff asked se sf r q e = absurd fe
  same-entry (Start job) f es fs verbs fe ff asked se sf r q e = absurd fe
  same-entry (Ready job) f es fs verbs fe ff asked se sf r q e = absurd fe
  same-entry (End job outcome offset) f es fs verbs fe ff asked se sf r q e = absurd fe
  same-entry (Done actor) f es fs verbs fe ff asked se sf r q e = absurd fe
  same-entry _ _ es fs verbs fe ff asked se sf r q e = absurd cc

-- ---- histories

all-same : (h k : List Event) (s t : IoState) (row : IoGuest) → s.table.guests ≡ row ∷ [] → t.table.guests ≡ row ∷ [] → GoesInTurn s h → GoesInTurn t k → asked_by 0 h ≡ asked_by 0 k
    → All IsSmall h → All IsSmall k → flat_map (entry_line guest_names) h ≡ flat_map (entry_line guest_names) k → h ≡ k
all-same [] [] s t row left right lh lk asked sh sk e = refl
all-same [] (f ∷ fs) s t row left right lh lk asked sh sk e = absurd (line-there guest_names f (flat_map (entry_line guest_names) fs) e)
all-same (x ∷ es) [] s t row left right lh lk asked sh sk e = absurd (line-there guest_names x (flat_map (entry_line guest_names) es) (sym e))
all-same (x ∷ es) (f ∷ fs) s t row left right lh lk asked sh sk e =
    let r = flat_map (entry_line guest_names) es in
    let q = flat_map (entry_line guest_names) fs in
    let verbs : event_verb x ≡ event_verb f = sym (verb-told guest_names x r) ∙ ap verb_in e ∙ verb-told guest_names f q in
    let same : x ≡ f = same-entry s t row left right x f es fs verbs lh.0 lk.0 asked (All-head IsSmall x es sh) (All-head IsSmall f fs sk) r q e in
    let rest : r ≡ q = append_cancel_left (entry_line guest_names x) r q (e ∙ ap (λ y. entry_line guest_names y ++ q) (sym same)) in
    let asked-on : asked_by 0 es ≡ asked_by 0 fs = asked-rest x es fs (subst (λ y. asked_by 0 (x ∷ es) ≡ asked_by 0 (y ∷ fs)) (sym same) asked) in
    let tails : es ≡ fs =
    all-same es fs (io_after s x) (io_after t x) (next-row x row) (after-row s row x left) (after-row t row x right) lh.1 (subst (λ y. GoesInTurn (io_after t y) fs) (sym same) lk.1) asked-on
    (All-tail IsSmall x es sh) (All-tail IsSmall f fs sk) rest in
    ap (λ y. y ∷ es) same ∙ ap (λ ys. f ∷ ys) tails

pub one-in-turn : (a b : IoState) (row : IoGuest) (ops : List Op) (text : List ℕ) (h k : List Event) → a.table.guests ≡ row ∷ [] → b.table.guests ≡ row ∷ []
    → PrintsInTurn a ops text h → PrintsInTurn b ops text k → h ≡ k
unfolding transcript
one-in-turn a b row ops text h k left right ph pk =
    all-same h k a b row left right ph.in_turn pk.in_turn (ph.asked ∙ sym pk.asked) ph.small pk.small (ph.printed ∙ sym pk.printed)
