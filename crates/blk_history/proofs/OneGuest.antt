-- With what its one guest asked, a transcript is that of at most one history.
use Rattle.std.proofs.Common.{◌≡◌, ℕ, Bool, true, false, List, [], ◌∷◌, ◌++◌, length, refl, sym, ap, subst, ◌∙◌, arith, Option, Some, None}
use Rattle.std.specs.Prelude.{All, ◌==◌, if◌then◌else◌, flat_map, decimal, codes}
use Rattle.std.proofs.lemmas.List.{append_cancel_left}
use Rattle.std.proofs.lemmas.List.Elements.{All-head, All-tail}
use Rattle.blk_base.specs.declared.fault.Outcome.{Outcome}
use Rattle.trace_codec.specs.declared.op.Op.{Op}
use Rattle.blk_history.specs.Fold.{With}
use Rattle.blk_history.specs.Disk.{piece}
use Rattle.blk_history.specs.Legal.{IsNextIo, CanAdmitIo, IsRefusedIo, IsNextPiece, IsFlightOver, Tells, FitsIo, LegalIo}
use Rattle.blk_history.specs.Machine.{IoState, IoTable, IoGuest, Flight, Node, io_guest_at, node_at, disk_in, with_io_piece, piece_done, io_admitted, io_finished, io_past_piece, io_after}
use Rattle.blk_history.specs.Names.{RowNames}
use Rattle.blk_history.specs.Owned.{asked_by}
use Rattle.blk_history.specs.Transcript.{guest_word, outcome_words, entry_line, transcript}
use Rattle.blk_history.specs.declared.entry.Refused.{Refused}
use Rattle.blk_history.specs.declared.entry.Refused.TheVariants.{Range, ReadOnly}
use Rattle.blk_history.specs.declared.event.Event.{Event}
use Rattle.blk_history.specs.declared.event.Event.TheVariants.{Admit, Refuse, Piece, Retire, Reply, Reached, Start, Ready, End, Done}
use Rattle.blk_history.specs.Small.{IsSmall}
use Rattle.blk_history.specs.Alone.{PrintsOneHistory}
use Rattle.blk_history.proofs.Folds.{with-some, with-at, length-change, slice-there}
use Rattle.blk_history.proofs.Lines.{words_then, after-verb, same-word}
use Rattle.blk_history.proofs.Outcomes.{one-outcome, one-told}
use Rattle.blk_history.proofs.Verbs.{event_verb, verb_in, verb-told, line-there}

-- ---- one guest

only-guest : (s : IoState) (g : ℕ) (P : IoGuest → Type 0) → length s.table.guests ≡ 1 → With (io_guest_at s g) P → g ≡ 0
only-guest s g P one h =
    let row = with-some P (io_guest_at s g) h in
    let less = slice-there s.table.guests g row.0 row.1.0 in
    omega arith

-- as many as before
piece-table : (s : IoState) (node : ℕ) (flight : Option Flight) (k : ℕ) (outcome : Outcome) → (with_io_piece node flight k outcome s).table ≡ s.table
piece-table s node None k outcome = refl
piece-table s node (Some f) k outcome = refl

done-table : (s : IoState) (row : Option IoGuest) (k : ℕ) (outcome : Outcome) → (piece_done row k outcome s).table ≡ s.table
done-table s None k outcome = refl
done-table s (Some row) k outcome = piece-table s row.node row.flight k outcome

as-many : (s : IoState) (e : Event) → length (io_after s e).table.guests ≡ length s.table.guests
as-many s (Admit g r op) = length-change g (io_admitted op) s.table.guests
as-many s (Refuse g r op why) = length-change g io_finished s.table.guests
as-many s (Piece g r k outcome got) =
    length-change g (io_past_piece outcome) (piece_done (io_guest_at s g) k outcome s).table.guests
    ∙ ap (λ (t : IoTable). length t.guests) (done-table s (io_guest_at s g) k outcome)
as-many s (Retire g r) = length-change g io_finished s.table.guests
as-many s (Reply line given command text) = refl
as-many s (Reached line what) = refl
as-many s (Start job) = refl
as-many s (Ready job) = refl
as-many s (End job outcome offset) = refl
as-many s (Done actor) = refl

-- ---- what it asks

asked-admit : (g n m : ℕ) (op other : Op) (es fs : List Event) → g ≡ 0 → asked_by 0 (Admit g n op ∷ es) ≡ asked_by 0 (Admit g m other ∷ fs) → op ≡ other
asked-admit g n m op other es fs first e =
    let both : op ∷ asked_by 0 es ≡ other ∷ asked_by 0 fs = subst (λ x. asked_by 0 (Admit x n op ∷ es) ≡ asked_by 0 (Admit x m other ∷ fs)) first e in cc both

asked-refuse : (g n m : ℕ) (op other : Op) (why cause : Refused) (es fs : List Event) → g ≡ 0
    → asked_by 0 (Refuse g n op why ∷ es) ≡ asked_by 0 (Refuse g m other cause ∷ fs) → op ≡ other
asked-refuse g n m op other why cause es fs first e =
    let both : op ∷ asked_by 0 es ≡ other ∷ asked_by 0 fs =
    subst (λ x. asked_by 0 (Refuse x n op why ∷ es) ≡ asked_by 0 (Refuse x m other cause ∷ fs)) first e in
    cc both

-- what is asked behind the same entry
rest-by : (b : Bool) (op : Op) (xs ys : List Op) → (if b then op ∷ xs else xs) ≡ (if b then op ∷ ys else ys) → xs ≡ ys
rest-by true op xs ys e = cc e
rest-by false op xs ys e = e

asked-rest : (e : Event) (es fs : List Event) → asked_by 0 (e ∷ es) ≡ asked_by 0 (e ∷ fs) → asked_by 0 es ≡ asked_by 0 fs
asked-rest (Admit g r op) es fs h = rest-by (g == 0) op (asked_by 0 es) (asked_by 0 fs) h
asked-rest (Refuse g r op why) es fs h = rest-by (g == 0) op (asked_by 0 es) (asked_by 0 fs) h
asked-rest (Piece g r k outcome got) es fs h = h
asked-rest (Retire g r) es fs h = h
asked-rest (Reply line given command text) es fs h = h
asked-rest (Reached line what) es fs h = h
asked-rest (Start job) es fs h = h
asked-rest (Ready job) es fs h = h
asked-rest (End job outcome offset) es fs h = h
asked-rest (Done actor) es fs h = h

one-cause : (op : Op) (row : IoGuest) (node : Node) (a b : Refused) → IsRefusedIo op row node a → IsRefusedIo op row node b → a ≡ b
one-cause op row node Range Range h k = refl
one-cause op row node ReadOnly ReadOnly h k = refl
one-cause op row node Range ReadOnly h k = absurd (let inside = k.0 in omega arith)
one-cause op row node ReadOnly Range h k = absurd (let inside = h.0 in omega arith)

-- ---- one entry

module _ (s : IoState) (names : RowNames) (one : length s.table.guests ≡ 1) where
  abbrev Admits : ℕ → Op → IoGuest → Type 0
  Admits r op row = With (node_at s row.node) (λ node. IsNextIo row r × CanAdmitIo op row node)

  abbrev Refuses : ℕ → Op → Refused → IoGuest → Type 0
  Refuses r op why row = With (node_at s row.node) (λ node. IsNextIo row r × IsRefusedIo op row node why)

  abbrev Makes : ℕ → ℕ → Outcome → List ℕ → IoGuest → Type 0
  Makes r k outcome got row = With row.flight (λ f. (r ≡ row.done) × IsNextPiece f k outcome (disk_in s.disks row.node) got)

  abbrev Retires : ℕ → IoGuest → Type 0
  Retires r row = With row.flight (λ f. (r ≡ row.done) × IsFlightOver f)

  -- both are of the one guest
  same-guest : (g h : ℕ) (P Q : IoGuest → Type 0) → With (io_guest_at s g) P → With (io_guest_at s h) Q → g ≡ h
  same-guest g h P Q a b = only-guest s g P one a ∙ sym (only-guest s h Q one b)

  -- and of its row
  same-row : (g h : ℕ) (P Q : IoGuest → Type 0) → With (io_guest_at s g) P → With (io_guest_at s h) Q → (row : IoGuest) × (P row × Q row)
  same-row g h P Q a b =
      let row = with-some P (io_guest_at s g) a in
      (row.0, (row.1.1, with-at Q (io_guest_at s g) row.0 row.1.0 (subst (λ x. With (io_guest_at s x) Q) (sym (same-guest g h P Q a b)) b)))

  both-at : {A : Type 0} (o : Option A) (P Q : A → Type 0) → With o P → With o Q → (a : A) × ((o ≡ Some a) × (P a × Q a))
  both-at o P Q h k = let a = with-some P o h in (a.0, (a.1.0, (a.1.1, with-at Q o a.0 a.1.0 k)))

  same-entry : (e f : Event) (es fs : List Event) → event_verb e ≡ event_verb f → FitsIo s e → FitsIo s f → asked_by 0 (e ∷ es) ≡ asked_by 0 (f ∷ fs) → IsSmall e → IsSmall f
      → (r q : List ℕ) → entry_line names e ++ r ≡ entry_line names f ++ q → e ≡ f
  unfolding event_verb
  same-entry (Admit g n op) (Admit g2 n2 op2) es fs verbs fe ff asked se sf r q e =
      let same = same-guest g g2 (Admits n op) (Admits n2 op2) fe ff in
      let row = same-row g g2 (Admits n op) (Admits n2 op2) fe ff in
      let node = both-at (node_at s row.0.node) (λ node. IsNextIo row.0 n × CanAdmitIo op row.0 node) (λ node. IsNextIo row.0 n2 × CanAdmitIo op2 row.0 node) row.1.0 row.1.1 in
      let number : n ≡ n2 = node.1.1.0.0.number ∙ sym node.1.1.1.0.number in
      let ops : op ≡ op2 = asked-admit g n n2 op op2 es fs (only-guest s g (Admits n op) one fe)
      (subst (λ x. asked_by 0 (Admit g n op ∷ es) ≡ asked_by 0 (Admit x n2 op2 ∷ fs)) (sym same) asked) in
      cc
  same-entry (Refuse g n op why) (Refuse g2 n2 op2 why2) es fs verbs fe ff asked se sf r q e =
      let same = same-guest g g2 (Refuses n op why) (Refuses n2 op2 why2) fe ff in
      let row = same-row g g2 (Refuses n op why) (Refuses n2 op2 why2) fe ff in
      let node = both-at (node_at s row.0.node) (λ node. IsNextIo row.0 n × IsRefusedIo op row.0 node why) (λ node. IsNextIo row.0 n2 × IsRefusedIo op2 row.0 node why2) row.1.0 row.1.1 in
      let number : n ≡ n2 = node.1.1.0.0.number ∙ sym node.1.1.1.0.number in
      let ops : op ≡ op2 = asked-refuse g n n2 op op2 why why2 es fs (only-guest s g (Refuses n op why) one fe)
      (subst (λ x. asked_by 0 (Refuse g n op why ∷ es) ≡ asked_by 0 (Refuse x n2 op2 why2 ∷ fs)) (sym same) asked) in
      let cause : why ≡ why2 = one-cause op row.0 node.0 why why2 node.1.1.0.1 (subst (λ x. IsRefusedIo x row.0 node.0 why2) (sym ops) node.1.1.1.1) in
      cc
  same-entry (Piece g n k outcome got) (Piece g2 n2 k2 outcome2 got2) es fs verbs fe ff asked se sf r q e =
      let same = same-guest g g2 (Makes n k outcome got) (Makes n2 k2 outcome2 got2) fe ff in
      let row = same-row g g2 (Makes n k outcome got) (Makes n2 k2 outcome2 got2) fe ff in
      let flight = both-at row.0.flight (λ f. (n ≡ row.0.done) × IsNextPiece f k outcome (disk_in s.disks row.0.node) got)
      (λ f. (n2 ≡ row.0.done) × IsNextPiece f k2 outcome2 (disk_in s.disks row.0.node) got2) row.1.0 row.1.1 in
      let fa = flight.1.1.0 in
      let fb = flight.1.1.1 in
      let number : n ≡ n2 = fa.0 ∙ sym fb.0 in
      let place : k ≡ k2 = fa.1.next ∙ sym fb.1.next in
      let words = after-verb (codes "piece") (guest_word names g ∷ decimal n ∷ decimal k ∷ outcome_words outcome got)
      (guest_word names g2 ∷ decimal n2 ∷ decimal k2 ∷ outcome_words outcome2 got2) r q e in
      let of_guest = same-word (guest_word names g) (decimal n ∷ decimal k ∷ outcome_words outcome got) (decimal n2 ∷ decimal k2 ∷ outcome_words outcome2 got2) r q
      (subst (λ x. words_then (guest_word names g ∷ decimal n ∷ decimal k ∷ outcome_words outcome got) r ≡ words_then (guest_word names x ∷ decimal n2 ∷ decimal k2 ∷ outcome_words outcome2 got2) q) (sym same) words) in
      let behind = same-word (decimal n) (decimal k ∷ outcome_words outcome got) (decimal k2 ∷ outcome_words outcome2 got2) r q
      (subst (λ x. words_then (decimal n ∷ decimal k ∷ outcome_words outcome got) r ≡ words_then (decimal x ∷ decimal k2 ∷ outcome_words outcome2 got2) q) (sym number) of_guest) in
      let last = same-word (decimal k) (outcome_words outcome got) (outcome_words outcome2 got2) r q
      (subst (λ x. words_then (decimal k ∷ outcome_words outcome got) r ≡ words_then (decimal x ∷ outcome_words outcome2 got2) q) (sym place) behind) in
      let outcomes : outcome ≡ outcome2 = one-outcome outcome outcome2 got got2 r q se sf last in
      let disk = disk_in s.disks row.0.node in
      let told = subst (λ x. Tells x flight.0.op (piece flight.0.op k) disk got2) (sym outcomes)
      (subst (λ x. Tells outcome2 flight.0.op (piece flight.0.op x) disk got2) (sym place) fb.1.told) in
      let bytes : got ≡ got2 = one-told outcome flight.0.op (piece flight.0.op k) disk got got2 fa.1.told told in
      cc
  same-entry (Retire g n) (Retire g2 n2) es fs verbs fe ff asked se sf r q e =
      let same = same-guest g g2 (Retires n) (Retires n2) fe ff in
      let row = same-row g g2 (Retires n) (Retires n2) fe ff in
      let flight = both-at row.0.flight (λ f. (n ≡ row.0.done) × IsFlightOver f) (λ f. (n2 ≡ row.0.done) × IsFlightOver f) row.1.0 row.1.1 in
      let number : n ≡ n2 = flight.1.1.0.0 ∙ sym flight.1.1.1.0 in
      cc
  same-entry (Reply line given command text) f es fs verbs fe ff asked se sf r q e = absurd fe
  same-entry (Reached line what) f es fs verbs fe ff asked se sf r q e = absurd fe
  same-entry (Start job) f es fs verbs fe ff asked se sf r q e = absurd fe
  same-entry (Ready job) f es fs verbs fe ff asked se sf r q e = absurd fe
  same-entry (End job outcome offset) f es fs verbs fe ff asked se sf r q e = absurd fe
  same-entry (Done actor) f es fs verbs fe ff asked se sf r q e = absurd fe
  same-entry _ _ es fs verbs fe ff asked se sf r q e = absurd cc

-- ---- histories

all-same : (names : RowNames) (h k : List Event) (s : IoState) → length s.table.guests ≡ 1 → LegalIo s h → LegalIo s k → asked_by 0 h ≡ asked_by 0 k → All IsSmall h → All IsSmall k
    → flat_map (entry_line names) h ≡ flat_map (entry_line names) k → h ≡ k
all-same names [] [] s one lh lk asked sh sk e = refl
all-same names [] (f ∷ fs) s one lh lk asked sh sk e = absurd (line-there names f (flat_map (entry_line names) fs) e)
all-same names (x ∷ es) [] s one lh lk asked sh sk e = absurd (line-there names x (flat_map (entry_line names) es) (sym e))
all-same names (x ∷ es) (f ∷ fs) s one lh lk asked sh sk e =
    let r = flat_map (entry_line names) es in
    let q = flat_map (entry_line names) fs in
    let verbs : event_verb x ≡ event_verb f = sym (verb-told names x r) ∙ ap verb_in e ∙ verb-told names f q in
    let same : x ≡ f = same-entry s names one x f es fs verbs lh.0 lk.0 asked (All-head IsSmall x es sh) (All-head IsSmall f fs sk) r q e in
    let rest : r ≡ q = append_cancel_left (entry_line names x) r q (e ∙ ap (λ y. entry_line names y ++ q) (sym same)) in
    let asked-on : asked_by 0 es ≡ asked_by 0 fs = asked-rest x es fs (subst (λ y. asked_by 0 (x ∷ es) ≡ asked_by 0 (y ∷ fs)) (sym same) asked) in
    let tails : es ≡ fs =
    all-same names es fs (io_after s x) (as-many s x ∙ one) lh.1 (subst (λ y. LegalIo (io_after s y) fs) (sym same) lk.1) asked-on
    (All-tail IsSmall x es sh) (All-tail IsSmall f fs sk) rest in
    ap (λ y. y ∷ es) same ∙ ap (λ ys. f ∷ ys) tails

pub one-history : (opening : IoState) (names : RowNames) (ops : List Op) → length opening.table.guests ≡ 1 → PrintsOneHistory opening names ops
unfolding transcript
one-history opening names ops one = λ text h k ph pk.
    all-same names h k opening one ph.legal pk.legal (ph.asked ∙ sym pk.asked) ph.small pk.small (ph.printed ∙ sym pk.printed)
