-- A transcript, with its script and traces, is that of at most one history.
use Rattle.std.proofs.Common.{◌≡◌, ℕ, zero, suc, ◌<◌, Bool, true, false, List, [], ◌∷◌, ◌++◌, length, refl, sym, ap, subst, ◌∙◌, inl, inr, arith, Option, Some, None}
use Rattle.std.specs.Prelude.{All, get_or, flat_map, decimal, codes}
use Rattle.std.proofs.lemmas.Bool.{cases_order}
use Rattle.std.proofs.lemmas.List.{append_cancel_left, get_or_append_left, length-append, length-map}
use Rattle.std.proofs.lemmas.List.Elements.{All-head, All-tail}
use Rattle.trace_codec.specs.declared.op.Op.{Op}
use Rattle.trace_codec.specs.declared.wish.Wish.{Wish}
use Rattle.trace_codec.specs.declared.wish.Wish.TheVariants.{Ask, Wait}
use Rattle.trace_codec.specs.Script.{Order}
use Rattle.trace_codec.specs.declared.awaiting.Await.{Await}
use Rattle.trace_codec.specs.declared.order.Order.TheVariants.{Give, Watch}
use Rattle.qmp_codec.specs.Commands.{Cmd}
use Rattle.qmp_codec.specs.Lines.{command_at, id_at}
use Rattle.qmp_rules.specs.declared.rows.JobRecord.{JobRecord}
use Rattle.qmp_rules.specs.Table.{device_by_number, job_at}
use Rattle.qmp_rules.specs.Answers.{line_text, line_answer, answer_data}
use Rattle.qmp_rules.specs.Queries.{bytes_of_node}
use Rattle.blk_history.specs.Fold.{With}
use Rattle.blk_history.specs.Disk.{piece}
use Rattle.blk_history.specs.Legal.{IsNextPiece, IsFlightOver, Tells}
use Rattle.blk_history.specs.Names.{JobLine, RowNames, no_job}
use Rattle.blk_history.specs.Transcript.{sentence, op_words, refused_word, outcome_words, job_line, actor_word, start_words, ready_words, end_words, entry_line, transcript}
use Rattle.blk_history.specs.declared.entry.Refused.{Refused}
use Rattle.blk_history.specs.declared.entry.Refused.TheVariants.{Range, ReadOnly}
use Rattle.blk_history.specs.declared.event.Event.{Event}
use Rattle.blk_history.specs.declared.event.Event.TheVariants.{Admit, Refuse, Piece, Retire, Reply, Reached, Start, Ready, End, Done}
use Rattle.blk_history.specs.Small.{IsSmall}
use Rattle.blk_history.proofs.Folds.{with-some, with-at, slice-there}
use Rattle.blk_history.proofs.Lines.{IsLine, IsWord, words_then, after-verb, first-word, same-word, last-word, name-word, text-line}
use Rattle.blk_history.proofs.JobLines.{ready-told, end-told}
use Rattle.blk_history.proofs.Outcomes.{one-outcome, one-told}
use Rattle.blk_history.proofs.Verbs.{event_verb, verb_in, verb-told, line-there}
use Rattle.flat_machine.specs.State.{State, Guest, guest_at, disk_of_guest}
use Rattle.flat_machine.specs.Machine.{after}
use Rattle.flat_machine.specs.Replies.{command_read, IsAnswer}
use Rattle.flat_machine.specs.Jobs.{can_be_ready}
use Rattle.flat_machine.specs.Legal.{IsNext, IsRefusedFor, guest_disk, offset_at_end, CanEnd, AllStarted, MayHappen, Fits, Legal}
use Rattle.flat_machine.specs.Courses.{Course, Begins, IsNextOf, IsGiven, IsWatched, IsOwn, onward, KeepsOrder, course_of, rest_of, past_waits}
use Rattle.flat_machine.specs.Opening.{start, new_guest}
use Rattle.flat_machine.specs.Comes.{job_line_of, jobs_from, transcript_of}
use Rattle.flat_machine.specs.Unique.{AreGuests, HaveOneHistory}
use Rattle.flat_machine.specs.declared.opening.Opening.{Opening}
use Rattle.flat_machine.proofs.JobNames.{IsNamedJob, found-has, one-number}
use Rattle.flat_machine.proofs.JobStates.{StateIsNamed, entry_guests, lines_after, entry_named, lines_on}

-- ---- guests

module _ (o : Opening) (guests : AreGuests o.guests) where
  -- a guest that is there
  abbrev IsGuest : ℕ → Type 0
  IsGuest g = g < length o.guests

  abbrev word_of : ℕ → List ℕ
  word_of g = get_or o.guests g []

  guest-word : (g : ℕ) → IsGuest g → IsWord (word_of g)
  guest-word g there = name-word (word_of g) (guests.names g [] there)

  one-guest : (g h : ℕ) → IsGuest g → IsGuest h → word_of g ≡ word_of h → g ≡ h
  one-guest g h there_g there_h e = elim (cases_order g h) [
    | inl same ↦ same
    | inr differs ↦ elim differs [
      | inl less ↦ absurd (guests.differ g h [] less there_h e)
      | inr more ↦ absurd (guests.differ h g [] more there_g (sym e))
    ]
  ]

  -- the same guest, where its word comes first
  same-guest : (g h : ℕ) (ws vs : List (List ℕ)) (r q : List ℕ) → IsGuest g → IsGuest h
      → words_then (word_of g ∷ ws) r ≡ words_then (word_of h ∷ vs) q → (g ≡ h) × (words_then ws r ≡ words_then vs q)
  same-guest g h ws vs r q there_g there_h e =
      let first = first-word (word_of g) (word_of h) ws vs r q (guest-word g there_g) (guest-word h there_h) e in
      (one-guest g h there_g there_h first.0, first.1)

  actor-word : ℕ → List ℕ
  actor-word zero = codes "script"
  actor-word (suc g) = word_of g

-- ---- requests

begins-same : (op other : Op) (wishes : List Wish) → Begins op wishes → Begins other wishes → op ≡ other
begins-same op other [] h k = absurd h
begins-same op other (Ask asked ∷ wishes) h k = sym h ∙ k
begins-same op other (Wait line ∷ wishes) h k = absurd h

next-op : (c : Course) (g : ℕ) (op other : Op) → IsNextOf c g op → IsNextOf c g other → op ≡ other
next-op c g op other h k = by_rest (rest_of c g) h k
  where
    by_rest : (rest : Option (List Wish)) → With rest (λ wishes. Begins op (past_waits c.answered wishes))
        → With rest (λ wishes. Begins other (past_waits c.answered wishes)) → op ≡ other
    by_rest None h k = absurd h
    by_rest (Some wishes) h k = begins-same op other (past_waits c.answered wishes) h k

next-number : (row : Option Guest) (r q : ℕ) → With row (λ x. IsNext x r) → With row (λ x. IsNext x q) → r ≡ q
next-number None r q h k = absurd h
next-number (Some row) r q h k = h.number ∙ sym k.number

one-cause : (op : Op) (read_only : Bool) (size : ℕ) (a b : Refused) → IsRefusedFor op read_only size a → IsRefusedFor op read_only size b → a ≡ b
one-cause op read_only size Range Range h k = refl
one-cause op read_only size ReadOnly ReadOnly h k = refl
one-cause op read_only size Range ReadOnly h k = absurd (let inside = k.0 in omega arith)
one-cause op read_only size ReadOnly Range h k = absurd (let inside = h.0 in omega arith)

judged-same : {A B : Type 0} (device : Option A) (node : Option B) (P Q : A → B → Type 0) (R : Type 0) → ((a : A) (b : B) → P a b → Q a b → R)
    → With device (λ a. With node (λ b. P a b)) → With device (λ a. With node (λ b. Q a b)) → R
judged-same None below P Q R f h k = absurd h
judged-same (Some a) None P Q R f h k = absurd h
judged-same (Some a) (Some b) P Q R f h k = f a b h k

-- ---- the guests of a state

guest-there : (s : State) (g : ℕ) (P : Guest → Type 0) → With (guest_at s g) P → g < length s.guests
guest-there s g P h = let row = with-some P (guest_at s g) h in slice-there s.guests g row.0 row.1.0

-- ---- the script

one-given : (orders : List Order) (m n : ℕ) (a b : List ℕ) → IsGiven m a orders → IsGiven n b orders → (m ≡ n) × (a ≡ b)
one-given [] m n a b h k = absurd h
one-given (Give line text ∷ orders) m n a b h k = (sym h.0 ∙ k.0, sym h.1 ∙ k.1)
one-given (Watch line what ∷ orders) m n a b h k = absurd h

one-watched : (orders : List Order) (m n : ℕ) (a b : Await (List ℕ)) → IsWatched m a orders → IsWatched n b orders → (m ≡ n) × (a ≡ b)
one-watched [] m n a b h k = absurd h
one-watched (Give line text ∷ orders) m n a b h k = absurd h
one-watched (Watch line what ∷ orders) m n a b h k = (sym h.0 ∙ k.0, sym h.1 ∙ k.1)

answer-line : (s : State) (given : List ℕ) (command : Option Cmd) (text : List ℕ) → IsAnswer s given command text → IsLine text
unfolding line_text
answer-line s given command text a =
    subst IsLine (sym a.answered) (text-line (answer_data (id_at given) (line_answer s.table a.told given).reply))

-- ---- one entry

abbrev names_with : Opening → List JobLine → RowNames
names_with o lines = record { guests = o.guests; jobs = lines }

module _ (o : Opening) (guests : AreGuests o.guests) (s : State) (c : Course) (as_many : length s.guests ≡ length o.guests)
    (lines : List JobLine) (named : StateIsNamed lines s) where
  abbrev names : RowNames
  names = names_with o lines

  is-guest : (g : ℕ) (P : Guest → Type 0) → With (guest_at s g) P → g < length o.guests
  is-guest g P h = let less = guest-there s g P h in omega arith

  done-same : (a b : ℕ) (r q : List ℕ) → MayHappen s (Done a) → MayHappen s (Done b)
      → words_then (actor-word o guests a ∷ []) r ≡ words_then (actor-word o guests b ∷ []) q → a ≡ b
  unfolding actor-word
  done-same zero zero r q h k e = refl
  done-same zero (suc g) r q h k e =
      let there = is-guest g (λ row. row.flight ≡ None) k.1 in
      let first = first-word (codes "script") (word_of o guests g) [] [] r q refl (guest-word o guests g there) e in
      absurd (guests.others g [] there (sym first.0))
  done-same (suc g) zero r q h k e =
      let there = is-guest g (λ row. row.flight ≡ None) h.1 in
      let first = first-word (word_of o guests g) (codes "script") [] [] r q (guest-word o guests g there) refl e in
      absurd (guests.others g [] there first.0)
  done-same (suc g) (suc i) r q h k e =
      ap suc (same-guest o guests g i [] [] r q (is-guest g (λ row. row.flight ≡ None) h.1) (is-guest i (λ row. row.flight ≡ None) k.1) e).0

  -- the line of a job that has begun has the id of its row, which is a word
  line-id : (job : ℕ) (row : JobRecord) → job_at s.table job ≡ Some row → AllStarted s
      → ((job_line names job).id ≡ row.id) × IsWord (job_line names job).id
  line-id job row at_job all =
      let has = found-has (IsNamedJob lines s.table.started) s.table.jobs job row named.jobs.rows at_job in
      let early = has.0.early in
      let many = named.many in
      let within : row.number < length lines = omega (arith, all) in
      let id = subst (λ n. (get_or lines n no_job).id ≡ row.id) has.1 (has.0.told within) in
      (id, subst IsWord (sym id) has.0.word)

  -- an id is that of one job
  same-job : (job other : ℕ) (a b : JobRecord) → job_at s.table job ≡ Some a → job_at s.table other ≡ Some b → AllStarted s
      → (job_line names job).id ≡ (job_line names other).id → job ≡ other
  same-job job other a b at_a at_b all e =
      one-number (IsNamedJob lines s.table.started) s.table.jobs job other a b named.jobs.rows at_a at_b
      (sym (line-id job a at_a all).0 ∙ e ∙ (line-id other b at_b all).0)

  same-entry : (e f : Event) → event_verb e ≡ event_verb f → Fits s e → Fits s f → IsOwn c e → IsOwn c f → IsSmall e → IsSmall f
      → (r q : List ℕ) → entry_line (names_with o (lines_after lines s e)) e ++ r ≡ entry_line (names_with o (lines_after lines s f)) f ++ q → e ≡ f
  unfolding event_verb actor-word
  same-entry (Start job) (Start job2) verbs fe ff oe of se sf r q e = ap Start (fe.0.0 ∙ sym ff.0.0)
  same-entry (Ready job) (Ready job2) verbs fe ff oe of se sf r q e =
      let a = with-some (λ row. (can_be_ready row row.kind ≡ true) × (row.is_ready ≡ false)) (job_at s.table job) fe.1 in
      let b = with-some (λ row. (can_be_ready row row.kind ≡ true) × (row.is_ready ≡ false)) (job_at s.table job2) ff.1 in
      let all = fe.0.started in
      ap Ready (same-job job job2 a.0 b.0 a.1.0 b.1.0 all
      (ready-told (job_line names job) (job_line names job2) r q (line-id job a.0 a.1.0 all).1 (line-id job2 b.0 b.1.0 all).1 e))
  same-entry (End job outcome offset) (End job2 outcome2 offset2) verbs fe ff oe of se sf r q e =
      let a = with-some (CanEnd s outcome offset) (job_at s.table job) fe.1 in
      let b = with-some (CanEnd s outcome2 offset2) (job_at s.table job2) ff.1 in
      let all = fe.0.0 in
      let told = end-told (job_line names job) (job_line names job2) outcome outcome2 offset offset2 r q
      (line-id job a.0 a.1.0 all).1 (line-id job2 b.0 b.1.0 all).1 se sf e in
      let jobs : job ≡ job2 = same-job job job2 a.0 b.0 a.1.0 b.1.0 all told.0 in
      let outcomes : outcome ≡ outcome2 = told.1 in
      let k = with-at (CanEnd s outcome2 offset2) (job_at s.table job) a.0 a.1.0
      (subst (λ n. With (job_at s.table n) (CanEnd s outcome2 offset2)) (sym jobs) ff.1) in
      let offsets : offset ≡ offset2 = a.1.1.progress ∙ ap (offset_at_end s a.0) outcomes ∙ sym k.progress in
      rw (jobs, outcomes, offsets) refl
  same-entry (Admit g n op) (Admit g2 n2 op2) verbs fe ff oe of se sf r q e =
      let words = after-verb (codes "admit") (word_of o guests g ∷ decimal n ∷ op_words op) (word_of o guests g2 ∷ decimal n2 ∷ op_words op2) r q e in
      let w = same-guest o guests g g2 (decimal n ∷ op_words op) (decimal n2 ∷ op_words op2) r q
      (is-guest g (λ row. IsNext row n) fe.1.1) (is-guest g2 (λ row. IsNext row n2) ff.1.1) words in
      let number = next-number (guest_at s g) n n2 fe.1.1 (subst (λ x. With (guest_at s x) (λ row. IsNext row n2)) (sym w.0) ff.1.1) in
      let asked = next-op c g op op2 oe (subst (λ x. IsNextOf c x op2) (sym w.0) of) in
      let same = w.0 in
      cc
  same-entry (Refuse g n op why) (Refuse g2 n2 op2 why2) verbs fe ff oe of se sf r q e =
      let words = after-verb (codes "refuse") ((word_of o guests g ∷ decimal n ∷ op_words op) ++ refused_word why ∷ [])
      ((word_of o guests g2 ∷ decimal n2 ∷ op_words op2) ++ refused_word why2 ∷ []) r q e in
      let w = same-guest o guests g g2 ((decimal n ∷ op_words op) ++ refused_word why ∷ []) ((decimal n2 ∷ op_words op2) ++ refused_word why2 ∷ []) r q
      (is-guest g (λ row. IsNext row n) fe.1.1) (is-guest g2 (λ row. IsNext row n2) ff.1.1) words in
      let number = next-number (guest_at s g) n n2 fe.1.1 (subst (λ x. With (guest_at s x) (λ row. IsNext row n2)) (sym w.0) ff.1.1) in
      let asked : op ≡ op2 = next-op c g op op2 oe (subst (λ x. IsNextOf c x op2) (sym w.0) of) in
      let moved = subst (λ x. With (device_by_number s.table x) (λ device. With (disk_of_guest s.table x) (λ node. IsRefusedFor op2 device.read_only (bytes_of_node s.table node) why2)))
      (sym w.0) ff.1.2 in
      let moved_op = subst (λ p. With (device_by_number s.table g) (λ device. With (disk_of_guest s.table g) (λ node. IsRefusedFor p device.read_only (bytes_of_node s.table node) why2)))
      (sym asked) moved in
      let cause : why ≡ why2 = judged-same (device_by_number s.table g) (disk_of_guest s.table g)
      (λ device node. IsRefusedFor op device.read_only (bytes_of_node s.table node) why)
      (λ device node. IsRefusedFor op device.read_only (bytes_of_node s.table node) why2) (why ≡ why2)
      (λ device node h k. one-cause op device.read_only (bytes_of_node s.table node) why why2 h k) fe.1.2 moved_op in
      let same = w.0 in
      cc
  same-entry (Piece g n k outcome got) (Piece g2 n2 k2 outcome2 got2) verbs fe ff oe of se sf r q e =
      let words = after-verb (codes "piece") (word_of o guests g ∷ decimal n ∷ decimal k ∷ outcome_words outcome got)
      (word_of o guests g2 ∷ decimal n2 ∷ decimal k2 ∷ outcome_words outcome2 got2) r q e in
      let w = same-guest o guests g g2 (decimal n ∷ decimal k ∷ outcome_words outcome got) (decimal n2 ∷ decimal k2 ∷ outcome_words outcome2 got2) r q
      (is-guest g (λ row. (n ≡ row.done) × With row.flight (λ f. IsNextPiece f k outcome (guest_disk s g) got)) fe.1)
      (is-guest g2 (λ row. (n2 ≡ row.done) × With row.flight (λ f. IsNextPiece f k2 outcome2 (guest_disk s g2) got2)) ff.1) words in
      let a = with-some (λ row. (n ≡ row.done) × With row.flight (λ f. IsNextPiece f k outcome (guest_disk s g) got)) (guest_at s g) fe.1 in
      let b = with-at (λ row. (n2 ≡ row.done) × With row.flight (λ f. IsNextPiece f k2 outcome2 (guest_disk s g) got2)) (guest_at s g) a.0 a.1.0
      (subst (λ x. With (guest_at s x) (λ row. (n2 ≡ row.done) × With row.flight (λ f. IsNextPiece f k2 outcome2 (guest_disk s x) got2))) (sym w.0) ff.1) in
      let fa = with-some (λ f. IsNextPiece f k outcome (guest_disk s g) got) a.0.flight a.1.1.1 in
      let fb = with-at (λ f. IsNextPiece f k2 outcome2 (guest_disk s g) got2) a.0.flight fa.0 fa.1.0 b.1 in
      let number : n ≡ n2 = a.1.1.0 ∙ sym b.0 in
      let place : k ≡ k2 = fa.1.1.next ∙ sym fb.next in
      let behind = same-word (decimal n) (decimal k ∷ outcome_words outcome got) (decimal k2 ∷ outcome_words outcome2 got2) r q
      (subst (λ x. words_then (decimal n ∷ decimal k ∷ outcome_words outcome got) r ≡ words_then (decimal x ∷ decimal k2 ∷ outcome_words outcome2 got2) q) (sym number) w.1) in
      let last = same-word (decimal k) (outcome_words outcome got) (outcome_words outcome2 got2) r q
      (subst (λ x. words_then (decimal k ∷ outcome_words outcome got) r ≡ words_then (decimal x ∷ outcome_words outcome2 got2) q) (sym place) behind) in
      let outcomes : outcome ≡ outcome2 = one-outcome outcome outcome2 got got2 r q se sf last in
      let told = subst (λ x. Tells x fa.0.op (piece fa.0.op k) (guest_disk s g) got2) (sym outcomes)
      (subst (λ x. Tells outcome2 fa.0.op (piece fa.0.op x) (guest_disk s g) got2) (sym place) fb.told) in
      let bytes : got ≡ got2 = one-told outcome fa.0.op (piece fa.0.op k) (guest_disk s g) got got2 fa.1.1.told told in
      let same = w.0 in
      cc
  same-entry (Retire g n) (Retire g2 n2) verbs fe ff oe of se sf r q e =
      let words = after-verb (codes "retire") (word_of o guests g ∷ decimal n ∷ []) (word_of o guests g2 ∷ decimal n2 ∷ []) r q e in
      let w = same-guest o guests g g2 (decimal n ∷ []) (decimal n2 ∷ []) r q
      (is-guest g (λ row. (n ≡ row.done) × With row.flight IsFlightOver) fe.1) (is-guest g2 (λ row. (n2 ≡ row.done) × With row.flight IsFlightOver) ff.1) words in
      let a = with-some (λ row. (n ≡ row.done) × With row.flight IsFlightOver) (guest_at s g) fe.1 in
      let b = with-at (λ row. (n2 ≡ row.done) × With row.flight IsFlightOver) (guest_at s g) a.0 a.1.0
      (subst (λ x. With (guest_at s x) (λ row. (n2 ≡ row.done) × With row.flight IsFlightOver)) (sym w.0) ff.1) in
      let number : n ≡ n2 = a.1.1.0 ∙ sym b.0 in
      let same = w.0 in
      cc
  same-entry (Reply line given command text) (Reply line2 given2 command2 text2) verbs fe ff oe of se sf r q e =
      let words = after-verb (codes "reply") (decimal line ∷ text ∷ []) (decimal line2 ∷ text2 ∷ []) r q e in
      let given_same = one-given c.script line line2 given given2 oe of in
      let behind = same-word (decimal line) (text ∷ []) (text2 ∷ []) r q
      (subst (λ x. words_then (decimal line ∷ text ∷ []) r ≡ words_then (decimal x ∷ text2 ∷ []) q) (sym given_same.0) words) in
      let texts = last-word text text2 r q (answer-line s given command text fe.1.1) (answer-line s given2 command2 text2 ff.1.1) behind in
      let commands : command ≡ command2 = fe.1.1.understood ∙ ap (λ x. command_read (command_at x)) given_same.1 ∙ sym ff.1.1.understood in
      let lines = given_same.0 in
      let asked = given_same.1 in
      let told = texts.0 in
      cc
  same-entry (Reached line what) (Reached line2 what2) verbs fe ff oe of se sf r q e =
      let watched = one-watched c.script line line2 what what2 oe of in
      let lines = watched.0 in
      let whats = watched.1 in
      cc
  same-entry (Done a) (Done b) verbs fe ff oe of se sf r q e =
      ap Done (done-same a b r q fe.1 ff.1 (actor-words a b (after-verb (codes "done") (actor_word names a ∷ []) (actor_word names b ∷ []) r q e)))
    where
      actor-is : (x : ℕ) → actor_word names x ≡ actor-word o guests x
      actor-is zero = refl
      actor-is (suc g) = refl

      actor-words : (x y : ℕ) → words_then (actor_word names x ∷ []) r ≡ words_then (actor_word names y ∷ []) q
          → words_then (actor-word o guests x ∷ []) r ≡ words_then (actor-word o guests y ∷ []) q
      actor-words x y h =
          sym (ap (λ w. words_then (w ∷ []) r) (actor-is x)) ∙ h ∙ ap (λ w. words_then (w ∷ []) q) (actor-is y)
  same-entry _ _ verbs fe ff oe of se sf r q e = absurd cc

-- ---- histories

-- of the lines of jobs an entry shows none that begins behind it
line-as : (o : Opening) (s : State) (lines more : List JobLine) (e : Event) → StateIsNamed lines s → Fits s e
    → entry_line (names_with o (lines_after lines s e ++ more)) e ≡ entry_line (names_with o (lines_after lines s e)) e
line-as o s lines more e named fits = by_entry e fits
  where
    early : (job : ℕ) (row : JobRecord) → job_at s.table job ≡ Some row → AllStarted s → job < length lines
    early job row at_job all =
        let has = found-has (IsNamedJob lines s.table.started) s.table.jobs job row named.jobs.rows at_job in
        let below = has.0.early in
        let number = has.1 in
        let many = named.many in
        omega (arith, all)

    started : (job : ℕ) (rest : List JobLine) → job < length rest → job_line (names_with o (rest ++ more)) job ≡ job_line (names_with o rest) job
    started job rest less = get_or_append_left rest more no_job job less

    by_entry : (e : Event) → Fits s e → entry_line (names_with o (lines_after lines s e ++ more)) e ≡ entry_line (names_with o (lines_after lines s e)) e
    by_entry (Start job) fits =
        let many = named.many in
        let next = fits.0.0 in
        let longer = length-append lines (job_line_of s (job_at s.table job) ∷ []) in
        ap (λ line. sentence (codes "start") (start_words line)) (started job (lines ++ job_line_of s (job_at s.table job) ∷ []) (omega arith))
    by_entry (Ready job) fits =
        let row = with-some (λ row. (can_be_ready row row.kind ≡ true) × (row.is_ready ≡ false)) (job_at s.table job) fits.1 in
        ap (λ line. sentence (codes "ready") (ready_words line)) (started job lines (early job row.0 row.1.0 fits.0.started))
    by_entry (End job outcome offset) fits =
        let row = with-some (CanEnd s outcome offset) (job_at s.table job) fits.1 in
        ap (λ line. sentence (codes "end") (end_words line outcome offset)) (started job lines (early job row.0 row.1.0 fits.0.0))
    by_entry (Admit g r op) fits = refl
    by_entry (Refuse g r op why) fits = refl
    by_entry (Piece g r k outcome got) fits = refl
    by_entry (Retire g r) fits = refl
    by_entry (Reply line given command text) fits = refl
    by_entry (Reached line what) fits = refl
    by_entry (Done zero) fits = refl
    by_entry (Done (suc g)) fits = refl

module _ (o : Opening) (guests : AreGuests o.guests) where
  -- what is printed of a history from a state on, in which jobs with these lines have begun
  printed : List JobLine → State → List Event → List ℕ
  printed lines s h = flat_map (entry_line (names_with o (lines ++ jobs_from s h))) h

  -- what is printed behind an entry
  behind : List JobLine → State → Event → List Event → List ℕ
  behind lines s e es = printed (lines_after lines s e) (after s e) es

  printed-on : (lines : List JobLine) (s : State) (e : Event) (es : List Event) → StateIsNamed lines s → Fits s e
      → printed lines s (e ∷ es) ≡ entry_line (names_with o (lines_after lines s e)) e ++ behind lines s e es
  unfolding printed behind
  printed-on lines s e es named fits =
      ap (λ jobs. flat_map (entry_line (names_with o jobs)) (e ∷ es)) (lines_on lines s e es)
      ∙ ap (λ line. line ++ behind lines s e es) (line-as o s lines (jobs_from (after s e) es) e named fits)

  printed-nothing : (lines : List JobLine) (s : State) → printed lines s [] ≡ []
  unfolding printed
  printed-nothing lines s = refl

  behind-same : (lines : List JobLine) (s : State) (e : Event) (es fs : List Event) → behind lines s e es ≡ behind lines s e fs
      → printed (lines_after lines s e) (after s e) es ≡ printed (lines_after lines s e) (after s e) fs
  unfolding behind
  behind-same lines s e es fs h = h

  all-same : (h k : List Event) (s : State) (c : Course) (lines : List JobLine) → length s.guests ≡ length o.guests → StateIsNamed lines s
      → Legal s h → Legal s k → KeepsOrder c h → KeepsOrder c k → All IsSmall h → All IsSmall k → printed lines s h ≡ printed lines s k → h ≡ k
  all-same [] [] s c lines as_many named lh lk oh ok sh sk e = refl
  all-same [] (f ∷ fs) s c lines as_many named lh lk oh ok sh sk e =
      absurd (line-there (names_with o (lines_after lines s f)) f (behind lines s f fs) (sym (printed-nothing lines s) ∙ e ∙ printed-on lines s f fs named lk.0))
  all-same (x ∷ es) [] s c lines as_many named lh lk oh ok sh sk e =
      absurd (line-there (names_with o (lines_after lines s x)) x (behind lines s x es)
      (sym (printed-nothing lines s) ∙ sym e ∙ printed-on lines s x es named lh.0))
  all-same (x ∷ es) (f ∷ fs) s c lines as_many named lh lk oh ok sh sk e =
      let r = behind lines s x es in
      let q = behind lines s f fs in
      let N = names_with o (lines_after lines s x) in
      let M = names_with o (lines_after lines s f) in
      let both : entry_line N x ++ r ≡ entry_line M f ++ q = sym (printed-on lines s x es named lh.0) ∙ e ∙ printed-on lines s f fs named lk.0 in
      let verbs : event_verb x ≡ event_verb f = sym (verb-told N x r) ∙ ap verb_in both ∙ verb-told M f q in
      let same : x ≡ f =
      same-entry o guests s c as_many lines named x f verbs lh.0 lk.0 oh.0 ok.0 (All-head IsSmall x es sh) (All-head IsSmall f fs sk) r q both in
      let rest : r ≡ behind lines s x fs =
      append_cancel_left (entry_line N x) r (behind lines s x fs)
      (both ∙ ap (λ y. entry_line (names_with o (lines_after lines s y)) y ++ behind lines s y fs) (sym same)) in
      let tails : es ≡ fs =
      all-same es fs (after s x) (onward c x) (lines_after lines s x) (entry_guests s x ∙ as_many) (entry_named lines s x lh.0 named) lh.1
      (subst (λ y. Legal (after s y) fs) (sym same) lk.1) oh.1 (subst (λ y. KeepsOrder (onward c y) fs) (sym same) ok.1)
      (All-tail IsSmall x es sh) (All-tail IsSmall f fs sk) (behind-same lines s x es fs rest) in
      ap (λ y. y ∷ es) same ∙ ap (λ ys. f ∷ ys) tails

  printed-whole : (h : List Event) → transcript_of o h ≡ printed [] (start o) h
  unfolding transcript printed
  printed-whole h = refl

opening_named : (o : Opening) → StateIsNamed [] (start o)
opening_named o = record { jobs = record { rows = tt; many = omega arith }; many = refl }

pub one_history : (o : Opening) (script : List Order) (traces : List (List Wish)) → HaveOneHistory o script traces
one_history o script traces = λ guests text h k ph pk.
    all-same o guests h k (start o) (course_of script traces) [] (length-map o.guests (λ name. new_guest)) (opening_named o) ph.legal pk.legal ph.order
    pk.order ph.small pk.small (sym (printed-whole o guests h) ∙ ph.printed ∙ sym pk.printed ∙ printed-whole o guests k)
