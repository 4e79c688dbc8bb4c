-- Parts of a transcript, one after another.
use Rattle.std.proofs.Common.{◌≡◌, ℕ, ◌+◌, ◌<◌, ◌≤◌, List, [], ◌∷◌, ◌++◌, length, take, drop, refl, sym, ◌∙◌, ap, arith, append_assoc, zero, suc, subst, lit<, Option, Some, None, Result, Ok, Err, OnOk, OnErr, inl, inr}
use Rattle.std.specs.Prelude.{option_map, slice_get, flat_map}
use Rattle.std.proofs.lemmas.List.{append-nil, take-append-drop, take_all}
use Rattle.blk_base.specs.Counts.{Rose}
use Rattle.blk_base.specs.Written.{Written, memory_of}
use Rattle.blk_history.specs.Names.{RowNames}
use Rattle.blk_history.specs.Line.{IsActorNamed, line_room, Appends}
use Rattle.blk_history.specs.Transcript.{entry_line, transcript}
use Rattle.blk_history.specs.declared.event.Event.{Event}
use Rattle.blk_history.specs.declared.event.Event.TheVariants.{Admit, Refuse, Piece, Retire}
use Rattle.qblk_core.specs.Comes.{HasLine, HaveLines}
use Rattle.qblk_core.specs.Run.{guest_names}
use Rattle.blk_base.specs.declared.fault.FaultAt.{FaultAt}
use Rattle.qblk_core.specs.Session.{EndsIoAs, io_ended_as, failed_as}
use Rattle.qblk_core.specs.Output.{LineFits, AllLinesFit, SendsPart, SendsFront}

-- a put that failed sent a front
pub front-sent : (old new : Option (List ℕ)) (bytes : List ℕ) (n before now : ℕ) → new ≡ option_map (λ s. s ++ take n bytes) old → Rose before now → SendsFront old new bytes before now
front-sent old new bytes n before now sent rose = record { part = (take n bytes, drop n bytes, take-append-drop n bytes, sent); rose = rose }

-- one part after another
pub sent-after : (old mid new : Option (List ℕ)) (p q : List ℕ) → mid ≡ option_map (λ s. s ++ p) old → new ≡ option_map (λ s. s ++ q) mid → new ≡ option_map (λ s. s ++ (p ++ q)) old
sent-after None mid new p q first then = then ∙ ap (option_map (λ s. s ++ q)) first
sent-after (Some s) mid new p q first then = then ∙ ap (option_map (λ s. s ++ q)) first ∙ ap (λ (t : List ℕ). Some t) (append_assoc s p q)

pub nothing-sent : (old : Option (List ℕ)) → old ≡ option_map (λ s. s ++ []) old
nothing-sent None = refl
nothing-sent (Some s) = ap (λ (t : List ℕ). Some t) (sym (append-nil s))

-- what holds at a good end, and at a bad one
pub on-ok : {T E : Type 0} (r : Result T E) (P Q R S : Type 0) → OnOk r P → OnOk r Q → OnOk r R → (P → Q → R → S) → OnOk r S
on-ok (Ok x) P Q R S p q r f = f p q r
on-ok (Err e) P Q R S p q r f = tt

pub on-err : {T E : Type 0} (r : Result T E) (P Q : Type 0) → OnErr r P → (P → Q) → OnErr r Q
on-err (Ok x) P Q p f = tt
on-err (Err e) P Q p f = f p

-- the entry at a place, and its line
pub fits-at : (names : RowNames) (memory : ℕ) (es : List Event) (at : ℕ) (e : Event) → AllLinesFit names memory es → slice_get es at ≡ Some e → LineFits names memory e
fits-at names memory [] at e all is = let bad : ⊥ = cc is in absurd bad
fits-at names memory (x ∷ es) zero e all is = let same : x ≡ e = cc is in subst (LineFits names memory) same all.0
fits-at names memory (x ∷ es) (suc at) e all is = fits-at names memory es at e all.1 is

-- with more memory they fit too
pub fits-more : (names : RowNames) (a b : ℕ) (es : List Event) → a ≤ b → AllLinesFit names a es → AllLinesFit names b es
fits-more names a b [] le all = tt
fits-more names a b (e ∷ es) le all =
    (record { named = all.0.named; room = let had = all.0.room in omega arith }, fits-more names a b es le all.1)

pub get-below : (es : List Event) (at : ℕ) → at < length es → (e : Event) × (slice_get es at ≡ Some e)
get-below [] at below = absurd (omega arith)
get-below (x ∷ es) zero below = (x, refl)
get-below (x ∷ es) (suc at) below = get-below es at (omega arith)

-- the lines of a trace on one image: its guest is called `disk`, and shows at most one block
room-of : (e : Event) → HasLine e → 65536 + line_room guest_names e ≤ 393476
room-of (Admit g r op) line = rw line.whose (omega arith)
room-of (Refuse g r op why) line = rw line.whose (omega arith)
room-of (Piece g r k outcome got) line = rw line.whose (let shown = line.shown in omega arith)
room-of (Retire g r) line = rw line.whose (omega arith)
room-of e line = absurd line.whose

named-by : (e : Event) → HasLine e → IsActorNamed guest_names e
named-by (Admit g r op) line = rw line.whose (lit< tt)
named-by (Refuse g r op why) line = rw line.whose (lit< tt)
named-by (Piece g r k outcome got) line = rw line.whose (lit< tt)
named-by (Retire g r) line = rw line.whose (lit< tt)
named-by e line = absurd line.whose

pub lines-fit : (es : List Event) → HaveLines es → AllLinesFit guest_names 393476 es
lines-fit [] all = tt
lines-fit (e ∷ es) all = (record { named = named-by e all.0; room = room-of e all.0 }, lines-fit es all.1)

-- a line that stays in the text
pub line-kept : (old : Option (List ℕ)) (before now : Written) (more : List ℕ) (room : ℕ) → Appends before now more room → length now.bytes < 65536 → SendsPart (memory_of before) old old (before.bytes ++ more) now
line-kept old before now more room appends short = record {
  part = ([], appends.bytes, nothing-sent old);
  buffer = record { short = short; room = appends.memory };
}

-- and one that goes out
pub line-sent : (old new : Option (List ℕ)) (before mid now : Written) (more : List ℕ) (room : ℕ) → Appends before mid more room
    → new ≡ option_map (λ s. s ++ mid.bytes) old → now.bytes ≡ [] → memory_of now ≡ memory_of mid → SendsPart (memory_of before) old new (before.bytes ++ more) now
line-sent old new before mid now more room appends sent empty same = record {
  part = (mid.bytes, ap (λ bs. mid.bytes ++ bs) empty ∙ append-nil mid.bytes ∙ appends.bytes, sent);
  buffer = record { short = rw empty (lit< tt); room = let memory = appends.memory in omega arith };
}

pub line-front : (old new : Option (List ℕ)) (before mid : Written) (more : List ℕ) (room b n : ℕ) → Appends before mid more room
    → SendsFront old new mid.bytes b n → SendsFront old new (before.bytes ++ more) b n
line-front old new before mid more room b n appends front = record {
  part = (front.part.0, front.part.1, front.part.2 ∙ appends.bytes, front.part.3);
  rose = front.rose;
}

pub at-ok : {T E : Type 0} (r : Result T E) (x : T) (P : Type 0) → r ≡ Ok x → OnOk r P → P
at-ok (Ok y) x P is p = p
at-ok (Err e) x P is p = let bad : ⊥ = cc is in absurd bad

abbrev lines : RowNames → List Event → List ℕ
lines names es = flat_map (entry_line names) es

-- one line more
pub lines-next : (names : RowNames) (es : List Event) (at : ℕ) (e : Event) → slice_get es at ≡ Some e → lines names (take (at + 1) es) ≡ lines names (take at es) ++ entry_line names e
lines-next names [] at e is = let bad : ⊥ = cc is in absurd bad
lines-next names (x ∷ es) zero e is = let same : x ≡ e = cc is in append-nil (entry_line names x) ∙ ap (entry_line names) same
lines-next names (x ∷ es) (suc at) e is = let next : suc at + 1 ≡ suc (at + 1) = omega arith in rw next (ap (λ bs. entry_line names x ++ bs) (lines-next names es at e is) ∙ sym (append_assoc (entry_line names x) (lines names (take at es)) (entry_line names e)))

-- all lines are the first, and the rest
lines-all : (names : RowNames) (es : List Event) (n : ℕ) → lines names (take n es) ++ lines names (drop n es) ≡ lines names es
lines-all names [] zero = refl
lines-all names [] (suc n) = refl
lines-all names (x ∷ es) zero = refl
lines-all names (x ∷ es) (suc n) = append_assoc (entry_line names x) (lines names (take n es)) (lines names (drop n es)) ∙ ap (λ bs. entry_line names x ++ bs) (lines-all names es n)

-- one part after another
pub part-next : (memory : ℕ) (old mid new : Option (List ℕ)) (whole more : List ℕ) (before now : Written) → SendsPart memory old mid whole before → SendsPart (memory_of before) mid new (before.bytes ++ more) now → SendsPart memory old new (whole ++ more) now
part-next memory old mid new whole more before now first then = record {
  part = (
    first.part.0 ++ then.part.0,
    append_assoc first.part.0 then.part.0 now.bytes ∙ ap (λ bs. first.part.0 ++ bs) then.part.1 ∙ sym (append_assoc first.part.0 before.bytes more) ∙ ap (λ bs. bs ++ more) first.part.1,
    sent-after old mid new first.part.0 then.part.0 first.part.2 then.part.2,
  );
  buffer = record { short = then.buffer.short; room = let a = first.buffer.room in let b = then.buffer.room in omega arith };
}

-- a part, and then a front of what follows
pub part-front : (memory : ℕ) (old mid new : Option (List ℕ)) (whole more : List ℕ) (before : Written) (a b c : ℕ) → SendsPart memory old mid whole before → SendsFront mid new (before.bytes ++ more) b c → b ≡ a → SendsFront old new (whole ++ more) a c
part-front memory old mid new whole more before a b c first then same = record {
  part = (
    first.part.0 ++ then.part.0,
    then.part.1,
    append_assoc first.part.0 then.part.0 then.part.1 ∙ ap (λ bs. first.part.0 ++ bs) then.part.2 ∙ sym (append_assoc first.part.0 before.bytes more) ∙ ap (λ bs. bs ++ more) first.part.1,
    sent-after old mid new first.part.0 then.part.0 first.part.2 then.part.3,
  );
  rose = subst (λ (n : ℕ). Rose n c) same then.rose;
}

front-more : (old new : Option (List ℕ)) (whole more : List ℕ) (a b : ℕ) → SendsFront old new whole a b → SendsFront old new (whole ++ more) a b
front-more old new whole more a b front = record {
  part = (front.part.0, front.part.1 ++ more, sym (append_assoc front.part.0 front.part.1 more) ∙ ap (λ bs. bs ++ more) front.part.2, front.part.3);
  rose = front.rose;
}

-- at a line that failed, a front of the whole transcript is out
pub line-failed : (names : RowNames) (memory : ℕ) (es : List Event) (at : ℕ) (e : Event) (old mid new : Option (List ℕ)) (before : Written) (a b c : ℕ) → slice_get es at ≡ Some e → SendsPart memory old mid (lines names (take at es)) before
    → SendsFront mid new (before.bytes ++ entry_line names e) b c → b ≡ a → SendsFront old new (transcript names es) a c
unfolding transcript
line-failed names memory es at e old mid new before a b c is part front same =
    let here = part-front memory old mid new (lines names (take at es)) (entry_line names e) before a b c part front same in
    let whole : (lines names (take at es) ++ entry_line names e) ++ lines names (drop (at + 1) es) ≡ lines names es = ap (λ bs. bs ++ lines names (drop (at + 1) es)) (sym (lines-next names es at e is)) ∙ lines-all names es (at + 1) in
    let P : List ℕ → Type 0 = λ w. SendsFront old new w a c in
    subst P whole (front-more old new _ (lines names (drop (at + 1) es)) a c here)

take-every : (names : RowNames) (es : List Event) (n : ℕ) → n ≡ length es → lines names (take n es) ≡ lines names es
take-every names es n is = ap (lines names) (take_all n es (omega arith))

-- where the text is empty, all of it is out
pub all-sent : (names : RowNames) (memory : ℕ) (es : List Event) (n : ℕ) (old new : Option (List ℕ)) (line : Written) → n ≡ length es → SendsPart memory old new (lines names (take n es)) line → line.bytes ≡ [] → new ≡ option_map (λ s. s ++ transcript names es) old
unfolding transcript
all-sent names memory es n old new line is part empty =
    let whole : part.part.0 ≡ lines names es = sym (append-nil part.part.0) ∙ ap (λ bs. part.part.0 ++ bs) (sym empty) ∙ part.part.1 ∙ take-every names es n is in
    part.part.2 ∙ ap (λ (bs : List ℕ). option_map (λ s. s ++ bs) old) whole

-- where it holds the rest, and that goes out
pub rest-sent : (names : RowNames) (memory : ℕ) (es : List Event) (n : ℕ) (old mid new : Option (List ℕ)) (line : Written) → n ≡ length es → SendsPart memory old mid (lines names (take n es)) line → new ≡ option_map (λ s. s ++ line.bytes) mid → new ≡ option_map (λ s. s ++ transcript names es) old
unfolding transcript
rest-sent names memory es n old mid new line is part sent =
    sent-after old mid new part.part.0 line.bytes part.part.2 sent ∙ ap (λ (bs : List ℕ). option_map (λ s. s ++ bs) old) (part.part.1 ∙ take-every names es n is)

pub rest-failed : (names : RowNames) (memory : ℕ) (es : List Event) (n : ℕ) (old mid new : Option (List ℕ)) (line : Written) (a b c : ℕ) → n ≡ length es → SendsPart memory old mid (lines names (take n es)) line → SendsFront mid new line.bytes b c → b ≡ a → SendsFront old new (transcript names es) a c
unfolding transcript
rest-failed names memory es n old mid new line a b c is part front same =
    let here : SendsFront mid new (line.bytes ++ []) b c = rw (append-nil line.bytes) front in
    let all = part-front memory old mid new (lines names (take n es)) [] line a b c part here same in
    let P : List ℕ → Type 0 = λ w. SendsFront old new w a c in
    subst P (append-nil (lines names (take n es)) ∙ take-every names es n is) all

-- the status tells how it ended
pub ends-well : (fault : Option FaultAt) (old new : Option (List ℕ)) (whole : List ℕ) (before now : ℕ) → new ≡ option_map (λ s. s ++ whole) old → now ≡ before → EndsIoAs fault old new whole before now (io_ended_as fault)
ends-well None old new whole before now sent quiet = (sent, quiet)
ends-well (Some fault) old new whole before now sent quiet = (refl, refl, whole, [], append-nil whole, sent, inl (refl, quiet))

pub ends-badly : (fault : Option FaultAt) (old new : Option (List ℕ)) (whole : List ℕ) (before now : ℕ) → SendsFront old new whole before now → EndsIoAs fault old new whole before now (failed_as fault now)
ends-badly None old new whole before now front = (refl, front, refl)
ends-badly (Some fault) old new whole before now front = (refl, refl, front.part.0, front.part.1, front.part.2, front.part.3, inr front.rose)
