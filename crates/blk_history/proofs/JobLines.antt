-- What a line of a job tells: its id, and of an end what became of it.
use Rattle.std.proofs.Common.{◌≡◌, ℕ, List, [], ◌∷◌, ◌++◌, refl, sym, ap, ◌∙◌, None}
use Rattle.std.specs.Prelude.{◌==◌, if◌then◌else◌, drop, get_or, decimal, codes}
use Rattle.blk_base.specs.declared.fault.Fault.TheVariants as faults
use Rattle.qmp_codec.specs.declared.event.EventName.TheVariants as event
use Rattle.blk_history.specs.Names.{JobLine}
use Rattle.blk_history.specs.Small.{IsSmallEnd}
use Rattle.blk_history.specs.Transcript.{sentence, cause_word, result_words, event_name, fault_of_end, event_line, ready_words, end_words}
use Rattle.blk_history.specs.declared.entry.Cause.{Cause}
use Rattle.blk_history.specs.declared.entry.Cause.TheVariants.{Command, Group, RunEnd}
use Rattle.blk_history.specs.declared.entry.JobEnd.{JobEnd}
use Rattle.blk_history.specs.declared.entry.JobEnd.TheVariants.{Completed, Pivoted, Copied, Failed, Cancelled}
use Rattle.blk_history.proofs.Lines.{IsWord, words_then, after-verb, first-word}
use Rattle.blk_history.proofs.Outcomes.{same-count, same-dev}

-- ---- why a job was cancelled

cause-is-word : (cause : Cause) → IsWord (cause_word cause)
cause-is-word Command = refl
cause-is-word Group = refl
cause-is-word RunEnd = refl

-- by its first letter
cause_by : List ℕ → Cause
cause_by word =
    if get_or word 0 0 == 99 then Command
    else if get_or word 0 0 == 103 then Group
    else RunEnd

cause-told : (cause : Cause) → cause_by (cause_word cause) ≡ cause
unfolding cause_by
cause-told Command = refl
cause-told Group = refl
cause-told RunEnd = refl

-- ---- what became of a job

data Became : Type 0 where
  IsDone : Became
  IsPivot : Became
  IsCopied : Became
  IsFault : Became
  IsFull : Became
  IsCancelled : Became

became_of : JobEnd → Became
became_of Completed = IsDone
became_of Pivoted = IsPivot
became_of Copied = IsCopied
became_of (Failed (faults.Io dev count)) = IsFault
became_of (Failed (faults.NoSpace dev)) = IsFull
became_of (Cancelled cause) = IsCancelled

-- by the first two letters of its first word
by_letters : ℕ → ℕ → Became
by_letters a b =
    if a == 100 then IsDone
    else if a == 112 then IsPivot
    else if a == 105 then IsFault
    else if a == 110 then IsFull
    else if b == 111 then IsCopied
    else IsCancelled

became_in : List ℕ → Became
became_in word = by_letters (get_or word 0 0) (get_or word 1 0)

-- the first word, and the others
first-of : JobEnd → List ℕ
first-of outcome = get_or (result_words outcome) 0 []

rest-of : JobEnd → List (List ℕ)
rest-of outcome = drop 1 (result_words outcome)

became-parts : (outcome : JobEnd) → result_words outcome ≡ first-of outcome ∷ rest-of outcome
unfolding first-of rest-of
became-parts Completed = refl
became-parts Pivoted = refl
became-parts Copied = refl
became-parts (Failed (faults.Io dev count)) = refl
became-parts (Failed (faults.NoSpace dev)) = refl
became-parts (Cancelled cause) = refl

first-is-word : (outcome : JobEnd) → IsWord (first-of outcome)
unfolding first-of
first-is-word Completed = refl
first-is-word Pivoted = refl
first-is-word Copied = refl
first-is-word (Failed (faults.Io dev count)) = refl
first-is-word (Failed (faults.NoSpace dev)) = refl
first-is-word (Cancelled cause) = refl

became-told : (outcome : JobEnd) → became_in (first-of outcome) ≡ became_of outcome
unfolding first-of became_in by_letters became_of
became-told Completed = refl
became-told Pivoted = refl
became-told Copied = refl
became-told (Failed (faults.Io dev count)) = refl
became-told (Failed (faults.NoSpace dev)) = refl
became-told (Cancelled cause) = refl

rest-same : (a b : JobEnd) (ws vs : List (List ℕ)) (r q : List ℕ) → IsSmallEnd a → IsSmallEnd b → became_of a ≡ became_of b
    → words_then (rest-of a ++ ws) r ≡ words_then (rest-of b ++ vs) q → a ≡ b
unfolding rest-of became_of
rest-same Completed Completed ws vs r q sa sb same e = refl
rest-same Pivoted Pivoted ws vs r q sa sb same e = refl
rest-same Copied Copied ws vs r q sa sb same e = refl
rest-same (Failed (faults.Io dev count)) (Failed (faults.Io dev2 count2)) ws vs r q sa sb same e =
    let v = same-dev dev dev2 (decimal count ∷ ws) (decimal count2 ∷ vs) r q sa.0 sb.0 e in
    let n = same-count count count2 ws vs r q sa.1 sb.1 v.1 in
    let is_dev = v.0 in let is_count = n.0 in cc
rest-same (Failed (faults.NoSpace dev)) (Failed (faults.NoSpace dev2)) ws vs r q sa sb same e =
    ap (λ d. Failed (faults.NoSpace d)) (same-dev dev dev2 ws vs r q sa sb e).0
rest-same (Cancelled cause) (Cancelled other) ws vs r q sa sb same e =
    let word = first-word (cause_word cause) (cause_word other) ws vs r q (cause-is-word cause) (cause-is-word other) e in
    ap Cancelled (sym (cause-told cause) ∙ ap cause_by word.0 ∙ cause-told other)
rest-same (Failed (faults.Io dev count)) (Failed (faults.NoSpace dev2)) ws vs r q sa sb same e = absurd cc
rest-same (Failed (faults.NoSpace dev)) (Failed (faults.Io dev2 count2)) ws vs r q sa sb same e = absurd cc
rest-same (Failed (faults.Io dev count)) _ ws vs r q sa sb same e = absurd cc
rest-same (Failed (faults.NoSpace dev)) _ ws vs r q sa sb same e = absurd cc
rest-same _ (Failed (faults.Io dev count)) ws vs r q sa sb same e = absurd cc
rest-same _ (Failed (faults.NoSpace dev)) ws vs r q sa sb same e = absurd cc
rest-same _ _ ws vs r q sa sb same e = absurd cc

pub one-end : (a b : JobEnd) (ws vs : List (List ℕ)) (r q : List ℕ) → IsSmallEnd a → IsSmallEnd b
    → words_then (result_words a ++ ws) r ≡ words_then (result_words b ++ vs) q → a ≡ b
one-end a b ws vs r q sa sb e =
    let parts : words_then (first-of a ∷ (rest-of a ++ ws)) r ≡ words_then (first-of b ∷ (rest-of b ++ vs)) q =
    sym (ap (λ ps. words_then (ps ++ ws) r) (became-parts a)) ∙ e ∙ ap (λ ps. words_then (ps ++ vs) q) (became-parts b) in
    let first = first-word (first-of a) (first-of b) (rest-of a ++ ws) (rest-of b ++ vs) r q (first-is-word a) (first-is-word b) parts in
    rest-same a b ws vs r q sa sb (sym (became-told a) ∙ ap became_in first.0 ∙ became-told b) first.1

-- ---- lines

pub ready-told : (a b : JobLine) (r q : List ℕ) → IsWord a.id → IsWord b.id
    → sentence (codes "ready") (ready_words a) ++ r ≡ sentence (codes "ready") (ready_words b) ++ q → a.id ≡ b.id
ready-told a b r q wa wb e =
    let a_rest : List (List ℕ) = event_line a event.Ready None a.size ∷ [] in
    let b_rest : List (List ℕ) = event_line b event.Ready None b.size ∷ [] in
    (first-word a.id b.id a_rest b_rest r q wa wb (after-verb (codes "ready") (a.id ∷ a_rest) (b.id ∷ b_rest) r q e)).0

pub end-told : (a b : JobLine) (outcome other : JobEnd) (m n : ℕ) (r q : List ℕ) → IsWord a.id → IsWord b.id → IsSmallEnd outcome → IsSmallEnd other
    → sentence (codes "end") (end_words a outcome m) ++ r ≡ sentence (codes "end") (end_words b other n) ++ q → (a.id ≡ b.id) × (outcome ≡ other)
end-told a b outcome other m n r q wa wb sa sb e =
    let a_last : List (List ℕ) = event_line a (event_name outcome) (fault_of_end outcome) m ∷ [] in
    let b_last : List (List ℕ) = event_line b (event_name other) (fault_of_end other) n ∷ [] in
    let id = first-word a.id b.id (result_words outcome ++ a_last) (result_words other ++ b_last) r q wa wb
    (after-verb (codes "end") (end_words a outcome m) (end_words b other n) r q e) in
    (id.0, one-end outcome other a_last b_last r q sa sb id.1)
