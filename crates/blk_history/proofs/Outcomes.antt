-- What a line of a piece tells: its outcome.
use Rattle.std.proofs.Common.{◌≡◌, ℕ, ◌<◌, ◌^◌, List, [], ◌∷◌, refl, sym, ap, ◌∙◌, arith, Option, Some, None}
use Rattle.std.specs.Prelude.{drop, get_or, decimal, codes}
use Rattle.std.proofs.lemmas.Fmt.{decimal_injective}
use Rattle.std.proofs.lemmas.List.{append_cancel_left}
use Rattle.blk_base.specs.Pieces.{Extent}
use Rattle.blk_base.specs.declared.fault.DevNo.{DevNo}
use Rattle.blk_base.specs.declared.fault.Outcome.{Outcome}
use Rattle.blk_base.specs.declared.fault.Outcome.TheVariants.{Good, Torn, Io, NoSpace}
use Rattle.trace_codec.specs.declared.op.Op.{Op}
use Rattle.blk_history.specs.Legal.{Tells}
use Rattle.blk_history.specs.Small.{IsSmallOutcome}
use Rattle.blk_history.specs.Transcript.{outcome_words, dev_word}
use Rattle.blk_history.proofs.Lines.{IsWord, words_then, first-word, decimal-word, all-append, in_word}

device-word : (dev : DevNo) → IsWord (dev_word dev)
device-word dev = all-append in_word (codes "dev") (decimal dev.0) refl (decimal-word dev.0)

same-device : (a b : DevNo) → a.0 < 2 ^ 64 → b.0 < 2 ^ 64 → dev_word a ≡ dev_word b → a ≡ b
same-device a b small_a small_b e =
    let numbers : decimal a.0 ≡ decimal b.0 = append_cancel_left (codes "dev") (decimal a.0) (decimal b.0) e in
    ap of_number (decimal_injective a.0 b.0 small_a small_b numbers)
  where
    of_number : ℕ → DevNo
    of_number n = record { 0 = n }

-- the first word of an outcome, and the others
first-of : Outcome → List ℕ
first-of Good = codes "ok"
first-of (Torn done dev count) = codes "torn"
first-of (Io dev count) = codes "io"
first-of (NoSpace dev) = codes "nospace"

rest-of : Outcome → List ℕ → List (List ℕ)
rest-of outcome got = drop 1 (outcome_words outcome got)

outcome-parts : (outcome : Outcome) (got : List ℕ) → outcome_words outcome got ≡ first-of outcome ∷ rest-of outcome got
unfolding first-of rest-of
outcome-parts Good [] = refl
outcome-parts Good (byte ∷ bytes) = refl
outcome-parts (Torn done dev count) got = refl
outcome-parts (Io dev count) got = refl
outcome-parts (NoSpace dev) got = refl

first-is-word : (outcome : Outcome) → IsWord (first-of outcome)
unfolding first-of
first-is-word Good = refl
first-is-word (Torn done dev count) = refl
first-is-word (Io dev count) = refl
first-is-word (NoSpace dev) = refl

pub same-count : (m n : ℕ) (ws vs : List (List ℕ)) (r q : List ℕ) → m < 2 ^ 64 → n < 2 ^ 64
    → words_then (decimal m ∷ ws) r ≡ words_then (decimal n ∷ vs) q → (m ≡ n) × (words_then ws r ≡ words_then vs q)
same-count m n ws vs r q small_m small_n e =
    let first = first-word (decimal m) (decimal n) ws vs r q (decimal-word m) (decimal-word n) e in
    (decimal_injective m n small_m small_n first.0, first.1)

pub same-dev : (a b : DevNo) (ws vs : List (List ℕ)) (r q : List ℕ) → a.0 < 2 ^ 64 → b.0 < 2 ^ 64
    → words_then (dev_word a ∷ ws) r ≡ words_then (dev_word b ∷ vs) q → (a ≡ b) × (words_then ws r ≡ words_then vs q)
same-dev a b ws vs r q small_a small_b e =
    let first = first-word (dev_word a) (dev_word b) ws vs r q (device-word a) (device-word b) e in
    (same-device a b small_a small_b first.0, first.1)

rest-same : (a b : Outcome) (got other r q : List ℕ) → IsSmallOutcome a → IsSmallOutcome b → first-of a ≡ first-of b
    → words_then (rest-of a got) r ≡ words_then (rest-of b other) q → a ≡ b
unfolding first-of rest-of
rest-same Good Good got other r q sa sb first e = refl
rest-same (Torn done dev count) (Torn done2 dev2 count2) got other r q sa sb first e =
    let d = same-count done done2 (dev_word dev ∷ decimal count ∷ []) (dev_word dev2 ∷ decimal count2 ∷ []) r q sa.0 sb.0 e in
    let v = same-dev dev dev2 (decimal count ∷ []) (decimal count2 ∷ []) r q sa.1 sb.1 d.1 in
    let n = same-count count count2 [] [] r q sa.2 sb.2 v.1 in
    let is_done = d.0 in let is_dev = v.0 in let is_count = n.0 in cc
rest-same (Io dev count) (Io dev2 count2) got other r q sa sb first e =
    let v = same-dev dev dev2 (decimal count ∷ []) (decimal count2 ∷ []) r q sa.0 sb.0 e in
    let n = same-count count count2 [] [] r q sa.1 sb.1 v.1 in
    let is_dev = v.0 in let is_count = n.0 in cc
rest-same (NoSpace dev) (NoSpace dev2) got other r q sa sb first e =
    let v = same-dev dev dev2 [] [] r q sa sb e in
    ap NoSpace v.0
rest-same Good (Torn done dev count) got other r q sa sb first e =
    absurd (let letters : 111 ≡ 116 = ap (λ l. get_or l 0 0) first in omega arith)
rest-same Good (Io dev count) got other r q sa sb first e =
    absurd (let letters : 111 ≡ 105 = ap (λ l. get_or l 0 0) first in omega arith)
rest-same Good (NoSpace dev) got other r q sa sb first e =
    absurd (let letters : 111 ≡ 110 = ap (λ l. get_or l 0 0) first in omega arith)
rest-same (Torn done dev count) Good got other r q sa sb first e =
    absurd (let letters : 116 ≡ 111 = ap (λ l. get_or l 0 0) first in omega arith)
rest-same (Torn done dev count) (Io dev2 count2) got other r q sa sb first e =
    absurd (let letters : 116 ≡ 105 = ap (λ l. get_or l 0 0) first in omega arith)
rest-same (Torn done dev count) (NoSpace dev2) got other r q sa sb first e =
    absurd (let letters : 116 ≡ 110 = ap (λ l. get_or l 0 0) first in omega arith)
rest-same (Io dev count) Good got other r q sa sb first e =
    absurd (let letters : 105 ≡ 111 = ap (λ l. get_or l 0 0) first in omega arith)
rest-same (Io dev count) (Torn done dev2 count2) got other r q sa sb first e =
    absurd (let letters : 105 ≡ 116 = ap (λ l. get_or l 0 0) first in omega arith)
rest-same (Io dev count) (NoSpace dev2) got other r q sa sb first e =
    absurd (let letters : 105 ≡ 110 = ap (λ l. get_or l 0 0) first in omega arith)
rest-same (NoSpace dev) Good got other r q sa sb first e =
    absurd (let letters : 110 ≡ 111 = ap (λ l. get_or l 0 0) first in omega arith)
rest-same (NoSpace dev) (Torn done dev2 count2) got other r q sa sb first e =
    absurd (let letters : 110 ≡ 116 = ap (λ l. get_or l 0 0) first in omega arith)
rest-same (NoSpace dev) (Io dev2 count2) got other r q sa sb first e =
    absurd (let letters : 110 ≡ 105 = ap (λ l. get_or l 0 0) first in omega arith)

pub one-outcome : (a b : Outcome) (got other r q : List ℕ) → IsSmallOutcome a → IsSmallOutcome b
    → words_then (outcome_words a got) r ≡ words_then (outcome_words b other) q → a ≡ b
one-outcome a b got other r q sa sb e =
    let parts : words_then (first-of a ∷ rest-of a got) r ≡ words_then (first-of b ∷ rest-of b other) q =
    sym (ap (λ ws. words_then ws r) (outcome-parts a got)) ∙ e ∙ ap (λ ws. words_then ws q) (outcome-parts b other) in
    let first = first-word (first-of a) (first-of b) (rest-of a got) (rest-of b other) r q (first-is-word a) (first-is-word b) parts in
    rest-same a b got other r q sa sb first.0 first.1

pub one-told : (outcome : Outcome) (op : Op) (part : Extent) (disk : Option (List ℕ)) (got other : List ℕ) → Tells outcome op part disk got
    → Tells outcome op part disk other → got ≡ other
one-told Good op part None got other h k = absurd h
one-told Good op part (Some bytes) got other h k = h ∙ sym k
one-told (Torn done dev count) op part disk got other h k = h.3 ∙ sym k.3
one-told (Io dev count) op part disk got other h k = h ∙ sym k
one-told (NoSpace dev) op part disk got other h k = h ∙ sym k
