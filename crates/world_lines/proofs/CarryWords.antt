-- The words of a refusal: which fault they name, and whether they are those of a failed call.
use Rattle.std.proofs.Common.{◌≡◌, ℕ, ◌+◌, ◌-◌, ◌*◌, ◌<◌, ◌≤◌, Bool, true, false, List, [], ◌∷◌, ◌++◌, append_assoc, refl, sym, ◌∙◌, ap, subst, arith, Option, Some, None}
use Rattle.std.specs.Prelude.{◌/◌, ◌%◌, ◌^◌, ◌==◌, ◌&&◌, not, fold, codes, decimal, nat_eq}
use Rattle.std.specs.List.{slice_split, starts_with, list_all}
use Rattle.std.specs.Str.{bytes_eq}
use Rattle.std.proofs.lemmas.Bool.{eqb-true, eqb-false, and_left, and_right}
use Rattle.std.proofs.lemmas.Fmt.{decimal_by_steps}
use Rattle.std.proofs.lemmas.List.Sums.{fold-append}
use Rattle.std.proofs.lemmas.List.Splits.{slice_split-cons_no}
use Rattle.blk_base.specs.declared.fault.DevNo.{DevNo}
use Rattle.blk_base.specs.declared.fault.FaultFrom.TheVariants as from
use Rattle.qmp_rules.specs.declared.refusal.Refusal.{Refusal}
use Rattle.qmp_rules.specs.declared.refusal.Refusal.TheVariants as refusal
use Rattle.qmp_rules.specs.Refusals.{refusal_text}
use Rattle.flat_machine.specs.Licence.{value_of, named_in_words}
use Rattle.flat_machine.specs.EventLicence.{full_in_words}
use Rattle.flat_machine.specs.Replies.{is_failed_call}
use Rattle.world_parts.specs.Carrying.{fault_named, is_io_refusal}

-- ---- numbers

decimal-value : (n : ℕ) → n < 2 ^ 64 → value_of (decimal n) ≡ n
decimal-value n small = decimal_by_steps (λ m ds. value_of ds ≡ m) (λ m low. omega arith) more n small
  where
    more : (m : ℕ) (ds : List ℕ) → 10 ≤ m → value_of ds ≡ m / 10 → value_of (ds ++ (48 + m % 10) ∷ []) ≡ m
    more m ds least is =
        let step = fold-append (λ (n digit : ℕ). n * 10 + (digit - 48)) 0 ds ((48 + m % 10) ∷ []) in
        step ∙ (let known : fold (λ (n digit : ℕ). n * 10 + (digit - 48)) 0 ds ≡ m / 10 = is in omega arith)

-- ---- words

-- no byte is a blank
abbrev pub is_word : List ℕ → Bool
is_word word = list_all (λ byte. not (byte == 32)) word

abbrev words : List ℕ → List (List ℕ)
words text = slice_split (λ byte. byte == 32) text

pub and-both : (a b : Bool) → (a && b) ≡ true → (a ≡ true) × (b ≡ true)
and-both true b h = (refl, h)
and-both false b h = absurd cc

not-blank : (x : ℕ) → not (x == 32) ≡ true → (x == 32) ≡ false
not-blank x h = at (x == 32) h
  where
    at : (b : Bool) → not b ≡ true → b ≡ false
    at true h = absurd cc
    at false h = refl

blank-apart : (x : ℕ) → (x == 32) ≡ false → (32 == x) ≡ false
blank-apart x h = at (32 == x) refl
  where
    at : (b : Bool) → (32 == x) ≡ b → b ≡ false
    at true is = absurd (let same : 32 ≡ x = eqb-true 32 x is in eqb-false x 32 h (sym same))
    at false is = refl

-- the first word ends at the first blank
words-begin : (word rest : List ℕ) → is_word word ≡ true → words (word ++ 32 ∷ rest) ≡ word ∷ words rest
words-begin [] rest is = refl
words-begin (x ∷ word) rest is =
    let parts = and-both (not (x == 32)) (is_word word) is in
    slice_split-cons_no (λ byte. byte == 32) x (word ++ 32 ∷ rest) (not-blank x parts.0)
    ∙ rw (words-begin word rest parts.1) refl

words-alone : (word : List ℕ) → is_word word ≡ true → words word ≡ word ∷ []
words-alone [] is = refl
words-alone (x ∷ word) is =
    let parts = and-both (not (x == 32)) (is_word word) is in
    slice_split-cons_no (λ byte. byte == 32) x word (not-blank x parts.0)
    ∙ rw (words-alone word parts.1) refl

digits-word : (n : ℕ) → n < 2 ^ 64 → is_word (decimal n) ≡ true
digits-word n small = decimal_by_steps (λ m ds. is_word ds ≡ true) one more n small
  where
    digit : (d : ℕ) → d < 10 → is_word ((48 + d) ∷ []) ≡ true
    digit d low = at (48 + d == 32) refl
      where
        at : (b : Bool) → (48 + d == 32) ≡ b → (not b && true) ≡ true
        at true h = absurd (let same : 48 + d ≡ 32 = eqb-true (48 + d) 32 h in omega arith)
        at false h = refl

    both : (xs ys : List ℕ) → is_word xs ≡ true → is_word ys ≡ true → is_word (xs ++ ys) ≡ true
    both [] ys p q = q
    both (x ∷ xs) ys p q =
        let parts = and-both (not (x == 32)) (is_word xs) p in
        rw (parts.0) (both xs ys parts.1 q)

    one : (m : ℕ) → m < 10 → is_word ((48 + m) ∷ []) ≡ true
    one m low = digit m low

    more : (m : ℕ) (ds : List ℕ) → 10 ≤ m → is_word ds ≡ true → is_word (ds ++ (48 + m % 10) ∷ []) ≡ true
    more m ds least is = both ds ((48 + m % 10) ∷ []) is (digit (m % 10) (omega arith))

-- ---- texts that name no fault and no full device

record IsSilent (text : List ℕ) : Type 0 where
  pub fault : named_in_words (words text) ≡ None
  pub full : full_in_words (words text) ≡ None

other-verb : (verb : List ℕ) (parts : List (List ℕ)) → bytes_eq verb (codes "io") ≡ false → bytes_eq verb (codes "nospace") ≡ false
    → (named_in_words (verb ∷ parts) ≡ None) × (full_in_words (verb ∷ parts) ≡ None)
other-verb verb [] io full = (refl, refl)
other-verb verb (a ∷ []) io full = (refl, rw full refl)
other-verb verb (a ∷ b ∷ []) io full = (rw io refl, refl)
other-verb verb (a ∷ b ∷ c ∷ parts) io full = (refl, refl)

-- another first word
silent-verb : (verb rest : List ℕ) → is_word verb ≡ true → bytes_eq verb (codes "io") ≡ false → bytes_eq verb (codes "nospace") ≡ false
    → IsSilent (verb ++ 32 ∷ rest)
silent-verb verb rest is io full =
    let none = other-verb verb (words rest) io full in
    let parts = words-begin verb rest is in
    record { fault = rw parts none.0; full = rw parts none.1 }

-- a name, and three words more
silent-name : (name : List ℕ) → is_word name ≡ true → IsSilent (name ++ codes " is not found")
silent-name name is =
    let parts = words-begin name (codes "is not found") is in
    record { fault = rw parts refl; full = rw parts refl }

-- ---- refusals

-- the device that one says to be full
abbrev pub full_named : Refusal → Option ℕ
full_named (refusal.NoSpace dev) = Some dev.0
full_named cause = None

-- its numbers fit, and its name has no blank
abbrev pub IsTellable : Refusal → Type 0
IsTellable (refusal.Io from.Store count) = count < 2 ^ 64
IsTellable (refusal.Io (from.Dev dev) count) = (dev.0 < 2 ^ 32) × (count < 2 ^ 64)
IsTellable (refusal.Io from.Sink count) = ⊥
IsTellable (refusal.NoSpace dev) = dev.0 < 2 ^ 32
IsTellable (refusal.NotFound name is_device) = is_word name ≡ true
IsTellable cause = Unit {0}

pub record RefusalTells (cause : Refusal) : Type 0 where
  pub fault : named_in_words (words (refusal_text cause)) ≡ fault_named cause
  pub full : full_in_words (words (refusal_text cause)) ≡ full_named cause

quiet : (cause : Refusal) → IsSilent (refusal_text cause) → fault_named cause ≡ None → full_named cause ≡ None → RefusalTells cause
quiet cause is fault full = record { fault = is.fault ∙ sym fault; full = is.full ∙ sym full }

verb : (cause : Refusal) (word rest : List ℕ) → refusal_text cause ≡ word ++ 32 ∷ rest → is_word word ≡ true → bytes_eq word (codes "io") ≡ false
    → bytes_eq word (codes "nospace") ≡ false → fault_named cause ≡ None → full_named cause ≡ None → RefusalTells cause
verb cause word rest text is io full named no_full =
    quiet cause (subst IsSilent (sym text) (silent-verb word rest is io full)) named no_full

store-tells : (count : ℕ) → count < 2 ^ 64 → RefusalTells (refusal.Io from.Store count)
store-tells count small =
    let first = words-begin (codes "io") (codes "store " ++ decimal count) refl in
    let second = words-begin (codes "store") (decimal count) refl in
    let third = words-alone (decimal count) (digits-word count small) in
    let value = decimal-value count small in
    record { fault = rw (first, second, third, value) refl; full = rw (first, second, third) refl }

device-text : (a b : List ℕ) → codes "io dev" ++ a ++ codes " " ++ b ≡ codes "io" ++ 32 ∷ (codes "dev" ++ (a ++ 32 ∷ b))
device-text a b =
    append_assoc (codes "io dev" ++ a) (codes " ") b ∙ append_assoc (codes "io dev") a (codes " " ++ b)
    ∙ ap (λ (x : List ℕ). codes "io dev" ++ (a ++ x)) (blank b) ∙ split (a ++ 32 ∷ b)
  where
    blank : (x : List ℕ) → codes " " ++ x ≡ 32 ∷ x
    blank x = refl

    split : (x : List ℕ) → codes "io dev" ++ x ≡ codes "io" ++ 32 ∷ (codes "dev" ++ x)
    split x = refl

device-words : (a b : List ℕ) → is_word a ≡ true → is_word b ≡ true
    → words (codes "io dev" ++ a ++ codes " " ++ b) ≡ codes "io" ∷ (codes "dev" ++ a) ∷ b ∷ []
device-words a b word last =
    let rest : List ℕ = codes "dev" ++ (a ++ 32 ∷ b) in
    let first : words (codes "io" ++ 32 ∷ rest) ≡ codes "io" ∷ words rest = words-begin (codes "io") rest refl in
    let regroup : rest ≡ (codes "dev" ++ a) ++ 32 ∷ b = sym (append_assoc (codes "dev") a (32 ∷ b)) in
    let second : words ((codes "dev" ++ a) ++ 32 ∷ b) ≡ (codes "dev" ++ a) ∷ words b = words-begin (codes "dev" ++ a) b word in
    let third : words b ≡ b ∷ [] = words-alone b last in
    let behind : words rest ≡ (codes "dev" ++ a) ∷ b ∷ [] =
    ap words regroup ∙ (second ∙ ap (λ (ws : List (List ℕ)). (codes "dev" ++ a) ∷ ws) third) in
    ap words (device-text a b) ∙ (first ∙ ap (λ (ws : List (List ℕ)). codes "io" ∷ ws) behind)

device-tells : (dev : DevNo) (count : ℕ) → dev.0 < 2 ^ 32 → count < 2 ^ 64 → RefusalTells (refusal.Io (from.Dev dev) count)
device-tells dev count few small =
    let number : dev.0 < 2 ^ 64 = omega arith in
    let parts = device-words (decimal dev.0) (decimal count) (digits-word dev.0 number) (digits-word count small) in
    let value = decimal-value count small in
    let device = decimal-value dev.0 number in
    record { fault = ap named_in_words parts ∙ rw (value, device) refl; full = ap full_in_words parts }

full-tells : (dev : DevNo) → dev.0 < 2 ^ 32 → RefusalTells (refusal.NoSpace dev)
full-tells dev few =
    let number : dev.0 < 2 ^ 64 = omega arith in
    let first = words-begin (codes "nospace") (codes "dev" ++ decimal dev.0) refl in
    let second = words-alone (codes "dev" ++ decimal dev.0) (digits-word dev.0 number) in
    let device = decimal-value dev.0 number in
    record { fault = rw (first, second) refl; full = rw (first, second, device) refl }

negotiation-tells : (again : Bool) → RefusalTells (refusal.Negotiation again)
negotiation-tells true = record { fault = refl; full = refl }
negotiation-tells false = record { fault = refl; full = refl }

-- A refusal names the fault that it tells, and says of the device that it tells that it is full.
pub tells : (cause : Refusal) → IsTellable cause → RefusalTells cause
tells refusal.BadJson is = record { fault = refl; full = refl }
tells (refusal.UnknownCommand name) is = verb _ (codes "command") _ refl refl refl refl refl refl
tells (refusal.Negotiation again) is = negotiation-tells again
tells (refusal.Missing member) is = verb _ (codes "member") _ refl refl refl refl refl refl
tells (refusal.Unexpected member) is = verb _ (codes "member") _ refl refl refl refl refl refl
tells (refusal.BadType member) is = verb _ (codes "member") _ refl refl refl refl refl refl
tells (refusal.BadValue member) is = verb _ (codes "member") _ refl refl refl refl refl refl
tells (refusal.BadName member) is = verb _ (codes "member") _ refl refl refl refl refl refl
tells (refusal.NotFound name is_device) is = quiet _ (silent-name name is) refl refl
tells (refusal.NotActive job) is = verb _ (codes "no") _ refl refl refl refl refl refl
tells (refusal.NameTaken name) is = verb _ (codes "name") _ refl refl refl refl refl refl
tells (refusal.TooMany crowd) is = verb _ (codes "too") _ refl refl refl refl refl refl
tells (refusal.Driver node) is = verb _ (codes "node") _ refl refl refl refl refl refl
tells (refusal.File name fault) is = verb _ (codes "file") _ refl refl refl refl refl refl
tells (refusal.FileUsed name) is = verb _ (codes "file") _ refl refl refl refl refl refl
tells (refusal.Image stop) is = verb _ (codes "image") _ refl refl refl refl refl refl
tells (refusal.BackingNeeded node) is = verb _ (codes "node") _ refl refl refl refl refl refl
tells (refusal.Unsettled node) is = verb _ (codes "node") _ refl refl refl refl refl refl
tells (refusal.JobHolds node job) is = verb _ (codes "node") _ refl refl refl refl refl refl
tells (refusal.BitmapBusy bitmap job) is = verb _ (codes "bitmap") _ refl refl refl refl refl refl
tells (refusal.ReadOnly node) is = verb _ (codes "node") _ refl refl refl refl refl refl
tells (refusal.NotInChain node) is = verb _ (codes "node") _ refl refl refl refl refl refl
tells (refusal.SizeDiffers first second) is = verb _ (codes "nodes") _ refl refl refl refl refl refl
tells (refusal.HasBacking node) is = verb _ (codes "node") _ refl refl refl refl refl refl
tells (refusal.NotEmpty node) is = verb _ (codes "node") _ refl refl refl refl refl refl
tells (refusal.InUse node parent) is = verb _ (codes "node") _ refl refl refl refl refl refl
tells (refusal.NotReady job) is = verb _ (codes "job") _ refl refl refl refl refl refl
tells (refusal.Conflict node asks denies perm) is = verb _ (codes "permission") _ refl refl refl refl refl refl
tells refusal.Aborted is = record { fault = refl; full = refl }
tells (refusal.Io from.Store count) is = store-tells count is
tells (refusal.Io (from.Dev dev) count) is = device-tells dev count is.0 is.1
tells (refusal.Io from.Sink count) is = absurd is
tells (refusal.NoSpace dev) is = full-tells dev is

-- ---- failed calls

-- A text of another first word does not begin so, and neither does a name with other words behind it.
begins-otherwise : (name rest start end : List ℕ) → is_word name ≡ true → is_word start ≡ true → starts_with nat_eq rest end ≡ false
    → starts_with nat_eq (name ++ 32 ∷ rest) (start ++ 32 ∷ end) ≡ false
begins-otherwise [] rest [] end is begins other = other
begins-otherwise (x ∷ name) rest [] end is begins other =
    let parts = and-both (not (x == 32)) (is_word name) is in
    and_left (nat_eq 32 x) _ (blank-apart x (not-blank x parts.0))
begins-otherwise [] rest (y ∷ start) end is begins other =
    let parts = and-both (not (y == 32)) (is_word start) begins in
    and_left (nat_eq y 32) _ (not-blank y parts.0)
begins-otherwise (x ∷ name) rest (y ∷ start) end is begins other =
    let names = and-both (not (x == 32)) (is_word name) is in
    let starts = and-both (not (y == 32)) (is_word start) begins in
    let rec = begins-otherwise name rest start end names.1 starts.1 other in
    and_right (nat_eq y x) _ rec

negotiation-calls : (again : Bool) → is_failed_call (refusal_text (refusal.Negotiation again)) ≡ false
negotiation-calls true = refl
negotiation-calls false = refl

name-calls : (name : List ℕ) → is_word name ≡ true → is_failed_call (name ++ codes " is not found") ≡ false
name-calls name is =
    let device = begins-otherwise name (codes "is not found") (codes "io") (codes "dev") is refl refl in
    let store = begins-otherwise name (codes "is not found") (codes "io") (codes "store ") is refl refl in
    let full = begins-otherwise name (codes "is not found") (codes "nospace") (codes "dev") is refl refl in
    rw (device, store, full) refl

-- The words are those of a failed call just where one failed.
pub says_call : (cause : Refusal) → IsTellable cause → is_failed_call (refusal_text cause) ≡ is_io_refusal cause
says_call (refusal.Negotiation again) is = negotiation-calls again
says_call (refusal.NotFound name is_device) is = name-calls name is
says_call (refusal.Io from.Store count) is = refl
says_call (refusal.Io (from.Dev dev) count) is = refl
says_call (refusal.Io from.Sink count) is = absurd is
says_call (refusal.NoSpace dev) is = refl
says_call _ is = refl
