-- What a job tells, part by part.
use Rattle.std.proofs.Common.{◌≡◌, ℕ, ◌+◌, ◌<◌, ◌≤◌, ◌^◌, List, [], ◌∷◌, ◌++◌, length, refl, sym, ◌∙◌, ap, arith, ne_eqb, le-ltb, Option, Some, None}
use Rattle.std.specs.Prelude.{codes, decimal}
use Rattle.std.specs.Char.{digit_value}
use Rattle.std.specs.Str.Parse.{AllDigits}
use Rattle.std.proofs.lemmas.Str.Parse.{digit_from_value}
use Rattle.std.proofs.lemmas.Fmt.{decimal_is_IsNumeral, decimal_digit}
use Rattle.std.proofs.lemmas.List.{append_assoc, append_cancel_right, append-nil}
use Rattle.std.proofs.lemmas.List.Concat.{flat_map-append}
use Rattle.json.specs.Print.{escape_byte, escape}
use Rattle.blk_base.specs.Written.{Written}
use Rattle.blk_base.specs.declared.fault.Fault.{Fault}
use Rattle.blk_base.specs.declared.fault.Fault.TheVariants.{Io, NoSpace}
use Rattle.qmp_codec.specs.declared.event.EventName.{EventName}
use Rattle.qmp_codec.specs.declared.event.EventName.TheVariants.{Ready, Completed, Cancelled}
use Rattle.qmp_codec.specs.declared.event.JobKind.{JobKind}
use Rattle.qmp_codec.specs.declared.event.JobKind.TheVariants.{Stream, Commit, Mirror, Backup}
use Rattle.qmp_codec.specs.Events.{event_text as event_word, kind_text}
use Rattle.blk_history.specs.Names.{JobLine}
use Rattle.blk_history.specs.Transcript.{fault_words, fault_text, event_line}
use Rattle.blk_history.specs.Line.{blanked, StaysInJson, IsPlainFault, error_part, progress_part, name_part, event_parts, Appends}

-- what stands in JSON for a text that is plain
stays : (text : List ℕ) → StaysInJson text → escape text ≡ text
stays text plain = let within : escape text ++ 34 ∷ [] ≡ text ++ 34 ∷ [] = cc plain in append_cancel_right (escape text) text (34 ∷ []) within

plain-of : (text : List ℕ) → escape text ≡ text → StaysInJson text
plain-of text same = ap (λ bytes. 34 ∷ (bytes ++ 34 ∷ [])) same

kind-plain : (kind : JobKind) → escape (kind_text kind) ≡ kind_text kind
unfolding escape_byte
kind-plain Stream = refl
kind-plain Commit = refl
kind-plain Mirror = refl
kind-plain Backup = refl

name-plain : (name : EventName) → escape (event_word name) ≡ event_word name
unfolding escape_byte
name-plain Ready = refl
name-plain Completed = refl
name-plain Cancelled = refl

both-plain : (a b : List ℕ) → escape a ≡ a → escape b ≡ b → escape (a ++ b) ≡ a ++ b
both-plain a b one two = flat_map-append escape_byte a b ∙ (let left = one in let right = two in cc)

-- digits stand as they are
digit-plain : (c : ℕ) → digit_value c < 10 → escape_byte c ≡ c ∷ []
unfolding escape_byte
digit-plain c digit =
    let range = digit_from_value c digit in
    let quote = ne_eqb c 34 (λ e. omega arith) in
    let backslash = ne_eqb c 92 (λ e. omega arith) in
    let backspace = ne_eqb c 8 (λ e. omega arith) in
    let page = ne_eqb c 12 (λ e. omega arith) in
    let feed = ne_eqb c 10 (λ e. omega arith) in
    let return = ne_eqb c 13 (λ e. omega arith) in
    let tab = ne_eqb c 9 (λ e. omega arith) in
    let large = le-ltb c 32 (omega arith) in
    rw (quote, backslash, backspace, page, feed, return, tab, large) refl

digits-plain : (ds : List ℕ) → AllDigits 10 ds → escape ds ≡ ds
digits-plain [] all = refl
digits-plain (c ∷ ds) all = let one = digit-plain c all.0 in let rest = digits-plain ds all.1 in rw (one, rest) refl

decimal-plain : (n : ℕ) → n < 2 ^ 64 → escape (decimal n) ≡ decimal n
decimal-plain n small = digits-plain (decimal n) (decimal_is_IsNumeral n small).0.1

dev-plain : escape (codes "dev") ≡ codes "dev"
unfolding escape_byte
dev-plain = refl

blank-plain : escape (32 ∷ []) ≡ 32 ∷ []
unfolding escape_byte
blank-plain = refl

io-plain : escape (codes "io ") ≡ codes "io "
unfolding escape_byte
io-plain = refl

space-plain : escape (codes "nospace ") ≡ codes "nospace "
unfolding escape_byte
space-plain = refl

word-plain : (n : ℕ) → n < 2 ^ 32 → escape (codes "dev" ++ decimal n) ≡ codes "dev" ++ decimal n
word-plain n small = both-plain (codes "dev") (decimal n) dev-plain (decimal-plain n (omega arith))

pub plain_io : (n count : ℕ) → n < 2 ^ 32 → count < 2 ^ 64 → StaysInJson (fault_text (Io (record { 0 = n }) count))
plain_io n count small counted = plain-of (fault_text (Io (record { 0 = n }) count))
    (both-plain (codes "io ") ((codes "dev" ++ decimal n) ++ 32 ∷ decimal count) io-plain
    (both-plain (codes "dev" ++ decimal n) (32 ∷ decimal count) (word-plain n small)
    (both-plain (32 ∷ []) (decimal count) blank-plain (decimal-plain count counted))))

pub plain_space : (n : ℕ) → n < 2 ^ 32 → StaysInJson (fault_text (NoSpace (record { 0 = n })))
plain_space n small = plain-of (fault_text (NoSpace (record { 0 = n }))) (both-plain (codes "nospace ") (codes "dev" ++ decimal n) space-plain (word-plain n small))

joined : (c id e p n : List ℕ) → c ++ ((id ++ (e ++ p)) ++ n) ≡ (c ++ id) ++ (e ++ (p ++ n))
joined c id e p n =
    ap (λ bytes. c ++ bytes) (append_assoc id (e ++ p) n ∙ ap (λ bytes. id ++ bytes) (append_assoc e p n))
    ∙ sym (append_assoc c id (e ++ (p ++ n)))

-- a name between its quotation marks
abbrev quoted_name : EventName → List ℕ
quoted_name name =
    codes ",\"event\":\"" ++ ((event_word name ++ codes "\"") ++ codes ",\"timestamp\":{\"microseconds\":-1,\"seconds\":-1}}")

-- as its parts stand in one another
nested : (job : JobLine) (name : EventName) (fault : Option Fault) (offset : ℕ) → StaysInJson job.id → IsPlainFault fault
    → 32 ∷ event_line job name fault offset
    ≡ codes " {\"data\":{\"device\":\"" ++ (((job.id ++ codes "\"") ++ (error_part fault ++ progress_part job offset)) ++ quoted_name name)
unfolding escape_byte
nested job name None offset plain ok =
    let id = stays job.id plain in
    let kind = kind-plain job.kind in
    let word = name-plain name in
    let zero = decimal_digit 0 (omega arith) in
    let one = decimal_digit 1 (omega arith) in
    rw (id, kind, word, zero, one) refl
nested job name (Some fault) offset plain ok =
    let id = stays job.id plain in
    let error = stays (fault_text fault) ok in
    let kind = kind-plain job.kind in
    let word = name-plain name in
    let zero = decimal_digit 0 (omega arith) in
    let one = decimal_digit 1 (omega arith) in
    rw (id, error, kind, word, zero, one) refl

pub event_text_parts : (job : JobLine) (name : EventName) (fault : Option Fault) (offset : ℕ) → StaysInJson job.id → IsPlainFault fault
    → 32 ∷ event_line job name fault offset ≡ event_parts job name fault offset
event_text_parts job name fault offset plain ok =
    nested job name fault offset plain ok
    ∙ ap (λ bytes. codes " {\"data\":{\"device\":\"" ++ (((job.id ++ codes "\"") ++ (error_part fault ++ progress_part job offset)) ++ bytes))
    (ap (λ bytes. codes ",\"event\":\"" ++ bytes) (append_assoc (event_word name) (codes "\"") (codes ",\"timestamp\":{\"microseconds\":-1,\"seconds\":-1}}")))
    ∙ joined (codes " {\"data\":{\"device\":\"") (job.id ++ codes "\"") (error_part fault) (progress_part job offset) (name_part name)

-- one text behind another
pub appends_both : (a b c : Written) (x y : List ℕ) (n m : ℕ) → Appends a b x n → Appends b c y m → Appends a c (x ++ y) (n + m)
appends_both a b c x y n m first then = record {
  bytes = then.bytes ∙ ap (λ text. text ++ y) first.bytes ∙ append_assoc a.bytes x y;
  room = let one = first.room in let two = then.room in omega arith;
  memory = let one = first.memory in let two = then.memory in omega arith;
}

-- the words of a fault, each behind a blank
pub blanked_fault : (fault : Fault) → blanked (fault_words fault) ≡ 32 ∷ fault_text fault
blanked_fault (Io dev count) = rw (append-nil (decimal count)) refl
blanked_fault (NoSpace dev) = rw (append-nil (decimal dev.0)) refl

-- words, and one more
pub blanked_more : (words : List (List ℕ)) (word : List ℕ) → blanked (words ++ word ∷ []) ≡ blanked words ++ 32 ∷ word
blanked_more words word = flat_map-append (λ w. 32 ∷ w) words (word ∷ []) ∙ rw (append-nil word) refl

-- the words of kinds are short
pub short_kind : (kind : JobKind) → length (kind_text kind) ≤ 6
short_kind Stream = omega arith
short_kind Commit = omega arith
short_kind Mirror = omega arith
short_kind Backup = omega arith
