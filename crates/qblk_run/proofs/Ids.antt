-- Ids of jobs are names: they stand in JSON as they are, and are short.
use Rattle.std.proofs.Common.{◌≡◌, ◌≢◌, ℕ, ◌≤◌, Bool, true, false, List, [], ◌∷◌, ◌++◌, length, refl, sym, ◌∙◌, ap, arith, ne_eqb, le-ltb}
use Rattle.std.specs.Prelude.{◌&&◌, nat_le}
use Rattle.std.specs.List.{list_all}
use Rattle.std.proofs.lemmas.Bool.{false≢true, leb-true}
use Rattle.json.specs.Print.{escape_byte, escape}
use Rattle.blk_history.specs.Line.{StaysInJson}
use Rattle.qmp_asks.specs.Naming.{begins_with_letter, is_name, is_name_byte}

both : (a b : Bool) → (a && b) ≡ true → (a ≡ true) × (b ≡ true)
both true b is = (refl, is)
both false b is = absurd (false≢true is)

high : (c : ℕ) → is_name_byte c ≡ true → 32 ≤ c
high c is = grind (arith, is)

byte-plain : (c : ℕ) → is_name_byte c ≡ true → escape_byte c ≡ c ∷ []
unfolding escape_byte
byte-plain c is =
    let quote = ne_eqb c 34 (other 34 refl) in
    let backslash = ne_eqb c 92 (other 92 refl) in
    let backspace = ne_eqb c 8 (other 8 refl) in
    let page = ne_eqb c 12 (other 12 refl) in
    let feed = ne_eqb c 10 (other 10 refl) in
    let return = ne_eqb c 13 (other 13 refl) in
    let tab = ne_eqb c 9 (other 9 refl) in
    let large = le-ltb c 32 (high c is) in
    rw (quote, backslash, backspace, page, feed, return, tab, large) refl
  where
    other : (y : ℕ) → is_name_byte y ≡ false → c ≢ y
    other y none same = false≢true (sym none ∙ ap is_name_byte (sym same) ∙ is)

bytes-plain : (text : List ℕ) → list_all is_name_byte text ≡ true → escape text ≡ text
bytes-plain [] all = refl
bytes-plain (c ∷ text) all =
    let parts = both (is_name_byte c) (list_all is_name_byte text) all in
    let first = byte-plain c parts.0 in
    let rest = bytes-plain text parts.1 in
    ap (λ (bytes : List ℕ). bytes ++ escape text) first ∙ ap (λ (bytes : List ℕ). c ∷ bytes) rest

pub name-json : (text : List ℕ) → is_name text ≡ true → StaysInJson text
name-json text is =
    let parts = both (nat_le (length text) 31) (list_all is_name_byte text) (both (begins_with_letter text) _ is).1 in
    ap (λ (bytes : List ℕ). 34 ∷ (bytes ++ 34 ∷ [])) (bytes-plain text parts.1)

pub name-short : (text : List ℕ) → is_name text ≡ true → length text ≤ 31
name-short text is = leb-true (length text) 31 (both (nat_le (length text) 31) (list_all is_name_byte text) (both (begins_with_letter text) _ is).1).0
