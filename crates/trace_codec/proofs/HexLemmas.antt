-- Bytes that are read pair by pair.
use Rattle.std.proofs.Common.{◌≡◌, ℕ, ◌+◌, ◌*◌, ◌/◌, ◌%◌, ◌<◌, ◌≤◌, List, [], ◌∷◌, ◌++◌, Option, Some, None, length, get_or, drop, true, false, refl, ap, sym, ◌∙◌, arith, append_assoc, append-nil, length-drop, ◌⊎◌, inl, inr, eqb, ltb, eq-eqb, ne_eqb, lt-ltb, le-ltb}
use Rattle.std.specs.Option.{option_map}
use Rattle.std.proofs.lemmas.List.{drop_more}
use Rattle.trace_codec.specs.Number.{◌>>=◌}
use Rattle.trace_codec.specs.Hex.{byte_of, bytes_of_digits, payload_of}

-- bytes behind others that were read
abbrev pub joined_behind : List ℕ → Option (List ℕ) → Option (List ℕ)
joined_behind front rest = option_map (λ bytes. front ++ bytes) rest

-- the pair k of digits stands before those behind it
pair_at : (digits : List ℕ) (k : ℕ) → 2 * k + 1 < length digits →
    drop (2 * k) digits ≡ get_or digits (2 * k) 0 ∷ get_or digits (2 * k + 1) 0 ∷ drop (2 * (k + 1)) digits
pair_at digits k h =
    let next : 2 * (k + 1) ≡ 2 * k + 1 + 1 = omega arith in
    drop_more digits (2 * k) 0 (omega arith)
    ∙ ap (λ rest. get_or digits (2 * k) 0 ∷ rest) (drop_more digits (2 * k + 1) 0 h ∙ ap (λ n. get_or digits (2 * k + 1) 0 ∷ drop n digits) (sym next))

byte_more : (front : List ℕ) (byte : ℕ) (rest : Option (List ℕ)) → joined_behind (front ++ byte ∷ []) rest ≡ joined_behind front (rest >>= (λ bytes. Some (byte ∷ bytes)))
byte_more front byte None = refl
byte_more front byte (Some bytes) = ap (λ (l : List ℕ). Some l) (append_assoc front (byte ∷ []) bytes)

-- one pair more
pub pair_read : (digits front : List ℕ) (k byte : ℕ) → 2 * k + 1 < length digits → byte_of (get_or digits (2 * k) 0) (get_or digits (2 * k + 1) 0) ≡ Some byte →
    joined_behind (front ++ byte ∷ []) (bytes_of_digits (drop (2 * (k + 1)) digits)) ≡ joined_behind front (bytes_of_digits (drop (2 * k) digits))
pair_read digits front k byte h e = rw (pair_at digits k h) (rw e (byte_more front byte (bytes_of_digits (drop (2 * (k + 1)) digits))))

-- a pair that is no byte
pub pair_refused : (digits front : List ℕ) (k : ℕ) → 2 * k + 1 < length digits → byte_of (get_or digits (2 * k) 0) (get_or digits (2 * k + 1) 0) ≡ None →
    joined_behind front (bytes_of_digits (drop (2 * k) digits)) ≡ bytes_of_digits digits → bytes_of_digits digits ≡ None
pair_refused digits front k h e all = let none : bytes_of_digits (drop (2 * k) digits) ≡ None = rw (pair_at digits k h) (rw e refl) in rw none at (sym all)

-- all pairs were read
rest_even : (front rest : List ℕ) → length rest ≡ 0 → joined_behind front (bytes_of_digits rest) ≡ Some front
rest_even front [] h = ap (λ (l : List ℕ). Some l) (append-nil front)
rest_even front (d ∷ rest) h = absurd (omega arith)

rest_odd : (front rest : List ℕ) → length rest ≡ 1 → joined_behind front (bytes_of_digits rest) ≡ None
rest_odd front [] h = absurd (omega arith)
rest_odd front (d ∷ []) h = refl
rest_odd front (d ∷ e ∷ rest) h = absurd (omega arith)

pub pairs_end : (digits front : List ℕ) → length digits % 2 ≡ 0 → joined_behind front (bytes_of_digits (drop (2 * (length digits / 2)) digits)) ≡ bytes_of_digits digits → Some front ≡ bytes_of_digits digits
pairs_end digits front even all = sym (rest_even front (drop (2 * (length digits / 2)) digits) (omega (arith, length-drop (2 * (length digits / 2)) digits))) ∙ all

pub digit_left : (digits front : List ℕ) → (length digits % 2 ≡ 0 → ⊥) → joined_behind front (bytes_of_digits (drop (2 * (length digits / 2)) digits)) ≡ bytes_of_digits digits → bytes_of_digits digits ≡ None
digit_left digits front odd all = sym all ∙ rest_odd front (drop (2 * (length digits / 2)) digits) (omega (arith, length-drop (2 * (length digits / 2)) digits))

-- each byte takes two digits
two_more : (digits bytes : List ℕ) (byte : Option ℕ) (rest : Option (List ℕ)) → ((found : List ℕ) → rest ≡ Some found → length digits ≡ 2 * length found) →
    (byte >>= (λ b. rest >>= (λ found. Some (b ∷ found)))) ≡ Some bytes → length digits + 2 ≡ 2 * length bytes
two_more digits bytes None rest ih h = cc
two_more digits bytes (Some b) None ih h = cc
two_more digits bytes (Some b) (Some found) ih h = let same : b ∷ found ≡ bytes = cc in omega (arith, ih found refl, ap length same)

pub two_each : (digits bytes : List ℕ) → bytes_of_digits digits ≡ Some bytes → length digits ≡ 2 * length bytes
two_each [] bytes h = let same : [] ≡ bytes = cc in omega (arith, ap length same)
two_each (d ∷ []) bytes h = cc
two_each (a ∷ b ∷ digits) bytes h = omega (arith, two_more digits bytes (byte_of a b) (bytes_of_digits digits) (two_each digits) h)

-- no payload has so few or so many digits
no_payload : (word : List ℕ) (found : Option (List ℕ)) → bytes_of_digits word ≡ found → (length word / 2 ≡ 0) ⊎ (2097152 < length word / 2) → payload_of word ≡ None
no_payload word None e h = rw e refl
no_payload word (Some bytes) e (inl few) =
    let none : eqb (length bytes) 0 ≡ true = eq-eqb _ _ (omega (arith, two_each word bytes e)) in
    rw e (rw none refl)
no_payload word (Some bytes) e (inr many) =
    let some : eqb (length bytes) 0 ≡ false = ne_eqb _ _ (omega (arith, two_each word bytes e)) in
    let large : ltb 2097152 (length bytes) ≡ true = lt-ltb _ _ (omega (arith, two_each word bytes e)) in
    rw e (rw (some, large) refl)

pub not_payload : (word : List ℕ) → (length word / 2 ≡ 0) ⊎ (2097152 < length word / 2) → None ≡ payload_of word
not_payload word h = sym (no_payload word (bytes_of_digits word) refl h)

-- where the digits are neither, the payload is their bytes
is_payload : (word : List ℕ) (found : Option (List ℕ)) → bytes_of_digits word ≡ found → 0 < length word / 2 → length word / 2 ≤ 2097152 → payload_of word ≡ found
is_payload word None e some most = rw e refl
is_payload word (Some bytes) e some most =
    let none : eqb (length bytes) 0 ≡ false = ne_eqb _ _ (omega (arith, two_each word bytes e)) in
    let small : ltb 2097152 (length bytes) ≡ false = le-ltb _ _ (omega (arith, two_each word bytes e)) in
    rw e (rw (none, small) refl)

pub payload_is : (word : List ℕ) (found : Option (List ℕ)) → found ≡ bytes_of_digits word → 0 < length word / 2 → length word / 2 ≤ 2097152 → found ≡ payload_of word
payload_is word found e some most = sym (is_payload word found (sym e) some most)
