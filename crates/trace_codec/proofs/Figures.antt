-- Numbers and bytes read as what they were written from.
use Rattle.std.proofs.Common.{◌≡◌, ℕ, ◌+◌, ◌-◌, ◌*◌, ◌/◌, ◌%◌, ◌^◌, ◌<◌, ◌≤◌, List, [], ◌∷◌, ◌++◌, length, get_or, true, false, Some, None, eqb, ltb, lt-ltb, le-ltb, ne_eqb, refl, ap, sym, ◌∙◌, arith, length-append, ⊎_elim}
use Rattle.std.specs.Prelude.{codes, decimal, ◌&&◌, nat_eq}
use Rattle.std.specs.Char.{digit_value, digit_char, is_digit}
use Rattle.std.specs.List.{AllByRecursion, starts_with}
use Rattle.std.proofs.lemmas.Bool.{cases_Bool, and_left, and_right}
use Rattle.std.proofs.lemmas.Fmt.{decimal_by_steps}
use Rattle.std.proofs.lemmas.List.Elements.{All-from_recursion}
use Rattle.std.proofs.lemmas.Str.{digit_value-digit_char}
use Rattle.trace_codec.specs.Number.{digits_after, unit_of, number_of, below}
use Rattle.trace_codec.specs.Hex.{byte_of, bytes_of_digits, payload_of, hex}
use Rattle.trace_codec.proofs.Numerals.{numeral_is, below_small}

-- a word of a line: no space and no line feed is in it
abbrev pub IsWord : List ℕ → Type 0
IsWord word = AllByRecursion (λ c. 32 < c) word

digit_is : (d : ℕ) → d < 10 → digit_value (48 + d) ≡ d
digit_is d small =
    let e : ltb d 10 ≡ true = lt-ltb d 10 small in
    let glyph : digit_char d ≡ 48 + d = rw e refl in
    ap digit_value (sym glyph) ∙ digit_value-digit_char d (omega arith)

-- one digit behind others
digit_behind : (m n d : ℕ) (word : List ℕ) → d < 10 → digits_after 10 m word ≡ Some n → digits_after 10 m (word ++ (48 + d) ∷ []) ≡ Some (n * 10 + d)
digit_behind m n d [] small h =
    let same : m ≡ n = cc in
    let e : ltb (digit_value (48 + d)) 10 ≡ true = lt-ltb _ _ (omega (arith, digit_is d small)) in
    rw (e, digit_is d small, same) refl
digit_behind m n d (c ∷ word) small h = ⊎_elim
    (λ t. rw t (digit_behind (m * 10 + digit_value c) n d word small (rw t at h)))
    (λ f. let never : None ≡ Some n = rw f at h in cc)
    (cases_Bool (is_digit c 10))

-- decimal digits that write a number
record IsFigure (n : ℕ) (word : List ℕ) : Type 0 where
  value : digits_after 10 0 word ≡ Some n
  digits : AllByRecursion (λ c. (48 ≤ c) × (c ≤ 57)) word
  some : 0 < length word

one_digit : (n : ℕ) → n < 10 → IsFigure n ((48 + n) ∷ [])
one_digit n small = record {
  value = let same : 0 * 10 + n ≡ n = omega arith in digit_behind 0 0 n [] small refl ∙ ap (λ (k : ℕ). Some k) same;
  digits = ((omega arith, omega arith), tt);
  some = omega arith;
}

all_push : (P : ℕ → Type 0) (xs : List ℕ) (x : ℕ) → AllByRecursion P xs → P x → AllByRecursion P (xs ++ x ∷ [])
all_push P [] x all one = (one, tt)
all_push P (y ∷ xs) x all one = (all.0, all_push P xs x all.1 one)

more_digits : (n : ℕ) (word : List ℕ) → 10 ≤ n → IsFigure (n / 10) word → IsFigure n (word ++ (48 + n % 10) ∷ [])
more_digits n word large f =
    let whole : n / 10 * 10 + n % 10 ≡ n = omega arith in
    record {
      value = digit_behind 0 (n / 10) (n % 10) word (omega arith) f.value ∙ ap (λ (k : ℕ). Some k) whole;
      digits = all_push (λ c. (48 ≤ c) × (c ≤ 57)) word (48 + n % 10) f.digits (omega arith, omega arith);
      some = omega (arith, length-append word ((48 + n % 10) ∷ []));
    }

figure : (n : ℕ) → n < 2 ^ 64 → IsFigure n (decimal n)
figure n small = decimal_by_steps IsFigure one_digit more_digits n small

-- digits are no `0x`, and the last of them is no unit
not_hex : (word : List ℕ) → AllByRecursion (λ c. (48 ≤ c) × (c ≤ 57)) word → starts_with nat_eq word (codes "0x") ≡ false
not_hex [] all = refl
not_hex (c ∷ []) all = and_right (eqb 48 c) false refl
not_hex (c ∷ d ∷ word) all =
    let other : eqb 120 d ≡ false = ne_eqb _ _ (omega (arith, all.1.0.1)) in
    and_right (eqb 48 c) (eqb 120 d && true) (and_left (eqb 120 d) true other)

low_no_unit : (c : ℕ) → c ≤ 57 → unit_of c ≡ None
low_no_unit c low =
    let kilo : eqb c 107 ≡ false = ne_eqb _ _ (omega arith) in
    let mega : eqb c 77 ≡ false = ne_eqb _ _ (omega arith) in
    let giga : eqb c 71 ≡ false = ne_eqb _ _ (omega arith) in
    rw (kilo, mega, giga) refl

no_unit : (word : List ℕ) → AllByRecursion (λ c. (48 ≤ c) × (c ≤ 57)) word → 0 < length word → unit_of (get_or word (length word - 1) 0) ≡ None
no_unit word all some =
    let last = All-from_recursion (λ (c : ℕ). (48 ≤ c) × (c ≤ 57)) word all (length word - 1) 0 (omega arith) in
    low_no_unit (get_or word (length word - 1) 0) last.1

-- a number that is written in decimal
pub decimal_read : (n : ℕ) → n < 2 ^ 64 → number_of (decimal n) ≡ Some n
decimal_read n small =
    let f = figure n small in
    rw (not_hex (decimal n) f.digits, no_unit (decimal n) f.digits f.some, numeral_is 10 (decimal n) f.some) f.value

pub decimal_below : (limit n : ℕ) → limit ≤ 2 ^ 64 → n < limit → below limit (number_of (decimal n)) ≡ Some n
decimal_below limit n most small = rw (decimal_read n (omega arith)) (below_small limit n small)

digits_word : (word : List ℕ) → AllByRecursion (λ c. (48 ≤ c) × (c ≤ 57)) word → IsWord word
digits_word [] all = tt
digits_word (c ∷ word) all = (omega (arith, all.0.0), digits_word word all.1)

pub decimal_word : (n : ℕ) → n < 2 ^ 64 → IsWord (decimal n)
decimal_word n small = digits_word (decimal n) (figure n small).digits

-- bytes that are written in hexadecimal digits
byte_read : (byte : ℕ) → byte < 256 → byte_of (digit_char (byte / 16)) (digit_char (byte % 16)) ≡ Some byte
byte_read byte small =
    let high = digit_value-digit_char (byte / 16) (omega arith) in
    let low = digit_value-digit_char (byte % 16) (omega arith) in
    let h : ltb (byte / 16) 16 ≡ true = lt-ltb _ _ (omega arith) in
    let l : ltb (byte % 16) 16 ≡ true = lt-ltb _ _ (omega arith) in
    let whole : byte / 16 * 16 + byte % 16 ≡ byte = omega arith in
    rw (high, low, h, l, whole) refl

pub hex_read : (bytes : List ℕ) → AllByRecursion (λ byte. byte < 256) bytes → bytes_of_digits (hex bytes) ≡ Some bytes
hex_read [] all = refl
hex_read (byte ∷ bytes) all = rw (byte_read byte all.0) (rw (hex_read bytes all.1) refl)

pub payload_read : (bytes : List ℕ) → AllByRecursion (λ byte. byte < 256) bytes → 0 < length bytes → length bytes ≤ 2097152 → payload_of (hex bytes) ≡ Some bytes
payload_read bytes all some most =
    let few : eqb (length bytes) 0 ≡ false = ne_eqb _ _ (omega arith) in
    let many : ltb 2097152 (length bytes) ≡ false = le-ltb _ _ most in
    rw (hex_read bytes all) (rw (few, many) refl)

glyph_word : (d : ℕ) → 32 < digit_char d
glyph_word d = ⊎_elim (λ t. rw t (omega arith)) (λ f. rw f (omega arith)) (cases_Bool (ltb d 10))

pub hex_word : (bytes : List ℕ) → IsWord (hex bytes)
hex_word [] = tt
hex_word (byte ∷ bytes) = (glyph_word (byte / 16), (glyph_word (byte % 16), hex_word bytes))
