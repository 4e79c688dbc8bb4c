-- How a trace writes numbers.
use Rattle.std.specs.Prelude.{ℕ, ◌+◌, ◌-◌, ◌*◌, List, [], ◌∷◌, length, take, drop, slice_index, codes, nat_eq, nat_lt, ◌==◌, if◌then◌else◌, Option, Some, None}
use Rattle.std.specs.Option.{option_map}
use Rattle.std.specs.List.{starts_with}
use Rattle.std.specs.Char.{digit_value, is_digit}

-- what a value that is there leads to
infixl 10 ◌>>=◌
abbrev pub ◌>>=◌ : {A B : Type 0} → Option A → (A → Option B) → Option B
None >>= f = None
(Some x) >>= f = f x

-- the number of some digits that follow the digits of n
abbrev pub digits_after : ℕ → ℕ → List ℕ → Option ℕ
digits_after base n [] = Some n
digits_after base n (c ∷ digits) =
    if is_digit c base then digits_after base (n * base + digit_value c) digits else None

-- one digit of the base or more, of either case, and nothing else
abbrev pub numeral : ℕ → List ℕ → Option ℕ
numeral base [] = None
numeral base (c ∷ digits) = digits_after base 0 (c ∷ digits)

-- what a letter behind decimal digits multiplies by: k, M and G
abbrev pub unit_of : ℕ → Option ℕ
unit_of c =
    if c == 107 then Some 1024 else if c == 77 then Some 1048576 else if c == 71
    then Some 1073741824 else None

-- decimal digits, the last byte being no digit but a unit where it is one
abbrev pub decimal_in : Option ℕ → List ℕ → Option ℕ
decimal_in None word = numeral 10 word
decimal_in (Some unit) word = option_map (λ n. n * unit) (numeral 10 (take (length word - 1) word))

-- the number that a word writes: `0x` and hexadecimal digits, or decimal digits and at most one unit
abbrev pub number_of : List ℕ → Option ℕ
number_of word =
    if starts_with nat_eq word (codes "0x") then numeral 16 (drop 2 word)
    else decimal_in (unit_of (slice_index word (length word - 1))) word

-- a number below the limit, and no other
abbrev pub below : ℕ → Option ℕ → Option ℕ
below limit None = None
below limit (Some n) = if nat_lt n limit then Some n else None
