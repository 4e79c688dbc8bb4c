-- Why a line is none that a trace may have, where a few words say it.
use Rattle.std.specs.Prelude.{ℕ, ◌-◌, nat_eq, nat_lt, ◌==◌, Bool, false, ◌&&◌, ◌||◌, if◌then◌else◌, List, [], ◌∷◌, length, take, drop, slice_index, codes, Option, Some, None, option_and_then, is_none, is_some, slice_get}
use Rattle.std.specs.Char.{is_ascii_alphabetic, is_ascii_digit, is_ascii_hexdigit}
use Rattle.std.specs.List.{list_all, starts_with}
use Rattle.std.specs.Str.{bytes_eq}
use Rattle.trace_codec.specs.declared.flaw.LineFlaw.{LineFlaw}
use Rattle.trace_codec.specs.declared.flaw.LineFlaw.TheVariants.{Mark, Return, Letter, Length}
use Rattle.trace_codec.specs.Line.{words_of}
use Rattle.trace_codec.specs.Number.{below, number_of, unit_of}
use Rattle.trace_codec.specs.Trace.{lines_of}

-- ---- words by their places, from 0

abbrev pub passes : (List ℕ → Bool) → Option (List ℕ) → Bool
passes test None = false
passes test (Some word) = test word

abbrev pub is_at : List (List ℕ) → ℕ → List ℕ → Bool
is_at words place text = passes (λ word. bytes_eq word text) (slice_get words place)

-- ---- single words

abbrev pub last_byte : List ℕ → ℕ
last_byte word = slice_index word (length word - 1)

-- digits, one at least
abbrev pub are_decimal : List ℕ → Bool
are_decimal word = nat_lt 0 (length word) && list_all is_ascii_digit word

abbrev pub are_hexadecimal : List ℕ → Bool
are_hexadecimal word = nat_lt 0 (length word) && list_all is_ascii_hexdigit word

-- decimal digits, and then a letter that is no unit
abbrev pub ends_in_letter : List ℕ → Bool
ends_in_letter word =
    is_ascii_alphabetic (last_byte word)
    && (is_none (unit_of (last_byte word)) && are_decimal (take (length word - 1) word))

-- `0x` and hexadecimal digits, or decimal digits and at most one unit
abbrev pub is_number : List ℕ → Bool
is_number word =
    if starts_with nat_eq word (codes "0x") then are_hexadecimal (drop 2 word)
    else if is_some (unit_of (last_byte word)) then are_decimal (take (length word - 1) word)
    else are_decimal word

-- a number above the length that a request may have
abbrev pub is_long : List ℕ → Bool
is_long word = is_number word && is_none (below 2097153 (number_of word))

-- more digits than a payload may have
abbrev pub is_long_payload : List ℕ → Bool
is_long_payload digits = nat_lt 4194304 (length digits)

-- ---- a line's numbers

abbrev pub lettered : List (List ℕ) → ℕ → Bool
lettered words place = passes ends_in_letter (slice_get words place)

-- `read OFF LEN`, `discard OFF LEN`, `await N`, `bytes OFF HEX`, `write -z OFF LEN` or `write -P BYTE OFF LEN`
abbrev pub has_letter : List (List ℕ) → Bool
has_letter words =
    if is_at words 0 (codes "read") || is_at words 0 (codes "discard")
    then lettered words 1 || lettered words 2
    else if is_at words 0 (codes "await") || is_at words 0 (codes "bytes") then lettered words 1
    else if is_at words 0 (codes "write") && is_at words 1 (codes "-z")
    then lettered words 2 || lettered words 3
    else if is_at words 0 (codes "write") && is_at words 1 (codes "-P")
    then lettered words 2 || (lettered words 3 || lettered words 4)
    else false

abbrev pub has_length : List (List ℕ) → Bool
has_length words =
    if is_at words 0 (codes "read") || is_at words 0 (codes "discard")
    then passes is_long (slice_get words 2)
    else if is_at words 0 (codes "bytes") then passes is_long_payload (slice_get words 2)
    else if is_at words 0 (codes "write") && is_at words 1 (codes "-z")
    then passes is_long (slice_get words 3)
    else if is_at words 0 (codes "write") && is_at words 1 (codes "-P")
    then passes is_long (slice_get words 4)
    else false

-- ---- a line

-- the first of these that it has: a byte order mark at its beginning, a carriage return at its end, a number that ends in a
-- letter, a length that no request has
abbrev pub flaw_of : List ℕ → Option LineFlaw
flaw_of line =
    if starts_with nat_eq line (239 ∷ 187 ∷ 191 ∷ []) then Some Mark
    else if last_byte line == 13 then Some Return
    else if has_letter (words_of line) then Some Letter
    else if has_length (words_of line) then Some Length
    else None

-- of the line with this number, from 1
unfoldable pub flaw_at : List ℕ → ℕ → Option LineFlaw
flaw_at text line = option_and_then flaw_of (slice_get (lines_of text) (line - 1))

abbrev pub flaw_text : LineFlaw → List ℕ
flaw_text Mark = codes "begins with a byte order mark"
flaw_text Return = codes "ends in a carriage return"
flaw_text Letter = codes "a number ends in a letter other than k, M and G"
flaw_text Length = codes "a length above 2,097,152"
