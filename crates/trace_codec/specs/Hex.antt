-- How a trace writes bytes: two hexadecimal digits each.
use Rattle.std.specs.Prelude.{ℕ, ◌+◌, ◌*◌, ◌/◌, ◌%◌, List, [], ◌∷◌, length, flat_map, nat_lt, ◌==◌, ◌&&◌, ◌||◌, if◌then◌else◌, Option, Some, None}
use Rattle.std.specs.Char.{digit_value, digit_char, is_digit}
use Rattle.trace_codec.specs.Number.{◌>>=◌}

-- the byte of two digits, each of either case
abbrev pub byte_of : ℕ → ℕ → Option ℕ
byte_of high low =
    if is_digit high 16 && is_digit low 16 then Some (digit_value high * 16 + digit_value low)
    else None

-- the bytes of pairs of digits; none where a digit is left over
abbrev pub bytes_of_digits : List ℕ → Option (List ℕ)
bytes_of_digits [] = Some []
bytes_of_digits (digit ∷ []) = None
bytes_of_digits (high ∷ low ∷ digits) = do
  byte ← byte_of high low
  bytes ← bytes_of_digits digits
  Some (byte ∷ bytes)

-- a request writes from 1 byte to 2 MiB
abbrev pub payload_of : List ℕ → Option (List ℕ)
payload_of word = do
  bytes ← bytes_of_digits word
  if (length bytes == 0) || nat_lt 2097152 (length bytes) then None else Some bytes

-- the lower-case digits of a byte, and of bytes
abbrev pub hex_byte : ℕ → List ℕ
hex_byte byte = digit_char (byte / 16) ∷ digit_char (byte % 16) ∷ []

abbrev pub hex : List ℕ → List ℕ
hex bytes = flat_map hex_byte bytes
