-- Names: which texts are some, and those that nodes get by themselves.
use Rattle.std.specs.Prelude.{ℕ, ◌==◌, ◌&&◌, ◌||◌, not, nat_le, Bool, true, false, List, [], ◌∷◌, ◌++◌, length, codes, Option, unwrap_or}
use Rattle.std.specs.List.{list_all, list_any}
use Rattle.std.specs.Char.{is_ascii_alphabetic, is_ascii_alphanumeric}

-- a letter, a digit, `-`, `.` or `_`
abbrev pub is_name_byte : ℕ → Bool
is_name_byte c = is_ascii_alphanumeric c || (c == 45 || (c == 46 || c == 95))

abbrev pub begins_with_letter : List ℕ → Bool
begins_with_letter [] = false
begins_with_letter (c ∷ rest) = is_ascii_alphabetic c

-- a name of a node, device, job or bitmap: 1 to 31 bytes, of which the first is a letter
abbrev pub is_name : List ℕ → Bool
is_name text = begins_with_letter text && (nat_le (length text) 31 && list_all is_name_byte text)

-- a name of a file: 1 to 1,023 bytes and no zero byte; every text is UTF-8
abbrev pub is_file_name : List ℕ → Bool
is_file_name text =
    not (length text == 0) && (nat_le (length text) 1023 && not (list_any (λ c. c == 0) text))

-- the name of a file node that is made with the node over it
abbrev pub inline_name : List ℕ → Option (List ℕ) → List ℕ
inline_name node own = unwrap_or own (codes "#" ++ node)
