-- The words of the program, and of which form they are.
use Rattle.std.specs.Prelude.{◌≡◌, ℕ, Bool, true, not, ◌&&◌, ◌==◌, nat_lt, nat_le, if◌then◌else◌, Option, Some, None, List, [], ◌∷◌, length, map, codes, bytes_eq, slice_index}
use Rattle.std.specs.List.{list_any, list_all, before_first, after_first}
use Rattle.trace_codec.specs.Awaits.{is_name}
use Rattle.blk_base.specs.Written.{Written}
use Rattle.qblk_words.specs.declared.words.Format.{Format}
use Rattle.qblk_words.specs.declared.words.Format.TheVariants.{Raw, Qcow2}

abbrev pub texts_in : List Written → List (List ℕ)
texts_in words = map (λ w. w.bytes) words

-- no word of a form begins with `-`
abbrev pub is_flag : List ℕ → Bool
is_flag word = slice_index word 0 == 45

abbrev pub none_flags : List (List ℕ) → Bool
none_flags words = list_all (λ w. not (is_flag w)) words

-- a file name has 1 to 1,023 bytes, none of them zero; the first is no `-`
abbrev pub is_file_word : List ℕ → Bool
is_file_word word =
    nat_lt 0 (length word) && nat_lt (length word) 1024 && not (slice_index word 0 == 45)
    && not (list_any (λ b. b == 0) word)

-- ---- `io`

abbrev pub format_by_word : List ℕ → Option Format
format_by_word word =
    if bytes_eq word (codes "raw") then Some Raw
    else if bytes_eq word (codes "qcow2") then Some Qcow2
    else None

abbrev pub format_word : Format → List ℕ
format_word Raw = codes "raw"
format_word Qcow2 = codes "qcow2"

-- `io FORMAT IMAGE TRACE`
pub record IsIo (words : List (List ℕ)) (format : Format) (image trace : List ℕ) : Type 0 where
  pub form : words ≡ codes "io" ∷ format_word format ∷ image ∷ trace ∷ []
  pub image_name : is_file_word image ≡ true
  pub trace_name : is_file_word trace ≡ true

-- ---- `run`

-- a guest, and the file of its trace
pub record Player : Type 0 where
  pub name : List ℕ
  pub trace : List ℕ

-- `GUEST=TRACE`, cut at its first `=`
abbrev pub player_of : List ℕ → Player
player_of word = record {
  name = before_first (λ b. b == 61) word;
  trace = after_first (λ b. b == 61) word;
}

-- a file name that stands within a word, and so may begin with any byte: 1 to 1,023 bytes, none of them zero
abbrev pub is_inner_name : List ℕ → Bool
is_inner_name name =
    nat_lt 0 (length name) && nat_lt (length name) 1024 && not (list_any (λ b. b == 0) name)

-- a guest's name: the end of one called `script` would read as the script's
abbrev pub is_guest_name : List ℕ → Bool
is_guest_name name = is_name name && not (bytes_eq name (codes "script"))

-- there is an `=`: what stands before it is not the whole word
abbrev pub is_player : List ℕ → Bool
is_player word =
    nat_lt (length (player_of word).name) (length word)
    && (is_guest_name (player_of word).name && is_inner_name (player_of word).trace)

abbrev pub all_differ : List (List ℕ) → Bool
all_differ [] = true
all_differ (name ∷ names) = not (list_any (λ other. bytes_eq name other) names) && all_differ names

-- what the words name
pub record Cast : Type 0 where
  pub script : List ℕ
  pub players : List Player

-- the guests, by number
abbrev pub player_names : List Player → List (List ℕ)
player_names players = map (λ p. p.name) players

abbrev pub guests_of : Cast → List (List ℕ)
guests_of cast = player_names cast.players

abbrev pub cast_of : List ℕ → List (List ℕ) → Cast
cast_of script words = record { script = script; players = map player_of words }

-- at most 16 guests with their traces, of different names
abbrev pub are_players : List (List ℕ) → Bool
are_players words =
    nat_le (length words) 16
    && (list_all is_player words && all_differ (player_names (map player_of words)))

-- `run 1 SCRIPT GUEST=TRACE ..`
pub record IsRunOf (words : List (List ℕ)) (cast : Cast) : Type 0 where
  pub rest : List (List ℕ)
  pub form : words ≡ codes "run" ∷ codes "1" ∷ cast.script ∷ rest
  pub script_name : is_file_word cast.script ≡ true
  pub players : are_players rest ≡ true
  pub cut : cast.players ≡ map player_of rest
