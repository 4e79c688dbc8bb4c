-- Waits of a script, and the lines that are some.
use Rattle.std.specs.Prelude.{ℕ, ◌+◌, ◌^◌, ◌==◌, ◌&&◌, ◌||◌, nat_le, Bool, true, false, List, [], ◌∷◌, length, slice_index, codes, bytes_eq, min, is_some, if◌then◌else◌, Option, Some, None}
use Rattle.std.specs.List.{list_all}
use Rattle.std.specs.Char.{is_ascii_alphabetic, is_ascii_alphanumeric}
use Rattle.blk_base.specs.Written.{Written}
use Rattle.trace_codec.specs.declared.awaiting.Await.{Await}
use Rattle.trace_codec.specs.declared.awaiting.Await.TheVariants.{Guest, Ready, Ended}
use Rattle.trace_codec.specs.Number.{◌>>=◌, numeral, number_of, below}
use Rattle.trace_codec.specs.Line.{words_of}
use Rattle.trace_codec.specs.Trace.{lines_of}

-- its texts as bytes
abbrev pub seen_await : Await Written → Await (List ℕ)
seen_await (Guest guest requests) = Guest guest requests
seen_await (Ready id) = Ready id.bytes
seen_await (Ended id) = Ended id.bytes

-- ---- lines

-- a letter, a digit, `-`, `.` or `_`
abbrev pub is_name_byte : ℕ → Bool
is_name_byte c = is_ascii_alphanumeric c || (c == 45 || (c == 46 || c == 95))

-- a name of a job: 1 to 31 bytes, of which the first is a letter
abbrev pub is_name : List ℕ → Bool
is_name text =
    is_ascii_alphabetic (slice_index text 0)
    && (nat_le (length text) 31 && list_all is_name_byte text)

-- decimal without leading zeros, below 2^32
abbrev pub has_leading_zero : List ℕ → Bool
has_leading_zero (first ∷ second ∷ digits) = first == 48
has_leading_zero word = false

abbrev pub awaited_amount_of : List ℕ → Option ℕ
awaited_amount_of word = if has_leading_zero word then None else below (2 ^ 32) (numeral 10 word)

-- the first place of a name
abbrev pub place_from : ℕ → List ℕ → List (List ℕ) → Option ℕ
place_from k name [] = None
place_from k name (other ∷ names) =
    if bytes_eq other name then Some k else place_from (k + 1) name names

abbrev pub guest_wait : List (List ℕ) → List (List ℕ) → Option (Await (List ℕ))
guest_wait guests (name ∷ amount ∷ []) = do
  guest ← place_from 0 name guests
  requests ← awaited_amount_of amount
  Some (Guest guest requests)
guest_wait guests _ = None

-- of a job's id
abbrev pub id_in : List (List ℕ) → Option (List ℕ)
id_in (id ∷ []) = if is_name id then Some id else None
id_in _ = None

abbrev pub ready_wait : List (List ℕ) → Option (Await (List ℕ))
ready_wait words = do
  id ← id_in words
  Some (Ready id)

abbrev pub end_wait : List (List ℕ) → Option (Await (List ℕ))
end_wait words = do
  id ← id_in words
  Some (Ended id)

-- `guest NAME N`, `ready JOB` or `end JOB`
abbrev pub wait_in : List (List ℕ) → List (List ℕ) → Option (Await (List ℕ))
wait_in guests [] = None
wait_in guests (kind ∷ words) =
    if bytes_eq kind (codes "guest") then guest_wait guests words
    else if bytes_eq kind (codes "ready") then ready_wait words
    else if bytes_eq kind (codes "end") then end_wait words
    else None

abbrev pub await_in : List (List ℕ) → List (List ℕ) → Option (Await (List ℕ))
await_in guests [] = None
await_in guests (verb ∷ words) =
    if bytes_eq verb (codes "await") then wait_in guests words else None

-- the wait of a script's line, where it is one; NAME is one of these guests
unfoldable pub await_of : List (List ℕ) → List ℕ → Option (Await (List ℕ))
await_of guests line = await_in guests (words_of line)

-- ---- waits of a trace

-- `await N`, behind the first word
abbrev pub awaited_line_in : List (List ℕ) → Option ℕ
awaited_line_in (number ∷ []) = below (2 ^ 32) (number_of number)
awaited_line_in _ = None

abbrev pub trace_wait_in : List (List ℕ) → Option ℕ
trace_wait_in [] = None
trace_wait_in (verb ∷ words) = if bytes_eq verb (codes "await") then awaited_line_in words else None

-- the line of the script that a line of a trace waits for
abbrev pub trace_wait : List ℕ → Option ℕ
trace_wait line = trace_wait_in (words_of line)

-- the number of the first line that waits, where the first has this one; numbers stand still at their last value
abbrev pub first_wait_from : ℕ → List (List ℕ) → Option ℕ
first_wait_from number [] = None
first_wait_from number (line ∷ lines) =
    if is_some (trace_wait line) then Some number
    else first_wait_from (min (number + 1) 4294967295) lines

unfoldable pub first_wait_in : List ℕ → Option ℕ
first_wait_in text = first_wait_from 1 (lines_of text)
