-- The lines of a script.
use Rattle.std.specs.Prelude.{ℕ, ◌+◌, ◌==◌, Bool, true, false, if◌then◌else◌, List, [], ◌∷◌, Option, Some, None}
use Rattle.blk_base.specs.Written.{Written}
use Rattle.trace_codec.specs.declared.awaiting.Await.{Await}
use Rattle.trace_codec.specs.declared.order.Order.{Order as OrderOf}
use Rattle.trace_codec.specs.declared.order.Order.TheVariants.{Give, Watch}
use Rattle.trace_codec.specs.Awaits.{await_of, seen_await}
use Rattle.trace_codec.specs.Trace.{lines_of}

-- a line that isn't passed over, by its number: a command as it is given, or a wait
abbrev pub Order : Type 0
Order = OrderOf (List ℕ)

-- its texts as bytes
abbrev pub seen_order : OrderOf Written → Order
seen_order (Give line text) = Give line text.bytes
seen_order (Watch line what) = Watch line (seen_await what)

-- an empty line is passed over, and one that begins with `#`
abbrev pub is_passed : List ℕ → Bool
is_passed [] = true
is_passed (byte ∷ bytes) = byte == 35

-- every other is a wait, or given as it is
abbrev pub order_by : ℕ → List ℕ → Option (Await (List ℕ)) → Order
order_by number line None = Give number line
order_by number line (Some what) = Watch number what

abbrev pub order_in : List (List ℕ) → ℕ → List ℕ → Option Order
order_in guests number line =
    if is_passed line then None else Some (order_by number line (await_of guests line))

abbrev pub with_order : Option Order → List Order → List Order
with_order None orders = orders
with_order (Some order) orders = order ∷ orders

abbrev pub orders_from : List (List ℕ) → ℕ → List (List ℕ) → List Order
orders_from guests number [] = []
orders_from guests number (line ∷ lines) =
    with_order (order_in guests number line) (orders_from guests (number + 1) lines)

-- lines are numbered from 1
unfoldable pub orders_of : List (List ℕ) → List ℕ → List Order
orders_of guests text = orders_from guests 1 (lines_of text)

-- the last part of a text is a line where it isn't empty
abbrev pub is_line : List ℕ → Option (List ℕ) → Bool
is_line [] None = false
is_line line after = true

-- how many lines these parts of a text are: the last may lack its line feed
abbrev pub count_of_lines : List (List ℕ) → ℕ
count_of_lines [] = 0
count_of_lines ([] ∷ []) = 0
count_of_lines (line ∷ lines) = 1 + count_of_lines lines
