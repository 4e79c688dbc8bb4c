-- The values of an object's members.
use Rattle.std.specs.Prelude.{ℕ, List, Option, Some, None, option_and_then, unwrap_or, Bool}
use Rattle.serde_json.specs.Data.{Data, Num, unsigned, negative, float}
use Rattle.serde_json.specs.Find.{get, as_str, as_bool, as_number}
use Rattle.qmp_codec.specs.declared.fields.Amount.{Amount}
use Rattle.qmp_codec.specs.declared.fields.Amount.TheVariants.{Number, Negative}

abbrev pub text_if : List ℕ → Data → Option (List ℕ)
text_if name d = option_and_then as_str (get name d)

abbrev pub flag_if : List ℕ → Data → Option Bool
flag_if name d = option_and_then as_bool (get name d)

-- numbers below zero are told apart from others, and not from one another
abbrev pub amount_of : Num → Option Amount
amount_of (unsigned n) = Some (Number n)
amount_of (negative z) = Some Negative
amount_of (float x) = None

abbrev pub amount_if : List ℕ → Data → Option Amount
amount_if name d = option_and_then amount_of (option_and_then as_number (get name d))

-- an amount that is needed, 0 where it is absent
abbrev pub amount_in : List ℕ → Data → Amount
amount_in name d = unwrap_or (amount_if name d) (Number 0)
