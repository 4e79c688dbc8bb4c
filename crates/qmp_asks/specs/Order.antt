-- The order of refusals: each command's list of asks ascends.
use Rattle.std.specs.Prelude.{◌≡◌, ℕ, nat_le, Bool, true, ◌&&◌, List, [], ◌∷◌, ◌++◌}
use Rattle.qmp_codec.specs.Commands.{Act}
use Rattle.qmp_asks.specs.Asking.{Asking, place}
use Rattle.qmp_asks.specs.CommandAsks.{action_values, action_names, action_rest}

-- no place is below the one before it, nor the first below this
abbrev pub ascends_from : ℕ → List Asking → Bool
ascends_from least [] = true
ascends_from least (asking ∷ asks) = nat_le least (place asking) && ascends_from (place asking) asks

abbrev pub Ascends : List Asking → Type 0
Ascends asks = ascends_from 0 asks ≡ true

-- all that an action asks
abbrev pub action_asks : Act → List Asking
action_asks a = action_values a ++ action_names a ++ action_rest a
