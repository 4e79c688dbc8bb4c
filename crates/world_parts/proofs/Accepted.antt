-- What a command had asked that nothing refuses, and which of two refusals is told.
use Rattle.std.proofs.Common.{◌≡◌, Bool, true, false, refl, Option, Some, None, inl, inr}
use Rattle.qmp_codec.specs.Commands.{Cmd}
use Rattle.qmp_rules.specs.declared.refusal.Refusal.{Refusal}
use Rattle.qmp_rules.specs.declared.told.Told.{Told}
use Rattle.qmp_rules.specs.Answers.{unbuilt, out_of_turn, refusal_to, refusal_behind}
use Rattle.qmp_rules.specs.Asks.{first_unmet_ask}
use Rattle.qmp_asks.specs.CommandAsks.{asks_of, negotiates, is_built}
use Rattle.qmp_rules.specs.Refusals.{or_else}
use Rattle.qmp_rules.specs.Table.{RunTable}
use Rattle.flat_machine.proofs.Asked.{none-both, NoneHolds, none-holds}
use Rattle.std.specs.Prelude.{◌⊎◌}

-- the asks of a command that nothing refuses
pub asked : (t : RunTable) (told : Told) (c : Cmd) → refusal_to t told c ≡ None → NoneHolds t told (asks_of c)
unfolding refusal_to
asked t told c none =
    let built = none-both (unbuilt c) _ none in
    let turn = none-both (out_of_turn (negotiates c) t.negotiated) _ built.1 in
    none-holds t told (asks_of c) (none-both (first_unmet_ask t told (asks_of c)) (refusal_behind t told c) turn.1).0

-- ---- answers

-- what is accepted is carried out so far
pub built_accepted : (t : RunTable) (told : Told) (c : Cmd) → refusal_to t told c ≡ None → is_built c ≡ true
unfolding refusal_to
built_accepted t told c none = at (is_built c) refl (none-both (unbuilt c) _ none).0
  where
    at : (b : Bool) → is_built c ≡ b → unbuilt c ≡ None → is_built c ≡ true
    at true known h = known
    at false known h = absurd (let bad : ⊥ = cc (rw known at h) in bad)

-- ---- the whole command

-- the first of two refusals
pub either-of : (a b : Option Refusal) (cause : Refusal) → or_else a b ≡ Some cause → (a ≡ Some cause) ⊎ (b ≡ Some cause)
either-of None b cause is = inr is
either-of (Some first) b cause is = inl is
