-- Asks one by one, until the first that is not met.
use Rattle.std.proofs.Common.{◌≡◌, ℕ, ◌+◌, ◌<◌, ◌≤◌, List, [], ◌∷◌, ◌++◌, length, get_or, drop, Option, Some, None, refl, sym, ap, ◌∙◌}
use Rattle.std.specs.Borrow.{Bor}
use Rattle.std.proofs.lemmas.List.{at_drop_more, at_drop_all}
use Rattle.qmp_asks.specs.declared.ask.Ask.{Ask}
use Rattle.qmp_rules.specs.declared.refusal.Refusal.{Refusal}
use Rattle.qmp_rules.specs.declared.told.Told.{Told}
use Rattle.qmp_rules.specs.Table.{RunTable}
use Rattle.qmp_rules.specs.Refusals.{or_else}
use Rattle.qmp_asks.specs.Asking.{Asking}
use Rattle.qmp_rules.specs.Asks.{holds, first_unmet_ask}
use Rattle.qmp_asks.specs.Seen.{seen_ask, seen_asks}

abbrev pub GivenAsk : Type 0
GivenAsk = Ask (Bor (List ℕ))

-- what is left of the list begins with this ask
first_here : (t : RunTable) (told : Told) (asks : List GivenAsk) (i : ℕ) (a : GivenAsk) → i < length asks → a ≡ get_or asks i a
    → first_unmet_ask t told (seen_asks (drop i asks))
    ≡ or_else (holds t told (seen_ask a)) (first_unmet_ask t told (seen_asks (drop (i + 1) asks)))
first_here t told asks i a within is =
    at_drop_more (λ rest. first_unmet_ask t told (seen_asks rest)) asks i a within
    ∙ ap (λ b. or_else (holds t told (seen_ask b)) (first_unmet_ask t told (seen_asks (drop (i + 1) asks)))) (sym is)

pub first_met : (t : RunTable) (told : Told) (asks : List GivenAsk) (i : ℕ) (a : GivenAsk) → i < length asks
    → a ≡ get_or asks i a → None ≡ holds t told (seen_ask a)
    → first_unmet_ask t told (seen_asks (drop i asks)) ≡ first_unmet_ask t told (seen_asks (drop (i + 1) asks))
first_met t told asks i a within is looked =
    first_here t told asks i a within is
    ∙ ap (λ f. or_else f (first_unmet_ask t told (seen_asks (drop (i + 1) asks)))) (sym looked)

pub first_unmet : (t : RunTable) (told : Told) (asks : List GivenAsk) (i : ℕ) (a : GivenAsk) (cause : Refusal) → i < length asks
    → a ≡ get_or asks i a → Some cause ≡ holds t told (seen_ask a)
    → first_unmet_ask t told (seen_asks (drop i asks)) ≡ Some cause
first_unmet t told asks i a cause within is looked =
    first_here t told asks i a within is
    ∙ ap (λ f. or_else f (first_unmet_ask t told (seen_asks (drop (i + 1) asks)))) (sym looked)

pub first_end : (t : RunTable) (told : Told) (asks : List GivenAsk) (i : ℕ) → length asks ≤ i
    → first_unmet_ask t told (seen_asks (drop i asks)) ≡ None
first_end t told asks i past = at_drop_all (λ rest. first_unmet_ask t told (seen_asks rest)) asks i past

-- lists one behind the other
pub first-append : (t : RunTable) (told : Told) (xs ys : List Asking)
    → first_unmet_ask t told (xs ++ ys) ≡ or_else (first_unmet_ask t told xs) (first_unmet_ask t told ys)
first-append t told [] ys = refl
first-append t told (x ∷ xs) ys = elim (holds t told x)
    as (λ found. or_else found (first_unmet_ask t told (xs ++ ys)) ≡ or_else (or_else found (first_unmet_ask t told xs)) (first_unmet_ask t told ys)) [
      | None ↦ first-append t told xs ys
      | Some cause ↦ refl
    ]
