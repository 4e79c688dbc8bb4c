-- The places of refusals: an ask's refusal has the ask's place, and what the files decide has the place of the look at
-- which it comes.
use Rattle.std.specs.Prelude.{◌≡◌, Option, Some, None}
use Rattle.qmp_asks.specs.declared.ask.Ask.TheVariants as ask
use Rattle.qmp_asks.specs.Asking.{Asking, look_place, place}
use Rattle.qmp_rules.specs.declared.refusal.Refusal.{Refusal}
use Rattle.qmp_rules.specs.declared.told.Stopped.{Stopped}
use Rattle.qmp_rules.specs.declared.told.Told.{Told}
use Rattle.qmp_rules.specs.Table.{RunTable}
use Rattle.qmp_rules.specs.Refusals.{place_of}
use Rattle.qmp_rules.specs.Asks.{holds}

-- what the files decide stands where it is looked for
abbrev pub IsOfTable : Asking → Type 0
IsOfTable (ask.Files what) = ⊥
IsOfTable asking = Unit {0}

abbrev pub HasPlace : RunTable → Told → Asking → Type 0
HasPlace t told asking =
    IsOfTable asking → (cause : Refusal) → holds t told asking ≡ Some cause
    → place_of cause ≡ Some (place asking)

-- a refusal that the files decide, where they decide one
abbrev pub HasLookPlace : Option Stopped → Type 0
HasLookPlace None = Unit {0}
HasLookPlace (Some stopped) = place_of stopped.refusal ≡ Some (look_place stopped.look)
