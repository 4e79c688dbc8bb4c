-- What the files tell decides a refusal of an addition only where its look is reached.
use Rattle.std.proofs.Common.{◌≡◌, ◌≢◌, ℕ, ◌≤◌, ◌<◌, Bool, true, false, List, [], ◌∷◌, refl, sym, ◌∙◌, ap, subst, arith, Option, Some, None}
use Rattle.std.specs.Prelude.{◌==◌, ◌&&◌, ◌||◌, not, is_none, nat_lt, if◌then◌else◌}
use Rattle.std.proofs.lemmas.Bool.{and_parts, eq-eqb, false≢true, ltb-true}
use Rattle.qmp_asks.specs.declared.ask.Ask.TheVariants as ask
use Rattle.qmp_rules.specs.declared.refusal.Refusal.{Refusal}
use Rattle.qmp_rules.specs.declared.refusal.Refusal.TheVariants.{Aborted}
use Rattle.qmp_asks.specs.declared.look.Look.{Look}
use Rattle.qmp_asks.specs.declared.look.Look.TheVariants as look
use Rattle.qmp_rules.specs.declared.told.Stopped.{Stopped}
use Rattle.qmp_rules.specs.declared.told.Told.{Told}
use Rattle.qmp_rules.specs.Table.{RunTable}
use Rattle.qmp_rules.specs.Refusals.{place_of, or_else}
use Rattle.qmp_asks.specs.Asking.{Asking, place, same_look}
use Rattle.qmp_rules.specs.Asks.{first_unmet_ask, holds, told_at}
use Rattle.qmp_rules.proofs.PlaceLemmas.{has_place}
use Rattle.flat_machine.specs.Sights.{order_of}
use Rattle.flat_machine.proofs.Asked.{NoneHolds}
use Rattle.world_parts.specs.Adding.{probe}

-- ---- lengths, sizes and dirty bytes refuse nothing

pub holds-told : (t : RunTable) (told : Told) (length size : Option ℕ) (dirty : List ℕ) (asking : Asking)
    → holds t (record told { length = length; size = size; dirty = dirty }) asking ≡ holds t told asking
unfolding holds
holds-told t told length size dirty (ask.Files what) = refl
holds-told t told length size dirty (ask.Empty node) = refl
holds-told t told length size dirty _ = refl

pub first-told : (t : RunTable) (told : Told) (length size : Option ℕ) (dirty : List ℕ) (asks : List Asking)
    → first_unmet_ask t (record told { length = length; size = size; dirty = dirty }) asks ≡ first_unmet_ask t told asks
first-told t told length size dirty [] = refl
first-told t told length size dirty (asking ∷ asks) =
    rw (holds-told t told length size dirty asking, first-told t told length size dirty asks) refl

-- ---- asks that files don't answer

-- of the line and the table, and none that always refuses
abbrev pub is_quiet : Asking → Bool
is_quiet (ask.Files what) = false
is_quiet (ask.Empty node) = false
is_quiet ask.Abort = false
is_quiet _ = true

quiet-same : (t : RunTable) (a b : Told) (asking : Asking) → is_quiet asking ≡ true → holds t a asking ≡ holds t b asking
unfolding holds
quiet-same t a b (ask.Files what) quiet = absurd (false≢true quiet)
quiet-same t a b (ask.Empty node) quiet = absurd (false≢true quiet)
quiet-same t a b ask.Abort quiet = absurd (false≢true quiet)
quiet-same t a b _ quiet = refl

-- none of them has the place of an abort
not-last : (asking : Asking) → is_quiet asking ≡ true → (place asking == 29) ≡ false
not-last (ask.Files what) quiet = absurd (false≢true quiet)
not-last ask.Abort quiet = absurd (false≢true quiet)
not-last _ quiet = refl

of-table : (t : RunTable) (told : Told) (asking : Asking) → is_quiet asking ≡ true → (cause : Refusal)
    → holds t told asking ≡ Some cause → place_of cause ≡ Some (place asking)
of-table t told (ask.Files what) quiet = absurd (false≢true quiet)
of-table t told asking quiet = has_place t told asking tt

pub never-aborted : (t : RunTable) (told : Told) (asking : Asking) → is_quiet asking ≡ true → holds t told asking ≢ Some Aborted
never-aborted t told asking quiet = λ e.
    let placed : Some 29 ≡ Some (place asking) = of-table t told asking quiet Aborted e in
    let same : place asking ≡ 29 = cc placed in
    false≢true (sym (not-last asking quiet) ∙ eq-eqb (place asking) 29 same)

-- ---- looks before another

same-look : (a b : Look) → same_look a b ≡ true → a ≡ b
same-look look.Begin look.Begin is = refl
same-look look.End look.End is = refl
same-look look.File look.File is = refl
same-look look.Image look.Image is = refl
same-look look.Backing look.Backing is = refl
same-look look.Size look.Size is = refl
same-look look.Format look.Format is = refl
same-look _ _ is = absurd (false≢true is)

pub look-itself : (a : Look) → same_look a a ≡ true
look-itself look.Begin = refl
look-itself look.End = refl
look-itself look.File = refl
look-itself look.Image = refl
look-itself look.Backing = refl
look-itself look.Size = refl
look-itself look.Format = refl

sooner-differs : (a b : Look) → nat_lt (order_of a) (order_of b) ≡ true → same_look a b ≡ false
sooner-differs a b sooner = by_test (same_look a b) refl
  where
    by_test : (t : Bool) → same_look a b ≡ t → same_look a b ≡ false
    by_test false e = e
    by_test true e =
        let less : order_of b < order_of b =
        ltb-true (order_of b) (order_of b) (subst (λ (l : Look). nat_lt (order_of l) (order_of b) ≡ true) (same-look a b e) sooner) in
        absurd (omega (arith, less))

abbrev pub is_sooner : Look → Asking → Bool
is_sooner what (ask.Files other) = nat_lt (order_of other) (order_of what)
is_sooner what _ = false

-- what the files tell stands at a look or behind it
abbrev pub IsFrom : ℕ → Option Stopped → Type 0
IsFrom n None = Unit {0}
IsFrom n (Some stopped) = n ≤ order_of stopped.look

-- they tell nothing at a look
abbrev pub is_silent_at : Told → Asking → Bool
is_silent_at told (ask.Files other) = is_none (told_at other told.stopped)
is_silent_at told _ = true

-- nor at any before this one
abbrev pub is_silent : Look → Told → List Asking → Bool
is_silent what told [] = true
is_silent what told (asking ∷ asks) = (not (is_sooner what asking) || is_silent_at told asking) && is_silent what told asks

-- so it is of files that tell at that look or behind it
sooner-nothing : (what other : Look) (stopped : Option Stopped) → IsFrom (order_of what) stopped → nat_lt (order_of other) (order_of what) ≡ true
    → is_none (told_at other stopped) ≡ true
sooner-nothing what other None from sooner = refl
sooner-nothing what other (Some stopped) from sooner = by_test (same_look other stopped.look) refl
  where
    by_test : (t : Bool) → same_look other stopped.look ≡ t → is_none (told_at other (Some stopped)) ≡ true
    by_test false e = rw e refl
    by_test true e =
        let same : other ≡ stopped.look = same-look other stopped.look e in
        let less : order_of other < order_of what = ltb-true (order_of other) (order_of what) sooner in
        let more : order_of what ≤ order_of other = subst (λ (l : Look). order_of what ≤ order_of l) (sym same) from in
        absurd (omega (arith, less, more))

pub silent-from : (what : Look) (told : Told) → IsFrom (order_of what) told.stopped → (asks : List Asking) → is_silent what told asks ≡ true
silent-from what told from [] = refl
silent-from what told from (asking ∷ asks) = rw (at_ask asking, silent-from what told from asks) refl
  where
    by_sooner : (other : Look) (t : Bool) → nat_lt (order_of other) (order_of what) ≡ t → (not t || is_none (told_at other told.stopped)) ≡ true
    by_sooner other false e = refl
    by_sooner other true e = sooner-nothing what other told.stopped from e

    at_ask : (other : Asking) → (not (is_sooner what other) || is_silent_at told other) ≡ true
    at_ask (ask.Files other) = by_sooner other (nat_lt (order_of other) (order_of what)) refl
    at_ask _ = refl

-- what a stop at this look doesn't refuse
abbrev pub passes : Look → Asking → Bool
passes what asking = is_quiet asking || is_sooner what asking

-- those before the first other one
abbrev pub passed_part : Look → List Asking → List Asking
passed_part what [] = []
passed_part what (asking ∷ asks) = if passes what asking then asking ∷ passed_part what asks else []

-- which is this look
abbrev pub is_look : Look → Asking → Bool
is_look what (ask.Files other) = same_look other what
is_look what _ = false

abbrev pub looks_at : Look → List Asking → Bool
looks_at what [] = false
looks_at what (asking ∷ asks) = if passes what asking then looks_at what asks else is_look what asking

module _ (t : RunTable) (what : Look) where
  silent-same : (told : Told) (other : Look) → nat_lt (order_of other) (order_of what) ≡ true → is_none (told_at other told.stopped) ≡ true
      → told_at other told.stopped ≡ told_at other (probe what).stopped
  silent-same told other sooner silent = rw (sooner-differs other what sooner) (by_told (told_at other told.stopped) silent)
    where
      by_told : (found : Option Refusal) → is_none found ≡ true → found ≡ None
      by_told None is = refl
      by_told (Some cause) is = absurd (false≢true is)

  passed-same : (told : Told) (asking : Asking) → passes what asking ≡ true → (not (is_sooner what asking) || is_silent_at told asking) ≡ true
      → holds t told asking ≡ holds t (probe what) asking
  unfolding holds
  passed-same told (ask.Files other) passed silent = silent-same told other passed (rw passed at silent)
  passed-same told (ask.Empty node) passed silent = absurd (false≢true passed)
  passed-same told ask.Abort passed silent = absurd (false≢true passed)
  passed-same told _ passed silent = refl

  never-passed : (asking : Asking) → passes what asking ≡ true → holds t (probe what) asking ≢ Some Aborted
  unfolding holds
  never-passed (ask.Files other) passed = λ is.
      let none : None ≡ Some Aborted = rw (sooner-differs other what passed) at is in
      absurd (cc none)
  never-passed (ask.Empty node) passed = absurd (false≢true passed)
  never-passed ask.Abort passed = absurd (false≢true passed)
  never-passed asking passed = never-aborted t (probe what) asking refl

-- ---- looks that are reached and that aren't

probed : (t : RunTable) (what : Look) (asking : Asking) → is_look what asking ≡ true → holds t (probe what) asking ≡ Some Aborted
unfolding holds
probed t what (ask.Files other) is = rw is refl
probed t what _ is = absurd (false≢true is)

module _ (t : RunTable) (what : Look) where
  -- one ask before the rest
  pass-over : (asking : Asking) (asks : List Asking) (found : Option Refusal) → holds t (probe what) asking ≡ found
      → or_else (holds t (probe what) asking) (first_unmet_ask t (probe what) asks) ≢ Some Aborted → (told : Told) → holds t told asking ≡ found
      → (first_unmet_ask t (probe what) asks ≢ Some Aborted → first_unmet_ask t told asks ≡ first_unmet_ask t (probe what) asks)
      → or_else (holds t told asking) (first_unmet_ask t told asks) ≡ or_else (holds t (probe what) asking) (first_unmet_ask t (probe what) asks)
  pass-over asking asks (Some cause) e not told same rest = rw (e, same) refl
  pass-over asking asks None e not told same rest = rw (e, same) (rest (λ is. not (rw e is)))

  past : (asking : Asking) (asks : List Asking) (b : Bool) → passes what asking ≡ b
      → (if b then looks_at what asks else is_look what asking) ≡ true
      → or_else (holds t (probe what) asking) (first_unmet_ask t (probe what) asks) ≢ Some Aborted → (told : Told)
      → (not (is_sooner what asking) || is_silent_at told asking) ≡ true → (looks_at what asks ≡ true → first_unmet_ask t (probe what) asks ≢ Some Aborted → first_unmet_ask t told asks ≡ first_unmet_ask t (probe what) asks)
      → or_else (holds t told asking) (first_unmet_ask t told asks) ≡ or_else (holds t (probe what) asking) (first_unmet_ask t (probe what) asks)
  past asking asks true passed later not told silent rest =
      pass-over asking asks (holds t (probe what) asking) refl not told (passed-same t what told asking passed silent) (rest later)
  past asking asks false passed here not told silent rest = absurd (not (rw (probed t what asking here) refl))

  -- the first refusal stands before the look, whatever the files tell there or behind
  pub unreached : (asks : List Asking) → looks_at what asks ≡ true → first_unmet_ask t (probe what) asks ≢ Some Aborted
      → (told : Told) → is_silent what told asks ≡ true → first_unmet_ask t told asks ≡ first_unmet_ask t (probe what) asks
  unreached [] at unmet told silent = absurd (false≢true at)
  unreached (asking ∷ asks) at unmet told silent =
      let parts = and_parts (not (is_sooner what asking) || is_silent_at told asking) (is_silent what told asks) silent in
      past asking asks (passes what asking) refl at unmet told parts.0 (λ later none. unreached asks later none told parts.1)

  met : (asking : Asking) (asks : List Asking) → passes what asking ≡ true → (found : Option Refusal) → holds t (probe what) asking ≡ found
      → or_else (holds t (probe what) asking) (first_unmet_ask t (probe what) asks) ≡ Some Aborted → (told : Told) → holds t told asking ≡ found
      → (first_unmet_ask t (probe what) asks ≡ Some Aborted → NoneHolds t told (passed_part what asks))
      → (holds t told asking ≡ None) × NoneHolds t told (passed_part what asks)
  met asking asks passed (Some cause) e is told same rest =
      let stops : or_else (Some cause) (first_unmet_ask t (probe what) asks) ≡ Some Aborted = rw e at is in
      absurd (never-passed t what asking passed (e ∙ stops))
  met asking asks passed None e is told same rest = (same, rest (rw e at is))

  up-to : (asking : Asking) (asks : List Asking) (b : Bool) → passes what asking ≡ b
      → (if b then looks_at what asks else is_look what asking) ≡ true
      → or_else (holds t (probe what) asking) (first_unmet_ask t (probe what) asks) ≡ Some Aborted → (told : Told)
      → (not (is_sooner what asking) || is_silent_at told asking) ≡ true
      → (looks_at what asks ≡ true → first_unmet_ask t (probe what) asks ≡ Some Aborted → NoneHolds t told (passed_part what asks))
      → NoneHolds t told (if b then asking ∷ passed_part what asks else [])
  up-to asking asks true passed later is told silent rest =
      met asking asks passed (holds t (probe what) asking) refl is told (passed-same t what told asking passed silent) (rest later)
  up-to asking asks false passed here is told silent rest = tt

  -- all that stands before it is met
  pub reached : (asks : List Asking) → looks_at what asks ≡ true → first_unmet_ask t (probe what) asks ≡ Some Aborted
      → (told : Told) → is_silent what told asks ≡ true → NoneHolds t told (passed_part what asks)
  reached [] at is told silent = absurd (false≢true at)
  reached (asking ∷ asks) at is told silent =
      let parts = and_parts (not (is_sooner what asking) || is_silent_at told asking) (is_silent what told asks) silent in
      up-to asking asks (passes what asking) refl at is told parts.0 (λ later found. reached asks later found told parts.1)

-- ---- what refuses where a look is reached

-- the asks behind it
abbrev pub behind_look : Look → List Asking → List Asking
behind_look what [] = []
behind_look what (asking ∷ asks) = if passes what asking then behind_look what asks else asks

module _ (t : RunTable) (what : Look) (told : Told) where
  told-here : (asking : Asking) → is_look what asking ≡ true → holds t told asking ≡ told_at what told.stopped
  unfolding holds
  told-here (ask.Files other) is = ap (λ (l : Look). told_at l told.stopped) (same-look other what is)
  told-here _ is = absurd (false≢true is)

  abbrev Refuses : List Asking → Option Refusal → Type 0
  Refuses asks found = found ≡ or_else (told_at what told.stopped) (first_unmet_ask t told asks)

  past-one : (asking : Asking) (asks : List Asking) → passes what asking ≡ true → (found : Option Refusal) → holds t (probe what) asking ≡ found
      → or_else (holds t (probe what) asking) (first_unmet_ask t (probe what) asks) ≡ Some Aborted
      → (not (is_sooner what asking) || is_silent_at told asking) ≡ true
      → (first_unmet_ask t (probe what) asks ≡ Some Aborted → Refuses (behind_look what asks) (first_unmet_ask t told asks))
      → Refuses (behind_look what asks) (or_else (holds t told asking) (first_unmet_ask t told asks))
  past-one asking asks passed (Some cause) e is silent rest =
      let stops : or_else (Some cause) (first_unmet_ask t (probe what) asks) ≡ Some Aborted = rw e at is in
      absurd (never-passed t what asking passed (e ∙ stops))
  past-one asking asks passed None e is silent rest =
      rw (passed-same t what told asking passed silent ∙ e) (rest (rw e at is))

  look-past : (asking : Asking) (asks : List Asking) (b : Bool) → passes what asking ≡ b
      → (if b then looks_at what asks else is_look what asking) ≡ true
      → or_else (holds t (probe what) asking) (first_unmet_ask t (probe what) asks) ≡ Some Aborted
      → (not (is_sooner what asking) || is_silent_at told asking) ≡ true
      → (looks_at what asks ≡ true → first_unmet_ask t (probe what) asks ≡ Some Aborted → Refuses (behind_look what asks) (first_unmet_ask t told asks))
      → Refuses (if b then behind_look what asks else asks) (or_else (holds t told asking) (first_unmet_ask t told asks))
  look-past asking asks true passed later is silent rest = past-one asking asks passed (holds t (probe what) asking) refl is silent (rest later)
  look-past asking asks false passed here is silent rest = ap (λ (found : Option Refusal). or_else found (first_unmet_ask t told asks)) (told-here asking here)

  -- what the files tell there, or else what stands behind
  pub first-reached : (asks : List Asking) → looks_at what asks ≡ true → first_unmet_ask t (probe what) asks ≡ Some Aborted
      → is_silent what told asks ≡ true
      → first_unmet_ask t told asks ≡ or_else (told_at what told.stopped) (first_unmet_ask t told (behind_look what asks))
  first-reached [] at is silent = absurd (false≢true at)
  first-reached (asking ∷ asks) at is silent =
      let parts = and_parts (not (is_sooner what asking) || is_silent_at told asking) (is_silent what told asks) silent in
      look-past asking asks (passes what asking) refl at is parts.0 (λ later found. first-reached asks later found parts.1)

-- ---- a stop at a look that is asked for refuses

abbrev pub has_look : Look → List Asking → Bool
has_look what [] = false
has_look what (asking ∷ asks) = if is_look what asking then true else has_look what asks

stopped-there : (t : RunTable) (told : Told) (what : Look) (cause : Refusal) (asking : Asking)
    → told.stopped ≡ Some (record { look = what; refusal = cause }) → is_look what asking ≡ true → holds t told asking ≡ Some cause
unfolding holds
stopped-there t told what cause (ask.Files other) stops is = rw (stops, is) refl
stopped-there t told what cause _ stops is = absurd (false≢true is)

pub stop-refuses : (t : RunTable) (told : Told) (what : Look) (cause : Refusal) (asks : List Asking)
    → told.stopped ≡ Some (record { look = what; refusal = cause }) → has_look what asks ≡ true → first_unmet_ask t told asks ≢ None
stop-refuses t told what cause [] stops has = λ none. false≢true has
stop-refuses t told what cause (asking ∷ asks) stops has = λ none. by_look (is_look what asking) refl has none (stop-refuses t told what cause asks stops)
  where
    by_rest : (found : Option Refusal) → or_else found (first_unmet_ask t told asks) ≡ None → (first_unmet_ask t told asks ≡ None → ⊥) → ⊥
    by_rest None none rest = rest none
    by_rest (Some other) none rest = absurd (cc none)

    by_look : (b : Bool) → is_look what asking ≡ b → (if b then true else has_look what asks) ≡ true
        → or_else (holds t told asking) (first_unmet_ask t told asks) ≡ None → (has_look what asks ≡ true → first_unmet_ask t told asks ≢ None) → ⊥
    by_look true here later none rest =
        let found : or_else (Some cause) (first_unmet_ask t told asks) ≡ None = rw (stopped-there t told what cause asking stops here) at none in
        absurd (cc found)
    by_look false here later none rest = by_rest (holds t told asking) none (rest later)
