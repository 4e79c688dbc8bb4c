-- What is told of dirty granules decides no answer but what the query prints.
use Rattle.std.proofs.Common.{◌≡◌, ℕ, true, List, [], ◌∷◌, refl, ap, ◌∙◌, Option, Some, None}
use Rattle.qmp_codec.specs.Commands.{Act, Cmd}
use Rattle.qmp_codec.specs.declared.command.Command.TheVariants as command
use Rattle.qmp_asks.specs.declared.ask.Ask.TheVariants as ask
use Rattle.qmp_rules.specs.declared.refusal.Refusal.{Refusal}
use Rattle.qmp_rules.specs.declared.told.Told.{Told}
use Rattle.qmp_rules.specs.Table.{RunTable}
use Rattle.qmp_asks.specs.Asking.{Asking}
use Rattle.qmp_rules.specs.Asks.{holds, first_unmet_ask}
use Rattle.qmp_rules.specs.Changes.{all_changed}
use Rattle.qmp_asks.specs.CommandAsks.{asks_of, action_rest}
use Rattle.qmp_rules.specs.Edits.{edits_of, action_edits}
use Rattle.qmp_rules.specs.Answers.{answer, answer_by, actions_refusal, group_of, refusal_behind, refusal_to, command_edits, returned}
use Rattle.world_parts.specs.Carrying.{with_counts, prints_counts}

module _ (told : Told) (ds : List ℕ) where
  one-counted : (t : RunTable) (a : Asking) → holds t (with_counts told ds) a ≡ holds t told a
  unfolding holds
  one-counted t (ask.Files what) = refl
  one-counted t (ask.Empty node) = refl
  one-counted t _ = refl

  asks-counted : (t : RunTable) (asks : List Asking) → first_unmet_ask t (with_counts told ds) asks ≡ first_unmet_ask t told asks
  asks-counted t [] = refl
  asks-counted t (a ∷ asks) = rw (one-counted t a, asks-counted t asks) refl

  actions-counted : (t : RunTable) (group : Option ℕ) (actions : List Act) → actions_refusal t (with_counts told ds) group actions ≡ actions_refusal t told group actions
  actions-counted t group [] = refl
  actions-counted t group (a ∷ actions) =
      rw (asks-counted t (action_rest a), actions-counted (all_changed t (action_edits t group a)) group actions) refl

  behind-counted : (t : RunTable) (c : Cmd) → refusal_behind t (with_counts told ds) c ≡ refusal_behind t told c
  behind-counted t (command.Transaction c) = actions-counted t (group_of t c) c.actions
  behind-counted t _ = refl

  pub refusal-counted : (t : RunTable) (c : Cmd) → refusal_to t (with_counts told ds) c ≡ refusal_to t told c
  unfolding refusal_to
  refusal-counted t c = rw (asks-counted t (asks_of c), behind-counted t c) refl

  edits-counted : (t : RunTable) (c : Cmd) → command_edits t (with_counts told ds) c ≡ command_edits t told c
  unfolding edits_of
  edits-counted t c = refl

  returned-counted : (t : RunTable) (c : Cmd) → (prints_counts c ≡ true → ds ≡ told.dirty) → returned t (with_counts told ds) c ≡ returned t told c
  returned-counted t (command.QueryNamedBlockNodes flat) same = rw (same refl) refl
  returned-counted t _ same = refl

  by-counted : (t : RunTable) (c : Cmd) (found : Option Refusal) → (prints_counts c ≡ true → ds ≡ told.dirty) → answer_by t (with_counts told ds) c found ≡ answer_by t told c found
  by-counted t c None same = rw (edits-counted t c, returned-counted t c same) refl
  by-counted t c (Some cause) same = refl

  pub answer-counted : (t : RunTable) (c : Cmd) → (prints_counts c ≡ true → ds ≡ told.dirty) → answer t (with_counts told ds) c ≡ answer t told c
  unfolding answer
  answer-counted t c same =
      ap (answer_by t (with_counts told ds) c) (refusal-counted t c) ∙ by-counted t c (refusal_to t told c) same

  changes-by : (t : RunTable) (c : Cmd) (found : Option Refusal) → (answer_by t (with_counts told ds) c found).changes ≡ (answer_by t told c found).changes
  changes-by t c None = edits-counted t c
  changes-by t c (Some cause) = refl

  pub changes-counted : (t : RunTable) (c : Cmd) → (answer t (with_counts told ds) c).changes ≡ (answer t told c).changes
  unfolding answer
  changes-counted t c =
      ap (λ (found : Option Refusal). (answer_by t (with_counts told ds) c found).changes) (refusal-counted t c) ∙ changes-by t c (refusal_to t told c)

-- any two counts serve
pub answers-counted : (told : Told) (a b : List ℕ) (t : RunTable) (c : Cmd) → (prints_counts c ≡ true → a ≡ b) → answer t (with_counts told a) c ≡ answer t (with_counts told b) c
answers-counted told a b t c same = answer-counted (with_counts told b) a t c same
