-- Commands that are carried out: no transaction is one.
use Rattle.std.proofs.Common.{◌≡◌, refl, sym, ap, true, false, Option, Some, None, is_some, not}
use Rattle.qmp_codec.specs.declared.command.Command.{Command}
use Rattle.qmp_codec.specs.declared.command.Command.TheVariants as command
use Rattle.qmp_codec.specs.Commands.{Cmd}
use Rattle.qmp_rules.specs.declared.refusal.Refusal.{Refusal}
use Rattle.qmp_rules.specs.declared.told.Told.{Told}
use Rattle.qmp_rules.specs.Table.{RunTable}
use Rattle.qmp_rules.specs.Refusals.{refused, or_else}
use Rattle.qmp_asks.specs.CommandAsks.{command_name, is_built}
use Rattle.qmp_rules.specs.Edits.{edits_of}
use Rattle.qmp_rules.specs.Answers.{told_none, rewires, conflict_after, refusal_behind, refusal_to, command_edits, unbuilt}
use Rattle.qmp_rules.specs.declared.refusal.Refusal.TheVariants as refusal

pub behind_built : (t : RunTable) (told : Told) (c : Cmd) → is_built c ≡ true
    → refusal_behind t told c ≡ conflict_after (rewires c) t (edits_of t told_none c)
behind_built t told (command.Transaction c) h = cc
behind_built t told _ h = refl

pub edits_built : (t : RunTable) (told : Told) (c : Cmd) → is_built c ≡ true → command_edits t told c ≡ edits_of t told c
edits_built t told (command.Transaction c) h = cc
edits_built t told _ h = refl

pub else_some : (found later : Option Refusal) → is_some found ≡ true → or_else found later ≡ found
else_some None later h = cc
else_some (Some cause) later h = refl

pub else_none : (found later : Option Refusal) → is_some found ≡ false → or_else found later ≡ later
else_none None later h = refl
else_none (Some cause) later h = cc

pub built_by : (c : Cmd) → is_some (unbuilt c) ≡ false → is_built c ≡ true
built_by c h = elim (is_built c) as (λ b. is_some (refused (not b) (refusal.UnknownCommand (command_name c))) ≡ false → b ≡ true) [
  | true ↦ λ e. refl
  | false ↦ λ e. cc
] h

pub built_none : (c : Cmd) → None ≡ unbuilt c → is_built c ≡ true
built_none c h = built_by c (ap is_some (sym h))

-- what is not refused is carried out
pub built_unless : (t : RunTable) (told : Told) (c : Cmd) → refusal_to t told c ≡ None → is_built c ≡ true
unfolding refusal_to
built_unless t told c h = elim (is_built c)
    as (λ b. (later : Option Refusal) → or_else (refused (not b) (refusal.UnknownCommand (command_name c))) later ≡ None → b ≡ true) [
      | true ↦ λ later e. refl
      | false ↦ λ later e. cc
    ] _ h
