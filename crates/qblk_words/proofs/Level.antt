-- A form's positional arguments, and how its refusals follow from the walk over its words.
use Rattle.std.proofs.Common.{◌≡◌, ◌∙◌, ℕ, true, false, refl, ap, List, [], ◌∷◌, Some, None, codes}
use Rattle.clap.specs.Walk.{Row, Rule, Text, Walk, walk, walk_from, nothing_held, settled, finished}
use Rattle.clap.specs.Simple.{new_rule}
use Rattle.clap.specs.Kinds.{Kinds, or_else}
use Rattle.clap.specs.Faults.{walk_fault, level_fault, settle_fault, defaults_fault, check_fault}
use Rattle.clap.specs.declared.builder.action.ArgAction.TheVariants.{Set}
use Rattle.clap.specs.declared.builder.value_parser.Reading.TheVariants.{AsWritten}
use Rattle.clap.specs.declared.builder.value_parser.ValueParser.TheVariants as vp
use Rattle.clap.specs.declared.parser.matches.ValueSource.TheVariants.{CommandLine}
use Rattle.qblk_words.proofs.Top.{form}

-- the argument of one word at a place
abbrev pub word_at : Text → ℕ → Rule
word_at id place = record (new_rule id) {
  index = Some place;
  action = Some Set;
  range = Some (record { start_inclusive = 1; end_inclusive = 1 });
  parser = Some vp.String;
  required = true;
}

-- the kinds of refusal, by where the walk ends and what it refused
abbrev pub level_kinds : Text → List Rule → Walk → Kinds → Kinds
level_kinds name rules v walking =
    or_else walking (or_else (settle_fault rules false v.held)
    (or_else (defaults_fault (settled rules v.held).rows rules)
    (check_fault (form name rules) (finished rules v.held) false)))

pub by_level : (name : Text) (rules : List Rule) (words : List Text)
    → level_fault (form name rules) [] nothing_held words false []
    ≡ level_kinds name rules (walk rules [] nothing_held words) (walk_fault (form name rules) [] (walk_from nothing_held) words)
by_level name rules words = refl
