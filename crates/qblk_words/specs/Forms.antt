-- The forms of the program's words, as `clap` is told of them and finds them.
use Rattle.std.specs.Prelude.{◌≡◌, ℕ, true, false, List, [], ◌∷◌, Option, Some, None, codes}
use Rattle.clap.specs.Walk.{Row, Rule}
use Rattle.clap.specs.Simple.{App, Shape, new_app, new_rule, new_shape, subcommand_of, subcommand_rows_of, with_rule, with_subcommand}
use Rattle.clap.specs.Faults.{fault_of}
use Rattle.clap.specs.declared.parser.matches.ArgMatches.{ArgMatches}
use Rattle.clap.specs.declared.parser.matches.ValueSource.TheVariants.{CommandLine}
use Rattle.clap.specs.declared.builder.value_parser.Reading.TheVariants.{AsWritten}
use Rattle.qblk_words.specs.Words.{none_flags}

-- ---- the command

-- a positional argument of one word
abbrev pub one_word : List ℕ → Rule
one_word id = record (new_rule id) { required = true }

-- one of up to 16 words, or of none
abbrev pub guest_words : Rule
guest_words = record (new_rule (codes "guests")) {
  range = Some (record { start_inclusive = 1; end_inclusive = 16 });
}

-- `io FORMAT IMAGE TRACE`
abbrev pub io_app : App
io_app = with_rule (with_rule (with_rule (new_app (codes "io")) (one_word (codes "format")))
    (one_word (codes "image"))) (one_word (codes "trace"))

-- `run WORKERS SCRIPT GUEST=TRACE ..`
abbrev pub run_app : App
run_app = with_rule (with_rule (with_rule (new_app (codes "run")) (one_word (codes "workers")))
    (one_word (codes "script"))) guest_words

-- no flags, no help
abbrev pub bare_app : App
bare_app = record (new_app (codes "qblk")) {
  top = record (new_shape (codes "qblk")) {
    no_binary_name = true;
    disable_help_flag = true;
    disable_help_subcommand = true;
    disable_version_flag = true;
    subcommand_required = true;
  };
}

unfoldable pub program_app : App
program_app = with_subcommand (with_subcommand bare_app io_app.top) run_app.top

-- ---- what is found

-- the values of an argument
abbrev pub row : List ℕ → List (List ℕ) → Row
row id values = record {
  id = id;
  values = values;
  count = None;
  source = Some CommandLine;
  reading = AsWritten;
}

abbrev pub io_rows : List ℕ → List ℕ → List ℕ → List Row
io_rows format image trace =
    row (codes "format") (format ∷ []) ∷ row (codes "image") (image ∷ [])
    ∷ row (codes "trace") (trace ∷ []) ∷ []

abbrev pub guest_rows : List (List ℕ) → List Row
guest_rows [] = []
guest_rows (g ∷ gs) = row (codes "guests") (g ∷ gs) ∷ []

abbrev pub run_rows : List ℕ → List ℕ → List (List ℕ) → List Row
run_rows workers script guests =
    row (codes "workers") (workers ∷ []) ∷ row (codes "script") (script ∷ []) ∷ guest_rows guests

-- the words were taken, and gave these matches
pub record IsTaken (words : List (List ℕ)) (m : ArgMatches) : Type 0 where
  pub plain : none_flags words ≡ true
  pub none : fault_of program_app words ≡ []
  pub found : subcommand_rows_of m ≡ subcommand_of program_app words
