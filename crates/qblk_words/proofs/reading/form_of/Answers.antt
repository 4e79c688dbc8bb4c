use Rattle.std.proofs.Common.{◌≡◌, List, ℕ, refl, sym, subst, true, false}
use Rattle.clap.specs.Words.{found_of, rows_of}
use Rattle.qblk_words.specs.Reading.{Reads}
use Rattle.qblk_words.proofs.Taking.{io-of, run-of, one-of, none_found}
use Rattle.qblk_words.proofs.reading.form_of.Goals as goal

pub returns-in-Some : goal.returns-in-Some
returns-in-Some c = λ words taken.
    let found = io-of words c.args.matches.now (rows_of (found_of c.in-Some.io.now)) taken (c.in-Some.ensures.found.0 refl) c.in-Some.ensures.rows in
    subst (λ (ws : List (List ℕ)). Reads ws c.io_of.result) (sym found.form) (c.io_of.ensures found.format found.image found.trace found.rows_are)

pub returns-in-Some-subcommand_matches : goal.returns-in-Some-subcommand_matches
returns-in-Some-subcommand_matches c = λ words taken.
    let its = c.in-Some-subcommand_matches in
    let found = run-of words c.args.matches.now (rows_of (found_of its.run'.now)) taken (its.ensures.found.0 refl) its.ensures.rows in
    subst (λ (ws : List (List ℕ)). Reads ws c.run_of.result) (sym found.form) (c.run_of.ensures found.workers found.script found.guests found.rows_are)

pub unreachable-requires : goal.unreachable-requires
unreachable-requires c =
    one-of c.requires.0 c.args.matches.now c.requires.1 (λ e. none_found (c.in-None.ensures.found.1 e)) (λ e. none_found (c.in-None-subcommand_matches.ensures.found.1 e))
