use Rattle.std.proofs.Common.{◌≡◌, rules, subst}
use Rattle.std.specs.Prelude.{Err}
use Rattle.qblk_words.specs.Reading.{IsNoForm, Reads}
use Rattle.qblk_words.specs.Words.{texts_in}
use Rattle.qblk_words.specs.declared.words.WordsStop.{WordsStop}
use Rattle.qblk_words.specs.declared.words.WordsStop.TheVariants.{Usage}
use Rattle.qblk_run.proofs.program.qblk.Goals as goal

pub returns-in-Err-Usage-clause-run : goal.returns-in-Err-Usage-clause-run
returns-in-Err-Usage-clause-run g c = λ cast form.
    let is : c.in-Err-Usage.field-0 ≡ Usage = search rules in
    let none : IsNoForm (texts_in c.args.words.now) = subst (λ (stop : WordsStop). Reads (texts_in c.args.words.now) (Err stop)) is c.in-Err-Usage.ensures in
    absurd (none.run cast form)
