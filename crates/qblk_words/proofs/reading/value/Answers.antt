use Rattle.std.proofs.Common.{◌≡◌, ◌∙◌, sym}
use Rattle.clap.proofs.WalkLemmas.{first_value-rows}
use Rattle.clap.specs.Words.{found_of}
use Rattle.qblk_words.proofs.Taking.{some_is, none_is}
use Rattle.qblk_words.proofs.reading.value.Goals as goal

pub returns-in-Some : goal.returns-in-Some
returns-in-Some c = λ v has. some_is (c.in-Some.ensures ∙ (first_value-rows (found_of c.args.matches.now) c.args.id.now ∙ has))

pub returns-in-None : goal.returns-in-None
returns-in-None c = λ v has. none_is (c.in-None.ensures ∙ (first_value-rows (found_of c.args.matches.now) c.args.id.now ∙ has))
