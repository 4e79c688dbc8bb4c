use Rattle.std.proofs.Common.{lit<}
use Rattle.std.proofs.lemmas.Str.Pattern.{split_once_first}
use Rattle.qblk_words.proofs.players.parts_of.Goals as goal

pub returns : goal.returns
returns c = split_once_first 61 c.args.word.now _ c.split_once.ensures.cases (lit< tt)
