use Rattle.std.proofs.Common.{lit<}
use Rattle.std.proofs.lemmas.Str.Pattern.{split_once_first}
use Rattle.trace_codec.proofs.script.cut_first.Goals as goal

pub returns : goal.returns
returns c = split_once_first 10 c.args.text.now _ c.split_once.ensures.cases (lit< tt)
