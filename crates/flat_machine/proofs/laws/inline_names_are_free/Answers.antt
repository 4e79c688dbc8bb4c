use Rattle.flat_machine.proofs.OwnNames.{inline-free}
use Rattle.flat_machine.proofs.laws.inline_names_are_free.Goals as goal

pub returns : goal.returns
returns c = inline-free
