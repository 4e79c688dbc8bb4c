use Rattle.std.proofs.Common.{refl}
use Rattle.flat_machine.proofs.ImagesChanged.{all_images_keep}
use Rattle.flat_machine.proofs.ImagesWritten.{piece_images_keep}
use Rattle.flat_machine.proofs.laws.images_stay_as_said.Goals as goal

pub returns-clause-beginning : goal.returns-clause-beginning
returns-clause-beginning c = λ o contents node. record { noted = refl; mapped = λ name file is told. absurd cc }

pub returns-clause-changes : goal.returns-clause-changes
returns-clause-changes c = all_images_keep

pub returns-clause-pieces : goal.returns-clause-pieces
returns-clause-pieces c = λ s g drive op outcome part old new stands on. piece_images_keep s g drive stands.table on op outcome part old new
