use Rattle.qblk_core.proofs.Completeness.{is-done}
use Rattle.qblk_core.proofs.laws.runs_on_good_images_are_done.Goals as goal

pub returns : goal.returns
returns c = is-done
