use Rattle.std.proofs.Common.{refl}
use Rattle.blk_history.proofs.OneGuest.{one-history}
use Rattle.qblk_core.specs.Run.{machine_of, guest_names}
use Rattle.qblk_core.proofs.laws.runs_on_images_have_one_history.Goals as goal

pub returns : goal.returns
returns c = λ format bytes ops. one-history (machine_of format bytes) guest_names ops refl
