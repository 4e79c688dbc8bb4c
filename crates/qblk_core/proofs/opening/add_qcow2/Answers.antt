use Rattle.std.proofs.Common.{sym, subst}
use Rattle.qblk_core.specs.Opened.{StopsImageNode}
use Rattle.qblk_core.specs.declared.opening.OpenStop.{OpenStop}
use Rattle.qblk_words.specs.declared.words.Format.TheVariants.{Qcow2}
use Rattle.qblk_core.proofs.Openings.{is-file, unopened}
use Rattle.qblk_core.proofs.opening.add_qcow2.Goals as goal

pub open_image-requires : goal.open_image-requires
open_image-requires g c = is-file c.requires.over.0 c.args.nodes.now c.args.file c.requires.over.1 c.requires.file

pub returns-in-Err-clause-err : goal.returns-in-Err-clause-err
returns-in-Err-clause-err g c =
    subst (λ (s : OpenStop). StopsImageNode Qcow2 c.args.nodes.now c.open_image.new.self s) (sym c.stop_of.ensures)
    (unopened c.requires.over.0 c.args.nodes.now c.open_image.new.self c.args.file c.in-Err.stop c.requires.over.1 c.in-Err.ensures.stop c.open_image.ensures.devices)
