use Rattle.std.proofs.Common.{ℕ, sym, subst}
use Rattle.blk_pieces.specs.Pieces.{Transfers, CanTransfer}
use Rattle.qblk_core.proofs.OneImage.{can-transfer, has-form, piece-tells, piece-disk, piece-cause, piece-faults, piece-shape, piece-one}
use Rattle.qblk_core.proofs.transfer.transfer.Given as given
use Rattle.qblk_core.proofs.transfer.transfer.Goals as goal

pub transfer-outcome-requires-clause-can : goal.transfer-outcome-requires-clause-can
transfer-outcome-requires-clause-can g c =
    let one = c.requires.one in
    subst (λ (n : ℕ). CanTransfer c.args.nodes.now n n c.args.op.now c.args.part) (sym c.requires.image)
    (can-transfer c.args.nodes.now c.args.op.now c.args.part c.edges.ensures.joined one c.requires.inside)

did : (g : given.Over) (c : goal.After-edges-2 g) → Transfers c.args.op.now c.args.nodes.now c.transfer-outcome.new.nodes 1 1 c.args.part c.transfer-outcome.result c.transfer-outcome.new.buffer
did g c =
    subst (λ (n : ℕ). Transfers c.args.op.now c.args.nodes.now c.transfer-outcome.new.nodes n n c.args.part c.transfer-outcome.result c.transfer-outcome.new.buffer)
    c.requires.image c.transfer-outcome.ensures.done

pub returns-clause-done : goal.returns-clause-done
returns-clause-done g c = did g c

pub returns-clause-one : goal.returns-clause-one
returns-clause-one g c =
    piece-one c.args.nodes.now c.transfer-outcome.new.nodes c.edges.ensures.joined c.requires.one c.args.op.now c.args.part c.transfer-outcome.result c.transfer-outcome.new.buffer
    (did g c) c.requires.inside

pub returns-clause-shape : goal.returns-clause-shape
returns-clause-shape g c =
    piece-shape c.args.nodes.now c.transfer-outcome.new.nodes c.edges.ensures.joined c.requires.one c.args.op.now c.args.part c.transfer-outcome.result c.transfer-outcome.new.buffer (did g c)

pub returns-clause-tells : goal.returns-clause-tells
returns-clause-tells g c =
    piece-tells c.args.nodes.now c.transfer-outcome.new.nodes c.edges.ensures.joined c.requires.one c.args.op.now c.args.part c.transfer-outcome.result c.transfer-outcome.new.buffer (did g c)

pub returns-clause-disk : goal.returns-clause-disk
returns-clause-disk g c =
    piece-disk c.args.nodes.now c.transfer-outcome.new.nodes c.edges.ensures.joined c.requires.one c.args.op.now c.args.part c.transfer-outcome.result c.transfer-outcome.new.buffer (did g c)

pub returns-clause-form : goal.returns-clause-form
returns-clause-form g c = has-form c.args.nodes.now c.transfer-outcome.new.nodes c.args.op.now c.args.part c.transfer-outcome.result c.transfer-outcome.new.buffer (did g c)

pub returns-clause-cause : goal.returns-clause-cause
returns-clause-cause g c =
    piece-cause c.args.nodes.now c.transfer-outcome.new.nodes c.edges.ensures.joined c.requires.one c.args.op.now c.args.part c.transfer-outcome.result c.transfer-outcome.new.buffer (did g c)

pub returns-clause-faults : goal.returns-clause-faults
returns-clause-faults g c =
    piece-faults c.args.nodes.now c.transfer-outcome.new.nodes c.edges.ensures.joined c.requires.one c.args.op.now c.args.part c.transfer-outcome.result c.transfer-outcome.new.buffer (did g c)
