use Rattle.qblk_run.proofs.Staying.{piece_stay}
use Rattle.qblk_run.proofs.Turning.{makes_piece}
use Rattle.qblk_run.proofs.events.WorldEvents.piece.Goals as goal

pub returns-clause-made : goal.returns-clause-made
returns-clause-made g c = λ f there. makes_piece c.args.self.now c.piece-outcome.new.self c.args.guest f c.piece-outcome.result there (c.piece-outcome.ensures.made f there)

pub returns-clause-stays : goal.returns-clause-stays
returns-clause-stays g c =
    piece_stay c.args.self.now c.piece-outcome.new.self c.piece-outcome.ensures.comes c.args.guest c.piece-outcome.result c.requires c.piece-outcome.ensures.made
    (λ was. c.law.ensures.whole.drains)
