use Rattle.std.proofs.Common.{◌*◌, ◌++◌, take, get_or, ap, sym, ◌∙◌, arith}
use Rattle.blk_runs.specs.Singles.{singles_text}
use Rattle.blk_runs.proofs.SingleRuns.{no-singles, sixteen-more}
use Rattle.blk_runs.proofs.vectors.write_vectors.Goals as goal

pub loop-count-init : goal.loop-count-init
loop-count-init c = no-singles _ _

pub loop-count-preserved : goal.loop-count-preserved
loop-count-preserved c =
    sixteen-more c.loop-count.count c.args.bytes.now _ _ c.loop-count.invariant (omega arith) (omega arith)
    (λ k below same. c.all_differ.ensures c.if-not-all_differ.false k below (
    ap (λ lanes. get_or lanes k 0) c.load-here.ensures ∙ same ∙ ap (λ lanes. get_or lanes k 0) (sym c.load.ensures)))
    (c.write_vector.ensures ∙ ap (λ lanes. take (5 * c.loop-count.count) c.loop-count.words ++ singles_text lanes) c.load-here.ensures)
