use Rattle.std.proofs.Common.{ℕ, ◌*◌, ◌∙◌, List, ap, length, arith}
use Rattle.q2_format.specs.Bytes.{number_at}
use Rattle.q2_refs.proofs.Decoding.{number_within}
use Rattle.q2_refs.proofs.loading.decode_counts.Goals as goal

pub returns : goal.returns
returns c = λ k below.
    let block : List ℕ = c.args.block.now in
    c.read_u16_into.ensures k (omega arith)
    ∙ number_within block 2 (2 * k) (2 * length c.args.counts.now) (omega arith)
    ∙ ap (λ (at : ℕ). number_at block at 2) (omega arith)
