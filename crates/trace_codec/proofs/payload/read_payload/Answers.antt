use Rattle.std.proofs.Common.{inl, inr}
use Rattle.trace_codec.proofs.HexLemmas.{not_payload}
use Rattle.trace_codec.proofs.payload.read_payload.Goals as goal
use Rattle.trace_codec.proofs.payload.read_payload.Goals.{then-count-eq0-via-then-count-eq0, then-count-eq0-via-else-count-eq0+then-count-gt-MAX_LENGTH}

pub returns-then-count-eq0-clause-value : goal.returns-then-count-eq0-clause-value
returns-then-count-eq0-clause-value c =
    elim c.then-count-eq0.branch [
      | then-count-eq0-via-then-count-eq0 w ↦ not_payload c.args.word.now (inl w.if-count-eq0.true)
      | then-count-eq0-via-else-count-eq0+then-count-gt-MAX_LENGTH w ↦ not_payload c.args.word.now (inr w.if-count-gt-MAX_LENGTH.true)
    ]
