use Rattle.std.proofs.Common.{◌≡◌, ◌∙◌, ap}
use Rattle.std.specs.Prelude.{ℕ, List, ◌++◌, take, option_map}
use Rattle.qblk_core.proofs.Sending.{front-sent}
use Rattle.qblk_core.proofs.output.send.Goals as goal

pub returns-in-Err-clause-failed : goal.returns-in-Err-clause-failed
returns-in-Err-clause-failed g c =
    let partly = c.in-Err.ensures.partly in
    let bytes : c.as_bytes.result.now ≡ c.args.line.now.bytes = c.as_bytes.ensures.value ∙ c.as_str.ensures in
    front-sent (g.K.Sink.sent c.args.out.now) (g.K.Sink.sent c.put.new.self) c.args.line.now.bytes partly.0 (g.K.Sink.faults c.args.out.now) (g.K.Sink.faults c.put.new.self)
    (partly.1 ∙ ap (λ (bs : List ℕ). option_map (λ s. s ++ take partly.0 bs) (g.K.Sink.sent c.args.out.now)) bytes) c.in-Err.ensures.failed
