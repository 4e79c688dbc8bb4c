use Rattle.std.proofs.Common.{ap}
use Rattle.lock_probe.proofs.Replays.{written_comes}
use Rattle.lock_probe.proofs.calls.exchange.Goals as goal

pub put-requires-clause-opened : goal.put-requires-clause-opened
put-requires-clause-opened g c = written_comes _ _ c.take-turn.result.world.log _ _ (ap (λ r. r.value) c.swap-answer.ensures.new) (ap (λ r. r.log) c.swap-answer.ensures.new)
