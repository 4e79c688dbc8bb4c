use Rattle.std.proofs.Common.{ap, ◌∙◌, get_or}
use Rattle.blk_graph.specs.Permissions.{idle_uses}
use Rattle.blk_graph.proofs.StillLemmas.{get_or-replicate}
use Rattle.blk_graph.proofs.refresh.turn.Goals as goal

pub join_all-requires-clause-idle : goal.join_all-requires-clause-idle
join_all-requires-clause-idle c = λ node h.
    ap (λ xs. get_or xs node idle_uses) c.idle_table-above.ensures ∙ get_or-replicate 64 node idle_uses
