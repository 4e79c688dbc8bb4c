-- Two nodes that a job uses.
use Rattle.std.specs.Prelude.{[], ◌∷◌, All}
use Rattle.std.proofs.lemmas.List.Elements.{All-nil, All-cons}
use Rattle.blk_graph.specs.Graph.{Graph, HasNode}
use Rattle.blk_nodes.specs.declared.nodes.jobs.NodeUse.{NodeUse}

pub both_there : (graph : Graph) (one other : NodeUse) → HasNode graph one.node → HasNode graph other.node
    → All (λ (used : NodeUse). HasNode graph used.node) (one ∷ other ∷ [])
both_there graph one other is_first is_second =
    All-cons (λ (used : NodeUse). HasNode graph used.node) one (other ∷ []) is_first
    (All-cons (λ (used : NodeUse). HasNode graph used.node) other [] is_second (All-nil (λ (used : NodeUse). HasNode graph used.node)))
