use Rattle.std.proofs.Common.{rules}
use Rattle.std.specs.Prelude.{not}
use Rattle.std.proofs.lemmas.Fn.{filter_same}
use Rattle.blk_graph.specs.Edges.{same_parent}
use Rattle.blk_graph.proofs.edit.drop_parent.Goals as goal

pub returns-clause-items : goal.returns-clause-items
returns-clause-items c =
    filter_same _ (λ edge. not (same_parent edge.parent c.args.parent.now)) _ (λ x b f' t. search rules) c.args.edges.now.items c.retain.new.self.items
    c.retain.ensures.filtered
