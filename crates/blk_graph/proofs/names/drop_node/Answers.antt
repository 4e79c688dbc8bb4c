use Rattle.std.proofs.Common.{rules}
use Rattle.std.specs.Prelude.{◌==◌, not}
use Rattle.std.proofs.lemmas.Fn.{filter_same}
use Rattle.blk_graph.proofs.names.drop_node.Goals as goal

pub returns-clause-items : goal.returns-clause-items
returns-clause-items c =
    filter_same _ (λ id. not (id == c.args.node)) _ (λ x b f' t. search rules) c.args.order.now.items c.retain.new.self.items
    c.retain.ensures.filtered
