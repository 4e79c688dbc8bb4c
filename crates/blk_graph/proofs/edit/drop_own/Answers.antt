use Rattle.std.proofs.Common.{rules}
use Rattle.std.specs.Prelude.{not}
use Rattle.std.proofs.lemmas.Fn.{filter_same}
use Rattle.blk_graph.specs.Edits.{is_filters}
use Rattle.blk_graph.proofs.edit.drop_own.Goals as goal

pub returns-clause-items : goal.returns-clause-items
returns-clause-items c =
    filter_same _ (λ edge. not (is_filters c.args.filter edge)) _ (λ x b f' t. search rules) c.args.edges.now.items c.retain.new.self.items
    c.retain.ensures.filtered
