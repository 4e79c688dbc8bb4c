use Rattle.std.proofs.Common.{rules, ◌∙◌}
use Rattle.std.specs.Prelude.{not}
use Rattle.std.proofs.lemmas.Fn.{filter_same}
use Rattle.blk_graph.specs.Doubles.{is_double_by}
use Rattle.blk_graph.proofs.DoubleLemmas.{but_doubles-marked}
use Rattle.blk_graph.proofs.edit.drop_doubles.Goals as goal

pub returns-clause-items : goal.returns-clause-items
returns-clause-items c =
    filter_same _ (λ edge. not (is_double_by c.mark_jobs.new.marks c.args.from edge)) _ (λ x b f' t. search rules) c.args.edges.now.items c.retain.new.self.items
    c.retain.ensures.filtered
    ∙ but_doubles-marked c.args.edges.now.items c.args.from c.args.to c.mark_jobs.new.marks c.requires.differ c.requires.listed
    (rw c.as_slice.ensures.value at c.mark_jobs.ensures)
