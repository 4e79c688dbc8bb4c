use Rattle.std.proofs.Common.{◌∙◌, ap, List}
use Rattle.blk_graph.specs.declared.edge.Edge.{Edge}
use Rattle.qmp_rules.specs.Chains.{leads, reaches}
use Rattle.qmp_rules.proofs.table.Names.reaches.Goals as goal

pub returns : goal.returns
unfolding reaches
returns c = c.leads.ensures ∙ ap (λ (edges : List Edge). leads 64 edges c.args.from c.args.to) c.edges.ensures
