use Rattle.blk_nodes.proofs.Leading.{leads_to_source}
use Rattle.blk_nodes.proofs.nodes.Nodes.+source_in.Goals as goal

pub returns-in-Below-clause-leads : goal.returns-in-Below-clause-leads
returns-in-Below-clause-leads g n c =
    leads_to_source c.args.self.now.graph.edges c.args.node c.in-Below.next c.source_in.result c.in-Below.ensures.leads c.source_in.ensures.leads
