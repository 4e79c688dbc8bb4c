use Rattle.node_rows.proofs.Used.{both_there}
use Rattle.node_rows.proofs.users.use_both.Goals as goal

pub use_nodes-requires-clause-nodes : goal.use_nodes-requires-clause-nodes
use_nodes-requires-clause-nodes c = both_there c.args.nodes.now.graph c.args.first c.args.second c.requires.first c.requires.second
