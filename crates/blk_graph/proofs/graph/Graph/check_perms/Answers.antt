use Rattle.std.proofs.Common.{◌≡◌, sym}
use Rattle.blk_graph.specs.Graph.{ids}
use Rattle.blk_graph.specs.Rule.{first_conflict, KeepsPermissions}
use Rattle.blk_graph.proofs.GraphLemmas.{ids-graph_of}
use Rattle.blk_graph.proofs.RuleLemmas.{IsCheck, IsCheck-from_first}
use Rattle.blk_graph.proofs.graph.Graph.check_perms.Goals as goal

first : goal.returns-clause-first
first c =
    let fields : c.first_conflict.result ≡ first_conflict c.self.inside.order.items c.self.inside.edges
    = rw (← c.as_slice.ensures.value, ← c.as_slice-2.ensures.edges) c.first_conflict.ensures in
    rw (sym c.self.view_is)
    (rw (ids-graph_of c.self.inside.names c.self.inside.keys c.self.inside.order.items c.self.inside.kinds c.self.inside.edges) fields)

check : (c : goal.After-first_conflict) → IsCheck c.args.self.now.edges c.first_conflict.result
check c = IsCheck-from_first (ids c.args.self.now) c.args.self.now.edges c.first_conflict.result
    (rw (sym c.self.view_is) (λ e h. (c.self.invariant.sound.fit.each e h).child)) (first c)

pub returns-clause-first : goal.returns-clause-first
returns-clause-first c = first c

pub returns-clause-rule : goal.returns-clause-rule
returns-clause-rule c = (check c).rule

pub returns-clause-pair : goal.returns-clause-pair
returns-clause-pair c = (check c).pair

pub returns-clause-kept : goal.returns-clause-kept
returns-clause-kept c =
    let rule : KeepsPermissions c.args.self.now.edges = rw (sym c.self.view_is) c.self.invariant.sound.just.rule in
    (check c).rule.1 rule
