use Rattle.std.proofs.Common.{◌≡◌}
use Rattle.blk_graph.specs.Refreshed.{refreshed}
use Rattle.blk_nodes.specs.Jobs.{with_job_edges}
use Rattle.blk_nodes.proofs.Drawn.{when_judged}
use Rattle.blk_nodes.proofs.Jobs.{uses_lead, uses_sound}
use Rattle.blk_nodes.proofs.nodes.jobs.draw_uses.Goals as goal

pub returns-clause-kept : goal.returns-clause-kept
returns-clause-kept c =
    let drawn : c.refresh.new.self ≡ refreshed c.args.graph.now.kinds (with_job_edges c.args.job c.args.uses.now c.args.graph.now.edges) = cc in
    c.judge.ensures.rule
    (rw c.nodes.ensures.nodes
    (uses_lead c.args.graph.now c.args.job c.requires.job c.args.uses.now c.requires.nodes c.list.ensures.sound c.refresh.new.self drawn))

pub returns-clause-sound : goal.returns-clause-sound
returns-clause-sound c =
    let drawn : c.refresh.new.self ≡ refreshed c.args.graph.now.kinds (with_job_edges c.args.job c.args.uses.now c.args.graph.now.edges) = cc in
    when_judged c.judge.result _ _ _ c.judge.ensures.first
    (λ none.
    uses_sound c.args.graph.now c.args.job c.requires.job c.args.uses.now c.requires.nodes c.list.ensures.sound c.refresh.new.self drawn
    (rw c.nodes.ensures.nodes at none))
