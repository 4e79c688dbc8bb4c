use Rattle.std.proofs.Common.{◌≡◌, List, refl}
use Rattle.blk_graph.specs.Refreshed.{refreshed}
use Rattle.blk_graph.specs.declared.edge.Edge.{Edge}
use Rattle.blk_nodes.specs.Overlays.{format_edges}
use Rattle.blk_nodes.proofs.Drawn.{format_draft, draft_sound, when_judged}
use Rattle.blk_nodes.proofs.adding.draw_edges.Goals as goal

pub put-requires-clause-role : goal.put-requires-clause-role
put-requires-clause-role c = rw c.of_node.ensures.edge refl

pub put-requires-clause-number : goal.put-requires-clause-number
put-requires-clause-number c = rw c.of_node.ensures.edge (c.list.ensures.sound.small c.args.node c.requires.there)

pub put_backing-requires : goal.put_backing-requires
put_backing-requires c = c.list.ensures.sound.small c.args.node c.requires.there

pub returns-clause-sound : goal.returns-clause-sound
returns-clause-sound c =
    let edges : List Edge = format_edges c.args.node c.args.file c.args.backing c.args.graph.now.edges in
    let drawn : c.refresh.new.self ≡ refreshed c.args.graph.now.kinds edges = cc in
    when_judged c.judge.result _ _ _ c.judge.ensures.first
    (λ none. rw drawn (draft_sound c.args.graph.now edges c.list.ensures.sound
    (format_draft c.args.graph.now c.args.node c.args.file c.list.ensures.sound c.requires.there c.requires.lone c.requires.file c.requires.file_role
    c.args.backing c.requires.backing c.requires.backing_role)
    (rw (c.nodes.ensures.nodes, drawn) at none)))
