use Rattle.std.proofs.Common.{sym, subst}
use Rattle.std.specs.Prelude.{OnOk}
use Rattle.blk_nodes.specs.Covering.{IsClear, IsCover, ReadCovered}
use Rattle.blk_nodes.specs.Nodes.{Nodes}
use Rattle.blk_nodes.proofs.Covered.{overlay_there, overlay_role, when_taken}
use Rattle.blk_nodes.proofs.CoveredDisks.{when_covered}
use Rattle.blk_nodes.proofs.nodes.Nodes.put_over.Goals as goal

pub put_over-requires-clause-overlay : goal.put_over-requires-clause-overlay
put_over-requires-clause-overlay g c =
    let nodes : Nodes = record { graph = c.self.inside.graph; rows = c.self.inside.rows.items; devices = c.self.inside.devices } in
    let cover : IsCover nodes c.args.node c.args.overlay = rw (sym c.self.view_is) at c.requires.overlay in
    overlay_there nodes c.args.node c.args.overlay c.self.invariant cover

pub put_over-requires-clause-kind : goal.put_over-requires-clause-kind
put_over-requires-clause-kind g c =
    let nodes : Nodes = record { graph = c.self.inside.graph; rows = c.self.inside.rows.items; devices = c.self.inside.devices } in
    let cover : IsCover nodes c.args.node c.args.overlay = rw (sym c.self.view_is) at c.requires.overlay in
    overlay_role nodes c.args.node c.args.overlay c.self.invariant cover

pub invariant_of-self : goal.invariant_of-self
invariant_of-self g c =
    let nodes : Nodes = record { graph = c.self.inside.graph; rows = c.self.inside.rows.items; devices = c.self.inside.devices } in
    let cover : IsCover nodes c.args.node c.args.overlay = rw (sym c.self.view_is) at c.requires.overlay in
    when_taken nodes c.put_over.new.self c.args.node c.args.overlay c.put_over.result c.self.invariant cover c.put_over.ensures.ok c.put_over.ensures.err
    c.put_over.ensures.sound

pub returns-clause-disks : goal.returns-clause-disks
returns-clause-disks g c =
    let nodes : Nodes = record { graph = c.self.inside.graph; rows = c.self.inside.rows.items; devices = c.self.inside.devices } in
    let now : Nodes = record nodes { graph = c.put_over.new.self } in
    let cover : IsCover nodes c.args.node c.args.overlay = rw (sym c.self.view_is) at c.requires.overlay in
    let after = when_taken nodes c.put_over.new.self c.args.node c.args.overlay c.put_over.result c.self.invariant cover c.put_over.ensures.ok c.put_over.ensures.err
    c.put_over.ensures.sound in
    subst (λ (old : Nodes). OnOk c.put_over.result (IsClear old c.args.overlay → ReadCovered old now c.args.node c.args.overlay)) c.self.view_is
    (when_covered nodes c.put_over.new.self c.args.node c.args.overlay c.put_over.result c.self.invariant cover c.put_over.ensures.ok after)
