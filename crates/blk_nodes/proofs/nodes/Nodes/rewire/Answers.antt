use Rattle.std.proofs.Common.{refl, sym}
use Rattle.blk_nodes.specs.Nodes.{Nodes}
use Rattle.blk_nodes.specs.Joined.{IsJoined}
use Rattle.blk_nodes.specs.Rewiring.{IsWiring}
use Rattle.blk_nodes.proofs.Rewired.{joined_wiring, readings}
use Rattle.blk_nodes.proofs.nodes.Nodes.rewire.Goals as goal

pub invariant_of-self : goal.invariant_of-self
invariant_of-self g c =
    let nodes : Nodes = record { graph = c.self.inside.graph; rows = c.self.inside.rows.items; devices = c.self.inside.devices } in
    let wiring : IsWiring nodes c.args.kinds.now c.args.edges.now = rw (sym c.self.view_is) at c.requires in
    rw (c.take.ensures.taken, c.copy_from.ensures, c.set_access.ensures) (joined_wiring nodes c.args.kinds.now c.args.edges.now c.self.invariant wiring)

pub returns-clause-joined : goal.returns-clause-joined
returns-clause-joined g c =
    let nodes : Nodes = record { graph = c.self.inside.graph; rows = c.self.inside.rows.items; devices = c.self.inside.devices } in
    let wiring : IsWiring nodes c.args.kinds.now c.args.edges.now = rw (sym c.self.view_is) at c.requires in
    rw (c.take.ensures.taken, c.copy_from.ensures, c.set_access.ensures) (joined_wiring nodes c.args.kinds.now c.args.edges.now c.self.invariant wiring)

pub returns-clause-disks : goal.returns-clause-disks
returns-clause-disks g c =
    let nodes : Nodes = record { graph = c.self.inside.graph; rows = c.self.inside.rows.items; devices = c.self.inside.devices } in
    let wiring : IsWiring nodes c.args.kinds.now c.args.edges.now = rw (sym c.self.view_is) at c.requires in
    let now : Nodes = record { graph = c.take.new.self; rows = c.set_access.new.rows.items; devices = c.self.inside.devices } in
    let after : IsJoined now = rw (c.take.ensures.taken, c.copy_from.ensures, c.set_access.ensures) (joined_wiring nodes c.args.kinds.now c.args.edges.now c.self.invariant wiring) in
    λ reads are node. readings now reads after are node

pub returns-clause-nodes : goal.returns-clause-nodes
returns-clause-nodes g c = rw (c.take.ensures.taken, c.copy_from.ensures, c.set_access.ensures, sym c.self.view_is) refl
