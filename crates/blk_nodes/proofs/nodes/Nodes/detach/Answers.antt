use Rattle.std.proofs.Common.{◌≡◌, ◌≢◌, ℕ, List, sym, ◌∙◌}
use Rattle.blk_graph.specs.Edits.{child_of, without_parent}
use Rattle.blk_graph.specs.Refreshed.{refreshed}
use Rattle.blk_graph.specs.declared.edge.Edge.{Edge}
use Rattle.blk_graph.specs.declared.edge.Role.{Role}
use Rattle.blk_graph.specs.declared.kind.NodeKind.{NodeKind}
use Rattle.blk_graph.specs.declared.edge.Parent.TheVariants.{Node, Guest}
use Rattle.blk_graph.proofs.ChildLemmas.{child-without}
use Rattle.blk_graph.proofs.RefreshLemmas.{child_of-refreshed}
use Rattle.blk_nodes.specs.Nodes.{Nodes}
use Rattle.blk_nodes.proofs.Additions.{joined_edges}
use Rattle.blk_nodes.proofs.Disks.{disks_edges}
use Rattle.blk_nodes.proofs.nodes.Nodes.detach.Goals as goal

-- without a guest's edges each node has the children that it had
children : (kinds : List NodeKind) (edges : List Edge) (guest parent : ℕ) (role : Role)
    → child_of (Node parent) role (refreshed kinds (without_parent (Guest guest) edges)) ≡ child_of (Node parent) role edges
children kinds edges guest parent role =
    let apart : Guest guest ≢ Node parent = λ same. absurd (cc same) in
    child_of-refreshed kinds (Node parent) role (without_parent (Guest guest) edges)
    ∙ child-without (Guest guest) (Node parent) role edges apart

pub invariant_of-self : goal.invariant_of-self
invariant_of-self g c =
    let nodes : Nodes = record { graph = c.self.inside.graph; rows = c.self.inside.rows.items; devices = c.self.inside.devices } in
    rw c.clear_edges.ensures.edges
    (joined_edges nodes (refreshed c.self.inside.graph.kinds (without_parent (Guest c.args.guest) c.self.inside.graph.edges)) c.self.invariant
    (rw c.clear_edges.ensures.edges at c.clear_edges.ensures.sound)
    (children c.self.inside.graph.kinds c.self.inside.graph.edges c.args.guest))

pub returns-clause-disks : goal.returns-clause-disks
returns-clause-disks g c =
    let nodes : Nodes = record { graph = c.self.inside.graph; rows = c.self.inside.rows.items; devices = c.self.inside.devices } in
    rw (c.clear_edges.ensures.edges, sym c.self.view_is)
    (disks_edges nodes (refreshed c.self.inside.graph.kinds (without_parent (Guest c.args.guest) c.self.inside.graph.edges))
    (children c.self.inside.graph.kinds c.self.inside.graph.edges c.args.guest))
