use Rattle.std.proofs.Common.{◌≡◌, ◌≢◌, ℕ, List, Bool, Err, refl, sym, ◌∙◌, ap}
use Rattle.std.specs.Prelude.{not}
use Rattle.blk_graph.specs.Edits.{child_of, with_edge}
use Rattle.blk_graph.specs.Permissions.{drive_edge}
use Rattle.blk_graph.specs.Refreshed.{refreshed}
use Rattle.blk_graph.specs.declared.edge.Edge.{Edge}
use Rattle.blk_graph.specs.declared.edge.Role.{Role}
use Rattle.blk_graph.specs.declared.edge.Parent.TheVariants.{Node, Guest}
use Rattle.blk_graph.specs.declared.kind.NodeKind.{NodeKind}
use Rattle.blk_graph.specs.declared.stop.GraphStop.TheVariants as graph
use Rattle.blk_graph.proofs.ChildLemmas.{child-kept, acyclic-unless}
use Rattle.blk_graph.proofs.RefreshLemmas.{child_of-refreshed}
use Rattle.blk_nodes.specs.Nodes.{Nodes}
use Rattle.blk_nodes.proofs.Additions.{joined_edges}
use Rattle.blk_nodes.proofs.Disks.{disks_edges}
use Rattle.blk_nodes.proofs.nodes.Nodes.attach.Goals as goal

-- with a guest's edge each node has the children that it had
children : (kinds : List NodeKind) (edges : List Edge) (guest node : ℕ) (writes share_rw : Bool) (parent : ℕ) (role : Role)
    → child_of (Node parent) role (refreshed kinds (with_edge (drive_edge guest node writes share_rw) edges)) ≡ child_of (Node parent) role edges
children kinds edges guest node writes share_rw parent role =
    let apart : Guest guest ≢ Node parent = λ same. absurd (cc same) in
    child_of-refreshed kinds (Node parent) role (with_edge (drive_edge guest node writes share_rw) edges)
    ∙ child-kept (Node parent) role (drive_edge guest node writes share_rw) edges apart

pub set_edge-requires-clause-table : goal.set_edge-requires-clause-table
set_edge-requires-clause-table g c = c.drive-edge.ensures.table c.self.inside.graph.kinds

pub set_edge-requires-clause-parent : goal.set_edge-requires-clause-parent
set_edge-requires-clause-parent g c = rw c.drive-edge.ensures.edge c.requires.number

pub returns-in-Err-clause-denied : goal.returns-in-Err-clause-denied
returns-in-Err-clause-denied g c = λ pair is.
    let same : c.conflict_of.result ≡ pair = cc in
    let stopped = c.in-Err.is ∙ ap Err (c.conflict_of.ensures ∙ ap graph.Conflict same) in
    let first = ((c.set_edge.ensures.judged.conflict pair).0 stopped).1 in
    rw (sym c.self.view_is) (rw (c.drive-edge.ensures.edge, c.is_read_only.ensures, sym c.self.view_is) at first)

pub returns-in-Err-clause-kept : goal.returns-in-Err-clause-kept
returns-in-Err-clause-kept g c =
    let judged = rw (c.drive-edge.ensures.edge, c.is_read_only.ensures, sym c.self.view_is) at c.set_edge.ensures.judged in
    let stopped = c.in-Err.is ∙ ap Err c.conflict_of.ensures in
    rw (sym c.self.view_is) (
      λ ok. absurd (cc ok),
      λ rule.
          let acyclic = acyclic-unless _ (λ has. let cycle = judged.cycle.1 has in let bad = sym stopped ∙ cycle in absurd (cc bad)) in
          let ok = judged.ok.1 (acyclic, rule) in
          let bad = rw stopped at ok in
          absurd (cc bad),
    )

pub invariant_of-self-2 : goal.invariant_of-self-2
invariant_of-self-2 g c =
    let nodes : Nodes = record { graph = c.self.inside.graph; rows = c.self.inside.rows.items; devices = c.self.inside.devices } in
    rw (c.in_default.ensures.ok, c.drive-edge.ensures.edge)
    (joined_edges nodes (refreshed c.self.inside.graph.kinds
    (with_edge (drive_edge c.args.guest c.args.node (not c.is_read_only.result) c.args.share_rw) c.self.inside.graph.edges)) c.self.invariant
    (rw (c.in_default.ensures.ok, c.drive-edge.ensures.edge) at c.in_default.ensures.sound)
    (children c.self.inside.graph.kinds c.self.inside.graph.edges c.args.guest c.args.node (not c.is_read_only.result) c.args.share_rw))

pub returns-clause-kept : goal.returns-clause-kept
returns-clause-kept g c =
    let judged = rw (c.drive-edge.ensures.edge, c.is_read_only.ensures, sym c.self.view_is) at c.set_edge.ensures.judged in
    let good = rw c.in_default.is at judged.ok in
    rw (sym c.self.view_is) (λ ok. (good.0 refl).1, λ rule. refl)

pub returns-clause-disks : goal.returns-clause-disks
returns-clause-disks g c =
    let nodes : Nodes = record { graph = c.self.inside.graph; rows = c.self.inside.rows.items; devices = c.self.inside.devices } in
    rw (c.in_default.ensures.ok, c.drive-edge.ensures.edge, sym c.self.view_is)
    (disks_edges nodes (refreshed c.self.inside.graph.kinds
    (with_edge (drive_edge c.args.guest c.args.node (not c.is_read_only.result) c.args.share_rw) c.self.inside.graph.edges))
    (children c.self.inside.graph.kinds c.self.inside.graph.edges c.args.guest c.args.node (not c.is_read_only.result) c.args.share_rw))
