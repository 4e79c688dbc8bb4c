use Rattle.std.proofs.Common.{◌≡◌, ◌≢◌, Err, refl, sym, ◌∙◌, ap, subst}
use Rattle.blk_graph.specs.Edits.{IsLone}
use Rattle.blk_graph.specs.Graph.{HasNode, IsSoundGraph, with_node}
use Rattle.blk_graph.specs.Judged.{without_node}
use Rattle.blk_graph.specs.declared.stop.GraphStop.TheVariants as graph
use Rattle.blk_graph.proofs.ChildLemmas.{no-way-back}
use Rattle.blk_nodes.specs.Nodes.{Nodes}
use Rattle.blk_nodes.proofs.Additions.{taken_back, has_after, ids_after, file_is_node, joined_raw}
use Rattle.blk_nodes.proofs.KeptDisks.{raw_disks, raw_disk_new}
use Rattle.blk_nodes.proofs.nodes.Nodes.add_raw.Given as given
use Rattle.blk_nodes.proofs.nodes.Nodes.add_raw.Goals as goal

pub set_edge-requires-clause-child : goal.set_edge-requires-clause-child
set_edge-requires-clause-child g c =
    let nodes : Nodes = record { graph = c.self.inside.graph; rows = c.self.inside.rows.items; devices = c.self.inside.devices } in
    let is_file = rw (sym c.self.view_is) at c.requires.file in
    let has = file_is_node nodes c.args.file c.self.invariant is_file in
    rw (c.in-Ok.ensures.ok, c.of_node-edge.ensures.edge)
    (has_after c.self.inside.graph c.in-Ok.node c.args.name.bytes c.node_kind-kind.result c.args.file has)

pub set_edge-requires-clause-table : goal.set_edge-requires-clause-table
set_edge-requires-clause-table g c =
    c.of_node-edge.ensures.table c.add_node.new.self.kinds (rw (c.in-Ok.ensures.kind, c.node_kind-kind.ensures) refl)

pub conflict_of-requires-clause-cycle : goal.conflict_of-requires-clause-cycle
conflict_of-requires-clause-cycle g c = λ is.
    let nodes : Nodes = record { graph = c.self.inside.graph; rows = c.self.inside.rows.items; devices = c.self.inside.devices } in
    let is_file = rw (sym c.self.view_is) at c.requires.file in
    let has = file_is_node nodes c.args.file c.self.invariant is_file in
    let apart : c.args.file ≢ c.in-Ok.node = λ same. c.in-Ok.ensures.lowest.free (subst (HasNode c.self.inside.graph) same has) in
    let leads = rw c.of_node-edge.ensures.edge at (c.set_edge.ensures.cycle.0 (c.in-Err-set_edge.is ∙ ap Err is)) in
    no-way-back c.add_node.new.self.edges c.in-Ok.node c.args.file c.in-Ok.ensures.lone apart leads

pub graph_back : (g : given.Over) (c : goal.After-conflict_of g) → c.take_back.new.graph ≡ c.self.inside.graph
graph_back g c =
    let lone : IsLone c.self.inside.graph.edges c.in-Ok.node = rw c.in-Ok.ensures.ok at c.in-Ok.ensures.lone in
    let sound : IsSoundGraph (with_node c.self.inside.graph c.in-Ok.node c.args.name.bytes c.node_kind-kind.result)
    = rw c.in-Ok.ensures.ok at c.in-Ok.ensures.sound in
    c.take_back.ensures
    ∙ ap (without_node c.in-Ok.node) (c.in-Err-set_edge.ensures.err ∙ c.in-Ok.ensures.ok)
    ∙ taken_back c.self.inside.graph c.in-Ok.node c.args.name.bytes c.node_kind-kind.result c.self.invariant.sound
    c.in-Ok.ensures.lowest.free lone sound.just.refreshed

pub invariant_of-self : goal.invariant_of-self
invariant_of-self g c = rw (graph_back g c) c.self.invariant

pub returns-in-Err-set_edge-clause-denied : goal.returns-in-Err-set_edge-clause-denied
returns-in-Err-set_edge-clause-denied g c = λ pair is.
    let same : c.conflict_of.result ≡ pair = cc in
    let stopped = c.in-Err-set_edge.is ∙ ap Err (c.conflict_of.ensures ∙ ap graph.Conflict same) in
    let first = ((c.set_edge.ensures.judged.conflict pair).0 stopped).1 in
    let told = rw (c.in-Ok.ensures.ok, c.of_node-edge.ensures.edge, c.node_kind-kind.ensures) at first in
    rw (sym c.self.view_is)
    (record {
      id = c.in-Ok.node;
      lowest = c.in-Ok.ensures.lowest;
      first = rw (ids_after c.self.inside.graph c.in-Ok.node c.args.name.bytes) at told;
    })

pub returns-in-Err-set_edge-clause-err : goal.returns-in-Err-set_edge-clause-err
returns-in-Err-set_edge-clause-err g c = rw (graph_back g c) c.self.view_is

pub invariant_of-self-2 : goal.invariant_of-self-2
invariant_of-self-2 g c =
    let nodes : Nodes = record { graph = c.self.inside.graph; rows = c.self.inside.rows.items; devices = c.self.inside.devices } in
    let is_file = rw (sym c.self.view_is) at c.requires.file in
    let node = c.index.ensures.value in
    let small = rw node at c.index.ensures.small in
    let lone = rw c.in-Ok.ensures.ok at c.in-Ok.ensures.lone in
    let within = rw (sym c.self.view_is, sym c.part.view_is) at c.requires.part in
    let sound = rw (c.in_default-set_edge.ensures.ok, c.in-Ok.ensures.ok, c.of_node-edge.ensures.edge, c.node_kind-kind.ensures)
    at c.in_default-set_edge.ensures.sound in
    rw (c.in_default-set_edge.ensures.ok, c.in-Ok.ensures.ok, c.of_node-edge.ensures.edge, c.node_kind-kind.ensures, node)
    (joined_raw nodes c.in-Ok.node c.args.file c.args.name.bytes _ c.self.invariant c.in-Ok.ensures.lowest.free small lone is_file
    c.part.inside.start c.part.inside.len sound refl refl within c.part.invariant)

pub returns-clause-disks : goal.returns-clause-disks
returns-clause-disks g c =
    let nodes : Nodes = record { graph = c.self.inside.graph; rows = c.self.inside.rows.items; devices = c.self.inside.devices } in
    let is_file = rw (sym c.self.view_is) at c.requires.file in
    let node = c.index.ensures.value in
    let small = rw node at c.index.ensures.small in
    let lone = rw c.in-Ok.ensures.ok at c.in-Ok.ensures.lone in
    rw (sym c.self.view_is, c.in_default-set_edge.ensures.ok, c.in-Ok.ensures.ok, c.of_node-edge.ensures.edge, c.node_kind-kind.ensures, node)
    (raw_disks nodes c.in-Ok.node c.args.file c.part.inside.start c.part.inside.len c.args.name.bytes c.args.read_only c.self.invariant
    c.in-Ok.ensures.lowest.free small lone is_file)

pub returns-clause-disk : goal.returns-clause-disk
returns-clause-disk g c =
    let nodes : Nodes = record { graph = c.self.inside.graph; rows = c.self.inside.rows.items; devices = c.self.inside.devices } in
    let is_file = rw (sym c.self.view_is) at c.requires.file in
    let node = c.index.ensures.value in
    let small = rw node at c.index.ensures.small in
    let lone = rw c.in-Ok.ensures.ok at c.in-Ok.ensures.lone in
    rw (sym c.self.view_is, sym c.part.view_is, c.in_default-set_edge.ensures.ok, c.in-Ok.ensures.ok, c.of_node-edge.ensures.edge, c.node_kind-kind.ensures, node)
    (raw_disk_new nodes c.in-Ok.node c.args.file c.part.inside.start c.part.inside.len c.args.name.bytes c.args.read_only c.self.invariant
    c.in-Ok.ensures.lowest.free small lone is_file)
