use Rattle.std.proofs.Common.{◌<◌, true, false, length, arith, sym}
use Rattle.blk_graph.specs.Graph.{HasNode}
use Rattle.blk_nodes.specs.Nodes.{Nodes}
use Rattle.blk_nodes.proofs.Jobs.{disks_written, joined_written, written_rows}
use Rattle.blk_nodes.proofs.nodes.Nodes.make_read_only.Goals as goal

pub invariant_of-self : goal.invariant_of-self
invariant_of-self g c =
    let nodes : Nodes = record { graph = c.self.inside.graph; rows = c.self.inside.rows.items; devices = c.self.inside.devices } in
    let there : HasNode nodes.graph c.args.node = rw (sym c.self.view_is) at c.requires in
    let small = c.self.invariant.sound.small c.args.node there in
    let count = c.self.invariant.rows in
    let within : c.args.node < length nodes.rows = omega (arith, small, count) in
    let rows = written_rows nodes.rows c.index.result c.args.node c.index_mut.result.now c.set_read_only.new.row true c.index.ensures.value within
    c.index_mut.ensures.value c.set_read_only.ensures in
    rw (c.make_read_only.ensures.graph, rows)
    (joined_written nodes c.args.node false c.self.invariant there (rw c.make_read_only.ensures.graph at c.make_read_only.ensures.sound))

pub returns-clause-disks : goal.returns-clause-disks
returns-clause-disks g c =
    let nodes : Nodes = record { graph = c.self.inside.graph; rows = c.self.inside.rows.items; devices = c.self.inside.devices } in
    let there : HasNode nodes.graph c.args.node = rw (sym c.self.view_is) at c.requires in
    let small = c.self.invariant.sound.small c.args.node there in
    let count = c.self.invariant.rows in
    let within : c.args.node < length nodes.rows = omega (arith, small, count) in
    let rows = written_rows nodes.rows c.index.result c.args.node c.index_mut.result.now c.set_read_only.new.row true c.index.ensures.value within
    c.index_mut.ensures.value c.set_read_only.ensures in
    rw (c.make_read_only.ensures.graph, rows, sym c.self.view_is) (disks_written nodes c.args.node false c.self.invariant there)
