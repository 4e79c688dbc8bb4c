use Rattle.std.proofs.Common.{◌<◌, true, false, length, arith, sym}
use Rattle.blk_graph.specs.Graph.{HasNode}
use Rattle.blk_nodes.specs.Nodes.{Nodes}
use Rattle.blk_nodes.proofs.Jobs.{disks_written, file_rule, joined_written, refused_denied, refused_rule, taken_none, written_rows}
use Rattle.blk_nodes.proofs.nodes.Nodes.make_writable.Goals as goal

pub returns-in-Err-clause-denied : goal.returns-in-Err-clause-denied
returns-in-Err-clause-denied g c =
    rw (sym c.self.view_is)
    (refused_denied _ _ _ c.self.invariant.sound.just.acyclic _ c.make_writable.ensures.judged _ _ c.in-Err.is c.conflict_of.ensures)

pub returns-in-Err-clause-file : goal.returns-in-Err-clause-file
returns-in-Err-clause-file g c = λ is_file.
    let nodes : Nodes = record { graph = c.self.inside.graph; rows = c.self.inside.rows.items; devices = c.self.inside.devices } in
    refused_rule _ _ _ c.self.invariant.sound.just.acyclic _ c.make_writable.ensures.judged _ _ c.in-Err.is c.conflict_of.ensures
    (file_rule nodes c.args.node true c.self.invariant (rw (sym c.self.view_is) at c.requires) (rw (sym c.self.view_is) at is_file))

pub returns-clause-denied : goal.returns-clause-denied
returns-clause-denied g c = λ pair. (
  λ same. absurd (cc same),
  λ first. absurd
      (taken_none _ _ _ c.self.invariant.sound.just.acyclic _ c.make_writable.ensures.judged c.in_default.is pair (rw (sym c.self.view_is) at first)),
)

pub invariant_of-self-2 : goal.invariant_of-self-2
invariant_of-self-2 g c =
    let nodes : Nodes = record { graph = c.self.inside.graph; rows = c.self.inside.rows.items; devices = c.self.inside.devices } in
    let there : HasNode nodes.graph c.args.node = rw (sym c.self.view_is) at c.requires in
    let small = c.self.invariant.sound.small c.args.node there in
    let count = c.self.invariant.rows in
    let within : c.args.node < length nodes.rows = omega (arith, small, count) in
    let rows = written_rows nodes.rows c.index.result c.args.node c.index_mut.result.now c.set_read_only.new.row false c.index.ensures.value within
    c.index_mut.ensures.value c.set_read_only.ensures in
    rw (c.in_default.ensures.ok, rows)
    (joined_written nodes c.args.node true c.self.invariant there (rw c.in_default.ensures.ok at c.in_default.ensures.sound))

pub returns-clause-disks : goal.returns-clause-disks
returns-clause-disks g c =
    let nodes : Nodes = record { graph = c.self.inside.graph; rows = c.self.inside.rows.items; devices = c.self.inside.devices } in
    let there : HasNode nodes.graph c.args.node = rw (sym c.self.view_is) at c.requires in
    let small = c.self.invariant.sound.small c.args.node there in
    let count = c.self.invariant.rows in
    let within : c.args.node < length nodes.rows = omega (arith, small, count) in
    let rows = written_rows nodes.rows c.index.result c.args.node c.index_mut.result.now c.set_read_only.new.row false c.index.ensures.value within
    c.index_mut.ensures.value c.set_read_only.ensures in
    rw (c.in_default.ensures.ok, rows, sym c.self.view_is) (disks_written nodes c.args.node true c.self.invariant there)
