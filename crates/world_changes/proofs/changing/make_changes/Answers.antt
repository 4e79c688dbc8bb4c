use Rattle.world_changes.proofs.changing.make_changes.Goals as goal

pub rewire-requires : goal.rewire-requires
rewire-requires g c = rw (c.kinds-kinds.ensures, c.list.ensures, c.apply.ensures) c.requires.wiring

pub returns-clause-nodes : goal.returns-clause-nodes
returns-clause-nodes g c = record {
  are = rw (c.kinds-kinds.ensures, c.list.ensures) at c.rewire.ensures.nodes;
  reads = c.rewire.ensures.disks;
}
