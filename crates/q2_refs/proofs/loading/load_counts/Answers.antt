use Rattle.std.proofs.Common.{arith}
use Rattle.q2_refs.proofs.Shapes.{shape_of, blocks_whole, blocks_below, table_whole, table_low}
use Rattle.q2_refs.proofs.loading.load_counts.Goals as goal

pub cluster_len-requires : goal.cluster_len-requires
cluster_len-requires g c = let shape = shape_of c.args.h.now _ c.requires.header in omega (arith, shape.cluster_bits)

pub read_counts-requires-clause-shape : goal.read_counts-requires-clause-shape
read_counts-requires-clause-shape g c = shape_of c.args.h.now _ c.requires.header

pub refs_of-requires-clause-shape : goal.refs_of-requires-clause-shape
refs_of-requires-clause-shape g c = shape_of c.args.h.now _ c.requires.header

pub refs_of-requires-clause-blocks : goal.refs_of-requires-clause-blocks
refs_of-requires-clause-blocks g c = blocks_whole c.args.h.now _ c.args.table.items c.requires.accepted

pub returns-clause-below : goal.returns-clause-below
returns-clause-below g c =
    rw c.refs_of.ensures.table (blocks_below c.args.h.now _ c.args.table.items c.requires.accepted)

pub refs_of-requires-clause-place : goal.refs_of-requires-clause-place
refs_of-requires-clause-place g c = table_whole c.args.h.now _ c.args.table.items c.requires.accepted

pub refs_of-requires-clause-low : goal.refs_of-requires-clause-low
refs_of-requires-clause-low g c = table_low c.args.h.now _ c.args.table.items c.requires.header c.requires.accepted
