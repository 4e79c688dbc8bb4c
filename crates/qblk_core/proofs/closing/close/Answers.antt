use Rattle.blk_nodes.specs.Flushing.{base_of}
use Rattle.qblk_core.proofs.Closed.{one-flushed, closed-by}
use Rattle.qblk_core.proofs.Handed.{only-of}
use Rattle.qblk_core.proofs.closing.close.Goals as goal

pub device_of-requires : goal.device_of-requires
device_of-requires g c =
    let last = c.flush_node-outcome.new.self in
    let one = one-flushed c.args.nodes last (base_of c.args.nodes c.args.image) c.flush_node-outcome.result c.requires.one c.flush_node-outcome.ensures.flushed c.flush_node-outcome.ensures.kept in
    (one.device, only-of last one)

pub returns : goal.returns
returns g c =
    let last = c.flush_node-outcome.new.self in (
      last,
      c.flush_node-outcome.result,
      closed-by c.args.nodes last c.args.image c.flush_node-outcome.result _ c.fault_of.result c.requires.one c.requires.image c.flush_node-outcome.ensures.flushed
          c.flush_node-outcome.ensures.kept c.flush_node-outcome.ensures.disks c.edges-2.ensures.joined c.edges-2.ensures.disks c.fault_of.ensures c.device_of.ensures,
    )
