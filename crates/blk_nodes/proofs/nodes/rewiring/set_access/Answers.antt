use Rattle.std.proofs.Common.{◌∙◌, refl, arith}
use Rattle.std.proofs.lemmas.List.{length-set}
use Rattle.blk_nodes.proofs.Rewired.{rows-first, rows-step}
use Rattle.blk_nodes.proofs.nodes.rewiring.set_access.Goals as goal

pub loop-i-init : goal.loop-i-init
loop-i-init c = record { so_far = rows-first c.args.kinds.now c.args.rows.now.items; count = c.requires }

pub loop-i-preserved : goal.loop-i-preserved
loop-i-preserved c =
    let long = c.loop-i.invariant.count in
    let less = c.loop-i-test.true in
    record {
      so_far = rows-step c.args.kinds.now c.args.rows.now.items c.loop-i.rows.items c.loop-i.i _ _ c.set_read_only.new.row _ (omega arith) (omega (arith, long, less))
          c.loop-i.invariant.so_far refl c.index_mut.ensures.value c.set_read_only.ensures;
      count = length-set c.loop-i.rows.items c.loop-i.i c.set_read_only.new.row ∙ long;
    }
