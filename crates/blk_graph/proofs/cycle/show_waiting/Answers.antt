use Rattle.std.proofs.Common.{refl, sym, ◌∙◌, ap, false, get_or}
use Rattle.std.specs.List.{list_any}
use Rattle.blk_graph.specs.Clear.{leads_to_unclear}
use Rattle.blk_graph.proofs.ClearLemmas.{drop_all}
use Rattle.blk_graph.proofs.StillLemmas.{get_or-replicate}
use Rattle.blk_graph.proofs.cycle.show_waiting.Goals as goal

pub loop-i-init : goal.loop-i-init
loop-i-init c = record {
  waits = λ node small.
      ap (λ marks. get_or marks node false) c.requires.waiting ∙ get_or-replicate 64 node false
      ∙ sym (ap (list_any (leads_to_unclear c.args.clear.now node)) (drop_all c.args.edges.now));
  room = rw c.requires.waiting refl;
}
