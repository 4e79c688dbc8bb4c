use Rattle.std.proofs.Common.{List, ◌∙◌, ap}
use Rattle.blk_nodes.specs.Nodes.{Nodes, DeviceSeen}
use Rattle.world_files.proofs.CreatedKept.{nothing_tried}
use Rattle.world_files.proofs.creating.format_file.Goals as goal

pub returns-clause-back : goal.returns-clause-back
returns-clause-back g c = λ none.
    let at = rw none at c.format_file.ensures.formatted in
    c.format_file.ensures.kept
    ∙ ap (λ (ds : List DeviceSeen). let n : Nodes = record c.args.nodes.now { devices = ds } in n)
    (nothing_tried c.args.nodes.now _ c.args.node _ c.edges.ensures.joined at)
