use Rattle.std.proofs.Common.{sym, ◌∙◌, subst}
use Rattle.qmp_rules.specs.Table.{RunTable}
use Rattle.world_parts.specs.Deleting.{Ground, ground_in, left}
use Rattle.world_files.specs.Deletions.{CanLeave}
use Rattle.world_parts.specs.Steps.{StoreSeen}
use Rattle.blk_nodes.specs.Nodes.{Nodes}
use Rattle.world_files.proofs.DeletedSteps.{first_can, file_can}
use Rattle.world_files.proofs.deleting.drop_nodes.Goals as goal

pub drop_node-requires : goal.drop_node-requires
drop_node-requires g c =
    let x : Ground = ground_in c.args.store.now c.args.nodes.now in
    first_can c.args.names.now.table x c.edges.ensures.joined c.requires.belong c.args.node c.requires.free

pub drop_node-requires-in-Some : goal.drop_node-requires-in-Some
drop_node-requires-in-Some g c =
    let t : RunTable = c.args.names.now.table in
    let x : Ground = ground_in c.args.store.now c.args.nodes.now in
    let can : CanLeave t x c.args.node = first_can t x c.edges.ensures.joined c.requires.belong c.args.node c.requires.free in
    subst (λ (n : Nodes). CanLeave t (ground_in c.drop_node.new.store n) c.in-Some.file)
    (sym c.drop_node.ensures.nodes)
    (subst (λ (s : StoreSeen). CanLeave t (record { store = s; nodes = (left t c.args.node x).nodes }) c.in-Some.file)
    (sym c.drop_node.ensures.store)
    (file_can t x c.edges.ensures.joined c.requires.belong c.args.node can c.drop_node.ensures.left c.in-Some.file
    (sym c.made_with.ensures ∙ c.in-Some.is)))
