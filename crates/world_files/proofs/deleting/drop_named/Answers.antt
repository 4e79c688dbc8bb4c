use Rattle.std.proofs.Common.{sym, ◌∙◌}
use Rattle.world_parts.specs.Deleting.{Ground, ground_in}
use Rattle.world_files.proofs.DeletedSteps.{free_by}
use Rattle.world_files.proofs.deleting.drop_named.Goals as goal

pub drop_nodes-requires-clause-free : goal.drop_nodes-requires-clause-free
drop_nodes-requires-clause-free g c =
    let x : Ground = ground_in c.args.store.now c.args.nodes.now in
    free_by c.args.names.now.table x c.requires.belong c.args.name.now c.requires.deletes c.in-Some.node
    (sym c.id_named.ensures ∙ c.in-Some.is)
