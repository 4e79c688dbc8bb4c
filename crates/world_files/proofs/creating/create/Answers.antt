use Rattle.std.proofs.Common.{◌∙◌, ap, refl, Result, Err}
use Rattle.blk_nodes.specs.declared.stop.FormatStop.{FormatStop}
use Rattle.qmp_codec.specs.Nodes.{seen_create_qcow2}
use Rattle.world_parts.specs.Deleting.{Ground, ground_in}
use Rattle.world_files.proofs.CreatedKept.{uncreated}
use Rattle.world_files.proofs.creating.create.Goals as goal

pub returns-in-Err-clause-stop : goal.returns-in-Err-clause-stop
returns-in-Err-clause-stop g c =
    let old : Ground = ground_in c.args.store.now c.args.nodes.now in
    let now : Ground = record old { nodes = c.format_named.new.nodes } in
    rw (c.unformatted.ensures, c.in-Qcow2.is)
    (uncreated c.args.names.now.table (seen_create_qcow2 c.in-Qcow2.c) old now c.in-Err.stop
    (record {
      store = refl;
      kept = c.format_named.ensures.kept;
      format = c.in-Err.ensures.format;
      others = c.format_named.ensures.others;
    })
    (λ same. c.format_named.ensures.back
    (c.in-Err.is ∙ ap (λ (s : FormatStop). let r : Result (Unit {0}) FormatStop = Err s in r) same)))
