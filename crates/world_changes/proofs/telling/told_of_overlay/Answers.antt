use Rattle.std.proofs.Common.{[], ◌∷◌, cond, sym, ◌∙◌, ap, subst, List, ℕ}
use Rattle.qmp_codec.specs.Nodes.{seen_snapshot}
use Rattle.qmp_codec.specs.declared.command.Command.TheVariants as command
use Rattle.qmp_rules.specs.Table.{id_named}
use Rattle.qmp_rules.specs.declared.told.Told.{Told}
use Rattle.world_changes.specs.Changing.{TellsMappedAlone}
use Rattle.world_changes.proofs.ChangesSaid.{overlay_told}
use Rattle.world_changes.proofs.telling.told_of_overlay.Goals as goal

pub returns : goal.returns
returns g c =
    subst (λ (n : Told). TellsMappedAlone c.args.names.now.table c.args.nodes.now (command.BlockdevSnapshot (seen_snapshot c.args.c.now)) (record {
      length = n.length;
      size = n.size;
      stopped = n.stopped;
      mapped = c.in_ok-mapped.mapped;
      dirty = n.dirty;
    })) (sym c.nothing-nothing.ensures)
    (overlay_told c.args.names.now.table c.args.nodes.now (seen_snapshot c.args.c.now) c.in_ok-mapped.mapped c.is_overlay_fresh-is_fresh.result
    (c.in_ok-mapped.ensures ∙ ap (λ (name : List ℕ). cond c.is_overlay_fresh-is_fresh.result [] (name ∷ [])) c.as_str-2.ensures.value)
    (λ node named. c.is_overlay_fresh-is_fresh.ensures node (ap (id_named c.args.names.now.table) c.as_str.ensures.value ∙ named)) c.requires)
