use Rattle.std.proofs.Common.{◌≡◌, sym, subst, None}
use Rattle.qmp_codec.specs.declared.command.Command.TheVariants.{BlockdevAdd as AddCommand}
use Rattle.qmp_rules.specs.Answers.{refusal_to}
use Rattle.qmp_rules.specs.Table.{RunTable}
use Rattle.world_additions.specs.Additions.{CanAdd}
use Rattle.qmp_codec.specs.Nodes.{seen_blockdev_add}
use Rattle.world_parts.specs.Looking.{site}
use Rattle.world_additions.proofs.AddDone.{ready}
use Rattle.world_additions.proofs.AddLooked.{have-files, looked-alike, out-for}
use Rattle.world_additions.proofs.staging.add.Goals as goal

pub look-requires-clause-files : goal.look-requires-clause-files
look-requires-clause-files g c = have-files c.args.names.now.table c.args.nodes.now c.requires.can.alike c.requires.can.rests.stands.apart

pub end-requires-clause-out : goal.end-requires-clause-out
end-requires-clause-out g c =
    let x = c.in_ok-out.field-0 in
    out-for c.args.names.now.table (seen_blockdev_add c.args.c.now) x.seen.told (site c.args.store.now c.args.nodes.now)
    (site c.look.new.store c.look.new.nodes) x.out x.seen.image c.in_ok-out.ensures.looked

pub give_back_if-requires : goal.give_back_if-requires
give_back_if-requires g c =
    let x = c.in_ok-out.field-0 in
    out-for c.args.names.now.table (seen_blockdev_add c.args.c.now) x.seen.told (site c.args.store.now c.args.nodes.now)
    (site c.look.new.store c.look.new.nodes) x.out x.seen.image c.in_ok-out.ensures.looked

pub end-requires-clause-ready : goal.end-requires-clause-ready
end-requires-clause-ready g c =
    let x = c.in_ok-out.field-0 in
    let t = c.args.names.now.table in
    let old = site c.args.store.now c.args.nodes.now in
    let now = site c.look.new.store c.look.new.nodes in
    let alike = looked-alike t (seen_blockdev_add c.args.c.now) x.seen.told old now x.out x.seen.image c.in_ok-out.ensures.looked c.requires.can.alike in
    let said = seen_blockdev_add c.args.c.now in
    λ none.
    subst (λ (now_t : RunTable). CanAdd now_t said x.out x.seen.image c.look.new.nodes) (sym c.stage.ensures.table)
    (ready t x.seen.told said (subst (λ (now_t : RunTable). refusal_to now_t x.seen.told (AddCommand said) ≡ None) c.stage.ensures.table none) old now alike
    c.edges.ensures.joined c.requires.can.rests x.out x.seen.image c.in_ok-out.ensures.looked)
