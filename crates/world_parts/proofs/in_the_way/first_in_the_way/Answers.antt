use Rattle.std.proofs.Common.{◌<◌, subst, arith}
use Rattle.std.specs.Prelude.{IsSome}
use Rattle.qmp_rules.specs.Table.{RunTable}
use Rattle.flat_machine.specs.State.{drive_of}
use Rattle.world_parts.proofs.InTheWayLemmas.{disk-has, none_calm}
use Rattle.world_parts.proofs.in_the_way.first_in_the_way.Goals as goal

pub returns : goal.returns
returns c = record {
  first = λ s table guests.
      none_calm s c.args.disks.now (λ g r way.
      let past = c.loop-guest-test.false in
      let few = c.requires.few g (subst (λ (t : RunTable). IsSome (drive_of t g)) table (disk-has s c.args.disks.now g r way)) in
      let below : g < c.loop-guest.guest = omega arith in
      c.loop-guest.invariant s table guests g below r way);
}
