use Rattle.std.proofs.Common.{sym, ◌∙◌, refl, arith}
use Rattle.qmp_codec.specs.Lines.{seen_stop}
use Rattle.world_parts.proofs.CarryGiven.{refused_line, accepted_line}
use Rattle.world_lines.proofs.line.stopped_text.Goals as goal

pub given_text-requires : goal.given_text-requires
given_text-requires c = rw c.in_ok-nothing-in-None.ensures (record { whole = refl; low = omega arith })

pub returns-in-Some : goal.returns-in-Some
returns-in-Some c =
    let some = sym c.in_ok-cause.ensures ∙ c.in-Some.is in
    rw (refused_line c.args.names.now.table c.args.given.now
    (seen_stop c.args.stop) c.requires c.in-Some.cause some) c.refused_text.ensures

pub returns-in_ok-nothing-in-None : goal.returns-in_ok-nothing-in-None
returns-in_ok-nothing-in-None c =
    let none = sym c.in_ok-cause.ensures ∙ c.in-None.is in
    let said = c.given_text.ensures in
    rw (
      accepted_line c.args.names.now.table c.args.given.now
          (seen_stop c.args.stop) c.requires none,
      ← c.in_ok-nothing-in-None.ensures,
    ) said
