use Rattle.std.proofs.Common.{refl}
use Rattle.world_additions.proofs.AddLooked.{on-err}
use Rattle.world_additions.proofs.looking.look.Goals as goal

pub returns-in-File-clause-back : goal.returns-in-File-clause-back
returns-in-File-clause-back g c =
    let err = rw c.as_str.ensures.value at c.look_out.ensures.err in
    rw c.in-File.is (on-err c.look_out.result _ _ (λ h. record { store = h; kept = refl }) err)

pub returns-in-Raw-clause-looked : goal.returns-in-Raw-clause-looked
returns-in-Raw-clause-looked g c = rw c.in-Raw.is (c.look_at_part.ensures.looked c.args.nodes.now)

pub returns-in-Raw-clause-back : goal.returns-in-Raw-clause-back
returns-in-Raw-clause-back g c =
    rw c.in-Raw.is (on-err c.look_at_part.result _ _ (λ h. record { store = h; kept = refl }) c.look_at_part.ensures.back)
