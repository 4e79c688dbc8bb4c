use Rattle.std.proofs.Common.{◌≡◌, List, ℕ, sym, subst}
use Rattle.world_parts.specs.Saying.{EndsRefusals}
use Rattle.world_parts.proofs.Beginning.{ok-map}
use Rattle.world_files.proofs.failed_text.failed_text.Goals as goal

pub returns : goal.returns
returns c =
    let ends = subst (EndsRefusals c.args.given.now) (sym c.from_string.ensures) c.in_ok-back.ensures in
    ok-map c.ended.result (λ (back : List ℕ). back ≡ c.from_string.result.bytes) (EndsRefusals c.args.given.now)
    (λ back same. subst (EndsRefusals c.args.given.now) (sym same) ends) c.ended.ensures
