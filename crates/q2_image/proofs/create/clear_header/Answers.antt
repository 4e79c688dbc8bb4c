use Rattle.std.proofs.Common.{ℕ, List, [], ◌∷◌, subst, ◌∙◌}
use Rattle.blk_base.specs.Device.{Writes}
use Rattle.blk_base.specs.Writes.{write_of}
use Rattle.q2_image.specs.Creating.{call_stop}
use Rattle.std.proofs.lemmas.Result.{on_ok_weaker}
use Rattle.q2_image.proofs.Stages.{zeros_are, sector_lacks}
use Rattle.q2_image.proofs.create.clear_header.Goals as goal

pub returns-clause-writes : goal.returns-clause-writes
returns-clause-writes g c =
    let W : List ℕ → Type 0 = λ bytes. Writes g.D.Device (write_of 0 bytes ∷ []) (call_stop c.write.result) c.args.dev.now c.write.new.dev in
    subst W (zeros_are 512 c.first_sector.result.now c.first_sector.ensures.whole (λ i below. c.first_sector.ensures.bytes i below ∙ c.clear.ensures i)) c.write.ensures.writes

pub returns-clause-cleared : goal.returns-clause-cleared
returns-clause-cleared g c = on_ok_weaker c.write.result (λ holds. λ file told.
    sector_lacks file c.first_sector.result.now c.first_sector.ensures.whole (λ i below. c.first_sector.ensures.bytes i below ∙ c.clear.ensures i) (holds file told)) c.write.ensures.holds
